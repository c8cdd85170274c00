-- The mail of a node's links, put one link after another.
use Rattle.std.specs.Prelude.{nat_eq, slice_get, slice_set, ◌≢◌}
use Rattle.std.proofs.Common.{◌≡◌, ℕ, zero, suc, ◌+◌, ◌<◌, Bool, true, false, ◌||◌, List, [], ◌∷◌, length, refl, ap, sym, ◌∙◌, Some, take, add-one, ◌⊎◌, inl, inr}
use Rattle.std.proofs.lemmas.Bool.{eq-eqb, ne_eqb}
use Rattle.std.proofs.lemmas.Bool.Decides.{eqb_tells}
use Rattle.std.proofs.Math.Dec.{eqb}
use Rattle.node_transfer.specs.Exchange.{ArePut, ChangesOnly, is_among}
use Rattle.cell_stages.specs.declared.mail.Mail.{Mail}
use Rattle.node_transfer.proofs.OfMail.ListPlaces.{among-next}
use Rattle.node_transfer.proofs.OfMail.Sets.{count-set, set-here, set-other}

-- a link among those up to a place
pub among-here : (links : List ℕ) (j b : ℕ) → slice_get links j ≡ Some b → is_among (take (suc j) links) b ≡ true
among-here links j b e = among-next links j b b e ∙ ap (λ c. c || is_among (take j links) b) (eq-eqb b b refl)

pub among-other : (links : List ℕ) (j b l : ℕ) → slice_get links j ≡ Some b → l ≢ b → is_among (take (suc j) links) l ≡ is_among (take j links) l
among-other links j b l e ne = among-next links j b l e ∙ ap (λ c. c || is_among (take j links) l) (ne_eqb b l (λ q. ne (sym q)))

clash : (c : Bool) → c ≡ true → c ≡ false → ⊥
clash true y z = cc
clash false y z = cc

pub not-among : (links : List ℕ) (j b l : ℕ) → slice_get links j ≡ Some b → is_among (take (suc j) links) l ≡ false → l ≢ b
not-among links j b l e not_in same = clash (is_among (take (suc j) links) l) (ap (λ k. is_among (take (suc j) links) k) same ∙ among-here links j b e) not_in

pub among-links : (links : List ℕ) (j b : ℕ) → slice_get links j ≡ Some b → is_among links b ≡ true
among-links [] j b e = cc
among-links (x ∷ xs) zero b e = let same : x ≡ b = cc in ap (λ c. c || is_among xs b) (eq-eqb x b same)
among-links (x ∷ xs) (suc j) b e = or_true (nat_eq x b) (is_among xs b) (among-links xs j b e)
  where
    or_true : (c d : Bool) → d ≡ true → (c || d) ≡ true
    or_true true d h = refl
    or_true false d h = h

pub set-mail : (links : List ℕ) (j b : ℕ) (m : Mail) (old mid : List Mail) → slice_get links j ≡ Some b → ChangesOnly (take j links) old mid → ChangesOnly (take (suc j) links) old (slice_set mid b m)
set-mail links j b m old mid e f = record {
  count = count-set mid b m ∙ f.count;
  others = λ l not_in. set-other mid b l m (not-among links j b l e not_in) ∙ f.others l (sym (among-other links j b l e (not-among links j b l e not_in)) ∙ not_in);
}

pub unchanged : (links : List ℕ) (ms : List Mail) → ChangesOnly links ms ms
unchanged links ms = record { count = refl; others = λ l not_in. refl }

-- mail that is put by a rule
pub none-put : (rule : ℕ → Mail) (ms : List Mail) → ArePut rule [] ms ms
none-put rule ms = record { own = λ l is_in. cc; others = unchanged [] ms }

module _ (rule : ℕ → Mail) (links : List ℕ) where
  pub put-next : (j b : ℕ) (m : Mail) (old mid : List Mail) → slice_get links j ≡ Some b → b < length mid → m ≡ rule b
      → ArePut rule (take j links) old mid → ArePut rule (take (j + 1) links) old (slice_set mid b m)
  put-next j b m old mid e inside is f =
      rw add-one (record { own = λ l is_in. by_place l is_in (eqb_tells l b); others = set-mail links j b m old mid e f.others })
    where
      by_place : (l : ℕ) → is_among (take (suc j) links) l ≡ true → ((eqb l b ≡ true) × (l ≡ b)) ⊎ ((eqb l b ≡ false) × (l ≢ b)) → slice_get (slice_set mid b m) l ≡ Some (rule l)
      by_place l is_in (inl (s, same)) = ap (λ k. slice_get (slice_set mid b m) k) same ∙ set-here mid b m inside ∙ ap (λ x. Some x) (is ∙ ap rule (sym same))
      by_place l is_in (inr (s, other)) = set-other mid b l m other ∙ f.own l (sym (among-other links j b l e other) ∙ is_in)
