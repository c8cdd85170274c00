-- Labels side by side, each slot of them a list.
use Rattle.std.proofs.Common.{◌≡◌, ◌⊎◌, inl, inr, ℕ, zero, suc, ◌+◌, ◌*◌, ◌^◌, ◌<◌, ◌≤◌, Bool, true, false, cond, List, [], ◌∷◌, ◌++◌, length, arith, get_or, ap, sym, ◌∙◌, mul-le-mul_right}
use Rattle.std.specs.Prelude.{◌≢◌, nat_eq, slice_set, All}
use Rattle.std.proofs.Math.Dec.{eqb}
use Rattle.std.proofs.lemmas.Bool.{cases_lt}
use Rattle.std.proofs.lemmas.Bool.Decides.{eqb_tells}
use Rattle.std.proofs.lemmas.Grind.{get_or-set_at}
use Rattle.std.proofs.lemmas.List.{get_or-map, get_or-set_other, get_or_append_left, length-map, map-append, map-set}
use Rattle.net_core.specs.declared.rows.TheConstants.{MOST_LINKS}
use Rattle.labels.specs.Filling.Labels.{in_slot}
use Rattle.labels.proofs.Basics.{differs, same_true}

-- a label stands in each slot of its place
pub in_slot_at : {S : Type 0} (slot : S → ℕ → ℕ) (labels : List S) (j p : ℕ) (x : S) → p < length labels → x ≡ get_or labels p x → get_or (in_slot slot labels j) p 0 ≡ slot x j
in_slot_at slot labels j p x h is = get_or-map (λ y. slot y j) labels p x 0 h ∙ ap (λ y. slot y j) (sym is)

pub in_slot_many : {S : Type 0} (slot : S → ℕ → ℕ) (labels : List S) (j : ℕ) → length (in_slot slot labels j) ≡ length labels
in_slot_many slot labels j = length-map labels (λ y. slot y j)

pub in_slot_set : {S : Type 0} (slot : S → ℕ → ℕ) (labels : List S) (j p : ℕ) (x : S) → in_slot slot (slice_set labels p x) j ≡ slice_set (in_slot slot labels j) p (slot x j)
in_slot_set slot labels j p x = map-set (λ y. slot y j) labels p x

pub in_slot_low : {S : Type 0} (slot : S → ℕ → ℕ) (beyond : ℕ) → ((x : S) (j : ℕ) → slot x j ≤ beyond) → (labels : List S) (j : ℕ) → All (λ x. x ≤ beyond) (in_slot slot labels j)
in_slot_low slot beyond low [] j k d h = absurd (omega arith)
in_slot_low slot beyond low (x ∷ xs) j zero d h = low x j
in_slot_low slot beyond low (x ∷ xs) j (suc k) d h = in_slot_low slot beyond low xs j k d (omega arith)

-- labels stay where others come behind them
pub in_slot_grown : {S : Type 0} (slot : S → ℕ → ℕ) (labels more : List S) (j k : ℕ) → k < length labels → get_or (in_slot slot (labels ++ more) j) k 0 ≡ get_or (in_slot slot labels j) k 0
in_slot_grown slot labels more j k h =
    let n = in_slot_many slot labels j in
    ap (λ xs. get_or xs k 0) (map-append (λ y. slot y j) labels more) ∙ get_or_append_left (in_slot slot labels j) (in_slot slot more j) 0 k (omega (arith, h, n))

-- nothing in the slots of a zone, as far as they were looked at
pub record AreOwnTo (zone : ℕ) (zones : List ℕ) (slots : ℕ) (least own : ℕ → ℕ) (count : ℕ) : Type 0 where
  pub done : (j : ℕ) → j < count → own j ≡ cond (nat_eq zone (get_or zones j 0)) 0 (least j)
  pub left : (j : ℕ) → count ≤ j → j < slots → own j ≡ least j

either : (b : Bool) (x : ℕ) → cond b x x ≡ x
either true x = omega arith
either false x = omega arith

-- one more slot
pub AreOwnTo_more : (zone : ℕ) (zones : List ℕ) (slots : ℕ) (least old new : ℕ → ℕ) (count z : ℕ) → count < slots → z ≡ get_or zones count 0
    → ((j : ℕ) → j < slots → new j ≡ cond (nat_eq zone z) (cond (nat_eq j count) 0 (old j)) (old j))
    → AreOwnTo zone zones slots least old count → AreOwnTo zone zones slots least new (count + 1)
AreOwnTo_more zone zones slots least old new count z small numbered now was = record {
  done = λ j h. at_slot j h (cases_lt j count);
  left = λ j h k. other j k (λ e. absurd (omega (arith, e, h))) ∙ was.left j (omega (arith, h)) k;
}
  where
    other : (j : ℕ) → j < slots → j ≢ count → new j ≡ old j
    other j k apart = now j k ∙ ap (λ b. cond (nat_eq zone z) (cond b 0 (old j)) (old j)) (differs j count apart) ∙ either (nat_eq zone z) (old j)

    at_slot : (j : ℕ) → j < count + 1 → (j < count) ⊎ (count ≤ j) → new j ≡ cond (nat_eq zone (get_or zones j 0)) 0 (least j)
    at_slot j h (inl less) = other j (omega (arith, less, small)) (λ e. absurd (omega (arith, e, less))) ∙ was.done j less
    at_slot j h (inr more) =
        let here : j ≡ count = omega (arith, h, more) in
        let in_slots : j < slots = omega (arith, here, small) in
        let number : z ≡ get_or zones j 0 = numbered ∙ ap (λ k. get_or zones k 0) (sym here) in
        now j in_slots ∙ ap (λ b. cond (nat_eq zone z) (cond b 0 (old j)) (old j)) (same_true j count here)
        ∙ ap (λ n. cond (nat_eq zone n) 0 (old j)) number ∙ ap (λ x. cond (nat_eq zone (get_or zones j 0)) 0 x) (was.left j more in_slots)

-- as many rows as a table may have fit
pub rows_fit : (horizon states : ℕ) → horizon < 2 ^ 32 → states ≤ MOST_LINKS → (horizon + 1) * states < 2 ^ 63
rows_fit horizon states early few =
    let rows : (horizon + 1) * states ≤ 4294967296 * states = mul-le-mul_right states (omega arith) in
    omega (arith, rows, few)

pub row_fits : (horizon states back : ℕ) → horizon < 2 ^ 32 → states ≤ MOST_LINKS → back ≤ horizon → back * states + states < 2 ^ 63
row_fits horizon states back early few inside =
    let rows : (back + 1) * states ≤ (horizon + 1) * states = mul-le-mul_right states (omega arith) in
    omega (arith, rows, rows_fit horizon states early few)

-- one more label of a slot is written, and those of the other slots stay
module _ {S : Type 0} (slot : S → ℕ → ℕ) (slots : ℕ) (old : List S) (p place v : ℕ) (x y : S)
    (inside : p < length old) (was : x ≡ get_or old p x)
    (now : (j : ℕ) → j < slots → slot y j ≡ cond (nat_eq j place) v (slot x j)) where
  at_other : (j s : ℕ) → s ≢ p → get_or (in_slot slot (slice_set old p y) j) s 0 ≡ get_or (in_slot slot old j) s 0
  at_other j s apart = ap (λ xs. get_or xs s 0) (in_slot_set slot old j p y) ∙ get_or-set_other (in_slot slot old j) p s (slot y j) 0 apart

  at_place : (j s : ℕ) → s ≡ p → get_or (in_slot slot (slice_set old p y) j) s 0 ≡ slot y j
  at_place j s here = ap (λ xs. get_or xs s 0) (in_slot_set slot old j p y) ∙ get_or-set_at (in_slot slot old j) p s (slot y j) 0 here (let n = in_slot_many slot old j in omega (arith, inside, n))

  pub other_slot : (s j : ℕ) → j < slots → j ≢ place → get_or (in_slot slot (slice_set old p y) j) s 0 ≡ get_or (in_slot slot old j) s 0
  other_slot s j small apart = by (eqb_tells s p)
    where
      by : ((eqb s p ≡ true) × (s ≡ p)) ⊎ ((eqb s p ≡ false) × (s ≢ p)) → get_or (in_slot slot (slice_set old p y) j) s 0 ≡ get_or (in_slot slot old j) s 0
      by (inl (t, here)) =
          at_place j s here ∙ now j small ∙ ap (λ b. cond b v (slot x j)) (differs j place apart) ∙ sym (in_slot_at slot old j p x inside was) ∙ ap (λ k. get_or (in_slot slot old j) k 0) (sym here)
      by (inr (t, other)) = at_other j s other

  pub this_slot : (f : ℕ → ℕ) → place < slots → v ≡ f p → ((s : ℕ) → s < p → get_or (in_slot slot old place) s 0 ≡ f s) → (s : ℕ) → s < p + 1 → get_or (in_slot slot (slice_set old p y) place) s 0 ≡ f s
  this_slot f small is before s h = by (cases_lt s p)
    where
      by : (s < p) ⊎ (p ≤ s) → get_or (in_slot slot (slice_set old p y) place) s 0 ≡ f s
      by (inl less) = at_other place s (λ e. absurd (omega (arith, e, less))) ∙ before s less
      by (inr more) =
          let here : s ≡ p = omega (arith, h, more) in
          at_place place s here ∙ now place small ∙ ap (λ b. cond b v (slot x place)) (same_true place place (omega arith)) ∙ is ∙ ap f (sym here)
