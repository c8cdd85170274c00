-- Walks without a round.
use Rattle.std.specs.Prelude.{All, IfSome, IsSome, nat_eq, slice_get, length}
use Rattle.std.proofs.Common.{◌≡◌, ◌≢◌, ◌⊎◌, inl, inr, ℕ, zero, suc, ◌+◌, ◌-◌, ◌<◌, ◌≤◌, true, false, List, [], ◌∷◌, ◌++◌, refl, arith, ap, sym, ◌∙◌, subst, Some}
use Rattle.std.proofs.lemmas.Bool.{cases_lt, ne_eqb, eq-eqb}
use Rattle.std.proofs.lemmas.Bool.Decides.{eqb_tells}
use Rattle.std.proofs.lemmas.List.{length-append}
use Rattle.std.proofs.lemmas.List.Elements.{All-append, All-cons, All-head, All-tail}
use Rattle.net_core.specs.Network.{turn}
use Rattle.net_core.specs.declared.rows.NetRows.{NetRows}
use Rattle.dta_model.specs.LinkTimes.{TimeTable}
use Rattle.dta_model.specs.Walks.{IsWalk, begins_in, ends_in}
use Rattle.trip_costs.specs.Laws.{NoLinkTwice}
use Rattle.trip_costs.specs.OriginWaits.{WaitTable}
use Rattle.trip_costs.specs.TripCosts.{by_trips, time_by}
use Rattle.trip_costs.specs.TripWalks.{IsChosenTrip}
use Rattle.trip_costs.proofs.Later.{straight_is_earlier}
use Rattle.trip_costs.proofs.Rising.{exits_ordered}

-- what stands at a place parts a list
pub record Parted (xs : List ℕ) (i l : ℕ) : Type 0 where
  pub before : List ℕ
  pub behind : List ℕ
  pub whole : xs ≡ before ++ l ∷ behind
  pub long : length before ≡ i

some_is : (a b : ℕ) → Some a ≡ Some b → a ≡ b
some_is a b e = cc

pub parted : (xs : List ℕ) (i l : ℕ) → slice_get xs i ≡ Some l → Parted xs i l
parted [] i l e = cc
parted (x ∷ xs) zero l e = record { before = []; behind = xs; whole = ap (λ y. y ∷ xs) (some_is x l e); long = refl }
parted (x ∷ xs) (suc i) l e =
    let p = parted xs i l e in
    record { before = x ∷ p.before; behind = p.behind; whole = ap (λ ys. x ∷ ys) p.whole; long = ap suc p.long }

get_behind : (A X : List ℕ) (i : ℕ) → slice_get (A ++ X) (length A + i) ≡ slice_get X i
get_behind [] X i = ap (λ k. slice_get X k) (plain i)
  where
    plain : (i : ℕ) → 0 + i ≡ i
    plain i = omega arith
get_behind (a ∷ A) X i = ap (λ k. slice_get (a ∷ (A ++ X)) k) (shifted (length A) i) ∙ get_behind A X i
  where
    shifted : (n i : ℕ) → suc n + i ≡ suc (n + i)
    shifted n i = omega arith

get_before : (A X Y : List ℕ) (l i : ℕ) → i ≤ length A → slice_get (A ++ l ∷ X) i ≡ slice_get (A ++ l ∷ Y) i
get_before [] X Y l zero h = refl
get_before [] X Y l (suc i) h = absurd (omega (arith, h))
get_before (a ∷ A) X Y l zero h = refl
get_before (a ∷ A) X Y l (suc i) h = get_before A X Y l i (omega (arith, h))

-- tests of equal numbers
eq_shifted : (a b c d k : ℕ) → c ≡ a + k → d ≡ b + k → nat_eq c d ≡ nat_eq a b
eq_shifted a b c d k e f = by (eqb_tells a b)
  where
    by : ((nat_eq a b ≡ true) × (a ≡ b)) ⊎ ((nat_eq a b ≡ false) × (a ≢ b)) → nat_eq c d ≡ nat_eq a b
    by (inl (t, same)) = eq-eqb c d (omega (arith, e, f, same)) ∙ sym t
    by (inr (t, other)) = ne_eqb c d (λ z. other (omega (arith, e, f, z))) ∙ sym t

below_isnt : (a b : ℕ) → a < b → nat_eq a b ≡ false
below_isnt a b h = ne_eqb a b (λ e. absurd (omega (arith, h, e)))

module _ (net : NetRows) (o d l : ℕ) (A B C : List ℕ) where
  abbrev round : List ℕ
  round = A ++ l ∷ (B ++ l ∷ C)

  abbrev straight : List ℕ
  straight = A ++ l ∷ C

  straight_long : length straight ≡ length A + suc (length C)
  straight_long = length-append A (l ∷ C)

  round_long : length round ≡ length A + suc (length B + suc (length C))
  round_long = length-append A (l ∷ (B ++ l ∷ C)) ∙ ap (λ n. length A + suc n) (length-append B (l ∷ C))

  -- a place behind the link stands in both
  behind : (i k : ℕ) → k ≡ length A + suc (length B + i) → slice_get round k ≡ slice_get (l ∷ C) i
  behind i k e =
      ap (λ n. slice_get round n) e ∙ get_behind A (l ∷ (B ++ l ∷ C)) (suc (length B + i))
      ∙ get_behind B (l ∷ C) i

  behind_too : (i k m : ℕ) → length A ≤ i → k ≡ i + suc (length B) → slice_get round k ≡ slice_get straight i
  behind_too i k m h e =
      behind (i - length A) k (omega (arith, h, e))
      ∙ sym (get_behind A (l ∷ C) (i - length A))
      ∙ ap (λ n. slice_get straight n) (again (length A) i h)
    where
      again : (n i : ℕ) → n ≤ i → n + (i - n) ≡ i
      again n i h = omega (arith, h)

  fewer : length straight < length round
  fewer = let a = straight_long in let b = round_long in omega (arith, a, b)

  all_straight : (P : ℕ → Type 0) → All P round → All P straight
  all_straight P all = let parts = halves A (l ∷ (B ++ l ∷ C)) all in
      let tail = halves B (l ∷ C) (All-tail P l (B ++ l ∷ C) parts.1) in
      All-append P A (l ∷ C) parts.0 tail.1
    where
      halves : (X Y : List ℕ) → All P (X ++ Y) → All P X × All P Y
      halves [] Y all = (λ k z h. absurd (omega (arith, h)), all)
      halves (x ∷ X) Y all =
          let rest = halves X Y (All-tail P x (X ++ Y) all) in
          (All-cons P x X (All-head P x (X ++ Y) all) rest.0, rest.1)

  pub straight_walks : IsWalk net o d round → IsWalk net o d straight
  straight_walks w = record {
    some = let a = straight_long in omega (arith, a);
    links = all_straight (λ k. k < length net.links) w.links;
    begins = subst (λ first. IfSome first (λ k. begins_in net o k ≡ true)) (get_before A (B ++ l ∷ C) C l 0 (omega arith)) w.begins;
    turns = λ i a b ea eb. turns_by i a b ea eb (cases_lt i (length A));
    ends = λ i x e. ends_by i x e (cases_lt i (length A));
  }
    where
      turns_by : (i a b : ℕ) → slice_get straight i ≡ Some a → slice_get straight (suc i) ≡ Some b → (i < length A) ⊎ (length A ≤ i) → IsSome (turn net a b)
      turns_by i a b ea eb (inl h) = w.turns i a b (get_before A (B ++ l ∷ C) C l i (omega (arith, h)) ∙ ea) (get_before A (B ++ l ∷ C) C l (suc i) (omega (arith, h)) ∙ eb)
      turns_by i a b ea eb (inr h) =
          w.turns (i + suc (length B)) a b (behind_too i (i + suc (length B)) 0 h refl ∙ ea)
          (behind_too (suc i) (suc (i + suc (length B))) 0 (omega (arith, h)) (omega arith) ∙ eb)

      ends_by : (i x : ℕ) → slice_get straight i ≡ Some x → (i < length A) ⊎ (length A ≤ i) → ends_in net d x ≡ nat_eq (suc i) (length straight)
      ends_by i x e (inl h) =
          w.ends i x (get_before A (B ++ l ∷ C) C l i (omega (arith, h)) ∙ e)
          ∙ below_isnt (suc i) (length round) (let b = round_long in omega (arith, h, b))
          ∙ sym (below_isnt (suc i) (length straight) (let b = straight_long in omega (arith, h, b)))
      ends_by i x e (inr h) =
          w.ends (i + suc (length B)) x (behind_too i (i + suc (length B)) 0 h refl ∙ e)
          ∙ eq_shifted (suc i) (length straight) (suc (i + suc (length B))) (length round) (suc (length B)) (omega arith)
          (let a = straight_long in let b = round_long in omega (arith, a, b))

-- a walk that is chosen has no round
no_round : (t : TimeTable) (w : WaitTable) (net : NetRows) (o d start l : ℕ) (A B C : List ℕ) → IsChosenTrip (by_trips t w) net o d start (A ++ l ∷ (B ++ l ∷ C)) → ⊥
no_round t w net o d start l A B C chosen =
    let walks = straight_walks net o d l A B C chosen.walks in
    let early = straight_is_earlier (by_trips t w) net (exits_ordered t) A B C start l in
    let least = chosen.none_less (A ++ l ∷ C) walks in
    let same : time_by (by_trips t w) net start (A ++ l ∷ C) ≡ time_by (by_trips t w) net start (A ++ l ∷ (B ++ l ∷ C)) = omega (arith, early, least) in
    let most = chosen.fewest (A ++ l ∷ C) walks same in
    let less = fewer net o d l A B C in
    absurd (omega (arith, most, less))

at_place : (walk before behind : List ℕ) (l i j : ℕ) → walk ≡ before ++ l ∷ behind → j ≡ length before + suc i → slice_get walk j ≡ Some l → slice_get behind i ≡ Some l
at_place walk before behind l i j whole place e =
    sym (get_behind before (l ∷ behind) (suc i)) ∙ ap (λ n. slice_get (before ++ l ∷ behind) n) (sym place)
    ∙ ap (λ xs. slice_get xs j) (sym whole) ∙ e

-- two places of one link make a round
two_places : (t : TimeTable) (w : WaitTable) (net : NetRows) (o d start : ℕ) (walk : List ℕ) → IsChosenTrip (by_trips t w) net o d start walk → (i j l : ℕ) → slice_get walk i ≡ Some l → slice_get walk j ≡ Some l → i < j → ⊥
two_places t w net o d start walk chosen i j l ei ej h =
    let p = parted walk i l ei in
    let place : j ≡ length p.before + suc (j - suc i) = let q = p.long in omega (arith, q, h) in
    let there : slice_get p.behind (j - suc i) ≡ Some l =
    at_place walk p.before p.behind l (j - suc i) j p.whole place ej in
    let q = parted p.behind (j - suc i) l there in
    no_round t w net o d start l p.before q.before q.behind
    (subst (λ xs. IsChosenTrip (by_trips t w) net o d start xs) (p.whole ∙ ap (λ xs. p.before ++ l ∷ xs) q.whole) chosen)

pub no_link_twice : NoLinkTwice
no_link_twice t w net o d start walk chosen i j l ei ej = by (cases_lt i j) (cases_lt j i)
  where
    by : (i < j) ⊎ (j ≤ i) → (j < i) ⊎ (i ≤ j) → i ≡ j
    by (inl h) other = absurd (two_places t w net o d start walk chosen i j l ei ej h)
    by (inr h) (inl k) = absurd (two_places t w net o d start walk chosen j i l ej ei k)
    by (inr h) (inr k) = omega (arith, h, k)
