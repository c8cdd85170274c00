-- The test of a walk tells whether links are a walk.
use Rattle.std.proofs.Common.{◌≡◌, ℕ, zero, suc, ◌<◌, ◌≤◌, true, false, not, List, [], ◌∷◌, length, refl, sym, ◌∙◌, subst, arith, Some, nat_eq}
use Rattle.std.specs.Prelude.{◌&&◌, All, IsSome, is_some, nat_lt, slice_get}
use Rattle.std.proofs.lemmas.Bool.{and_from, and_parts, not-true, not_from_false}
use Rattle.std.proofs.lemmas.Bool.Decides.{nat_tests}
use Rattle.std.proofs.lemmas.List.Elements.{All-cons, All-head, All-nil, All-tail}
use Rattle.net_core.proofs.Orders.{is_lt, lt_holds}
use Rattle.net_core.specs.Network.{turn}
use Rattle.net_core.specs.declared.rows.NetRows.{NetRows}
use Rattle.dta_model.specs.Walks.{IsWalk, begins_in, ends_in}
use Rattle.reference.specs.Routes.{is_walk, leads_into}

-- what leads into a destination, place by place
record LeadsInto (net : NetRows) (destination : ℕ) (walk : List ℕ) : Type 0 where
  some : 1 ≤ length walk
  links : All (λ l. l < length net.links) walk
  turns : (i a b : ℕ) → slice_get walk i ≡ Some a → slice_get walk (suc i) ≡ Some b → IsSome (turn net a b)
  ends : (i l : ℕ) → slice_get walk i ≡ Some l → ends_in net destination l ≡ nat_eq (suc i) (length walk)

last-here : (n : ℕ) → nat_eq (suc zero) (suc (suc n)) ≡ false
last-here n = grind (arith, nat_tests)

last-later : (i n : ℕ) → nat_eq (suc (suc i)) (suc n) ≡ nat_eq (suc i) n
last-later i n = grind (arith, nat_tests)

module _ (net : NetRows) (destination : ℕ) where
  leads-one : (l : ℕ) → l < length net.links → ends_in net destination l ≡ true → LeadsInto net destination (l ∷ [])
  leads-one l inside ends = record {
    some = omega arith;
    links = All-cons (λ k. k < length net.links) l [] inside (All-nil (λ k. k < length net.links));
    turns = λ i a b e f. absurd cc;
    ends = at;
  }
    where
      at : (i k : ℕ) → slice_get (l ∷ []) i ≡ Some k → ends_in net destination k ≡ nat_eq (suc i) 1
      at zero k e = let same : l ≡ k = cc in subst (λ x. ends_in net destination x ≡ true) same ends
      at (suc i) k e = cc

  leads-more : (l b : ℕ) (rest : List ℕ) → l < length net.links → ends_in net destination l ≡ false → IsSome (turn net l b)
      → LeadsInto net destination (b ∷ rest) → LeadsInto net destination (l ∷ b ∷ rest)
  leads-more l b rest inside goes turns more = record {
    some = omega arith;
    links = All-cons (λ k. k < length net.links) l (b ∷ rest) inside more.links;
    turns = turns-at;
    ends = ends-at;
  }
    where
      turns-at : (i x y : ℕ) → slice_get (l ∷ b ∷ rest) i ≡ Some x → slice_get (l ∷ b ∷ rest) (suc i) ≡ Some y → IsSome (turn net x y)
      turns-at zero x y e f =
          let first : l ≡ x = cc in
          let second : b ≡ y = cc in
          subst (λ k. IsSome (turn net k y)) first (subst (λ k. IsSome (turn net l k)) second turns)
      turns-at (suc i) x y e f = more.turns i x y e f

      ends-at : (i k : ℕ) → slice_get (l ∷ b ∷ rest) i ≡ Some k → ends_in net destination k ≡ nat_eq (suc i) (length (l ∷ b ∷ rest))
      ends-at zero k e =
          let same : l ≡ k = cc in
          subst (λ x. ends_in net destination x ≡ false) same goes ∙ sym (last-here (length rest))
      ends-at (suc i) k e = more.ends i k e ∙ sym (last-later i (length (b ∷ rest)))

  leads : (walk : List ℕ) → leads_into net destination walk ≡ true → LeadsInto net destination walk
  unfolding leads_into
  leads [] e = absurd cc
  leads (l ∷ []) e =
      let parts = and_parts (nat_lt l (length net.links)) (ends_in net destination l) e in
      leads-one l (lt_holds l (length net.links) parts.0) parts.1
  leads (l ∷ b ∷ rest) e =
      let later = is_some (turn net l b) && leads_into net destination (b ∷ rest) in
      let first = and_parts (nat_lt l (length net.links)) (not (ends_in net destination l) && later) e in
      let second = and_parts (not (ends_in net destination l)) later first.1 in
      let third = and_parts (is_some (turn net l b)) (leads_into net destination (b ∷ rest)) second.1 in
      leads-more l b rest (lt_holds l (length net.links) first.0) (not-true (ends_in net destination l) second.0) third.0
      (leads (b ∷ rest) third.1)

  leads-back : (walk : List ℕ) → LeadsInto net destination walk → leads_into net destination walk ≡ true
  unfolding leads_into
  leads-back [] h = let some = h.some in absurd (omega (arith, some))
  leads-back (l ∷ []) h =
      and_from (nat_lt l (length net.links)) (ends_in net destination l)
      (is_lt l (length net.links) (All-head (λ k. k < length net.links) l [] h.links)) (h.ends 0 l refl)
  leads-back (l ∷ b ∷ rest) h =
      let later = is_some (turn net l b) && leads_into net destination (b ∷ rest) in
      let goes : ends_in net destination l ≡ false = h.ends 0 l refl ∙ last-here (length rest) in
      let more = leads-back (b ∷ rest) (record {
        some = omega arith;
        links = All-tail (λ k. k < length net.links) l (b ∷ rest) h.links;
        turns = λ i x y e f. h.turns (suc i) x y e f;
        ends = λ i k e. h.ends (suc i) k e ∙ last-later i (length (b ∷ rest));
      }) in
      and_from (nat_lt l (length net.links)) (not (ends_in net destination l) && later)
      (is_lt l (length net.links) (All-head (λ k. k < length net.links) l (b ∷ rest) h.links))
      (and_from (not (ends_in net destination l)) later (not_from_false (ends_in net destination l) goes)
      (and_from (is_some (turn net l b)) (leads_into net destination (b ∷ rest)) (h.turns 0 l b refl refl) more))

  pub walks-tested : (origin : ℕ) (walk : List ℕ) → is_walk net origin destination walk ≡ true → IsWalk net origin destination walk
  walks-tested origin [] e = absurd cc
  walks-tested origin (l ∷ rest) e =
      let parts = and_parts (begins_in net origin l) (leads_into net destination (l ∷ rest)) e in
      let into = leads (l ∷ rest) parts.1 in record {
        some = into.some;
        links = into.links;
        begins = parts.0;
        turns = into.turns;
        ends = into.ends;
      }

  pub tests-walks : (origin : ℕ) (walk : List ℕ) → IsWalk net origin destination walk → is_walk net origin destination walk ≡ true
  tests-walks origin [] h = let some = h.some in absurd (omega (arith, some))
  tests-walks origin (l ∷ rest) h =
      and_from (begins_in net origin l) (leads_into net destination (l ∷ rest)) h.begins
      (leads-back (l ∷ rest) (record { some = h.some; links = h.links; turns = h.turns; ends = h.ends }))
