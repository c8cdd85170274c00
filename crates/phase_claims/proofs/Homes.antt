-- Which slots are at home, and with what, told by the views alone. A unit holds its places while it is open; when it is done, those that it moves are at their next stage.
use Rattle.std.proofs.Common.{◌≡◌, ℕ, zero, suc, ◌+◌, ◌*◌, ◌<◌, ◌≤◌, List, [], ◌∷◌, length, set, refl, sym, ap, ◌∙◌, subst, lt_of_not-le, arith}
use Rattle.std.proofs.lemmas.Bool.Decides.{nat_tests}
use mathlib.Core.Option.{Option, some, none}
use mathlib.Core.Logic.{dite}
use native.Mathlib.Decide.{dec_le}
use lib.ListN.{get_elem?}
use Rattle.atomic_table.specs.Table.{homes_after}
use Rattle.claim_core.specs.Sums.{is_at, times, total}
use Rattle.claim_core.proofs.Sums.{total_set}
use Rattle.claim_core.proofs.Cuts.{below_same}
use Rattle.claim_core.proofs.Stages.{stage_by, stage_more}
use Rattle.phase_claims.specs.PlacesHome.{home_of, parts_of}
use Rattle.phase_claims.proofs.Turning.{takes_all, gives_all, Free, Apart, AllHome, AllOut, home_else, all_out, given_else, all_given}

-- the slots are there, and each stands once
abbrev pub Once : ℕ → List ℕ → Type 0
Once slots [] = Unit {0}
Once slots (k ∷ ks) = (k < slots) × (times k ks ≡ 0) × Once slots ks

module _ {S : Type 0} where
  is_in : (m : ℕ) (y : S) → m ≡ 0 → home_of m y ≡ some y
  is_in m y e = ap (λ n. home_of n y) e

  is_out : (m : ℕ) (y : S) → 1 ≤ m → home_of m y ≡ none
  is_out zero y h = absurd (omega arith)
  is_out (suc m) y h = refl

  module _ (part_at : ℕ → ℕ → S) where
    free_of : (ks : List ℕ) (m : ℕ → ℕ) (k : ℕ) → times k ks ≡ 0 → Free k (parts_of part_at ks m)
    free_of [] m k h = tt
    free_of (x ∷ ks) m k h = ((λ e. (let s : is_at k x ≡ 1 = subst (λ (y : ℕ). is_at k y ≡ 1) e (grind (arith, nat_tests)) in absurd (omega arith))), free_of ks m k (omega arith))

    pub apart_of : (slots : ℕ) (ks : List ℕ) (m : ℕ → ℕ) → Once slots ks → Apart (parts_of part_at ks m)
    apart_of slots [] m o = tt
    apart_of slots (k ∷ ks) m o = (free_of ks m k o.1, apart_of slots ks m o.2)

    out_at : (homes : List (Option S)) (ks : List ℕ) (m : ℕ → ℕ) (k : ℕ) → 1 ≤ times k ks → AllOut homes (parts_of part_at ks m) → get_elem? homes k ≡ some none
    out_at homes [] m k h a = absurd (omega arith)
    out_at homes (x ∷ ks) m k h a = dite (dec_le 1 (times k ks)) (λ in_rest. out_at homes ks m k in_rest a.1)
        (λ not_rest. let same : x ≡ k = (let z : times k ks ≡ 0 = (let t : times k ks < 1 = lt_of_not-le not_rest in omega arith) in let i : 1 ≤ is_at k x = omega arith in grind (arith, nat_tests)) in subst (λ (y : ℕ). get_elem? homes y ≡ some none) same a.0)

    home_at : (homes : List (Option S)) (ks : List ℕ) (m : ℕ → ℕ) (k : ℕ) → 1 ≤ times k ks → AllHome homes (parts_of part_at ks m) → get_elem? homes k ≡ some (some (part_at k (m k)))
    home_at homes [] m k h a = absurd (omega arith)
    home_at homes (x ∷ ks) m k h a = dite (dec_le 1 (times k ks)) (λ in_rest. home_at homes ks m k in_rest a.1)
        (λ not_rest. let same : x ≡ k = (let z : times k ks ≡ 0 = (let t : times k ks < 1 = lt_of_not-le not_rest in omega arith) in let i : 1 ≤ is_at k x = omega arith in grind (arith, nat_tests)) in subst (λ (y : ℕ). get_elem? homes y ≡ some (some (part_at y (m y)))) same a.0)

-- V is what a pass knows: opens k v says how often slot k is with it, done x v how often number x is among those that it performed
module _ {S V : Type 0} (Q : ℕ) (moves : ℕ → ℕ → ℕ) (part_at : ℕ → ℕ → S) (opens done : ℕ → V → ℕ) where
  abbrev pub stage_now : ℕ → List V → ℕ
  stage_now k views = stage_by Q (moves k) (λ x. total (done x) views)

  abbrev pub Homes : ℕ → List (Option S) → List V → Type 0
  Homes slots homes views = (k : ℕ) → k < slots → get_elem? homes k ≡ some (home_of (total (opens k) views) (part_at k (stage_now k views)))

  pub all_home : (slots : ℕ) (homes : List (Option S)) (views : List V) → Homes slots homes views → (ks : List ℕ) → Once slots ks → ((k : ℕ) → 1 ≤ times k ks → total (opens k) views ≡ 0) → AllHome homes (parts_of part_at ks (λ k. stage_now k views))
  all_home slots homes views h [] o closed = tt
  all_home slots homes views h (k ∷ ks) o closed = (
    h k o.0 ∙ ap some (is_in (total (opens k) views) (part_at k (stage_now k views)) (closed k (let s : is_at k k ≡ 1 = grind (arith, nat_tests) in omega arith))),
    all_home slots homes views h ks o.2 (λ j l. closed j (omega arith)),
  )

  same_stage : (k by : ℕ) (views : List V) (v v' : V) → get_elem? views by ≡ some v → ((x : ℕ) → done x v' ≡ done x v) → stage_now k (set views by v') ≡ stage_now k views
  same_stage k by views v v' at same = below_same (λ x. moves k x * total (done x) (set views by v')) (λ x. moves k x * total (done x) views) Q
      (λ x l. ap (λ d. moves k x * d) (let e : total (done x) (set views by v') ≡ total (done x) views = omega (arith, total_set (done x) views by v v' at, same x) in e))

  -- an open that says Yes
  pub opens_homes : (slots by : ℕ) (ps : List ℕ) (homes : List (Option S)) (views : List V) (v v' : V) → Homes slots homes views → get_elem? views by ≡ some v → Once slots ps
      → ((k : ℕ) → opens k v' ≡ opens k v + times k ps) → ((x : ℕ) → done x v' ≡ done x v) → ((k : ℕ) → 1 ≤ times k ps → total (opens k) views ≡ 0)
      → Homes slots (homes_after homes [] (takes_all (parts_of part_at ps (λ k. stage_now k views)))) (set views by v')
  opens_homes slots by ps homes views v v' h at o takes same_done closed k l =
      let xs : List (ℕ × S) = parts_of part_at ps (λ k. stage_now k views) in
      let same = same_stage k by views v v' at same_done in
      let more : total (opens k) (set views by v') ≡ total (opens k) views + times k ps = omega (arith, total_set (opens k) views by v v' at, takes k) in
      dite (dec_le 1 (times k ps))
      (λ here. out_at part_at (homes_after homes [] (takes_all xs)) ps (λ k. stage_now k views) k here (all_out homes [] xs (apart_of part_at slots ps (λ k. stage_now k views) o) (all_home slots homes views h ps o closed))
      ∙ ap some (sym (is_out (total (opens k) (set views by v')) (part_at k (stage_now k (set views by v'))) (omega (arith, more)))))
      (λ away. let z : times k ps ≡ 0 = (let t : times k ps < 1 = lt_of_not-le away in omega arith) in
      home_else homes [] xs k (free_of part_at ps (λ k. stage_now k views) k z) ∙ h k l
      ∙ (λ i. some (home_of (sym (let e : total (opens k) (set views by v') ≡ total (opens k) views = omega (arith, more, z) in e) i) (part_at k (sym same i)))))

  -- how often some units move a slot: R x says whether number x is among them
  abbrev pub risen : (ℕ → ℕ) → ℕ → ℕ
  risen R k = stage_by Q (moves k) R

  -- a finish of some units that brings home each part at its next stage; those that they don't move come home as they went
  pub finishes_homes : (slots by : ℕ) (R : ℕ → ℕ) (ps : List ℕ) (homes : List (Option S)) (views : List V) (v v' : V) → Homes slots homes views → get_elem? views by ≡ some v → Once slots ps
      → ((k : ℕ) → opens k v' + times k ps ≡ opens k v) → ((x : ℕ) → done x v' ≡ done x v + R x)
      → ((k : ℕ) → 1 ≤ times k ps → (times k ps ≡ 1) × (total (opens k) views ≡ 1)) → ((k : ℕ) → times k ps ≡ 0 → risen R k ≡ 0)
      → (xs : List (ℕ × S)) → xs ≡ parts_of part_at ps (λ k. stage_now k views + risen R k)
      → Homes slots (homes_after homes xs (gives_all (length xs))) (set views by v')
  finishes_homes slots by R ps homes views v v' h at o gives_back one_more mine others xs e k l =
      let m : ℕ → ℕ = λ k. stage_now k views + risen R k in
      let ys : List (ℕ × S) = parts_of part_at ps m in
      let later : stage_now k (set views by v') ≡ m k = stage_more Q (moves k) (λ x. total (done x) views) (λ x. total (done x) (set views by v')) R (λ x. omega (arith, total_set (done x) views by v v' at, one_more x)) in
      let fewer : total (opens k) (set views by v') + times k ps ≡ total (opens k) views = omega (arith, total_set (opens k) views by v v' at, gives_back k) in
      let gone : AllOut homes ys = every_out ps o (λ j t. t) in
      subst (λ (zs : List (ℕ × S)). get_elem? (homes_after homes zs (gives_all (length zs))) k ≡ some (home_of (total (opens k) (set views by v')) (part_at k (stage_now k (set views by v'))))) (sym e)
      (dite (dec_le 1 (times k ps))
      (λ here. let q = mine k here in
      home_at part_at (homes_after homes ys (gives_all (length ys))) ps m k here (all_given homes ys (apart_of part_at slots ps m o) gone)
      ∙ ap some (sym (is_in (total (opens k) (set views by v')) (part_at k (stage_now k (set views by v'))) (omega (arith, fewer, q.0, q.1)) ∙ (λ i. some (part_at k (later i))))))
      (λ away. let z : times k ps ≡ 0 = (let t : times k ps < 1 = lt_of_not-le away in omega arith) in
      let as_was : stage_now k (set views by v') ≡ stage_now k views = omega (arith, later, others k z) in
      given_else homes ys k (free_of part_at ps m k z) ∙ h k l
      ∙ (λ i. some (home_of (sym (let s : total (opens k) (set views by v') ≡ total (opens k) views = omega (arith, fewer, z) in s) i) (part_at k (sym as_was i))))))
    where
      every_out : (ks : List ℕ) → Once slots ks → ((j : ℕ) → 1 ≤ times j ks → 1 ≤ times j ps) → AllOut homes (parts_of part_at ks (λ k. stage_now k views + risen R k))
      every_out [] o t = tt
      every_out (j ∷ ks) o t =
          let here : 1 ≤ times j ps = t j (let s : is_at j j ≡ 1 = grind (arith, nat_tests) in omega arith) in
          let q = mine j here in
          (h j o.0 ∙ ap some (is_out (total (opens j) views) (part_at j (stage_now j views)) (omega (arith, q.1))), every_out ks o.2 (λ i l. t i (omega arith)))
