-- What a pass has with it for a posting, and what it brings home.
use Rattle.std.specs.List.{range_with_len}
use Rattle.std.proofs.Common.{◌≡◌, ℕ, zero, suc, ◌+◌, ◌*◌, ◌/◌, ◌<◌, ◌≤◌, List, [], ◌∷◌, ◌++◌, map, refl, sym, ap, ◌∙◌, subst, arith}
use Rattle.std.proofs.lemmas.Bool.Decides.{nat_tests}
use Rattle.dta_model.specs.Plans.{all_nodes}
use Rattle.dta_model.specs.Sound.{IsSound}
use Rattle.dta_model.specs.Units.{Posting, node_count, phase_begins, places, places_in, posting_part, step_of, step_units, task_of, unit_count}
use Rattle.dta_model.specs.declared.plan.Plan.{Plan}
use Rattle.atomic_table.specs.Seated.{TableId}
use Rattle.cell_stages.specs.Contents.{cell_at}
use Rattle.cell_stages.proofs.TwoStages.{steps_have_two_stages}
use Rattle.claim_core.specs.Kinds.{kind_by}
use Rattle.claim_core.specs.Parts.{moves, stage_before}
use Rattle.claim_core.specs.Sums.{below, is_at}
use Rattle.claim_core.specs.declared.units.UnitKind.TheVariants as kind
use Rattle.claim_core.proofs.Apart.{before_is}
use Rattle.claim_core.proofs.Parts.{at_place, in_task, posts, step_cell, step_posting}
use Rattle.claim_core.proofs.Sums.{at_self}
use Rattle.claim_core.proofs.Working.{in_time, moves_by, posting_kind}
use Rattle.phase_claims.specs.declared.part.Part.{Part}
use Rattle.phase_claims.specs.declared.part.Part.TheVariants.{Cell, Writer}
use Rattle.phase_claims.specs.declared.view.Scope.{Scope}
use Rattle.phase_claims.specs.PlacesCounted.{cell_place, posting_places}
use Rattle.phase_claims.specs.PlacesHome.{brought, part_at, parts_of, posted_in, taken}
use Rattle.phase_claims.proofs.PlacesUnit.{part_cell, part_writer}

no_part : (x y : ℕ) → x < y → is_at x y ≡ 0
no_part x y h = grind (arith, nat_tests)

parts_append : {S : Type 0} (part : ℕ → ℕ → S) (xs ys : List ℕ) (at : ℕ → ℕ) → parts_of part (xs ++ ys) at ≡ parts_of part xs at ++ parts_of part ys at
parts_append part [] ys at = refl
parts_append part (x ∷ xs) ys at = ap (λ zs. (x, part x (at x)) ∷ zs) (parts_append part xs ys at)

module _ (k : Scope) (sound : IsSound k.plan) (c t : ℕ) (now : step_of (node_count k.plan) c ≡ t) (e : task_of (node_count k.plan) c ≡ Posting) where
  abbrev p : Plan
  p = k.plan

  abbrev N : ℕ
  N = node_count p

  places_are : places p c ≡ all_nodes p ++ posting_part p ∷ []
  unfolding places
  places_are = ap (λ x. places_in p x) e

  begins_at : phase_begins N (task_of N c) ≡ N + N
  begins_at = ap (λ x. phase_begins N x) e

  before : (slot : ℕ) → stage_before p c slot ≡ step_of N c * below (step_units N) (at_place p slot) + below (N + N) (at_place p slot)
  before slot = before_is p slot c (N + N) (omega arith) begins_at

  last_of_step : (slot : ℕ) → below (step_units N) (at_place p slot) ≡ in_task p slot Posting + below (N + N) (at_place p slot)
  last_of_step slot =
      let whole : step_units N ≡ suc (N + N) = omega arith in
      let third : at_place p slot (N + N) ≡ in_task p slot Posting = ap (λ task. in_task p slot task) (posts N) in
      ap (λ b. below b (at_place p slot)) whole ∙ ap (λ x. x + below (N + N) (at_place p slot)) third

  cell_before_it : (n : ℕ) → n < N → stage_before p c n ≡ 2 * suc t
  cell_before_it n h =
      let two : below (step_units N) (at_place p n) ≡ 2 = step_cell p n h in
      let rest : below (N + N) (at_place p n) ≡ 2 = omega (arith, two, last_of_step n, no_part n (posting_part p) (omega (arith, h))) in
      let steps : step_of N c * below (step_units N) (at_place p n) ≡ t * 2 = ap (λ x. step_of N c * x) two ∙ ap (λ x. x * 2) now in
      omega (arith, before n, rest, steps)

  writer_before_it : stage_before p c (posting_part p) ≡ t
  writer_before_it =
      let one : below (step_units N) (at_place p (posting_part p)) ≡ 1 = step_posting p in
      let rest : below (N + N) (at_place p (posting_part p)) ≡ 0 = omega (arith, one, last_of_step (posting_part p), at_self (posting_part p)) in
      let steps : step_of N c * below (step_units N) (at_place p (posting_part p)) ≡ t * 1 = ap (λ x. step_of N c * x) one ∙ ap (λ x. x * 1) now in
      omega (arith, before (posting_part p), rest, steps)

  moved : (slot : ℕ) → moves p slot c ≡ is_at slot (posting_part p) + 0
  moved slot = moves_by p sound c 0 Posting e slot

  cells_are : (at : ℕ → ℕ) → ((n : ℕ) → n < N → at n ≡ 2 * suc t) → (n a : ℕ) → a + n ≤ N → parts_of (part_at k) (range_with_len a n) at ≡ map (cell_place p (suc t)) (range_with_len a n)
  cells_are at is zero a h = refl
  cells_are at is (suc n) a h =
      let l : a < N = omega (arith, h) in
      ap (λ x. (a, x) ∷ parts_of (part_at k) (range_with_len (a + 1) n) at) (part_cell k a (at a) l ∙ ap (λ x. Cell (cell_at p a x)) (is a l) ∙ ap (λ x. Cell x) ((steps_have_two_stages p (suc t)).0.cell a))
      ∙ ap (λ xs. cell_place p (suc t) a ∷ xs) (cells_are at is n (a + 1) (omega (arith, h)))

  all_are : (at : ℕ → ℕ) (postings : ℕ) → ((n : ℕ) → n < N → at n ≡ 2 * suc t) → at (posting_part p) ≡ postings → parts_of (part_at k) (places p c) at ≡ posting_places p k.board (suc t) postings
  all_are at postings cells writer =
      ap (λ xs. parts_of (part_at k) xs at) places_are
      ∙ parts_append (part_at k) (all_nodes p) (posting_part p ∷ []) at
      ∙ ap (λ xs. xs ++ (posting_part p, part_at k (posting_part p) (at (posting_part p))) ∷ []) (cells_are at cells N 0 (omega arith))
      ∙ ap (λ x. map (cell_place p (suc t)) (all_nodes p) ++ (posting_part p, x) ∷ []) (part_writer k (at (posting_part p)) ∙ ap (λ x. Writer (record { board = k.board; list = posted_in p x })) writer)

  pub posting_carried : taken k c ≡ posting_places p k.board (suc t) t
  posting_carried = all_are (stage_before p c) t cell_before_it writer_before_it

  pub posting_brought : brought k c ≡ posting_places p k.board (suc t) (suc t)
  posting_brought =
      all_are (λ slot. stage_before p c slot + moves p slot c) (suc t)
      (λ n h. omega (arith, cell_before_it n h, moved n, no_part n (posting_part p) (omega (arith, h))))
      (omega (arith, writer_before_it, moved (posting_part p), at_self (posting_part p)))

-- where the work is done, as for a transfer
module _ (k k' : Scope) (q : Plan) (shown : TableId) (same : k ≡ k') (plan : q ≡ k.plan) (board : shown ≡ k.board) (sound : IsSound k.plan) (u N t : ℕ) (few : u < unit_count k'.plan) (nodes : N ≡ node_count k.plan) (step : t ≡ step_of N u)
    (is_posting : kind_by (task_of (node_count k'.plan) u) ≡ kind.Posting) where
  now_here : step_of (node_count k.plan) u ≡ t
  now_here = ap (λ n. step_of n u) (sym nodes) ∙ sym step

  task_here : task_of (node_count k.plan) u ≡ Posting
  task_here = posting_kind (task_of (node_count k.plan) u) (ap (λ (j : Scope). kind_by (task_of (node_count j.plan) u)) same ∙ is_posting)

  pub sound_here : IsSound q
  sound_here = subst IsSound (sym plan) sound

  pub in_horizon : t < q.horizon
  unfolding unit_count
  in_horizon =
      let l : u < k.plan.horizon * step_units (node_count k.plan) = subst (λ (j : Scope). u < j.plan.horizon * step_units (node_count j.plan)) (sym same) few in
      let below_it : u / step_units (node_count k.plan) < k.plan.horizon = in_time (step_units (node_count k.plan)) k.plan.horizon u (omega arith) l in
      omega (arith, below_it, now_here, ap (λ (x : Plan). x.horizon) plan)

  pub posting_has : (xs : List (ℕ × Part)) → xs ≡ taken k' u → xs ≡ posting_places q shown (suc t) t
  posting_has xs e =
      e ∙ ap (λ (j : Scope). taken j u) (sym same) ∙ posting_carried k sound u t now_here task_here
      ∙ (λ i. posting_places (sym plan i) (sym board i) (suc t) t)

  pub posting_brings : (xs : List (ℕ × Part)) → xs ≡ posting_places q shown (suc t) (suc t) → xs ≡ brought k' u
  posting_brings xs e =
      e ∙ (λ i. posting_places (plan i) (board i) (suc t) (suc t))
      ∙ sym (posting_brought k sound u t now_here task_here) ∙ ap (λ (j : Scope). brought j u) same
