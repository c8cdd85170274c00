-- Which slots are free for a unit: no other pass has a place of a held unit of the phase, and their stage is known
-- from the unit alone.
use Rattle.std.proofs.Common.{◌≡◌, ◌≢◌, ℕ, suc, ◌<◌, ◌≤◌, min, List, [], ◌∷◌, set, refl, sym, ap, ◌∙◌, lt_of_not-le, arith}
use Rattle.std.proofs.lemmas.Bool.Decides.{nat_tests}
use mathlib.Core.Option.{some}
use mathlib.Core.Logic.{dite}
use native.Mathlib.Decide.{dec_le}
use lib.ListN.{get_elem?}
use Rattle.atomic_table.proofs.Lists.{set_else}
use Rattle.dta_model.specs.Units.{node_count, phase_end, phase_start, places, posting_part, unit_count}
use Rattle.dta_model.specs.declared.machine.Stage.{Stage}
use Rattle.dta_model.specs.declared.machine.Stage.TheVariants as stage
use Rattle.claim_core.specs.Parts.{moves, stage_before, stage_of}
use Rattle.claim_core.specs.Sums.{is_at, times, total}
use Rattle.claim_core.proofs.Phases.{same_start, same_stop}
use Rattle.claim_core.proofs.Places.{Rises, moved_is_placed, none_lower, one_has_it, places_in_order}
use Rattle.claim_core.proofs.Runs.{among_in}
use Rattle.claim_core.proofs.Stages.{stage_held}
use Rattle.claim_core.proofs.Parts.{at_is}
use Rattle.claim_core.proofs.Sums.{once_le, total_at, total_only, total_set}
use Rattle.phase_claims.specs.declared.view.Scope.{Scope}
use Rattle.phase_claims.specs.declared.view.View.{View}
use Rattle.phase_claims.specs.PlacesHome.{has_slot}
use Rattle.phase_claims.specs.Running.{FitsStage, Running}
use Rattle.phase_claims.specs.Views.{holds, nobody, worked_by}
use Rattle.phase_claims.proofs.Counts.{holds_idle, holds_open}
use Rattle.phase_claims.proofs.Homes.{Once}
use Rattle.phase_claims.proofs.Works.{after, at_most_once, before, within}

-- the places of a unit are there, each once
once_of : (low slots : ℕ) (ks : List ℕ) → Rises low slots ks → Once slots ks
once_of low slots [] r = tt
once_of low slots (k ∷ ks) r = (r.1, none_lower (suc k) slots ks r.2 k (omega arith), once_of (suc k) slots ks r.2)

pub places_once : (k : Scope) (c : ℕ) → Once (suc (posting_part k.plan)) (places k.plan c)
places_once k c = once_of 0 (suc (posting_part k.plan)) (places k.plan c) (places_in_order k.plan c)

pub one_place : (slots : ℕ) (ks : List ℕ) → Once slots ks → (slot : ℕ) → times slot ks ≤ 1
one_place slots [] o slot = omega arith
one_place slots (k ∷ ks) o slot = dite (dec_le 1 (is_at slot k))
    (λ here. let same : slot ≡ k = at_is slot k here in omega (arith, one slot k, ap (λ x. times x ks) same, o.1))
    (λ away. let z : is_at slot k < 1 = lt_of_not-le away in omega (arith, z, one_place slots ks o.2 slot))
  where
    one : (x y : ℕ) → is_at x y ≤ 1
    one x y = grind (arith, nat_tests)

module _ (k : Scope) (w n : ℕ) (views : List View) (r : Running k w n views) where
  abbrev N : ℕ
  N = node_count k.plan

  abbrev InPhase : ℕ → Type 0
  InPhase c = (phase_start N n ≤ c) × (c < phase_end N n)

  -- of the units of the phase only one has a place
  same_unit : (c d slot : ℕ) → InPhase c → InPhase d → 1 ≤ times slot (places k.plan c) → 1 ≤ times slot (places k.plan d) → c ≡ d
  same_unit c d slot ic id in_c in_d = one_has_it k.plan c d slot (omega (arith, same_start N n c ic.0 ic.1, id.0)) (omega (arith, same_stop N n c ic.0 ic.1, id.1)) in_c in_d

  pub none_other : (c d slot : ℕ) → InPhase c → InPhase d → c ≢ d → 1 ≤ times slot (places k.plan c) → times slot (places k.plan d) ≡ 0
  none_other c d slot ic id ne in_c = dite (dec_le 1 (times slot (places k.plan d)))
      (λ one. absurd (ne (same_unit c d slot ic id in_c one)))
      (λ away. let z : times slot (places k.plan d) < 1 = lt_of_not-le away in omega (arith, z))

  -- the stage of a place of a unit of the phase that is not worked
  pub stage_is : (c slot : ℕ) → worked_by views c ≡ 0 → InPhase c → 1 ≤ times slot (places k.plan c) → stage_of k.plan (worked_by views) slot ≡ stage_before k.plan c slot
  unfolding stage_of stage_before
  stage_is c slot not_yet ic in_c =
      stage_held (unit_count k.plan) N n (worked_by views) (within k w n views r) (at_most_once k w n views r) (before k w n views r) (after k w n views r) (moves k.plan slot) c not_yet ic.0 ic.1
      (λ x lo hi ne. omega (arith, none_other c x slot ic (lo, hi) (λ q. ne (sym q)) in_c, moved_is_placed k.plan slot x))

  -- no other pass has a place of it
  module _ (by c slot : ℕ) (v : View) (e : get_elem? views by ≡ some v) (is : 1 ≤ holds c v) (ic : InPhase c) (in_c : 1 ≤ times slot (places k.plan c)) where
    two : (j : ℕ) (u : View) → j ≢ by → get_elem? views j ≡ some u → holds c u ≡ 0
    two j u ne a =
        let s = total_set (holds c) views j u nobody a in
        let t = total_at (holds c) (set views j nobody) by v (set_else views j by nobody (λ q. ne (sym q)) ∙ e) in
        let z : holds c nobody ≡ 0 = holds_idle stage.Idle c refl in
        omega (arith, s, t, z, is, r.claimed.once c, once_le c (min w (unit_count k.plan)))

    others : (j : ℕ) (u : View) → j ≢ by → get_elem? views j ≡ some u → has_slot k.plan slot u.stage u.at ≡ 0
    others j u ne a = by_stage u.stage refl (r.each j u a).stage
      where
        by_stage : (s : Stage) → u.stage ≡ s → FitsStage N n s u.at → has_slot k.plan slot s u.at ≡ 0
        by_stage stage.Idle q f = refl
        by_stage (stage.Held d b) q f = refl
        by_stage stage.Ended q f = refl
        by_stage (stage.Open d m b) q f = dite (dec_le 1 (times slot (places k.plan u.at)))
            (λ one. let same : c ≡ u.at = same_unit c u.at slot ic (omega (arith, f.0, f.3), omega (arith, f.1, f.4)) in_c one in
            absurd (omega (arith, two j u ne a, holds_open u.stage d m b c q, among_in d b c (omega (arith, same, f.0)) (omega (arith, same, f.1, f.2)))))
            (λ away. let z : times slot (places k.plan u.at) < 1 = lt_of_not-le away in omega (arith, z))

    pub only_own : total (λ u. has_slot k.plan slot u.stage u.at) views ≡ has_slot k.plan slot v.stage v.at
    only_own = total_only (λ u. has_slot k.plan slot u.stage u.at) views by v e others
