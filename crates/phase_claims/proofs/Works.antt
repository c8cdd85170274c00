-- The units whose work is done, finished or not: each number is worked or left, once, as it is performed or held.
use Rattle.std.proofs.Common.{◌≡◌, ℕ, ◌+◌, ◌<◌, ◌≤◌, min, List, refl, sym, ◌∙◌, lt_of_not-le, arith}
use mathlib.Core.Logic.{dite}
use native.Mathlib.Decide.{dec_le}
use Rattle.dta_model.specs.Units.{node_count, phase_end, phase_start, unit_count}
use Rattle.dta_model.specs.declared.machine.Stage.{Stage}
use Rattle.dta_model.specs.declared.machine.Stage.TheVariants as stage
use Rattle.claim_core.specs.Runs.{among}
use Rattle.claim_core.specs.Sums.{once_below, total}
use Rattle.claim_core.proofs.Claimed.{finished_le}
use Rattle.claim_core.proofs.Phases.{start_le}
use Rattle.claim_core.proofs.Runs.{among_none, among_two, is_among}
use Rattle.claim_core.proofs.Sums.{once_le, total_le}
use Rattle.phase_claims.specs.declared.view.Scope.{Scope}
use Rattle.phase_claims.specs.declared.view.View.{View}
use Rattle.phase_claims.specs.Running.{FitsStage, Running}
use Rattle.phase_claims.specs.Views.{held_by, holds, holds_in, performed_by, performs, worked, worked_by, worked_in}
use Rattle.phase_claims.proofs.Counts.{total_pair}

-- what a stage holds and has not worked
abbrev pub left_in : Stage → ℕ → ℕ → ℕ
left_in stage.Idle at x = 0
left_in (stage.Held a b) at x = among a b x
left_in (stage.Open a m b) at x = among at b x
left_in stage.Ended at x = 0

abbrev pub left : ℕ → View → ℕ
left x v = left_in v.stage v.at x

module _ (k : Scope) (w n : ℕ) (views : List View) (r : Running k w n views) where
  abbrev N : ℕ
  N = node_count k.plan

  abbrev g : ℕ
  g = min w (unit_count k.plan)

  two_ways : (x at : ℕ) (s : Stage) → FitsStage N n s at
      → worked_in s at x + left_in s at x ≡ holds_in s x
  two_ways x at stage.Idle f = sym (among_none 0 x)
  two_ways x at (stage.Held a b) f = (let z : 0 + among a b x ≡ among a b x = omega arith in z)
  two_ways x at (stage.Open a m b) f = sym (among_two a at b x f.0 (omega (arith, f.1, f.2)))
  two_ways x at stage.Ended f = sym (among_none 0 x)

  pub once : (x : ℕ) → worked_by views x + total (left x) views ≡ once_below x g
  once x = total_pair (worked x) (left x) (performs x) (holds x) views
      (λ i v e. (let t = two_ways x v.at v.stage (r.each i v e).stage in omega (arith, t)))
      ∙ r.claimed.once x

  pub at_most_once : (x : ℕ) → worked_by views x ≤ 1
  at_most_once x = omega (arith, once x, once_le x g)

  -- the units before the phase are worked, and none after it is
  pub before : (x : ℕ) → x < phase_start N n → 1 ≤ worked_by views x
  before x l = omega (
    arith,
    r.claimed.before x l,
    total_le (performs x) (worked x) views (λ i v e. omega arith),
  )

  none_past : (x at : ℕ) (s : Stage) → phase_end N n ≤ x → FitsStage N n s at → worked_in s at x ≡ 0
  none_past x at stage.Idle l f = refl
  none_past x at (stage.Held a b) l f = refl
  none_past x at (stage.Open a m b) l f = dite (dec_le 1 (among a at x))
      (λ is. absurd (omega (arith, (is_among a at x is).1, f.1, f.4, l)))
      (λ out. let z : among a at x < 1 = lt_of_not-le out in omega (arith, z))
  none_past x at stage.Ended l f = refl

  pub after : (x : ℕ) → phase_end N n ≤ x → worked_by views x ≡ 0
  after x l =
      let le = total_le (worked x) (performs x) views
      (λ i v e. omega (arith, none_past x v.at v.stage l (r.each i v e).stage)) in
      omega (arith, le, r.claimed.after x l)

  pub within : phase_start N n ≤ unit_count k.plan
  within = omega (
    arith,
    start_le N n,
    finished_le N g n (performed_by views) (held_by views) r.claimed,
  )
