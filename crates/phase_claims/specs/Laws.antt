-- What the running rule of a floor says, between any two steps, whatever the threads do.
use Rattle.std.specs.Prelude.{◌≡◌, ◌≢◌, ℕ, ◌+◌, ◌<◌, ◌≤◌, true, List, map, slice_set}
use mathlib.Core.Option.{some}
use lib.ListN.{get_elem?}
use Rattle.atomic_table.specs.Table.{State}
use Rattle.dta_model.specs.Machine.{Claims, finished, first_in, fits_chunk, open_end}
use Rattle.dta_model.specs.Machine.{step_machine}
use Rattle.dta_model.specs.State.{eight_after}
use Rattle.dta_model.specs.Units.{node_count, phase_start, posting_part, unit_count}
use Rattle.dta_model.specs.declared.eight.Eight.{Eight}
use Rattle.dta_model.specs.declared.machine.Event.TheVariants as event
use Rattle.dta_model.specs.declared.machine.Stage.TheVariants as stage
use Rattle.dta_model.specs.declared.plan.Plan.{Plan}
use Rattle.claim_core.specs.Parts.{done_in, stage_of}
use Rattle.claim_core.specs.Runs.{among}
use Rattle.claim_core.specs.Sums.{total}
use Rattle.phase_claims.specs.declared.part.Part.{Part}
use Rattle.phase_claims.specs.declared.part.Part.TheVariants.{Writer}
use Rattle.phase_claims.specs.declared.view.Scope.{Scope}
use Rattle.phase_claims.specs.declared.view.View.{View}
use Rattle.monitors.specs.Posted.{IsPrefix, last_of}
use Rattle.phase_claims.specs.Passes.{IsHeld, IsOpen}
use Rattle.phase_claims.specs.PlacesHome.{has_slot, posted_in}
use Rattle.phase_claims.specs.Running.{EarlierArePerformed, Holds}
use Rattle.phase_claims.specs.Views.{done_with, ended, first_of_phase, having_open, held_by}
use Rattle.phase_claims.specs.Views.{holding, holds, performed_by, seeing}

-- the claims that the words and the views are: a pass is a worker of the claim machine
abbrev pub claims_of : ℕ → List View → Claims
claims_of drawn views = record { drawn = drawn; stages = map (λ v. v.stage) views }

-- how often a pass has unit x open
abbrev pub opens : ℕ → View → ℕ
opens x v = among (first_in v.stage) (open_end v.stage) x

-- two passes hold no number both
abbrev pub AreApart : View → View → Type 0
AreApart v u = (c : ℕ) → 1 ≤ holds c v → holds c u ≡ 0

-- the units that they have open are of one phase
abbrev pub AreOfOnePhase : ℕ → View → View → Type 0
AreOfOnePhase n v u =
    (c d : ℕ) → 1 ≤ opens c v → 1 ≤ opens d u → phase_start n c ≡ phase_start n d

-- what holds of a floor's words, of the views of its passes and of its places by its rule
pub record AreClaims (k : Scope) (s : State Part View) (h : Holds k s) : Type 0 where
  -- the words and the views are claims of the claim machine: it has finished a unit exactly where
  -- a pass has performed it, and as many units as the third word says
  pub performed :
      (x : ℕ) → done_in k.plan (claims_of h.drawn s.views) x ≡ performed_by s.views x
  pub counted : finished k.plan (claims_of h.drawn s.views) ≡ h.finished
  -- no unit is held or performed by two passes, or twice by one
  pub once : (x : ℕ) → performed_by s.views x + held_by s.views x ≤ 1
  pub apart : (i j : ℕ) (v u : View) → i ≢ j → get_elem? s.views i ≡ some v
      → get_elem? s.views j ≡ some u → AreApart v u
  -- all open units, of one pass or of several, are of one phase
  pub phases : (i j : ℕ) (v u : View) → get_elem? s.views i ≡ some v
      → get_elem? s.views j ≡ some u → AreOfOnePhase (node_count k.plan) v u
  -- where as many units are finished as come before the phase of a unit that a pass holds, it is
  -- those that are
  pub earlier : (c : ℕ) → 1 ≤ held_by s.views c → phase_start (node_count k.plan) c ≤ h.finished
      → EarlierArePerformed (node_count k.plan) c s.views
  -- while no posting is open the writer's pass is at home: a pass of the floor's board that has
  -- posted the states of the postings performed, in order, and nothing else
  pub writer : total (λ v. has_slot k.plan (posting_part k.plan) v.stage v.at) s.views ≡ 0
      → get_elem? s.homes (posting_part k.plan)
      ≡ some (some (Writer (record {
        board = k.board;
        list = posted_in k.plan (stage_of k.plan (performed_by s.views) (posting_part k.plan));
      })))

abbrev pub FloorsAreClaims : Type 0
FloorsAreClaims = (k : Scope) (s : State Part View) (h : Holds k s) → AreClaims k s h

-- what a step makes of the view of a pass is, of the claims, what an event of its worker makes
pub record MakesEvents (drawn by : ℕ) (views : List View) (v : View) : Type 0 where
  -- a claim of so many numbers: the first one drawn is that of a unit, or of none
  pub draws : (many : ℕ) → v.stage ≡ stage.Idle → fits_chunk many ≡ true
      → drawn < unit_count v.scope.plan
      → claims_of (drawn + many) (slice_set views by (holding v drawn many))
      ≡ step_machine v.scope.plan (claims_of drawn views) (event.ClaimChunk by many)
  pub ends : (many : ℕ) → v.stage ≡ stage.Idle → fits_chunk many ≡ true
      → unit_count v.scope.plan ≤ drawn
      → claims_of (drawn + many) (slice_set views by (ended v many))
      ≡ step_machine v.scope.plan (claims_of drawn views) (event.ClaimChunk by many)
  -- an open that sees so many finished units: they are at least those before the phase, or fewer
  pub opens : IsHeld v.stage → (seen : ℕ)
      → first_of_phase v ≤ finished v.scope.plan (claims_of drawn views)
      → claims_of drawn (slice_set views by (having_open v seen))
      ≡ step_machine v.scope.plan (claims_of drawn views) (event.Open by)
  pub waits : IsHeld v.stage → (seen : ℕ)
      → finished v.scope.plan (claims_of drawn views) < first_of_phase v
      → claims_of drawn (slice_set views by (seeing v seen))
      ≡ step_machine v.scope.plan (claims_of drawn views) (event.Open by)
  -- a finish of the open units
  pub finishes : IsOpen v.stage
      → claims_of drawn (slice_set views by (done_with v))
      ≡ step_machine v.scope.plan (claims_of drawn views) (event.Finish by)

abbrev pub StepsAreEvents : Type 0
StepsAreEvents =
    (drawn by : ℕ) (views : List View) (v : View) → get_elem? views by ≡ some v
    → MakesEvents drawn by views v

-- a list with which the states of the first steps begin: what it shows is the state after one of
-- these steps, or before the first. So it is of each list that a monitor of a floor's board has
-- known: it is the beginning of what the writer's pass has posted
abbrev pub StatesAreShown : Type 0
StatesAreShown =
    (p : Plan) (steps : ℕ) (list : List Eight) → IsPrefix list (posted_in p steps)
    → (t : ℕ) × (t ≤ steps) × (last_of list ≡ eight_after p t)
