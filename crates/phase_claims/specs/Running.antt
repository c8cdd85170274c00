-- The running rule of a floor: what holds of its words and of the views of its passes between any
-- two steps, whatever the threads do.
use Rattle.std.specs.Prelude.{◌≡◌, ℕ, ◌+◌, ◌*◌, ◌<◌, ◌≤◌, ◌^◌, min, List, ◌∷◌}
use mathlib.Core.Option.{some}
use lib.ListN.{get_elem?}
use Rattle.atomic_table.specs.Table.{State}
use Rattle.dta_model.specs.Units.{node_count, phase_end, phase_start, unit_count}
use Rattle.dta_model.specs.declared.machine.Stage.{Stage}
use Rattle.dta_model.specs.declared.machine.Stage.TheVariants as stage
use Rattle.dta_model.specs.declared.machine.TheConstants.{MOST_CHUNK}
use Rattle.claim_core.specs.Claimed.{Claimed}
use Rattle.claim_core.specs.Sums.{total}
use Rattle.phase_claims.specs.declared.floor.TheConstants.{MOST_PASSES}
use Rattle.phase_claims.specs.declared.part.Part.{Part}
use Rattle.phase_claims.specs.declared.view.Scope.{Scope}
use Rattle.phase_claims.specs.declared.view.View.{View}
use Rattle.phase_claims.specs.PlacesHome.{AreHome}
use Rattle.phase_claims.specs.Told.{AreReached}
use Rattle.phase_claims.specs.Views.{held_by, nobody, performed_by}
use Rattle.phase_claims.specs.Views.{performed_count, rights}

-- how many numbers of no unit a pass may have drawn: those of a chunk that goes past the last unit,
-- and of one that begins past it, after which it has ended
abbrev pub FitsPast : Stage → ℕ → ℕ → Type 0
FitsPast stage.Ended weight past = (1 ≤ past) × (past ≤ weight * (2 * MOST_CHUNK))
FitsPast stage.Idle weight past = past ≤ weight * MOST_CHUNK
FitsPast (stage.Held a b) weight past = past ≤ weight * MOST_CHUNK
FitsPast (stage.Open a m b) weight past = past ≤ weight * MOST_CHUNK

-- the numbers that a pass holds are in order, and with them the unit that it is at; the open ones
-- are of the phase in which the number of finished units stands
abbrev pub FitsStage : ℕ → ℕ → Stage → ℕ → Type 0
FitsStage n finished stage.Idle at = Unit {0}
FitsStage n finished (stage.Held a b) at = a < b
FitsStage n finished (stage.Open a m b) at =
    (a ≤ at) × (at < m) × (m ≤ b) × (phase_start n finished ≤ a) × (m ≤ phase_end n finished)
FitsStage n finished stage.Ended at = Unit {0}

-- what holds of the view of each pass, where so many units are finished
pub record FitsView (k : Scope) (finished : ℕ) (v : View) : Type 0 where
  -- it names the floor's loading, its board and its number of passes
  pub scope : 1 ≤ v.weight → v.scope ≡ k
  -- it hasn't seen more finished units than there are
  pub seen : v.seen ≤ finished
  -- its numbers past the last unit aren't more than its weight allows
  pub past : FitsPast v.stage v.weight v.past
  -- without a weight it is the view that is left over by a join
  pub empty : v.weight ≡ 0 → v ≡ nobody
  pub stage : FitsStage (node_count k.plan) finished v.stage v.at

-- the words and the views, where so many numbers are drawn and so many units finished
pub record Running (k : Scope) (drawn finished : ℕ) (views : List View) : Type 0 where
  -- each unit whose number was drawn is held or performed, once; the units before the phase in
  -- which the number of finished ones stands are performed, and none after it is
  pub claimed : Claimed (node_count k.plan) (min drawn (unit_count k.plan)) finished
      (performed_by views) (held_by views)
  -- the finished units are those that the passes have performed
  pub performed : finished ≡ total performed_count views
  -- the other numbers drawn were past the last unit
  pub past : drawn ≡ min drawn (unit_count k.plan) + total (λ v. v.past) views
  -- all weights and spare passes together are the passes of the floor
  pub rights : total rights views ≡ k.passes
  pub each : (by : ℕ) (v : View) → get_elem? views by ≡ some v → FitsView k finished v

-- the rule: the second word counts the numbers drawn, and the third the units finished, and the
-- nodes' words tell of those who come; each place that no pass has holds its part, and the others
-- are out
pub record Holds (k : Scope) (s : State Part View) : Type 0 where
  pub few : k.passes ≤ MOST_PASSES
  pub small : unit_count k.plan < 2 ^ 50
  pub drawn : ℕ
  pub finished : ℕ
  pub others : List ℕ
  pub words : s.words ≡ 0 ∷ drawn ∷ finished ∷ others
  pub running : Running k drawn finished s.views
  pub homes : AreHome k s.homes s.views
  pub reached : AreReached k s.words s.views

-- a view is that of a pass in a state in which the rule holds, and so many units are finished
pub record StandsIn (v : View) (finished : ℕ) : Type 0 where
  pub state : State Part View
  pub rule : Holds v.scope state
  pub by : ℕ
  pub here : get_elem? state.views by ≡ some v
  pub word : rule.finished ≡ finished

-- all units of the phases before that of unit c are performed, where there are so many nodes
abbrev pub EarlierArePerformed : ℕ → ℕ → List View → Type 0
EarlierArePerformed nodes c views = (x : ℕ) → x < phase_start nodes c → performed_by views x ≡ 1
