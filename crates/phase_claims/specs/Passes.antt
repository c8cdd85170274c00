-- What a floor and a pass are to a contract, and what the calls answer.
use Rattle.std.specs.Prelude.{◌≡◌, ◌≢◌, ℕ, suc, ◌+◌, ◌<◌, ◌≤◌, min, Bool, true, false}
use Rattle.std.specs.Prelude.{List, Option, Some, None}
use Rattle.atomic_table.specs.Seated.{TableId}
use Rattle.atomic_table.specs.Table.{Me}
use Rattle.dta_model.specs.Machine.{first_in, held_end, open_end}
use Rattle.dta_model.specs.Units.{node_count, phase_end, step_of, task_of, unit_count}
use Rattle.dta_model.specs.declared.machine.Stage.{Stage}
use Rattle.dta_model.specs.declared.machine.Stage.TheVariants as stage
use Rattle.dta_model.specs.declared.plan.Plan.{Plan}
use Rattle.claim_core.specs.Kinds.{kind_by}
use Rattle.claim_core.specs.Phases.{IsPhase, phase_of}
use Rattle.claim_core.specs.declared.phase.Phase.{Phase}
use Rattle.claim_core.specs.declared.units.UnitKind.{UnitKind}
use Rattle.phase_claims.specs.declared.part.Part.{Part}
use Rattle.phase_claims.specs.declared.pass.Place.{Place}
use Rattle.phase_claims.specs.declared.unit.Chunk.{Chunk}
use Rattle.phase_claims.specs.declared.unit.Open.{Open}
use Rattle.phase_claims.specs.declared.unit.Open.TheVariants as answer
use Rattle.phase_claims.specs.declared.unit.Unit.{Unit as LoadingUnit}
use Rattle.phase_claims.specs.declared.view.Scope.{Scope}
use Rattle.phase_claims.specs.declared.view.View.{View}
use Rattle.phase_claims.specs.PlacesHome.{carried}
use Rattle.phase_claims.specs.Running.{EarlierArePerformed, StandsIn}
use Rattle.phase_claims.specs.Views.{at_next, done_with, ended, first_of_phase, having_open}
use Rattle.phase_claims.specs.Views.{holding, performed_count, seeing}

-- a floor: its table, and what it is for
pub record FloorState : Type 0 where
  pub table : TableId
  pub scope : Scope

-- a pass: its floor's table, and what it knows
pub record PassState : Type 0 where
  pub table : TableId
  pub view : View

-- the pass is one of this floor
pub record IsOf (f : FloorState) (p : PassState) : Type 0 where
  pub table : p.table ≡ f.table
  pub scope : p.view.scope ≡ f.scope

-- it holds numbers of which none is open, it has some open, or it holds none
abbrev pub IsHeld : Stage → Type 0
IsHeld s = s ≡ stage.Held (first_in s) (held_end s)

abbrev pub IsOpen : Stage → Type 0
IsOpen s = s ≡ stage.Open (first_in s) (open_end s) (held_end s)

abbrev pub holds_no_unit : Stage → Bool
holds_no_unit stage.Idle = true
holds_no_unit (stage.Held a b) = false
holds_no_unit (stage.Open a m b) = false
holds_no_unit stage.Ended = true

abbrev pub HoldsNoUnit : Stage → Type 0
HoldsNoUnit s = holds_no_unit s ≡ true

-- the unit that it is at is one of those that it has open, where it has some
abbrev pub IsAmongOpen : Stage → ℕ → Type 0
IsAmongOpen stage.Idle at = Unit {0}
IsAmongOpen (stage.Held a b) at = Unit {0}
IsAmongOpen (stage.Open a m b) at = (a ≤ at) × (at < m)
IsAmongOpen stage.Ended at = Unit {0}

-- it may get units still
abbrev pub HasNotEnded : Stage → Type 0
HasNotEnded s = s ≢ stage.Ended

-- what a unit does, and what the one does that a pass is at
abbrev pub kind_at : Plan → ℕ → UnitKind
kind_at p number = kind_by (task_of (node_count p) number)

abbrev pub kind_in : View → UnitKind
kind_in v = kind_at v.scope.plan v.at

-- the unit of a number, with its step and what it does
abbrev pub unit_at : Plan → ℕ → LoadingUnit
unit_at p number = record {
  number = number;
  step = step_of (node_count p) number;
  kind = kind_at p number;
}

-- the answer of a claim that drew a number: its unit exactly where there is one, and else none
abbrev pub AnswersClaim : Plan → View → ℕ → Option LoadingUnit → View → Type 0
AnswersClaim p old number (Some unit) new =
    (number < unit_count p) × (unit ≡ unit_at p number) × (new ≡ holding old number 1)
AnswersClaim p old number None new = (unit_count p ≤ number) × (new ≡ ended old 1)

-- what a claim does: it draws a number
pub record Claims (p : Plan) (old : View) (result : Option LoadingUnit) (new : View) : Type 0 where
  pub number : ℕ
  pub answer : AnswersClaim p old number result new

-- the answer of a claim that drew so many numbers from one on: those of units, exactly where the
-- first one is a unit's, and else none
abbrev pub AnswersChunk : Plan → View → ℕ → ℕ → Option Chunk → View → Type 0
AnswersChunk p old many first (Some chunk) new =
    (first < unit_count p)
    × (chunk ≡ record { first = first; end = min (first + many) (unit_count p) })
    × (new ≡ holding old first many)
AnswersChunk p old many first None new = (unit_count p ≤ first) × (new ≡ ended old many)

-- what a claim of so many numbers does: it draws them
pub record ClaimsChunk (p : Plan) (old : View) (many : ℕ) (result : Option Chunk)
    (new : View) : Type 0 where
  pub first : ℕ
  pub answer : AnswersChunk p old many first result new

-- the answer of an open that read so many finished units, where these are the views of all passes:
-- Yes exactly where they are at least those before the first unit's phase, and then all units of
-- earlier phases are performed; else how many they are
abbrev pub AnswersOpen : View → ℕ → List View → Open → View → Type 0
AnswersOpen old finished views answer.Yes new =
    (first_of_phase old ≤ finished)
    × EarlierArePerformed (node_count old.scope.plan) (first_in old.stage) views
    × (new ≡ having_open old finished)
AnswersOpen old finished views (answer.NotYet told) new =
    (finished < first_of_phase old) × (told ≡ finished) × (new ≡ seeing old finished)

-- what an open does: it looks once, and reads how many units are finished in a state of the floor
-- that stands while the pass has had its view: no fewer than the pass has seen before and than it
-- has performed itself. A view changes at a step alone, and counts its looks: so the answer is that
-- of this look, and of none before it
pub record Opens (old : View) (result : Open) (new : View) : Type 0 where
  pub finished : ℕ
  pub stands : StandsIn old finished
  pub seen : old.seen ≤ finished
  pub own : performed_count old ≤ finished
  pub answer : AnswersOpen old finished stands.state.views result new

-- what a perform does: the unit that the pass is at is worked on; with the last open one all of
-- them are finished
pub record PerformsNext (old new : View) : Type 0 where
  pub goes_on : suc old.at < open_end old.stage → new ≡ at_next old
  pub ends : open_end old.stage ≤ suc old.at → new ≡ done_with old

-- the numbers that a pass holds are units of the plan; the open ones, of which it is at one, are of
-- one phase
abbrev pub IsInside : Plan → Stage → ℕ → Type 0
IsInside p stage.Idle at = Unit {0}
IsInside p (stage.Held a b) at = (a < b) × (b ≤ unit_count p)
IsInside p (stage.Open a m b) at =
    (a ≤ at) × (at < m) × (m ≤ phase_end (node_count p) a) × (m ≤ b) × (b ≤ unit_count p)
IsInside p stage.Ended at = Unit {0}

-- the phase of the first number that a pass holds, and of the unit that it is at; else one that it
-- had
abbrev pub IsLastPhase : ℕ → Stage → ℕ → Phase → Type 0
IsLastPhase nodes stage.Idle at last = IsPhase nodes last
IsLastPhase nodes (stage.Held a b) at last = last ≡ phase_of nodes a
IsLastPhase nodes (stage.Open a m b) at last = last ≡ phase_of nodes at
IsLastPhase nodes stage.Ended at last = IsPhase nodes last

-- its fields say where it stands
pub record IsPlace (v : View) (own : Place) : Type 0 where
  pub stage : own.stage ≡ v.stage
  pub next : own.next ≡ v.at
  pub phase : IsLastPhase (node_count v.scope.plan) v.stage v.at own.phase

-- what a pass keeps: it has the places of the unit that it is at, and no others; its fields say
-- what it knows
pub record IsPass (me : Me Part View) (left : ℕ) (own : Place) : Type 0 where
  pub slots : me.1 ≡ carried me.0.scope me.0.stage me.0.at
  pub inside : IsInside me.0.scope.plan me.0.stage me.0.at
  pub weight : 1 ≤ me.0.weight
  pub spare : left ≡ me.0.spare
  pub place : IsPlace me.0 own
