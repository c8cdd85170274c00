-- What each step on a floor's words tells the pass that makes it: what it was, the word that was
-- found, and what it is after.
use Rattle.std.specs.Prelude.{◌≡◌, ℕ, suc, ◌+◌, ◌*◌, ◌<◌, ◌≤◌, []}
use Rattle.atomic_table.specs.Table.{Me, Step}
use Rattle.dta_model.specs.Machine.{first_in}
use Rattle.dta_model.specs.Units.{Gather, node_count, step_of, task_of, unit_count}
use Rattle.node_transfer.specs.Rest.{NobodyComes}
use Rattle.phase_claims.specs.declared.floor.TheConstants.{MOST_PASSES}
use Rattle.phase_claims.specs.declared.part.Part.{Part}
use Rattle.phase_claims.specs.declared.view.View.{View}
use Rattle.phase_claims.specs.declared.work_told.TheConstants.{FIRST_NODE_WORD}
use Rattle.phase_claims.specs.PlacesHome.{carried, taken}
use Rattle.phase_claims.specs.Told.{KeepsRooms}
use Rattle.phase_claims.specs.Running.{EarlierArePerformed, StandsIn}
use Rattle.phase_claims.specs.Views.{at_next, done_with, ended, first_of_phase, having_open}
use Rattle.phase_claims.specs.Views.{holding, performed_count, rights, seeing, telling}

-- a draw of so many numbers: the pass holds those of units or, where there is none, has ended
pub record DrawsNumbers (old : View) (many number : ℕ) (new : View) : Type 0 where
  pub given : number < unit_count old.scope.plan → new ≡ holding old number many
  pub over : unit_count old.scope.plan ≤ number → new ≡ ended old many

abbrev pub Draws : Step Part → Me Part View → ℕ → Me Part View → Type 0
Draws st m number m' = (m'.1 ≡ m.1) × DrawsNumbers m.0 st.first number m'.0

-- a look, of a pass that holds numbers, at how many units are finished: no fewer than it has seen
-- before, and than it has performed itself. Where units of it are open it has the first one's
-- places
pub record LooksAt (old : View) (finished : ℕ) (new : View) : Type 0 where
  pub stands : StandsIn old finished
  pub earlier : first_of_phase old ≤ finished
      → EarlierArePerformed (node_count old.scope.plan) (first_in old.stage) stands.state.views
  pub seen : old.seen ≤ finished
  pub own : performed_count old ≤ finished
  -- with all passes in it, those before its phase are
  pub alone : rights old ≡ old.scope.passes → first_of_phase old ≤ finished
  -- where those before its phase are, its units of that phase are open
  pub opens : first_of_phase old ≤ finished → new ≡ having_open old finished
  pub waits : finished < first_of_phase old → new ≡ seeing old finished

abbrev pub Looks : Step Part → Me Part View → ℕ → Me Part View → Type 0
Looks st m finished m' =
    (m'.1 ≡ carried m.0.scope m'.0.stage m'.0.at) × LooksAt m.0 finished m'.0

-- the pass has brought the places of the unit that it was at home, and has those of the next one
abbrev pub Turns : Step Part → Me Part View → ℕ → Me Part View → Type 0
Turns st m found m' = (m'.1 ≡ taken m.0.scope (suc m.0.at)) × (m'.0 ≡ at_next m.0)

-- a finish: the pass has performed its open units, and has no place any more
abbrev pub Finishes : Step Part → Me Part View → ℕ → Me Part View → Type 0
Finishes st m finished m' = (m'.1 ≡ []) × (m'.0 ≡ done_with m.0)

-- nobody comes to node n in the step of the unit that a pass is at, and its rooms stay
abbrev pub IsStill : View → ℕ → Type 0
IsStill v n =
    KeepsRooms v.scope.plan n (step_of (node_count v.scope.plan) v.at)
    × NobodyComes v.scope.plan n (step_of (node_count v.scope.plan) v.at)

-- a look at the word of a node, for its gather: it is still where the word isn't past the mail
abbrev pub Sees : Step Part → Me Part View → ℕ → Me Part View → Type 0
Sees st m found m' =
    (m' ≡ m)
    × ((n : ℕ) → st.word ≡ FIRST_NODE_WORD + n
    → task_of (node_count m.0.scope.plan) m.0.at ≡ Gather n
    → found ≤ 2 * step_of (node_count m.0.scope.plan) m.0.at + 1 → IsStill m.0 n)

-- the pass has told a node that somebody comes
abbrev pub Tells : Step Part → Me Part View → ℕ → Me Part View → Type 0
Tells st m found m' =
    (m'.1 ≡ m.1) × ((n : ℕ) → st.word ≡ FIRST_NODE_WORD + n → m'.0 ≡ telling m.0 n)

-- a look at the word that never changes tells that a pass has no more rights than there may be
abbrev pub IsBounded : Step Part → Me Part View → ℕ → Me Part View → Type 0
IsBounded st m found m' = (m' ≡ m) × (rights m.0 ≤ MOST_PASSES)
