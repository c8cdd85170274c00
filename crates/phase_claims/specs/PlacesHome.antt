-- The places of a floor: what lies in each that is at home, and what a pass has with it.
use Rattle.std.specs.Prelude.{◌≡◌, ℕ, zero, suc, ◌+◌, ◌-◌, ◌<◌, cond, nat_lt, List, [], ◌∷◌, map}
use mathlib.Core.Option.{Option, none, some}
use lib.ListN.{get_elem?}
use Rattle.net_core.specs.Network.{numbers_below}
use Rattle.dta_model.specs.State.{eight_after}
use Rattle.dta_model.specs.Units.{node_count, places, posting_part}
use Rattle.dta_model.specs.declared.eight.Eight.{Eight}
use Rattle.dta_model.specs.declared.machine.Stage.{Stage}
use Rattle.dta_model.specs.declared.machine.Stage.TheVariants as stage
use Rattle.dta_model.specs.declared.plan.Plan.{Plan}
use Rattle.cell_stages.specs.Contents.{cell_at, mail_at}
use Rattle.claim_core.specs.Parts.{moves, stage_before, stage_of}
use Rattle.claim_core.specs.Sums.{times, total}
use Rattle.phase_claims.specs.declared.part.Part.{Part}
use Rattle.phase_claims.specs.declared.part.Part.TheVariants.{Cell, Mail, Writer}
use Rattle.phase_claims.specs.declared.view.Scope.{Scope}
use Rattle.phase_claims.specs.declared.view.View.{View}
use Rattle.phase_claims.specs.Views.{worked_by}

-- the states that are posted in so many steps
abbrev pub posted_in : Plan → ℕ → List Eight
posted_in p steps = map (λ t. eight_after p (suc t)) (numbers_below steps)

-- what lies in a place at a stage: the cell of a node, the mail of a link, or the writer's pass
unfoldable pub part_at : Scope → ℕ → ℕ → Part
part_at k slot at =
    cond (nat_lt slot (node_count k.plan))
    (Cell (cell_at k.plan slot at))
    (cond (nat_lt slot (posting_part k.plan))
    (Mail (mail_at k.plan (slot - node_count k.plan) at))
    (Writer (record { board = k.board; list = posted_in k.plan at })))

-- places, each with its part at a stage
abbrev pub parts_of : {S : Type 0} → (ℕ → ℕ → S) → List ℕ → (ℕ → ℕ) → List (ℕ × S)
parts_of part [] at = []
parts_of part (slot ∷ slots) at = (slot, part slot (at slot)) ∷ parts_of part slots at

-- how often a pass has a place with it: once where it is at an open unit and the place is a place
-- of that
abbrev pub has_slot : Plan → ℕ → Stage → ℕ → ℕ
has_slot p slot stage.Idle at = 0
has_slot p slot (stage.Held a b) at = 0
has_slot p slot (stage.Open a m b) at = times slot (places p at)
has_slot p slot stage.Ended at = 0

-- a place that no pass has is at home with its part, and one that a pass has is out
abbrev pub home_of : {S : Type 0} → ℕ → S → Option S
home_of zero part = some part
home_of (suc passes) part = none

-- each place that no pass has holds its part at the stage that the units worked on tell
abbrev pub AreHome : Scope → List (Option Part) → List View → Type 0
AreHome k homes views =
    (slot : ℕ) → slot < suc (posting_part k.plan)
    → get_elem? homes slot ≡ some (home_of (total (λ v. has_slot k.plan slot v.stage v.at) views)
    (part_at k slot (stage_of k.plan (worked_by views) slot)))

-- what a unit takes: its places, at the stage before its phase
abbrev pub taken : Scope → ℕ → List (ℕ × Part)
taken k c = parts_of (part_at k) (places k.plan c) (stage_before k.plan c)

-- what a pass has with it: what the unit that it is at has taken
abbrev pub carried : Scope → Stage → ℕ → List (ℕ × Part)
carried k stage.Idle at = []
carried k (stage.Held a b) at = []
carried k (stage.Open a m b) at = taken k at
carried k stage.Ended at = []

-- what a unit brings, once its work is done: what it moves is at the next stage
abbrev pub brought : Scope → ℕ → List (ℕ × Part)
brought k c =
    parts_of (part_at k) (places k.plan c)
    (λ slot. stage_before k.plan c slot + moves k.plan slot c)
