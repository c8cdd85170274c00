-- What holds of the claims after every list of events.
use Rattle.std.specs.Prelude.{◌≡◌, ℕ, ◌<◌, ◌≤◌, ◌*◌, true, false, min, List, [], ◌∷◌, length}
use Rattle.std.specs.Prelude.{All, Contains, Some, slice_get, count_by}
use Rattle.std.specs.List.{flat_map}
use Rattle.std.specs.List.Sorted.{IsStrictlyIncreasing}
use Rattle.net_core.specs.Network.{numbers_below}
use Rattle.dta_model.specs.Machine.{Claims, all_idle, finished, holds_unit, is_finished}
use Rattle.dta_model.specs.Machine.{outcomes_of, run_machine}
use Rattle.dta_model.specs.Sound.{IsSound}
use Rattle.dta_model.specs.Units.{mail_part, node_count, phase_end, phase_start, places}
use Rattle.dta_model.specs.Units.{posting_part, step_units, unit_count}
use Rattle.dta_model.specs.declared.machine.Event.{Event}
use Rattle.dta_model.specs.declared.machine.Outcome.{Outcome}
use Rattle.dta_model.specs.declared.machine.Outcome.TheVariants as outcomes
use Rattle.dta_model.specs.declared.machine.Stage.TheVariants as stage
use Rattle.dta_model.specs.declared.plan.Plan.{Plan}
use Rattle.cell_stages.specs.Contents.{away, cell_at, cell_before, mail_at, room_of}
use Rattle.claim_core.specs.Parts.{stage_in}
use Rattle.claim_core.specs.Runs.{numbers}

-- it holds of the claims after every list of events, of every loading and any number of workers
abbrev pub Always : (Plan → Claims → Type 0) → Type 0
Always Holds =
    (p : Plan) (workers : ℕ) (events : List Event)
    → Holds p (run_machine p events (all_idle workers))

-- no unit is held by two workers, and only units that were given are
abbrev pub IsHeldOnce : Plan → Claims → Type 0
IsHeldOnce p s = (c : ℕ) → count_by (holds_unit c) s.stages ≤ 1

abbrev pub HeldWereGiven : Plan → Claims → Type 0
HeldWereGiven p s =
    (c : ℕ) → 1 ≤ count_by (holds_unit c) s.stages → c < min s.drawn (unit_count p)

-- the phase in which the number of finished units stands: the units before it are finished, and
-- none after it is
abbrev pub EarlierAreFinished : Plan → Claims → Type 0
EarlierAreFinished p s =
    (u : ℕ) → u < phase_start (node_count p) (finished p s) → is_finished p s u ≡ true

abbrev pub LaterAreNot : Plan → Claims → Type 0
LaterAreNot p s =
    (u : ℕ) → phase_end (node_count p) (finished p s) ≤ u → is_finished p s u ≡ false

-- the open units are of this phase
abbrev pub OpenAreOfThePhase : Plan → Claims → Type 0
OpenAreOfThePhase p s =
    (w a m b : ℕ) → slice_get s.stages w ≡ Some (stage.Open a m b)
    → (phase_start (node_count p) (finished p s) ≤ a)
    × (m ≤ phase_end (node_count p) (finished p s))

-- where exactly so many whole steps are finished, all cells and mail are those of the plain
-- loading after these steps
abbrev pub PartsAreOfWholeSteps : Plan → Claims → Type 0
PartsAreOfWholeSteps p s =
    (t : ℕ) → IsSound p → finished p s ≡ t * step_units (node_count p)
    → ((n : ℕ) → n < node_count p → cell_at p n (stage_in p s n) ≡ cell_before p n t away away)
    × ((l : ℕ) → l < length p.net.links
    → mail_at p l (stage_in p s (mail_part p l)) ≡ room_of p t l)

-- the numbers that were given are those from 0 on, in this order and each once
abbrev pub numbers_given : Outcome → List ℕ
numbers_given (outcomes.Given u) = u ∷ []
numbers_given (outcomes.GivenChunk a b) = numbers a b
numbers_given _ = []

abbrev pub NumbersRise : Type 0
NumbersRise =
    (p : Plan) (workers : ℕ) (events : List Event)
    → flat_map numbers_given (outcomes_of p events (all_idle workers))
    ≡ numbers_below (min (run_machine p events (all_idle workers)).drawn (unit_count p))

-- two units whose phase begins at the same unit are of one phase. Where they have a place in
-- common they are one unit
abbrev pub NoPlaceIsShared : Type 0
NoPlaceIsShared =
    (p : Plan) (a b k : ℕ) → phase_start (node_count p) a ≡ phase_start (node_count p) b
    → Contains (places p a) k → Contains (places p b) k → a ≡ b

-- the places of a unit rise, so that each stands once, and none is past what posts
abbrev pub PlacesRise : Type 0
PlacesRise =
    (p : Plan) (u : ℕ)
    → IsStrictlyIncreasing (places p u) × All (λ k. k ≤ posting_part p) (places p u)
