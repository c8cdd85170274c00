-- Small worked cases of the definitions.
use Rattle.std.specs.Prelude.{◌≡◌, ◌∷◌, [], Some, refl}
use Rattle.dta_model.specs.Riders.{RiderState, moved}
use Rattle.link_queues.specs.Leavings.{no_leavings, pushed}
use Rattle.link_queues.specs.LeavingsInside.{round_from}
use Rattle.link_queues.specs.Lines.{due}
use Rattle.link_queues.specs.Riders.{setting_out}
use Rattle.link_queues.specs.declared.line.TheConstants.{MOST_RIDERS}

most_riders : MOST_RIDERS ≡ 4294967295
most_riders = refl

-- a rider with links 2 and 5 before it, departing at step 3
abbrev four : RiderState
four = setting_out 4 3 (2 ∷ 5 ∷ [])

-- it enters both in order, and then it arrives
enters_enters_arrives : moved (moved (moved four 5) 15) 25
    ≡ record four { ahead = []; entries = 5 ∷ 15 ∷ []; arrival = Some 25 }
enters_enters_arrives = refl

-- a rider is due from the step after that of its departure
due_later : due 3 (four ∷ []) ≡ 0
due_later = refl

due_now : due 4 (four ∷ setting_out 7 9 (2 ∷ 5 ∷ []) ∷ []) ≡ 1
due_now = refl

-- one who leaves in the next step comes first, and the oldest number is gone
leaves_next : pushed 5 (1 ∷ 0 ∷ 2 ∷ []) ≡ 5 ∷ 1 ∷ 0 ∷ []
leaves_next = refl

-- where no step is kept, none is
keeps_none : pushed 5 (no_leavings 0) ≡ []
keeps_none = refl

-- the first who leaves
leaves_first : pushed 3 (no_leavings 2) ≡ 3 ∷ 0 ∷ []
leaves_first = refl

-- a ring is read from the newest on, round its end
round_its_end : round_from 2 (4 ∷ 1 ∷ 7 ∷ []) ≡ 7 ∷ 4 ∷ 1 ∷ []
round_its_end = refl
