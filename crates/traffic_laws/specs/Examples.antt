-- Small worked cases of the definitions.
use Rattle.std.specs.Prelude.{◌≡◌, Some, suc, List, [], ◌∷◌, map, refl}
use Rattle.dta_model.specs.Examples.{room_at_the_start_of_the_step, storage_of_one, trip}
use Rattle.dta_model.specs.Loading.{trace_after}
use Rattle.dta_model.specs.OnLiterals.{loadings_on_literals}
use Rattle.dta_model.specs.Plans.{link_rates}
use Rattle.dta_model.specs.Room.{room}
use Rattle.dta_model.specs.Trace.{Move, queue_of}
use Rattle.traffic_laws.specs.Capacity.{entered_within, given, left_within}

-- ---- the second link stores ten vehicles and lets six through in a step. Of twelve vehicles six
-- enter it in step 10 and four in step 11; the last two find room in step 12
abbrev moves : List Move
moves = trace_after room_at_the_start_of_the_step 14

those_who_enter :
    map (λ s. entered_within moves 1 s (suc s)) (10 ∷ 11 ∷ 12 ∷ 13 ∷ []) ≡ 6 ∷ 4 ∷ 2 ∷ 0 ∷ []
unfolding loadings_on_literals trip room_at_the_start_of_the_step
those_who_enter = refl

those_who_leave :
    map (λ s. left_within moves 1 s (suc s)) (10 ∷ 11 ∷ 12 ∷ 13 ∷ []) ≡ 0 ∷ 6 ∷ 4 ∷ 2 ∷ []
unfolding loadings_on_literals trip room_at_the_start_of_the_step
those_who_leave = refl

-- in the three steps from 10 to 12 all twelve enter, and ten leave
in_three_steps :
    entered_within moves 1 10 13 ∷ left_within moves 1 10 13 ∷ [] ≡ 12 ∷ 10 ∷ []
unfolding loadings_on_literals trip room_at_the_start_of_the_step
in_three_steps = refl

-- in these the rate gives eighteen vehicles, in parts of which 3,600,000,000 make one
rate_times_time : given (link_rates room_at_the_start_of_the_step 1) 6 10 13 ≡ 64800000000
unfolding loadings_on_literals trip room_at_the_start_of_the_step
rate_times_time = refl

-- ---- the second link stores one vehicle, which leaves it in step 11. The other one is ready in
-- step 10, and is still the first on its link after step 11: in that step no room was left
held_by_a_room :
    (queue_of 0 (trace_after storage_of_one 12) ≡ 1 ∷ [])
    × (room storage_of_one 1 11 (trace_after storage_of_one 11)
    ≡ Some (entered_within (trace_after storage_of_one 12) 1 11 12))
unfolding loadings_on_literals trip room_at_the_start_of_the_step storage_of_one
held_by_a_room = (refl, refl)
