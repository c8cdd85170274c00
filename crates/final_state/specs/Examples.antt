-- Small worked cases: where vehicles are, and the state that they make.
use Rattle.std.specs.Prelude.{◌≡◌, ℕ, zero, suc, List, [], ◌∷◌, None, Some, refl}
use Rattle.net_core.specs.declared.rows.LinkNo.{LinkNo}
use Rattle.dta_model.specs.Examples.{number, trip, two_links_in_a_line}
use Rattle.dta_model.specs.OnLiterals.{loadings_on_literals}
use Rattle.dta_model.specs.State.{eight_after}
use Rattle.dta_model.specs.declared.plan.Plan.{Plan}
use Rattle.final_state.specs.Counts.{one_more, state_of}
use Rattle.final_state.specs.Whereabouts.{whereabouts_by}
use Rattle.final_state.specs.declared.whereabouts.Whereabouts.{Whereabouts}
use Rattle.final_state.specs.declared.whereabouts.Whereabouts.TheVariants as whereabouts

-- ---- a vehicle whose route leads over links 5 and 7
waits : whereabouts_by (number 5 ∷ number 7 ∷ []) [] None ≡ whereabouts.Waiting
waits = refl

on_the_first : whereabouts_by (number 5 ∷ number 7 ∷ []) (3 ∷ []) None
    ≡ whereabouts.OnLink (number 5)
on_the_first = refl

on_the_second : whereabouts_by (number 5 ∷ number 7 ∷ []) (3 ∷ 9 ∷ []) None
    ≡ whereabouts.OnLink (number 7)
on_the_second = refl

at_the_end : whereabouts_by (number 5 ∷ number 7 ∷ []) (3 ∷ 9 ∷ []) (Some 12) ≡ whereabouts.Arrived
at_the_end = refl

-- ---- one more on the last of four links, and on one past them
on_the_last : one_more (4 ∷ 0 ∷ 0 ∷ 7 ∷ []) 3 ≡ 4 ∷ 0 ∷ 0 ∷ 8 ∷ []
on_the_last = refl

past_the_last : one_more (4 ∷ 0 ∷ 0 ∷ 7 ∷ []) 4 ≡ 4 ∷ 0 ∷ 0 ∷ 7 ∷ []
past_the_last = refl

-- ---- six vehicles: one has no route, one waits, three are on links 1, 4 and 1, one has arrived
unfoldable six_whereabouts : ℕ → Whereabouts
six_whereabouts zero = whereabouts.Unrouted
six_whereabouts (suc zero) = whereabouts.Waiting
six_whereabouts (suc (suc zero)) = whereabouts.OnLink (number 1)
six_whereabouts (suc (suc (suc zero))) = whereabouts.OnLink (number 4)
six_whereabouts (suc (suc (suc (suc zero)))) = whereabouts.OnLink (number 1)
six_whereabouts (suc (suc (suc (suc (suc v))))) = whereabouts.Arrived

six_vehicles : state_of 9 six_whereabouts 6
    ≡ record { steps = 9; waiting = 1; running = 3; arrived = 1; first = 0 ∷ 2 ∷ 0 ∷ 0 ∷ [] }
unfolding state_of six_whereabouts
six_vehicles = refl

-- ---- two links of ten steps: all three vehicles arrive
two_links : eight_after two_links_in_a_line 60
    ≡ record { steps = 60; waiting = 0; running = 0; arrived = 3; first = 0 ∷ 0 ∷ 0 ∷ 0 ∷ [] }
unfolding loadings_on_literals trip two_links_in_a_line
two_links = refl

-- where the horizon is step 30, the first has arrived, the second is on the second link, and the
-- third on the first
unfoldable thirty_steps : Plan
thirty_steps = record two_links_in_a_line { horizon = 30 }

cut_short : eight_after thirty_steps 30
    ≡ record { steps = 30; waiting = 0; running = 2; arrived = 1; first = 1 ∷ 1 ∷ 0 ∷ 0 ∷ [] }
unfolding loadings_on_literals trip two_links_in_a_line thirty_steps
cut_short = refl

abbrev both_links : List LinkNo
both_links = number 0 ∷ number 1 ∷ []

-- and where the second has no route, it is nowhere
unfoldable one_unrouted : Plan
one_unrouted = record thirty_steps { routes = Some both_links ∷ None ∷ Some both_links ∷ [] }

nowhere : eight_after one_unrouted 30
    ≡ record { steps = 30; waiting = 0; running = 1; arrived = 1; first = 1 ∷ 0 ∷ 0 ∷ 0 ∷ [] }
unfolding loadings_on_literals trip two_links_in_a_line thirty_steps one_unrouted
nowhere = refl
