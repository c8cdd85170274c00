-- Where a vehicle is, by a trace and by its journey.
use Rattle.std.specs.Prelude.{ℕ, cond, List, [], ◌∷◌, length, Option, None, Some, slice_get}
use Rattle.net_core.specs.declared.rows.LinkNo.{LinkNo}
use Rattle.dta_model.specs.State.{is_routed}
use Rattle.dta_model.specs.Trace.{Move, Target, Onto, Arrived, last_move}
use Rattle.dta_model.specs.declared.plan.Plan.{Plan}
use Rattle.final_state.specs.declared.whereabouts.Whereabouts.{Whereabouts}
use Rattle.final_state.specs.declared.whereabouts.Whereabouts.TheVariants as whereabouts

-- where a move leads
abbrev pub whereabouts_to : Target → Whereabouts
whereabouts_to (Onto l) = whereabouts.OnLink (record { 0 = l })
whereabouts_to Arrived = whereabouts.Arrived

-- where a vehicle is that has a route, by its last move: it waits until it has moved
abbrev pub whereabouts_after : Option Move → Whereabouts
whereabouts_after None = whereabouts.Waiting
whereabouts_after (Some m) = whereabouts_to m.target

-- where a vehicle is by a trace
unfoldable pub whereabouts_at : Plan → List Move → ℕ → Whereabouts
whereabouts_at p T v = cond (is_routed p v) (whereabouts_after (last_move v T)) whereabouts.Unrouted

-- on the link of a route at a place; a route has one there
abbrev pub on_link : Option LinkNo → Whereabouts
on_link None = whereabouts.Waiting
on_link (Some l) = whereabouts.OnLink l

-- where a vehicle is by its route, the steps of its entries and that of its arrival: on the link
-- that it entered last, unless it has arrived
abbrev pub whereabouts_by : List LinkNo → List ℕ → Option ℕ → Whereabouts
whereabouts_by route entries (Some step) = whereabouts.Arrived
whereabouts_by route [] None = whereabouts.Waiting
whereabouts_by route (e ∷ entries) None = on_link (slice_get route (length entries))
