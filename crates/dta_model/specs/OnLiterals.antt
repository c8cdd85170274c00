-- What a proof unfolds to compute a loading on literals.
use Rattle.std.specs.Prelude.{⊤}
use Rattle.net_core.specs.Network.{ins, outs, is_named, turn_at, turn}
use Rattle.net_core.specs.Rows.{link_in}
use Rattle.net_core.specs.Network.{turn_windows}
use Rattle.net_core.specs.Rates.{last_begun}
use Rattle.dta_model.specs.Allowance.{allowance, parts}
use Rattle.dta_model.specs.Loading.{after_step, trace_after, entries_of, arrival_of, journey_of}
use Rattle.dta_model.specs.Loading.{journeys_of}
use Rattle.dta_model.specs.Machine.{is_finished, finished, effect_of, run_machine, outcomes_of}
use Rattle.dta_model.specs.NodeMoves.{left, entered, turned, may_enter, may_turn, may_move}
use Rattle.dta_model.specs.NodeMoves.{leave_move, first_move, head_move, waits_for, admit}
use Rattle.dta_model.specs.NodeMoves.{admission, in_order, next_move, grown, node_moves}
use Rattle.dta_model.specs.Plans.{link_allowance, route_of, departure_of, first_link}
use Rattle.dta_model.specs.Release.{trips_of, in_order_of_departure, released, released_by}
use Rattle.dta_model.specs.Release.{departure, vehicles_of_row, vehicles_before}
use Rattle.dta_model.specs.Riders.{rider_at}
use Rattle.dta_model.specs.Room.{leavings, room}
use Rattle.dta_model.specs.State.{is_routed, is_due, waits, runs, has_arrived, due_after}
use Rattle.dta_model.specs.State.{waiting_in, running_in, arrived_in, count_on, eight_in}
use Rattle.dta_model.specs.State.{eight_after}
use Rattle.dta_model.specs.Trace.{moves_of, has_moved, last_moves, last_move, queue_of, moves_made}
use Rattle.dta_model.specs.Trace.{stands_on, next_target}
use Rattle.dta_model.specs.Units.{unit_count, task_of, phase_start, phase_end, moved_by, places}

-- the trips of a table
unfoldable pub releases_on_literals : ⊤
unfolding trips_of in_order_of_departure released released_by departure vehicles_of_row
    vehicles_before
releases_on_literals = tt

-- the trace of a plan
unfoldable pub traces_on_literals : ⊤
unfolding link_in ins outs is_named turn_at turn turn_windows last_begun parts allowance
    link_allowance route_of departure_of first_link moves_of has_moved last_moves last_move queue_of
    moves_made stands_on next_target leavings room left entered turned may_enter may_turn may_move
    leave_move first_move head_move waits_for admit admission in_order next_move grown node_moves
    after_step trace_after
traces_on_literals = tt

-- its journeys and states
unfoldable pub loadings_on_literals : ⊤
unfolding traces_on_literals entries_of arrival_of journey_of journeys_of is_routed is_due waits
    runs has_arrived due_after waiting_in running_in arrived_in count_on eight_in eight_after
    rider_at
loadings_on_literals = tt

-- claims of units
unfoldable pub claims_on_literals : ⊤
unfolding unit_count task_of phase_start phase_end moved_by places is_finished finished effect_of
    run_machine outcomes_of
claims_on_literals = tt
