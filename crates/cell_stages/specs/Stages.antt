-- What nodes and links hold at each stage of a loading: lines, waiting lines, riders that arrived,
-- rooms and batches. In step t a node first transfers, which makes its moves and leaves batches in
-- the mail of its out-links; then it gathers the batches of its in-links.
use Rattle.std.specs.Prelude.{ℕ, zero, suc, ◌&&◌, not, List, [], ◌++◌, map, filter, Option}
use Rattle.dta_model.specs.Loading.{trace_after, is_onto}
use Rattle.dta_model.specs.NodeMoves.{node_moves, is_first}
use Rattle.dta_model.specs.Plans.{link_at, first_link, vehicles_of}
use Rattle.dta_model.specs.Riders.{RiderState, riders}
use Rattle.dta_model.specs.Room.{room}
use Rattle.dta_model.specs.Trace.{Move, leads_to, has_moved, queue_of}
use Rattle.dta_model.specs.declared.plan.Plan.{Plan}

-- the vehicles that don't move in a list of moves
abbrev pub staying : List Move → List ℕ → List ℕ
staying M vehicles = filter (λ v. not (has_moved v M)) vehicles

-- the vehicles that a list of moves brings to a link, in order
unfoldable pub brought : ℕ → List Move → List ℕ
brought l M = map (λ m. m.vehicle) (filter (leads_to l) M)

-- the vehicles that a list of moves leads out, in order
unfoldable pub arriving : List Move → List ℕ
arriving M = map (λ m. m.vehicle) (filter (λ m. not (is_onto m.target)) M)

-- the vehicles whose routes begin on a link and that haven't moved
unfoldable pub waiting_for : Plan → ℕ → List Move → List ℕ
waiting_for p b T = filter (λ v. is_first b (first_link p v) && not (has_moved v T)) (vehicles_of p)

-- the line of an in-link before the transfer of step t, and after it
unfoldable pub line_before : Plan → ℕ → ℕ → List RiderState
line_before p t l = riders p (trace_after p t) (queue_of l (trace_after p t))

unfoldable pub line_after : Plan → ℕ → ℕ → ℕ → List RiderState
line_after p n t l =
    riders p (trace_after p t)
    (staying (node_moves p n t (trace_after p t)) (queue_of l (trace_after p t)))

-- the waiting line of an out-link before the transfer of step t, and after it
unfoldable pub waiting_before : Plan → ℕ → ℕ → List RiderState
waiting_before p t b = riders p (trace_after p t) (waiting_for p b (trace_after p t))

unfoldable pub waiting_after : Plan → ℕ → ℕ → ℕ → List RiderState
waiting_after p n t b =
    riders p (trace_after p t)
    (staying (node_moves p n t (trace_after p t)) (waiting_for p b (trace_after p t)))

-- the riders that a node's moves M lead out, each as it then is
abbrev pub arrive_by : Plan → List Move → List Move → List RiderState
arrive_by p T M = riders p (T ++ M) (arriving M)

-- the riders that arrived at a node in the first steps
unfoldable pub arrived_before : Plan → ℕ → ℕ → List RiderState
arrived_before p n zero = []
arrived_before p n (suc t) =
    arrived_before p n t ++ arrive_by p (trace_after p t) (node_moves p n t (trace_after p t))

-- the mail of link l before the transfer of step t: its room
unfoldable pub room_mail : Plan → ℕ → ℕ → Option ℕ
room_mail p l t = room p l t (trace_after p t)

abbrev pub batch_by : Plan → ℕ → List Move → List Move → List RiderState
batch_by p l T M = riders p (T ++ M) (brought l M)

-- the mail of link l after the transfer of step t: its batch, the riders that its first node's
-- moves bring to it
unfoldable pub batch_mail : Plan → ℕ → ℕ → List RiderState
batch_mail p l t =
    batch_by p l (trace_after p t) (node_moves p (link_at p l).from.0 t (trace_after p t))
