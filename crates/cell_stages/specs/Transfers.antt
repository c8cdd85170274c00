-- What a program relies on that makes a node's moves on lines of riders: of the line of an in-link
-- at the start of the step, of a waiting line, of riders that move, and of lines that gather
-- batches.
use Rattle.std.specs.Prelude.{All, IsSome, List, None, Option, Some, [], cond, drop, false, filter}
use Rattle.std.specs.Prelude.{find, length, nat_eq, nat_le, option_map, slice_get, suc, ℕ, ◌&&◌}
use Rattle.std.specs.Prelude.{◌++◌, ◌+◌, ◌<◌, ◌∷◌, ◌≡◌, ◌≢◌}
use Rattle.std.specs.List.{last_or}
use Rattle.dta_model.specs.Loading.{trace_after, is_entry}
use Rattle.dta_model.specs.NodeMoves.{left, entered, turned, waits_for, leave_move, head_move}
use Rattle.dta_model.specs.Plans.{link_at, turn, vehicles_of, departure_of}
use Rattle.dta_model.specs.Riders.{moved, rider_at, riders}
use Rattle.dta_model.specs.Sound.{IsSound}
use Rattle.cell_stages.specs.Stages.{staying, brought, waiting_for, line_before, line_after}
use Rattle.cell_stages.specs.Stages.{waiting_before, waiting_after, batch_mail}
use Rattle.dta_model.specs.Trace.{Move, moves_of, has_moved, last_move, leads_to, next_target}
use Rattle.dta_model.specs.Trace.{stands_on, Onto, queue_of, target_at}
use Rattle.dta_model.specs.declared.plan.Plan.{Plan}

-- of a rider on a link: its last entry, its next target, and that it is under way
pub record RiderTells (p : Plan) (T : List Move) (v : ℕ) : Type 0 where
  pub entered : last_or None (rider_at p T v).entries ≡ option_map (λ m. m.step) (last_move v T)
  pub next : next_target p T v
      ≡ target_at (slice_get (rider_at p T v).ahead 0)
  pub under_way : (rider_at p T v).arrival ≡ None

abbrev pub RidersTell : Type 0
RidersTell =
    (p : Plan) (t l i v : ℕ) → slice_get (queue_of l (trace_after p t)) i ≡ Some v
    → RiderTells p (trace_after p t) v

-- a vehicle, where it is to depart by step t
abbrev pub first_due : Plan → ℕ → Option ℕ → Option ℕ
first_due p t None = None
first_due p t (Some v) = cond (nat_le (departure_of p v) t) (Some v) None

-- the first vehicle that waits for a link is the first that is left of its waiting line, if that
-- is to depart by now
abbrev pub FirstWaits : Type 0
FirstWaits =
    (p : Plan) → IsSound p → (n t b : ℕ) (T0 M : List Move)
    → find (waits_for p n t T0 M b) (vehicles_of p)
    ≡ first_due p t (slice_get (staying M (waiting_for p b T0)) 0)

-- the move of the first that is left of a line of the start of the step, by what was known of it
-- then
unfoldable pub line_move : Plan → ℕ → ℕ → List Move → List Move → ℕ → Option ℕ → Option Move
line_move p n t T0 M l None = None
line_move p n t T0 M l (Some v) = leave_move p n t T0 M l v (last_move v T0) (next_target p T0 v)

-- the head that may move is the first that is left of the line of the start of the step
abbrev pub HeadsOfLines : Type 0
HeadsOfLines =
    (p : Plan) → IsSound p → (n t : ℕ) (T0 M : List Move) → All (λ m. m.step ≡ t) M → (l : ℕ)
    → head_move p n t T0 M l ≡ line_move p n t T0 M l (slice_get (staying M (queue_of l T0)) 0)

-- whether a vehicle only entered links so far
abbrev pub OnlyEnters : List Move → ℕ → Type 0
OnlyEnters T v = filter is_entry (moves_of v T) ≡ moves_of v T

-- a move to the next target makes of a rider what `moved` says
abbrev pub RidersMove : Type 0
RidersMove =
    (p : Plan) (T : List Move) (m : Move)
    → OnlyEnters T m.vehicle → m.target ≡ next_target p T m.vehicle
    → rider_at p (T ++ m ∷ []) m.vehicle ≡ moved (rider_at p T m.vehicle) m.step

-- what changes where the first of the in-line of link l moves, from moves M to moves N
pub record LeavesLine (p : Plan) (T0 M N : List Move) (l v : ℕ) : Type 0 where
  -- the line loses its first; other lines and the waiting lines stay
  pub first : staying N (queue_of l T0) ≡ drop 1 (staying M (queue_of l T0))
  pub lines : (k : ℕ) → l ≢ k → staying N (queue_of k T0) ≡ staying M (queue_of k T0)
  pub waiting : (b : ℕ) → staying N (waiting_for p b T0) ≡ staying M (waiting_for p b T0)
  -- the vehicle was on that link, and on no other
  pub stands : (k : ℕ) → stands_on k T0 v ≡ nat_eq l k

-- what changes where the first of the waiting line of link b moves
pub record LeavesWaiting (p : Plan) (T0 M N : List Move) (b v : ℕ) : Type 0 where
  -- the waiting line loses its first; other waiting lines and the in-lines stay
  pub first : staying N (waiting_for p b T0) ≡ drop 1 (staying M (waiting_for p b T0))
  pub waiting : (c : ℕ) → b ≢ c → staying N (waiting_for p c T0) ≡ staying M (waiting_for p c T0)
  pub lines : (k : ℕ) → staying N (queue_of k T0) ≡ staying M (queue_of k T0)
  -- the vehicle was on no link
  pub stands : (k : ℕ) → stands_on k T0 v ≡ false

-- what a move of a vehicle that hasn't moved in the step changes
pub record OneMove (p : Plan) (T0 M : List Move) (m : Move) : Type 0 where
  pub line : (l : ℕ) → slice_get (staying M (queue_of l T0)) 0 ≡ Some m.vehicle
      → LeavesLine p T0 M (M ++ m ∷ []) l m.vehicle
  pub waiting : (b : ℕ) → slice_get (staying M (waiting_for p b T0)) 0 ≡ Some m.vehicle
      → LeavesWaiting p T0 M (M ++ m ∷ []) b m.vehicle
  -- the batch of the link that it enters gains it at the end, as it then is, and other batches
  -- stay
  pub comes : (b : ℕ) → riders p (T0 ++ (M ++ m ∷ [])) (brought b (M ++ m ∷ []))
      ≡ riders p (T0 ++ M) (brought b M)
      ++ cond (leads_to b m) (rider_at p (T0 ++ (M ++ m ∷ [])) m.vehicle ∷ []) []

abbrev pub MovesPass : Type 0
MovesPass =
    (p : Plan) (T0 M : List Move) (m : Move) → has_moved m.vehicle M ≡ false → OneMove p T0 M m

-- how the counts of a node grow by a move
pub record OneCount (p : Plan) (n t : ℕ) (T0 M : List Move) (m : Move) : Type 0 where
  pub left : (l : ℕ) → left p n t T0 (M ++ m ∷ []) l
      ≡ left p n t T0 M l + cond (stands_on l T0 m.vehicle) 1 0
  pub entered : (b : ℕ) → entered p n t T0 (M ++ m ∷ []) b
      ≡ entered p n t T0 M b + cond (leads_to b m) 1 0
  pub turned : (l b : ℕ) → turned p n t T0 (M ++ m ∷ []) l b
      ≡ turned p n t T0 M l b + cond (leads_to b m && stands_on l T0 m.vehicle) 1 0

abbrev pub MovesCount : Type 0
MovesCount = (p : Plan) (n t : ℕ) (T0 M : List Move) (m : Move) → OneCount p n t T0 M m

-- a link that a vehicle may take after link l: it is in the table, begins where link l ends, and
-- there is a turn to it
pub record LeadsOn (p : Plan) (l b : ℕ) : Type 0 where
  pub there : b < length p.net.links
  pub joins : (link_at p b).from.0 ≡ (link_at p l).to.0
  pub turn : IsSome (turn p l b)

-- the next link of a vehicle on a link is such
abbrev pub RoutesLeadOn : Type 0
RoutesLeadOn =
    (p : Plan) → IsSound p → (t l i v b : ℕ)
    → slice_get (queue_of l (trace_after p t)) i ≡ Some v
    → next_target p (trace_after p t) v ≡ Onto b
    → LeadsOn p l b

-- the line of an in-link in the next step is what the transfer left of it, and then the batch
abbrev pub LinesGather : Type 0
LinesGather =
    (p : Plan) → IsSound p → (t l : ℕ) → l < length p.net.links
    → line_before p (suc t) l ≡ line_after p (link_at p l).to.0 t l ++ batch_mail p l t

-- a waiting line in the next step is what the transfer left of it
abbrev pub WaitingLinesStay : Type 0
WaitingLinesStay =
    (p : Plan) → IsSound p → (t b : ℕ) → b < length p.net.links
    → waiting_before p (suc t) b ≡ waiting_after p (link_at p b).from.0 t b
