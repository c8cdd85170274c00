-- The moves that a node makes in a step.
use Rattle.std.specs.Prelude.{ℕ, zero, suc, ◌+◌, ◌%◌, Bool, false, cond, ◌&&◌, not, nat_eq, nat_lt}
use Rattle.std.specs.Prelude.{nat_le, List, [], ◌∷◌, ◌++◌, length, Option, None, Some, slice_get}
use Rattle.std.specs.Prelude.{find, count_by, take, drop}
use Rattle.net_core.specs.declared.rows.Turn.{Turn}
use Rattle.dta_model.specs.Plans.{link_at, ins, outs, turn, turn_rates, link_allowance, has_pass}
use Rattle.dta_model.specs.Plans.{vehicle_count, vehicles_of, departure_of, first_link}
use Rattle.dta_model.specs.Room.{room, has_room}
use Rattle.dta_model.specs.Trace.{Move, Target, Onto, Arrived, leads_to, has_moved, last_move}
use Rattle.dta_model.specs.Trace.{queue_of, stands_on, next_target}
use Rattle.dta_model.specs.declared.plan.Plan.{Plan}

abbrev pub either : Option Move → Option Move → Option Move
either None other = other
either (Some m) other = Some m

-- the first move that a link of the list has
abbrev pub first_of : (ℕ → Option Move) → List ℕ → Option Move
first_of f [] = None
first_of f (l ∷ ls) = either (f l) (first_of f ls)

-- a list that begins at its place k, and goes on with what stands before it
abbrev pub rotated : ℕ → List ℕ → List ℕ
rotated k xs = drop k xs ++ take k xs

-- a move, where the test holds
abbrev pub where_true : Bool → Move → Option Move
where_true b m = cond b (Some m) None

-- whether the first link of a route is link b
abbrev pub is_first : ℕ → Option ℕ → Bool
is_first b None = false
is_first b (Some l) = nat_eq l b

-- what is made of the list with one more move; the list itself where there is no move
abbrev pub grow : (List Move → List Move) → List Move → Option Move → List Move
grow more M None = M
grow more M (Some m) = more (M ++ m ∷ [])

-- of node n in step t. T0 is the trace at the start of the step, M the node's moves in the step so
-- far
module _ (p : Plan) (n t : ℕ) (T0 : List Move) where
  -- how many of the moves left link l, how many entered link b, and how many did both
  unfoldable pub left : List Move → ℕ → ℕ
  left M l = count_by (λ m. stands_on l T0 m.vehicle) M

  unfoldable pub entered : List Move → ℕ → ℕ
  entered M b = count_by (leads_to b) M

  unfoldable pub turned : List Move → ℕ → ℕ → ℕ
  turned M l b = count_by (λ m. leads_to b m && stands_on l T0 m.vehicle) M

  -- whether link b lets one more in: by its allowance, and by its room at the start of the step
  unfoldable pub may_enter : List Move → ℕ → Bool
  may_enter M b =
      nat_lt (entered M b) (link_allowance p b t) && has_room (room p b t T0) (entered M b)

  abbrev pub turn_test : List Move → ℕ → ℕ → ℕ → Option Turn → Bool
  turn_test M ready l b None = false
  turn_test M ready l b (Some way) =
      nat_le (ready + way.penalty) t
      && has_pass p (turn_rates p l b) t (turned M l b)
      && may_enter M b

  -- whether a vehicle that is `ready` for the end of link l may go to link b: there is a turn, its
  -- penalty is served, it may be taken once more, and link b lets one in
  unfoldable pub may_turn : List Move → ℕ → ℕ → ℕ → Bool
  may_turn M ready l b = turn_test M ready l b (turn p l b)

  -- whether a vehicle may leave link l for its next target; `ready` is its entry step with the
  -- free-flow steps
  unfoldable pub may_move : List Move → ℕ → ℕ → Target → Bool
  may_move M l ready Arrived = nat_le ready t && nat_lt (left M l) (link_allowance p l t)
  may_move M l ready (Onto b) = nat_lt (left M l) (link_allowance p l t) && may_turn M ready l b

  -- the move of vehicle v from link l, by the move by which it came
  unfoldable pub leave_move : List Move → ℕ → ℕ → Option Move → Target → Option Move
  leave_move M l v None x = None
  leave_move M l v (Some entry) x =
      where_true (may_move M l (entry.step + (link_at p l).free) x)
      (record { step = t; vehicle = v; target = x })

  unfoldable pub first_move : List Move → ℕ → Option ℕ → Option Move
  first_move M l None = None
  first_move M l (Some v) = leave_move M l v (last_move v (T0 ++ M)) (next_target p (T0 ++ M) v)

  -- the move of the head of in-link l, if it may move. The head is the vehicle that entered first
  unfoldable pub head_move : List Move → ℕ → Option Move
  head_move M l = first_move M l (slice_get (queue_of l (T0 ++ M)) 0)

  -- whether a vehicle waits for link b: its route begins there, it is to depart by now, and it
  -- hasn't moved
  unfoldable pub waits_for : List Move → ℕ → ℕ → Bool
  waits_for M b v =
      is_first b (first_link p v) && nat_le (departure_of p v) t && not (has_moved v (T0 ++ M))

  unfoldable pub admit : List Move → ℕ → Option ℕ → Option Move
  admit M b None = None
  admit M b (Some v) =
      where_true (may_enter M b) (record { step = t; vehicle = v; target = Onto b })

  -- the move of the first vehicle that waits for out-link b, if it may move
  unfoldable pub admission : List Move → ℕ → Option Move
  admission M b = admit M b (find (waits_for M b) (vehicles_of p))

  -- the in-links in the order of the step: the one that comes first goes round with the steps
  unfoldable pub in_order : List ℕ
  in_order = rotated (t % length (ins p n)) (ins p n)

  -- the next move: of the first in-link whose head may move, or else of the first out-link that
  -- lets a waiting vehicle in
  unfoldable pub next_move : List Move → Option Move
  next_move M = either (first_of (head_move M) in_order) (first_of (admission M) (outs p n))

  -- M followed by next moves, until there is none, or so many
  unfoldable pub grown : ℕ → List Move → List Move
  grown zero M = M
  grown (suc most) M = grow (grown most) M (next_move M)

  -- the moves of the node in the step: next moves until there is none. No vehicle moves twice, so
  -- that there are no more than vehicles
  unfoldable pub node_moves : List Move
  node_moves = grown (vehicle_count p) []
