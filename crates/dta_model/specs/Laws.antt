-- What is true of every loading.
use Rattle.std.specs.Prelude.{[], ◌≡◌, ℕ, suc, ◌+◌, ◌<◌, ◌≤◌, ◌⊎◌, true, false, not, List, ◌∷◌}
use Rattle.std.specs.Prelude.{◌++◌, length, map, filter, find, sum, All, Option, None, Some}
use Rattle.std.specs.Prelude.{option_and_then, option_to_list, slice_get}
use Rattle.net_core.specs.Network.{numbers_below}
use Rattle.dta_model.specs.Loading.{trace_after, is_entry, journeys_of}
use Rattle.dta_model.specs.NodeMoves.{next_move, node_moves}
use Rattle.dta_model.specs.Plans.{route_of}
use Rattle.dta_model.specs.Sound.{IsSound}
use Rattle.dta_model.specs.State.{is_due, waits, runs, due_after, waiting_in, running_in}
use Rattle.dta_model.specs.State.{arrived_in, count_on, eight_after, no_vehicles}
use Rattle.dta_model.specs.Trace.{Move, moves_of, has_moved, queue_of, leads_to, target_at}
use Rattle.dta_model.specs.declared.loaded.Journey.{Journey}
use Rattle.dta_model.specs.declared.plan.Plan.{Plan}

-- the moves of a node in a step end where there is no next move
abbrev pub NoMoveIsLeft : Type 0
NoMoveIsLeft =
    (p : Plan) → IsSound p → (n t : ℕ)
    → next_move p n t (trace_after p t) (node_moves p n t (trace_after p t)) ≡ None

-- in the trace of t steps each vehicle is at one place
pub record IsConserved (p : Plan) (t : ℕ) (T : List Move) : Type 0 where
  -- who isn't due hasn't moved
  pub due : (v : ℕ) → is_due p t v ≡ false → waits T v ≡ true
  -- due vehicles wait, run or have arrived
  pub totals : waiting_in p t T + running_in p t T + arrived_in p t T ≡ due_after p t
  -- who runs stands on a link, on one alone, at one place
  pub stands : (v : ℕ) → runs T v ≡ true → (l : ℕ) × (i : ℕ) × (slice_get (queue_of l T) i ≡ Some v)
  pub once : (l k i j v : ℕ) → slice_get (queue_of l T) i ≡ Some v
      → slice_get (queue_of k T) j ≡ Some v → (l ≡ k) × (i ≡ j)
  -- who stands on a link is due and runs
  pub moving : (l i v : ℕ) → slice_get (queue_of l T) i ≡ Some v
      → (is_due p t v ≡ true) × (runs T v ≡ true)
  -- in a sound loading that link is in the table
  pub within : IsSound p → (l i v : ℕ) → slice_get (queue_of l T) i ≡ Some v
      → l < length p.net.links

-- in one loading, after every step; and in all loadings
abbrev pub StaysConserved : Plan → Type 0
StaysConserved p = (t : ℕ) → IsConserved p t (trace_after p t)

abbrev pub VehiclesAreConserved : Type 0
VehiclesAreConserved = (p : Plan) → StaysConserved p

-- all links together hold the vehicles that run
abbrev pub QueuesAddUp : Type 0
QueuesAddUp =
    (p : Plan) → IsSound p → (t : ℕ)
    → sum (map (count_on (trace_after p t)) (numbers_below (length p.net.links)))
    ≡ running_in p t (trace_after p t)

-- no vehicle is on a link that isn't in the table
abbrev pub NoneOutside : Type 0
NoneOutside =
    (p : Plan) → IsSound p → (t l : ℕ) → length p.net.links ≤ l → queue_of l (trace_after p t) ≡ []

-- before the first step no vehicle is due, and none is on a link
abbrev pub NothingAtTheStart : Type 0
NothingAtTheStart = (p : Plan) → eight_after p 0 ≡ no_vehicles

-- a vehicle moves for the first time, or as the head of its link
abbrev pub MovesInOrder : List Move → Move → Type 0
MovesInOrder S m =
    (has_moved m.vehicle S ≡ false) ⊎ ((l : ℕ) × (slice_get (queue_of l S) 0 ≡ Some m.vehicle))

abbrev pub HeadsMove : Type 0
HeadsMove =
    (p : Plan) (t : ℕ) (S R : List Move) (m : Move) → trace_after p t ≡ S ++ m ∷ R
    → MovesInOrder S m

-- the moves of a vehicle follow its route: move i leads to the link at place i, and after the last
-- link it leads out
abbrev pub RoutesAreFollowed : Type 0
RoutesAreFollowed =
    (p : Plan) (t v i : ℕ) (m : Move) → slice_get (moves_of v (trace_after p t)) i ≡ Some m
    → m.target ≡ target_at (slice_get (route_of p v) i)

-- steps don't fall along a trace, and are below their number
abbrev pub StepsRise : Type 0
StepsRise =
    (p : Plan) (t : ℕ) (A B : List Move) (a : Move) → trace_after p t ≡ A ++ a ∷ B
    → (a.step < t) × All (λ b. a.step ≤ b.step) B

-- in a trace links are left in the order of entry: where moves a and b enter a link, in this
-- order, and c is the next move of the vehicle of b, the vehicle of a moves on between a and c
abbrev pub IsLeftInOrder : List Move → Type 0
IsLeftInOrder T =
    (l : ℕ) (A B C R : List Move) (a b c : Move)
    → T ≡ A ++ a ∷ (B ++ b ∷ (C ++ c ∷ R))
    → leads_to l a ≡ true → leads_to l b ≡ true
    → c.vehicle ≡ b.vehicle → has_moved b.vehicle C ≡ false
    → has_moved a.vehicle (B ++ b ∷ C) ≡ true

-- in one loading, after every step; and in all loadings
abbrev pub LinksAreLeftInOrder : Plan → Type 0
LinksAreLeftInOrder p = (t : ℕ) → IsLeftInOrder (trace_after p t)

abbrev pub LeftInOrder : Type 0
LeftInOrder = (p : Plan) → LinksAreLeftInOrder p

-- of two visits to one link the one that begins in an earlier step ends no later than the other,
-- or the other hasn't ended
abbrev pub VisitsEndInOrder : Type 0
VisitsEndInOrder =
    (p : Plan) (t u v i j l : ℕ) (a b c : Move)
    → slice_get (moves_of u (trace_after p t)) i ≡ Some a
    → slice_get (moves_of v (trace_after p t)) j ≡ Some b
    → leads_to l a ≡ true → leads_to l b ≡ true → a.step < b.step
    → slice_get (moves_of v (trace_after p t)) (suc j) ≡ Some c
    → (d : Move) × (slice_get (moves_of u (trace_after p t)) (suc i) ≡ Some d) × (d.step ≤ c.step)

-- the moves of a vehicle are its entries, and then perhaps its arrival
abbrev pub ArrivalIsLast : Type 0
ArrivalIsLast =
    (p : Plan) (t v : ℕ)
    → moves_of v (trace_after p t)
    ≡ filter is_entry (moves_of v (trace_after p t))
    ++ option_to_list (find (λ m. not (is_entry m)) (moves_of v (trace_after p t)))

-- the step in which visit i of a journey began, and that in which it ended: by the next entry, or
-- by the arrival after the last
abbrev pub visit_begins : List Journey → ℕ → ℕ → Option ℕ
visit_begins journeys v i = option_and_then (λ j. slice_get j.entries i) (slice_get journeys v)

abbrev pub visit_ends : List Journey → ℕ → ℕ → Option ℕ
visit_ends journeys v i =
    option_and_then (λ j. slice_get (j.entries ++ option_to_list j.arrival) (suc i))
    (slice_get journeys v)

-- the same in journeys: visit i of vehicle u and visit j of vehicle v are to link l, and begin in
-- steps a and b
abbrev pub EndInOrder : Plan → List Journey → Type 0
EndInOrder p journeys =
    (u v i j l a b end : ℕ)
    → slice_get (route_of p u) i ≡ Some l → slice_get (route_of p v) j ≡ Some l
    → visit_begins journeys u i ≡ Some a → visit_begins journeys v j ≡ Some b → a < b
    → visit_ends journeys v j ≡ Some end
    → (earlier : ℕ) × (visit_ends journeys u i ≡ Some earlier) × (earlier ≤ end)

abbrev pub JourneysEndInOrder : Type 0
JourneysEndInOrder = (p : Plan) → EndInOrder p (journeys_of p)
