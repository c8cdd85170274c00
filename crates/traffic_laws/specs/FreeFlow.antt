-- Free flow: nobody is faster, and nobody is slower where nothing binds. A table of link times says
-- how many steps a link takes who enters it in a step.
use Rattle.std.specs.Prelude.{◌≡◌, ◌<◌, ◌≤◌, ℕ, suc, ◌+◌, ◌&&◌, true, nat_eq, List, length, None}
use Rattle.std.specs.Prelude.{Some, count_by, slice_get}
use Rattle.net_core.specs.declared.rows.LinkNo.{LinkNo}
use Rattle.dta_model.specs.Laws.{visit_begins, visit_ends}
use Rattle.dta_model.specs.Least.{IsLeast}
use Rattle.dta_model.specs.LinkTimes.{penalty_to, table_of, time_at}
use Rattle.dta_model.specs.Loading.{journeys_of, step_moves, trace_after}
use Rattle.dta_model.specs.Plans.{all_nodes, departure_of, has_pass, link_allowance, link_at}
use Rattle.dta_model.specs.Plans.{link_numbers, route_of, turn_rates}
use Rattle.dta_model.specs.Sound.{IsSound}
use Rattle.dta_model.specs.TimedWalks.{walk_time}
use Rattle.dta_model.specs.Trace.{Move, is_of, leads_to, stands_on, target_at}
use Rattle.dta_model.specs.declared.loaded.Journey.{Journey}
use Rattle.dta_model.specs.declared.plan.Plan.{Plan}
use Rattle.dta_model.specs.declared.queue.Queue.TheVariants as queue
use Rattle.dta_model.specs.declared.trip.Trip.{Trip}

-- the table of free flow: a link takes its free-flow steps, whenever it is entered
abbrev pub free_flow : Plan → ℕ → ℕ → ℕ
free_flow p l step = (link_at p l).free

-- a visit to link l that begins in step a and ends in step b has taken the link's free-flow steps
-- at least, and the penalty of its turn besides; an arrival has no penalty
abbrev pub VisitsAreNoFaster : Type 0
VisitsAreNoFaster =
    (p : Plan) (v i l a b : ℕ) → slice_get (route_of p v) i ≡ Some l
    → visit_begins (journeys_of p) v i ≡ Some a → visit_ends (journeys_of p) v i ≡ Some b
    → a + (link_at p l).free + penalty_to p l (target_at (slice_get (route_of p v) (suc i))) ≤ b

-- no visit begins before the departure of its vehicle
abbrev pub NobodyIsEarly : Type 0
NobodyIsEarly =
    (p : Plan) (v i a : ℕ) → visit_begins (journeys_of p) v i ≡ Some a → departure_of p v ≤ a

-- of all moves up to a step, a vehicle makes no two in one step
abbrev pub MovesOnceInAStep : Type 0
MovesOnceInAStep =
    (p : Plan) → IsSound p → (t v step : ℕ)
    → count_by (λ m. is_of v m && nat_eq m.step step) (trace_after p t) ≤ 1

-- a trip that arrives in a step has taken the free-flow time of its route at least, and so the
-- least free-flow time between its zones
pub record IsNoFaster (p : Plan) (trip : Trip) (route : List LinkNo) (arrival : ℕ) : Type 0 where
  pub by_route : trip.departure + walk_time (free_flow p) p.net trip.departure (link_numbers route)
      ≤ arrival
  pub by_zones : (least : ℕ)
      → IsLeast (free_flow p) p.net trip.origin trip.destination trip.departure least
      → trip.departure + least ≤ arrival

abbrev pub TripsAreNoFaster : Type 0
TripsAreNoFaster =
    (p : Plan) → IsSound p → (v arrival : ℕ) (trip : Trip) (route : List LinkNo) (journey : Journey)
    → slice_get p.trips v ≡ Some trip → slice_get p.routes v ≡ Some (Some route)
    → slice_get (journeys_of p) v ≡ Some journey → journey.arrival ≡ Some arrival
    → IsNoFaster p trip route arrival

-- ---- where nothing binds
-- the moves of a step, and how many of them enter a link, leave it, and take the turn from a link
-- to another
abbrev pub moves_in : Plan → ℕ → List Move
moves_in p t = step_moves p t (trace_after p t) (all_nodes p)

abbrev pub entries_in : Plan → ℕ → ℕ → ℕ
entries_in p t l = count_by (leads_to l) (moves_in p t)

abbrev pub leavings_in : Plan → ℕ → ℕ → ℕ
leavings_in p t l = count_by (λ m. stands_on l (trace_after p t) m.vehicle) (moves_in p t)

abbrev pub turns_in : Plan → ℕ → ℕ → ℕ → ℕ
turns_in p t a b =
    count_by (λ m. leads_to b m && stands_on a (trace_after p t) m.vehicle) (moves_in p t)

-- nothing binds in a loading: queues are points; in each step fewer vehicles enter a link, leave it
-- and take a limited turn than it allows; and all routes leave a link with one penalty, here
-- `wait`. With several penalties the head of a link could hold up those behind it, who turn
-- elsewhere
pub record NothingBinds (p : Plan) (wait : ℕ → ℕ) : Type 0 where
  pub points : p.queue ≡ queue.Point
  pub entries : (t l : ℕ) → t < p.horizon → l < length p.net.links
      → entries_in p t l < link_allowance p l t
  pub leavings : (t l : ℕ) → t < p.horizon → l < length p.net.links
      → leavings_in p t l < link_allowance p l t
  pub turns : (t a b : ℕ) → t < p.horizon
      → has_pass p (turn_rates p a b) t (turns_in p t a b) ≡ true
  pub penalties : (v i l : ℕ) → slice_get (route_of p v) i ≡ Some l
      → penalty_to p l (target_at (slice_get (route_of p v) (suc i))) ≡ wait l

-- a trip arrives exactly its route's free-flow time after its departure; one that hasn't arrived by
-- the horizon would have arrived at the horizon or later
pub record IsAtFreeFlow (p : Plan) (trip : Trip) (route : List LinkNo) (journey : Journey)
    : Type 0 where
  pub arrives : (arrival : ℕ) → journey.arrival ≡ Some arrival
      → arrival
      ≡ trip.departure + walk_time (free_flow p) p.net trip.departure (link_numbers route)
  pub later : journey.arrival ≡ None
      → p.horizon
      ≤ trip.departure + walk_time (free_flow p) p.net trip.departure (link_numbers route)

abbrev pub TripsAreAtFreeFlow : Type 0
TripsAreAtFreeFlow =
    (p : Plan) (wait : ℕ → ℕ) → IsSound p → NothingBinds p wait
    → (v : ℕ) (trip : Trip) (route : List LinkNo) (journey : Journey)
    → slice_get p.trips v ≡ Some trip → slice_get p.routes v ≡ Some (Some route)
    → slice_get (journeys_of p) v ≡ Some journey → IsAtFreeFlow p trip route journey

-- and where turns cost nothing each link time is the free-flow time. With a penalty the visit of
-- one who waits for it at the horizon counts longer
abbrev pub TimesAreFree : Type 0
TimesAreFree =
    (p : Plan) → IsSound p → NothingBinds p (λ l. 0)
    → (bucket l step : ℕ) → 1 ≤ bucket → l < length p.net.links
    → time_at (table_of p bucket) l step ≡ (link_at p l).free
