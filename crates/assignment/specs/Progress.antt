-- How far an assignment came.
use Rattle.std.specs.Prelude.{ℕ, ◌≡◌, ◌+◌, List, [], ◌∷◌, ◌++◌, length}
use Rattle.dta_model.specs.Loading.{journeys_of}
use Rattle.gap.specs.Gap.{IsGapLine}
use Rattle.gap.specs.declared.line.GapLine.{GapLine}
use Rattle.trip_costs.specs.Costs.{times_in}
use Rattle.route_flows.specs.Averages.{AreNextRoutes, AreStartedRoutes}
use Rattle.dta_words.specs.declared.command.Settings.{Settings}
use Rattle.assignment.specs.Assignment.{Traffic, VehicleRoutes, end_of, plan_of}
use Rattle.assignment.specs.Iterations.{AreIterations}
use Rattle.assignment.specs.Assignment.{costs_of, times_of, waits_told}
use Rattle.assignment.specs.Traffic.{AreRoutesOf}
use Rattle.assignment.specs.declared.iterations.Assigned.{Assigned}

-- the first iteration is about to be loaded over these routes
pub record HasBegun (traffic : Traffic) (routes : VehicleRoutes) (lines : List GapLine)
    : Type 0 where
  pub started : AreStartedRoutes traffic.net traffic.start traffic.trips routes
  pub routed : AreRoutesOf traffic routes
  pub none : lines ≡ []

-- the iteration of this number, over these routes, was measured: its gap came to the others, and
-- the next one is about to be loaded
pub record HasNext (s : Settings) (traffic : Traffic) (number : ℕ) (routes next : VehicleRoutes)
    (lines more : List GapLine) : Type 0 where
  pub line : GapLine
  pub pushed : more ≡ lines ++ line ∷ []
  pub gap : IsGapLine (costs_of s traffic routes) traffic.net traffic.trips routes line
  pub next_are : AreNextRoutes (costs_of s traffic routes) traffic.net traffic.trips number routes
      next
  pub routed : AreRoutesOf traffic next

-- the routes, the journeys, the link times, the waits at origins and the last state of an iteration
-- belong together
pub record IsLast (s : Settings) (traffic : Traffic) (a : Assigned) : Type 0 where
  pub routed : AreRoutesOf traffic a.routes
  pub journeys : a.loaded ≡ journeys_of (plan_of s traffic a.routes)
  pub times_are : times_in a.costs ≡ times_of s traffic a.routes
  pub waits_are : a.waits ≡ waits_told s traffic a.routes
  pub end_is : a.end ≡ end_of s traffic a.routes

-- the last iteration, over these routes, was measured, and its gap came to the others
pub record HasEnded (s : Settings) (traffic : Traffic) (routes : VehicleRoutes)
    (lines : List GapLine) (a : Assigned) : Type 0 where
  pub same : a.routes ≡ routes
  pub pushed : a.lines.items ≡ lines ++ a.line ∷ []
  pub gap : IsGapLine (costs_of s traffic a.routes) traffic.net traffic.trips a.routes a.line
  pub last : IsLast s traffic a

-- an iteration is about to be loaded over these routes, and those before it are done
pub record IsAt (s : Settings) (traffic : Traffic) (number : ℕ) (routes : VehicleRoutes)
    (lines : List GapLine) : Type 0 where
  pub done : List VehicleRoutes
  pub as_many : length done + 1 ≡ number
  pub with_gaps : length lines ≡ length done
  pub iterations : AreIterations s traffic (done ++ routes ∷ []) lines
  pub routed : AreRoutesOf traffic routes

-- all iterations are done: these are the last one's routes, journeys, link times, waits at origins,
-- last state and gap, and the gaps of all
pub record IsAssigned (s : Settings) (traffic : Traffic) (a : Assigned) : Type 0 where
  pub done : List VehicleRoutes
  pub as_many : length done + 1 ≡ s.iterations
  pub before : List GapLine
  pub with_gaps : length before ≡ length done
  pub lines_are : a.lines.items ≡ before ++ a.line ∷ []
  pub iterations : AreIterations s traffic (done ++ a.routes ∷ []) a.lines.items
  pub last : IsLast s traffic a
