-- The moves of one vehicle, as its route and its journey tell them.
use Rattle.std.specs.Prelude.{◌≡◌, ℕ, suc, ◌+◌, ◌<◌, ◌≤◌, List, [], ◌∷◌, length, All, Option, None}
use Rattle.std.specs.Prelude.{Some, slice_index}
use Rattle.net_core.specs.declared.rows.LinkNo.{LinkNo}
use Rattle.dta_model.specs.TimedWalks.{penalty_steps}
use Rattle.dta_model.specs.Loading.{trace_after}
use Rattle.dta_model.specs.Plans.{link_at, link_numbers, turn}
use Rattle.dta_model.specs.Trace.{Move, Onto, Arrived, moves_of}
use Rattle.dta_model.specs.declared.plan.Plan.{Plan}

-- the moves of vehicle v, from link to link of a route in these steps, and then out, if it has
-- arrived
unfoldable pub moves_along : ℕ → List LinkNo → List ℕ → Option ℕ → List Move
moves_along v route [] None = []
moves_along v route [] (Some step) = record { step = step; vehicle = v; target = Arrived } ∷ []
moves_along v [] (e ∷ entries) arrival = []
moves_along v (l ∷ route) (e ∷ entries) arrival =
    record { step = e; vehicle = v; target = Onto l.0 } ∷ moves_along v route entries arrival

-- the link at a place of a route
abbrev pub link_on : List LinkNo → ℕ → ℕ
link_on route i = slice_index (link_numbers route) i

-- what is known of a vehicle of a sound loading
pub record HasGone (p : Plan) (v : ℕ) (route : List LinkNo) (entries : List ℕ)
    (arrival : Option ℕ) : Type 0 where
  pub moves : moves_of v (trace_after p p.horizon) ≡ moves_along v route entries arrival
  -- it entered links of its route, and those are in the table
  pub within : length entries ≤ length route
  pub links : All (λ l. l.0 < length p.net.links) route
  -- it moved before the horizon, in a link of its route at a time
  pub early : All (λ e. e < p.horizon) entries
  pub few : length entries ≤ p.horizon
  pub arrives : (s : ℕ) → arrival ≡ Some s → s < p.horizon
  -- each link took its free-flow steps at least, and the turn its penalty
  pub spaced : (i : ℕ) → suc i < length entries
      → slice_index entries i + (link_at p (link_on route i)).free
      + penalty_steps (turn p (link_on route i) (link_on route (suc i)))
      ≤ slice_index entries (suc i)
  pub ended : (i s : ℕ) → suc i ≡ length entries → arrival ≡ Some s
      → slice_index entries i + (link_at p (link_on route i)).free ≤ s
