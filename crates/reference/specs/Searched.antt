-- What the search tells: the chosen walk among all walks.
use Rattle.std.specs.Prelude.{ℕ, ◌+◌, ◌<◌, ◌≤◌, List, length, Option, None, Some}
use Rattle.net_core.specs.Network.{IsNet}
use Rattle.net_core.specs.declared.rows.NetRows.{NetRows}
use Rattle.dta_model.specs.Least.{HaveNoWalk}
use Rattle.dta_model.specs.declared.loading.TheConstants.{MOST_HORIZON}
use Rattle.trip_costs.specs.Timings.{Links, Timing, Trips}
use Rattle.trip_costs.specs.TripWalks.{IsChosenBy}
use Rattle.reference.specs.Search.{search_within}

-- link times as tables have them: each link takes a step at least, and not more than these
pub record AreTimesWithin (most : ℕ) (at : ℕ → ℕ → ℕ) (net : NetRows) : Type 0 where
  pub least : (l step : ℕ) → l < length net.links → 1 ≤ at l step
  pub no_more : (l step : ℕ) → l < length net.links → at l step ≤ most

-- who enters a link later doesn't leave it earlier
abbrev pub NeverFalls : (ℕ → ℕ → ℕ) → Type 0
NeverFalls at = (l r s : ℕ) → r ≤ s → r + at l r ≤ s + at l s

-- costs over which the search finds chosen walks: such link times, or trips on links that are left
-- in the order of entry
abbrev pub AreCostsWithin : (most : ℕ) → Timing → NetRows → Type 0
AreCostsWithin most (Links at) net = AreTimesWithin most at net
AreCostsWithin most (Trips costs) net = NeverFalls costs.at

abbrev pub AreCosts : Timing → NetRows → Type 0
AreCosts costs net = AreCostsWithin MOST_HORIZON costs net

-- what a search tells: the chosen walk, or that there is no walk
abbrev pub Finds :
    Timing → NetRows → (origin destination start : ℕ) → Option (List ℕ) → Type 0
Finds costs net origin destination start None = HaveNoWalk net origin destination
Finds costs net origin destination start (Some walk) =
    IsChosenBy costs net origin destination start walk

abbrev pub WalksAreFound : Type 0
WalksAreFound =
    (most : ℕ) (costs : Timing) (net : NetRows) → IsNet net → AreCostsWithin most costs net
    → (origin destination start : ℕ)
    → Finds costs net origin destination start
    (search_within most costs net origin destination start)
