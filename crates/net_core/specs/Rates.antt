-- Rates that change with the steps.
use Rattle.fixed_units.specs.declared.link.TheConstants.{MOST_RATE}
use Rattle.net_core.specs.declared.rates.Rates.{Rates}
use Rattle.net_core.specs.declared.rates.TheConstants.{MOST_WINDOWS, MOST_WINDOW_STEP}
use Rattle.net_core.specs.declared.rates.Window.{Window}
use Rattle.std.specs.Prelude.{ℕ, ◌≡◌, ◌<◌, ◌≤◌, cond, nat_le, List, [], ◌∷◌, length}
use Rattle.std.specs.Prelude.{All, IfSome, IsSome, Option, Some, slice_get}

-- the rate of the last of the windows that has begun by a step, and this one where none has
unfoldable pub last_begun : Option ℕ → List Window → ℕ → Option ℕ
last_begun rate [] step = rate
last_begun rate (w ∷ ws) step = cond (nat_le w.from step) (last_begun w.rate ws step) rate

-- the rate that holds in a step. None is no limit
abbrev pub rate_in : Rates → ℕ → Option ℕ
rate_in rates step = last_begun rates.usual rates.windows step

-- a rate that holds in all steps
abbrev pub steady : Option ℕ → Rates
steady rate = record { usual = rate; windows = [] }

-- windows that a link or a turn may have: none, or some that begin with step 0, each after the one
-- before, of rates in range
pub record AreWindows (ws : List Window) : Type 0 where
  pub few : length ws ≤ MOST_WINDOWS
  pub first : IfSome (slice_get ws 0) (λ w. w.from ≡ 0)
  pub rising : (i j : ℕ) (v w : Window) → i < j → slice_get ws i ≡ Some v → slice_get ws j ≡ Some w
      → v.from < w.from
  pub early : All (λ w. w.from ≤ MOST_WINDOW_STEP) ws
  pub range : All (λ w. IfSome w.rate (λ rate. rate ≤ MOST_RATE)) ws

-- rates that a link or a turn may have
pub record AreRates (rates : Rates) : Type 0 where
  pub usual : IfSome rates.usual (λ rate. rate ≤ MOST_RATE)
  pub windows : AreWindows rates.windows

-- windows of a link: each has a rate
pub record AreLinkWindows (ws : List Window) : Type 0 where
  pub windows : AreWindows ws
  pub given : All (λ w. IsSome w.rate) ws
