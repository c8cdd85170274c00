-- The ranges of settings.
use Rattle.std.specs.Prelude.{ℕ, ◌≡◌, ◌≤◌, ◌<◌, true, List, length}
use Rattle.std.specs.List.{All}
use Rattle.dta_model.specs.Sound.{IsQueue}
use Rattle.dta_words.specs.Options.{takes_scales}
use Rattle.dta_words.specs.declared.command.Command.{Command}
use Rattle.dta_words.specs.declared.command.Command.TheVariants as command
use Rattle.dta_words.specs.declared.command.Settings.{Settings}

abbrev pub IsBetween : ℕ → ℕ → ℕ → Type 0
IsBetween least most n = (least ≤ n) × (n ≤ most)

-- a grid has 2 to 60 nodes on a side
abbrev pub IsSide : Command → Type 0
IsSide c = (n : ℕ) → c ≡ command.Demo n → IsBetween 2 60 n

-- there are 1 to 64 of the steps, and each is below the horizon
abbrev pub AreStarts : ℕ → List ℕ → Type 0
AreStarts horizon starts = IsBetween 1 64 (length starts) × All (λ step. step < horizon) starts

-- there are 1 to 16 multiples of the demand, each from a thousandth to ten times it
abbrev pub AreScales : List ℕ → Type 0
AreScales scales = IsBetween 1 16 (length scales) × All (IsBetween 1 10000) scales

-- what every settings keep, whatever the words
pub record AreSettings (s : Settings) : Type 0 where
  pub side : IsSide s.command
  pub step : IsBetween 1 60 s.units.delta
  pub jam : IsBetween 1 1000 s.units.jam
  pub horizon : IsBetween 1 86400 s.horizon
  pub period : IsBetween 1 s.horizon s.period
  pub iterations : IsBetween 1 1000 s.iterations
  pub workers : IsBetween 1 16 s.workers
  pub bucket : IsBetween 1 86400 s.bucket
  -- a backward wave goes 1 to 100 kilometres an hour
  pub queue : IsQueue s.queue
  pub watch : s.watch ≤ 86400
  pub starts : AreStarts s.horizon s.starts
  -- a command that takes multiples of the demand has them
  pub scales : takes_scales s.command ≡ true → AreScales s.scales
  -- an assignment alone may begin with a start table
  pub start : s.start ≡ true → s.command ≡ command.Assign
