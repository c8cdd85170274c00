use Rattle.std.proofs.Common.{◌≡◌, drop}
use Rattle.net_core.specs.Rates.{last_begun}
use Rattle.net_core.proofs.rates.rate_at.Given as goal

abbrev pub invariant-loop-window : goal.invariant-loop-window
invariant-loop-window l =
    last_begun l.rate (drop l.window-index l.windows) l.step ≡ last_begun l.fn.usual l.windows l.step
