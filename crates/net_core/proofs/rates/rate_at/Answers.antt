use Rattle.std.proofs.Common.{sym, ◌∙◌}
use Rattle.std.specs.Prelude.{None}
use Rattle.net_core.specs.declared.rates.Window.{Window}
use Rattle.net_core.proofs.RatesFacts.{begun_next, begun_last, begun_end}
use Rattle.net_core.proofs.rates.rate_at.Goals as goal

abbrev no_window : Window
no_window = record { from = 0; rate = None }

pub returns-then-window-step : goal.returns-then-window-step
returns-then-window-step c =
    sym (begun_last c.loop-window.rate c.args.windows.now c.loop-window.window-index no_window
    c.args.step c.loop-window-test.true c.if-window-step.true)
    ∙ c.loop-window.invariant

pub loop-window-preserved : goal.loop-window-preserved
loop-window-preserved c =
    sym (begun_next c.loop-window.rate c.args.windows.now c.loop-window.window-index no_window
    c.args.step c.loop-window-test.true c.if-window-step.false)
    ∙ c.loop-window.invariant

pub returns : goal.returns
returns c =
    sym (begun_end c.loop-window.rate c.args.windows.now c.loop-window.window-index
    c.args.step c.loop-window-test.false)
    ∙ c.loop-window.invariant
