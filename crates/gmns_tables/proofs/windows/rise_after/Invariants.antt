use Rattle.std.proofs.Common.{◌≡◌, drop}
use Rattle.gmns_tables.specs.Windows.{rise_after}
use Rattle.gmns_tables.proofs.windows.rise_after.Given as goal

abbrev pub invariant-loop-window : goal.invariant-loop-window
invariant-loop-window l = rise_after l.fn.step l.windows ≡ rise_after l.before (drop l.window-index l.windows)
