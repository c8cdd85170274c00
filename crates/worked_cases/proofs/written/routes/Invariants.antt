use Rattle.std.proofs.Common.{◌≡◌, map, take}
use Rattle.worked_cases.specs.Written.{way_links}
use Rattle.worked_cases.proofs.written.routes.Given as goal

abbrev pub invariant-loop-i : goal.invariant-loop-i
invariant-loop-i l = l.routes.items ≡ map way_links (take l.i l.ways)
