use Rattle.std.proofs.Common.{◌≡◌, ◌++◌, drop}
use Rattle.labels.specs.States.Onwards.{ways_over}
use Rattle.labels.proofs.states.network_router.add_ways.Given as goal

abbrev pub invariant-loop-next : goal.invariant-loop-next
invariant-loop-next l = l.ways.items ++ ways_over l.net l.states l.link.0 (drop l.next-index l.next-items) ≡ l.initial.ways.items ++ ways_over l.net l.states l.link.0 l.next-items
