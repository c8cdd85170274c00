use Rattle.std.proofs.Common.{length}
use Rattle.net_core.specs.AreListed.{AreListed}
use Rattle.net_core.specs.Network.{numbers_below, zones}
use Rattle.labels.specs.States.Onwards.{begin_zone}
use Rattle.labels.proofs.states.by_zone.links_by_zone.Given as goal

abbrev pub invariant-loop-link : goal.invariant-loop-link
invariant-loop-link l = AreListed l.firsts (length (zones l.net.nodes)) (begin_zone l.net) (numbers_below l.link)
