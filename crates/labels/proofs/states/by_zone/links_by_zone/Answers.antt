use Rattle.std.proofs.Common.{length}
use Rattle.net_core.specs.Network.{zones}
use Rattle.labels.specs.States.Onwards.{begin_zone}
use Rattle.labels.proofs.OfStates.ByZoneFacts.{listed_more}
use Rattle.labels.proofs.states.by_zone.links_by_zone.Goals as goal

pub loop-link-preserved : goal.loop-link-preserved
loop-link-preserved c =
    listed_more c.loop-link.firsts c.note.new.self (length (zones c.args.net.now.nodes)) (begin_zone c.args.net.now) c.loop-link.link c.zone_of_begin.result c.zone_of_begin.ensures.is c.in_ok-note.ensures c.loop-link.invariant
