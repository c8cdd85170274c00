use Rattle.std.proofs.Common.{◌≡◌, take}
use Rattle.skims.proofs.ZoneFacts.{noted_in}
use Rattle.skims.proofs.zones.zone_ids.Given as goal

abbrev pub invariant-loop-node : goal.invariant-loop-node
invariant-loop-node l = record {
  found : l.found ≡ noted_in (take l.node l.net.nodes);
  ids : l.ids.items ≡ l.found;
}
