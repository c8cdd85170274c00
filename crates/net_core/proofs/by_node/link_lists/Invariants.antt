use Rattle.std.proofs.Common.{length}
use Rattle.net_core.specs.ByNode.{end_of, start_of}
use Rattle.net_core.specs.AreListed.{AreListed}
use Rattle.net_core.specs.Network.{as_links, numbers_below}
use Rattle.net_core.proofs.by_node.link_lists.Given as goal

abbrev pub invariant-loop-place : goal.invariant-loop-place
invariant-loop-place l = record {
  ins : AreListed l.ins (length l.nodes) (end_of l.links) (as_links (numbers_below l.place));
  outs : AreListed l.outs (length l.nodes) (start_of l.links) (as_links (numbers_below l.place));
}
