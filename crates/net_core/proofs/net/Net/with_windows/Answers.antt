use Rattle.net_core.proofs.ZonesFacts.{length-zones-le}
use Rattle.net_core.proofs.net.Net.with_windows.Goals as goal

pub invariant_of-result : goal.invariant_of-result
invariant_of-result c = record {
  rows = c.requires;
  ins = rw (c.deref.ensures.value, c.deref-2.ensures.value) at c.in_ok-lists.ensures.ins;
  outs = rw (c.deref.ensures.value, c.deref-2.ensures.value) at c.in_ok-lists.ensures.outs;
  named = rw (c.deref-3.ensures.value, c.deref-4.ensures.value, c.deref-5.ensures.value) at c.in_ok-named.ensures;
  pairs = rw c.deref-6.ensures.value at c.in_ok-pairs.ensures;
  zones = rw c.deref-7.ensures.value at c.in_ok-zones.ensures;
  few =
      let found = rw c.deref-7.ensures.value at c.in_ok-zones.ensures in
      rw found (length-zones-le c.args.nodes.items);
}
