use Rattle.std.proofs.Common.{◌∙◌, length, sym}
use Rattle.start_table.proofs.Named.{named_more, within_more}
use Rattle.start_table.proofs.walks.links_named.Goals as goal

pub loop-id-preserved : goal.loop-id-preserved
loop-id-preserved c = record {
  names =
      named_more c.args.index.now c.args.ids.now c.loop-id.id-index c.in-Some.place c.loop-id.links.items c.push.new.self.items
      c.loop-id-test.true (sym c.place.ensures.place ∙ c.in-Some.is) c.in_ok-push-in-Some.ensures.items c.loop-id.invariant.names;
  within =
      within_more (length c.args.index.now) c.in-Some.place c.loop-id.links.items c.push.new.self.items c.in-Some.ensures.within
      c.in_ok-push-in-Some.ensures.items c.loop-id.invariant.within;
}
