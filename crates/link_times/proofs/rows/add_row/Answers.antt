use Rattle.std.proofs.Common.{refl}
use Rattle.link_times.proofs.RowFacts.{AreRowsTo_more}
use Rattle.link_times.proofs.rows.add_row.Goals as goal

pub loop-link-preserved : goal.loop-link-preserved
loop-link-preserved c =
    AreRowsTo_more c.args.links c.args.buckets c.args.bucket c.loop-link.link _ c.args.times.now c.loop-link.rows.items c.push.new.self.items c.loop-link-test.true refl c.in_ok-push.ensures.items c.loop-link.invariant
