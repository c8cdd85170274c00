use Rattle.std.specs.Prelude.{slice_index}
use Rattle.dta_model.specs.LinkTimes.{time_at}
use Rattle.skims.specs.Skim.{IsEntryOf}
use Rattle.skims.specs.Questions.{questions_between}
use Rattle.skims.proofs.GrowthFacts.{adds-flat}
use Rattle.skims.proofs.entries.add_origin.Goals as goal

pub loop-destination-preserved : goal.loop-destination-preserved
loop-destination-preserved c =
    adds-flat (IsEntryOf (time_at c.args.leasts.now.times) c.args.leasts.now.net)
    (questions_between c.args.starts.now (slice_index c.args.zones.now c.args.origin)) c.args.zones.now
    c.loop-destination.destination 0 c.args.entries.now.items c.loop-destination.entries.items
    c.add_pair.new.entries.items c.loop-destination-test.true c.loop-destination.invariant
    c.in_ok-add_pair.ensures
