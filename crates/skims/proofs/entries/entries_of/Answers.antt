use Rattle.std.proofs.Common.{[]}
use Rattle.dta_model.specs.LinkTimes.{time_at}
use Rattle.skims.specs.Skim.{IsEntryOf}
use Rattle.skims.specs.Questions.{questions_from}
use Rattle.skims.proofs.GrowthFacts.{adds-flat}
use Rattle.skims.proofs.entries.entries_of.Goals as goal

pub loop-origin-preserved : goal.loop-origin-preserved
loop-origin-preserved c =
    adds-flat (IsEntryOf (time_at c.args.leasts.now.times) c.args.leasts.now.net)
    (questions_from c.args.zones.now c.args.starts.now) c.args.zones.now c.loop-origin.origin 0 []
    c.loop-origin.entries.items c.add_origin.new.entries.items c.loop-origin-test.true
    c.loop-origin.invariant c.in_ok-add_origin.ensures
