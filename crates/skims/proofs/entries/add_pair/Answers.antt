use Rattle.std.specs.Prelude.{slice_index}
use Rattle.dta_model.specs.LinkTimes.{time_at}
use Rattle.skims.specs.Skim.{IsEntryOf}
use Rattle.skims.proofs.EntryFacts.{entry-told}
use Rattle.skims.proofs.GrowthFacts.{adds-map}
use Rattle.skims.proofs.entries.add_pair.Goals as goal

pub loop-start-preserved : goal.loop-start-preserved
loop-start-preserved c =
    let at = time_at c.args.leasts.now.times in
    let net = c.args.leasts.now.net in
    let named = c.args.zones.now in
    let starts = c.args.starts.now in
    let o = c.args.origin in
    let d = c.args.destination in
    let i = c.loop-start.start in
    adds-map (IsEntryOf at net)
    (λ start. record { origin = slice_index named o; destination = slice_index named d; start = start })
    starts i 0
    (record { origin = slice_index named o; destination = slice_index named d; start = slice_index starts i; least = c.get.result })
    c.args.entries.now.items c.loop-start.entries.items c.push.new.self.items c.loop-start-test.true
    c.loop-start.invariant
    (entry-told at net named starts c.args.leasts.now.starts o d i c.get.result c.requires.zones c.requires.starts c.if-zones-origin.false c.get.ensures)
    c.in_ok-push.ensures.items
