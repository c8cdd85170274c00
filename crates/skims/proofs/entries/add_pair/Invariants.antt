use Rattle.std.proofs.Common.{take}
use Rattle.std.specs.Prelude.{slice_index}
use Rattle.dta_model.specs.LinkTimes.{time_at}
use Rattle.skims.specs.Growing.{Adds}
use Rattle.skims.specs.Skim.{IsEntryOf}
use Rattle.skims.specs.Questions.{questions_at}
use Rattle.skims.proofs.entries.add_pair.Given as goal

abbrev pub invariant-loop-start : goal.invariant-loop-start
invariant-loop-start l =
    Adds (IsEntryOf (time_at l.leasts.times) l.leasts.net)
    (questions_at (take l.start l.starts) (slice_index l.zones l.origin)
    (slice_index l.zones l.destination)) l.initial.entries.items l.entries.items
