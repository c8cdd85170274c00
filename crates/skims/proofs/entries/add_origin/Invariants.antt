use Rattle.std.proofs.Common.{take}
use Rattle.std.specs.Prelude.{slice_index}
use Rattle.dta_model.specs.LinkTimes.{time_at}
use Rattle.skims.specs.Growing.{Adds}
use Rattle.skims.specs.Skim.{IsEntryOf}
use Rattle.skims.specs.Questions.{questions_from}
use Rattle.skims.proofs.entries.add_origin.Given as goal

abbrev pub invariant-loop-destination : goal.invariant-loop-destination
invariant-loop-destination l =
    Adds (IsEntryOf (time_at l.leasts.times) l.leasts.net)
    (questions_from (take l.destination l.zones) l.starts (slice_index l.zones l.origin))
    l.initial.entries.items l.entries.items
