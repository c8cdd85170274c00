use Rattle.std.proofs.Common.{[], take}
use Rattle.std.specs.List.{flat_map}
use Rattle.dta_model.specs.LinkTimes.{time_at}
use Rattle.skims.specs.Growing.{Adds}
use Rattle.skims.specs.Skim.{IsEntryOf}
use Rattle.skims.specs.Questions.{questions_from}
use Rattle.skims.proofs.entries.entries_of.Given as goal

abbrev pub invariant-loop-origin : goal.invariant-loop-origin
invariant-loop-origin l =
    Adds (IsEntryOf (time_at l.leasts.times) l.leasts.net)
    (flat_map (questions_from l.zones l.starts) (take l.origin l.zones)) [] l.entries.items
