-- How far an assignment came, and what went out until then.
use Rattle.std.specs.Prelude.{ℕ, ◌≡◌, ◌⊎◌, List, [], ◌∷◌, ◌++◌}
use Rattle.desk_io.specs.Desk.{Taken}
use Rattle.pending_text.specs.Outs.{SomeCutOff, SomeOut}
use Rattle.gap.specs.declared.line.GapLine.{GapLine}
use Rattle.loader.specs.declared.loading.LoadFault.{LoadFault}
use Rattle.loader.specs.declared.loading.LoadFault.TheVariants as fault
use Rattle.dta_words.specs.declared.command.Settings.{Settings}
use Rattle.assignment.specs.Assignment.{Traffic, VehicleRoutes}
use Rattle.assignment.specs.Progress.{HasEnded, IsAssigned as AreDone, IsAt as IsBefore}
use Rattle.commands.specs.Outputs.{AreSinceTold, AreWatched}
use Rattle.commands.specs.Texts.{AreWatchLines, AreWatchTexts}
use Rattle.commands.specs.declared.iterated.Iterated.{Iterated}
use Rattle.assign_command.specs.declared.halt.Halt.{Halt}
use Rattle.assign_command.specs.declared.halt.Halt.TheVariants as halt
use Rattle.commands.specs.Counted.{HasCounts}

-- what a loading by workers that gave no journeys halts
abbrev pub halt_of : LoadFault → Halt
halt_of fault.Memory = halt.Memory
halt_of fault.WatchFault = halt.Watch

-- an iteration is about to be loaded over these routes, and the watch lines of those before it
-- went out
pub record IsAt (s : Settings) (traffic : Traffic) (number : ℕ) (routes : VehicleRoutes)
    (lines : List GapLine) (start now : Taken) : Type 0 where
  pub at : IsBefore s traffic number routes lines
  pub watched : SomeOut (AreWatchTexts s traffic 1 at.done) start now

-- an assignment ended before its last iteration was done: memory was wanting, or a watch line
-- couldn't be put
abbrev pub Halts : Settings → Traffic → Halt → Taken → Taken → Type 0
Halts s traffic halt.Memory start now =
    SomeOut (AreWatched s traffic) start now
Halts s traffic halt.Watch start now =
    SomeCutOff (AreWatched s traffic) start now

-- an assignment ended in the midst of an iteration over these routes. Where memory was wanting,
-- none of its watch lines went out, or all did
abbrev pub HaltsIn : Settings → Traffic → ℕ → VehicleRoutes → Halt → Taken → Taken → Type 0
HaltsIn s traffic iteration routes halt.Memory before now =
    (now ≡ before) ⊎ SomeOut (AreWatchLines s traffic iteration routes) before now
HaltsIn s traffic iteration routes halt.Watch before now =
    SomeCutOff (AreWatchLines s traffic iteration routes) before now

-- the last iteration, over these routes, was measured, and what its texts tell beside it was found
pub record IsMeasured (s : Settings) (traffic : Traffic) (routes : VehicleRoutes)
    (lines : List GapLine) (x : Iterated) : Type 0 where
  pub ended : HasEnded s traffic routes lines x.last
  pub since_told : AreSinceTold s.start s traffic x.since
  pub counted : HasCounts s traffic x.last.routes x.counts

-- all iterations are done and their watch lines went out: these are what the last one came to, and
-- the iterations of the routes and the counts where they are told
pub record IsAssigned (s : Settings) (traffic : Traffic) (a : Iterated) (start now : Taken)
    : Type 0 where
  pub ended : AreDone s traffic a.last
  pub watched : SomeOut (AreWatchTexts s traffic 1 (ended.done ++ a.last.routes ∷ [])) start now
  pub since_told : AreSinceTold s.start s traffic a.since
  pub counted : HasCounts s traffic a.last.routes a.counts
