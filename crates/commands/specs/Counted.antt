-- The counts over the loading of an iteration.
use Rattle.std.specs.Prelude.{◌≡◌, All}
use Rattle.dta_words.specs.declared.command.Command.TheVariants as command
use Rattle.dta_words.specs.declared.command.Settings.{Settings}
use Rattle.counts.specs.Through.{through_counts}
use Rattle.counts.specs.Turns.{IsOfNet, turn_counts}
use Rattle.assignment.specs.Assignment.{Traffic, VehicleRoutes, plan_of}
use Rattle.commands.specs.declared.counted.Counted.{Counted}
use Rattle.commands.specs.Texts.{asked_link, through_asked}

-- the counts over the loading of an iteration over these routes
pub record AreCountsOf (s : Settings) (traffic : Traffic) (routes : VehicleRoutes) (c : Counted)
    : Type 0 where
  pub turns : c.turns ≡ turn_counts (plan_of s traffic routes) s.bucket
  pub through : c.through ≡ through_asked (through_counts (plan_of s traffic routes))
      (asked_link traffic.net s.link)
  pub of_net : All (IsOfNet traffic.net s.horizon s.bucket) c.turns

-- they are there where the command asks for them
abbrev pub HasCounts : Settings → Traffic → VehicleRoutes → Counted → Type 0
HasCounts s traffic routes c = s.command ≡ command.Counts → AreCountsOf s traffic routes c
