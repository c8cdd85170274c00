-- Least times between zones, as they are kept: to each zone, for each start, from each zone.
use Rattle.std.specs.Prelude.{◌≢◌, ℕ, List, Option}
use Rattle.std.specs.List.{AllZip}
use Rattle.std.specs.declared.alloc.Global.{Global}
use Rattle.std.proofs.Common.{Vec}
use Rattle.net_core.specs.Network.{zones}
use Rattle.net_core.specs.declared.rows.NetRows.{NetRows}
use Rattle.dta_model.specs.LinkTimes.{TimeTable}
use Rattle.trip_costs.specs.Timings.{Timing}
use Rattle.labels.specs.ToZone.{TellsLeast}

-- what least times are sought in, and for which starts
pub record Sought : Type 0 where
  pub net : NetRows
  pub times : TimeTable
  pub starts : List ℕ

-- the least time from a zone to another; nothing is said of a zone and itself
abbrev pub IsFrom : Timing → NetRows → ℕ → ℕ → ℕ → Option ℕ → Type 0
IsFrom costs net d start o least = o ≢ d → TellsLeast costs net o d start least

-- those from some zones
abbrev pub AreFrom : Timing → NetRows → List ℕ → ℕ → ℕ → List (Option ℕ) → Type 0
AreFrom costs net origins d start leasts = AllZip (IsFrom costs net d start) origins leasts

-- those from all zones, for some starts
abbrev pub AreTo : Timing → NetRows → List ℕ → ℕ → List (Vec (Option ℕ) Global) → Type 0
AreTo costs net starts d leasts =
    AllZip (λ start from. AreFrom costs net (zones net.nodes) d start from.items) starts leasts

-- those from all zones to some
abbrev pub AreBetween : Timing → NetRows → List ℕ → List ℕ
    → List (Vec (Vec (Option ℕ) Global) Global) → Type 0
AreBetween costs net starts destinations leasts =
    AllZip (λ d to. AreTo costs net starts d to.items) destinations leasts
