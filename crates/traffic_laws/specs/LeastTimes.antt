-- A skim beside the routes that vehicles drive.
use Rattle.std.specs.Prelude.{◌≡◌, ◌≤◌, ℕ, List, Option, Some, slice_get}
use Rattle.net_core.specs.declared.rows.LinkNo.{LinkNo}
use Rattle.net_core.specs.declared.rows.NetRows.{NetRows}
use Rattle.dta_model.specs.Plans.{link_numbers}
use Rattle.dta_model.specs.Sound.{AreWalks}
use Rattle.dta_model.specs.TimedWalks.{walk_time}
use Rattle.dta_model.specs.declared.trip.Trip.{Trip}
use Rattle.skims.specs.Skim.{IsSkim}
use Rattle.skims.specs.declared.skim_entry.SkimEntry.{SkimEntry}

-- an entry has a time, and a route that starts in its step takes no less, in the same table
abbrev pub IsNoSlower : (ℕ → ℕ → ℕ) → NetRows → SkimEntry → List LinkNo → Type 0
IsNoSlower at net entry route =
    (least : ℕ) × (entry.least ≡ Some least)
    × (least ≤ walk_time at net entry.start (link_numbers route))

-- so it is of each entry of a skim and of each route that a vehicle has between its zones
abbrev pub SkimsAreNoSlower : Type 0
SkimsAreNoSlower =
    (at : ℕ → ℕ → ℕ) (net : NetRows) (starts : List ℕ) (entries : List SkimEntry)
    (trips : List Trip) (routes : List (Option (List LinkNo)))
    → IsSkim at net starts entries → AreWalks net trips routes
    → (i v : ℕ) (entry : SkimEntry) (trip : Trip) (route : List LinkNo)
    → slice_get entries i ≡ Some entry → slice_get trips v ≡ Some trip
    → slice_get routes v ≡ Some (Some route)
    → entry.origin ≡ trip.origin → entry.destination ≡ trip.destination
    → IsNoSlower at net entry route
