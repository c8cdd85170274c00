-- The limits of a command on the rows of its tables.
use Rattle.std.specs.Prelude.{ℕ, ◌≡◌, ◌≤◌, ◌<◌, ◌*◌, ◌+◌, ◌-◌, ⊤, nat_le, nat_lt, if◌then◌else◌}
use Rattle.std.specs.Prelude.{List, [], ◌∷◌, length, slice_get, find, Option, None, Some}
use Rattle.net_core.specs.Network.{numbers_below, zones}
use Rattle.dta_model.specs.Release.{vehicles_before}
use Rattle.dta_model.specs.declared.loading.TheConstants.{MOST_LINK_STEPS}
use Rattle.dta_model.specs.declared.trip.DemandCell.{DemandCell}
use Rattle.dta_model.specs.declared.trip.TheConstants.{MOST_TRIPS}
use Rattle.vehicle_release.specs.Limits.{IsFirstAbove, IsWithin}
use Rattle.dta_words.specs.declared.command.Settings.{Settings}
use Rattle.reports.specs.declared.refusal.Refusal.{Refusal}
use Rattle.reports.specs.declared.refusal.Refusal.TheVariants as refusal
use Rattle.reports.specs.declared.refusal.TheConstants.{MOST_SKIM_ENTRIES, MOST_SWEEP_LINK_STEPS}
use Rattle.scaled_demand.specs.Scales.{AreAllWithin, IsFirstTooMany, scaled}
use Rattle.jobs.specs.TableRows.{TableRows}

-- which rows are within the limits; which refusals tell a limit that rows are past; and the first
-- such refusal, in the order of the work
pub record Limits : Type 1 where
  pub within : Settings → TableRows → Type 0
  pub past : Settings → TableRows → Refusal → Type 0
  pub first_past : Settings → TableRows → Option Refusal

-- `freeflow` has no limits but those of its tables
abbrev pub no_limits : Limits
no_limits = record {
  within = λ s rows. ⊤;
  past = λ s rows r. ⊥;
  first_past = λ s rows. None;
}

-- the links of a network times the steps of a run are not too many
abbrev pub HasRoom : Settings → TableRows → Type 0
HasRoom s rows = length rows.links * s.horizon ≤ MOST_LINK_STEPS

-- these are the links and the steps, and they are above the limit
abbrev pub AreAbove : (limit : ℕ) → Settings → TableRows → (links steps : ℕ) → Type 0
AreAbove limit s rows links steps =
    (links ≡ length rows.links) × (steps ≡ s.horizon) × (limit < links * steps)

-- the first row of a demand table with which the vehicles are too many
abbrev pub first_above : List DemandCell → Option ℕ
first_above demand_cells =
    find (λ row. nat_lt MOST_TRIPS (vehicles_before demand_cells (row + 1)))
    (numbers_below (length demand_cells))

abbrev pub line_in : Option DemandCell → ℕ
line_in None = 0
line_in (Some cell) = cell.line

-- the refusal of that row, or what is next
abbrev pub vehicles_past : List DemandCell → Option ℕ → Option Refusal → Option Refusal
vehicles_past demand_cells None next = next
vehicles_past demand_cells (Some row) next = Some (refusal.Vehicles
    (line_in (slice_get demand_cells row))
    (vehicles_before demand_cells (row + 1)))

-- the limits of a loading: on its links times its steps, and then on its vehicles
abbrev pub loading_past : Settings → TableRows → Refusal → Type 0
loading_past s rows (refusal.Cells links steps) = AreAbove MOST_LINK_STEPS s rows links steps
loading_past s rows (refusal.Vehicles line total) =
    HasRoom s rows × IsFirstAbove rows.demand_cells line total
loading_past s rows _ = ⊥

abbrev pub loading_limits : Limits
loading_limits = record {
  within = λ s rows. HasRoom s rows × IsWithin rows.demand_cells;
  past = loading_past;
  first_past = λ s rows.
      if nat_le (length rows.links * s.horizon) MOST_LINK_STEPS
      then vehicles_past rows.demand_cells (first_above rows.demand_cells) None
      else Some (refusal.Cells (length rows.links) s.horizon);
}

-- the entries of a skim: each ordered pair of different zones, for each start
abbrev pub skim_entries : Settings → TableRows → ℕ
skim_entries s rows =
    let zones = length (zones rows.nodes) in zones * (zones - 1) * length s.starts

-- the limits of a skim: on its links times its steps, and then on its entries
abbrev pub skim_past : Settings → TableRows → Refusal → Type 0
skim_past s rows (refusal.Cells links steps) = AreAbove MOST_LINK_STEPS s rows links steps
skim_past s rows (refusal.SkimPairs number) =
    HasRoom s rows × (number ≡ skim_entries s rows) × (MOST_SKIM_ENTRIES < number)
skim_past s rows _ = ⊥

abbrev pub skim_limits : Limits
skim_limits = record {
  within = λ s rows. HasRoom s rows × (skim_entries s rows ≤ MOST_SKIM_ENTRIES);
  past = skim_past;
  first_past = λ s rows.
      if nat_le (length rows.links * s.horizon) MOST_LINK_STEPS
      then (if nat_le (skim_entries s rows) MOST_SKIM_ENTRIES then None
      else Some (refusal.SkimPairs (skim_entries s rows)))
      else Some (refusal.Cells (length rows.links) s.horizon);
}

-- the links times the steps are not too many for a sweep
abbrev pub HasSweepRoom : Settings → TableRows → Type 0
HasSweepRoom s rows = length rows.links * s.horizon ≤ MOST_SWEEP_LINK_STEPS

-- the refusal of the first scenario whose vehicles are too many
abbrev pub scales_past : List DemandCell → List ℕ → Option Refusal
scales_past demand_cells [] = None
scales_past demand_cells (scale ∷ scales) =
    vehicles_past (scaled scale demand_cells) (first_above (scaled scale demand_cells))
    (scales_past demand_cells scales)

-- the limits of a sweep: on its links times its steps, and then on the vehicles of each scenario
abbrev pub sweep_past : Settings → TableRows → Refusal → Type 0
sweep_past s rows (refusal.SweepCells links steps) =
    AreAbove MOST_SWEEP_LINK_STEPS s rows links steps
sweep_past s rows (refusal.Vehicles line total) =
    HasSweepRoom s rows
    × ((scenario : ℕ) × IsFirstTooMany rows.demand_cells s.scales scenario line total)
sweep_past s rows _ = ⊥

abbrev pub sweep_limits : Limits
sweep_limits = record {
  within = λ s rows. HasSweepRoom s rows × AreAllWithin rows.demand_cells s.scales;
  past = sweep_past;
  first_past = λ s rows.
      if nat_le (length rows.links * s.horizon) MOST_SWEEP_LINK_STEPS
      then scales_past rows.demand_cells s.scales
      else Some (refusal.SweepCells (length rows.links) s.horizon);
}
