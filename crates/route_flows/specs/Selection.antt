-- Who takes a new route after an iteration, and what first routes are by.
use Rattle.std.specs.Prelude.{ℕ, ◌+◌, ◌*◌, ◌/◌, ◌%◌, nat_eq, Bool, List, Option, None, Some}
use Rattle.std.specs.Prelude.{slice_index}
use Rattle.net_core.specs.declared.rows.LinkNo.{LinkNo}
use Rattle.net_core.specs.declared.rows.NetRows.{NetRows}
use Rattle.dta_model.specs.LinkTimes.{free_steps}
use Rattle.trip_costs.specs.Changes.{changes_after}
use Rattle.trip_costs.specs.declared.loading_costs.Costs.{Costs}
use Rattle.trip_costs.specs.declared.loading_costs.Costs.TheVariants as by

-- whether a vehicle takes a new route after iteration k: it is one in k + 1 of all vehicles, and
-- each iteration begins to count at another one
abbrev pub is_selected : ℕ → ℕ → Bool
is_selected vehicle k = nat_eq ((vehicle + k * k / 4) % (k + 1)) 0

-- whether a vehicle takes its chosen walk after iteration k, by either costs
abbrev pub renews : Costs → ℕ → ℕ → Bool
renews by.Links k vehicle = is_selected vehicle k
renews by.Trips k vehicle = changes_after vehicle k

-- each link takes its free-flow steps, whenever it is entered
unfoldable pub free_time : NetRows → ℕ → ℕ → ℕ
free_time net l step = slice_index (free_steps net) l

-- the walk that is there, or else another one
abbrev pub or_other : Option (List LinkNo) → Option (List LinkNo) → Option (List LinkNo)
or_other None other = other
or_other (Some walk) other = Some walk

-- the number of a first route, by the walk of a row that fits
abbrev pub first_number : Option (List LinkNo) → ℕ
first_number None = 1
first_number (Some walk) = 0
