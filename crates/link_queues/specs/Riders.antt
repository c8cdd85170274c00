-- Riders by what is known of them.
use Rattle.std.specs.Prelude.{ℕ, List, [], None}
use Rattle.dta_model.specs.Riders.{RiderState}

-- a rider who hasn't entered a link
abbrev pub setting_out : ℕ → ℕ → List ℕ → RiderState
setting_out number departure route =
    record { number = number; departure = departure; ahead = route; entries = []; arrival = None }
