-- Lines as lists of riders.
use Rattle.std.specs.Prelude.{ℕ, List, count_by, nat_lt}
use Rattle.dta_model.specs.Riders.{RiderState}

-- how many riders of a line are due after a number of steps: those whose departure is below it
abbrev pub due : ℕ → List RiderState → ℕ
due steps riders = count_by (λ rider. nat_lt rider.departure steps) riders
