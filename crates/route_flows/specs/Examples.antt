-- Who is selected, and the numbers of the limits.
use Rattle.std.specs.Prelude.{◌≡◌, [], ◌∷◌, true, false, map, refl}
use Rattle.net_core.specs.Network.{numbers_below}
use Rattle.route_flows.specs.Selection.{is_selected}
use Rattle.route_flows.specs.declared.selection.TheConstants.{MOST_ITERATION}
use Rattle.route_flows.specs.declared.flows.TheConstants.{MOST_WORKERS}

after_the_first : map (λ v. is_selected v 1) (numbers_below 4) ≡ true ∷ false ∷ true ∷ false ∷ []
after_the_first = refl

after_the_second : map (λ v. is_selected v 2) (numbers_below 6)
    ≡ false ∷ false ∷ true ∷ false ∷ false ∷ true ∷ []
after_the_second = refl

after_the_third : map (λ v. is_selected v 3) (numbers_below 5)
    ≡ false ∷ false ∷ true ∷ false ∷ false ∷ []
after_the_third = refl

-- ---- limits
last_iteration : MOST_ITERATION ≡ 1000
last_iteration = refl

all_workers : MOST_WORKERS ≡ 16
all_workers = refl
