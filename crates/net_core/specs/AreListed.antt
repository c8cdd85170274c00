-- Items by a number that each of them has.
use Rattle.std.specs.Prelude.{ℕ, ◌≡◌, ◌<◌, List, [], length, get_or, nat_eq, filter}

-- a list for each number below a bound, of the items that have it, in their order
pub record AreListed {T : Type 0} (lists : List (List T)) (bound : ℕ) (number : T → ℕ)
    (items : List T) : Type 0 where
  pub bounded : length lists ≡ bound
  pub listed : (n : ℕ) → n < bound
      → get_or lists n [] ≡ filter (λ item. nat_eq (number item) n) items
