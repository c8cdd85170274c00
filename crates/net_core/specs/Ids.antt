-- Identifiers by their places.
use Rattle.std.specs.Prelude.{ℕ, ◌&&◌, Bool, List, Option, position, nat_eq}

-- the place of an identifier among others
abbrev pub place_of : List ℕ → ℕ → Option ℕ
place_of ids id = position (nat_eq id) ids

abbrev pub pair_eq : ℕ × ℕ → ℕ × ℕ → Bool
pair_eq p q = nat_eq p.0 q.0 && nat_eq p.1 q.1

-- the place of a pair among others
abbrev pub place_of_pair : List (ℕ × ℕ) → ℕ → ℕ → Option ℕ
place_of_pair pairs a b = position (pair_eq (a, b)) pairs
