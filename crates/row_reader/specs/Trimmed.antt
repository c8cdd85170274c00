-- A field without the blanks at its ends.
use Rattle.std.specs.Prelude.{ℕ, List, [], ◌∷◌, Bool, ◌==◌, ◌||◌, reverse, if◌then◌else◌}

-- a space or a tab
abbrev pub is_blank : ℕ → Bool
is_blank byte = (byte == 32) || (byte == 9)

-- without the blanks at its start
unfoldable pub drop_blanks : List ℕ → List ℕ
drop_blanks [] = []
drop_blanks (byte ∷ rest) = if is_blank byte then drop_blanks rest else byte ∷ rest

-- without the blanks at either end
abbrev pub trimmed : List ℕ → List ℕ
trimmed field = reverse (drop_blanks (reverse (drop_blanks field)))
