-- The pieces of a text, and their values.
use Rattle.std.specs.Prelude.{ℕ, Bool, ◌==◌, List, [], ◌∷◌, length, nat_le, Option, Some, None}
use Rattle.std.specs.Prelude.{if◌then◌else◌, option_and_then, option_map}
use Rattle.std.specs.List.{slice_split}
use Rattle.flat_options.specs.Uses.{Text}

-- the byte is `;` (59)
abbrev pub is_semicolon : ℕ → Bool
is_semicolon byte = byte == 59

-- the pieces of a text between semicolons, of which there is always one
abbrev pub pieces_of : Text → List Text
pieces_of text = slice_split is_semicolon text

-- one value before others, where there are such
abbrev pub value_before : Option ℕ → Option (List ℕ) → Option (List ℕ)
value_before first rest = option_and_then (λ n. option_map (λ ns. n ∷ ns) rest) first

-- the values that pieces write, in their order, where each of them writes one
abbrev pub values_of : (Text → Option ℕ) → List Text → Option (List ℕ)
values_of value [] = Some []
values_of value (piece ∷ pieces) = value_before (value piece) (values_of value pieces)

-- the values that a text writes, where they aren't too many
abbrev pub list_of : ℕ → (Text → Option ℕ) → Text → Option (List ℕ)
list_of most value text =
    if nat_le (length (pieces_of text)) most then values_of value (pieces_of text) else None
