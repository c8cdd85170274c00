-- The steps that `--at` gives.
use Rattle.std.specs.Prelude.{ℕ, List, [], ◌∷◌, nat_lt, Option, Some, None}
use Rattle.std.specs.Prelude.{if◌then◌else◌, option_and_then}
use Rattle.flat_options.specs.Uses.{Text}
use Rattle.dta_words.specs.Numbers.{number_of}
use Rattle.dta_words.specs.Pieces.{list_of}
use Rattle.dta_words.specs.declared.options.TheConstants.{MOST_STARTS}

abbrev pub when_below : ℕ → ℕ → Option ℕ
when_below horizon step = if nat_lt step horizon then Some step else None

-- the step that a piece writes, below the horizon
abbrev pub start_of : ℕ → Text → Option ℕ
start_of horizon piece = option_and_then (when_below horizon) (number_of piece)

-- the steps that a text writes, where they aren't too many
abbrev pub starts_of : ℕ → Text → Option (List ℕ)
starts_of horizon text = list_of MOST_STARTS (start_of horizon) text

-- the steps that the option gives; where it isn't given they are step 0 alone
abbrev pub starts_given : ℕ → Option Text → Option (List ℕ)
starts_given horizon None = Some (0 ∷ [])
starts_given horizon (Some text) = starts_of horizon text
