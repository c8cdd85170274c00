-- The multiples of the demand that `--scales` gives.
use Rattle.std.specs.Prelude.{ℕ, Bool, List, [], Option, Some, None}
use Rattle.std.specs.Prelude.{if◌then◌else◌, option_and_then}
use Rattle.std.specs.Result.{result_ok}
use Rattle.fixed_units.specs.Quantity.{milli_of}
use Rattle.flat_options.specs.Uses.{Text}
use Rattle.dta_words.specs.Numbers.{when_between}
use Rattle.dta_words.specs.Pieces.{list_of}
use Rattle.dta_words.specs.declared.options.TheConstants.{GREATEST_SCALE, LEAST_SCALE, MOST_SCALES}

-- the thousandths of the quantity that a piece writes, from one to ten thousand
abbrev pub scale_of : Text → Option ℕ
scale_of piece =
    option_and_then (when_between LEAST_SCALE GREATEST_SCALE) (result_ok (milli_of piece))

-- the multiples that a text writes, where they aren't too many
abbrev pub scales_in : Text → Option (List ℕ)
scales_in text = list_of MOST_SCALES scale_of text

-- the multiples that the option gives, which has to be given where a command takes it
abbrev pub scales_given : (taken : Bool) → Option Text → Option (List ℕ)
scales_given taken (Some text) = scales_in text
scales_given taken None = if taken then None else Some []
