-- Whole numbers in words.
use Rattle.std.specs.Prelude.{ℕ, ◌==◌, ◌&&◌, Bool, not, length, Option, Some, None, nat_le}
use Rattle.std.specs.Prelude.{if◌then◌else◌, option_and_then}
use Rattle.std.specs.List.{list_all}
use Rattle.std.specs.Char.{is_ascii_digit}
use Rattle.std.specs.Str.Parse.{digits_value}
use Rattle.flat_options.specs.Uses.{Text}
use Rattle.dta_words.specs.declared.numbers.TheConstants.{MOST_DIGITS}
use Rattle.dta_words.specs.declared.options.Bounds.{Bounds}

-- one to nine digits, leading zeros among them
abbrev pub is_number : Text → Bool
is_number text = not (length text == 0)
    && (nat_le (length text) MOST_DIGITS && list_all is_ascii_digit text)

-- the number that a word writes
abbrev pub number_of : Text → Option ℕ
number_of text = if is_number text then Some (digits_value 10 text) else None

abbrev pub when_between : ℕ → ℕ → ℕ → Option ℕ
when_between least most n = if nat_le least n && nat_le n most then Some n else None

-- the number that a word writes, if it is within the bounds
abbrev pub number_between : ℕ → ℕ → Text → Option ℕ
number_between least most text = option_and_then (when_between least most) (number_of text)

-- the number that an option gives, or what stands in its place
abbrev pub number_given : Bounds → Option Text → Option ℕ
number_given bounds None = Some bounds.default
number_given bounds (Some text) = number_between bounds.least bounds.most text
