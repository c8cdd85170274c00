-- What a command's matches tell of the uses in its words.
use Rattle.std.specs.Prelude.{◌≡◌, Bool, false, List, Some, None, codes}
use Rattle.std.specs.Prelude.{if◌then◌else◌}
use Rattle.std.specs.Str.{bytes_eq}
use Rattle.clap.specs.Matches.{first_value, one_text}
use Rattle.clap.specs.declared.parser.matches.Found.{Found}
use Rattle.flat_options.specs.Uses.{Takes, Text, Use, has_name, is_given, number_name, uses_of}
use Rattle.flat_options.specs.Uses.{value_in}

-- the text of a flag
abbrev pub flag_text : Bool → Text
flag_text given = if given then codes "true" else codes "false"

-- the words are uses, and the matches have the value of each option, and each flag; a name that the
-- command doesn't take has neither
pub record Reads (takes : Takes) (words : List Text) (found : Found) : Type 0 where
  pub uses : List Use
  pub all : uses_of takes words ≡ Some uses
  pub values : (name : Text) → has_name takes.flags name ≡ false
      → first_value found name ≡ value_in uses name
  pub flags : (name : Text) → has_name takes.options name ≡ false
      → bytes_eq name number_name ≡ false → one_text found name
      ≡ (if has_name takes.flags name then Some (flag_text (is_given uses name)) else None)
