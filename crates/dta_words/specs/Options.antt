-- The commands: their words, and what they take.
use Rattle.std.specs.Prelude.{ℕ, Bool, true, false, List, [], ◌∷◌, ◌++◌, codes, Option, Some, None}
use Rattle.std.specs.Prelude.{if◌then◌else◌, option_and_then}
use Rattle.std.specs.Str.{bytes_eq}
use Rattle.flat_options.specs.Uses.{Takes, Text, has_name}
use Rattle.dta_words.specs.Numbers.{number_between}
use Rattle.dta_words.specs.declared.command.Command.{Command}
use Rattle.dta_words.specs.declared.command.Command.TheVariants as command
use Rattle.dta_words.specs.declared.options.TheConstants.{LEAST_SIDE, MOST_SIDE}

-- the command that the first word names; a side that is still to be read stands at its least
abbrev pub word_of : Text → Option Command
word_of text = if bytes_eq text (codes "freeflow") then Some command.Freeflow
    else (if bytes_eq text (codes "assign") then Some command.Assign
    else (if bytes_eq text (codes "demo") then Some (command.Demo LEAST_SIDE)
    else (if bytes_eq text (codes "skim") then Some command.Skim
    else (if bytes_eq text (codes "counts") then Some command.Counts
    else (if bytes_eq text (codes "sweep") then Some command.Sweep
    else (if bytes_eq text (codes "audit") then Some command.Audit else None))))))

-- options that commands take together; a name's values stand in `Grammar`
abbrev everywhere : List Text
everywhere = codes "step" ∷ codes "jam" ∷ []

abbrev units : List Text
units = codes "length-unit" ∷ codes "speed-unit" ∷ []

abbrev times : List Text
times = codes "horizon" ∷ codes "bucket" ∷ []

abbrev loading : List Text
loading = codes "period" ∷ codes "queue" ∷ codes "wave" ∷ []

abbrev iterated : List Text
iterated = codes "iterations" ∷ codes "workers" ∷ codes "costs" ∷ []

abbrev watched : List Text
watched = codes "watch" ∷ []

abbrev plain : List Text
plain = codes "plain" ∷ []

-- what each command takes, by name
abbrev alone : Takes
alone = record { options = everywhere ++ units; flags = []; number = false }

abbrev pub takes_of : Command → Takes
takes_of command.Freeflow = alone
takes_of command.Assign = record alone {
  options = everywhere ++ units ++ times ++ loading ++ iterated ++ watched;
  flags = plain ++ codes "start" ∷ [];
}
takes_of (command.Demo n) = record {
  options = everywhere ++ times ++ loading ++ iterated ++ watched;
  flags = plain;
  number = true;
}
takes_of command.Skim = record alone { options = everywhere ++ units ++ times ++ codes "at" ∷ [] }
takes_of command.Counts = record alone {
  options = everywhere ++ units ++ times ++ loading ++ iterated ++ codes "link" ∷ [];
  flags = plain;
}
takes_of command.Sweep = record alone {
  options = everywhere ++ units ++ times ++ loading ++ iterated ++ codes "scales" ∷ [];
}
takes_of command.Audit = record alone { options = everywhere ++ units ++ times ++ loading }

-- whether it takes multiples of the demand
abbrev pub takes_scales : Command → Bool
takes_scales named = has_name (takes_of named).options (codes "scales")

-- the side of the grid has to be given
abbrev pub side_of : Option Text → Option ℕ
side_of None = None
side_of (Some text) = number_between LEAST_SIDE MOST_SIDE text

-- the command with its number: where it takes one, that is the side of a grid
abbrev pub command_of : Command → Option Text → Option Command
command_of named side = if (takes_of named).number
    then option_and_then (λ n. Some (command.Demo n)) (side_of side) else Some named
