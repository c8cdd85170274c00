-- What is asked of clap for a command.
use Rattle.std.specs.Prelude.{Bool, true, false, List, [], ◌∷◌, ◌++◌, flat_map, map, Some}
use Rattle.std.specs.Borrow.{Bor}
use Rattle.clap.specs.Walk.{Rule, texts}
use Rattle.clap.specs.Simple.{App, new_rule, new_shape, on_top}
use Rattle.clap.specs.declared.builder.action.ArgAction.{ArgAction}
use Rattle.clap.specs.declared.builder.action.ArgAction.TheVariants.{Set, SetTrue}
use Rattle.flat_options.specs.Uses.{Takes, Text, number_name}
use Rattle.flat_options.specs.declared.flat.FlatOptions.{FlatOptions}

-- an argument with a name: an option with a value is set, and a flag is set true
abbrev pub asked : ArgAction → Text → Rule
asked what name = record (new_rule name) { long = Some name; action = Some what }

-- the number that stands alone
abbrev pub asked_number : Rule
asked_number = record (new_rule number_name) { action = Some Set }

-- the names in groups of names
abbrev pub names_in : List (Bor (List (Bor Text))) → List Text
names_in groups = flat_map (λ group. texts group.now) groups

-- what a command takes, by its groups of names
abbrev pub takes_in : FlatOptions → Takes
takes_in taken = record {
  options = names_in taken.options.now;
  flags = names_in taken.flags.now;
  number = taken.number;
}

abbrev pub asked_numbers : Bool → List Rule
asked_numbers true = asked_number ∷ []
asked_numbers false = []

abbrev pub asked_rules : Takes → List Rule
asked_rules takes = map (asked Set) takes.options
    ++ (map (asked SetTrue) takes.flags ++ asked_numbers takes.number)

-- the command, with clap's own flags for help and version switched off
abbrev pub asked_app : Text → Takes → App
asked_app name takes = record {
  top = record (new_shape name) {
    rules = asked_rules takes;
    disable_help_flag = true;
    disable_version_flag = true;
  };
  subs = [];
}

-- the command with these arguments behind its own
abbrev pub with_rules : List Rule → App → App
with_rules rules a = on_top (λ s. record s { rules = s.rules ++ rules }) a

-- the command before it has arguments
abbrev pub bare_app : Text → App
bare_app name = record {
  top = record (new_shape name) { disable_help_flag = true; disable_version_flag = true };
  subs = [];
}
