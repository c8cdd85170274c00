-- Settings by what the words tell.
use Rattle.std.proofs.Common.{◌≡◌, ◌∙◌, Bool, cond, true, false, codes, refl, sym, ap, subst, arith}
use Rattle.std.proofs.Common.{drop, List, Option, Some, None, true≢false}
use Rattle.std.specs.Prelude.{MatchOption, option_and_then}
use Rattle.clap.specs.Matches.{first_value, found_of, one_text}
use Rattle.clap.specs.declared.parser.matches.ArgMatches.{ArgMatches}
use Rattle.clap.specs.declared.parser.matches.Found.{Found}
use Rattle.std.specs.Str.{bytes_eq}
use Rattle.flat_options.specs.Uses.{Takes, Text, has_name, is_given, number_name, uses_of, value_in}
use Rattle.flat_options.specs.Reading.{Reads, flag_text}
use Rattle.flat_options.proofs.ClapReads.{taken_where_given}
use Rattle.dta_words.specs.Options.{takes_of}
use Rattle.dta_words.specs.Grammar.{flags_in, settings_by, settings_from}
use Rattle.dta_words.specs.declared.command.Command.{Command}
use Rattle.dta_words.specs.declared.command.Command.TheVariants as command
use Rattle.dta_words.specs.declared.options.Flags.{Flags}

-- what clap finds in the words behind a command's name
pub matches_read : (c : Command) (words : List Text) (takes : Takes) (all : List Text)
    (found : Option ArgMatches) (m : ArgMatches) → takes ≡ takes_of c → all ≡ words
    → found ≡ Some m → MatchOption found (uses_of takes (drop 1 all) ≡ None)
    (λ m. Reads takes (drop 1 all) (found_of m)) → Reads (takes_of c) (drop 1 words) (found_of m)
matches_read c words takes all found m takes_is all_is found_is read =
    subst (λ t. Reads t (drop 1 words) (found_of m)) takes_is
    (subst (λ ws. Reads takes (drop 1 ws) (found_of m)) all_is
    (subst (λ o. MatchOption o (uses_of takes (drop 1 all) ≡ None)
    (λ m. Reads takes (drop 1 all) (found_of m))) found_is read))

-- the flags of a command are among those of an assignment
flags_among : (c : Command) (name : Text) → has_name (takes_of command.Assign).flags name ≡ false
    → has_name (takes_of c).flags name ≡ false
flags_among (command.Demo n) name e = grind arith
flags_among c name e = grind arith

-- settings read the values of names that no command has for a flag
same_settings : (c : Command) (v w : Text → Option Text) (flags : Flags)
    → ((name : Text) → has_name (takes_of command.Assign).flags name ≡ false → v name ≡ w name)
    → settings_by c v flags ≡ settings_by c w flags
same_settings c v w flags same = rw (
  same (codes "number") refl,
  same (codes "step") refl,
  same (codes "jam") refl,
  same (codes "length-unit") refl,
  same (codes "speed-unit") refl,
  same (codes "horizon") refl,
  same (codes "period") refl,
  same (codes "iterations") refl,
  same (codes "workers") refl,
  same (codes "bucket") refl,
  same (codes "wave") refl,
  same (codes "queue") refl,
  same (codes "costs") refl,
  same (codes "watch") refl,
  same (codes "at") refl,
  same (codes "link") refl,
  same (codes "scales") refl,
) refl

-- what clap's reader says of a flag, by its text
flag_by : (taken given read : Bool) (o : Option Text)
    → o ≡ cond taken (Some (flag_text given)) None → (given ≡ true → taken ≡ true)
    → (o ≡ None → read ≡ false) → (o ≡ Some (codes "true") → read ≡ true)
    → (o ≡ Some (codes "false") → read ≡ false) → read ≡ given
flag_by true true read o e some none set unset = set e
flag_by true false read o e some none set unset = unset e
flag_by false true read o e some none set unset = absurd (true≢false (sym (some refl)))
flag_by false false read o e some none set unset = none e

pub flag_read : (c : Command) (words : List Text) (found : Found)
    (r : Reads (takes_of c) words found) (name : Text) (read : Bool)
    → has_name (takes_of c).options name ≡ false → bytes_eq name number_name ≡ false
    → (one_text found name ≡ None → read ≡ false)
    → (one_text found name ≡ Some (codes "true") → read ≡ true)
    → (one_text found name ≡ Some (codes "false") → read ≡ false) → read ≡ is_given r.uses name
flag_read c words found r name read none other =
    flag_by (has_name (takes_of c).flags name) (is_given r.uses name) read (one_text found name)
    (r.flags name none other) (taken_where_given (takes_of c) words r.uses r.all name none other)

-- no command has these names for options with a value
pub plain_alone : (c : Command) → has_name (takes_of c).options (codes "plain") ≡ false
plain_alone (command.Demo n) = refl
plain_alone c = refl

pub start_alone : (c : Command) → has_name (takes_of c).options (codes "start") ≡ false
start_alone (command.Demo n) = refl
start_alone c = refl

pub settings_read : (c : Command) (words : List Text) (found : Found) (flags : Flags)
    (r : Reads (takes_of c) words found) → flags ≡ flags_in r.uses
    → settings_by c (first_value found) flags
    ≡ option_and_then (settings_from c) (uses_of (takes_of c) words)
settings_read c words found flags r is =
    same_settings c (first_value found) (value_in r.uses) flags
    (λ name e. r.values name (flags_among c name e))
    ∙ ap (settings_by c (value_in r.uses)) is ∙ sym (ap (option_and_then (settings_from c)) r.all)
