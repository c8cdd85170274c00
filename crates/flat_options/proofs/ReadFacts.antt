-- What a parse of a command's words tells.
use Rattle.std.proofs.Common.{◌≡◌, ◌∙◌, ◌&&◌, ℕ, Bool, true, false, not, refl, ap, ap₂}
use Rattle.std.proofs.Common.{inl, inr, List, [], ◌∷◌, ◌++◌, map, drop, None}
use Rattle.std.specs.Prelude.{count_by, is_some}
use Rattle.std.specs.List.{list_all, list_any}
use Rattle.clap.specs.Kinds.{HasKind, IsAmong, Kinds}
use Rattle.clap.specs.Faults.{fault_of, is_free_app, is_simple_and_free}
use Rattle.clap.specs.Simple.{App, is_ready, is_ready_leaf, is_simple, matches_of}
use Rattle.clap.specs.Walk.{Rule, is_early_multiple, rows_of}
use Rattle.clap.specs.Values.{kind_of}
use Rattle.clap.specs.declared.builder.action.ArgAction.TheVariants.{Set, SetTrue}
use Rattle.clap.specs.declared.error.Error.{Error}
use Rattle.clap.specs.declared.error.kind.ErrorKind.{ErrorKind}
use Rattle.clap.specs.declared.error.kind.ErrorKind.TheVariants as kind
use Rattle.clap.specs.declared.parser.matches.Found.{Found}
use Rattle.flat_options.specs.Uses.{LeavesNumber, Takes, Text, is_short, uses_of}
use Rattle.flat_options.specs.Asked.{asked, asked_app, asked_numbers}
use Rattle.flat_options.specs.Reading.{Reads}
use Rattle.flat_options.proofs.ClapRules.{built_app, flag_rule, numbers, option_rule, passed}
use Rattle.flat_options.proofs.ClapRules.{rules_of}
use Rattle.flat_options.proofs.ClapWalk.{Fails}
use Rattle.flat_options.proofs.ClapReads.{no_uses, reads}

-- ---- clap tells all of such a command

-- what is so of each kind of argument is so of all
all_rules : (p : Rule → Bool) (option flag : Text → Rule) (alone : Bool → List Rule)
    → ((n : Text) → p (option n) ≡ true) → ((n : Text) → p (flag n) ≡ true)
    → ((b : Bool) → list_all p (alone b) ≡ true) → (takes : Takes)
    → list_all p (map option takes.options ++ (map flag takes.flags ++ alone takes.number)) ≡ true
all_rules p option flag alone options flags number takes =
    passed (list_all p) option (λ n rs. ap (λ b. b && list_all p rs) (options n)) takes.options _
    ∙ passed (list_all p) flag (λ n rs. ap (λ b. b && list_all p rs) (flags n)) takes.flags _
    ∙ number takes.number

simple_number : (b : Bool) → list_all (λ a. a.is_simple) (asked_numbers b) ≡ true
simple_number true = refl
simple_number false = refl

built_number : (b : Bool) → list_all (λ a. a.is_simple) (numbers b) ≡ true
built_number true = refl
built_number false = refl

free_number : (b : Bool) → list_all (λ a. a.is_free) (numbers b) ≡ true
free_number true = refl
free_number false = refl

early_number : (n : ℕ) (b : Bool) → list_any (is_early_multiple n) (numbers b) ≡ false
early_number n true = refl
early_number n false = refl

-- no argument before the last one takes several values
none_early : (n : ℕ) (takes : Takes) → list_any (is_early_multiple n) (rules_of takes) ≡ false
none_early n takes =
    passed (list_any (is_early_multiple n)) option_rule (λ name rs. refl) takes.options _
    ∙ passed (list_any (is_early_multiple n)) flag_rule (λ name rs. refl) takes.flags _
    ∙ early_number n takes.number

pub simple : (name : Text) (takes : Takes) → is_simple (asked_app name takes) ≡ true
simple name takes =
    ap₂ (λ b (a : App). (b && true) && (is_ready a.top && list_all is_ready_leaf a.subs))
    (all_rules (λ a. a.is_simple) (asked Set) (asked SetTrue) asked_numbers (λ n. refl) (λ n. refl)
    simple_number takes) (built_app name takes)
    ∙ ap₂ (λ b c. (b && not c) && true)
    (all_rules (λ a. a.is_simple) option_rule flag_rule numbers (λ n. refl) (λ n. refl)
    built_number takes) (none_early (count_by (λ a. is_some a.index) (rules_of takes)) takes)

pub simple_and_free : (name : Text) (takes : Takes)
    → is_simple_and_free (asked_app name takes) ≡ true
simple_and_free name takes =
    ap₂ (λ b (a : App). b && is_free_app a) (simple name takes) (built_app name takes)
    ∙ ap (λ b. b && true) (all_rules (λ a. a.is_free) option_rule flag_rule numbers (λ n. refl)
    (λ n. refl) free_number takes)

-- ---- what a parse tells

pub read_whole : (takes : Takes) (name : Text) → LeavesNumber takes → (words : List Text)
    → list_any is_short (drop 1 words) ≡ false → (found : Found)
    → fault_of (asked_app name takes) words ≡ []
    → rows_of found ≡ matches_of (asked_app name takes) words
    → Reads takes (drop 1 words) found
read_whole takes name sound [] long found passes rows =
    reads takes name [] sound [] long found passes rows
read_whole takes name sound (first ∷ words) long found passes rows =
    reads takes name first sound words long found passes rows

some_kind : (k : ErrorKind) (kinds : Kinds) → IsAmong k kinds → Fails kinds
some_kind k [] h = h
some_kind k (x ∷ kinds) h = tt

pub read_nothing : (takes : Takes) (name : Text) → LeavesNumber takes → (words : List Text)
    → list_any is_short (drop 1 words) ≡ false → (error : Error)
    → HasKind (fault_of (asked_app name takes) words) error
    → (kind_of error ≡ kind.OutOfMemory → ⊥) → uses_of takes (drop 1 words) ≡ None
read_nothing takes name sound [] long error (inl memory) other = absurd (other memory)
read_nothing takes name sound [] long error (inr among) other =
    no_uses takes name [] sound [] long (some_kind _ _ among)
read_nothing takes name sound (first ∷ words) long error (inl memory) other =
    absurd (other memory)
read_nothing takes name sound (first ∷ words) long error (inr among) other =
    no_uses takes name first sound words long (some_kind _ _ among)
