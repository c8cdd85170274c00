-- The arguments of a command as clap builds them, and how clap looks them up.
use Rattle.std.proofs.Common.{◌≡◌, ◌∙◌, ◌||◌, ℕ, Bool, cond, codes, true, false, refl, ap, List, [], ◌∷◌, ◌++◌, map, Option, Some, None, if◌then◌else◌}
use Rattle.std.specs.Str.{bytes_eq}
use Rattle.std.proofs.lemmas.Slice.Eq.{bytes_eq-Decides}
use Rattle.clap.specs.Walk.{Rule, arg_by_id, arg_by_long, arg_by_index}
use Rattle.clap.specs.Simple.{Shape, built, filled_from, new_rule, new_shape}
use Rattle.clap.specs.declared.builder.action.ArgAction.TheVariants.{Set, SetTrue}
use Rattle.clap.specs.declared.builder.value_parser.ValueParser.TheVariants as vp
use Rattle.flat_options.specs.Uses.{Takes, Text, has_name, number_name}
use Rattle.flat_options.specs.Asked.{asked, asked_app, asked_numbers, asked_rules}

-- ---- as clap builds them

-- an argument with one value
abbrev pub text_rule : Text → Option Text → Option ℕ → Rule
text_rule name long index = record (new_rule name) {
  long = long;
  index = index;
  action = Some Set;
  range = Some (record { start_inclusive = 1; end_inclusive = 1 });
  parser = Some vp.String;
}

abbrev pub option_rule : Text → Rule
option_rule name = text_rule name (Some name) None

abbrev pub number_rule : Rule
number_rule = text_rule number_name None (Some 1)

abbrev pub flag_rule : Text → Rule
flag_rule name = record (new_rule name) {
  long = Some name;
  action = Some SetTrue;
  range = Some (record { start_inclusive = 0; end_inclusive = 0 });
  parser = Some vp.Bool;
  defaults = codes "false" ∷ [];
  missing = codes "true" ∷ [];
}

abbrev pub numbers : Bool → List Rule
numbers true = number_rule ∷ []
numbers false = []

abbrev pub rules_of : Takes → List Rule
rules_of takes = map option_rule takes.options
    ++ (map flag_rule takes.flags ++ numbers takes.number)

abbrev pub built_shape : Text → Takes → Shape
built_shape name takes = record (new_shape name) {
  rules = rules_of takes;
  disable_help_flag = true;
  disable_help_subcommand = true;
  disable_version_flag = true;
  is_built = true;
}

filled_names : (asks rule : Text → Rule)
    → ((n : Text) (rs : List Rule) → filled_from 1 (asks n ∷ rs) ≡ rule n ∷ filled_from 1 rs)
    → (names : List Text) (rest : List Rule)
    → filled_from 1 (map asks names ++ rest) ≡ map rule names ++ filled_from 1 rest
filled_names asks rule one [] rest = refl
filled_names asks rule one (n ∷ names) rest =
    one n (map asks names ++ rest) ∙ ap (λ rs. rule n ∷ rs) (filled_names asks rule one names rest)

filled_numbers : (b : Bool) → filled_from 1 (asked_numbers b) ≡ numbers b
filled_numbers true = refl
filled_numbers false = refl

pub filled_rules : (takes : Takes) → filled_from 1 (asked_rules takes) ≡ rules_of takes
filled_rules takes = filled_names (asked Set) option_rule (λ n rs. refl) takes.options _
    ∙ ap (λ rs. map option_rule takes.options ++ rs)
    (filled_names (asked SetTrue) flag_rule (λ n rs. refl) takes.flags _
    ∙ ap (λ rs. map flag_rule takes.flags ++ rs) (filled_numbers takes.number))

pub built_app : (name : Text) (takes : Takes)
    → built (asked_app name takes) ≡ record { top = built_shape name takes; subs = [] }
built_app name takes =
    ap (λ (rs : List Rule). record { top = record (built_shape name takes) { rules = rs }; subs = [] })
    (filled_rules takes)

-- ---- names

pub same_name : (m n : Text) → bytes_eq m n ≡ true → m ≡ n
same_name m n e = (bytes_eq-Decides m n).0 e

pub is_same : (n : Text) → bytes_eq n n ≡ true
is_same n = (bytes_eq-Decides n n).1 refl

-- ---- look-ups

-- the argument that a name after two dashes means
abbrev pub rule_named : Takes → Text → Option Rule
rule_named takes name = if has_name takes.options name then Some (option_rule name)
    else (if has_name takes.flags name then Some (flag_rule name) else None)

picked : (rule : Text → Rule) (n name : Text) (b c : Bool) (here past : Option Rule)
    → bytes_eq n name ≡ b → here ≡ cond c (Some (rule name)) past
    → cond b (Some (rule n)) here ≡ cond (b || c) (Some (rule name)) past
picked rule n name true c here past e rest = ap (λ m. Some (rule m)) (same_name n name e)
picked rule n name false c here past e rest = rest

-- what a look-up finds among the arguments of some names, and past them
found_in : (look : List Rule → Text → Option Rule) (rule : Text → Rule)
    → ((n : Text) (rs : List Rule) (name : Text)
    → look (rule n ∷ rs) name ≡ cond (bytes_eq n name) (Some (rule n)) (look rs name))
    → (names : List Text) (rest : List Rule) (name : Text)
    → look (map rule names ++ rest) name
    ≡ cond (has_name names name) (Some (rule name)) (look rest name)
found_in look rule one [] rest name = refl
found_in look rule one (n ∷ names) rest name =
    one n (map rule names ++ rest) name
    ∙ picked rule n name (bytes_eq n name) _ _ _ refl (found_in look rule one names rest name)

-- what passes each argument of some names passes them all
pub passed : {X : Type 0} (f : List Rule → X) (rule : Text → Rule)
    → ((n : Text) (rs : List Rule) → f (rule n ∷ rs) ≡ f rs) → (names : List Text) (rest : List Rule)
    → f (map rule names ++ rest) ≡ f rest
passed f rule one [] rest = refl
passed f rule one (n ∷ names) rest = one n (map rule names ++ rest) ∙ passed f rule one names rest

pub or_comm_false : (b : Bool) → (b || false) ≡ b
or_comm_false true = refl
or_comm_false false = refl

first_long : (n name : Text) (r : Rule) (past : Option Rule)
    → cond (bytes_eq n name || false) (Some r) past ≡ cond (bytes_eq n name) (Some r) past
first_long n name r past = ap (λ b. cond b (Some r) past) (or_comm_false (bytes_eq n name))

long_in_numbers : (b : Bool) (name : Text) → arg_by_long (numbers b) name ≡ None
long_in_numbers true name = refl
long_in_numbers false name = refl

pub by_long : (takes : Takes) (name : Text) → arg_by_long (rules_of takes) name ≡ rule_named takes name
by_long takes name =
    found_in arg_by_long option_rule (λ n rs m. first_long n m (option_rule n) (arg_by_long rs m))
    takes.options _ name
    ∙ ap (λ (o : Option Rule). cond (has_name takes.options name) (Some (option_rule name)) o)
    (found_in arg_by_long flag_rule (λ n rs m. first_long n m (flag_rule n) (arg_by_long rs m))
    takes.flags _ name
    ∙ ap (λ (o : Option Rule). cond (has_name takes.flags name) (Some (flag_rule name)) o)
    (long_in_numbers takes.number name))

-- clap finds an argument with a value under this name
pub record IsText (takes : Takes) (name : Text) : Type 0 where
  pub long : Option Text
  pub index : Option ℕ
  pub found : arg_by_id (rules_of takes) name ≡ Some (text_rule name long index)

pub option_is_text : (takes : Takes) (name : Text) → has_name takes.options name ≡ true
    → IsText takes name
option_is_text takes name has = record {
  long = Some name;
  index = None;
  found = found_in arg_by_id option_rule (λ n rs m. refl) takes.options _ name
      ∙ ap (λ b. cond b (Some (option_rule name)) (arg_by_id (map flag_rule takes.flags
      ++ numbers takes.number) name)) has;
}

pub number_is_text : (takes : Takes) → has_name takes.options number_name ≡ false
    → has_name takes.flags number_name ≡ false → takes.number ≡ true → IsText takes number_name
number_is_text takes no_option no_flag has = record {
  long = None;
  index = Some 1;
  found = found_in arg_by_id option_rule (λ n rs m. refl) takes.options _ number_name
      ∙ ap (λ b. cond b (Some (option_rule number_name)) (arg_by_id (map flag_rule takes.flags
      ++ numbers takes.number) number_name)) no_option
      ∙ found_in arg_by_id flag_rule (λ n rs m. refl) takes.flags _ number_name
      ∙ ap (λ b. cond b (Some (flag_rule number_name)) (arg_by_id (numbers takes.number)
      number_name)) no_flag
      ∙ ap (λ b. arg_by_id (numbers b) number_name) has;
}

pub by_index : (takes : Takes) (i : ℕ)
    → arg_by_index (rules_of takes) i ≡ arg_by_index (numbers takes.number) i
by_index takes i =
    passed (λ rs. arg_by_index rs i) option_rule (λ n rs. refl) takes.options _
    ∙ passed (λ rs. arg_by_index rs i) flag_rule (λ n rs. refl) takes.flags _
