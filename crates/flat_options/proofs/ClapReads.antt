-- What clap finds in the words of a command, from the walk to the getters.
use Rattle.std.proofs.Common.{◌≡◌, ◌∙◌, ◌&&◌, ◌||◌, Bool, cond, codes, true, false, not, refl, sym, ap, ap₂, subst, List, [], ◌∷◌, ◌++◌, map, Option, Some, None, true≢false}
use Rattle.std.specs.Prelude.{find, option_map, option_and_then, slice_get, ⊤, is_some}
use Rattle.std.specs.Bool.{MatchBool}
use Rattle.std.specs.Option.{option_map_or}
use Rattle.std.specs.List.{list_all, list_any, fold}
use Rattle.std.specs.Prelude.{unwrap_or}
use Rattle.std.specs.Str.{bytes_eq}
use Rattle.std.proofs.lemmas.Option.{cond_some, option_and_then_some}
use Rattle.clap.specs.Kinds.{Kinds, or_else}
use Rattle.clap.specs.Walk.{Row, Rule, Walk, finished, first_of, has_row, idle, more_values, nothing_held, one_of, row_text, rows_after, rows_of, settled, walk, with_default, with_values}
use Rattle.clap.specs.Simple.{App, Shape, entered, matches_of, names_of}
use Rattle.clap.specs.Faults.{built_fault, check_fault, default_fault, defaults_fault, entered_fault, fault_of, level_fault}
use Rattle.clap.specs.Takes.{is_given as has_use}
use Rattle.clap.specs.Values.{reading_of}
use Rattle.clap.specs.declared.builder.value_parser.ValueParser.TheVariants as vp
use Rattle.clap.specs.declared.error.kind.ErrorKind.TheVariants as kind
use Rattle.clap.specs.declared.parser.matches.Found.{Found}
use Rattle.clap.specs.declared.parser.matches.ValueSource.TheVariants.{DefaultValue}
use Rattle.clap.proofs.WalkLemmas.{both, first_value-rows, one_text-rows}
use Rattle.flat_options.specs.Uses.{LeavesNumber, Meaning, Takes, Text, Use, after_dash, dashed, each_once, gives, has_name, is_given, is_short_after, is_short_rest, joined_value, long_option, meaning_of, named, names, refused, uses_by, value_of, as_value, is_short, number_name, once_after, uses_in, uses_of, value_in}
use Rattle.flat_options.specs.Asked.{asked_app}
use Rattle.flat_options.specs.Reading.{Reads, flag_text}
use Rattle.flat_options.proofs.ClapRules.{built_app, built_shape, flag_rule, is_same, numbers, option_rule, passed, rules_of, same_name}
use Rattle.flat_options.proofs.ClapWalk.{Agrees, Fails, all_words, at_missing, faults, held, nothing_settles, or_false, row_with, rows_at_end, rows_for, rows_have, stand}

-- ---- after the walk

or_else_nil : (a : Kinds) → or_else a [] ≡ a
or_else_nil [] = refl
or_else_nil (k ∷ ks) = refl

or_true : (b : Bool) → (b || true) ≡ true
or_true true = refl
or_true false = refl

same_both : {X : Type 0} (b : Bool) (x : X) → cond b x x ≡ x
same_both true x = refl
same_both false x = refl

option_default : (rows : List Row) (name : Text) → default_fault rows (option_rule name) ≡ []
option_default rows name = same_both (has_row name rows || true) []

flag_default : (rows : List Row) (name : Text) → default_fault rows (flag_rule name) ≡ []
flag_default rows name = same_both (has_row name rows || false) []

names_default : (rule : Text → Rule) → ((rows : List Row) (n : Text) → default_fault rows (rule n) ≡ [])
    → (texts : List Text) (rest : List Rule) (rows : List Row)
    → ((rs : List Row) → defaults_fault rs rest ≡ [])
    → defaults_fault rows (map rule texts ++ rest) ≡ []
unfolding defaults_fault
names_default rule none [] rest rows h = h rows
names_default rule none (n ∷ texts) rest rows h =
    ap (λ k. or_else k (defaults_fault (with_default rows (rule n)) (map rule texts ++ rest))) (none rows n)
    ∙ names_default rule none texts rest (with_default rows (rule n)) h

numbers_default : (b : Bool) (rows : List Row) → defaults_fault rows (numbers b) ≡ []
unfolding defaults_fault
numbers_default false rows = refl
numbers_default true rows =
    ap (λ k. or_else k []) (same_both {X = Kinds} (has_row number_name rows || true) [])

no_default_fails : (takes : Takes) (rows : List Row) → defaults_fault rows (rules_of takes) ≡ []
no_default_fails takes rows = names_default option_rule option_default takes.options _ rows
    (λ rs. names_default flag_rule flag_default takes.flags _ rs (numbers_default takes.number))

numbers_required : (b : Bool) (rows : List Row)
    → list_any (λ a. a.required && not (has_use a.id rows)) (numbers b) ≡ false
numbers_required true rows = refl
numbers_required false rows = refl

no_check_fails : (takes : Takes) (command : Text) (rows : List Row)
    → check_fault (built_shape command takes) rows false ≡ []
no_check_fails takes command rows = ap (λ b. cond b (kind.MissingRequiredArgument ∷ []) [])
    (passed (list_any (λ a. a.required && not (has_use a.id rows))) option_rule (λ n rs. refl)
    takes.options _
    ∙ passed (list_any (λ a. a.required && not (has_use a.id rows))) flag_rule (λ n rs. refl)
    takes.flags _
    ∙ numbers_required takes.number rows)

-- ---- the whole parse

entered_nothing : (top : Shape) (stop : Option (Text × List Text))
    → entered (record { top = top; subs = [] }) stop ≡ None
entered_nothing top None = refl
entered_nothing top (Some p) = refl

nothing_below : (top : Shape) (stop : Option (Text × List Text))
    → entered_fault (record { top = top; subs = [] }) stop ≡ []
nothing_below top None = refl
nothing_below top (Some p) = refl

-- where the walk over the words begins
abbrev start : Walk
start = stand (held [] None) idle 1

joined_kinds : (a b c d : Kinds) → c ≡ [] → d ≡ []
    → or_else a (or_else [] (or_else b (or_else c d))) ≡ or_else a b
joined_kinds a b c d no_c no_d =
    ap₂ (λ x y. or_else a (or_else b (or_else x y))) no_c no_d ∙ ap (or_else a) (or_else_nil b)

level_is : (takes : Takes) (command : Text) (words : List Text) (entered_one : Bool) (below : Kinds)
    → entered_one ≡ false → below ≡ []
    → level_fault (built_shape command takes) [] nothing_held words entered_one below
    ≡ faults (built_shape command takes) start words
level_is takes command words entered_one below none nothing =
    ap₂ (level_fault (built_shape command takes) [] nothing_held words) none nothing
    ∙ joined_kinds _ _ _ _
    (no_default_fails takes
    (settled (rules_of takes) (walk (rules_of takes) [] nothing_held words).held).rows)
    (no_check_fails takes command
    (finished (rules_of takes) (walk (rules_of takes) [] nothing_held words).held))

pub faults_of_words : (takes : Takes) (command : Text) (first : Text) (words : List Text)
    → fault_of (asked_app command takes) (first ∷ words)
    ≡ faults (built_shape command takes) start words
faults_of_words takes command first words =
    ap (λ (a : App). built_fault a nothing_held words) (built_app command takes)
    ∙ level_is takes command words _ _
    (ap is_some (entered_nothing (built_shape command takes) _))
    (nothing_below (built_shape command takes) _)

pub rows_of_words : (takes : Takes) (command : Text) (first : Text) (words : List Text)
    → matches_of (asked_app command takes) (first ∷ words)
    ≡ fold with_default (rows_at_end (built_shape command takes) start words) (rules_of takes)
rows_of_words takes command first words =
    ap (λ (a : App). rows_after a.top.rules (names_of a) words) (built_app command takes)

-- ---- rows that are looked up

with_option : (rows : List Row) (name : Text) → with_default rows (option_rule name) ≡ rows
with_option rows name = same_both (has_row name rows) rows

with_options : (texts : List Text) (rest : List Rule) (rows : List Row)
    → fold with_default rows (map option_rule texts ++ rest) ≡ fold with_default rows rest
with_options texts rest rows = passed (fold with_default rows) option_rule
    (λ n rs. ap (λ r. fold with_default r rs) (with_option rows n)) texts rest

with_numbers : (b : Bool) (rows : List Row) → fold with_default rows (numbers b) ≡ rows
with_numbers false rows = refl
with_numbers true rows = same_both (has_row number_name rows) rows

abbrev row_at : Text → List Row → Option Row
row_at name rows = find (λ r. bytes_eq r.id name) rows

-- the row that stands for a flag that isn't given
abbrev flag_row : Text → Row
flag_row name = record {
  id = name;
  values = codes "false" ∷ [];
  count = None;
  source = Some DefaultValue;
  reading = reading_of vp.Bool;
}

with_flag : (rows : List Row) (name : Text) (b : Bool) → has_row name rows ≡ b
    → with_default rows (flag_rule name) ≡ cond b rows (rows ++ flag_row name ∷ [])
with_flag rows name true e = ap (λ b. cond b rows (with_values name (reading_of vp.Bool) DefaultValue
    (codes "false" ∷ []) rows)) e
with_flag rows name false e = ap (λ b. cond b rows (with_values name (reading_of vp.Bool) DefaultValue
    (codes "false" ∷ []) rows)) e
    ∙ at_missing name (more_values DefaultValue (codes "false" ∷ [])) (flag_row name ∷ []) rows e

find_more : (rows : List Row) (r : Row) (name : Text) (b : Bool) → bytes_eq r.id name ≡ b
    → row_at name (rows ++ r ∷ []) ≡ option_map_or (λ x. Some x) (row_at name rows) (cond b (Some r) None)
find_more [] r name b e = ap (λ b. cond b (Some r) None) e
find_more (x ∷ rows) r name b e = go (bytes_eq x.id name) (find_more rows r name b e)
  where
    go : (t : Bool)
        → row_at name (rows ++ r ∷ []) ≡ option_map_or (λ x. Some x) (row_at name rows) (cond b (Some r) None)
        → cond t (Some x) (row_at name (rows ++ r ∷ []))
        ≡ option_map_or (λ x. Some x) (cond t (Some x) (row_at name rows)) (cond b (Some r) None)
    go true h = refl
    go false h = h

kept_some : (o : Option Row) → option_map_or (λ x. Some x) o None ≡ o
kept_some None = refl
kept_some (Some x) = refl

-- another name's row stays
other_flag : (rows : List Row) (flag name : Text) (b : Bool) → bytes_eq flag name ≡ false
    → has_row flag rows ≡ b → row_at name (with_default rows (flag_rule flag)) ≡ row_at name rows
other_flag rows flag name true other e = ap (row_at name) (with_flag rows flag true e)
other_flag rows flag name false other e = ap (row_at name) (with_flag rows flag false e)
    ∙ find_more rows (flag_row flag) name false other ∙ kept_some (row_at name rows)

other_flags : (texts : List Text) (rest : List Rule) (rows : List Row) (name : Text)
    → has_name texts name ≡ false
    → ((rs : List Row) → row_at name (fold with_default rs rest) ≡ row_at name rs)
    → row_at name (fold with_default rows (map flag_rule texts ++ rest)) ≡ row_at name rows
other_flags [] rest rows name none h = h rows
other_flags (n ∷ texts) rest rows name none h =
    let parts = or_false _ _ none in
    other_flags texts rest (with_default rows (flag_rule n)) name parts.1 h
    ∙ other_flag rows n name _ parts.0 refl

pub value_row : (takes : Takes) (rows : List Row) (name : Text) → has_name takes.flags name ≡ false
    → row_at name (fold with_default rows (rules_of takes)) ≡ row_at name rows
value_row takes rows name none = ap (row_at name) (with_options takes.options _ rows)
    ∙ other_flags takes.flags (numbers takes.number) rows name none
    (λ rs. ap (row_at name) (with_numbers takes.number rs))

-- a row that is there stays
row_stays : (rows : List Row) (flag name : Text) (r : Row) (b : Bool) → has_row flag rows ≡ b
    → row_at name rows ≡ Some r → row_at name (with_default rows (flag_rule flag)) ≡ Some r
row_stays rows flag name r true e is = ap (row_at name) (with_flag rows flag true e) ∙ is
row_stays rows flag name r false e is = ap (row_at name) (with_flag rows flag false e)
    ∙ find_more rows (flag_row flag) name (bytes_eq flag name) refl
    ∙ ap (λ o. option_map_or (λ x. Some x) o (cond (bytes_eq flag name) (Some (flag_row flag)) None)) is

rows_stay : (texts : List Text) (rest : List Rule) (rows : List Row) (name : Text) (r : Row)
    → ((rs : List Row) → row_at name (fold with_default rs rest) ≡ row_at name rs)
    → row_at name rows ≡ Some r
    → row_at name (fold with_default rows (map flag_rule texts ++ rest)) ≡ Some r
rows_stay [] rest rows name r h is = h rows ∙ is
rows_stay (n ∷ texts) rest rows name r h is =
    rows_stay texts rest (with_default rows (flag_rule n)) name r h (row_stays rows n name r _ refl is)

found_or_none : (rows : List Row) (name : Text) (b : Bool) → has_row name rows ≡ b
    → row_at name rows ≡ cond b (Some (unwrap_or (row_at name rows) (flag_row name))) None
found_or_none [] name true e = absurd (true≢false (sym e))
found_or_none [] name false e = refl
found_or_none (x ∷ rows) name b e = go (bytes_eq x.id name) b e (found_or_none rows name b)
  where
    go : (t c : Bool) → (t || has_row name rows) ≡ c
        → (has_row name rows ≡ c
        → row_at name rows ≡ cond c (Some (unwrap_or (row_at name rows) (flag_row name))) None)
        → cond t (Some x) (row_at name rows)
        ≡ cond c (Some (unwrap_or (cond t (Some x) (row_at name rows)) (flag_row name))) None
    go true true u h = refl
    go true false u h = absurd (true≢false u)
    go false c u h = h u

-- the flag's row: its own, or the one of a flag that isn't given
own_row : (rows : List Row) (name : Text) (b : Bool) → has_row name rows ≡ b
    → row_at name (with_default rows (flag_rule name))
    ≡ Some (unwrap_or (row_at name rows) (flag_row name))
own_row rows name true e =
    ap (row_at name) (with_flag rows name true e) ∙ found_or_none rows name true e
own_row rows name false e = ap (row_at name) (with_flag rows name false e)
    ∙ find_more rows (flag_row name) name true (is_same name)
    ∙ ap (λ o. option_map_or (λ x. Some x) o (Some (flag_row name))) (found_or_none rows name false e)
    ∙ sym (ap (λ o. Some (unwrap_or o (flag_row name))) (found_or_none rows name false e))

flag_rows : (texts : List Text) (rest : List Rule) (rows : List Row) (name : Text)
    → has_name texts name ≡ true
    → ((rs : List Row) → row_at name (fold with_default rs rest) ≡ row_at name rs)
    → row_at name (fold with_default rows (map flag_rule texts ++ rest))
    ≡ Some (unwrap_or (row_at name rows) (flag_row name))
flag_rows [] rest rows name has h = absurd (true≢false (sym has))
flag_rows (n ∷ texts) rest rows name has h =
    go (bytes_eq n name) refl has (flag_rows texts rest (with_default rows (flag_rule n)) name)
  where
    go : (b : Bool) → bytes_eq n name ≡ b → (b || has_name texts name) ≡ true
        → (has_name texts name ≡ true
        → ((rs : List Row) → row_at name (fold with_default rs rest) ≡ row_at name rs)
        → row_at name (fold with_default (with_default rows (flag_rule n)) (map flag_rule texts ++ rest))
        ≡ Some (unwrap_or (row_at name (with_default rows (flag_rule n))) (flag_row name)))
        → row_at name (fold with_default (with_default rows (flag_rule n)) (map flag_rule texts ++ rest))
        ≡ Some (unwrap_or (row_at name rows) (flag_row name))
    go true e has' next = rows_stay texts rest (with_default rows (flag_rule n)) name _ h
        (subst (λ m. row_at name (with_default rows (flag_rule m))
        ≡ Some (unwrap_or (row_at name rows) (flag_row name))) (sym (same_name n name e))
        (own_row rows name _ refl))
    go false e has' next = next has' h
        ∙ ap (λ o. Some (unwrap_or o (flag_row name))) (other_flag rows n name _ e refl)

pub flag_row_is : (takes : Takes) (rows : List Row) (name : Text) → has_name takes.flags name ≡ true
    → row_at name (fold with_default rows (rules_of takes))
    ≡ Some (unwrap_or (row_at name rows) (flag_row name))
flag_row_is takes rows name has = ap (row_at name) (with_options takes.options _ rows)
    ∙ flag_rows takes.flags (numbers takes.number) rows name has
    (λ rs. ap (row_at name) (with_numbers takes.number rs))

-- ---- an option's use has a value, and a flag's has none

abbrev has_kind : Takes → Text → Option Text → Bool
has_kind takes name (Some v) = has_name takes.options name || bytes_eq name number_name
has_kind takes name None = has_name takes.flags name

abbrev AreKept : Takes → Option (List Use) → Type 0
AreKept takes None = ⊤
AreKept takes (Some uses) = list_all (λ u. has_kind takes u.0 u.1) uses ≡ true

abbrev IsKept : Takes → Meaning → Type 0
IsKept takes refused = ⊤
IsKept takes (gives u) = has_kind takes u.0 u.1 ≡ true
IsKept takes (names name) = has_name takes.options name ≡ true

number_kept : (takes : Takes) (word : Text) (b : Bool)
    → IsKept takes (cond b (gives (number_name, Some word)) refused)
number_kept takes word false = tt
number_kept takes word true = or_true (has_name takes.options number_name)

value_kept : (takes : Takes) (name v : Text) (b : Bool) → has_name takes.options name ≡ b
    → IsKept takes (cond b (gives (name, Some v)) refused)
value_kept takes name v false e = tt
value_kept takes name v true e = ap (λ b. b || bytes_eq name number_name) e

name_kept : (takes : Takes) (name : Text) (a b : Bool) → has_name takes.options name ≡ a
    → has_name takes.flags name ≡ b
    → IsKept takes (cond a (names name) (cond b (gives (name, None)) refused))
name_kept takes name true b e f = e
name_kept takes name false true e f = f
name_kept takes name false false e f = tt

named_kept : (takes : Takes) (name : Text) (v : Option Text) → IsKept takes (named takes name v)
named_kept takes name (Some v) = value_kept takes name v _ refl
named_kept takes name None = name_kept takes name _ _ refl refl

long_kept : (takes : Takes) (o : Option Text) → IsKept takes (long_option takes o)
long_kept takes None = tt
long_kept takes (Some []) = tt
long_kept takes (Some (x ∷ text)) = named_kept takes _ (joined_value (x ∷ text))

word_kept : (takes : Takes) (word : Text) (o : Option Text) → IsKept takes (dashed takes word o)
word_kept takes word None = number_kept takes word takes.number
word_kept takes word (Some rest) = long_kept takes (after_dash rest)

waited_kept : (takes : Takes) (name word : Text) (o : Option Text) → has_name takes.options name ≡ true
    → IsKept takes (as_value name o word)
waited_kept takes name word None e = ap (λ b. b || bytes_eq name number_name) e
waited_kept takes name word (Some rest) e = tt

more_kept : (takes : Takes) (u : Use) (o : Option (List Use)) → has_kind takes u.0 u.1 ≡ true
    → AreKept takes o → AreKept takes (option_map (λ uses. u ∷ uses) o)
more_kept takes u None e h = tt
more_kept takes u (Some uses) e h = ap₂ (λ a b. a && b) e h

by_kept : (takes : Takes) (m : Meaning) (rest : Option Text → Option (List Use)) → IsKept takes m
    → AreKept takes (rest None)
    → ((name : Text) → has_name takes.options name ≡ true → AreKept takes (rest (Some name)))
    → AreKept takes (uses_by m rest)
by_kept takes refused rest e none some = tt
by_kept takes (gives u) rest e none some = more_kept takes u (rest None) e none
by_kept takes (names name) rest e none some = some name e

uses_kept : (takes : Takes) (words : List Text) → AreKept takes (uses_in takes words None)
    × ((name : Text) → has_name takes.options name ≡ true → AreKept takes (uses_in takes words (Some name)))
uses_kept takes [] = (refl, λ name e. tt)
uses_kept takes (word ∷ words) =
    let rest = uses_kept takes words in (
      by_kept takes (meaning_of takes word) (uses_in takes words) (word_kept takes word (after_dash word))
          rest.0 rest.1,
      λ name e. by_kept takes (value_of name word) (uses_in takes words)
          (waited_kept takes name word (after_dash word) e) rest.0 rest.1,
    )

pub kept_in : (takes : Takes) (words : List Text) (uses : List Use)
    → uses_in takes words None ≡ Some uses → list_all (λ u. has_kind takes u.0 u.1) uses ≡ true
kept_in takes words uses e = subst (AreKept takes) e (uses_kept takes words).0

-- ---- what the getters read

read_value : (takes : Takes) (name : Text) → has_name takes.flags name ≡ false → (uses : List Use)
    → list_all (λ u. has_kind takes u.0 u.1) uses ≡ true
    → first_of name (rows_for uses) ≡ value_in uses name
read_value takes name none [] kept = refl
read_value takes name none (u ∷ uses) kept =
    let parts = both _ _ kept in
    go u.0 u.1 (bytes_eq u.0 name) refl parts.0 (read_value takes name none uses parts.1)
  where
    go : (n : Text) (v : Option Text) (b : Bool) → bytes_eq n name ≡ b → has_kind takes n v ≡ true
        → first_of name (rows_for uses) ≡ value_in uses name
        → first_of name (row_with n v ∷ rows_for uses)
        ≡ option_and_then (λ x. x.1) (cond b (Some (n, v)) (find (λ x. bytes_eq x.0 name) uses))
    go n (Some v) true e k h = ap (λ b. option_and_then (λ r. slice_get r.values 0)
        (cond b (Some (row_with n (Some v))) (row_at name (rows_for uses)))) e
    go n None true e k h = absurd (true≢false (sym k ∙ ap (has_name takes.flags) (same_name n name e)
        ∙ none))
    go n (Some v) false e k h = ap (λ b. option_and_then (λ r. slice_get r.values 0)
        (cond b (Some (row_with n (Some v))) (row_at name (rows_for uses)))) e ∙ h
    go n None false e k h = ap (λ b. option_and_then (λ r. slice_get r.values 0)
        (cond b (Some (row_with n None)) (row_at name (rows_for uses)))) e ∙ h

-- the text of the flag's row
abbrev flag_read : Text → Option Row → Option Text
flag_read name o = row_text (unwrap_or o (flag_row name))

read_flag : (takes : Takes) (name : Text) → has_name takes.options name ≡ false
    → bytes_eq name number_name ≡ false → (uses : List Use)
    → list_all (λ u. has_kind takes u.0 u.1) uses ≡ true
    → flag_read name (row_at name (rows_for uses)) ≡ Some (flag_text (is_given uses name))
read_flag takes name none other [] kept = refl
read_flag takes name none other (u ∷ uses) kept =
    let parts = both _ _ kept in
    go u.0 u.1 (bytes_eq u.0 name) refl parts.0 (read_flag takes name none other uses parts.1)
  where
    go : (n : Text) (v : Option Text) (b : Bool) → bytes_eq n name ≡ b → has_kind takes n v ≡ true
        → flag_read name (row_at name (rows_for uses)) ≡ Some (flag_text (is_given uses name))
        → flag_read name (row_at name (row_with n v ∷ rows_for uses))
        ≡ Some (flag_text (b || is_given uses name))
    go n None true e k h =
        ap (λ b. flag_read name (cond b (Some (row_with n None)) (row_at name (rows_for uses)))) e
    go n (Some v) true e k h = absurd (true≢false (sym k
        ∙ ap (λ m. has_name takes.options m || bytes_eq m number_name) (same_name n name e)
        ∙ ap₂ (λ a b. a || b) none other))
    go n (Some v) false e k h =
        ap (λ b. flag_read name (cond b (Some (row_with n (Some v))) (row_at name (rows_for uses)))) e ∙ h
    go n None false e k h =
        ap (λ b. flag_read name (cond b (Some (row_with n None)) (row_at name (rows_for uses)))) e ∙ h

-- a name that is neither an option nor the number is given where it is a flag alone
given_taken : (takes : Takes) (name : Text) → has_name takes.options name ≡ false
    → bytes_eq name number_name ≡ false → (uses : List Use)
    → list_all (λ u. has_kind takes u.0 u.1) uses ≡ true → is_given uses name ≡ true
    → has_name takes.flags name ≡ true
given_taken takes name none other [] kept e = absurd (true≢false (sym e))
given_taken takes name none other (u ∷ uses) kept e =
    let parts = both _ _ kept in
    go u.0 u.1 (bytes_eq u.0 name) refl parts.0 e (given_taken takes name none other uses parts.1)
  where
    go : (n : Text) (v : Option Text) (b : Bool) → bytes_eq n name ≡ b → has_kind takes n v ≡ true
        → (b || is_given uses name) ≡ true
        → (is_given uses name ≡ true → has_name takes.flags name ≡ true) → has_name takes.flags name ≡ true
    go n None true is k e h = ap (has_name takes.flags) (sym (same_name n name is)) ∙ k
    go n (Some v) true is k e h = absurd (true≢false (sym k
        ∙ ap (λ m. has_name takes.options m || bytes_eq m number_name) (same_name n name is)
        ∙ ap₂ (λ a b. a || b) none other))
    go n None false is k e h = h e
    go n (Some v) false is k e h = h e

pub taken_where_given : (takes : Takes) (words : List Text) (uses : List Use)
    → uses_of takes words ≡ Some uses → (name : Text) → has_name takes.options name ≡ false
    → bytes_eq name number_name ≡ false → is_given uses name ≡ true → has_name takes.flags name ≡ true
taken_where_given takes words uses e name none other =
    option_and_then_some each_once (uses_in takes words None) uses e (λ found is once.
    given_taken takes name none other uses
    (kept_in takes words uses (is ∙ ap Some (cond_some (once_after [] found) found uses once).1)))

-- the text of a flag that the command takes, and none of one that it doesn't
flag_or_none : (takes : Takes) (uses : List Use) (name : Text) → has_name takes.options name ≡ false
    → bytes_eq name number_name ≡ false → list_all (λ u. has_kind takes u.0 u.1) uses ≡ true
    → (b : Bool) → has_name takes.flags name ≡ b
    → option_and_then row_text (row_at name (fold with_default (rows_for uses) (rules_of takes)))
    ≡ cond b (Some (flag_text (is_given uses name))) None
flag_or_none takes uses name none other kept true has =
    ap (option_and_then row_text) (flag_row_is takes (rows_for uses) name has)
    ∙ read_flag takes name none other uses kept
flag_or_none takes uses name none other kept false lacks =
    ap (option_and_then row_text) (value_row takes (rows_for uses) name lacks
    ∙ found_or_none (rows_for uses) name false (rows_have uses name ∙ go (is_given uses name) refl))
  where
    go : (b : Bool) → is_given uses name ≡ b → b ≡ false
    go true e = absurd (true≢false (sym (given_taken takes name none other uses kept e) ∙ lacks))
    go false e = refl

-- ---- the whole

record Accepted (rows : List Row) (o : Option (List Use)) : Type 0 where
  uses : List Use
  all : o ≡ Some uses
  once : once_after [] uses ≡ true
  kept : rows ≡ rows_for uses

accepted : (kinds : Kinds) (rows : List Row) (o : Option (List Use)) → Agrees [] kinds rows o
    → kinds ≡ [] → Accepted rows o
accepted kinds rows None h e = absurd (subst Fails e h)
accepted kinds rows (Some uses) h e = go (once_after [] uses) refl h
  where
    go : (b : Bool) → once_after [] uses ≡ b
        → MatchBool b ((kinds ≡ []) × (rows ≡ rows_for uses)) (Fails kinds) → Accepted rows (Some uses)
    go true t m = record { uses = uses; all = refl; once = t; kept = m.1 }
    go false t m = absurd (subst Fails e m)

refuses : (kinds : Kinds) (rows : List Row) (o : Option (List Use)) → Agrees [] kinds rows o
    → Fails kinds → option_and_then each_once o ≡ None
refuses kinds rows None h e = refl
refuses [] rows (Some uses) h e = absurd e
refuses (k ∷ ks) rows (Some uses) h e = go (once_after [] uses) refl h
  where
    go : (b : Bool) → once_after [] uses ≡ b
        → MatchBool b (((k ∷ ks) ≡ []) × (rows ≡ rows_for uses)) (Fails (k ∷ ks))
        → cond b (Some uses) None ≡ None
    go true t m = absurd (subst Fails m.0 tt)
    go false t m = refl

walk_agrees : (takes : Takes) (command : Text) → LeavesNumber takes → (words : List Text)
    → list_any is_short words ≡ false
    → Agrees [] (faults (built_shape command takes) start words)
    (rows_at_end (built_shape command takes) start words) (uses_in takes words None)
walk_agrees takes command sound words read =
    (all_words takes command sound words read).0 [] [] None (nothing_settles takes [])

pub reads : (takes : Takes) (command first : Text) → LeavesNumber takes → (words : List Text)
    → list_any is_short words ≡ false → (found : Found)
    → fault_of (asked_app command takes) (first ∷ words) ≡ []
    → rows_of found ≡ matches_of (asked_app command takes) (first ∷ words)
    → Reads takes words found
reads takes command first sound words read found passes rows =
    let a = accepted _ _ (uses_in takes words None) (walk_agrees takes command sound words read)
    (sym (faults_of_words takes command first words) ∙ passes) in
    let kept = kept_in takes words a.uses a.all in
    let is : rows_of found ≡ fold with_default (rows_for a.uses) (rules_of takes) =
    rows ∙ rows_of_words takes command first words
    ∙ ap (λ rs. fold with_default rs (rules_of takes)) a.kept in
    record {
      uses = a.uses;
      all = ap (option_and_then each_once) a.all ∙ ap (λ b. cond b (Some a.uses) None) a.once;
      values = λ name none. first_value-rows found name ∙ ap (first_of name) is
          ∙ ap (option_and_then (λ (r : Row). slice_get r.values 0)) (value_row takes (rows_for a.uses) name none)
          ∙ read_value takes name none a.uses kept;
      flags = λ name none other. one_text-rows found name ∙ ap (one_of name) is
          ∙ flag_or_none takes a.uses name none other kept _ refl;
    }

pub no_uses : (takes : Takes) (command first : Text) → LeavesNumber takes → (words : List Text)
    → list_any is_short words ≡ false → Fails (fault_of (asked_app command takes) (first ∷ words))
    → uses_of takes words ≡ None
no_uses takes command first sound words read fails =
    refuses _ _ (uses_in takes words None) (walk_agrees takes command sound words read)
    (subst Fails (faults_of_words takes command first words) fails)

-- ---- words that are refused before the walk

short_meaning : (takes : Takes) (word : Text) (o : Option Text) → is_short_after o ≡ true
    → dashed takes word o ≡ refused
short_meaning takes word None e = absurd (true≢false (sym e))
short_meaning takes word (Some rest) e = go (after_dash rest) e
  where
    go : (o : Option Text) → is_short_rest o ≡ true → long_option takes o ≡ refused
    go None e = refl
    go (Some []) e = refl
    go (Some (x ∷ text)) e = absurd (true≢false (sym e))

short_value : (name word : Text) (o : Option Text) → is_short_after o ≡ true
    → as_value name o word ≡ refused
short_value name word None e = absurd (true≢false (sym e))
short_value name word (Some rest) e = refl

option_map_none : (u : Use) (o : Option (List Use)) → o ≡ None → option_map (λ uses. u ∷ uses) o ≡ None
option_map_none u o e = ap (option_map (λ uses. u ∷ uses)) e

by_none : (m : Meaning) (rest : Option Text → Option (List Use))
    → ((o : Option Text) → rest o ≡ None) → uses_by m rest ≡ None
by_none refused rest h = refl
by_none (gives u) rest h = option_map_none u (rest None) (h None)
by_none (names name) rest h = h (Some name)

pub short_refused : (takes : Takes) (words : List Text) → list_any is_short words ≡ true
    → (o : Option Text) → uses_in takes words o ≡ None
short_refused takes [] e o = absurd (true≢false (sym e))
short_refused takes (word ∷ words) e o = go (is_short word) refl e o (short_refused takes words)
  where
    go : (b : Bool) → is_short word ≡ b → (b || list_any is_short words) ≡ true → (w : Option Text)
        → (list_any is_short words ≡ true → (x : Option Text) → uses_in takes words x ≡ None)
        → uses_in takes (word ∷ words) w ≡ None
    go true t f None h = ap (λ m. uses_by m (uses_in takes words)) (short_meaning takes word (after_dash word) t)
    go true t f (Some name) h =
        ap (λ m. uses_by m (uses_in takes words)) (short_value name word (after_dash word) t)
    go false t f None h = by_none (meaning_of takes word) (uses_in takes words) (h f)
    go false t f (Some name) h = by_none (value_of name word) (uses_in takes words) (h f)

pub short_has_no_uses : (takes : Takes) (words : List Text) → list_any is_short words ≡ true
    → uses_of takes words ≡ None
short_has_no_uses takes words e = ap (option_and_then each_once) (short_refused takes words e None)
