-- clap's walk over the words gives the uses of the grammar.
use Rattle.std.proofs.Common.{◌≡◌, ◌∙◌, ◌⊎◌, ◌==◌, ◌&&◌, ◌||◌, ℕ, Bool, cond, codes, true, false, not, refl, sym, ap, ap₂, subst, inl, inr, arith, List, [], ◌∷◌, ◌++◌, map, append_assoc, append-nil, Option, Some, None, true≢false}
use Rattle.std.specs.Prelude.{nat_lt, option_map, option_and_then, ⊤, fold}
use Rattle.std.specs.Bool.{MatchBool}
use Rattle.std.specs.Option.{option_map_or}
use Rattle.std.specs.List.{list_any, before_first}
use Rattle.std.specs.Str.{bytes_eq}
use Rattle.std.proofs.lemmas.List.{map-append}
use Rattle.clap.specs.Lexer.{long_of, long_of_rest, short_of, short_of_rest, strip_byte}
use Rattle.clap.specs.Kinds.{Kinds, or_else}
use Rattle.clap.specs.Walk.{Held, Row, Rule, Waiting, Walk, idle, next, option, option_word, value as stray, more_values, used, used_by_id, with_values, without, after_flag, after_step, arg_by_id, arg_by_index, at_row, has_row, is_pending, long_met, next_position, pushed, settled, to_positional, walked}
use Rattle.clap.specs.Simple.{Shape}
use Rattle.clap.specs.Faults.{long_fault, positional_fault, react_fault, settle_fault, step_fault, turn_fault, walk_fault, use_fault}
use Rattle.clap.specs.Values.{reading_of}
use Rattle.clap.specs.declared.error.kind.ErrorKind.TheVariants as kind
use Rattle.clap.specs.declared.builder.value_parser.ValueParser.TheVariants as vp
use Rattle.clap.specs.declared.builder.value_parser.Reading.{Reading}
use Rattle.clap.specs.declared.parser.matches.ValueSource.TheVariants.{CommandLine}
use Rattle.flat_options.specs.Uses.{LeavesNumber, Takes, Text, Use, Meaning, gives, names, refused, after_dash, as_value, dashed, has_name, is_equals, is_given, is_short, is_short_after, is_short_rest, joined_value, named, number_name, once_after, uses_by, uses_in}
use Rattle.flat_options.proofs.ClapRules.{IsText, built_shape, by_index, by_long, flag_rule, is_same, number_rule, numbers, number_is_text, option_is_text, option_rule, or_comm_false, rule_named, rules_of, same_name, text_rule}

-- ---- bytes and choices

is-45 : (byte : ℕ) → (byte == 45) ≡ true → byte ≡ 45
is-45 byte is = grind arith

and-false : (b : Bool) → (b && false) ≡ false
and-false true = refl
and-false false = refl

-- ---- rows

abbrev pub row_with : Text → Option Text → Row
row_with name (Some value) = record {
  id = name;
  values = value ∷ [];
  count = None;
  source = Some CommandLine;
  reading = reading_of vp.String;
}
row_with name None = record {
  id = name;
  values = codes "true" ∷ [];
  count = None;
  source = Some CommandLine;
  reading = reading_of vp.Bool;
}

-- what clap keeps of a use
abbrev pub row_for : Use → Row
row_for u = row_with u.0 u.1

abbrev pub rows_for : List Use → List Row
rows_for = map row_for

-- some kind of error comes
abbrev pub Fails : Kinds → Type 0
Fails [] = ⊥
Fails (k ∷ ks) = ⊤

pub fails_as : (a b : Kinds) → a ≡ b → Fails b → Fails a
fails_as a b e h = subst Fails (sym e) h

pub first_fails : (a b : Kinds) → Fails a → Fails (or_else a b)
first_fails [] b h = absurd h
first_fails (k ∷ ks) b h = tt

row_id : (name : Text) (o : Option Text) → (row_with name o).id ≡ name
row_id name None = refl
row_id name (Some v) = refl

pub rows_have : (done : List Use) (name : Text) → has_row name (rows_for done) ≡ is_given done name
rows_have [] name = refl
rows_have (u ∷ done) name =
    ap₂ (λ id b. bytes_eq id name || b) (row_id u.0 u.1) (rows_have done name)

pub or_false : (a b : Bool) → (a || b) ≡ false → (a ≡ false) × (b ≡ false)
or_false true b e = absurd (true≢false e)
or_false false b e = (refl, e)

pub at_missing : (id : Text) (change : Row → List Row) (missing rows : List Row)
    → has_row id rows ≡ false → at_row id change missing rows ≡ rows ++ missing
at_missing id change missing [] none = refl
at_missing id change missing (r ∷ rows) none =
    let parts = or_false _ _ none in
    ap (λ b. cond b (change r ++ rows) (r ∷ at_row id change missing rows)) parts.0
    ∙ ap (λ rs. r ∷ rs) (at_missing id change missing rows parts.1)

-- ---- where a walk stands

abbrev pub held : List Use → Option (Text × List Text) → Held
held done pending = record { rows = rows_for done; pending = pending; skip = 0 }

abbrev pub stand : Held → Waiting → ℕ → Walk
stand h waiting position =
    record { held = h; waiting = waiting; position = position; is_trailing = false; stopped = None }

-- the kinds from here to the end of the words, and the rows there
abbrev pub faults : Shape → Walk → List Text → Kinds
faults s w words = or_else (walk_fault s [] w words)
    (settle_fault s.rules false (fold (walked s.rules []) w words).held)

abbrev pub rows_at_end : Shape → Walk → List Text → List Row
rows_at_end s w words = (settled s.rules (fold (walked s.rules []) w words).held).rows

-- what is pending may be kept, and gives these uses
pub record Settles (takes : Takes) (h : Held) (done : List Use) : Type 0 where
  pub fault : settle_fault (rules_of takes) false h ≡ []
  pub rows : settled (rules_of takes) h ≡ held done None

without_none : (name : Text) (done : List Use) → is_given done name ≡ false
    → without name (rows_for done) ≡ rows_for done
without_none name done none =
    at_missing name (λ _. []) [] (rows_for done) (rows_have done name ∙ none)
    ∙ append-nil (rows_for done)

-- a name that has no row yet gets one, last
put_row : (name : Text) (how : Reading) (values : List Text) (done : List Use)
    → is_given done name ≡ false
    → with_values name how CommandLine values (without name (rows_for done))
    ≡ rows_for done ++ (record {
      id = name;
      values = values;
      count = None;
      source = Some CommandLine;
      reading = how;
    } ∷ [])
put_row name how values done none =
    ap (with_values name how CommandLine values) (without_none name done none)
    ∙ at_missing name (more_values CommandLine values) _ (rows_for done)
    (rows_have done name ∙ none)

put_value : (takes : Takes) (name value : Text) (long : Option Text) (index : Option ℕ)
    (done : List Use) → is_given done name ≡ false
    → used (text_rule name long index) (value ∷ []) (rows_for done)
    ≡ rows_for (done ++ (name, Some value) ∷ [])
put_value takes name value long index done none =
    put_row name (reading_of vp.String) (value ∷ []) done none
    ∙ sym (map-append row_for done ((name, Some value) ∷ []))

put_flag : (name : Text) (done : List Use) → is_given done name ≡ false
    → used (flag_rule name) [] (rows_for done) ≡ rows_for (done ++ (name, None) ∷ [])
put_flag name done none =
    put_row name (reading_of vp.Bool) (codes "true" ∷ []) done none
    ∙ sym (map-append row_for done ((name, None) ∷ []))

conflict_alone : (b : Bool) → or_else (cond (b && true) (kind.ArgumentConflict ∷ []) []) []
    ≡ cond b (kind.ArgumentConflict ∷ []) []
conflict_alone true = refl
conflict_alone false = refl

-- the kinds of a use, by whether its name is there already
value_fault : (name value : Text) (long : Option Text) (index : Option ℕ) (done : List Use) (b : Bool)
    → is_given done name ≡ b
    → use_fault false (text_rule name long index) (value ∷ []) (rows_for done)
    ≡ cond b (kind.ArgumentConflict ∷ []) []
value_fault name value long index done b e =
    ap (λ x. or_else (cond (x && true) (kind.ArgumentConflict ∷ []) []) []) (rows_have done name ∙ e)
    ∙ conflict_alone b

flag_fault : (name : Text) (done : List Use) (b : Bool) → is_given done name ≡ b
    → use_fault false (flag_rule name) [] (rows_for done) ≡ cond b (kind.ArgumentConflict ∷ []) []
flag_fault name done b e =
    ap (λ x. or_else (cond (x && true) (kind.ArgumentConflict ∷ []) []) []) (rows_have done name ∙ e)
    ∙ conflict_alone b

-- what a walk settles of a value that is pending
pub settle_of : (takes : Takes) (done : List Use) (name value : Text) (b : Bool)
    → IsText takes name → is_given done name ≡ b
    → settle_fault (rules_of takes) false (held done (Some (name, value ∷ [])))
    ≡ cond b (kind.ArgumentConflict ∷ []) []
settle_of takes done name value b is e =
    ap (λ (o : Option Rule). option_map_or (λ a. use_fault false a (value ∷ []) (rows_for done)) o [])
    is.found ∙ value_fault name value is.long is.index done b e

pub value_settles : (takes : Takes) (done : List Use) (name value : Text) → IsText takes name
    → is_given done name ≡ false
    → Settles takes (held done (Some (name, value ∷ []))) (done ++ (name, Some value) ∷ [])
value_settles takes done name value is none = record {
  fault = settle_of takes done name value false is none;
  rows = ap (λ rs. record (held done None) { rows = rs })
      (ap (λ (o : Option Rule). used_by_id o (value ∷ []) (rows_for done)) is.found
      ∙ put_value takes name value is.long is.index done none);
}

-- an option that waits for its value is refused where none comes
pub waiting_fails : (takes : Takes) (done : List Use) (name : Text) → IsText takes name
    → settle_fault (rules_of takes) false (held done (Some (name, []))) ≡ kind.InvalidValue ∷ []
waiting_fails takes done name is =
    ap (λ (o : Option Rule). option_map_or (λ a. use_fault false a [] (rows_for done)) o []) is.found

pub nothing_settles : (takes : Takes) (done : List Use) → Settles takes (held done None) done
nothing_settles takes done = record { fault = refl; rows = refl }

-- ---- what the walk owes

-- the kinds and the rows are what the uses say, where those before are done
abbrev pub Agrees : List Use → Kinds → List Row → Option (List Use) → Type 0
Agrees done kinds rows None = Fails kinds
Agrees done kinds rows (Some uses) = MatchBool (once_after done uses)
    ((kinds ≡ []) × (rows ≡ rows_for (done ++ uses))) (Fails kinds)

abbrev pub after_use : Use → Option (List Use) → Option (List Use)
after_use u = option_map (λ uses. u ∷ uses)

repeated : (done : List Use) (u : Use) (kinds : Kinds) (rows : List Row) (o : Option (List Use))
    → is_given done u.0 ≡ true → Fails kinds → Agrees done kinds rows (after_use u o)
repeated done u kinds rows None e h = h
repeated done u kinds rows (Some uses) e h =
    subst (λ b. MatchBool (not b && once_after (done ++ u ∷ []) uses)
    ((kinds ≡ []) × (rows ≡ rows_for (done ++ u ∷ uses))) (Fails kinds)) (sym e) h

followed : (done : List Use) (u : Use) (kinds : Kinds) (rows : List Row) (o : Option (List Use))
    → is_given done u.0 ≡ false → Agrees (done ++ u ∷ []) kinds rows o
    → Agrees done kinds rows (after_use u o)
followed done u kinds rows None e h = h
followed done u kinds rows (Some uses) e h =
    subst (λ b. MatchBool (not b && once_after (done ++ u ∷ []) uses)
    ((kinds ≡ []) × (rows ≡ rows_for (done ++ u ∷ uses))) (Fails kinds)) (sym e)
    (subst (λ all. MatchBool (once_after (done ++ u ∷ []) uses)
    ((kinds ≡ []) × (rows ≡ rows_for all)) (Fails kinds)) (append_assoc done (u ∷ []) uses) h)

stopped : (s : Shape) (w : Walk) (word : Text) (words : List Text)
    → Fails (turn_fault s [] w word) → Fails (faults s w (word ∷ words))
unfolding walk_fault
stopped s w word words h = go (turn_fault s [] w word) _ _ h
  where
    go : (a b c : Kinds) → Fails a → Fails (or_else (or_else a b) c)
    go [] b c h = absurd h
    go (k ∷ ks) b c h = tt

stepped : (s : Shape) (w w' : Walk) (word : Text) (words : List Text) (done : List Use)
    (o : Option (List Use)) → turn_fault s [] w word ≡ [] → walked s.rules [] w word ≡ w'
    → Agrees done (faults s w' words) (rows_at_end s w' words) o
    → Agrees done (faults s w (word ∷ words)) (rows_at_end s w (word ∷ words)) o
unfolding walk_fault
stepped s w w' word words done o none moves h =
    subst (λ k. Agrees done (or_else (or_else k (walk_fault s [] (walked s.rules [] w word) words))
    (settle_fault s.rules false (fold (walked s.rules []) (walked s.rules [] w word) words).held))
    (rows_at_end s (walked s.rules [] w word) words) o) (sym none)
    (subst (λ x. Agrees done (faults s x words) (rows_at_end s x words) o) (sym moves) h)

-- ---- one word

-- a word that begins with no dash
record IsPlainWord (word : Text) : Type 0 where
  dashes : bytes_eq word (45 ∷ 45 ∷ []) ≡ false
  no_long : long_of word ≡ None
  no_short : short_of word ≡ None

plain_word_is : (word : Text) → after_dash word ≡ None → IsPlainWord word
plain_word_is [] e = record { dashes = refl; no_long = refl; no_short = refl }
plain_word_is (x ∷ xs) e = go (x == 45) refl e
  where
    go : (b : Bool) → (x == 45) ≡ b → cond b (Some xs) None ≡ None → IsPlainWord (x ∷ xs)
    go true t e = absurd (true≢false (ap (λ (o : Option Text). option_map_or (λ r. true) o false) e))
    go false t e = record {
      dashes = ap (λ b. b && bytes_eq xs (45 ∷ [])) t;
      no_long = ap (λ b. option_and_then long_of_rest (option_and_then (strip_byte 45)
          (cond b (Some xs) None))) t;
      no_short = ap (λ b. option_and_then short_of_rest (cond b (Some xs) None)) t;
    }

plain_idle_fault : (s : Shape) (h : Held) (p : ℕ) (word : Text) → IsPlainWord word
    → turn_fault s [] (stand h idle p) word
    ≡ step_fault s p h stray
plain_idle_fault s h p word is = rw (is.dashes, is.no_long, is.no_short) refl

plain_idle_walked : (c : List Rule) (h : Held) (p : ℕ) (word : Text) → IsPlainWord word
    → walked c [] (stand h idle p) word
    ≡ to_positional c (arg_by_index c p) word (stand h idle p) h
unfolding walked
plain_idle_walked c h p word is = rw (is.dashes, is.no_long, is.no_short) refl

plain_waiting_fault : (takes : Takes) (command : Text) (h : Held) (name : Text) (p : ℕ) (word : Text)
    → IsPlainWord word
    → turn_fault (built_shape command takes) [] (stand h (option name) p) word
    ≡ step_fault (built_shape command takes) p (option_word (arg_by_id (rules_of takes) name) name word h).0
    (next (option_word (arg_by_id (rules_of takes) name) name word h).1)
plain_waiting_fault takes command h name p word is = rw (is.dashes, is.no_long, is.no_short) refl

plain_waiting_walked : (c : List Rule) (done : List Use) (name : Text) (p : ℕ) (word : Text)
    (long : Option Text) (index : Option ℕ) → IsPlainWord word
    → arg_by_id c name ≡ Some (text_rule name long index)
    → walked c [] (stand (held done (Some (name, []))) (option name) p) word
    ≡ stand (held done (Some (name, word ∷ []))) idle p
unfolding walked
plain_waiting_walked c done name p word long index is found =
    rw (is.dashes, is.no_long, is.no_short)
    (ap (λ (o : Option Rule). stand (option_word o name word (held done (Some (name, [])))).0
    (option_word o name word (held done (Some (name, [])))).1 p) found
    ∙ ap (λ b. stand (held done (Some (name, word ∷ [])))
    (cond (nat_lt (cond b 1 0) 1) (option name) idle) p) (is_same name))

-- what clap says of a word `--name` or `--name=value`
abbrev turn_of_long : Shape → Waiting → ℕ → Text → Option Rule → Option Text → Held → Kinds
turn_of_long s waiting p word r v h = or_else (long_fault s.rules false r v h)
    (step_fault s p
    (after_flag s.rules waiting word (long_met s.rules r v h).0 (long_met s.rules r v h).1).0
    (after_flag s.rules waiting word (long_met s.rules r v h).0 (long_met s.rules r v h).1).1)

abbrev walk_of_long : List Rule → Waiting → ℕ → Text → Option Rule → Option Text → Held → Walk
walk_of_long c waiting p word r v h = after_step c word (stand h waiting p)
    (after_flag c waiting word (long_met c r v h).0 (long_met c r v h).1).0
    (after_flag c waiting word (long_met c r v h).0 (long_met c r v h).1).1

long_idle_fault : (takes : Takes) (command : Text) (h : Held) (p : ℕ) (x : ℕ) (text : Text)
    → turn_fault (built_shape command takes) [] (stand h idle p) (45 ∷ 45 ∷ x ∷ text)
    ≡ turn_of_long (built_shape command takes) idle p (45 ∷ 45 ∷ x ∷ text)
    (rule_named takes (before_first is_equals (x ∷ text))) (joined_value (x ∷ text)) h
long_idle_fault takes command h p x text =
    ap (λ (r : Option Rule). turn_of_long (built_shape command takes) idle p (45 ∷ 45 ∷ x ∷ text)
    r (joined_value (x ∷ text)) h) (by_long takes (before_first is_equals (x ∷ text)))

long_waiting_fault : (takes : Takes) (command : Text) (h : Held) (name : Text) (p : ℕ) (x : ℕ)
    (text : Text)
    → turn_fault (built_shape command takes) [] (stand h (option name) p) (45 ∷ 45 ∷ x ∷ text)
    ≡ turn_of_long (built_shape command takes) (option name) p (45 ∷ 45 ∷ x ∷ text)
    (rule_named takes (before_first is_equals (x ∷ text))) (joined_value (x ∷ text)) h
long_waiting_fault takes command h name p x text =
    ap (λ (r : Option Rule). turn_of_long (built_shape command takes) (option name) p
    (45 ∷ 45 ∷ x ∷ text) r (joined_value (x ∷ text)) h)
    (by_long takes (before_first is_equals (x ∷ text)))

long_idle_walked : (takes : Takes) (h : Held) (p : ℕ) (x : ℕ) (text : Text)
    → walked (rules_of takes) [] (stand h idle p) (45 ∷ 45 ∷ x ∷ text)
    ≡ walk_of_long (rules_of takes) idle p (45 ∷ 45 ∷ x ∷ text)
    (rule_named takes (before_first is_equals (x ∷ text))) (joined_value (x ∷ text)) h
unfolding walked
long_idle_walked takes h p x text =
    ap (λ (r : Option Rule). walk_of_long (rules_of takes) idle p (45 ∷ 45 ∷ x ∷ text)
    r (joined_value (x ∷ text)) h) (by_long takes (before_first is_equals (x ∷ text)))

-- where what is pending is refused, so is each long option after it
long_breaks : (c : List Rule) (a b : Bool) (name : Text) (v : Option Text) (h : Held)
    → Fails (settle_fault c false h)
    → Fails (long_fault c false (cond a (Some (option_rule name))
    (cond b (Some (flag_rule name)) None)) v h)
long_breaks c true b name None h e = e
long_breaks c true b name (Some v) h e = first_fails (settle_fault c false h) _ e
long_breaks c false true name None h e = first_fails (settle_fault c false h) _ e
long_breaks c false true name (Some v) h e = tt
long_breaks c false false name v h e = tt

-- ---- the words in turn

-- where the number would go
abbrev pub place : List Use → ℕ
place done = cond (is_given done number_name) 2 1

or_regroup : (a b c d : Bool) → d ≡ (b || c) → (a || d) ≡ ((a || b) || c)
or_regroup true b c d e = refl
or_regroup false b c d e = e

given_more : (done : List Use) (u : Use) (name : Text)
    → is_given (done ++ u ∷ []) name ≡ (is_given done name || bytes_eq u.0 name)
given_more [] u name = or_comm_false (bytes_eq u.0 name)
given_more (d ∷ done) u name =
    or_regroup (bytes_eq d.0 name) (is_given done name) (bytes_eq u.0 name) _ (given_more done u name)

pub not_number : (texts : List Text) (name : Text) → has_name texts name ≡ true
    → has_name texts number_name ≡ false → bytes_eq name number_name ≡ false
not_number texts name has none = go (bytes_eq name number_name) refl
  where
    go : (b : Bool) → bytes_eq name number_name ≡ b → b ≡ false
    go true e = absurd (true≢false (sym has ∙ ap (has_name texts) (same_name name number_name e)
        ∙ none))
    go false e = refl

place_kept : (done : List Use) (u : Use) → bytes_eq u.0 number_name ≡ false
    → place done ≡ place (done ++ u ∷ [])
place_kept done u e = ap (λ b. cond b 2 1) (sym (given_more done u number_name
    ∙ ap (λ b. is_given done number_name || b) e ∙ or_comm_false (is_given done number_name)))

-- a word of two dashes and more
pub record IsLong (word : Text) : Type 0 where
  pub first : ℕ
  pub text : Text
  pub is : word ≡ 45 ∷ 45 ∷ first ∷ text

pub read_word : (word : Text) → is_short word ≡ false → (after_dash word ≡ None) ⊎ IsLong word
read_word [] e = inl refl
read_word (x ∷ xs) e = go (x == 45) refl e
  where
    second : (y : ℕ) (ys : List ℕ) (b : Bool) → (x == 45) ≡ true → (y == 45) ≡ b
        → is_short_rest (cond b (Some ys) None) ≡ false → IsLong (x ∷ y ∷ ys)
    second y ys false t u f = absurd (true≢false f)
    second y [] true t u f = absurd (true≢false f)
    second y (z ∷ zs) true t u f = record {
      first = z;
      text = zs;
      is = ap₂ (λ a b. a ∷ b ∷ z ∷ zs) (is-45 x t) (is-45 y u);
    }

    rest : (ys : List ℕ) → (x == 45) ≡ true → is_short_rest (after_dash ys) ≡ false → IsLong (x ∷ ys)
    rest [] t f = absurd (true≢false f)
    rest (y ∷ ys) t f = second y ys (y == 45) t refl f

    go : (b : Bool) → (x == 45) ≡ b → is_short_after (cond b (Some xs) None) ≡ false
        → (cond b (Some xs) None ≡ None) ⊎ IsLong (x ∷ xs)
    go true t f = inr (rest xs t f)
    go false t f = inl refl

-- the number's argument, or none
number_or_none : (b : Bool) (p : ℕ)
    → (arg_by_index (numbers b) p ≡ None) ⊎ (arg_by_index (numbers b) p ≡ Some number_rule)
number_or_none false p = inl refl
number_or_none true p = go (1 == p)
  where
    go : (b : Bool) → (cond b (Some number_rule) None ≡ None)
        ⊎ (cond b (Some number_rule) None ≡ Some number_rule)
    go true = inr refl
    go false = inl refl

-- clap reads the number's argument from a word that stands alone
number_fault : (takes : Takes) (command : Text) (h : Held) (p : ℕ)
    → arg_by_index (rules_of takes) p ≡ Some number_rule
    → step_fault (built_shape command takes) p h stray ≡ settle_fault (rules_of takes) false h
number_fault takes command h p found =
    ap (λ (o : Option Rule). option_map_or (λ a. positional_fault (rules_of takes) false a h) o
    (kind.UnknownArgument ∷ [])) found
    ∙ ap (λ b. cond b [] (settle_fault (rules_of takes) false h))
    (and-false (is_pending number_rule h.pending))

stray_fails : (takes : Takes) (command : Text) (h : Held) (p : ℕ)
    → arg_by_index (rules_of takes) p ≡ None
    → step_fault (built_shape command takes) p h stray ≡ kind.UnknownArgument ∷ []
stray_fails takes command h p found =
    ap (λ (o : Option Rule). option_map_or (λ a. positional_fault (rules_of takes) false a h) o
    (kind.UnknownArgument ∷ [])) found

turn_breaks : (takes : Takes) (command : Text) (waiting : Waiting) (p : ℕ) (word name : Text)
    (v : Option Text) (h : Held) → Fails (settle_fault (rules_of takes) false h)
    → Fails (turn_of_long (built_shape command takes) waiting p word (rule_named takes name) v h)
turn_breaks takes command waiting p word name v h e =
    first_fails (long_fault (rules_of takes) false (rule_named takes name) v h) _
    (long_breaks (rules_of takes) (has_name takes.options name) (has_name takes.flags name) name v h e)

-- where what is pending is refused, the next word or the end shows it
broken_word : (takes : Takes) (command : Text) (h : Held) (p : ℕ) (word : Text)
    → (after_dash word ≡ None) ⊎ IsLong word → Fails (settle_fault (rules_of takes) false h)
    → Fails (turn_fault (built_shape command takes) [] (stand h idle p) word)
broken_word takes command h p word (inl none) e =
    fails_as _ _ (plain_idle_fault (built_shape command takes) h p word (plain_word_is word none))
    (go (number_or_none takes.number p))
  where
    go : (arg_by_index (numbers takes.number) p ≡ None)
        ⊎ (arg_by_index (numbers takes.number) p ≡ Some number_rule)
        → Fails (step_fault (built_shape command takes) p h stray)
    go (inl no_one) = fails_as _ _ (stray_fails takes command h p (by_index takes p ∙ no_one)) tt
    go (inr one) = fails_as _ _ (number_fault takes command h p (by_index takes p ∙ one)) e
broken_word takes command h p word (inr long) e =
    subst (λ w. Fails (turn_fault (built_shape command takes) [] (stand h idle p) w)) (sym long.is)
    (fails_as _ _ (long_idle_fault takes command h p long.first long.text)
    (turn_breaks takes command idle p (45 ∷ 45 ∷ long.first ∷ long.text)
    (before_first is_equals (long.first ∷ long.text))
    (joined_value (long.first ∷ long.text)) h e))

broken : (takes : Takes) (command : Text) (h : Held) (p : ℕ) (words : List Text)
    → list_any is_short words ≡ false → Fails (settle_fault (rules_of takes) false h)
    → Fails (faults (built_shape command takes) (stand h idle p) words)
unfolding walk_fault
broken takes command h p [] read e = e
broken takes command h p (word ∷ words) read e =
    stopped (built_shape command takes) (stand h idle p) word words
    (broken_word takes command h p word (read_word word (or_false _ _ read).0) e)

-- ---- both at once, over the words

abbrev pub Idle : Takes → Text → List Text → Type 0
Idle takes command words = (done before : List Use) (pending : Option (Text × List Text))
    → Settles takes (held before pending) done
    → Agrees done
    (faults (built_shape command takes) (stand (held before pending) idle (place done)) words)
    (rows_at_end (built_shape command takes) (stand (held before pending) idle (place done)) words)
    (uses_in takes words None)

abbrev pub Waits : Takes → Text → List Text → Type 0
Waits takes command words = (done : List Use) (name : Text) → has_name takes.options name ≡ true
    → Agrees done
    (faults (built_shape command takes) (stand (held done (Some (name, []))) (option name) (place done))
    words)
    (rows_at_end (built_shape command takes) (stand (held done (Some (name, []))) (option name)
    (place done)) words)
    (uses_in takes words (Some name))

idle_at_end : (takes : Takes) (command : Text) → Idle takes command []
unfolding walk_fault
idle_at_end takes command done before pending settles =
    (settles.fault, ap (λ (h : Held). h.rows) settles.rows ∙ ap rows_for (sym (append-nil done)))

waits_at_end : (takes : Takes) (command : Text) → Waits takes command []
unfolding walk_fault
waits_at_end takes command done name has =
    fails_as _ _ (waiting_fails takes done name (option_is_text takes name has)) tt

-- the value of an option, as the next word
waits_plain : (takes : Takes) (command : Text) → LeavesNumber takes → (word : Text) (words : List Text)
    → after_dash word ≡ None → list_any is_short words ≡ false → Idle takes command words
    → (done : List Use) (name : Text) → has_name takes.options name ≡ true
    → Agrees done
    (faults (built_shape command takes) (stand (held done (Some (name, []))) (option name) (place done))
    (word ∷ words))
    (rows_at_end (built_shape command takes) (stand (held done (Some (name, []))) (option name)
    (place done)) (word ∷ words))
    (after_use (name, Some word) (uses_in takes words None))
waits_plain takes command sound word words none read idles done name has =
    stepped (built_shape command takes) _ (stand (held done (Some (name, word ∷ []))) idle (place done))
    word words done _
    (plain_waiting_fault takes command (held done (Some (name, []))) name (place done) word plain
    ∙ ap (λ (o : Option Rule). step_fault (built_shape command takes) (place done)
    (option_word o name word (held done (Some (name, [])))).0
    (next (option_word o name word (held done (Some (name, [])))).1)) is.found)
    (plain_waiting_walked (rules_of takes) done name (place done) word is.long is.index plain is.found)
    (go (is_given done name) refl)
  where
    plain : IsPlainWord word
    plain = plain_word_is word none

    is : IsText takes name
    is = option_is_text takes name has

    go : (b : Bool) → is_given done name ≡ b → Agrees done
        (faults (built_shape command takes) (stand (held done (Some (name, word ∷ []))) idle (place done))
        words)
        (rows_at_end (built_shape command takes) (stand (held done (Some (name, word ∷ []))) idle
        (place done)) words)
        (after_use (name, Some word) (uses_in takes words None))
    go true e = repeated done (name, Some word) _ _ (uses_in takes words None) e
        (broken takes command _ (place done) words read
        (fails_as _ _ (settle_of takes done name word true is e) tt))
    go false e = followed done (name, Some word) _ _ (uses_in takes words None) e
        (subst (λ p. Agrees (done ++ (name, Some word) ∷ [])
        (faults (built_shape command takes) (stand (held done (Some (name, word ∷ []))) idle p) words)
        (rows_at_end (built_shape command takes) (stand (held done (Some (name, word ∷ []))) idle p) words)
        (uses_in takes words None))
        (sym (place_kept done (name, Some word) (not_number takes.options name has sound.options)))
        (idles (done ++ (name, Some word) ∷ []) done (Some (name, word ∷ []))
        (value_settles takes done name word is e)))

waits_long : (takes : Takes) (command : Text) (x : ℕ) (text : Text) (words : List Text)
    → Waits takes command ((45 ∷ 45 ∷ x ∷ text) ∷ words)
waits_long takes command x text words done name has =
    stopped (built_shape command takes) _ (45 ∷ 45 ∷ x ∷ text) words
    (fails_as _ _ (long_waiting_fault takes command (held done (Some (name, []))) name (place done) x text)
    (turn_breaks takes command (option name) (place done) (45 ∷ 45 ∷ x ∷ text)
    (before_first is_equals (x ∷ text)) (joined_value (x ∷ text)) (held done (Some (name, [])))
    (fails_as _ _ (waiting_fails takes done name (option_is_text takes name has)) tt)))

-- a word that stands alone
idle_plain : (takes : Takes) (command : Text) → LeavesNumber takes → (word : Text) (words : List Text)
    → after_dash word ≡ None → Idle takes command words
    → (done before : List Use) (pending : Option (Text × List Text))
    → Settles takes (held before pending) done → (n b : Bool) → takes.number ≡ n
    → is_given done number_name ≡ b
    → Agrees done
    (faults (built_shape command takes) (stand (held before pending) idle (place done)) (word ∷ words))
    (rows_at_end (built_shape command takes) (stand (held before pending) idle (place done))
    (word ∷ words))
    (uses_by (cond n (gives (number_name, Some word)) refused) (uses_in takes words))
idle_plain takes command sound word words none idles done before pending settles false b has e =
    stopped (built_shape command takes) (stand (held before pending) idle (place done)) word words
    (fails_as _ _ (plain_idle_fault (built_shape command takes) (held before pending) (place done) word
    (plain_word_is word none))
    (fails_as _ _ (stray_fails takes command (held before pending) (place done)
    (by_index takes (place done) ∙ ap (λ n. arg_by_index (numbers n) (place done)) has)) tt))
idle_plain takes command sound word words none idles done before pending settles true true has e =
    repeated done (number_name, Some word) _ _ (uses_in takes words None) e
    (stopped (built_shape command takes) (stand (held before pending) idle (place done)) word words
    (fails_as _ _ (plain_idle_fault (built_shape command takes) (held before pending) (place done) word
    (plain_word_is word none))
    (fails_as _ _ (stray_fails takes command (held before pending) (place done)
    (by_index takes (place done) ∙ ap₂ (λ n b. arg_by_index (numbers n) (cond b 2 1)) has e)) tt)))
idle_plain takes command sound word words none idles done before pending settles true false has e =
    followed done (number_name, Some word) _ _ (uses_in takes words None) e
    (stepped (built_shape command takes) (stand (held before pending) idle (place done))
    (stand (held done (Some (number_name, word ∷ []))) idle (place more)) word words more
    (uses_in takes words None)
    (plain_idle_fault (built_shape command takes) (held before pending) (place done) word
    (plain_word_is word none)
    ∙ number_fault takes command (held before pending) (place done) found ∙ settles.fault)
    (plain_idle_walked (rules_of takes) (held before pending) (place done) word (plain_word_is word none)
    ∙ ap (λ (o : Option Rule). to_positional (rules_of takes) o word
    (stand (held before pending) idle (place done)) (held before pending)) found
    ∙ ap₂ (λ (h : Held) (p : ℕ). stand (pushed number_name word h) idle p) kept moved)
    (idles more done (Some (number_name, word ∷ []))
    (value_settles takes done number_name word
    (number_is_text takes sound.options sound.flags has) e)))
  where
    more : List Use
    more = done ++ (number_name, Some word) ∷ []

    found : arg_by_index (rules_of takes) (place done) ≡ Some number_rule
    found = by_index takes (place done) ∙ ap₂ (λ n b. arg_by_index (numbers n) (cond b 2 1)) has e

    kept : cond (is_pending number_rule pending && false) (held before pending)
        (settled (rules_of takes) (held before pending)) ≡ held done None
    kept = ap (λ b. cond b (held before pending) (settled (rules_of takes) (held before pending)))
        (and-false (is_pending number_rule pending)) ∙ settles.rows

    moved : next_position number_rule (place done) ≡ place more
    moved = ap (λ b. next_position number_rule (cond b 2 1)) e
        ∙ sym (ap (λ b. cond b 2 1) (given_more done (number_name, Some word) number_name
        ∙ ap (λ b. b || true) e))

-- a word of two dashes, by whether its name is an option's or a flag's
abbrev named_by : Bool → Bool → Text → Option Text → Meaning
named_by true b name (Some v) = gives (name, Some v)
named_by true b name None = names name
named_by false true name None = gives (name, None)
named_by false true name (Some v) = refused
named_by false false name v = refused

named_value : (a b : Bool) (name value : Text)
    → cond a (gives (name, Some value)) refused ≡ named_by a b name (Some value)
named_value true b name value = refl
named_value false true name value = refl
named_value false false name value = refl

named_alone : (a b : Bool) (name : Text)
    → cond a (names name) (cond b (gives (name, None)) refused) ≡ named_by a b name None
named_alone true b name = refl
named_alone false true name = refl
named_alone false false name = refl

named_is : (takes : Takes) (name : Text) (v : Option Text) → named takes name v
    ≡ named_by (has_name takes.options name) (has_name takes.flags name) name v
named_is takes name (Some value) =
    named_value (has_name takes.options name) (has_name takes.flags name) name value
named_is takes name None = named_alone (has_name takes.options name) (has_name takes.flags name) name

abbrev rule_by : Bool → Bool → Text → Option Rule
rule_by a b name = cond a (Some (option_rule name)) (cond b (Some (flag_rule name)) None)

value_turn : (takes : Takes) (h : Held) (done : List Use) (name v : Text) (b : Bool)
    → Settles takes h done → is_given done name ≡ b
    → react_fault (rules_of takes) false (option_rule name) (v ∷ []) h
    ≡ cond b (kind.ArgumentConflict ∷ []) []
value_turn takes h done name v b settles e =
    ap₂ (λ k (x : Held). or_else k (use_fault false (option_rule name) (v ∷ []) x.rows))
    settles.fault settles.rows ∙ value_fault name v (Some name) None done b e

flag_turn : (takes : Takes) (h : Held) (done : List Use) (name : Text) (b : Bool)
    → Settles takes h done → is_given done name ≡ b
    → react_fault (rules_of takes) false (flag_rule name) [] h ≡ cond b (kind.ArgumentConflict ∷ []) []
flag_turn takes h done name b settles e =
    ap₂ (λ k (x : Held). or_else k (use_fault false (flag_rule name) [] x.rows))
    settles.fault settles.rows ∙ flag_fault name done b e

-- a word `--name` or `--name=value`
idle_long : (takes : Takes) (command : Text) → LeavesNumber takes → (word : Text) (words : List Text)
    → Idle takes command words → Waits takes command words
    → (done before : List Use) (pending : Option (Text × List Text))
    → Settles takes (held before pending) done → (name : Text) (v : Option Text) (a b : Bool)
    → has_name takes.options name ≡ a → has_name takes.flags name ≡ b
    → turn_fault (built_shape command takes) [] (stand (held before pending) idle (place done)) word
    ≡ turn_of_long (built_shape command takes) idle (place done) word (rule_by a b name) v
    (held before pending)
    → walked (rules_of takes) [] (stand (held before pending) idle (place done)) word
    ≡ walk_of_long (rules_of takes) idle (place done) word (rule_by a b name) v (held before pending)
    → Agrees done
    (faults (built_shape command takes) (stand (held before pending) idle (place done)) (word ∷ words))
    (rows_at_end (built_shape command takes) (stand (held before pending) idle (place done))
    (word ∷ words))
    (uses_by (named_by a b name v) (uses_in takes words))
idle_long takes command sound word words idles waits done before pending settles name v false false
    no_option no_flag turn walk =
    stopped (built_shape command takes) (stand (held before pending) idle (place done)) word words
    (fails_as _ _ turn tt)
idle_long takes command sound word words idles waits done before pending settles name (Some v) false true
    no_option has turn walk =
    stopped (built_shape command takes) (stand (held before pending) idle (place done)) word words
    (fails_as _ _ turn tt)
idle_long takes command sound word words idles waits done before pending settles name None true b
    has flag turn walk =
    stepped (built_shape command takes) (stand (held before pending) idle (place done))
    (stand (held done (Some (name, []))) (option name) (place done)) word words done
    (uses_in takes words (Some name))
    (turn ∙ ap (λ k. or_else k []) settles.fault)
    (walk ∙ ap (λ (h : Held). stand (record h { pending = Some (name, []) }) (option name) (place done))
    settles.rows)
    (waits done name has)
idle_long takes command sound word words idles waits done before pending settles name (Some v) true b
    has flag turn walk = go (is_given done name) refl
  where
    go : (x : Bool) → is_given done name ≡ x → Agrees done
        (faults (built_shape command takes) (stand (held before pending) idle (place done)) (word ∷ words))
        (rows_at_end (built_shape command takes) (stand (held before pending) idle (place done))
        (word ∷ words)) (after_use (name, Some v) (uses_in takes words None))
    go true e = repeated done (name, Some v) _ _ (uses_in takes words None) e
        (stopped (built_shape command takes) (stand (held before pending) idle (place done)) word words
        (fails_as _ _ (turn
        ∙ ap (λ k. or_else k []) (value_turn takes (held before pending) done name v true settles e)) tt))
    go false e = followed done (name, Some v) _ _ (uses_in takes words None) e
        (stepped (built_shape command takes) (stand (held before pending) idle (place done))
        (stand (held (done ++ (name, Some v) ∷ []) None) idle (place (done ++ (name, Some v) ∷ [])))
        word words (done ++ (name, Some v) ∷ []) (uses_in takes words None)
        (turn ∙ ap (λ k. or_else k []) (value_turn takes (held before pending) done name v false settles e))
        (walk ∙ ap₂ (λ rs p. stand (record (held done None) { rows = rs }) idle p)
        (ap (λ (h : Held). used (option_rule name) (v ∷ []) h.rows) settles.rows
        ∙ put_value takes name v (Some name) None done e)
        (place_kept done (name, Some v) (not_number takes.options name has sound.options)))
        (idles (done ++ (name, Some v) ∷ []) (done ++ (name, Some v) ∷ []) None
        (nothing_settles takes (done ++ (name, Some v) ∷ []))))
idle_long takes command sound word words idles waits done before pending settles name None false true
    no_option has turn walk = go (is_given done name) refl
  where
    go : (x : Bool) → is_given done name ≡ x → Agrees done
        (faults (built_shape command takes) (stand (held before pending) idle (place done)) (word ∷ words))
        (rows_at_end (built_shape command takes) (stand (held before pending) idle (place done))
        (word ∷ words)) (after_use (name, None) (uses_in takes words None))
    go true e = repeated done (name, None) _ _ (uses_in takes words None) e
        (stopped (built_shape command takes) (stand (held before pending) idle (place done)) word words
        (fails_as _ _ (turn
        ∙ ap (λ k. or_else k []) (flag_turn takes (held before pending) done name true settles e)) tt))
    go false e = followed done (name, None) _ _ (uses_in takes words None) e
        (stepped (built_shape command takes) (stand (held before pending) idle (place done))
        (stand (held (done ++ (name, None) ∷ []) None) idle (place (done ++ (name, None) ∷ [])))
        word words (done ++ (name, None) ∷ []) (uses_in takes words None)
        (turn ∙ ap (λ k. or_else k []) (flag_turn takes (held before pending) done name false settles e))
        (walk ∙ ap₂ (λ rs p. stand (record (held done None) { rows = rs }) idle p)
        (ap (λ (h : Held). used (flag_rule name) [] h.rows) settles.rows ∙ put_flag name done e)
        (place_kept done (name, None) (not_number takes.flags name has sound.flags)))
        (idles (done ++ (name, None) ∷ []) (done ++ (name, None) ∷ []) None
        (nothing_settles takes (done ++ (name, None) ∷ []))))

-- ---- all the words

idle_word : (takes : Takes) (command : Text) → LeavesNumber takes → (word : Text) (words : List Text)
    → (after_dash word ≡ None) ⊎ IsLong word → Idle takes command words → Waits takes command words
    → Idle takes command (word ∷ words)
idle_word takes command sound word words (inl none) idles waits = λ done before pending settles.
    subst (λ m. Agrees done
    (faults (built_shape command takes) (stand (held before pending) idle (place done)) (word ∷ words))
    (rows_at_end (built_shape command takes) (stand (held before pending) idle (place done))
    (word ∷ words)) (uses_by m (uses_in takes words)))
    (sym (ap (dashed takes word) none))
    (idle_plain takes command sound word words none idles done before pending settles takes.number
    (is_given done number_name) refl refl)
idle_word takes command sound word words (inr long) idles waits = subst (λ w. Idle takes command (w ∷ words))
    (sym long.is) (λ done before pending settles. subst (λ m. Agrees done
    (faults (built_shape command takes) (stand (held before pending) idle (place done))
    ((45 ∷ 45 ∷ long.first ∷ long.text) ∷ words))
    (rows_at_end (built_shape command takes) (stand (held before pending) idle (place done))
    ((45 ∷ 45 ∷ long.first ∷ long.text) ∷ words)) (uses_by m (uses_in takes words)))
    (sym (named_is takes (before_first is_equals (long.first ∷ long.text))
    (joined_value (long.first ∷ long.text))))
    (idle_long takes command sound (45 ∷ 45 ∷ long.first ∷ long.text) words idles waits done before
    pending settles (before_first is_equals (long.first ∷ long.text))
    (joined_value (long.first ∷ long.text)) _ _ refl refl
    (long_idle_fault takes command (held before pending) (place done) long.first long.text)
    (long_idle_walked takes (held before pending) (place done) long.first long.text)))

waits_word : (takes : Takes) (command : Text) → LeavesNumber takes → (word : Text) (words : List Text)
    → (after_dash word ≡ None) ⊎ IsLong word → list_any is_short words ≡ false
    → Idle takes command words → Waits takes command (word ∷ words)
waits_word takes command sound word words (inl none) read idles = λ done name has.
    subst (λ (m : Meaning). Agrees done
    (faults (built_shape command takes) (stand (held done (Some (name, []))) (option name) (place done))
    (word ∷ words))
    (rows_at_end (built_shape command takes) (stand (held done (Some (name, []))) (option name)
    (place done)) (word ∷ words)) (uses_by m (uses_in takes words)))
    (sym (ap (λ o. as_value name o word) none))
    (waits_plain takes command sound word words none read idles done name has)
waits_word takes command sound word words (inr long) read idles =
    subst (λ w. Waits takes command (w ∷ words)) (sym long.is)
    (waits_long takes command long.first long.text words)

pub all_words : (takes : Takes) (command : Text) → LeavesNumber takes → (words : List Text)
    → list_any is_short words ≡ false → Idle takes command words × Waits takes command words
all_words takes command sound [] read = (idle_at_end takes command, waits_at_end takes command)
all_words takes command sound (word ∷ words) read =
    let parts = or_false _ _ read in
    let rest = all_words takes command sound words parts.1 in
    let what = read_word word parts.0 in (
      idle_word takes command sound word words what rest.0 rest.1,
      waits_word takes command sound word words what parts.1 rest.0,
    )
