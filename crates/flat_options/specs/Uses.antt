-- How words give options their values.
use Rattle.std.specs.Prelude.{ℕ, ◌≡◌, ◌==◌, ◌&&◌, Bool, true, false, not, List, [], ◌∷◌, ◌++◌, codes}
use Rattle.std.specs.Prelude.{Option, Some, None, if◌then◌else◌, option_map, option_and_then, find}
use Rattle.std.specs.List.{list_any, before_first, after_first}
use Rattle.std.specs.Str.{bytes_eq}

abbrev pub Text : Type 0
Text = List ℕ

-- what a command takes after its own word: options with a value, flags, and maybe one number that
-- stands alone
pub record Takes : Type 0 where
  pub options : List Text
  pub flags : List Text
  pub number : Bool

-- one use: an option's name with its value, or a flag's name with none
abbrev pub Use : Type 0
Use = Text × Option Text

-- the name under which the number that stands alone is kept
abbrev pub number_name : Text
number_name = codes "number"

abbrev pub has_name : List Text → Text → Bool
has_name names name = list_any (λ n. bytes_eq n name) names

-- no option and no flag has the name of the number
pub record LeavesNumber (takes : Takes) : Type 0 where
  pub options : has_name takes.options number_name ≡ false
  pub flags : has_name takes.flags number_name ≡ false

-- what follows a first dash (45)
abbrev pub after_dash : Text → Option Text
after_dash [] = None
after_dash (x ∷ text) = if x == 45 then Some text else None

-- what a word comes to: it is refused, it is a whole use, or it names the option whose value the
-- next word is
pub data Meaning : Type 0 where
  refused : Meaning
  gives : Use → Meaning
  names : Text → Meaning

-- a word that has to be a value: one that begins with a dash is none
abbrev pub as_value : Text → Option Text → Text → Meaning
as_value name None word = gives (name, Some word)
as_value name (Some rest) word = refused

abbrev pub value_of : Text → Text → Meaning
value_of name word = as_value name (after_dash word) word

-- `--name=value`, and `--name`
abbrev pub named : Takes → Text → Option Text → Meaning
named takes name (Some value) =
    if has_name takes.options name then gives (name, Some value) else refused
named takes name None = if has_name takes.options name then names name
    else (if has_name takes.flags name then gives (name, None) else refused)

-- the byte is `=` (61)
abbrev pub is_equals : ℕ → Bool
is_equals byte = byte == 61

-- what stands behind the first `=`, if there is one
abbrev pub joined_value : Text → Option Text
joined_value text = if list_any is_equals text then Some (after_first is_equals text) else None

-- what follows two dashes; a short option is refused, and so is `--` by itself
abbrev pub long_option : Takes → Option Text → Meaning
long_option takes None = refused
long_option takes (Some []) = refused
long_option takes (Some (x ∷ text)) =
    named takes (before_first is_equals (x ∷ text)) (joined_value (x ∷ text))

-- a word that begins with a dash is an option, and any other one is the number
abbrev pub dashed : Takes → Text → Option Text → Meaning
dashed takes word (Some rest) = long_option takes (after_dash rest)
dashed takes word None = if takes.number then gives (number_name, Some word) else refused

abbrev pub meaning_of : Takes → Text → Meaning
meaning_of takes word = dashed takes word (after_dash word)

-- the uses that begin with this meaning, where `next` has those of the words after it
abbrev pub uses_by : Meaning → (Option Text → Option (List Use)) → Option (List Use)
uses_by refused next = None
uses_by (gives u) next = option_map (λ uses. u ∷ uses) (next None)
uses_by (names name) next = next (Some name)

-- the uses in the words; behind `--name` the first word is its value
abbrev pub uses_in : Takes → List Text → Option Text → Option (List Use)
uses_in takes [] None = Some []
uses_in takes [] (Some name) = None
uses_in takes (word ∷ words) None = uses_by (meaning_of takes word) (uses_in takes words)
uses_in takes (word ∷ words) (Some name) = uses_by (value_of name word) (uses_in takes words)

abbrev pub is_given : List Use → Text → Bool
is_given uses name = list_any (λ u. bytes_eq u.0 name) uses

-- none of the uses has a name that one before it has
abbrev pub once_after : List Use → List Use → Bool
once_after before [] = true
once_after before (u ∷ uses) =
    not (is_given before u.0) && once_after (before ++ u ∷ []) uses

abbrev pub each_once : List Use → Option (List Use)
each_once uses = if once_after [] uses then Some uses else None

-- the uses in the words, each name at most once
abbrev pub uses_of : Takes → List Text → Option (List Use)
uses_of takes words = option_and_then each_once (uses_in takes words None)

-- the value that the uses give a name
abbrev pub value_in : List Use → Text → Option Text
value_in uses name = option_and_then (λ u. u.1) (find (λ u. bytes_eq u.0 name) uses)

-- a word that begins with one dash alone, or is dashes alone
abbrev pub is_short_rest : Option Text → Bool
is_short_rest None = true
is_short_rest (Some []) = true
is_short_rest (Some (x ∷ text)) = false

abbrev pub is_short_after : Option Text → Bool
is_short_after None = false
is_short_after (Some rest) = is_short_rest (after_dash rest)

abbrev pub is_short : Text → Bool
is_short word = is_short_after (after_dash word)
