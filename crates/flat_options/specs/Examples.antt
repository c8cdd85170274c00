-- Small lists of words, computed by the grammar.
use Rattle.std.specs.Prelude.{◌≡◌, [], ◌∷◌, Some, None, true, false, codes, refl}
use Rattle.flat_options.specs.Uses.{LeavesNumber, Takes, Use, is_short, number_name, uses_of}

abbrev takes : Takes
takes = record {
  options = codes "size" ∷ codes "unit" ∷ [];
  flags = codes "all" ∷ [];
  number = true;
}

abbrev size : Use
size = (codes "size", Some (codes "12"))

number_is_free : LeavesNumber takes
number_is_free = record { options = refl; flags = refl }

in_any_order : uses_of takes (codes "--all" ∷ codes "7" ∷ codes "--size" ∷ codes "12" ∷ [])
    ≡ Some ((codes "all", None) ∷ (number_name, Some (codes "7")) ∷ size ∷ [])
in_any_order = refl

joined : uses_of takes (codes "--size=12" ∷ []) ≡ Some (size ∷ [])
joined = refl

-- the first `=` ends the name
joined_twice : uses_of takes (codes "--unit=a=b" ∷ [])
    ≡ Some ((codes "unit", Some (codes "a=b")) ∷ [])
joined_twice = refl

joined_nothing : uses_of takes (codes "--unit=" ∷ []) ≡ Some ((codes "unit", Some []) ∷ [])
joined_nothing = refl

nothing : uses_of takes [] ≡ Some []
nothing = refl

given_twice : uses_of takes (codes "--size=12" ∷ codes "--size" ∷ codes "12" ∷ []) ≡ None
given_twice = refl

without_its_value : uses_of takes (codes "--size" ∷ []) ≡ None
without_its_value = refl

a_dash_begins_no_value : uses_of takes (codes "--size" ∷ codes "-5" ∷ []) ≡ None
a_dash_begins_no_value = refl

a_flag_has_no_value : uses_of takes (codes "--all=12" ∷ []) ≡ None
a_flag_has_no_value = refl

not_taken : uses_of takes (codes "--most" ∷ []) ≡ None
not_taken = refl

no_number : uses_of (record takes { number = false }) (codes "7" ∷ []) ≡ None
no_number = refl

short_option : is_short (codes "-s") ≡ true
short_option = refl

dashes_alone : is_short (codes "--") ≡ true
dashes_alone = refl

long_option : is_short (codes "--s") ≡ false
long_option = refl
