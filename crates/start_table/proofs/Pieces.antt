-- The identifiers that pieces of a text write.
use Rattle.std.proofs.Common.{◌≡◌, ℕ, zero, suc, ◌<◌, ◌≤◌, ◌+◌, Bool, true, false, List, [], ◌∷◌, ◌++◌, length, refl, ap, sym, ◌∙◌, arith, Ok, Err, map, get_or, take}
use Rattle.std.specs.Prelude.{◌||◌}
use Rattle.std.specs.List.{list_any}
use Rattle.std.proofs.Math.Seq.{take-suc}
use Rattle.std.proofs.lemmas.List.{map-append}
use Rattle.std.proofs.lemmas.List.Folds.{list_any_more}
use Rattle.fixed_units.specs.Quantity.{whole_of}
use Rattle.fixed_units.specs.declared.fault.NumberFault.TheVariants.{NotNumber, OutOfRange}
use Rattle.row_reader.specs.Fields.{not_a_number}
use Rattle.row_reader.specs.declared.faults.Column.{Column}
use Rattle.start_table.specs.StartTable.{identifiers_of, is_beyond, is_formless, ids_told, value_in}

any_map : {X Y : Type 0} (p : Y → Bool) (f : X → Y) (xs : List X) → list_any p (map f xs) ≡ list_any (λ x. p (f x)) xs
any_map p f [] = refl
any_map p f (x ∷ xs) = rw (any_map p f xs) refl

map_map : {X Y Z : Type 0} (g : Y → Z) (f : X → Y) (xs : List X) → map g (map f xs) ≡ map (λ x. g (f x)) xs
map_map g f [] = refl
map_map g f (x ∷ xs) = ap (λ l. g (f x) ∷ l) (map_map g f xs)

-- a test that passes at some place passes of the list
pub any_here : {X : Type 0} (p : X → Bool) (xs : List X) (i : ℕ) (d : X) → i < length xs → p (get_or xs i d) ≡ true → list_any p xs ≡ true
any_here p [] i d h e = absurd (omega (arith, h))
any_here p (x ∷ xs) zero d h e = rw e refl
any_here p (x ∷ xs) (suc i) d h e = by (p x) refl (any_here p xs i d (omega (arith, h)) e)
  where
    by : (b : Bool) → p x ≡ b → list_any p xs ≡ true → list_any p (x ∷ xs) ≡ true
    by true t rest = rw t refl
    by false t rest = rw t rest

module _ {X : Type 0} (what : Column) (text : X → List ℕ) (pieces : List X) where
  abbrev texts : List (List ℕ)
  texts = map text pieces

  abbrev formless : X → Bool
  formless p = is_formless (whole_of (text p))

  abbrev beyond : X → Bool
  beyond p = is_beyond (whole_of (text p))

  -- one piece more
  pub formed_more : (i : ℕ) (d : X) → i < length pieces → list_any formless (take i pieces) ≡ false → formless (get_or pieces i d) ≡ false → list_any formless (take (i + 1) pieces) ≡ false
  formed_more i d h before here = list_any_more formless pieces i d h ∙ rw (before, here) refl

  pub told_formless : list_any formless pieces ≡ true → ids_told what (identifiers_of texts) ≡ Err (not_a_number what NotNumber)
  told_formless h =
      let any : list_any (λ piece. is_formless (whole_of piece)) texts ≡ true = any_map (λ piece. is_formless (whole_of piece)) text pieces ∙ h in
      rw any refl

  pub told_beyond : list_any formless pieces ≡ false → list_any beyond pieces ≡ true → ids_told what (identifiers_of texts) ≡ Err (not_a_number what OutOfRange)
  told_beyond f h =
      let none : list_any (λ piece. is_formless (whole_of piece)) texts ≡ false = any_map (λ piece. is_formless (whole_of piece)) text pieces ∙ f in
      let any : list_any (λ piece. is_beyond (whole_of piece)) texts ≡ true = any_map (λ piece. is_beyond (whole_of piece)) text pieces ∙ h in
      rw (none, any) refl

  pub told_values : (ids : List ℕ) → list_any formless pieces ≡ false → list_any beyond pieces ≡ false → ids ≡ map (λ p. value_in (whole_of (text p))) pieces → ids_told what (identifiers_of texts) ≡ Ok ids
  told_values ids f b is =
      let none : list_any (λ piece. is_formless (whole_of piece)) texts ≡ false = any_map (λ piece. is_formless (whole_of piece)) text pieces ∙ f in
      let low : list_any (λ piece. is_beyond (whole_of piece)) texts ≡ false = any_map (λ piece. is_beyond (whole_of piece)) text pieces ∙ b in
      let values : map (λ piece. value_in (whole_of piece)) texts ≡ ids = map_map (λ piece. value_in (whole_of piece)) text pieces ∙ sym is in
      rw (none, low, values) refl

  pub beyond_more : (i : ℕ) (d : X) (was here : Bool) → i < length pieces → list_any beyond (take i pieces) ≡ was → here ≡ beyond (get_or pieces i d) → list_any beyond (take (i + 1) pieces) ≡ (was || here)
  beyond_more i d was here h before is = list_any_more beyond pieces i d h ∙ ap (λ b. b || beyond (get_or pieces i d)) before ∙ ap (λ b. was || b) (sym is)

  pub values_more : (i : ℕ) (d : X) (ids new : List ℕ) (value : ℕ) → i < length pieces → ids ≡ map (λ p. value_in (whole_of (text p))) (take i pieces) → value ≡ value_in (whole_of (text (get_or pieces i d))) → new ≡ ids ++ value ∷ []
      → new ≡ map (λ p. value_in (whole_of (text p))) (take (i + 1) pieces)
  values_more i d ids new value h before is more =
      let up : i + 1 ≡ suc i = omega arith in
      let longer : take (i + 1) pieces ≡ take i pieces ++ get_or pieces i d ∷ [] = ap (λ n. take n pieces) up ∙ take-suc pieces i d h in
      more ∙ ap (λ l. l ++ value ∷ []) before ∙ ap (λ n. map (λ p. value_in (whole_of (text p))) (take i pieces) ++ n ∷ []) is
      ∙ sym (map-append (λ p. value_in (whole_of (text p))) (take i pieces) (get_or pieces i d ∷ []))
      ∙ ap (λ l. map (λ p. value_in (whole_of (text p))) l) (sym longer)

pub take_all : {X : Type 0} (n : ℕ) (xs : List X) → length xs ≤ n → take n xs ≡ xs
take_all zero [] h = refl
take_all (suc n) [] h = refl
take_all zero (x ∷ xs) h = absurd (omega (arith, h))
take_all (suc n) (x ∷ xs) h = ap (λ l. x ∷ l) (take_all n xs (omega (arith, h)))
