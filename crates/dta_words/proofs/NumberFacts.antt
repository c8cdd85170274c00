-- Words of digits, as they are parsed.
use Rattle.std.proofs.Common.{◌≡◌, ◌∙◌, ◌≤◌, ◌<◌, ◌&&◌, ◌^◌, ℕ, Bool, cond, true, false, refl, ap, subst, arith, [], ◌∷◌, length, Option, Some, None, Result, Ok}
use Rattle.std.proofs.lemmas.Bool.{and_parts, leb-true}
use Rattle.std.proofs.lemmas.Option.{cond_some, option_and_then_some}
use Rattle.std.specs.Prelude.{option_and_then}
use Rattle.std.specs.List.{list_all}
use Rattle.std.specs.Str.{all_ascii_digits}
use Rattle.std.specs.Char.{is_ascii_digit}
use Rattle.std.specs.Str.Parse.{ParsesUnsigned, digits_value}
use Rattle.std.proofs.lemmas.Str.Parse.{IsNumeralModel, digits_value_short, numerals_by_value, parse_gives, tells_all_ascii_digits}
use Rattle.fixed_units.proofs.Spellings.{not-none-length}
use Rattle.flat_options.specs.Uses.{Text}
use Rattle.dta_words.specs.Numbers.{is_number, when_between}
use Rattle.dta_words.specs.Ranges.{IsBetween}

all_digits : (text : Text) → all_ascii_digits text ≡ list_all is_ascii_digit text
all_digits [] = refl
all_digits (c ∷ text) = ap (λ b. is_ascii_digit c && b) (all_digits text)

model : IsNumeralModel (λ ds. all_ascii_digits ds ≡ true) (digits_value 10)
model = numerals_by_value (λ ds. all_ascii_digits ds ≡ true) tells_all_ascii_digits

pub parsed : {E : Type 0} (text : Text) (r : Result ℕ E) → is_number text ≡ true
    → ParsesUnsigned 32 10 text r → r ≡ Ok (digits_value 10 text)
parsed text r is h =
    let parts = and_parts _ _ is in
    let rest = and_parts _ _ parts.1 in
    let digits : all_ascii_digits text ≡ true = all_digits text ∙ rest.1 in
    let short : length text ≤ 9 = leb-true (length text) 9 rest.0 in
    let below : digits_value 10 text < 10 ^ 9 = digits_value_short model text 9 digits short in
    parse_gives model 32 text r h digits (not-none-length (length text) parts.0) (omega arith)

pub bounded : (least most : ℕ) (read : Option ℕ) (n : ℕ)
    → option_and_then (when_between least most) read ≡ Some n → IsBetween least most n
bounded least most read n e =
    option_and_then_some (when_between least most) read n e (λ found _ between.
    let is = cond_some _ found n between in
    let parts = and_parts _ _ is.0 in
    subst (IsBetween least most) is.1 (leb-true least found parts.0, leb-true found most parts.1))

-- the first of two choices where the other has none
pub chosen : {A : Type 0} (b : Bool) (o : Option A) (y : A) → cond b o None ≡ Some y
    → (b ≡ true) × (o ≡ Some y)
chosen true o y e = (refl, e)
chosen false o y e = absurd cc
