-- What the readers of fields make of a number that is written in decimal.
use Rattle.std.proofs.Common.{◌≡◌, ℕ, ◌+◌, ◌*◌, ◌/◌, ◌%◌, ◌^◌, ◌<◌, ◌≤◌, true, false, List, [], ◌∷◌, ◌++◌, length, length-append, append-nil, reverse, decimal, refl, sym, ap, ◌∙◌, arith, le-leb, ne_eqb, Ok}
use Rattle.std.specs.Prelude.{◌&&◌, not, ◌==◌}
use Rattle.std.specs.List.{list_all, list_any}
use Rattle.std.proofs.lemmas.Fmt.{decimal_by_steps, length-decimal-le, IsAscii-decimal}
use Rattle.std.proofs.lemmas.List.{reverse-append, reverse-reverse}
use Rattle.std.proofs.lemmas.List.Folds.{list_all-append}
use Rattle.std.proofs.lemmas.Str.{IsUtf8-from_ascii}
use Rattle.csv.specs.Writing.{default_writer, needs_byte}
use Rattle.fixed_units.specs.Quantity.{thousandths, is_digit, is_identifier, number, whole_part, milli_of}
use Rattle.fixed_units.specs.Spelling.{Spelling, IsSpelling, no_sign, no_exponent}
use Rattle.fixed_units.specs.declared.identifier.TheConstants.{GREATEST_IDENTIFIER}
use Rattle.fixed_units.specs.declared.quantity.TheConstants.{MOST_THOUSANDTHS}
use Rattle.fixed_units.proofs.Numbers.{number-nil, number-push, and-first, and-second}
use Rattle.fixed_units.proofs.Spellings.{spellings-are-read}
use Rattle.fixed_units.proofs.Splits.{is_identifier-joined, whole_part-joined}
use Rattle.row_reader.specs.Fields.{identifier, quantity}
use Rattle.row_reader.specs.Trimmed.{is_blank, drop_blanks, trimmed}
use Rattle.row_reader.specs.declared.faults.Column.{Column}
use Rattle.grid_maker.proofs.LinesFacts.{IsField}
use Rattle.row_reader.proofs.BlanksFacts.{drop_blanks-nil, drop_blanks-other}

-- ---- digits

-- one digit or more, which write a number
record IsWritten (k : ℕ) (text : List ℕ) : Type 0 where
  digits : list_all is_digit text ≡ true
  some : 0 < length text
  value : number text ≡ k

digit : (d : ℕ) → d < 10 → list_all is_digit ((48 + d) ∷ []) ≡ true
digit d h = grind arith

one-digit : (k : ℕ) → k < 10 → IsWritten k ((48 + k) ∷ [])
one-digit k h = record { digits = digit k h; some = omega arith; value = number-push [] (48 + k) ∙ omega (arith, number-nil) }

more-digits : (k : ℕ) (ds : List ℕ) → 10 ≤ k → IsWritten (k / 10) ds → IsWritten k (ds ++ ((48 + k % 10) ∷ []))
more-digits k ds h w = record {
  digits = rw (list_all-append is_digit ds ((48 + k % 10) ∷ []), w.digits) (digit (k % 10) (omega arith));
  some = omega (arith, length-append ds ((48 + k % 10) ∷ []));
  value = number-push ds (48 + k % 10) ∙ omega (arith, w.value);
}

written : (k : ℕ) → k < 2 ^ 64 → IsWritten k (decimal k)
written = decimal_by_steps IsWritten one-digit more-digits

-- digits call for no quotes
plain-digit : (b : ℕ) → is_digit b ≡ true → needs_byte default_writer b ≡ false
plain-digit b h = grind arith

plain : (ds : List ℕ) → list_all is_digit ds ≡ true → list_any (needs_byte default_writer) ds ≡ false
plain [] h = refl
plain (b ∷ ds) h = let e = plain-digit b (and-first _ _ h) in rw e (plain ds (and-second (is_digit b) _ h))

-- so a number stands in a line as it is
pub decimal-field : (k : ℕ) → k < 2 ^ 64 → IsField (decimal k)
decimal-field k h = record { plain = plain (decimal k) (written k h).digits; text = IsUtf8-from_ascii (decimal k) (IsAscii-decimal k h) }

-- digits have no blanks at their ends
no-blank : (b : ℕ) → is_digit b ≡ true → is_blank b ≡ false
no-blank b h = grind arith

drop-same : (ds : List ℕ) → list_all is_digit ds ≡ true → drop_blanks ds ≡ ds
drop-same [] h = drop_blanks-nil
drop-same (b ∷ ds) h = drop_blanks-other b ds (no-blank b (and-first _ _ h))

digits-reversed : (ds : List ℕ) → list_all is_digit ds ≡ true → list_all is_digit (reverse ds) ≡ true
digits-reversed [] h = refl
digits-reversed (b ∷ ds) h =
    ap (list_all is_digit) (reverse-append (b ∷ []) ds) ∙ list_all-append is_digit (reverse ds) (b ∷ [])
    ∙ (let e = digits-reversed ds (and-second (is_digit b) _ h) in let f = and-first _ (list_all is_digit ds) h in rw (e, f) refl)

trimmed-same : (ds : List ℕ) → list_all is_digit ds ≡ true → trimmed ds ≡ ds
trimmed-same ds h = rw (drop-same ds h, drop-same (reverse ds) (digits-reversed ds h)) (reverse-reverse ds)

-- ---- fields

whole-digits : (ds : List ℕ) → list_all is_digit ds ≡ true → (not (length ds == 0) && true) ≡ true → (is_identifier ds ≡ true) × (whole_part ds ≡ ds)
whole-digits ds h some =
    let form : is_identifier (ds ++ []) ≡ (not (length ds == 0) && true) = is_identifier-joined ds [] h refl in
    let whole : whole_part (ds ++ []) ≡ ds = whole_part-joined ds [] h refl in
    (ap is_identifier (sym (append-nil ds)) ∙ form ∙ some, ap whole_part (sym (append-nil ds)) ∙ whole)

some-digits : (n : ℕ) → 0 < n → (n == 0) ≡ false
some-digits n h = ne_eqb n 0 (λ e. omega arith)

-- an identifier is read as its number
pub identifier-read : (what : Column) (k : ℕ) → k ≤ GREATEST_IDENTIFIER → identifier what (trimmed (decimal k)) ≡ Ok k
unfolding identifier
identifier-read what k h =
    let w = written k (omega arith) in
    let some = some-digits (length (decimal k)) w.some in
    let form = whole-digits (decimal k) w.digits (rw some refl) in
    rw (trimmed-same (decimal k) w.digits, some, form.0, form.1, w.value, le-leb k GREATEST_IDENTIFIER h) refl

milli-read : (k : ℕ) → k ≤ 1000000000 → milli_of (decimal k) ≡ Ok (1000 * k)
milli-read k h =
    let w = written k (omega arith) in
    let s : Spelling = record { sign = no_sign; whole = decimal k; point = false; fraction = []; last = no_exponent } in
    let spelled : IsSpelling s = record {
      whole_digits = w.digits;
      fraction_digits = refl;
      some_digit = rw (append-nil (decimal k)) w.some;
      pointed = λ _. refl;
      in_order = tt;
    } in
    let short : length (decimal k ++ []) ≤ 64 = rw (append-nil (decimal k)) (omega (arith, length-decimal-le 10 k (omega arith) (omega arith) (omega arith))) in
    let read : milli_of (decimal k) ≡ thousandths false (k * 10 ^ 0) (10 ^ (0 + 0)) = rw (append-nil (decimal k), w.value) at (spellings-are-read s spelled short) in
    let exact : 1000 * (k * 10 ^ 0) / 10 ^ (0 + 0) ≡ 1000 * k = omega arith in
    read ∙ rw (exact, le-leb (1000 * k) MOST_THOUSANDTHS (omega arith)) refl

-- a quantity is read as its thousandths
pub quantity-read : (what : Column) (k : ℕ) → k ≤ 1000000000 → quantity what (trimmed (decimal k)) ≡ Ok (1000 * k)
unfolding quantity
quantity-read what k h =
    let w = written k (omega arith) in
    rw (trimmed-same (decimal k) w.digits, some-digits (length (decimal k)) w.some, milli-read k h) refl
