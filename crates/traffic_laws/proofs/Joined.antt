-- Numbers joined by semicolons, and what a reader makes of them.
use Rattle.std.proofs.Common.{◌≡◌, ℕ, zero, suc, ◌+◌, ◌%◌, ◌^◌, ◌<◌, ◌≤◌, Bool, true, false, List}
use Rattle.std.proofs.Common.{[], ◌∷◌, ◌++◌, length, length-append, map, reverse, All, Ok, Err}
use Rattle.std.proofs.Common.{Result, decimal, refl, sym, ap, ◌∙◌, arith, ne_eqb, IsAscii}
use Rattle.std.specs.Prelude.{◌&&◌, ◌==◌, nat_le, if◌then◌else◌}
use Rattle.std.specs.List.{list_all, list_any}
use Rattle.std.proofs.lemmas.Bool.{and_parts}
use Rattle.std.proofs.lemmas.Fmt.{decimal_by_steps}
use Rattle.std.proofs.lemmas.List.{reverse-append, reverse-reverse}
use Rattle.std.proofs.lemmas.List.Elements.{All-cons, All-head, All-nil, All-tail}
use Rattle.std.proofs.lemmas.List.Folds.{list_all-append}
use Rattle.std.proofs.lemmas.List.Splits.{slice_split_at, slice_split_none}
use Rattle.std.proofs.lemmas.Str.{IsUtf8-from_ascii}
use Rattle.csv.specs.Writing.{default_writer, needs_byte}
use Rattle.fixed_units.specs.Quantity.{is_digit, whole_of}
use Rattle.fixed_units.specs.declared.fault.NumberFault.{NumberFault}
use Rattle.fixed_units.specs.declared.identifier.TheConstants.{GREATEST_IDENTIFIER}
use Rattle.row_reader.specs.Fields.{complain, identifier, numbered}
use Rattle.row_reader.specs.Trimmed.{drop_blanks, is_blank, trimmed}
use Rattle.row_reader.specs.declared.faults.Code.TheVariants.{E3}
use Rattle.row_reader.specs.declared.faults.Column.{Column}
use Rattle.row_reader.specs.declared.faults.Complaint.{Complaint}
use Rattle.row_reader.proofs.BlanksFacts.{drop_blanks-nil, drop_blanks-other}
use Rattle.start_table.proofs.Pieces.{told_values}
use Rattle.start_table.specs.StartTable.{ids_in, is_beyond, is_formless, is_semicolon, pieces_of}
use Rattle.start_table.specs.StartTable.{value_in}
use Rattle.grid_maker.proofs.LinesFacts.{IsField}
use Rattle.grid_maker.proofs.WrittenFacts.{identifier-read}
use Rattle.reports.specs.Texts.{joined, semicolon}

-- ---- bytes from `0` to `;`, of which digits and semicolons are
abbrev is_mark : ℕ → Bool
is_mark byte = nat_le 48 byte && nat_le byte 59

abbrev are_marks : List ℕ → Bool
are_marks text = list_all is_mark text

-- no such byte calls for quotes, is a blank, or is beyond ASCII
unquoted : (b : ℕ) → is_mark b ≡ true → needs_byte default_writer b ≡ false
unquoted b h = grind arith

unblank : (b : ℕ) → is_mark b ≡ true → is_blank b ≡ false
unblank b h = grind arith

small : (b : ℕ) → is_mark b ≡ true → b < 128
small b h = grind arith

plain : (ds : List ℕ) → are_marks ds ≡ true → list_any (needs_byte default_writer) ds ≡ false
plain [] h = refl
plain (b ∷ ds) h =
    let p = and_parts (is_mark b) (are_marks ds) h in
    let e = unquoted b p.0 in
    rw e (plain ds p.1)

ascii : (ds : List ℕ) → are_marks ds ≡ true → IsAscii ds
ascii [] h i = omega arith
ascii (b ∷ ds) h zero = small b (and_parts (is_mark b) (are_marks ds) h).0
ascii (b ∷ ds) h (suc i) = ascii ds (and_parts (is_mark b) (are_marks ds) h).1 i

marks-field : (ds : List ℕ) → are_marks ds ≡ true → IsField ds
marks-field ds h = record { plain = plain ds h; text = IsUtf8-from_ascii ds (ascii ds h) }

drop-same : (ds : List ℕ) → are_marks ds ≡ true → drop_blanks ds ≡ ds
drop-same [] h = drop_blanks-nil
drop-same (b ∷ ds) h = drop_blanks-other b ds (unblank b (and_parts (is_mark b) (are_marks ds) h).0)

marks-reversed : (ds : List ℕ) → are_marks ds ≡ true → are_marks (reverse ds) ≡ true
marks-reversed [] h = refl
marks-reversed (b ∷ ds) h =
    let p = and_parts (is_mark b) (are_marks ds) h in
    let e = marks-reversed ds p.1 in
    let f = p.0 in
    ap are_marks (reverse-append (b ∷ []) ds) ∙ list_all-append is_mark (reverse ds) (b ∷ [])
    ∙ rw (e, f) refl

trimmed-same : (ds : List ℕ) → are_marks ds ≡ true → trimmed ds ≡ ds
trimmed-same ds h =
    rw (drop-same ds h, drop-same (reverse ds) (marks-reversed ds h)) (reverse-reverse ds)

-- ---- one number
record AreDigits (text : List ℕ) : Type 0 where
  digits : list_all is_digit text ≡ true
  some : 0 < length text

digits-are : (k : ℕ) → k < 2 ^ 64 → AreDigits (decimal k)
digits-are =
    decimal_by_steps (λ k text. AreDigits text)
    (λ k h. record { digits = one k h; some = omega arith })
    (λ k ds h a. record {
      digits = more k ds a.digits;
      some = omega (arith, length-append ds ((48 + k % 10) ∷ []));
    })
  where
    one : (d : ℕ) → d < 10 → list_all is_digit ((48 + d) ∷ []) ≡ true
    one d h = grind arith

    more : (k : ℕ) (ds : List ℕ) → list_all is_digit ds ≡ true
        → list_all is_digit (ds ++ (48 + k % 10) ∷ []) ≡ true
    more k ds h =
        rw (list_all-append is_digit ds ((48 + k % 10) ∷ []), h) (one (k % 10) (omega arith))

digit-mark : (b : ℕ) → is_digit b ≡ true → is_mark b ≡ true
digit-mark b h = grind arith

digit-apart : (b : ℕ) → is_digit b ≡ true → is_semicolon b ≡ false
digit-apart b h = grind arith

digits-marks : (ds : List ℕ) → list_all is_digit ds ≡ true → are_marks ds ≡ true
digits-marks [] h = refl
digits-marks (b ∷ ds) h =
    let p = and_parts (is_digit b) (list_all is_digit ds) h in
    let e = digit-mark b p.0 in
    rw e (digits-marks ds p.1)

digits-apart : (ds : List ℕ) → list_all is_digit ds ≡ true → All (λ b. is_semicolon b ≡ false) ds
digits-apart [] h = All-nil (λ b. is_semicolon b ≡ false)
digits-apart (b ∷ ds) h =
    let p = and_parts (is_digit b) (list_all is_digit ds) h in
    All-cons (λ b. is_semicolon b ≡ false) b ds (digit-apart b p.0) (digits-apart ds p.1)

decimal-marks : (k : ℕ) → k < 2 ^ 64 → are_marks (decimal k) ≡ true
decimal-marks k h = digits-marks (decimal k) (digits-are k h).digits

number-read : (what : Column) (k : ℕ) → k ≤ GREATEST_IDENTIFIER → whole_of (decimal k) ≡ Ok k
unfolding identifier
number-read what k h =
    let same = trimmed-same (decimal k) (decimal-marks k (omega (arith, h))) in
    inside (complain E3 what) (length (decimal k) == 0) (whole_of (decimal k))
    (ap (identifier what) (sym same) ∙ identifier-read what k h)
  where
    inside : (c : Complaint) (b : Bool) (r : Result ℕ NumberFault)
        → (if b then Err c else numbered what r) ≡ Ok k → r ≡ Ok k
    inside c true r e = cc
    inside c false (Ok n) e = let is : n ≡ k = cc in ap Ok is
    inside c false (Err fault) e = cc

-- a number's field isn't empty
pub number-some : (k : ℕ) → k ≤ GREATEST_IDENTIFIER
    → (length (trimmed (decimal k)) == 0) ≡ false
number-some k h =
    let short : k < 2 ^ 64 = omega (arith, h) in
    let some = (digits-are k short).some in
    rw (trimmed-same (decimal k) (decimal-marks k short)) (ne_eqb (length (decimal k)) 0
    (λ e. omega (arith, some, e)))

-- ---- all numbers
joined-marks : (ns : List ℕ) → All (λ n. n < 2 ^ 64) ns → are_marks (joined ns) ≡ true
joined-marks [] h = refl
joined-marks (n ∷ []) h = decimal-marks n (All-head (λ k. k < 2 ^ 64) n [] h)
joined-marks (n ∷ m ∷ ns) h =
    let a = decimal-marks n (All-head (λ k. k < 2 ^ 64) n (m ∷ ns) h) in
    let b = joined-marks (m ∷ ns) (All-tail (λ k. k < 2 ^ 64) n (m ∷ ns) h) in
    list_all-append is_mark (decimal n) (semicolon ∷ joined (m ∷ ns)) ∙ rw (a, b) refl

-- joined numbers stand in a line as they are
pub joined-field : (ns : List ℕ) → All (λ n. n < 2 ^ 64) ns → IsField (joined ns)
joined-field ns h = marks-field (joined ns) (joined-marks ns h)

-- parted at semicolons they are the numbers again
pieces-are : (n : ℕ) (ns : List ℕ) → All (λ k. k < 2 ^ 64) (n ∷ ns)
    → pieces_of (joined (n ∷ ns)) ≡ map decimal (n ∷ ns)
pieces-are n [] h =
    slice_split_none is_semicolon (decimal n)
    (digits-apart (decimal n) (digits-are n (All-head (λ k. k < 2 ^ 64) n [] h)).digits)
pieces-are n (m ∷ ns) h =
    slice_split_at is_semicolon (decimal n) semicolon (joined (m ∷ ns))
    (digits-apart (decimal n) (digits-are n (All-head (λ k. k < 2 ^ 64) n (m ∷ ns) h)).digits) refl
    ∙ ap (λ l. decimal n ∷ l) (pieces-are m ns (All-tail (λ k. k < 2 ^ 64) n (m ∷ ns) h))

joined-some : (n : ℕ) (ns : List ℕ) → n < 2 ^ 64 → 0 < length (joined (n ∷ ns))
joined-some n [] h = (digits-are n h).some
joined-some n (m ∷ ns) h =
    let some = (digits-are n h).some in
    omega (arith, some, length-append (decimal n) (semicolon ∷ joined (m ∷ ns)))

abbrev IsRead : ℕ → Type 0
IsRead n = n ≤ GREATEST_IDENTIFIER

none-formless : (what : Column) (ns : List ℕ) → All IsRead ns
    → list_any (λ n. is_formless (whole_of (decimal n))) ns ≡ false
none-formless what [] h = refl
none-formless what (n ∷ ns) h =
    let e = number-read what n (All-head IsRead n ns h) in
    rw e (none-formless what ns (All-tail IsRead n ns h))

none-beyond : (what : Column) (ns : List ℕ) → All IsRead ns
    → list_any (λ n. is_beyond (whole_of (decimal n))) ns ≡ false
none-beyond what [] h = refl
none-beyond what (n ∷ ns) h =
    let e = number-read what n (All-head IsRead n ns h) in
    rw e (none-beyond what ns (All-tail IsRead n ns h))

values-are : (what : Column) (ns : List ℕ) → All IsRead ns
    → ns ≡ map (λ n. value_in (whole_of (decimal n))) ns
values-are what [] h = refl
values-are what (n ∷ ns) h =
    let e = number-read what n (All-head IsRead n ns h) in
    ap (λ l. n ∷ l) (values-are what ns (All-tail IsRead n ns h))
    ∙ ap (λ r. value_in r ∷ map (λ n. value_in (whole_of (decimal n))) ns) (sym e)

pub shorter : (ns : List ℕ) → All IsRead ns → All (λ n. n < 2 ^ 64) ns
shorter ns h i d l = let k = h i d l in omega (arith, k)

-- so a field of joined identifiers is read as these
pub ids-read : (what : Column) (ns : List ℕ) → All IsRead ns
    → ids_in what (trimmed (joined ns)) ≡ Ok ns
unfolding ids_in
ids-read what [] h = let e = trimmed-same [] refl in rw e refl
ids-read what (n ∷ ns) h =
    let short = shorter (n ∷ ns) h in
    let trim = trimmed-same (joined (n ∷ ns)) (joined-marks (n ∷ ns) short) in
    let long = joined-some n ns (All-head (λ k. k < 2 ^ 64) n ns short) in
    let some : (length (joined (n ∷ ns)) == 0) ≡ false =
    ne_eqb (length (joined (n ∷ ns))) 0 (λ e. omega (arith, long, e)) in
    let pieces = pieces-are n ns short in
    rw (trim, some, pieces) (told_values what decimal (n ∷ ns) (n ∷ ns)
    (none-formless what (n ∷ ns) h) (none-beyond what (n ∷ ns) h) (values-are what (n ∷ ns) h))
