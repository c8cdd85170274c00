-- A table of lines, each of fields between commas: its records, and the rows that a reader gives.
use Rattle.std.proofs.Common.{◌≡◌, ℕ, suc, ◌+◌, ◌<◌, ◌≤◌, true, false, List, [], ◌∷◌, ◌++◌, length, length-append, append-nil, append_assoc, map, flat_map, zip, All, refl, sym, ap, ◌∙◌, arith, add-one, nat_eq, nat_lt, is_some, IsUtf8, ne_eqb, eq-eqb, lt-ltb, le-ltb, Some, Ok, Result}
use Rattle.std.specs.Prelude.{⊤}
use Rattle.std.specs.List.{list_any, range_with_len, position_or_len}
use Rattle.std.proofs.lemmas.Bool.{lt-leb}
use Rattle.std.proofs.lemmas.List.{length-map, map-append}
use Rattle.std.proofs.lemmas.List.Elements.{All-nil, All-cons}
use Rattle.std.proofs.lemmas.List.FromFn.{length-range_with_len, get_or-range_with_len}
use Rattle.std.proofs.lemmas.List.Sums.{position_or_len_is}
use Rattle.csv.specs.Reading.{default_config, records_from, strip_bom}
use Rattle.csv.specs.Records.{AllText}
use Rattle.csv.specs.Writing.{default_writer, fields_text, is_blank, needs_byte, read_back, row_text}
use Rattle.csv.specs.declared.parser.State.TheVariants as st
use Rattle.csv.proofs.RoundTrip.{read-write, rows_text}
use Rattle.desk_io.specs.declared.desk.Table.{Table}
use Rattle.net_core.specs.Ids.{place_of}
use Rattle.net_core.proofs.Numbers.{numbers_grow}
use Rattle.row_reader.specs.Fields.{has_columns}
use Rattle.row_reader.specs.FirstFault.{Checks, judged, rows_from, verdict}
use Rattle.row_reader.specs.Records.{Record, records, is_text}
use Rattle.row_reader.specs.declared.faults.Column.{Column}
use Rattle.row_reader.proofs.FirstFaultFacts.{from-ok, from-end}
use Rattle.row_reader.proofs.GoodFacts.{good}
use Rattle.row_reader.proofs.RecordsFacts.{none-at-end, records-some}

-- ---- fields

-- a field that a writer writes as it is
pub record IsField (field : List ℕ) : Type 0 where
  pub plain : list_any (needs_byte default_writer) field ≡ false
  pub text : IsUtf8 field

abbrev pub AreFields : Record → Type 0
AreFields [] = ⊤
AreFields (f ∷ fs) = IsField f × AreFields fs

are-text : (r : Record) → AreFields r → AllText r
unfolding AllText
are-text [] a = tt
are-text (f ∷ fs) a = (a.0.text, are-text fs a.1)

-- the rest of a line, after its first field
abbrev pub line-end : Record → List ℕ
line-end [] = 10 ∷ []
line-end (f ∷ fs) = 44 ∷ (f ++ line-end fs)

line-end-is : (r : Record) → AreFields r → fields_text default_writer r ++ 10 ∷ [] ≡ line-end r
unfolding fields_text
line-end-is [] a = refl
line-end-is (f ∷ fs) a =
    let p = a.0.plain in
    rw p (ap (λ t. 44 ∷ t) (append_assoc f (fields_text default_writer fs) (10 ∷ []) ∙ ap (λ t. f ++ t) (line-end-is fs a.1)))

-- a line of two fields or more
pub line-is : (x y : List ℕ) (rest : Record) → AreFields (x ∷ y ∷ rest) → x ++ line-end (y ∷ rest) ≡ row_text default_writer (x ∷ y ∷ rest)
unfolding is_blank
line-is x y rest a =
    let p = a.0.plain in
    rw p (sym (append_assoc x (fields_text default_writer (y ∷ rest)) (10 ∷ []) ∙ ap (λ t. x ++ t) (line-end-is (y ∷ rest) a.1)))

-- ---- a table

-- A table is a header, and a line for each of some numbered things.
module _ {A R : Type 0} (fields : A → Record) (line : A → List ℕ) (number : A → ℕ) (Fits : A → Type 0)
    (kind : Table) (limit : ℕ) (required : List Column) (checks : Checks R) (header : Record)
    (are : (x : A) → Fits x → (length (fields x) ≡ length header) × AreFields (fields x) × (number x ≤ limit))
    (lines : (x : A) → Fits x → line x ≡ row_text default_writer (fields x))
    (same : (x : A) → read_back (fields x) ≡ fields x) where
  text-of-lines : (xs : List A) → All Fits xs → flat_map line xs ≡ rows_text (map fields xs)
  unfolding rows_text
  text-of-lines [] f = refl
  text-of-lines (x ∷ xs) f = λ i. lines x (f 0 x (omega arith)) i ++ text-of-lines xs (λ k d l. f (suc k) d (omega arith)) i

  records-of-lines : (xs : List A)
      → records_from default_config (length (rows_text (map fields xs)) + 1) st.StartRecord (rows_text (map fields xs)) ≡ map fields xs
  unfolding rows_text
  records-of-lines [] = none-at-end default_config (0 + 1)
  records-of-lines (x ∷ xs) =
      records-some default_config st.StartRecord (row_text default_writer (fields x) ++ rows_text (map fields xs)) (read_back (fields x), st.StartRecord, rows_text (map fields xs))
      (read-write (fields x) (rows_text (map fields xs)))
      ∙ (λ i. same x i ∷ records-of-lines xs i)

  records-are : (xs : List A) (text : List ℕ) → All Fits xs → read_back header ≡ header → strip_bom text ≡ text
      → text ≡ row_text default_writer header ++ flat_map line xs → records text ≡ header ∷ map fields xs
  records-are xs text f own bom is =
      rw (bom, is, text-of-lines xs f)
      (records-some default_config st.StartRecord (row_text default_writer header ++ rows_text (map fields xs)) (read_back header, st.StartRecord, rows_text (map fields xs))
      (read-write header (rows_text (map fields xs)))
      ∙ (λ i. own i ∷ records-of-lines xs i))

  module _ (row : A → R)
      (accepts : (before : List A) (x : A) → Fits x → map number before ≡ range_with_len 1 (length before)
      → number x ≡ length before + 1 → checks (map row before) (record { header = header; fields = fields x; line = length (map row before) + 2 }) ≡ Ok (row x)) where
    judged-ok : (before : List A) (x : A) → Fits x → map number before ≡ range_with_len 1 (length before) → number x ≡ length before + 1
        → judged header limit checks (map row before) (fields x) ≡ Ok (row x)
    judged-ok before x f b n =
        let a = are x f in
        let small = a.2 in
        let long = length-map before row in
        rw (good header (fields x) a.0 (are-text (fields x) a.1), lt-leb limit (length (map row before)) (omega arith)) (accepts before x f b n)

    rows-after : (before xs : List A) → map number before ≡ range_with_len 1 (length before)
        → map number xs ≡ range_with_len (length before + 1) (length xs) → All Fits xs
        → rows_from kind (judged header limit checks) (map row before) (map fields xs) ≡ Ok (map row (before ++ xs))
    rows-after before [] b h f = from-end kind (judged header limit checks) (map row before) [] refl ∙ ap (λ l. Ok (map row l)) (sym (append-nil before))
    rows-after before (x ∷ xs) b h f =
        let first : number x ≡ length before + 1 = cc in
        let more : map number xs ≡ range_with_len (length before + 1 + 1) (length xs) = cc in
        let long : length (before ++ x ∷ []) ≡ length before + 1 = length-append before (x ∷ []) in
        let counted : map number (before ++ x ∷ []) ≡ range_with_len 1 (length (before ++ x ∷ []))
        = map-append number before (x ∷ []) ∙ rw (b, first, long, add-one) (sym (numbers_grow 1 (length before) (suc (length before)) (omega arith))) in
        from-ok kind (judged header limit checks) (map row before) (map fields (x ∷ xs)) (map fields xs) (fields x) (row x) refl
        (judged-ok before x (f 0 x (omega arith)) b first)
        ∙ ap (λ l. rows_from kind (judged header limit checks) l (map fields xs)) (sym (map-append row before (x ∷ [])))
        ∙ rows-after (before ++ x ∷ []) xs counted (rw long more) (λ k d l. f (suc k) d (omega arith))
        ∙ ap (λ l. Ok (map row l)) (append_assoc before (x ∷ []) xs)

    -- its reader accepts the table where it accepts each line after those before it
    pub table-accepted : (xs : List A) (text : List ℕ) → All Fits xs → read_back header ≡ header → strip_bom text ≡ text
        → text ≡ row_text default_writer header ++ flat_map line xs → is_text header ≡ true → has_columns header required ≡ Ok tt
        → map number xs ≡ range_with_len 1 (length xs) → verdict kind limit required checks (records text) ≡ Ok (map row xs)
    unfolding verdict
    table-accepted xs text f own bom is t h n = rw (records-are xs text f own bom is, t, h) (rows-after [] xs refl n f)

-- ---- numbers

module _ {X : Type 0} where
  -- things that are numbered from a number on
  pub numbers-are : (a : ℕ) (xs : List X)
      → map (λ x. x.0) (zip (range_with_len a (length xs)) xs) ≡ range_with_len a (length (zip (range_with_len a (length xs)) xs))
  numbers-are a [] = refl
  numbers-are a (x ∷ xs) = ap (λ l. a ∷ l) (numbers-are (a + 1) xs)

  pub numbered-all : (Q : X → Type 0) (a most : ℕ) (xs : List X) → a + length xs ≤ most → All Q xs
      → All (λ x. (x.0 < most) × Q x.1) (zip (range_with_len a (length xs)) xs)
  numbered-all Q a most [] le h = All-nil (λ x. (x.0 < most) × Q x.1)
  numbered-all Q a most (x ∷ xs) le h =
      All-cons (λ x. (x.0 < most) × Q x.1) (a, x) (zip (range_with_len (a + 1) (length xs)) xs) (omega arith, h 0 x (omega arith))
      (numbered-all Q (a + 1) most xs (omega arith) (λ k d l. h (suc k) d (omega arith)))

  pub numbered-count : (a : ℕ) (xs : List X) → length (zip (range_with_len a (length xs)) xs) ≡ length xs
  numbered-count a [] = refl
  numbered-count a (x ∷ xs) = ap suc (numbered-count (a + 1) xs)

-- where an identifier stands among those that count from a number on
pub place-there : (a n i : ℕ) → i < n → place_of (range_with_len a n) (a + i) ≡ Some i
place-there a n i l =
    let long = length-range_with_len a n in
    let at : position_or_len (nat_eq (a + i)) (range_with_len a n) ≡ i
    = position_or_len_is (nat_eq (a + i)) (range_with_len a n) i 0 (omega arith)
    (λ k b. rw (get_or-range_with_len a n k 0 (omega arith)) (ne_eqb (a + i) (a + k) (λ e. omega arith)))
    (λ b. rw (get_or-range_with_len a n i 0 l) (eq-eqb (a + i) (a + i) refl)) in
    let t : nat_lt i n ≡ true = lt-ltb i n l in
    rw (at, long, t) refl

pub place-nowhere : (a n id : ℕ) → a + n ≤ id → is_some (place_of (range_with_len a n) id) ≡ false
place-nowhere a n id l =
    let long = length-range_with_len a n in
    let at : position_or_len (nat_eq id) (range_with_len a n) ≡ n
    = position_or_len_is (nat_eq id) (range_with_len a n) n 0 (omega arith)
    (λ k b. rw (get_or-range_with_len a n k 0 b) (ne_eqb id (a + k) (λ e. omega arith)))
    (λ b. absurd (omega arith)) in
    let t : nat_lt n n ≡ false = le-ltb n n (omega arith) in
    rw (at, long, t) refl
