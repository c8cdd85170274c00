-- A times table that is accepted has a row for each bucket of each link, and in each row the link takes time.
use Rattle.std.proofs.Common.{◌≡◌, ℕ, ◌/◌, ◌<◌, ◌≤◌, List, [], ◌∷◌, ◌++◌, length, length-append, refl, arith, true, false, nat_eq}
use Rattle.std.specs.Prelude.{Option, None, Some, Result, Ok, Err, IfOk, All, nat_le, nat_lt, slice_get, if◌then◌else◌, not}
use Rattle.std.proofs.lemmas.List.Elements.{All-nil, All-push}
use Rattle.std.proofs.lemmas.Bool.{leb-true, ltb-false}
use Rattle.std.proofs.lemmas.Option.{slice_get_within}
use Rattle.std.proofs.lemmas.Result.{IfOk-weaker}
use Rattle.std.proofs.Math.Nat.{div-lt_iff_lt-mul}
use Rattle.desk_io.specs.declared.desk.Table.TheVariants as table
use Rattle.row_reader.proofs.Kept.{if_ok, kept, passes}
use Rattle.row_reader.specs.Columns.{text}
use Rattle.row_reader.specs.Fields.{complain, identifier, unless, within}
use Rattle.row_reader.specs.FirstFault.{verdict}
use Rattle.row_reader.specs.Records.{Record}
use Rattle.row_reader.specs.Rows.{FieldsView}
use Rattle.row_reader.specs.declared.faults.Code.TheVariants.{E8, E13}
use Rattle.row_reader.specs.declared.faults.Column.{Column}
use Rattle.row_reader.specs.declared.faults.Column.TheVariants as column
use Rattle.row_reader.specs.declared.faults.Complaint.{Complaint}
use Rattle.net_core.specs.declared.rows.LinkRow.{LinkRow}
use Rattle.net_core.specs.declared.rows.NetRows.{NetRows}
use Rattle.row_reader.specs.declared.faults.TableRefusal.{TableRefusal}
use Rattle.dta_model.specs.LinkTimes.{buckets_to}
use Rattle.link_times.proofs.Places.{bucket_inside}
use Rattle.skims.specs.GivenTimes.{AreRowsOf}
use Rattle.skims.specs.TimesTable.{has_link, link_of, none_missing, own_link, row_count, same_number, time_row_of, times_columns, travel_of, wanted_after}
use Rattle.skims.specs.declared.time_rows.TimeRow.{TimeRow}
use Rattle.skims.specs.declared.times_table.TheConstants.{MOST_TIME_ROWS, MOST_TRAVEL_STEPS}
use Rattle.skims.specs.declared.wanted.Wanted.{Wanted}

-- ---- what a row that is accepted tells

-- the identifier is that of the row's own link
own_link-is : (wanted : Option Wanted) (id : ℕ) → IfOk (own_link wanted id) (λ w. wanted ≡ Some w)
own_link-is None id = tt
own_link-is (Some w) id =
    elim (nat_eq id w.link) as (λ b. IfOk {E = Complaint} (if b then Ok w else Err (complain E13 column.LinkId)) (λ v. Some w ≡ Some v)) [
      | true ↦ refl
      | false ↦ tt
    ]

-- and so the row has a link
link_of-is : (links : List LinkRow) (wanted : Option Wanted) (text : List ℕ) → IfOk (link_of links wanted text) (λ w. wanted ≡ Some w)
unfolding link_of
link_of-is links wanted text =
    passes (λ w. wanted ≡ Some w) (identifier column.LinkId text) _ (λ id _.
    passes (λ w. wanted ≡ Some w) (unless (not (has_link links id)) E8 column.LinkId) _ (λ _ _. own_link-is wanted id))

-- it stands before the last bucket of the last link
wanted_after-below : (net : NetRows) (bucket horizon rows : ℕ) (w : Wanted) → 0 < buckets_to bucket horizon
    → wanted_after net bucket horizon rows ≡ Some w → rows < row_count net bucket horizon
wanted_after-below net bucket horizon rows w some e =
    elim (slice_get net.links (rows / buckets_to bucket horizon)) as (λ o. slice_get net.links (rows / buckets_to bucket horizon) ≡ o → rows < row_count net bucket horizon) [
      | Some link ↦ λ h. (div-lt_iff_lt-mul some).0 (slice_get_within net.links (rows / buckets_to bucket horizon) link h)
      | None ↦ λ h. absurd (let k = rw h at e in cc)
    ] refl

-- a number within bounds
within-low : (what : Column) (low high n : ℕ) → IfOk (within what low high n) (λ m. low ≤ m)
within-low what low high n =
    elim (nat_le low n) as (λ b. nat_le low n ≡ b → IfOk (within what low high n) (λ m. low ≤ m)) [
      | true ↦ λ l. elim (nat_le n high) as (λ b. nat_le n high ≡ b → IfOk (within what low high n) (λ m. low ≤ m)) [
        | true ↦ λ h. rw (l, h) (leb-true low n l)
        | false ↦ λ h. rw (l, h) tt
      ] refl
      | false ↦ λ l. rw l tt
    ] refl

-- a link takes time
travel_of-some : (text : List ℕ) → IfOk (travel_of text) (λ steps. 1 ≤ steps)
unfolding travel_of
travel_of-some text = passes (λ steps. 1 ≤ steps) (identifier column.TravelSteps text) _ (λ n _. within-low column.TravelSteps 1 MOST_TRAVEL_STEPS n)

-- the rows that were accepted so far: no more than there may be, and in each the link takes time
record AreSoFar (count : ℕ) (rows : List TimeRow) : Type 0 where
  few : length rows ≤ count
  some : All (λ row. 1 ≤ row.travel) rows

one-more : (count : ℕ) (before : List TimeRow) (row : TimeRow) → length before < count → 1 ≤ row.travel → AreSoFar count before → AreSoFar count (before ++ row ∷ [])
one-more count before row below travel q = record {
  few = (let more = length-append before (row ∷ []) in omega arith);
  some = All-push (λ r. 1 ≤ r.travel) before row q.some travel;
}

time_row_of-grows : (net : NetRows) (bucket horizon : ℕ) → 0 < buckets_to bucket horizon → (before : List TimeRow) (r : FieldsView)
    → AreSoFar (row_count net bucket horizon) before
    → IfOk (time_row_of net bucket horizon before r) (λ row. AreSoFar (row_count net bucket horizon) (before ++ row ∷ []))
unfolding time_row_of
time_row_of-grows net bucket horizon some before r q =
    let Q : TimeRow → Type 0 = λ row. AreSoFar (row_count net bucket horizon) (before ++ row ∷ []) in
    passes Q (link_of net.links (wanted_after net bucket horizon (length before)) (text r column.LinkId)) _ (λ wanted link-is.
    passes Q (same_number column.FromStep wanted.from (text r column.FromStep)) _ (λ _ _.
    passes Q (same_number column.ToStep wanted.to (text r column.ToStep)) _ (λ _ _.
    passes Q (identifier column.Entered (text r column.Entered)) _ (λ entered _.
    passes Q (travel_of (text r column.TravelSteps)) _ (λ travel travel-is.
    passes Q (same_number column.FreeSteps wanted.free (text r column.FreeSteps)) _ (λ _ _.
    one-more (row_count net bucket horizon) before (record { entered = entered; travel = travel })
    (wanted_after-below net bucket horizon (length before) wanted some
    (if_ok (λ w. wanted_after net bucket horizon (length before) ≡ Some w) link-is
    (link_of-is net.links (wanted_after net bucket horizon (length before)) (text r column.LinkId))))
    (if_ok (λ steps. 1 ≤ steps) travel-is (travel_of-some (text r column.TravelSteps)))
    q))))))

-- all rows of an accepted table, where none is missing
are-rows : (net : NetRows) (bucket horizon : ℕ) (all : List Record) (rows whole : List TimeRow) → 0 < buckets_to bucket horizon
    → verdict table.Times MOST_TIME_ROWS times_columns (time_row_of net bucket horizon) all ≡ Ok rows
    → none_missing (row_count net bucket horizon) rows ≡ Ok whole → AreRowsOf net bucket horizon whole
are-rows net bucket horizon all rows whole some accepted none =
    let q : AreSoFar (row_count net bucket horizon) rows
    = kept (AreSoFar (row_count net bucket horizon)) table.Times MOST_TIME_ROWS times_columns (time_row_of net bucket horizon)
    (λ before r row e _ q. if_ok (λ (x : TimeRow). AreSoFar (row_count net bucket horizon) (before ++ x ∷ [])) e (time_row_of-grows net bucket horizon some before r q)) all rows accepted (record { few = omega arith; some = All-nil (λ r. 1 ≤ r.travel) }) in
    elim (nat_lt (length rows) (row_count net bucket horizon)) as (λ b. nat_lt (length rows) (row_count net bucket horizon) ≡ b → AreRowsOf net bucket horizon whole) [
      | true ↦ λ t. absurd (let k = rw t at none in cc)
      | false ↦ λ t. let k = rw t at none in let same : rows ≡ whole = cc in rw (← same) (record {
        as_many = (let few = q.few in let full = ltb-false (length rows) (row_count net bucket horizon) t in omega arith);
        some = q.some;
      })
    ] refl

-- the rows that a reader answers
pub rows-told : (net : NetRows) (bucket horizon count : ℕ) (all : List Record) (rows : List TimeRow) (answer : Result (List TimeRow) TableRefusal)
    → 1 ≤ bucket → 1 ≤ horizon → count ≡ row_count net bucket horizon
    → verdict table.Times MOST_TIME_ROWS times_columns (time_row_of net bucket horizon) all ≡ Ok rows
    → IfOk answer (λ whole. none_missing count rows ≡ Ok whole) → IfOk answer (AreRowsOf net bucket horizon)
rows-told net bucket horizon count all rows answer b h e accepted none =
    let inside = bucket_inside bucket horizon 0 b h in
    let some : 0 < buckets_to bucket horizon = omega (arith, inside) in
    IfOk-weaker answer _ (AreRowsOf net bucket horizon) (λ whole n. are-rows net bucket horizon all rows whole some accepted (rw e at n)) none
