-- The rows of a table and its first fault, one more record at a time.
use Rattle.std.proofs.Common.{◌≡◌, ℕ, ◌+◌, ◌<◌, ◌≤◌, List, [], ◌∷◌, ◌++◌, length, length-append, refl, ap, sym, subst, ◌∙◌, arith, rules, true, false}
use Rattle.std.specs.Prelude.{None, Some, Ok, Err, Result, IsErrAnd, nat_le}
use Rattle.desk_io.specs.declared.desk.Table.{Table}
use Rattle.row_reader.specs.Records.{Record, is_good}
use Rattle.row_reader.specs.Rows.{FieldsView, HasBadNext, HasBadHeader, OpensAs, RowsView, RowView, Steps}
use Rattle.row_reader.specs.Faults.{fault_of}
use Rattle.row_reader.specs.Fields.{complain, has_columns}
use Rattle.row_reader.specs.FirstFault.{Checks, Judge, judged, rows_from, rows_of, rows_in, verdict, Tells, TellsHeader}
use Rattle.row_reader.specs.declared.rows.RowFault.TheVariants as fault
use Rattle.row_reader.specs.declared.faults.Code.TheVariants.{E2, E12}
use Rattle.row_reader.specs.declared.faults.Column.{Column}
use Rattle.row_reader.specs.declared.faults.Column.TheVariants.{NoColumn}
use Rattle.row_reader.specs.declared.faults.Complaint.{Complaint}
use Rattle.row_reader.specs.declared.faults.TableFault.{TableFault}
use Rattle.row_reader.specs.declared.faults.TableRefusal.{TableRefusal}
use Rattle.row_reader.specs.declared.faults.TableRefusal.TheVariants as refusal

module _ {R : Type 0} (table : Table) (judge : Judge R) (before : List R) (rest more : List Record) (r : Record) where
  pub from-ok : (x : R) → rest ≡ r ∷ more → judge before r ≡ Ok x → rows_from table judge before rest ≡ rows_from table judge (before ++ x ∷ []) more
  unfolding rows_from
  from-ok x e j = rw (e, j) refl

  pub from-err : (c : Complaint) → rest ≡ r ∷ more → judge before r ≡ Err c → rows_from table judge before rest ≡ Err (fault_of table (length before + 2) c)
  unfolding rows_from
  from-err c e j = rw (e, j) refl

pub from-end : {R : Type 0} (table : Table) (judge : Judge R) (before : List R) (rest : List Record) → rest ≡ [] → rows_from table judge before rest ≡ Ok before
unfolding rows_from
from-end table judge before rest e = rw e refl

module _ {R : Type 0} (h : Record) (limit : ℕ) (checks : Checks R) (before : List R) (r : Record) where
  judged-checks : is_good h r ≡ true → length before < limit
      → judged h limit checks before r ≡ checks before (record { header = h; fields = r; line = length before + 2 })
  judged-checks g n = let k : nat_le limit (length before) ≡ false = search rules in rw (g, k) refl

  judged-many : is_good h r ≡ true → limit ≤ length before → judged h limit checks before r ≡ Err (complain E12 NoColumn)
  judged-many g n = let k : nat_le limit (length before) ≡ true = search rules in rw (g, k) refl

  judged-bad : is_good h r ≡ false → judged h limit checks before r ≡ Err (complain E2 NoColumn)
  judged-bad g = rw g refl

-- where a loop over the records that are left stands
pub record State {R : Type 0} (table : Table) (limit : ℕ) (checks : Checks R) (first : RowsView) (start : List R) (rows : RowsView) (before : List R) : Type 0 where
  pub running : rows.fault ≡ None
  pub header : rows.header ≡ first.header
  pub line : rows.line ≡ length before + 1
  pub same : rows_from table (judged first.header limit checks) start first.rest ≡ rows_from table (judged first.header limit checks) before rows.rest

module _ {R : Type 0} (table : Table) (limit : ℕ) (checks : Checks R) (first : RowsView) (start : List R)
    (rows next : RowsView) (before : List R) (s : State table limit checks first start rows before) where
  pub at-end : Steps rows next (Ok None) → rows_from table (judged first.header limit checks) start first.rest ≡ Ok before
  at-end e = s.same ∙ from-end table (judged first.header limit checks) before rows.rest e.0

  -- the line of the next record
  pub next-line : (row : RowView) → Steps rows next (Ok (Some row)) → row.line ≡ length before + 2
  next-line row e = let a = e.2 in let b = s.line in omega arith

  told : (row : RowView) (c : Complaint) → Steps rows next (Ok (Some row)) → judged first.header limit checks before row.fields ≡ Err c
      → rows_from table (judged first.header limit checks) start first.rest ≡ Err (fault_of table row.line c)
  told row c e j =
      s.same ∙ from-err table (judged first.header limit checks) before rows.rest next.rest row.fields c e.0 j
      ∙ ap (λ k. Err (fault_of table k c)) (sym (next-line row e))

  good-row : (row : RowView) → Steps rows next (Ok (Some row)) → is_good first.header row.fields ≡ true
  good-row row e = rw s.header at e.1

  -- the fields of a row under the header
  abbrev pub IsSeen : RowView → FieldsView → Type 0
  IsSeen row f = f ≡ record { header = next.header; fields = row.fields; line = row.line }

  judged-seen : (row : RowView) (f : FieldsView) → Steps rows next (Ok (Some row)) → IsSeen row f → length before < limit
      → judged first.header limit checks before row.fields ≡ checks before f
  judged-seen row f e seen n =
      let header : next.header ≡ first.header = ap (λ (v : RowsView). v.header) e.3 ∙ s.header in
      judged-checks first.header limit checks before row.fields (good-row row e) n
      ∙ rw (seen, header, next-line row e) refl

  pub many : (row : RowView) → Steps rows next (Ok (Some row)) → limit ≤ length before
      → rows_from table (judged first.header limit checks) start first.rest ≡ Err (fault_of table row.line (complain E12 NoColumn))
  many row e n = told row _ e (judged-many first.header limit checks before row.fields (good-row row e) n)

  pub complains : (row : RowView) (f : FieldsView) (c : Complaint) → Steps rows next (Ok (Some row)) → IsSeen row f → length before < limit → checks before f ≡ Err c
      → rows_from table (judged first.header limit checks) start first.rest ≡ Err (fault_of table row.line c)
  complains row f c e seen n j = told row c e (judged-seen row f e seen n ∙ j)

  bad-first : (rest : List Record) → HasBadNext rows.header rest
      → rows_from table (judged first.header limit checks) before rest ≡ Err (fault_of table (length before + 2) (complain E2 NoColumn))
  bad-first [] b = absurd b
  bad-first (r ∷ more) b = from-err table (judged first.header limit checks) before (r ∷ more) more r _ refl
      (judged-bad first.header limit checks before r (rw s.header at b))

  pub bad : (line : ℕ) → Steps rows next (Err (fault.BadRecord line))
      → rows_from table (judged first.header limit checks) start first.rest ≡ Err (fault_of table line (complain E2 NoColumn))
  bad line e =
      let n : line ≡ length before + 2 = (let a = e.1.0 in let b = s.line in omega arith) in
      s.same ∙ bad-first rows.rest e.1.1 ∙ ap (λ k. Err (fault_of table k (complain E2 NoColumn))) (sym n)

  pub more : (row : RowView) (f : FieldsView) (x : R) → Steps rows next (Ok (Some row)) → IsSeen row f → length before < limit → checks before f ≡ Ok x
      → State table limit checks first start next (before ++ x ∷ [])
  more row f x e seen n j =
      let view = e.3 in
      record {
        running = ap (λ (v : RowsView). v.fault) view ∙ s.running;
        header = ap (λ (v : RowsView). v.header) view ∙ s.header;
        line = (let a : next.line ≡ rows.line + 1 = ap (λ (v : RowsView). v.line) view in let b = s.line in omega (arith, length-append before (x ∷ [])));
        same = s.same ∙ from-ok table (judged first.header limit checks) before rows.rest next.rest row.fields x e.0
            (judged-seen row f e seen n ∙ j);
      }

module _ {R : Type 0} (table : Table) (limit : ℕ) (required : List Column) (checks : Checks R) where
  -- the verdict of a table that opened
  pub opened-verdict : (all : List Record) (rows : RowsView) → OpensAs all rows
      → verdict table limit required checks all ≡ rows_of table limit required checks rows.header rows.rest
  unfolding verdict
  opened-verdict [] rows o = rw o refl
  opened-verdict (h ∷ rest) rows o = rw (o.0, o.1) refl

  bad-verdict : (all : List Record) → HasBadHeader all → verdict table limit required checks all ≡ Err (fault_of table 1 (complain E2 NoColumn))
  unfolding verdict
  bad-verdict [] b = absurd b
  bad-verdict (h ∷ rest) b = rw b refl

  -- what a reader tells where the table isn't opened
  pub header-told : (all : List Record) (e : TableRefusal) → TellsHeader table all e → Tells (verdict table limit required checks all) (Err e)
  header-told all (refusal.Fault f) h = bad-verdict all h.0 ∙ ap Err (sym h.1)
  header-told all refusal.Memory h = tt

  -- what it tells where a column is missing
  pub columns-told : (all : List Record) (rows : RowsView) → OpensAs all rows → (c : Complaint)
      → has_columns rows.header required ≡ Err c → verdict table limit required checks all ≡ Err (fault_of table 1 c)
  columns-told all rows o c e = opened-verdict all rows o ∙ rw e refl

  -- what it tells by the records below the header
  pub below-told : (all : List Record) (rows : RowsView) → OpensAs all rows → has_columns rows.header required ≡ Ok tt → (none : List R) → none ≡ []
      → verdict table limit required checks all ≡ rows_from table (judged rows.header limit checks) none rows.rest
  below-told all rows o e none n = opened-verdict all rows o ∙ rw (e, n) refl

-- rows that opened have no fault, and stand at the first line
pub opened-runs : (all : List Record) (rows : RowsView) → OpensAs all rows → (rows.fault ≡ None) × (rows.line ≡ 1)
opened-runs [] rows o = (ap (λ (v : RowsView). v.fault) o, ap (λ (v : RowsView). v.line) o)
opened-runs (h ∷ rest) rows o = (ap (λ (v : RowsView). v.fault) o.1, ap (λ (v : RowsView). v.line) o.1)

-- a refusal that is handed on
pub told-on : {A R : Type 0} (rows : A → List R) (told : Result (List R) TableFault) (answer : Result A TableRefusal) (e : TableRefusal)
    → IsErrAnd answer (λ x. x ≡ e) → Tells told (Err e) → Tells told (rows_in rows answer)
told-on rows told (Ok a) e h t = absurd h
told-on rows told (Err x) e h t = subst (λ v. Tells told (Err v)) (sym h) t
