-- What holds of each row that a record gives holds of all rows of a table.
use Rattle.std.proofs.Common.{ℕ, List}
use Rattle.std.specs.Prelude.{All, IfOk, Ok, Err, Result}
use Rattle.std.proofs.lemmas.List.Elements.{All-nil, All-push}
use Rattle.desk_io.specs.declared.desk.Table.{Table}
use Rattle.row_reader.specs.FirstFault.{Checks, Tells, verdict}
use Rattle.row_reader.specs.Records.{Record}
use Rattle.row_reader.specs.Rows.{FieldsView}
use Rattle.row_reader.specs.declared.faults.Column.{Column}
use Rattle.row_reader.specs.declared.faults.TableRefusal.{TableRefusal}
use Rattle.row_reader.proofs.Kept.{if_ok, kept}

-- the rows that a reader answers
pub tells-all : {R : Type 0} (Q : R → Type 0) (table : Table) (limit : ℕ) (required : List Column) (checks : Checks R)
    → ((before : List R) (r : FieldsView) → IfOk (checks before r) Q)
    → (all : List Record) (answer : Result (List R) TableRefusal) → Tells (verdict table limit required checks all) answer → IfOk answer (All Q)
tells-all Q table limit required checks gives all (Ok rows) t =
    kept (All Q) table limit required checks (λ before r row e _ a. All-push Q before row a (if_ok Q e (gives before r))) all rows t (All-nil Q)
tells-all Q table limit required checks gives all (Err e) t = tt
