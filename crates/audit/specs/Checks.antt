-- Checks in their order, and the first that fails.
use Rattle.std.specs.Prelude.{ℕ, ◌≡◌, ◌⊎◌, List, [], ◌∷◌, Option}
use Rattle.desk_io.specs.declared.desk.Table.{Table}
use Rattle.row_reader.specs.declared.faults.Column.{Column}
use Rattle.net_core.specs.declared.rows.LinkNo.{LinkNo}
use Rattle.net_core.specs.declared.rows.NetRows.{NetRows}
use Rattle.dta_model.specs.declared.trip.Trip.{Trip}
use Rattle.start_table.specs.Starts.{IsNamedWalk}
use Rattle.audit.specs.declared.verdict.Verdict.{Verdict}
use Rattle.audit.specs.declared.verdict.Verdict.TheVariants.{Yes, No}

-- what a check looks at
pub data Statement : Type 0 where
  -- a number is another one
  same_number : ℕ → ℕ → Statement
  -- a number is another one, or both are missing
  same_if_any : Option ℕ → Option ℕ → Statement
  -- a text is another one, or a list of numbers is
  same_list : List ℕ → List ℕ → Statement
  -- identifiers name a route for a trip, or there are none
  names_route : NetRows → Trip → List ℕ → Statement
  -- a row that is missing, or one too many
  never : Statement

-- identifiers of links name a walk between the zones of a trip
abbrev pub NamesWalk : NetRows → Trip → List ℕ → Type 0
NamesWalk net trip ids =
    (walk : List LinkNo) × IsNamedWalk net trip.origin trip.destination ids walk

-- and a check holds
abbrev pub Holds : Statement → Type 0
Holds (same_number a b) = a ≡ b
Holds (same_if_any a b) = a ≡ b
Holds (same_list a b) = a ≡ b
Holds (names_route net trip ids) = (ids ≡ []) ⊎ NamesWalk net trip ids
Holds never = ⊥

-- a check of a field: its table, the line and the column
pub record Check : Type 0 where
  pub statement : Statement
  pub table : Table
  pub line : ℕ
  pub column : Column

-- the verdict of checks: the place of the first that fails, and yes where none does
abbrev pub IsVerdict : List Check → Verdict → Type 0
IsVerdict [] v = v ≡ Yes
IsVerdict (c ∷ others) v =
    (Holds c.statement × IsVerdict others v)
    ⊎ ((Holds c.statement → ⊥) × (v ≡ No c.table c.line c.column))
