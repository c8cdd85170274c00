-- What stays true row by row is true of all rows of an accepted table.
use Rattle.std.proofs.Common.{◌≡◌, ℕ, ◌<◌, List, [], ◌∷◌, ◌++◌, length, refl, Bool, true, false, cond}
use Rattle.std.specs.Prelude.{IfOk, Result, Ok, Err, nat_le}
use Rattle.std.proofs.lemmas.Bool.{leb-false}
use Rattle.desk_io.specs.declared.desk.Table.{Table}
use Rattle.row_reader.specs.Fields.{has_columns, then_with}
use Rattle.row_reader.specs.FirstFault.{Checks, at_line, judged, rows_from, rows_of, verdict}
use Rattle.row_reader.specs.Records.{Record, is_good, is_text}
use Rattle.row_reader.specs.Rows.{FieldsView}
use Rattle.row_reader.specs.declared.faults.Column.{Column}
use Rattle.row_reader.specs.declared.faults.Complaint.{Complaint}

-- a chain of checks that ends well went well at each link
pub then_ok : {A B C : Type 0} (r : Result A C) (f : A → Result B C) (y : B) → then_with r f ≡ Ok y → (x : A) × (r ≡ Ok x) × (f x ≡ Ok y)
then_ok (Ok x) f y e = (x, refl, e)
then_ok (Err c) f y e = absurd cc

-- the same, for what follows from it
pub next_ok : {A B C P : Type 0} (r : Result A C) (f : A → Result B C) (y : B) → then_with r f ≡ Ok y → ((x : A) → r ≡ Ok x → f x ≡ Ok y → P) → P
next_ok r f y e next = let is = then_ok r f y e in next is.0 is.1 is.2

pub same_Ok : {A C : Type 0} (x y : A) → ◌≡◌ {A = Result A C} (Ok x) (Ok y) → x ≡ y
same_Ok x y e = cc

-- the type of what a function takes, where that has no name here
abbrev pub Before : {A B : Type 0} → (A → B) → Type 0
Before {A} f = A

-- of two choices of which the second is a fault, the first was made
pub chosen : {A C : Type 0} (b : Bool) (r : Result A C) (c : C) (y : A) → cond b r (Err c) ≡ Ok y → (b ≡ true) × (r ≡ Ok y)
chosen true r c y e = (refl, e)
chosen false r c y e = absurd cc

-- and of two of which the first is a fault, the second
pub otherwise : {A C : Type 0} (b : Bool) (r : Result A C) (c : C) (y : A) → cond b (Err c) r ≡ Ok y → (b ≡ false) × (r ≡ Ok y)
otherwise true r c y e = absurd cc
otherwise false r c y e = (refl, e)

-- what holds of the value of a check holds of the value that it gave
pub if_ok : {A C : Type 0} (Q : A → Type 0) {r : Result A C} {x : A} → r ≡ Ok x → IfOk r Q → Q x
if_ok Q e h = rw e at h

-- a chain that goes on with the value of a check
pub passes : {A B C : Type 0} (Q : B → Type 0) (r : Result A C) (f : A → Result B C) → ((x : A) → r ≡ Ok x → IfOk (f x) Q) → IfOk (then_with r f) Q
passes Q (Ok x) f h = h x refl
passes Q (Err c) f h = tt

at-line : {A : Type 0} (table : Table) (line : ℕ) (r : Result A Complaint) (x : A) → at_line table line r ≡ Ok x → r ≡ Ok x
at-line table line (Ok y) x e = let same : y ≡ x = cc in cc
at-line table line (Err c) x e = absurd cc

module _ {R : Type 0} (Q : List R → Type 0) (table : Table) (limit : ℕ) (required : List Column) (checks : Checks R)
    (grows : (before : List R) (r : FieldsView) (row : R) → checks before r ≡ Ok row → length before < limit → Q before → Q (before ++ row ∷ [])) where
  judged-grows : (header : Record) (before : List R) (r : Record) (row : R) → judged header limit checks before r ≡ Ok row → Q before → Q (before ++ row ∷ [])
  judged-grows header before r row e q =
      let good = chosen (is_good header r) _ _ row e in
      let room = otherwise (nat_le limit (length before)) _ _ row good.1 in
      grows before _ row room.1 (leb-false limit (length before) room.0) q

  from-kept : (header : Record) (before : List R) (rest : List Record) (rows : List R)
      → rows_from table (judged header limit checks) before rest ≡ Ok rows → Q before → Q rows
  unfolding rows_from
  from-kept header before [] rows e q = let same : before ≡ rows = cc in rw (← same) q
  from-kept header before (r ∷ rest) rows e q =
      let first = then_ok _ _ rows e in
      from-kept header (before ++ first.0 ∷ []) rest rows first.2
      (judged-grows header before r first.0 (at-line table _ _ first.0 first.1) q)

  of-kept : (header : Record) (rest : List Record) (rows : List R) → rows_of table limit required checks header rest ≡ Ok rows → Q [] → Q rows
  of-kept header rest rows e q =
      let read = then_ok (at_line table 1 (has_columns header required)) (λ _. rows_from table (judged header limit checks) [] rest) rows e in
      from-kept header [] rest rows read.2 q

  pub kept : (all : List Record) (rows : List R) → verdict table limit required checks all ≡ Ok rows → Q [] → Q rows
  unfolding verdict
  kept [] rows e q = of-kept [] [] rows e q
  kept (header ∷ rest) rows e q = of-kept header rest rows (chosen (is_text header) _ _ rows e).1 q
