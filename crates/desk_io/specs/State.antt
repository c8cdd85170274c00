-- All that a clause sees of a desk, and what one read and one put do to it.
use Rattle.std.specs.Prelude.{ℕ, ◌≡◌, ◌<◌, ◌≤◌, List, length, take, Result, IfOk, OnErr}
use Rattle.std.specs.Io.KnownBytes.{IsAtEnd}
use Rattle.desk_io.specs.declared.desk.Table.{Table}
use Rattle.desk_io.specs.declared.desk.Output.{Output}
use Rattle.desk_io.specs.Desk.{Left, Taken, left_of, before_left, grown}
use Rattle.desk_io.specs.Faults.{HasCause}

-- what is left of the tables, what the outputs have taken, and how many reads and puts failed
pub record DeskState : Type 0 where
  pub left : Left
  pub taken : Taken
  pub read_faults : ℕ
  pub put_faults : ℕ

-- one read of a table into a buffer: so many bytes of it were moved, none only at the table's end,
-- or the read failed and moved none
pub record ReadsSome {E : Type 0} (table : Table) (buf : List ℕ) (before after : DeskState)
    (result : Result ℕ E) : Type 0 where
  pub count : IfOk result (λ n. n ≤ length buf)
  pub bytes : IfOk result (λ n. before.left ≡ before_left table (take n buf) after.left)
  pub end : IfOk result (λ n. n ≡ 0 → 0 < length buf → IsAtEnd (left_of table after.left))
  pub refused : OnErr result (after.left ≡ before.left)
  pub taken : after.taken ≡ before.taken
  pub cause : HasCause before.read_faults after.read_faults result
  pub puts : after.put_faults ≡ before.put_faults

-- one put of a piece: a first part of it went out, or the put failed and nothing did
pub record PutsSome {E : Type 0} (output : Output) (piece : List ℕ) (before after : DeskState)
    (result : Result ℕ E) : Type 0 where
  pub count : IfOk result (λ n. n ≤ length piece)
  pub some : IfOk result (λ n. 0 < length piece → 0 < n)
  pub bytes : IfOk result (λ n. after.taken ≡ grown output (take n piece) before.taken)
  pub refused : OnErr result (after.taken ≡ before.taken)
  pub left : after.left ≡ before.left
  pub cause : HasCause before.put_faults after.put_faults result
  pub reads : after.read_faults ≡ before.read_faults
