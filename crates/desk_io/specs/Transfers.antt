-- What was read of a table, and what went out to an output.
use Rattle.std.specs.Prelude.{ℕ, ◌≡◌, ◌≤◌, ◌<◌, ◌⊎◌, List, length, take, Result, Err, IfOk, OnOk}
use Rattle.std.specs.Prelude.{OnErr}
use Rattle.std.proofs.Common.{Vec}
use Rattle.std.specs.declared.alloc.Global.{Global}
use Rattle.std.specs.Io.KnownBytes.{IsAtEnd}
use Rattle.desk_io.specs.declared.desk.Table.{Table}
use Rattle.desk_io.specs.declared.desk.Output.{Output}
use Rattle.desk_io.specs.Desk.{Left, Taken, left_of, before_left, grown}
use Rattle.desk_io.specs.Faults.{HasCause, Rose}
use Rattle.desk_io.specs.State.{DeskState}
use Rattle.desk_io.specs.declared.transfers.ReadRefusal.{ReadRefusal}
use Rattle.desk_io.specs.declared.transfers.ReadRefusal.TheVariants as refusal

-- a table was read to its end: these were its bytes, and no other table was read
pub record IsRead (table : Table) (bytes : List ℕ) (before after : Left) : Type 0 where
  pub read : before ≡ before_left table bytes after
  pub ended : IsAtEnd (left_of table after)

-- some first bytes of a table were read, and no other table was
pub record IsBegun (table : Table) (before after : Left) : Type 0 where
  pub bytes : List ℕ
  pub read : before ≡ before_left table bytes after

-- more than so many bytes of a table were there, and no other table was read
pub record IsLong (table : Table) (limit : ℕ) (before after : Left) : Type 0 where
  pub bytes : List ℕ
  pub more : limit < length bytes
  pub read : before ≡ before_left table bytes after

-- a first part of a text went out to an output, and nothing to another
pub record IsPartOut (output : Output) (text : List ℕ) (before after : Taken) : Type 0 where
  pub count : ℕ
  pub within : count ≤ length text
  pub out : after ≡ grown output (take count text) before

-- a text went out whole, or where the count of failed puts rose, a first part of it
abbrev pub IsOut : Output → List ℕ → Taken → Taken → ℕ → ℕ → Type 0
IsOut output text before after faults_before faults_after =
    (after ≡ grown output text before)
    ⊎ (IsPartOut output text before after × Rose faults_before faults_after)

-- a call that puts to outputs and does nothing else to a desk: what they took where it is done and
-- where it is refused. A refusal comes only where the count of failed puts rose
pub record OnlyPuts {T E : Type 0} (Done Refused : Taken → Taken → Type 0)
    (before after : DeskState) (result : Result T E) : Type 0 where
  pub whole : OnOk result (Done before.taken after.taken)
  pub refused : OnErr result (Refused before.taken after.taken)
  pub cause : HasCause before.put_faults after.put_faults result
  pub left : after.left ≡ before.left
  pub reads : after.read_faults ≡ before.read_faults

-- a call that puts a text: it went out whole to its output, or on a refusal a first part of it
abbrev pub Puts : {T E : Type 0} → Output → List ℕ → DeskState → DeskState → Result T E → Type 0
Puts output text before after result =
    OnlyPuts (λ old new. new ≡ grown output text old) (IsPartOut output text) before after result

-- a call that reads a table: it was read to its end and has at most so many bytes, or on a refusal
-- it was begun; as too long, where more bytes were there, and as failed, where the count of failed
-- reads rose. No other table was read and nothing was put
pub record Reads (table : Table) (limit : ℕ) (before after : DeskState)
    (result : Result (Vec ℕ Global) ReadRefusal) : Type 0 where
  pub whole : IfOk result (λ bytes. IsRead table bytes.items before.left after.left)
  pub short : IfOk result (λ bytes. length bytes.items ≤ limit)
  pub begun : OnErr result (IsBegun table before.left after.left)
  pub long : result ≡ Err refusal.TooLong → IsLong table limit before.left after.left
  pub failed : result ≡ Err refusal.Failed → Rose before.read_faults after.read_faults
  pub later : before.read_faults ≤ after.read_faults
  pub taken : after.taken ≡ before.taken
  pub puts : after.put_faults ≡ before.put_faults
