-- A text that goes out by way of a buffer.
use Rattle.std.specs.Prelude.{ℕ, ◌≡◌, List, ◌++◌, Result}
use Rattle.desk_io.specs.declared.desk.Output.{Output}
use Rattle.desk_io.specs.Desk.{Taken, grown}
use Rattle.desk_io.specs.State.{DeskState}
use Rattle.desk_io.specs.Transfers.{IsPartOut, OnlyPuts}

-- a text was added to what was pending: some of both together went out, and the rest is pending
-- now
pub record IsAdded (output : Output) (text pending pending_now : List ℕ) (before after : Taken)
    : Type 0 where
  pub sent : List ℕ
  pub out : after ≡ grown output sent before
  pub rest : pending ++ text ≡ sent ++ pending_now

-- a call that adds a text to what is pending, or on a refusal put a first part of both together
abbrev pub Adds : {T E : Type 0} → Output → List ℕ → List ℕ → List ℕ → DeskState → DeskState
    → Result T E → Type 0
Adds output text pending pending_now before after result =
    OnlyPuts (IsAdded output text pending pending_now) (IsPartOut output (pending ++ text))
    before after result
