-- A desk that counts what it is given, as a clause sees it.
use Rattle.std.specs.Prelude.{ℕ, ◌+◌, min, List, [], get_or, replicate}
use Rattle.desk_io.specs.declared.desk.TheConstants.{OUTPUTS}
use Rattle.desk_io.specs.declared.desk.Output.{Output}
use Rattle.desk_io.specs.Desk.{Left, changed_at, output_number}
use Rattle.desk_io.specs.Faults.{last_count}
use Rattle.desk_io.specs.State.{DeskState}

-- what is left of the tables, and how many bytes each output has taken, by the output's number
pub record TallyView : Type 0 where
  pub left : Left
  pub counts : List ℕ

-- how many bytes one output has taken
abbrev pub count_of : Output → List ℕ → ℕ
count_of output counts = get_or counts (output_number output) 0

-- a count and so many bytes more: it stands still at its last value
abbrev pub count_after : ℕ → ℕ → ℕ
count_after count more = min (count + more) last_count

-- one output took so many bytes more: all other counts are the same
abbrev pub counted : Output → ℕ → List ℕ → List ℕ
counted output more counts =
    changed_at (output_number output) (λ count. count_after count more) counts

-- no output has taken anything
abbrev pub no_counts : List ℕ
no_counts = replicate OUTPUTS 0

-- of no output is it told which bytes it took
abbrev pub tally_state : TallyView → DeskState
tally_state d = record { left = d.left; taken = []; read_faults = 0; put_faults = 0 }
