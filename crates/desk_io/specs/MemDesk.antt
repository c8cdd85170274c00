-- A desk in memory as a clause sees it.
use Rattle.std.specs.Prelude.{ℕ, ◌+◌, ◌^◌, ◌==◌, nat_lt, Bool, false, List, [], ◌∷◌, map}
use Rattle.std.specs.Prelude.{Option, None, Some, if◌then◌else◌}
use Rattle.std.specs.List.{list_any}
use Rattle.desk_io.specs.declared.desk.Table.TheVariants.{Start, Times}
use Rattle.desk_io.specs.Desk.{Left, Taken, changed_at, table_number}
use Rattle.desk_io.specs.State.{DeskState}

pub record MemView : Type 0 where
  pub left : Left
  pub taken : Taken
  pub read_faults : ℕ
  pub put_faults : ℕ
  -- how many puts found no memory
  pub starved : ℕ
  -- the number of the next read and of the next put, counted from 1: none past the last value of a
  -- counter
  pub next_read : Option ℕ
  pub next_put : Option ℕ
  -- the numbers of the reads and puts that are listed to fail
  pub failing_reads : List ℕ
  pub failing_puts : List ℕ
  -- the most bytes that one call moves
  pub most : ℕ

-- what it shows as a desk
abbrev pub desk_state : MemView → DeskState
desk_state d = record {
  left = d.left;
  taken = d.taken;
  read_faults = d.read_faults;
  put_faults = d.put_faults;
}

-- a call is listed to fail: no call past the last number is
abbrev pub is_listed : List ℕ → Option ℕ → Bool
is_listed calls None = false
is_listed calls (Some number) = list_any (λ call. call == number) calls

-- the number of the call after this one
abbrev pub number_after : Option ℕ → Option ℕ
number_after None = None
number_after (Some number) = if nat_lt (number + 1) (2 ^ 64) then Some (number + 1) else None

-- every text is told; the tables of a start and of link times have zero bytes
abbrev pub all_left : List ℕ → List ℕ → List ℕ → List ℕ → Left
all_left node link movement demand = map Some (node ∷ link ∷ movement ∷ demand ∷ [] ∷ [] ∷ [])

-- and with these bytes as the table of a start
abbrev pub with_start : List ℕ → Left → Left
with_start start left = changed_at (table_number Start) (λ _. Some start) left

-- and with these bytes as the table of link times
abbrev pub with_times : List ℕ → Left → Left
with_times times left = changed_at (table_number Times) (λ _. Some times) left
