-- What a desk has left of each table and has taken of each output, in lists by the numbers of the
-- tables and of the outputs. `None` stands for bytes that are not told, and so does a number past
-- the end of the list.
use Rattle.std.specs.Prelude.{ℕ, zero, suc, List, [], ◌∷◌, Option, None, Some, get_or, replicate}
use Rattle.std.specs.Io.KnownBytes.{prepend_known, append_known}
use Rattle.desk_io.specs.declared.desk.TheConstants.{OUTPUTS}
use Rattle.desk_io.specs.declared.desk.Table.{Table}
use Rattle.desk_io.specs.declared.desk.Table.TheVariants.{Node, Link, Movement, Demand}
use Rattle.desk_io.specs.declared.desk.Table.TheVariants.{Start, Times}
use Rattle.desk_io.specs.declared.desk.Output.{Output}
use Rattle.desk_io.specs.declared.desk.Output.TheVariants.{Agent, LinkTime, OriginWait, Gap}
use Rattle.desk_io.specs.declared.desk.Output.TheVariants.{Report, Watch, Skim, Counts, Sweep}

-- the bytes of each table that are not read yet
abbrev pub Left : Type 0
Left = List (Option (List ℕ))

-- the bytes that each output has taken
abbrev pub Taken : Type 0
Taken = List (Option (List ℕ))

-- the number of a table
abbrev pub table_number : Table → ℕ
table_number Node = 0
table_number Link = 1
table_number Movement = 2
table_number Demand = 3
table_number Start = 4
table_number Times = 5

-- the number of an output
abbrev pub output_number : Output → ℕ
output_number Agent = 0
output_number LinkTime = 1
output_number OriginWait = 2
output_number Gap = 3
output_number Report = 4
output_number Watch = 5
output_number Skim = 6
output_number Counts = 7
output_number Sweep = 8

-- the list with the element of this number changed: all other elements are the same
abbrev pub changed_at : {A : Type 0} → ℕ → (A → A) → List A → List A
changed_at n change [] = []
changed_at zero change (x ∷ xs) = change x ∷ xs
changed_at (suc n) change (x ∷ xs) = x ∷ changed_at n change xs

-- what is left of one table
abbrev pub left_of : Table → Left → Option (List ℕ)
left_of table left = get_or left (table_number table) None

-- these bytes of one table, and then what is left: all other tables are the same
unfoldable pub before_left : Table → List ℕ → Left → Left
before_left table bytes left = changed_at (table_number table) (prepend_known bytes) left

-- what one output has taken
abbrev pub taken_of : Output → Taken → Option (List ℕ)
taken_of output taken = get_or taken (output_number output) None

-- one output grown by these bytes: all other outputs are the same
unfoldable pub grown : Output → List ℕ → Taken → Taken
grown output bytes taken =
    changed_at (output_number output) (λ known. append_known known bytes) taken

-- every output tells what it has taken, and none has taken anything
abbrev pub nothing_taken : Taken
nothing_taken = replicate OUTPUTS (Some [])
