-- What a folder tells of its files.
use Rattle.std.specs.Prelude.{ℕ, ◌≡◌, ◌∷◌, ◌++◌, [], List, Option, None, Some, ⊤}
use Rattle.desk_io.specs.declared.desk.Table.TheVariants.{Node, Link, Movement, Demand}
use Rattle.desk_io.specs.declared.desk.Table.TheVariants.{Start, Times}
use Rattle.file_desk.specs.Names.{table_file}

-- what lies under a name: `None` where it isn't told, `Some None` where there is no file, and
-- otherwise the file's bytes
abbrev pub Lies : Type 0
Lies = Option (Option (List ℕ))

-- no file is there, where that is told
abbrev pub IsAbsent : Lies → Type 0
IsAbsent None = ⊤
IsAbsent (Some None) = ⊤
IsAbsent (Some (Some bytes)) = ⊥

-- the bytes that lie there: none where there is no file
abbrev pub bytes_of : Lies → Option (List ℕ)
bytes_of None = None
bytes_of (Some None) = Some []
bytes_of (Some (Some bytes)) = Some bytes

-- the names of the files that were made, in this order, where they are told
abbrev pub Names : Type 0
Names = Option (List (List ℕ))

-- zero bytes, told where the names are
abbrev pub no_bytes : Names → Option (List ℕ)
no_bytes None = None
no_bytes (Some names) = Some []

-- one more file was made
abbrev pub with_name : List ℕ → Names → Names
with_name name None = None
with_name name (Some names) = Some (names ++ name ∷ [])

-- what lies under the names of the tables is the same
pub record SameTables (before after : List ℕ → Lies) : Type 0 where
  pub node : after (table_file Node) ≡ before (table_file Node)
  pub link : after (table_file Link) ≡ before (table_file Link)
  pub movement : after (table_file Movement) ≡ before (table_file Movement)
  pub demand : after (table_file Demand) ≡ before (table_file Demand)
  pub start : after (table_file Start) ≡ before (table_file Start)
  pub times : after (table_file Times) ≡ before (table_file Times)
