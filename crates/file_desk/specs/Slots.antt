-- What is left of a table's file, and what an output's file has taken.
use Rattle.std.specs.Prelude.{ℕ, ◌≡◌, List, [], Option, None, Some, ⊤}
use Rattle.file_desk.specs.Folders.{Lies, Names, bytes_of, no_bytes}
use Rattle.file_desk.specs.declared.slots.TableFile.{TableFile}
use Rattle.file_desk.specs.declared.slots.TableFile.TheVariants as table

-- what is left under a name: of a file that isn't opened yet, all that lies there
abbrev pub left_in : {O : Type 0} → (O → Option (List ℕ)) → Lies → TableFile O → Option (List ℕ)
left_in rest lies table.NotOpened = bytes_of lies
left_in rest None table.Absent = None
left_in rest (Some _) table.Absent = Some []
left_in rest lies (table.Opened file) = rest file

-- what was put under a name: nothing while no file is made
abbrev pub taken_in : {M : Type 0} → (M → List ℕ → Option (List ℕ)) → Names → List ℕ → Option M
    → Option (List ℕ)
taken_in holds made name None = no_bytes made
taken_in holds made name (Some file) = holds file name

-- all that a file holds is on the disk, where a file was made
abbrev pub IsKept : {M : Type 0} → (holds kept : M → List ℕ → Option (List ℕ)) → Option M → Type 0
IsKept holds kept None = ⊤
IsKept holds kept (Some file) = (name : List ℕ) → kept file name ≡ holds file name
