-- What a folder in memory tells.
use Rattle.std.specs.Prelude.{ℕ, List, Option, None, Some, if◌then◌else◌}
use Rattle.std.specs.Str.{bytes_eq}
use Rattle.std.specs.BTreeMap.{BTreeMap, get_by_text}
use Rattle.std.proofs.Common.{Vec}
use Rattle.std.specs.declared.string.String.{String}
use Rattle.std.specs.declared.alloc.Global.{Global}
use Rattle.file_desk.specs.Folders.{Lies}

-- what lies under a name among the files of a folder
abbrev pub lies_of : Option (Vec ℕ Global) → Lies
lies_of None = Some None
lies_of (Some bytes) = Some (Some bytes.items)

abbrev pub lies_among : BTreeMap (String Global) (Vec ℕ Global) → List ℕ → Lies
lies_among files name = lies_of (get_by_text files name)

-- the bytes of a file, told of its own name alone
abbrev pub held_under : List ℕ → List ℕ → List ℕ → Option (List ℕ)
held_under own name bytes = if bytes_eq own name then Some bytes else None
