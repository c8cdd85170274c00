-- What is true of every skim.
use Rattle.std.specs.Prelude.{◌≡◌, ℕ, List}
use Rattle.net_core.specs.declared.rows.NetRows.{NetRows}
use Rattle.skims.specs.Skim.{IsSkim}
use Rattle.skims.specs.declared.skim_entry.SkimEntry.{SkimEntry}

-- a network, a table and starts have one skim
abbrev pub SkimsAreDetermined : Type 0
SkimsAreDetermined =
    (at : ℕ → ℕ → ℕ) (net : NetRows) (starts : List ℕ) (a b : List SkimEntry)
    → IsSkim at net starts a → IsSkim at net starts b → a ≡ b
