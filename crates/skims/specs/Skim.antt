-- Least times between all zones of a network, over a table of link times. Zones are identifiers.
use Rattle.std.specs.Prelude.{◌≡◌, ℕ, List}
use Rattle.std.specs.List.{AllZip}
use Rattle.net_core.specs.Network.{zones}
use Rattle.net_core.specs.declared.rows.NetRows.{NetRows}
use Rattle.trip_costs.specs.Timings.{Links}
use Rattle.labels.specs.ToZone.{TellsLeast}
use Rattle.skims.specs.Questions.{Question, questions}
use Rattle.skims.specs.declared.skim_entry.SkimEntry.{SkimEntry}

-- an entry is that of a question, and tells the least time in the table, or that there is no walk
pub record IsEntryOf (at : ℕ → ℕ → ℕ) (net : NetRows) (question : Question) (entry : SkimEntry)
    : Type 0 where
  pub origin : entry.origin ≡ question.origin
  pub destination : entry.destination ≡ question.destination
  pub start : entry.start ≡ question.start
  pub least : TellsLeast (Links at) net question.origin question.destination question.start
      entry.least

-- the skim of a network over a table, for some starts: an entry for each question, in their order.
-- Zones come in the order of their first appearance
abbrev pub IsSkim : (ℕ → ℕ → ℕ) → NetRows → List ℕ → List SkimEntry → Type 0
IsSkim at net starts entries =
    AllZip (IsEntryOf at net) (questions (zones net.nodes) starts) entries
