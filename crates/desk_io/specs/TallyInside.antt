-- What the fields of a desk that counts show.
use Rattle.std.specs.Prelude.{ℕ, List, [], map, Option, None, Some}
use Rattle.desk_io.specs.TallyDesk.{TallyView}
use Rattle.desk_io.specs.declared.tally_desk.TallyDesk.TheInside as tally

-- a table that isn't set has zero bytes
abbrev pub set_or_none : Option (List ℕ) → List ℕ
set_or_none None = []
set_or_none (Some bytes) = bytes

abbrev pub tally_view : tally.Inside → TallyView
tally_view d = record {
  left = map (λ text. Some (set_or_none text)) d.tables;
  counts = d.counts;
}
