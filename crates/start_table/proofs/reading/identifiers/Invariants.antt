use Rattle.std.proofs.Common.{◌≡◌, map, take, false}
use Rattle.std.specs.List.{list_any}
use Rattle.fixed_units.specs.Quantity.{whole_of}
use Rattle.start_table.specs.StartTable.{is_beyond, is_formless, value_in}
use Rattle.start_table.proofs.reading.identifiers.Given as goal

abbrev pub invariant-loop-piece : goal.invariant-loop-piece
invariant-loop-piece l = record {
  formed : list_any (λ p. is_formless (whole_of p.now)) (take l.piece-index l.pieces) ≡ false;
  beyond : list_any (λ p. is_beyond (whole_of p.now)) (take l.piece-index l.pieces) ≡ l.beyond;
  ids : l.ids.items ≡ map (λ p. value_in (whole_of p.now)) (take l.piece-index l.pieces);
}
