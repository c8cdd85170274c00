use Rattle.std.proofs.Common.{◌≡◌, ◌++◌, take}
use Rattle.grid_maker.specs.Grid.{link_header, link_lines}
use Rattle.grid_maker.proofs.link_table.link_table.Given as goal

abbrev pub invariant-each : goal.invariant-each
invariant-each l = record {
  number : l.number ≡ l.link-index;
  lines : l.text ≡ link_header ++ link_lines l.side 1 (take l.link-index l.link-items);
}
