use Rattle.std.proofs.Common.{◌≡◌, take}
use Rattle.std.specs.Prelude.{All, Ok}
use Rattle.gmns_tables.specs.Windows.{IsWindowOf, texts, windows_in}
use Rattle.gmns_tables.proofs.windows.windows.Given as goal

abbrev pub invariant-loop-part : goal.invariant-loop-part
invariant-loop-part l = record {
  read : windows_in l.fn.kind (texts (take l.part-index l.parts)) ≡ Ok l.windows.items;
  range : All (IsWindowOf l.fn.kind) l.windows.items;
}
