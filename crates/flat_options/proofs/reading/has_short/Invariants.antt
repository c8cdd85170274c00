use Rattle.std.proofs.Common.{◌≡◌, false, map, string_bytes, take}
use Rattle.std.specs.List.{list_any}
use Rattle.flat_options.specs.Uses.{is_short}
use Rattle.flat_options.proofs.reading.has_short.Given as goal

abbrev pub invariant-loop-word : goal.invariant-loop-word
invariant-loop-word l = list_any is_short (map string_bytes (take l.word-index l.words)) ≡ false
