use Rattle.std.proofs.Common.{◌≡◌, [], replicate, map}
use Rattle.labels.proofs.states.by_zone.ByZone.new.Given as goal

abbrev pub invariant-loop : goal.invariant-loop
invariant-loop l = map (λ list. list.items) l.lists.items ≡ replicate l.counter []
