use Rattle.std.proofs.Common.{◌≡◌, [], replicate, map}
use Rattle.net_core.proofs.lists.ListsByNumber.new.Given as goal

abbrev pub invariant-loop : goal.invariant-loop
invariant-loop g l = map (λ list. list.items) l.lists.items ≡ replicate l.counter []
