use Rattle.std.proofs.Common.{◌≡◌, map, take}
use Rattle.skims.proofs.given_times.free_steps.Given as goal

abbrev pub invariant-loop-link : goal.invariant-loop-link
invariant-loop-link l = l.free.items ≡ map (λ link. link.free) (take l.link-index l.links)
