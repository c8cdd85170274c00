use Rattle.std.proofs.Common.{◌≡◌, map, take}
use Rattle.link_times.proofs.means.free_steps.Given as goal

abbrev pub invariant-loop-link : goal.invariant-loop-link
invariant-loop-link l = l.free.items ≡ map (λ link. link.free) (take l.link l.net.links)
