use Rattle.std.proofs.Common.{rules, ◌≡◌}
use Rattle.std.proofs.lemmas.Fn.{always_returns_same}
use Rattle.std.proofs.lemmas.List.Sorted.{IsNonDecreasingBy-from_sort_by_key}
use Rattle.vehicle_release.proofs.NumbersFacts.{ordered}
use Rattle.vehicle_release.proofs.trips.put_in_order.Goals as goal

pub returns : goal.returns
returns c = λ steps early.
    let sort = c.in_ok-sort_by_key.ensures in
    ordered steps _ _ early sort.permutation
    (IsNonDecreasingBy-from_sort_by_key (λ trip. trip.departure) _ sort.sorted (λ a r q k. search rules))
    (sort.stable (λ trip. trip.departure) (always_returns_same _ (λ a r. r ≡ a.0.now.departure) _ (λ a r q k. search rules)))
