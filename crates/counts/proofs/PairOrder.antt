-- The order of pairs of zones.
use Rattle.std.specs.Cmp.{IsTotalOrder}
use Rattle.std.specs.Prelude.{nat_eq}
use Rattle.std.proofs.Common.{◌≡◌, ℕ, ◌+◌, ◌<◌, true, refl, arith}
use Rattle.std.proofs.lemmas.Bool.{and_parts, eq-eqb, eqb-true}
use Rattle.std.proofs.lemmas.Cmp.{nat_cmp_total, on_total, then_total}
use Rattle.net_core.specs.Network.{numbers_below}
use Rattle.counts.specs.Inside.Pairs.{IsBelow, is_count_of, pair_order}
use Rattle.counts.specs.Through.{all_pairs, is_pair, pair, pairs_from, through_count}
use Rattle.counts.specs.declared.through.ZonePair.{ZonePair}
use Rattle.counts.specs.declared.through_counts.ThroughCount.{ThroughCount}
use Rattle.counts.specs.Inside.Counting.{Among, Below, Each, Rising}
use Rattle.counts.proofs.Counting.{Each-weaker, IsCounting}
use Rattle.counts.proofs.InOrder.{Among-flat, Among-map, Each-map, Rising-flat, Rising-map, among_numbers, numbers-rise}
use Rattle.counts.proofs.TurnOrder.{less, same}

pairs_ordered : IsTotalOrder pair_order
pairs_ordered = then_total (on_total (λ q. q.origin) nat_cmp_total) (on_total (λ q. q.destination) nat_cmp_total)

by_origin : (x y : ZonePair) → x.origin < y.origin → Below pair_order x y
by_origin x y h = rw (less x.origin y.origin h) refl

by_destination : (x y : ZonePair) → x.origin ≡ y.origin → x.destination < y.destination → Below pair_order x y
by_destination x y e h = rw (same x.origin y.origin e, less x.destination y.destination h) refl

is_the_pair : (k x : ZonePair) → is_pair k x ≡ true → k ≡ x
is_the_pair k x e =
    let both = and_parts (nat_eq x.origin k.origin) (nat_eq x.destination k.destination) e in
    parts k.origin k.destination x.origin x.destination
    (eqb-true x.origin k.origin both.0) (eqb-true x.destination k.destination both.1)
  where
    parts : (a b a' b' : ℕ) → a' ≡ a → b' ≡ b → pair a b ≡ pair a' b'
    parts a b a' b' e f = rw (e, f) refl

itself : (k : ZonePair) → is_pair k k ≡ true
itself k = rw (eq-eqb k.origin k.origin refl, eq-eqb k.destination k.destination refl) refl

abbrev pub more : ThroughCount → ThroughCount
more c = record c { vehicles = c.vehicles + 1 }

pub pairs_count : IsCounting pair_order is_pair through_count is_count_of more
pairs_count = record {
  total = pairs_ordered;
  itself = itself;
  only = is_the_pair;
  told = λ k x n. refl;
  grows = λ k n. refl;
}

-- all pairs come in order
from-rises : (most origin : ℕ) → Rising (Below pair_order) (pairs_from most origin)
unfolding pairs_from
from-rises most origin = Rising-map (λ i j. i < j) (Below pair_order) (pair origin) (λ i j h. by_destination (pair origin i) (pair origin j) refl h) (numbers_below most) (numbers-rise most)

from-of : (most origin : ℕ) → Each (λ x. x.origin ≡ origin) (pairs_from most origin)
unfolding pairs_from
from-of most origin = Each-map (λ x. x.origin ≡ origin) (pair origin) (λ n. refl) (numbers_below most)

pub pairs-rise : (most : ℕ) → Rising (Below pair_order) (all_pairs most)
unfolding all_pairs
pairs-rise most = Rising-flat (λ i j. i < j) (Below pair_order) (pairs_from most) (from-rises most) across (numbers_below most) (numbers-rise most)
  where
    across : (i j : ℕ) → i < j → Each (λ x. Each (Below pair_order x) (pairs_from most j)) (pairs_from most i)
    across i j h =
        Each-weaker (λ x. x.origin ≡ i) (λ x. Each (Below pair_order x) (pairs_from most j))
        (λ x p. Each-weaker (λ y. y.origin ≡ j) (Below pair_order x) (λ y q. by_origin x y (omega (arith, h, p, q))) (pairs_from most j) (from-of most j))
        (pairs_from most i) (from-of most i)

pub pair_among : (most : ℕ) (q : ZonePair) → IsBelow most q → Among q (all_pairs most)
unfolding all_pairs pairs_from
pair_among most q w =
    Among-flat (pairs_from most) q q.origin (numbers_below most) (among_numbers most q.origin w.origin)
    (Among-map (pair q.origin) q.destination (numbers_below most) (among_numbers most q.destination w.destination))
