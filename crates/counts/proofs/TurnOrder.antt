-- The order of turns.
use Rattle.std.specs.Ordering.{nat_cmp}
use Rattle.std.specs.Cmp.{IsTotalOrder}
use Rattle.std.specs.Prelude.{nat_eq}
use Rattle.std.proofs.Common.{◌≡◌, ℕ, ◌+◌, ◌<◌, true, ◌&&◌, refl, sym, ◌∙◌, subst, arith}
use Rattle.std.proofs.lemmas.Bool.{and_parts, eq-eqb, eqb-true, lt-ltb}
use Rattle.std.specs.declared.cmp.Ordering.TheVariants.{Equal, Less}
use Rattle.std.proofs.lemmas.Cmp.{nat_cmp_total, on_total, then_total, tied_itself}
use Rattle.net_core.specs.Network.{numbers_below}
use Rattle.counts.specs.Inside.Turns.{IsWithin, is_count_of, is_turn, turn_order}
use Rattle.counts.specs.Turns.{all_turns, turns_between, turns_from, timed, turn_count}
use Rattle.counts.specs.declared.turn_counts.TurnCount.{TurnCount}
use Rattle.counts.specs.declared.turns.TimedTurn.{TimedTurn}
use Rattle.counts.specs.Inside.Counting.{Among, Below, Each, Rising}
use Rattle.counts.proofs.Counting.{Each-weaker, IsCounting}
use Rattle.counts.proofs.InOrder.{Among-flat, Among-map, Each-flat, Each-map, Rising-flat, Rising-map, among_numbers, numbers-rise}

turns_ordered : IsTotalOrder turn_order
turns_ordered = then_total (on_total (λ t. t.a) nat_cmp_total) (then_total (on_total (λ t. t.b) nat_cmp_total) (on_total (λ t. t.bucket) nat_cmp_total))

pub less : (x y : ℕ) → x < y → nat_cmp x y ≡ Less
less x y h = rw (lt-ltb x y h) refl

pub same : (x y : ℕ) → x ≡ y → nat_cmp x y ≡ Equal
same x y e = subst (λ z. nat_cmp x z ≡ Equal) e (tied_itself nat_cmp_total x)

by_first : (x y : TimedTurn) → x.a < y.a → Below turn_order x y
by_first x y h = rw (less x.a y.a h) refl

by_second : (x y : TimedTurn) → x.a ≡ y.a → x.b < y.b → Below turn_order x y
by_second x y e h = rw (same x.a y.a e, less x.b y.b h) refl

by_bucket : (x y : TimedTurn) → x.a ≡ y.a → x.b ≡ y.b → x.bucket < y.bucket → Below turn_order x y
by_bucket x y e f h = rw (same x.a y.a e, same x.b y.b f, less x.bucket y.bucket h) refl

is_the_turn : (k x : TimedTurn) → is_turn k x ≡ true → k ≡ x
is_the_turn k x e =
    let all = and_parts (nat_eq x.a k.a && nat_eq x.b k.b) (nat_eq x.bucket k.bucket) e in
    let two = and_parts (nat_eq x.a k.a) (nat_eq x.b k.b) all.0 in
    parts k.a k.b k.bucket x.a x.b x.bucket
    (eqb-true x.a k.a two.0) (eqb-true x.b k.b two.1) (eqb-true x.bucket k.bucket all.1)
  where
    parts : (a b n a' b' n' : ℕ) → a' ≡ a → b' ≡ b → n' ≡ n → timed a b n ≡ timed a' b' n'
    parts a b n a' b' n' e f g = rw (e, f, g) refl

itself : (k : TimedTurn) → is_turn k k ≡ true
itself k = rw (eq-eqb k.a k.a refl, eq-eqb k.b k.b refl, eq-eqb k.bucket k.bucket refl) refl

abbrev pub more : TurnCount → TurnCount
more c = record c { vehicles = c.vehicles + 1 }

pub turns_count : IsCounting turn_order is_turn turn_count is_count_of more
turns_count = record {
  total = turns_ordered;
  itself = itself;
  only = is_the_turn;
  told = λ k x n. refl;
  grows = λ k n. refl;
}

-- all turns come in order
between-rise : (buckets a b : ℕ) → Rising (Below turn_order) (turns_between buckets a b)
unfolding turns_between
between-rise buckets a b = Rising-map (λ i j. i < j) (Below turn_order) (timed a b) (λ i j h. by_bucket (timed a b i) (timed a b j) refl refl h) (numbers_below buckets) (numbers-rise buckets)

between-of : (buckets a b : ℕ) → Each (λ x. (x.a ≡ a) × (x.b ≡ b)) (turns_between buckets a b)
unfolding turns_between
between-of buckets a b = Each-map (λ x. (x.a ≡ a) × (x.b ≡ b)) (timed a b) (λ n. (refl, refl)) (numbers_below buckets)

from-rise : (links buckets a : ℕ) → Rising (Below turn_order) (turns_from links buckets a)
unfolding turns_from
from-rise links buckets a = Rising-flat (λ i j. i < j) (Below turn_order) (turns_between buckets a) (between-rise buckets a) across (numbers_below links) (numbers-rise links)
  where
    across : (i j : ℕ) → i < j → Each (λ x. Each (Below turn_order x) (turns_between buckets a j)) (turns_between buckets a i)
    across i j h =
        Each-weaker (λ x. (x.a ≡ a) × (x.b ≡ i)) (λ x. Each (Below turn_order x) (turns_between buckets a j))
        (λ x p. Each-weaker (λ y. (y.a ≡ a) × (y.b ≡ j)) (Below turn_order x) (λ y q. by_second x y (p.0 ∙ sym q.0) (let u = p.1 in let w = q.1 in omega (arith, h, u, w))) (turns_between buckets a j) (between-of buckets a j))
        (turns_between buckets a i) (between-of buckets a i)

from-of : (links buckets a : ℕ) → Each (λ x. x.a ≡ a) (turns_from links buckets a)
unfolding turns_from
from-of links buckets a = Each-flat (λ x. x.a ≡ a) (turns_between buckets a) (λ b. Each-weaker (λ x. (x.a ≡ a) × (x.b ≡ b)) (λ x. x.a ≡ a) (λ x p. p.0) (turns_between buckets a b) (between-of buckets a b)) (numbers_below links)

pub turns-rise : (links buckets : ℕ) → Rising (Below turn_order) (all_turns links buckets)
unfolding all_turns
turns-rise links buckets = Rising-flat (λ i j. i < j) (Below turn_order) (turns_from links buckets) (from-rise links buckets) across (numbers_below links) (numbers-rise links)
  where
    across : (i j : ℕ) → i < j → Each (λ x. Each (Below turn_order x) (turns_from links buckets j)) (turns_from links buckets i)
    across i j h =
        Each-weaker (λ x. x.a ≡ i) (λ x. Each (Below turn_order x) (turns_from links buckets j))
        (λ x p. Each-weaker (λ y. y.a ≡ j) (Below turn_order x) (λ y q. by_first x y (omega (arith, h, p, q))) (turns_from links buckets j) (from-of links buckets j))
        (turns_from links buckets i) (from-of links buckets i)

pub turn_among : (links buckets : ℕ) (t : TimedTurn) → IsWithin links buckets t → Among t (all_turns links buckets)
unfolding all_turns turns_from turns_between
turn_among links buckets t w =
    Among-flat (turns_from links buckets) t t.a (numbers_below links) (among_numbers links t.a w.first)
    (Among-flat (turns_between buckets t.a) t t.b (numbers_below links) (among_numbers links t.b w.second)
    (Among-map (timed t.a t.b) t.bucket (numbers_below buckets) (among_numbers buckets t.bucket w.early)))
