-- Turn counts are of links of the table, in buckets that begin below the horizon.
use Rattle.std.specs.List.{range_with_len}
use Rattle.std.specs.Prelude.{All, nat_lt}
use Rattle.std.proofs.Common.{◌≡◌, ℕ, zero, suc, ◌+◌, ◌*◌, ◌<◌, ◌≤◌, Bool, true, false, cond, List, [], ◌∷◌, length, arith, subst, sym}
use Rattle.std.proofs.lemmas.Grind.{div_ceil_times}
use Rattle.std.proofs.lemmas.List.Elements.{All-cons, All-nil}
use Rattle.net_core.specs.Network.{numbers_below}
use Rattle.dta_model.specs.LinkTimes.{buckets_to}
use Rattle.dta_model.specs.Loading.{trace_after}
use Rattle.dta_model.specs.declared.plan.Plan.{Plan}
use Rattle.counts.specs.Counting.{counts_of}
use Rattle.counts.specs.Inside.Turns.{IsWithin}
use Rattle.counts.specs.Turns.{IsOfNet, all_turns, timed, times_taken, turn_count, turn_counts, turn_counts_in, turns_between, turns_from}
use Rattle.link_times.proofs.Places.{product_le}
use Rattle.counts.specs.Inside.Counting.{Each}
use Rattle.counts.proofs.Counting.{counts-cons}
use Rattle.counts.proofs.InOrder.{Each-flat_of, Each-map_of}

begins : (bucket horizon k : ℕ) → 1 ≤ bucket → k < buckets_to bucket horizon → k * bucket < horizon
begins bucket horizon k h l =
    let d = (div_ceil_times horizon bucket h).1 in
    let c = product_le (k + 1) (buckets_to bucket horizon) bucket (omega (arith, l)) in
    let e : (k + 1) * bucket ≡ k * bucket + bucket = grind arith in
    omega (arith, c, d, e)

each_from : (from n top : ℕ) → from + n ≤ top → Each (λ x. x < top) (range_with_len from n)
each_from from zero top h = tt
each_from from (suc n) top h = (omega (arith, h), each_from (from + 1) n top (omega (arith, h)))

each_number : (n : ℕ) → Each (λ x. x < n) (numbers_below n)
each_number n = each_from 0 n n (omega arith)

turns_within : (links buckets : ℕ) → Each (IsWithin links buckets) (all_turns links buckets)
unfolding all_turns turns_from turns_between
turns_within links buckets =
    Each-flat_of (λ x. x < links) (IsWithin links buckets) (turns_from links buckets) (λ a ha.
    Each-flat_of (λ x. x < links) (IsWithin links buckets) (turns_between buckets a) (λ b hb.
    Each-map_of (λ x. x < buckets) (IsWithin links buckets) (timed a b) (λ k hk. record { first = ha; second = hb; early = hk }) (numbers_below buckets) (each_number buckets))
    (numbers_below links) (each_number links))
    (numbers_below links) (each_number links)

counts-keep : {K C : Type 0} (count : K → ℕ → C) (f : K → ℕ) (P : K → Type 0) (Q : C → Type 0) → ((k : K) (n : ℕ) → P k → Q (count k n)) → (keys : List K) → Each P keys → All Q (counts_of count f keys)
counts-keep count f P Q h [] all = All-nil Q
counts-keep {K} {C} count f P Q h (k ∷ keys) all = subst (λ L. All Q L) (sym (counts-cons count f k keys)) (by (nat_lt 0 (f k)) (counts-keep count f P Q h keys all.1))
  where
    by : (b : Bool) → All Q (counts_of count f keys) → All Q (cond b (count k (f k) ∷ counts_of count f keys) (counts_of count f keys))
    by true rest = All-cons Q (count k (f k)) (counts_of count f keys) (h k (f k) all.0) rest
    by false rest = rest

pub turns_of_net : (p : Plan) (bucket : ℕ) → 1 ≤ bucket → All (IsOfNet p.net p.horizon bucket) (turn_counts p bucket)
unfolding turn_counts turn_counts_in
turns_of_net p bucket h =
    counts-keep turn_count (λ t. times_taken bucket t (trace_after p p.horizon)) (IsWithin (length p.net.links) (buckets_to bucket p.horizon)) (IsOfNet p.net p.horizon bucket)
    (λ t n w. record { first = w.first; second = w.second; begins = begins bucket p.horizon t.bucket h w.early })
    (all_turns (length p.net.links) (buckets_to bucket p.horizon)) (turns_within (length p.net.links) (buckets_to bucket p.horizon))
