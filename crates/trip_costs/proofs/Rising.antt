-- The greatest of numbers by steps, and the steps in which links are entered and left.
use Rattle.std.specs.Prelude.{max}
use Rattle.std.proofs.Common.{◌≡◌, ◌⊎◌, inl, inr, ℕ, zero, suc, ◌+◌, ◌-◌, ◌<◌, ◌≤◌, arith, ap}
use Rattle.std.proofs.lemmas.Bool.{cases_lt}
use Rattle.dta_model.specs.LinkTimes.{TimeTable}
use Rattle.trip_costs.specs.Greatest.{greatest_to}
use Rattle.trip_costs.specs.Laws.{EntriesNeverFall, ExitsNeverFall}
use Rattle.trip_costs.specs.TripCosts.{after_time, after_wait, enter_step, exit_step}

-- it is no more than all of them are
pub greatest_most : (f : ℕ → ℕ) (s m : ℕ) → ((r : ℕ) → r ≤ s → f r ≤ m) → greatest_to f s ≤ m
unfolding greatest_to
greatest_most f zero m h = h 0 (omega arith)
greatest_most f (suc s) m h =
    let a = greatest_most f s m (λ r k. h r (omega (arith, k))) in
    let b = h (suc s) (omega arith) in
    omega (arith, a, b)

-- each of them is no more than it
pub greatest_least : (f : ℕ → ℕ) (s r : ℕ) → r ≤ s → f r ≤ greatest_to f s
unfolding greatest_to
greatest_least f zero zero h = omega arith
greatest_least f zero (suc r) h = absurd (omega (arith, h))
greatest_least f (suc s) r h = by (cases_lt r (suc s)) (greatest_least f s r)
  where
    by : (r < suc s) ⊎ (suc s ≤ r) → (r ≤ s → f r ≤ greatest_to f s) → f r ≤ max (greatest_to f s) (f (suc s))
    by (inl k) ih = let a = ih (omega (arith, k)) in omega (arith, a)
    by (inr k) ih = let same : r ≡ suc s = omega (arith, h, k) in let a : f r ≡ f (suc s) = ap f same in omega (arith, a)

pub greatest_rises : (f : ℕ → ℕ) (r s : ℕ) → r ≤ s → greatest_to f r ≤ greatest_to f s
greatest_rises f r s h = greatest_most f r (greatest_to f s) (λ q k. greatest_least f s q (omega (arith, h, k)))

-- where none of the earlier ones is above the last, it is the last
pub greatest_is : (f : ℕ → ℕ) (s : ℕ) → ((r : ℕ) → r ≤ s → f r ≤ f s) → greatest_to f s ≡ f s
greatest_is f s h =
    let a = greatest_most f s (f s) h in
    let b = greatest_least f s s (omega arith) in
    omega (arith, a, b)

pub entries_never_fall : EntriesNeverFall
unfolding enter_step
entries_never_fall w l r s h = greatest_rises (after_wait w l) r s h

pub exits_never_fall : ExitsNeverFall
unfolding exit_step
exits_never_fall t l r s h = greatest_rises (after_time t l) r s h

-- nobody leaves a link before the entry
pub exit_holds : (t : TimeTable) (l s : ℕ) → s ≤ exit_step t l s
unfolding exit_step
exit_holds t l s = let a = greatest_least (after_time t l) s s (omega arith) in omega (arith, a)

-- so a later entry has a later exit
pub exits_ordered : (t : TimeTable) (l r s : ℕ) → r ≤ s → r + (exit_step t l r - r) ≤ s + (exit_step t l s - s)
exits_ordered t l r s h =
    let a = exits_never_fall t l r s h in
    let b = exit_holds t l r in
    let c = exit_holds t l s in
    omega (arith, a, b, c)
