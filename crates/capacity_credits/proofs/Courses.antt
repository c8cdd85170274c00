-- Rates in the steps of a window.
use Rattle.std.proofs.Common.{◌≡◌, ◌≤◌, ◌<◌, ℕ, zero, suc, List, [], ◌∷◌, length, arith, get_or, refl, add-one, subst}
use Rattle.std.specs.Prelude.{IfSome, None, Option, Some, slice_get}
use Rattle.std.proofs.lemmas.List.{get_or-map}
use Rattle.std.proofs.lemmas.Option.{slice_get-get_or}
use Rattle.capacity_credits.specs.Course.{IsCourse, IsLatest}
use Rattle.capacity_credits.specs.Outlooks.{IsInRange}
use Rattle.dta_model.specs.Allowance.{carried, credited}
use Rattle.fixed_units.specs.declared.link.TheConstants.{MOST_RATE}
use Rattle.net_core.proofs.Orders.{is_le, not_le}
use Rattle.net_core.specs.Rates.{AreWindows, last_begun}
use Rattle.net_core.specs.declared.rates.Rates.{Rates}
use Rattle.net_core.specs.declared.rates.Window.{Window}

-- a window where none is read
abbrev pub no_window : Window
no_window = record { from = 0; rate = None }

abbrev pub window : List Window → ℕ → Window
window ws i = get_or ws i no_window

abbrev AreRising : List Window → Type 0
AreRising ws = (i j : ℕ) (v w : Window) → i < j → slice_get ws i ≡ Some v → slice_get ws j ≡ Some w
    → v.from < w.from

rate_of_window : (rate : Option ℕ) (ws : List Window) (i s step : ℕ) → AreRising ws
    → i < length ws → (window ws i).from ≤ s → s ≤ step
    → IfSome (slice_get ws (suc i)) (λ w. step < w.from) → last_begun rate ws s ≡ (window ws i).rate
unfolding last_begun
rate_of_window rate [] i s step rising b begun by next = absurd (omega (arith, b))
rate_of_window rate (w ∷ []) zero s step rising b begun by next = rw (is_le w.from s begun) refl
rate_of_window rate (w ∷ v ∷ ws) zero s step rising b begun by next =
    rw (is_le w.from s begun, not_le v.from s (omega (arith, by, next))) refl
rate_of_window rate (w ∷ ws) (suc i) s step rising b begun by next =
    let inside : i < length ws = omega (arith, b) in
    let before = rising 0 (suc i) w (window ws i) (omega arith) refl
    (slice_get-get_or ws i no_window inside) in
    rw (is_le w.from s (omega (arith, before, begun)))
    (rate_of_window w.rate ws i s step
    (λ j k x y h. rising (suc j) (suc k) x y (omega (arith, h))) inside begun by next)

-- the rate of the last window that has begun holds from its step on
pub rate_held : (rate : Option ℕ) (ws : List Window) (i s step : ℕ) → AreWindows ws
    → IsLatest ws step i → (window ws i).from ≤ s → s ≤ step
    → last_begun rate ws s ≡ (window ws i).rate
rate_held rate ws i s step are is begun by =
    rate_of_window rate ws i s step are.rising is.within begun by
    (subst (λ k. IfSome (slice_get ws k) (λ w. step < w.from)) (add-one i) is.next)

pub has_begun : (ws : List Window) (i step : ℕ) → IsLatest ws step i → (window ws i).from ≤ step
has_begun ws i step is =
    subst (λ o. IfSome o (λ w. w.from ≤ step)) (slice_get-get_or ws i no_window is.within) is.begun

-- what is carried where it begins
pub carried_there : (rates : Rates) (delta i d : ℕ) (credits : List ℕ) → IsCourse rates delta credits
    → i < length rates.windows → get_or credits i d ≡ carried rates delta (window rates.windows i).from
carried_there rates delta i d credits is b =
    rw is.carries (get_or-map (λ w. carried rates delta w.from) rates.windows i no_window d b)

-- the window before so many, and one of step 0 before the first
abbrev pub before : List Window → ℕ → Window
before ws i = get_or (no_window ∷ ws) i no_window

-- a rate in range is credited in range
credited_range : (rate : Option ℕ) → IsInRange rate → credited rate ≤ MOST_RATE
credited_range None r = omega arith
credited_range (Some rate) r = r

-- it begins no later than the one that follows, its rate holds until then, and is in range
pub before_rises : (ws : List Window) (i : ℕ) (last : Window) → AreWindows ws → i < length ws
    → last ≡ before ws i → last.from ≤ (window ws i).from
before_rises ws zero last are b e = rw e (omega arith)
before_rises ws (suc i) last are b e =
    let up = are.rising i (suc i) (window ws i) (window ws (suc i)) (omega arith)
    (slice_get-get_or ws i no_window (omega (arith, b)))
    (slice_get-get_or ws (suc i) no_window b) in
    rw e (omega (arith, up))

pub before_held : (rate : Option ℕ) (ws : List Window) (i s : ℕ) (last : Window) → AreWindows ws
    → i < length ws → last ≡ before ws i → last.from ≤ s → s < (window ws i).from
    → last_begun rate ws s ≡ last.rate
before_held rate ws zero s last are b e begun next =
    let first = subst (λ o. IfSome o (λ w. w.from ≡ 0)) (slice_get-get_or ws 0 no_window b) are.first in
    absurd (omega (arith, first, next))
before_held rate ws (suc i) s last are b e begun next =
    rw e (rate_of_window rate ws i s s are.rising (omega (arith, b)) (rw e at begun) (omega arith)
    (rw (slice_get-get_or ws (suc i) no_window b) next))

pub before_range : (ws : List Window) (i : ℕ) (last : Window) → AreWindows ws → i < length ws
    → last ≡ before ws i → credited last.rate ≤ MOST_RATE
before_range ws zero last are b e = rw e (omega arith)
before_range ws (suc i) last are b e =
    rw e (credited_range (window ws i).rate (are.range i no_window (omega (arith, b))))
