-- The rate that holds in a step.
use Rattle.std.proofs.Common.{◌≡◌, ◌≤◌, ◌<◌, ◌+◌, ℕ, List, [], ◌∷◌, length, refl, true, false, zero, suc, drop, get_or}
use Rattle.std.specs.Prelude.{All, IsSome, Option, nat_le}
use Rattle.std.proofs.lemmas.List.{drop_all, drop_more}
use Rattle.std.proofs.lemmas.List.Elements.{All-head, All-nil, All-tail}
use Rattle.net_core.proofs.Orders.{is_le, not_le}
use Rattle.net_core.specs.Network.{IsNet, link_windows}
use Rattle.net_core.specs.Rates.{last_begun}
use Rattle.net_core.specs.declared.rows.NetRows.{NetRows}
use Rattle.net_core.specs.declared.rates.Window.{Window}

-- one window on, where it has begun
pub begun_next : (rate : Option ℕ) (ws : List Window) (i : ℕ) (d : Window) (step : ℕ)
    → i < length ws → (get_or ws i d).from ≤ step
    → last_begun rate (drop i ws) step ≡ last_begun (get_or ws i d).rate (drop (i + 1) ws) step
unfolding last_begun
begun_next rate ws i d step b h =
    rw (drop_more ws i d b, is_le (get_or ws i d).from step h) refl

-- and none of those that follow holds, where it hasn't
pub begun_last : (rate : Option ℕ) (ws : List Window) (i : ℕ) (d : Window) (step : ℕ)
    → i < length ws → step < (get_or ws i d).from → last_begun rate (drop i ws) step ≡ rate
unfolding last_begun
begun_last rate ws i d step b h =
    rw (drop_more ws i d b, not_le (get_or ws i d).from step h) refl

-- where all windows have a rate, so has each step
pub rate_given : (rate : Option ℕ) (ws : List Window) (step : ℕ) → IsSome rate
    → All (λ w. IsSome w.rate) ws → IsSome (last_begun rate ws step)
unfolding last_begun
rate_given rate [] step given all = given
rate_given rate (w ∷ ws) step given all = elim (nat_le w.from step) as (λ v. nat_le w.from step ≡ v
    → IsSome (last_begun rate (w ∷ ws) step)) [
      | true ↦ λ t. rw t (rate_given w.rate ws step (All-head (λ v. IsSome v.rate) w ws all) (All-tail (λ v. IsSome v.rate) w ws all))
      | false ↦ λ f. rw f given
    ] refl

pub begun_end : (rate : Option ℕ) (ws : List Window) (i : ℕ) (step : ℕ) → length ws ≤ i
    → last_begun rate (drop i ws) step ≡ rate
unfolding last_begun
begun_end rate ws i step b = rw (drop_all i ws b) refl

pub all-get_or : {X : Type 0} (P : X → Type 0) (xs : List X) (i : ℕ) (d : X) → All P xs → P d
    → P (get_or xs i d)
all-get_or P [] i d all p = p
all-get_or P (x ∷ xs) zero d all p = All-head P x xs all
all-get_or P (x ∷ xs) (suc i) d all p = all-get_or P xs i d (All-tail P x xs all) p

abbrev AreGiven : List Window → Type 0
AreGiven ws = All (λ w. IsSome w.rate) ws

-- each window of a link has a rate
pub windows_given : (net : NetRows) (l : ℕ) → IsNet net → All (λ w. IsSome w.rate) (link_windows net l)
windows_given net l is =
    all-get_or AreGiven net.link_windows l [] (λ i d b. (is.link_windows i d b).given)
    (All-nil (λ w. IsSome w.rate))
