-- The numbers that workers hold: each holds a row of them.
use Rattle.std.specs.Prelude.{count_by, nat_le, nat_lt, slice_get, slice_set}
use Rattle.std.proofs.Common.{◌≡◌, ℕ, ◌+◌, ◌<◌, ◌≤◌, ◌&&◌, List, [], ◌∷◌, refl, sym, arith, Some}
use Rattle.std.proofs.lemmas.Bool.{cond-false, cond-true, cond_both}
use Rattle.std.proofs.lemmas.Bool.Decides.{nat_tests}
use Rattle.net_core.proofs.Orders.{is_lt, lt_fails, lt_holds, not_lt}
use Rattle.dta_model.specs.Machine.{first_in, held_end, holds_unit, left_of}
use Rattle.dta_model.specs.Units.{phase_end, phase_start}
use Rattle.dta_model.specs.declared.machine.Stage.{Stage}
use Rattle.dta_model.specs.declared.machine.Stage.TheVariants as stage
use Rattle.claim_core.specs.Runs.{among}
use Rattle.claim_core.specs.Sums.{one_if, total}
use Rattle.claim_core.proofs.Counts.{count_is, total_slice}
use Rattle.claim_core.proofs.Runs.{among_none}

pub held_here : (x : ℕ) (s : Stage) → one_if (holds_unit x s) ≡ among (first_in s) (held_end s) x
held_here x s = row (first_in s) (held_end s)
  where
    row : (a b : ℕ) → one_if (nat_le a x && nat_lt x b) ≡ among a b x
    row a b = grind (arith, nat_tests)

pub held_by_all : (x : ℕ) (stages : List Stage)
    → count_by (holds_unit x) stages ≡ total (λ s. among (first_in s) (held_end s) x) stages
held_by_all x stages = omega (arith, count_is (holds_unit x) stages, same stages)
  where
    same : (xs : List Stage) → total (λ s. one_if (holds_unit x s)) xs
        ≡ total (λ s. among (first_in s) (held_end s) x) xs
    same [] = refl
    same (s ∷ xs) = omega (arith, held_here x s, same xs)

-- where a worker has something else
pub held_set : (stages : List Stage) (w : ℕ) (old new : Stage) (x : ℕ)
    → slice_get stages w ≡ Some old
    → count_by (holds_unit x) (slice_set stages w new) + among (first_in old) (held_end old) x
    ≡ count_by (holds_unit x) stages + among (first_in new) (held_end new) x
held_set stages w old new x e =
    omega (
      arith,
      held_by_all x stages,
      held_by_all x (slice_set stages w new),
      total_slice (λ s. among (first_in s) (held_end s) x) stages w old new e,
    )

-- what one of them holds
pub held_at : (stages : List Stage) (w : ℕ) (s : Stage) (x : ℕ) → slice_get stages w ≡ Some s
    → among (first_in s) (held_end s) x ≤ count_by (holds_unit x) stages
held_at stages w s x e = omega (arith, held_set stages w s stage.Idle x e, among_none 0 x)

-- what is left after a finish
pub left_by : (P : Stage → Type 0) (a m b : ℕ) → (m < b → P (stage.Held m b))
    → (b ≤ m → P stage.Idle) → P (left_of (stage.Open a m b))
left_by P a m b some none =
    cond_both (nat_lt m b) (stage.Held m b) stage.Idle P
    (λ t. some (lt_holds m b t)) (λ t. none (lt_fails m b t))

pub some_left : (m b : ℕ) → m < b → (a : ℕ) → stage.Held m b ≡ left_of (stage.Open a m b)
some_left m b lt a = sym (cond-true (nat_lt m b) (stage.Held m b) stage.Idle (is_lt m b lt))

pub none_left : (m b : ℕ) → b ≤ m → (a : ℕ) → stage.Idle ≡ left_of (stage.Open a m b)
none_left m b le a = sym (cond-false (nat_lt m b) (stage.Held m b) stage.Idle (not_lt m b le))

pub held_left : (a m b x : ℕ)
    → among (first_in (left_of (stage.Open a m b))) (held_end (left_of (stage.Open a m b))) x
    ≡ among m b x
held_left a m b x =
    left_by (λ s. among (first_in s) (held_end s) x ≡ among m b x) a m b (λ _. refl) none
  where
    none : b ≤ m → among 0 0 x ≡ among m b x
    none le = grind (arith, nat_tests)

-- a worker's numbers are in order. The open ones are of the phase in which so many finished units
-- stand, with N nodes
abbrev pub Fits : ℕ → ℕ → Stage → Type 0
Fits N n stage.Idle = Unit {0}
Fits N n (stage.Held a b) = a < b
Fits N n (stage.Open a m b) =
    (a < m) × (m ≤ b) × (phase_start N n ≤ a) × (m ≤ phase_end N n)
Fits N n stage.Ended = Unit {0}

abbrev pub has_ended : Stage → ℕ
has_ended stage.Idle = 0
has_ended (stage.Held a b) = 0
has_ended (stage.Open a m b) = 0
has_ended stage.Ended = 1
