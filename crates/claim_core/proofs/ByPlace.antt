-- Tasks and phases by the place of a unit in its step.
use Rattle.std.specs.Prelude.{nat_lt}
use Rattle.std.proofs.Common.{◌≡◌, ℕ, ◌+◌, ◌-◌, ◌*◌, ◌/◌, ◌%◌, ◌^◌, ◌<◌, ◌≤◌, cond, ap, sym, ◌∙◌, subst, arith}
use Rattle.std.proofs.lemmas.Bool.Decides.{nat_tests}
use Rattle.std.proofs.lemmas.Nat.{div-add-mod'}
use Rattle.net_core.proofs.Orders.{is_lt, not_lt}
use Rattle.dta_model.specs.Units.{Gather, Posting, Transfer, phase_start, step_units, task_at, task_of}
use Rattle.claim_core.specs.Kinds.{kind_by}
use Rattle.claim_core.specs.declared.units.UnitKind.TheVariants as kind
use Rattle.std.proofs.Math.Nat.{mod-lt}
use Rattle.claim_core.specs.Phases.{phase_of}
use Rattle.claim_core.specs.declared.phase.Phase.{Phase}
use Rattle.claim_core.specs.declared.phase.PhaseKind.TheVariants as does
use Rattle.claim_core.proofs.Phases.{kind_is, kinds, start_is, start_le, starts}
use Rattle.claim_core.proofs.Parts.{transfers}

pub gathers_at : (n j : ℕ) → n ≤ j → j < n + n → task_at n j ≡ Gather (j - n)
gathers_at n j low high =
    ap (λ b. cond b (Transfer j) (cond (nat_lt j (n + n)) (Gather (j - n)) Posting)) (not_lt j n low)
    ∙ ap (λ b. cond b (Gather (j - n)) Posting) (is_lt j (n + n) high)

pub posts_at : (n j : ℕ) → n + n ≤ j → task_at n j ≡ Posting
posts_at n j past =
    ap (λ b. cond b (Transfer j) (cond (nat_lt j (n + n)) (Gather (j - n)) Posting)) (not_lt j n (omega arith))
    ∙ ap (λ b. cond b (Gather (j - n)) Posting) (not_lt j (n + n) past)

module _ (n u : ℕ) where
  kind_low : u % step_units n < n → kind.Transfer (record { 0 = u % step_units n }) ≡ kind_by (task_of n u)
  unfolding task_of
  kind_low h = sym (ap (λ task. kind_by task) (transfers n (u % step_units n) h))

  kind_mid : n ≤ u % step_units n → u % step_units n < n + n → kind.Gather (record { 0 = u % step_units n - n }) ≡ kind_by (task_of n u)
  unfolding task_of
  kind_mid low high = sym (ap (λ task. kind_by task) (gathers_at n (u % step_units n) low high))

  kind_high : n + n ≤ u % step_units n → kind.Posting ≡ kind_by (task_of n u)
  unfolding task_of
  kind_high past = sym (ap (λ task. kind_by task) (posts_at n (u % step_units n) past))

  first_band : (k b r : ℕ) → r < k → starts k b r ≡ b
  first_band k b r h = grind (arith, nat_tests)

  mid_band : (k b r : ℕ) → k ≤ r → r < k + k → starts k b r ≡ b + k
  mid_band k b r h g = grind (arith, nat_tests)

  last_band : (k b r : ℕ) → k + k ≤ r → starts k b r ≡ b + (k + k)
  last_band k b r h = grind (arith, nat_tests)

  base_is : u - u % step_units n ≡ u / step_units n * step_units n
  base_is = omega (arith, div-add-mod' u (step_units n))

  module _ (w : ℕ) (e : w ≡ step_units n) where
    pub is_transfer : u % w < n → kind.Transfer (record { 0 = u % w }) ≡ kind_by (task_of n u)
    is_transfer h = subst (λ (x : ℕ). u % x < n → kind.Transfer (record { 0 = u % x }) ≡ kind_by (task_of n u)) (sym e) kind_low h

    pub is_gather : n ≤ u % w → u % w < n + n → kind.Gather (record { 0 = u % w - n }) ≡ kind_by (task_of n u)
    is_gather low high = subst (λ (x : ℕ). n ≤ u % x → u % x < n + n → kind.Gather (record { 0 = u % x - n }) ≡ kind_by (task_of n u)) (sym e) kind_mid low high

    pub is_posting : n + n ≤ u % w → kind.Posting ≡ kind_by (task_of n u)
    is_posting past = subst (λ (x : ℕ). n + n ≤ u % x → kind.Posting ≡ kind_by (task_of n u)) (sym e) kind_high past

    rest : u % w ≡ u % step_units n
    rest = ap (λ x. u % x) e

    pub starts_first : u % w < n → u - u % w ≡ phase_start n u
    starts_first h = let r : u % w ≡ u % step_units n = rest in omega (arith, base_is, r, start_is n u, first_band n (u / step_units n * step_units n) (u % step_units n) (omega (arith, h, r)))

    pub starts_mid : n ≤ u % w → u % w < n + n → u - u % w + n ≡ phase_start n u
    starts_mid h g = let r : u % w ≡ u % step_units n = rest in omega (arith, base_is, r, start_is n u, mid_band n (u / step_units n * step_units n) (u % step_units n) (omega (arith, h, r)) (omega (arith, g, r)))

    pub starts_last : n + n ≤ u % w → u - u % w + n + n ≡ phase_start n u
    starts_last h = let r : u % w ≡ u % step_units n = rest in omega (arith, base_is, r, start_is n u, last_band n (u / step_units n * step_units n) (u % step_units n) (omega (arith, h, r)))

  -- what a unit does, by the phase that it is in and its place there
  low_place : (k r : ℕ) → kinds k r ≡ does.Transfers → r < k
  low_place k r e = grind (arith, nat_tests)

  mid_place : (k r : ℕ) → kinds k r ≡ does.Gathers → (k ≤ r) × (r < k + k)
  mid_place k r e = grind (arith, nat_tests)

  high_place : (k r : ℕ) → kinds k r ≡ does.Posting → k + k ≤ r
  high_place k r e = grind (arith, nat_tests)

  -- no place in a phase is past the nodes
  within : (k b r : ℕ) → r < k + k + 1 → b + r ≤ starts k b r + k
  within k b r h = grind (arith, nat_tests)

  module _ (phase : Phase) (is : phase ≡ phase_of n u) where
    first_is : phase.first ≡ phase_start n u
    first_is = ap (λ (x : Phase). x.first) is

    kinds_are : kinds n (u % step_units n) ≡ phase.kind
    kinds_are = sym (kind_is n u) ∙ sym (ap (λ (x : Phase). x.kind) is)

    pub after_first : phase.first ≤ u
    after_first = omega (arith, first_is, start_le n u)

    pub place_fits : n < 2 ^ 32 → u - phase.first < 2 ^ 32
    place_fits few = omega (arith, first_is, few, div-add-mod' u (step_units n), start_is n u, within n (u / step_units n * step_units n) (u % step_units n) (mod-lt u (omega arith)))

    pub transfers_in : phase.kind ≡ does.Transfers → kind.Transfer (record { 0 = u - phase.first }) ≡ kind_by (task_of n u)
    transfers_in e =
        let r : ℕ = u % step_units n in
        let low : r < n = low_place n r (kinds_are ∙ e) in
        let at : u - phase.first ≡ r = omega (arith, first_is, div-add-mod' u (step_units n), start_is n u, first_band n (u / step_units n * step_units n) r low) in
        ap (λ x. kind.Transfer (record { 0 = x })) at ∙ kind_low low

    pub gathers_in : phase.kind ≡ does.Gathers → kind.Gather (record { 0 = u - phase.first }) ≡ kind_by (task_of n u)
    gathers_in e =
        let r : ℕ = u % step_units n in
        let mid : (n ≤ r) × (r < n + n) = mid_place n r (kinds_are ∙ e) in
        let at : u - phase.first ≡ r - n = omega (arith, first_is, div-add-mod' u (step_units n), start_is n u, mid.0, mid_band n (u / step_units n * step_units n) r mid.0 mid.1) in
        ap (λ x. kind.Gather (record { 0 = x })) at ∙ kind_mid mid.0 mid.1

    pub posting_in : phase.kind ≡ does.Posting → kind.Posting ≡ kind_by (task_of n u)
    posting_in e = kind_high (high_place n (u % step_units n) (kinds_are ∙ e))
