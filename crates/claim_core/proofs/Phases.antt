-- Where phases start and stop.
use Rattle.std.proofs.Common.{◌≡◌, ℕ, ◌+◌, ◌-◌, ◌*◌, ◌/◌, ◌%◌, ◌<◌, ◌≤◌, Bool, true, false, cond, refl, sym, ap, ◌∙◌, subst, arith, suc, lt_of_not-le, mul-le-mul_right, suc-mul}
use Rattle.std.specs.Prelude.{nat_lt}
use Rattle.std.proofs.lemmas.Bool.Decides.{nat_tests}
use Rattle.std.proofs.lemmas.Nat.{div-add-mod', mod-mul-add}
use Rattle.std.proofs.Math.Nat.{mod-lt, div-eq_of_lt-le}
use mathlib.Core.Logic.{dite}
use native.Mathlib.Decide.{dec_le}
use Rattle.dta_model.specs.Units.{Transfer, Gather, Posting, phase_begins, phase_ends, phase_start, phase_end, step_of, task_of}
use Rattle.claim_core.specs.Phases.{IsPhase, phase_kind, phase_of}
use Rattle.claim_core.specs.declared.phase.Phase.{Phase}
use Rattle.claim_core.specs.declared.phase.PhaseKind.{PhaseKind}
use Rattle.claim_core.specs.declared.phase.PhaseKind.TheVariants as does

-- the same by the place in the step
abbrev pub starts : ℕ → ℕ → ℕ → ℕ
starts n b r = cond (nat_lt r n) b (cond (nat_lt r (n + n)) (b + n) (b + (n + n)))

abbrev pub stops : ℕ → ℕ → ℕ → ℕ
stops n b r = cond (nat_lt r n) (b + n) (cond (nat_lt r (n + n)) (b + (n + n)) (b + (n + n + 1)))

-- what the units of its phase do
abbrev pub kinds : ℕ → ℕ → PhaseKind
kinds n r = cond (nat_lt r n) does.Transfers (cond (nat_lt r (n + n)) does.Gathers does.Posting)

kind_by_place : (x y : ℕ) (c d : Bool) → phase_kind (cond c (Transfer x) (cond d (Gather y) Posting)) ≡ cond c does.Transfers (cond d does.Gathers does.Posting)
kind_by_place x y true d = refl
kind_by_place x y false true = refl
kind_by_place x y false false = refl

begins_by : (n b x y : ℕ) (c d : Bool) → b + phase_begins n (cond c (Transfer x) (cond d (Gather y) Posting)) ≡ cond c b (cond d (b + n) (b + (n + n)))
begins_by n b x y true d = omega arith
begins_by n b x y false true = refl
begins_by n b x y false false = refl

ends_by : (n b x y : ℕ) (c d : Bool) → b + phase_ends n (cond c (Transfer x) (cond d (Gather y) Posting)) ≡ cond c (b + n) (cond d (b + (n + n)) (b + (n + n + 1)))
ends_by n b x y true d = refl
ends_by n b x y false true = refl
ends_by n b x y false false = refl

low : (k b r : ℕ) → starts k b r ≤ b + r
low k b r = grind (arith, nat_tests)

high : (k b r : ℕ) → r < k + k + 1 → b + r < stops k b r
high k b r h = grind (arith, nat_tests)

base : (k b r : ℕ) → b ≤ starts k b r
base k b r = grind (arith, nat_tests)

roof : (k b r : ℕ) → stops k b r ≤ b + (k + k + 1)
roof k b r = grind (arith, nat_tests)

alike : (k b r j : ℕ) → r < k + k + 1 → j < k + k + 1 → starts k b r ≤ b + j → b + j < stops k b r → starts k b j ≡ starts k b r
alike k b r j hr hj lo hi = grind (arith, nat_tests)

alike_stop : (k b r j : ℕ) → r < k + k + 1 → j < k + k + 1 → starts k b r ≤ b + j → b + j < stops k b r → stops k b j ≡ stops k b r
alike_stop k b r j hr hj lo hi = grind (arith, nat_tests)

alike_kind : (k b r j : ℕ) → r < k + k + 1 → j < k + k + 1 → starts k b r ≤ b + j → b + j < stops k b r → kinds k j ≡ kinds k r
alike_kind k b r j hr hj lo hi = grind (arith, nat_tests)

-- a phase by its facts
abbrev pub made : ℕ → ℕ → ℕ → PhaseKind → Phase
made a b c d = record { first = a; end = b; step = c; kind = d }

further : (k b r j : ℕ) → r < k + k + 1 → j < k + k + 1 → stops k b r ≤ b + j → stops k b r ≤ starts k b j
further k b r j hr hj hi = grind (arith, nat_tests)

module _ (k : ℕ) where
  abbrev W : ℕ
  W = k + k + 1

  in_step : (u : ℕ) → u % W < W
  in_step u = mod-lt u (omega arith)

  pub start_is : (u : ℕ) → phase_start k u ≡ starts k (u / W * W) (u % W)
  unfolding phase_start task_of
  start_is u = begins_by k (u / W * W) (u % W) (u % W - k) (nat_lt (u % W) k) (nat_lt (u % W) (k + k))

  pub stop_is : (u : ℕ) → phase_end k u ≡ stops k (u / W * W) (u % W)
  unfolding phase_end task_of
  stop_is u = ends_by k (u / W * W) (u % W) (u % W - k) (nat_lt (u % W) k) (nat_lt (u % W) (k + k))

  pub start_le : (u : ℕ) → phase_start k u ≤ u
  start_le u = omega (arith, start_is u, low k (u / W * W) (u % W), div-add-mod' u W)

  pub lt_stop : (u : ℕ) → u < phase_end k u
  lt_stop u = omega (arith, stop_is u, high k (u / W * W) (u % W) (in_step u), div-add-mod' u W)

  rest_of : (u q : ℕ) → u / W ≡ q → q * W + u % W ≡ u
  rest_of u q e = subst (λ (x : ℕ). x * W + u % W ≡ u) e (div-add-mod' u W)

  -- where n lies in the phase of c, it lies in the same step
  pub same_step : (c n : ℕ) → phase_start k c ≤ n → n < phase_end k c → n / W ≡ c / W
  same_step c n lo hi = let b : ℕ = c / W * W in let r : ℕ = c % W in
      let lo' : starts k b r ≤ n = omega (arith, lo, start_is c) in let hi' : n < stops k b r = omega (arith, hi, stop_is c) in
      div-eq_of_lt-le W (omega (arith, base k b r)) (let m : (c / W + 1) * W ≡ b + W = omega arith in omega (arith, roof k b r, m))

  pub same_start : (c n : ℕ) → phase_start k c ≤ n → n < phase_end k c → phase_start k n ≡ phase_start k c
  same_start c n lo hi = let q = same_step c n lo hi in let b : ℕ = c / W * W in let r : ℕ = c % W in let j : ℕ = n % W in let s : b + j ≡ n = rest_of n (c / W) q in
      let lo' : starts k b r ≤ n = omega (arith, lo, start_is c) in let hi' : n < stops k b r = omega (arith, hi, stop_is c) in
      start_is n ∙ subst (λ (x : ℕ). starts k (x * W) j ≡ starts k b r) (sym q) (alike k b r j (in_step c) (in_step n) (omega arith) (omega arith)) ∙ sym (start_is c)

  pub same_stop : (c n : ℕ) → phase_start k c ≤ n → n < phase_end k c → phase_end k n ≡ phase_end k c
  same_stop c n lo hi = let q = same_step c n lo hi in let b : ℕ = c / W * W in let r : ℕ = c % W in let j : ℕ = n % W in let s : b + j ≡ n = rest_of n (c / W) q in
      let lo' : starts k b r ≤ n = omega (arith, lo, start_is c) in let hi' : n < stops k b r = omega (arith, hi, stop_is c) in
      stop_is n ∙ subst (λ (x : ℕ). stops k (x * W) j ≡ stops k b r) (sym q) (alike_stop k b r j (in_step c) (in_step n) (omega arith) (omega arith)) ∙ sym (stop_is c)

  pub kind_is : (u : ℕ) → phase_kind (task_of k u) ≡ kinds k (u % W)
  unfolding task_of
  kind_is u = kind_by_place (u % W) (u % W - k) (nat_lt (u % W) k) (nat_lt (u % W) (k + k))

  same_kind : (c n : ℕ) → phase_start k c ≤ n → n < phase_end k c → phase_kind (task_of k n) ≡ phase_kind (task_of k c)
  same_kind c n lo hi = let q = same_step c n lo hi in let b : ℕ = c / W * W in let r : ℕ = c % W in let j : ℕ = n % W in let s : b + j ≡ n = rest_of n (c / W) q in
      let lo' : starts k b r ≤ n = omega (arith, lo, start_is c) in let hi' : n < stops k b r = omega (arith, hi, stop_is c) in
      kind_is n ∙ alike_kind k b r j (in_step c) (in_step n) (omega arith) (omega arith) ∙ sym (kind_is c)

  -- a phase is that of each of its units
  pub is_phase : (c : ℕ) → IsPhase k (phase_of k c)
  is_phase c n lo hi =
      ap (λ x. made x (phase_end k c) (step_of k c) (phase_kind (task_of k c))) (sym (same_start c n lo hi))
      ∙ ap (λ x. made (phase_start k n) x (step_of k c) (phase_kind (task_of k c))) (sym (same_stop c n lo hi))
      ∙ ap (λ x. made (phase_start k n) (phase_end k n) x (phase_kind (task_of k c))) (sym (same_step c n lo hi))
      ∙ ap (λ x. made (phase_start k n) (phase_end k n) (step_of k n) x) (sym (same_kind c n lo hi))

  -- past a phase, the phase is at or past its stop
  next_by : (c n : ℕ) → stops k (c / W * W) (c % W) ≤ n → stops k (c / W * W) (c % W) ≤ starts k (n / W * W) (n % W)
  next_by c n hi = let b : ℕ = c / W * W in let r : ℕ = c % W in let j : ℕ = n % W in
      let hi' : stops k b r ≤ n = hi in
      dite (dec_le (n / W) (c / W))
      (λ le. dite (dec_le (c / W) (n / W))
      (λ ge. let q : n / W ≡ c / W = omega arith in let s : b + j ≡ n = rest_of n (c / W) q in
      subst (λ (x : ℕ). stops k b r ≤ starts k (x * W) j) (sym q) (further k b r j (in_step c) (in_step n) (omega arith)))
      (λ lt. let l : suc (n / W) ≤ c / W = lt_of_not-le lt in let m : suc (n / W) * W ≤ b = mul-le-mul_right W l in
      let s : n / W * W + j ≡ n = div-add-mod' n W in let t = in_step n in let h = high k b r (in_step c) in
      let x : ℕ = n / W * W in let m' : x + W ≤ b = omega (arith, m, suc-mul (n / W) W) in absurd (omega arith)))
      (λ gt. let l : suc (c / W) ≤ n / W = lt_of_not-le gt in let m : suc (c / W) * W ≤ n / W * W = mul-le-mul_right W l in
      let x : ℕ = n / W * W in let m' : b + W ≤ x = omega (arith, m, suc-mul (c / W) W) in
      omega (arith, roof k b r, base k x j))

  pub next_start : (c n : ℕ) → phase_end k c ≤ n → phase_end k c ≤ phase_start k n
  next_start c n hi = let past : stops k (c / W * W) (c % W) ≤ n = omega (arith, hi, stop_is c) in omega (arith, next_by c n past, stop_is c, start_is n)

  pub start_at : (c n : ℕ) → phase_end k c ≡ n → phase_start k n ≡ n
  start_at c n e = omega (arith, next_start c n (omega arith), start_le n)

  -- a whole number of steps begins a phase
  pub whole_start : (t : ℕ) → phase_start k (t * W) ≡ t * W
  whole_start t =
      let z : t * W + 0 ≡ t * W = omega arith in
      let r : t * W % W ≡ 0 = ap (λ (x : ℕ). x % W) (sym z) ∙ mod-mul-add t W 0 (omega arith) in
      let q : t * W / W * W ≡ t * W = omega (arith, div-add-mod' (t * W) W, r) in
      start_is (t * W) ∙ ap (λ (x : ℕ). starts k (t * W / W * W) x) r ∙ first k (t * W / W * W) ∙ q
    where
      first : (k b : ℕ) → starts k b 0 ≡ b
      first k b = grind (arith, nat_tests)
