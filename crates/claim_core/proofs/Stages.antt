-- How often done units moved a part, moves x saying how often unit x does.
use Rattle.std.proofs.Common.{◌≡◌, ◌≢◌, ℕ, zero, suc, ◌+◌, ◌-◌, ◌*◌, ◌%◌, ◌<◌, ◌≤◌, sym, ap, ◌∙◌, lt_of_not-le, arith}
use Rattle.std.proofs.lemmas.Nat.{mod-mul-add}
use mathlib.Core.Logic.{dite}
use native.Mathlib.Decide.{dec_le, ℕ_discrete}
use Rattle.dta_model.specs.Units.{phase_start, phase_end}
use Rattle.claim_core.specs.Sums.{below}
use Rattle.claim_core.proofs.Sums.{below_plus, full}
use Rattle.claim_core.proofs.Phases.{same_start}
use Rattle.claim_core.proofs.Cuts.{below_same, below_cut}

-- of the units below Q
abbrev pub stage_by : ℕ → (ℕ → ℕ) → (ℕ → ℕ) → ℕ
stage_by Q moves D = below Q (λ x. moves x * D x)

abbrev pub before_by : ℕ → (ℕ → ℕ) → ℕ → ℕ
before_by N moves c = below (phase_start N c) moves

-- units that are done move their parts
pub stage_more : (Q : ℕ) (moves D D' R : ℕ → ℕ) → ((x : ℕ) → D' x ≡ D x + R x)
    → stage_by Q moves D' ≡ stage_by Q moves D + stage_by Q moves R
stage_more Q moves D D' R more =
    let split : below Q (λ x. moves x * D' x) ≡ below Q (λ x. moves x * D x + moves x * R x) =
    below_same (λ x. moves x * D' x) (λ x. moves x * D x + moves x * R x) Q
    (λ x _. ap (λ d. moves x * d) (more x) ∙ omega arith) in
    omega (arith, split, below_plus (λ x. moves x * D x) (λ x. moves x * R x) Q)

-- while c is not done and is of the phase of n, the stage of a part that no other unit of the phase moves is known from c alone, where the units before the phase are done and none after it is
pub stage_held : (Q N : ℕ) (n : ℕ) (D : ℕ → ℕ) → phase_start N n ≤ Q → ((x : ℕ) → D x ≤ 1)
    → ((x : ℕ) → x < phase_start N n → 1 ≤ D x) → ((x : ℕ) → phase_end N n ≤ x → D x ≡ 0)
    → (moves : ℕ → ℕ) (c : ℕ) → D c ≡ 0 → phase_start N n ≤ c → c < phase_end N n
    → ((x : ℕ) → phase_start N n ≤ x → x < phase_end N n → x ≢ c → moves x ≡ 0) → stage_by Q moves D ≡ before_by N moves c
stage_held Q N n D within once before after moves c not_c low high alone =
    let s : ℕ = phase_start N n in
    let full : (x : ℕ) → x < s → moves x * D x ≡ moves x =
    λ x l. (let one : D x ≡ 1 = omega (arith, once x, before x l) in
    ap (λ d. moves x * d) one ∙ omega arith) in
    let none : (x : ℕ) → s ≤ x → moves x * D x ≡ 0 = λ x le. dite (dec_le (phase_end N n) x)
    (λ past. ap (λ d. moves x * d) (after x past) ∙ omega arith)
    (λ inside. dite (ℕ_discrete x c)
    (λ e. ap (λ d. moves x * d) (ap D e ∙ not_c) ∙ omega arith)
    (λ ne. ap (λ a. a * D x) (alone x le (lt_of_not-le inside) ne) ∙ omega arith)) in
    below_cut (λ x. moves x * D x) moves s Q within full none ∙ ap (λ b. below b moves) (sym (same_start N n c low high))

-- units whose moves go by their place in the step
pub below_shift : (f : ℕ → ℕ) (a b : ℕ) → below (a + b) f ≡ below a f + below b (λ x. f (a + x))
below_shift f a zero = let e : a + 0 ≡ a = omega arith in ap (λ m. below m f) e ∙ omega arith
below_shift f a (suc b) =
    let e : a + suc b ≡ suc (a + b) = omega arith in
    ap (λ m. below m f) e ∙ (let r = below_shift f a b in omega (arith, r))

module _ (W : ℕ) (m : ℕ → ℕ) where
  at_place : (t r : ℕ) → r ≤ W → below r (λ x. m ((t * W + x) % W)) ≡ below r m
  at_place t r le = below_same (λ x. m ((t * W + x) % W)) m r (λ x l. ap m (mod-mul-add t W x (omega (arith, l, le))))

  pub whole_steps : (t : ℕ) → below (t * W) (λ x. m (x % W)) ≡ t * below W m
  whole_steps zero = let z : 0 * W ≡ 0 = omega arith in ap (λ k. below k (λ x. m (x % W))) z ∙ omega arith
  whole_steps (suc t) =
      let e : suc t * W ≡ t * W + W = omega arith in
      let s : suc t * below W m ≡ t * below W m + below W m = omega arith in
      ap (λ k. below k (λ x. m (x % W))) e ∙ below_shift (λ x. m (x % W)) (t * W) W
      ∙ (λ i. whole_steps t i + at_place t W (omega arith) i) ∙ sym s

  pub in_step : (t r : ℕ) → r ≤ W → below (t * W + r) (λ x. m (x % W)) ≡ t * below W m + below r m
  in_step t r le = below_shift (λ x. m (x % W)) (t * W) r ∙ (λ i. whole_steps t i + at_place t r le i)

-- where the first m numbers are done, and no more than m
pub others_none : (f : ℕ → ℕ) (m g : ℕ) → m ≤ g → ((x : ℕ) → x < m → 1 ≤ f x) → below g f ≡ m → (x : ℕ) → m ≤ x → x < g → f x ≡ 0
others_none f m g le first sum x low high =
    let e : m + (g - m) ≡ g = omega arith in
    let split : below (m + (g - m)) f ≡ below m f + below (g - m) (λ y. f (m + y)) = below_shift f m (g - m) in
    let whole : below (m + (g - m)) f ≡ below g f = ap (λ b. below b f) e in
    let rest : below (g - m) (λ y. f (m + y)) ≡ 0 = omega (arith, split, whole, sum, full f m first) in
    let one : f (m + (x - m)) ≤ below (g - m) (λ y. f (m + y)) = at_most (λ y. f (m + y)) (g - m) (x - m) (omega arith) in
    let same : f (m + (x - m)) ≡ f x = ap f (omega arith) in
    omega (arith, one, rest, same)
  where
    at_most : (h : ℕ → ℕ) (b y : ℕ) → y < b → h y ≤ below b h
    at_most h zero y l = absurd (omega arith)
    at_most h (suc b) y l = dite (dec_le b y)
        (λ top. let same : y ≡ b = omega arith in omega (arith, ap h same))
        (λ low. omega (arith, at_most h b y (lt_of_not-le low)))
