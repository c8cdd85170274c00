-- The numbers of a loading's units, over how often each is done (D) and held (H), where g are drawn and n
-- finished.
use Rattle.std.proofs.Common.{◌≡◌, ℕ, ◌+◌, ◌<◌, ◌≤◌, refl, lt_of_not-le, arith}
use mathlib.Core.Logic.{dite}
use native.Mathlib.Decide.{dec_le}
use Rattle.dta_model.specs.Units.{phase_start, phase_end}
use Rattle.claim_core.specs.Claimed.{Claimed}
use Rattle.claim_core.specs.Runs.{among}
use Rattle.claim_core.specs.Sums.{once_below, below}
use Rattle.claim_core.proofs.Runs.{once_two}
use Rattle.claim_core.proofs.Sums.{all_there, below_plus, bounded, once_le, once_out}
use Rattle.claim_core.proofs.Phases.{start_le, lt_stop, same_start, same_stop, next_start, start_at}
use Rattle.claim_core.proofs.Cuts.{below_same, below_cut}

module _ (N : ℕ) (g n : ℕ) (D H : ℕ → ℕ) (k : Claimed N g n D H) where
  pub finished_le : n ≤ g
  finished_le = omega (arith, k.sum, bounded D g (λ x l. omega (arith, k.once x, once_le x g)))

  -- a draw of the numbers from g to below g'
  pub draw : (g' : ℕ) (H' : ℕ → ℕ) → g ≤ g' → ((x : ℕ) → H' x ≡ H x + among g g' x)
      → Claimed N g' n D H'
  draw g' H' le more = record {
    once = λ x. omega (arith, k.once x, more x, once_two g g' x le);
    sum = omega (
      arith,
      k.sum,
      below_cut D D g g' le (λ x _. refl) (λ x out. omega (arith, k.once x, once_out x g out)),
    );
    before = k.before;
    after = k.after;
  }

  -- a number that is held, and before whose phase there are no more units than are finished, is of the phase
  pub open_now : (c : ℕ) → 1 ≤ H c → phase_start N c ≤ n → (phase_start N n ≤ c) × (c < phase_end N n)
  open_now c held le =
      let early : n < phase_end N c = dite (dec_le (phase_end N c) n)
      (λ late. absurd (omega (arith, k.once c, once_le c g, held, k.before c (omega (arith, next_start N c n late, lt_stop N c))))) (λ t. lt_of_not-le t) in
      (omega (arith, same_start N c n le early, start_le N c), omega (arith, same_stop N c n le early, lt_stop N c))

  -- a finish of held numbers of the phase: R x says whether x is among them, and they are r
  module _ (R : ℕ → ℕ) (r : ℕ) (count : r ≡ below g R)
      (inside : (x : ℕ) → 1 ≤ R x → x < phase_end N n) (D' H' : ℕ → ℕ)
      (more : (x : ℕ) → D' x ≡ D x + R x) (less : (x : ℕ) → H' x + R x ≡ H x) where
    once' : (x : ℕ) → D' x + H' x ≡ once_below x g
    once' x = omega (arith, k.once x, more x, less x)

    sum' : n + r ≡ below g D'
    sum' = omega (
      arith,
      k.sum,
      count,
      below_same D' (λ x. D x + R x) g (λ x l. more x),
      below_plus D R g,
    )

    far : (x : ℕ) → phase_end N n ≤ x → D' x ≡ 0
    far x l = dite (dec_le 1 (R x))
        (λ one. absurd (omega (arith, inside x one, l)))
        (λ none. let z : R x < 1 = lt_of_not-le none in omega (arith, k.after x l, more x, z))

    one : (y : ℕ) → D' y ≤ 1
    one y = omega (arith, once' y, once_le y g)

    -- no more are finished than the phase has
    pub not_past : n + r ≤ phase_end N n
    not_past = dite (dec_le (phase_end N n) g)
        (λ low. omega (
          arith,
          sum',
          below_cut D' D' (phase_end N n) g low (λ y _. refl) far,
          bounded D' (phase_end N n) (λ y _. one y),
        ))
        (λ top. let l : g < phase_end N n = lt_of_not-le top in
        omega (arith, l, sum', bounded D' g (λ y _. one y)))

    -- where the phase ends, every number below its stop is done
    pub all_done : phase_end N n ≡ n + r → (x : ℕ) → x < phase_end N n → 1 ≤ D' x
    all_done e x l =
        let room : n + r ≤ g = omega (arith, sum', bounded D' g (λ y _. one y)) in
        let cut : below g D' ≡ below (n + r) D' =
        below_cut D' D' (n + r) g room (λ y _. refl) (λ y le. far y (omega (arith, e, le))) in
        all_there D' (n + r) (λ y _. one y) (omega (arith, sum', cut)) x (omega (arith, e, l))

    -- and no other number of it is held
    pub none_held : phase_end N n ≡ n + r → (d : ℕ) → d < phase_end N n → H' d ≡ 0
    none_held e d l = omega (arith, all_done e d l, once' d, once_le d g)

    pub finish : Claimed N g (n + r) D' H'
    finish = dite (dec_le (phase_end N n) (n + r))
        (λ last. let e : phase_end N n ≡ n + r = omega (arith, not_past, last) in
        let s : phase_start N (n + r) ≡ n + r = start_at N n (n + r) e in
        record {
          once = once';
          sum = sum';
          before = λ x l. all_done e x (omega (arith, l, s, e));
          after = λ x l. far x (omega (arith, l, lt_stop N (n + r), e));
        })
        (λ more_left. let l : n + r < phase_end N n = lt_of_not-le more_left in
        let a : phase_start N (n + r) ≡ phase_start N n =
        same_start N n (n + r) (omega (arith, start_le N n)) l in
        let b : phase_end N (n + r) ≡ phase_end N n =
        same_stop N n (n + r) (omega (arith, start_le N n)) l in
        record {
          once = once';
          sum = sum';
          before = λ x l. omega (arith, k.before x (omega (arith, l, a)), more x);
          after = λ x l. far x (omega (arith, l, b));
        })
