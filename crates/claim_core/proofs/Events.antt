-- What every event keeps.
use Rattle.std.specs.Prelude.{slice_get, slice_set}
use Rattle.std.specs.List.{repeat}
use Rattle.std.proofs.Common.{◌≡◌, ℕ, zero, suc, ◌+◌, ◌-◌, ◌*◌, ◌<◌, ◌≤◌, min, false, List, [], ◌∷◌, length, refl, sym, ◌∙◌, subst, arith, Some, ⊎_elim, lt_of_not-le}
use mathlib.Core.Logic.{dite}
use native.Mathlib.Decide.{dec_le}
use Rattle.dta_model.specs.Machine.{Claims, all_idle, finished, first_in, held_end, left_of, run_machine, step_machine, with_open, with_stage}
use Rattle.dta_model.specs.Units.{node_count, phase_end, phase_start, unit_count}
use Rattle.dta_model.specs.declared.plan.Plan.{Plan}
use Rattle.dta_model.specs.declared.machine.Event.{Event}
use Rattle.dta_model.specs.declared.machine.Outcome.{Outcome}
use Rattle.dta_model.specs.declared.machine.Stage.{Stage}
use Rattle.dta_model.specs.declared.machine.Stage.TheVariants as stage
use Rattle.dta_model.specs.declared.machine.TheConstants.{MOST_CHUNK}
use Rattle.claim_core.specs.Claimed.{Claimed}
use Rattle.claim_core.specs.Machine.{AreReached}
use Rattle.claim_core.specs.Parts.{done_in}
use Rattle.claim_core.specs.Runs.{among}
use Rattle.claim_core.specs.Sums.{below, total}
use Rattle.claim_core.proofs.Claimed.{draw, finish, none_held, not_past, open_now}
use Rattle.claim_core.proofs.Counts.{done_is, drawn_in, get_set, held_in, some_is, sum_of, total_slice}
use Rattle.claim_core.proofs.Cuts.{below_none, below_same}
use Rattle.claim_core.proofs.Holds.{Fits, has_ended, held_at, held_by_all, held_left, held_set, left_by}
use Rattle.claim_core.proofs.Phases.{lt_stop, same_start, same_stop, start_le}
use Rattle.claim_core.proofs.Runs.{among_in, among_none, among_two, below_among, is_among}
use Rattle.claim_core.proofs.Steps.{IsDrawn, is_finish, moved_to, step_by}
use Rattle.claim_core.proofs.Sums.{once_in, once_out}

-- claims are kept where their numbers are, the rows of the workers fit these, and no more numbers
-- are past the last unit than the workers that have ended drew, and one more chunk
pub record Kept (p : Plan) (s : Claims) : Type 0 where
  pub claimed : Claimed (node_count p) (drawn_in p s) (finished p s) (done_in p s) (held_in s)
  pub each : (w : ℕ) (x : Stage) → slice_get s.stages w ≡ Some x
      → Fits (node_count p) (finished p s) x
  pub few : s.drawn ≤ unit_count p + MOST_CHUNK * (1 + total has_ended s.stages)

-- what is done and finished is what their numbers tell
module _ (p : Plan) (s : Claims) (n : ℕ) (D : ℕ → ℕ)
    (c : Claimed (node_count p) (drawn_in p s) n D (held_in s)) where
  pub done_are : (x : ℕ) → done_in p s x ≡ D x
  done_are x = omega (arith, done_is p s x, c.once x)

  pub finished_are : finished p s ≡ n
  finished_are = sum_of p s ∙ below_same (done_in p s) D (drawn_in p s) (λ x _. done_are x) ∙ sym c.sum

  pub kept_by : ((w : ℕ) (x : Stage) → slice_get s.stages w ≡ Some x → Fits (node_count p) n x)
      → s.drawn ≤ unit_count p + MOST_CHUNK * (1 + total has_ended s.stages) → Kept p s
  kept_by each few = record {
    claimed = record {
      once = λ x. omega (arith, c.once x, done_are x);
      sum = sum_of p s;
      before = λ x l. (let low : x < phase_start (node_count p) n =
          subst (λ m. x < phase_start (node_count p) m) finished_are l in
          omega (arith, c.before x low, done_are x));
      after = λ x l. (let high : phase_end (node_count p) n ≤ x =
          subst (λ m. phase_end (node_count p) m ≤ x) finished_are l in
          omega (arith, c.after x high, done_are x));
    };
    each = λ w x e. subst (λ m. Fits (node_count p) m x) (sym finished_are) (each w x e);
    few = few;
  }

module _ (p : Plan) (s : Claims) (k : Kept p s) where
  abbrev N : ℕ
  N = node_count p

  abbrev n : ℕ
  n = finished p s

  abbrev g : ℕ
  g = drawn_in p s

  -- a number that a worker holds was drawn, and is held
  pub is_held : (w : ℕ) (x : Stage) (c : ℕ) → slice_get s.stages w ≡ Some x
      → 1 ≤ among (first_in x) (held_end x) c → (1 ≤ held_in s c) × (c < g)
  is_held w x c e h =
      let one : 1 ≤ held_in s c = omega (arith, h, held_at s.stages w x c e) in
      (one, once_in c g (omega (arith, k.claimed.once c, one)))

  -- a worker draws numbers, or opens those that it has: no unit is finished
  module _ (w d : ℕ) (old new : Stage) (out : slice_get s.stages w ≡ Some old) (le : s.drawn ≤ d)
      (more : (x : ℕ) → among (first_in new) (held_end new) x
      ≡ among (first_in old) (held_end old) x + among g (min d (unit_count p)) x) where
    drawn : Claimed N (min d (unit_count p)) n (done_in p s) (held_in (moved_to s w new d))
    drawn = draw N g n (done_in p s) (held_in s) k.claimed (min d (unit_count p))
        (held_in (moved_to s w new d)) (omega (arith, le))
        (λ x. omega (arith, held_set s.stages w old new x out, more x))

    pub same_done : (x : ℕ) → done_in p (moved_to s w new d) x ≡ done_in p s x
    same_done = done_are p (moved_to s w new d) n (done_in p s) drawn

    pub then_kept : Fits N n new
        → d ≤ unit_count p + MOST_CHUNK * (1 + total has_ended (slice_set s.stages w new))
        → Kept p (moved_to s w new d)
    then_kept fits few = kept_by p (moved_to s w new d) n (done_in p s) drawn
        (λ j x e. ⊎_elim (λ same. subst (λ y. Fits N n y) same fits) (λ was. k.each j x was)
        (get_set s.stages w j new x e)) few

  -- numbers are drawn
  module _ (w many : ℕ) (new : Stage) (o : Outcome) (idle : slice_get s.stages w ≡ Some stage.Idle)
      (d : IsDrawn p s many new o) where
    abbrev drawn_now : Claims
    drawn_now = moved_to s w new (s.drawn + many)

    more : (x : ℕ) → among (first_in new) (held_end new) x
        ≡ among 0 0 x + among g (min (s.drawn + many) (unit_count p)) x
    more x = omega (arith, d.held x, among_none 0 x)

    pub draw_done : (x : ℕ) → done_in p drawn_now x ≡ done_in p s x
    draw_done = same_done w (s.drawn + many) stage.Idle new idle (omega arith) more

    pub draw_kept : many ≤ MOST_CHUNK → Kept p drawn_now
    draw_kept most =
        let t = total_slice has_ended s.stages w stage.Idle new idle in
        then_kept w (s.drawn + many) stage.Idle new idle (omega arith) more (d.fits N n)
        (dite (dec_le (unit_count p) s.drawn)
        (λ all. omega (arith, k.few, t, most, d.past all))
        (λ some_left. let lt : s.drawn < unit_count p = lt_of_not-le some_left in
        omega (arith, lt, most)))

  -- held ones are opened, up to the end of the first one's phase
  module _ (w a b : ℕ) (out : slice_get s.stages w ≡ Some (stage.Held a b)) where
    lt : a < b
    lt = k.each w (stage.Held a b) out

    pub held_first : (1 ≤ held_in s a) × (a < g)
    held_first = is_held w (stage.Held a b) a out (omega (arith, among_in a b a (omega arith) lt))

    abbrev opened : Stage
    opened = with_open N (stage.Held a b)

    none_more : (x : ℕ) → among a b x ≡ among a b x + among g g x
    none_more x = omega (arith, among_none g x)

    pub open_done : (x : ℕ) → done_in p (with_stage s w opened) x ≡ done_in p s x
    open_done = same_done w s.drawn (stage.Held a b) opened out (omega arith) none_more

    module _ (may : phase_start N a ≤ n) where
      fits : Fits N n opened
      fits =
          let now = open_now N g n (done_in p s) (held_in s) k.claimed a held_first.0 may in (
            omega (arith, lt, lt_stop N a),
            omega arith,
            now.0,
            omega (arith, same_stop N n a now.0 now.1),
          )

      pub open_kept : Kept p (with_stage s w opened)
      open_kept = then_kept w s.drawn (stage.Held a b) opened out (omega arith) none_more fits
          (omega (arith, k.few, total_slice has_ended s.stages w (stage.Held a b) opened out))

  -- the open ones are finished
  module _ (w a m b : ℕ) (out : slice_get s.stages w ≡ Some (stage.Open a m b)) where
    abbrev pub finished_now : Claims
    finished_now = with_stage s w (left_of (stage.Open a m b))

    pub fits_open : Fits N n (stage.Open a m b)
    fits_open = k.each w (stage.Open a m b) out

    pub open_held : (c : ℕ) → a ≤ c → c < m → (1 ≤ held_in s c) × (c < g)
    open_held c lo hi = is_held w (stage.Open a m b) c out
        (omega (arith, among_in a b c lo (omega (arith, hi, fits_open.1))))

    abbrev then_done : ℕ → ℕ
    then_done x = done_in p s x + among a m x

    less : (x : ℕ) → held_in finished_now x + among a m x ≡ held_in s x
    less x = omega (
      arith,
      held_set s.stages w (stage.Open a m b) (left_of (stage.Open a m b)) x out,
      held_left a m b x,
      among_two a m b x (omega (arith, fits_open.0)) fits_open.1,
    )

    count : m - a ≡ below g (among a m)
    count =
        let last : m - 1 < g = (open_held (m - 1) (omega (arith, fits_open.0))
        (omega (arith, fits_open.0))).1 in
        sym (below_among a m g (omega (arith, fits_open.0)) (omega (arith, last, fits_open.0)))

    inside : (x : ℕ) → 1 ≤ among a m x → x < phase_end N n
    inside x h = omega (arith, (is_among a m x h).1, fits_open.3)

    step : Claimed N g (n + (m - a)) then_done (held_in finished_now)
    step = finish N g n (done_in p s) (held_in s) k.claimed (among a m) (m - a) count inside
        then_done (held_in finished_now) (λ x. refl) less

    pub done_more : (x : ℕ) → done_in p finished_now x ≡ then_done x
    done_more = done_are p finished_now (n + (m - a)) then_done step

    pub more_finished : finished p finished_now ≡ n + (m - a)
    more_finished = finished_are p finished_now (n + (m - a)) then_done step

    -- what other workers have open is of the same phase still
    stays : (j : ℕ) (x : Stage) → slice_get finished_now.stages j ≡ Some x → Fits N n x
        → Fits N (n + (m - a)) x
    stays j stage.Idle e f = tt
    stays j (stage.Held c d) e f = f
    stays j stage.Ended e f = tt
    stays j (stage.Open c l d) e f = dite (dec_le (phase_end N n) (n + (m - a)))
        (λ last. let over : phase_end N n ≡ n + (m - a) = omega (
          arith,
          last,
          not_past N g n (done_in p s) (held_in s) k.claimed (among a m) (m - a) count inside
              then_done (held_in finished_now) (λ x. refl) less,
        ) in
        let none = none_held N g n (done_in p s) (held_in s) k.claimed (among a m) (m - a) count
        inside then_done (held_in finished_now) (λ x. refl) less over c
        (omega (arith, f.0, f.3)) in
        absurd (omega (
          arith,
          none,
          held_at finished_now.stages j (stage.Open c l d) c e,
          among_in c d c (omega arith) (omega (arith, f.0, f.1)),
        )))
        (λ rest. let lt : n + (m - a) < phase_end N n = lt_of_not-le rest in
        let from = same_start N n (n + (m - a)) (omega (arith, start_le N n)) lt in
        let to = same_stop N n (n + (m - a)) (omega (arith, start_le N n)) lt in
        (f.0, f.1, omega (arith, f.2, from), omega (arith, f.3, to)))

    pub finished_kept : Kept p finished_now
    finished_kept = kept_by p finished_now (n + (m - a)) then_done step
        (λ j x e. stays j x e (⊎_elim
        (λ same. subst (λ y. Fits N n y) same (left_by (λ y. Fits N n y) a m b (λ lt. lt) (λ _. tt)))
        (λ was. k.each j x was)
        (get_set s.stages w j (left_of (stage.Open a m b)) x e)))
        (omega (
          arith,
          k.few,
          total_slice has_ended s.stages w (stage.Open a m b) (left_of (stage.Open a m b)) out,
        ))

  pub step_kept : (e : Event) → Kept p (step_machine p s e)
  step_kept = step_by p s (λ _ f. Kept p f.claims) (λ e o _. k)
      (λ e w many new o _ idle most d. draw_kept w many new o idle d most)
      (λ w a b out may. open_kept w a b out may)
      (λ w a m b out. finished_kept w a m b out)

  -- none but a finish finishes units
  pub others_finish_none : (e : Event) → is_finish e ≡ false
      → (x : ℕ) → done_in p (step_machine p s e) x ≡ done_in p s x
  others_finish_none = step_by p s
      (λ e f. is_finish e ≡ false → (x : ℕ) → done_in p f.claims x ≡ done_in p s x)
      (λ e o _ _ x. refl)
      (λ e w many new o _ idle most d _. draw_done w many new o idle d)
      (λ w a b out _ _. open_done w a b out)
      (λ w a m b out h. cc)

-- at the start
none_at : (workers x : ℕ) → total (λ s. among (first_in s) (held_end s) x) (repeat workers (stage.Idle ∷ [])) ≡ 0
none_at zero x = refl
none_at (suc workers) x = omega (arith, none_at workers x, among_none 0 x)

idle_at : (workers w : ℕ) (x : Stage) (N n : ℕ)
    → slice_get (repeat workers (stage.Idle ∷ [])) w ≡ Some x → Fits N n x
idle_at zero w x N n e = absurd (cc)
idle_at (suc workers) zero x N n e = subst (λ y. Fits N n y) (some_is stage.Idle x e) tt
idle_at (suc workers) (suc w) x N n e = idle_at workers w x N n e

module _ (p : Plan) (workers : ℕ) where
  none_claimed : Claimed (node_count p) (drawn_in p (all_idle workers)) 0 (λ x. 0)
      (held_in (all_idle workers))
  none_claimed =
      let s : Claims = all_idle workers in
      let g : drawn_in p s ≡ 0 = omega arith in
      record {
        once = λ x. omega (
          arith,
          held_by_all x s.stages,
          none_at workers x,
          once_out x (drawn_in p s) (omega (arith, g)),
        );
        sum = sym (below_none (λ x. 0) (drawn_in p s) (λ x _. refl));
        before = λ x l. absurd (omega (arith, l, start_le (node_count p) 0));
        after = λ x _. refl;
      }

  pub none_done : (x : ℕ) → done_in p (all_idle workers) x ≡ 0
  none_done = done_are p (all_idle workers) 0 (λ x. 0) none_claimed

  pub none_finished : finished p (all_idle workers) ≡ 0
  none_finished = finished_are p (all_idle workers) 0 (λ x. 0) none_claimed

  start_kept : Kept p (all_idle workers)
  start_kept = kept_by p (all_idle workers) 0 (λ x. 0) none_claimed
      (λ w x e. idle_at workers w x (node_count p) 0 e) (omega arith)

run_kept : (p : Plan) (events : List Event) (s : Claims) → Kept p s → Kept p (run_machine p events s)
unfolding run_machine
run_kept p [] s k = k
run_kept p (e ∷ events) s k = run_kept p events (step_machine p s e) (step_kept p s k e)

-- after every list of events
pub always_kept : (p : Plan) (workers : ℕ) (events : List Event)
    → Kept p (run_machine p events (all_idle workers))
always_kept p workers events = run_kept p events (all_idle workers) (start_kept p workers)

pub kept_of : (p : Plan) (s : Claims) → AreReached p s → Kept p s
kept_of p s r = subst (λ x. Kept p x) (sym r.claims) (always_kept p r.workers r.events)

few_ended : (stages : List Stage) → total has_ended stages ≤ length stages
few_ended [] = omega arith
few_ended (x ∷ xs) = omega (arith, one x, few_ended xs)
  where
    one : (x : Stage) → has_ended x ≤ 1
    one stage.Idle = omega arith
    one (stage.Held a b) = omega arith
    one (stage.Open a m b) = omega arith
    one stage.Ended = omega arith

pub drawn_most : (p : Plan) (s : Claims) → AreReached p s
    → s.drawn ≤ unit_count p + MOST_CHUNK * (1 + length s.stages)
drawn_most p s r = omega (arith, (kept_of p s r).few, few_ended s.stages)
