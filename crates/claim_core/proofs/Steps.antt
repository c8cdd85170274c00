-- What an event makes of claims: it leaves them as they are, or its worker draws, opens or finishes.
use Rattle.std.specs.Prelude.{nat_lt, slice_get}
use Rattle.std.proofs.Common.{◌≡◌, ℕ, ◌+◌, ◌-◌, ◌<◌, ◌≤◌, min, Bool, true, false, [], ◌∷◌, refl, ap, sym, ◌∙◌, arith, Option, Some, None}
use Rattle.std.proofs.lemmas.Bool.{cond_both}
use Rattle.std.proofs.lemmas.Bool.Decides.{nat_tests}
use Rattle.net_core.proofs.Orders.{le_holds, lt_fails, lt_holds}
use Rattle.dta_model.specs.Machine.{Claims, Effect, claim_by, claim_chunk_by, drawn_by, effect_of, finish_by, finished, first_in, fits_chunk, held_end, left_of, may_open, open_by, with_open, with_stage}
use Rattle.dta_model.specs.Units.{node_count, phase_start, unit_count}
use Rattle.dta_model.specs.declared.plan.Plan.{Plan}
use Rattle.dta_model.specs.declared.machine.Event.{Event}
use Rattle.dta_model.specs.declared.machine.Event.TheVariants as event
use Rattle.dta_model.specs.declared.machine.Outcome.{Outcome}
use Rattle.dta_model.specs.declared.machine.Outcome.TheVariants as outcomes
use Rattle.dta_model.specs.declared.machine.Stage.{Stage}
use Rattle.dta_model.specs.declared.machine.Stage.TheVariants as stage
use Rattle.dta_model.specs.declared.machine.TheConstants.{MOST_CHUNK}
use Rattle.claim_core.specs.Laws.{numbers_given}
use Rattle.claim_core.specs.Runs.{among, numbers, run}
use Rattle.claim_core.proofs.Counts.{drawn_in, min_high, min_low}
use Rattle.claim_core.proofs.Holds.{Fits, has_ended}
use Rattle.claim_core.proofs.Runs.{among_none, numbers_none}

-- what an idle worker has after a draw of so many numbers, and what it is answered
pub record IsDrawn (p : Plan) (s : Claims) (many : ℕ) (new : Stage) (given : Outcome) : Type 0 where
  pub fits : (N n : ℕ) → Fits N n new
  pub held : (x : ℕ) → among (first_in new) (held_end new) x
      ≡ among (drawn_in p s) (min (s.drawn + many) (unit_count p)) x
  pub past : unit_count p ≤ s.drawn → has_ended new ≡ 1
  pub told : numbers_given given ≡ numbers (drawn_in p s) (min (s.drawn + many) (unit_count p))

-- where a worker has something else, and so many numbers are drawn
abbrev pub moved_to : Claims → ℕ → Stage → ℕ → Claims
moved_to s w new drawn = record (with_stage s w new) { drawn = drawn }

abbrev pub is_finish : Event → Bool
is_finish (event.Claim w) = false
is_finish (event.ClaimChunk w many) = false
is_finish (event.Open w) = false
is_finish (event.Finish w) = true

module _ (p : Plan) (s : Claims) where
  abbrev end_of : ℕ → ℕ
  end_of many = min (s.drawn + many) (unit_count p)

  holds_drawn : (many : ℕ) (given : Outcome) → 1 ≤ many → s.drawn < unit_count p
      → numbers_given given ≡ numbers s.drawn (end_of many)
      → IsDrawn p s many (stage.Held s.drawn (end_of many)) given
  holds_drawn many given one few told =
      let low : s.drawn ≡ drawn_in p s = sym (min_low s.drawn (unit_count p) (omega (arith, few))) in
      let lt : s.drawn < end_of many = omega (arith, one, few) in
      record {
        fits = λ N n. lt;
        held = λ x. ap (λ g. among g (end_of many) x) low;
        past = λ le. absurd (omega (arith, le, few));
        told = told ∙ ap (λ g. numbers g (end_of many)) low;
      }

  none_drawn : (many : ℕ) → unit_count p ≤ s.drawn
      → IsDrawn p s many stage.Ended (outcomes.Over s.drawn)
  none_drawn many all =
      let same : end_of many ≡ drawn_in p s =
      min_high (s.drawn + many) (unit_count p) (omega (arith, all))
      ∙ sym (min_high s.drawn (unit_count p) all) in
      record {
        fits = λ N n. tt;
        held = λ x. among_none 0 x
            ∙ sym (ap (λ b. among (drawn_in p s) b x) same ∙ among_none (drawn_in p s) x);
        past = λ _. refl;
        told = sym (ap (λ b. numbers (drawn_in p s) b) same ∙ numbers_none (drawn_in p s));
      }

fits_both : (many : ℕ) → fits_chunk many ≡ true → (1 ≤ many) × (many ≤ MOST_CHUNK)
fits_both many h = (grind (arith, nat_tests), grind (arith, nat_tests))

module _ (p : Plan) (s : Claims) (P : Event → Effect → Type 0)
    (stays : (e : Event) (o : Outcome) → numbers_given o ≡ [] → P e (record { claims = s; outcome = o }))
    (draws : (e : Event) (w many : ℕ) (new : Stage) (o : Outcome) → is_finish e ≡ false
    → slice_get s.stages w ≡ Some stage.Idle → many ≤ MOST_CHUNK → IsDrawn p s many new o
    → P e (record { claims = moved_to s w new (s.drawn + many); outcome = o }))
    (opens : (w a b : ℕ) → slice_get s.stages w ≡ Some (stage.Held a b)
    → phase_start (node_count p) a ≤ finished p s
    → P (event.Open w) (record {
      claims = with_stage s w (with_open (node_count p) (stage.Held a b));
      outcome = outcomes.Done;
    }))
    (finishes : (w a m b : ℕ) → slice_get s.stages w ≡ Some (stage.Open a m b)
    → P (event.Finish w) (record {
      claims = with_stage s w (left_of (stage.Open a m b));
      outcome = outcomes.Done;
    })) where
  draw_step : (e : Event) (w many : ℕ) (given : Outcome) → is_finish e ≡ false
      → slice_get s.stages w ≡ Some stage.Idle → 1 ≤ many → many ≤ MOST_CHUNK
      → (s.drawn < unit_count p → numbers_given given ≡ numbers s.drawn (end_of p s many))
      → P e (drawn_by p s w many given)
  draw_step e w many given other idle one few told =
      cond_both (nat_lt s.drawn (unit_count p)) _ _ (P e)
      (λ t. let lt = lt_holds s.drawn (unit_count p) t in
      draws e w many _ given other idle few (holds_drawn p s many given one lt (told lt)))
      (λ t. draws e w many _ _ other idle few
      (none_drawn p s many (lt_fails s.drawn (unit_count p) t)))

  one_told : s.drawn < unit_count p → s.drawn ∷ [] ≡ numbers s.drawn (end_of p s 1)
  one_told lt =
      let one : 1 ≡ end_of p s 1 - s.drawn = omega (arith, lt) in ap (λ m. run s.drawn m) one

  claim_step : (w : ℕ) (o : Option Stage) → slice_get s.stages w ≡ o
      → P (event.Claim w) (claim_by p s w o)
  claim_step w None e = stays (event.Claim w) outcomes.Misplaced refl
  claim_step w (Some stage.Idle) e =
      draw_step (event.Claim w) w 1 (outcomes.Given s.drawn) refl e (omega arith) (omega arith)
      one_told
  claim_step w (Some (stage.Held a b)) e = stays (event.Claim w) outcomes.Misplaced refl
  claim_step w (Some (stage.Open a m b)) e = stays (event.Claim w) outcomes.Misplaced refl
  claim_step w (Some stage.Ended) e = stays (event.Claim w) outcomes.Misplaced refl

  chunk_step : (w many : ℕ) (o : Option Stage) → slice_get s.stages w ≡ o
      → P (event.ClaimChunk w many) (claim_chunk_by p s w many o)
  chunk_step w many None e = stays (event.ClaimChunk w many) outcomes.Misplaced refl
  chunk_step w many (Some stage.Idle) e =
      cond_both (fits_chunk many) _ _ (P (event.ClaimChunk w many))
      (λ t. let fit = fits_both many t in
      draw_step (event.ClaimChunk w many) w many _ refl e fit.0 fit.1 (λ _. refl))
      (λ _. stays (event.ClaimChunk w many) outcomes.Misplaced refl)
  chunk_step w many (Some (stage.Held a b)) e =
      stays (event.ClaimChunk w many) outcomes.Misplaced refl
  chunk_step w many (Some (stage.Open a m b)) e =
      stays (event.ClaimChunk w many) outcomes.Misplaced refl
  chunk_step w many (Some stage.Ended) e = stays (event.ClaimChunk w many) outcomes.Misplaced refl

  open_step : (w : ℕ) (o : Option Stage) → slice_get s.stages w ≡ o
      → P (event.Open w) (open_by p s w o)
  open_step w None e = stays (event.Open w) outcomes.Misplaced refl
  open_step w (Some stage.Idle) e = stays (event.Open w) outcomes.Misplaced refl
  open_step w (Some (stage.Held a b)) e =
      cond_both (may_open p s a) _ _ (P (event.Open w))
      (λ t. opens w a b e (le_holds (phase_start (node_count p) a) (finished p s) t))
      (λ _. stays (event.Open w) (outcomes.NotYet (finished p s)) refl)
  open_step w (Some (stage.Open a m b)) e = stays (event.Open w) outcomes.Misplaced refl
  open_step w (Some stage.Ended) e = stays (event.Open w) outcomes.Misplaced refl

  finish_step : (w : ℕ) (o : Option Stage) → slice_get s.stages w ≡ o
      → P (event.Finish w) (finish_by s w o)
  finish_step w None e = stays (event.Finish w) outcomes.Misplaced refl
  finish_step w (Some stage.Idle) e = stays (event.Finish w) outcomes.Misplaced refl
  finish_step w (Some (stage.Held a b)) e = stays (event.Finish w) outcomes.Misplaced refl
  finish_step w (Some (stage.Open a m b)) e = finishes w a m b e
  finish_step w (Some stage.Ended) e = stays (event.Finish w) outcomes.Misplaced refl

  pub step_by : (e : Event) → P e (effect_of p s e)
  unfolding effect_of
  step_by (event.Claim w) = claim_step w (slice_get s.stages w) refl
  step_by (event.ClaimChunk w many) = chunk_step w many (slice_get s.stages w) refl
  step_by (event.Open w) = open_step w (slice_get s.stages w) refl
  step_by (event.Finish w) = finish_step w (slice_get s.stages w) refl
