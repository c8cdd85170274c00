-- The steps of a pass are events of its worker.
use Rattle.std.specs.Prelude.{nat_lt, slice_get, slice_set}
use Rattle.std.proofs.Common.{◌≡◌, ℕ, zero, suc, ◌+◌, ◌<◌, ◌≤◌, min, Bool, true, false, cond, List, [], ◌∷◌, map, refl, sym, ap, ◌∙◌, Some}
use mathlib.Core.Option.{some, some-injective}
use lib.ListN.{get_elem?}
use Rattle.net_core.proofs.Orders.{is_le, is_lt, not_le, not_lt}
use Rattle.dta_model.specs.Machine.{Claims, Effect, claim_chunk_by, drawn_by, effect_of, finish_by, finished, first_in, fits_chunk, held_end, left_of, may_open, open_by, step_machine, with_stage}
use Rattle.dta_model.specs.Units.{node_count, phase_start, unit_count}
use Rattle.dta_model.specs.declared.machine.Event.TheVariants as event
use Rattle.dta_model.specs.declared.machine.Outcome.{Outcome}
use Rattle.dta_model.specs.declared.machine.Outcome.TheVariants as outcomes
use Rattle.dta_model.specs.declared.machine.Stage.TheVariants as stage
use Rattle.dta_model.specs.declared.plan.Plan.{Plan}
use Rattle.phase_claims.specs.Laws.{MakesEvents, StepsAreEvents, claims_of}
use Rattle.phase_claims.specs.Passes.{IsHeld, IsOpen}
use Rattle.phase_claims.specs.Views.{done_with, ended, first_of_phase, having_open, holding, seeing}
use Rattle.phase_claims.specs.declared.view.View.{View}

module _ {A B : Type 0} (f : A → B) where
  map_get : (xs : List A) (i : ℕ) (x : A) → get_elem? xs i ≡ some x → slice_get (map f xs) i ≡ Some (f x)
  map_get [] i x e = cc
  map_get (y ∷ xs) zero x e = ap (λ z. Some (f z)) (some-injective y x e)
  map_get (y ∷ xs) (suc i) x e = map_get xs i x e

  map_set : (xs : List A) (i : ℕ) (x : A) → map f (slice_set xs i x) ≡ slice_set (map f xs) i (f x)
  map_set [] i x = refl
  map_set (y ∷ xs) zero x = refl
  map_set (y ∷ xs) (suc i) x = ap (λ ys. f y ∷ ys) (map_set xs i x)

module _ {B : Type 0} where
  set_same : (ys : List B) (i : ℕ) (y : B) → slice_get ys i ≡ Some y → slice_set ys i y ≡ ys
  set_same [] i y e = refl
  set_same (z ∷ ys) zero y e = cc
  set_same (z ∷ ys) (suc i) y e = ap (λ xs. z ∷ xs) (set_same ys i y e)

module _ {A : Type 0} where
  is_first : (b : Bool) (x y : A) → b ≡ true → cond b x y ≡ x
  is_first b x y e = ap (λ c. cond c x y) e

  is_second : (b : Bool) (x y : A) → b ≡ false → cond b x y ≡ y
  is_second b x y e = ap (λ c. cond c x y) e

module _ (drawn by : ℕ) (views : List View) (v : View) (here : get_elem? views by ≡ some v) where
  abbrev p : Plan
  p = v.scope.plan

  abbrev s : Claims
  s = claims_of drawn views

  at : slice_get s.stages by ≡ Some v.stage
  at = map_get (λ (u : View). u.stage) views by v here

  made : (n : ℕ) (w : View) → claims_of n (slice_set views by w) ≡ record (with_stage s by w.stage) { drawn = n }
  made n w = ap (λ xs. record { drawn = n; stages = xs }) (map_set (λ (u : View). u.stage) views by w)

  abbrev given : ℕ → Outcome
  given many = outcomes.GivenChunk drawn (min (drawn + many) (unit_count p))

  chunk : (many : ℕ) → v.stage ≡ stage.Idle → fits_chunk many ≡ true → step_machine p s (event.ClaimChunk by many) ≡ (drawn_by p s by many (given many)).claims
  unfolding effect_of
  chunk many idle fits = ap (λ (e : Effect). e.claims) (
      ap (λ o. claim_chunk_by p s by many o) (at ∙ ap Some idle)
      ∙ is_first (fits_chunk many) _ _ fits
      )

  looked : IsHeld v.stage → step_machine p s (event.Open by) ≡ (open_by p s by (Some (stage.Held (first_in v.stage) (held_end v.stage)))).claims
  unfolding effect_of
  looked held = ap (λ o. (open_by p s by o).claims) (at ∙ ap Some held)

  finished_all : IsOpen v.stage → step_machine p s (event.Finish by) ≡ with_stage s by (left_of v.stage)
  unfolding effect_of
  finished_all is = ap (λ o. (finish_by s by o).claims) (at ∙ ap Some is)

  makes : MakesEvents drawn by views v
  makes = record {
    draws = λ many idle fits lt.
        made (drawn + many) (holding v drawn many)
        ∙ sym (chunk many idle fits ∙ ap (λ (e : Effect). e.claims) (is_first (nat_lt drawn (unit_count p)) _ _ (is_lt drawn (unit_count p) lt)));
    ends = λ many idle fits le.
        made (drawn + many) (ended v many)
        ∙ sym (chunk many idle fits ∙ ap (λ (e : Effect). e.claims) (is_second (nat_lt drawn (unit_count p)) _ _ (not_lt drawn (unit_count p) le)));
    opens = λ held seen le.
        made drawn (having_open v seen)
        ∙ sym (looked held ∙ ap (λ (e : Effect). e.claims) (is_first (may_open p s (first_in v.stage)) _ _ (is_le (first_of_phase v) (finished p s) le)));
    waits = λ held seen lt.
        made drawn (seeing v seen)
        ∙ ap (λ xs. record { drawn = drawn; stages = xs }) (set_same s.stages by v.stage at)
        ∙ sym (looked held ∙ ap (λ (e : Effect). e.claims) (is_second (may_open p s (first_in v.stage)) _ _ (not_le (first_of_phase v) (finished p s) lt)));
    finishes = λ is. made drawn (done_with v) ∙ sym (finished_all is);
  }

pub events : StepsAreEvents
events = makes
