-- What the events make, by what their worker has.
use Rattle.std.specs.Prelude.{nat_lt, slice_get, slice_index_or, slice_set}
use Rattle.std.proofs.Common.{◌≡◌, ℕ, ◌+◌, ◌<◌, ◌≤◌, min, Bool, true, false, cond, length, refl, ap, sym, ◌∙◌, arith, Option, Some, None, ◌⊎◌, inl, inr}
use Rattle.std.proofs.lemmas.Bool.{cond-false, cond-true}
use Rattle.std.proofs.lemmas.Bool.Decides.{nat_tests}
use Rattle.std.proofs.lemmas.Option.{slice_get-get_or}
use Rattle.net_core.proofs.Orders.{is_le, is_lt, not_le, not_lt}
use Rattle.dta_model.specs.Machine.{Claims, Effect, claim_by, claim_chunk_by, drawn_by, effect_of, finish_by, finished, fits_chunk, left_of, may_open, misplaced, open_by, with_stage}
use Rattle.dta_model.specs.Units.{node_count, phase_end, phase_start, unit_count}
use Rattle.dta_model.specs.declared.plan.Plan.{Plan}
use Rattle.dta_model.specs.declared.machine.Event.TheVariants as event
use Rattle.dta_model.specs.declared.machine.Outcome.{Outcome}
use Rattle.dta_model.specs.declared.machine.Outcome.TheVariants as outcomes
use Rattle.dta_model.specs.declared.machine.Stage.{Stage}
use Rattle.dta_model.specs.declared.machine.Stage.TheVariants as stage
use Rattle.dta_model.specs.declared.machine.TheConstants.{MOST_CHUNK}
use Rattle.claim_core.proofs.Working.{index_of}

-- what a worker has, by what was read at its place
pub has : {v s : Claims} {w : ℕ} {x y : Stage} → v ≡ s → w < length s.stages
    → x ≡ slice_index_or v.stages w x → x ≡ y → slice_get s.stages w ≡ Some y
has {v} {s} {w} {x} {y} same inside read is =
    slice_get-get_or s.stages w x inside
    ∙ ap (λ z. Some z) (sym (read ∙ ap (λ (c : Claims). slice_index_or c.stages w x) same) ∙ is)

pub fit : (many : ℕ) → 1 ≤ many → many ≤ MOST_CHUNK → fits_chunk many ≡ true
fit many low high = grind (arith, nat_tests)

pub unfit : (many : ℕ) → (many < 1) ⊎ (1 ≤ many × MOST_CHUNK < many) → fits_chunk many ≡ false
unfit many (inl low) = grind (arith, nat_tests)
unfit many (inr high) = (let above = high.1 in grind (arith, nat_tests))

-- a claim is that of a chunk of one
abbrev pub single : Outcome → Outcome
single (outcomes.Given u) = outcomes.Given u
single (outcomes.GivenChunk a b) = outcomes.Given a
single outcomes.Done = outcomes.Done
single (outcomes.NotYet n) = outcomes.NotYet n
single (outcomes.Over u) = outcomes.Over u
single outcomes.Misplaced = outcomes.Misplaced

abbrev single_effect : Effect → Effect
single_effect f = record { claims = f.claims; outcome = single f.outcome }

of_cond : (b : Bool) (x y : Effect)
    → single_effect (cond b x y) ≡ cond b (single_effect x) (single_effect y)
of_cond true x y = refl
of_cond false x y = refl

pub same_single : (o : Outcome) → ((a b : ℕ) → o ≡ outcomes.GivenChunk a b → ⊥) → single o ≡ o
same_single (outcomes.Given u) h = refl
same_single (outcomes.GivenChunk a b) h = absurd (h a b refl)
same_single outcomes.Done h = refl
same_single (outcomes.NotYet n) h = refl
same_single (outcomes.Over u) h = refl
same_single outcomes.Misplaced h = refl

module _ (p : Plan) (s : Claims) (w : ℕ) where
  pub claim_is : {new : Claims} {o given : Outcome}
      → record { claims = new; outcome = o } ≡ effect_of p s (event.ClaimChunk w 1)
      → single o ≡ given → record { claims = new; outcome = given } ≡ effect_of p s (event.Claim w)
  unfolding effect_of
  claim_is {new} made is = ap (λ (x : Outcome). record { claims = new; outcome = x }) (sym is)
      ∙ ap single_effect made ∙ by (slice_get s.stages w)
    where
      by : (x : Option Stage) → single_effect (claim_chunk_by p s w 1 x) ≡ claim_by p s w x
      by None = refl
      by (Some stage.Idle) = of_cond (nat_lt s.drawn (unit_count p)) _ _
      by (Some (stage.Held a b)) = refl
      by (Some (stage.Open a m b)) = refl
      by (Some stage.Ended) = refl

  module _ (many : ℕ) where
    pub chunk_misplaced : (x : Stage) → x ≡ slice_index_or s.stages w x → (x ≡ stage.Idle → ⊥)
        → misplaced s ≡ effect_of p s (event.ClaimChunk w many)
    unfolding effect_of
    chunk_misplaced x is other =
        by (slice_get s.stages w) (λ e. other (is ∙ index_of s.stages w stage.Idle x e))
      where
        by : (o : Option Stage) → (o ≡ Some stage.Idle → ⊥)
            → misplaced s ≡ claim_chunk_by p s w many o
        by None h = refl
        by (Some stage.Idle) h = absurd (h refl)
        by (Some (stage.Held a b)) h = refl
        by (Some (stage.Open a m b)) h = refl
        by (Some stage.Ended) h = refl

    module _ (idle : slice_get s.stages w ≡ Some stage.Idle) where
      abbrev given : Outcome
      given = outcomes.GivenChunk s.drawn (min (s.drawn + many) (unit_count p))

      idle_is : claim_chunk_by p s w many (slice_get s.stages w)
          ≡ cond (fits_chunk many) (drawn_by p s w many given) (misplaced s)
      idle_is = ap (λ o. claim_chunk_by p s w many o) idle

      pub chunk_unfit : fits_chunk many ≡ false
          → misplaced s ≡ effect_of p s (event.ClaimChunk w many)
      unfolding effect_of
      chunk_unfit unfit =
          sym (idle_is ∙ cond-false (fits_chunk many) (drawn_by p s w many given) (misplaced s) unfit)

      module _ (fit : fits_chunk many ≡ true) where
        fit_is : claim_chunk_by p s w many (slice_get s.stages w) ≡ drawn_by p s w many given
        fit_is = idle_is ∙ cond-true (fits_chunk many) (drawn_by p s w many given) (misplaced s) fit

        abbrev held : ℕ → Effect
        held end = record {
          claims = record { drawn = s.drawn + many; stages = slice_set s.stages w (stage.Held s.drawn end) };
          outcome = outcomes.GivenChunk s.drawn end;
        }

        abbrev over : Effect
        over = record {
          claims = record { drawn = s.drawn + many; stages = slice_set s.stages w stage.Ended };
          outcome = outcomes.Over s.drawn;
        }

        pub chunk_given : s.drawn < unit_count p → (end : ℕ) → end ≡ min (s.drawn + many) (unit_count p)
            → held end ≡ effect_of p s (event.ClaimChunk w many)
        unfolding effect_of
        chunk_given few end is = ap held is ∙ sym (fit_is
            ∙ cond-true (nat_lt s.drawn (unit_count p)) (held (min (s.drawn + many) (unit_count p))) over
            (is_lt s.drawn (unit_count p) few))

        pub chunk_over : unit_count p ≤ s.drawn → over ≡ effect_of p s (event.ClaimChunk w many)
        unfolding effect_of
        chunk_over all = sym (fit_is
            ∙ cond-false (nat_lt s.drawn (unit_count p)) (held (min (s.drawn + many) (unit_count p))) over
            (not_lt s.drawn (unit_count p) all))

  pub open_misplaced : (x : Stage) → x ≡ slice_index_or s.stages w x
      → ((a b : ℕ) → x ≡ stage.Held a b → ⊥) → misplaced s ≡ effect_of p s (event.Open w)
  unfolding effect_of
  open_misplaced x is other =
      by (slice_get s.stages w) (λ a b e. other a b (is ∙ index_of s.stages w (stage.Held a b) x e))
    where
      by : (o : Option Stage) → ((a b : ℕ) → o ≡ Some (stage.Held a b) → ⊥)
          → misplaced s ≡ open_by p s w o
      by None h = refl
      by (Some stage.Idle) h = refl
      by (Some (stage.Held a b)) h = absurd (h a b refl)
      by (Some (stage.Open a m b)) h = refl
      by (Some stage.Ended) h = refl

  module _ (a b : ℕ) (held : slice_get s.stages w ≡ Some (stage.Held a b)) where
    abbrev opens : ℕ → Effect
    opens m = record {
      claims = record { drawn = s.drawn; stages = slice_set s.stages w (stage.Open a m b) };
      outcome = outcomes.Done;
    }

    abbrev waits : ℕ → Effect
    waits n = record { claims = s; outcome = outcomes.NotYet n }

    abbrev stop : ℕ
    stop = min b (phase_end (node_count p) a)

    pub open_begins : (m : ℕ) → m ≡ stop → phase_start (node_count p) a ≤ finished p s
        → opens m ≡ effect_of p s (event.Open w)
    unfolding effect_of
    open_begins m is may = ap opens is ∙ sym (ap (λ o. open_by p s w o) held
        ∙ cond-true (may_open p s a) (opens stop) (waits (finished p s))
        (is_le (phase_start (node_count p) a) (finished p s) may))

    pub open_waits : (n : ℕ) → n ≡ finished p s → finished p s < phase_start (node_count p) a
        → waits n ≡ effect_of p s (event.Open w)
    unfolding effect_of
    open_waits n count early = ap waits count ∙ sym (ap (λ o. open_by p s w o) held
        ∙ cond-false (may_open p s a) (opens stop) (waits (finished p s))
        (not_le (phase_start (node_count p) a) (finished p s) early))

  pub finish_misplaced : (x : Stage) → x ≡ slice_index_or s.stages w x
      → ((a m b : ℕ) → x ≡ stage.Open a m b → ⊥) → misplaced s ≡ effect_of p s (event.Finish w)
  unfolding effect_of
  finish_misplaced x is other =
      by (slice_get s.stages w)
      (λ a m b e. other a m b (is ∙ index_of s.stages w (stage.Open a m b) x e))
    where
      by : (o : Option Stage) → ((a m b : ℕ) → o ≡ Some (stage.Open a m b) → ⊥)
          → misplaced s ≡ finish_by s w o
      by None h = refl
      by (Some stage.Idle) h = refl
      by (Some (stage.Held a b)) h = refl
      by (Some (stage.Open a m b)) h = absurd (h a m b refl)
      by (Some stage.Ended) h = refl

  pub finish_ends : (a m b : ℕ) → slice_get s.stages w ≡ Some (stage.Open a m b) → (left : Stage)
      → left ≡ left_of (stage.Open a m b)
      → record {
        claims = record { drawn = s.drawn; stages = slice_set s.stages w left };
        outcome = outcomes.Done;
      } ≡ effect_of p s (event.Finish w)
  unfolding effect_of
  finish_ends a m b out left is =
      ap (λ (x : Stage). record { claims = with_stage s w x; outcome = outcomes.Done }) is
      ∙ sym (ap (λ o. finish_by s w o) out)
