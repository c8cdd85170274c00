-- The way on that is picked.
use Rattle.std.proofs.Common.{◌≡◌, ℕ, ◌≤◌, ◌<◌, List, length, ap, sym, ◌∙◌, arith, Some, None, ◌⊎◌, inl, inr, get_or}
use Rattle.std.specs.Prelude.{slice_get}
use Rattle.std.proofs.lemmas.Bool.{cases_lt}
use Rattle.std.proofs.lemmas.Option.{slice_get_cases, get_or_from_slice_get}
use Rattle.labels.specs.declared.states.onward.Onward.{Onward}
use Rattle.labels.specs.Filling.Rests.{over, least_over, IsPick}
use Rattle.labels.proofs.OfFilling.LeastOver.{least_some, least_le}
use Rattle.labels.specs.Reading.Serves.{FirstOver}

module _ (at : ℕ → ℕ → ℕ) (far : ℕ) (rest : ℕ → ℕ → ℕ) (ways : List Onward) (step left : ℕ) (near : left < far) (is : left ≡ least_over at far rest step ways) where
  within : (k : ℕ) (w : Onward) → slice_get ways k ≡ Some w → k < length ways
  within k w s = elim (slice_get_cases ways k).1 [ inl x ↦ x.1 | inr x ↦ absurd (let n = x.1 in cc) ]

  pub none_left : FirstOver (over at far rest step) ways left None → ⊥
  none_left f =
      let s = least_some at far rest step ways (omega (arith, is, near)) in
      let at_place : get_or ways (s.0) (s.1) ≡ s.1 = get_or_from_slice_get ways (s.0) (s.1) (s.1) (s.2) in
      f (s.0) (s.1) (within (s.0) (s.1) (s.2)) (ap (λ w. over at far rest step w) at_place ∙ sym (s.3) ∙ sym is)

  pub picked : (w : Onward) → FirstOver (over at far rest step) ways left (Some w) → IsPick at far rest ways step left w
  picked w f = record { place = f.1.0; stands = f.1.1; gives = f.0; before = earlier }
    where
      earlier : (k : ℕ) (v : Onward) → k < f.1.0 → slice_get ways k ≡ Some v → left < over at far rest step v
      earlier k v b s =
          let at_place : get_or ways k v ≡ v = get_or_from_slice_get ways k v v s in
          let le = least_le at far rest step ways k v s in
          let other : over at far rest step v ≡ left → ⊥ = λ e. f.1.2 k v b (ap (λ w. over at far rest step w) at_place ∙ e) in
          by le other (cases_lt left (over at far rest step v))
        where
          by : least_over at far rest step ways ≤ over at far rest step v → (over at far rest step v ≡ left → ⊥) → (left < over at far rest step v) ⊎ (over at far rest step v ≤ left) → left < over at far rest step v
          by le other (inl x) = x
          by le other (inr x) = absurd (other (omega (arith, le, x, is)))
