-- Nodes that are woken.
use Rattle.std.specs.Prelude.{slice_get, slice_set, ◌≢◌}
use Rattle.std.proofs.Common.{◌≡◌, ℕ, ◌+◌, ◌<◌, true, false, List, refl, ap, sym, ◌∙◌, subst, arith, Some, ◌⊎◌, inl, inr}
use Rattle.std.proofs.lemmas.Bool.Decides.{eqb_tells}
use Rattle.std.proofs.lemmas.Option.{same_Some}
use Rattle.std.proofs.Math.Dec.{eqb}
use Rattle.dta_model.specs.Plans.{link_at, outs}
use Rattle.dta_model.specs.declared.plan.Plan.{Plan}
use Rattle.cell_stages.specs.declared.mail.Mail.{Mail}
use Rattle.serial_loader.specs.Phases.{AreWoken, IsReached}
use Rattle.node_transfer.proofs.OfMail.Sets.{count-set, set-got, set-other}

pub none-woken : (wakes : List ℕ) → AreWoken wakes wakes
none-woken wakes = record { count = refl; each = λ n w e. inl e }

pub one-woken : (n : ℕ) (first wakes : List ℕ) → AreWoken first wakes → AreWoken first (slice_set wakes n 0)
one-woken n first wakes f = record { count = count-set wakes n 0 ∙ f.count; each = λ k w e. by_place k w e (eqb_tells k n) }
  where
    by_place : (k w : ℕ) → slice_get (slice_set wakes n 0) k ≡ Some w → ((eqb k n ≡ true) × (k ≡ n)) ⊎ ((eqb k n ≡ false) × (k ≢ n)) → (slice_get first k ≡ Some w) ⊎ (w ≡ 0)
    by_place k w e (inl (s, same)) = inr (set-got wakes n w 0 (subst (λ i. slice_get (slice_set wakes n 0) i ≡ Some w) same e))
    by_place k w e (inr (s, other)) = f.each k w (sym (set-other wakes n k 0 other) ∙ e)

-- a node is still reached while others are woken
still-reached : (p : Plan) (l : ℕ) (old new : List ℕ) (m : Mail) → AreWoken old new → IsReached p old l m → IsReached p new l m
still-reached p l old new m f (inl none) = inl none
still-reached p l old new m f (inr awake) = inr (λ w got. by_two w (f.each (link_at p l).to.0 w got))
  where
    by_two : (w : ℕ) → (slice_get old (link_at p l).to.0 ≡ Some w) ⊎ (w ≡ 0) → w ≡ 0
    by_two w (inl was) = awake w was
    by_two w (inr woken) = woken

-- the out-links of node n up to a place
abbrev pub ReachedTo : Plan → ℕ → ℕ → List ℕ → List Mail → Type 0
ReachedTo p n k wakes mail = (j l : ℕ) (m : Mail) → j < k → slice_get (outs p n) j ≡ Some l → slice_get mail l ≡ Some m → IsReached p wakes l m

pub reached-next : (p : Plan) (n k b : ℕ) (d : Mail) (old new : List ℕ) (mail : List Mail) → slice_get (outs p n) k ≡ Some b → slice_get mail b ≡ Some d → AreWoken old new
    → ReachedTo p n k old mail → IsReached p new b d → ReachedTo p n (k + 1) new mail
reached-next p n k b d old new mail e got f before here = λ j l m below at there. by_place j l m below at there (eqb_tells j k)
  where
    by_place : (j l : ℕ) (m : Mail) → j < k + 1 → slice_get (outs p n) j ≡ Some l → slice_get mail l ≡ Some m → ((eqb j k ≡ true) × (j ≡ k)) ⊎ ((eqb j k ≡ false) × (j ≢ k)) → IsReached p new l m
    by_place j l m below at there (inl (s, same)) =
        let link : l ≡ b = same_Some l b (sym at ∙ ap (λ i. slice_get (outs p n) i) same ∙ e) in
        let letter : m ≡ d = same_Some m d (sym there ∙ ap (λ i. slice_get mail i) link ∙ got) in
        subst (λ i. IsReached p new i m) (sym link) (subst (IsReached p new b) (sym letter) here)
    by_place j l m below at there (inr (s, other)) = still-reached p l old new m f (before j l m (omega (arith, below, other)) at there)
