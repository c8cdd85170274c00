-- What a held unit finds at its parts.
use Rattle.std.proofs.Common.{◌≡◌, ℕ, ◌+◌, ◌*◌, ◌%◌, ◌<◌, ◌≤◌, length, ap, ◌∙◌, arith}
use Rattle.dta_model.specs.Plans.{link_at, outs}
use Rattle.dta_model.specs.Sound.{IsSound}
use Rattle.dta_model.specs.Units.{Gather, Transfer, mail_part, node_count, phase_begins, phase_start, step_of, step_units, task_of}
use Rattle.dta_model.specs.declared.plan.Plan.{Plan}
use Rattle.node_transfer.proofs.OfMail.Finished.{from-below}
use Rattle.claim_core.specs.Parts.{moves, stage_before}
use Rattle.claim_core.specs.Sums.{below, is_at}
use Rattle.claim_core.proofs.Cuts.{below_same}
use Rattle.claim_core.proofs.Parts.{at_place, cell_of, in_task, mail_of, moves_is, once, times_outs, transfers}
use Rattle.claim_core.proofs.Stages.{in_step}
use Rattle.claim_core.proofs.Sums.{at_same}

module _ (p : Plan) where
  -- the transfers of a step move each cell and each mail once
  pub cell_once : (n : ℕ) → n < node_count p → below (node_count p) (at_place p n) ≡ 1
  cell_once n h = below_same (at_place p n) (λ i. is_at i n) (node_count p) (λ i l. ap (λ task. in_task p n task) (transfers (node_count p) i l) ∙ cell_of p i (outs p i) n h ∙ at_same n i) ∙ once n (node_count p) h

  pub mail_once : IsSound p → (l : ℕ) → l < length p.net.links → below (node_count p) (at_place p (mail_part p l)) ≡ 1
  mail_once sound l h =
      below_same (at_place p (mail_part p l)) (λ i. is_at i (link_at p l).from.0) (node_count p) (λ i b. ap (λ task. in_task p (mail_part p l) task) (transfers (node_count p) i b) ∙ mail_of p i (outs p i) b l ∙ times_outs p i l h)
      ∙ once (link_at p l).from.0 (node_count p) (from-below p sound (node_count p) (omega arith) l h)

  -- the stage of a part before the phase of a unit, by the unit's task
  pub before_is : (k c r : ℕ) → r ≤ step_units (node_count p) → phase_begins (node_count p) (task_of (node_count p) c) ≡ r → stage_before p c k ≡ step_of (node_count p) c * below (step_units (node_count p)) (at_place p k) + below r (at_place p k)
  unfolding stage_before phase_start
  before_is k c r le e =
      let t : ℕ = step_of (node_count p) c in
      let W : ℕ = step_units (node_count p) in
      ap (λ x. below (t * W + x) (moves p k)) e
      ∙ below_same (moves p k) (λ u. at_place p k (u % W)) (t * W + r) (λ u l. moves_is p k u)
      ∙ in_step W (at_place p k) t r le

  module _ (k c : ℕ) (two : below (step_units (node_count p)) (at_place p k) ≡ 2) where
    pub before_transfer : (a : ℕ) → task_of (node_count p) c ≡ Transfer a → stage_before p c k ≡ 2 * step_of (node_count p) c
    before_transfer a e =
        let t : ℕ = step_of (node_count p) c in
        let double : t * below (step_units (node_count p)) (at_place p k) ≡ 2 * t = ap (λ x. t * x) two ∙ omega arith in
        omega (arith, before_is k c 0 (omega arith) (ap (λ task. phase_begins (node_count p) task) e), double)

    pub before_gather : (a : ℕ) → below (node_count p) (at_place p k) ≡ 1 → task_of (node_count p) c ≡ Gather a → stage_before p c k ≡ 2 * step_of (node_count p) c + 1
    before_gather a one e =
        let t : ℕ = step_of (node_count p) c in
        let double : t * below (step_units (node_count p)) (at_place p k) ≡ 2 * t = ap (λ x. t * x) two ∙ omega arith in
        omega (arith, before_is k c (node_count p) (omega arith) (ap (λ task. phase_begins (node_count p) task) e), double, one)
