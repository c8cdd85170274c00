-- Where the phase of a unit ends, by what the unit does.
use Rattle.std.proofs.Common.{◌≡◌, ℕ, ◌+◌, ◌*◌, ◌^◌, ◌<◌, ◌≤◌, sym, ap, ◌∙◌, mul-le-mul_right, arith}
use Rattle.net_core.specs.declared.rows.NodeNo.{NodeNo}
use Rattle.dta_model.specs.Units.{Gather, Posting, Task, Transfer, phase_begins, phase_end, phase_ends, phase_start, step_of, step_units, task_of}
use Rattle.dta_model.specs.declared.loading.TheConstants.{MOST_HORIZON}
use Rattle.claim_core.specs.Kinds.{kind_by}
use Rattle.claim_core.specs.Phases.{phase_kind, phase_of}
use Rattle.claim_core.specs.declared.phase.PhaseKind.{PhaseKind}
use Rattle.claim_core.specs.declared.phase.PhaseKind.TheVariants as does
use Rattle.claim_core.specs.declared.units.UnitKind.TheVariants as kind
use Rattle.claim_core.proofs.Phases.{made, start_le}
use Rattle.claim_core.proofs.Working.{gather_kind, posting_kind, transfer_kind}

module _ (n u : ℕ) where
  begin_is : (task : Task) → task_of n u ≡ task → phase_start n u ≡ step_of n u * step_units n + phase_begins n task
  unfolding phase_start
  begin_is task e = ap (λ x. step_of n u * step_units n + phase_begins n x) e

  end_is : (task : Task) → task_of n u ≡ task → phase_end n u ≡ step_of n u * step_units n + phase_ends n task
  unfolding phase_end
  end_is task e = ap (λ x. step_of n u * step_units n + phase_ends n x) e

  -- a phase begins below the number of a word's half
  pub small_first : (h : ℕ) → h ≤ MOST_HORIZON → n < 2 ^ 32 → u < h * step_units n → phase_start n u < 2 ^ 63
  small_first h most few under =
      let w : ℕ = step_units n in
      let all : h * w ≤ 86400 * w = mul-le-mul_right w most in
      let bound : h * w ≤ 86400 * (n + n + 1) = all in
      omega (arith, bound, few, under, start_le n u)

  of_end : (end : ℕ) (what : PhaseKind) → end ≡ phase_end n u → what ≡ phase_kind (task_of n u) → made (phase_start n u) end (step_of n u) what ≡ phase_of n u
  of_end end what e w = ap (λ x. made (phase_start n u) x (step_of n u) what) e ∙ ap (made (phase_start n u) (phase_end n u) (step_of n u)) w

  pub of_transfers : (node : NodeNo) → kind_by (task_of n u) ≡ kind.Transfer node → made (phase_start n u) (phase_start n u + n) (step_of n u) does.Transfers ≡ phase_of n u
  of_transfers node e = let is = transfer_kind (task_of n u) node e in of_end _ _ (omega (arith, begin_is (Transfer node.0) is, end_is (Transfer node.0) is)) (sym (ap phase_kind is))

  pub of_gathers : (node : NodeNo) → kind_by (task_of n u) ≡ kind.Gather node → made (phase_start n u) (phase_start n u + n) (step_of n u) does.Gathers ≡ phase_of n u
  of_gathers node e = let is = gather_kind (task_of n u) node e in of_end _ _ (omega (arith, begin_is (Gather node.0) is, end_is (Gather node.0) is)) (sym (ap phase_kind is))

  pub of_posting : kind_by (task_of n u) ≡ kind.Posting → made (phase_start n u) (phase_start n u + 1) (step_of n u) does.Posting ≡ phase_of n u
  of_posting e = let is = posting_kind (task_of n u) e in of_end _ _ (omega (arith, begin_is Posting is, end_is Posting is)) (sym (ap phase_kind is))
