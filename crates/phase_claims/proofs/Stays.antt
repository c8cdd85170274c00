-- Halves of a step that change nothing.
use Rattle.std.proofs.Common.{◌≡◌, ℕ, sym, ◌∙◌, subst}
use Rattle.std.proofs.lemmas.Bool.{eqb-true}
use Rattle.net_core.specs.declared.rows.NodeNo.{NodeNo}
use Rattle.dta_model.specs.Plans.{link_at}
use Rattle.dta_model.specs.declared.plan.Plan.{Plan}
use Rattle.cell_stages.specs.CellState.{CellState}
use Rattle.cell_stages.specs.Contents.{IsStep, away}
use Rattle.cell_stages.proofs.MailTells.{none-sent}
use Rattle.node_transfer.specs.Halves.{half_before}
use Rattle.node_transfer.specs.Rest.{IsQuiet, NobodyComes}
use Rattle.node_transfer.specs.declared.half.Half.{Half}
use Rattle.node_transfer.proofs.OfMail.Parts.{ins-among, ins-member, outs-among, outs-member}
use Rattle.node_transfer.proofs.OfRest.Idle.{quiet_nodes_stay_idle}
use Rattle.phase_claims.specs.Noted.{Rests}
use Rattle.phase_claims.specs.Told.{KeepsRooms}

-- a transfer, where nobody is ready
pub transfer_rests : (p : Plan) (half : Half) (node : NodeNo) (t : ℕ) (s : CellState) → half ≡ Half.Transfer → IsStep p node.0 t
    → s ≡ half_before half p node.0 t away → IsQuiet t s → Rests p (record { half = half; node = node; step = t })
transfer_rests p Half.Gather node t s now step is quiet = cc
transfer_rests p Half.Transfer node t s now step is quiet =
    let n : ℕ = node.0 in
    let idle = (quiet_nodes_stay_idle p n t step).quiet (subst (λ (c : CellState). IsQuiet t c) is quiet) in
    record {
      stays = record {
        cell = idle.after;
        mail = λ l is_in. (let below = outs-among p n l is_in in
            none-sent p t l (idle.batches l below (eqb-true (link_at p l).from.0 n (sym (outs-member p n l below) ∙ is_in))));
      };
      idle = λ _. idle;
    }

-- a gather, where nobody comes and the rooms stay
pub gather_rests : (p : Plan) (half : Half) (node : NodeNo) (t : ℕ) → half ≡ Half.Gather → IsStep p node.0 t → KeepsRooms p node.0 t → NobodyComes p node.0 t
    → Rests p (record { half = half; node = node; step = t })
gather_rests p Half.Transfer node t now step keeps nobody = cc
gather_rests p Half.Gather node t now step keeps nobody =
    let n : ℕ = node.0 in
    record {
      stays = record {
        cell = (quiet_nodes_stay_idle p n t step).gather nobody;
        mail = λ l is_in. (let below = ins-among p n l is_in in
            let to = eqb-true (link_at p l).to.0 n (sym (ins-member p n l below) ∙ is_in) in
            keeps nobody l below to ∙ sym (none-sent p t l (nobody l below to)));
      };
      idle = λ now. cc;
    }
