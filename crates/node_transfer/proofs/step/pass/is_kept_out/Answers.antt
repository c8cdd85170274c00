use Rattle.std.specs.Prelude.{nat_eq, nat_lt, slice_get, slice_index_or}
use Rattle.std.proofs.Common.{◌≡◌, ℕ, zero, suc, List, [], ◌∷◌, refl, ap, sym, ◌∙◌, true, false}
use Rattle.std.proofs.lemmas.Bool.{eqb-true}
use Rattle.cell_stages.specs.declared.out_link.OutLink.{OutLink}
use Rattle.node_transfer.specs.Inside.Pass.{out_open}
use Rattle.node_transfer.proofs.OfStep.Passes.{shut-out}
use Rattle.node_transfer.proofs.step.pass.is_kept_out.Goals as goal

none-left : (n : ℕ) → nat_eq n 0 ≡ true → nat_lt 0 n ≡ false
none-left n e = rw (eqb-true n 0 e) refl

shut-at : (outs : List OutLink) (k : ℕ) (d : OutLink) → nat_lt 0 (slice_index_or outs k d).inflow.left ≡ false → out_open (slice_get outs k) ≡ false
shut-at [] k d h = refl
shut-at (o ∷ outs) zero d h = h
shut-at (o ∷ outs) (suc k) d h = shut-at outs k d h

pub returns-in-Some-next_link : goal.returns-in-Some-next_link
returns-in-Some-next_link c none =
    let outs = c.args.outs.now in
    shut-out c.args.line.now outs c.in-Some.rider.now c.in-Some-next_link.link.0 (sym c.in-Some.ensures.first) (sym c.in-Some-next_link.ensures.link)
    (ap (λ k. out_open (slice_get outs k)) (sym c.place_to.ensures)
    ∙ shut-at outs c.place_to.result c.index-outs-place_to.result (ap (λ n. nat_lt 0 n) (sym c.left.ensures) ∙ none-left c.left.result none))
