use Rattle.std.proofs.Common.{rules, subst, sym}
use Rattle.monitors.specs.Posted.{Known, IsLater}
use Rattle.monitors.proofs.Keeps.{posts}
use Rattle.monitors.proofs.board.Board.post.Goals as goal

pub swap_as-requires : goal.swap_as-requires
swap_as-requires g c =
    let later =
    subst (λ (k : Known). IsLater c.args.eight k.list) (sym c.pass.view_is) c.requires.later in
    let keeps = posts _ _ _ _ c.pass.invariant c.to_words.ensures later in
    (search rules, (search rules, (search rules, keeps)))
