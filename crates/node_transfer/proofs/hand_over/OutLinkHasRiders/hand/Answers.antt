use Rattle.std.proofs.Common.{◌∙◌, sym, subst, ap, length}
use Rattle.std.specs.Prelude.{All}
use Rattle.node_transfer.specs.Hand.{Within, handed}
use Rattle.node_transfer.proofs.OfHandOver.Hands.{all_split, handed-append}
use Rattle.node_transfer.proofs.hand_over.OutLinkHasRiders.hand.Goals as goal

pub hand_line-requires-2 : goal.hand_line-requires-2
hand_line-requires-2 c = subst (λ k. All (Within k) c.args.self.now.waiting.later) (sym c.hand_line.ensures.same) ((all_split (Within (length c.args.loaded.now)) c.args.self.now.waiting.due c.args.self.now.waiting.later c.requires).1)

pub returns-clause-done : goal.returns-clause-done
returns-clause-done c = c.hand_line-2.ensures.done ∙ ap (λ l. handed c.args.self.now.waiting.later l) c.hand_line.ensures.done ∙ sym (handed-append c.args.self.now.waiting.due c.args.self.now.waiting.later c.args.loaded.now)
