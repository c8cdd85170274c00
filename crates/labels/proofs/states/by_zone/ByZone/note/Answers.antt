use Rattle.std.proofs.Common.{◌++◌, ◌∷◌, [], length, arith, subst, sym}
use Rattle.net_core.specs.AreListed.{AreListed}
use Rattle.labels.proofs.OfStates.ByZoneFacts.{listed_in, listed_out}
use Rattle.labels.proofs.states.by_zone.ByZone.note.Goals as goal

pub returns-then-zone-eq-NO_ZONE : goal.returns-then-zone-eq-NO_ZONE
returns-then-zone-eq-NO_ZONE c number items is g =
    listed_out c.args.self.now (length c.args.self.now) number items c.args.link c.args.zone is (omega (arith, c.requires.short, c.if-zone-eq-NO_ZONE.true)) g

pub returns-in_ok-push : goal.returns-in_ok-push
returns-in_ok-push c number items is g =
    subst (λ l. AreListed l (length c.args.self.now) number (items ++ c.args.link ∷ [])) (sym c.in_ok-push.ensures)
    (listed_in c.args.self.now (length c.args.self.now) number items c.args.link c.args.zone is (c.requires.zone c.if-zone-eq-NO_ZONE.false) g)
