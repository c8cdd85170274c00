use Rattle.std.proofs.Common.{◌≡◌, Option, Vec, List, ◌∙◌, false, subst, sym, true}
use Rattle.std.specs.Prelude.{option_map}
use Rattle.std.specs.declared.alloc.Global.{Global}
use Rattle.dta_model.specs.Plans.{link_numbers}
use Rattle.dta_model.specs.Walks.{IsWalk}
use Rattle.net_core.specs.declared.rows.LinkNo.{LinkNo}
use Rattle.start_table.specs.Names.{TellsNames}
use Rattle.start_table.specs.Starts.{IsNamedWalk}
use Rattle.start_table.proofs.Named.{names_no_walk, names_none, names_walk}
use Rattle.start_table.proofs.walks.LinkIndex.walk_named.Goals as goal

abbrev items_of : Option (Vec LinkNo Global) → Option (List LinkNo)
items_of o = option_map (λ (l : Vec LinkNo Global). l.items) o

pub returns-in-None : goal.returns-in-None
returns-in-None c walk named =
    names_none c.self.inside.net.now c.args.origin c.args.destination c.args.ids.now c.self.inside.ids walk c.self.invariant.is
    (subst (λ o. TellsNames c.self.inside.ids c.args.ids.now (items_of o)) c.in-None.is c.in_ok-links.ensures.names)
    (subst (λ n. IsNamedWalk n c.args.origin c.args.destination c.args.ids.now walk) (sym c.self.view_is) named)

pub returns-then-is_walk : goal.returns-then-is_walk
returns-then-is_walk c =
    let net = c.self.inside.net.now in
    let ids = c.args.ids.now in
    let index = c.self.inside.ids in
    subst (λ n. IsNamedWalk n c.args.origin c.args.destination ids c.of.result) c.self.view_is
    (subst (λ w. IsNamedWalk net c.args.origin c.args.destination ids w) (sym c.of.ensures)
    (names_walk net c.args.origin c.args.destination ids index c.in-Some.links.items c.self.invariant.is
    (subst (λ o. TellsNames index ids (items_of o)) c.in-Some.is c.in_ok-links.ensures.names)
    (subst (λ l. IsWalk net c.args.origin c.args.destination (link_numbers l)) c.deref.ensures.value (c.is_walk.ensures.0 c.if-is_walk.true))))

pub returns-else-is_walk : goal.returns-else-is_walk
returns-else-is_walk c walk named =
    let net = c.self.inside.net.now in
    let ids = c.args.ids.now in
    let index = c.self.inside.ids in
    names_no_walk net c.args.origin c.args.destination ids index c.in-Some.links.items walk c.self.invariant.is
    (subst (λ o. TellsNames index ids (items_of o)) c.in-Some.is c.in_ok-links.ensures.names)
    (λ walks. (let both : true ≡ false = sym (c.is_walk.ensures.1 (subst (λ l. IsWalk net c.args.origin c.args.destination (link_numbers l)) (sym c.deref.ensures.value) walks)) ∙ c.if-is_walk.false in cc))
    (subst (λ n. IsNamedWalk n c.args.origin c.args.destination ids walk) (sym c.self.view_is) named)
