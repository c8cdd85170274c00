use Rattle.std.proofs.Common.{◌∙◌, ap, length, subst, sym, Some}
use Rattle.std.specs.Prelude.{All, IfSome}
use Rattle.std.proofs.lemmas.List.{length-set}
use Rattle.std.proofs.lemmas.List.Elements.{All-pop, All-set}
use Rattle.time_routes.specs.Groups.{IsFound, IsOfGroup}
use Rattle.time_routes.proofs.groups.Groups.put_groups.Goals as goal

pub each-preserved : goal.each-preserved
each-preserved c =
    let g = c.args.self.now in
    let one = c.in-Some.of_group in
    let was = c.each.found.items in
    let popped = All-pop (IsOfGroup g) c.each.taken.items c.pop.new.self.items c.pop.result c.pop.ensures.items c.each.invariant.taken in
    let right : IsOfGroup g one = subst (λ r. IfSome r (IsOfGroup g)) c.in-Some.is popped.1 in record {
      many = ap (λ l. length l) c.put_group.ensures ∙ length-set was one.group (Some one) ∙ c.each.invariant.many;
      taken = popped.0;
      found = subst (λ l. All (IsFound g) l) (sym c.put_group.ensures) (All-set (IsFound g) was one.group (Some one) right c.each.invariant.found);
    }
