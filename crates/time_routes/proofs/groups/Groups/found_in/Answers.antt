use Rattle.std.proofs.Common.{◌∙◌, Global, subst, Result, Vec}
use Rattle.std.specs.declared.alloc.AllocError.{AllocError}
use Rattle.std.specs.Prelude.{All, IfOk, IfSome}
use Rattle.std.proofs.lemmas.List.Elements.{All-pop}
use Rattle.time_routes.specs.Groups.{IsOfGroup}
use Rattle.time_routes.specs.declared.groups.GroupAnswers.{GroupAnswers}
use Rattle.time_routes.proofs.groups.Groups.found_in.Goals as goal

pub each-preserved : goal.each-preserved
each-preserved c =
    let g = c.args.self.now in
    let P : Result (Vec GroupAnswers Global) AllocError → Type 0 = λ taken. IfOk taken (λ taken. All (IsOfGroup g) taken.items) in
    let popped = All-pop P c.each.worked.items c.pop.new.self.items c.pop.result c.pop.ensures.items c.each.invariant.worked in record {
      many = c.put_groups.ensures.many ∙ c.each.invariant.many;
      worked = popped.0;
      found = c.put_groups.ensures.found;
    }

pub put_groups-requires-clause-taken : goal.put_groups-requires-clause-taken
put_groups-requires-clause-taken c =
    let g = c.args.self.now in
    let P : Result (Vec GroupAnswers Global) AllocError → Type 0 = λ taken. IfOk taken (λ taken. All (IsOfGroup g) taken.items) in
    let popped = All-pop P c.each.worked.items c.pop.new.self.items c.pop.result c.pop.ensures.items c.each.invariant.worked in
    let one : P c.in-Some.taken = subst (λ r. IfSome r P) c.in-Some.is popped.1 in
    subst P c.in_ok-taken.was one
