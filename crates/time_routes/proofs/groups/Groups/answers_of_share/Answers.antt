use Rattle.std.proofs.Common.{subst, sym}
use Rattle.std.specs.Prelude.{All}
use Rattle.std.proofs.lemmas.List.Elements.{All-push}
use Rattle.time_routes.specs.Groups.{IsOfGroup}
use Rattle.time_routes.specs.Searches.{AreOfZones}
use Rattle.time_routes.specs.declared.groups.GroupAnswers.{GroupAnswers}
use Rattle.time_routes.proofs.groups.Groups.answers_of_share.Goals as goal

pub loop-preserved : goal.loop-preserved
loop-preserved c =
    let g = c.args.self.now in
    let answers = c.in_ok-answers.answers in
    let one : GroupAnswers = record { group = c.fetch_add-group.result; answers = answers } in
    let right : IsOfGroup g one = subst (λ here. AreOfZones g.search.now here answers.items) c.group.ensures c.in_ok-answers.ensures in
    subst (λ l. All (IsOfGroup g) l) (sym c.in_ok-push.ensures.items) (All-push (IsOfGroup g) c.loop.taken.items one c.loop.invariant right)
