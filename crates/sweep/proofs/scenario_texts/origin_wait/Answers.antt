use Rattle.std.proofs.Common.{◌≡◌, [], ap, rules, sym, ◌∙◌}
use Rattle.desk_io.specs.declared.desk.Output.TheVariants as output
use Rattle.reports.specs.Texts.{origin_wait_text}
use Rattle.sweep.specs.Texts.{wait_text}
use Rattle.sweep.proofs.ScenarioFacts.{text-told}
use Rattle.sweep.proofs.scenario_texts.origin_wait.Goals as goal

pub returns-in-None : goal.returns-in-None
returns-in-None c =
    let empty : c.of.result ≡ [] = search rules in
    empty ∙ ap (wait_text c.args.assignment.now.net.now) (sym c.in-None.is ∙ c.requires.assigned.last.waits_are)

pub returns-in-Some : goal.returns-in-Some
returns-in-Some c =
    let net = c.args.assignment.now.net.now in
    text-told output.OriginWait (origin_wait_text net c.in-Some.waits) _ c.empty_desk-desk.result.taken c.put_origin_waits-put.new.desk.taken c.put_origin_waits-put.result c.taken_by.result
    (ap (wait_text net) (sym c.in-Some.is ∙ c.requires.assigned.last.waits_are)) c.empty_desk-desk.ensures c.put_origin_waits-put.ensures.whole c.taken_by.ensures.put c.taken_by.ensures.taken
