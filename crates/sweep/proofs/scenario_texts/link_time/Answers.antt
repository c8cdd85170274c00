use Rattle.std.proofs.Common.{ap, ◌∙◌}
use Rattle.desk_io.specs.declared.desk.Output.TheVariants as output
use Rattle.reports.specs.Texts.{link_time_text}
use Rattle.assignment.specs.Lent.{settings_in, traffic_in}
use Rattle.assignment.proofs.AssignmentFacts.{free-of}
use Rattle.sweep.proofs.ScenarioFacts.{text-told}
use Rattle.sweep.proofs.scenario_texts.link_time.Goals as goal

pub put_link_times-put-requires : goal.put_link_times-put-requires
put_link_times-put-requires c =
    free-of (settings_in c.args.assignment.now) (traffic_in c.args.assignment.now) c.args.assigned.now.routes c.times.result.now
    (c.times.ensures ∙ c.requires.assigned.last.times_are)

pub returns : goal.returns
returns c =
    let times = link_time_text c.args.assignment.now.net.now in
    text-told output.LinkTime (times c.times.result.now) _ c.empty_desk-desk.result.taken c.put_link_times-put.new.desk.taken c.put_link_times-put.result c.taken_by.result
    (ap times (c.times.ensures ∙ c.requires.assigned.last.times_are)) c.empty_desk-desk.ensures c.put_link_times-put.ensures.whole c.taken_by.ensures.put c.taken_by.ensures.taken
