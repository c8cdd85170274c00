use Rattle.std.proofs.Common.{ap}
use Rattle.desk_io.specs.declared.desk.Output.TheVariants as output
use Rattle.reports.specs.Texts.{gap_text}
use Rattle.sweep.proofs.ScenarioFacts.{text-told}
use Rattle.sweep.proofs.scenario_texts.gap.Goals as goal

pub returns : goal.returns
returns c =
    text-told output.Gap (gap_text c.deref.result.now) _ c.empty_desk-desk.result.taken c.put_gaps-put.new.desk.taken c.put_gaps-put.result c.taken_by.result
    (ap gap_text c.deref.ensures.value) c.empty_desk-desk.ensures c.put_gaps-put.ensures.whole c.taken_by.ensures.put c.taken_by.ensures.taken
