use Rattle.std.proofs.Common.{ap}
use Rattle.desk_io.specs.declared.desk.Output.TheVariants as output
use Rattle.reports.specs.Texts.{report_text}
use Rattle.sweep.proofs.ScenarioFacts.{text-told}
use Rattle.sweep.proofs.scenario_texts.report.Goals as goal

pub returns : goal.returns
returns c =
    text-told output.Report (report_text c.summary_of.result) _ c.empty_desk-desk.result.taken c.put_summary-put.new.desk.taken c.put_summary-put.result c.taken_by.result
    (ap report_text c.summary_of.ensures) c.empty_desk-desk.ensures c.put_summary-put.ensures.whole c.taken_by.ensures.put c.taken_by.ensures.taken
