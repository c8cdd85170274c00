use Rattle.std.proofs.Common.{[]}
use Rattle.desk_io.specs.declared.desk.Output.TheVariants as output
use Rattle.pending_text.proofs.LineFacts.{AreAdded}
use Rattle.skims.specs.Texts.{entry_line, skim_header}
use Rattle.skims.proofs.texts.put_entries.Given as goal

abbrev pub invariant-each : goal.invariant-each
invariant-each g l = AreAdded output.Skim entry_line skim_header l.entries l.entry-index [] l.pending (g.D.Desk.state l.fn.desk) (g.D.Desk.state l.desk)
