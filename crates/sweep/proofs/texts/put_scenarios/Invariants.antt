use Rattle.desk_io.specs.declared.desk.Output.TheVariants as output
use Rattle.sweep.proofs.TextFacts.{HasPut, first_texts}
use Rattle.sweep.proofs.texts.put_scenarios.Given as goal

abbrev pub invariant-each : goal.invariant-each
invariant-each g l =
    HasPut output.Sweep (first_texts l.place l.scenarios) (g.D.Desk.state l.fn.desk) (g.D.Desk.state l.desk)
