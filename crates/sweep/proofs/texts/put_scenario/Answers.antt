use Rattle.std.proofs.Common.{ℕ, List, ◌++◌, subst}
use Rattle.desk_io.specs.declared.desk.Output.TheVariants as output
use Rattle.desk_io.specs.Transfers.{Puts}
use Rattle.sweep.specs.Texts.{scenario_text, tables_of}
use Rattle.sweep.proofs.TextFacts.{put-then}
use Rattle.sweep.proofs.texts.put_scenario.Goals as goal

pub returns : goal.returns
unfolding scenario_text
returns g c =
    subst (λ (line : List ℕ). Puts output.Sweep (line ++ tables_of c.args.it.now) (g.D.Desk.state c.args.desk.now) (g.D.Desk.state c.put_tables.new.desk) c.put_tables.result)
    c.line.ensures
    (put-then output.Sweep c.line.result (tables_of c.args.it.now) (g.D.Desk.state c.args.desk.now) (g.D.Desk.state c.put_out.new.desk) (g.D.Desk.state c.put_tables.new.desk)
    c.in_ok-put_out.field-0 c.put_tables.result c.in_ok-put_out.ensures.puts c.put_tables.ensures)
