use Rattle.std.proofs.Common.{rules, arith}
use Rattle.std.proofs.lemmas.Grind.{common_steps}
use Rattle.std.proofs.Math.Seq.{take-add}
use Rattle.desk_io.proofs.DeskFacts.{desk_facts}
use Rattle.desk_io.proofs.transfers.put_all.Goals as goal

pub loop-at-preserved : goal.loop-at-preserved
loop-at-preserved g c = record {
  within = grind (arith, common_steps);
  written = rw (take-add c.loop-at.at c.in_ok-at.field-0 c.args.bytes.now) (grind (arith, common_steps, desk_facts));
  left = search rules;
  later = grind (arith, common_steps);
  reads = search rules;
}
