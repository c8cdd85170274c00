use Rattle.std.proofs.Common.{arith, rules, take, ◌++◌}
use Rattle.std.proofs.lemmas.Grind.{common_steps}
use Rattle.desk_io.proofs.DeskFacts.{desk_facts}
use Rattle.desk_io.proofs.transfers.read_table.Goals as goal

pub returns-then-count-limit : goal.returns-then-count-limit
returns-then-count-limit g c = record {
  whole = search rules;
  short = search rules;
  begun = record {
    bytes = c.loop-bytes.bytes.items ++ take c.in_ok-count.count c.read.new.buf;
    read = grind (arith, common_steps, desk_facts);
  };
  long = λ _. record {
    bytes = c.loop-bytes.bytes.items ++ take c.in_ok-count.count c.read.new.buf;
    more = grind (arith, common_steps);
    read = grind (arith, common_steps, desk_facts);
  };
  failed = search rules;
  later = grind (arith, common_steps);
  taken = search rules;
  puts = search rules;
}

pub loop-bytes-preserved : goal.loop-bytes-preserved
loop-bytes-preserved g c = record {
  within = search rules;
  left = grind (arith, common_steps, desk_facts);
  taken = search rules;
  later = grind (arith, common_steps);
  puts = search rules;
}
