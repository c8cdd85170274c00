use Rattle.std.proofs.lemmas.Bool.{and_parts}
use Rattle.worked_cases.specs.CheckedNet.{is_net}
use Rattle.worked_cases.specs.Written.{plan_written}
use Rattle.worked_cases.proofs.case.Case.of.Goals as goal

pub network-requires : goal.network-requires
network-requires c = (and_parts (is_net (plan_written c.args.written.now).net) _ c.requires).0
