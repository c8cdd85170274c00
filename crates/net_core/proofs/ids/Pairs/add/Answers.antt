use Rattle.std.proofs.Common.{◌∙◌}
use Rattle.net_core.proofs.IdsFacts.{insert_key-new_pair}
use Rattle.net_core.proofs.ids.Pairs.add.Goals as goal

pub returns-clause-ok : goal.returns-clause-ok
returns-clause-ok c = rw (← c.self.view_is) (c.in_ok-insert.ensures.keys ∙ insert_key-new_pair c.self.inside.set.keys c.args.a c.args.b (rw c.self.view_is c.requires))
