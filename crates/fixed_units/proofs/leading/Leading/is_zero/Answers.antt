use Rattle.fixed_units.proofs.Leads.{leads-is_zero}
use Rattle.fixed_units.proofs.leading.Leading.is_zero.Goals as goal

pub returns : goal.returns
returns c = λ n h. leads-is_zero n c.args.self.value c.args.self.dropped h
