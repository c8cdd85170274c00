use Rattle.std.proofs.Common.{arith}
use Rattle.final_state.proofs.OneMore.{none_more, set_one_more}
use Rattle.final_state.proofs.state.count_on.Goals as goal

pub returns-then-link-lt4 : goal.returns-then-link-lt4
returns-then-link-lt4 c = set_one_more c.args.first.now c.args.link.0 (omega arith)

pub returns-else-link-lt4 : goal.returns-else-link-lt4
returns-else-link-lt4 c = none_more c.args.first.now c.args.link.0 (omega arith)
