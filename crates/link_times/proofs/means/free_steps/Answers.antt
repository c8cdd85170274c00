use Rattle.std.proofs.Common.{◌<◌, subst}
use Rattle.link_times.proofs.Links.{steps_more}
use Rattle.link_times.proofs.means.free_steps.Goals as goal

pub loop-link-preserved : goal.loop-link-preserved
loop-link-preserved c = steps_more c.args.net.now.links c.loop-link.link c.link.result c.loop-link.free.items c.push.new.self.items (subst (λ n. c.loop-link.link < n) c.link_count-count.ensures.count c.loop-link-test.true) c.loop-link.invariant c.link.ensures c.in_ok-push.ensures.items
