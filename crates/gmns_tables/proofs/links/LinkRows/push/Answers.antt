use Rattle.std.proofs.Common.{rules}
use Rattle.gmns_tables.proofs.WindowsFacts.{link_pushed}
use Rattle.gmns_tables.proofs.links.LinkRows.push.Goals as goal

pub invariant_of-self-2 : goal.invariant_of-self-2
invariant_of-self-2 c =
    let old = c.self.inside in
    link_pushed old.rows.items c.push.new.self.items old.windows.items c.push-2.new.self.items old.ids c.add.new.self c.args.link
    c.self.invariant (search rules) (search rules) (search rules) c.add.ensures.distinct (rw c.self.view_is c.requires.room) c.requires.next.range c.requires.next.windows
