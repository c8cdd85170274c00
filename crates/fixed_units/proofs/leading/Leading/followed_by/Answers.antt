use Rattle.fixed_units.proofs.Leads.{leads-next, leads-drop}
use Rattle.fixed_units.proofs.leading.Leading.followed_by.Goals as goal

pub returns-then-self-lt-ENOUGH-clause-leading : goal.returns-then-self-lt-ENOUGH-clause-leading
returns-then-self-lt-ENOUGH-clause-leading c =
    λ n h. rw c.from.ensures (leads-next n c.args.digit c.args.self.value c.args.self.dropped c.if-self-lt-ENOUGH.true h)

pub returns-else-self-lt-ENOUGH-clause-leading : goal.returns-else-self-lt-ENOUGH-clause-leading
returns-else-self-lt-ENOUGH-clause-leading c =
    λ n h. leads-drop n c.args.digit c.args.self.value c.args.self.dropped c.requires.digit c.if-self-lt-ENOUGH.false h
