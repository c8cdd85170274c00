use Rattle.std.proofs.Common.{◌≡◌, ◌∙◌, arith, refl, subst}
use Rattle.std.specs.Prelude.{Result}
use Rattle.assignment.specs.Lent.{settings_in, traffic_in}
use Rattle.commands.specs.declared.iterated.Iterated.{Iterated}
use Rattle.commands.specs.declared.status.Status.TheVariants as status
use Rattle.jobs.proofs.ChainFacts.{rose-earlier}
use Rattle.assign_command.specs.Calls.{OnlyWatches}
use Rattle.assign_command.specs.Progress.{Halts, IsAssigned}
use Rattle.assign_command.specs.declared.halt.Halt.{Halt}
use Rattle.assign_command.proofs.AssignFacts.{assigned-cut, assigned-done}
use Rattle.assign_command.proofs.assigned.put_outcome.Goals as goal

pub returns-in-Ok-put_assigned-clause-works : goal.returns-in-Ok-put_assigned-clause-works
returns-in-Ok-put_assigned-clause-works g c = λ start job over watches.
    let a = c.args.assignment.now in
    let i = subst (λ (r : Result Iterated Halt). OnlyWatches (IsAssigned (settings_in a) (traffic_in a)) (Halts (settings_in a) (traffic_in a)) start (g.D.Desk.state c.args.desk.now) r)
    c.in-Ok.is watches in
    let o = c.in-Ok-put_assigned.ensures in
    record {
      work = assigned-done (settings_in a) job c.requires.command (settings_in a) (traffic_in a) refl over c.in-Ok.iterated _ _ i.done _ o.whole;
      failed = λ (k : status.Done ≡ status.WriteFault). absurd cc;
      differs = λ (k : status.Done ≡ status.Differs). absurd cc;
      later = (let p = i.later in let q = o.cause.later in omega (arith, p, q));
      left = o.left ∙ i.left;
      reads = o.reads ∙ i.reads;
    }

pub returns-in-Ok-clause-works : goal.returns-in-Ok-clause-works
returns-in-Ok-clause-works g c = λ start job over watches.
    let a = c.args.assignment.now in
    let i = subst (λ (r : Result Iterated Halt). OnlyWatches (IsAssigned (settings_in a) (traffic_in a)) (Halts (settings_in a) (traffic_in a)) start (g.D.Desk.state c.args.desk.now) r)
    c.in-Ok.is watches in
    let o = c.in-Err.ensures in
    record {
      work = assigned-cut (settings_in a) job c.requires.command (settings_in a) (traffic_in a) refl over c.in-Ok.iterated _ _ i.done _ o.refused;
      failed = λ _. rose-earlier _ _ _ i.later o.cause.failed;
      differs = λ (k : status.WriteFault ≡ status.Differs). absurd cc;
      later = (let p = i.later in let q = o.cause.later in omega (arith, p, q));
      left = o.left ∙ i.left;
      reads = o.reads ∙ i.reads;
    }
