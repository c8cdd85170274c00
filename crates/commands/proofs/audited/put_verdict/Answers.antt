use Rattle.std.proofs.Common.{◌≡◌, length, refl, rules, subst}
use Rattle.std.specs.Prelude.{None}
use Rattle.desk_io.specs.declared.desk.Output.TheVariants as output
use Rattle.pending_text.proofs.OutFacts.{puts-one}
use Rattle.reports.specs.Texts.{audit_text}
use Rattle.audit.specs.declared.verdict.Verdict.{Verdict}
use Rattle.jobs.specs.Inputs.{Auditing}
use Rattle.jobs.specs.Kinds.{audit_rows}
use Rattle.commands.specs.Outputs.{IsAudited}
use Rattle.commands.specs.declared.status.Status.TheVariants as status
use Rattle.commands.proofs.WorkFacts.{does-cut, does-done, does-nothing, line-out}
use Rattle.commands.specs.Texts.{audit_texts}
use Rattle.commands.proofs.audited.put_verdict.Goals as goal

pub returns-in-Ok : goal.returns-in-Ok
returns-in-Ok g c =
    let job = audit_rows c.args.job.now in
    let s = c.args.settings.now in
    let passes = subst (λ (v : Verdict). IsAudited s job v) c.in-Ok-Yes.field-0-is c.in-Ok-Yes.ensures in
    let many : c.len-vehicles.result ≡ length c.args.job.now.trips.items = search rules in
    does-done s job Auditing c.requires.kind (audit_texts job) _ _ (record { passes = passes; texts_are = refl })
    (puts-one output.Report (audit_text job.net (length job.trips) None) _ _ _ (rw many at c.in-Ok.ensures))

pub returns-in-Err-put_audit : goal.returns-in-Err-put_audit
returns-in-Err-put_audit g c =
    let job = audit_rows c.args.job.now in
    let s = c.args.settings.now in
    let passes = subst (λ (v : Verdict). IsAudited s job v) c.in-Ok-Yes.field-0-is c.in-Ok-Yes.ensures in
    let many : c.len-vehicles.result ≡ length c.args.job.now.trips.items = search rules in
    does-cut s job Auditing c.requires.kind (audit_texts job) _ _ (record { passes = passes; texts_are = refl })
    (puts-one output.Report (audit_text job.net (length job.trips) None) _ _ _ (rw many at c.in-Err-put_audit.ensures))

pub returns-in-Ok-No : goal.returns-in-Ok-No
returns-in-Ok-No g c =
    let o = c.put_audit-in-Ok-No.ensures in
    let s = c.args.settings.now in
    let n = c.in-Ok-No in
    record {
      work = tt;
      failed = λ (k : status.Differs ≡ status.WriteFault). absurd cc;
      differs = λ _. record {
        is = c.requires.kind;
        place = record { table = n.table; line = n.line; column = n.column };
        fails = subst (λ (v : Verdict). IsAudited s (audit_rows c.args.job.now) v) n.field-0-is n.ensures;
        report = line-out c.put_audit-in-Ok-No.result c.args.job.now.net c.len-vehicles.result
            (record { table = n.table; line = n.line; column = n.column }) (g.D.Desk.state c.args.desk.now) (g.D.Desk.state c.put_audit-in-Ok-No.new.desk) o;
      };
      later = o.cause.later;
      left = o.left;
      reads = o.reads;
    }

pub returns-in-Err : goal.returns-in-Err
returns-in-Err g c = does-nothing c.args.settings.now (audit_rows c.args.job.now) (g.D.Desk.state c.args.desk.now) c.requires.job.start
