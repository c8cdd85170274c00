-- How many receipts a gate took of a run.
use Rattle.std.proofs.Common.{◌≡◌, ◌≢◌, ℕ, ◌≤◌, Bool, true, false, List, refl, sym, ap, subst, ◌∙◌, arith, inl, inr}
use Rattle.std.specs.Prelude.{IfSome, Option, Some, not}
use Rattle.desk_io.specs.declared.desk.Table.{Table}
use Rattle.desk_io.specs.Desk.{Taken}
use Rattle.dta_words.specs.Grammar.{settings_of}
use Rattle.dta_words.specs.declared.command.Settings.{Settings}
use Rattle.loader.specs.Gates.{GateState}
use Rattle.reports.specs.declared.refusal.Refusal.{Refusal}
use Rattle.reports.specs.declared.refusal.Refusal.TheVariants as refusal
use Rattle.dta_run.specs.Headline.{Headline}
use Rattle.jobs.specs.Inputs.{Assigning, Auditing, FreeFlow, Kind, Skimming, Sweeping, kind_of}
use Rattle.jobs.specs.Jobs.{IsJobOf, JobRows, traffic_of}
use Rattle.jobs.specs.Reading.{Reading, reads_at}
use Rattle.jobs.specs.Kinds.{IsFor}
use Rattle.jobs.specs.declared.assign_job.AssignJob.{AssignJob}
use Rattle.jobs.specs.declared.job.Job.{Job}
use Rattle.jobs.specs.declared.job.Job.TheVariants as job-kind
use Rattle.jobs.specs.Verdict.{Accepted, AreToldBy, Refused, Verdict, verdict}
use Rattle.desk_io.specs.State.{DeskState}
use Rattle.commands.specs.Works.{Works}
use Rattle.assign_command.proofs.ReceiptFacts.{none-given}
use Rattle.assign_command.specs.Receipts.{TookAtMost, WorkGives, by_workers, numbers_in, receipts_by, receipts_in, taking_all}
use Rattle.dta_run.specs.Outcome.{Means}
use Rattle.dta_run.specs.Receipts.{JobGives, RunGives, ToldGives, takes_by, takes_workers}
use Rattle.commands.specs.Status.{refusal_status}
use Rattle.commands.specs.declared.status.Status.{Status}
use Rattle.commands.specs.declared.status.Status.TheVariants as status
use Rattle.jobs.proofs.VerdictFacts.{verdict-job}
use Rattle.dta_run.proofs.AnswerFacts.{told}

-- at most none is none
none-taken : (s : Settings) (job : JobRows) (gate now : GateState) → kind_of s.command ≡ Auditing
    → TookAtMost (receipts_in s.command s) (numbers_in s (traffic_of job)) gate now → now ≡ gate
none-taken s job gate now is took =
    let few : took.0 ≤ 0 = subst (λ (k : Kind). took.0 ≤ receipts_by k s) is took.1 in
    let none : took.0 ≡ 0 = omega (arith, few) in
    took.2 ∙ ap (λ (n : ℕ). taking_all n (numbers_in s (traffic_of job)) gate) none

-- the receipts of the work are those of the run
pub work-gives : (words : List (List ℕ)) (s : Settings) (job : JobRows) (answer : Status) (from rest : DeskState) (before after : Taken)
    (gate now : GateState) → settings_of words ≡ Some s → Reading s.command (IsJobOf s job) (reads_at from) (reads_at rest) → Works s job answer before after
    → (answer ≡ status.Differs → kind_of s.command ≡ Auditing) → WorkGives s job answer gate now → RunGives words answer from rest gate now
work-gives words s job status.Done from rest before after gate now told accepted works audits gives =
    record { settings = s; told = told; job = job; accepted = accepted; holds = gives }
work-gives words s job status.WriteFault from rest before after gate now told accepted works audits gives =
    record { settings = s; told = told; job = job; accepted = accepted; holds = gives }
work-gives words s job status.Memory from rest before after gate now told accepted works audits gives =
    inr (record { settings = s; told = told; job = job; accepted = accepted; holds = gives })
work-gives words s job status.Differs from rest before after gate now told accepted works audits gives =
    none-taken s job gate now (audits refl) gives
work-gives words s job answer from rest before after gate now told accepted works audits gives = absurd works

-- a refused run gives none
pub refused-gives : (words : List (List ℕ)) (r : Refusal) (from rest : DeskState) (gate : GateState)
    → RunGives words (refusal_status r) from rest gate gate
refused-gives words refusal.Usage from rest gate = refl
refused-gives words r from rest gate = refl

-- ---- where the bytes of the tables are told

-- no receipt is what any verdict allows but where all is done
none-told : (v : Verdict) (answer : Status) (gate now : GateState) → answer ≢ status.Done → now ≡ gate → ToldGives v answer gate now
none-told (Refused r) answer gate now other same = same
none-told (Accepted s job) status.Done gate now other same = absurd (other refl)
none-told (Accepted s job) answer gate now other same = (0, omega arith, same)

-- the verdict is on the job whose work gave the receipts
worked-told : (words : List (List ℕ)) (texts : Table → List ℕ) (answer : Status) (from rest : DeskState) (gate now : GateState)
    → JobGives words answer from rest gate now → AreToldBy (settings_of words) from.left texts
    → ToldGives (verdict words texts) answer gate now
worked-told words texts answer from rest gate now h told =
    subst (λ (v : Verdict). ToldGives v answer gate now)
    (sym (verdict-job words h.settings texts (reads_at from) (reads_at rest) h.told told h.job h.accepted)) h.holds

pub told_gives : (words : List (List ℕ)) (texts : Table → List ℕ) (answer : Status) (from rest : DeskState) (gate now : GateState)
    → RunGives words answer from rest gate now → AreToldBy (settings_of words) from.left texts
    → ToldGives (verdict words texts) answer gate now
told_gives words texts status.Done from rest gate now h told = worked-told words texts status.Done from rest gate now h told
told_gives words texts status.WriteFault from rest gate now h told = worked-told words texts status.WriteFault from rest gate now h told
told_gives words texts status.Memory from rest gate now (inl h) told = none-told (verdict words texts) status.Memory gate now (λ e. absurd cc) h
told_gives words texts status.Memory from rest gate now (inr h) told = worked-told words texts status.Memory from rest gate now h told
told_gives words texts answer from rest gate now h told = none-told (verdict words texts) answer gate now (λ e. absurd cc) h

pub ruleset answers = (told, told_gives)

-- ---- a run that takes no workers

plain-none : (plain : Bool) (n : ℕ) → not plain ≡ false → by_workers plain n ≡ 0
plain-none true n alone = refl
plain-none false n alone = absurd cc

none-by : (k : Kind) (s : Settings) → takes_by k s.plain ≡ false → receipts_by k s ≡ 0
none-by FreeFlow s alone = refl
none-by Assigning s alone = plain-none s.plain s.iterations alone
none-by Skimming s alone = refl
none-by Sweeping s alone = refl
none-by Auditing s alone = refl

-- the settings of some words take no workers, where those of the words do not
still-alone : (words : List (List ℕ)) (s own : Settings) → settings_of words ≡ Some s → takes_workers s ≡ false → settings_of words ≡ Some own
    → takes_workers own ≡ false
still-alone words s own told alone is =
    subst (λ (o : Option Settings). IfSome o (λ z. takes_workers z ≡ false)) (sym told ∙ is) alone

worked-alone : (words : List (List ℕ)) (s : Settings) (answer : Status) (from rest : DeskState) (quiet still gate : GateState)
    → settings_of words ≡ Some s → takes_workers s ≡ false → JobGives words answer from rest quiet still → JobGives words answer from rest gate gate
worked-alone words s answer from rest quiet still gate told alone h = record {
  settings = h.settings;
  told = h.told;
  job = h.job;
  accepted = h.accepted;
  holds = none-given h.settings h.job answer gate (none-by (kind_of h.settings.command) h.settings (still-alone words s h.settings told alone h.told));
}

-- it gives none to any gate
gives-none : (words : List (List ℕ)) (s : Settings) (answer : Status) (from rest : DeskState) (quiet still gate : GateState)
    → settings_of words ≡ Some s → takes_workers s ≡ false → RunGives words answer from rest quiet still → RunGives words answer from rest gate gate
gives-none words s status.Done from rest quiet still gate told alone h = worked-alone words s status.Done from rest quiet still gate told alone h
gives-none words s status.WriteFault from rest quiet still gate told alone h = worked-alone words s status.WriteFault from rest quiet still gate told alone h
gives-none words s status.Memory from rest quiet still gate told alone (inl h) = inl refl
gives-none words s status.Memory from rest quiet still gate told alone (inr h) = inr (worked-alone words s status.Memory from rest quiet still gate told alone h)
gives-none words s answer from rest quiet still gate told alone h = refl

pub alone-headline : (words : List (List ℕ)) (s : Settings) (answer : Status) (before after : DeskState) (quiet still gate : GateState)
    → settings_of words ≡ Some s → takes_workers s ≡ false → Means words answer before after → RunGives words answer before after quiet still
    → before.read_faults ≤ after.read_faults → before.put_faults ≤ after.put_faults → Headline words answer before after gate gate
alone-headline words s answer before after quiet still gate is alone means given reads puts =
    let gives = gives-none words s answer before after quiet still gate is alone given in
    record {
      means = means;
      told = λ texts t. told words texts answer before after means t;
      receipts = gives;
      told_receipts = λ texts t. told_gives words texts answer before after gate gate gives t;
      reads = reads;
      puts = puts;
    }

-- only the work of an assignment takes workers
pub assigns_alone : (s : Settings) (job : Job) → IsFor s.command job → takes_workers s ≡ true → (own : AssignJob) × (job ≡ job-kind.Assign own)
assigns_alone s (job-kind.Assign own) is takes = (own, refl)
assigns_alone s (job-kind.Freeflow net) is takes = let no-workers = subst (λ (k : Kind). takes_by k s.plain ≡ true) is takes in absurd cc
assigns_alone s (job-kind.Skim own) is takes = let no-workers = subst (λ (k : Kind). takes_by k s.plain ≡ true) is takes in absurd cc
assigns_alone s (job-kind.Sweep own) is takes = let no-workers = subst (λ (k : Kind). takes_by k s.plain ≡ true) is takes in absurd cc
assigns_alone s (job-kind.Audit own) is takes = let no-workers = subst (λ (k : Kind). takes_by k s.plain ≡ true) is takes in absurd cc

pub ruleset assigning = (assigns_alone)

-- memory was wanting for the words: nothing was done
pub starved : (words : List (List ℕ)) (desk : DeskState) (gate : GateState) → Headline words status.Memory desk desk gate gate
starved words desk gate = record {
  means = inl (refl, refl);
  told = λ texts t. told words texts status.Memory desk desk (inl (refl, refl)) t;
  receipts = inl refl;
  told_receipts = λ texts t. told_gives words texts status.Memory desk desk gate gate (inl refl) t;
  reads = omega arith;
  puts = omega arith;
}
