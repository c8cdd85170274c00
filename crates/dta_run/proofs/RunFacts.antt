-- What a run's answer says, from what its parts say.
use Rattle.std.proofs.Common.{◌≡◌, ℕ, List, refl, sym, ap, subst, inl, inr, ◌∙◌}
use Rattle.std.specs.Prelude.{Some}
use Rattle.desk_io.specs.declared.desk.Output.TheVariants as output
use Rattle.desk_io.specs.Faults.{Rose}
use Rattle.desk_io.specs.Transfers.{IsOut}
use Rattle.reports.specs.Texts.{differs_line, refusal_line}
use Rattle.reports.specs.declared.refusal.Refusal.{Refusal}
use Rattle.reports.specs.declared.refusal.Refusal.TheVariants as refusal
use Rattle.audit.specs.declared.verdict.Verdict.TheVariants as verdict
use Rattle.dta_words.specs.Grammar.{settings_of}
use Rattle.dta_words.specs.declared.command.Settings.{Settings}
use Rattle.dta_words.specs.declared.command.Command.{Command}
use Rattle.dta_words.specs.declared.command.Command.TheVariants as command
use Rattle.jobs.specs.Jobs.{IsJobOf, JobRows}
use Rattle.jobs.specs.Causes.{IsCause}
use Rattle.jobs.specs.Reading.{ReadState, Reading, reads_at}
use Rattle.desk_io.specs.State.{DeskState}
use Rattle.pending_text.specs.Outs.{IsCutOff, grown_by}
use Rattle.commands.specs.Works.{IsDifferent, Works}
use Rattle.reference.specs.Laws.{IsAccepted}
use Rattle.reference.proofs.TextsFacts.{cut-of, loads-are-sound, own-texts-of, verdict-is, watched-of}
use Rattle.dta_run.specs.Outcome.{HasWorked, IsPut, IsRefused, Means, ReportsLine}
use Rattle.commands.specs.Status.{refusal_status}
use Rattle.commands.specs.declared.status.Status.{Status}
use Rattle.commands.specs.declared.status.Status.TheVariants as status

-- the work over an accepted job
module _ (s : Settings) (job : JobRows) (before between after : DeskState) (good : IsAccepted s job) (taken : between.taken ≡ before.taken)
    (puts : before.put_faults ≡ between.put_faults) where
  works-put : (answer : Status) → Works s job answer between.taken after.taken → (answer ≡ status.WriteFault → Rose between.put_faults after.put_faults)
      → (answer ≡ status.Differs → IsDifferent s job between after) → IsPut s job answer before after
  works-put status.Done works failed differs =
      own-texts-of s job good works.0 (λ texts. after.taken ≡ grown_by texts before.taken) works.1 (works.2 ∙ ap (grown_by works.0) taken)
  works-put status.WriteFault works failed differs = (
    cut-of s job good works.0 before.taken after.taken works.1 (subst (λ t. IsCutOff works.0 t after.taken) taken works.2),
    subst (λ f. Rose f after.put_faults) (sym puts) (failed refl),
  )
  works-put status.Memory works failed differs =
      let own = watched-of s job good works.0 works.1 in
      record { iterations = own.0; few = own.1; watched = works.0; by_rule = own.2; out = works.2 ∙ ap (grown_by works.0) taken }
  works-put status.Differs works failed differs =
      let d = differs refl in
      record {
        is = d.is;
        place = d.place;
        fails = verdict-is s job good (verdict.No d.place.table d.place.line d.place.column) d.fails;
        report = subst (λ f. IsOut output.Report (differs_line d.place) before.taken after.taken f after.put_faults) (sym puts)
            (subst (λ t. IsOut output.Report (differs_line d.place) t after.taken between.put_faults after.put_faults) taken d.report);
      }
  works-put answer works failed differs = absurd works

  pub works-means : (words : List (List ℕ)) (answer : Status) → settings_of words ≡ Some s → Reading s.command (IsJobOf s job) (reads_at before) (reads_at between) → reads_at between ≡ reads_at after
      → Works s job answer between.taken after.taken → (answer ≡ status.WriteFault → Rose between.put_faults after.put_faults)
      → (answer ≡ status.Differs → IsDifferent s job between after) → Means words answer before after
  works-means words answer told accepted reads works failed differs =
      by answer (record {
        settings = s;
        told = told;
        job = job;
        accepted = subst (λ x. Reading s.command (IsJobOf s job) (reads_at before) x) reads accepted;
        holds = record { put = works-put answer works failed differs; loadings = loads-are-sound s job good };
      }) works
    where
      by : (answer : Status) → HasWorked words answer before after → Works s job answer between.taken after.taken → Means words answer before after
      by status.Done worked works = worked
      by status.WriteFault worked works = worked
      by status.Memory worked works = inr (inr worked)
      by status.Differs worked works = worked
      by answer worked works = absurd works

-- tables that are read never refuse the words
never-usage : (s : Settings) (c : Command) (before after : ReadState) → Reading c (IsCause s refusal.Usage) before after → ⊥
never-usage s (command.Demo n) before after h = h.2
never-usage s c before after h = h

-- the line of a refusal
module _ (words : List (List ℕ)) (s : Settings) (before between after : DeskState) (told : settings_of words ≡ Some s) (taken : between.taken ≡ before.taken)
    (puts : before.put_faults ≡ between.put_faults) (reads : reads_at between ≡ reads_at after) where
  refused : (r : Refusal) → Reading s.command (IsCause s r) (reads_at before) (reads_at between) → ReportsLine r between after → IsRefused r words before after
  refused r cause line = record {
    settings = s;
    told = told;
    cause = subst (λ x. Reading s.command (IsCause s r) (reads_at before) x) reads cause;
    report = subst (λ f. IsOut output.Report (refusal_line r) before.taken after.taken f after.put_faults) (sym puts)
        (subst (λ t. IsOut output.Report (refusal_line r) t after.taken between.put_faults after.put_faults) taken line);
  }

  pub refused-means : (r : Refusal) → Reading s.command (IsCause s r) (reads_at before) (reads_at between) → ReportsLine r between after
      → Means words (refusal_status r) before after
  refused-means refusal.Usage cause line = absurd (never-usage s s.command (reads_at before) (reads_at between) cause)
  refused-means (refusal.Table f) cause line = (f, refused (refusal.Table f) cause line)
  refused-means (refusal.Read t) cause line = (t, refused (refusal.Read t) cause line)
  refused-means (refusal.LongTable t) cause line = inl (t, refused (refusal.LongTable t) cause line)
  refused-means (refusal.Cells links steps) cause line = inr (inl (links, steps, refused (refusal.Cells links steps) cause line))
  refused-means (refusal.Vehicles line-no total) cause line = inr (inr (inl (line-no, total, refused (refusal.Vehicles line-no total) cause line)))
  refused-means (refusal.SkimPairs number) cause line = inr (inr (inr (inl (number, refused (refusal.SkimPairs number) cause line))))
  refused-means (refusal.SweepCells links steps) cause line = inr (inr (inr (inr (links, steps, refused (refusal.SweepCells links steps) cause line))))
