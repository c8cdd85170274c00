-- The work of an assignment, from what its iterations say.
use Rattle.std.proofs.Common.{◌≡◌, List, ◌++◌, refl, sym, ap, subst, inl, inr, ◌∙◌}
use Rattle.desk_io.specs.Desk.{Taken}
use Rattle.pending_text.proofs.OutFacts.{cut-later, grown-append}
use Rattle.pending_text.specs.Outs.{IsCutOff, OutText, grown_by}
use Rattle.dta_words.specs.declared.command.Command.{Command}
use Rattle.dta_words.specs.declared.command.Settings.{Settings}
use Rattle.assignment.specs.Assignment.{Traffic}
use Rattle.assignment.proofs.AssignmentFacts.{all-of}
use Rattle.jobs.specs.Inputs.{Assigns}
use Rattle.jobs.specs.Jobs.{JobRows, traffic_of}
use Rattle.commands.specs.Works.{AreTexts, AreTextsSoFar, AreWatchedSoFar, CommandWork, Works, assignment_work, work_by, work_of}
use Rattle.commands.specs.Outputs.{AreAssigned, AreWatched}
use Rattle.assign_command.specs.Progress.{Halts, IsAssigned}
use Rattle.assign_command.specs.declared.halt.Halt.{Halt}
use Rattle.assign_command.specs.declared.halt.Halt.TheVariants as halt
use Rattle.commands.specs.declared.iterated.Iterated.{Iterated}
use Rattle.commands.specs.Texts.{last_texts}
use Rattle.commands.specs.declared.status.Status.TheVariants as status

-- the work of a command that assigns
assigned-work : (c : Command) → Assigns c → work_of c ≡ assignment_work
assigned-work c assigns = ap work_by assigns

module _ (c : Command) (s : Settings) (job : JobRows) (texts : List OutText) (loads : Assigns c) where
  is-work : assignment_work ≡ work_of c
  is-work = sym (assigned-work c loads)

  texts-are : AreAssigned s (traffic_of job) texts → AreTexts c s job texts
  texts-are a = subst (λ (w : CommandWork). w.texts s job texts) is-work a

  so-far-assigned : AreAssigned s (traffic_of job) texts → AreTextsSoFar c s job texts
  so-far-assigned a = subst (λ (w : CommandWork). w.so_far s job texts) is-work (inl a)

  so-far-watched : AreWatched s (traffic_of job) texts → AreTextsSoFar c s job texts
  so-far-watched w = subst (λ (w : CommandWork). w.so_far s job texts) is-work (inr w)

  watched-so-far : AreWatched s (traffic_of job) texts → AreWatchedSoFar c s job texts
  watched-so-far w = subst (λ (w : CommandWork). w.watched s job texts) is-work w

-- an assignment of what a job and its settings say
module _ (s : Settings) (job : JobRows) (loads : Assigns s.command) (own : Settings) (traffic : Traffic) (same : own ≡ s)
    (over : traffic ≡ traffic_of job) where
  -- all texts of one whose iterations are done
  module _ (x : Iterated) (start now : Taken) (done : IsAssigned own traffic x start now) where
    abbrev last_by : Settings → Traffic → List OutText
    last_by z t = last_texts z.command z t x.last.routes x.since x.last.lines.items x.last.line

    abbrev last : List OutText
    last = last_by s (traffic_of job)

    last-is : last_by own traffic ≡ last
    last-is = ap (λ (z : Settings). last_by z traffic) same ∙ ap (last_by s) over

    a : IsAssigned s (traffic_of job) x start now
    a = subst (λ (t : Traffic). IsAssigned s t x start now) over (subst (λ (z : Settings). IsAssigned z traffic x start now) same done)

    assigned-texts : AreAssigned s (traffic_of job) (a.watched.0 ++ last)
    assigned-texts = record {
      all = all-of s (traffic_of job) x.last a.ended;
      since = x.since;
      since_told = a.since_told;
      watched = a.watched.0;
      watch_lines = a.watched.1;
      texts_are = refl;
    }

    pub assigned-done : (after : Taken) → after ≡ grown_by (last_by own traffic) now → Works s job status.Done start after
    assigned-done after out = (
      a.watched.0 ++ last,
      texts-are s.command s job (a.watched.0 ++ last) loads assigned-texts,
      out ∙ ap (λ (texts : List OutText). grown_by texts now) last-is ∙ ap (grown_by last) a.watched.2 ∙ sym (grown-append a.watched.0 last start),
    )

    pub assigned-cut : (after : Taken) → IsCutOff (last_by own traffic) now after → Works s job status.WriteFault start after
    assigned-cut after cut = (
      a.watched.0 ++ last,
      so-far-assigned s.command s job (a.watched.0 ++ last) loads assigned-texts,
      cut-later a.watched.0 last start after (subst (λ t. IsCutOff last t after) a.watched.2 (subst (λ (texts : List OutText). IsCutOff texts now after) last-is cut)),
    )

  -- one that ended before its last iteration was done
  abbrev halted : (why : Halt) (start now : Taken) → Halts own traffic why start now → Halts s (traffic_of job) why start now
  halted why start now h =
      subst (λ (t : Traffic). Halts s t why start now) over (subst (λ (z : Settings). Halts z traffic why start now) same h)

  pub halted-watch : (why : Halt) (start now : Taken) → why ≡ halt.Watch → Halts own traffic why start now → Works s job status.WriteFault start now
  halted-watch why start now is h =
      let k = subst (λ (w : Halt). Halts s (traffic_of job) w start now) is (halted why start now h) in
      (k.0, so-far-watched s.command s job k.0 loads k.1, k.2)

  pub halted-memory : (why : Halt) (start now : Taken) → why ≡ halt.Memory → Halts own traffic why start now → Works s job status.Memory start now
  halted-memory why start now is h =
      let k = subst (λ (w : Halt). Halts s (traffic_of job) w start now) is (halted why start now h) in
      (k.0, watched-so-far s.command s job k.0 loads k.1, k.2)

pub ruleset halts = (halted-watch, halted-memory)
