-- The work of a command, from what its parts say.
use Rattle.std.proofs.Common.{◌≡◌, ℕ, List, [], refl, sym, ap, subst, arith, inl, inr, ◌∙◌}
use Rattle.std.specs.Prelude.{Some, Result, Ok, Err}
use Rattle.desk_io.specs.declared.desk.Output.TheVariants as output
use Rattle.desk_io.specs.Desk.{Taken, grown}
use Rattle.desk_io.specs.State.{DeskState}
use Rattle.desk_io.specs.Transfers.{IsOut, IsPartOut, Puts}
use Rattle.pending_text.specs.Outs.{OutText, PutsAll}
use Rattle.net_core.specs.declared.rows.NetRows.{NetRows}
use Rattle.reports.specs.declared.audited.Place.{Place}
use Rattle.reports.specs.Texts.{audit_text, differs_line}
use Rattle.dta_words.specs.declared.command.Settings.{Settings}
use Rattle.start_table.specs.Starts.{AreStartRows}
use Rattle.assignment.specs.Assignment.{Traffic}
use Rattle.jobs.specs.Inputs.{Assigning, Kind, kind_of}
use Rattle.jobs.specs.Jobs.{JobRows, traffic_of}
use Rattle.commands.specs.Calls.{DoesWork}
use Rattle.commands.specs.Works.{Works, work_by}
use Rattle.commands.specs.Outputs.{AreWatched}
use Rattle.commands.specs.declared.status.Status.TheVariants as status

-- the report of a difference is its line
line-told : (net : NetRows) (vehicles : ℕ) (place : Place) → audit_text net vehicles (Some place) ≡ differs_line place
unfolding audit_text
line-told net vehicles place = refl

-- and it went out, whole unless puts failed
pub line-out : {T E : Type 0} (r : Result T E) (net : NetRows) (vehicles : ℕ) (place : Place) (before after : DeskState)
    → Puts output.Report (audit_text net vehicles (Some place)) before after r
    → IsOut output.Report (differs_line place) before.taken after.taken before.put_faults after.put_faults
line-out (Ok x) net vehicles place before after p =
    inl (p.whole ∙ ap (λ (t : List ℕ). grown output.Report t before.taken) (line-told net vehicles place))
line-out (Err e) net vehicles place before after p =
    inr (subst (λ (t : List ℕ). IsPartOut output.Report t before.taken after.taken) (line-told net vehicles place) p.refused, p.cause.failed)

-- no iteration, and so no watch line
nothing-watched : (s : Settings) (traffic : Traffic) → AreStartRows traffic.start → AreWatched s traffic []
nothing-watched s traffic rows = record {
  routes = [];
  lines = [];
  iterations = record { start = rows; first = λ r e. absurd cc; next = λ i old new e f. absurd cc; gaps = λ i r line e f. absurd cc };
  few = omega arith;
  watch_lines = refl;
}

nothing-so-far : (k : Kind) (s : Settings) (job : JobRows) → AreStartRows job.start → (work_by k).watched s job []
nothing-so-far Assigning s job rows = nothing-watched s (traffic_of job) rows
nothing-so-far k s job rows = refl

-- nothing was put
nothing-put : (s : Settings) (job : JobRows) (taken : Taken) → AreStartRows job.start → Works s job status.Memory taken taken
nothing-put s job taken rows = ([], nothing-so-far (kind_of s.command) s job rows, refl)

pub does-nothing : (s : Settings) (job : JobRows) (desk : DeskState) → AreStartRows job.start → DoesWork s job desk desk status.Memory
does-nothing s job desk rows = record {
  work = nothing-put s job desk.taken rows;
  failed = λ (k : status.Memory ≡ status.WriteFault). absurd cc;
  differs = λ (k : status.Memory ≡ status.Differs). absurd cc;
  later = omega arith;
  left = refl;
  reads = refl;
}

-- a call that puts the texts of a kind of work did the work, or failed on the way
module _ {T E : Type 0} (s : Settings) (job : JobRows) (k : Kind) (is : kind_of s.command ≡ k) (texts : List OutText) (before after : DeskState) where
  pub does-done : {x : T} → (work_by k).texts s job texts → PutsAll {T = T} {E = E} texts before after (Ok x) → DoesWork s job before after status.Done
  does-done own o = record {
    work = (texts, subst (λ (x : Kind). (work_by x).texts s job texts) (sym is) own, o.whole);
    failed = λ (k : status.Done ≡ status.WriteFault). absurd cc;
    differs = λ (k : status.Done ≡ status.Differs). absurd cc;
    later = o.cause.later;
    left = o.left;
    reads = o.reads;
  }

  pub does-cut : {e : E} → (work_by k).so_far s job texts → PutsAll {T = T} {E = E} texts before after (Err e) → DoesWork s job before after status.WriteFault
  does-cut own o = record {
    work = (texts, subst (λ (x : Kind). (work_by x).so_far s job texts) (sym is) own, o.refused);
    failed = λ _. o.cause.failed;
    differs = λ (k : status.WriteFault ≡ status.Differs). absurd cc;
    later = o.cause.later;
    left = o.left;
    reads = o.reads;
  }
