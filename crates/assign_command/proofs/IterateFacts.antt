-- The iterations of an assignment, one after another, with what goes out.
use Rattle.std.specs.Prelude.{Result, Ok, Err, IfOk, IfErr}
use Rattle.std.proofs.Common.{◌≡◌, ℕ, ◌+◌, ◌≤◌, List, [], ◌∷◌, ◌++◌, refl, sym, subst, ◌∙◌, arith, length-append, inl, inr}
use Rattle.std.proofs.lemmas.Option.{slice_get_within}
use Rattle.desk_io.specs.Desk.{Taken}
use Rattle.desk_io.specs.State.{DeskState}
use Rattle.pending_text.proofs.OutFacts.{cut-more, grown-more}
use Rattle.pending_text.specs.Outs.{IsCutOff, OutText, SomeOut}
use Rattle.dta_model.specs.declared.eight.Eight.{Eight}
use Rattle.gap.specs.declared.line.GapLine.{GapLine}
use Rattle.start_table.specs.Starts.{AreStartRows}
use Rattle.dta_words.specs.Ranges.{AreSettings}
use Rattle.dta_words.specs.declared.command.Settings.{Settings}
use Rattle.assignment.specs.Assignment.{Traffic, VehicleRoutes, end_of}
use Rattle.assignment.specs.Iterations.{AreIterations}
use Rattle.assignment.specs.Progress.{HasBegun, HasEnded, HasNext}
use Rattle.assignment.proofs.AssignmentFacts.{get-kept, ahead as next-at, assigned as ended-at, begun as first-at}
use Rattle.assign_command.specs.Calls.{OnlyWatches}
use Rattle.commands.specs.Outputs.{AreSinceTold, AreWatched}
use Rattle.commands.specs.Texts.{AreWatchLines, AreWatchTexts, end_lines}
use Rattle.assign_command.specs.Progress.{Halts, HaltsIn, IsAssigned, IsAt, IsMeasured}
use Rattle.commands.specs.Counted.{HasCounts}
use Rattle.commands.specs.declared.iterated.Iterated.{Iterated}
use Rattle.assign_command.specs.declared.halt.Halt.{Halt}
use Rattle.assign_command.specs.declared.halt.Halt.TheVariants as halt
use Rattle.jobs.proofs.ChainFacts.{rose-earlier}
use Rattle.commands.proofs.OutputFacts.{end-lines, watch-more}

-- the line of the last state was cut off
pub watch-halts : (s : Settings) (traffic : Traffic) (iteration : ℕ) (r : VehicleRoutes) (end : Eight)
    (why : Halt) (before now : Taken) → AreSettings s → end ≡ end_of s traffic r → why ≡ halt.Watch
    → IsCutOff (end_lines s.watch iteration end) before now → HaltsIn s traffic iteration r why before now
watch-halts s traffic iteration r end why before now settings is watch cut =
    rw watch (end_lines s.watch iteration end, end-lines s traffic iteration r end settings is, cut)

-- the iterations of a traffic
module _ (s : Settings) (traffic : Traffic) where
  -- the first iteration is about to be loaded
  pub begun : (r : VehicleRoutes) (lines : List GapLine) (start : Taken) → AreStartRows traffic.start → HasBegun traffic r lines → IsAt s traffic 1 r lines start start
  begun r lines start rows has = record { at = first-at s traffic r lines rows has; watched = ([], refl, refl) }

  -- the iterations before one of them
  but-last : (done : List VehicleRoutes) (r : VehicleRoutes) (lines : List GapLine) → AreIterations s traffic (done ++ r ∷ []) lines → AreIterations s traffic done lines
  but-last done r lines it = record {
    start = it.start;
    first = λ z e. it.first z (get-kept done (r ∷ []) 0 z e);
    next = λ i old new e f. it.next i old new (get-kept done (r ∷ []) i old e) (get-kept done (r ∷ []) (i + 1) new f);
    gaps = λ i z line e f. it.gaps i z line (get-kept done (r ∷ []) i z e) f;
  }

  -- the watch lines of one more iteration went out
  watched-more : (number : ℕ) (r : VehicleRoutes) (lines : List GapLine) (start before now : Taken)
      → (at : IsAt s traffic number r lines start before) → SomeOut (AreWatchLines s traffic number r) before now
      → SomeOut (AreWatchTexts s traffic 1 (at.at.done ++ r ∷ [])) start now
  watched-more number r lines start before now at put = (
    at.watched.0 ++ put.0,
    watch-more s traffic 1 number at.at.done r at.watched.0 put.0 at.at.as_many at.watched.1 put.1,
    grown-more at.watched.0 put.0 start before now at.watched.2 put.2,
  )

  -- an iteration that isn't the last is done
  pub ahead : (number : ℕ) (r next : VehicleRoutes) (lines more : List GapLine) (start before now : Taken)
      → IsAt s traffic number r lines start before
      → SomeOut (AreWatchLines s traffic number r) before now
      → HasNext s traffic number r next lines more
      → IsAt s traffic (number + 1) next more start now
  ahead number r next lines more start before now at put has = record {
    at = next-at s traffic number r next lines more at.at has;
    watched = watched-more number r lines start before now at put;
  }

  -- iterations until one of them, with watch lines
  watched-until : (number : ℕ) (r : VehicleRoutes) (lines : List GapLine) (start now : Taken) (texts : List OutText)
      → (at : IsAt s traffic number r lines start now) → number ≤ s.iterations
      → AreWatchTexts s traffic 1 (at.at.done ++ r ∷ []) texts → AreWatched s traffic texts
  watched-until number r lines start now texts at few told =
      let many = at.at.as_many in
      let long = length-append at.at.done (r ∷ []) in record {
        routes = at.at.done ++ r ∷ [];
        lines = lines;
        iterations = at.at.iterations;
        few = omega (arith, many, few, long);
        watch_lines = told;
      }

  -- memory was wanting after the watch lines
  pub halts-after : (number : ℕ) (r : VehicleRoutes) (lines : List GapLine) (start before now : Taken)
      → IsAt s traffic number r lines start before → number ≤ s.iterations
      → SomeOut (AreWatchLines s traffic number r) before now
      → Halts s traffic halt.Memory start now
  halts-after number r lines start before now at few put =
      let told = watched-more number r lines start before now at put in
      (told.0, watched-until number r lines start before told.0 at few told.1, told.2)

  -- memory was wanting in an iteration, or a watch line was cut off
  pub halts-in : (why : Halt) (number : ℕ) (r : VehicleRoutes) (lines : List GapLine) (start before now : Taken)
      → IsAt s traffic number r lines start before → number ≤ s.iterations
      → HaltsIn s traffic number r why before now
      → Halts s traffic why start now
  halts-in halt.Memory number r lines start before now at few (inl same) =
      let many = at.at.as_many in (
        at.watched.0,
        record {
          routes = at.at.done;
          lines = lines;
          iterations = but-last at.at.done r lines at.at.iterations;
          few = omega (arith, many, few);
          watch_lines = at.watched.1;
        },
        same ∙ at.watched.2,
      )
  halts-in halt.Memory number r lines start before now at few (inr put) =
      halts-after number r lines start before now at few put
  halts-in halt.Watch number r lines start before now at few cut = (
    at.watched.0 ++ cut.0,
    watched-until number r lines start before (at.watched.0 ++ cut.0) at few
        (watch-more s traffic 1 number at.at.done r at.watched.0 cut.0 at.at.as_many at.watched.1 cut.1),
    cut-more at.watched.0 cut.0 start before now at.watched.2 cut.2,
  )

  -- the last iteration is done
  pub assigned : (a : Iterated) (r : VehicleRoutes) (lines : List GapLine) (start before now : Taken)
      → IsAt s traffic s.iterations r lines start before
      → SomeOut (AreWatchLines s traffic s.iterations r) before now
      → HasEnded s traffic r lines a.last
      → AreSinceTold s.start s traffic a.since → HasCounts s traffic a.last.routes a.counts
      → IsAssigned s traffic a start now
  assigned a r lines start before now at put has since counted = record {
    ended = ended-at s traffic r lines a.last at.at has;
    watched = subst (λ (x : VehicleRoutes). SomeOut (AreWatchTexts s traffic 1 (at.at.done ++ x ∷ [])) start now) (sym has.same)
        (watched-more s.iterations r lines start before now at put);
    since_told = since;
    counted = counted;
  }

  -- memory was wanting for the first routes
  pub halts-first : (start : Taken) → AreStartRows traffic.start → Halts s traffic halt.Memory start start
  halts-first start rows = (
    [],
    record {
      routes = [];
      lines = [];
      iterations = record {
        start = rows;
        first = λ r e. let h = slice_get_within {A = VehicleRoutes} [] 0 r e in absurd (omega (arith, h));
        next = λ i old new e f. let h = slice_get_within {A = VehicleRoutes} [] i old e in absurd (omega (arith, h));
        gaps = λ i r line e f. let h = slice_get_within {A = VehicleRoutes} [] i r e in absurd (omega (arith, h));
      };
      few = omega arith;
      watch_lines = refl;
    },
    refl,
  )

  -- a loading of an iteration, once those before it are done
  module _ {T U : Type 0} {Done : U → Taken → Taken → Type 0} (number : ℕ) (r : VehicleRoutes) (lines : List GapLine)
      (few : number ≤ s.iterations) (start between after : DeskState) (at : IsAt s traffic number r lines start.taken between.taken)
      (later : start.put_faults ≤ between.put_faults) (left : between.left ≡ start.left) (reads : between.read_faults ≡ start.read_faults) where
    -- it halted
    pub load-halts : (why : Halt) → OnlyWatches {T = T} (λ _. SomeOut (AreWatchLines s traffic number r)) (HaltsIn s traffic number r) between after (Err why)
        → OnlyWatches {T = U} Done (Halts s traffic) start after (Err why)
    load-halts why w = record {
      done = tt;
      halts = halts-in why number r lines start.taken between.taken after.taken at few w.halts;
      failed = λ watch. rose-earlier start.put_faults between.put_faults after.put_faults later (w.failed watch);
      later = (let b = w.later in omega (arith, later, b));
      left = w.left ∙ left;
      reads = w.reads ∙ reads;
    }

    -- memory was wanting once it was done
    pub memory-halts : (x : T) → OnlyWatches {T = T} (λ _. SomeOut (AreWatchLines s traffic number r)) (HaltsIn s traffic number r) between after (Ok x)
        → OnlyWatches {T = U} Done (Halts s traffic) start after (Err halt.Memory)
    memory-halts x w = record {
      done = tt;
      halts = halts-after number r lines start.taken between.taken after.taken at few w.done;
      failed = λ e. absurd cc;
      later = (let b = w.later in omega (arith, later, b));
      left = w.left ∙ left;
      reads = w.reads ∙ reads;
    }

  -- the last one, and what was measured of it
  module _ {T : Type 0} (r : VehicleRoutes) (lines : List GapLine) (start between after : DeskState)
      (at : IsAt s traffic s.iterations r lines start.taken between.taken)
      (later : start.put_faults ≤ between.put_faults) (left : between.left ≡ start.left) (reads : between.read_faults ≡ start.read_faults)
      (x : T) (w : OnlyWatches {T = T} (λ _. SomeOut (AreWatchLines s traffic s.iterations r)) (HaltsIn s traffic s.iterations r) between after (Ok x)) where
    pub last-measured : (outcome : Result Iterated Halt) → IfOk outcome (IsMeasured s traffic r lines) → IfErr outcome (λ why. why ≡ halt.Memory)
        → OnlyWatches (IsAssigned s traffic) (Halts s traffic) start after outcome
    last-measured (Ok a) has memory = record {
      done = assigned a r lines start.taken between.taken after.taken at w.done has.ended has.since_told has.counted;
      halts = tt;
      failed = tt;
      later = (let b = w.later in omega (arith, later, b));
      left = w.left ∙ left;
      reads = w.reads ∙ reads;
    }
    last-measured (Err why) has memory = rw memory (memory-halts s.iterations r lines (omega arith) start between after at later left reads x w)
