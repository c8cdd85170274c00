-- The watch lines of iterations, and the texts after the last of them.
use Rattle.std.proofs.Common.{◌≡◌, ℕ, zero, suc, ◌+◌, ◌≤◌, Bool, true, false, List, [], ◌∷◌, ◌++◌, length, refl, ap, sym, subst, ◌∙◌, arith, rules}
use Rattle.std.specs.Prelude.{Option, nat_lt}
use Rattle.std.proofs.lemmas.List.{append_assoc, append-nil}
use Rattle.desk_io.specs.declared.desk.Output.TheVariants as output
use Rattle.desk_io.specs.Desk.{Taken, grown}
use Rattle.desk_io.specs.Transfers.{IsPartOut}
use Rattle.pending_text.specs.Outs.{IsCutOff, OutText, grown_by, text_to}
use Rattle.pending_text.proofs.OutFacts.{cut-later, cut-one, cut-sooner, grown-append}
use Rattle.dta_model.specs.declared.eight.Eight.{Eight}
use Rattle.gap.specs.declared.line.GapLine.{GapLine}
use Rattle.reports.specs.Texts.{report_text}
use Rattle.reports.specs.Watch.{AreToldSteps, AreWatchSteps, watch_text}
use Rattle.dta_words.specs.Ranges.{AreSettings}
use Rattle.dta_words.specs.declared.command.Command.{Command}
use Rattle.dta_words.specs.declared.command.Command.TheVariants as command
use Rattle.dta_words.specs.declared.command.Settings.{Settings}
use Rattle.assignment.specs.Assignment.{Traffic, VehicleRoutes, end_of, plan_of, summary_of}
use Rattle.counts.specs.Through.{through_counts}
use Rattle.counts.specs.Turns.{turn_counts}
use Rattle.commands.specs.Texts.{AreWatchLines, AreWatchTexts}
use Rattle.commands.specs.Texts.{end_lines, counts_out, last_texts, table_texts, told_of}

-- ---- watch lines

zero-and : (number last : ℕ) → 0 + number ≡ last → last ≡ number
zero-and number last e = omega (arith, e)

-- the watch lines of iterations, and of one more
pub watch-more : (s : Settings) (traffic : Traffic) (number last : ℕ) (done : List VehicleRoutes)
    (r : VehicleRoutes) (texts lines : List OutText) → length done + number ≡ last
    → AreWatchTexts s traffic number done texts → AreWatchLines s traffic last r lines
    → AreWatchTexts s traffic number (done ++ r ∷ []) (texts ++ lines)
watch-more s traffic number last [] r texts lines e told own = (
  lines,
  [],
  subst (λ (n : ℕ). AreWatchLines s traffic n r lines) (zero-and number last e) own,
  refl,
  ap (λ (t : List OutText). t ++ lines) told ∙ sym (append-nil lines),
)
watch-more s traffic number last (x ∷ done) r texts lines e told own =
    let k : length done + (number + 1) ≡ last = omega (arith, e) in (
      told.0,
      told.1 ++ lines,
      told.2,
      watch-more s traffic (number + 1) last done r told.1 lines k told.3 own,
      ap (λ (t : List OutText). t ++ lines) told.4 ∙ append_assoc told.0 told.1 lines,
    )

-- the line of the state at the horizon alone meets the rule
last-alone : (every horizon : ℕ) → 1 ≤ horizon → AreWatchSteps every horizon (horizon ∷ [])
last-alone every horizon h =
    let above : nat_lt 0 horizon ≡ true = search rules in
    record { before = []; ends = refl; rising = rw above refl; apart = refl }

-- and is what the plain loader tells
end-told : (every : ℕ) (plain : Bool) (horizon : ℕ) → 1 ≤ horizon
    → AreToldSteps (suc every) plain horizon (horizon ∷ [])
end-told every true horizon h = refl
end-told every false horizon h = last-alone (suc every) horizon h

-- the line that is put after the last step is what the rule asks of an iteration
end-by : (s : Settings) (traffic : Traffic) (iteration : ℕ) (r : VehicleRoutes) (end : Eight) (every : ℕ)
    → s.watch ≡ every → 1 ≤ s.horizon → end ≡ end_of s traffic r
    → AreWatchLines s traffic iteration r (end_lines every iteration end)
end-by s traffic iteration r end zero e h is = record {
  steps = [];
  by_rule = rw e refl;
  lines_are = refl;
}
end-by s traffic iteration r end (suc every) e h is = record {
  steps = s.horizon ∷ [];
  by_rule = rw e (end-told every s.plain s.horizon h);
  lines_are = ap (λ (x : Eight). watch_text iteration x ∷ []) is;
}

pub end-lines : (s : Settings) (traffic : Traffic) (iteration : ℕ) (r : VehicleRoutes) (end : Eight)
    → AreSettings s → end ≡ end_of s traffic r
    → AreWatchLines s traffic iteration r (end_lines s.watch iteration end)
end-lines s traffic iteration r end settings is =
    end-by s traffic iteration r end s.watch refl settings.horizon.0 is

-- the texts after the last iteration
module _ (s : Settings) (traffic : Traffic) (r : VehicleRoutes) (since : Option (List ℕ)) (lines : List GapLine) (line : GapLine) where
  -- the tables and then the report went out
  pub tables-reported : (k : Command) (before mid now : Taken) → k ≡ command.Assign
      → mid ≡ grown_by (table_texts traffic r (told_of s traffic r line) since lines) before
      → now ≡ grown output.Report (report_text (summary_of s traffic r line)) mid
      → now ≡ grown_by (last_texts k s traffic r since lines line) before
  tables-reported k before mid now e tables report =
      rw e (report ∙ ap (grown output.Report (report_text (summary_of s traffic r line))) tables
      ∙ sym (grown-append (table_texts traffic r (told_of s traffic r line) since lines) (text_to output.Report (report_text (summary_of s traffic r line)) ∷ []) before))

  -- the report was cut off after the tables
  pub report-cut : (k : Command) (before mid now : Taken) → k ≡ command.Assign
      → mid ≡ grown_by (table_texts traffic r (told_of s traffic r line) since lines) before
      → IsPartOut output.Report (report_text (summary_of s traffic r line)) mid now
      → IsCutOff (last_texts k s traffic r since lines line) before now
  report-cut k before mid now e tables part =
      rw e (cut-later (table_texts traffic r (told_of s traffic r line) since lines) (text_to output.Report (report_text (summary_of s traffic r line)) ∷ []) before now
      (rw (← tables) (cut-one output.Report (report_text (summary_of s traffic r line)) mid now part)))

  -- the tables were cut off
  pub tables-cut : (k : Command) (before now : Taken) → k ≡ command.Assign
      → IsCutOff (table_texts traffic r (told_of s traffic r line) since lines) before now
      → IsCutOff (last_texts k s traffic r since lines line) before now
  tables-cut k before now e cut =
      rw e (cut-sooner (table_texts traffic r (told_of s traffic r line) since lines) (text_to output.Report (report_text (summary_of s traffic r line)) ∷ []) before now cut)

  -- the counts and then the report went out
  module _ (k : Command) (before mid now : Taken) (asks : k ≡ command.Counts) where
    abbrev counted : List OutText
    counted = counts_out s traffic (turn_counts (plan_of s traffic r) s.bucket) (through_counts (plan_of s traffic r)) ∷ []

    pub counts-reported : mid ≡ grown_by counted before
        → now ≡ grown output.Report (report_text (summary_of s traffic r line)) mid
        → now ≡ grown_by (last_texts k s traffic r since lines line) before
    counts-reported counts report =
        rw asks (report ∙ ap (grown output.Report (report_text (summary_of s traffic r line))) counts)

    -- the report was cut off after the counts
    pub counts-report-cut : mid ≡ grown_by counted before
        → IsPartOut output.Report (report_text (summary_of s traffic r line)) mid now
        → IsCutOff (last_texts k s traffic r since lines line) before now
    counts-report-cut counts part =
        rw asks (cut-later counted (text_to output.Report (report_text (summary_of s traffic r line)) ∷ []) before now
        (rw (← counts) (cut-one output.Report (report_text (summary_of s traffic r line)) mid now part)))

  -- the counts were cut off
  pub counts-cut : (k : Command) (before now : Taken) → k ≡ command.Counts
      → IsCutOff (counts_out s traffic (turn_counts (plan_of s traffic r) s.bucket) (through_counts (plan_of s traffic r)) ∷ []) before now
      → IsCutOff (last_texts k s traffic r since lines line) before now
  counts-cut k before now e cut =
      rw e (cut-sooner (counts_out s traffic (turn_counts (plan_of s traffic r) s.bucket) (through_counts (plan_of s traffic r)) ∷ [])
      (text_to output.Report (report_text (summary_of s traffic r line)) ∷ []) before now cut)

pub ruleset lasts = (
  tables-reported,
  report-cut,
  tables-cut,
  counts-reported,
  counts-report-cut,
  counts-cut,
)
