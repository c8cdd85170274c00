-- The texts of a run, as functions of what they tell, in the order in which they go out, and the
-- watch lines before them, by their rule.
use Rattle.std.specs.Prelude.{ℕ, ◌≡◌, ◌+◌, suc, zero, Bool, true, false, not, List, [], ◌∷◌, ◌++◌}
use Rattle.std.specs.Prelude.{length, filter, ◌==◌, Option, Some, None, option_map}
use Rattle.std.specs.List.{position}
use Rattle.desk_io.specs.declared.desk.Output.{Output}
use Rattle.desk_io.specs.declared.desk.Output.TheVariants as output
use Rattle.pending_text.specs.Outs.{OutText, text_to}
use Rattle.net_core.specs.declared.rows.LinkNo.{LinkNo}
use Rattle.net_core.specs.declared.rows.NetRows.{NetRows}
use Rattle.dta_model.specs.LinkTimes.{TimeTable}
use Rattle.dta_model.specs.Loading.{journeys_of}
use Rattle.dta_model.specs.declared.eight.Eight.{Eight}
use Rattle.dta_model.specs.declared.loaded.Journey.{Journey}
use Rattle.trip_costs.specs.OriginWaits.{WaitTable}
use Rattle.gap.specs.declared.line.GapLine.{GapLine}
use Rattle.counts.specs.Text.{counts_text}
use Rattle.counts.specs.Through.{through_counts}
use Rattle.counts.specs.Turns.{turn_counts}
use Rattle.counts.specs.declared.through_counts.ThroughCount.{ThroughCount}
use Rattle.counts.specs.declared.turn_counts.TurnCount.{TurnCount}
use Rattle.audit.specs.declared.plan.Plan.{Plan}
use Rattle.assignment.specs.Assignment.{Traffic, VehicleRoutes, plan_of, summary_of, times_of}
use Rattle.assignment.specs.Assignment.{waits_told}
use Rattle.reports.specs.Texts.{agent_text_by, audit_text, gap_text, link_time_text}
use Rattle.reports.specs.Texts.{origin_wait_text, report_text}
use Rattle.reports.specs.Watch.{AreLinesOf, watch_text}
use Rattle.reports.specs.declared.summary.Summary.{Summary}
use Rattle.dta_words.specs.declared.command.Command.{Command}
use Rattle.dta_words.specs.declared.command.Command.TheVariants as command
use Rattle.dta_words.specs.declared.command.Settings.{Settings}
use Rattle.jobs.specs.Jobs.{JobRows}

-- the watch lines of an iteration over these routes
abbrev pub AreWatchLines :
    Settings → Traffic → (iteration : ℕ) → VehicleRoutes → List OutText → Type 0
AreWatchLines s traffic iteration routes lines =
    AreLinesOf s.watch s.plain iteration (plan_of s traffic routes) lines

-- the watch lines of iterations one after another, the first of which has this number
abbrev pub AreWatchTexts : Settings → Traffic → ℕ → List VehicleRoutes → List OutText → Type 0
AreWatchTexts s traffic number [] texts = texts ≡ []
AreWatchTexts s traffic number (routes ∷ others) texts =
    (lines : List OutText) × (more : List OutText) × AreWatchLines s traffic number routes lines
    × AreWatchTexts s traffic (number + 1) others more × (texts ≡ lines ++ more)

-- the watch lines of an iteration that a loader puts after the last step: that of its state there,
-- where there is a watch
abbrev pub end_lines : (every : ℕ) → (iteration : ℕ) → Eight → List OutText
end_lines zero iteration end = []
end_lines (suc every) iteration end = watch_text iteration end ∷ []

-- the link with this identifier, if one is asked for and the network has it
abbrev pub asked_link : NetRows → Option ℕ → Option LinkNo
asked_link net None = None
asked_link net (Some id) =
    option_map (λ place. record { 0 = place }) (position (λ link. link.id == id) net.links)

-- the through counts of that link, where each link has these
abbrev pub through_asked : (ℕ → List ThroughCount) → Option LinkNo → List ThroughCount
through_asked through None = []
through_asked through (Some link) = through link.0

-- Counts: these counts of turns, and of the through counts of all links those of the link that the
-- settings ask for
abbrev pub counts_out : Settings → Traffic → List TurnCount → (ℕ → List ThroughCount) → OutText
counts_out s traffic turns through =
    text_to output.Counts (counts_text traffic.net turns
    (through_asked through (asked_link traffic.net s.link)) s.bucket s.horizon)

-- what the texts after the last iteration tell of its loading
pub record LastLoading : Type 0 where
  pub journeys : List Journey
  pub times : TimeTable
  pub waits : Option WaitTable
  pub counts : OutText
  pub summary : Summary

abbrev pub told_of : Settings → Traffic → VehicleRoutes → GapLine → LastLoading
told_of s traffic last line = record {
  journeys = journeys_of (plan_of s traffic last);
  times = times_of s traffic last;
  waits = waits_told s traffic last;
  counts = counts_out s traffic (turn_counts (plan_of s traffic last) s.bucket)
      (through_counts (plan_of s traffic last));
  summary = summary_of s traffic last line;
}

-- OriginWait, where waits at origins are told
abbrev pub wait_texts : NetRows → Option WaitTable → List OutText
wait_texts net None = []
wait_texts net (Some waits) = text_to output.OriginWait (origin_wait_text net waits) ∷ []

-- Agent, LinkTime, OriginWait and Gap after the last iteration, Agent with the iterations of the
-- routes where these are told
abbrev pub table_texts :
    Traffic → VehicleRoutes → LastLoading → Option (List ℕ) → List GapLine → List OutText
table_texts traffic last told since lines =
    text_to output.Agent (agent_text_by traffic.net traffic.trips last told.journeys since)
    ∷ text_to output.LinkTime (link_time_text traffic.net told.times)
    ∷ (wait_texts traffic.net told.waits ++ text_to output.Gap (gap_text lines) ∷ [])

-- what goes out after the last iteration, before the report: the tables of `assign`, the counts of
-- `counts`, and nothing of another command
abbrev pub texts_before_report :
    Command → Traffic → VehicleRoutes → LastLoading → Option (List ℕ) → List GapLine → List OutText
texts_before_report command.Freeflow traffic last told since lines = []
texts_before_report command.Assign traffic last told since lines =
    table_texts traffic last told since lines
texts_before_report (command.Demo n) traffic last told since lines = []
texts_before_report command.Skim traffic last told since lines = []
texts_before_report command.Counts traffic last told since lines = told.counts ∷ []
texts_before_report command.Sweep traffic last told since lines = []
texts_before_report command.Audit traffic last told since lines = []

abbrev pub texts_told :
    Command → Traffic → VehicleRoutes → LastLoading → Option (List ℕ) → List GapLine → List OutText
texts_told c traffic last told since lines =
    texts_before_report c traffic last told since lines
    ++ text_to output.Report (report_text told.summary) ∷ []

-- the texts after the last iteration
abbrev pub last_texts :
    Command → Settings → Traffic → VehicleRoutes → Option (List ℕ) → List GapLine → GapLine
    → List OutText
last_texts c s traffic last since lines line =
    texts_told c traffic last (told_of s traffic last line) since lines

-- how the loading was made that is audited
abbrev pub audit_plan : Settings → Plan
audit_plan s =
    record { queue = s.queue; delta = s.units.delta; horizon = s.horizon; bucket = s.bucket }

-- Report of an audit that found nothing
abbrev pub audit_texts : JobRows → List OutText
audit_texts job = text_to output.Report (audit_text job.net (length job.trips) None) ∷ []

-- whether a text is for Watch
abbrev pub is_watch : Output → Bool
is_watch output.Watch = true
is_watch output.Agent = false
is_watch output.LinkTime = false
is_watch output.OriginWait = false
is_watch output.Gap = false
is_watch output.Report = false
is_watch output.Skim = false
is_watch output.Counts = false
is_watch output.Sweep = false

-- the texts but those for Watch
abbrev pub but_watch : List OutText → List OutText
but_watch texts = filter (λ t. not (is_watch t.to)) texts
