-- The nodes of a step may be taken in any order: the texts of an assignment are the same.
use Rattle.std.proofs.Common.{◌≡◌, ℕ, zero, suc, ◌+◌, true, List, [], ◌∷◌, ◌++◌, map, refl, sym, ap, ◌∙◌}
use Rattle.pending_text.specs.Outs.{OutText, text_to}
use Rattle.reports.specs.Watch.{AreToldSteps, text_after}
use Rattle.dta_model.specs.LinkTimes.{TimeTable}
use Rattle.dta_model.specs.Loading.{journeys_of}
use Rattle.dta_model.specs.State.{eight_after}
use Rattle.dta_model.specs.declared.eight.Eight.{Eight}
use Rattle.dta_model.specs.declared.loaded.Journey.{Journey}
use Rattle.dta_model.proofs.AnyOrder.{any_order, same_journeys}
use Rattle.link_times.proofs.AnyOrder.{same_times}
use Rattle.trip_costs.specs.LoadingCosts.{costs_over}
use Rattle.trip_costs.specs.OriginWaits.{WaitTable, waits_in}
use Rattle.gap.specs.declared.line.GapLine.{GapLine}
use Rattle.dta_words.specs.declared.command.Settings.{Settings}
use Rattle.desk_io.specs.declared.desk.Output.TheVariants as output
use Rattle.assignment.specs.Assignment.{Traffic, VehicleRoutes, costs_of, end_of, plan_of, summary_of, times_of, told_where, waits_of}
use Rattle.assignment.proofs.Determined.{RouteLaws, all-by-same, all-routes}
use Rattle.reports.specs.declared.summary.Summary.{Summary}
use Rattle.commands.specs.Laws.{TextsInAnyOrder}
use Rattle.commands.specs.Orders.{AreNodeOrders, NodeOrders, costs_by, counts_by, end_by, journeys_by, summary_by, times_by, told_by, trace_by, waits_by, watched_by}
use Rattle.commands.specs.Texts.{AreWatchLines, AreWatchTexts}
use Rattle.counts.specs.Text.{counts_text}
use Rattle.counts.specs.Through.{through_counts, through_counts_in}
use Rattle.counts.specs.Turns.{turn_counts}
use Rattle.counts.specs.declared.through_counts.ThroughCount.{ThroughCount}
use Rattle.counts.specs.declared.turn_counts.TurnCount.{TurnCount}
use Rattle.counts.proofs.AnyOrder.{same_through_counts, same_turn_counts}
use Rattle.net_core.specs.declared.rows.LinkNo.{LinkNo}
use Rattle.std.specs.Prelude.{Option, None, Some, not}
use Rattle.std.proofs.lemmas.List.Elements.{filter-append}
use Rattle.commands.proofs.Determined.{but-watch-assigned, but-watch-is, lasts-by, plain-by, same-since, texts-of-all}
use Rattle.commands.specs.Texts.{LastLoading, asked_link, but_watch, counts_out, end_lines, is_watch, texts_told, through_asked, told_of}

-- the line of a last state is for Watch
no-end-left : (every number : ℕ) (end : Eight) → but_watch (end_lines every number end) ≡ []
no-end-left zero number end = refl
no-end-left (suc every) number end = refl

-- where the loader is plain an iteration tells its last state alone
ended : (s : Settings) (traffic : Traffic) (number every : ℕ) (r : VehicleRoutes) (steps : List ℕ) → AreToldSteps every true s.horizon steps
    → map (text_after number (plan_of s traffic r)) steps ≡ end_lines every number (end_of s traffic r)
ended s traffic number zero r steps told = rw told refl
ended s traffic number (suc every) r steps told = rw told refl

module _ (s : Settings) (traffic : Traffic) (order : NodeOrders) (all : AreNodeOrders s traffic order) where
  times-same : (r : VehicleRoutes) → times_by s traffic order r ≡ times_of s traffic r
  times-same r = same_times (plan_of s traffic r) (order r) (all r) s.bucket

  journeys-same : (r : VehicleRoutes) → journeys_by s traffic order r ≡ journeys_of (plan_of s traffic r)
  journeys-same r = same_journeys (plan_of s traffic r) (order r) (all r)

  waits-same : (r : VehicleRoutes) → waits_by s traffic order r ≡ waits_of s traffic r
  waits-same r = ap (waits_in (plan_of s traffic r) s.bucket) (journeys-same r)

  costs-same : (r : VehicleRoutes) → costs_by s traffic order r ≡ costs_of s traffic r
  costs-same r =
      ap (λ (t : TimeTable). costs_over s.costs t (waits_by s traffic order r)) (times-same r)
      ∙ ap (costs_over s.costs (times_of s traffic r)) (waits-same r)

  end-same : (r : VehicleRoutes) → end_by s traffic order r ≡ end_of s traffic r
  unfolding eight_after
  end-same r = (any_order (plan_of s traffic r) (order r) (all r) s.horizon).eight

  summary-same : (last : VehicleRoutes) (line : GapLine)
      → summary_by s traffic order last line ≡ summary_of s traffic last line
  summary-same last line =
      ap (λ (e : Eight). record (summary_of s traffic last line) {
        arrived = e.arrived;
        running = e.running;
        waiting = e.waiting;
      }) (end-same last)

  through-same : (last : VehicleRoutes) (asked : Option LinkNo)
      → through_asked (λ l. through_counts_in (plan_of s traffic last) l (trace_by s traffic order last)) asked
      ≡ through_asked (through_counts (plan_of s traffic last)) asked
  through-same last None = refl
  through-same last (Some l) = same_through_counts (plan_of s traffic last) (order last) (all last) l.0

  counts-same : (last : VehicleRoutes)
      → counts_by s traffic order last ≡ counts_out s traffic (turn_counts (plan_of s traffic last) s.bucket) (through_counts (plan_of s traffic last))
  counts-same last =
      ap (λ (t : List TurnCount). counts_out s traffic t (λ l. through_counts_in (plan_of s traffic last) l (trace_by s traffic order last)))
      (same_turn_counts (plan_of s traffic last) (order last) (all last) s.bucket)
      ∙ ap (λ (t : List ThroughCount). text_to output.Counts (counts_text traffic.net (turn_counts (plan_of s traffic last) s.bucket) t s.bucket s.horizon))
      (through-same last (asked_link traffic.net s.link))

  told-same : (last : VehicleRoutes) (line : GapLine) → told_by s traffic order last line ≡ told_of s traffic last line
  told-same last line =
      let by = told_by s traffic order last line in
      let is = told_of s traffic last line in
      ap (λ (x : List Journey). record by { journeys = x }) (journeys-same last)
      ∙ ap (λ (x : TimeTable). record by { journeys = is.journeys; times = x }) (times-same last)
      ∙ ap (λ (x : WaitTable). record by { journeys = is.journeys; times = is.times; waits = told_where s.costs x }) (waits-same last)
      ∙ ap (λ (x : OutText). record is { counts = x; summary = by.summary }) (counts-same last)
      ∙ ap (λ (x : Summary). record is { summary = x }) (summary-same last line)

  none-left-by : (number : ℕ) (routes : List VehicleRoutes) → but_watch (watched_by s traffic order number routes) ≡ []
  none-left-by number [] = refl
  none-left-by number (r ∷ routes) =
      let others = watched_by s traffic order (number + 1) routes in
      filter-append (λ t. not (is_watch t.to)) (end_lines s.watch number (end_by s traffic order r)) others
      ∙ ap (λ (xs : List OutText). xs ++ but_watch others) (no-end-left s.watch number (end_by s traffic order r))
      ∙ none-left-by (number + 1) routes

  lines-by : (number : ℕ) (r : VehicleRoutes) (lines : List OutText) → s.plain ≡ true → AreWatchLines s traffic number r lines
      → end_lines s.watch number (end_by s traffic order r) ≡ lines
  lines-by number r lines plain told =
      ap (end_lines s.watch number) (end-same r)
      ∙ sym (told.lines_are ∙ ended s traffic number s.watch r told.steps (plain-by s traffic told.steps plain told.by_rule))

  watched-same-by : (number : ℕ) (routes : List VehicleRoutes) (texts : List OutText) → s.plain ≡ true
      → AreWatchTexts s traffic number routes texts → watched_by s traffic order number routes ≡ texts
  watched-same-by number [] texts plain told = sym told
  watched-same-by number (r ∷ routes) texts plain told =
      ap (λ (x : List OutText). x ++ watched_by s traffic order (number + 1) routes) (lines-by number r told.0 plain told.2)
      ∙ ap (λ (x : List OutText). told.0 ++ x) (watched-same-by (number + 1) routes told.1 plain told.3) ∙ sym told.4

pub texts_in_any_order : RouteLaws → TextsInAnyOrder
texts_in_any_order laws s traffic order all xs ys a b =
    let its = all-by-same s.iterations s.iterations (costs_of s traffic) (costs_by s traffic order) traffic refl (costs-same s traffic order all) a.all in
    let told = texts_told s.command traffic a.all.last (told_by s traffic order a.all.last a.all.line) a.since a.all.lines in
    let since : a.since ≡ b.since = same-since laws s traffic s.start a.since b.since a.since_told b.since_told in
    let last : told ≡ texts-of-all s traffic b.all b.since =
    ap (λ (t : LastLoading). texts_told s.command traffic a.all.last t a.since a.all.lines) (told-same s traffic order all a.all.last a.all.line)
    ∙ lasts-by laws s traffic its b.all a.since b.since since in
    record {
      but_watch_lines =
          but-watch-is xs (watched_by s traffic order 1 a.all.routes) told a.texts_are (none-left-by s traffic order all 1 a.all.routes)
          ∙ ap but_watch last ∙ sym (but-watch-assigned s traffic ys b);
      plain = λ plain.
          let watched : watched_by s traffic order 1 a.all.routes ≡ b.watched =
          ap (watched_by s traffic order 1) (all-routes laws s.iterations (costs_of s traffic) traffic its b.all)
          ∙ watched-same-by s traffic order all 1 b.all.routes b.watched plain b.watch_lines in
          a.texts_are ∙ ap (λ (w : List OutText). w ++ told) watched
          ∙ ap (λ (l : List OutText). b.watched ++ l) last ∙ sym b.texts_are;
    }
