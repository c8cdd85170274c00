-- A scale of the demand has one scenario.
use Rattle.std.proofs.Common.{◌≡◌, ℕ, List, length, refl, sym, ap, ◌∙◌}
use Rattle.dta_model.specs.LinkTimes.{table_of}
use Rattle.dta_model.specs.Loading.{journeys_of}
use Rattle.dta_model.specs.State.{eight_after}
use Rattle.dta_model.specs.declared.eight.Eight.{Eight}
use Rattle.dta_model.specs.declared.plan.Plan.{Plan}
use Rattle.trip_costs.specs.LoadingCosts.{costs_by}
use Rattle.trip_costs.specs.OriginWaits.{waits_of as waits_of_plan}
use Rattle.trip_costs.specs.declared.loading_costs.Costs.{Costs}
use Rattle.gap.specs.declared.line.GapLine.{GapLine}
use Rattle.reports.specs.Texts.{agent_text, gap_text, link_time_text, report_text}
use Rattle.reports.specs.declared.summary.Summary.{Summary}
use Rattle.dta_words.specs.declared.command.Settings.{Settings}
use Rattle.assignment.specs.Assignment.{Traffic, VehicleRoutes, costs_of, plan_of, summary_of, times_of, told_where, unrouted, waits_of, waits_told}
use Rattle.assignment.specs.Iterations.{AllIterations}
use Rattle.assignment.proofs.Determined.{RouteLaws, all-by-same, all-last, all-line, all-lines}
use Rattle.sweep.specs.Laws.{Agree, ScenariosStandAlone}
use Rattle.sweep.specs.Scenarios.{HasTexts}
use Rattle.sweep.specs.Texts.{traffic_at, wait_text}
use Rattle.sweep.specs.declared.scenario.Scenario.{Scenario}

-- the numbers of a report by the state after the last step
abbrev summary-by : Traffic → ℕ → VehicleRoutes → GapLine → Eight → Summary
summary-by traffic iterations r line end = record {
  nodes = length traffic.net.nodes;
  links = length traffic.net.links;
  vehicles = length traffic.trips;
  unrouted = unrouted r;
  iterations = iterations;
  arrived = end.arrived;
  running = end.running;
  waiting = end.waiting;
  gap = line;
}

module _ (a b : Settings) (agree : Agree a b) (traffic : Traffic) where
  same-plan : (r : VehicleRoutes) → plan_of b traffic r ≡ plan_of a traffic r
  same-plan r = rw (agree.step, agree.horizon, agree.queue) refl

  same-times : (r : VehicleRoutes) → times_of b traffic r ≡ times_of a traffic r
  same-times r = ap (λ (p : Plan). table_of p b.bucket) (same-plan r) ∙ ap (table_of (plan_of a traffic r)) (sym agree.bucket)

  same-costs : (r : VehicleRoutes) → costs_of b traffic r ≡ costs_of a traffic r
  same-costs r =
      ap (λ (p : Plan). costs_by b.costs p b.bucket) (same-plan r)
      ∙ ap (costs_by b.costs (plan_of a traffic r)) (sym agree.bucket)
      ∙ ap (λ (by : Costs). costs_by by (plan_of a traffic r) a.bucket) (sym agree.costs)

  same-waits : (r : VehicleRoutes) → waits_told b traffic r ≡ waits_told a traffic r
  same-waits r =
      ap (λ (p : Plan). told_where b.costs (waits_of_plan p b.bucket)) (same-plan r)
      ∙ ap (λ n. told_where b.costs (waits_of_plan (plan_of a traffic r) n)) (sym agree.bucket)
      ∙ ap (λ (by : Costs). told_where by (waits_of a traffic r)) (sym agree.costs)

  same-end : (r : VehicleRoutes) → eight_after (plan_of b traffic r) b.horizon ≡ eight_after (plan_of a traffic r) a.horizon
  same-end r = ap (λ (p : Plan). eight_after p b.horizon) (same-plan r) ∙ ap (eight_after (plan_of a traffic r)) (sym agree.horizon)

  same-summary : (r : VehicleRoutes) (line : GapLine) → summary_of b traffic r line ≡ summary_of a traffic r line
  same-summary r line =
      ap (summary-by traffic b.iterations r line) (same-end r)
      ∙ ap (λ n. summary-by traffic n r line (eight_after (plan_of a traffic r) a.horizon)) (sym agree.iterations)

  module _ (laws : RouteLaws) (x y : Scenario) (p : HasTexts a traffic x) (q : HasTexts b traffic y) where
    abbrev there : AllIterations a.iterations (costs_of a traffic) traffic
    there = all-by-same b.iterations a.iterations (costs_of a traffic) (costs_of b traffic) traffic (sym agree.iterations) same-costs q.all

    lines-same : p.all.lines ≡ q.all.lines
    lines-same = all-lines laws a.iterations (costs_of a traffic) traffic p.all there

    last-same : p.all.last ≡ q.all.last
    last-same = all-last laws a.iterations (costs_of a traffic) traffic p.all there

    line-same : p.all.line ≡ q.all.line
    line-same = all-line laws a.iterations (costs_of a traffic) traffic p.all there

    pub agent-same : x.agent ≡ y.agent
    agent-same = p.agent
        ∙ ap (λ (r : VehicleRoutes). agent_text traffic.net traffic.trips r (journeys_of (plan_of a traffic r))) last-same
        ∙ ap (λ (z : Plan). agent_text traffic.net traffic.trips q.all.last (journeys_of z)) (sym (same-plan q.all.last)) ∙ sym q.agent

    pub link-time-same : x.link_time ≡ y.link_time
    link-time-same = p.link_time
        ∙ ap (λ (r : VehicleRoutes). link_time_text traffic.net (times_of a traffic r)) last-same
        ∙ ap (link_time_text traffic.net) (sym (same-times q.all.last)) ∙ sym q.link_time

    pub origin-wait-same : x.origin_wait ≡ y.origin_wait
    origin-wait-same = p.origin_wait
        ∙ ap (λ (r : VehicleRoutes). wait_text traffic.net (waits_told a traffic r)) last-same
        ∙ ap (wait_text traffic.net) (sym (same-waits q.all.last)) ∙ sym q.origin_wait

    pub gap-same : x.gap ≡ y.gap
    gap-same = p.gap ∙ ap gap_text lines-same ∙ sym q.gap

    pub report-same : x.report ≡ y.report
    report-same = p.report
        ∙ ap (λ (r : VehicleRoutes). report_text (summary_of a traffic r p.all.line)) last-same
        ∙ ap (λ (l : GapLine). report_text (summary_of a traffic q.all.last l)) line-same
        ∙ ap report_text (sym (same-summary q.all.last q.all.line)) ∙ sym q.report

-- scenarios of the same scale and the same texts
same-scenario : (x y : Scenario) → x.scale ≡ y.scale → x.agent ≡ y.agent → x.link_time ≡ y.link_time → x.origin_wait ≡ y.origin_wait
    → x.gap ≡ y.gap → x.report ≡ y.report → x ≡ y
same-scenario x y scale agent link_time origin_wait gap report =
    λ i. record { scale = scale i; agent = agent i; link_time = link_time i; origin_wait = origin_wait i; gap = gap i; report = report i }

pub scenarios_stand_alone : RouteLaws → ScenariosStandAlone
scenarios_stand_alone laws a b net cells scale x y agree p q =
    let traffic = traffic_at net cells scale in
    same-scenario x y (p.scale_is ∙ sym q.scale_is)
    (agent-same a b agree traffic laws x y p.texts q.texts)
    (link-time-same a b agree traffic laws x y p.texts q.texts)
    (origin-wait-same a b agree traffic laws x y p.texts q.texts)
    (gap-same a b agree traffic laws x y p.texts q.texts)
    (report-same a b agree traffic laws x y p.texts q.texts)
