-- The texts of an assignment.
use Rattle.std.proofs.Common.{◌≡◌, ℕ, List, [], sym, ap, subst, ◌∙◌}
use Rattle.std.specs.Prelude.{Some, Result, Ok, Err, IfOk, OnOk}
use Rattle.std.specs.declared.alloc.AllocError.{AllocError}
use Rattle.desk_io.specs.declared.desk.Failed.{Failed}
use Rattle.desk_io.specs.declared.desk.Output.{Output}
use Rattle.desk_io.specs.Desk.{Taken, grown, nothing_taken, taken_of}
use Rattle.desk_io.proofs.DeskFacts.{taken-first}
use Rattle.net_core.specs.declared.rows.NetRows.{NetRows}
use Rattle.dta_model.specs.Loading.{journeys_of}
use Rattle.dta_model.specs.declared.trip.DemandCell.{DemandCell}
use Rattle.dta_model.specs.declared.trip.Trip.{Trip}
use Rattle.start_table.specs.declared.rows.StartRow.{StartRow}
use Rattle.reports.specs.Texts.{agent_text, gap_text, link_time_text, report_text}
use Rattle.dta_words.specs.declared.command.Settings.{Settings}
use Rattle.assignment.specs.Assignment.{Traffic, plan_of, summary_of, times_of, waits_told}
use Rattle.assignment.specs.Progress.{IsAssigned}
use Rattle.assignment.specs.declared.iterations.Assigned.{Assigned}
use Rattle.assignment.proofs.AssignmentFacts.{all-of}
use Rattle.scaled_demand.specs.Scales.{trips_at}
use Rattle.sweep.specs.Scenarios.{HasTexts, IsScenario}
use Rattle.sweep.specs.Texts.{wait_text}
use Rattle.sweep.specs.declared.scenario.Scenario.{Scenario}

-- the texts of an assignment
pub has-texts : (s : Settings) (traffic : Traffic) (a : Assigned) (it : Scenario) → IsAssigned s traffic a
    → it.agent ≡ agent_text traffic.net traffic.trips a.routes (journeys_of (plan_of s traffic a.routes))
    → it.link_time ≡ link_time_text traffic.net (times_of s traffic a.routes)
    → it.origin_wait ≡ wait_text traffic.net (waits_told s traffic a.routes)
    → it.gap ≡ gap_text a.lines.items
    → it.report ≡ report_text (summary_of s traffic a.routes a.line)
    → HasTexts s traffic it
has-texts s traffic a it done agent link_time origin_wait gap report = record {
  all = all-of s traffic a done;
  agent = agent;
  link_time = link_time;
  origin_wait = origin_wait;
  gap = gap;
  report = report;
}

-- the scenario of a scale, over trips that were released and no start rows
pub scenario-over : (s : Settings) (net : NetRows) (cells : List DemandCell) (scale : ℕ) (lent trips : List Trip) (start : List StartRow) (it : Scenario)
    → lent ≡ trips → trips ≡ trips_at scale cells → start ≡ [] → it.scale ≡ scale
    → HasTexts s (record { net = net; trips = lent; start = start }) it → IsScenario s net cells scale it
scenario-over s net cells scale lent trips start it same are none scale_is texts = record {
  scale_is = scale_is;
  texts =
      subst (λ (rows : List StartRow). HasTexts s (record { net = net; trips = trips_at scale cells; start = rows }) it) none
      (subst (λ (all : List Trip). HasTexts s (record { net = net; trips = all; start = start }) it) (same ∙ are) texts);
}

-- ---- what a desk in memory has taken

some-is : {A : Type 0} (x y : A) → Some x ≡ Some y → x ≡ y
some-is x y e = cc

taken-is : (o : Output) (text told : List ℕ) (t0 t1 : Taken) (put : Result (Unit {0}) Failed) → t0 ≡ nothing_taken
    → OnOk put (t1 ≡ grown o text t0) → put ≡ Ok tt → taken_of o t1 ≡ Some told → told ≡ text
taken-is o text told t0 t1 put empty whole ok taken =
    let out : t1 ≡ grown o text t0 = subst (λ (r : Result (Unit {0}) Failed). OnOk r (t1 ≡ grown o text t0)) ok whole in
    some-is told text (sym taken ∙ ap (taken_of o) out ∙ ap (λ (t : Taken). taken_of o (grown o text t)) empty ∙ taken-first o text)

-- a text that was put to a desk that had taken nothing
pub text-told : (o : Output) (text wanted : List ℕ) (t0 t1 : Taken) (put : Result (Unit {0}) Failed) (r : Result (List ℕ) AllocError)
    → text ≡ wanted → t0 ≡ nothing_taken → OnOk put (t1 ≡ grown o text t0)
    → IfOk r (λ told. put ≡ Ok tt) → IfOk r (λ told. taken_of o t1 ≡ Some told) → IfOk r (λ told. told ≡ wanted)
text-told o text wanted t0 t1 put (Ok told) same empty whole ok taken = taken-is o text told t0 t1 put empty whole ok taken ∙ same
text-told o text wanted t0 t1 put (Err e) same empty whole ok taken = tt
