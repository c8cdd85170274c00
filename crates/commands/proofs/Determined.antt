-- Settings and a job have one list of texts but for Watch, and with the plain loader of all texts.
use Rattle.std.proofs.Common.{◌≡◌, ℕ, zero, suc, ◌+◌, Bool, false, true, List, [], ◌∷◌, ◌++◌, map, refl, sym, ap, subst, ◌∙◌}
use Rattle.sweep.specs.Texts.{sweep_texts, traffic_at, wait_text}
use Rattle.skims.specs.Texts.{skim_texts}
use Rattle.pending_text.specs.Outs.{OutText, text_to}
use Rattle.reports.specs.Watch.{AreToldSteps, text_after}
use Rattle.std.specs.Prelude.{Option, None, Some, not}
use Rattle.std.proofs.lemmas.List.Elements.{filter-append}
use Rattle.dta_model.specs.LinkTimes.{time_at}
use Rattle.trip_costs.specs.OriginWaits.{WaitTable}
use Rattle.trip_costs.specs.declared.loading_costs.Costs.{Costs}
use Rattle.trip_costs.specs.declared.loading_costs.Costs.TheVariants as by
use Rattle.gap.specs.declared.line.GapLine.{GapLine}
use Rattle.desk_io.specs.declared.desk.Output.TheVariants as output
use Rattle.dta_words.specs.declared.command.Command.TheVariants as command
use Rattle.dta_words.specs.declared.command.Settings.{Settings}
use Rattle.assignment.specs.Assignment.{Traffic, VehicleRoutes, costs_of, plan_of, told_where, waits_of}
use Rattle.assignment.specs.Iterations.{AllIterations}
use Rattle.jobs.specs.Inputs.{Assigning, Auditing, Kind, Skimming, Sweeping, kind_of}
use Rattle.jobs.specs.Jobs.{JobRows, traffic_of}
use Rattle.commands.specs.Laws.{AreDetermined, ScenariosAreAlone, TextsAreDetermined, alone, scenario_texts}
use Rattle.reports.specs.Texts.{agent_text_by}
use Rattle.net_core.specs.declared.rows.NetRows.{NetRows}
use Rattle.dta_model.specs.declared.trip.DemandCell.{DemandCell}
use Rattle.assignment.proofs.Determined.{RouteLaws, all-last, all-line, all-lines, all-routes}
use Rattle.sweep.specs.Laws.{Agree, ScenariosStandAlone}
use Rattle.sweep.specs.Scenarios.{AreScenarios, HasTexts}
use Rattle.sweep.specs.declared.scenario.Scenario.{Scenario}
use Rattle.commands.specs.Outputs.{AreAssigned, AreSinceTold}
use Rattle.commands.specs.Texts.{AreWatchLines, AreWatchTexts}
use Rattle.commands.specs.Works.{work_by}
use Rattle.commands.specs.Texts.{but_watch, is_watch, last_texts, wait_texts}
use Rattle.skims.specs.GivenTimes.{table_given}
use Rattle.skims.proofs.Determined.{skims_are_determined}

-- the iterations of the routes, where they are told
pub same-since : RouteLaws → (s : Settings) (traffic : Traffic) (start : Bool) (a b : Option (List ℕ))
    → AreSinceTold start s traffic a → AreSinceTold start s traffic b → a ≡ b
same-since laws s traffic false a b x y = x ∙ sym y
same-since laws s traffic true None b x y = absurd x
same-since laws s traffic true (Some a) None x y = absurd y
same-since laws s traffic true (Some a) (Some b) x y =
    ap Some (laws.since s.costs traffic.net traffic.start traffic.trips s.iterations a b x y)

-- ---- watch lines

-- no watch line is left among the other texts
module _ (s : Settings) (traffic : Traffic) where
  no-line-left : (number : ℕ) (r : VehicleRoutes) (steps : List ℕ)
      → but_watch (map (text_after number (plan_of s traffic r)) steps) ≡ []
  no-line-left number r [] = refl
  no-line-left number r (t ∷ steps) = no-line-left number r steps

  none-left : (number : ℕ) (routes : List VehicleRoutes) (texts : List OutText)
      → AreWatchTexts s traffic number routes texts → but_watch texts ≡ []
  none-left number [] texts told = rw told refl
  none-left number (r ∷ routes) texts told =
      let lines : but_watch told.0 ≡ [] =
      ap but_watch told.2.lines_are ∙ no-line-left number r told.2.steps in
      let more : but_watch told.1 ≡ [] = none-left (number + 1) routes told.1 told.3 in
      ap but_watch told.4 ∙ filter-append (λ t. not (is_watch t.to)) told.0 told.1
      ∙ ap (λ (xs : List OutText). xs ++ but_watch told.1) lines ∙ more

  -- with the plain loader an iteration has one list of lines
  same-steps : (every horizon : ℕ) (xs ys : List ℕ) → AreToldSteps every true horizon xs
      → AreToldSteps every true horizon ys → xs ≡ ys
  same-steps zero horizon xs ys a b = a ∙ sym b
  same-steps (suc every) horizon xs ys a b = a ∙ sym b

  pub plain-by : (steps : List ℕ) → s.plain ≡ true → AreToldSteps s.watch s.plain s.horizon steps
      → AreToldSteps s.watch true s.horizon steps
  plain-by steps plain by = subst (λ (b : Bool). AreToldSteps s.watch b s.horizon steps) plain by

  lines-same : (number : ℕ) (r : VehicleRoutes) (xs ys : List OutText) → s.plain ≡ true
      → AreWatchLines s traffic number r xs → AreWatchLines s traffic number r ys → xs ≡ ys
  lines-same number r xs ys plain a b =
      let steps : a.steps ≡ b.steps = same-steps s.watch s.horizon a.steps b.steps
      (plain-by a.steps plain a.by_rule) (plain-by b.steps plain b.by_rule) in
      a.lines_are ∙ ap (map (text_after number (plan_of s traffic r))) steps ∙ sym b.lines_are

  watched-same : (number : ℕ) (routes : List VehicleRoutes) (xs ys : List OutText) → s.plain ≡ true
      → AreWatchTexts s traffic number routes xs → AreWatchTexts s traffic number routes ys → xs ≡ ys
  watched-same number [] xs ys plain a b = a ∙ sym b
  watched-same number (r ∷ routes) xs ys plain a b =
      let lines : a.0 ≡ b.0 = lines-same number r a.0 b.0 plain a.2 b.2 in
      let more : a.1 ≡ b.1 = watched-same (number + 1) routes a.1 b.1 plain a.3 b.3 in
      a.4 ∙ ap (λ (x : List OutText). x ++ a.1) lines
      ∙ ap (λ (x : List OutText). b.0 ++ x) more ∙ sym b.4

-- ---- all texts

-- the texts after the last iteration, over all iterations
abbrev pub texts-of-all : (s : Settings) (traffic : Traffic) → AllIterations s.iterations (costs_of s traffic) traffic → Option (List ℕ) → List OutText
texts-of-all s traffic all since = last_texts s.command s traffic all.last since all.lines all.line

pub lasts-by : RouteLaws → (s : Settings) (traffic : Traffic) (a b : AllIterations s.iterations (costs_of s traffic) traffic)
    (since_a since_b : Option (List ℕ)) → since_a ≡ since_b → texts-of-all s traffic a since_a ≡ texts-of-all s traffic b since_b
lasts-by laws s traffic a b since_a since_b since =
    let costs = costs_of s traffic in
    ap (λ (r : VehicleRoutes). last_texts s.command s traffic r since_a a.lines a.line) (all-last laws s.iterations costs traffic a b)
    ∙ ap (λ (o : Option (List ℕ)). last_texts s.command s traffic b.last o a.lines a.line) since
    ∙ ap (λ (ls : List GapLine). last_texts s.command s traffic b.last since_b ls a.line) (all-lines laws s.iterations costs traffic a b)
    ∙ ap (λ (l : GapLine). last_texts s.command s traffic b.last since_b b.lines l) (all-line laws s.iterations costs traffic a b)

-- the texts of an assignment but for Watch are those after its last iteration
pub but-watch-is : (texts watched last : List OutText) → texts ≡ watched ++ last
    → but_watch watched ≡ [] → but_watch texts ≡ but_watch last
but-watch-is texts watched last are none =
    ap but_watch are ∙ filter-append (λ t. not (is_watch t.to)) watched last
    ∙ ap (λ (xs : List OutText). xs ++ but_watch last) none

pub but-watch-assigned : (s : Settings) (traffic : Traffic) (xs : List OutText) (a : AreAssigned s traffic xs)
    → but_watch xs ≡ but_watch (texts-of-all s traffic a.all a.since)
but-watch-assigned s traffic xs a =
    but-watch-is xs a.watched (texts-of-all s traffic a.all a.since) a.texts_are
    (none-left s traffic 1 a.all.routes a.watched a.watch_lines)

module _ (laws : RouteLaws) (s : Settings) (traffic : Traffic) (xs ys : List OutText) (a : AreAssigned s traffic xs)
    (b : AreAssigned s traffic ys) where
  lasts-same : texts-of-all s traffic a.all a.since ≡ texts-of-all s traffic b.all b.since
  lasts-same = lasts-by laws s traffic a.all b.all a.since b.since (same-since laws s traffic s.start a.since b.since a.since_told b.since_told)

  both-assigned : AreDetermined s xs ys
  both-assigned = record {
    but_watch_lines =
        but-watch-assigned s traffic xs a ∙ ap but_watch lasts-same ∙ sym (but-watch-assigned s traffic ys b);
    plain = λ plain.
        let watched : a.watched ≡ b.watched = watched-same s traffic 1 b.all.routes a.watched b.watched plain
        (subst (λ (rs : List VehicleRoutes). AreWatchTexts s traffic 1 rs a.watched) (all-routes laws s.iterations (costs_of s traffic) traffic a.all b.all)
        a.watch_lines) b.watch_lines in
        a.texts_are
        ∙ ap (λ (w : List OutText). w ++ texts-of-all s traffic a.all a.since) watched
        ∙ ap (λ (l : List OutText). b.watched ++ l) lasts-same ∙ sym b.texts_are;
  }

both-free : (s : Settings) (xs ys : List OutText) → xs ≡ ys → AreDetermined s xs ys
both-free s xs ys same = record { but_watch_lines = ap but_watch same; plain = λ plain. same }

-- the scenarios of a sweep
scenarios-same : ScenariosStandAlone → (s : Settings) (net : NetRows) (cells : List DemandCell) (scales : List ℕ) (xs ys : List Scenario)
    → AreScenarios s net cells scales xs → AreScenarios s net cells scales ys → xs ≡ ys
scenarios-same one s net cells [] [] [] h k = refl
scenarios-same one s net cells [] (x ∷ xs) ys h k = absurd h
scenarios-same one s net cells [] [] (y ∷ ys) h k = absurd k
scenarios-same one s net cells (scale ∷ scales) [] ys h k = absurd h
scenarios-same one s net cells (scale ∷ scales) (x ∷ xs) [] h k = absurd k
scenarios-same one s net cells (scale ∷ scales) (x ∷ xs) (y ∷ ys) h k =
    let agree : Agree s s = record { step = refl; horizon = refl; iterations = refl; bucket = refl; queue = refl; costs = refl } in
    ap (λ (a : Scenario). a ∷ xs) (one s s net cells scale x y agree h.0 k.0)
    ∙ ap (λ (as' : List Scenario). y ∷ as') (scenarios-same one s net cells scales xs ys h.1 k.1)

determined-by : RouteLaws → ScenariosStandAlone → (k : Kind) (s : Settings) (job : JobRows) (xs ys : List OutText) → (work_by k).texts s job xs
    → (work_by k).texts s job ys → AreDetermined s xs ys
determined-by laws one Assigning s job xs ys a b = both-assigned laws s (traffic_of job) xs ys a b
determined-by laws one Skimming s job xs ys a b =
    both-free s xs ys (a.texts_are
    ∙ ap (skim_texts job.net) (skims_are_determined (time_at (table_given job.net s.bucket s.horizon job.times)) job.net s.starts a.entries b.entries a.skim b.skim)
    ∙ sym b.texts_are)
determined-by laws one Sweeping s job xs ys a b =
    both-free s xs ys (a.texts_are
    ∙ ap sweep_texts (scenarios-same one s job.net job.demand_cells s.scales a.scenarios b.scenarios a.sweep b.sweep)
    ∙ sym b.texts_are)
determined-by laws one Auditing s job xs ys a b = both-free s xs ys (a.texts_are ∙ sym b.texts_are)
determined-by laws one k s job xs ys a b = both-free s xs ys (a ∙ sym b)

pub texts_are_determined : RouteLaws → ScenariosStandAlone → TextsAreDetermined
texts_are_determined laws one s job xs ys a b = determined-by laws one (kind_of s.command) s job xs ys a b

-- ---- a scenario of a sweep, and the assignment over the demand times its scale

-- the texts of a scenario are those that an assignment by the same costs puts
told-by : (costs : Costs) (it : Scenario) (w : WaitTable) (net : NetRows) (agent times gap report : List ℕ)
    → it.agent ≡ agent → it.link_time ≡ times → it.origin_wait ≡ wait_text net (told_where costs w) → it.gap ≡ gap → it.report ≡ report
    → scenario_texts costs it ≡ text_to output.Agent agent ∷ text_to output.LinkTime times
    ∷ ((wait_texts net (told_where costs w) ++ text_to output.Gap gap ∷ []) ++ text_to output.Report report ∷ [])
told-by by.Links it w net agent times gap report a t o g r =
    λ i. text_to output.Agent (a i) ∷ text_to output.LinkTime (t i) ∷ text_to output.Gap (g i) ∷ text_to output.Report (r i) ∷ []
told-by by.Trips it w net agent times gap report a t o g r =
    λ i. text_to output.Agent (a i) ∷ text_to output.LinkTime (t i) ∷ text_to output.OriginWait (o i) ∷ text_to output.Gap (g i) ∷ text_to output.Report (r i) ∷ []

-- none of them is for Watch
none-watched : (costs : Costs) (it : Scenario) → but_watch (scenario_texts costs it) ≡ scenario_texts costs it
none-watched by.Links it = refl
none-watched by.Trips it = refl

module _ (laws : RouteLaws) (s : Settings) (job : JobRows) (scale workers watch : ℕ) (plain : Bool) (it : Scenario)
    (h : HasTexts s (traffic_at job.net job.demand_cells scale) it) where
  abbrev own : Settings
  own = alone s workers watch plain

  abbrev by_itself : Traffic
  by_itself = traffic_at job.net job.demand_cells scale

  -- the texts after its last iteration are those of the scenario
  told-alone : last_texts command.Assign own by_itself h.all.last None h.all.lines h.all.line ≡ scenario_texts s.costs it
  unfolding agent_text_by
  told-alone = sym (told-by s.costs it (waits_of s by_itself h.all.last) by_itself.net _ _ _ _ h.agent h.link_time h.origin_wait h.gap h.report)

  pub scenario-alone : (texts : List OutText) → AreAssigned own by_itself texts → but_watch texts ≡ scenario_texts s.costs it
  scenario-alone texts a =
      but-watch-assigned own by_itself texts a
      ∙ ap but_watch (lasts-by laws own by_itself a.all h.all a.since None a.since_told)
      ∙ ap but_watch told-alone ∙ none-watched s.costs it

pub scenarios_are_alone : RouteLaws → ScenariosAreAlone
scenarios_are_alone laws s job scale workers watch plain it texts h a =
    scenario-alone laws s job scale workers watch plain it h.texts texts a
