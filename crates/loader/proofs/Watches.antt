-- What worker 0 has put, line by line, and that it is the watch lines of the loading in the end.
use Rattle.std.proofs.Common.{arith, ◌≡◌, ◌<◌, ◌≤◌, ℕ, zero, suc, List, [], ◌∷◌, ◌++◌, refl, sym, ap, ◌∙◌, subst}
use Rattle.std.specs.Prelude.{◌≢◌, map, true, false, Result, Ok, Err}
use mathlib.Core.Logic.{dite}
use native.Mathlib.Decide.{dec_le}
use Rattle.desk_io.specs.declared.desk.Output.TheVariants as output
use Rattle.desk_io.specs.Desk.{Taken, grown}
use Rattle.desk_io.specs.Faults.{Rose}
use Rattle.desk_io.specs.State.{DeskState}
use Rattle.desk_io.specs.Transfers.{IsPartOut, OnlyPuts, Puts}
use Rattle.dta_model.specs.State.{eight_after}
use Rattle.dta_model.specs.declared.eight.Eight.{Eight}
use Rattle.dta_model.specs.declared.plan.Plan.{Plan}
use Rattle.monitors.specs.Posted.{IsPrefix, Known, last_of}
use Rattle.phase_claims.specs.PlacesHome.{posted_in}
use Rattle.reports.specs.Texts.{watch_line}
use Rattle.reports.specs.Watch.{AreToldSteps, AreWatchSteps, multiples, rises_from, text_after, watch_text}
use Rattle.pending_text.specs.Outs.{IsCutOff, OutText, SomeCutOff, SomeOut, grown_by}
use Rattle.pending_text.proofs.OutFacts.{cut-more, cut-one, cut-sooner, grown-more}
use Rattle.loader.specs.Watching.{AreLinesBy, AreShown, HasWatched, IsMore, IsShown, last_from, steps_of}
use Rattle.loader.specs.declared.watch.Watch.{Watch}
use Rattle.loader.specs.declared.watch.Watcher.{Watcher}
use Rattle.std.proofs.lemmas.List.{append-nil, map-append}
use Rattle.loader.proofs.Shown.{last-posted, last-push, last-within, lines-are, shown-apart}
use Rattle.loader.proofs.Shown.{shown-later, shown-push, shown-rise, steps-after}
use Rattle.loader.proofs.Steps.{more-rule, no-multiples, whole-rule}

-- nothing was put so far
pub nothing-watched : (w : Watcher) (state : DeskState) → w.last ≡ 0 → w.failed ≡ false → HasWatched w state state
nothing-watched w state last failed = record {
  states = [];
  shown = tt;
  none = λ _. refl;
  last = λ _. last;
  out = rw failed refl;
  cause = λ is. absurd (cc (failed, is));
  later = omega arith;
  left = refl;
  reads = refl;
}

-- the monitor knows more
pub watched-later : (w : Watcher) (more : Known) (before after : DeskState) → IsPrefix w.monitor.list more.list
    → HasWatched w before after → HasWatched (record w { monitor = more }) before after
watched-later w more before after b h = record {
  states = h.states;
  shown = shown-later w.monitor.list more.list w.watch.every 0 h.states b h.shown;
  none = h.none;
  last = h.last;
  out = h.out;
  cause = h.cause;
  later = h.later;
  left = h.left;
  reads = h.reads;
}

rose-earlier : (before between now : ℕ) → before ≤ between → Rose between now → Rose before now
rose-earlier before between now h r = omega (arith, h, r)

never : {P : Type 0} (w : Watcher) (states : List Eight) (e : Eight) → 1 ≤ w.watch.every → w.watch.every ≡ 0 → P
never w states e pos none = absurd (omega (arith, pos, none))

more-shown : (w : Watcher) (states : List Eight) (e : Eight) → w.last ≡ last_from 0 (steps_of states)
    → AreShown w.monitor.list w.watch.every 0 states → IsShown w.monitor.list e → IsMore w e
    → AreShown w.monitor.list w.watch.every 0 (states ++ e ∷ [])
more-shown w states e last s shown more =
    shown-push w.monitor.list w.watch.every 0 states e s shown
    (subst (λ (n : ℕ). multiples w.watch.every n < multiples w.watch.every e.steps) last more.more)

-- one line more went out
pub put-whole : (w : Watcher) (e : Eight) (before between after : DeskState) → w.failed ≡ false
    → after.taken ≡ grown output.Watch (watch_line w.watch.iteration e) between.taken
    → between.put_faults ≤ after.put_faults → after.left ≡ between.left → after.read_faults ≡ between.read_faults
    → HasWatched w before between → IsShown w.monitor.list e → IsMore w e
    → HasWatched (record w { last = e.steps }) before after
put-whole w e before between after whole out later left reads h shown more =
    let line = watch_text w.watch.iteration in
    let old : between.taken ≡ grown_by (map line h.states) before.taken = rw whole at h.out in
    let new : after.taken ≡ grown_by (map line (h.states ++ e ∷ [])) before.taken =
    grown-more (map line h.states) (line e ∷ []) before.taken between.taken after.taken old out
    ∙ ap (λ (l : List OutText). grown_by l before.taken) (sym (map-append line h.states (e ∷ []))) in
    record {
      states = h.states ++ e ∷ [];
      shown = more-shown w h.states e (h.last whole) h.shown shown more;
      none = λ none. never w h.states e more.watches none;
      last = λ _. sym (last-push 0 h.states e);
      out = rw whole new;
      cause = λ is. absurd (cc (whole, is));
      later = omega (arith, h.later, later);
      left = left ∙ h.left;
      reads = reads ∙ h.reads;
    }

-- a first part of one more
pub put-part : (w : Watcher) (e : Eight) (before between after : DeskState) → w.failed ≡ false
    → IsPartOut output.Watch (watch_line w.watch.iteration e) between.taken after.taken
    → between.put_faults ≤ after.put_faults → Rose between.put_faults after.put_faults
    → after.left ≡ between.left → after.read_faults ≡ between.read_faults
    → HasWatched w before between → IsShown w.monitor.list e → IsMore w e
    → HasWatched (record w { failed = true }) before after
put-part w e before between after whole out later rose left reads h shown more =
    let line = watch_text w.watch.iteration in
    let old : between.taken ≡ grown_by (map line h.states) before.taken = rw whole at h.out in
    let cut = cut-more (map line h.states) (line e ∷ []) before.taken between.taken after.taken old
    (cut-one output.Watch (line e).text between.taken after.taken out) in
    record {
      states = h.states ++ e ∷ [];
      shown = more-shown w h.states e (h.last whole) h.shown shown more;
      none = λ none. never w h.states e more.watches none;
      last = λ is. absurd (cc is);
      out = subst (λ (l : List OutText). IsCutOff l before.taken after.taken) (sym (map-append line h.states (e ∷ []))) cut;
      cause = λ _. rose-earlier before.put_faults between.put_faults after.put_faults h.later rose;
      later = omega (arith, h.later, later);
      left = left ∙ h.left;
      reads = reads ∙ h.reads;
    }

-- ---- the end

-- the watch lines of the loading went out or, where a put failed, up to a first part of one
abbrev pub Ends : {T E : Type 0} → Plan → Watcher → DeskState → DeskState → Result T E → Type 0
Ends p w before after r = OnlyPuts (SomeOut (AreLinesBy p w.watch)) (SomeCutOff (AreLinesBy p w.watch)) before after r

by-rule : (every horizon : ℕ) (steps : List ℕ) → 1 ≤ every → AreWatchSteps every horizon steps → AreToldSteps every false horizon steps
by-rule zero horizon steps pos r = absurd (omega (arith, pos))
by-rule (suc every) horizon steps pos r = r

module _ (p : Plan) (w : Watch) (pos : 1 ≤ w.every) (far : 1 ≤ p.horizon) where
  abbrev posted : List Eight
  posted = posted_in p p.horizon

  apart : (states : List Eight) → AreShown posted w.every 0 states → rises_from 0 (map (multiples w.every) (steps_of states)) ≡ true
  apart states s =
      subst (λ (n : ℕ). rises_from n (map (multiples w.every) (steps_of states)) ≡ true) (no-multiples w.every pos)
      (shown-apart posted w.every 0 states s)

  abbrev lines : List Eight → List OutText
  lines states = map (watch_text w.iteration) states

  -- the lines of states of which the last is that after the last step
  whole-lines : (states : List Eight) → AreShown posted w.every 0 states → last_from 0 (steps_of states) ≡ p.horizon
      → AreLinesBy p w (lines states)
  whole-lines states s is = record {
    steps = steps_of states;
    by_rule = by-rule w.every p.horizon (steps_of states) pos
        (whole-rule w.every p.horizon (steps_of states) far (shown-rise posted w.every 0 states pos s) (apart states s) is);
    lines_are = lines-are p w.iteration w.every 0 states s;
  }

  -- and of others, with the line of that state
  more-lines : (states : List Eight) → AreShown posted w.every 0 states → last_from 0 (steps_of states) < p.horizon
      → AreLinesBy p w (lines states ++ text_after w.iteration p p.horizon ∷ [])
  more-lines states s less = record {
    steps = steps_of states ++ p.horizon ∷ [];
    by_rule = by-rule w.every p.horizon (steps_of states ++ p.horizon ∷ []) pos
        (more-rule w.every p.horizon (steps_of states) (shown-rise posted w.every 0 states pos s) (apart states s) less);
    lines_are = ap (λ (l : List OutText). l ++ text_after w.iteration p p.horizon ∷ []) (lines-are p w.iteration w.every 0 states s)
        ∙ sym (map-append (text_after w.iteration p) (steps_of states) (p.horizon ∷ []));
  }

  record Completed (states : List Eight) : Type 0 where
    more : List OutText
    all : AreLinesBy p w (lines states ++ more)

  completed : (states : List Eight) → AreShown posted w.every 0 states → Completed states
  completed states s =
      let within = last-within p w.every 0 states (omega arith) s in
      dite (dec_le p.horizon (last_from 0 (steps_of states)))
      (λ le. record {
        more = [];
        all = subst (AreLinesBy p w) (sym (append-nil (lines states))) (whole-lines states s (omega (arith, within, le)));
      })
      (λ not_le. record {
        more = text_after w.iteration p p.horizon ∷ [];
        all = more-lines states s (omega (arith, not_le));
      })

  -- lines that were cut off are first ones of the watch lines
  cut-lines : (states : List Eight) (before after : Taken) → AreShown posted w.every 0 states → IsCutOff (lines states) before after
      → SomeCutOff (AreLinesBy p w) before after
  cut-lines states before after s cut =
      let c = completed states s in
      (lines states ++ c.more, c.all, cut-sooner (lines states) c.more before after cut)

-- what the writer posted, and what it posted last, once the pass is settled with it
pub record IsSettled (p : Plan) (w : Watcher) (list : List Eight) (e : Eight) : Type 0 where
  pub posted : list ≡ posted_in p p.horizon
  pub knew : IsPrefix w.monitor.list list
  pub last : e ≡ last_of list

module _ (p : Plan) (w : Watcher) (list : List Eight) (e : Eight) (pos : 1 ≤ w.watch.every) (far : 1 ≤ p.horizon)
    (settled : IsSettled p w list e) where
  all-shown : (states : List Eight) → AreShown w.monitor.list w.watch.every 0 states
      → AreShown (posted_in p p.horizon) w.watch.every 0 states
  all-shown states s =
      shown-later w.monitor.list (posted_in p p.horizon) w.watch.every 0 states
      (subst (IsPrefix w.monitor.list) settled.posted settled.knew) s

  end-is : e ≡ eight_after p p.horizon
  end-is = settled.last ∙ ap last_of settled.posted ∙ last-posted p p.horizon far

  end-steps : e.steps ≡ p.horizon
  end-steps = ap (λ (x : Eight). x.steps) end-is ∙ steps-after p p.horizon

  -- a put failed before
  pub end-failed : {T E : Type 0} (x : E) (before after : DeskState) → w.failed ≡ true
      → HasWatched w before after → Ends {T = T} {E = E} p w before after (Err x)
  end-failed x before after failed h = record {
    whole = tt;
    refused = cut-lines p w.watch pos far h.states before.taken after.taken (all-shown h.states h.shown) (rw failed at h.out);
    cause = record { later = h.later; failed = h.cause failed };
    left = h.left;
    reads = h.reads;
  }

  -- the last line was that of the last state
  pub end-told : {T E : Type 0} (x : T) (before after : DeskState) → w.failed ≡ false → e.steps ≡ w.last
      → HasWatched w before after → Ends {T = T} {E = E} p w before after (Ok x)
  end-told x before after whole told h = record {
    whole = (
      map (watch_text w.watch.iteration) h.states,
      whole-lines p w.watch pos far h.states (all-shown h.states h.shown) (sym (h.last whole) ∙ sym told ∙ end-steps),
      rw whole at h.out,
    );
    refused = tt;
    cause = record { later = h.later; failed = tt };
    left = h.left;
    reads = h.reads;
  }

  less : (states : List Eight) → AreShown w.monitor.list w.watch.every 0 states → w.last ≡ last_from 0 (steps_of states)
      → e.steps ≢ w.last → last_from 0 (steps_of states) < p.horizon
  less states s last other =
      let within = last-within p w.watch.every 0 states (omega arith) (all-shown states s) in
      dite (dec_le p.horizon (last_from 0 (steps_of states)))
      (λ le. absurd (other (let steps = end-steps in omega (arith, within, le, last, steps))))
      (λ not_le. omega (arith, not_le))

  -- the line of the last state is put
  abbrev all-told : List Eight → List OutText
  all-told states = map (watch_text w.watch.iteration) states ++ watch_text w.watch.iteration e ∷ []

  are-told : (before between : DeskState) (h : HasWatched w before between) → w.failed ≡ false → e.steps ≢ w.last
      → AreLinesBy p w.watch (all-told h.states)
  are-told before between h whole other =
      rw end-is (more-lines p w.watch pos far h.states (all-shown h.states h.shown) (less h.states h.shown (h.last whole) other))

  pub end-put : {T E : Type 0} (r : Result T E) (before between after : DeskState) → w.failed ≡ false → e.steps ≢ w.last
      → Puts output.Watch (watch_line w.watch.iteration e) between after r
      → HasWatched w before between → Ends p w before after r
  end-put (Ok x) before between after whole other puts h = record {
    whole = (
      all-told h.states,
      are-told before between h whole other,
      grown-more (map (watch_text w.watch.iteration) h.states) (watch_text w.watch.iteration e ∷ []) before.taken between.taken after.taken (rw whole at h.out) puts.whole,
    );
    refused = tt;
    cause = record { later = omega (arith, h.later, puts.cause.later); failed = tt };
    left = puts.left ∙ h.left;
    reads = puts.reads ∙ h.reads;
  }
  end-put (Err x) before between after whole other puts h = record {
    whole = tt;
    refused = (
      all-told h.states,
      are-told before between h whole other,
      cut-more (map (watch_text w.watch.iteration) h.states) (watch_text w.watch.iteration e ∷ []) before.taken between.taken after.taken (rw whole at h.out)
          (cut-one output.Watch (watch_line w.watch.iteration e) between.taken after.taken puts.refused),
    );
    cause = record {
      later = omega (arith, h.later, puts.cause.later);
      failed = rose-earlier before.put_faults between.put_faults after.put_faults h.later puts.cause.failed;
    };
    left = puts.left ∙ h.left;
    reads = puts.reads ∙ h.reads;
  }
