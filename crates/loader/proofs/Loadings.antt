-- What a loading by workers answers.
use Rattle.std.proofs.Common.{arith, ◌≡◌, ◌<◌, ◌≤◌, ℕ, zero, suc, List, [], refl, sym, ap, ◌∙◌, subst}
use Rattle.std.specs.Prelude.{map, false, Option, Result, Ok, Err}
use Rattle.desk_io.specs.Desk.{Taken}
use Rattle.desk_io.specs.State.{DeskState}
use Rattle.desk_io.specs.Transfers.{OnlyPuts}
use Rattle.dta_model.specs.Laws.{EndInOrder}
use Rattle.dta_model.specs.Loading.{journeys_of}
use Rattle.dta_model.specs.declared.eight.Eight.{Eight}
use Rattle.dta_model.specs.declared.loaded.Journey.{Journey}
use Rattle.dta_model.specs.declared.plan.Plan.{Plan}
use Rattle.dta_model.proofs.Ends.{journeys_end_in_order}
use Rattle.dta_model.proofs.InOrder.{left_in_order}
use Rattle.dta_model.proofs.Onward.{vehicles_are_conserved}
use Rattle.phase_claims.specs.PlacesEnd.{IsClosed}
use Rattle.phase_claims.specs.PlacesHome.{posted_in}
use Rattle.phase_claims.specs.declared.receipt.Receipt.{Receipt}
use Rattle.phase_claims.specs.declared.view.Scope.{Scope}
use Rattle.phase_claims.specs.declared.view.View.{View}
use Rattle.monitors.specs.Posted.{Known}
use Rattle.loader.specs.Gates.{GateState, Numbers, numbers_by, numbers_of, one_more, taking, told_as}
use Rattle.pending_text.specs.Outs.{IsCutOff, OutText, SomeCutOff, SomeOut}
use Rattle.reports.specs.Watch.{AreToldSteps, text_after}
use Rattle.loader.specs.Loads.{Loads}
use Rattle.loader.specs.Watching.{AreLinesBy, HasWatched, IsSameWatch}
use Rattle.loader.specs.declared.loading.LoadFault.TheVariants as fault
use Rattle.loader.specs.declared.watch.Watch.{Watch}
use Rattle.loader.specs.declared.watch.Watcher.{Watcher}
use Rattle.loader.proofs.Watches.{nothing-watched}

-- where nothing is watched no line is cut off
every-is : (p : Plan) (w : Watch) (before after : Taken) → SomeCutOff (AreLinesBy p w) before after → (n : ℕ) → w.every ≡ n → 0 < n
every-is p w before after c zero e =
    let none : c.1.steps ≡ [] = subst (λ (n : ℕ). AreToldSteps n false p.horizon c.1.steps) e c.1.by_rule in
    let lines : c.0 ≡ [] = c.1.lines_are ∙ ap (map (text_after w.iteration p)) none in
    absurd (subst (λ (l : List OutText). IsCutOff l before after) lines c.2)
every-is p w before after c (suc n) e = omega arith

module _ (p : Plan) (workers : ℕ) (w : Watch) where
  pub load-done : {T E : Type 0} (x : T) (before after : DeskState) (gate gate_now : GateState) (journeys : List Journey)
      → journeys ≡ journeys_of p → OnlyPuts {T = T} {E = E} (SomeOut (AreLinesBy p w)) (SomeCutOff (AreLinesBy p w)) before after (Ok x)
      → gate_now ≡ taking (numbers_by p workers) gate → Loads p workers w before after gate gate_now (Ok journeys)
  load-done x before after gate gate_now journeys is puts took = record {
    loaded = is;
    conserved = vehicles_are_conserved p;
    left_in_order = left_in_order p;
    ordered = subst (EndInOrder p) (sym is) (journeys_end_in_order p);
    watched = puts.whole;
    cut = λ is. absurd (cc is);
    every = λ is. absurd (cc is);
    cause = λ is. absurd (cc is);
    silent = λ is. absurd (cc is);
    left = puts.left;
    reads = puts.reads;
    later = puts.cause.later;
    receipt = λ _. took;
    none = λ is. absurd (cc is);
  }

  pub load-cut : {T E : Type 0} (x : E) (before after : DeskState) (gate gate_now : GateState)
      → OnlyPuts {T = T} {E = E} (SomeOut (AreLinesBy p w)) (SomeCutOff (AreLinesBy p w)) before after (Err x)
      → gate_now ≡ taking (numbers_by p workers) gate → Loads p workers w before after gate gate_now (Err fault.WatchFault)
  load-cut x before after gate gate_now puts took = record {
    loaded = tt;
    conserved = tt;
    left_in_order = tt;
    ordered = tt;
    watched = tt;
    cut = λ _. puts.refused;
    every = λ _. every-is p w before.taken after.taken puts.refused w.every refl;
    cause = λ _. puts.cause.failed;
    silent = λ is. absurd (cc is);
    left = puts.left;
    reads = puts.reads;
    later = puts.cause.later;
    receipt = λ _. took;
    none = λ is. absurd (cc is);
  }

-- the receipt of a floor that is closed
pub numbers-are : (k : Scope) (v : View) (journeys : List Journey) (writer : Known) (receipt : Receipt) (workers : ℕ)
    → IsClosed k v journeys writer receipt → v.weight ≡ workers → numbers_of receipt ≡ numbers_by k.plan workers
numbers-are k v journeys writer receipt workers c weight = rw (c.units, c.passes ∙ weight, c.vehicles) refl

pub took-receipt : (gate gate_now : GateState) (receipt : Receipt) (numbers : Numbers) → gate_now.closes ≡ one_more gate.closes
    → gate_now.last ≡ told_as (numbers_of receipt) gate.last → numbers_of receipt ≡ numbers → gate_now ≡ taking numbers gate
took-receipt gate gate_now receipt numbers closes last are =
    ap (λ (x : Option ℕ). record { closes = x; last = gate_now.last }) closes
    ∙ ap (λ (x : Option Numbers). record { closes = one_more gate.closes; last = x })
    (last ∙ ap (λ (n : Numbers). told_as n gate.last) are)

-- what went out from the first unit to the last line
pub all-put : {T E : Type 0} (p : Plan) (watch : Watch) (first last : Watcher) (posted : List Eight)
    (start between after : DeskState) (r : Result T E)
    → first.last ≡ 0 → first.failed ≡ false → first.watch ≡ watch → IsSameWatch first last
    → ((before : DeskState) → HasWatched first before start → HasWatched last before between)
    → ((q : Plan) (before : DeskState) → 1 ≤ q.horizon → posted ≡ posted_in q q.horizon → HasWatched last before between
    → OnlyPuts (SomeOut (AreLinesBy q last.watch)) (SomeCutOff (AreLinesBy q last.watch)) before after r)
    → 1 ≤ p.horizon → posted ≡ posted_in p p.horizon
    → OnlyPuts (SomeOut (AreLinesBy p watch)) (SomeCutOff (AreLinesBy p watch)) start after r
all-put p watch first last posted start between after r none whole is same work end far all =
    subst (λ (x : Watch). OnlyPuts (SomeOut (AreLinesBy p x)) (SomeCutOff (AreLinesBy p x)) start after r) (same.watch ∙ is)
    (end p start far all (work start (nothing-watched first start none whole)))

-- what a close of the floor of a loading gives
pub record HasClosed (p : Plan) (workers : ℕ) (journeys : List Journey) (writer : Known) (receipt : Receipt) : Type 0 where
  pub loaded : journeys ≡ journeys_of p
  pub posted : writer.list ≡ posted_in p p.horizon
  pub numbers : numbers_of receipt ≡ numbers_by p workers

pub has-closed : (p : Plan) (workers : ℕ) (k : Scope) (v : View) (journeys : List Journey) (writer : Known) (receipt : Receipt)
    → k.plan ≡ p → IsClosed k v journeys writer receipt → v.weight ≡ workers → HasClosed p workers journeys writer receipt
has-closed p workers k v journeys writer receipt is c weight =
    subst (λ (q : Plan). HasClosed q workers journeys writer receipt) is
    (record { loaded = c.loaded; posted = c.posted; numbers = numbers-are k v journeys writer receipt workers c weight })
