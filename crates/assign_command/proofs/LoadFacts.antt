-- The loading of an iteration.
use Rattle.std.proofs.Common.{◌≡◌, ℕ, Bool, false, List, refl, ap, subst, sym, ◌∙◌, arith, inl}
use Rattle.std.specs.Prelude.{Result, Ok, Err}
use Rattle.desk_io.specs.State.{DeskState}
use Rattle.dta_model.specs.Loading.{journeys_of}
use Rattle.dta_model.specs.declared.loaded.Journey.{Journey}
use Rattle.dta_model.specs.declared.plan.Plan.{Plan}
use Rattle.dta_words.specs.declared.command.Settings.{Settings}
use Rattle.loader.specs.Gates.{GateState, Numbers, numbers_by, taking}
use Rattle.loader.specs.Loads.{Loads}
use Rattle.loader.specs.declared.loading.LoadFault.{LoadFault}
use Rattle.loader.specs.declared.loading.LoadFault.TheVariants as fault
use Rattle.assignment.specs.Assignment.{Traffic, VehicleRoutes, plan_of}
use Rattle.assign_command.specs.Calls.{OnlyWatches}
use Rattle.pending_text.specs.Outs.{SomeCutOff, SomeOut}
use Rattle.reports.specs.Watch.{AreLinesOf}
use Rattle.commands.specs.Texts.{AreWatchLines}
use Rattle.assign_command.specs.Progress.{HaltsIn, halt_of}
use Rattle.assign_command.specs.Receipts.{Gives, by_workers, numbers_in}
use Rattle.assign_command.specs.declared.halt.Halt.{Halt}
use Rattle.assign_command.proofs.ReceiptFacts.{numbers-are}

-- a loading by workers, as a loading of an iteration
module _ (s : Settings) (traffic : Traffic) (iteration : ℕ) (routes : VehicleRoutes) (by : s.plain ≡ false)
    (before after : DeskState) (gate now : GateState) where
  abbrev LoadsBy : Plan → Result (List Journey) LoadFault → Type 0
  LoadsBy p r = Loads p s.workers (record { iteration = iteration; every = s.watch }) before after gate now r

  -- the loading of a plan is that of the iteration
  its-own : (p : Plan) (r : Result (List Journey) LoadFault) → p ≡ plan_of s traffic routes → LoadsBy p r → LoadsBy (plan_of s traffic routes) r
  its-own p r e h = subst (λ (q : Plan). LoadsBy q r) e h

  one : now ≡ taking (numbers_by (plan_of s traffic routes) s.workers) gate → now ≡ taking (numbers_in s traffic) gate
  one took = took ∙ ap (λ (n : Numbers). taking n gate) (numbers-are s traffic routes)

  pub journeys-are : (journeys : List Journey) (p : Plan) → p ≡ plan_of s traffic routes → LoadsBy p (Ok journeys)
      → journeys ≡ journeys_of (plan_of s traffic routes)
  journeys-are journeys p e loads = (its-own p (Ok journeys) e loads).loaded

  pub loaded-watches : {T : Type 0} (x : T) (journeys : List Journey) (p : Plan) → p ≡ plan_of s traffic routes → LoadsBy p (Ok journeys)
      → OnlyWatches {T = T} (λ _. SomeOut (AreWatchLines s traffic iteration routes)) (HaltsIn s traffic iteration routes) before after (Ok x)
  loaded-watches x journeys p e loads =
      let h = its-own p (Ok journeys) e loads in
      record {
        done = subst (λ (b : Bool). SomeOut (AreLinesOf s.watch b iteration (plan_of s traffic routes)) before.taken after.taken) (sym by) h.watched;
        halts = tt;
        failed = tt;
        later = h.later;
        left = h.left;
        reads = h.reads;
      }

  pub loaded-gives : {T : Type 0} (x : T) (journeys : List Journey) (p : Plan) → p ≡ plan_of s traffic routes → LoadsBy p (Ok journeys)
      → Gives {T = T} {E = Halt} (by_workers s.plain 1) (numbers_in s traffic) gate now (Ok x)
  loaded-gives x journeys p e loads =
      let h = its-own p (Ok journeys) e loads in
      rw by (record { all = one (h.receipt (λ e. absurd cc)); some = tt })

  pub fault-watches : {T : Type 0} (why : LoadFault) (p : Plan) → p ≡ plan_of s traffic routes → LoadsBy p (Err why)
      → OnlyWatches {T = T} (λ _. SomeOut (AreWatchLines s traffic iteration routes)) (HaltsIn s traffic iteration routes) before after (Err (halt_of why))
  fault-watches fault.Memory p e loads =
      let h = its-own p (Err fault.Memory) e loads in
      record {
        done = tt;
        halts = inl (h.silent refl);
        failed = λ e. absurd cc;
        later = h.later;
        left = h.left;
        reads = h.reads;
      }
  fault-watches fault.WatchFault p e loads =
      let h = its-own p (Err fault.WatchFault) e loads in
      record {
        done = tt;
        halts = subst (λ (b : Bool). SomeCutOff (AreLinesOf s.watch b iteration (plan_of s traffic routes)) before.taken after.taken) (sym by) (h.cut refl);
        failed = λ _. h.cause refl;
        later = h.later;
        left = h.left;
        reads = h.reads;
      }

  pub fault-gives : {T : Type 0} (why : LoadFault) (p : Plan) → p ≡ plan_of s traffic routes → LoadsBy p (Err why)
      → Gives {T = T} {E = Halt} (by_workers s.plain 1) (numbers_in s traffic) gate now (Err (halt_of why))
  fault-gives fault.Memory p e loads =
      let h = its-own p (Err fault.Memory) e loads in
      rw by (record { all = tt; some = (0, omega arith, h.none refl) })
  fault-gives fault.WatchFault p e loads =
      let h = its-own p (Err fault.WatchFault) e loads in
      rw by (record { all = tt; some = (1, omega arith, one (h.receipt (λ e. absurd cc))) })
