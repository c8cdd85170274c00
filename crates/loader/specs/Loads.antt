-- What a loading by workers answers, and what it does to the desk and to the gate.
use Rattle.std.specs.Prelude.{◌≡◌, ◌≢◌, ℕ, ◌<◌, ◌≤◌, List, Result, Err, IfOk, OnOk}
use Rattle.desk_io.specs.Faults.{Rose}
use Rattle.desk_io.specs.State.{DeskState}
use Rattle.dta_model.specs.Laws.{EndInOrder, LinksAreLeftInOrder, StaysConserved}
use Rattle.dta_model.specs.Loading.{journeys_of}
use Rattle.dta_model.specs.declared.loaded.Journey.{Journey}
use Rattle.dta_model.specs.declared.plan.Plan.{Plan}
use Rattle.pending_text.specs.Outs.{SomeCutOff, SomeOut}
use Rattle.loader.specs.Gates.{GateState, numbers_by, taking}
use Rattle.loader.specs.Watching.{AreLinesBy}
use Rattle.loader.specs.declared.loading.LoadFault.{LoadFault}
use Rattle.loader.specs.declared.loading.LoadFault.TheVariants as fault
use Rattle.loader.specs.declared.watch.Watch.{Watch}

pub record Loads (p : Plan) (workers : ℕ) (watch : Watch) (before after : DeskState)
    (gate gate_now : GateState) (result : Result (List Journey) LoadFault) : Type 0 where
  -- the journeys are those of the plain simulator
  pub loaded : IfOk result (λ journeys. journeys ≡ journeys_of p)
  -- after every step each due vehicle waits, is on one link or has arrived, and links are left in
  -- the order of entry: in the trace, and so in the journeys
  pub conserved : IfOk result (λ _. StaysConserved p)
  pub left_in_order : IfOk result (λ _. LinksAreLeftInOrder p)
  pub ordered : IfOk result (EndInOrder p)
  -- the watch lines of the loading went out. Where one couldn't be put, those before it did and a
  -- first part of it, and the count of failed puts rose. Without enough memory nothing went out
  pub watched : OnOk result (SomeOut (AreLinesBy p watch) before.taken after.taken)
  pub cut : result ≡ Err fault.WatchFault
      → SomeCutOff (AreLinesBy p watch) before.taken after.taken
  pub every : result ≡ Err fault.WatchFault → 0 < watch.every
  pub cause : result ≡ Err fault.WatchFault → Rose before.put_faults after.put_faults
  pub silent : result ≡ Err fault.Memory → after.taken ≡ before.taken
  -- nothing was read, and the count of failed puts didn't fall
  pub left : after.left ≡ before.left
  pub reads : after.read_faults ≡ before.read_faults
  pub later : before.put_faults ≤ after.put_faults
  -- the gate took one receipt, and none where there wasn't enough memory
  pub receipt : result ≢ Err fault.Memory → gate_now ≡ taking (numbers_by p workers) gate
  pub none : result ≡ Err fault.Memory → gate_now ≡ gate
