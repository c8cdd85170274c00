use Rattle.std.proofs.Common.{◌≡◌, ◌∙◌, ◌∷◌, ◌++◌, [], arith, ap, sym, rules}
use Rattle.std.specs.Prelude.{Ok}
use Rattle.std.proofs.lemmas.List.Elements.{All-push, All-same}
use Rattle.gmns_tables.specs.Windows.{IsWindowOf}
use Rattle.gmns_tables.proofs.StepsFacts.{part_at, windows_far, windows_more}
use Rattle.gmns_tables.proofs.windows.windows.Goals as goal

pub window-requires-clause-form : goal.window-requires-clause-form
window-requires-clause-form c = part_at c.args.kind c.args.parts.now c.loop-part.part-index _ (omega arith) c.requires.form

pub returns-in-Err-clause-windows : goal.returns-in-Err-clause-windows
returns-in-Err-clause-windows c =
    rw c.refused.ensures (windows_far c.args.kind c.args.parts.now c.loop-part.part-index _ c.in-Err.field-0 (omega arith) (sym c.in-Err.is ∙ c.window.ensures.window))

pub loop-part-preserved : goal.loop-part-preserved
loop-part-preserved c =
    let items : c.push.new.self.items ≡ c.loop-part.windows.items ++ c.in-Ok.window ∷ [] = search rules in
    record {
      read = windows_more c.args.kind c.args.parts.now c.loop-part.part-index _ c.loop-part.windows.items c.in-Ok.window (omega arith) c.loop-part.invariant.read (sym c.in-Ok.is ∙ c.window.ensures.window)
          ∙ ap Ok (sym items);
      range = All-same (IsWindowOf c.args.kind) _ _ items (All-push (IsWindowOf c.args.kind) c.loop-part.windows.items c.in-Ok.window c.loop-part.invariant.range (rw c.in-Ok.is at c.window.ensures.range));
    }
