use Rattle.std.proofs.Common.{◌≡◌, ◌+◌, ◌-◌, ◌/◌, ◌<◌, ◌≤◌, ◌∙◌, arith, ap, sym}
use Rattle.std.specs.Prelude.{max, min}
use Rattle.trip_costs.specs.Entries.{EntryTable, entry_at, number_at, number_before, numbers_to}
use Rattle.trip_costs.proofs.Entering.{among_told, entry_early, entry_late}
use Rattle.trip_costs.proofs.entries.Entries.enter.Goals as goal

pub returns-then-step-from-clause-step : goal.returns-then-step-from-clause-step
returns-then-step-from-clause-step c =
    let e : EntryTable = record { bucket = c.self.inside.bucket; horizon = c.self.inside.horizon; numbers = c.self.inside.numbers.items } in
    let early : c.args.step < c.self.inside.horizon = omega (arith, c.if-step-from.true, c.from.ensures) in
    let number : c.number_at-number.result ≡ number_at c.self.inside.numbers.items (numbers_to e) c.args.link.0 (c.args.step / c.self.inside.bucket) =
    c.number_at-number.ensures ∙ ap (λ xs. number_at xs c.self.inside.buckets c.args.link.0 (c.args.step / c.self.inside.bucket)) c.deref.ensures.value ∙ ap (λ n. number_at c.self.inside.numbers.items n c.args.link.0 (c.args.step / c.self.inside.bucket)) c.self.invariant.buckets in
    let before : c.number_before-before.result ≡ number_before c.self.inside.numbers.items (numbers_to e) c.args.link.0 (c.args.step / c.self.inside.bucket) =
    c.number_before-before.ensures ∙ ap (λ xs. number_before xs c.self.inside.buckets c.args.link.0 (c.args.step / c.self.inside.bucket)) c.deref-then-step-from.ensures.value ∙ ap (λ n. number_before c.self.inside.numbers.items n c.args.link.0 (c.args.step / c.self.inside.bucket)) c.self.invariant.buckets in
    let is : c.max-then-step-from.result ≡ max (min (max (c.args.step + c.number_at-number.result - c.last_of-last.result) c.number_before-before.result) c.self.inside.horizon) c.args.step =
    omega (arith, c.from-then-step-from.ensures, c.from-then-step-from-2.ensures, c.from-then-step-from-3.ensures, c.from-then-step-from-4.ensures, c.saturating_sub-own.ensures, c.max.ensures, c.min.ensures, c.max-then-step-from.ensures) in
    among_told c.self.inside.horizon _ _ _ c.args.step c.last_of-last.result c.number_before-before.result c.number_at-number.result c.max-then-step-from.result c.last_of-last.ensures.is before number is
    ∙ sym (entry_early e c.args.link.0 c.args.step early)
    ∙ ap (λ t. entry_at t c.args.link.0 c.args.step) c.self.view_is

pub returns-else-step-from-clause-step : goal.returns-else-step-from-clause-step
returns-else-step-from-clause-step c =
    let e : EntryTable = record { bucket = c.self.inside.bucket; horizon = c.self.inside.horizon; numbers = c.self.inside.numbers.items } in
    let late : c.self.inside.horizon ≤ c.args.step = omega (arith, c.if-step-from.false, c.from.ensures) in
    sym (entry_late e c.args.link.0 c.args.step late) ∙ ap (λ t. entry_at t c.args.link.0 c.args.step) c.self.view_is
