use Rattle.std.proofs.Common.{arith, w16}
use Rattle.std.proofs.lemmas.Simd.{Each1-from_get_or, Each2-splat}
use Rattle.labels.proofs.OfFilling.ElementFacts.{lesser_at, lesser_low, lesser_many}
use Rattle.labels.proofs.filling.eight.EightSlots.or_after.Goals as goal

pub overflow_add-later : goal.overflow_add-later
overflow_add-later c =
    Each2-splat _ c.args.left.labels 8 c.args.time (Each1-from_get_or _ c.args.left.labels 0 (λ i h. record { fits = (let low = c.args.left.low i in omega (arith, low, c.requires)) }))

pub invariant_of-result : goal.invariant_of-result
invariant_of-result c = record {
  many = lesser_many w16 8 c.args.self.labels c.args.left.labels c.args.time c.args.self.many c.args.left.many;
  low = lesser_low w16 8 c.args.self.labels c.args.left.labels c.args.time c.args.self.many c.args.left.many _ c.args.self.low;
}

pub returns : goal.returns
returns c = lesser_at w16 8 c.args.self.labels c.args.left.labels c.args.time c.args.self.many c.args.left.many
