use Rattle.std.proofs.Common.{◌≡◌, ℕ, ◌+◌, ◌<◌, false, get_or}
use Rattle.std.specs.Mem.Slots.{slots_filled, slots_items, slots_len}
use Rattle.std.specs.Mem.Slots.Ownership.{Filled}
use Rattle.dta_model.specs.Lent.{plan_of}
use Rattle.phase_claims.proofs.PlacesClosed.{handed_by}
use Rattle.phase_claims.proofs.work_close.take_parts.Given as goal

abbrev pub invariant-loop-n : goal.invariant-loop-n
invariant-loop-n l =
    (slots_items l.closed.slots ≡ slots_items l.initial.closed.slots)
    × (slots_len l.closed.slots ≡ slots_len l.initial.closed.slots)
    × Filled (slots_filled l.closed.slots) l.n (slots_len l.closed.slots) × ((k : ℕ) → k < l.n → get_or (slots_filled l.closed.slots) k false ≡ false)
    × (l.loaded ≡ handed_by (plan_of l.loading) l.n)

abbrev pub invariant-loop-l : goal.invariant-loop-l
invariant-loop-l l =
    (slots_items l.closed.slots ≡ slots_items l.initial.closed.slots)
    × (slots_len l.closed.slots ≡ slots_len l.initial.closed.slots)
    × Filled (slots_filled l.closed.slots) (l.nodes + l.l) (slots_len l.closed.slots) × ((k : ℕ) → k < l.nodes + l.l → get_or (slots_filled l.closed.slots) k false ≡ false)
