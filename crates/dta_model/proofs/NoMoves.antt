-- Vehicles without moves, and links that nobody is on.
use Rattle.std.specs.List.{list_any}
use Rattle.std.specs.Prelude.{filter, All}
use Rattle.std.proofs.Common.{◌≡◌, ℕ, Bool, true, false, cond, ◌||◌, List, [], ◌∷◌, refl, ap}
use Rattle.std.proofs.lemmas.List.Elements.{All-head, All-tail}
use Rattle.std.proofs.Math.Dec.{eqb}
use Rattle.dta_model.specs.Trace.{Move, has_moved, is_of, last_moves, leads_to, moves_of, queue_of}
use Rattle.dta_model.proofs.Queues.{vehicles}
use Rattle.dta_model.proofs.Totals.{all_last}

-- who doesn't move has no moves
pub no-moves : (v : ℕ) (M : List Move) → has_moved v M ≡ false → moves_of v M ≡ []
unfolding has_moved moves_of
no-moves v [] h = refl
no-moves v (m ∷ M) h = no_step (eqb m.vehicle v) h (no-moves v M)
  where
    no_step : (b : Bool) → (b || list_any (is_of v) M) ≡ false → (list_any (is_of v) M ≡ false → filter (is_of v) M ≡ []) → cond b (m ∷ filter (is_of v) M) (filter (is_of v) M) ≡ []
    no_step true e ih = cc
    no_step false e ih = ih e

pub filter_nothing : (p : Move → Bool) (L : List Move) → All (λ m. p m ≡ false) L → filter p L ≡ []
filter_nothing p [] all = refl
filter_nothing p (m ∷ L) all = rw (All-head (λ x. p x ≡ false) m L all) (filter_nothing p L (All-tail (λ x. p x ≡ false) m L all))

-- a list of moves that don't lead to a link has nobody on it
pub nobody-on : (l : ℕ) (M : List Move) → All (λ m. leads_to l m ≡ false) M → queue_of l M ≡ []
unfolding queue_of
nobody-on l M all = ap (λ L. vehicles L) (filter_nothing (leads_to l) (last_moves M) (all_last (λ m. leads_to l m ≡ false) M all))
