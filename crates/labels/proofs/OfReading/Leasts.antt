-- The least label of the first links.
use Rattle.std.proofs.Common.{◌≡◌, ◌⊎◌, inl, inr, ℕ, ◌+◌, ◌-◌, ◌≤◌, ◌<◌, Bool, List, length, ap, sym, ◌∙◌, subst, arith, Some, None}
use Rattle.std.proofs.lemmas.Bool.{cases_lt}
use Rattle.std.proofs.lemmas.Bool.Decides.{nat_tests}
use Rattle.std.proofs.lemmas.Option.{slice_get_within}
use Rattle.net_core.specs.declared.rows.NetRows.{NetRows}
use Rattle.labels.specs.Filling.Labels.{far}
use Rattle.labels.specs.Filling.Rests.{label_of}
use Rattle.labels.specs.Reading.OfZone.{AreFit, first_to, rest_to}
use Rattle.labels.specs.Reading.FirstLinks.{AreFirsts, first_label}
use Rattle.labels.specs.Reading.Paths.{later, path_time, IsLeastPath}
use Rattle.labels.specs.States.Routers.{ways_to}
use Rattle.labels.specs.Reading.Serves.{label_in, BestSoFar, IsBest, Serves}
use Rattle.labels.specs.States.RouterWays.{is_own, onwards, state_of}
use Rattle.labels.specs.declared.reading.zone_labels.ZoneLabels.{ZoneLabels}
use Rattle.labels.specs.declared.states.router.Router.{Router}
use Rattle.trip_costs.specs.WalkCosts.{enter_in, steps_in, table_in}
use Rattle.labels.proofs.Basics.{some_same}
use Rattle.labels.proofs.OfReading.LabelFacts.{AreLabels}
use Rattle.labels.proofs.OfFilling.LeastOver.{are_labels, some_label}
use Rattle.labels.proofs.OfReading.Joined.{least_is, none_is}

module _ (net : NetRows) (zone : ℕ) (at rest : ℕ → ℕ → ℕ) (r : Router) (v : Serves net zone at rest r) where
  pub are_labels_of : AreLabels (ways_to at net zone) (label_in at rest r)
  are_labels_of = are_labels (ways_to at net zone) (is_own r zone) (state_of r) (onwards r) rest (length r.states.items) (length r.zones.items) far v.most v.longest v.routes.turns v.rests v.near v.short v.room

  pub near_of : (l e m : ℕ) → label_in at rest r l e ≡ Some m → (rest (state_of r l) (e + at l e) < far) × (l < length r.states.items)
  near_of l e m h =
      let s = some_label (ways_to at net zone) (is_own r zone) (state_of r) (onwards r) rest (length r.states.items) (length r.zones.items) far v.most v.longest v.routes.turns v.rests v.near v.short v.room l e m h in
      (s.0, s.2)

  pub goes_some : (l e m : ℕ) → label_in at rest r l e ≡ Some m → 0 < at l e
  goes_some l e m h = v.takes_time l e ((near_of l e m h).1)

  pub none_of : (enter : ℕ → ℕ → ℕ) (begins : ℕ → Bool) (firsts : List ℕ) → AreFirsts begins firsts → (step : ℕ) → BestSoFar (first_label enter (label_in at rest r) step) firsts (length firsts) None
      → (w : List ℕ) → path_time (ways_to at net zone) enter begins step w ≡ None
  none_of enter begins firsts are step h = none_is (ways_to at net zone) (label_in at rest r) are_labels_of goes_some enter begins firsts are step (λ k l s. h k l (slice_get_within firsts k l s) s)

  pub least_of : (enter : ℕ → ℕ → ℕ) (begins : ℕ → Bool) (firsts : List ℕ) → AreFirsts begins firsts → (step l m : ℕ) → IsBest (first_label enter (label_in at rest r) step) firsts (length firsts) l m
      → IsLeastPath (ways_to at net zone) enter begins step m
  least_of enter begins firsts are step l m h = least_is (ways_to at net zone) (label_in at rest r) are_labels_of goes_some enter begins firsts are step m (record { some = (h.place, l, h.stands, h.gives); least = λ k l x s e. h.least k l x (slice_get_within firsts k l s) s e })

-- the label of a link, where there is a walk, and where there is none
label_there : (at : ℕ → ℕ → ℕ) (links : ℕ) (state : ℕ → ℕ) (rest : ℕ → ℕ → ℕ) (far l e : ℕ)
    → l < links → rest (state l) (e + at l e) < far
    → label_of at links state rest far l e ≡ Some (at l e + rest (state l) (e + at l e))
unfolding label_of
label_there at links state rest far l e within near = grind (arith, nat_tests)

label_none : (at : ℕ → ℕ → ℕ) (links : ℕ) (state : ℕ → ℕ) (rest : ℕ → ℕ → ℕ) (far l e : ℕ)
    → far ≤ rest (state l) (e + at l e) → label_of at links state rest far l e ≡ None
unfolding label_of
label_none at links state rest far l e above = grind (arith, nat_tests)

-- the time over a first link: what it takes by itself from a step on, and what is left then
module _ (l : ZoneLabels) (k s entry time : ℕ) (fit : AreFit l) (within : k < length (table_in l.costs).free)
    (enters : entry ≡ enter_in l.costs k s) (takes : time ≡ steps_in l.costs k entry) where
  abbrev left : ℕ → ℕ
  left e = rest_to l (state_of l.router.now k) e

  inside : k < length l.router.now.states.items
  inside = omega (arith, within, fit.links)

  same_time : time ≡ steps_in l.costs k (enter_in l.costs k s)
  same_time = takes ∙ ap (λ e. steps_in l.costs k e) enters

  same_end : entry + time ≡ enter_in l.costs k s + steps_in l.costs k (enter_in l.costs k s)
  same_end = omega (arith, enters, same_time)

  pub first_there : left (entry + time) < far → first_to l s k ≡ Some (entry - s + time + left (entry + time))
  first_there near =
      let label = label_there (steps_in l.costs) (length l.router.now.states.items) (state_of l.router.now) (rest_to l) far k (enter_in l.costs k s) inside (subst (λ e. left e < far) same_end near) in
      let rest : left (entry + time) ≡ left (enter_in l.costs k s + steps_in l.costs k (enter_in l.costs k s)) = ap left same_end in
      ap (λ o. later (enter_in l.costs k s - s) o) label ∙ ap (λ x. Some x) (omega (arith, enters, same_time, rest))

  pub first_is : (x : ℕ) → first_to l s k ≡ Some x → (x ≡ entry - s + time + left (entry + time)) × (left (entry + time) < far)
  first_is x h = by (cases_lt (left (entry + time)) far)
    where
      by : (left (entry + time) < far) ⊎ (far ≤ left (entry + time)) → (x ≡ entry - s + time + left (entry + time)) × (left (entry + time) < far)
      by (inl near) = (some_same x _ (sym h ∙ first_there near), near)
      by (inr above) =
          let label = label_none (steps_in l.costs) (length l.router.now.states.items) (state_of l.router.now) (rest_to l) far k (enter_in l.costs k s) (subst (λ e. far ≤ left e) same_end above) in
          let none : None ≡ Some x = sym (ap (λ o. later (enter_in l.costs k s - s) o) label) ∙ h in
          cc
