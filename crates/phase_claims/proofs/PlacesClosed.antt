-- The cells of a closed floor hand over their journeys, one after another.
use Rattle.std.specs.Prelude.{All, slice_set}
use Rattle.std.specs.List.{flat_map}
use Rattle.std.proofs.Common.{◌≡◌, Bool, lt_of_not-le, ℕ, zero, suc, ◌+◌, ◌<◌, ◌≤◌, true, false, List, [], ◌∷◌, ◌++◌, length, map, get_or, refl, sym, ap, ◌∙◌, subst, append-nil, append_assoc, arith}
use Rattle.std.proofs.lemmas.List.{get_or-set_other, length-map}
use Rattle.std.proofs.lemmas.List.FromFn.{length-range_with_len}
use mathlib.Core.Logic.{dite}
use native.Mathlib.Decide.{dec_le}
use mathlib.Core.Option.{some, some-injective}
use lib.ListN.{get_elem?}
use Rattle.net_core.specs.Network.{numbers_below}
use Rattle.dta_model.specs.Loading.{journeys_of}
use Rattle.dta_model.specs.Plans.{vehicle_count}
use Rattle.dta_model.specs.Sound.{IsSound}
use Rattle.dta_model.specs.Units.{node_count}
use Rattle.dta_model.specs.declared.loaded.Journey.{Journey}
use Rattle.dta_model.specs.declared.plan.Plan.{Plan}
use Rattle.cell_stages.specs.CellState.{CellState}
use Rattle.cell_stages.specs.Contents.{away, cell_before}
use Rattle.node_transfer.specs.Hand.{Within, handed, riders_in}
use Rattle.node_transfer.specs.Start.{no_journeys}
use Rattle.node_transfer.proofs.OfHandOver.HandOver.{cells_hand_over, handed-length}
use Rattle.net_core.proofs.Numbers.{numbers_grow}
use Rattle.phase_claims.specs.declared.part.Part.{Part}
use Rattle.phase_claims.specs.declared.part.Part.TheVariants.{Cell}
use Rattle.phase_claims.specs.PlacesClosed.{AreLast, HasCell}
use Rattle.phase_claims.proofs.PlacesRound.{same_cell}
use Rattle.dta_model.specs.Riders.{RiderState}

handed_append : (xs ys : List RiderState) (loaded : List Journey) → handed (xs ++ ys) loaded ≡ handed ys (handed xs loaded)
unfolding handed
handed_append [] ys loaded = refl
handed_append (r ∷ xs) ys loaded = handed_append xs ys _

flat_snoc : (cell : ℕ → CellState) (xs : List ℕ) (x : ℕ) → flat_map riders_in (map cell (xs ++ x ∷ [])) ≡ flat_map riders_in (map cell xs) ++ riders_in (cell x)
flat_snoc cell [] x = append-nil (riders_in (cell x))
flat_snoc cell (y ∷ xs) x = ap (λ ys. riders_in (cell y) ++ ys) (flat_snoc cell xs x) ∙ sym (append_assoc (riders_in (cell y)) (flat_map riders_in (map cell xs)) (riders_in (cell x)))

module _ (p : Plan) where
  abbrev last_cell : ℕ → CellState
  last_cell n = cell_before p n p.horizon away away

  -- the journeys once the first cells have handed over
  abbrev pub handed_by : ℕ → List Journey
  handed_by n = handed (flat_map riders_in (map last_cell (numbers_below n))) (no_journeys (vehicle_count p))

module _ (p : Plan) (sound : IsSound p) where
  abbrev cell_at_end : ℕ → CellState
  cell_at_end n = last_cell p n

  pub none_handed : (loaded : List Journey) → loaded ≡ no_journeys (vehicle_count p) → loaded ≡ handed_by p 0
  unfolding handed
  none_handed loaded e = e

  module _ (parts : List Part) (are : AreLast p parts) (n : ℕ) (h : n < node_count p) where
    pub has_cell : HasCell n parts
    has_cell = (cell_at_end n, are n h)

    module _ (cell : CellState) (got : get_elem? parts n ≡ some (Cell cell)) where
      cell_is : cell ≡ cell_at_end n
      cell_is = same_cell cell (cell_at_end n) (some-injective (Cell cell) (Cell (cell_at_end n)) (sym got ∙ are n h))

      pub may_hand : (loaded : List Journey) → loaded ≡ handed_by p n → All (Within (length loaded)) (riders_in cell)
      may_hand loaded e =
          let count : length loaded ≡ vehicle_count p = ap (λ xs. length xs) e ∙ handed-length (flat_map riders_in (map cell_at_end (numbers_below n))) (no_journeys (vehicle_count p)) ∙ many in
          subst (λ (x : ℕ). All (Within x) (riders_in cell)) (sym count) (subst (λ (x : CellState). All (Within (vehicle_count p)) (riders_in x)) (sym cell_is) ((cells_hand_over p sound).within n p.horizon away away h))
        where
          many : length (no_journeys (vehicle_count p)) ≡ vehicle_count p
          many = length-map (numbers_below (vehicle_count p)) _ ∙ length-range_with_len 0 (vehicle_count p)

      pub hands_over : (loaded loaded' : List Journey) → loaded ≡ handed_by p n → loaded' ≡ handed (riders_in cell) loaded → loaded' ≡ handed_by p (n + 1)
      hands_over loaded loaded' e now =
          let next : handed_by p (suc n) ≡ handed (riders_in (cell_at_end n)) (handed_by p n) =
          ap (λ xs. handed (flat_map riders_in (map cell_at_end xs)) (no_journeys (vehicle_count p))) (numbers_grow 0 n (0 + n) refl)
          ∙ ap (λ xs. handed xs (no_journeys (vehicle_count p))) (flat_snoc cell_at_end (numbers_below n) (0 + n))
          ∙ handed_append (flat_map riders_in (map cell_at_end (numbers_below n))) (riders_in (cell_at_end (0 + n))) (no_journeys (vehicle_count p))
          ∙ ap (λ x. handed (riders_in (cell_at_end x)) (handed_by p n)) (let z : 0 + n ≡ n = omega arith in z) in
          now ∙ ap (λ x. handed (riders_in x) loaded) cell_is ∙ ap (λ xs. handed (riders_in (cell_at_end n)) xs) e ∙ sym next
          ∙ ap (λ x. handed_by p x) (let more : suc n ≡ n + 1 = omega arith in more)

  pub all_handed : (loaded : List Journey) (n : ℕ) → loaded ≡ handed_by p n → n ≡ node_count p → loaded ≡ journeys_of p
  all_handed loaded n e whole = e ∙ ap (λ x. handed_by p x) whole ∙ (cells_hand_over p sound).journeys

-- one more slot is no more filled
get_here : (fs : List Bool) (i : ℕ) → get_or (slice_set fs i false) i false ≡ false
get_here [] i = refl
get_here (f ∷ fs) zero = refl
get_here (f ∷ fs) (suc i) = get_here fs i

pub still_filled : (fs gs : List Bool) (n len : ℕ) → gs ≡ slice_set fs n false → ((k : ℕ) → n ≤ k → k < len → get_or fs k false ≡ true) → (k : ℕ) → n + 1 ≤ k → k < len → get_or gs k false ≡ true
still_filled fs gs n len e h k low high = ap (λ xs. get_or xs k false) e ∙ get_or-set_other fs n k false false (λ q. omega (arith, q, low)) ∙ h k (omega (arith, low)) high

pub no_more_filled : (fs gs : List Bool) (n : ℕ) → gs ≡ slice_set fs n false → ((k : ℕ) → k < n → get_or fs k false ≡ false) → (k : ℕ) → k < n + 1 → get_or gs k false ≡ false
no_more_filled fs gs n e h k l = ap (λ xs. get_or xs k false) e ∙ dite (dec_le n k)
    (λ here. let same : n ≡ k = omega (arith, here, l) in subst (λ (x : ℕ). get_or (slice_set fs n false) x false ≡ false) same (get_here fs n))
    (λ low. let low' : k < n = lt_of_not-le low in get_or-set_other fs n k false false (λ q. omega (arith, q, low')) ∙ h k low')
