-- Riders that hand over their journeys, one list after another.
use Rattle.std.specs.List.{flat_map, range_with_len}
use Rattle.std.specs.Prelude.{All}
use Rattle.std.proofs.Common.{◌≡◌, List, [], ◌∷◌, ◌++◌, length, map, take, drop, refl, ap, sym, ◌∙◌, subst, ℕ, arith, zero, suc, ◌+◌, ◌<◌, ◌≤◌}
use Rattle.std.proofs.lemmas.List.Elements.{All-append, All-nil}
use Rattle.std.proofs.lemmas.List.FromFn.{length-map-range_with_len}
use Rattle.dta_model.specs.Loading.{journeys_of}
use Rattle.dta_model.specs.Plans.{all_nodes, vehicle_count}
use Rattle.dta_model.specs.Riders.{RiderState}
use Rattle.dta_model.specs.Sound.{IsSound}
use Rattle.dta_model.specs.declared.plan.Plan.{Plan}
use Rattle.dta_model.specs.declared.loaded.Journey.{Journey}
use Rattle.cell_stages.specs.CellState.{CellState}
use Rattle.node_transfer.specs.Hand.{Within, handed, riders_in}
use Rattle.node_transfer.proofs.OfHandOver.Hands.{all_split}
use Rattle.cell_stages.specs.Contents.{away, cell_before}
use Rattle.node_transfer.proofs.OfHandOver.HandOver.{cells_hand_over, handed-length}
use Rattle.node_transfer.specs.Start.{cells_at_start, no_journey, no_journeys}
use Rattle.node_transfer.proofs.OfMail.Numbers.{cell-count}

handed-append : (xs ys : List RiderState) (loaded : List Journey) → handed (xs ++ ys) loaded ≡ handed ys (handed xs loaded)
unfolding handed
handed-append [] ys loaded = refl
handed-append (r ∷ xs) ys loaded = handed-append xs ys _

pub nothing-left : (cells : List CellState) → length cells ≡ 0 → cells ≡ []
nothing-left [] h = refl
nothing-left (x ∷ cells) h = absurd (omega (arith, h))

-- the riders of the first cell, and of the others
pub first-within : (n : ℕ) (cells rest : List CellState) (cell : CellState) → cells ≡ cell ∷ rest → All (Within n) (flat_map riders_in cells) → All (Within n) (riders_in cell)
first-within n cells rest cell e a = (all_split (Within n) (riders_in cell) (flat_map riders_in rest) (subst (λ cs. All (Within n) (flat_map riders_in cs)) e a)).0

pub rest-within : (loaded loaded' : List Journey) (cells rest : List CellState) (cell : CellState) → cells ≡ cell ∷ rest → loaded' ≡ handed (riders_in cell) loaded
    → All (Within (length loaded)) (flat_map riders_in cells) → All (Within (length loaded')) (flat_map riders_in rest)
rest-within loaded loaded' cells rest cell e h a =
    subst (λ n. All (Within n) (flat_map riders_in rest)) (sym (ap (λ xs. length xs) h ∙ handed-length (riders_in cell) loaded))
    (all_split (Within (length loaded)) (riders_in cell) (flat_map riders_in rest) (subst (λ cs. All (Within (length loaded)) (flat_map riders_in cs)) e a)).1

pub rest-handed : (loaded loaded' : List Journey) (cells rest : List CellState) (cell : CellState) → cells ≡ cell ∷ rest → loaded' ≡ handed (riders_in cell) loaded
    → handed (flat_map riders_in cells) loaded ≡ handed (flat_map riders_in rest) loaded'
rest-handed loaded loaded' cells rest cell e h =
    ap (λ cs. handed (flat_map riders_in cs) loaded) e
    ∙ handed-append (riders_in cell) (flat_map riders_in rest) loaded
    ∙ ap (λ xs. handed (flat_map riders_in rest) xs) (sym h)

pub none-handed : (loaded : List Journey) (cells : List CellState) → cells ≡ [] → handed (flat_map riders_in cells) loaded ≡ loaded
unfolding handed
none-handed loaded cells e = ap (λ cs. handed (flat_map riders_in cs) loaded) e

-- a slice of a whole vector, given back
none-taken : (n : ℕ) (old : List CellState) → length old ≡ 0 → take n old ≡ []
none-taken zero old h = refl
none-taken (suc n) [] h = refl
none-taken (suc n) (x ∷ old) h = absurd (omega (arith, h))

pub given-back : (n : ℕ) (new old : List CellState) → length new ≡ n → length old ≡ n → take n (new ++ drop (length new) old) ≡ new
given-back n [] old e h = none-taken n old (h ∙ sym e)
given-back n (x ∷ new) [] e h = absurd (omega (arith, e, h))
given-back zero (x ∷ new) (y ∷ old) e h = absurd (omega (arith, e))
given-back (suc n) (x ∷ new) (y ∷ old) e h = ap (λ xs. x ∷ xs) (given-back n new old (omega (arith, e)) (omega (arith, h)))

-- the riders of all cells
flat-range : (N : ℕ) (cell : ℕ → CellState) (n a : ℕ) → ((i : ℕ) → a ≤ i → i < a + n → All (Within N) (riders_in (cell i))) → All (Within N) (flat_map riders_in (map cell (range_with_len a n)))
flat-range N cell zero a h = All-nil (Within N)
flat-range N cell (suc n) a h =
    All-append (Within N) (riders_in (cell a)) (flat_map riders_in (map cell (range_with_len (a + 1) n)))
    (h a (omega arith) (omega arith)) (flat-range N cell n (a + 1) (λ i low high. h i (omega (arith, low)) (omega (arith, high))))

-- the cells of all nodes before step t
abbrev pub cells_before : Plan → ℕ → List CellState
cells_before p t = map (λ n. cell_before p n t away away) (all_nodes p)

pub all-within : (p : Plan) → IsSound p → (t : ℕ) → All (Within (vehicle_count p)) (flat_map riders_in (cells_before p t))
all-within p sound t =
    let law = cells_hand_over p sound in
    flat-range (vehicle_count p) (λ n. cell_before p n t away away) (length p.net.nodes) 0 (λ i low high. law.within i t away away (omega (arith, high)))

-- the cells at the end of a loading, written into the list that they came in, hand over its journeys
module _ (p : Plan) (sound : IsSound p) (count : ℕ) (start end : List CellState) (loaded : List Journey)
    (many : length start ≡ count) (first : start ≡ cells_at_start p) (last : end ≡ cells_before p p.horizon)
    (fresh : loaded ≡ no_journeys (vehicle_count p)) where
  at-end : take count (end ++ drop (length end) start) ≡ cells_before p p.horizon
  at-end =
      let given = ap (λ xs. length xs) first in
      let done = ap (λ xs. length xs) last in
      let before = cell-count p (λ n. cell_before p n 0 away away) in
      let after = cell-count p (λ n. cell_before p n p.horizon away away) in
      given-back count end start (omega (arith, many, given, before, after, done)) many ∙ last

  pub end-within : All (Within (length loaded)) (flat_map riders_in (take count (end ++ drop (length end) start)))
  end-within =
      let vehicles = ap (λ xs. length xs) fresh ∙ length-map-range_with_len (λ v. no_journey) 0 (vehicle_count p) in
      subst (λ cells. All (Within (length loaded)) (flat_map riders_in cells)) (sym at-end)
      (subst (λ n. All (Within n) (flat_map riders_in (cells_before p p.horizon))) (sym vehicles) (all-within p sound p.horizon))

  pub end-handed : handed (flat_map riders_in (take count (end ++ drop (length end) start))) loaded ≡ journeys_of p
  end-handed =
      ap (λ cells. handed (flat_map riders_in cells) loaded) at-end
      ∙ ap (λ xs. handed (flat_map riders_in (cells_before p p.horizon)) xs) fresh
      ∙ (cells_hand_over p sound).journeys
