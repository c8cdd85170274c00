-- The cells, wake steps and mail before the first step, and the cells after the last one.
use Rattle.std.specs.Prelude.{replicate, slice_get}
use Rattle.std.proofs.Common.{◌≡◌, ℕ, zero, suc, List, length, map, refl, ap, sym, ◌∙◌, subst, arith, Some, get_or}
use Rattle.std.proofs.lemmas.List.FromFn.{length-map-range_with_len}
use Rattle.std.proofs.lemmas.Option.{same_Some, slice_get-get_or, slice_get_within}
use Rattle.net_core.specs.Network.{numbers_below}
use Rattle.dta_model.specs.declared.plan.Plan.{Plan}
use Rattle.cell_stages.specs.CellState.{CellState}
use Rattle.cell_stages.specs.Contents.{away, cell_before, room_of}
use Rattle.node_transfer.specs.Start.{rooms_at_start}
use Rattle.cell_stages.specs.declared.mail.Mail.{Mail}
use Rattle.node_transfer.proofs.OfMail.Numbers.{cell-count, found-below}
use Rattle.node_transfer.proofs.OfMail.Sets.{same-elements}
use Rattle.serial_loader.specs.Phases.{AreBefore, cells_before}

got-all : {X : Type 0} (n i : ℕ) (x y : X) → slice_get (replicate n x) i ≡ Some y → y ≡ x
got-all zero i x y h = cc
got-all (suc n) zero x y h = sym (same_Some x y h)
got-all (suc n) (suc i) x y h = got-all n i x y h

count-all : {X : Type 0} (n : ℕ) (x : X) → length (replicate n x) ≡ n
count-all zero x = refl
count-all (suc n) x = ap suc (count-all n x)

got-number : {X : Type 0} (f : ℕ → X) (n i : ℕ) (y : X) → slice_get (map f (numbers_below n)) i ≡ Some y → y ≡ f i
got-number f n i y h =
    let inside = slice_get_within (map f (numbers_below n)) i y h in
    let count = length-map-range_with_len f 0 n in
    same_Some y (f i) (sym h ∙ found-below f n i (omega (arith, inside, count)))

-- the cell of a node in the list
got-cell : (p : Plan) (t n : ℕ) (c : CellState) (cells : List CellState) → cells ≡ cells_before p t → slice_get cells n ≡ Some c → c ≡ cell_before p n t away away
got-cell p t n c cells are got = got-number (λ n. cell_before p n t away away) (length p.net.nodes) n c (subst (λ xs. slice_get xs n ≡ Some c) are got)

-- before the first step
pub starts-before : (p : Plan) (cells : List CellState) (wakes : List ℕ) (mail : List Mail) (count : ℕ) → count ≡ length cells
    → cells ≡ cells_before p 0 → wakes ≡ replicate count 0 → mail ≡ rooms_at_start p → AreBefore p 0 cells wakes mail
starts-before p cells wakes mail count all are_cells are_wakes are_rooms = record {
  cell_count = many;
  wake_count = ap (λ xs. length xs) are_wakes ∙ count-all count 0 ∙ all ∙ many;
  mail_count = ap (λ xs. length xs) are_rooms ∙ length-map-range_with_len (room_of p 0) 0 (length p.net.links);
  nodes = λ n w c e f.
      let awake : w ≡ 0 = got-all count n 0 w (subst (λ xs. slice_get xs n ≡ Some w) are_wakes e) in
      record { cell = got-cell p 0 n c cells are_cells f; sleeps = λ s low. absurd (omega (arith, low, awake)) };
  links = λ l m got. got-number (room_of p 0) (length p.net.links) l m (subst (λ xs. slice_get xs l ≡ Some m) are_rooms got);
}
  where
    many : length cells ≡ length p.net.nodes
    many = ap (λ xs. length xs) are_cells ∙ cell-count p (λ n. cell_before p n 0 away away)

-- before each step all cells are those of the loading
pub all-before : (p : Plan) (t : ℕ) (cells : List CellState) (wakes : List ℕ) (mail : List Mail) → AreBefore p t cells wakes mail → cells ≡ cells_before p t
all-before p t cells wakes mail T =
    same-elements cells (cells_before p t) (T.cell_count ∙ sym (cell-count p (λ n. cell_before p n t away away)))
    (λ n x y got at.
    let inside = slice_get_within cells n x got in
    let many = T.cell_count in
    let count = T.wake_count in
    (T.nodes n (get_or wakes n 0) x (slice_get-get_or wakes n 0 (omega (arith, inside, many, count))) got).cell ∙ sym (got-cell p t n y (cells_before p t) refl at))
