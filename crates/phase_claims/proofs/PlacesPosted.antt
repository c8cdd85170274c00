-- The loop of a posting over the cells, and what it posts.
use Rattle.std.specs.Prelude.{All, slice_get}
use Rattle.std.specs.List.{range_with_len}
use Rattle.std.proofs.Common.{◌≡◌, ℕ, zero, suc, ◌+◌, ◌<◌, ◌≤◌, List, [], ◌∷◌, ◌++◌, length, map, refl, sym, ap, ◌∙◌, subst, arith, Some}
use Rattle.std.proofs.lemmas.List.{map_push}
use Rattle.std.proofs.lemmas.List.Elements.{All-cons, All-nil}
use Rattle.std.proofs.lemmas.List.FromFn.{length-range_with_len}
use Rattle.atomic_table.specs.Seated.{TableId}
use Rattle.atomic_table.specs.Table.{rest, turned}
use Rattle.net_core.specs.Network.{numbers_below}
use Rattle.dta_model.specs.Plans.{all_nodes}
use Rattle.dta_model.specs.Sound.{IsSound}
use Rattle.dta_model.specs.State.{eight_after, eight_in}
use Rattle.dta_model.specs.Units.{node_count, posting_part}
use Rattle.dta_model.specs.declared.eight.Eight.{Eight}
use Rattle.dta_model.specs.declared.plan.Plan.{Plan}
use Rattle.monitors.specs.Posted.{IsLater, Known}
use Rattle.net_core.proofs.Numbers.{numbers_grow}
use Rattle.phase_claims.specs.declared.part.Part.{Part}
use Rattle.phase_claims.specs.declared.part.Part.TheVariants.{Out, Writer}
use Rattle.phase_claims.specs.PlacesCounted.{cell_place, counted_in, posting_places, writer_place}
use Rattle.phase_claims.specs.PlacesHeld.{HoldsWriter}
use Rattle.phase_claims.specs.PlacesHome.{posted_in}
use Rattle.phase_claims.proofs.PlacesSums.{all_counted}
use Rattle.phase_claims.proofs.PlacesTurn.{at_end, first_is, midway, round, same_first}

number_in : (n a i : ℕ) → i < n → slice_get (range_with_len a n) i ≡ Some (a + i)
number_in zero a i h = absurd (omega (arith, h))
number_in (suc n) a zero h = ap (λ x. Some x) (omega arith)
number_in (suc n) a (suc i) h = number_in n (a + 1) i (omega (arith, h)) ∙ ap (λ x. Some x) (omega arith)

node_at : (n i : ℕ) → i < n → slice_get (numbers_below n) i ≡ Some i
node_at n i h = number_in n 0 i h ∙ ap (λ x. Some x) (omega arith)

pub same_writer : (x y : Known) → Writer x ≡ Writer y → x ≡ y
same_writer x y e = cc

module _ (p : Plan) (t : ℕ) (z : List (ℕ × Part)) where
  abbrev Midway : ℕ → List (ℕ × Part)
  Midway n = midway (cell_place p t) (cell_place p t) z (all_nodes p) n

  module _ (n : ℕ) (h : n < node_count p) (l : List (ℕ × Part)) (is : l ≡ Midway n) where
    pub cell_held : l ≡ cell_place p t n ∷ rest l
    cell_held = first_is (cell_place p t) (cell_place p t) z (all_nodes p) n n l (node_at (node_count p) n h) is

    pub cell_back : (l' : List (ℕ × Part)) → l' ≡ turned l → l' ≡ Midway (n + 1)
    cell_back l' now = round (cell_place p t) (cell_place p t) z (all_nodes p) n n l l' (node_at (node_count p) n h) is (now ∙ ap turned cell_held)

posted_more : (p : Plan) (t : ℕ) → posted_in p (suc t) ≡ posted_in p t ++ eight_after p (suc t) ∷ []
posted_more p t =
    ap (λ xs. map (λ i. eight_after p (suc i)) xs) (numbers_grow 0 t (0 + t) refl)
    ∙ map_push (λ i. eight_after p (suc i)) (numbers_below t) (0 + t)
    ∙ ap (λ x. posted_in p t ++ eight_after p (suc x) ∷ []) (let e : 0 + t ≡ t = omega arith in e)

steps_are : (p : Plan) (t : ℕ) → (eight_after p t).steps ≡ t
unfolding eight_after eight_in
steps_are p t = refl

later_than : (p : Plan) (n a t : ℕ) → a + n ≤ t → (e : Eight) → e.steps ≡ suc t → All (λ before. before.steps < e.steps) (map (λ i. eight_after p (suc i)) (range_with_len a n))
later_than p zero a t h e s = All-nil (λ (before : Eight). before.steps < e.steps)
later_than p (suc n) a t h e s =
    All-cons (λ (before : Eight). before.steps < e.steps) (eight_after p (suc a)) (map (λ i. eight_after p (suc i)) (range_with_len (a + 1) n)) (omega (arith, steps_are p (suc a), s, h)) (later_than p n (a + 1) t (omega (arith, h)) e s)

-- past the last cell
module _ (p : Plan) (sound : IsSound p) (board : TableId) (t N L n : ℕ) (nodes : N ≡ node_count p) (links : L ≡ length p.net.links) (over : N ≤ n) (l : List (ℕ × Part)) (is : l ≡ midway (cell_place p (suc t)) (cell_place p (suc t)) (writer_place p board t ∷ []) (all_nodes p) n) where
  slot_is : posting_part p ≡ N + L
  slot_is = omega (arith, nodes, links)

  last : l ≡ writer_place p board t ∷ map (cell_place p (suc t)) (all_nodes p)
  last = is ∙ at_end (cell_place p (suc t)) (cell_place p (suc t)) (writer_place p board t ∷ []) (all_nodes p) n (omega (arith, length-range_with_len 0 (node_count p), nodes, over))

  abbrev known : Known
  known = record { board = board; list = posted_in p t }

  at_slot : l ≡ (N + L, Writer known) ∷ map (cell_place p (suc t)) (all_nodes p)
  at_slot = last ∙ ap (λ x. (x, Writer known) ∷ map (cell_place p (suc t)) (all_nodes p)) slot_is

  first_writer : l ≡ (N + L, Writer known) ∷ rest l
  first_writer = at_slot ∙ ap (λ xs. (N + L, Writer known) ∷ rest xs) (sym at_slot)

  pub writer_held : HoldsWriter (N + L) l
  writer_held = (known, first_writer)

  module _ (w : Known) (got : l ≡ (N + L, Writer w) ∷ rest l) where
    writer_is : w ≡ known
    writer_is = same_writer w known (same_first (N + L) (Writer w) (Writer known) l got first_writer)

    pub own_board : w.board ≡ board
    own_board = ap (λ (x : Known). x.board) writer_is

    module _ (e : Eight) (counted : e ≡ counted_in p (suc t) n) (end : n ≡ node_count p) where
      eight_is : e ≡ eight_after p (suc t)
      eight_is = counted ∙ ap (λ x. counted_in p (suc t) x) end ∙ all_counted p sound (suc t)

      pub may_post : IsLater e w.list
      may_post =
          subst (λ (x : Known). IsLater e x.list) (sym writer_is)
          (later_than p t 0 t (omega arith) e (ap (λ (x : Eight). x.steps) eight_is ∙ steps_are p (suc t)))

      pub posted : (w' : Known) → w'.board ≡ w.board → w'.list ≡ w.list ++ e ∷ [] → (l1 l2 : List (ℕ × Part)) → l1 ≡ (N + L, Out) ∷ rest l → l2 ≡ turned ((N + L, Writer w') ∷ rest l1) → l2 ≡ posting_places p board (suc t) (suc t)
      posted w' eb el l1 l2 e1 e2 =
          let list : w'.list ≡ posted_in p (suc t) = el ∙ ap (λ (x : Known). x.list ++ e ∷ []) writer_is ∙ ap (λ x. posted_in p t ++ x ∷ []) eight_is ∙ sym (posted_more p t) in
          let now : (N + L, Writer w') ≡ writer_place p board (suc t) = (λ i. (sym slot_is i, Writer (record { board = (eb ∙ own_board) i; list = list i }))) in
          e2 ∙ ap (λ xs. turned ((N + L, Writer w') ∷ rest xs)) e1
          ∙ ap (λ xs. rest xs ++ (N + L, Writer w') ∷ []) at_slot
          ∙ ap (λ x. map (cell_place p (suc t)) (all_nodes p) ++ x ∷ []) now
