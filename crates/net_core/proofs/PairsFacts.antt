-- Listed turns by the places of their pairs of links.
use Rattle.std.proofs.Common.{◌≡◌, ℕ, ◌<◌, ◌∙◌, List, [], ◌∷◌, length, refl, sym, arith, rules, take, get_or, true, false, nat_eq, position}
use Rattle.std.specs.Prelude.{None, Some, find}
use Rattle.std.specs.List.{IsDistinct, list_any, position_or_len}
use Rattle.std.proofs.lemmas.List.{get_or-map, length-map}
use Rattle.std.proofs.lemmas.List.Quantifiers.{position-Some}
use Rattle.net_core.specs.ByNode.{is_from_to}
use Rattle.net_core.specs.Ids.{pair_eq, place_of_pair}
use Rattle.net_core.specs.Rows.{turn_pairs}
use Rattle.net_core.specs.declared.rows.TurnRow.{TurnRow}
use Rattle.net_core.proofs.FindFacts.{find-first, is_some-find, passed-all}
use Rattle.net_core.proofs.IdsFacts.{is_some-position, list_any-absent}
use Rattle.net_core.proofs.TurnsFacts.{find-before, pair_of}
use Rattle.net_core.proofs.ZonesFacts.{is_some-None}

-- numbers are compared in either order
turned : (m n : ℕ) → nat_eq m n ≡ nat_eq n m
turned m n = elim (nat_eq n m) as (λ v. nat_eq n m ≡ v → nat_eq m n ≡ v) [
  | true ↦ λ t. let same : n ≡ m = search (rules, t) in rw same (search rules)
  | false ↦ λ f. elim (nat_eq m n) as (λ v. nat_eq m n ≡ v → v ≡ false) [
    | true ↦ λ t.
        let same : m ≡ n = search (rules, t) in
        let back : nat_eq n m ≡ true = rw same (search rules) in
        absurd (let no = sym f ∙ back in cc)
    | false ↦ λ e. refl
  ] refl
] refl

-- a pair is that of a turn as the turn is from the one link to the other
of-pair : (a b : ℕ) (turn : TurnRow) → pair_eq (a, b) (pair_of turn) ≡ is_from_to a b turn
of-pair a b turn = rw (turned a turn.a.0, turned b turn.b.0) refl

any-pairs : (a b : ℕ) (turns : List TurnRow)
    → list_any (pair_eq (a, b)) (turn_pairs turns) ≡ list_any (is_from_to a b) turns
any-pairs a b [] = refl
any-pairs a b (turn ∷ turns) = rw (of-pair a b turn, any-pairs a b turns) refl

-- the turn at the place of a pair is the first of the pair
pub find-placed : (turns : List TurnRow) (a b place : ℕ) (d : TurnRow)
    → place_of_pair (turn_pairs turns) a b ≡ Some place
    → find (is_from_to a b) turns ≡ Some (get_or turns place d)
find-placed turns a b place d e =
    let at = position-Some (pair_eq (a, b)) (turn_pairs turns) place (0, 0) e in
    let size : length (turn_pairs turns) ≡ length turns = length-map turns pair_of in
    let within : place < length turns = rw size at at.0 in
    let pair = get_or-map pair_of turns place d (0, 0) within in
    let here : is_from_to a b (get_or turns place d) ≡ true =
    sym (of-pair a b (get_or turns place d)) ∙ rw pair at at.1 in
    find-first (is_from_to a b) turns place d within
    (passed-all (is_from_to a b) turns d place (omega arith) (λ i c.
    let other = get_or-map pair_of turns i d (0, 0) (omega arith) in
    sym (of-pair a b (get_or turns i d)) ∙ rw other at (at.2 i c)))
    here

-- a pair without a place has no turn
pub find-unplaced : (turns : List TurnRow) (a b : ℕ)
    → place_of_pair (turn_pairs turns) a b ≡ None → find (is_from_to a b) turns ≡ None
find-unplaced turns a b e =
    let none = list_any-absent (pair_eq (a, b)) (turn_pairs turns) e in
    is_some-None (find (is_from_to a b) turns)
    (is_some-find (is_from_to a b) turns ∙ sym (any-pairs a b turns) ∙ none)

-- the pair of a turn has no place among those of the turns before
pub pair-new : (turns : List TurnRow) (k : ℕ) (d : TurnRow) → k < length turns
    → IsDistinct pair_eq (turn_pairs turns)
    → place_of_pair (turn_pairs (take k turns)) (get_or turns k d).a.0 (get_or turns k d).b.0 ≡ None
pair-new turns k d b apart =
    let row = get_or turns k d in
    let none = find-before turns k d b apart in
    let found = is_some-find (is_from_to row.a.0 row.b.0) (take k turns) in
    is_some-None (place_of_pair (turn_pairs (take k turns)) row.a.0 row.b.0)
    (is_some-position (pair_eq (row.a.0, row.b.0)) (turn_pairs (take k turns))
    ∙ any-pairs row.a.0 row.b.0 (take k turns)
    ∙ sym (rw none at found))

position_or_len-pairs : (a b : ℕ) (turns : List TurnRow)
    → position_or_len (pair_eq (a, b)) (turn_pairs turns) ≡ position_or_len (is_from_to a b) turns
position_or_len-pairs a b [] = refl
position_or_len-pairs a b (turn ∷ turns) =
    rw (of-pair a b turn, position_or_len-pairs a b turns) refl

-- the place of a pair is that of the first turn of the pair
pub place_of_pair-turn : (a b : ℕ) (turns : List TurnRow)
    → place_of_pair (turn_pairs turns) a b ≡ position (is_from_to a b) turns
place_of_pair-turn a b turns =
    rw (position_or_len-pairs a b turns, length-map turns pair_of) refl
