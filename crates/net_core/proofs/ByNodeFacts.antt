-- Links and turns by their nodes, in the network's words.
use Rattle.std.proofs.Common.{◌≡◌, ◌≢◌, ℕ, ◌+◌, ◌<◌, List, [], ◌∷◌, ◌++◌, length, refl, ap, sym, ◌∙◌, arith, rules, map, set, get_or, Bool, true, false, nat_eq}
use Rattle.std.specs.Prelude.{◌||◌, Some, find, filter}
use Rattle.std.proofs.Math.Bool.{or-true}
use Rattle.std.proofs.lemmas.Grind.{get_or-set_at}
use Rattle.std.proofs.lemmas.List.{get_or_default, length-set, get_or-set_other}
use Rattle.std.proofs.lemmas.List.Folds.{list_any-append}
use Rattle.std.proofs.lemmas.List.FromFn.{map-range_with_len_more}
use Rattle.std.specs.List.{list_any}
use Rattle.net_core.specs.ByNode.{AreNamed, all_links, end_of, start_of, node_of, is_from_to}
use Rattle.net_core.specs.Network.{as_links, as_turn, free_turn, ins, is_named, numbers_below, outs, turn_at}
use Rattle.net_core.specs.declared.rows.LinkNo.{LinkNo}
use Rattle.net_core.specs.declared.rows.NetRows.{NetRows}
use Rattle.net_core.specs.declared.rows.TurnRow.{TurnRow}

or-no : (b : Bool) → (b || false) ≡ b
or-no true = refl
or-no false = refl

pub as_links-more : (n : ℕ)
    → as_links (numbers_below (n + 1)) ≡ as_links (numbers_below n) ++ record { 0 = n } ∷ []
as_links-more n = map-range_with_len_more (λ l. record { 0 = l }) 0 n n (omega arith)

-- a test after a call, or of what the call gives
filter-map : {X Y : Type 0} (f : X → Y) (p : Y → Bool) (xs : List X)
    → filter p (map f xs) ≡ map f (filter (λ x. p (f x)) xs)
filter-map f p [] = refl
filter-map f p (x ∷ xs) = elim (p (f x)) as (λ v. p (f x) ≡ v
    → filter p (map f (x ∷ xs)) ≡ map f (filter (λ y. p (f y)) (x ∷ xs))) [
      | true ↦ λ e. rw e (ap (λ l. f x ∷ l) (filter-map f p xs))
      | false ↦ λ e. rw e (filter-map f p xs)
    ] refl

abbrev as_link : ℕ → LinkNo
as_link l = record { 0 = l }

pub ins-filtered : (net : NetRows) (n : ℕ)
    → filter (λ link. nat_eq (end_of net.links link) n) (all_links net.links) ≡ as_links (ins net n)
unfolding ins
ins-filtered net n =
    filter-map as_link (λ link. nat_eq (end_of net.links link) n) (numbers_below (length net.links))

pub outs-filtered : (net : NetRows) (n : ℕ)
    → filter (λ link. nat_eq (start_of net.links link) n) (all_links net.links) ≡ as_links (outs net n)
unfolding outs
outs-filtered net n =
    filter-map as_link (λ link. nat_eq (start_of net.links link) n) (numbers_below (length net.links))

-- a node is named as its entry tells
pub named-told : (net : NetRows) (named : List Bool) (n : ℕ) (d : Bool) → n < length net.nodes
    → AreNamed named (length net.nodes) (node_of net.links) net.turns
    → get_or named n d ≡ is_named net n
unfolding is_named
named-told net named n d b are =
    get_or_default named n d false (rw are.counted b) ∙ are.told n b

-- a turn is free where none is listed, and else what the listed ones tell
pub turn_at-free : (net : NetRows) (n a b : ℕ) → is_named net n ≡ false
    → turn_at net n a b ≡ Some free_turn
unfolding turn_at
turn_at-free net n a b e = rw e refl

pub turn_at-listed : (net : NetRows) (n a b : ℕ) → is_named net n ≡ true
    → turn_at net n a b ≡ as_turn (find (is_from_to a b) net.turns)
unfolding turn_at
turn_at-listed net n a b e = rw e refl

-- a turn names its node, and no other
pub named-more : (named : List Bool) (count : ℕ) (node : TurnRow → ℕ) (turns : List TurnRow)
    (turn : TurnRow) → node turn < count → AreNamed named count node turns
    → AreNamed (set named (node turn) true) count node (turns ++ turn ∷ [])
named-more named count node turns turn b are = record {
  counted = length-set named (node turn) true ∙ are.counted;
  told = λ n c.
      let more = list_any-append (λ t. nat_eq (node t) n) turns (turn ∷ []) in
      elim (nat_eq (node turn) n) as (λ t. nat_eq (node turn) n ≡ t
      → get_or (set named (node turn) true) n false
      ≡ list_any (λ t. nat_eq (node t) n) (turns ++ turn ∷ [])) [
        | true ↦ λ t.
            let same : node turn ≡ n = search (rules, t) in
            let here = get_or-set_at named (node turn) n true false (sym same) (rw are.counted b) in
            rw (more, t, here) (sym (or-true (list_any (λ t. nat_eq (node t) n) turns)))
        | false ↦ λ t.
            let apart : n ≢ node turn = (λ q. let z : nat_eq (node turn) n ≡ true = search (rules, sym q) in cc) in
            let other = get_or-set_other named (node turn) n true false apart in
            rw (more, t, other, are.told n c) (sym (or-no (list_any (λ t. nat_eq (node t) n) turns)))
      ] refl;
}
