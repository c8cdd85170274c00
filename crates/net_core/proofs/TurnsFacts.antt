-- Which turns are allowed, and what they cost.
use Rattle.std.proofs.Common.{◌≡◌, ◌≢◌, ℕ, ◌<◌, List, length, refl, ap, sym, ◌∙◌, arith, rules, take, get_or, Bool, true, false, nat_eq}
use Rattle.std.specs.Prelude.{◌↔◌, Option, None, Some, Any, find, is_some}
use Rattle.std.specs.List.{IsDistinct, list_any}
use Rattle.std.proofs.lemmas.List.{get_or-map, length-map}
use Rattle.std.proofs.lemmas.List.Folds.{Any-from_list_any, list_any-from_Any, list_any_at, list_any_none}
use Rattle.std.proofs.lemmas.Map.Keys.{apart_from_distinct}
use Rattle.std.proofs.lemmas.Bool.{and_parts}
use Rattle.net_core.specs.ByNode.{is_from_to}
use Rattle.net_core.specs.Ids.{pair_eq}
use Rattle.net_core.specs.Network.{as_turn, is_named, link_at, turn, turn_at}
use Rattle.net_core.specs.Rows.{turn_pairs}
use Rattle.net_core.specs.Turns.{IsAllowed, ListedTurnsCostTheirRows, OtherTurnsAreFree}
use Rattle.net_core.specs.declared.rows.NetRows.{NetRows}
use Rattle.net_core.specs.declared.rows.NodeNo.{NodeNo}
use Rattle.net_core.specs.declared.rows.TurnRow.{TurnRow}
use Rattle.net_core.proofs.FindFacts.{find-first, is_some-find, passed-all}
use Rattle.net_core.proofs.ZonesFacts.{is_some-None}

abbrev numbered : ℕ → NodeNo
numbered n = record { 0 = n }

any-some : {X : Type 0} (P Q : X → Type 0) (xs : List X) → ((x : X) → P x → Q x)
    → Any P xs → Any Q xs
any-some P Q xs f a = (a.0, a.1, a.2, a.3, f a.1 a.4)

is_some-as_turn : (o : Option TurnRow) → is_some (as_turn o) ≡ is_some o
is_some-as_turn None = refl
is_some-as_turn (Some row) = refl

module _ (net : NetRows) (a b : ℕ) where
  -- the rows at the node, and those of the pair
  abbrev IsHere : TurnRow → Type 0
  IsHere row = (link_at net row.a.0).to ≡ (link_at net a).to

  abbrev is_here : TurnRow → Bool
  is_here row = nat_eq (link_at net row.a.0).to.0 (link_at net a).to.0

  abbrev IsThis : TurnRow → Type 0
  IsThis row = (row.a.0 ≡ a) × (row.b.0 ≡ b)

  abbrev meeting : Bool
  meeting = nat_eq (link_at net b).from.0 (link_at net a).to.0

  abbrev naming : Bool
  naming = list_any is_here net.turns

  abbrev listing : Bool
  listing = list_any (is_from_to a b) net.turns

  here-told : (row : TurnRow) → is_here row ≡ true → IsHere row
  here-told row e =
      let same : (link_at net row.a.0).to.0 ≡ (link_at net a).to.0 = search (rules, e) in
      ap numbered same

  tell-here : (row : TurnRow) → IsHere row → is_here row ≡ true
  tell-here row e =
      let same : (link_at net row.a.0).to.0 ≡ (link_at net a).to.0 = ap (λ node. node.0) e in
      rw same (search rules)

  this-told : (row : TurnRow) → is_from_to a b row ≡ true → IsThis row
  this-told row e =
      let parts = and_parts (nat_eq row.a.0 a) (nat_eq row.b.0 b) e in
      (search (rules, parts.0), search (rules, parts.1))

  tell-this : (row : TurnRow) → IsThis row → is_from_to a b row ≡ true
  tell-this row e = rw (e.0, e.1) (search rules)

  named-any : naming ≡ true → Any IsHere net.turns
  named-any t =
      any-some (λ row. is_here row ≡ true) IsHere net.turns here-told
      (Any-from_list_any is_here net.turns t)

  any-named : Any IsHere net.turns → naming ≡ true
  any-named any =
      list_any-from_Any is_here net.turns
      (any-some IsHere (λ row. is_here row ≡ true) net.turns tell-here any)

  listed-any : listing ≡ true → Any IsThis net.turns
  listed-any t =
      any-some (λ row. is_from_to a b row ≡ true) IsThis net.turns this-told
      (Any-from_list_any (is_from_to a b) net.turns t)

  any-listed : Any IsThis net.turns → listing ≡ true
  any-listed any =
      list_any-from_Any (is_from_to a b) net.turns
      (any-some IsThis (λ row. is_from_to a b row ≡ true) net.turns tell-this any)

  found-listed : is_some (as_turn (find (is_from_to a b) net.turns)) ≡ listing
  found-listed =
      is_some-as_turn (find (is_from_to a b) net.turns) ∙ is_some-find (is_from_to a b) net.turns

  turn-some : is_some (turn net a b) ≡ true → IsAllowed net a b
  unfolding turn turn_at is_named
  turn-some e = elim meeting as (λ v. meeting ≡ v → IsAllowed net a b) [
    | true ↦ λ m. record {
      meets =
          let same : (link_at net b).from.0 ≡ (link_at net a).to.0 = search (rules, m) in
          ap numbered (sym same);
      listed = λ any.
          let w = rw (m, any-named any) at e in
          listed-any (sym found-listed ∙ w);
    }
    | false ↦ λ m. absurd (let w = rw m at e in cc)
  ] refl

  turn-none : is_some (turn net a b) ≡ false → ¬ IsAllowed net a b
  unfolding turn turn_at is_named
  turn-none e allowed =
      let same : (link_at net b).from.0 ≡ (link_at net a).to.0 = ap (λ node. node.0) (sym allowed.meets) in
      let m : meeting ≡ true = rw same (search rules) in
      elim naming as (λ v. naming ≡ v → ⊥) [
        | true ↦ λ n.
            let w = rw (m, n) at e in
            let l = any-listed (allowed.listed (named-any n)) in
            absurd (let k = sym w ∙ found-listed ∙ l in cc)
        | false ↦ λ n. absurd (let w = rw (m, n) at e in cc)
      ] refl

  turn-is_some : ¬ IsAllowed net a b → is_some (turn net a b) ≡ false
  turn-is_some n = elim (is_some (turn net a b)) as (λ v. is_some (turn net a b) ≡ v → v ≡ false) [
    | true ↦ λ t. absurd (n (turn-some t))
    | false ↦ λ f. refl
  ] refl

  -- no turn exactly where none is allowed
  pub turn-None : (turn net a b ≡ None) ↔ ¬ IsAllowed net a b
  turn-None = ((λ e. turn-none (rw e refl)), (λ n. is_some-None (turn net a b) (turn-is_some n)))

pub turn-met : (net : NetRows) (a b n : ℕ) → (link_at net a).to.0 ≡ n → (link_at net b).from.0 ≡ n
    → turn net a b ≡ turn_at net n a b
unfolding turn
turn-met net a b n here there =
    let m : nat_eq (link_at net b).from.0 (link_at net a).to.0 ≡ true = rw (here, there) (search rules) in
    rw (m, here) refl

abbrev pub pair_of : TurnRow → ℕ × ℕ
pair_of row = (row.a.0, row.b.0)

-- no row before is of its pair
pub find-before : (turns : List TurnRow) (k : ℕ) (d : TurnRow) → k < length turns
    → IsDistinct pair_eq (turn_pairs turns)
    → find (is_from_to (get_or turns k d).a.0 (get_or turns k d).b.0) (take k turns) ≡ None
find-before turns k d b apart =
    let row = get_or turns k d in
    let size : length (turn_pairs turns) ≡ length turns = length-map turns pair_of in
    let this = get_or-map pair_of turns k d (0, 0) b in
    passed-all (is_from_to row.a.0 row.b.0) turns d k (omega arith) (λ i c.
    let differ = apart_from_distinct pair_eq (turn_pairs turns) i k (0, 0) apart c (rw size b) in
    let other = get_or-map pair_of turns i d (0, 0) (omega arith) in
    rw (other, this) at differ)

-- a row is the first of its pair
find-row : (turns : List TurnRow) (k : ℕ) (d : TurnRow) → k < length turns
    → IsDistinct pair_eq (turn_pairs turns)
    → find (is_from_to (get_or turns k d).a.0 (get_or turns k d).b.0) turns ≡ Some (get_or turns k d)
find-row turns k d b apart =
    let row = get_or turns k d in
    find-first (is_from_to row.a.0 row.b.0) turns k d b (find-before turns k d b apart) (search rules)

pub listed-cost : ListedTurnsCostTheirRows
unfolding turn turn_at is_named
listed-cost net sound k d b =
    let row = get_or net.turns k d in
    let m : meeting net row.a.0 row.b.0 ≡ true = rw (sound.turning k d b).meets (search rules) in
    let n = list_any_at (is_here net row.a.0 row.b.0) net.turns k d b (search rules) in
    let f = find-row net.turns k d b sound.turns.distinct in
    rw (m, n, f) refl

pub other-free : OtherTurnsAreFree
unfolding turn turn_at is_named
other-free net a b meets none =
    let same : (link_at net b).from.0 ≡ (link_at net a).to.0 = ap (λ node. node.0) (sym meets) in
    let m : meeting net a b ≡ true = rw same (search rules) in
    let n = list_any_none (is_here net a b) net.turns (λ k d c.
    let row = get_or net.turns k d in
    let apart : (link_at net row.a.0).to.0 ≢ (link_at net a).to.0 = (λ e. none k d c (ap numbered e)) in
    search (rules, apart)) in
    rw (m, n) refl
