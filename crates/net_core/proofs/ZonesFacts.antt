-- The zones of nodes.
use Rattle.std.proofs.Common.{◌≡◌, ◌≢◌, ℕ, ◌+◌, ◌≤◌, ◌∙◌, List, [], ◌∷◌, length, refl, ap, sym, arith, rules, Bool, true, false, nat_eq, cond, ◌++◌, length-append, get_or}
use Rattle.std.specs.Prelude.{◌||◌, ◌↔◌, Option, None, Some, All, fold, is_some}
use Rattle.std.specs.List.{IsDistinct, list_any}
use Rattle.std.specs.Cmp.{nat_eq_equiv}
use Rattle.std.proofs.Math.Bool.{or_assoc}
use Rattle.std.proofs.lemmas.List.Folds.{list_any-append, list_any_at, list_any_none}
use Rattle.std.proofs.lemmas.Map.Keys.{IsDistinct-push}
use Rattle.net_core.specs.Ids.{place_of}
use Rattle.net_core.specs.Network.{noted, zones}
use Rattle.net_core.specs.declared.rows.NodeRow.{NodeRow}
use Rattle.net_core.proofs.IdsFacts.{is_some-position, list_any-absent}

-- what is so of both of two values is so of the one that is chosen
either : {X : Type 0} (P : X → Type 0) (t : Bool) (x y : X) → (t ≡ true → P x) → (t ≡ false → P y)
    → P (cond t x y)
either P true x y f g = f refl
either P false x y f g = g refl

abbrev folded : List ℕ → List NodeRow → List ℕ
folded found nodes = fold (λ found node. noted found node.zone) found nodes

-- ---- how many there are
length-noted-le : (found : List ℕ) (zone : Option ℕ) → length (noted found zone) ≤ length found + 1
length-noted-le found None = omega arith
length-noted-le found (Some zone) =
    either (λ l. length l ≤ length found + 1) (is_some (place_of found zone)) found (found ++ zone ∷ [])
    (λ e. omega arith)
    (λ e. let n = length-append found (zone ∷ []) in rw n (omega arith))

length-folded-le : (nodes : List NodeRow) (found : List ℕ)
    → length (folded found nodes) ≤ length found + length nodes
length-folded-le [] found = omega arith
length-folded-le (node ∷ nodes) found =
    let first = length-noted-le found node.zone in
    let rest = length-folded-le nodes (noted found node.zone) in
    omega arith

pub length-zones-le : (nodes : List NodeRow) → length (zones nodes) ≤ length nodes
unfolding zones
length-zones-le nodes =
    let e : 0 + length nodes ≡ length nodes = omega arith in
    rw e at (length-folded-le nodes [])

-- ---- they differ
distinct-noted : (found : List ℕ) (zone : Option ℕ)
    → IsDistinct nat_eq found → IsDistinct nat_eq (noted found zone)
distinct-noted found None d = d
distinct-noted found (Some zone) d =
    either (IsDistinct nat_eq) (is_some (place_of found zone)) found (found ++ zone ∷ [])
    (λ e. d)
    (λ e. IsDistinct-push nat_eq_equiv found zone d (sym (is_some-position (nat_eq zone) found) ∙ e))

distinct-folded : (nodes : List NodeRow) (found : List ℕ)
    → IsDistinct nat_eq found → IsDistinct nat_eq (folded found nodes)
distinct-folded [] found d = d
distinct-folded (node ∷ nodes) found d =
    distinct-folded nodes (noted found node.zone) (distinct-noted found node.zone d)

pub distinct-zones : (nodes : List NodeRow) → IsDistinct nat_eq (zones nodes)
unfolding zones IsDistinct
distinct-zones nodes = distinct-folded nodes [] tt

-- ---- which they are
abbrev is_zone : ℕ → Option ℕ → Bool
is_zone id None = false
is_zone id (Some zone) = nat_eq id zone

or-false : (a : Bool) → a ≡ (a || false)
or-false true = refl
or-false false = refl

either-zone : (id : ℕ) (found : List ℕ) (zone : ℕ) → list_any (nat_eq zone) found ≡ true
    → list_any (nat_eq id) found ≡ (list_any (nat_eq id) found || nat_eq id zone)
either-zone id found zone there = elim (nat_eq id zone) as (λ v. nat_eq id zone ≡ v
    → list_any (nat_eq id) found ≡ (list_any (nat_eq id) found || nat_eq id zone)) [
      | true ↦ λ t.
          let same : id ≡ zone = search (rules, t) in
          let here : list_any (nat_eq id) found ≡ true = rw same there in
          rw here refl
      | false ↦ λ f. rw f (or-false _)
    ] refl

any-noted : (id : ℕ) (found : List ℕ) (zone : Option ℕ)
    → list_any (nat_eq id) (noted found zone) ≡ (list_any (nat_eq id) found || is_zone id zone)
any-noted id found None = or-false _
any-noted id found (Some zone) =
    either (λ l. list_any (nat_eq id) l ≡ (list_any (nat_eq id) found || nat_eq id zone))
    (is_some (place_of found zone)) found (found ++ zone ∷ [])
    (λ e. either-zone id found zone (sym (is_some-position (nat_eq zone) found) ∙ e))
    (λ e. list_any-append (nat_eq id) found (zone ∷ [])
    ∙ ap (λ b. list_any (nat_eq id) found || b) (sym (or-false (nat_eq id zone))))

any-folded : (id : ℕ) (nodes : List NodeRow) (found : List ℕ)
    → list_any (nat_eq id) (folded found nodes)
    ≡ (list_any (nat_eq id) found || list_any (λ node. is_zone id node.zone) nodes)
any-folded id [] found = or-false _
any-folded id (node ∷ nodes) found =
    let later = list_any (λ node. is_zone id node.zone) nodes in
    any-folded id nodes (noted found node.zone)
    ∙ ap (λ b. b || later) (any-noted id found node.zone)
    ∙ or_assoc (list_any (nat_eq id) found) (is_zone id node.zone) later

any-zones : (id : ℕ) (nodes : List NodeRow)
    → list_any (nat_eq id) (zones nodes) ≡ list_any (λ node. is_zone id node.zone) nodes
unfolding zones
any-zones id nodes = any-folded id nodes []

pub is_some-None : {X : Type 0} (o : Option X) → is_some o ≡ false → o ≡ None
is_some-None None e = refl
is_some-None (Some x) e = absurd cc

not_zone : (id : ℕ) (zone : Option ℕ) → zone ≢ Some id → is_zone id zone ≡ false
not_zone id None n = refl
not_zone id (Some zone) n = elim (nat_eq id zone) as (λ v. nat_eq id zone ≡ v → v ≡ false) [
  | true ↦ λ t. absurd (n (let same : id ≡ zone = search (rules, t) in ap Some (sym same)))
  | false ↦ λ f. refl
] refl

-- a zone has no number exactly where no node has it
pub zone-absent : (nodes : List NodeRow) (id : ℕ)
    → (place_of (zones nodes) id ≡ None) ↔ All (λ node. node.zone ≢ Some id) nodes
zone-absent nodes id = (
  (λ e k d b q.
      let none = sym (any-zones id nodes) ∙ list_any-absent (nat_eq id) (zones nodes) e in
      let this : is_zone id (get_or nodes k d).zone ≡ true = rw q (search rules) in
      let some = list_any_at (λ node. is_zone id node.zone) nodes k d b this in
      absurd (let w = sym some ∙ none in cc)),
  (λ a. is_some-None (place_of (zones nodes) id)
      (is_some-position (nat_eq id) (zones nodes)
      ∙ any-zones id nodes
      ∙ list_any_none (λ node. is_zone id node.zone) nodes
      (λ k d b. not_zone id (get_or nodes k d).zone (a k d b)))),
)
