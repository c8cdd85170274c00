-- Zones by their numbers and by their identifiers.
use Rattle.std.proofs.Common.{◌≡◌, ◌⊎◌, inl, inr, ℕ, ◌<◌, ◌≤◌, Bool, true, false, List, length, refl, ap, sym, ◌∙◌, arith, Option, Some, None, get_or, nat_eq}
use Rattle.std.specs.Prelude.{◌&&◌, option_and_then, slice_get}
use Rattle.std.specs.List.{IsDistinct}
use Rattle.std.proofs.lemmas.Bool.{cases_lt}
use Rattle.std.proofs.lemmas.List.Quantifiers.{position-Some}
use Rattle.std.proofs.lemmas.List.Folds.{list_any_at}
use Rattle.std.proofs.lemmas.Map.Keys.{apart_from_distinct}
use Rattle.net_core.specs.Ids.{place_of}
use Rattle.net_core.specs.Network.{IsNet, zone_id, zone_number, zone_of, zones}
use Rattle.net_core.specs.declared.rows.NetRows.{NetRows}
use Rattle.net_core.specs.declared.rows.NodeRow.{NodeRow}
use Rattle.net_core.proofs.IdsFacts.{list_any-absent}
use Rattle.net_core.proofs.ZonesFacts.{distinct-zones, length-zones-le}
use Rattle.dta_model.specs.Walks.{is_zone}
use Rattle.labels.specs.Named.{zone_named}
use Rattle.labels.specs.States.Onwards.{zone_or_none}
use Rattle.labels.specs.declared.states.zone_numbers.TheConstants.{NO_ZONE}
use Rattle.labels.proofs.Basics.{differs, equal_of, same_true}

pub and_true : (p q : Bool) → p ≡ true → q ≡ (p && q)
and_true p q h = rw h refl

either_way : (p q : Bool) → (p ≡ true → q ≡ true) → (q ≡ true → p ≡ true) → p ≡ q
either_way true q f g = sym (f refl)
either_way false true f g = g refl
either_way false false f g = refl

module _ (ids : List ℕ) (id z : ℕ) (distinct : IsDistinct nat_eq ids) (small : z < length ids) (short : length ids ≤ NO_ZONE) where
  place_same : (o : Option ℕ) → place_of ids id ≡ o → nat_eq (zone_or_none o) z ≡ nat_eq id (get_or ids z 0)
  place_same None e =
      let none = list_any-absent (nat_eq id) ids e in
      either_way (nat_eq NO_ZONE z) (nat_eq id (get_or ids z 0))
      (λ t. (let s = equal_of NO_ZONE z t in absurd (omega (arith, s, small, short))))
      (λ t. absurd (let any = list_any_at (nat_eq id) ids z 0 small t in let q : true ≡ false = sym any ∙ none in cc))
  place_same (Some i) e =
      let p = position-Some (nat_eq id) ids i 0 e in
      let here : id ≡ get_or ids i 0 = equal_of id (get_or ids i 0) (p.1) in
      either_way (nat_eq i z) (nat_eq id (get_or ids z 0))
      (λ t. same_true id (get_or ids z 0) (here ∙ ap (λ n. get_or ids n 0) (equal_of i z t)))
      (λ t. (let there : id ≡ get_or ids z 0 = equal_of id (get_or ids z 0) t in
      let alike : nat_eq (get_or ids i 0) (get_or ids z 0) ≡ true = same_true (get_or ids i 0) (get_or ids z 0) (sym here ∙ there) in
      same_true i z (one_place i (p.0) alike (cases_lt i z))))
    where
      one_place : (i : ℕ) → i < length ids → nat_eq (get_or ids i 0) (get_or ids z 0) ≡ true → (i < z) ⊎ (z ≤ i) → i ≡ z
      one_place i inside alike (inl before) = absurd (let apart = apart_from_distinct nat_eq ids i z 0 distinct before small in let q : true ≡ false = sym alike ∙ apart in cc)
      one_place i inside alike (inr after) = by (cases_lt z i)
        where
          by : (z < i) ⊎ (i ≤ z) → i ≡ z
          by (inl past) =
              let turned : nat_eq (get_or ids z 0) (get_or ids i 0) ≡ true = same_true (get_or ids z 0) (get_or ids i 0) (sym (equal_of (get_or ids i 0) (get_or ids z 0) alike)) in
              absurd (let apart = apart_from_distinct nat_eq ids z i 0 distinct past inside in let q : true ≡ false = sym turned ∙ apart in cc)
          by (inr to) = omega (arith, to, after)

-- a node is in the zone of a number where it is in the zone of its identifier
pub zone_same : (net : NetRows) (n z : ℕ) → IsNet net → z < length (zones net.nodes) → nat_eq (zone_or_none (zone_of net n)) z ≡ is_zone (zone_named net z) (zone_id net n)
zone_same net n z sound small = by (slice_get net.nodes n)
  where
    short : length (zones net.nodes) ≤ NO_ZONE
    short = let few = sound.nodes.few in let le = length-zones-le net.nodes in omega (arith, few, le)

    none : nat_eq NO_ZONE z ≡ false
    none = differs NO_ZONE z (λ e. absurd (omega (arith, e, small, short)))

    inner : (o : Option ℕ) → nat_eq (zone_or_none (option_and_then (zone_number net) o)) z ≡ is_zone (zone_named net z) o
    inner None = none
    inner (Some id) = place_same (zones net.nodes) id z (distinct-zones net.nodes) small short (place_of (zones net.nodes) id) refl

    by : (o : Option NodeRow) → nat_eq (zone_or_none (option_and_then (λ node. option_and_then (zone_number net) node.zone) o)) z ≡ is_zone (zone_named net z) (option_and_then (λ node. node.zone) o)
    by None = none
    by (Some node) = inner node.zone

-- the identifier of a zone's number is the zone's
pub named : (net : NetRows) (id z : ℕ) → zone_number net id ≡ Some z → (zone_named net z ≡ id) × (z < length (zones net.nodes))
named net id z h = let p = position-Some (nat_eq id) (zones net.nodes) z 0 h in (sym (equal_of id (get_or (zones net.nodes) z 0) (p.1)), p.0)
