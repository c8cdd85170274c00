-- Zones by their numbers, one after another.
use Rattle.std.proofs.Common.{◌≡◌, ℕ, suc, ◌+◌, ◌<◌, ◌≤◌, List, [], ◌∷◌, ◌++◌, length, ap, sym, ◌∙◌, take, get_or, refl, Some, subst, arith}
use Rattle.std.specs.Prelude.{fold, slice_get, slice_index, All}
use Rattle.std.specs.List.{range_with_len}
use Rattle.std.proofs.lemmas.List.{get_or-map, length-map, map-append, take_more}
use Rattle.std.proofs.lemmas.List.FromFn.{get_or-range_with_len, length-range_with_len}
use Rattle.std.proofs.lemmas.Option.{get_or_from_slice_get, slice_get_within}
use Rattle.net_core.specs.Network.{noted}
use Rattle.net_core.specs.declared.rows.NodeRow.{NodeRow}
use Rattle.net_core.specs.declared.rows.ZoneNo.{ZoneNo}
use Rattle.net_core.proofs.Numbers.{numbers_grow}
use Rattle.trip_costs.specs.Costs.{CostTables}
use Rattle.net_core.specs.declared.rows.NetRows.{NetRows}
use Rattle.labels.specs.ToZone.{zone_numbers, ToZones}

-- zones noted so far
abbrev pub noted_in : List NodeRow → List ℕ
noted_in nodes = fold (λ found node. noted found node.zone) [] nodes

fold-snoc : {A B : Type 0} (f : B → A → B) (start : B) (xs : List A) (x : A)
    → fold f start (xs ++ x ∷ []) ≡ f (fold f start xs) x
fold-snoc f start [] x = refl
fold-snoc f start (y ∷ ys) x = fold-snoc f (f start y) ys x

pub noted-more : (nodes : List NodeRow) (k : ℕ) (node : NodeRow) → slice_get nodes k ≡ Some node
    → noted_in (take (k + 1) nodes) ≡ noted (noted_in (take k nodes)) node.zone
noted-more nodes k node is =
    ap (λ ns. noted_in ns)
    (take_more nodes k node (slice_get_within nodes k node is)
    ∙ ap (λ x. take k nodes ++ x ∷ []) (get_or_from_slice_get nodes k node node is))
    ∙ fold-snoc (λ found n. noted found n.zone) [] (take k nodes) node

-- ---- so many zones, from one on
range-more : (a n : ℕ) → range_with_len a (n + 1) ≡ range_with_len a n ++ (a + n) ∷ []
range-more a n = let e : n + 1 ≡ suc n = omega arith in rw e (numbers_grow a n (a + n) refl)

pub numbers-more : (zones : List ZoneNo) (first k : ℕ) (zone : ZoneNo)
    → zone_numbers zones ≡ range_with_len first k → zone.0 ≡ first + k
    → zone_numbers (zones ++ zone ∷ []) ≡ range_with_len first (k + 1)
numbers-more zones first k zone h e =
    map-append (λ z. z.0) zones (zone ∷ [])
    ∙ ap (λ ns. ns ++ zone.0 ∷ []) h
    ∙ ap (λ n. range_with_len first k ++ n ∷ []) e
    ∙ sym (range-more first k)

pub numbers-many : (zones : List ZoneNo) (first count : ℕ)
    → zone_numbers zones ≡ range_with_len first count → length zones ≡ count
numbers-many zones first count h =
    sym (length-map zones (λ z. z.0)) ∙ ap (λ ns. length ns) h ∙ length-range_with_len first count

pub number-at : (zones : List ZoneNo) (first count k : ℕ)
    → zone_numbers zones ≡ range_with_len first count → k < count
    → slice_index (zone_numbers zones) k ≡ first + k
number-at zones first count k h l =
    ap (λ ns. get_or ns k 0) h ∙ get_or-range_with_len first count k 0 l

pub numbers-below : (zones : List ZoneNo) (first count bound : ℕ)
    → zone_numbers zones ≡ range_with_len first count → first + count ≤ bound
    → All (λ z. z.0 < bound) zones
numbers-below zones first count bound h within k d l =
    let many = numbers-many zones first count h in
    let small : k < count = subst (λ n. k < n) many l in
    let here = number-at zones first count k h small in
    let same = get_or-map (λ z. z.0) zones k d 0 l in
    omega (arith, small, here, same, within)

-- labels of a group, which is shown as a slice
pub labels-of : (net : NetRows) (costs : CostTables) (labels : ToZones) (shown zones : List ZoneNo)
    → labels ≡ record { net = net; costs = costs; zones = zone_numbers shown } → shown ≡ zones
    → labels ≡ record { net = net; costs = costs; zones = zone_numbers zones }
labels-of net costs labels shown zones is same =
    let of : List ZoneNo → ToZones = λ zs. record { net = net; costs = costs; zones = zone_numbers zs } in
    is ∙ ap of same
