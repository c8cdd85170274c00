-- Texts of lines, and lists joined by `;`, one after another.
use Rattle.std.proofs.Common.{◌≡◌, ℕ, zero, suc, ◌+◌, ◌<◌, ◌≤◌, List, [], ◌∷◌, ◌++◌, length, take, drop, get_or, map, refl, sym, ap, ◌∙◌, subst, arith, append_assoc, Ok, Err, Result}
use Rattle.std.specs.List.{enumerate_from, flat_map, join_with_byte, zip}
use Rattle.std.specs.Prelude.{decimal}
use Rattle.std.proofs.lemmas.List.{take_more, append-nil, take-append-drop, take_all, map-append, get_or-map, length-map}
use Rattle.std.proofs.lemmas.List.Folds.{flat_map-map}
use Rattle.std.proofs.lemmas.Slice.Zip.{firsts-zip, get_or-zip}
use Rattle.desk_io.specs.declared.desk.Output.{Output}
use Rattle.desk_io.specs.Desk.{Taken}
use Rattle.desk_io.specs.State.{DeskState}
use Rattle.desk_io.specs.Transfers.{IsPartOut, OnlyPuts}
use Rattle.pending_text.specs.Sending.{Adds}
use Rattle.std.specs.Prelude.{Option, None, Some, IfSome, slice_get}
use Rattle.std.proofs.lemmas.Option.{slice_get-get_or}
use Rattle.std.proofs.Math.ListN.{get_or-map as get_or-map_same}
use Rattle.desk_io.specs.declared.desk.Output.TheVariants.{Agent}
use Rattle.reports.specs.declared.status.AgentStatus.{AgentStatus}
use Rattle.std.proofs.lemmas.List.FromFn.{get_or-enumerate_from, get_or-range_with_len}
use Rattle.net_core.specs.Network.{link_at, numbers_below}
use Rattle.net_core.specs.Rows.{link_in}
use Rattle.net_core.specs.declared.rows.LinkNo.{LinkNo}
use Rattle.net_core.specs.declared.rows.LinkRow.{LinkRow}
use Rattle.net_core.specs.declared.rows.NetRows.{NetRows}
use Rattle.dta_model.specs.Sound.{AreWalks}
use Rattle.dta_model.specs.declared.plan.Plan.{Plan}
use Rattle.dta_model.specs.declared.loaded.Journey.{Journey}
use Rattle.dta_model.specs.declared.trip.Trip.{Trip}
use Rattle.gap.specs.declared.line.GapLine.{GapLine}
use Rattle.reports.specs.Texts.{AreLinksOf, AreOnNet, Vehicle, agent_columns, agent_header, agent_header_by, since_header, agent_line, agent_text, agent_text_by, agent_text_from, gap_line, ids_of, item, iteration_told, joined, numbered_line, routed_status, semicolon, trip_columns, vehicle_line, vehicle_line_from, vehicles, way_columns}
use Rattle.pending_text.proofs.SendingFacts.{HasAdded, adds-then, has-adds, has-refused, has-then}

-- ---- lists joined by `;`

-- one more piece
join_more : (c : ℕ) (ys : List (List ℕ)) (x : List ℕ) → 0 < length ys → join_with_byte c (ys ++ (x ∷ [])) ≡ join_with_byte c ys ++ (c ∷ x)
join_more c [] x k = absurd (omega arith)
join_more c (y ∷ []) x k = refl
join_more c (y ∷ z ∷ ys) x k = ap (λ v. y ++ (c ∷ v)) (join_more c (z ∷ ys) x (omega arith)) ∙ sym (append_assoc y (c ∷ join_with_byte c (z ∷ ys)) (c ∷ x))

-- more pieces
join_rest : (c : ℕ) (xs ys : List (List ℕ)) → (rest : List ℕ) × (join_with_byte c (xs ++ ys) ≡ join_with_byte c xs ++ rest)
join_rest c [] ys = (join_with_byte c ys, refl)
join_rest c (x ∷ []) [] = ([], sym (append-nil x))
join_rest c (x ∷ []) (y ∷ ys) = (c ∷ join_with_byte c (y ∷ ys), refl)
join_rest c (x ∷ z ∷ xs) ys =
    let r = join_rest c (z ∷ xs) ys in
    (r.0, ap (λ v. x ++ (c ∷ v)) r.1 ∙ sym (append_assoc x (c ∷ join_with_byte c (z ∷ xs)) r.0))

-- one more number
pub joined-more : (ns : List ℕ) (i d : ℕ) → i < length ns → joined (take (i + 1) ns) ≡ joined (take i ns) ++ item i (get_or ns i d)
joined-more [] i d k = absurd (omega arith)
joined-more (n ∷ ns) zero d k = refl
joined-more (n ∷ ns) (suc i) d k =
    let some : 0 < length (map decimal (take (suc i) (n ∷ ns))) = omega arith in
    ap joined (take_more (n ∷ ns) (suc i) d k)
    ∙ ap (join_with_byte semicolon) (map-append decimal (take (suc i) (n ∷ ns)) (get_or (n ∷ ns) (suc i) d ∷ []))
    ∙ join_more semicolon (map decimal (take (suc i) (n ∷ ns))) (decimal (get_or (n ∷ ns) (suc i) d)) some

-- the first numbers and the others
joined-split : (ns : List ℕ) (i : ℕ) → (rest : List ℕ) × (joined ns ≡ joined (take i ns) ++ rest)
joined-split ns i =
    let r = join_rest semicolon (map decimal (take i ns)) (map decimal (drop i ns)) in
    (r.0, ap joined (sym (take-append-drop i ns)) ∙ ap (join_with_byte semicolon) (map-append decimal (take i ns) (drop i ns)) ∙ r.1)

-- one more number was added
pub item-added : {T E : Type 0} (o : Output) (ns : List ℕ) (i n : ℕ) (p0 p q : List ℕ) (s0 s1 s2 : DeskState) (t : T) → i < length ns → n ≡ get_or ns i 0
    → HasAdded o (joined (take i ns)) p0 p s0 s1 → Adds {T = T} {E = E} o (item i n) p q s1 s2 (Ok t) → HasAdded o (joined (take (i + 1) ns)) p0 q s0 s2
item-added o ns i n p0 p q s0 s1 s2 t k e a b =
    subst (λ text. HasAdded o text p0 q s0 s2) (ap (λ m. joined (take i ns) ++ item i m) e ∙ sym (joined-more ns i 0 k))
    (has-then o (joined (take i ns)) (item i n) p0 p q s0 s1 s2 t a b)

-- or it was refused, and with it all numbers
pub item-refused : {T S E : Type 0} (Done : Taken → Taken → Type 0) (o : Output) (ns : List ℕ) (i n : ℕ) (p0 p q : List ℕ) (s0 s1 s2 : DeskState) (e e2 : E) → i < length ns → n ≡ get_or ns i 0
    → HasAdded o (joined (take i ns)) p0 p s0 s1 → Adds {T = T} o (item i n) p q s1 s2 (Err e) → OnlyPuts {T = S} Done (IsPartOut o (p0 ++ joined ns)) s0 s2 (Err e2)
item-refused {T} {S} Done o ns i n p0 p q s0 s1 s2 e e2 k is a b =
    let r = joined-split ns (i + 1) in
    let more : joined (take i ns) ++ item i n ≡ joined (take (i + 1) ns) = ap (λ m. joined (take i ns) ++ item i m) is ∙ sym (joined-more ns i 0 k) in
    subst (λ text. OnlyPuts {T = S} Done (IsPartOut o (p0 ++ text)) s0 s2 (Err e2)) (ap (λ text. text ++ r.0) more ∙ sym r.1)
    (has-refused Done o (joined (take i ns)) (item i n) r.0 p0 p q s0 s1 s2 e e2 a b)

-- all numbers were added
pub items-added : {T E : Type 0} (o : Output) (ns : List ℕ) (i : ℕ) (p0 p : List ℕ) (s0 s1 : DeskState) (t : T) → length ns ≤ i
    → HasAdded o (joined (take i ns)) p0 p s0 s1 → Adds {T = T} {E = E} o (joined ns) p0 p s0 s1 (Ok t)
items-added o ns i p0 p s0 s1 t k a = has-adds o (joined ns) p0 p s0 s1 t (rw (take_all i ns k) at a)

-- ---- what stands at a place

-- as many pairs as first parts
length-pairs : {A B : Type 0} (xs : List A) (ys : List B) → length ys ≡ length xs → length (zip xs ys) ≡ length xs
length-pairs {A} {B} xs ys e = sym (length-map (zip xs ys) (λ (p : A × B). p.0)) ∙ ap length (firsts-zip xs ys e)

-- the row that a place has is the link there
pub link-there : (net : NetRows) (l : ℕ) (row : LinkRow) → slice_get net.links l ≡ Some row → link_at net l ≡ row
unfolding link_in
link-there net l row e = rw e refl

-- the identifier of a link of a route
pub id-there : (net : NetRows) (route : List LinkNo) (i : ℕ) (d : LinkNo) (row : LinkRow) → i < length route
    → slice_get net.links (get_or route i d).0 ≡ Some row → row.id ≡ get_or (ids_of net route) i 0
id-there net route i d row k e =
    ap (λ link. link.id) (sym (link-there net (get_or route i d).0 row e)) ∙ sym (get_or-map (λ l. (link_at net l.0).id) route i d 0 k)

-- as many identifiers as links
pub length-ids_of : (net : NetRows) (route : List LinkNo) → length (ids_of net route) ≡ length route
length-ids_of net route = length-map route (λ l. (link_at net l.0).id)

-- the routes of a plan whose routes are walks are over the links of its network
pub walks-on-net : (p : Plan) → AreWalks p.net p.trips p.routes → length p.routes ≡ length p.trips → AreOnNet p.net p.routes
walks-on-net p walks each v d k = each_route (get_or p.routes v d) (slice_get-get_or p.routes v d k)
  where
    trip : Trip
    trip = get_or p.trips v (record { number = 0; origin = 0; destination = 0; departure = 0 })

    its_trip : slice_get p.trips v ≡ Some trip
    its_trip = slice_get-get_or p.trips v _ (omega arith)

    each_route : (r : Option (List LinkNo)) → slice_get p.routes v ≡ Some r → IfSome r (AreLinksOf p.net)
    each_route None e = tt
    each_route (Some route) e = λ i l h.
        let w = walks v trip route its_trip e in
        subst (λ m. m < length p.net.links) (get_or-map_same (λ x. x.0) route i l) (w.links i l.0 (rw (length-map route (λ x. x.0)) h))

-- a number below a bound
pub number-there : (f : ℕ → List ℕ) (n i : ℕ) → i < n → f i ≡ f (get_or (numbers_below n) i 0)
number-there f n i k =
    let same : 0 + i ≡ i = omega arith in
    ap f (sym (get_or-range_with_len 0 n i 0 k ∙ same))

-- a line and its iteration
pub gap-there : (lines : List GapLine) (i : ℕ) (d : GapLine) → i < length lines
    → gap_line (i + 1) (get_or lines i d) ≡ numbered_line (get_or (enumerate_from 1 lines) i (0, d))
gap-there lines i d k =
    let same : i + 1 ≡ 1 + i = omega arith in
    ap (λ n. gap_line n (get_or lines i d)) same ∙ ap numbered_line (sym (get_or-enumerate_from 1 lines i (0, d) k))

-- as many vehicles as trips
pub length-vehicles : (trips : List Trip) (routes : List (Option (List LinkNo))) (journeys : List Journey) → length routes ≡ length trips
    → length journeys ≡ length trips → length (vehicles trips routes journeys) ≡ length trips
unfolding vehicles
length-vehicles [] routes journeys a b = refl
length-vehicles (t ∷ trips) [] journeys a b = absurd (omega arith)
length-vehicles (t ∷ trips) (r ∷ routes) [] a b = absurd (omega arith)
length-vehicles (t ∷ trips) (r ∷ routes) (j ∷ journeys) a b = ap suc (length-vehicles trips routes journeys (omega arith) (omega arith))

-- a vehicle is its trip, its route and its journey
pub vehicle-there : (trips : List Trip) (routes : List (Option (List LinkNo))) (journeys : List Journey) (i : ℕ)
    (trip : Trip) (route : Option (List LinkNo)) (journey : Journey) (d : Vehicle)
    → slice_get trips i ≡ Some trip → slice_get routes i ≡ Some route → slice_get journeys i ≡ Some journey
    → record { trip = trip; route = route; journey = journey } ≡ get_or (vehicles trips routes journeys) i d
unfolding vehicles
vehicle-there [] routes journeys i trip route journey d a b c = absurd cc
vehicle-there (t ∷ trips) [] journeys i trip route journey d a b c = absurd cc
vehicle-there (t ∷ trips) (r ∷ routes) [] i trip route journey d a b c = absurd cc
vehicle-there (t ∷ trips) (r ∷ routes) (j ∷ journeys) zero trip route journey d a b c =
    let x : trip ≡ t = cc in
    let y : route ≡ r = cc in
    let z : journey ≡ j = cc in
    rw (x, y, z) refl
vehicle-there (t ∷ trips) (r ∷ routes) (j ∷ journeys) (suc i) trip route journey d a b c = vehicle-there trips routes journeys i trip route journey d a b c

-- ---- the columns of a vehicle

-- one that has a route, piece by piece
pub columns-added : {T S E F : Type 0} (net : NetRows) (trip : Trip) (route links : List LinkNo) (journey : Journey) (named : AgentStatus) (entries p q r : List ℕ) (s0 s1 s2 : DeskState) (t : T) (result : Result S F)
    → named ≡ routed_status journey → links ≡ route → entries ≡ journey.entries
    → Adds {T = T} {E = E} Agent (trip_columns trip journey.arrival named) p q s0 s1 (Ok t) → Adds Agent (way_columns (ids_of net links) entries) q r s1 s2 result
    → Adds Agent (agent_columns net trip (Some route) journey) p r s0 s2 result
unfolding agent_columns
columns-added {T} {S} {E} {F} net trip route links journey named entries p q r s0 s1 s2 t result e f g a b =
    adds-then Agent _ _ p q r s0 s1 s2 t result
    (subst (λ s. Adds {T = T} {E = E} Agent (trip_columns trip journey.arrival s) p q s0 s1 (Ok t)) e a)
    (subst (λ s. Adds Agent (way_columns (ids_of net route) s) q r s1 s2 result) g
    (subst (λ l. Adds Agent (way_columns (ids_of net l) entries) q r s1 s2 result) f b))

-- ---- the lines of vehicles

-- the lines of these vehicles, with iterations where they are given
pub lines_of : NetRows → List Vehicle → Option (List ℕ) → List (List ℕ)
lines_of net vs None = map (vehicle_line net) vs
lines_of net vs (Some since) = map (vehicle_line_from net) (zip vs since)

-- a line is its own text
abbrev pub itself : List ℕ → List ℕ
itself line = line

-- Agent has its header and these lines
pub text-of-lines : (net : NetRows) (trips : List Trip) (routes : List (Option (List LinkNo))) (journeys : List Journey) (since : Option (List ℕ))
    → agent_header_by since ++ flat_map itself (lines_of net (vehicles trips routes journeys) since) ≡ agent_text_by net trips routes journeys since
unfolding lines_of agent_text_by agent_text agent_text_from
text-of-lines net trips routes journeys None = ap (λ (x : List ℕ). agent_header ++ x) (flat_map-map itself (vehicle_line net) (vehicles trips routes journeys))
text-of-lines net trips routes journeys (Some since) =
    ap (λ (x : List ℕ). since_header ++ x) (flat_map-map itself (vehicle_line_from net) (zip (vehicles trips routes journeys) since))

-- as many lines as vehicles
pub length-lines_of : (net : NetRows) (vs : List Vehicle) (since : Option (List ℕ)) (n : ℕ) → length vs ≡ n → IfSome since (λ numbers. length numbers ≡ n)
    → length (lines_of net vs since) ≡ n
unfolding lines_of
length-lines_of net vs None n a b = length-map vs (vehicle_line net) ∙ a
length-lines_of net vs (Some since) n a b =
    length-map (zip vs since) (vehicle_line_from net) ∙ length-pairs vs since (b ∙ sym a) ∙ a

-- the line of a vehicle at its place
line_at : (net : NetRows) (vs : List Vehicle) (since : Option (List ℕ)) (i : ℕ) (v : Vehicle) (n : ℕ) → i < n → length vs ≡ n
    → IfSome since (λ numbers. length numbers ≡ n) → v ≡ get_or vs i v
    → agent_line net v.trip v.route v.journey (iteration_told since i) ≡ get_or (lines_of net vs since) i []
unfolding lines_of
line_at net vs None i v n k a b e = ap (vehicle_line net) e ∙ sym (get_or-map (vehicle_line net) vs i v [] (omega arith))
line_at net vs (Some since) i v n k a b e =
    let told : slice_get since i ≡ Some (get_or since i 0) = slice_get-get_or since i 0 (omega arith) in
    let pair : get_or (zip vs since) i (v, 0) ≡ (get_or vs i v, get_or since i 0) = get_or-zip vs since i (v, 0) (omega arith) (omega arith) in
    let many : i < length (zip vs since) = rw (length-pairs vs since (b ∙ sym a)) (omega arith) in
    ap (λ (o : Option ℕ). agent_line net v.trip v.route v.journey o) told
    ∙ ap (λ (w : Vehicle). vehicle_line_from net (w, get_or since i 0)) e
    ∙ ap (vehicle_line_from net) (sym pair)
    ∙ sym (get_or-map (vehicle_line_from net) (zip vs since) i (v, 0) [] many)

pub line-there : (net : NetRows) (trips : List Trip) (routes : List (Option (List LinkNo))) (journeys : List Journey) (since : Option (List ℕ)) (i : ℕ)
    (trip : Trip) (route : Option (List LinkNo)) (journey : Journey) (iteration : Option ℕ)
    → length routes ≡ length trips → length journeys ≡ length trips → IfSome since (λ numbers. length numbers ≡ length trips) → i < length trips
    → slice_get trips i ≡ Some trip → slice_get routes i ≡ Some route → slice_get journeys i ≡ Some journey → iteration ≡ iteration_told since i
    → agent_line net trip route journey iteration ≡ get_or (lines_of net (vehicles trips routes journeys) since) i []
line-there net trips routes journeys since i trip route journey iteration a b e k x y z w =
    let v : Vehicle = record { trip = trip; route = route; journey = journey } in
    ap (λ (o : Option ℕ). agent_line net trip route journey o) w
    ∙ line_at net (vehicles trips routes journeys) since i v (length trips) k (length-vehicles trips routes journeys a b) e
    (vehicle-there trips routes journeys i trip route journey v x y z)

-- the row of a link
pub ruleset rows = (link-there)
