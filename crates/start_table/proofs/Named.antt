-- Links by the places of their identifiers.
use Rattle.std.proofs.Common.{◌≡◌, ◌⊎◌, inl, inr, ℕ, zero, suc, ◌<◌, ◌≤◌, ◌+◌, Bool, true, false, List, [], ◌∷◌, ◌++◌, length, refl, ap, sym, ◌∙◌, arith, rules, Option, Some, None, get_or, map, take, nat_eq, subst}
use Rattle.std.specs.Prelude.{All, option_and_then, option_map, slice_get}
use Rattle.std.specs.List.{IsDistinct, list_any}
use Rattle.std.proofs.lemmas.Bool.{cases_order}
use Rattle.std.proofs.Math.Seq.{take-suc}
use Rattle.std.proofs.lemmas.List.{get_or-map, length-map, map-append}
use Rattle.std.proofs.lemmas.List.Elements.{All-append}
use Rattle.std.proofs.lemmas.List.Quantifiers.{position-Some}
use Rattle.std.proofs.lemmas.Map.Keys.{apart_from_distinct}
use Rattle.std.proofs.lemmas.Option.{get_or_from_slice_get, slice_get-get_or, slice_get_within}
use Rattle.net_core.proofs.IdsFacts.{is_some-position, list_any-absent}
use Rattle.net_core.proofs.ZonesFacts.{is_some-None}
use Rattle.net_core.specs.Ids.{place_of}
use Rattle.net_core.specs.Rows.{link_ids, link_named}
use Rattle.net_core.specs.declared.rows.LinkNo.{LinkNo}
use Rattle.net_core.specs.declared.rows.LinkRow.{LinkRow}
use Rattle.net_core.specs.declared.rows.NetRows.{NetRows}
use Rattle.dta_model.specs.Plans.{link_numbers}
use Rattle.dta_model.specs.Walks.{IsWalk}
use Rattle.dta_model.specs.declared.trip.Trip.{Trip}
use Rattle.start_table.proofs.Pieces.{any_here}
use Rattle.start_table.specs.Names.{TellsNames}
use Rattle.start_table.specs.Starts.{agents_of, AreNamed, AreStartRows, Fits, IsNamedWalk, IsStarted, row_of, TellsFit, TellsStart, TellsWalk}
use Rattle.start_table.specs.declared.rows.StartRow.{StartRow}

-- a test that no element before a place passes
any_before : (p : ℕ → Bool) (xs : List ℕ) (k : ℕ) → ((i : ℕ) → i < k → p (get_or xs i 0) ≡ false) → k ≤ length xs → list_any p (take k xs) ≡ false
any_before p xs zero h b = refl
any_before p [] (suc k) h b = absurd (omega (arith, b))
any_before p (x ∷ xs) (suc k) h b =
    let here : p x ≡ false = h zero (omega arith) in
    let rest : list_any p (take k xs) ≡ false = any_before p xs k (λ i c. h (suc i) (omega (arith, c))) (omega (arith, b)) in
    rw (here, rest) refl

turned : (m n : ℕ) → nat_eq m n ≡ false → nat_eq n m ≡ false
turned m n f = by (nat_eq n m) refl
  where
    by : (b : Bool) → nat_eq n m ≡ b → b ≡ false
    by false e = refl
    by true e = let same : n ≡ m = search (rules, e) in absurd (let t : nat_eq m n ≡ true = rw same (search rules) in cc)

take_map : (links : List LinkRow) (k : ℕ) → link_ids (take k links) ≡ take k (link_ids links)
take_map links zero = refl
take_map [] (suc k) = refl
take_map (x ∷ links) (suc k) = ap (λ l. x.id ∷ l) (take_map links k)

absent : (ids : List ℕ) (id : ℕ) → list_any (nat_eq id) ids ≡ false → place_of ids id ≡ None
absent ids id none = is_some-None (place_of ids id) (is_some-position (nat_eq id) ids ∙ none)

-- the identifier of a link has no place among those of the links before
pub id_new : (links : List LinkRow) (k : ℕ) (d : LinkRow) → k < length links → IsDistinct nat_eq (link_ids links)
    → place_of (link_ids (take k links)) (get_or links k d).id ≡ None
id_new links k d b apart =
    let size : length (link_ids links) ≡ length links = length-map links (λ link. link.id) in
    let this : get_or (link_ids links) k 0 ≡ (get_or links k d).id = get_or-map (λ (link : LinkRow). link.id) links k d 0 b in
    let before : list_any (nat_eq (get_or (link_ids links) k 0)) (take k (link_ids links)) ≡ false =
    any_before (nat_eq (get_or (link_ids links) k 0)) (link_ids links) k
    (λ i c. turned (get_or (link_ids links) i 0) (get_or (link_ids links) k 0) (apart_from_distinct nat_eq (link_ids links) i k 0 apart c (omega (arith, size, b))))
    (omega (arith, size, b)) in
    ap (λ l. place_of l (get_or links k d).id) (take_map links k)
    ∙ ap (λ id. place_of (take k (link_ids links)) id) (sym this)
    ∙ absent (take k (link_ids links)) (get_or (link_ids links) k 0) before

eq_true : (a b : ℕ) → nat_eq a b ≡ true → a ≡ b
eq_true a b h = search (rules, h)

-- ---- names
named_none : (links : List LinkRow) (ids : List ℕ) (walk : List LinkNo) (i id : ℕ) → slice_get ids i ≡ Some id → place_of (link_ids links) id ≡ None
    → map (link_named links) ids ≡ map Some walk → ⊥
named_none links [] walk i id e none h = cc
named_none links (x ∷ ids) [] i id e none h = cc
named_none links (x ∷ ids) (w ∷ walk) zero id e none h =
    let same : x ≡ id = cc in
    let head : link_named links x ≡ Some w = cc in
    let lost : link_named links id ≡ None = ap (λ o. option_map (λ place. record { 0 = place }) o) none in
    absurd (let two : Some w ≡ None = sym head ∙ ap (link_named links) same ∙ lost in cc)
named_none links (x ∷ ids) (w ∷ walk) (suc i) id e none h =
    let rest : map (link_named links) ids ≡ map Some walk = cc in
    named_none links ids walk i id e none rest

named_are : (links : List LinkRow) (ids : List ℕ) (walk : List LinkNo) → map (place_of (link_ids links)) ids ≡ map Some (link_numbers walk) → map (link_named links) ids ≡ map Some walk
named_are links [] [] h = refl
named_are links [] (w ∷ walk) h = cc
named_are links (x ∷ ids) [] h = cc
named_are links (x ∷ ids) (w ∷ walk) h =
    let head : place_of (link_ids links) x ≡ Some w.0 = cc in
    let rest : map (place_of (link_ids links)) ids ≡ map Some (link_numbers walk) = cc in
    let first : link_named links x ≡ Some w = ap (λ o. option_map (λ place. record { 0 = place }) o) head in
    ap (λ o. o ∷ map (link_named links) ids) first ∙ ap (λ l. Some w ∷ l) (named_are links ids walk rest)

somes_same : (a b : List LinkNo) → map Some a ≡ map Some b → a ≡ b
somes_same [] [] h = refl
somes_same [] (y ∷ b) h = cc
somes_same (x ∷ a) [] h = cc
somes_same (x ∷ a) (y ∷ b) h =
    let head : x ≡ y = cc in
    let rest : map Some a ≡ map Some b = cc in
    ap (λ z. z ∷ a) head ∙ ap (λ l. y ∷ l) (somes_same a b rest)

pub names_none : (net : NetRows) (o d : ℕ) (ids index : List ℕ) (walk : List LinkNo) → index ≡ link_ids net.links → TellsNames index ids None → IsNamedWalk net o d ids walk → ⊥
names_none net o d ids index walk is (i, id, e, none) named =
    named_none net.links ids walk i id e (ap (λ l. place_of l id) (sym is) ∙ none) named.names

pub names_are : (net : NetRows) (ids index : List ℕ) (walk : List LinkNo) → index ≡ link_ids net.links → TellsNames index ids (Some walk) → AreNamed net ids walk
names_are net ids index walk is h = named_are net.links ids walk (ap (λ l. map (place_of l) ids) (sym is) ∙ h)

pub named_once : (net : NetRows) (ids : List ℕ) (a b : List LinkNo) → AreNamed net ids a → AreNamed net ids b → a ≡ b
named_once net ids a b x y = somes_same a b (sym x ∙ y)

-- one name more
pub named_more : (index ids : List ℕ) (i place : ℕ) (links new : List LinkNo) → i < length ids → place_of index (get_or ids i 0) ≡ Some place → new ≡ links ++ (record { 0 = place }) ∷ []
    → map (place_of index) (take i ids) ≡ map Some (link_numbers links) → map (place_of index) (take (i + 1) ids) ≡ map Some (link_numbers new)
named_more index ids i place links new h here is before =
    let up : i + 1 ≡ suc i = omega arith in
    let more : take (i + 1) ids ≡ take i ids ++ get_or ids i 0 ∷ [] = ap (λ n. take n ids) up ∙ take-suc ids i 0 h in
    ap (map (place_of index)) more
    ∙ map-append (place_of index) (take i ids) (get_or ids i 0 ∷ [])
    ∙ ap (λ o. map (place_of index) (take i ids) ++ o ∷ []) here
    ∙ ap (λ l. l ++ Some place ∷ []) before
    ∙ sym (map-append Some (link_numbers links) (place ∷ []))
    ∙ ap (map Some) (sym (map-append (λ (l : LinkNo). l.0) links ((record { 0 = place }) ∷ [])))
    ∙ ap (λ l. map Some (link_numbers l)) (sym is)

pub within_more : (n place : ℕ) (links new : List LinkNo) → place < n → new ≡ links ++ (record { 0 = place }) ∷ [] → All (λ link. link.0 < n) links → All (λ link. link.0 < n) new
within_more n place links new low is all = subst (λ l. All (λ (link : LinkNo). link.0 < n) l) (sym is) (All-append (λ (link : LinkNo). link.0 < n) links ((record { 0 = place }) ∷ []) all (one n place low))
  where
    one : (n place : ℕ) → place < n → All (λ (link : LinkNo). link.0 < n) ((record { 0 = place }) ∷ [])
    one n place low zero d h = low
    one n place low (suc k) d h = absurd (omega (arith, h))

pub names_walk : (net : NetRows) (o d : ℕ) (ids index : List ℕ) (links : List LinkNo) → index ≡ link_ids net.links
    → TellsNames index ids (Some links) → IsWalk net o d (link_numbers links) → IsNamedWalk net o d ids links
names_walk net o d ids index links is names walks = record { names = names_are net ids index links is names; walks = walks }

pub names_no_walk : (net : NetRows) (o d : ℕ) (ids index : List ℕ) (links walk : List LinkNo) → index ≡ link_ids net.links → TellsNames index ids (Some links)
    → (IsWalk net o d (link_numbers links) → ⊥) → IsNamedWalk net o d ids walk → ⊥
names_no_walk net o d ids index links walk is names no_walk named =
    let same : walk ≡ links = named_once net ids walk links named.names (names_are net ids index links is names) in
    no_walk (subst (λ w. IsWalk net o d (link_numbers w)) same named.walks)

-- what the links of a row name tells whether the row fits
pub named_fits : (net : NetRows) (trip : Trip) (row : StartRow) (told : Option (List LinkNo)) → row.agent ≡ trip.number → row.origin ≡ trip.origin → row.destination ≡ trip.destination
    → TellsWalk net trip.origin trip.destination row.links told → TellsFit net trip row told
named_fits net trip row None agent origin destination none = λ walk fits. none walk (record { names = fits.names; walks = fits.walks })
named_fits net trip row (Some walk) agent origin destination named = record {
  agent = agent;
  origin = origin;
  destination = destination;
  names = named.names;
  walks = named.walks;
}

-- ---- the row of an agent
no_row : StartRow
no_row = record { agent = 0; origin = 0; destination = 0; links = [] }

-- rows of one agent are one row
pub one_row : (start : List StartRow) (r s : ℕ) (row other : StartRow) → IsDistinct nat_eq (agents_of start) → slice_get start r ≡ Some row → slice_get start s ≡ Some other → row.agent ≡ other.agent → row ≡ other
one_row start r s row other apart e f same = by (cases_order r s)
  where
    size : length (agents_of start) ≡ length start
    size = length-map start (λ (w : StartRow). w.agent)

    agent_at : (i : ℕ) (w : StartRow) → slice_get start i ≡ Some w → get_or (agents_of start) i 0 ≡ w.agent
    agent_at i w g = get_or-map (λ (v : StartRow). v.agent) start i no_row 0 (slice_get_within start i w g) ∙ ap (λ (v : StartRow). v.agent) (get_or_from_slice_get start i w no_row g)

    differ : (i j : ℕ) (v w : StartRow) → slice_get start i ≡ Some v → slice_get start j ≡ Some w → i < j → v.agent ≡ w.agent → ⊥
    differ i j v w g h less agents =
        let within = slice_get_within start j w h in
        let many = size in
        let apart_here = apart_from_distinct nat_eq (agents_of start) i j 0 apart less (omega (arith, within, many)) in
        let equal : get_or (agents_of start) i 0 ≡ get_or (agents_of start) j 0 = agent_at i v g ∙ agents ∙ sym (agent_at j w h) in
        let yes_here : nat_eq (get_or (agents_of start) i 0) (get_or (agents_of start) j 0) ≡ true = rw equal (search rules) in
        let both : true ≡ false = sym yes_here ∙ apart_here in
        cc

    by : (r ≡ s) ⊎ ((r < s) ⊎ (s < r)) → row ≡ other
    by (inl here) = let both : Some row ≡ Some other = sym e ∙ ap (λ i. slice_get start i) here ∙ f in cc
    by (inr (inl less)) = absurd (differ r s row other e f less same)
    by (inr (inr less)) = absurd (differ s r other row f e less (sym same))

-- an agent's row stands in the table, and is the agent's
pub row_found : (start : List StartRow) (agent : ℕ) (row : StartRow) → row_of start agent ≡ Some row → (r : ℕ) × (slice_get start r ≡ Some row) × (row.agent ≡ agent)
row_found start agent row e = by (place_of (agents_of start) agent) refl
  where
    by : (o : Option ℕ) → place_of (agents_of start) agent ≡ o → (r : ℕ) × (slice_get start r ≡ Some row) × (row.agent ≡ agent)
    by None p = absurd (let none : Some row ≡ None = sym e ∙ ap (option_and_then (slice_get start)) p in cc)
    by (Some r) p =
        let here : slice_get start r ≡ Some row = sym (ap (option_and_then (slice_get start)) p) ∙ e in
        let at = position-Some (nat_eq agent) (agents_of start) r 0 p in
        let same : agent ≡ get_or (agents_of start) r 0 = eq_true agent (get_or (agents_of start) r 0) at.1 in
        let is : get_or (agents_of start) r 0 ≡ row.agent =
        get_or-map (λ (v : StartRow). v.agent) start r no_row 0 (slice_get_within start r row here) ∙ ap (λ (v : StartRow). v.agent) (get_or_from_slice_get start r row no_row here) in
        (r, here, sym (same ∙ is))

-- an agent without a row isn't the agent of one
pub row_lost : (start : List StartRow) (agent : ℕ) → row_of start agent ≡ None → (r : ℕ) (row : StartRow) → slice_get start r ≡ Some row → row.agent ≡ agent → ⊥
row_lost start agent e r row here same = by (place_of (agents_of start) agent) refl
  where
    size : length (agents_of start) ≡ length start
    size = length-map start (λ (w : StartRow). w.agent)

    by : (o : Option ℕ) → place_of (agents_of start) agent ≡ o → ⊥
    by (Some p) at =
        let within = (position-Some (nat_eq agent) (agents_of start) p 0 at).0 in
        let many = size in
        let found : slice_get start p ≡ Some (get_or start p no_row) = slice_get-get_or start p no_row (omega (arith, within, many)) in
        let lost : slice_get start p ≡ None = sym (ap (option_and_then (slice_get start)) at) ∙ e in
        let both : Some (get_or start p no_row) ≡ None = sym found ∙ lost in
        cc
    by None at =
        let within = slice_get_within start r row here in
        let many = size in
        let is : get_or (agents_of start) r 0 ≡ agent =
        get_or-map (λ (v : StartRow). v.agent) start r no_row 0 within ∙ ap (λ (v : StartRow). v.agent) (get_or_from_slice_get start r row no_row here) ∙ same in
        let yes_here : nat_eq agent (get_or (agents_of start) r 0) ≡ true = rw is (search rules) in
        let some = any_here (nat_eq agent) (agents_of start) r 0 (omega (arith, within, many)) yes_here in
        let both : true ≡ false = sym some ∙ list_any-absent (nat_eq agent) (agents_of start) at in
        cc

-- what the row of an agent tells of its vehicle is what the table tells
other_row : (net : NetRows) (start : List StartRow) (trip : Trip) (row : StartRow) (walk : List LinkNo) → AreStartRows start → row_of start trip.number ≡ Some row → IsStarted net start trip walk → Fits net trip row walk
other_row net start trip row walk sound e (r, other, at, fits) =
    let found = row_found start trip.number row e in
    let same : row ≡ other = one_row start (found.0) r row other sound.distinct (found.1) at (found.2 ∙ sym fits.agent) in
    subst (λ w. Fits net trip w walk) (sym same) fits

pub row_tells : (net : NetRows) (start : List StartRow) (trip : Trip) (row : StartRow) (told : Option (List LinkNo)) → AreStartRows start → row_of start trip.number ≡ Some row → TellsFit net trip row told → TellsStart net start trip told
row_tells net start trip row (Some walk) sound e fits = let found = row_found start trip.number row e in (found.0, row, found.1, fits)
row_tells net start trip row None sound e none = λ walk started. none walk (other_row net start trip row walk sound e started)

pub no_row_tells : (net : NetRows) (start : List StartRow) (trip : Trip) → row_of start trip.number ≡ None → TellsStart net start trip None
no_row_tells net start trip e = λ walk started. lost walk started
  where
    lost : (walk : List LinkNo) → IsStarted net start trip walk → ⊥
    lost walk (r, row, at, fits) = row_lost start trip.number e r row at fits.agent
