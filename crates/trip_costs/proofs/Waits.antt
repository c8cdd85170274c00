-- Waits at origins, one vehicle more.
use Rattle.std.specs.Prelude.{All, ◌≢◌, IfSome, slice_get, slice_set, sum_by, filter, nat_eq, option_map}
use Rattle.std.proofs.Common.{◌≡◌, ◌⊎◌, inl, inr, ℕ, ◌+◌, ◌*◌, ◌/◌, ◌<◌, ◌≤◌, Bool, true, false, cond, ◌&&◌, List, [], ◌∷◌, length, refl, arith, ap, sym, ◌∙◌, subst, get_or, Option, None, Some}
use Rattle.std.proofs.Math.Dec.{eqb}
use Rattle.std.proofs.lemmas.Bool.{eq-eqb}
use Rattle.std.proofs.lemmas.Bool.Decides.{eqb_tells}
use Rattle.std.proofs.lemmas.Grind.{get_or-set_at}
use Rattle.std.proofs.lemmas.List.{get_or-set_other, length-append, length-set}
use Rattle.std.proofs.lemmas.List.Elements.{filter-append}
use Rattle.std.proofs.lemmas.List.Sums.{sum_by-append, sum_by-cons}
use Rattle.std.proofs.lemmas.Option.{slice_get-get_or, slice_get-map}
use Rattle.net_core.specs.Network.{numbers_below}
use Rattle.net_core.specs.declared.rows.LinkNo.{LinkNo}
use Rattle.net_core.proofs.Numbers.{numbers_more}
use Rattle.dta_model.specs.LinkTimes.{buckets_to, by_bucket, mean_time, place_in}
use Rattle.dta_model.specs.Plans.{departure_in, departure_of, first_link, link_numbers, route_in, route_of}
use Rattle.dta_model.specs.Sound.{IsSound}
use Rattle.dta_model.specs.declared.trip.Trip.{Trip}
use Rattle.dta_model.proofs.Steady.{all_at}
use Rattle.dta_model.specs.declared.loaded.Journey.{Journey}
use Rattle.dta_model.specs.declared.plan.Plan.{Plan}
use Rattle.link_times.proofs.Places.{bucket_inside, by_bucket-is, place_inside, place_tells}
use Rattle.link_times.proofs.Totals.{zero_at}
use Rattle.trip_costs.specs.OriginWaits.{WaitTable, belongs, first_entry, is_first, mean_wait, origin_wait, steps_to_entry, waits_in, who_belong}
use Rattle.trip_costs.specs.WaitSums.{AreMeanWaits, AreWaitSums, first_who_belong, longest_wait}

-- a number that grows at one place
grown_at : (xs : List ℕ) (place x q : ℕ) → q ≡ place → place < length xs → get_or (slice_set xs place (get_or xs place 0 + x)) q 0 ≡ get_or xs q 0 + x
grown_at xs place x q same inside =
    let a : get_or (slice_set xs place (get_or xs place 0 + x)) q 0 ≡ get_or xs place 0 + x = get_or-set_at xs place q (get_or xs place 0 + x) 0 same inside in
    let b : get_or xs q 0 ≡ get_or xs place 0 = ap (λ k. get_or xs k 0) same in
    omega (arith, a, b)

grown_other : (xs : List ℕ) (place x q : ℕ) → q ≢ place → get_or (slice_set xs place (get_or xs place 0 + x)) q 0 ≡ get_or xs q 0
grown_other xs place x q other = get_or-set_other xs place q (get_or xs place 0 + x) 0 other

-- a sum over those who belong, with the vehicle after them
sum_more : (f : ℕ → ℕ) (test : ℕ → Bool) (v : ℕ) → sum_by f (filter test (numbers_below (v + 1))) ≡ sum_by f (filter test (numbers_below v)) + cond (test v) (f v) 0
sum_more f test v =
    ap (λ xs. sum_by f (filter test xs)) (numbers_more v)
    ∙ ap (λ xs. sum_by f xs) (filter-append test (numbers_below v) (v ∷ []))
    ∙ sum_by-append f (filter test (numbers_below v)) (filter test (v ∷ []))
    ∙ ap (λ n. sum_by f (filter test (numbers_below v)) + n) (one (test v))
  where
    one : (c : Bool) → sum_by f (cond c (v ∷ []) []) ≡ cond c (f v) 0
    one true = sum_by-cons f v [] ∙ plain (f v)
      where
        plain : (n : ℕ) → n + 0 ≡ n
        plain n = omega arith
    one false = refl

count_more : (test : ℕ → Bool) (v : ℕ) → length (filter test (numbers_below (v + 1))) ≡ length (filter test (numbers_below v)) + cond (test v) 1 0
count_more test v =
    ap (λ xs. length (filter test xs)) (numbers_more v)
    ∙ ap (λ xs. length xs) (filter-append test (numbers_below v) (v ∷ []))
    ∙ length-append (filter test (numbers_below v)) (filter test (v ∷ []))
    ∙ ap (λ n. length (filter test (numbers_below v)) + n) (one (test v))
  where
    one : (c : Bool) → length (cond c (v ∷ []) []) ≡ cond c 1 0
    one true = refl
    one false = refl

nothing : (n x : ℕ) (c : Bool) → c ≡ false → n ≡ n + cond c x 0
nothing n x c e = let a : cond c x 0 ≡ 0 = ap (λ d. cond d x 0) e in omega (arith, a)

something : (n x : ℕ) (c : Bool) → c ≡ true → n + x ≡ n + cond c x 0
something n x c e = let a : cond c x 0 ≡ x = ap (λ d. cond d x 0) e in omega (arith, a)

both_true : (a b c d : ℕ) → a ≡ b → c ≡ d → (nat_eq a b && nat_eq c d) ≡ true
both_true a b c d e f = rw (eq-eqb a b e) (eq-eqb c d f)

not_both : (a b c d : ℕ) → (a ≡ b → c ≡ d → ⊥) → (nat_eq a b && nat_eq c d) ≡ false
not_both a b c d h = by (eqb_tells a b) (eqb_tells c d)
  where
    by : ((eqb a b ≡ true) × (a ≡ b)) ⊎ ((eqb a b ≡ false) × (a ≢ b)) → ((eqb c d ≡ true) × (c ≡ d)) ⊎ ((eqb c d ≡ false) × (c ≢ d)) → (nat_eq a b && nat_eq c d) ≡ false
    by (inr (t, other)) k = rw t refl
    by (inl (t, same)) (inr (u, other)) = rw t u
    by (inl (t, same)) (inl (u, too)) = absurd (h same too)

module _ (p : Plan) (bucket buckets : ℕ) (journeys : List Journey) (v : ℕ) (sums departed : List ℕ) (had : AreWaitSums p bucket buckets journeys v sums departed) where
  sum_next : (l b : ℕ) → sum_by (origin_wait p journeys) (first_who_belong p bucket l b (v + 1)) ≡ sum_by (origin_wait p journeys) (first_who_belong p bucket l b v) + cond (belongs p bucket l b v) (origin_wait p journeys v) 0
  unfolding first_who_belong
  sum_next l b = sum_more (origin_wait p journeys) (belongs p bucket l b) v

  count_next : (l b : ℕ) → length (first_who_belong p bucket l b (v + 1)) ≡ length (first_who_belong p bucket l b v) + cond (belongs p bucket l b v) 1 0
  unfolding first_who_belong
  count_next l b = count_more (belongs p bucket l b) v

  -- who has no route belongs nowhere
  pub none_more : first_link p v ≡ None → AreWaitSums p bucket buckets journeys (v + 1) sums departed
  none_more none = record {
    size = had.size;
    many = had.many;
    sum_is = λ l b hl hb. had.sum_is l b hl hb ∙ nothing _ _ _ (nowhere l b) ∙ sym (sum_next l b);
    departed_is = λ l b hl hb. had.departed_is l b hl hb ∙ nothing _ _ _ (nowhere l b) ∙ sym (count_next l b);
    few = λ q. let a = had.few q in omega (arith, a);
    short = had.short;
  }
    where
      nowhere : (l b : ℕ) → belongs p bucket l b v ≡ false
      nowhere l b = ap (λ o. is_first l o && nat_eq (departure_of p v / bucket) b) none

  -- who has a route belongs to its first link and the bucket of the departure
  module _ (first place wait : ℕ) (link : first_link p v ≡ Some first) (at : place ≡ place_in buckets first (departure_of p v / bucket)) (early : departure_of p v / bucket < buckets) (within : place < length sums) (is : wait ≡ origin_wait p journeys v) (fits : wait ≤ longest_wait) where
    belongs_is : (l b : ℕ) → belongs p bucket l b v ≡ (nat_eq first l && nat_eq (departure_of p v / bucket) b)
    belongs_is l b = ap (λ o. is_first l o && nat_eq (departure_of p v / bucket) b) link

    here : (l b : ℕ) → b < buckets → place_in buckets l b ≡ place → belongs p bucket l b v ≡ true
    here l b hb e =
        let same = place_tells buckets first (departure_of p v / bucket) l b early hb (sym at ∙ sym e) in
        belongs_is l b ∙ both_true first l (departure_of p v / bucket) b same.0 same.1

    elsewhere : (l b : ℕ) → place_in buckets l b ≢ place → belongs p bucket l b v ≡ false
    elsewhere l b other =
        belongs_is l b ∙ not_both first l (departure_of p v / bucket) b
        (λ e f. other (ap (λ n. place_in buckets n b) (sym e) ∙ ap (λ n. place_in buckets first n) (sym f) ∙ sym at))

    grown : (xs : List ℕ) (x l b : ℕ) → place < length xs → b < buckets → get_or (slice_set xs place (get_or xs place 0 + x)) (place_in buckets l b) 0 ≡ get_or xs (place_in buckets l b) 0 + cond (belongs p bucket l b v) x 0
    grown xs x l b inside hb = by (eqb_tells (place_in buckets l b) place)
      where
        by : ((eqb (place_in buckets l b) place ≡ true) × (place_in buckets l b ≡ place)) ⊎ ((eqb (place_in buckets l b) place ≡ false) × (place_in buckets l b ≢ place)) → get_or (slice_set xs place (get_or xs place 0 + x)) (place_in buckets l b) 0 ≡ get_or xs (place_in buckets l b) 0 + cond (belongs p bucket l b v) x 0
        by (inl (t, same)) = grown_at xs place x (place_in buckets l b) same inside ∙ something (get_or xs (place_in buckets l b) 0) x (belongs p bucket l b v) (here l b hb same)
        by (inr (t, other)) = grown_other xs place x (place_in buckets l b) other ∙ nothing (get_or xs (place_in buckets l b) 0) x (belongs p bucket l b v) (elsewhere l b other)

    room : place < length departed
    room = let m = had.many in omega (arith, m, within)

    few_then : (q : ℕ) → get_or (slice_set departed place (get_or departed place 0 + 1)) q 0 ≤ v + 1
    few_then q = by (eqb_tells q place) (had.few q)
      where
        by : ((eqb q place ≡ true) × (q ≡ place)) ⊎ ((eqb q place ≡ false) × (q ≢ place)) → get_or departed q 0 ≤ v → get_or (slice_set departed place (get_or departed place 0 + 1)) q 0 ≤ v + 1
        by (inl (t, same)) few = let a = grown_at departed place 1 q same room in omega (arith, a, few)
        by (inr (t, other)) few = let a = grown_other departed place 1 q other in omega (arith, a, few)

    short_then : (q : ℕ) → get_or (slice_set sums place (get_or sums place 0 + wait)) q 0 ≤ get_or (slice_set departed place (get_or departed place 0 + 1)) q 0 * longest_wait
    short_then q = by (eqb_tells q place) (had.short q)
      where
        by : ((eqb q place ≡ true) × (q ≡ place)) ⊎ ((eqb q place ≡ false) × (q ≢ place)) → get_or sums q 0 ≤ get_or departed q 0 * longest_wait → get_or (slice_set sums place (get_or sums place 0 + wait)) q 0 ≤ get_or (slice_set departed place (get_or departed place 0 + 1)) q 0 * longest_wait
        by (inl (t, same)) short =
            let a = grown_at sums place wait q same within in
            let b = grown_at departed place 1 q same room in
            omega (arith, a, b, short, fits)
        by (inr (t, other)) short =
            let a = grown_other sums place wait q other in
            let b = grown_other departed place 1 q other in
            omega (arith, a, b, short)

    set_more : AreWaitSums p bucket buckets journeys (v + 1) (slice_set sums place (get_or sums place 0 + wait)) (slice_set departed place (get_or departed place 0 + 1))
    set_more = record {
      size = length-set sums place _ ∙ had.size;
      many = length-set departed place _ ∙ had.many ∙ sym (length-set sums place _);
      sum_is = λ l b hl hb. grown sums wait l b within hb ∙ let a = had.sum_is l b hl hb in let n = sum_next l b in let same : cond (belongs p bucket l b v) wait 0 ≡ cond (belongs p bucket l b v) (origin_wait p journeys v) 0 = ap (λ x. cond (belongs p bucket l b v) x 0) is in omega (arith, a, n, same);
      departed_is = λ l b hl hb. grown departed 1 l b room hb ∙ let a = had.departed_is l b hl hb in let n = count_next l b in omega (arith, a, n);
      few = few_then;
      short = short_then;
    }

    pub one_more : (new_sums new_departed : List ℕ) → new_sums ≡ slice_set sums place (get_or sums place 0 + wait) → new_departed ≡ slice_set departed place (get_or departed place 0 + 1) → AreWaitSums p bucket buckets journeys (v + 1) new_sums new_departed
    one_more new_sums new_departed es ed =
        subst (λ xs. AreWaitSums p bucket buckets journeys (v + 1) xs new_departed) (sym es)
        (subst (λ xs. AreWaitSums p bucket buckets journeys (v + 1) (slice_set sums place (get_or sums place 0 + wait)) xs) (sym ed) set_more)

-- ---- the first link, the departure and the wait of a vehicle
pub first_in : (p : Plan) (v : ℕ) (route : List LinkNo) (o : Option LinkNo) → slice_get p.routes v ≡ Some (Some route) → o ≡ slice_get route 0 → first_link p v ≡ option_map (λ l. l.0) o
unfolding first_link route_of
first_in p v route o there e =
    ap (λ r. slice_get (route_in r) 0) there ∙ slice_get-map (λ l. l.0) route 0 ∙ sym (ap (λ r. option_map (λ l. l.0) r) e)

pub first_none : (p : Plan) (v : ℕ) → slice_get p.routes v ≡ Some None → first_link p v ≡ None
unfolding first_link route_of
first_none p v there = ap (λ r. slice_get (route_in r) 0) there

pub first_inside : (p : Plan) → IsSound p → (v : ℕ) (route : List LinkNo) (o : Option LinkNo) → v < length p.trips → slice_get p.routes v ≡ Some (Some route) → o ≡ slice_get route 0 → IfSome o (λ l. l.0 < length p.net.links)
first_inside p sound v route None h there e = tt
first_inside p sound v route (Some l) h there e =
    let d : Trip = record { number = 0; origin = 0; destination = 0; departure = 0 } in
    let walk = sound.walks v (get_or p.trips v d) route (slice_get-get_or p.trips v d h) there in
    all_at (λ k. k < length p.net.links) (link_numbers route) 0 l.0 walk.links (slice_get-map (λ k. k.0) route 0 ∙ sym (ap (λ r. option_map (λ k. k.0) r) e))

departure_is : (p : Plan) (v : ℕ) (d : Trip) → v < length p.trips → departure_of p v ≡ (get_or p.trips v d).departure
unfolding departure_of
departure_is p v d h = ap departure_in (slice_get-get_or p.trips v d h)

wait_is : (p : Plan) (journeys : List Journey) (v : ℕ) (d : Trip) (journey : Journey) → v < length p.trips → slice_get journeys v ≡ Some journey → steps_to_entry p.horizon (get_or p.trips v d).departure (first_entry (Some journey)) ≡ origin_wait p journeys v
unfolding origin_wait
wait_is p journeys v d journey h got =
    ap (λ n. steps_to_entry p.horizon n (first_entry (Some journey))) (sym (departure_is p v d h))
    ∙ ap (λ o. steps_to_entry p.horizon (departure_of p v) (first_entry o)) (sym got)

-- a vehicle with a route is added
pub vehicle_added : (p : Plan) (bucket buckets : ℕ) (journeys : List Journey) (v : ℕ) (sums departed : List ℕ) (first place wait : ℕ) (d : Trip) (journey : Journey) (new_sums new_departed : List ℕ)
    → AreWaitSums p bucket buckets journeys v sums departed → v < length p.trips → first_link p v ≡ Some first → slice_get journeys v ≡ Some journey
    → wait ≡ steps_to_entry p.horizon (get_or p.trips v d).departure (first_entry (Some journey)) → wait ≤ longest_wait
    → place ≡ place_in buckets first ((get_or p.trips v d).departure / bucket) → (get_or p.trips v d).departure / bucket < buckets → place < length p.net.links * buckets
    → new_sums ≡ slice_set sums place (get_or sums place 0 + wait) → new_departed ≡ slice_set departed place (get_or departed place 0 + 1)
    → AreWaitSums p bucket buckets journeys (v + 1) new_sums new_departed
vehicle_added p bucket buckets journeys v sums departed first place wait d journey new_sums new_departed had h link got ew fits at early within es ed =
    let same : (get_or p.trips v d).departure ≡ departure_of p v = sym (departure_is p v d h) in
    one_more p bucket buckets journeys v sums departed had first place wait link
    (at ∙ ap (λ n. place_in buckets first (n / bucket)) same)
    (subst (λ n. n / bucket < buckets) same early)
    (subst (λ n. place < n) (sym had.size) within)
    (ew ∙ wait_is p journeys v d journey h got) fits new_sums new_departed es ed

-- before the first vehicle
pub none_yet : (p : Plan) (bucket buckets : ℕ) (journeys : List Journey) (sums departed : List ℕ) → length sums ≡ length p.net.links * buckets → length departed ≡ length sums → All (λ x. x ≡ 0) sums → All (λ x. x ≡ 0) departed → AreWaitSums p bucket buckets journeys 0 sums departed
unfolding first_who_belong
none_yet p bucket buckets journeys sums departed size many s d = record {
  size = size;
  many = many;
  sum_is = λ l b hl hb. zero_at sums s (place_in buckets l b);
  departed_is = λ l b hl hb. zero_at departed d (place_in buckets l b);
  few = λ q. let a = zero_at departed d q in omega (arith, a);
  short = λ q. let a = zero_at sums s q in omega (arith, a);
}

-- after the last one the means are the table
module _ (p : Plan) (bucket buckets : ℕ) (journeys : List Journey) (sums departed waits : List ℕ) (all : buckets ≡ buckets_to bucket p.horizon) (some : 1 ≤ buckets) (are : AreWaitSums p bucket buckets journeys (length p.trips) sums departed) (means : AreMeanWaits sums departed waits (length sums)) where
  waits_are : waits ≡ by_bucket (length p.net.links) buckets (mean_wait p bucket journeys)
  unfolding mean_wait who_belong first_who_belong
  waits_are =
      by_bucket-is (length p.net.links) buckets (mean_wait p bucket journeys) waits some (means.size ∙ are.size)
      (λ l b hl hb. means.each (place_in buckets l b) (subst (λ n. place_in buckets l b < n) (sym are.size) (place_inside (length p.net.links) buckets l b hl hb))
      ∙ ap (λ n. mean_time 0 n (get_or departed (place_in buckets l b) 0)) (are.sum_is l b hl hb)
      ∙ ap (λ n. mean_time 0 (sum_by (origin_wait p journeys) (who_belong p bucket l b)) n) (are.departed_is l b hl hb))

  departed_are : departed ≡ by_bucket (length p.net.links) buckets (λ l b. length (who_belong p bucket l b))
  unfolding who_belong first_who_belong
  departed_are = by_bucket-is (length p.net.links) buckets (λ l b. length (who_belong p bucket l b)) departed some (are.many ∙ are.size) are.departed_is

  table : List ℕ → List ℕ → WaitTable
  table ws ds = record { bucket = bucket; horizon = p.horizon; waits = ws; departed = ds }

  pub table_is : record { bucket = bucket; horizon = p.horizon; waits = waits; departed = departed } ≡ waits_in p bucket journeys
  unfolding waits_in table
  table_is =
      ap (λ ws. table ws departed) (waits_are ∙ ap (λ n. by_bucket (length p.net.links) n (mean_wait p bucket journeys)) all)
      ∙ ap (λ ds. table (waits_in p bucket journeys).waits ds) (departed_are ∙ ap (λ n. by_bucket (length p.net.links) n (λ l b. length (who_belong p bucket l b))) all)

  pub waits_long : length waits ≡ length p.net.links * buckets_to bucket p.horizon
  waits_long = means.size ∙ are.size ∙ ap (λ n. length p.net.links * n) all

pub some_bucket : (bucket horizon : ℕ) → 1 ≤ bucket → 1 ≤ horizon → 1 ≤ buckets_to bucket horizon
some_bucket bucket horizon b h = let a = bucket_inside bucket horizon 0 b (omega (arith, h)) in omega (arith, a)

-- the means over lists that are lent
pub means_of : (lent sums lent_too departed waits : List ℕ) → lent ≡ sums → lent_too ≡ departed → AreMeanWaits lent lent_too waits (length lent) → AreMeanWaits sums departed waits (length sums)
means_of lent sums lent_too departed waits es ed are =
    subst (λ xs. AreMeanWaits xs departed waits (length xs)) es (subst (λ xs. AreMeanWaits lent xs waits (length lent)) ed are)
