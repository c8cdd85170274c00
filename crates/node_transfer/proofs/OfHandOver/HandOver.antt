-- The journeys that all cells hand over are those of the loading.
use Rattle.node_transfer.proofs.OfStep.ByKey.{bool_cases}
use Rattle.net_core.specs.Network.{numbers_below}
use Rattle.std.specs.List.{flat_map, range_with_len}
use Rattle.std.specs.Prelude.{filter, slice_get, slice_set, nat_eq, nat_le, nat_lt, All}
use Rattle.std.proofs.Common.{◌≡◌, ℕ, zero, suc, ◌+◌, ◌<◌, ◌≤◌, Bool, true, false, cond, List, [], ◌∷◌, ◌++◌, length, map, refl, ap, sym, ◌∙◌, subst, arith, Option, Some, None, ◌⊎◌, inl, inr}
use Rattle.std.proofs.lemmas.Bool.Decides.{eqb_tells, nat_tests}
use Rattle.std.proofs.lemmas.List.Elements.{All-nil, All-cons, All-weaker}
use Rattle.std.proofs.lemmas.List.FromFn.{length-map-range_with_len, get_or-map-range_with_len}
use Rattle.std.proofs.lemmas.Option.{slice_get-get_or, slice_get_within}
use Rattle.std.proofs.Math.Dec.{eqb}
use Rattle.cell_stages.specs.HandOver.{AreVehicles, all_riders, riders_at}
use Rattle.dta_model.specs.Loading.{arrival_of, entries_of, journey_of, journeys_of, trace_after}
use Rattle.dta_model.specs.Plans.{all_nodes, departure_of, ins, outs, vehicle_count, vehicles_of}
use Rattle.dta_model.specs.Riders.{RiderState, rider_at, riders}
use Rattle.dta_model.specs.Sound.{IsSound}
use Rattle.cell_stages.specs.Stages.{arrived_before, line_before, waiting_before, waiting_for}
use Rattle.dta_model.specs.State.{is_due, is_routed, some_route}
use Rattle.net_core.specs.declared.rows.LinkNo.{LinkNo}
use Rattle.cell_stages.proofs.ByNumber.{all_numbered}
use Rattle.node_transfer.specs.Laws.{CellsHandOver, CellsHoldAll}
use Rattle.node_transfer.proofs.OfHandOver.Hands.{all_split}
use Rattle.dta_model.specs.Trace.{has_moved, moves_of}
use Rattle.dta_model.specs.declared.loaded.Journey.{Journey}
use Rattle.dta_model.specs.declared.plan.Plan.{Plan}
use Rattle.dta_model.proofs.Fuel.{Lawful, trace-lawful}
use Rattle.dta_model.proofs.NoMoves.{no-moves}
use Rattle.cell_stages.proofs.HandOver.{nodes_hold_all}
use Rattle.dta_model.proofs.Places.{of_mover}
use Rattle.node_transfer.proofs.OfStep.ByKey.{both_true}
use Rattle.cell_stages.specs.Contents.{away, cell_before, in_link, left_before, out_link, waiting_parts}
use Rattle.node_transfer.proofs.OfMail.Sets.{count-set, set-here, set-other}
use Rattle.node_transfer.specs.Hand.{Within, handed, journey_by, line_of, riders_in, waiting_of}
use Rattle.node_transfer.specs.Start.{no_journey, no_journeys}
use Rattle.cell_stages.specs.declared.mail.Mail.{Mail}
use Rattle.node_transfer.proofs.OfStep.Due.{Ordered, filter_riders, none_before, waiting-ordered}

-- those who are due before the later ones: the whole of a waiting line, where departures don't fall
whole_line : (dep : ℕ → ℕ) (t : ℕ) (xs : List ℕ) → Ordered dep xs → filter (λ v. nat_lt (dep v) t) xs ++ filter (λ v. nat_le t (dep v)) xs ≡ xs
whole_line dep t [] o = refl
whole_line dep t (x ∷ xs) o = by_two (nat_lt (dep x) t) (nat_le t (dep x)) refl refl (whole_line dep t xs (o.1))
  where
    not_later : nat_lt (dep x) t ≡ true → nat_le t (dep x) ≡ false
    not_later h = grind (arith, nat_tests)

    is_later : nat_lt (dep x) t ≡ false → nat_le t (dep x) ≡ true
    is_later h = grind (arith, nat_tests)

    from_le : nat_lt (dep x) t ≡ false → t ≤ dep x
    from_le h = grind (arith, nat_tests)

    by_two : (c d : Bool) → c ≡ nat_lt (dep x) t → d ≡ nat_le t (dep x) → filter (λ v. nat_lt (dep v) t) xs ++ filter (λ v. nat_le t (dep v)) xs ≡ xs
        → cond c (x ∷ filter (λ v. nat_lt (dep v) t) xs) (filter (λ v. nat_lt (dep v) t) xs) ++ cond d (x ∷ filter (λ v. nat_le t (dep v)) xs) (filter (λ v. nat_le t (dep v)) xs) ≡ x ∷ xs
    by_two true false q r ih = ap (λ ys. x ∷ ys) ih
    by_two true true q r ih = let no_way : true ≡ false = r ∙ not_later (sym q) in cc no_way
    by_two false false q r ih = let no_way : true ≡ false = sym (is_later (sym q)) ∙ sym r in cc no_way
    by_two false true q r ih = let n : filter (λ v. nat_lt (dep v) t) xs ≡ [] = none_before dep t (dep x) xs (from_le (sym q)) (o.0) in rw n (ap (λ ys. x ∷ ys) (ap (λ ys. ys ++ filter (λ v. nat_le t (dep v)) xs) (sym n) ∙ ih))

module _ (p : Plan) (sound : IsSound p) (t : ℕ) where
  one-line : (b : ℕ) → (waiting_parts t (waiting_before p t b)).due ++ (waiting_parts t (waiting_before p t b)).later ≡ waiting_before p t b
  unfolding waiting_before
  one-line b =
      let U = trace_after p t in
      let W = waiting_for p b U in
      ap (λ d. d ++ filter (λ r. nat_le t r.departure) (riders p U W)) (filter_riders p U (λ d. nat_lt d t) W)
      ∙ ap (λ l. riders p U (filter (λ v. nat_lt (departure_of p v) t) W) ++ l) (filter_riders p U (λ d. nat_le t d) W)
      ∙ sym (map_append (rider_at p U) (filter (λ v. nat_lt (departure_of p v) t) W) (filter (λ v. nat_le t (departure_of p v)) W))
      ∙ ap (λ Q. riders p U Q) (whole_line (departure_of p) t W (waiting-ordered p sound b U))
    where
      map_append : (f : ℕ → RiderState) (xs ys : List ℕ) → map f (xs ++ ys) ≡ map f xs ++ map f ys
      map_append f [] ys = refl
      map_append f (x ∷ xs) ys = ap (λ zs. f x ∷ zs) (map_append f xs ys)

  lines-in : (n : ℕ) (mail : ℕ → Mail) (ls : List ℕ) → flat_map line_of (map (in_link p n (line_before p t) (left_before p t) mail) ls) ≡ flat_map (line_before p t) ls
  lines-in n mail [] = refl
  lines-in n mail (l ∷ ls) = ap (λ xs. line_before p t l ++ xs) (lines-in n mail ls)

  waiting-in : (mail : ℕ → Mail) (bs : List ℕ) → flat_map waiting_of (map (out_link p t (waiting_before p t) mail) bs) ≡ flat_map (waiting_before p t) bs
  waiting-in mail [] = refl
  waiting-in mail (b ∷ bs) = ap (λ x. x ++ flat_map waiting_of (map (out_link p t (waiting_before p t) mail) bs)) (one-line b) ∙ ap (λ xs. waiting_before p t b ++ xs) (waiting-in mail bs)

  -- the riders of a cell are those of its node
  pub riders-in-cell : (n : ℕ) (in_mail out_mail : ℕ → Mail) → riders_in (cell_before p n t in_mail out_mail) ≡ riders_at p t n
  unfolding cell_before
  riders-in-cell n in_mail out_mail =
      ap (λ a. a ++ (flat_map waiting_of (map (out_link p t (waiting_before p t) out_mail) (outs p n)) ++ arrived_before p n t)) (lines-in n in_mail (ins p n))
      ∙ ap (λ a. flat_map (line_before p t) (ins p n) ++ (a ++ arrived_before p n t)) (waiting-in out_mail (outs p n))

  cells-riders : (f g : ℕ → Mail) (ns : List ℕ) → flat_map riders_in (map (λ n. cell_before p n t f g) ns) ≡ flat_map (riders_at p t) ns
  cells-riders f g [] = refl
  cells-riders f g (n ∷ ns) = ap (λ x. x ++ flat_map riders_in (map (λ n. cell_before p n t f g) ns)) (riders-in-cell n f g) ∙ ap (λ xs. riders_at p t n ++ xs) (cells-riders f g ns)

  -- all cells have the riders of the loading
  pub riders-in-cells : (f g : ℕ → Mail) → flat_map riders_in (map (λ n. cell_before p n t f g) (all_nodes p)) ≡ all_riders p t
  unfolding all_riders
  riders-in-cells f g = cells-riders f g (all_nodes p)

-- the journey of a number, after all riders have handed over theirs
abbrev last_journey : List RiderState → Option Journey → Option Journey
last_journey [] o = o
last_journey (r ∷ rs) o = last_journey rs (Some (journey_by r))

pub handed-length : (all : List RiderState) (loaded : List Journey) → length (handed all loaded) ≡ length loaded
unfolding handed
handed-length [] loaded = refl
handed-length (r ∷ all) loaded = handed-length all (slice_set loaded r.number (journey_by r)) ∙ count-set loaded r.number (journey_by r)

handed-at : (all : List RiderState) (loaded : List Journey) (v : ℕ) → v < length loaded → slice_get (handed all loaded) v ≡ last_journey (filter (λ r. nat_eq r.number v) all) (slice_get loaded v)
unfolding handed
handed-at [] loaded v h = refl
handed-at (r ∷ all) loaded v h =
    handed-at all (slice_set loaded r.number (journey_by r)) v (let e = count-set loaded r.number (journey_by r) in omega (arith, e, h)) ∙ by_number (eqb_tells r.number v)
  where
    by_number : ((eqb r.number v ≡ true) × (r.number ≡ v)) ⊎ ((eqb r.number v ≡ false) × ((r.number ≡ v) → ⊥))
        → last_journey (filter (λ x. nat_eq x.number v) all) (slice_get (slice_set loaded r.number (journey_by r)) v) ≡ last_journey (cond (eqb r.number v) (r ∷ filter (λ x. nat_eq x.number v) all) (filter (λ x. nat_eq x.number v) all)) (slice_get loaded v)
    by_number (inl (s, same)) = rw s (ap (λ o. last_journey (filter (λ x. nat_eq x.number v) all) o) (subst (λ w. slice_get (slice_set loaded w (journey_by r)) v ≡ Some (journey_by r)) (sym same) (set-here loaded v (journey_by r) h)))
    by_number (inr (s, other)) = rw s (ap (λ o. last_journey (filter (λ x. nat_eq x.number v) all) o) (set-other loaded r.number v (journey_by r) (λ e. other (sym e))))

same_lists : (xs ys : List Journey) → length xs ≡ length ys → ((v : ℕ) → v < length xs → slice_get xs v ≡ slice_get ys v) → xs ≡ ys
same_lists [] [] e h = refl
same_lists [] (y ∷ ys) e h = absurd (omega (arith, e))
same_lists (x ∷ xs) [] e h = absurd (omega (arith, e))
same_lists (x ∷ xs) (y ∷ ys) e h = ap (λ z. z ∷ xs) (one x y (h 0 (omega arith))) ∙ ap (λ zs. y ∷ zs) (same_lists xs ys (omega (arith, e)) (λ v k. h (suc v) (omega (arith, k))))
  where
    one : (x y : Journey) → Some x ≡ Some y → x ≡ y
    one x y q = cc

module _ (p : Plan) (sound : IsSound p) where
  unrouted-still : (t v : ℕ) → is_routed p v ≡ false → has_moved v (trace_after p t) ≡ false
  unfolding is_due
  unrouted-still t v none = by_move (bool_cases (has_moved v (trace_after p t)))
    where
      by_move : (has_moved v (trace_after p t) ≡ true) ⊎ (has_moved v (trace_after p t) ≡ false) → has_moved v (trace_after p t) ≡ false
      by_move (inr h) = h
      by_move (inl h) =
          let due = of_mover (λ w. is_due p t w ≡ true) v (trace_after p t) (All-weaker (Lawful p t) (λ m. is_due p t m.vehicle ≡ true) (λ m a. a.due) (trace_after p t) (trace-lawful p t)) h in
          let routed = (both_true (is_routed p v) (nat_lt (departure_of p v) t) due).0 in
          let no_way : true ≡ false = sym routed ∙ none in cc no_way

  journey-at : (v : ℕ) → last_journey (cond (is_routed p v) (rider_at p (trace_after p p.horizon) v ∷ []) []) (Some no_journey) ≡ Some (journey_of p v)
  unfolding journey_of rider_at entries_of arrival_of
  journey-at v = by_route (is_routed p v) refl
    where
      by_route : (c : Bool) → is_routed p v ≡ c → last_journey (cond c (rider_at p (trace_after p p.horizon) v ∷ []) []) (Some no_journey) ≡ Some (record { entries = entries_of (trace_after p p.horizon) v; arrival = arrival_of (trace_after p p.horizon) v })
      by_route true e = refl
      by_route false e = ap (λ o. Some o) (nothing v (no-moves v (trace_after p p.horizon) (unrouted-still p.horizon v e)))
        where
          nothing : (v : ℕ) → moves_of v (trace_after p p.horizon) ≡ [] → no_journey ≡ record { entries = entries_of (trace_after p p.horizon) v; arrival = arrival_of (trace_after p p.horizon) v }
          nothing v e = rw e refl

  pub all-handed : handed (all_riders p p.horizon) (no_journeys (vehicle_count p)) ≡ journeys_of p
  unfolding journeys_of
  all-handed =
      let all = all_riders p p.horizon in
      let start = no_journeys (vehicle_count p) in
      let many = handed-length all start in
      let count = length-map-range_with_len (λ v. no_journey) 0 (vehicle_count p) in
      let total = length-map-range_with_len (journey_of p) 0 (vehicle_count p) in
      same_lists (handed all start) (map (journey_of p) (vehicles_of p)) (omega (arith, many, count, total))
      (λ v h. let below : v < vehicle_count p = omega (arith, h, many, count) in
      handed-at all start v (omega (arith, h, many))
      ∙ ap (λ rs. last_journey rs (slice_get start v)) ((nodes_hold_all p sound p.horizon).once v)
      ∙ ap (λ o. last_journey (cond (is_routed p v) (rider_at p (trace_after p p.horizon) v ∷ []) []) o) (at_number (λ v. no_journey) (vehicle_count p) v below)
      ∙ journey-at v
      ∙ sym (at_number (journey_of p) (vehicle_count p) v below))
    where
      at_number : (f : ℕ → Journey) (n v : ℕ) → v < n → slice_get (map f (numbers_below n)) v ≡ Some (f v)
      at_number f n v h =
          slice_get-get_or (map f (numbers_below n)) v (f v) (let e = length-map-range_with_len f 0 n in omega (arith, e, h)) ∙ ap (λ j. Some j) (get_or-map-range_with_len f 0 n v v (f v) h (omega arith))

  routed-below : (v : ℕ) → is_routed p v ≡ true → v < vehicle_count p
  unfolding is_routed
  routed-below v h = by_route (slice_get p.routes v) refl h
    where
      by_route : (o : Option (Option (List LinkNo))) → slice_get p.routes v ≡ o → some_route o ≡ true → v < vehicle_count p
      by_route None e h = cc
      by_route (Some None) e h = cc
      by_route (Some (Some route)) e h = let within = slice_get_within p.routes v (Some route) e in let each = sound.each in omega (arith, within, each)

  -- the riders of the loading are vehicles of the plan
  all-within : (t : ℕ) → All (Within (vehicle_count p)) (all_riders p t)
  all-within t = all_numbered (λ v r. v < vehicle_count p) (all_riders p t) (λ v. subst (λ L. All (λ r. v < vehicle_count p) L) (sym ((nodes_hold_all p sound t).once v)) (by_route v (is_routed p v) refl)) (rider_at p [] 0)
    where
      by_route : (v : ℕ) (c : Bool) → is_routed p v ≡ c → All (λ r. v < vehicle_count p) (cond c (rider_at p (trace_after p t) v ∷ []) [])
      by_route v true e = All-cons (λ r. v < vehicle_count p) (rider_at p (trace_after p t) v) [] (routed-below v e) (All-nil _)
      by_route v false e = All-nil _

  cell-within : (n t : ℕ) (f g : ℕ → Mail) → n < length p.net.nodes → All (Within (vehicle_count p)) (riders_in (cell_before p n t f g))
  unfolding all_riders
  cell-within n t f g h =
      subst (λ rs. All (Within (vehicle_count p)) rs) (sym (riders-in-cell p sound t n f g))
      (all_part (riders_at p t) n (length p.net.nodes) 0 (omega arith) (omega (arith, h)) (all-within t))
    where
      all_part : (part : ℕ → List RiderState) (n k from : ℕ) → from ≤ n → n < from + k → All (Within (vehicle_count p)) (flat_map part (range_with_len from k)) → All (Within (vehicle_count p)) (part n)
      all_part part n zero from low high a = absurd (omega (arith, low, high))
      all_part part n (suc k) from low high a = part_step (eqb_tells from n) (all_split (Within (vehicle_count p)) (part from) (flat_map part (range_with_len (from + 1) k)) a) (all_part part n k (from + 1))
        where
          part_step : ((eqb from n ≡ true) × (from ≡ n)) ⊎ ((eqb from n ≡ false) × ((from ≡ n) → ⊥)) → All (Within (vehicle_count p)) (part from) × All (Within (vehicle_count p)) (flat_map part (range_with_len (from + 1) k))
              → (from + 1 ≤ n → n < from + 1 + k → All (Within (vehicle_count p)) (flat_map part (range_with_len (from + 1) k)) → All (Within (vehicle_count p)) (part n)) → All (Within (vehicle_count p)) (part n)
          part_step (inl (s, same)) both ih = subst (λ m. All (Within (vehicle_count p)) (part m)) same both.0
          part_step (inr (s, other)) both ih = ih (omega (arith, low, other)) (omega (arith, high)) both.1

pub cells_hand_over : CellsHandOver
cells_hand_over p sound = record {
  within = λ n t f g h. cell-within p sound n t f g h;
  journeys = ap (λ rs. handed rs (no_journeys (vehicle_count p))) (riders-in-cells p sound p.horizon away away) ∙ all-handed p sound;
}

pub cells_hold_all : CellsHoldAll
cells_hold_all p sound t f g = subst (AreVehicles p t) (sym (riders-in-cells p sound t f g)) (nodes_hold_all p sound t)
