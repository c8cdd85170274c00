-- The parts that are opened are those of step 0.
use Rattle.net_core.specs.Network as network
use Rattle.net_core.specs.Network.{numbers_below}
use Rattle.net_core.specs.declared.rows.LinkNo.{LinkNo}
use Rattle.std.specs.List.{range_with_len}
use Rattle.std.specs.Prelude.{filter, slice_get, slice_index_or, nat_eq, nat_le, nat_lt, All, ◌≢◌}
use Rattle.std.proofs.Common.{◌≡◌, ℕ, zero, suc, ◌+◌, ◌-◌, ◌<◌, ◌≤◌, Bool, true, false, cond, ◌&&◌, List, [], ◌∷◌, ◌++◌, length, map, refl, ap, sym, ◌∙◌, subst, arith, append-nil, Option, Some, None, get_or, add-one}
use Rattle.std.proofs.lemmas.Bool.{eq-eqb, ne_eqb}
use Rattle.std.proofs.lemmas.Bool.Decides.{nat_tests}
use Rattle.std.proofs.lemmas.List.{length-map, map-append}
use Rattle.std.proofs.lemmas.List.Elements.{filter-append, All-head, All-tail, All-nil, All-cons, All-filter, All-weaker}
use Rattle.std.proofs.lemmas.List.FromFn.{length-range_with_len, length-map-range_with_len, get_or-map-range_with_len}
use Rattle.std.proofs.lemmas.List.Sums.{length-filter, count_by-le-length}
use Rattle.std.proofs.lemmas.Option.{slice_get-get_or, slice_get_within}
use Rattle.std.proofs.Math.Dec.{eqb}
use Rattle.net_core.proofs.Numbers.{numbers_more}
use Rattle.dta_model.specs.Loading.{trace_after, entries_of, arrival_of}
use Rattle.dta_model.specs.NodeMoves.{is_first}
use Rattle.dta_model.specs.Plans.{departure_of, first_link, ins, link_at, link_numbers, outs, route_in, route_of, vehicle_count, vehicles_of}
use Rattle.dta_model.specs.Room.{wave_of}
use Rattle.dta_model.specs.Riders.{RiderState, rider_at, riders}
use Rattle.dta_model.specs.Sound.{IsSound}
use Rattle.cell_stages.specs.Stages.{arrived_before, line_before, waiting_before, waiting_for}
use Rattle.dta_model.specs.Trace.{has_moved, moves_of}
use Rattle.dta_model.specs.declared.plan.Plan.{Plan}
use Rattle.dta_model.specs.declared.trip.TheConstants.{MOST_TRIPS}
use Rattle.dta_model.specs.declared.trip.Trip.{Trip}
use Rattle.dta_model.proofs.Queues.{absent, distinct}
use Rattle.node_transfer.proofs.OfStep.ByKey.{both_true}
use Rattle.link_queues.specs.Riders.{setting_out}
use Rattle.link_queues.specs.declared.line.TheConstants.{MOST_RIDERS}
use Rattle.node_transfer.specs.Places.{changed_at, set_some}
use Rattle.cell_stages.specs.Contents.{away, cell_before, in_link, left_before, out_link, waiting_parts}
use Rattle.link_queues.specs.Leavings.{no_leavings}
use Rattle.node_transfer.specs.Inside.Pass.{place_of}
use Rattle.node_transfer.specs.Start.{cells_at_start}
use Rattle.node_transfer.specs.Inside.StartCells.{emptied, lines_left, start_in, start_out, taken_cell, taken_cells, taken_outs}
use Rattle.node_transfer.specs.Inside.StartLines.{line_below, lines_at_start, lines_below, put_at, put_last, with_last}
use Rattle.node_transfer.proofs.OfStep.ByKey.{set-at}
use Rattle.node_transfer.proofs.OfStep.InPass.{absent_all}
use Rattle.cell_stages.proofs.NextLines.{out_links}
use Rattle.node_transfer.proofs.OfMail.Parts.{outs-once}
use Rattle.node_transfer.proofs.OfStart.Starts.{below, left-start, line-start}
use Rattle.node_transfer.proofs.OfStep.Movers.{distinct_range, filter_like}

some_trip : Trip
some_trip = record { number = 0; origin = 0; destination = 0; departure = 0 }

-- routes lead over links of the table
pub route_links : (p : Plan) (v : ℕ) (route : List LinkNo) → IsSound p → slice_get p.routes v ≡ Some (Some route) → All (λ l. l < length p.net.links) (link_numbers route)
route_links p v route sound e =
    let h = slice_get_within p.routes v (Some route) e in
    let each = sound.each in
    (sound.walks v _ route (slice_get-get_or p.trips v some_trip (omega (arith, h, each))) e).links

place_range : (b k a : ℕ) → b < k → place_of (a + b) (range_with_len a k) ≡ b
unfolding place_of
place_range b zero a h = absurd (omega (arith, h))
place_range zero (suc k) a h = rw (eq-eqb a (a + 0) (same a)) refl
  where
    same : (a : ℕ) → a ≡ a + 0
    same a = omega arith
place_range (suc b) (suc k) a h =
    rw (ne_eqb a (a + suc b) (λ e. absurd (omega (arith, e))))
    (ap (λ j. place_of j (range_with_len (a + 1) k) + 1) (same a b) ∙ ap (λ j. j + 1) (place_range b k (a + 1) (omega (arith, h))) ∙ add-one b)
  where
    same : (a b : ℕ) → a + suc b ≡ a + 1 + b
    same a b = omega arith

module _ (p : Plan) where
  -- one more vehicle
  line_more : (v b : ℕ) → line_below p (v + 1) b ≡ line_below p v b ++ cond (is_first b (first_link p v)) (rider_at p [] v ∷ []) []
  line_more v b =
      ap (λ xs. riders p [] (filter (λ u. is_first b (first_link p u)) xs)) (numbers_more v)
      ∙ ap (λ xs. riders p [] xs) (filter-append (λ u. is_first b (first_link p u)) (numbers_below v) (v ∷ []))
      ∙ map-append (rider_at p []) (filter (λ u. is_first b (first_link p u)) (numbers_below v)) (cond (is_first b (first_link p v)) (v ∷ []) [])
      ∙ ap (λ xs. line_below p v b ++ xs) (one_rider (is_first b (first_link p v)))
    where
      one_rider : (c : Bool) → riders p [] (cond c (v ∷ []) []) ≡ cond c (rider_at p [] v ∷ []) []
      one_rider true = refl
      one_rider false = refl

  map_same : (f g : ℕ → List RiderState) → ((x : ℕ) → f x ≡ g x) → (xs : List ℕ) → map f xs ≡ map g xs
  map_same f g e [] = refl
  map_same f g e (x ∷ xs) = ap (λ y. y ∷ map f xs) (e x) ∙ ap (λ ys. g x ∷ ys) (map_same f g e xs)

  -- a vehicle whose route has no first link is in no line
  lines_same : (v : ℕ) → first_link p v ≡ None → lines_below p v ≡ lines_below p (v + 1)
  lines_same v none = map_same (line_below p v) (line_below p (v + 1)) (λ b. sym (line_more v b ∙ ap (λ o. line_below p v b ++ cond (is_first b o) (rider_at p [] v ∷ []) []) none ∙ append-nil (line_below p v b))) (numbers_below (length p.net.links))

  lines_put : (v l : ℕ) → l < length p.net.links → first_link p v ≡ Some l → changed_at (with_last (rider_at p [] v)) l (lines_below p v) ≡ lines_below p (v + 1)
  lines_put v l h first =
      ap (λ k. changed_at (with_last (rider_at p [] v)) k (lines_below p v)) (sym (ap (λ j. place_of j (numbers_below (length p.net.links))) (zero_plus l) ∙ place_range l (length p.net.links) 0 h))
      ∙ set-at (line_below p v) (line_below p (v + 1)) (with_last (rider_at p [] v)) l (numbers_below (length p.net.links)) (distinct_range (length p.net.links) 0)
      (λ x other. line_more v x ∙ ap (λ o. line_below p v x ++ cond (is_first x o) (rider_at p [] v ∷ []) []) first ∙ ap (λ c. line_below p v x ++ cond c (rider_at p [] v ∷ []) []) (ne_eqb l x (λ e. other (sym e))) ∙ append-nil (line_below p v x))
      (line_more v l ∙ ap (λ o. line_below p v l ++ cond (is_first l o) (rider_at p [] v ∷ []) []) first ∙ ap (λ c. line_below p v l ++ cond c (rider_at p [] v ∷ []) []) (eq-eqb l l refl))
    where
      zero_plus : (l : ℕ) → l ≡ 0 + l
      zero_plus l = omega arith

  sets-out : (v : ℕ) (route : List LinkNo) (d : Trip) → v < length p.trips → slice_get p.routes v ≡ Some (Some route) → rider_at p [] v ≡ setting_out v (get_or p.trips v d).departure (link_numbers route)
  unfolding rider_at entries_of arrival_of moves_of route_of departure_of
  sets-out v route d h e = rw (slice_get-get_or p.trips v d h, e) refl

  first-of : (v : ℕ) (route : List LinkNo) → slice_get p.routes v ≡ Some (Some route) → first_link p v ≡ slice_get (link_numbers route) 0
  unfolding first_link route_of
  first-of v route e = ap (λ o. slice_get (route_in o) 0) e

  -- a rider is put
  pub riders_next : (v : ℕ) (route : List LinkNo) (d : Trip) → IsSound p → v < length p.trips → slice_get p.routes v ≡ Some (Some route)
      → put_last (setting_out v (get_or p.trips v d).departure (link_numbers route)) (lines_below p v) ≡ lines_below p (v + 1)
  riders_next v route d sound h e = ap (λ r. put_at (slice_get (link_numbers route) 0) r (lines_below p v)) (sym (sets-out v route d h e)) ∙ by_first (slice_get (link_numbers route) 0) refl
    where
      first_below : (xs : List ℕ) (l : ℕ) → All (λ x. x < length p.net.links) xs → slice_get xs 0 ≡ Some l → l < length p.net.links
      first_below [] l a q = cc
      first_below (x ∷ xs) l a q = subst (λ y. y < length p.net.links) (some_nat x l q) (All-head (λ x. x < length p.net.links) x xs a)
        where
          some_nat : (a b : ℕ) → Some a ≡ Some b → a ≡ b
          some_nat a b h = cc

      by_first : (o : Option ℕ) → slice_get (link_numbers route) 0 ≡ o → put_at o (rider_at p [] v) (lines_below p v) ≡ lines_below p (v + 1)
      by_first None q = lines_same v (first-of v route e ∙ q)
      by_first (Some l) q = lines_put v l (first_below (link_numbers route) l (route_links p v route sound e) q) (first-of v route e ∙ q)

  no_first : (v : ℕ) → slice_get p.routes v ≡ Some None → first_link p v ≡ None
  unfolding first_link route_of
  no_first v e = ap (λ o. slice_get (route_in o) 0) e

  -- a vehicle without a route
  pub no_rider_next : (v : ℕ) → slice_get p.routes v ≡ Some None → lines_below p v ≡ lines_below p (v + 1)
  no_rider_next v e = lines_same v (no_first v e)

  -- a line has room for one more
  pub few_below : (v : ℕ) → v ≤ MOST_TRIPS → (bs : List ℕ) → All (λ line. length line < MOST_RIDERS) (map (line_below p v) bs)
  few_below v h [] = All-nil _
  few_below v h (b ∷ bs) =
      All-cons (λ line. length line < MOST_RIDERS) (line_below p v b) (map (line_below p v) bs)
      (let a = length-map (filter (λ u. is_first b (first_link p u)) (numbers_below v)) (rider_at p []) in
      let c = length-filter (λ u. is_first b (first_link p u)) (numbers_below v) in
      let e = count_by-le-length (λ u. is_first b (first_link p u)) (numbers_below v) in
      let f = length-range_with_len 0 v in
      omega (arith, a, c, e, f, h))
      (few_below v h bs)

  pub lines_length : (v : ℕ) → length (lines_below p v) ≡ length p.net.links
  lines_length v = length-map-range_with_len (line_below p v) 0 (length p.net.links)

-- the cells of step 0
module _ (p : Plan) where
  in-start : (n l : ℕ) → start_in p (outs p n) l ≡ in_link p n (line_before p 0) (left_before p 0) away l
  in-start n l =
      ap (λ xs. record (in_link p n (line_before p 0) (left_before p 0) away l) { line = xs; left = no_leavings (wave_of p l - 1) }) (line-start p l)
      ∙ ap (λ ks. record (in_link p n (line_before p 0) (left_before p 0) away l) { left = ks }) (left-start p l)

  ins-start : (n : ℕ) (ls : List ℕ) → map (start_in p (outs p n)) ls ≡ map (in_link p n (line_before p 0) (left_before p 0) away) ls
  ins-start n [] = refl
  ins-start n (l ∷ ls) = ap (λ y. y ∷ map (start_in p (outs p n)) ls) (in-start n l) ∙ ap (λ ys. in_link p n (line_before p 0) (left_before p 0) away l ∷ ys) (ins-start n ls)

  all-later : (rs : List RiderState) → waiting_parts 0 rs ≡ record { later = rs; due = [] }
  all-later [] = refl
  all-later (r ∷ rs) =
      let a : nat_le 0 r.departure ≡ true = grind (arith, nat_tests) in
      let b : nat_lt r.departure 0 ≡ false = grind (arith, nat_tests) in
      rw (a, b) (ap (λ w. record { later = r ∷ w.later; due = w.due }) (all-later rs))

  out-start : (lines : List (List RiderState)) (b : ℕ) → slice_index_or lines b [] ≡ waiting_before p 0 b → start_out p lines b ≡ out_link p 0 (waiting_before p 0) away b
  out-start lines b e =
      ap (λ w. record (start_out p lines b) { waiting = record { later = w; due = [] } }) e
      ∙ ap (λ w. record (out_link p 0 (waiting_before p 0) away b) { waiting = w }) (sym (all-later (waiting_before p 0 b)))

  -- a line that is taken leaves the others
  other-kept : (b c : ℕ) (lines : List (List RiderState)) → b ≢ c → slice_index_or (emptied b lines) c [] ≡ slice_index_or lines c []
  other-kept b c [] other = refl
  other-kept zero zero (x ∷ lines) other = absurd (other refl)
  other-kept zero (suc c) (x ∷ lines) other = refl
  other-kept (suc b) zero (x ∷ lines) other = first_same (slice_get lines b)
    where
      first_same : (o : Option (List RiderState)) → slice_index_or (set_some (λ line. []) o (suc b) (x ∷ lines)) 0 [] ≡ x
      first_same None = refl
      first_same (Some y) = refl
  other-kept (suc b) (suc c) (x ∷ lines) other = rest_same (slice_get lines b) (other-kept b c lines (λ e. other (ap (λ k. suc k) e)))
    where
      rest_same : (o : Option (List RiderState)) → slice_index_or (set_some (λ line. []) o b lines) c [] ≡ slice_index_or lines c [] → slice_index_or (set_some (λ line. []) o (suc b) (x ∷ lines)) (suc c) [] ≡ slice_index_or lines c []
      rest_same None e = e
      rest_same (Some y) e = e

  left-kept : (bs : List ℕ) (lines : List (List RiderState)) (c : ℕ) → All (λ b. b ≢ c) bs → slice_index_or (lines_left lines bs) c [] ≡ slice_index_or lines c []
  unfolding lines_left
  left-kept [] lines c a = refl
  left-kept (b ∷ bs) lines c a = left-kept bs (emptied b lines) c (All-tail (λ b. b ≢ c) b bs a) ∙ other-kept b c lines (All-head (λ b. b ≢ c) b bs a)

  outs-start : (bs : List ℕ) → distinct bs ≡ true → (lines : List (List RiderState)) → All (λ b. slice_index_or lines b [] ≡ waiting_before p 0 b) bs → taken_outs p lines bs ≡ map (out_link p 0 (waiting_before p 0) away) bs
  unfolding taken_outs
  outs-start [] d lines a = refl
  outs-start (b ∷ bs) d lines a =
      let parts = both_true (absent b bs) (distinct bs) d in
      ap (λ y. y ∷ taken_outs p (emptied b lines) bs) (out-start lines b (All-head (λ b. slice_index_or lines b [] ≡ waiting_before p 0 b) b bs a))
      ∙ ap (λ ys. out_link p 0 (waiting_before p 0) away b ∷ ys) (outs-start bs parts.1 (emptied b lines) (λ k e lt. other-kept b (get_or bs k e) lines (absent_all b bs parts.0 k e lt) ∙ All-tail (λ b. slice_index_or lines b [] ≡ waiting_before p 0 b) b bs a k e lt))

  -- lines that are there for the links of the nodes from one on
  abbrev Filled : ℕ → List (List RiderState) → Type 0
  Filled from lines = (b : ℕ) → b < length p.net.links → from ≤ (link_at p b).from.0 → slice_index_or lines b [] ≡ waiting_before p 0 b

  outs-of : (n : ℕ) → All (λ b. (b < length p.net.links) × ((link_at p b).from.0 ≡ n)) (outs p n)
  unfolding network.outs
  outs-of n = λ k d lt. (All-filter (λ b. nat_eq (link_at p b).from.0 n) (λ b. b < length p.net.links) (numbers_below (length p.net.links)) (below (length p.net.links)) k d lt, out_links p n k d lt)

  cell-start : (n : ℕ) (lines : List (List RiderState)) → Filled n lines → taken_cell p lines n ≡ cell_before p n 0 away away
  unfolding cell_before arrived_before
  cell-start n lines filled =
      ap (λ is. record { ins = is; outs = taken_outs p lines (outs p n); arrived = [] }) (ins-start n (ins p n))
      ∙ ap (λ os. record { ins = map (in_link p n (line_before p 0) (left_before p 0) away) (ins p n); outs = os; arrived = [] })
      (outs-start (outs p n) (outs-once p n) lines (All-weaker (λ b. (b < length p.net.links) × ((link_at p b).from.0 ≡ n)) (λ b. slice_index_or lines b [] ≡ waiting_before p 0 b) (λ b h. filled b h.0 (let e = h.1 in omega (arith, e))) (outs p n) (outs-of n)))

  filled-left : (n : ℕ) (lines : List (List RiderState)) → Filled n lines → Filled (n + 1) (lines_left lines (outs p n))
  filled-left n lines filled b h k =
      left-kept (outs p n) lines b (All-weaker (λ c. (c < length p.net.links) × ((link_at p c).from.0 ≡ n)) (λ c. c ≢ b) (λ c g e. let at = g.1 in let same = ap (λ x. (link_at p x).from.0) e in absurd (omega (arith, at, same, k))) (outs p n) (outs-of n)) ∙ filled b h (omega (arith, k))

  cells-start : (k from : ℕ) (lines : List (List RiderState)) → Filled from lines → taken_cells p lines (range_with_len from k) ≡ map (λ n. cell_before p n 0 away away) (range_with_len from k)
  unfolding taken_cells
  cells-start zero from lines filled = refl
  cells-start (suc k) from lines filled =
      ap (λ y. y ∷ taken_cells p (lines_left lines (outs p from)) (range_with_len (from + 1) k)) (cell-start from lines filled)
      ∙ ap (λ ys. cell_before p from 0 away away ∷ ys) (cells-start k (from + 1) (lines_left lines (outs p from)) (filled-left from lines filled))

  nobody-moved : (b : ℕ) → line_below p (vehicle_count p) b ≡ waiting_before p 0 b
  unfolding waiting_before waiting_for trace_after has_moved
  nobody-moved b = ap (λ xs. riders p [] xs) (filter_like (λ v. is_first b (first_link p v)) (λ v. is_first b (first_link p v) && true) (vehicles_of p) (λ i v e. and_true (is_first b (first_link p v))))
    where
      and_true : (c : Bool) → c ≡ (c && true)
      and_true true = refl
      and_true false = refl

  pub all-cells-start : taken_cells p (lines_at_start p) (numbers_below (length p.net.nodes)) ≡ cells_at_start p
  all-cells-start = cells-start (length p.net.nodes) 0 (lines_at_start p) (λ b h k. get_or-map-range_with_len (line_below p (vehicle_count p)) 0 (length p.net.links) b b [] h (omega arith) ∙ nobody-moved b)
