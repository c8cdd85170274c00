-- How many riders a cell holds, and what a transfer asks of them.
use Rattle.net_core.specs.Network as network
use Rattle.std.specs.List.{flat_map, range_with_len, sum_by}
use Rattle.std.specs.List.Sorted.{IsNonDecreasing}
use Rattle.std.specs.Prelude.{filter, find, slice_get, nat_eq, nat_le, nat_lt, All, IfSome, option_map}
use Rattle.std.proofs.Common.{◌≡◌, ℕ, zero, suc, ◌+◌, ◌<◌, ◌≤◌, Bool, true, false, cond, List, [], ◌∷◌, ◌++◌, length, length-append, map, refl, ap, sym, ◌∙◌, subst, arith, rules, min, Option, Some, None, ◌⊎◌, inl, inr}
use Rattle.std.proofs.lemmas.Bool.Decides.{nat_tests, eqb_tells}
use Rattle.std.proofs.lemmas.List.{length-map}
use Rattle.std.proofs.lemmas.List.FromFn.{get_or-range_with_len, length-range_with_len}
use Rattle.std.proofs.lemmas.List.Kept.{IsNonDecreasingBy-filter}
use Rattle.std.proofs.lemmas.List.Elements.{All-head, All-tail, All-nil, All-cons}
use Rattle.std.proofs.lemmas.List.Sums.{sum_by-cons, length-filter}
use Rattle.std.proofs.lemmas.Option.{slice_get-map}
use Rattle.std.proofs.Math.Dec.{eqb}
use Rattle.cell_stages.specs.HandOver.{all_riders, riders_at}
use Rattle.dta_model.specs.Loading.{trace_after, arrival_of}
use Rattle.dta_model.specs.Plans.{ins, link_at, outs}
use Rattle.dta_model.specs.Riders.{RiderState, rider_at, riders}
use Rattle.cell_stages.specs.Stages.{arrived_before, line_before, waiting_before, waiting_for}
use Rattle.dta_model.specs.Trace.{queue_of, has_moved}
use Rattle.dta_model.specs.declared.plan.Plan.{Plan}
use Rattle.dta_model.specs.declared.trip.TheConstants.{MOST_TRIPS}
use Rattle.dta_model.proofs.NoMoves.{no-moves}
use Rattle.cell_stages.proofs.HandOver.{nodes_hold_all}
use Rattle.link_queues.specs.declared.line.TheConstants.{MOST_RIDERS}
use Rattle.cell_stages.specs.CellState.{CellState}
use Rattle.node_transfer.specs.Inside.Cells.{CanTransfer, IsShut, UnderWay, Waits, cell_total}
use Rattle.node_transfer.specs.Inside.Lengths.{line_length, waiting_length}
use Rattle.dta_model.specs.Sound.{IsSound}
use Rattle.dta_model.specs.State.{count_on}
use Rattle.link_queues.specs.Lines.{due}
use Rattle.node_transfer.specs.Inside.Counted.{counted}
use Rattle.node_transfer.specs.Counts.{counts_at}
use Rattle.node_transfer.specs.declared.counts.TheConstants.{MOST_COUNT}
use Rattle.node_transfer.proofs.OfStep.Crossings.{waiting_le}
use Rattle.cell_stages.specs.Contents.{away, cell_before, in_link, left_before, out_link, waiting_parts}
use Rattle.node_transfer.specs.Inside.Pass.{Rides, held, out_links as links_of, place_of}
use Rattle.cell_stages.specs.declared.in_link.InLink.{InLink}
use Rattle.cell_stages.specs.declared.mail.Mail.{Mail}
use Rattle.node_transfer.proofs.OfStep.Facts.{OnLink, on-link}
use Rattle.node_transfer.proofs.OfStep.Meters.{exit-shut}
use Rattle.node_transfer.proofs.OfStep.Mid.{T}
use Rattle.node_transfer.proofs.OfStep.Movers.{waits-unmoved}
use Rattle.node_transfer.proofs.OfStep.Transfer.{in_links}

-- a part of a list of lists is no longer than all of them
part-of : {X : Type 0} (f : ℕ → List X) (n k from : ℕ) → from ≤ n → n < from + k → length (f n) ≤ length (flat_map f (range_with_len from k))
part-of f n zero from low high = absurd (omega (arith, low, high))
part-of f n (suc k) from low high = part_step (eqb_tells from n) (part-of f n k (from + 1))
  where
    part_step : ((eqb from n ≡ true) × (from ≡ n)) ⊎ ((eqb from n ≡ false) × ((from ≡ n) → ⊥)) → (from + 1 ≤ n → n < from + 1 + k → length (f n) ≤ length (flat_map f (range_with_len (from + 1) k)))
        → length (f n) ≤ length (f from ++ flat_map f (range_with_len (from + 1) k))
    part_step (inl (s, same)) ih = omega (arith, length-append (f from) (flat_map f (range_with_len (from + 1) k)), ap (λ j. length (f j)) same)
    part_step (inr (s, other)) ih = let r = ih (omega (arith, low, other)) (omega (arith, high)) in omega (arith, r, length-append (f from) (flat_map f (range_with_len (from + 1) k)))

parts-length : (t : ℕ) (rs : List RiderState) → length (waiting_parts t rs).later + length (waiting_parts t rs).due ≡ length rs
parts-length t [] = refl
parts-length t (r ∷ rs) = by_two (nat_le t r.departure) (nat_lt r.departure t) refl refl (parts-length t rs)
  where
    later_only : nat_le t r.departure ≡ true → nat_lt r.departure t ≡ false
    later_only h = grind (arith, nat_tests)

    due_only : nat_le t r.departure ≡ false → nat_lt r.departure t ≡ true
    due_only h = grind (arith, nat_tests)

    by_two : (c d : Bool) → nat_le t r.departure ≡ c → nat_lt r.departure t ≡ d → length (waiting_parts t rs).later + length (waiting_parts t rs).due ≡ length rs
        → length (cond c (r ∷ (waiting_parts t rs).later) (waiting_parts t rs).later) + length (cond d (r ∷ (waiting_parts t rs).due) (waiting_parts t rs).due) ≡ suc (length rs)
    by_two true true q s ih = let no_way : true ≡ false = sym s ∙ later_only q in cc no_way
    by_two true false q s ih = omega (arith, ih)
    by_two false true q s ih = omega (arith, ih)
    by_two false false q s ih = let no_way : true ≡ false = sym (due_only q) ∙ s in cc no_way

module _ (p : Plan) (n t : ℕ) where
  lines-total : (line : ℕ → List RiderState) (left : ℕ → List ℕ) (mail : ℕ → Mail) (ls : List ℕ) → sum_by line_length (map (in_link p n line left mail) ls) ≡ length (flat_map line ls)
  lines-total line left mail [] = refl
  lines-total line left mail (l ∷ ls) =
      let c = sum_by-cons line_length (in_link p n line left mail l) (map (in_link p n line left mail) ls) in
      let r = lines-total line left mail ls in
      omega (arith, c, r, length-append (line l) (flat_map line ls))

  waiting-total : (line : ℕ → List RiderState) (mail : ℕ → Mail) (bs : List ℕ) → sum_by held (map (out_link p t line mail) bs) ≡ length (flat_map line bs)
  waiting-total line mail [] = refl
  waiting-total line mail (b ∷ bs) =
      let c = sum_by-cons held (out_link p t line mail b) (map (out_link p t line mail) bs) in
      let here = parts-length t (line b) in
      let r = waiting-total line mail bs in
      omega (arith, c, here, r, length-append (line b) (flat_map line bs))

  module _ (sound : IsSound p) (node : n < length p.net.nodes) where
    few-riders : length (riders_at p t n) ≤ MOST_TRIPS
    unfolding all_riders
    few-riders =
        let few = (nodes_hold_all p sound t).few in
        let part = part-of (riders_at p t) n (length p.net.nodes) 0 (omega arith) (let h = node in omega (arith, h)) in
        let most = sound.trips.few in
        omega (arith, few, part, most)

    pub cell-few : (in_mail out_mail : ℕ → Mail) → cell_total (cell_before p n t in_mail out_mail).ins (cell_before p n t in_mail out_mail).outs (cell_before p n t in_mail out_mail).arrived ≤ MOST_RIDERS
    unfolding cell_before
    cell-few in_mail out_mail =
        let few = few-riders in
        let a = lines-total (line_before p t) (left_before p t) in_mail (ins p n) in
        let b = waiting-total (waiting_before p t) out_mail (outs p n) in
        let c = length-append (flat_map (line_before p t) (ins p n)) (flat_map (waiting_before p t) (outs p n) ++ arrived_before p n t) in
        let d = length-append (flat_map (waiting_before p t) (outs p n)) (arrived_before p n t) in
        omega (arith, few, a, b, c, d)

    links-same : (line : ℕ → List RiderState) (mail : ℕ → Mail) (bs : List ℕ) → links_of (map (out_link p t line mail) bs) ≡ bs
    links-same line mail [] = refl
    links-same line mail (b ∷ bs) = ap (λ xs. b ∷ xs) (links-same line mail bs)

    placed-in : (b : ℕ) (bs : List ℕ) → find (λ o. nat_eq o b) bs ≡ Some b → place_of b bs < length bs
    unfolding place_of
    placed-in b [] h = cc
    placed-in b (x ∷ bs) h = placed_step (eqb x b) h (placed-in b bs)
      where
        placed_step : (c : Bool) → cond c (Some x) (find (λ o. nat_eq o b) bs) ≡ Some b → (find (λ o. nat_eq o b) bs ≡ Some b → place_of b bs < length bs) → cond c 0 (place_of b bs + 1) < suc (length bs)
        placed_step true e ih = omega arith
        placed_step false e ih = let r = ih e in omega (arith, r)

    outs-order : IsNonDecreasing (outs p n)
    unfolding network.outs
    outs-order = IsNonDecreasingBy-filter (λ l. l) (λ l. nat_eq (link_at p l).from.0 n) (network.numbers_below (length p.net.links)) (λ i j d l h.
        let count = length-range_with_len 0 (length p.net.links) in
        let a = get_or-range_with_len 0 (length p.net.links) i d (omega (arith, l, h, count)) in
        let b = get_or-range_with_len 0 (length p.net.links) j d (omega (arith, h, count)) in
        omega (arith, l, a, b))

    rides-of : (l v : ℕ) → OnLink p n t l v → Rides (outs p n) (rider_at p (T p n t) v)
    rides-of l v F = record { order = outs-order; under_way = F.under_way; placed = by_next (slice_get (rider_at p (T p n t) v).ahead 0) refl }
      where
        by_next : (o : Option ℕ) → slice_get (rider_at p (T p n t) v).ahead 0 ≡ o → IfSome o (λ b. place_of b (outs p n) < length (outs p n))
        by_next None e = search rules
        by_next (Some b) e = let r = placed-in b (outs p n) (F.allowed b e).there in search rules

    all_riders_of : (P : RiderState → Type 0) (xs : List ℕ) → ((i v : ℕ) → slice_get xs i ≡ Some v → P (rider_at p (T p n t) v)) → All P (riders p (T p n t) xs)
    all_riders_of P [] h = All-nil P
    all_riders_of P (x ∷ xs) h = All-cons P (rider_at p (T p n t) x) (riders p (T p n t) xs) (h 0 x refl) (all_riders_of P xs (λ i v e. h (suc i) v e))

    lines-ride : (mail : ℕ → Mail) (ls : List ℕ) → All (λ l. (link_at p l).to.0 ≡ n) ls → All (λ link. All (Rides (outs p n)) link.line) (map (in_link p n (line_before p t) (left_before p t) mail) ls)
    unfolding line_before
    lines-ride mail [] to = All-nil _
    lines-ride mail (l ∷ ls) to =
        All-cons (λ link. All (Rides (outs p n)) link.line) (in_link p n (line_before p t) (left_before p t) mail l) (map (in_link p n (line_before p t) (left_before p t) mail) ls)
        (all_riders_of (Rides (outs p n)) (queue_of l (T p n t)) (λ i v e. rides-of l v (on-link p sound n t l (All-head (λ k. (link_at p k).to.0 ≡ n) l ls to) i v e)))
        (lines-ride mail ls (All-tail (λ k. (link_at p k).to.0 ≡ n) l ls to))

    unmoved-way : (v : ℕ) → has_moved v (T p n t) ≡ false → UnderWay (rider_at p (T p n t) v)
    unfolding rider_at arrival_of
    unmoved-way v h = rw (no-moves v (T p n t) h) refl

    all-filter : (q : RiderState → Bool) (rs : List RiderState) → All UnderWay rs → All UnderWay (filter q rs)
    all-filter q [] a = a
    all-filter q (r ∷ rs) a = by_test (q r) (all-filter q rs (All-tail UnderWay r rs a))
      where
        by_test : (c : Bool) → All UnderWay (filter q rs) → All UnderWay (cond c (r ∷ filter q rs) (filter q rs))
        by_test true ih = All-cons UnderWay r (filter q rs) (All-head UnderWay r rs a) ih
        by_test false ih = ih

    waiting-way : (b : ℕ) → All UnderWay (waiting_before p t b)
    unfolding waiting_before
    waiting-way b = all_riders_of UnderWay (waiting_for p b (T p n t)) (λ i v e. unmoved-way v (waits-unmoved p n t b i v e).1)

    outs-wait : (mail : ℕ → Mail) (bs : List ℕ) → All Waits (map (out_link p t (waiting_before p t) mail) bs)
    outs-wait mail [] = All-nil _
    outs-wait mail (b ∷ bs) =
        All-cons Waits (out_link p t (waiting_before p t) mail b) (map (out_link p t (waiting_before p t) mail) bs)
        (record { later = all-filter (λ r. nat_le t r.departure) (waiting_before p t b) (waiting-way b); due = all-filter (λ r. nat_lt r.departure t) (waiting_before p t b) (waiting-way b) })
        (outs-wait mail bs)

    lines-shut : (mail : ℕ → Mail) (ls : List ℕ) → All (λ link. IsShut link.exit) (map (in_link p n (line_before p t) (left_before p t) mail) ls)
    lines-shut mail [] = All-nil _
    lines-shut mail (l ∷ ls) =
        All-cons (λ (link : InLink). IsShut link.exit) (in_link p n (line_before p t) (left_before p t) mail l) (map (in_link p n (line_before p t) (left_before p t) mail) ls)
        (exit-shut p n t l) (lines-shut mail ls)

    -- what a transfer asks of the riders of the cell, and of its exits
    pub can-transfer : (in_mail out_mail : ℕ → Mail) → CanTransfer (cell_before p n t in_mail out_mail)
    unfolding cell_before
    can-transfer in_mail out_mail = record {
      rides = subst (λ ls. All (λ link. All (Rides ls) link.line) (map (in_link p n (line_before p t) (left_before p t) in_mail) (ins p n))) (sym (links-same (waiting_before p t) out_mail (outs p n))) (lines-ride in_mail (ins p n) (in_links p n));
      shut = lines-shut in_mail (ins p n);
      waits = outs-wait out_mail (outs p n);
      fits = cell-few in_mail out_mail;
    }

    due-total : (mail : ℕ → Mail) (bs : List ℕ) → sum_by waiting_length (map (out_link p t (waiting_before p t) mail) bs) ≡ sum_by (λ b. due t (waiting_before p t b)) bs
    due-total mail [] = refl
    due-total mail (b ∷ bs) =
        let c = sum_by-cons waiting_length (out_link p t (waiting_before p t) mail b) (map (out_link p t (waiting_before p t) mail) bs) in
        let e = sum_by-cons (λ b. due t (waiting_before p t b)) b bs in
        let here = length-filter (λ r. nat_lt r.departure t) (waiting_before p t b) in
        let r = due-total mail bs in
        omega (arith, c, e, here, r)

    running-total : (mail : ℕ → Mail) (ls : List ℕ) → sum_by line_length (map (in_link p n (line_before p t) (left_before p t) mail) ls) ≡ sum_by (count_on (trace_after p t)) ls
    unfolding line_before count_on
    running-total mail [] = refl
    running-total mail (l ∷ ls) =
        let c = sum_by-cons line_length (in_link p n (line_before p t) (left_before p t) mail l) (map (in_link p n (line_before p t) (left_before p t) mail) ls) in
        let e = sum_by-cons (count_on (trace_after p t)) l ls in
        let here = length-map (queue_of l (trace_after p t)) (rider_at p (trace_after p t)) in
        let r = running-total mail ls in
        omega (arith, c, e, here, r)

    -- the numbers of a cell before a transfer
    pub counts-stage : counted (cell_before p n t away away).ins (cell_before p n t away away).outs (cell_before p n t away away).arrived ≡ counts_at p n t
    unfolding cell_before
    counts-stage =
        let few = cell-few away away in
        let due_few = waiting_le (map (out_link p t (waiting_before p t) away) (outs p n)) in
        let a = due-total away (outs p n) in
        let b = running-total away (ins p n) in
        let w : min (sum_by waiting_length (map (out_link p t (waiting_before p t) away) (outs p n))) MOST_COUNT ≡ sum_by (λ b. due t (waiting_before p t b)) (outs p n) = omega (arith, few, due_few, a) in
        let r : min (sum_by line_length (map (in_link p n (line_before p t) (left_before p t) away) (ins p n))) MOST_COUNT ≡ sum_by (count_on (trace_after p t)) (ins p n) = omega (arith, few, b) in
        rw (w, r) refl

-- the number of the line of an in-link is that of the vehicles on its link
pub line-count : (p : Plan) (n t place l k : ℕ) (s : CellState) → IfSome (slice_get s.ins place) (λ link. k ≡ length link.line)
    → s ≡ cell_before p n t away away → slice_get (ins p n) place ≡ Some l → k ≡ count_on (trace_after p t) l
unfolding cell_before line_before count_on
line-count p n t place l k s tells same here =
    let there : slice_get s.ins place ≡ Some (in_link p n (line_before p t) (left_before p t) away l) =
    ap (λ c. slice_get c.ins place) same ∙ slice_get-map (in_link p n (line_before p t) (left_before p t) away) (ins p n) place ∙ ap (λ o. option_map (in_link p n (line_before p t) (left_before p t) away) o) here
    in
    let told : k ≡ length (line_before p t l) = subst (λ o. IfSome o (λ link. k ≡ length link.line)) there tells in
    told ∙ length-map (queue_of l (trace_after p t)) (rider_at p (trace_after p t))
