-- The numbers of those who left a link in the last steps, from step to step, and the room that they
-- leave.
use Rattle.std.specs.List.{range_with_len}
use Rattle.std.specs.Option.{option_map}
use Rattle.std.specs.Prelude.{count_by, filter, max, nat_eq, nat_lt, sum, take, All}
use Rattle.std.proofs.Common.{◌≡◌, ◌≢◌, ℕ, zero, suc, ◌+◌, ◌-◌, ◌<◌, ◌≤◌, Bool, true, false, cond, List, [], ◌∷◌, ◌++◌, length, map, refl, ap, sym, ◌∙◌, arith, Some}
use Rattle.std.proofs.lemmas.Bool.{eq-eqb, ne_eqb}
use Rattle.std.proofs.lemmas.Bool.Decides.{nat_tests}
use Rattle.std.proofs.lemmas.List.{length-append, length-map}
use Rattle.std.proofs.lemmas.List.Elements.{All-filter, All-head, All-tail, All-weaker}
use Rattle.std.proofs.lemmas.List.FromFn.{length-map-range_with_len}
use Rattle.std.proofs.lemmas.List.Sums.{length-filter, sum-map, sum_by-append, sum_by-cons}
use Rattle.dta_model.specs.Loading.{trace_after}
use Rattle.dta_model.specs.NodeMoves.{node_moves}
use Rattle.dta_model.specs.Plans.{link_at}
use Rattle.dta_model.specs.Riders.{rider_at}
use Rattle.dta_model.specs.Room.{entered_by, leavings, left_below, room, room_by, wave_by, wave_of}
use Rattle.dta_model.specs.Sound.{IsSound}
use Rattle.dta_model.specs.Trace.{Move, leads_to, queue_of, stands_on}
use Rattle.dta_model.specs.declared.plan.Plan.{Plan}
use Rattle.dta_model.specs.declared.queue.Queue.{Queue}
use Rattle.dta_model.specs.declared.queue.Queue.TheVariants as queue
use Rattle.dta_model.proofs.Fuel.{one-step}
use Rattle.dta_model.proofs.Leavings.{adds_all, adds_none}
use Rattle.dta_model.proofs.Left.{count_every, entries_add_up, leavings-all, links_are_left_at_their_ends, node_left, steps_are_below}
use Rattle.dta_model.proofs.Steady.{steady_of}
use Rattle.cell_stages.specs.Contents.{left_after, left_ago, left_before, storage_by}
use Rattle.cell_stages.specs.Laws.{LeavingsPass, LeavingsStay, RoomsAddUp}
use Rattle.cell_stages.specs.Stages.{brought, line_after, line_before, room_mail, staying}
use Rattle.cell_stages.proofs.Gathering.{alone, queue-append}

-- the next step begins with what the transfer left
pub leavings_stay : LeavingsStay
leavings_stay p sound t l h =
    let same = links_are_left_at_their_ends p sound t l h in
    ap (λ L. map (λ ago. count_by (λ m. nat_eq (m.step + ago) (suc t)) L) (range_with_len 1 (wave_of p l - 1))) (same.step ∙ sym same.node)

-- ---- one step more
-- numbers that each go one place on
shifted : (f g : ℕ → ℕ) → ((i : ℕ) → 1 ≤ i → f (i + 1) ≡ g i) → (j from : ℕ) → 1 ≤ from → map f (range_with_len (from + 1) j) ≡ take j (map g (range_with_len from (suc j)))
shifted f g e zero from h = refl
shifted f g e (suc j) from h = rw (e from h, shifted f g e j (from + 1) (omega (arith, h))) refl

-- so a new number comes first, and the oldest is dropped
shifted_all : (f g : ℕ → ℕ) (k : ℕ) → f 1 ≡ k → ((i : ℕ) → 1 ≤ i → f (i + 1) ≡ g i) → (j : ℕ) → map f (range_with_len 1 j) ≡ take j (k ∷ map g (range_with_len 1 j))
shifted_all f g k h e zero = refl
shifted_all f g k h e (suc j) = rw (h, shifted f g e j 1 (omega arith)) refl

count_none : (q : Move → Bool) (L : List Move) → All (λ m. q m ≡ false) L → count_by q L ≡ 0
count_none q [] all = refl
count_none q (m ∷ L) all =
    sum_by-cons (λ y. cond (q y) 1 0) m L ∙ rw (All-head (λ y. q y ≡ false) m L all, count_none q L (All-tail (λ y. q y ≡ false) m L all)) (omega arith)

count_alike : (q r : Move → Bool) → ((m : Move) → q m ≡ r m) → (L : List Move) → count_by q L ≡ count_by r L
count_alike q r e [] = refl
count_alike q r e (m ∷ L) = sum_by-cons (λ y. cond (q y) 1 0) m L ∙ rw (e m, count_alike q r e L) refl ∙ sym (sum_by-cons (λ y. cond (r y) 1 0) m L)

module _ (t : ℕ) (A B : List Move) (below : All (λ m. m.step < t) A) (now : All (λ m. m.step ≡ t) B) where
  count_parts : (q : Move → Bool) → count_by q (A ++ B) ≡ count_by q A + count_by q B
  count_parts q = sum_by-append (λ m. cond (q m) 1 0) A B

  newest : count_by (λ m. nat_eq (m.step + 1) (suc t)) (A ++ B) ≡ length B
  newest =
      let q : Move → Bool = λ m. nat_eq (m.step + 1) (suc t) in
      let both = count_parts q in
      let old = count_none q A (All-weaker (λ m. m.step < t) (λ m. q m ≡ false) (λ m h. ne_eqb (m.step + 1) (suc t) (early m.step h)) A below) in
      let fresh = count_every q B (All-weaker (λ m. m.step ≡ t) (λ m. q m ≡ true) (λ m h. eq-eqb (m.step + 1) (suc t) (here m.step h)) B now) in
      omega (arith, both, old, fresh)
    where
      early : (s : ℕ) → s < t → s + 1 ≢ suc t
      early s h e = absurd (omega (arith, h, e))

      here : (s : ℕ) → s ≡ t → s + 1 ≡ suc t
      here s e = omega (arith, e)

  older : (i : ℕ) → 1 ≤ i → count_by (λ m. nat_eq (m.step + (i + 1)) (suc t)) (A ++ B) ≡ count_by (λ m. nat_eq (m.step + i) t) A
  older i h =
      let q : Move → Bool = λ m. nat_eq (m.step + (i + 1)) (suc t) in
      let both = count_parts q in
      let old = count_alike q (λ m. nat_eq (m.step + i) t) (λ m. one_on m.step) A in
      let fresh = count_none q B (All-weaker (λ m. m.step ≡ t) (λ m. q m ≡ false) (λ m e. ne_eqb (m.step + (i + 1)) (suc t) (late m.step e)) B now) in
      omega (arith, both, old, fresh)
    where
      one_on : (s : ℕ) → nat_eq (s + (i + 1)) (suc t) ≡ nat_eq (s + i) t
      one_on s = grind (arith, nat_tests)

      late : (s : ℕ) → s ≡ t → s + (i + 1) ≢ suc t
      late s e f = absurd (omega (arith, h, e, f))

  one_more : (j : ℕ) → map (λ i. count_by (λ m. nat_eq (m.step + i) (suc t)) (A ++ B)) (range_with_len 1 j) ≡ take j (length B ∷ map (λ i. count_by (λ m. nat_eq (m.step + i) t) A) (range_with_len 1 j))
  one_more j = shifted_all (λ i. count_by (λ m. nat_eq (m.step + i) (suc t)) (A ++ B)) (λ i. count_by (λ m. nat_eq (m.step + i) t) A) (length B) newest older j

module _ (p : Plan) (sound : IsSound p) (n t l : ℕ) where
  -- the moves by which a node's transfer takes vehicles from a link
  gone : List Move
  gone = filter (λ m. stands_on l (trace_after p t) m.vehicle) (node_moves p n t (trace_after p t))

  how_many : length gone ≡ length (line_before p t l) - length (line_after p n t l)
  unfolding line_before line_after brought gone
  how_many =
      let M = node_moves p n t (trace_after p t) in
      let start = entries_add_up p t l in
      let end = adds_all l (trace_after p t ++ M) [] (adds_none l) in
      let entries = sum_by-append (λ m. cond (leads_to l m) 1 0) (trace_after p t) M in
      let lefts = ap (λ L. length L) (node_left p (steady_of p sound) t (trace_after p t) l n) ∙ length-append (leavings l [] (trace_after p t)) gone in
      let parts = ap (λ Q. length Q) (queue-append l (trace_after p t) M) ∙ length-append (staying M (queue_of l (trace_after p t))) (queue_of l M) in
      let came = ap (λ Q. length Q) (alone p (steady_of p sound) t (trace_after p t) n l) ∙ length-map (filter (leads_to l) M) (λ m. m.vehicle) ∙ length-filter (leads_to l) M in
      let before = length-map (queue_of l (trace_after p t)) (rider_at p (trace_after p t)) in
      let after = length-map (staying M (queue_of l (trace_after p t))) (rider_at p (trace_after p t)) in
      omega (arith, start, end, entries, lefts, parts, came, before, after)

  pub passed : left_after p n t l ≡ take (length (left_before p t l)) ((length (line_before p t l) - length (line_after p n t l)) ∷ left_before p t l)
  unfolding gone
  passed =
      let A : List Move = leavings l [] (trace_after p t) in
      let j : ℕ = wave_of p l - 1 in
      let below : All (λ m. m.step < t) A = leavings-all (λ m. m.step < t) l (trace_after p t) [] (steps_are_below p t) in
      let now : All (λ m. m.step ≡ t) gone = All-filter (λ m. stands_on l (trace_after p t) m.vehicle) (λ m. m.step ≡ t) (node_moves p n t (trace_after p t)) (one-step p (steady_of p sound) n t (trace_after p t)).now in
      ap (λ L. map (λ i. count_by (λ m. nat_eq (m.step + i) (suc t)) L) (range_with_len 1 j)) (node_left p (steady_of p sound) t (trace_after p t) l n)
      ∙ one_more t A gone below now j
      ∙ ap (λ k. take j (k ∷ left_before p t l)) how_many
      ∙ ap (λ i. take i ((length (line_before p t l) - length (line_after p n t l)) ∷ left_before p t l)) (sym (length-map-range_with_len (left_ago (trace_after p t) l t) 1 j))

pub leavings_pass : LeavingsPass
leavings_pass p sound n t l = passed p sound n t l

-- ---- rooms
abbrev one_if : Bool → ℕ
one_if b = cond b 1 0

-- where each move passes one of two tests and a third, or none
count_two : (q r s : Move → Bool) → ((m : Move) → one_if (q m) + one_if (r m) ≡ one_if (s m)) → (L : List Move) → count_by q L + count_by r L ≡ count_by s L
count_two q r s e [] = omega arith
count_two q r s e (m ∷ L) =
    let a = sum_by-cons (λ y. cond (q y) 1 0) m L in
    let b = sum_by-cons (λ y. cond (r y) 1 0) m L in
    let c = sum_by-cons (λ y. cond (s y) 1 0) m L in
    let here = e m in
    let rest = count_two q r s e L in
    omega (arith, a, b, c, here, rest)

-- below a bound are those below the number before it, and that number
one_below : (s t from : ℕ) → one_if (nat_lt s (t - (from + 1))) + one_if (nat_eq (s + (from + 1)) t) ≡ one_if (nat_lt s (t - from))
one_below s t from = grind (arith, nat_tests)

-- the numbers of the last steps, and those before them
lately : (L : List Move) (t j from : ℕ) → count_by (λ m. nat_lt m.step (t - (from + j))) L + sum (map (λ i. count_by (λ m. nat_eq (m.step + i) t) L) (range_with_len (from + 1) j)) ≡ count_by (λ m. nat_lt m.step (t - from)) L
lately L t zero from = let e : from + 0 ≡ from = omega arith in let same = ap (λ k. count_by (λ m. nat_lt m.step (t - k)) L) e in omega (arith, same)
lately L t (suc j) from =
    let f : ℕ → ℕ = λ i. count_by (λ m. nat_eq (m.step + i) t) L in
    let whole = sum-map f (range_with_len (from + 1) (suc j)) in
    let first = sum_by-cons f (from + 1) (range_with_len (from + 1 + 1) j) in
    let rest = sum-map f (range_with_len (from + 1 + 1) j) in
    let before = ap (λ k. count_by (λ m. nat_lt m.step (t - k)) L) (moved_one from j) in
    let ih = lately L t j (from + 1) in
    let one = count_two (λ m. nat_lt m.step (t - (from + 1))) (λ m. nat_eq (m.step + (from + 1)) t) (λ m. nat_lt m.step (t - from)) (λ m. one_below m.step t from) L in
    omega (arith, whole, first, rest, before, ih, one)
  where
    moved_one : (a b : ℕ) → a + suc b ≡ a + 1 + b
    moved_one a b = omega arith

module _ (p : Plan) (t l : ℕ) where
  all_left : 1 ≤ wave_of p l → left_below (suc t - wave_of p l) (trace_after p t) l + sum (left_before p t l) ≡ length (leavings l [] (trace_after p t))
  all_left h =
      let L : List Move = leavings l [] (trace_after p t) in
      let early : All (λ m. nat_lt m.step (t - 0) ≡ true) L = All-weaker (λ m. m.step < t) (λ m. nat_lt m.step (t - 0) ≡ true) (λ m e. less m.step e) L (leavings-all (λ m. m.step < t) l (trace_after p t) [] (steps_are_below p t)) in
      let bound = ap (λ k. count_by (λ m. nat_lt m.step k) L) (steps_back (wave_of p l) h) in
      let sums = lately L t (wave_of p l - 1) 0 in
      let every = count_every (λ m. nat_lt m.step (t - 0)) L early in
      omega (arith, bound, sums, every)
    where
      less : (s : ℕ) → s < t → nat_lt s (t - 0) ≡ true
      less s e = grind (arith, nat_tests)

      steps_back : (w : ℕ) → 1 ≤ w → suc t - w ≡ t - (0 + (w - 1))
      steps_back w e = omega (arith, e)

  riders_on : length (line_before p t l) ≡ length (queue_of l (trace_after p t))
  unfolding line_before
  riders_on = length-map (queue_of l (trace_after p t)) (rider_at p (trace_after p t))

  room_left : (q : Queue) → p.queue ≡ q → room_by p q l t (trace_after p t) ≡ option_map (λ storage. storage - (length (line_before p t l) + sum (left_before p t l))) (storage_by q (link_at p l).storage)
  room_left queue.Point e = refl
  room_left queue.Spatial e =
      let one : wave_of p l ≡ 1 = ap (λ q. wave_by q (link_at p l).micrometres p.delta p.horizon) e in
      let none : sum (left_before p t l) ≡ 0 = ap (λ w. sum (map (left_ago (trace_after p t) l t) (range_with_len 1 (w - 1)))) one in
      ap (λ k. Some k) (rest_of (link_at p l).storage (length (queue_of l (trace_after p t))) (length (line_before p t l)) (sum (left_before p t l)) riders_on none)
    where
      rest_of : (s q r e : ℕ) → r ≡ q → e ≡ 0 → s - q ≡ s - (r + e)
      rest_of s q r e h k = omega (arith, h, k)
  room_left (queue.Newell wave) e =
      let some : 1 ≤ wave_of p l = one_at_least _ _ (ap (λ q. wave_by q (link_at p l).micrometres p.delta p.horizon) e) in
      let lefts = all_left some in
      let entries = entries_add_up p t l in
      ap (λ k. Some k) (rest_of (link_at p l).storage (left_below (suc t - wave_of p l) (trace_after p t) l) (entered_by (trace_after p t) l) (length (queue_of l (trace_after p t))) (length (leavings l [] (trace_after p t))) (length (line_before p t l)) (sum (left_before p t l)) riders_on lefts entries)
    where
      one_at_least : (w x : ℕ) → w ≡ max 1 x → 1 ≤ w
      one_at_least w x h = omega (arith, h)

      rest_of : (s b e q g r k : ℕ) → r ≡ q → b + k ≡ g → e ≡ q + g → s + b - e ≡ s - (r + k)
      rest_of s b e q g r k h i j = omega (arith, h, i, j)

pub rooms_add_up : RoomsAddUp
unfolding room_mail room
rooms_add_up p t l = room_left p t l p.queue refl
