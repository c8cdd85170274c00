-- The trips of a table: how many, and in which order.
use Rattle.std.specs.List.{flat_map, range_with_len, sum_by}
use Rattle.std.specs.List.Sorted.{IsNonDecreasingBy}
use Rattle.std.specs.Prelude.{All, count_by, filter, max, nat_eq, slice_get, take}
use Rattle.std.proofs.Common.{◌≡◌, ◌≢◌, ℕ, zero, suc, ◌+◌, ◌-◌, ◌*◌, ◌/◌, ◌<◌, ◌≤◌, Bool, true, cond, List, [], ◌∷◌, length, map, refl, ap, sym, ◌∙◌, subst, arith, Option, Some, None}
use Rattle.std.proofs.lemmas.Bool.{eq-eqb, eqb-true}
use Rattle.std.proofs.lemmas.List.Concat.{length-flat_map}
use Rattle.std.proofs.lemmas.List.Elements.{All-append, All-cons, All-filter, All-get_or, All-head, All-nil, All-tail, All-weaker, filter_passes}
use Rattle.std.proofs.lemmas.List.FromFn.{length-map-range_with_len}
use Rattle.std.proofs.lemmas.List.Sums.{length-filter, sum_by-cons, sum_by_more}
use Rattle.std.proofs.lemmas.Nat.{le-div}
use Rattle.std.proofs.lemmas.Option.{get_or_from_slice_get, slice_get-get_or, slice_get_within}
use Rattle.std.proofs.Math.Dec.{eqb}
use Rattle.std.proofs.Math.ListN.{get_or}
use Rattle.std.proofs.Math.Nat.{div-mul-le_self, div-lt_iff_lt-mul, le-max_left, le-max_right, mul-lt-mul_of_pos_right, mul_comm}
use Rattle.net_core.specs.Network.{numbers_below}
use Rattle.dta_model.specs.declared.trip.DemandCell.{DemandCell}
use Rattle.dta_model.specs.declared.trip.TheConstants.{VOLUME_OF_A_VEHICLE}
use Rattle.dta_model.specs.declared.trip.Trip.{Trip}
use Rattle.dta_model.specs.Release.{HaveWindows, Released, counted, departure, departure_by, in_order_of_departure, last_end, numbered, released, released_by, trip_by, trips_of, vehicle_of_row, vehicles_before, vehicles_of_row}
use Rattle.dta_model.specs.Released.{IsOfRow, TripsAreReleased}
use Rattle.dta_model.proofs.Rising.{rising-append, rising-cons, rising-same}
use Rattle.dta_model.proofs.Totals.{one_below, sum_alike, sum_both, sum_zero}

-- ---- how many vehicles

div_up : (a b k : ℕ) → 0 < k → a ≤ b → a / k ≤ b / k
div_up a b k pos h = let c = div-mul-le_self a k in le-div (a / k) b k pos (omega (arith, c, h))

some_cell : DemandCell
some_cell = record { line = 0; origin = 0; destination = 0; volume = 0; from = 0; to = 0 }

none_before : (cells : List DemandCell) → vehicles_before cells 0 ≡ 0
unfolding vehicles_before
none_before cells = refl

more_before : (cells : List DemandCell) (row : ℕ) → row < length cells → vehicles_before cells row ≤ vehicles_before cells (row + 1)
unfolding vehicles_before
more_before cells row h =
    let more = sum_by_more counted cells row some_cell h in
    div_up (sum_by counted (take row cells)) (sum_by counted (take (row + 1) cells)) VOLUME_OF_A_VEHICLE (omega arith) (omega (arith, more))

of_row : (cells : List DemandCell) (row : ℕ) → row < length cells → vehicles_of_row cells row + vehicles_before cells row ≡ vehicles_before cells (row + 1)
unfolding vehicles_of_row
of_row cells row h = let more = more_before cells row h in omega (arith, more)

-- rows from one on make what their sums differ by
rows_from : (cells : List DemandCell) (k from : ℕ) → from + k ≤ length cells → sum_by (vehicles_of_row cells) (range_with_len from k) + vehicles_before cells from ≡ vehicles_before cells (from + k)
rows_from cells zero from h = let e = ap (vehicles_before cells) (plus_none from) in omega (arith, e)
  where
    plus_none : (n : ℕ) → n + 0 ≡ n
    plus_none n = omega arith
rows_from cells (suc k) from h =
    let a = sum_by-cons (vehicles_of_row cells) from (range_with_len (from + 1) k) in
    let here = of_row cells from (omega (arith, h)) in
    let rest = rows_from cells k (from + 1) (omega (arith, h)) in
    let e = ap (vehicles_before cells) (plus_one from k) in
    omega (arith, a, here, rest, e)
  where
    plus_one : (n m : ℕ) → n + 1 + m ≡ n + suc m
    plus_one n m = omega arith

released_total : (cells : List DemandCell) → length (released cells) ≡ vehicles_before cells (length cells)
unfolding released released_by
released_total cells =
    length-flat_map (released_by cells) (numbers_below (length cells))
    ∙ sum_alike (λ row. length (released_by cells row)) (vehicles_of_row cells) (λ row. length-map-range_with_len (vehicle_of_row cells row) 0 (vehicles_of_row cells row)) (numbers_below (length cells))
    ∙ all_rows (rows_from cells (length cells) 0 (omega arith)) (none_before cells) ∙ ap (vehicles_before cells) (none_plus (length cells))
  where
    none_plus : (n : ℕ) → 0 + n ≡ n
    none_plus n = omega arith

    all_rows : {a b c : ℕ} → a + b ≡ c → b ≡ 0 → a ≡ c
    all_rows e f = omega (arith, e, f)

-- ---- in order of departure

abbrev departs_at : ℕ → Released → Bool
departs_at step r = nat_eq r.departs step

by_steps : (steps : ℕ) (all : List Released) → All (λ r. r.departs < steps) all → sum_by (λ step. count_by (departs_at step) all) (numbers_below steps) ≡ length all
by_steps steps [] early = sum_zero steps 0
by_steps steps (r ∷ all) early =
    let a = sum_alike (λ step. count_by (departs_at step) (r ∷ all)) (λ step. cond (eqb r.departs step) 1 0 + count_by (departs_at step) all) (λ step. sum_by-cons (λ x. cond (departs_at step x) 1 0) r all) (numbers_below steps) in
    let b = sum_both (λ step. cond (eqb r.departs step) 1 0) (λ step. count_by (departs_at step) all) (numbers_below steps) in
    let c = one_below r.departs steps (All-head (λ x. x.departs < steps) r all early) in
    let rest = by_steps steps all (All-tail (λ x. x.departs < steps) r all early) in
    omega (arith, a, b, c, rest)

order_total : (steps : ℕ) (all : List Released) → All (λ r. r.departs < steps) all → length (in_order_of_departure steps all) ≡ length all
unfolding in_order_of_departure
order_total steps all early =
    length-flat_map (λ step. filter (departs_at step) all) (numbers_below steps)
    ∙ sum_alike (λ step. length (filter (departs_at step) all)) (λ step. count_by (departs_at step) all) (λ step. length-filter (departs_at step) all) (numbers_below steps)
    ∙ by_steps steps all early

order_keeps : (P : Released → Type 0) (steps : ℕ) (all : List Released) → All P all → All P (in_order_of_departure steps all)
unfolding in_order_of_departure
order_keeps P steps all each = keeps_from (numbers_below steps)
  where
    keeps_from : (some : List ℕ) → All P (flat_map (λ step. filter (departs_at step) all) some)
    keeps_from [] = All-nil P
    keeps_from (step ∷ rest) = All-append P (filter (departs_at step) all) (flat_map (λ s. filter (departs_at s) all) rest) (All-filter (departs_at step) P all each) (keeps_from rest)

-- those of one step
at_step : (step : ℕ) (all : List Released) → All (λ r. r.departs ≡ step) (filter (departs_at step) all)
at_step step all = All-weaker (λ r. departs_at step r ≡ true) (λ r. r.departs ≡ step) (λ r h. eqb-true r.departs step h) (filter (departs_at step) all) (filter_passes (departs_at step) all)

-- from one step on departures don't fall
record Rises (from : ℕ) (rs : List Released) : Type 0 where
  rising : IsNonDecreasingBy (λ r. r.departs) rs
  late : All (λ r. from ≤ r.departs) rs

rises_from : (all : List Released) (k from : ℕ) → Rises from (flat_map (λ step. filter (departs_at step) all) (range_with_len from k))
rises_from all zero from = record { rising = rising-same (λ r. r.departs) 0 [] (All-nil (λ r. r.departs ≡ 0)); late = All-nil (λ r. from ≤ r.departs) }
rises_from all (suc k) from =
    let rest = flat_map (λ step. filter (departs_at step) all) (range_with_len (from + 1) k) in
    let here = filter (departs_at from) all in
    let ih = rises_from all k (from + 1) in
    let later : All (λ r. from ≤ r.departs) rest = All-weaker (λ r. from + 1 ≤ r.departs) (λ r. from ≤ r.departs) (λ r h. omega (arith, h)) rest ih.late in
    record {
      rising = rising-append (λ r. r.departs) here rest (rising-same (λ r. r.departs) from here (at_step from all)) ih.rising
          (All-weaker (λ r. r.departs ≡ from) (λ r. All (λ q. r.departs ≤ q.departs) rest) (λ r e. All-weaker (λ q. from ≤ q.departs) (λ q. r.departs ≤ q.departs) (λ q h. omega (arith, e, h)) rest later) here (at_step from all));
      late = All-append (λ r. from ≤ r.departs) here rest (All-weaker (λ r. r.departs ≡ from) (λ r. from ≤ r.departs) (λ r e. omega (arith, e)) here (at_step from all)) later;
    }

order_rises : (steps : ℕ) (all : List Released) → IsNonDecreasingBy (λ r. r.departs) (in_order_of_departure steps all)
unfolding in_order_of_departure
order_rises steps all = (rises_from all steps 0).rising

-- ---- each vehicle

early_departure : (from to n j : ℕ) → from < to → j < n → departure from to n j < to
unfolding departure
early_departure from to n j h l =
    let less : (2 * j + 1) * (to - from) / (2 * n) < to - from =
    (div-lt_iff_lt-mul (omega (arith, l))).1
    (subst (λ x. (2 * j + 1) * (to - from) < x) (mul_comm (2 * n) (to - from)) (mul-lt-mul_of_pos_right (omega (arith, l)) (omega (arith, h)))) in
    omega (arith, h, less)

begun_departure : (from to n j : ℕ) → from ≤ departure from to n j
unfolding departure
begun_departure from to n j = omega arith

-- a row within a zone has none
none_within : (cells : List DemandCell) (row : ℕ) → row < length cells → counted (get_or cells row some_cell) ≡ 0 → vehicles_of_row cells row ≡ 0
unfolding vehicles_of_row vehicles_before
none_within cells row h none =
    let e : sum_by counted (take (row + 1) cells) ≡ sum_by counted (take row cells) = let more = sum_by_more counted cells row some_cell h in omega (arith, more, none) in
    rw e (minus_self (sum_by counted (take row cells) / VOLUME_OF_A_VEHICLE))
  where
    minus_self : (n : ℕ) → n - n ≡ 0
    minus_self n = omega arith

-- what is true of each vehicle: its row is one of the table and leads from a zone to another, and it departs within the window
pub record IsOfTable (cells : List DemandCell) (r : Released) : Type 0 where
  pub cell : DemandCell
  pub there : slice_get cells r.row ≡ Some cell
  pub apart : cell.origin ≢ cell.destination
  pub begun : cell.from ≤ r.departs
  pub before_end : r.departs < cell.to

of_table : (cells : List DemandCell) (row j : ℕ) → All (λ cell. cell.from < cell.to) cells → row < length cells → j < vehicles_of_row cells row → IsOfTable cells (vehicle_of_row cells row j)
of_table cells row j windows inside l =
    let cell = get_or cells row some_cell in
    let n = vehicles_of_row cells row in
    let at : slice_get cells row ≡ Some cell = slice_get-get_or cells row some_cell inside in
    let is : departure_by (slice_get cells row) n j ≡ departure cell.from cell.to n j = ap (λ o. departure_by o n j) at in
    record {
      cell = cell;
      there = at;
      apart = λ e. absurd (let none = none_within cells row inside (rw (eq-eqb cell.origin cell.destination e) refl) in omega (arith, l, none));
      begun = rw is (begun_departure cell.from cell.to n j);
      before_end = rw is (early_departure cell.from cell.to n j (All-get_or (λ c. c.from < c.to) cells row some_cell inside windows) l);
    }

all_below : {X : Type 0} (P : X → Type 0) (f : ℕ → X) (k from bound : ℕ) → from + k ≤ bound → ((j : ℕ) → j < bound → P (f j)) → All P (map f (range_with_len from k))
all_below P f zero from bound h each = All-nil P
all_below P f (suc k) from bound h each = All-cons P (f from) (map f (range_with_len (from + 1) k)) (each from (omega (arith, h))) (all_below P f k (from + 1) bound (omega (arith, h)) each)

all_of_rows : (cells : List DemandCell) → All (λ cell. cell.from < cell.to) cells → (k from : ℕ) → from + k ≤ length cells → All (IsOfTable cells) (flat_map (released_by cells) (range_with_len from k))
unfolding released_by
all_of_rows cells h zero from l = All-nil (IsOfTable cells)
all_of_rows cells h (suc k) from l =
    All-append (IsOfTable cells) (released_by cells from) (flat_map (released_by cells) (range_with_len (from + 1) k))
    (all_below (IsOfTable cells) (vehicle_of_row cells from) (vehicles_of_row cells from) 0 (vehicles_of_row cells from) (omega arith) (λ j i. of_table cells from j h (omega (arith, l)) i))
    (all_of_rows cells h k (from + 1) (omega (arith, l)))

pub all_of_table : (cells : List DemandCell) → All (λ cell. cell.from < cell.to) cells → All (IsOfTable cells) (released cells)
unfolding released
all_of_table cells h = all_of_rows cells h (length cells) 0 (omega arith)

-- a vehicle departs before steps end within which all windows end
pub early_of : (cells : List DemandCell) (steps : ℕ) → All (λ cell. cell.to ≤ steps) cells → (r : Released) → IsOfTable cells r → r.departs < steps
early_of cells steps within r x =
    let inside = slice_get_within cells r.row x.cell x.there in
    let end = subst (λ c. c.to ≤ steps) (get_or_from_slice_get cells r.row x.cell x.cell x.there) (All-get_or (λ c. c.to ≤ steps) cells r.row x.cell inside within) in
    omega (arith, end, x.before_end)

-- windows end by the end of the last one
ends_within : (cells : List DemandCell) → All (λ cell. cell.to ≤ last_end cells) cells
ends_within [] = All-nil (λ cell. cell.to ≤ 0)
ends_within (cell ∷ cells) =
    All-cons (λ c. c.to ≤ max cell.to (last_end cells)) cell cells (le-max_left cell.to (last_end cells))
    (All-weaker (λ c. c.to ≤ last_end cells) (λ c. c.to ≤ max cell.to (last_end cells)) (λ c h. let more = le-max_right cell.to (last_end cells) in omega (arith, h, more)) cells (ends_within cells))

pub last_windows : (cells : List DemandCell) → All (λ cell. cell.from < cell.to) cells → HaveWindows (last_end cells) cells
last_windows cells some = record { some = some; within = ends_within cells }

-- ---- as numbered trips

numbered_total : (cells : List DemandCell) (k : ℕ) (rs : List Released) → length (numbered cells k rs) ≡ length rs
numbered_total cells k [] = refl
numbered_total cells k (r ∷ rs) = ap suc (numbered_total cells (k + 1) rs)

number_is : (o : Option DemandCell) (k d : ℕ) → (trip_by o k d).number ≡ k
number_is None k d = refl
number_is (Some cell) k d = refl

pub departs_is : (o : Option DemandCell) (k d : ℕ) → (trip_by o k d).departure ≡ d
departs_is None k d = refl
departs_is (Some cell) k d = refl

numbers_are : (cells : List DemandCell) (k : ℕ) (rs : List Released) → map (λ trip. trip.number) (numbered cells k rs) ≡ range_with_len k (length rs)
numbers_are cells k [] = refl
numbers_are cells k (r ∷ rs) = rw (number_is (slice_get cells r.row) k r.departs) (ap (λ ns. k ∷ ns) (numbers_are cells (k + 1) rs))

-- what is true of each vehicle is true of its trip
trips_keep : (Q : Released → Type 0) (P : Trip → Type 0) (cells : List DemandCell) → ((r : Released) (k : ℕ) → Q r → P (trip_by (slice_get cells r.row) k r.departs)) → (k : ℕ) (rs : List Released) → All Q rs → All P (numbered cells k rs)
trips_keep Q P cells step k [] all = All-nil P
trips_keep Q P cells step k (r ∷ rs) all =
    All-cons P (trip_by (slice_get cells r.row) k r.departs) (numbered cells (k + 1) rs) (step r k (All-head Q r rs all)) (trips_keep Q P cells step (k + 1) rs (All-tail Q r rs all))

trips_rise : (cells : List DemandCell) (k : ℕ) (rs : List Released) → IsNonDecreasingBy (λ r. r.departs) rs → IsNonDecreasingBy (λ trip. trip.departure) (numbered cells k rs)
trips_rise cells k [] rising = rising-same (λ trip. trip.departure) 0 [] (All-nil (λ trip. trip.departure ≡ 0))
trips_rise cells k (r ∷ rs) rising =
    rising-cons (λ trip. trip.departure) (trip_by (slice_get cells r.row) k r.departs) (numbered cells (k + 1) rs)
    (trips_keep (λ q. r.departs ≤ q.departs) (λ trip. (trip_by (slice_get cells r.row) k r.departs).departure ≤ trip.departure) cells
    (λ q n h. rw (departs_is (slice_get cells r.row) k r.departs, departs_is (slice_get cells q.row) n q.departs) h) (k + 1) rs
    (λ i d h. rising 0 (suc i) d (omega arith) (omega (arith, h))))
    (trips_rise cells (k + 1) rs (λ i j d l h. rising (suc i) (suc j) d (omega (arith, l)) (omega (arith, h))))

-- the trip of a vehicle is one of its row
of_row_of : (cells : List DemandCell) (r : Released) (k : ℕ) → IsOfTable cells r → IsOfRow cells (trip_by (slice_get cells r.row) k r.departs)
of_row_of cells r k x = rw x.there (record {
  row = r.row;
  cell = x.cell;
  there = x.there;
  origin = refl;
  destination = refl;
  begun = x.begun;
  before_end = x.before_end;
})

pub trips_are_released : TripsAreReleased
unfolding trips_of
trips_are_released cells steps windows =
    let each = all_of_table cells windows.some in
    let last = last_end cells in
    let all = in_order_of_departure last (released cells) in
    let kept : All (IsOfTable cells) all = order_keeps (IsOfTable cells) last (released cells) each in
    let few : length all ≡ length (released cells) = order_total last (released cells) (All-weaker (IsOfTable cells) (λ r. r.departs < last) (early_of cells last (ends_within cells)) (released cells) each) in
    record {
      total = numbered_total cells 0 all ∙ few ∙ released_total cells;
      numbered = numbers_are cells 0 all ∙ ap (range_with_len 0) (sym (numbered_total cells 0 all));
      apart = trips_keep (IsOfTable cells) (λ trip. trip.origin ≢ trip.destination) cells (λ r k x. rw x.there x.apart) 0 all kept;
      of_rows = trips_keep (IsOfTable cells) (IsOfRow cells) cells (of_row_of cells) 0 all kept;
      rising = trips_rise cells 0 all (order_rises last (released cells));
      early = trips_keep (IsOfTable cells) (λ trip. trip.departure < steps) cells (λ r k x. rw (departs_is (slice_get cells r.row) k r.departs) (early_of cells steps windows.within r x)) 0 all kept;
    }
