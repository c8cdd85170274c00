-- Lines at the start of a step, and the riders that leave them.
use Rattle.std.proofs.lemmas.Bool.{not-true}
use Rattle.std.specs.Option.{option_or}
use Rattle.std.specs.Prelude.{drop, filter, find, slice_get, All}
use Rattle.std.proofs.Common.{◌≡◌, ℕ, suc, ◌+◌, true, false, cond, not, List, [], ◌∷◌, ◌++◌, length, map, refl, ap, sym, ◌∙◌, add-one, arith, append-nil, Option, Some, None}
use Rattle.std.proofs.lemmas.List.{length-append, length-map, map-append}
use Rattle.std.proofs.lemmas.List.Elements.{filter-append}
use Rattle.std.proofs.lemmas.List.Folds.{find-append}
use Rattle.dta_model.specs.declared.plan.Plan.{Plan}
use Rattle.dta_model.specs.Loading.{arrival_of, entries_of, is_entry, is_onto, step_in}
use Rattle.dta_model.specs.NodeMoves.{first_move, head_move, leave_move}
use Rattle.dta_model.specs.Plans.{departure_of, link_at, route_of}
use Rattle.dta_model.specs.Riders.{RiderState, moved, rider_at}
use Rattle.dta_model.proofs.Steady.{IsSteady, steady_of}
use Rattle.cell_stages.specs.Stages.{staying}
use Rattle.dta_model.specs.Trace.{Move, Target, has_moved, last_move, moves_of, next_target, queue_of, target_at}
use Rattle.cell_stages.specs.Transfers.{HeadsOfLines, RidersMove, line_move}
use Rattle.dta_model.proofs.Pushes.{last_move-still, moves_of-append, moves_made_is}
use Rattle.dta_model.proofs.Standing.{in-queue}
use Rattle.dta_model.proofs.Fuel.{last_in, has_moved-if, not_ready}
use Rattle.cell_stages.proofs.Gathering.{queue-append, kept_at}
use Rattle.dta_model.proofs.NoMoves.{no-moves}
use Rattle.dta_model.proofs.Riders.{own_move, no_arrival, none_ahead, some_ahead}

module _ (p : Plan) (sound : IsSteady p) (n t : ℕ) (T0 M : List Move) (now : All (λ m. m.step ≡ t) M) (l : ℕ) where
  late : (v : ℕ) (x : Move) (y : Target) → x.step ≡ t → leave_move p n t T0 M l v (Some x) y ≡ None
  unfolding leave_move
  late v x y h = let free = sound.free l in rw (not_ready p sound n t T0 M l (x.step + (link_at p l).free) y (omega (arith, h, free))) refl

  -- who came in this step doesn't move on in it
  came_none : (v : ℕ) → has_moved v M ≡ true → leave_move p n t T0 M l v (last_move v (T0 ++ M)) (next_target p (T0 ++ M) v) ≡ None
  came_none v h = let x = last_in (λ m. m.step ≡ t) v M T0 now h in ap (λ e. leave_move p n t T0 M l v e (next_target p (T0 ++ M) v)) (x.1) ∙ late v (x.0) (next_target p (T0 ++ M) v) (x.2)

  target_still : (v : ℕ) → has_moved v M ≡ false → next_target p (T0 ++ M) v ≡ next_target p T0 v
  unfolding next_target
  target_still v h =
      ap (λ k. target_at (slice_get (route_of p v) k))
      (moves_made_is v (T0 ++ M) ∙ ap (λ L. length L) (moves_of-append v T0 M ∙ ap (λ L. moves_of v T0 ++ L) (no-moves v M h) ∙ append-nil (moves_of v T0)) ∙ sym (moves_made_is v T0))

  by_line : (S : List ℕ) → staying M (queue_of l T0) ≡ S → first_move p n t T0 M l (slice_get (S ++ queue_of l M) 0) ≡ line_move p n t T0 M l (slice_get S 0)
  unfolding first_move line_move
  by_line [] e = nobody_left (queue_of l M) refl
    where
      nobody_left : (Q : List ℕ) → queue_of l M ≡ Q → first_move p n t T0 M l (slice_get Q 0) ≡ None
      nobody_left [] h = refl
      nobody_left (v ∷ Q) h = let x = in-queue l M 0 v (ap (λ K. slice_get K 0) h) in came_none v (has_moved-if v M (x.0) (x.1))
  by_line (v ∷ S) e =
      let k = kept_at (λ w. not (has_moved w M)) (queue_of l T0) 0 v (ap (λ K. slice_get K 0) e) in
      let still : has_moved v M ≡ false = not-true (has_moved v M) (k.0) in
      ap (λ x. leave_move p n t T0 M l v x (next_target p (T0 ++ M) v)) (last_move-still v M T0 still) ∙ ap (λ y. leave_move p n t T0 M l v (last_move v T0) y) (target_still v still)

  pub head-of-line : head_move p n t T0 M l ≡ line_move p n t T0 M l (slice_get (staying M (queue_of l T0)) 0)
  unfolding head_move
  head-of-line = ap (λ Q. first_move p n t T0 M l (slice_get Q 0)) (queue-append l T0 M) ∙ by_line (staying M (queue_of l T0)) refl

pub heads_of_lines : HeadsOfLines
heads_of_lines p sound n t T0 M now l = head-of-line p (steady_of p sound) n t T0 M now l

none_or : (o q : Option Move) → o ≡ None → option_or o q ≡ q
none_or None q h = refl
none_or (Some x) q h = cc

rider_by : Plan → ℕ → List Move → RiderState
rider_by p v L = record { number = v; departure = departure_of p v; ahead = drop (length (map (λ m. m.step) (filter is_entry L))) (route_of p v); entries = map (λ m. m.step) (filter is_entry L); arrival = step_in (find (λ m. not (is_entry m)) L) }

by_moves : (p : Plan) (T : List Move) (v : ℕ) → rider_at p T v ≡ rider_by p v (moves_of v T)
unfolding rider_at entries_of arrival_of rider_by
by_moves p T v = refl

one_more_by : (p : Plan) (v : ℕ) (L : List Move) (m : Move) (o : Option ℕ) → filter is_entry L ≡ L → slice_get (route_of p v) (length L) ≡ o → m.target ≡ target_at o → rider_by p v (L ++ m ∷ []) ≡ moved (rider_by p v L) m.step
unfolding rider_by
one_more_by p v L m (Some b) only get to =
    let entry : is_entry m ≡ true = ap is_onto to in
    let count : length (map (λ x. x.step) (filter is_entry L)) ≡ length L = length-map (filter is_entry L) (λ x. x.step) ∙ ap (λ K. length K) only in
    let entries : List ℕ = map (λ x. x.step) (filter is_entry L) in
    let here : drop (length entries) (route_of p v) ≡ b ∷ drop (suc (length entries)) (route_of p v) = some_ahead (length entries) (route_of p v) b (ap (λ k. slice_get (route_of p v) k) count ∙ get) in
    let longer : length (entries ++ m.step ∷ []) ≡ suc (length entries) = length-append entries (m.step ∷ []) ∙ add-one (length entries) in
    let more : map (λ x. x.step) (filter is_entry (L ++ m ∷ [])) ≡ map (λ x. x.step) (filter is_entry L) ++ m.step ∷ [] =
    ap (λ K. map (λ x. x.step) K) (filter-append is_entry L (m ∷ []) ∙ ap (λ c. filter is_entry L ++ cond c (m ∷ []) []) entry) ∙ map-append (λ x. x.step) (filter is_entry L) (m ∷ []) in
    let none : find (λ x. not (is_entry x)) L ≡ None = no_arrival L only in
    let still : find (λ x. not (is_entry x)) (L ++ m ∷ []) ≡ find (λ x. not (is_entry x)) L =
    find-append (λ x. not (is_entry x)) L (m ∷ []) ∙ ap (λ c. option_or (find (λ x. not (is_entry x)) L) (cond (not c) (Some m) None)) entry ∙ none_or (find (λ x. not (is_entry x)) L) None none ∙ sym none in
    rw (more, longer, still, here) refl
one_more_by p v L m None only get to =
    let entry : is_entry m ≡ false = ap is_onto to in
    let count : length (map (λ x. x.step) (filter is_entry L)) ≡ length L = length-map (filter is_entry L) (λ x. x.step) ∙ ap (λ K. length K) only in
    let entries : List ℕ = map (λ x. x.step) (filter is_entry L) in
    let here : drop (length entries) (route_of p v) ≡ [] = none_ahead (length entries) (route_of p v) (ap (λ k. slice_get (route_of p v) k) count ∙ get) in
    let more : filter is_entry (L ++ m ∷ []) ≡ filter is_entry L = filter-append is_entry L (m ∷ []) ∙ ap (λ c. filter is_entry L ++ cond c (m ∷ []) []) entry ∙ append-nil (filter is_entry L) in
    let none : find (λ x. not (is_entry x)) L ≡ None = no_arrival L only in
    let now : find (λ x. not (is_entry x)) (L ++ m ∷ []) ≡ Some m =
    find-append (λ x. not (is_entry x)) L (m ∷ []) ∙ ap (λ c. option_or (find (λ x. not (is_entry x)) L) (cond (not c) (Some m) None)) entry ∙ none_or (find (λ x. not (is_entry x)) L) (Some m) none in
    rw (more, now, here) refl

pub riders_move : RidersMove
unfolding next_target
riders_move p T m only to =
    by_moves p (T ++ m ∷ []) m.vehicle
    ∙ ap (λ L. rider_by p m.vehicle L) (moves_of-append m.vehicle T (m ∷ []) ∙ ap (λ L. moves_of m.vehicle T ++ L) (own_move m.vehicle m refl))
    ∙ one_more_by p m.vehicle (moves_of m.vehicle T) m (slice_get (route_of p m.vehicle) (length (moves_of m.vehicle T))) only refl (to ∙ ap (λ k. target_at (slice_get (route_of p m.vehicle) k)) (moves_made_is m.vehicle T))
    ∙ ap (λ r. moved r m.step) (sym (by_moves p T m.vehicle))
