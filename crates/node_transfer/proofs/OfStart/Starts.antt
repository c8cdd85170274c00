-- Steps of opening a loading.
use Rattle.net_core.specs.Network as network
use Rattle.net_core.specs.Network.{numbers_below}
use Rattle.net_core.specs.Rows.{link_in, or_no_link}
use Rattle.net_core.specs.declared.rows.LinkNo.{LinkNo}
use Rattle.net_core.specs.declared.rows.LinkRow.{LinkRow}
use Rattle.std.specs.List.{list_any, position_or_len, range_with_len}
use Rattle.std.specs.Prelude.{filter, slice_get, slice_set, nat_eq, All}
use Rattle.std.proofs.Common.{◌≡◌, ℕ, zero, suc, ◌+◌, ◌-◌, ◌<◌, ◌≤◌, Bool, true, false, cond, List, [], ◌∷◌, ◌++◌, length, map, refl, ap, sym, ◌∙◌, subst, arith, append_assoc, append-nil, Option, Some, None, get_or, take, drop, add-one}
use Rattle.std.proofs.lemmas.List.{map_more}
use Rattle.std.proofs.lemmas.List.FromFn.{map-range_with_len_more}
use Rattle.dta_model.specs.Plans.{link_at, link_numbers}
use Rattle.dta_model.specs.Riders.{RiderState}
use Rattle.dta_model.specs.declared.plan.Plan.{Plan}
use Rattle.node_transfer.specs.Places.{set_some}
use Rattle.cell_stages.specs.Contents.{left_ago, left_before, storage_by}
use Rattle.link_queues.specs.Leavings.{no_leavings}
use Rattle.net_core.specs.declared.rates.Window.{Window}
use Rattle.node_transfer.specs.Gathered.{room_after}
use Rattle.node_transfer.proofs.OfStep.Left.{room-same}
use Rattle.std.proofs.lemmas.Bool.{eq-eqb, eqb-true}
use Rattle.std.proofs.lemmas.Bool.Decides.{nat_tests}
use Rattle.std.proofs.lemmas.List.Sums.{sum_by-cons}
use Rattle.net_core.specs.Rows.{IsBetween}
use Rattle.net_core.specs.declared.rows.TurnRow.{TurnRow}
use Rattle.dta_model.specs.Plans.{ins, outs, turn, turn_rates}
use Rattle.dta_model.specs.Loading.{trace_after}
use Rattle.dta_model.specs.Room.{leavings, wave_of}
use Rattle.cell_stages.specs.Stages.{line_before, room_mail}
use Rattle.dta_model.specs.Trace.{queue_of, last_moves}
use Rattle.cell_stages.specs.CellState.{CellState}
use Rattle.dta_model.specs.Sound.{IsSound}
use Rattle.dta_model.proofs.Steady.{all_at}
use Rattle.std.specs.Prelude.{nat_lt, sum, ◌&&◌, ◌||◌}
use Rattle.std.proofs.lemmas.List.{map-append}
use Rattle.std.proofs.lemmas.List.Elements.{filter-append, All-head, All-tail, All-nil, All-cons, All-weaker, All-filter}
use Rattle.cell_stages.specs.Contents.{is_kept, room_of, turn_of}
use Rattle.node_transfer.specs.Inside.StartCells.{kept_at_start, turns_at_start}
use Rattle.cell_stages.specs.declared.turn.LimitedTurn.{LimitedTurn}
use Rattle.node_transfer.specs.Inside.StartCells.{emptied, lines_left, start_out, taken_cell, taken_cells, taken_outs}
use Rattle.cell_stages.specs.declared.mail.Mail.{Mail}
use Rattle.cell_stages.specs.declared.mail.Mail.TheVariants.{Room}
use Rattle.cell_stages.specs.declared.out_link.OutLink.{OutLink}
use Rattle.cell_stages.proofs.NextLines.{below_all}

abbrev pub start_room : Plan → ℕ → Mail
start_room p l = Room 0 (storage_by p.queue (link_at p l).storage)

-- a list of what is made of each number below a bound grows by one
pub numbers_more : {X : Type 0} (f : ℕ → X) (n : ℕ) → map f (numbers_below (n + 1)) ≡ map f (numbers_below n) ++ f n ∷ []
numbers_more f n = map-range_with_len_more f 0 n n (omega arith)

pub got_link : (links : List LinkRow) (l : ℕ) (row : LinkRow) → slice_get links l ≡ Some row → link_in links l ≡ row
unfolding link_in
got_link links l row h = ap (λ o. or_no_link o) h

pub links_more : {X : Type 0} (f : ℕ → X) (ls : List LinkNo) (i : ℕ) (d : LinkNo) → i < length ls → map f (link_numbers (take (i + 1) ls)) ≡ map f (link_numbers (take i ls)) ++ f (get_or ls i d).0 ∷ []
links_more f ls i d h = links_map (take (i + 1) ls) ∙ map_more (λ l. f l.0) ls i d h ∙ ap (λ xs. xs ++ f (get_or ls i d).0 ∷ []) (sym (links_map (take i ls)))
  where
    links_map : (ls : List LinkNo) → map f (link_numbers ls) ≡ map (λ l. f l.0) ls
    links_map [] = refl
    links_map (l ∷ ls) = ap (λ xs. f l.0 ∷ xs) (links_map ls)

-- a turn between links of a node that no row names isn't listed
neither : (a b : Bool) → (a || b) ≡ false → (a ≡ false) × (b ≡ false)
neither true b h = cc
neither false b h = (refl, h)

first_and : (a b : Bool) → (a && b) ≡ true → a ≡ true
first_and true b h = refl
first_and false b h = cc

unplaced : (here q : TurnRow → Bool) → ((x : TurnRow) → q x ≡ true → here x ≡ true) → (xs : List TurnRow) → list_any here xs ≡ false → position_or_len q xs ≡ length xs
unplaced here q f [] h = refl
unplaced here q f (x ∷ xs) h = by_test (q x) refl (unplaced here q f xs (neither (here x) (list_any here xs) h).1)
  where
    one_plus : (n : ℕ) → 1 + n ≡ suc n
    one_plus n = omega arith

    by_test : (c : Bool) → q x ≡ c → position_or_len q xs ≡ length xs → position_or_len q (x ∷ xs) ≡ length (x ∷ xs)
    by_test true e ih = let t = f x e in let g = (neither (here x) (list_any here xs) h).0 in let same : true ≡ false = sym t ∙ g in cc
    by_test false e ih = rw (e, ih) (one_plus (length xs))

no-windows-unnamed : (p : Plan) (a b : ℕ) → network.is_named p.net (link_at p a).to.0 ≡ false → network.turn_windows p.net a b ≡ []
unfolding network.turn_windows network.is_named
no-windows-unnamed p a b e =
    let q : TurnRow → Bool = λ turn. nat_eq turn.a.0 a && nat_eq turn.b.0 b in
    let none : position_or_len q p.net.turns ≡ length p.net.turns =
    unplaced (λ turn. nat_eq (link_at p turn.a.0).to.0 (link_at p a).to.0) q
    (λ x h. let same = eqb-true x.a.0 a (first_and (nat_eq x.a.0 a) (nat_eq x.b.0 b) h) in eq-eqb (link_at p x.a.0).to.0 (link_at p a).to.0 (ap (λ k. (link_at p k).to.0) same))
    p.net.turns e in
    ap (λ k. network.windows_at p.net (cond (nat_lt k (length p.net.turns)) (Some k) None)) none
    ∙ ap (λ c. network.windows_at p.net (cond c (Some (length p.net.turns)) None)) (never (length p.net.turns))
  where
    never : (n : ℕ) → nat_lt n n ≡ false
    never n = grind (arith, nat_tests)

kept_free : (p : Plan) (a b : ℕ) → network.is_named p.net (link_at p a).to.0 ≡ false → is_kept (turn_rates p a b) (turn p a b) ≡ false
unfolding network.turn network.turn_at
kept_free p a b e = rw e (by_meeting (nat_eq (link_at p b).from.0 (link_at p a).to.0) (network.turn_windows p.net a b) (no-windows-unnamed p a b e))
  where
    by_meeting : (c : Bool) (ws : List Window) → ws ≡ [] → is_kept (record { usual = network.limit_of (cond c (Some network.free_turn) None); windows = ws }) (cond c (Some network.free_turn) None) ≡ false
    by_meeting true ws h = rw h refl
    by_meeting false ws h = refl

-- a link of a sound loading ends at a node of the table
pub ends_there : (p : Plan) (l : ℕ) (row : LinkRow) → IsSound p → slice_get p.net.links l ≡ Some row → row.to.0 < length p.net.nodes
ends_there p l row sound h = (all_at (IsBetween p.net.nodes) p.net.links l row sound.net.between h).to

-- at a node that lists no turn, a cell keeps none
pub free_turns : (p : Plan) (l : ℕ) (row : LinkRow) (bs : List ℕ) → slice_get p.net.links l ≡ Some row → network.is_named p.net row.to.0 ≡ false → turns_at_start p l bs ≡ []
free_turns p l row bs h e = ap (λ ys. map (turn_of p l) ys) (none_kept bs)
  where
    none_is : (b : ℕ) → is_kept (turn_rates p l b) (turn p l b) ≡ false
    none_is b = kept_free p l b (subst (λ r. network.is_named p.net r.to.0 ≡ false) (sym (got_link p.net.links l row h)) e)

    none_kept : (bs : List ℕ) → filter (λ b. is_kept (turn_rates p l b) (turn p l b)) bs ≡ []
    none_kept [] = refl
    none_kept (b ∷ bs) = rw (none_is b) (none_kept bs)

-- one more turn, where it is one that a cell keeps
pub turns_more : (p : Plan) (l : ℕ) (bs : List LinkNo) (i : ℕ) (d : LinkNo) → i < length bs
    → turns_at_start p l (link_numbers (take (i + 1) bs)) ≡ turns_at_start p l (link_numbers (take i bs)) ++ cond (is_kept (turn_rates p l (get_or bs i d).0) (turn p l (get_or bs i d).0)) (turn_of p l (get_or bs i d).0 ∷ []) []
turns_more p l bs i d h =
    ap (λ xs. turns_at_start p l xs) (map_more (λ x. x.0) bs i d h)
    ∙ ap (λ xs. map (turn_of p l) xs) (filter-append (λ b. is_kept (turn_rates p l b) (turn p l b)) (link_numbers (take i bs)) ((get_or bs i d).0 ∷ []))
    ∙ map-append (turn_of p l) (filter (λ b. is_kept (turn_rates p l b) (turn p l b)) (link_numbers (take i bs))) (cond (is_kept (turn_rates p l (get_or bs i d).0) (turn p l (get_or bs i d).0)) ((get_or bs i d).0 ∷ []) [])
    ∙ ap (λ xs. turns_at_start p l (link_numbers (take i bs)) ++ xs) (one_turn (is_kept (turn_rates p l (get_or bs i d).0) (turn p l (get_or bs i d).0)))
  where
    one_turn : (c : Bool) → map (turn_of p l) (cond c ((get_or bs i d).0 ∷ []) []) ≡ cond c (turn_of p l (get_or bs i d).0 ∷ []) []
    one_turn true = refl
    one_turn false = refl

-- by what is found for the next link
pub turn_found : (p : Plan) (l : ℕ) (bs : List LinkNo) (i : ℕ) (d : LinkNo) (found : LimitedTurn) → i < length bs → Some found ≡ kept_at_start p l (get_or bs i d).0
    → turns_at_start p l (link_numbers (take i bs)) ++ found ∷ [] ≡ turns_at_start p l (link_numbers (take (i + 1) bs))
turn_found p l bs i d found h e = by_kept (is_kept (turn_rates p l (get_or bs i d).0) (turn p l (get_or bs i d).0)) e ∙ sym (turns_more p l bs i d h)
  where
    by_kept : (c : Bool) → Some found ≡ cond c (Some (turn_of p l (get_or bs i d).0)) None
        → turns_at_start p l (link_numbers (take i bs)) ++ found ∷ [] ≡ turns_at_start p l (link_numbers (take i bs)) ++ cond c (turn_of p l (get_or bs i d).0 ∷ []) []
    by_kept true e = let same : found ≡ turn_of p l (get_or bs i d).0 = cc in ap (λ x. turns_at_start p l (link_numbers (take i bs)) ++ x ∷ []) same
    by_kept false e = cc

pub no_turn_found : (p : Plan) (l : ℕ) (bs : List LinkNo) (i : ℕ) (d : LinkNo) → i < length bs → None ≡ kept_at_start p l (get_or bs i d).0
    → turns_at_start p l (link_numbers (take i bs)) ≡ turns_at_start p l (link_numbers (take (i + 1) bs))
no_turn_found p l bs i d h e = by_kept (is_kept (turn_rates p l (get_or bs i d).0) (turn p l (get_or bs i d).0)) e ∙ sym (turns_more p l bs i d h)
  where
    by_kept : (c : Bool) → None ≡ cond c (Some (turn_of p l (get_or bs i d).0)) None
        → turns_at_start p l (link_numbers (take i bs)) ≡ turns_at_start p l (link_numbers (take i bs)) ++ cond c (turn_of p l (get_or bs i d).0 ∷ []) []
    by_kept true e = cc
    by_kept false e = sym (append-nil (turns_at_start p l (link_numbers (take i bs))))

-- the first of the links that are left
drop_suc : (bs : List LinkNo) (i : ℕ) (d : LinkNo) → i < length bs → drop i (link_numbers bs) ≡ (get_or bs i d).0 ∷ drop (suc i) (link_numbers bs)
drop_suc [] i d h = absurd (omega (arith, h))
drop_suc (b ∷ bs) zero d h = refl
drop_suc (b ∷ bs) (suc i) d h = drop_suc bs i d (omega (arith, h))

pub drop_next : (bs : List LinkNo) (i : ℕ) (d : LinkNo) → i < length bs → drop i (link_numbers bs) ≡ (get_or bs i d).0 ∷ drop (i + 1) (link_numbers bs)
drop_next bs i d h = rw add-one (drop_suc bs i d h)

pub numbers_of_links : (xs : List ℕ) → link_numbers (network.as_links xs) ≡ xs
numbers_of_links [] = refl
numbers_of_links (x ∷ xs) = ap (λ ys. x ∷ ys) (numbers_of_links xs)

below_links : (L : ℕ) (xs : List ℕ) → All (λ x. x < L) xs → All (λ l. l.0 < L) (network.as_links xs)
below_links L [] a = All-nil _
below_links L (x ∷ xs) a = All-cons (λ l. l.0 < L) (record { 0 = x }) (network.as_links xs) (All-head (λ x. x < L) x xs a) (below_links L xs (All-tail (λ x. x < L) x xs a))

pub below : (k : ℕ) → All (λ x. x < k) (numbers_below k)
below k = All-weaker (λ x. x < 0 + k) (λ x. x < k) (λ x h. omega (arith, h)) (numbers_below k) (below_all k 0)

pub ins_below : (p : Plan) (n : ℕ) → All (λ l. l.0 < length p.net.links) (network.as_links (ins p n))
unfolding network.ins
ins_below p n = below_links (length p.net.links) (ins p n) (All-filter (λ l. nat_eq (link_at p l).to.0 n) (λ x. x < length p.net.links) (numbers_below (length p.net.links)) (below (length p.net.links)))

pub outs_below : (p : Plan) (n : ℕ) → All (λ l. l.0 < length p.net.links) (network.as_links (outs p n))
unfolding network.outs
outs_below p n = below_links (length p.net.links) (outs p n) (All-filter (λ l. nat_eq (link_at p l).from.0 n) (λ x. x < length p.net.links) (numbers_below (length p.net.links)) (below (length p.net.links)))

-- the lines of links, changed at one of them
emptied_is : (b : ℕ) (lines : List (List RiderState)) (d : List RiderState) → b < length lines → slice_set lines b [] ≡ emptied b lines
emptied_is b [] d h = absurd (omega (arith, h))
emptied_is zero (x ∷ lines) d h = refl
emptied_is (suc b) (x ∷ lines) d h = behind (slice_get lines b) (emptied_is b lines d (omega (arith, h)))
  where
    behind : (o : Option (List RiderState)) → slice_set lines b [] ≡ set_some (λ line. []) o b lines → slice_set (x ∷ lines) (suc b) [] ≡ set_some (λ line. []) o (suc b) (x ∷ lines)
    behind None e = ap (λ ls. x ∷ ls) e
    behind (Some y) e = ap (λ ls. x ∷ ls) e

-- what stands for a missing element doesn't matter where there is one
pub default_same : {X : Type 0} (xs : List X) (i : ℕ) (d e : X) → i < length xs → get_or xs i d ≡ get_or xs i e
default_same [] i d e h = absurd (omega (arith, h))
default_same (x ∷ xs) zero d e h = refl
default_same (x ∷ xs) (suc i) d e h = default_same xs i d e (omega (arith, h))

-- the next out-link
pub outs_next : (p : Plan) (lines : List (List RiderState)) (done : List OutLink) (bs : List LinkNo) (i : ℕ) (d : LinkNo) → i < length bs → (get_or bs i d).0 < length lines
    → done ++ taken_outs p lines (drop i (link_numbers bs)) ≡ (done ++ start_out p lines (get_or bs i d).0 ∷ []) ++ taken_outs p (slice_set lines (get_or bs i d).0 []) (drop (i + 1) (link_numbers bs))
unfolding taken_outs
outs_next p lines done bs i d h k =
    ap (λ xs. done ++ taken_outs p lines xs) (drop_next bs i d h)
    ∙ ap (λ ls. done ++ (start_out p lines (get_or bs i d).0 ∷ taken_outs p ls (drop (i + 1) (link_numbers bs)))) (sym (emptied_is (get_or bs i d).0 lines [] k))
    ∙ sym (append_assoc done (start_out p lines (get_or bs i d).0 ∷ []) (taken_outs p (slice_set lines (get_or bs i d).0 []) (drop (i + 1) (link_numbers bs))))

pub left_next : (lines : List (List RiderState)) (bs : List LinkNo) (i : ℕ) (d : LinkNo) → i < length bs → (get_or bs i d).0 < length lines
    → lines_left lines (drop i (link_numbers bs)) ≡ lines_left (slice_set lines (get_or bs i d).0 []) (drop (i + 1) (link_numbers bs))
unfolding lines_left
left_next lines bs i d h k =
    ap (λ xs. lines_left lines xs) (drop_next bs i d h)
    ∙ ap (λ ls. lines_left ls (drop (i + 1) (link_numbers bs))) (sym (emptied_is (get_or bs i d).0 lines [] k))

drop_end : (bs : List LinkNo) (i : ℕ) → length bs ≤ i → drop i (link_numbers bs) ≡ []
drop_end [] zero h = refl
drop_end [] (suc i) h = refl
drop_end (b ∷ bs) zero h = absurd (omega (arith, h))
drop_end (b ∷ bs) (suc i) h = drop_end bs i (omega (arith, h))

pub outs_end : (p : Plan) (lines : List (List RiderState)) (done : List OutLink) (bs : List LinkNo) (i : ℕ) → length bs ≤ i → done ++ taken_outs p lines (drop i (link_numbers bs)) ≡ done
unfolding taken_outs
outs_end p lines done bs i h = ap (λ xs. done ++ taken_outs p lines xs) (drop_end bs i h) ∙ append-nil done

pub left_end : (lines : List (List RiderState)) (bs : List LinkNo) (i : ℕ) → length bs ≤ i → lines_left lines (drop i (link_numbers bs)) ≡ lines
unfolding lines_left
left_end lines bs i h = ap (λ xs. lines_left lines xs) (drop_end bs i h)

-- the next cell
pub cells_next : (p : Plan) (lines : List (List RiderState)) (done : List CellState) (n N : ℕ) → n < N
    → done ++ taken_cells p lines (range_with_len n (N - n)) ≡ (done ++ taken_cell p lines n ∷ []) ++ taken_cells p (lines_left lines (outs p n)) (range_with_len (n + 1) (N - (n + 1)))
unfolding taken_cells
cells_next p lines done n N h =
    ap (λ k. done ++ taken_cells p lines (range_with_len n k)) (one_less n N h)
    ∙ sym (append_assoc done (taken_cell p lines n ∷ []) (taken_cells p (lines_left lines (outs p n)) (range_with_len (n + 1) (N - (n + 1)))))
  where
    one_less : (n N : ℕ) → n < N → N - n ≡ suc (N - (n + 1))
    one_less n N h = omega (arith, h)

pub cells_end : (p : Plan) (lines : List (List RiderState)) (done : List CellState) (n N : ℕ) → N ≤ n → done ++ taken_cells p lines (range_with_len n (N - n)) ≡ done
unfolding taken_cells
cells_end p lines done n N h = ap (λ k. done ++ taken_cells p lines (range_with_len n k)) (none_left n N h) ∙ append-nil done
  where
    none_left : (n N : ℕ) → N ≤ n → N - n ≡ 0
    none_left n N h = omega (arith, h)

-- nobody is on a link, or has left it
zeros : (k a : ℕ) → sum (map (λ i. 0) (range_with_len a k)) ≡ 0
zeros zero a = refl
zeros (suc k) a = let h = sum_by-cons (λ x. x) 0 (map (λ i. 0) (range_with_len (a + 1) k)) in omega (arith, h, zeros k (a + 1))

none_left : (k a b : ℕ) (f : ℕ → ℕ) → ((i : ℕ) → f i ≡ 0) → map (λ i. 0) (range_with_len a k) ≡ map f (range_with_len b k)
none_left zero a b f h = refl
none_left (suc k) a b f h = ap (λ x. x ∷ map (λ i. 0) (range_with_len (a + 1) k)) (sym (h b)) ∙ ap (λ xs. f b ∷ xs) (none_left k (a + 1) (b + 1) f h)

nobody_left : (p : Plan) (l i : ℕ) → left_ago (trace_after p 0) l 0 i ≡ 0
unfolding leavings trace_after
nobody_left p l i = refl

pub left-start : (p : Plan) (l : ℕ) → no_leavings (wave_of p l - 1) ≡ left_before p 0 l
left-start p l = none_left (wave_of p l - 1) 0 1 (left_ago (trace_after p 0) l 0) (nobody_left p l)

pub line-start : (p : Plan) (l : ℕ) → [] ≡ line_before p 0 l
unfolding line_before trace_after queue_of last_moves
line-start p l = refl

-- so all of the storage is free
all-free : (p : Plan) (l : ℕ) → storage_by p.queue (link_at p l).storage ≡ room_mail p l 0
all-free p l =
    by_storage (storage_by p.queue (link_at p l).storage)
    ∙ ap (λ k. room_after (storage_by p.queue (link_at p l).storage) [] k) (left-start p l)
    ∙ ap (λ line. room_after (storage_by p.queue (link_at p l).storage) line (left_before p 0 l)) (line-start p l)
    ∙ room-same p 0 l
  where
    all_of : (s e : ℕ) → e ≡ 0 → s ≡ s - (0 + e)
    all_of s e h = omega (arith, h)

    by_storage : (o : Option ℕ) → o ≡ room_after o [] (no_leavings (wave_of p l - 1))
    by_storage None = refl
    by_storage (Some s) = ap (λ k. Some k) (all_of s (sum (no_leavings (wave_of p l - 1))) (zeros (wave_of p l - 1) 0))

pub rooms_start : (p : Plan) (xs : List ℕ) → map (start_room p) xs ≡ map (room_of p 0) xs
unfolding room_of
rooms_start p [] = refl
rooms_start p (l ∷ xs) = ap (λ o. Room 0 o ∷ map (start_room p) xs) (all-free p l) ∙ ap (λ ys. room_of p 0 l ∷ ys) (rooms_start p xs)

pub ruleset start_steps = (numbers_more, got_link, links_more)

-- what the turns of a link at the start ask for
pub ruleset turn_steps = (numbers_more, got_link, links_more, ends_there)
