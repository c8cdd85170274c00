-- One more visit.
use Rattle.std.specs.Prelude.{◌≢◌, slice_get, slice_set, slice_index, find, nat_eq, option_to_list}
use Rattle.std.proofs.Common.{◌≡◌, ◌⊎◌, inl, inr, ℕ, zero, suc, ◌+◌, ◌*◌, ◌/◌, ◌<◌, ◌≤◌, true, false, cond, List, [], ◌∷◌, length, drop, refl, arith, get_or, ap, sym, ◌∙◌, subst, Option, None, Some}
use Rattle.std.proofs.lemmas.Bool.Decides.{eqb_tells}
use Rattle.std.proofs.lemmas.Grind.{get_or-set_at}
use Rattle.std.proofs.lemmas.List.{get_or-set_other}
use Rattle.std.proofs.lemmas.List.Elements.{All-drop}
use Rattle.std.proofs.Math.Dec.{eqb}
use Rattle.net_core.specs.declared.rows.LinkNo.{LinkNo}
use Rattle.dta_model.specs.declared.loading.TheConstants.{MOST_HORIZON}
use Rattle.dta_model.specs.declared.plan.Plan.{Plan}
use Rattle.dta_model.specs.LinkTimes.{Visit, place_in, visit_time}
use Rattle.dta_model.specs.Trace.{Arrived, Move, Onto, is_of}
use Rattle.link_times.specs.Journeys.{link_on, moves_along}
use Rattle.link_times.specs.Sums.{AreAdded, AreLeft, AreWithin, number, total}
use Rattle.link_times.proofs.Along.{along_last, along_more, along_own, out_in}
use Rattle.link_times.proofs.Steps.{on_route}
use Rattle.link_times.proofs.Places.{place_tells}
use Rattle.link_times.proofs.Sums.{find-first, sum_in, sum_in-more, sum_in-none}

-- a number that grows at one place
grown_at : (xs : List ℕ) (place x q : ℕ) → q ≡ place → place < length xs → get_or (slice_set xs place (get_or xs place 0 + x)) q 0 ≡ get_or xs q 0 + x
grown_at xs place x q same inside =
    let a : get_or (slice_set xs place (get_or xs place 0 + x)) q 0 ≡ get_or xs place 0 + x = get_or-set_at xs place q (get_or xs place 0 + x) 0 same inside in
    let b : get_or xs q 0 ≡ get_or xs place 0 = ap (λ k. get_or xs k 0) same in
    omega (arith, a, b)

grown_other : (xs : List ℕ) (place x q : ℕ) → q ≢ place → get_or (slice_set xs place (get_or xs place 0 + x)) q 0 ≡ get_or xs q 0
grown_other xs place x q other = get_or-set_other xs place q (get_or xs place 0 + x) 0 other

first_left : (L : List Move) (i : ℕ) → slice_get (drop i L) 0 ≡ slice_get L i
first_left [] zero = refl
first_left [] (suc i) = refl
first_left (x ∷ L) zero = refl
first_left (x ∷ L) (suc i) = first_left L i

module _ (p : Plan) (bucket buckets v : ℕ) (route : List LinkNo) (entries : List ℕ) (arrival : Option ℕ) where
  -- what the visit at a place of the route adds
  visit_adds : (f : Visit → ℕ) (i l b steps : ℕ) → length entries ≤ length route → i < length entries
      → steps ≡ visit_time p (link_on route i) (slice_index entries i) (slice_get (moves_along v route entries arrival) (suc i))
      → sum_in f p bucket l b (drop i (moves_along v route entries arrival)) ≡ cond (nat_eq (link_on route i) l) (cond (nat_eq (slice_index entries i / bucket) b) (f (record { entry = slice_index entries i; time = steps })) 0) 0 + sum_in f p bucket l b (drop (suc i) (moves_along v route entries arrival))
  visit_adds f i l b steps w h e =
      let m : Move = record { step = slice_index entries i; vehicle = v; target = Onto (link_on route i) } in
      let R : List Move = drop (suc i) (moves_along v route entries arrival) in
      let next : find (is_of v) R ≡ slice_get (moves_along v route entries arrival) (suc i) =
      find-first v R (All-drop (λ x. x.vehicle ≡ v) (suc i) (moves_along v route entries arrival) (along_own v route entries arrival)) ∙ first_left (moves_along v route entries arrival) (suc i) in
      ap (λ L. sum_in f p bucket l b L) (along_more v route entries arrival i w h)
      ∙ sum_in-more f p bucket l b m R
      ∙ by_link (eqb_tells (link_on route i) l) m R next
    where
      by_link : ((eqb (link_on route i) l ≡ true) × (link_on route i ≡ l)) ⊎ ((eqb (link_on route i) l ≡ false) × (link_on route i ≢ l)) → (m : Move) (R : List Move) → find (is_of v) R ≡ slice_get (moves_along v route entries arrival) (suc i)
          → cond (nat_eq (link_on route i) l) (cond (nat_eq (slice_index entries i / bucket) b) (f (record { entry = slice_index entries i; time = visit_time p l (slice_index entries i) (find (is_of v) R) })) 0) 0 + sum_in f p bucket l b R
          ≡ cond (nat_eq (link_on route i) l) (cond (nat_eq (slice_index entries i / bucket) b) (f (record { entry = slice_index entries i; time = steps })) 0) 0 + sum_in f p bucket l b R
      by_link (inl (t, same)) m R next =
          let time : visit_time p l (slice_index entries i) (find (is_of v) R) ≡ steps = ap (visit_time p l (slice_index entries i)) next ∙ ap (λ k. visit_time p k (slice_index entries i) (slice_get (moves_along v route entries arrival) (suc i))) (sym same) ∙ sym e in
          ap (λ s. cond (nat_eq (link_on route i) l) (cond (nat_eq (slice_index entries i / bucket) b) (f (record { entry = slice_index entries i; time = s })) 0) 0 + sum_in f p bucket l b R) time
      by_link (inr (t, other)) m R next = rw t refl

  -- one sum or number grows by it
  one_more : (f : Visit → ℕ) (xs : List ℕ) (i l b steps x : ℕ) → length entries ≤ length route → i < length entries
      → steps ≡ visit_time p (link_on route i) (slice_index entries i) (slice_get (moves_along v route entries arrival) (suc i))
      → f (record { entry = slice_index entries i; time = steps }) ≡ x
      → slice_index entries i / bucket < buckets → b < buckets → place_in buckets (link_on route i) (slice_index entries i / bucket) < length xs
      → get_or (slice_set xs (place_in buckets (link_on route i) (slice_index entries i / bucket)) (get_or xs (place_in buckets (link_on route i) (slice_index entries i / bucket)) 0 + x)) (place_in buckets l b) 0 + sum_in f p bucket l b (drop (suc i) (moves_along v route entries arrival))
      ≡ get_or xs (place_in buckets l b) 0 + sum_in f p bucket l b (drop i (moves_along v route entries arrival))
  one_more f xs i l b steps x w h e fx inside bb within =
      let adds = visit_adds f i l b steps w h e in
      by (eqb_tells (link_on route i) l) (eqb_tells (slice_index entries i / bucket) b) adds
    where
      place : ℕ
      place = place_in buckets (link_on route i) (slice_index entries i / bucket)

      rest : ℕ
      rest = sum_in f p bucket l b (drop (suc i) (moves_along v route entries arrival))

      whole : ℕ
      whole = sum_in f p bucket l b (drop i (moves_along v route entries arrival))

      elsewhere : place_in buckets l b ≢ place_in buckets (link_on route i) (slice_index entries i / bucket) → whole ≡ rest
          → get_or (slice_set xs (place_in buckets (link_on route i) (slice_index entries i / bucket)) (get_or xs (place_in buckets (link_on route i) (slice_index entries i / bucket)) 0 + x)) (place_in buckets l b) 0 + rest ≡ get_or xs (place_in buckets l b) 0 + whole
      elsewhere other same =
          let g = grown_other xs (place_in buckets (link_on route i) (slice_index entries i / bucket)) x (place_in buckets l b) other in
          omega (arith, g, same)

      by : ((eqb (link_on route i) l ≡ true) × (link_on route i ≡ l)) ⊎ ((eqb (link_on route i) l ≡ false) × (link_on route i ≢ l))
          → ((eqb (slice_index entries i / bucket) b ≡ true) × (slice_index entries i / bucket ≡ b)) ⊎ ((eqb (slice_index entries i / bucket) b ≡ false) × (slice_index entries i / bucket ≢ b))
          → sum_in f p bucket l b (drop i (moves_along v route entries arrival)) ≡ cond (nat_eq (link_on route i) l) (cond (nat_eq (slice_index entries i / bucket) b) (f (record { entry = slice_index entries i; time = steps })) 0) 0 + sum_in f p bucket l b (drop (suc i) (moves_along v route entries arrival))
          → get_or (slice_set xs (place_in buckets (link_on route i) (slice_index entries i / bucket)) (get_or xs (place_in buckets (link_on route i) (slice_index entries i / bucket)) 0 + x)) (place_in buckets l b) 0 + sum_in f p bucket l b (drop (suc i) (moves_along v route entries arrival))
          ≡ get_or xs (place_in buckets l b) 0 + sum_in f p bucket l b (drop i (moves_along v route entries arrival))
      by (inl (t, same)) (inl (u, also)) adds =
          let q : place_in buckets l b ≡ place_in buckets (link_on route i) (slice_index entries i / bucket) = rw (same, also) refl in
          let g = grown_at xs (place_in buckets (link_on route i) (slice_index entries i / bucket)) x (place_in buckets l b) q within in
          let one : cond (nat_eq (link_on route i) l) (cond (nat_eq (slice_index entries i / bucket) b) (f (record { entry = slice_index entries i; time = steps })) 0) 0 ≡ x = rw (t, u) fx in
          omega (arith, g, one, adds)
      by (inl (t, same)) (inr (u, other)) adds =
          let none : cond (nat_eq (link_on route i) l) (cond (nat_eq (slice_index entries i / bucket) b) (f (record { entry = slice_index entries i; time = steps })) 0) 0 ≡ 0 = rw (t, u) refl in
          elsewhere (λ q. other (sym (place_tells buckets l b (link_on route i) (slice_index entries i / bucket) bb inside q).1)) (omega (arith, none, adds))
      by (inr (t, other)) z adds =
          let none : cond (nat_eq (link_on route i) l) (cond (nat_eq (slice_index entries i / bucket) b) (f (record { entry = slice_index entries i; time = steps })) 0) 0 ≡ 0 = rw t refl in
          elsewhere (λ q. other (sym (place_tells buckets l b (link_on route i) (slice_index entries i / bucket) bb inside q).0)) (omega (arith, none, adds))

  pub left_more : (i steps : ℕ) (old_sums old_counts sums counts : List ℕ) → length entries ≤ length route → i < length entries
      → steps ≡ visit_time p (link_on route i) (slice_index entries i) (slice_get (moves_along v route entries arrival) (suc i))
      → slice_index entries i / bucket < buckets
      → place_in buckets (link_on route i) (slice_index entries i / bucket) < length sums → length counts ≡ length sums
      → AreLeft p bucket buckets (moves_along v route entries arrival) (drop i (moves_along v route entries arrival)) old_sums old_counts sums counts
      → AreLeft p bucket buckets (moves_along v route entries arrival) (drop (suc i) (moves_along v route entries arrival)) old_sums old_counts
      (slice_set sums (place_in buckets (link_on route i) (slice_index entries i / bucket)) (get_or sums (place_in buckets (link_on route i) (slice_index entries i / bucket)) 0 + steps))
      (slice_set counts (place_in buckets (link_on route i) (slice_index entries i / bucket)) (get_or counts (place_in buckets (link_on route i) (slice_index entries i / bucket)) 0 + 1))
  unfolding total number
  left_more i steps old_sums old_counts sums counts w h e inside place many had = record {
    sum_left = λ l b hl hb. one_more (λ x. x.time) sums i l b steps steps w h e refl inside hb place ∙ had.sum_left l b hl hb;
    count_left = λ l b hl hb. one_more (λ x. 1) counts i l b steps 1 w h e refl inside hb (omega (arith, many, place)) ∙ had.count_left l b hl hb;
  }

  pub left_last : (old_sums old_counts sums counts : List ℕ) → length entries ≤ length route
      → AreLeft p bucket buckets (moves_along v route entries arrival) (drop (length entries) (moves_along v route entries arrival)) old_sums old_counts sums counts
      → AreAdded p bucket buckets (moves_along v route entries arrival) old_sums old_counts sums counts
  unfolding total number
  left_last old_sums old_counts sums counts w had = record {
    sum_grew = λ l b hl hb. let a = had.sum_left l b hl hb in let z = nothing (λ x. x.time) l b in omega (arith, a, z);
    count_grew = λ l b hl hb. let a = had.count_left l b hl hb in let z = nothing (λ x. 1) l b in omega (arith, a, z);
  }
    where
      out : (f : Visit → ℕ) (l b : ℕ) (o : Option ℕ) → sum_in f p bucket l b (option_to_list (out_in v o)) ≡ 0
      out f l b None = sum_in-none f p bucket l b
      out f l b (Some s) = sum_in-more f p bucket l b (record { step = s; vehicle = v; target = Arrived }) [] ∙ ap (λ k. 0 + k) (sum_in-none f p bucket l b)

      nothing : (f : Visit → ℕ) (l b : ℕ) → sum_in f p bucket l b (drop (length entries) (moves_along v route entries arrival)) ≡ 0
      nothing f l b = ap (λ L. sum_in f p bucket l b L) (along_last v route entries arrival w) ∙ out f l b arrival

-- bounds of sums and numbers
pub within_more : (sums counts : List ℕ) (place steps most : ℕ) → AreWithin most sums counts → place < length sums → length counts ≡ length sums → 1 ≤ steps → steps ≤ MOST_HORIZON
    → AreWithin (most + 1) (slice_set sums place (get_or sums place 0 + steps)) (slice_set counts place (get_or counts place 0 + 1))
within_more sums counts place steps most had inside many least low = record {
  few = λ q. let x = each q in x.0;
  long = λ q. let x = each q in x.1.0;
  short = λ q. let x = each q in x.1.1;
}
  where
    each : (q : ℕ) → (get_or (slice_set counts place (get_or counts place 0 + 1)) q 0 ≤ most + 1)
        × ((get_or (slice_set counts place (get_or counts place 0 + 1)) q 0 ≤ get_or (slice_set sums place (get_or sums place 0 + steps)) q 0)
        × (get_or (slice_set sums place (get_or sums place 0 + steps)) q 0 ≤ get_or (slice_set counts place (get_or counts place 0 + 1)) q 0 * MOST_HORIZON))
    each q = by (eqb_tells q place) (had.few q) (had.long q) (had.short q)
      where
        by : ((eqb q place ≡ true) × (q ≡ place)) ⊎ ((eqb q place ≡ false) × (q ≢ place)) → slice_index counts q ≤ most → slice_index counts q ≤ slice_index sums q → slice_index sums q ≤ slice_index counts q * MOST_HORIZON
            → (get_or (slice_set counts place (get_or counts place 0 + 1)) q 0 ≤ most + 1)
            × ((get_or (slice_set counts place (get_or counts place 0 + 1)) q 0 ≤ get_or (slice_set sums place (get_or sums place 0 + steps)) q 0)
            × (get_or (slice_set sums place (get_or sums place 0 + steps)) q 0 ≤ get_or (slice_set counts place (get_or counts place 0 + 1)) q 0 * MOST_HORIZON))
        by (inl (t, same)) a b c =
            let s = grown_at sums place steps q same inside in
            let k = grown_at counts place 1 q same (omega (arith, many, inside)) in
            (omega (arith, k, a), (omega (arith, s, k, b, least), omega (arith, s, k, c, low)))
        by (inr (t, other)) a b c =
            let s = grown_other sums place steps q other in
            let k = grown_other counts place 1 q other in
            (omega (arith, k, a), (omega (arith, s, k, b), omega (arith, s, k, c)))

-- one round of the loop
pub journey_step : (p : Plan) (bucket buckets v : ℕ) (route : List LinkNo) (entries : List ℕ) (arrival : Option ℕ) (i n steps place most : ℕ) (d : LinkNo) (old_sums old_counts sums counts new_sums new_counts : List ℕ)
    → n ≡ suc i → length entries ≤ length route → i < length entries
    → steps ≡ visit_time p (link_on route i) (slice_index entries i) (slice_get (moves_along v route entries arrival) (suc i))
    → 1 ≤ steps → steps ≤ MOST_HORIZON
    → place ≡ place_in buckets (get_or route i d).0 (slice_index entries i / bucket) → slice_index entries i / bucket < buckets → place < length sums → length counts ≡ length sums
    → new_sums ≡ slice_set sums place (get_or sums place 0 + steps) → new_counts ≡ slice_set counts place (get_or counts place 0 + 1)
    → AreLeft p bucket buckets (moves_along v route entries arrival) (drop i (moves_along v route entries arrival)) old_sums old_counts sums counts → AreWithin most sums counts
    → AreLeft p bucket buckets (moves_along v route entries arrival) (drop n (moves_along v route entries arrival)) old_sums old_counts new_sums new_counts × AreWithin (most + 1) new_sums new_counts
journey_step p bucket buckets v route entries arrival i n steps place most d old_sums old_counts sums counts new_sums new_counts en w h e least low at inside within many ns nc had bound =
    let here : place ≡ place_in buckets (link_on route i) (slice_index entries i / bucket) = at ∙ ap (λ l. place_in buckets l (slice_index entries i / bucket)) (on_route route i d (omega (arith, w, h))) in
    let left = left_more p bucket buckets v route entries arrival i steps old_sums old_counts sums counts w h e inside (subst (λ k. k < length sums) here within) many had in
    let moved = subst (λ k. AreLeft p bucket buckets (moves_along v route entries arrival) (drop (suc i) (moves_along v route entries arrival)) old_sums old_counts (slice_set sums k (get_or sums k 0 + steps)) (slice_set counts k (get_or counts k 0 + 1))) (sym here) left in
    let more = within_more sums counts place steps most bound within many least low in (
      subst (λ k. AreLeft p bucket buckets (moves_along v route entries arrival) (drop k (moves_along v route entries arrival)) old_sums old_counts new_sums new_counts) (sym en)
          (subst (λ s. AreLeft p bucket buckets (moves_along v route entries arrival) (drop (suc i) (moves_along v route entries arrival)) old_sums old_counts s new_counts) (sym ns)
          (subst (λ k. AreLeft p bucket buckets (moves_along v route entries arrival) (drop (suc i) (moves_along v route entries arrival)) old_sums old_counts (slice_set sums place (get_or sums place 0 + steps)) k) (sym nc) moved)),
      subst (λ s. AreWithin (most + 1) s new_counts) (sym ns) (subst (λ k. AreWithin (most + 1) (slice_set sums place (get_or sums place 0 + steps)) k) (sym nc) more),
    )
