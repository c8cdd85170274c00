-- Walks as lists of links, and as what the labels say.
use Rattle.std.proofs.Common.{◌≡◌, ℕ, zero, suc, ◌+◌, ◌-◌, ◌<◌, ◌≤◌, Bool, true, false, cond, List, [], ◌∷◌, length, refl, ap, sym, ◌∙◌, subst, arith, Option, Some, None, Ordering, Less, Equal, Greater}
use Rattle.std.specs.Prelude.{◌&&◌, ◌||◌, nat_eq, nat_lt, slice_get, All, IsSome}
use Rattle.std.specs.Cmp.Lexicographic.{slice_cmp}
use Rattle.std.specs.Ordering.{is_le, nat_cmp, ordering_then}
use Rattle.std.proofs.lemmas.Bool.Decides.{nat_tests}
use Rattle.std.proofs.lemmas.List.Elements.{All-cons, All-nil, All-head, All-tail}
use Rattle.std.proofs.lemmas.Bool.{and_parts}
use Rattle.net_core.specs.Network.{turn}
use Rattle.net_core.specs.declared.rows.NetRows.{NetRows}
use Rattle.net_core.specs.declared.rows.Turn.{Turn}
use Rattle.dta_model.specs.Least.{IsLeast, HaveNoWalk, IsChosen}
use Rattle.dta_model.specs.TimedWalks.{penalty_steps, arrival_after}
use Rattle.dta_model.specs.Walks.{IsWalk, begins_in, ends_in}
use Rattle.trip_costs.specs.TripWalks.{IsLeastTrip, IsChosenTrip}
use Rattle.trip_costs.specs.TripCosts.{TravelCosts, by_links, time_by}
use Rattle.trip_costs.proofs.Later.{links_are_the_table}
use Rattle.labels.specs.Named.{zone_named}
use Rattle.labels.specs.Reading.Paths.{later, path_after, path_time, IsLeastPath, IsChosenPath, IsFewestPath, lex_le}
use Rattle.labels.specs.States.Routers.{wait_of, wait_between, begins_from, ends_to, ways_to}
use Rattle.labels.proofs.Basics.{after_more, below, is_below, some_same}

-- links that are in the table, with turns between them, the last of which is the first in the zone
record IsOn (net : NetRows) (destination : ℕ) (w : List ℕ) : Type 0 where
  links : All (λ l. l < length net.links) w
  turns : (i a b : ℕ) → slice_get w i ≡ Some a → slice_get w (suc i) ≡ Some b → IsSome (turn net a b)
  ends : (i l : ℕ) → slice_get w i ≡ Some l → ends_in net destination l ≡ nat_eq (suc i) (length w)

both_so : (p q : Bool) → p ≡ true → q ≡ true → (p && q) ≡ true
both_so p q a b = rw (a, b) refl

second_not : (p q : Bool) → q ≡ false → (p && q) ≡ false
second_not true q h = h
second_not false q h = refl

not_second : (p q : Bool) → p ≡ true → (p && q) ≡ false → q ≡ false
not_second p q a h = rw a at h

ended : (b : Bool) (x k : ℕ) → cond b (Some x) None ≡ Some k → (b ≡ true) × (x ≡ k)
ended true x k h = (refl, some_same x k h)
ended false x k h = cc

split : (b : Bool) (way : Option ℕ) (x k : ℕ) (after : ℕ → Option ℕ) → cond b None (elim way as (λ _. Option ℕ) [ None ↦ None | Some wait ↦ later (x + wait) (after wait) ]) ≡ Some k
    → (b ≡ false) × (w : ℕ) × (j : ℕ) × (way ≡ Some w) × (after w ≡ Some j) × (x + w + j ≡ k)
split true way x k after h = cc
split false None x k after h = cc
split false (Some w) x k after h = inner (after w) refl h
  where
    inner : (y : Option ℕ) → after w ≡ y → later (x + w) y ≡ Some k → (false ≡ false) × (u : ℕ) × (j : ℕ) × (Some w ≡ Some u) × (after u ≡ Some j) × (x + u + j ≡ k)
    inner None r q = cc
    inner (Some j) r q = (refl, w, j, refl, r, some_same (x + w + j) k q)

waits : (p q : Bool) (o : Option Turn) (w : ℕ) → cond (p && q) (wait_of o) None ≡ Some w → (p ≡ true) × (q ≡ true) × IsSome o × (penalty_steps o ≡ w)
waits true true None w h = cc
waits true true (Some t) w h = (refl, refl, refl, some_same t.penalty w h)
waits true false o w h = cc
waits false q o w h = cc

waits_so : (p q : Bool) (o : Option Turn) → p ≡ true → q ≡ true → IsSome o → cond (p && q) (wait_of o) None ≡ Some (penalty_steps o)
waits_so p q None a b s = absurd cc
waits_so p q (Some t) a b s = rw (a, b) refl

lex_on : (p q r : Bool) (o : Ordering) → (r ≡ true → is_le o ≡ true) → (p || (q && r)) ≡ true → is_le (ordering_then (cond p Less (cond q Equal Greater)) o) ≡ true
lex_on true q r o f h = refl
lex_on false true r o f h = f h
lex_on false false r o f h = cc

not_last : (n : ℕ) → nat_eq (suc zero) (suc (suc n)) ≡ false
not_last n = grind (arith, nat_tests)

more_eq : (a b : ℕ) → nat_eq (suc a) (suc b) ≡ nat_eq a b
more_eq a b = grind (arith, nat_tests)

module _ (at : ℕ → ℕ → ℕ) (net : NetRows) (zone : ℕ) where
  one_on : (l : ℕ) → l < length net.links → ends_in net (zone_named net zone) l ≡ true → IsOn net (zone_named net zone) (l ∷ [])
  one_on l small h = record {
    links = All-cons (λ x. x < length net.links) l [] small (All-nil (λ x. x < length net.links));
    turns = λ i a b x y. absurd (none_after i b y);
    ends = last_is;
  }
    where
      none_after : (i b : ℕ) → slice_get (l ∷ []) (suc i) ≡ Some b → ⊥
      none_after i b y = cc

      last_is : (i x : ℕ) → slice_get (l ∷ []) i ≡ Some x → ends_in net (zone_named net zone) x ≡ nat_eq (suc i) 1
      last_is zero x e = subst (λ y. ends_in net (zone_named net zone) y ≡ true) (some_same l x e) h
      last_is (suc i) x e = absurd (none_after i x e)

  more_on : (l b : ℕ) (rest : List ℕ) → l < length net.links → ends_in net (zone_named net zone) l ≡ false → IsSome (turn net l b) → IsOn net (zone_named net zone) (b ∷ rest) → IsOn net (zone_named net zone) (l ∷ b ∷ rest)
  more_on l b rest small h t on = record {
    links = All-cons (λ x. x < length net.links) l (b ∷ rest) small on.links;
    turns = turns_are;
    ends = ends_are;
  }
    where
      turns_are : (i x y : ℕ) → slice_get (l ∷ b ∷ rest) i ≡ Some x → slice_get (l ∷ b ∷ rest) (suc i) ≡ Some y → IsSome (turn net x y)
      turns_are zero x y e f = subst (λ u. IsSome (turn net u y)) (some_same l x e) (subst (λ u. IsSome (turn net l u)) (some_same b y f) t)
      turns_are (suc i) x y e f = on.turns i x y e f

      ends_are : (i x : ℕ) → slice_get (l ∷ b ∷ rest) i ≡ Some x → ends_in net (zone_named net zone) x ≡ nat_eq (suc i) (length (l ∷ b ∷ rest))
      ends_are zero x e = subst (λ y. ends_in net (zone_named net zone) y ≡ nat_eq 1 (length (l ∷ b ∷ rest))) (some_same l x e) (h ∙ sym (not_last (length rest)))
      ends_are (suc i) x e = on.ends i x e ∙ sym (more_eq (suc i) (length (b ∷ rest)))

  -- a list with a time goes on to the zone, and arrives in that time
  on_of : (l e : ℕ) (rest : List ℕ) (k : ℕ) → path_after (ways_to at net zone) l e rest ≡ Some k → IsOn net (zone_named net zone) (l ∷ rest) × (arrival_after at net e l rest ≡ e + k)
  unfolding path_after arrival_after ends_to wait_between
  on_of l e [] k h =
      let p = ended (ends_to net zone l) (at l e) k h in
      let q = and_parts (nat_lt l (length net.links)) (ends_in net (zone_named net zone) l) (p.0) in
      (one_on l (below l (length net.links) (q.0)) (q.1), ap (λ x. e + x) (p.1))
  on_of l e (b ∷ rest) k h =
      let s = split (ends_to net zone l) (wait_between net l b) (at l e) k (λ w. path_after (ways_to at net zone) b (e + (at l e + w)) rest) h in
      let w = s.1 in
      let j = s.2 in
      let t = waits (nat_lt l (length net.links)) (nat_lt b (length net.links)) (turn net l b) w (s.3) in
      let ih = on_of b (e + (at l e + w)) rest j (s.4) in
      let step : e + at l e + penalty_steps (turn net l b) ≡ e + (at l e + w) = omega (arith, t.3) in
      let goes : ends_in net (zone_named net zone) l ≡ false = not_second (nat_lt l (length net.links)) (ends_in net (zone_named net zone) l) (t.0) (s.0) in (
        more_on l b rest (below l (length net.links) (t.0)) goes (t.2) (ih.0),
        ap (λ x. arrival_after at net x b rest) step ∙ ih.1 ∙ (omega (arith, s.5)),
      )

  tail_on : (l b : ℕ) (rest : List ℕ) → IsOn net (zone_named net zone) (l ∷ b ∷ rest) → IsOn net (zone_named net zone) (b ∷ rest)
  tail_on l b rest on = record {
    links = All-tail (λ x. x < length net.links) l (b ∷ rest) on.links;
    turns = λ i x y e f. on.turns (suc i) x y e f;
    ends = λ i x e. on.ends (suc i) x e ∙ more_eq (suc i) (length (b ∷ rest));
  }

  -- and a list that goes on to the zone has a time
  time_of : (l e : ℕ) (rest : List ℕ) → IsOn net (zone_named net zone) (l ∷ rest) → (k : ℕ) × (path_after (ways_to at net zone) l e rest ≡ Some k) × (arrival_after at net e l rest ≡ e + k)
  unfolding path_after arrival_after ends_to wait_between
  time_of l e [] on =
      let small = All-head (λ x. x < length net.links) l [] on.links in
      let h : ends_to net zone l ≡ true = both_so (nat_lt l (length net.links)) (ends_in net (zone_named net zone) l) (is_below l (length net.links) small) (on.ends 0 l refl) in
      (at l e, rw h refl, refl)
  time_of l e (b ∷ rest) on =
      let links = on.links in
      let small = All-head (λ x. x < length net.links) l (b ∷ rest) links in
      let next = All-head (λ x. x < length net.links) b rest (All-tail (λ x. x < length net.links) l (b ∷ rest) links) in
      let h : ends_to net zone l ≡ false = second_not (nat_lt l (length net.links)) (ends_in net (zone_named net zone) l) (on.ends 0 l refl ∙ not_last (length rest)) in
      let p = penalty_steps (turn net l b) in
      let t : wait_between net l b ≡ Some p = waits_so (nat_lt l (length net.links)) (nat_lt b (length net.links)) (turn net l b) (is_below l (length net.links) small) (is_below b (length net.links) next) (on.turns 0 l b refl refl) in
      let ih = time_of b (e + (at l e + p)) rest (tail_on l b rest on) in
      let step : e + at l e + p ≡ e + (at l e + p) = omega arith in (
        at l e + p + ih.0,
        rw (h, t, ih.1) refl,
        ap (λ x. arrival_after at net x b rest) step ∙ ih.2 ∙ (omega arith),
      )

  begun : (b : Bool) (o : Option ℕ) (k : ℕ) → cond b o None ≡ Some k → (b ≡ true) × (o ≡ Some k)
  begun true o k h = (refl, h)
  begun false o k h = cc

  module _ (enter : ℕ → ℕ → ℕ) (waits_on : (l s : ℕ) → s ≤ enter l s) (origin : ℕ) where
    abbrev costs : TravelCosts
    costs = record { enter = enter; at = at }

    pub walk_of : (s k : ℕ) (w : List ℕ) → path_time (ways_to at net zone) enter (begins_from net origin) s w ≡ Some k → IsWalk net (zone_named net origin) (zone_named net zone) w × (time_by costs net s w ≡ k)
    unfolding path_time begins_from
    walk_of s k [] h = cc
    walk_of s k (l ∷ rest) h =
        let b = begun (begins_from net origin l) (later (enter l s - s) (path_after (ways_to at net zone) l (enter l s) rest)) k h in
        let q = and_parts (nat_lt l (length net.links)) (begins_in net (zone_named net origin) l) (b.0) in
        let j = after_more (enter l s - s) k (path_after (ways_to at net zone) l (enter l s) rest) (b.1) in
        let on = on_of l (enter l s) rest (j.0) (j.1) in
        let after = waits_on l s in (
          record {
            some = omega arith;
            links = on.0.links;
            begins = q.1;
            turns = on.0.turns;
            ends = on.0.ends;
          },
          omega (arith, on.1, j.2, after),
        )

    pub path_of : (s : ℕ) (w : List ℕ) → IsWalk net (zone_named net origin) (zone_named net zone) w → path_time (ways_to at net zone) enter (begins_from net origin) s w ≡ Some (time_by costs net s w)
    unfolding path_time begins_from
    path_of s [] walk = absurd (let n = walk.some in omega arith)
    path_of s (l ∷ rest) walk =
        let small = All-head (λ x. x < length net.links) l rest walk.links in
        let b : begins_from net origin l ≡ true = both_so (nat_lt l (length net.links)) (begins_in net (zone_named net origin) l) (is_below l (length net.links) small) walk.begins in
        let t = time_of l (enter l s) rest (record { links = walk.links; turns = walk.turns; ends = walk.ends }) in
        let after = waits_on l s in
        let time : enter l s - s + t.0 ≡ arrival_after at net (enter l s) l rest - s = omega (arith, t.2, after) in
        rw b (ap (λ o. later (enter l s - s) o) (t.1) ∙ ap (λ x. Some x) time)

    pub least_walk : (s m : ℕ) → IsLeastPath (ways_to at net zone) enter (begins_from net origin) s m → IsLeastTrip costs net (zone_named net origin) (zone_named net zone) s m
    least_walk s m least =
        let w = walk_of s m (least.some_walk.0) (least.some_walk.1) in
        record {
          some_walk = (least.some_walk.0, w.0, w.1);
          none_less = λ v walk. least.no_less v (time_by costs net s v) (path_of s v walk);
        }

    pub no_walk : (s : ℕ) → ((w : List ℕ) → path_time (ways_to at net zone) enter (begins_from net origin) s w ≡ None) → HaveNoWalk net (zone_named net origin) (zone_named net zone)
    no_walk s none w walk = let p = path_of s w walk in let q = none w in cc

    pub lex_is : (xs ys : List ℕ) → lex_le xs ys ≡ true → is_le (slice_cmp nat_cmp xs ys) ≡ true
    lex_is [] [] h = refl
    lex_is [] (y ∷ ys) h = refl
    lex_is (x ∷ xs) [] h = cc
    lex_is (x ∷ xs) (y ∷ ys) h = lex_on (nat_lt x y) (nat_eq x y) (lex_le xs ys) (slice_cmp nat_cmp xs ys) (lex_is xs ys) h

    none_faster : (s m : ℕ) (w : List ℕ) → IsLeastPath (ways_to at net zone) enter (begins_from net origin) s m → time_by costs net s w ≡ m → (v : List ℕ) → IsWalk net (zone_named net origin) (zone_named net zone) v → time_by costs net s w ≤ time_by costs net s v
    none_faster s m w least of v walk = let n = least.no_less v (time_by costs net s v) (path_of s v walk) in omega (arith, n, of)

    same_time : (s : ℕ) (w v : List ℕ) → IsWalk net (zone_named net origin) (zone_named net zone) w → IsWalk net (zone_named net origin) (zone_named net zone) v → time_by costs net s v ≡ time_by costs net s w
        → path_time (ways_to at net zone) enter (begins_from net origin) s v ≡ path_time (ways_to at net zone) enter (begins_from net origin) s w
    same_time s w v of walk same = path_of s v walk ∙ ap (λ x. Some x) same ∙ sym (path_of s w of)

    -- the walk that comes first of those with the fewest links
    pub fewest_walk : (s : ℕ) (w : List ℕ) → IsFewestPath (ways_to at net zone) enter (begins_from net origin) s w → IsChosenTrip costs net (zone_named net origin) (zone_named net zone) s w
    fewest_walk s w chosen =
        let of = walk_of s (chosen.least.0) w (chosen.least.2) in
        record {
          walks = of.0;
          none_less = none_faster s (chosen.least.0) w (chosen.least.1) (of.1);
          fewest = λ v walk same. chosen.fewest v (same_time s w v (of.0) walk same);
          first = λ v walk same few. lex_is w v (chosen.first v (same_time s w v (of.0) walk same) few);
        }

  -- by link times the walk that comes first of all
  module _ (origin : ℕ) where
    pub chosen_walk : (s : ℕ) (w : List ℕ) → IsChosenPath (ways_to at net zone) (λ l s. s) (begins_from net origin) s w → IsChosen at net (zone_named net origin) (zone_named net zone) s w
    chosen_walk s w chosen =
        let of = walk_of (λ l s. s) (λ l s. omega arith) origin s (chosen.least.0) w (chosen.least.2) in
        record {
          walks = of.0;
          none_less = λ v walk. (
              let n = none_faster (λ l s. s) (λ l s. omega arith) origin s (chosen.least.0) w (chosen.least.1) (of.1) v walk in
              let x = links_are_the_table at net s w in
              let y = links_are_the_table at net s v in
              omega (arith, n, x, y));
          first = λ v walk same. (
              let x = links_are_the_table at net s w in
              let y = links_are_the_table at net s v in
              lex_is (λ l s. s) (λ l s. omega arith) origin w v (chosen.first v (same_time (λ l s. s) (λ l s. omega arith) origin s w v (of.0) walk (y ∙ same ∙ sym x))));
        }

    pub least_by_links : (s m : ℕ) → IsLeastTrip (by_links at) net (zone_named net origin) (zone_named net zone) s m → IsLeast at net (zone_named net origin) (zone_named net zone) s m
    least_by_links s m least =
        let w = least.some_walk.0 in
        record {
          some_walk = (w, least.some_walk.1, sym (links_are_the_table at net s w) ∙ least.some_walk.2);
          none_less = λ v walk. subst (λ n. m ≤ n) (links_are_the_table at net s v) (least.none_less v walk);
        }
