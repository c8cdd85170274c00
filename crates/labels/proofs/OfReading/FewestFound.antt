-- How a search begins, goes over to links more, and what it finds.
use Rattle.std.proofs.Common.{◌≡◌, ◌⊎◌, inl, inr, ℕ, zero, suc, ◌+◌, ◌-◌, ◌≤◌, ◌<◌, Bool, true, false, cond, List, [], ◌∷◌, ◌++◌, length, refl, ap, sym, ◌∙◌, subst, arith, Option, Some, None}
use Rattle.std.specs.Prelude.{slice_get, nat_eq, ◌||◌}
use Rattle.std.proofs.lemmas.Bool.{cases_lt}
use Rattle.std.proofs.lemmas.Option.{slice_get_within}
use Rattle.std.proofs.lemmas.List.{append-nil, length-append}
use Rattle.net_core.specs.declared.rows.NetRows.{NetRows}
use Rattle.labels.specs.declared.states.router.Router.{Router}
use Rattle.labels.specs.declared.reading.reached.Reached.{Reached}
use Rattle.labels.specs.Reading.FirstLinks.{AreFirsts, first_label}
use Rattle.labels.specs.Reading.Paths.{Ways, later, lex_le, path_after, path_time, IsLeastPath, IsFewestPath}
use Rattle.labels.specs.Reading.Fewest.{Before, StrictlyBefore, path_to, AreStarted}
use Rattle.labels.specs.Reading.Searches.{onward, is_among, IsBegun, Leads, IsSearched, FirstEnds}
use Rattle.labels.specs.Reading.Serves.{label_in, Serves}
use Rattle.labels.specs.States.RouterWays.{is_own, state_of}
use Rattle.labels.specs.States.Routers.{ways_to}
use Rattle.labels.proofs.Basics.{some_same, same_true, equal_of}
use Rattle.labels.proofs.OfReading.LabelFacts.{no_less}
use Rattle.labels.proofs.OfReading.FewestOrder.{before_refl, before_trans, before_length, strictly_before, strictly_number}
use Rattle.labels.proofs.OfReading.FewestPaths.{path_first, get_some}
use Rattle.labels.proofs.OfReading.FewestTight.{after_is, later_some, at_end, labels_fit, label_says, left_at_end}
use Rattle.labels.proofs.OfReading.FewestSearch.{own_at_end, moved, never}

or_true : (a b : Bool) → b ≡ true → (a || b) ≡ true
or_true a b h = grind arith

or_cases : (a b : Bool) → (a || b) ≡ true → (a ≡ true) ⊎ (b ≡ true)
or_cases true b h = inl refl
or_cases false b h = inr h

begins_with : (b : Bool) (o : Option ℕ) (x : ℕ) → cond b o None ≡ Some x → (b ≡ true) × (o ≡ Some x)
begins_with true o x h = (refl, h)
begins_with false o x h = absurd (cc)

same_first : (a b : List ℕ) → length b ≡ length a → Before a b → lex_le a b ≡ true
same_first a b n (inl h) = absurd (omega arith)
same_first a b n (inr h) = h.1

-- a link is in a list where it stands at a place of it
pub among_at : (xs : List ℕ) (k l : ℕ) → slice_get xs k ≡ Some l → is_among xs l ≡ true
among_at [] k l h = absurd (cc)
among_at (x ∷ xs) zero l h = let same : x ≡ l = some_same x l h in let t = same_true x l same in rw t refl
among_at (x ∷ xs) (suc k) l h = or_true (nat_eq x l) (is_among xs l) (among_at xs k l h)

pub place_among : (xs : List ℕ) (l : ℕ) → is_among xs l ≡ true → (k : ℕ) × (slice_get xs k ≡ Some l)
place_among [] l h = absurd (cc)
place_among (x ∷ xs) l h = by (or_cases (nat_eq x l) (is_among xs l) h) (place_among xs l)
  where
    by : (nat_eq x l ≡ true) ⊎ (is_among xs l ≡ true) → (is_among xs l ≡ true → (k : ℕ) × (slice_get xs k ≡ Some l)) → (k : ℕ) × (slice_get (x ∷ xs) k ≡ Some l)
    by (inl a) ih = (zero, ap (λ n. Some n) (equal_of x l a))
    by (inr a) ih = let d = ih a in (suc (d.0), d.1)

pub among_firsts : (firsts : List ℕ) → AreFirsts (is_among firsts) firsts
among_firsts firsts = record { listed = place_among firsts; starts = λ k l e. among_at firsts k l e }

pub same_begins : (begins : ℕ → Bool) (firsts : List ℕ) → AreFirsts begins firsts → (l : ℕ) → begins l ≡ is_among firsts l
same_begins begins firsts are l = by (begins l) (is_among firsts l) refl refl
  where
    by : (a b : Bool) → begins l ≡ a → is_among firsts l ≡ b → a ≡ b
    by true true e h = refl
    by false false e h = refl
    by true false e h = let d = are.listed l e in absurd (let t = among_at firsts (d.0) l (d.1) in cc)
    by false true e h = let d = place_among firsts l h in absurd (let t = are.starts (d.0) l (d.1) in cc)

module _ (g : Ways) (enter : ℕ → ℕ → ℕ) (begins : ℕ → Bool) (firsts : List ℕ) (are : AreFirsts begins firsts) (s : ℕ) where
  -- walks that begin with the links of the list
  pub same_time : (walk : List ℕ) → path_time g enter begins s walk ≡ path_time g enter (is_among firsts) s walk
  unfolding path_time
  same_time [] = refl
  same_time (l ∷ others) = ap (λ b. cond b (later (enter l s - s) (path_after g l (enter l s) others)) None) (same_begins begins firsts are l)

  pub fewest_begins : (w : List ℕ) → IsFewestPath g enter (is_among firsts) s w → IsFewestPath g enter begins s w
  fewest_begins w f = record {
    least = (
      f.least.0,
      record {
        some_walk = (f.least.1.some_walk.0, same_time (f.least.1.some_walk.0) ∙ f.least.1.some_walk.1);
        no_less = λ walk k e. f.least.1.no_less walk k (sym (same_time walk) ∙ e);
      },
      same_time w ∙ f.least.2,
    );
    fewest = λ walk e. f.fewest walk (sym (same_time walk) ∙ e ∙ same_time w);
    first = λ walk e n. f.first walk (sym (same_time walk) ∙ e ∙ same_time w) n;
  }

module _ (net : NetRows) (zone : ℕ) (at rest : ℕ → ℕ → ℕ) (r : Router) (v : Serves net zone at rest r) (enter : ℕ → ℕ → ℕ) (firsts : List ℕ) (s m : ℕ) where
  abbrev Searched : List Reached → ℕ → ℕ → ℕ → Type 0
  Searched = IsSearched (ways_to at net zone) rest r enter firsts s m

  abbrev Begun : List ℕ → Reached → Type 0
  Begun = IsBegun (ways_to at net zone) rest r enter firsts s m

  abbrev LeadsFrom : List Reached → ℕ → List ℕ → Type 0
  LeadsFrom = Leads (ways_to at net zone) rest r enter firsts s m

  abbrev Takes : List ℕ → Type 0
  Takes walk = path_time (ways_to at net zone) enter (is_among firsts) s walk ≡ Some m

  -- all places of so many links are done: those of one link more come next
  pub searched_next : (reached : List Reached) (next count : ℕ) → Searched reached next next count → Searched reached next (length reached) (count + 1)
  searched_next reached next count S = record {
    within = (S.within.1, omega arith);
    begun = S.begun;
    earlier = λ i k. by_earlier i k (cases_lt i next);
    here = λ i k l. S.later_ones i k l;
    later_ones = λ i k l. absurd (omega arith);
    sorted = S.sorted;
    coming = λ i j c k l n. inl (let few = by_earlier i k (cases_lt i next) in let many = S.later_ones j l n in let more = length-append (path_to reached j) (c ∷ []) in omega (arith, few, many, more));
    leads = S.leads;
  }
    where
      by_earlier : (i : ℕ) → i < length reached → (i < next) ⊎ (next ≤ i) → length (path_to reached i) ≤ count + 1
      by_earlier i k (inl a) = let e = S.earlier i a in omega (arith, e)
      by_earlier i k (inr a) = let e = S.later_ones i a k in omega (arith, e)

  -- a place that leads on has at least so many links, and no more than the time allows
  long_enough : (reached : List Reached) (head next count i : ℕ) → Searched reached head next count → head ≤ i → i < length reached → (i < next) ⊎ (next ≤ i) → count ≤ length (path_to reached i)
  long_enough reached head next count i S k l (inl a) = let e = S.here i k a in omega (arith, e)
  long_enough reached head next count i S k l (inr a) = let e = S.later_ones i a l in omega (arith, e)

  pub count_small : (reached : List Reached) (head next count : ℕ) (walk : List ℕ) → Searched reached head next count → Takes walk → count ≤ m
  count_small reached head next count walk S takes =
      let d = S.leads walk takes in
      let b = S.begun (d.0) (d.1) (d.3) in
      let short = b.short in
      let long = long_enough reached head next count (d.0) S (d.4) (slice_get_within reached (d.0) (d.1) (d.3)) (cases_lt (d.0) next) in
      omega (arith, short, long)

  -- the first place of so many links that ends in the zone has the walk
  module _ (reached : List Reached) (head next count place : ℕ) (S : Searched reached head next count) (f : FirstEnds r zone reached head next (Some place)) where
    inside : place < length reached
    inside = let w = S.within in let n = f.1 in omega (arith, w.1, n)

    takes_it : Takes (path_to reached place)
    takes_it =
        let q = get_some reached place inside in
        let b = S.begun place (q.0) (q.1) in
        let own = f.3 (q.0) (q.1) in
        let ends : (ways_to at net zone).ends q.0.link ≡ true = sym (v.routes.turns.ends q.0.link b.link) ∙ ap (λ n. is_own r zone n) (sym b.state) ∙ own in
        let left : rest q.0.state q.0.step ≡ 0 = ap (λ n. rest n q.0.step) b.state ∙ left_at_end net zone at rest r v q.0.link q.0.step ends in
        subst (λ p. Takes p) (append-nil (path_to reached place)) (b.goes [] (at_end (ways_to at net zone) q.0.link q.0.step ends ∙ ap (λ n. Some n) (sym left)))

    not_after : (walk : List ℕ) (i : ℕ) (q : Reached) (others : List ℕ) → slice_get reached i ≡ Some q → head ≤ i → onward (ways_to at net zone) q.link q.step others ≡ Some (rest q.state q.step) → Before (path_to reached i ++ others) walk → Before (path_to reached place) walk
    not_after walk i q [] e from on before = before_trans (path_to reached place) (path_to reached i) walk (by (cases_lt place i) (cases_lt i place)) (subst (λ p. Before p walk) (append-nil (path_to reached i)) before)
      where
        by : (place < i) ⊎ (i ≤ place) → (i < place) ⊎ (place ≤ i) → Before (path_to reached place) (path_to reached i)
        by (inl a) b = strictly_before (path_to reached place) (path_to reached i) (S.sorted place i a (slice_get_within reached i q e))
        by (inr a) (inl b) = absurd (never (is_own r zone q.state) (own_at_end net zone at rest r v enter firsts s m (path_to reached i) q (S.begun i q e) on) (f.2 i q from b e))
        by (inr a) (inr b) = let same : place ≡ i = omega arith in subst (λ n. Before (path_to reached place) (path_to reached n)) same (before_refl (path_to reached place))
    not_after walk i q (c ∷ others) e from on before =
        let here = S.here place (f.0) (f.1) in
        let long = long_enough reached head next count i S from (slice_get_within reached i q e) (cases_lt i next) in
        let more = length-append (path_to reached i) (c ∷ others) in
        before_trans (path_to reached place) (path_to reached i ++ c ∷ others) walk (inl (omega (arith, here, long, more))) before

    comes : (walk : List ℕ) → Takes walk → Before (path_to reached place) walk
    comes walk t = let d = S.leads walk t in not_after walk (d.0) (d.1) (d.2) (d.3) (d.4) (d.5) (d.6)

    pub fewest_is : IsLeastPath (ways_to at net zone) enter (is_among firsts) s m → IsFewestPath (ways_to at net zone) enter (is_among firsts) s (path_to reached place)
    fewest_is least = record {
      least = (m, least, takes_it);
      fewest = λ walk e. before_length (path_to reached place) walk (comes walk (e ∙ takes_it));
      first = λ walk e n. same_first (path_to reached place) walk n (comes walk (e ∙ takes_it));
    }

  -- the list of first links begins a search
  module _ (reached : List Reached) (a : AreStarted at (label_in at rest r) enter (state_of r) firsts s m (length firsts) reached)
      (low : (k l x : ℕ) → slice_get firsts k ≡ Some l → first_label enter (label_in at rest r) s l ≡ Some x → m ≤ x) where
    path_here : (i : ℕ) (q : Reached) → slice_get reached i ≡ Some q → path_to reached i ≡ q.link ∷ []
    path_here i q e = let x = a.added i q e in path_first reached i q e (x.0)

    left_first : (i : ℕ) (q : Reached) → slice_get reached i ≡ Some q → rest q.state q.step ≡ rest (state_of r q.link) (enter q.link s + at q.link (enter q.link s))
    left_first i q e = let x = a.added i q e in ap (λ n. rest n q.step) (x.1) ∙ ap (λ n. rest (state_of r q.link) n) (x.2)

    goes_first : (i : ℕ) (q : Reached) → slice_get reached i ≡ Some q → (others : List ℕ) → onward (ways_to at net zone) q.link q.step others ≡ Some (rest q.state q.step) → Takes (q.link ∷ others)
    unfolding path_time
    goes_first i q e others on =
        let x = a.added i q e in
        let l = q.link in
        let e0 = enter l s in
        let g = ways_to at net zone in
        let first = later_some (e0 - s) m (label_in at rest r l e0) (x.3) in
        let says = label_says net zone at rest r v l e0 (first.0) (first.1) in
        let there = moved g l l q.step (e0 + at l e0) (rest q.state q.step) (rest (state_of r l) (e0 + at l e0)) others refl (x.2) (left_first i q e) on in
        let after : path_after g l e0 others ≡ Some (at l e0 + rest (state_of r l) (e0 + at l e0)) = after_is g l e0 others ∙ ap (λ o. later (at l e0) o) there in
        let sum : (e0 - s) + (at l e0 + rest (state_of r l) (e0 + at l e0)) ≡ m = omega (arith, says.1, first.2) in
        subst (λ b. cond b (later (e0 - s) (path_after g l e0 others)) None ≡ Some m) (sym (among_at firsts (x.4.0) l (x.4.2))) (ap (λ o. later (e0 - s) o) after ∙ ap (λ n. Some n) sum)

    begun_first : (i : ℕ) (q : Reached) → slice_get reached i ≡ Some q → Begun (q.link ∷ []) q
    begun_first i q e =
        let x = a.added i q e in
        let l = q.link in
        let e0 = enter l s in
        let first = later_some (e0 - s) m (label_in at rest r l e0) (x.3) in
        let says = label_says net zone at rest r v l e0 (first.0) (first.1) in
        let left = left_first i q e in
        let takes = v.takes_time l e0 (says.2) in
        record {
          link = says.2;
          state = x.1;
          near = omega (arith, left, says.0);
          soon = omega (arith, left, says.1, x.2, first.2);
          short = omega (arith, left, says.1, first.2, takes);
          goes = λ others on. goes_first i q e others on;
        }

    leads_first : (walk : List ℕ) → Takes walk → LeadsFrom reached 0 walk
    unfolding path_time
    leads_first [] h = absurd (cc)
    leads_first (l ∷ others) h =
        let e0 = enter l s in
        let g = ways_to at net zone in
        let b = begins_with (is_among firsts l) (later (e0 - s) (path_after g l e0 others)) m h in
        let p = later_some (e0 - s) m (path_after g l e0 others) (b.1) in
        let n = no_less g (label_in at rest r) (labels_fit net zone at rest r v) l e0 others (p.0) (p.1) in
        let stands = place_among firsts l (b.0) in
        let all : first_label enter (label_in at rest r) s l ≡ Some ((e0 - s) + n.0) = ap (λ o. later (e0 - s) o) (n.1) in
        let lower = low (stands.0) l ((e0 - s) + n.0) (stands.1) all in
        let same : n.0 ≡ p.0 = omega (arith, lower, n.2, p.2) in
        let sum : (e0 - s) + n.0 ≡ m = omega (arith, same, p.2) in
        let c = a.covers (stands.0) l (slice_get_within firsts (stands.0) l (stands.1)) (stands.1) (all ∙ ap (λ k. Some k) sum) in
        let q = c.1 in
        let says = label_says net zone at rest r v l e0 (n.0) (n.1) in
        let on = later_some (at l e0) (p.0) (onward g l (e0 + at l e0) others) (sym (after_is g l e0 others) ∙ p.1) in
        let x = a.added (c.0) q (c.2) in
        let step : q.step ≡ e0 + at l e0 = x.2 ∙ ap (λ k. enter k s + at k (enter k s)) (c.3) in
        let left : rest q.state q.step ≡ rest (state_of r l) (e0 + at l e0) = left_first (c.0) q (c.2) ∙ ap (λ k. rest (state_of r k) (enter k s + at k (enter k s))) (c.3) in
        let takes : on.0 ≡ rest q.state q.step = omega (arith, left, says.1, same, on.2) in (
          c.0,
          q,
          others,
          c.2,
          omega arith,
          moved g l q.link (e0 + at l e0) q.step (on.0) (rest q.state q.step) others (sym (c.3)) (sym step) takes (on.1),
          subst (λ k. Before (k ++ others) (l ∷ others)) (sym (path_here (c.0) q (c.2) ∙ ap (λ k. k ∷ []) (c.3))) (before_refl (l ∷ others)),
        )

    one_link : (i : ℕ) → i < length reached → length (path_to reached i) ≡ 1
    one_link i k = let q = get_some reached i k in ap (λ p. length p) (path_here i (q.0) (q.1))

    pub searched_first : Searched reached 0 (length reached) 1
    searched_first = record {
      within = (omega arith, omega arith);
      begun = λ i q e. subst (λ p. Begun p q) (sym (path_here i q e)) (begun_first i q e);
      earlier = λ i k. (let o = one_link i k in omega (arith, o));
      here = λ i k l. one_link i l;
      later_ones = λ i k l. absurd (omega arith);
      sorted = λ i j k l. in_order i j k l;
      coming = λ i j c k l n. inl (let o = one_link i k in let p = one_link j n in let more = length-append (path_to reached j) (c ∷ []) in omega (arith, o, p, more));
      leads = leads_first;
    }
      where
        in_order : (i j : ℕ) → i < j → j < length reached → StrictlyBefore (path_to reached i) (path_to reached j)
        in_order i j k l =
            let p = get_some reached i (omega arith) in
            let q = get_some reached j l in
            subst (λ x. StrictlyBefore x (path_to reached j)) (sym (path_here i (p.0) (p.1))) (subst (λ x. StrictlyBefore (p.0.link ∷ []) x) (sym (path_here j (q.0) (q.1)))
            (strictly_number [] p.0.link q.0.link (a.rising i j (p.0) (q.0) k (p.1) (q.1))))
