-- A search that goes on from one place more.
use Rattle.std.proofs.Common.{◌≡◌, ◌⊎◌, inl, inr, ℕ, zero, suc, ◌+◌, ◌≤◌, ◌<◌, Bool, true, false, List, [], ◌∷◌, ◌++◌, length, refl, ap, sym, ◌∙◌, subst, arith, Some, append_assoc}
use Rattle.std.specs.Prelude.{slice_get}
use Rattle.std.proofs.lemmas.Bool.{cases_lt}
use Rattle.std.proofs.lemmas.Option.{slice_get_within}
use Rattle.std.proofs.lemmas.List.{length-append}
use Rattle.net_core.specs.declared.rows.NetRows.{NetRows}
use Rattle.labels.specs.declared.states.onward.Onward.{Onward}
use Rattle.labels.specs.declared.states.router.Router.{Router}
use Rattle.labels.specs.declared.reading.reached.Reached.{Reached}
use Rattle.labels.specs.Filling.Labels.{far}
use Rattle.labels.specs.Filling.Rests.{span, over}
use Rattle.labels.specs.Reading.Paths.{Ways, path_time}
use Rattle.labels.specs.Reading.Fewest.{Before, StrictlyBefore, path_to, IsGoneOn}
use Rattle.labels.specs.Reading.Searches.{onward, is_among, IsBegun, Leads, IsSearched, NoneEnds}
use Rattle.labels.specs.Reading.Serves.{Serves}
use Rattle.labels.specs.States.RouterWays.{is_own, onwards, state_of}
use Rattle.labels.specs.States.Routers.{ways_to}
use Rattle.labels.proofs.Basics.{some_same}
use Rattle.labels.proofs.OfReading.FewestOrder.{before_refl, before_trans, before_append, before_length, strictly_before, strictly_further, strictly_number}
use Rattle.labels.proofs.OfReading.FewestPaths.{path_more, path_kept, get_kept, get_within, get_some}
use Rattle.labels.proofs.OfReading.FewestTight.{carried, ends_by, IsTight, over_is, tight_by, tight_back}

pub moved : (g : Ways) (l k t e x y : ℕ) (others : List ℕ) → l ≡ k → t ≡ e → x ≡ y → onward g l t others ≡ Some x → onward g k e others ≡ Some y
moved g l k t e x y others a b c h = sym (ap (λ n. onward g n t others) a ∙ ap (λ n. onward g k n others) b) ∙ h ∙ ap (λ n. Some n) c

pub never : (a : Bool) → a ≡ true → a ≡ false → ⊥
never a h k = cc

module _ (net : NetRows) (zone : ℕ) (at rest : ℕ → ℕ → ℕ) (r : Router) (v : Serves net zone at rest r) (enter : ℕ → ℕ → ℕ) (firsts : List ℕ) (s m : ℕ) where
  abbrev Searched : List Reached → ℕ → ℕ → ℕ → Type 0
  Searched = IsSearched (ways_to at net zone) rest r enter firsts s m

  abbrev Begun : List ℕ → Reached → Type 0
  Begun = IsBegun (ways_to at net zone) rest r enter firsts s m

  abbrev LeadsFrom : List Reached → ℕ → List ℕ → Type 0
  LeadsFrom = Leads (ways_to at net zone) rest r enter firsts s m

  abbrev Takes : List ℕ → Type 0
  Takes walk = path_time (ways_to at net zone) enter (is_among firsts) s walk ≡ Some m

  -- where what is left is nothing, the link ends in the zone
  pub own_at_end : (path : List ℕ) (q : Reached) → Begun path q → onward (ways_to at net zone) q.link q.step [] ≡ Some (rest q.state q.step) → is_own r zone q.state ≡ true
  own_at_end path q b o = ap (λ n. is_own r zone n) b.state ∙ v.routes.turns.ends q.link b.link ∙ ends_by (ways_to at net zone) q.link q.step (rest q.state q.step) o

  -- its state is there
  pub state_within : (path : List ℕ) (q : Reached) → Begun path q → q.state < length r.zones.items
  state_within path q b = subst (λ n. n < length r.zones.items) (sym b.state) (v.routes.turns.narrow q.link b.link)

  module _ (old new : List Reached) (head next count : ℕ) (h : Reached) (S : Searched old head next count) (stands : slice_get old head ≡ Some h) (low : head < next) (out : is_own r zone h.state ≡ false)
      (G : IsGoneOn at far rest head h.step (rest h.state h.step) (onwards r h.state) (length (onwards r h.state)) old new) where
    here : Begun (path_to old head) h
    here = S.begun head h stands

    head_within : head < length old
    head_within = slice_get_within old head h stands

    grown : length old ≤ length new
    grown = let n = length-append old (G.kept.0) in let l : length new ≡ length (old ++ G.kept.0) = ap (λ xs. length xs) (G.kept.1) in omega (arith, n, l)

    kept_path : (i : ℕ) → i < length old → path_to new i ≡ path_to old i
    kept_path i k = ap (λ xs. path_to xs i) (G.kept.1) ∙ path_kept old (G.kept.0) i k

    kept_get : (i : ℕ) (q : Reached) → slice_get old i ≡ Some q → slice_get new i ≡ Some q
    kept_get i q e = ap (λ xs. slice_get xs i) (G.kept.1) ∙ get_kept old (G.kept.0) i q e

    old_get : (i : ℕ) (q : Reached) → i < length old → slice_get new i ≡ Some q → slice_get old i ≡ Some q
    old_get i q k e = sym (get_within old (G.kept.0) i k) ∙ sym (ap (λ xs. slice_get xs i) (G.kept.1)) ∙ e

    new_path : (i : ℕ) (q : Reached) → length old ≤ i → slice_get new i ≡ Some q → path_to new i ≡ path_to old head ++ q.link ∷ []
    new_path i q k e =
        let a = G.added i q k e in
        let inside = head_within in
        let before : q.before < i = omega (arith, a.0, inside) in
        path_more new i q e before ∙ ap (λ p. p ++ q.link ∷ []) (ap (λ n. path_to new n) (a.0) ∙ kept_path head inside)

    tight_of : (k : ℕ) (w : Onward) → slice_get (onwards r h.state) k ≡ Some w → over at far rest h.step w ≡ rest h.state h.step → IsTight net zone at rest r v h.link h.step k w
    tight_of k w e o = record { stands = ap (λ n. slice_get (onwards r n) k) (sym here.state) ∙ e; tight = o ∙ ap (λ n. rest n h.step) here.state }

    goes_out : (ways_to at net zone).ends h.link ≡ false
    goes_out = sym (v.routes.turns.ends h.link here.link) ∙ ap (λ n. is_own r zone n) (sym here.state) ∙ out

    begun_by : (q : Reached) (k : ℕ) (w : Onward) → slice_get (onwards r h.state) k ≡ Some w → over at far rest h.step w ≡ rest h.state h.step → q.link ≡ w.link → q.state ≡ w.to → q.step ≡ h.step + span at h.step w → Begun (path_to old head ++ q.link ∷ []) q
    begun_by q k w e o link state step =
        let tight = tight_of k w e o in
        let a = v.routes.turns.allowed h.link k w here.link tight.stands in
        let i = v.routes.turns.turn_within h.link w.link w.wait (a.0) in
        let takes = v.takes_time w.link (h.step + w.wait) (i.1) in
        let sum = over_is net zone at rest r v h.step w in
        let left : rest q.state q.step ≡ rest w.to (h.step + span at h.step w) = ap (λ n. rest n q.step) state ∙ ap (λ n. rest w.to n) step in
        let more = length-append (path_to old head) (q.link ∷ []) in
        let near = here.near in
        let soon = here.soon in
        let short = here.short in
        record {
          link = subst (λ n. n < length r.states.items) (sym link) (i.1);
          state = state ∙ a.1 ∙ ap (λ n. state_of r n) (sym link);
          near = omega (arith, left, sum, o, near);
          soon = omega (arith, left, sum, o, soon, step);
          short = omega (arith, left, sum, o, short, more, takes);
          goes = goes tight left;
        }
      where
        goes : IsTight net zone at rest r v h.link h.step k w → rest q.state q.step ≡ rest w.to (h.step + span at h.step w) → (others : List ℕ) → onward (ways_to at net zone) q.link q.step others ≡ Some (rest q.state q.step) → Takes ((path_to old head ++ q.link ∷ []) ++ others)
        goes tight left others time =
            let there = moved (ways_to at net zone) q.link w.link q.step (h.step + span at h.step w) (rest q.state q.step) (rest w.to (h.step + span at h.step w)) others link step left time in
            let back = tight_back net zone at rest r v h.link h.step k w others here.link goes_out tight there in
            let from_here : onward (ways_to at net zone) h.link h.step (q.link ∷ others) ≡ Some (rest h.state h.step) = ap (λ n. onward (ways_to at net zone) h.link h.step (n ∷ others)) link ∙ back ∙ ap (λ n. Some (rest n h.step)) (sym here.state) in
            ap (λ p. path_time (ways_to at net zone) enter (is_among firsts) s p) (append_assoc (path_to old head) (q.link ∷ []) others) ∙ here.goes (q.link ∷ others) from_here

    begun_new : (i : ℕ) (q : Reached) → slice_get new i ≡ Some q → (i < length old) ⊎ (length old ≤ i) → Begun (path_to new i) q
    begun_new i q e (inl k) = subst (λ p. Begun p q) (sym (kept_path i k)) (S.begun i q (old_get i q k e))
    begun_new i q e (inr k) =
        let a = G.added i q k e in
        subst (λ p. Begun p q) (sym (new_path i q k e)) (begun_by q (a.1.0) (a.1.1) (a.1.3) (a.1.4) (a.1.5) (a.1.6) (a.1.7))

    new_length : (i : ℕ) → i < length new → length old ≤ i → length (path_to new i) ≡ count + 1
    new_length i k l =
        let q = get_some new i k in
        let p : length (path_to new i) ≡ length (path_to old head ++ q.0.link ∷ []) = ap (λ p. length p) (new_path i (q.0) l (q.1)) in
        let more = length-append (path_to old head) (q.0.link ∷ []) in
        let was = S.here head (omega arith) low in
        omega (arith, p, more, was)

    same_length : (i : ℕ) → i < length old → length (path_to new i) ≡ length (path_to old i)
    same_length i k = ap (λ p. length p) (kept_path i k)

    later_new : (i : ℕ) → next ≤ i → i < length new → (i < length old) ⊎ (length old ≤ i) → length (path_to new i) ≡ count + 1
    later_new i k l (inl o) = same_length i o ∙ S.later_ones i k o
    later_new i k l (inr o) = new_length i l o

    sorted_new : (i j : ℕ) → i < j → j < length new → (i < length old) ⊎ (length old ≤ i) → (j < length old) ⊎ (length old ≤ j) → StrictlyBefore (path_to new i) (path_to new j)
    sorted_new i j less inside (inl a) (inl b) = subst (λ p. StrictlyBefore p (path_to new j)) (sym (kept_path i a)) (subst (λ p. StrictlyBefore (path_to old i) p) (sym (kept_path j b)) (S.sorted i j less b))
    sorted_new i j less inside (inl a) (inr b) =
        let q = get_some new j inside in
        subst (λ p. StrictlyBefore p (path_to new j)) (sym (kept_path i a)) (subst (λ p. StrictlyBefore (path_to old i) p) (sym (new_path j (q.0) b (q.1))) (S.coming i head (q.0.link) a (omega arith) low))
    sorted_new i j less inside (inr a) (inl b) = absurd (omega arith)
    sorted_new i j less inside (inr a) (inr b) =
        let p = get_some new i (omega arith) in
        let q = get_some new j inside in
        let rise = G.rising i j (p.0) (q.0) a less (p.1) (q.1) in
        subst (λ x. StrictlyBefore x (path_to new j)) (sym (new_path i (p.0) a (p.1))) (subst (λ x. StrictlyBefore (path_to old head ++ p.0.link ∷ []) x) (sym (new_path j (q.0) b (q.1))) (strictly_number (path_to old head) (p.0.link) (q.0.link) rise))

    coming_new : (i j c : ℕ) → i < length new → suc head ≤ j → j < next → (i < length old) ⊎ (length old ≤ i) → StrictlyBefore (path_to new i) (path_to new j ++ c ∷ [])
    coming_new i j c inside after before (inl a) =
        let w = S.within in
        let b : j < length old = omega (arith, w.1) in
        subst (λ p. StrictlyBefore p (path_to new j ++ c ∷ [])) (sym (kept_path i a)) (subst (λ p. StrictlyBefore (path_to old i) (p ++ c ∷ [])) (sym (kept_path j b)) (S.coming i j c a (omega arith) before))
    coming_new i j c inside after before (inr a) =
        let w = S.within in
        let b : j < length old = omega (arith, w.1) in
        let q = get_some new i inside in
        subst (λ p. StrictlyBefore p (path_to new j ++ c ∷ [])) (sym (new_path i (q.0) a (q.1))) (subst (λ p. StrictlyBefore (path_to old head ++ q.0.link ∷ []) (p ++ c ∷ [])) (sym (kept_path j b))
        (strictly_further (path_to old head) (path_to old j) (q.0.link) c (S.sorted head j (omega arith) b)))

    -- the place at which the list covers a way does not come after the way
    not_after : (j : ℕ) (q : Reached) (w : Onward) → slice_get new j ≡ Some q → (length old ≤ j → q.link ≤ w.link) → (j < length old) ⊎ (length old ≤ j) → Before (path_to new j) (path_to old head ++ w.link ∷ [])
    not_after j q w e rise (inl a) = subst (λ p. Before p (path_to old head ++ w.link ∷ [])) (sym (kept_path j a)) (strictly_before (path_to old j) (path_to old head ++ w.link ∷ []) (S.coming j head w.link a (omega arith) low))
    not_after j q w e rise (inr a) = subst (λ p. Before p (path_to old head ++ w.link ∷ [])) (sym (new_path j q a e)) (by (cases_lt q.link w.link))
      where
        by : (q.link < w.link) ⊎ (w.link ≤ q.link) → Before (path_to old head ++ q.link ∷ []) (path_to old head ++ w.link ∷ [])
        by (inl less) = strictly_before (path_to old head ++ q.link ∷ []) (path_to old head ++ w.link ∷ []) (strictly_number (path_to old head) q.link w.link less)
        by (inr more) = let up = rise a in let same : q.link ≡ w.link = omega arith in subst (λ n. Before (path_to old head ++ q.link ∷ []) (path_to old head ++ n ∷ [])) same (before_refl (path_to old head ++ q.link ∷ []))

    by_cover : (walk others : List ℕ) (j : ℕ) (q : Reached) (w : Onward) → slice_get new j ≡ Some q → (length old ≤ j → q.link ≤ w.link)
        → onward (ways_to at net zone) q.link q.step others ≡ Some (rest q.state q.step) → Before (path_to old head ++ w.link ∷ others) walk
        → ((other : List ℕ) → length other < length walk → Takes other → LeadsFrom new (suc head) other) → (head < j) ⊎ (j ≤ head) → LeadsFrom new (suc head) walk
    by_cover walk others j q w e rise on before ih (inl after) =
        let first = before_append (path_to new j) (path_to old head ++ w.link ∷ []) others (not_after j q w e rise (cases_lt j (length old))) in
        let then = subst (λ p. Before (path_to new j ++ others) p) (append_assoc (path_to old head) (w.link ∷ []) others) first in
        (j, q, others, e, omega arith, on, before_trans (path_to new j ++ others) (path_to old head ++ w.link ∷ others) walk then before)
    by_cover walk others j q w e rise on before ih (inr early) =
        let inside = head_within in
        let b = begun_new j q e (inl (omega arith)) in
        let takes = b.goes others on in
        let a = length-append (path_to new j) others in
        let c = length-append (path_to old head) (w.link ∷ others) in
        let kept = same_length j (omega arith) in
        let few = S.earlier j (omega arith) in
        let many = S.here head (omega arith) low in
        let most = before_length (path_to old head ++ w.link ∷ others) walk before in
        let fewer : length (path_to new j ++ others) < length walk = omega (arith, a, c, kept, few, many, most) in
        let d = ih (path_to new j ++ others) fewer takes in
        (d.0, d.1, d.2, d.3, d.4, d.5, before_trans (path_to new d.0 ++ d.2) (path_to new j ++ others) walk (d.6) (inl fewer))

    from_head : (walk others : List ℕ) → onward (ways_to at net zone) h.link h.step others ≡ Some (rest h.state h.step) → Before (path_to old head ++ others) walk
        → ((other : List ℕ) → length other < length walk → Takes other → LeadsFrom new (suc head) other) → LeadsFrom new (suc head) walk
    from_head walk [] on before ih = absurd (never (is_own r zone h.state) (own_at_end (path_to old head) h here on) out)
    from_head walk (c ∷ others) on before ih =
        let t = tight_by net zone at rest r v h.link h.step c others here.link (on ∙ ap (λ n. Some (rest n h.step)) here.state) in
        let w = t.1 in
        let is : slice_get (onwards r h.state) (t.0) ≡ Some w = ap (λ n. slice_get (onwards r n) (t.0)) here.state ∙ t.2.stands in
        let meets : over at far rest h.step w ≡ rest h.state h.step = t.2.tight ∙ ap (λ n. rest n h.step) (sym here.state) in
        let cover = G.covers (t.0) w (slice_get_within (onwards r h.state) (t.0) w is) is meets in
        let q = cover.1 in
        let b = begun_new (cover.0) q (cover.2) (cases_lt (cover.0) (length old)) in
        let a = v.routes.turns.allowed h.link (t.0) w here.link t.2.stands in
        let i = v.routes.turns.turn_within h.link w.link w.wait (a.0) in
        let states : state_of r w.link ≡ state_of r q.link = sym (a.1) ∙ sym (cover.3) ∙ b.state in
        let there = carried net zone at rest r v w.link q.link (h.step + span at h.step w) (rest w.to (h.step + span at h.step w)) others (i.1) b.link states (t.4) in
        let on_q = moved (ways_to at net zone) q.link q.link (h.step + span at h.step w) q.step (rest w.to (h.step + span at h.step w)) (rest q.state q.step) others refl (sym (cover.4)) (sym (ap (λ n. rest n q.step) (cover.3) ∙ ap (λ n. rest w.to n) (cover.4))) there in
        by_cover walk others (cover.0) q w (cover.2) (cover.5) on_q (subst (λ n. Before (path_to old head ++ n ∷ others) walk) (sym (t.3)) before) ih (cases_lt head (cover.0))

    from_lead : (walk : List ℕ) → LeadsFrom old head walk → ((other : List ℕ) → length other < length walk → Takes other → LeadsFrom new (suc head) other) → LeadsFrom new (suc head) walk
    from_lead walk d ih = by (cases_lt head (d.0))
      where
        by : (head < d.0) ⊎ (d.0 ≤ head) → LeadsFrom new (suc head) walk
        by (inl after) = (d.0, d.1, d.2, kept_get (d.0) (d.1) (d.3), omega arith, d.5, subst (λ p. Before (p ++ d.2) walk) (sym (kept_path (d.0) (slice_get_within old (d.0) (d.1) (d.3)))) (d.6))
        by (inr early) =
            let from = d.4 in
            let same : d.0 ≡ head = omega (arith, from) in
            let one : h ≡ d.1 = some_same h (d.1) (sym stands ∙ ap (λ n. slice_get old n) (sym same) ∙ d.3) in
            from_head walk (d.2) (subst (λ q. onward (ways_to at net zone) q.link q.step (d.2) ≡ Some (rest q.state q.step)) (sym one) (d.5)) (subst (λ n. Before (path_to old n ++ d.2) walk) same (d.6)) ih

    leads_on : (fuel : ℕ) (walk : List ℕ) → length walk ≤ fuel → Takes walk → LeadsFrom new (suc head) walk
    leads_on zero walk short takes = from_lead walk (S.leads walk takes) (λ other less t. absurd (omega arith))
    leads_on (suc fuel) walk short takes = from_lead walk (S.leads walk takes) (λ other less t. leads_on fuel other (omega arith) t)

    -- those that did not end in the zone still do not
    pub none_more : (from : ℕ) → NoneEnds r zone old from next → NoneEnds r zone new from next
    none_more from none i q a b e = let w = S.within in none i q a b (old_get i q (omega (arith, w.1)) e)

    -- the search after it has gone on from one place more
    pub searched_more : Searched new (suc head) next count
    searched_more = record {
      within = (omega arith, (let w = S.within in let g = grown in omega (arith, w.1, g)));
      begun = λ i q e. begun_new i q e (cases_lt i (length old));
      earlier = λ i k. (let w = S.within in let inside : i < length old = omega (arith, w.1) in let n = same_length i inside in let e = S.earlier i k in omega (arith, n, e));
      here = λ i k l. (let w = S.within in let inside : i < length old = omega (arith, w.1) in same_length i inside ∙ S.here i (omega arith) l);
      later_ones = λ i k l. later_new i k l (cases_lt i (length old));
      sorted = λ i j k l. sorted_new i j k l (cases_lt i (length old)) (cases_lt j (length old));
      coming = λ i j c k l n. coming_new i j c k l n (cases_lt i (length old));
      leads = λ walk takes. leads_on (length walk) walk (omega arith) takes;
    }
