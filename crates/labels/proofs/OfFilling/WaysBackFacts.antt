-- Ways back, added way by way and state by state.
use Rattle.std.proofs.Common.{◌≡◌, ℕ, ◌+◌, ◌<◌, ◌≤◌, true, false, List, [], ◌∷◌, ◌++◌, length, refl, ap, sym, ◌∙◌, subst, arith, get_or, ◌⊎◌, inl, inr, Some}
use Rattle.std.specs.Prelude.{◌≢◌, All, replicate, slice_get, slice_set}
use Rattle.std.proofs.Math.Dec.{eqb}
use Rattle.std.proofs.lemmas.Grind.{get_or-set_at}
use Rattle.std.proofs.Math.Seq.{get_or-append_seam}
use Rattle.std.proofs.lemmas.Bool.{cases_lt}
use Rattle.std.proofs.lemmas.Bool.Decides.{eqb_tells}
use Rattle.std.proofs.lemmas.List.{get_or-replicate, length-replicate, get_or-set_other, length-append, length-set, get_or_append_left}
use Rattle.std.proofs.lemmas.Option.{get_or_from_slice_get, same_Some, slice_get-get_or, slice_get_within}
use Rattle.fixed_units.specs.declared.turn.TheConstants.{MOST_PENALTY_STEPS}
use Rattle.labels.specs.Filling.WaysBack.{AreWaysBack, HoldAllTo, IsAmongFirst, IsToldBack, IsWayBack, still_span}
use Rattle.labels.specs.States.RouterWays.{onwards}
use Rattle.labels.specs.declared.filling.ways_back.WayBack.{WayBack}
use Rattle.labels.specs.declared.states.onward.Onward.{Onward}
use Rattle.labels.specs.declared.states.router.Router.{Router}

-- what stands in a list stands there once one more is added
get_kept : (xs : List WayBack) (y : WayBack) (k : ℕ) (x : WayBack) → slice_get xs k ≡ Some x → slice_get (xs ++ y ∷ []) k ≡ Some x
get_kept xs y k x e =
    let h = slice_get_within xs k x e in
    slice_get-get_or (xs ++ y ∷ []) k x (omega (arith, h, length-append xs (y ∷ [])))
    ∙ ap Some (get_or_append_left xs (y ∷ []) x k h ∙ get_or_from_slice_get xs k x x e)

-- what stands early in the longer list stood there before
get_back : (xs : List WayBack) (y : WayBack) (k : ℕ) (x : WayBack) → slice_get (xs ++ y ∷ []) k ≡ Some x → k < length xs → slice_get xs k ≡ Some x
get_back xs y k x e h =
    slice_get-get_or xs k x h
    ∙ ap Some (sym (get_or_append_left xs (y ∷ []) x k h) ∙ get_or_from_slice_get (xs ++ y ∷ []) k x x e)

-- and what stands last is what was added
get_last : (xs : List WayBack) (y : WayBack) (k : ℕ) (x : WayBack) → slice_get (xs ++ y ∷ []) k ≡ Some x → k ≡ length xs → x ≡ y
get_last xs y k x e h =
    sym (get_or_from_slice_get (xs ++ y ∷ []) (length xs) x x (rw (← h) e)) ∙ get_or-append_seam xs y [] x

get_seam : (xs : List WayBack) (y : WayBack) → slice_get (xs ++ y ∷ []) (length xs) ≡ Some y
get_seam [] y = refl
get_seam (x ∷ xs) y = get_seam xs y

early_or_last : (xs : List WayBack) (y : WayBack) (k : ℕ) (x : WayBack) → slice_get (xs ++ y ∷ []) k ≡ Some x → (k < length xs) ⊎ (k ≡ length xs)
early_or_last xs y k x e = by (cases_lt k (length xs))
  where
    by : (k < length xs) ⊎ (length xs ≤ k) → (k < length xs) ⊎ (k ≡ length xs)
    by (inl h) = inl h
    by (inr h) = let w = slice_get_within (xs ++ y ∷ []) k x e in inr (omega (arith, w, h, length-append xs (y ∷ [])))

pub AreWaysBack_none : (r : Router) (free : List ℕ) → AreWaysBack r free [] (replicate (length r.zones.items) 0) 0 0
AreWaysBack_none r free = record {
  sound = λ k b e. absurd (none k b e);
  told = λ s k w first e. absurd (nobody s k first);
  chained = λ k b e. absurd (none k b e);
  ended = λ s h. (let m = length-replicate {A = ℕ} (length r.zones.items) 0 in let z = get_or-replicate {A = ℕ} (length r.zones.items) s 0 0 (omega (arith, h, m)) in record {
    within = omega (arith, z);
    all = λ k b h e to. absurd (none k b e);
    last = λ k b h e. absurd (none k b e);
  });
  many = length-replicate {A = ℕ} (length r.zones.items) 0;
}
  where
    none : (k : ℕ) (b : WayBack) → slice_get [] k ≡ Some b → ⊥
    none k b e = let h = slice_get_within [] k b e in omega (arith, h)

    nobody : (s k : ℕ) → IsAmongFirst 0 0 s k → ⊥
    nobody s k (inl h) = omega (arith, h)
    nobody s k (inr h) = omega (arith, h.1)

-- one more way back
pub AreWaysBack_more : (r : Router) (free : List ℕ) (backs new : List WayBack) (lasts marks : List ℕ) (count part : ℕ) (w : Onward) (b : WayBack)
    → All (λ x. x ≤ 4294967295) free → w.link < length free → w.wait ≤ MOST_PENALTY_STEPS → w.to < length r.zones.items → count < length r.zones.items
    → slice_get (onwards r count) part ≡ Some w
    → b.from ≡ count → b.to ≡ w.to → b.span ≡ still_span free w → b.before ≡ get_or lasts w.to 0
    → new ≡ backs ++ b ∷ [] → marks ≡ slice_set lasts w.to (length new)
    → AreWaysBack r free backs lasts count part → AreWaysBack r free new marks count (part + 1)
AreWaysBack_more r free backs new lasts marks count part w b frees link wait to state stands leaves leads takes before grown marked old = record {
  sound = λ k x e. sound_at k x e (early_or_last backs b k x (now k x e));
  told = told_at;
  chained = λ k x e. chained_at k x e (early_or_last backs b k x (now k x e));
  ended = λ s h. ended_at s h (eqb_tells s w.to);
  many = (let n = ap (λ (l : List ℕ). length l) marked in let m = length-set lasts w.to (length new) in omega (arith, n, m, old.many));
}
  where
    longer : length new ≡ length backs + 1
    longer = let n = ap (λ (l : List WayBack). length l) grown in let m = length-append backs (b ∷ []) in omega (arith, n, m)

    now : (k : ℕ) (x : WayBack) → slice_get new k ≡ Some x → slice_get (backs ++ b ∷ []) k ≡ Some x
    now k x e = subst (λ (l : List WayBack). slice_get l k ≡ Some x) grown e

    was : (k : ℕ) (x : WayBack) → slice_get new k ≡ Some x → k < length backs → slice_get backs k ≡ Some x
    was k x e h = get_back backs b k x (now k x e) h

    kept : (k : ℕ) (x : WayBack) → slice_get backs k ≡ Some x → slice_get new k ≡ Some x
    kept k x e = subst (λ (l : List WayBack). slice_get l k ≡ Some x) (sym grown) (get_kept backs b k x e)

    last_is : (k : ℕ) (x : WayBack) → slice_get new k ≡ Some x → k ≡ length backs → x ≡ b
    last_is k x e h = get_last backs b k x (now k x e) h

    sound_at : (k : ℕ) (x : WayBack) → slice_get new k ≡ Some x → (k < length backs) ⊎ (k ≡ length backs) → IsWayBack r free x
    sound_at k x e (inl h) = old.sound k x (was k x e h)
    sound_at k x e (inr h) = subst (λ (y : WayBack). IsWayBack r free y) (sym (last_is k x e h)) (record {
      place = part;
      way = w;
      stands = subst (λ n. slice_get (onwards r n) part ≡ Some w) (sym leaves) stands;
      leads = leads;
      takes = takes;
      from_inside = omega (arith, leaves, state);
      to_inside = omega (arith, leads, to);
      short = (let f = frees w.link 0 link in omega (arith, takes, wait, f));
    })

    keep : (s : ℕ) (v : Onward) → IsToldBack free backs s v → IsToldBack free new s v
    keep s v t = record { place = t.place; back = t.back; stands = kept t.place t.back t.stands; leaves = t.leaves; leads = t.leads; takes = t.takes }

    told_at : (s k : ℕ) (v : Onward) → IsAmongFirst count (part + 1) s k → slice_get (onwards r s) k ≡ Some v → IsToldBack free new s v
    told_at s k v (inl less) e = keep s v (old.told s k v (inl less) e)
    told_at s k v (inr h) e = here (cases_lt k part)
      where
        here : (k < part) ⊎ (part ≤ k) → IsToldBack free new s v
        here (inl early) = keep s v (old.told s k v (inr (h.0, early)) e)
        here (inr late) =
            let place : k ≡ part = omega (arith, h.1, late) in
            let there : slice_get (onwards r count) part ≡ Some v = subst (λ n. slice_get (onwards r n) part ≡ Some v) (h.0) (subst (λ n. slice_get (onwards r s) n ≡ Some v) place e) in
            let same : w ≡ v = same_Some w v (sym stands ∙ there) in
            record {
              place = length backs;
              back = b;
              stands = subst (λ (l : List WayBack). slice_get l (length backs) ≡ Some b) (sym grown) (get_seam backs b);
              leaves = leaves ∙ sym (h.0);
              leads = leads ∙ ap (λ (x : Onward). x.to) same;
              takes = takes ∙ ap (λ (x : Onward). still_span free x) same;
            }

    grown_to : (n s m : ℕ) → n ≤ length backs → HoldAllTo backs n s m → HoldAllTo new n s m
    grown_to n s m few h = record {
      within = h.within;
      all = λ k x early e. h.all k x early (was k x e (omega (arith, early, few)));
      last = λ k x at e. h.last k x at (was k x e (let i = h.within in omega (arith, i, at, few)));
    }

    chained_at : (k : ℕ) (x : WayBack) → slice_get new k ≡ Some x → (k < length backs) ⊎ (k ≡ length backs) → HoldAllTo new k x.to x.before
    chained_at k x e (inl h) = grown_to k x.to x.before (omega (arith, h)) (old.chained k x (was k x e h))
    chained_at k x e (inr h) =
        let e0 : HoldAllTo new (length backs) w.to (get_or lasts w.to 0) = grown_to (length backs) w.to (get_or lasts w.to 0) (omega arith) (old.ended w.to (omega (arith, to, old.many))) in
        let e1 : HoldAllTo new k w.to (get_or lasts w.to 0) = subst (λ n. HoldAllTo new n w.to (get_or lasts w.to 0)) (sym h) e0 in
        let e2 : HoldAllTo new k b.to (get_or lasts w.to 0) = subst (λ n. HoldAllTo new k n (get_or lasts w.to 0)) (sym leads) e1 in
        let e3 : HoldAllTo new k b.to b.before = subst (λ n. HoldAllTo new k b.to n) (sym before) e2 in
        subst (λ (y : WayBack). HoldAllTo new k y.to y.before) (sym (last_is k x e h)) e3

    ended_at : (s : ℕ) → s < length marks → ((eqb s w.to ≡ true) × (s ≡ w.to)) ⊎ ((eqb s w.to ≡ false) × (s ≢ w.to)) → HoldAllTo new (length new) s (get_or marks s 0)
    ended_at s h (inl (t, same)) =
        let mark : get_or marks s 0 ≡ length new = ap (λ (l : List ℕ). get_or l s 0) marked ∙ get_or-set_at lasts w.to s (length new) 0 same (omega (arith, to, old.many)) in
        subst (λ n. HoldAllTo new (length new) s n) (sym mark) (record {
          within = omega arith;
          all = λ k x early e led. early;
          last = λ k x at e. (let place : k ≡ length backs = omega (arith, at, longer) in ap (λ (y : WayBack). y.to) (last_is k x e place) ∙ leads ∙ sym same);
        })
    ended_at s h (inr (t, other)) =
        let mark : get_or marks s 0 ≡ get_or lasts s 0 = ap (λ (l : List ℕ). get_or l s 0) marked ∙ get_or-set_other lasts w.to s (length new) 0 other in
        let there : s < length lasts = (let n = ap (λ (l : List ℕ). length l) marked in let m = length-set lasts w.to (length new) in omega (arith, n, m, h)) in
        let o = old.ended s there in
        subst (λ n. HoldAllTo new (length new) s n) (sym mark) (record {
          within = (let i = o.within in omega (arith, i, longer));
          all = λ k x early e led. all_at o k x e led (early_or_last backs b k x (now k x e));
          last = λ k x at e. o.last k x at (was k x e (let i = o.within in omega (arith, i, at)));
        })
      where
        all_at : HoldAllTo backs (length backs) s (get_or lasts s 0) → (k : ℕ) (x : WayBack) → slice_get new k ≡ Some x → x.to ≡ s → (k < length backs) ⊎ (k ≡ length backs) → k < get_or lasts s 0
        all_at o k x e led (inl early) = o.all k x early (was k x e early) led
        all_at o k x e led (inr late) = absurd (other (sym led ∙ ap (λ (y : WayBack). y.to) (last_is k x e late) ∙ leads))

-- the next state, once all ways on of a state are told
pub AreWaysBack_next : (r : Router) (free : List ℕ) (backs : List WayBack) (lasts : List ℕ) (count part : ℕ) → length (onwards r count) ≤ part → AreWaysBack r free backs lasts count part → AreWaysBack r free backs lasts (count + 1) 0
AreWaysBack_next r free backs lasts count part whole old = record { sound = old.sound; told = told_at; chained = old.chained; ended = old.ended; many = old.many }
  where
    told_at : (s k : ℕ) (v : Onward) → IsAmongFirst (count + 1) 0 s k → slice_get (onwards r s) k ≡ Some v → IsToldBack free backs s v
    told_at s k v (inr h) e = absurd (omega (arith, h.1))
    told_at s k v (inl less) e = by (cases_lt s count)
      where
        by : (s < count) ⊎ (count ≤ s) → IsToldBack free backs s v
        by (inl early) = old.told s k v (inl early) e
        by (inr late) =
            let same : s ≡ count = omega (arith, less, late) in
            let in' = slice_get_within (onwards r s) k v e in
            let many : length (onwards r s) ≡ length (onwards r count) = ap (λ n. length (onwards r n)) same in
            old.told s k v (inr (same, omega (arith, in', many, whole))) e
