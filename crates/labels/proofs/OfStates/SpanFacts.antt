-- Spans of ways on.
use Rattle.std.proofs.Common.{◌∷◌, ◌++◌, [], ◌≡◌, ◌⊎◌, inl, inr, ℕ, zero, suc, ◌+◌, ◌-◌, ◌*◌, ◌/◌, ◌%◌, ◌<◌, ◌≤◌, true, false, List, length, drop, refl, arith, get_or, ap, sym, ◌∙◌, subst}
use Rattle.std.specs.Prelude.{◌≢◌, slice_set, All, Contains}
use Rattle.std.specs.List.{slice_range}
use Rattle.std.proofs.lemmas.Grind.{common_steps, elements, get_or-set_at}
use Rattle.std.proofs.lemmas.Bool.{cases_lt}
use Rattle.std.proofs.lemmas.Bool.Decides.{eqb_tells}
use Rattle.std.proofs.lemmas.List.Elements.{All-push, Contains-append_left, Contains-push}
use Rattle.std.proofs.Math.Dec.{eqb}
use Rattle.std.proofs.lemmas.List.{get_or-set_other, length-set, get_or-take, get_or-drop}
use Rattle.std.proofs.lemmas.Nat.{div-mul-add, div-add-mod', mod_below}
use Rattle.labels.specs.declared.states.onward.Onward.{Onward}
use Rattle.labels.specs.declared.states.spans.Span.{Span}
use Rattle.trip_costs.specs.WalkCosts.{steps_in, table_in}
use Rattle.trip_costs.specs.declared.walk_costs.WalkCosts.{WalkCosts}
use Rattle.labels.specs.States.Spans.{AreMoving, AreMovingTo, AreShortAt, AreShortSpans, AreSpansBut, IsSpan, IsSpansTo, IsSpans, IsStill}

any : (ways : List Onward) (n : ℕ) (d e : Onward) → n < length ways → get_or ways n d ≡ get_or ways n e
any ways n d e h = grind (arith, elements)

pub IsSpansTo_more : (at : ℕ → ℕ → ℕ) (e : ℕ) (ways : List Onward) (spans : List Span) (n : ℕ) (s : Span) (d0 : Onward) → n < length ways → IsSpan at e (get_or ways n d0) s → IsSpansTo at e ways spans n → IsSpansTo at e ways (slice_set spans n s) (n + 1)
IsSpansTo_more at e ways spans n s d0 h is was = record { as_many = length-set spans n s ∙ was.as_many; each = λ k d c b. at_k k d c b (eqb_tells k n) }
  where
    at_k : (k : ℕ) (d : Onward) (c : Span) → k < n + 1 → ((eqb k n ≡ true) × (k ≡ n)) ⊎ ((eqb k n ≡ false) × (k ≢ n)) → IsSpan at e (get_or ways k d) (get_or (slice_set spans n s) k c)
    at_k k d c b (inl (t, same)) =
        let now : get_or (slice_set spans n s) k c ≡ s = get_or-set_at spans n k s c same (omega (arith, was.as_many)) in
        subst (λ x. IsSpan at e (get_or ways k d) x) (sym now) (subst (λ i. IsSpan at e (get_or ways i d) s) (sym same) (subst (λ w. IsSpan at e w s) (any ways n d0 d h) is))
    at_k k d c b (inr (t, other)) =
        let now : get_or (slice_set spans n s) k c ≡ get_or spans k c = get_or-set_other spans n k s c other in
        subst (λ x. IsSpan at e (get_or ways k d) x) (sym now) (was.each k d c (grind (arith, common_steps)))

pub IsSpans_range : (at : ℕ → ℕ → ℕ) (e : ℕ) (ways : List Onward) (spans : List Span) (a b : ℕ) → a ≤ b → b ≤ length ways → IsSpans at e ways spans → IsSpans at e (slice_range ways a b) (slice_range spans a b)
IsSpans_range at e ways spans a b h k all = record {
  as_many = let m = all.as_many in grind (arith, common_steps);
  each = λ i d c within.
      let n : i < b - a = grind (arith, common_steps) in
      let w : get_or (slice_range ways a b) i d ≡ get_or ways (a + i) d = get_or-take (b - a) (drop a ways) i d n ∙ get_or-drop a ways i d in
      let s : get_or (slice_range spans a b) i c ≡ get_or spans (a + i) c = get_or-take (b - a) (drop a spans) i c n ∙ get_or-drop a spans i c in
      subst (λ x. IsSpan at e x (get_or (slice_range spans a b) i c)) (sym w) (subst (λ x. IsSpan at e (get_or ways (a + i) d) x) (sym s) (all.each (a + i) d c (omega arith)));
}

-- spans of short ways on are short
pub spans_short : (at : ℕ → ℕ → ℕ) (beyond e states : ℕ) (ways : List Onward) (spans : List Span) → AreShortAt at beyond e ways → All (λ w. w.to < states) ways → IsSpans at e ways spans → AreShortSpans beyond states spans
spans_short at beyond e states ways spans short inside is k c h =
    let d : Onward = record { wait = 0; link = 0; to = 0 } in
    let small : k < length ways = omega (arith, is.as_many) in
    let i = is.each k d c small in
    let s = short k d small in
    let t = inside k d small in
    (omega (arith, i.0, s.0), omega (arith, i.0, s.1), omega (arith, i.1, t))

positive : (r : ℕ) → (r ≡ 0 → ⊥) → 0 < r
positive zero h = absurd (h refl)
positive (suc r) h = omega arith

same_bucket : (b n : ℕ) → 0 < b → ((n + 1) % b ≡ 0 → ⊥) → (n + 1) / b ≡ n / b
same_bucket b n some other =
    let split : (n + 1) / b * b + (n + 1) % b ≡ n + 1 = div-add-mod' (n + 1) b in
    let below : (n + 1) % b < b = mod_below (n + 1) b some in
    let r : 0 < (n + 1) % b = positive ((n + 1) % b) other in
    let as_n : n ≡ (n + 1) / b * b + ((n + 1) % b - 1) = omega arith in
    sym (ap (λ x. x / b) as_n ∙ div-mul-add ((n + 1) / b) b ((n + 1) % b - 1) (omega arith))

-- a way on that is still in a bucket takes what it takes in the next step there
still_before : (c : WalkCosts) (b e : ℕ) (w : Onward) (s : Span) → e + 1 < (table_in c).horizon → (e + 1) / (table_in c).bucket ≡ b → e / (table_in c).bucket ≡ b → IsStill c b w → IsSpan (steps_in c) (e + 1) w s → IsSpan (steps_in c) e w s
still_before c b e w s before next here still i =
    let z : w.wait ≡ 0 = still.0 in
    let at_next : e + 1 + w.wait ≡ e + 1 = omega (arith, z) in
    let at_here : e + w.wait ≡ e = omega (arith, z) in
    let same : steps_in c w.link (e + 1) ≡ steps_in c w.link e = still.1 (e + 1) e before (omega (arith, before)) next here in
    let long : w.wait + steps_in c w.link (e + 1 + w.wait) ≡ w.wait + steps_in c w.link (e + w.wait) = ap (λ x. w.wait + steps_in c w.link x) at_next ∙ ap (λ x. w.wait + x) same ∙ ap (λ x. w.wait + steps_in c w.link x) (sym at_here) in
    (i.0 ∙ long, i.1)

-- so the spans of the next step are those of a step, but for ways on that are listed
pub but_moving : (c : WalkCosts) (e : ℕ) (ways : List Onward) (moving : List ℕ) (spans : List Span) → 0 < (table_in c).bucket → e + 1 < (table_in c).horizon → (e + 1) % (table_in c).bucket ≢ 0
    → AreMoving c ((e + 1) / (table_in c).bucket) ways moving → IsSpans (steps_in c) (e + 1) ways spans → AreSpansBut (steps_in c) e ways moving spans
but_moving c e ways moving spans some before other listed is = record { as_many = is.as_many; each = λ k d s h. by k d s h (listed.others k d h) }
  where
    by : (k : ℕ) (d : Onward) (s : Span) → k < length ways → Contains moving k ⊎ IsStill c ((e + 1) / (table_in c).bucket) (get_or ways k d) → Contains moving k ⊎ IsSpan (steps_in c) e (get_or ways k d) (get_or spans k s)
    by k d s h (inl there) = inl there
    by k d s h (inr still) = inr (still_before c ((e + 1) / (table_in c).bucket) e (get_or ways k d) (get_or spans k s) before refl (sym (same_bucket (table_in c).bucket e some other)) still (is.each k d s h))

pub moving_before : (c : WalkCosts) (e : ℕ) (ways : List Onward) (moving : List ℕ) → 0 < (table_in c).bucket → (e + 1) % (table_in c).bucket ≢ 0 → AreMoving c ((e + 1) / (table_in c).bucket) ways moving → AreMoving c (e / (table_in c).bucket) ways moving
moving_before c e ways moving some other listed = subst (λ b. AreMoving c b ways moving) (same_bucket (table_in c).bucket e some other) listed

-- a listed span more is written
listed_later : (xs : List ℕ) (x y : ℕ) → (y ≡ x → ⊥) → Contains (x ∷ xs) y → Contains xs y
listed_later xs x y other there = by (there.0) (there.1) (there.2)
  where
    by : (k : ℕ) → k < length (x ∷ xs) → get_or (x ∷ xs) k y ≡ y → Contains xs y
    by zero h e = absurd (other (sym e))
    by (suc k) h e = (k, omega (arith, h), e)

pub but_fewer : (at : ℕ → ℕ → ℕ) (e : ℕ) (ways : List Onward) (listed : List ℕ) (spans : List Span) (n : ℕ) (s : Span) (d0 : Onward) → n < length ways → IsSpan at e (get_or ways n d0) s → AreSpansBut at e ways (n ∷ listed) spans → AreSpansBut at e ways listed (slice_set spans n s)
but_fewer at e ways listed spans n s d0 h is was = record { as_many = length-set spans n s ∙ was.as_many; each = λ k d c b. at_k k d c b (eqb_tells k n) (was.each k d c b) }
  where
    at_k : (k : ℕ) (d : Onward) (c : Span) → k < length ways → ((eqb k n ≡ true) × (k ≡ n)) ⊎ ((eqb k n ≡ false) × (k ≢ n)) → Contains (n ∷ listed) k ⊎ IsSpan at e (get_or ways k d) (get_or spans k c) → Contains listed k ⊎ IsSpan at e (get_or ways k d) (get_or (slice_set spans n s) k c)
    at_k k d c b (inl (t, same)) old =
        let now : get_or (slice_set spans n s) k c ≡ s = get_or-set_at spans n k s c same (omega (arith, was.as_many)) in
        inr (subst (λ x. IsSpan at e (get_or ways k d) x) (sym now) (subst (λ i. IsSpan at e (get_or ways i d) s) (sym same) (subst (λ w. IsSpan at e w s) (any ways n d0 d h) is)))
    at_k k d c b (inr (t, other)) (inl there) = inl (listed_later listed n k other there)
    at_k k d c b (inr (t, other)) (inr old) =
        let now : get_or (slice_set spans n s) k c ≡ get_or spans k c = get_or-set_other spans n k s c other in
        inr (subst (λ x. IsSpan at e (get_or ways k d) x) (sym now) old)

-- one way on more is listed, or still
pub moving_still : (c : WalkCosts) (b : ℕ) (ways : List Onward) (moving : List ℕ) (n : ℕ) (d0 : Onward) → n < length ways → IsStill c b (get_or ways n d0) → AreMovingTo c b ways moving n → AreMovingTo c b ways moving (n + 1)
moving_still c b ways moving n d0 h still was = record { inside = was.inside; others = λ k d f. by k d f (cases_lt k n) }
  where
    by : (k : ℕ) (d : Onward) → k < n + 1 → (k < n) ⊎ (n ≤ k) → Contains moving k ⊎ IsStill c b (get_or ways k d)
    by k d f (inl less) = was.others k d less
    by k d f (inr more) =
        let same : n ≡ k = omega (arith, f, more) in
        inr (subst (λ i. IsStill c b (get_or ways i d)) same (subst (λ w. IsStill c b w) (any ways n d0 d h) still))

pub moving_listed : (c : WalkCosts) (b : ℕ) (ways : List Onward) (moving : List ℕ) (n : ℕ) → n < length ways → AreMovingTo c b ways moving n → AreMovingTo c b ways (moving ++ n ∷ []) (n + 1)
moving_listed c b ways moving n h was = record { inside = All-push (λ k. k < length ways) moving n was.inside h; others = λ k d f. by k d f (cases_lt k n) }
  where
    more : (k : ℕ) (d : Onward) → Contains moving k ⊎ IsStill c b (get_or ways k d) → Contains (moving ++ n ∷ []) k ⊎ IsStill c b (get_or ways k d)
    more k d (inl there) = inl (Contains-append_left moving (n ∷ []) k there)
    more k d (inr still) = inr still

    by : (k : ℕ) (d : Onward) → k < n + 1 → (k < n) ⊎ (n ≤ k) → Contains (moving ++ n ∷ []) k ⊎ IsStill c b (get_or ways k d)
    by k d f (inl less) = more k d (was.others k d less)
    by k d f (inr over) =
        let same : n ≡ k = omega (arith, f, over) in
        inl (subst (λ i. Contains (moving ++ n ∷ []) i) same (Contains-push moving n))
