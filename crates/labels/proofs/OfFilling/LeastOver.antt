-- The least over ways on, and the labels that it gives.
use Rattle.std.proofs.Common.{◌≡◌, ℕ, zero, suc, ◌+◌, ◌≤◌, ◌<◌, Bool, true, false, cond, min, List, [], ◌∷◌, length, drop, refl, ap, sym, ◌∙◌, subst, arith, Option, Some, ◌⊎◌, inl, inr}
use Rattle.std.specs.Prelude.{slice_get}
use Rattle.std.proofs.lemmas.Grind.{common_steps}
use Rattle.std.proofs.lemmas.Bool.{cases_lt}
use Rattle.std.proofs.lemmas.Bool.Decides.{nat_tests}
use Rattle.labels.specs.declared.states.onward.Onward.{Onward}
use Rattle.labels.specs.Reading.Paths.{Ways}
use Rattle.labels.specs.Filling.Rests.{over, least_over, AreTurns, IsPick, AreOrdered, label_of}
use Rattle.labels.proofs.OfReading.LabelFacts.{AreLabels}
use Rattle.labels.specs.Reading.Follows.{Choice}

module _ (at : ℕ → ℕ → ℕ) (far : ℕ) (rest : ℕ → ℕ → ℕ) where
  pub least_over_le : (e : ℕ) (ws : List Onward) → least_over at far rest e ws ≤ far
  unfolding least_over
  least_over_le e [] = omega arith
  least_over_le e (w ∷ ws) = omega (arith, least_over_le e ws)

  -- the least over the ways on that were looked at, once all were
  pub least_done : (e n least : ℕ) (ws : List Onward) (m : ℕ) → min least (least_over at far rest e (drop n ws)) ≡ m → length ws ≤ n → least ≤ far → least ≡ m
  unfolding least_over
  least_done e n least ws m kept past low =
      let now : min least far ≡ m = subst (λ r. min least (least_over at far rest e r) ≡ m) (none_left n ws past) kept in
      omega (arith, now, low)
    where
      none_left : (n : ℕ) (ws : List Onward) → length ws ≤ n → drop n ws ≡ []
      none_left zero [] h = refl
      none_left (suc n) [] h = refl
      none_left zero (w ∷ ws) h = absurd (omega arith)
      none_left (suc n) (w ∷ ws) h = none_left n ws (omega arith)

  pub least_le : (e : ℕ) (ws : List Onward) (k : ℕ) (w : Onward) → slice_get ws k ≡ Some w → least_over at far rest e ws ≤ over at far rest e w
  unfolding least_over
  least_le e [] k w h = cc
  least_le e (v ∷ ws) zero w h = let same : v ≡ w = grind (arith, common_steps) in rw same (omega arith)
  least_le e (v ∷ ws) (suc k) w h = omega (arith, least_le e ws k w h)

  -- it is that of some way on
  abbrev IsOver : ℕ → List Onward → ℕ → Type 0
  IsOver e ws x = (k : ℕ) × (w : Onward) × (slice_get ws k ≡ Some w) × (x ≡ over at far rest e w)

  pub least_some : (e : ℕ) (ws : List Onward) → least_over at far rest e ws < far → IsOver e ws (least_over at far rest e ws)
  unfolding least_over
  least_some e [] h = absurd (omega arith)
  least_some e (v ∷ ws) h = choose (cases_lt (least_over at far rest e ws) (over at far rest e v)) (λ less. least_some e ws less)
    where
      choose : (least_over at far rest e ws < over at far rest e v) ⊎ (over at far rest e v ≤ least_over at far rest e ws) → (least_over at far rest e ws < far → IsOver e ws (least_over at far rest e ws)) → IsOver e (v ∷ ws) (min (over at far rest e v) (least_over at far rest e ws))
      choose (inl less) ih = let r = ih (omega arith) in (suc (r.0), r.1, r.2, omega (arith, r.3))
      choose (inr more) ih = (zero, v, refl, omega arith)

-- times that fit together are least times
module _ (g : Ways) (own : ℕ → Bool) (state : ℕ → ℕ) (ways : ℕ → List Onward) (rest : ℕ → ℕ → ℕ) (links states far most longest : ℕ)
    (turns : AreTurns g links own state ways states)
    (rests : (s e : ℕ) → s < states → cond (own s) (rest s e ≡ 0) (rest s e ≡ least_over g.at far rest e (ways s)))
    (near : (s e : ℕ) → s < states → rest s e < far → rest s e ≤ most)
    (short : (l e b wait : ℕ) → g.turn l b ≡ Some wait → wait + g.at b e ≤ longest)
    (room : most + longest < far) where
  -- the time of a link that is entered at a step and of what is left then
  abbrev label : ℕ → ℕ → Option ℕ
  label = label_of g.at links state rest far

  pub label_some : (l e x : ℕ) → l < links → rest (state l) (e + g.at l e) ≡ x → x < far → label l e ≡ Some (g.at l e + x)
  unfolding label_of
  label_some l e x within same near = rw same (grind (arith, nat_tests))

  pub some_label : (l e j : ℕ) → label l e ≡ Some j → (rest (state l) (e + g.at l e) < far) × (j ≡ g.at l e + rest (state l) (e + g.at l e)) × (l < links)
  unfolding label_of
  some_label l e j h = both (cases_lt l links) (cases_lt (rest (state l) (e + g.at l e)) far)
    where
      both : (l < links) ⊎ (links ≤ l) → (rest (state l) (e + g.at l e) < far) ⊎ (far ≤ rest (state l) (e + g.at l e)) → (rest (state l) (e + g.at l e) < far) × (j ≡ g.at l e + rest (state l) (e + g.at l e)) × (l < links)
      both (inl within) (inl near) = (near, grind (arith, nat_tests), within)
      both (inl within) (inr above) = absurd (grind (arith, nat_tests))
      both (inr beyond) near = absurd (grind (arith, nat_tests))

  pub zone_rest : (l e : ℕ) → g.ends l ≡ true → rest (state l) e ≡ 0
  zone_rest l e h = let i = turns.end_within l h in let o : own (state l) ≡ true = turns.ends l i ∙ h in let r = rests (state l) e (turns.narrow l i) in subst (λ c. cond c (rest (state l) e ≡ 0) (rest (state l) e ≡ least_over g.at far rest e (ways (state l)))) o r

  pub far_rest : (l e : ℕ) → l < links → g.ends l ≡ false → rest (state l) e ≡ least_over g.at far rest e (ways (state l))
  far_rest l e i h = let o : own (state l) ≡ false = turns.ends l i ∙ h in let r = rests (state l) e (turns.narrow l i) in subst (λ c. cond c (rest (state l) e ≡ 0) (rest (state l) e ≡ least_over g.at far rest e (ways (state l)))) o r

  -- the time over a turn
  over_turn : (e b wait : ℕ) (w : Onward) → w.link ≡ b → w.wait ≡ wait → w.to ≡ state b → over g.at far rest e w ≡ rest (state b) ((e + wait) + g.at b (e + wait)) + (wait + g.at b (e + wait))
  unfolding over
  over_turn e b wait w hb hw ht = rw (hb, hw, ht) (ap (λ x. rest (state b) x + (wait + g.at b (e + wait))) (omega arith))

  bound : (l e b wait k : ℕ) → g.ends l ≡ false → g.turn l b ≡ Some wait → label b (e + (g.at l e + wait)) ≡ Some k → (j : ℕ) × (label l e ≡ Some j) × (j ≤ g.at l e + wait + k)
  bound l e b wait k goes way next =
      let n = some_label b (e + (g.at l e + wait)) k next in
      let t = turns.listed l b wait way in
      let start = e + g.at l e in
      let step : e + (g.at l e + wait) ≡ start + wait = omega arith in
      let o : over g.at far rest start (t.1) ≡ rest (state b) ((start + wait) + g.at b (start + wait)) + (wait + g.at b (start + wait)) = over_turn start b wait (t.1) (t.3) (t.4) (t.5) in
      let le : least_over g.at far rest start (ways (state l)) ≤ over g.at far rest start (t.1) = least_le g.at far rest start (ways (state l)) (t.0) (t.1) (t.2) in
      let n0 : rest (state b) ((start + wait) + g.at b (start + wait)) < far = subst (λ x. rest (state b) (x + g.at b x) < far) step (n.0) in
      let n1 : k ≡ g.at b (start + wait) + rest (state b) ((start + wait) + g.at b (start + wait)) = subst (λ x. k ≡ g.at b x + rest (state b) (x + g.at b x)) step (n.1) in
      let i = turns.turn_within l b wait way in
      let m = near (state b) ((start + wait) + g.at b (start + wait)) (turns.narrow b (i.1)) n0 in
      let s = short l (start + wait) b wait way in
      let r : rest (state l) start ≡ least_over g.at far rest start (ways (state l)) = far_rest l start (i.0) goes in
      let x = least_over g.at far rest start (ways (state l)) in
      (g.at l e + x, label_some l e x (i.0) r (omega (arith, o, le, m, s, room)), omega (arith, o, le, n1))

  attained : (l e j : ℕ) → g.ends l ≡ false → label l e ≡ Some j → (b : ℕ) × (wait : ℕ) × (k : ℕ) × (g.turn l b ≡ Some wait) × (label b (e + (g.at l e + wait)) ≡ Some k) × (j ≡ g.at l e + wait + k)
  attained l e j goes h =
      let start = e + g.at l e in
      let s = some_label l e j h in
      let r : rest (state l) start ≡ least_over g.at far rest start (ways (state l)) = far_rest l start (s.2) goes in
      let some = least_some g.at far rest start (ways (state l)) (omega (arith, r, s.0)) in
      let w = some.1 in
      let a = turns.allowed l (some.0) w (s.2) (some.2) in
      let i = turns.turn_within l w.link w.wait (a.0) in
      let o : over g.at far rest start w ≡ rest (state w.link) ((start + w.wait) + g.at w.link (start + w.wait)) + (w.wait + g.at w.link (start + w.wait)) = over_turn start w.link w.wait w refl refl (a.1) in
      let x = rest (state w.link) ((start + w.wait) + g.at w.link (start + w.wait)) in
      let step : start + w.wait ≡ e + (g.at l e + w.wait) = omega arith in
      let near : x < far = omega (arith, some.3, r, s.0, o) in
      let next : label w.link (e + (g.at l e + w.wait)) ≡ Some (g.at w.link (start + w.wait) + x) = subst (λ y. label w.link y ≡ Some (g.at w.link (start + w.wait) + x)) step (label_some w.link (start + w.wait) x (i.1) refl near) in
      (w.link, w.wait, g.at w.link (start + w.wait) + x, a.0, next, omega (arith, some.3, r, s.1, o))

  pub are_labels : AreLabels g label
  are_labels = record {
    at_end = λ l e h. let z = zone_rest l (e + g.at l e) h in label_some l e 0 (turns.end_within l h) z (omega (arith, room)) ∙ ap (λ x. Some x) (omega arith);
    bound = bound;
    attained = attained;
  }

  -- the way on that is picked is the choice by the least link
  pub choice_of : (l e : ℕ) (w : Onward) → l < links → g.ends l ≡ false → rest (state l) (e + g.at l e) < far → AreOrdered (ways (state l)) → IsPick g.at far rest (ways (state l)) (e + g.at l e) (rest (state l) (e + g.at l e)) w → Choice g label l e w.link
  choice_of l e w link goes within ordered p =
      let start = e + g.at l e in
      let a = turns.allowed l p.place w link p.stands in
      let i = turns.turn_within l w.link w.wait (a.0) in
      let o : over g.at far rest start w ≡ rest (state w.link) ((start + w.wait) + g.at w.link (start + w.wait)) + (w.wait + g.at w.link (start + w.wait)) = over_turn start w.link w.wait w refl refl (a.1) in
      let x = rest (state w.link) ((start + w.wait) + g.at w.link (start + w.wait)) in
      let step : start + w.wait ≡ e + (g.at l e + w.wait) = omega arith in
      let near : x < far = omega (arith, p.gives, within, o) in
      let total : g.at l e + w.wait + (g.at w.link (start + w.wait) + x) ≡ g.at l e + rest (state l) start = omega (arith, o, p.gives) in
      record {
        goes = goes;
        wait = w.wait;
        rest = g.at w.link (start + w.wait) + x;
        way = a.0;
        next = subst (λ y. label w.link y ≡ Some (g.at w.link (start + w.wait) + x)) step (label_some w.link (start + w.wait) x (i.1) refl near);
        gives = label_some l e (rest (state l) start) link refl within ∙ ap (λ y. Some y) (sym total);
        first = later_first total;
      }
    where
      some_onward : (v w : Onward) → Some v ≡ Some w → v ≡ w
      some_onward v w h = cc

      not_after : (i k : ℕ) (v w : Onward) → AreOrdered (ways (state l)) → slice_get (ways (state l)) i ≡ Some v → slice_get (ways (state l)) k ≡ Some w → v.link < w.link → (i < k) ⊎ (k ≤ i) → i < k
      not_after i k v w ordered hv hw less (inl b) = b
      not_after i k v w ordered hv hw less (inr b) = by (cases_lt k i)
        where
          by : (k < i) ⊎ (i ≤ k) → i < k
          by (inl c) = let r = ordered k i w v c hw hv in absurd (omega (arith, r, less))
          by (inr c) = let same : i ≡ k = omega arith in let e : Some v ≡ Some w = sym hv ∙ ap (λ n. slice_get (ways (state l)) n) same ∙ hw in let vw : v ≡ w = some_onward v w e in absurd (let z : v.link ≡ w.link = ap (λ y. y.link) vw in omega arith)

      later_first : g.at l e + w.wait + (g.at w.link ((e + g.at l e) + w.wait) + rest (state w.link) (((e + g.at l e) + w.wait) + g.at w.link ((e + g.at l e) + w.wait))) ≡ g.at l e + rest (state l) (e + g.at l e)
          → (c u k : ℕ) → c < w.link → g.turn l c ≡ Some u → label c (e + (g.at l e + u)) ≡ Some k → g.at l e + w.wait + (g.at w.link ((e + g.at l e) + w.wait) + rest (state w.link) (((e + g.at l e) + w.wait) + g.at w.link ((e + g.at l e) + w.wait))) < g.at l e + u + k
      later_first total c u k less way next =
          let start = e + g.at l e in
          let t = turns.listed l c u way in
          let v = t.1 in
          let n = some_label c (e + (g.at l e + u)) k next in
          let step : e + (g.at l e + u) ≡ start + u = omega arith in
          let n1 : k ≡ g.at c (start + u) + rest (state c) ((start + u) + g.at c (start + u)) = subst (λ x. k ≡ g.at c x + rest (state c) (x + g.at c x)) step (n.1) in
          let o : over g.at far rest start v ≡ rest (state c) ((start + u) + g.at c (start + u)) + (u + g.at c (start + u)) = over_turn start c u v (t.3) (t.4) (t.5) in
          let lower : v.link < w.link = omega (arith, t.3, less) in
          let before = not_after (t.0) p.place v w ordered (t.2) p.stands lower (cases_lt (t.0) p.place) in
          let more = p.before (t.0) v before (t.2) in
          omega (arith, more, o, n1, total)
