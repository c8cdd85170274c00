-- The time that the rest of a walk takes from where a link ends, and ways on that meet it exactly.
use Rattle.std.proofs.Common.{◌≡◌, ℕ, ◌+◌, ◌<◌, Bool, true, false, cond, List, [], ◌∷◌, length, refl, ap, sym, ◌∙◌, subst, arith, Option, Some, None}
use Rattle.std.specs.Prelude.{slice_get}
use Rattle.net_core.specs.declared.rows.NetRows.{NetRows}
use Rattle.labels.specs.declared.states.onward.Onward.{Onward}
use Rattle.labels.specs.declared.states.router.Router.{Router}
use Rattle.labels.specs.Filling.Labels.{far}
use Rattle.labels.specs.Filling.Rests.{span, over, least_over}
use Rattle.labels.specs.Reading.Paths.{Ways, later, path_after}
use Rattle.labels.specs.Reading.Searches.{onward}
use Rattle.labels.specs.Reading.Serves.{label_in, Serves}
use Rattle.labels.specs.States.RouterWays.{is_own, onwards, state_of}
use Rattle.labels.specs.States.Routers.{ways_to}
use Rattle.labels.proofs.Basics.{some_same}
use Rattle.labels.proofs.OfFilling.LeastOver.{are_labels, some_label, least_le, zone_rest, far_rest}
use Rattle.labels.proofs.OfReading.LabelFacts.{AreLabels, no_less}

later_twice : (a b : ℕ) (x : Option ℕ) → later (a + b) x ≡ later a (later b x)
later_twice a b None = refl
later_twice a b (Some k) = ap (λ n. Some n) (omega arith)

end_is : (a : ℕ) (c : Bool) → cond c (Some a) None ≡ later a (cond c (Some 0) None)
end_is a true = ap (λ n. Some n) (omega arith)
end_is a false = refl

turn_is : (g : Ways) (l e b : ℕ) (others : List ℕ) (c : Bool) (way : Option ℕ)
    → cond c None (elim way as (λ _. Option ℕ) [ None ↦ None | Some wait ↦ later (g.at l e + wait) (path_after g b (e + (g.at l e + wait)) others) ])
    ≡ later (g.at l e) (cond c None (elim way as (λ _. Option ℕ) [ None ↦ None | Some wait ↦ later wait (path_after g b ((e + g.at l e) + wait) others) ]))
turn_is g l e b others true way = refl
turn_is g l e b others false None = refl
turn_is g l e b others false (Some wait) =
    let step : e + (g.at l e + wait) ≡ (e + g.at l e) + wait = omega arith in
    later_twice (g.at l e) wait (path_after g b (e + (g.at l e + wait)) others) ∙ ap (λ t. later (g.at l e) (later wait (path_after g b t others))) step

-- a walk takes its link, and then what it takes from where that ends
pub after_is : (g : Ways) (l e : ℕ) (others : List ℕ) → path_after g l e others ≡ later (g.at l e) (onward g l (e + g.at l e) others)
unfolding path_after onward
after_is g l e [] = end_is (g.at l e) (g.ends l)
after_is g l e (b ∷ others) = turn_is g l e b others (g.ends l) (g.turn l b)

pub later_some : (a x : ℕ) (o : Option ℕ) → later a o ≡ Some x → (k : ℕ) × (o ≡ Some k) × (a + k ≡ x)
later_some a x None h = cc
later_some a x (Some k) h = (k, refl, some_same _ _ h)

-- what a walk that goes on takes
abbrev GoesBy : Ways → ℕ → ℕ → ℕ → List ℕ → ℕ → Type 0
GoesBy g l t b others x = (wait : ℕ) × (k : ℕ) × (g.ends l ≡ false) × (g.turn l b ≡ Some wait) × (path_after g b (t + wait) others ≡ Some k) × (wait + k ≡ x)

goes_turn : (g : Ways) (l t b x : ℕ) (others : List ℕ) (c : Bool) (way : Option ℕ) → g.ends l ≡ c → g.turn l b ≡ way
    → cond c None (elim way as (λ _. Option ℕ) [ None ↦ None | Some wait ↦ later wait (path_after g b (t + wait) others) ]) ≡ Some x → GoesBy g l t b others x
goes_turn g l t b x others true way e w h = absurd (cc)
goes_turn g l t b x others false None e w h = absurd (cc)
goes_turn g l t b x others false (Some wait) e w h = let s = later_some wait x (path_after g b (t + wait) others) h in (wait, s.0, e, w, s.1, s.2)

pub goes_by : (g : Ways) (l t b x : ℕ) (others : List ℕ) → onward g l t (b ∷ others) ≡ Some x → GoesBy g l t b others x
unfolding onward
goes_by g l t b x others h = goes_turn g l t b x others (g.ends l) (g.turn l b) refl refl h

pub by_turn : (g : Ways) (l t b wait k : ℕ) (others : List ℕ) → g.ends l ≡ false → g.turn l b ≡ Some wait → path_after g b (t + wait) others ≡ Some k → onward g l t (b ∷ others) ≡ Some (wait + k)
unfolding onward
by_turn g l t b wait k others e w h = rw (e, w, h) refl

pub ends_by : (g : Ways) (l t x : ℕ) → onward g l t [] ≡ Some x → g.ends l ≡ true
unfolding onward
ends_by g l t x h = by (g.ends l) refl h
  where
    by : (c : Bool) → g.ends l ≡ c → cond c (Some 0) None ≡ Some x → c ≡ true
    by true e h = refl
    by false e h = absurd (cc)

pub at_end : (g : Ways) (l t : ℕ) → g.ends l ≡ true → onward g l t [] ≡ Some 0
unfolding onward
at_end g l t e = rw e refl

module _ (net : NetRows) (zone : ℕ) (at rest : ℕ → ℕ → ℕ) (r : Router) (v : Serves net zone at rest r) where
  abbrev ways_here : Ways
  ways_here = ways_to at net zone

  turn_carried : (a b c wait : ℕ) → b < length r.states.items → state_of r a ≡ state_of r b → ways_here.turn a c ≡ Some wait → ways_here.turn b c ≡ Some wait
  turn_carried a b c wait small same h =
      let t = v.routes.turns.listed a c wait h in
      let stands : slice_get (onwards r (state_of r b)) (t.0) ≡ Some (t.1) = ap (λ s. slice_get (onwards r s) (t.0)) (sym same) ∙ t.2 in
      let to = v.routes.turns.allowed b (t.0) (t.1) small stands in
      subst (λ n. ways_here.turn b n ≡ Some wait) (t.3) (subst (λ n. ways_here.turn b t.1.link ≡ Some n) (t.4) (to.0))

  same_end : (a b : ℕ) → a < length r.states.items → b < length r.states.items → state_of r a ≡ state_of r b → ways_here.ends a ≡ ways_here.ends b
  same_end a b i k same = sym (v.routes.turns.ends a i) ∙ ap (λ s. is_own r zone s) same ∙ v.routes.turns.ends b k

  -- links that end in one state at one step go on alike
  pub carried : (a b t x : ℕ) (others : List ℕ) → a < length r.states.items → b < length r.states.items → state_of r a ≡ state_of r b → onward ways_here a t others ≡ Some x → onward ways_here b t others ≡ Some x
  carried a b t x [] i k same h =
      let e = ends_by ways_here a t x h in
      let zero_left : x ≡ 0 = some_same x 0 (sym h ∙ at_end ways_here a t e) in
      at_end ways_here b t (sym (same_end a b i k same) ∙ e) ∙ ap (λ n. Some n) (sym zero_left)
  carried a b t x (c ∷ others) i k same h =
      let g = goes_by ways_here a t c x others h in
      by_turn ways_here b t c (g.0) (g.1) others (sym (same_end a b i k same) ∙ g.2) (turn_carried a b c (g.0) k same (g.3)) (g.4) ∙ ap (λ n. Some n) (g.5)

  pub labels_fit : AreLabels ways_here (label_in at rest r)
  labels_fit = are_labels ways_here (is_own r zone) (state_of r) (onwards r) rest (length r.states.items) (length r.zones.items) far v.most v.longest v.routes.turns v.rests v.near v.short v.room

  pub label_says : (l e j : ℕ) → label_in at rest r l e ≡ Some j → (rest (state_of r l) (e + at l e) < far) × (j ≡ at l e + rest (state_of r l) (e + at l e)) × (l < length r.states.items)
  label_says = some_label ways_here (is_own r zone) (state_of r) (onwards r) rest (length r.states.items) (length r.zones.items) far v.most v.longest v.routes.turns v.rests v.near v.short v.room

  pub left_at_end : (l t : ℕ) → ways_here.ends l ≡ true → rest (state_of r l) t ≡ 0
  left_at_end = zone_rest ways_here (is_own r zone) (state_of r) (onwards r) rest (length r.states.items) (length r.zones.items) far v.most v.longest v.routes.turns v.rests v.near v.short v.room

  -- a way on by which what is left is met exactly
  pub record IsTight (l t k : ℕ) (w : Onward) : Type 0 where
    pub stands : slice_get (onwards r (state_of r l)) k ≡ Some w
    pub tight : over at far rest t w ≡ rest (state_of r l) t

  left_here : (l t : ℕ) → l < length r.states.items → ways_here.ends l ≡ false → rest (state_of r l) t ≡ least_over at far rest t (onwards r (state_of r l))
  left_here l t small e = far_rest ways_here (is_own r zone) (state_of r) (onwards r) rest (length r.states.items) (length r.zones.items) far v.most v.longest v.routes.turns v.rests v.near v.short v.room l t small e

  pub over_is : (t : ℕ) (w : Onward) → over at far rest t w ≡ rest w.to (t + span at t w) + span at t w
  unfolding over
  over_is t w = refl

  -- a walk that takes what is left goes on by such a way, and takes from there what is left there
  pub tight_by : (l t b : ℕ) (others : List ℕ) → l < length r.states.items → onward ways_here l t (b ∷ others) ≡ Some (rest (state_of r l) t)
      → (k : ℕ) × (w : Onward) × IsTight l t k w × (w.link ≡ b) × (onward ways_here w.link (t + span at t w) others ≡ Some (rest w.to (t + span at t w)))
  tight_by l t b others small h =
      let g = goes_by ways_here l t b (rest (state_of r l) t) others h in
      let wait = g.0 in
      let d = v.routes.turns.listed l b wait (g.3) in
      let w = d.1 in
      let low = no_less ways_here (label_in at rest r) labels_fit b (t + wait) others (g.1) (g.4) in
      let says = label_says b (t + wait) (low.0) (low.1) in
      let le = least_le at far rest t (onwards r (state_of r l)) (d.0) w (d.2) in
      let left = left_here l t small (g.2) in
      let from = later_some (at b (t + wait)) (g.1) (onward ways_here b ((t + wait) + at b (t + wait)) others) (sym (after_is ways_here b (t + wait) others) ∙ g.4) in
      let span_is : span at t w ≡ wait + at b (t + wait) = ap (λ n. n + at w.link (t + n)) (d.4) ∙ ap (λ n. wait + at n (t + wait)) (d.3) in
      let place : t + span at t w ≡ (t + wait) + at b (t + wait) = omega (arith, span_is) in
      let rest_is : rest w.to (t + span at t w) ≡ rest (state_of r b) ((t + wait) + at b (t + wait)) = ap (λ s. rest s (t + span at t w)) (d.5) ∙ ap (λ n. rest (state_of r b) n) place in
      let o = over_is t w in
      let tight : over at far rest t w ≡ rest (state_of r l) t = omega (arith, o, rest_is, span_is, le, left, g.5, says.1, low.2) in
      let takes : from.0 ≡ rest w.to (t + span at t w) = omega (arith, o, tight, rest_is, span_is, g.5, from.2) in (
        d.0,
        w,
        record { stands = d.2; tight = tight },
        d.3,
        subst (λ n. onward ways_here w.link n others ≡ Some (rest w.to (t + span at t w))) (sym place)
            (subst (λ n. onward ways_here n ((t + wait) + at b (t + wait)) others ≡ Some (rest w.to (t + span at t w))) (sym (d.3)) (from.1 ∙ ap (λ n. Some n) takes)),
      )

  -- and back: what follows by such a way takes what is left before it
  pub tight_back : (l t k : ℕ) (w : Onward) (others : List ℕ) → l < length r.states.items → ways_here.ends l ≡ false → IsTight l t k w
      → onward ways_here w.link (t + span at t w) others ≡ Some (rest w.to (t + span at t w)) → onward ways_here l t (w.link ∷ others) ≡ Some (rest (state_of r l) t)
  tight_back l t k w others small e q h =
      let a = v.routes.turns.allowed l k w small q.stands in
      let n = at w.link (t + w.wait) in
      let place : t + span at t w ≡ (t + w.wait) + n = omega arith in
      let next : onward ways_here w.link ((t + w.wait) + n) others ≡ Some (rest w.to (t + span at t w)) = subst (λ x. onward ways_here w.link x others ≡ Some (rest w.to (t + span at t w))) place h in
      let after : path_after ways_here w.link (t + w.wait) others ≡ Some (n + rest w.to (t + span at t w)) = after_is ways_here w.link (t + w.wait) others ∙ ap (λ o. later n o) next in
      by_turn ways_here l t w.link w.wait (n + rest w.to (t + span at t w)) others e (a.0) after
      ∙ ap (λ x. Some x) (let o = over_is t w in let g = q.tight in omega (arith, o, g))
