-- What is left is near; the least over the first links is the least time of a walk.
use Rattle.std.proofs.Common.{◌≡◌, ℕ, zero, suc, ◌+◌, ◌-◌, ◌≤◌, ◌<◌, Bool, true, false, cond, List, [], ◌∷◌, refl, ap, sym, ◌∙◌, subst, arith, Option, Some, None, ◌⊎◌, inl, inr}
use Rattle.std.specs.Prelude.{slice_get}
use Rattle.std.proofs.lemmas.Bool.{cases_lt}
use Rattle.labels.specs.declared.states.onward.Onward.{Onward}
use Rattle.labels.specs.Reading.Paths.{Ways, later, path_after, path_time, IsLeastPath, lex_le, IsChosenPath}
use Rattle.labels.specs.Filling.Rests.{span, over, least_over}
use Rattle.labels.specs.Reading.FirstLinks.{AreFirsts, IsFirstLeast, IsFirstChoice, first_label}
use Rattle.labels.proofs.OfReading.LabelFacts.{AreLabels, no_less, some_walk, comes_first, lex_step}
use Rattle.labels.specs.Reading.Follows.{Follows}
use Rattle.labels.proofs.OfFilling.LeastOver.{least_some}
use Rattle.labels.proofs.Basics.{after_more}

module _ (at : ℕ → ℕ → ℕ) (far horizon longest most states : ℕ) (own : ℕ → Bool) (ways : ℕ → List Onward) (rest : ℕ → ℕ → ℕ)
    (rests : (s e : ℕ) → s < states → cond (own s) (rest s e ≡ 0) (rest s e ≡ least_over at far rest e (ways s)))
    (inside : (s k e : ℕ) (w : Onward) → s < states → slice_get (ways s) k ≡ Some w → (w.to < states) × (0 < span at e w) × (span at e w ≤ longest))
    (tail : (s e : ℕ) → s < states → horizon ≤ e → rest s e < far → rest s e ≤ most) where
  abbrev IsNear : ℕ → ℕ → Type 0
  IsNear s e = e + rest s e ≤ horizon + longest + most

  step_near : (s e : ℕ) (b : Bool) → s < states → own s ≡ b → e < horizon → rest s e < far
      → ((w : Onward) → w.to < states → 0 < span at e w → span at e w ≤ longest → rest w.to (e + span at e w) < far → (e + span at e w) + rest w.to (e + span at e w) ≤ horizon + longest + most) → IsNear s e
  unfolding over
  step_near s e true narrow o before near ih = let z : rest s e ≡ 0 = subst (λ c. cond c (rest s e ≡ 0) (rest s e ≡ least_over at far rest e (ways s))) o (rests s e narrow) in omega arith
  step_near s e false narrow o before near ih =
      let r : rest s e ≡ least_over at far rest e (ways s) = subst (λ c. cond c (rest s e ≡ 0) (rest s e ≡ least_over at far rest e (ways s))) o (rests s e narrow) in
      let some = least_some at far rest e (ways s) (omega (arith, r, near)) in
      let w = some.1 in
      let i = inside s (some.0) e w narrow (some.2) in
      let n = ih w (i.0) (i.1) (i.2) (omega (arith, r, near, some.3)) in
      omega (arith, r, some.3, n)

  after : (s e sp : ℕ) → s < states → e < horizon → sp ≤ longest → rest s (e + sp) < far → (e + sp < horizon) ⊎ (horizon ≤ e + sp) → (e + sp < horizon → (e + sp) + rest s (e + sp) ≤ horizon + longest + most) → (e + sp) + rest s (e + sp) ≤ horizon + longest + most
  after s e sp narrow before short near (inl x) ih = ih x
  after s e sp narrow before short near (inr x) ih = let t = tail s (e + sp) narrow x near in omega arith

  pub near_before : (fuel s e : ℕ) → s < states → horizon ≤ e + fuel → e < horizon → rest s e < far → IsNear s e
  near_before zero s e narrow within before near = absurd (omega arith)
  near_before (suc fuel) s e narrow within before near =
      step_near s e (own s) narrow refl before near (λ w to goes short n. after w.to e (span at e w) to before short n (cases_lt (e + span at e w) horizon) (λ x. near_before fuel w.to (e + span at e w) to (omega arith) x n))

  pub near : (s e : ℕ) → s < states → rest s e < far → rest s e ≤ horizon + longest + most
  near s e narrow n = by (cases_lt e horizon)
    where
      by : (e < horizon) ⊎ (horizon ≤ e) → rest s e ≤ horizon + longest + most
      by (inl x) = let y = near_before horizon s e narrow (omega arith) x n in omega arith
      by (inr x) = let t = tail s e narrow x n in omega arith

-- the least label of a first link is the least time of a walk
module _ (g : Ways) (label : ℕ → ℕ → Option ℕ) (fit : AreLabels g label) (takes_time : (l e j : ℕ) → label l e ≡ Some j → 0 < g.at l e) (enter : ℕ → ℕ → ℕ) (begins : ℕ → Bool) (firsts : List ℕ) (are : AreFirsts begins firsts) where
  pub walk_begins : (s l k : ℕ) (rest : List ℕ) (b : Bool) → begins l ≡ b → cond b (later (enter l s - s) (path_after g l (enter l s) rest)) None ≡ Some k
      → (b ≡ true) × (j : ℕ) × (path_after g l (enter l s) rest ≡ Some j) × (enter l s - s + j ≡ k)
  walk_begins s l k rest true r h = let a = after_more (enter l s - s) k (path_after g l (enter l s) rest) h in (refl, a.0, a.1, a.2)
  walk_begins s l k rest false r h = cc

  -- the time over a first link is at most that of a walk which begins with it
  first_most : (s l j k : ℕ) (rest : List ℕ) → path_after g l (enter l s) rest ≡ Some j → enter l s - s + j ≡ k → (m : ℕ) × (first_label enter label s l ≡ Some m) × (m ≤ k)
  first_most s l j k rest takes is =
      let low = no_less g label fit l (enter l s) rest j takes in
      (enter l s - s + low.0, ap (λ o. later (enter l s - s) o) (low.1), omega (arith, low.2, is))

  pub least_is : (s m : ℕ) → IsFirstLeast (first_label enter label s) firsts m → IsLeastPath g enter begins s m
  unfolding path_time
  least_is s m f =
      let l = f.some.1 in
      let b : begins l ≡ true = are.starts (f.some.0) l (f.some.2) in
      let j = after_more (enter l s - s) m (label l (enter l s)) (f.some.3) in
      let w = some_walk g label fit takes_time (j.0) l (enter l s) (j.0) (omega arith) (j.1) in
      let takes : later (enter l s - s) (path_after g l (enter l s) (w.0)) ≡ Some m = ap (λ o. later (enter l s - s) o) (w.1) ∙ ap (λ n. Some n) (j.2) in
      record {
        some_walk = (l ∷ w.0, subst (λ c. cond c (later (enter l s - s) (path_after g l (enter l s) (w.0))) None ≡ Some m) (sym b) takes);
        no_less = none_less;
      }
    where
      none_less : (w : List ℕ) (k : ℕ) → path_time g enter begins s w ≡ Some k → m ≤ k
      none_less [] k h = cc
      none_less (l ∷ rest) k h =
          let b = walk_begins s l k rest (begins l) refl h in
          let i = are.listed l (b.0) in
          let low = first_most s l (b.1) k rest (b.2) (b.3) in
          let n = f.least (i.0) l (low.0) (i.1) (low.1) in
          omega (arith, n, low.2)

  pub none_is : (s : ℕ) → ((k l : ℕ) → slice_get firsts k ≡ Some l → first_label enter label s l ≡ None) → (w : List ℕ) → path_time g enter begins s w ≡ None
  unfolding path_time
  none_is s none [] = refl
  none_is s none (l ∷ rest) = by (path_time g enter begins s (l ∷ rest)) refl
    where
      by : (x : Option ℕ) → cond (begins l) (later (enter l s - s) (path_after g l (enter l s) rest)) None ≡ x → x ≡ None
      by None h = refl
      by (Some k) h =
          let b = walk_begins s l k rest (begins l) refl h in
          let i = are.listed l (b.0) in
          let low = first_most s l (b.1) k rest (b.2) (b.3) in
          let n = none (i.0) l (i.1) in
          let no : None ≡ Some (low.0) = sym n ∙ low.1 in
          cc

  -- a walk that follows the labels takes what they say
  pub follows_takes : (l e : ℕ) (rest : List ℕ) → Follows g label l e rest → path_after g l e rest ≡ label l e
  unfolding path_after
  follows_takes l e [] f = rw f (sym (fit.at_end l e f))
  follows_takes l e (b ∷ rest) f =
      let c = f.0 in
      let ih = follows_takes b (e + (g.at l e + c.wait)) rest f.1 in
      rw (c.goes, c.way, ih, c.next) (sym c.gives)

  pub chosen_is : (s m l : ℕ) (rest : List ℕ) → IsFirstLeast (first_label enter label s) firsts m → IsFirstChoice (first_label enter label s) firsts m l → Follows g label l (enter l s) rest → IsChosenPath g enter begins s (l ∷ rest)
  unfolding path_time
  chosen_is s m l rest f c follows =
      let b : begins l ≡ true = are.starts c.place l c.stands in
      let takes : later (enter l s - s) (path_after g l (enter l s) rest) ≡ Some m = ap (λ o. later (enter l s - s) o) (follows_takes l (enter l s) rest follows) ∙ c.gives in
      let time : path_time g enter begins s (l ∷ rest) ≡ Some m = subst (λ x. cond x (later (enter l s - s) (path_after g l (enter l s) rest)) None ≡ Some m) (sym b) takes in
      record { least = (m, least_is s m f, time); first = λ v h. first_of v (h ∙ time) }
    where
      first_of : (v : List ℕ) → path_time g enter begins s v ≡ Some m → lex_le (l ∷ rest) v ≡ true
      first_of [] h = cc
      first_of (d ∷ v) h =
          let b = walk_begins s d m v (begins d) refl h in
          let i = are.listed d (b.0) in
          let low = no_less g label fit d (enter d s) v (b.1) (b.2) in
          let told : first_label enter label s d ≡ Some (enter d s - s + low.0) = ap (λ o. later (enter d s - s) o) (low.1) in
          let n = f.least (i.0) d (enter d s - s + low.0) (i.1) told in
          let same : low.0 ≡ b.1 = omega (arith, n, low.2, b.3) in
          let not_before : d < l → ⊥ = λ less. let x = c.first (i.0) d (enter d s - s + low.0) (i.1) less told in omega (arith, x, same, b.3) in
          let labelled : path_after g d (enter d s) v ≡ label d (enter d s) = b.2 ∙ ap (λ x. Some x) (sym same) ∙ sym (low.1) in
          let then : l ≡ d → lex_le rest v ≡ true = λ e. comes_first g label fit l (enter l s) rest v follows (subst (λ x. path_after g x (enter x s) v ≡ label x (enter x s)) (sym e) labelled) in
          lex_step g label fit l d rest v not_before then
