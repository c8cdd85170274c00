-- Labels that fit together are least times.
use Rattle.std.proofs.Common.{◌≡◌, ℕ, zero, suc, ◌+◌, ◌≤◌, ◌<◌, Bool, true, false, cond, List, [], ◌∷◌, refl, ap, sym, ◌∙◌, subst, arith, Option, Some, None}
use Rattle.std.proofs.lemmas.Bool.Decides.{nat_tests}
use Rattle.labels.specs.Reading.Paths.{Ways, later, path_after, lex_le}
use Rattle.labels.specs.Reading.Follows.{Follows}
use Rattle.labels.proofs.Basics.{some_same}

-- labels that fit together: at the zone the link's own time; before it the least over the turns, which one of them gives
pub record AreLabels (g : Ways) (label : ℕ → ℕ → Option ℕ) : Type 0 where
  pub at_end : (l e : ℕ) → g.ends l ≡ true → label l e ≡ Some (g.at l e)
  pub bound : (l e b wait k : ℕ) → g.ends l ≡ false → g.turn l b ≡ Some wait → label b (e + (g.at l e + wait)) ≡ Some k → (j : ℕ) × (label l e ≡ Some j) × (j ≤ g.at l e + wait + k)
  pub attained : (l e j : ℕ) → g.ends l ≡ false → label l e ≡ Some j → (b : ℕ) × (wait : ℕ) × (k : ℕ) × (g.turn l b ≡ Some wait) × (label b (e + (g.at l e + wait)) ≡ Some k) × (j ≡ g.at l e + wait + k)

module _ (g : Ways) (label : ℕ → ℕ → Option ℕ) (fit : AreLabels g label) where
  -- the label at a link and step is at most m
  abbrev AtMost : ℕ → ℕ → ℕ → Type 0
  AtMost l e m = (j : ℕ) × (label l e ≡ Some j) × (j ≤ m)

  ends_here : (l e m : ℕ) (b : Bool) → g.ends l ≡ b → cond b (Some (g.at l e)) None ≡ Some m → AtMost l e m
  ends_here l e m true r h = (g.at l e, fit.at_end l e r, grind arith)
  ends_here l e m false r h = cc

  goes_on : (l e b wait m : ℕ) (after : Option ℕ) → g.ends l ≡ false → g.turn l b ≡ Some wait → later (g.at l e + wait) after ≡ Some m → ((k : ℕ) → after ≡ Some k → AtMost b (e + (g.at l e + wait)) k) → AtMost l e m
  goes_on l e b wait m None not_end way h ih = cc
  goes_on l e b wait m (Some k) not_end way h ih =
      let here = ih k refl in
      let there = fit.bound l e b wait (here.0) not_end way (here.1) in
      let same : g.at l e + wait + k ≡ m = some_same _ _ h in
      (there.0, there.1, omega arith)

  turns : (l e b m : ℕ) (rest : List ℕ) (c : Bool) (way : Option ℕ) → g.ends l ≡ c → g.turn l b ≡ way
      → cond c None (elim way as (λ _. Option ℕ) [ None ↦ None | Some wait ↦ later (g.at l e + wait) (path_after g b (e + (g.at l e + wait)) rest) ]) ≡ Some m
      → ((f k : ℕ) → path_after g b f rest ≡ Some k → AtMost b f k) → AtMost l e m
  turns l e b m rest true way r t h ih = cc
  turns l e b m rest false None r t h ih = cc
  turns l e b m rest false (Some wait) r t h ih = goes_on l e b wait m _ r t h (ih (e + (g.at l e + wait)))

  -- no walk takes less than the label
  pub no_less : (l e : ℕ) (rest : List ℕ) (m : ℕ) → path_after g l e rest ≡ Some m → AtMost l e m
  unfolding path_after
  no_less l e [] m h = ends_here l e m (g.ends l) refl h
  no_less l e (b ∷ rest) m h = turns l e b m rest (g.ends l) (g.turn l b) refl refl h (λ f. no_less b f rest)

  -- where links take time, some walk takes what the label says
  module _ (takes_time : (l e j : ℕ) → label l e ≡ Some j → 0 < g.at l e) where
    -- a walk that takes j
    abbrev Takes : ℕ → ℕ → ℕ → Type 0
    Takes l e j = (rest : List ℕ) × (path_after g l e rest ≡ Some j)

    at_zone : (l e j : ℕ) → g.ends l ≡ true → label l e ≡ Some j → Takes l e j
    unfolding path_after
    at_zone l e j r h = let own : g.at l e ≡ j = some_same _ _ (sym (fit.at_end l e r) ∙ h) in ([], rw r (ap (λ x. Some x) own))

    by_turn : (l e b wait k : ℕ) → g.ends l ≡ false → g.turn l b ≡ Some wait → Takes b (e + (g.at l e + wait)) k → Takes l e (g.at l e + wait + k)
    unfolding path_after
    by_turn l e b wait k r t after = (b ∷ after.0, rw (r, t, after.1) refl)

    on_from : (l e j fuel : ℕ) (c : Bool) → g.ends l ≡ c → j ≤ suc fuel → label l e ≡ Some j → ((b f k : ℕ) → k ≤ fuel → label b f ≡ Some k → Takes b f k) → Takes l e j
    on_from l e j fuel true r within h ih = at_zone l e j r h
    on_from l e j fuel false r within h ih =
        let a = fit.attained l e j r h in
        let positive : 0 < g.at l e = takes_time l e j h in
        let less : a.2 ≤ fuel = omega (arith, a.5) in
        subst (λ x. Takes l e x) (sym (a.5)) (by_turn l e (a.0) (a.1) (a.2) r (a.3) (ih (a.0) (e + (g.at l e + a.1)) (a.2) less (a.4)))

    positive : (l e j : ℕ) (c : Bool) → g.ends l ≡ c → label l e ≡ Some j → 0 < j
    positive l e j true r h = let own : g.at l e ≡ j = some_same _ _ (sym (fit.at_end l e r) ∙ h) in let p : 0 < g.at l e = takes_time l e j h in omega arith
    positive l e j false r h = let a = fit.attained l e j r h in let p : 0 < g.at l e = takes_time l e j h in omega (arith, a.5)

    pub some_walk : (fuel l e j : ℕ) → j ≤ fuel → label l e ≡ Some j → Takes l e j
    some_walk zero l e j within h = let p : 0 < j = positive l e j (g.ends l) refl h in absurd (omega arith)
    some_walk (suc fuel) l e j within h = on_from l e j fuel (g.ends l) refl within h (λ b f k. some_walk fuel b f k)

  through : (l e c m : ℕ) (v : List ℕ) (way : Option ℕ) (after : ℕ → Option ℕ) → g.ends l ≡ false → g.turn l c ≡ way → ((w : ℕ) → after w ≡ path_after g c (e + (g.at l e + w)) v)
      → elim way as (λ _. Option ℕ) [ None ↦ None | Some wait ↦ later (g.at l e + wait) (after wait) ] ≡ Some m
      → (w : ℕ) × (k : ℕ) × (g.turn l c ≡ Some w) × (path_after g c (e + (g.at l e + w)) v ≡ Some k) × (g.at l e + w + k ≡ m)
  through l e c m v None after n t s h = cc
  through l e c m v (Some wait) after n t s h = inner (after wait) refl h
    where
      inner : (x : Option ℕ) → after wait ≡ x → later (g.at l e + wait) x ≡ Some m → (w : ℕ) × (k : ℕ) × (g.turn l c ≡ Some w) × (path_after g c (e + (g.at l e + w)) v ≡ Some k) × (g.at l e + w + k ≡ m)
      inner None r q = cc
      inner (Some k) r q = (wait, k, t, sym (s wait) ∙ r, some_same _ _ q)

  pub lex_step : (b c : ℕ) (xs ys : List ℕ) → (c < b → ⊥) → (b ≡ c → lex_le xs ys ≡ true) → lex_le (b ∷ xs) (c ∷ ys) ≡ true
  lex_step b c xs ys n h = grind (arith, nat_tests)

  pub same_way : (l e b c wait w rest k : ℕ) (v : List ℕ) → b ≡ c → g.turn l b ≡ Some wait → g.turn l c ≡ Some w → g.at l e + w + k ≡ g.at l e + wait + rest → path_after g c (e + (g.at l e + w)) v ≡ Some k → path_after g b (e + (g.at l e + wait)) v ≡ Some rest
  same_way l e b c wait w rest k v same tb tc total time =
      let waits : wait ≡ w = some_same _ _ (cc) in
      let rests : k ≡ rest = omega arith in
      cc

  -- it comes first among the walks of its time
  pub comes_first : (l e : ℕ) (rest v : List ℕ) → Follows g label l e rest → path_after g l e v ≡ label l e → lex_le rest v ≡ true
  unfolding path_after
  comes_first l e [] v f h = refl
  comes_first l e (b ∷ rest) [] f h =
      let no : None ≡ Some (g.at l e + f.0.wait + f.0.rest) = rw f.0.goes at h ∙ f.0.gives in
      cc
  comes_first l e (b ∷ rest) (c ∷ v) f h =
      let q = rw f.0.goes at h in
      let x = through l e c (g.at l e + f.0.wait + f.0.rest) v (g.turn l c) (λ w. path_after g c (e + (g.at l e + w)) v) f.0.goes refl (λ w. refl) (q ∙ f.0.gives) in
      let lower = no_less c (e + (g.at l e + x.0)) v (x.1) (x.3) in
      let upper = fit.bound l e c (x.0) (lower.0) f.0.goes (x.2) (lower.1) in
      let own : upper.0 ≡ g.at l e + f.0.wait + f.0.rest = some_same _ _ (sym (upper.1) ∙ f.0.gives) in
      let not_before : c < b → ⊥ = λ less. let more : g.at l e + f.0.wait + f.0.rest < g.at l e + x.0 + lower.0 = f.0.first c (x.0) (lower.0) less (x.2) (lower.1) in omega (arith, lower.2, x.4) in
      let then : b ≡ c → lex_le rest v ≡ true = λ same. comes_first b (e + (g.at l e + f.0.wait)) rest v f.1 (same_way l e b c f.0.wait (x.0) f.0.rest (x.1) v same f.0.way (x.2) (x.4) (x.3) ∙ sym f.0.next) in
      lex_step b c rest v not_before then
