-- The states that a board showed, where all that was posted are the states of a loading's steps.
use Rattle.std.proofs.Common.{arith, ◌≡◌, ◌<◌, ◌≤◌, ◌+◌, ℕ, zero, suc, List, [], ◌∷◌, ◌++◌}
use Rattle.std.proofs.Common.{refl, sym, ap, ◌∙◌, append_assoc}
use Rattle.std.specs.Prelude.{map, true}
use Rattle.std.proofs.lemmas.List.{append-nil}
use Rattle.std.proofs.lemmas.List.FromFn.{map-range_with_len_more}
use Rattle.dta_model.specs.State.{eight_after, eight_in}
use Rattle.dta_model.specs.declared.eight.Eight.{Eight}
use Rattle.dta_model.specs.declared.plan.Plan.{Plan}
use Rattle.monitors.specs.Posted.{IsPrefix, last_of}
use Rattle.monitors.proofs.Lists.{last_of-push}
use Rattle.phase_claims.specs.PlacesHome.{posted_in}
use Rattle.phase_claims.proofs.PlacesShown.{states_are_shown}
use Rattle.pending_text.specs.Outs.{OutText}
use Rattle.reports.specs.Watch.{multiples, rises_from, text_after, watch_text}
use Rattle.loader.specs.Watching.{AreShown, IsShown, last_from, steps_of}
use Rattle.loader.proofs.Steps.{multiples-less, rises-cons}

-- ---- more is posted, and more is shown

prefix-more : (xs ys zs : List Eight) → IsPrefix xs ys → IsPrefix ys zs → IsPrefix xs zs
prefix-more xs ys zs a b = (
  a.0 ++ b.0,
  b.1 ∙ ap (λ (l : List Eight). l ++ b.0) a.1 ∙ append_assoc xs a.0 b.0,
)

pub shown-later : (posted more : List Eight) (every n : ℕ) (states : List Eight) → IsPrefix posted more
    → AreShown posted every n states → AreShown more every n states
shown-later posted more every n [] b s = tt
shown-later posted more every n (e ∷ states) b s = (
  record { front = s.0.front; begins = prefix-more s.0.front posted more s.0.begins b; last = s.0.last },
  s.1,
  shown-later posted more every e.steps states b s.2,
)

pub shown-push : (posted : List Eight) (every n : ℕ) (states : List Eight) (e : Eight) → AreShown posted every n states
    → IsShown posted e → multiples every (last_from n (steps_of states)) < multiples every e.steps → AreShown posted every n (states ++ e ∷ [])
shown-push posted every n [] e s shown more = (shown, more, tt)
shown-push posted every n (x ∷ states) e s shown more = (s.0, s.1, shown-push posted every x.steps states e s.2 shown more)

pub last-push : (n : ℕ) (states : List Eight) (e : Eight) → last_from n (steps_of (states ++ e ∷ [])) ≡ e.steps
last-push n [] e = refl
last-push n (x ∷ states) e = last-push x.steps states e

-- the last state that was posted was shown
pub shown-last : (posted : List Eight) (e : Eight) → e ≡ last_of posted → IsShown posted e
shown-last posted e is = record { front = posted; begins = ([], sym (append-nil posted)); last = is }

-- ---- their steps rise

pub shown-rise : (posted : List Eight) (every n : ℕ) (states : List Eight) → 1 ≤ every
    → AreShown posted every n states → rises_from n (steps_of states) ≡ true
shown-rise posted every n [] pos s = refl
shown-rise posted every n (e ∷ states) pos s =
    rises-cons n e.steps (steps_of states) (multiples-less every n e.steps pos s.1) (shown-rise posted every e.steps states pos s.2)

pub shown-apart : (posted : List Eight) (every n : ℕ) (states : List Eight)
    → AreShown posted every n states → rises_from (multiples every n) (map (multiples every) (steps_of states)) ≡ true
shown-apart posted every n [] s = refl
shown-apart posted every n (e ∷ states) s =
    rises-cons (multiples every n) (multiples every e.steps) (map (multiples every) (steps_of states)) s.1
    (shown-apart posted every e.steps states s.2)

-- ---- the states of a loading's steps

module _ (p : Plan) where
  pub steps-after : (t : ℕ) → (eight_after p t).steps ≡ t
  unfolding eight_after eight_in
  steps-after t = refl

  pub record IsAfter (horizon : ℕ) (e : Eight) : Type 0 where
    pub is : e ≡ eight_after p e.steps
    pub within : e.steps ≤ horizon

  -- a state that was shown is that after its steps
  pub is-after : (e : Eight) → IsShown (posted_in p p.horizon) e → IsAfter p.horizon e
  is-after e s =
      let at = states_are_shown p p.horizon s.front s.begins in
      let is : e ≡ eight_after p at.0 = s.last ∙ at.2 in
      let steps : e.steps ≡ at.0 = ap (λ (x : Eight). x.steps) is ∙ steps-after at.0 in
      let within : at.0 ≤ p.horizon = at.1 in
      record { is = is ∙ ap (eight_after p) (sym steps); within = omega (arith, steps, within) }

  -- the last state of all is that after the last step
  pub last-posted : (horizon : ℕ) → 1 ≤ horizon → last_of (posted_in p horizon) ≡ eight_after p horizon
  last-posted zero far = absurd (omega (arith, far))
  last-posted (suc n) far =
      let after : ℕ → Eight = λ (t : ℕ). eight_after p (suc t) in
      let same : suc n ≡ n + 1 = omega arith in
      let more : posted_in p (n + 1) ≡ posted_in p n ++ after n ∷ [] = map-range_with_len_more after 0 n n (omega arith) in
      ap last_of (ap (posted_in p) same ∙ more) ∙ last_of-push (posted_in p n) (after n)

  pub last-within : (every n : ℕ) (states : List Eight) → n ≤ p.horizon
      → AreShown (posted_in p p.horizon) every n states → last_from n (steps_of states) ≤ p.horizon
  last-within every n [] h s = h
  last-within every n (e ∷ states) h s = last-within every e.steps states (is-after e s.0).within s.2

  pub lines-are : (iteration every n : ℕ) (states : List Eight) → AreShown (posted_in p p.horizon) every n states
      → map (watch_text iteration) states ≡ map (text_after iteration p) (steps_of states)
  lines-are iteration every n [] s = refl
  lines-are iteration every n (e ∷ states) s =
      ap (λ (x : Eight). watch_text iteration x ∷ map (watch_text iteration) states) (is-after e s.0).is
      ∙ ap (λ (l : List OutText). text_after iteration p e.steps ∷ l) (lines-are iteration every e.steps states s.2)
