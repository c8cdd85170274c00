-- The list of a search grows by ways on that are tried one after another, and begins with first links.
use Rattle.std.proofs.Common.{◌≡◌, ◌⊎◌, inl, inr, ℕ, ◌+◌, ◌≤◌, ◌<◌, List, [], ◌∷◌, ◌++◌, length, ap, sym, ◌∙◌, subst, arith, Option, Some, append_assoc}
use Rattle.std.specs.Prelude.{slice_get}
use Rattle.std.proofs.lemmas.Bool.{cases_lt}
use Rattle.std.proofs.lemmas.Option.{slice_get_within}
use Rattle.std.proofs.lemmas.List.{append-nil}
use Rattle.labels.specs.declared.states.onward.Onward.{Onward}
use Rattle.labels.specs.declared.reading.reached.Reached.{Reached}
use Rattle.labels.specs.Filling.Rests.{span, over, AreOrdered}
use Rattle.labels.specs.Reading.FirstLinks.{first_label}
use Rattle.labels.specs.Reading.Fewest.{Puts, IsTried, IsGoneOn, IsTriedFirst, AreStarted}
use Rattle.labels.proofs.Basics.{some_same}
use Rattle.labels.proofs.OfReading.FewestPaths.{get_kept, get_last, old_or_last}

-- one place more of a list is an old one or the new one
upto : (P : ℕ → Type 0) (n k : ℕ) → k < n + 1 → ((k : ℕ) → k < n → P k) → P n → P k
upto P n k small before now = by (cases_lt k n)
  where
    by : (k < n) ⊎ (n ≤ k) → P k
    by (inl a) = before k a
    by (inr a) = let same : n ≡ k = omega arith in subst P same now

module _ (at : ℕ → ℕ → ℕ) (far : ℕ) (rest : ℕ → ℕ → ℕ) (place step left : ℕ) (ways : List Onward) (old : List Reached) where
  abbrev Gone : ℕ → List Reached → Type 0
  Gone count new = IsGoneOn at far rest place step left ways count old new

  -- a way on is met by the list
  abbrev Covers : List Reached → Onward → Type 0
  Covers new w = over at far rest step w ≡ left → (j : ℕ) × (q : Reached) × (slice_get new j ≡ Some q) × (q.state ≡ w.to) × (q.step ≡ step + span at step w) × (length old ≤ j → q.link ≤ w.link)

  pub gone_none : Gone 0 old
  gone_none = record {
    kept = ([], sym (append-nil old));
    added = λ i q k e. absurd (let w = slice_get_within old i q e in omega (arith, w));
    rising = λ i j a b k l e f. absurd (let w = slice_get_within old i a e in omega (arith, w));
    covers = λ k w l. absurd (omega arith);
  }

  module _ (count : ℕ) (w : Onward) (mid : List Reached) (ordered : AreOrdered ways) (stands : slice_get ways count ≡ Some w) (g : Gone count mid) where
    covers_all : (new : List Reached) → ((k : ℕ) (u : Onward) → k < count → slice_get ways k ≡ Some u → Covers new u) → Covers new w → (k : ℕ) (u : Onward) → k < count + 1 → slice_get ways k ≡ Some u → Covers new u
    covers_all new before now k u small e = upto (λ n. (u : Onward) → slice_get ways n ≡ Some u → Covers new u) count k small (λ n l u e. before n u l e) (λ u e. subst (λ x. Covers new x) (some_same w u (sym stands ∙ e)) now) u e

    -- what is new comes from an earlier way
    lower : (i : ℕ) (q : Reached) → length old ≤ i → slice_get mid i ≡ Some q → q.link < w.link
    lower i q k e = let a = g.added i q k e in let n = ordered (a.1.0) count (a.1.1) w (a.1.2) (a.1.3) stands in omega (arith, n, a.1.5)

    gone_same : Covers mid w → Gone (count + 1) mid
    gone_same c = record {
      kept = g.kept;
      added = λ i q k e. (let a = g.added i q k e in (a.0, (a.1.0, a.1.1, omega (arith, a.1.2), a.1.3, a.1.4, a.1.5, a.1.6, a.1.7)));
      rising = g.rising;
      covers = λ k u l e o. covers_all mid (λ k u l e o. g.covers k u l e o) c k u l e o;
    }

    module _ (new : List Reached) (meets : over at far rest step w ≡ left) (p : Puts mid new w.link w.to (step + span at step w) place) where
      cases_at : (i : ℕ) (q : Reached) → slice_get new i ≡ Some q → ((i < length mid) × (slice_get mid i ≡ Some q)) ⊎ ((i ≡ length mid) × (q ≡ p.last))
      cases_at i q e = old_or_last mid p.last i q (sym (ap (λ xs. slice_get xs i) p.grown) ∙ e)

      is_last : slice_get new (length mid) ≡ Some p.last
      is_last = ap (λ xs. slice_get xs (length mid)) p.grown ∙ get_last mid p.last

      kept_get : (i : ℕ) (q : Reached) → slice_get mid i ≡ Some q → slice_get new i ≡ Some q
      kept_get i q e = ap (λ xs. slice_get xs i) p.grown ∙ get_kept mid (p.last ∷ []) i q e

      abbrev Added : Reached → Type 0
      Added q = (q.before ≡ place) × ((k : ℕ) × (u : Onward) × (k < count + 1) × (slice_get ways k ≡ Some u) × (over at far rest step u ≡ left) × (q.link ≡ u.link) × (q.state ≡ u.to) × (q.step ≡ step + span at step u))

      added_last : Added p.last
      added_last = (p.before, (count, w, omega arith, stands, meets, p.link, p.state, p.step))

      added_by : (i : ℕ) (q : Reached) → length old ≤ i → ((i < length mid) × (slice_get mid i ≡ Some q)) ⊎ ((i ≡ length mid) × (q ≡ p.last)) → Added q
      added_by i q k (inl x) = let a = g.added i q k (x.1) in (a.0, (a.1.0, a.1.1, omega (arith, a.1.2), a.1.3, a.1.4, a.1.5, a.1.6, a.1.7))
      added_by i q k (inr x) = subst (λ y. Added y) (sym (x.1)) added_last

      rising_by : (i j : ℕ) (a b : Reached) → length old ≤ i → i < j → ((i < length mid) × (slice_get mid i ≡ Some a)) ⊎ ((i ≡ length mid) × (a ≡ p.last)) → ((j < length mid) × (slice_get mid j ≡ Some b)) ⊎ ((j ≡ length mid) × (b ≡ p.last)) → a.link < b.link
      rising_by i j a b k less (inl x) (inl y) = g.rising i j a b k less (x.1) (y.1)
      rising_by i j a b k less (inl x) (inr y) = let n = lower i a k (x.1) in let l : b.link ≡ w.link = ap (λ z. z.link) (y.1) ∙ p.link in omega (arith, n, l)
      rising_by i j a b k less (inr x) (inl y) = absurd (omega (arith, x.0, y.0))
      rising_by i j a b k less (inr x) (inr y) = absurd (omega (arith, x.0, y.0))

      gone_put : Gone (count + 1) new
      gone_put = record {
        kept = (g.kept.0 ++ p.last ∷ [], p.grown ∙ ap (λ xs. xs ++ p.last ∷ []) (g.kept.1) ∙ append_assoc old (g.kept.0) (p.last ∷ []));
        added = λ i q k e. added_by i q k (cases_at i q e);
        rising = λ i j a b k l e f. rising_by i j a b k l (cases_at i a e) (cases_at j b f);
        covers = λ k u l e o. covers_all new (λ k u l e o. (let c = g.covers k u l e o in (c.0, c.1, kept_get (c.0) (c.1) (c.2), c.3, c.4, c.5)))
            (λ o. (length mid, p.last, is_last, p.state, p.step, λ k. (let l = p.link in omega (arith, l)))) k u l e o;
      }

    pub gone_more : (new : List Reached) → IsTried at far rest place step left w mid new → Gone (count + 1) new
    gone_more new (inl t) = subst (λ xs. Gone (count + 1) xs) (sym (t.1)) (gone_same (λ o. absurd (t.0 o)))
    gone_more new (inr (o, inl t)) =
        subst (λ xs. Gone (count + 1) xs) (sym (t.0)) (gone_same (λ o. (t.1.0, t.1.1.0, t.1.1.1, t.1.1.2, t.1.1.3, λ k. (let n = lower (t.1.0) (t.1.1.0) k (t.1.1.1) in omega (arith, n)))))
    gone_more new (inr (o, inr p)) = gone_put new o p

module _ (at : ℕ → ℕ → ℕ) (label : ℕ → ℕ → Option ℕ) (enter : ℕ → ℕ → ℕ) (state : ℕ → ℕ) (firsts : List ℕ) (s m : ℕ) where
  abbrev Started : ℕ → List Reached → Type 0
  Started = AreStarted at label enter state firsts s m

  pub started_none : Started 0 []
  started_none = record {
    added = λ i q e. absurd (let w = slice_get_within [] i q e in omega (arith, w));
    rising = λ i j a b k e f. absurd (let w = slice_get_within [] i a e in omega (arith, w));
    covers = λ k l n. absurd (omega arith);
  }

  module _ (count l : ℕ) (old : List Reached) (stands : slice_get firsts count ≡ Some l) (g : Started count old) where
    -- a first link is met by the list
    abbrev Meets : List Reached → ℕ → Type 0
    Meets new k = first_label enter label s k ≡ Some m → (j : ℕ) × (q : Reached) × (slice_get new j ≡ Some q) × (q.link ≡ k)

    meets_all : (new : List Reached) → ((k n : ℕ) → k < count → slice_get firsts k ≡ Some n → Meets new n) → Meets new l → (k n : ℕ) → k < count + 1 → slice_get firsts k ≡ Some n → Meets new n
    meets_all new before now k n small e = upto (λ i. (n : ℕ) → slice_get firsts i ≡ Some n → Meets new n) count k small (λ i b n e. before i n b e) (λ n e. subst (λ x. Meets new x) (some_same l n (sym stands ∙ e)) now) n e

    pub started_same : (first_label enter label s l ≡ Some m → ⊥) → Started (count + 1) old
    started_same other = record {
      added = λ i q e. (let a = g.added i q e in (a.0, a.1, a.2, a.3, (a.4.0, omega (arith, a.4.1), a.4.2)));
      rising = g.rising;
      covers = λ k n b e t. meets_all old (λ k n b e t. g.covers k n b e t) (λ t. absurd (other t)) k n b e t;
    }

    module _ (rising : (i k a b : ℕ) → i < k → slice_get firsts i ≡ Some a → slice_get firsts k ≡ Some b → a < b) (new : List Reached) (is : first_label enter label s l ≡ Some m)
        (p : Puts old new l (state l) (enter l s + at l (enter l s)) (length old)) where
      first_cases : (i : ℕ) (q : Reached) → slice_get new i ≡ Some q → ((i < length old) × (slice_get old i ≡ Some q)) ⊎ ((i ≡ length old) × (q ≡ p.last))
      first_cases i q e = old_or_last old p.last i q (sym (ap (λ xs. slice_get xs i) p.grown) ∙ e)

      first_kept : (i : ℕ) (q : Reached) → slice_get old i ≡ Some q → slice_get new i ≡ Some q
      first_kept i q e = ap (λ xs. slice_get xs i) p.grown ∙ get_kept old (p.last ∷ []) i q e

      abbrev FirstAdded : ℕ → Reached → Type 0
      FirstAdded i q = (i ≤ q.before) × (q.state ≡ state q.link) × (q.step ≡ enter q.link s + at q.link (enter q.link s)) × (first_label enter label s q.link ≡ Some m) × ((k : ℕ) × (k < count + 1) × (slice_get firsts k ≡ Some q.link))

      first_last : FirstAdded (length old) p.last
      first_last = (
        (let b = p.before in omega (arith, b)),
        p.state ∙ ap (λ n. state n) (sym p.link),
        p.step ∙ ap (λ n. enter n s + at n (enter n s)) (sym p.link),
        ap (λ n. first_label enter label s n) p.link ∙ is,
        (count, omega arith, stands ∙ ap (λ n. Some n) (sym p.link)),
      )

      first_added : (i : ℕ) (q : Reached) → ((i < length old) × (slice_get old i ≡ Some q)) ⊎ ((i ≡ length old) × (q ≡ p.last)) → FirstAdded i q
      first_added i q (inl x) = let a = g.added i q (x.1) in (a.0, a.1, a.2, a.3, (a.4.0, omega (arith, a.4.1), a.4.2))
      first_added i q (inr x) = subst (λ n. FirstAdded n q) (sym (x.0)) (subst (λ y. FirstAdded (length old) y) (sym (x.1)) first_last)

      first_rising : (i j : ℕ) (a b : Reached) → i < j → ((i < length old) × (slice_get old i ≡ Some a)) ⊎ ((i ≡ length old) × (a ≡ p.last)) → ((j < length old) × (slice_get old j ≡ Some b)) ⊎ ((j ≡ length old) × (b ≡ p.last)) → a.link < b.link
      first_rising i j a b less (inl x) (inl y) = g.rising i j a b less (x.1) (y.1)
      first_rising i j a b less (inl x) (inr y) =
          let c = g.added i a (x.1) in
          let n = rising (c.4.0) count a.link l (c.4.1) (c.4.2) stands in
          let t : b.link ≡ l = ap (λ z. z.link) (y.1) ∙ p.link in
          omega (arith, n, t)
      first_rising i j a b less (inr x) (inl y) = absurd (omega (arith, x.0, y.0))
      first_rising i j a b less (inr x) (inr y) = absurd (omega (arith, x.0, y.0))

      pub started_put : Started (count + 1) new
      started_put = record {
        added = λ i q e. first_added i q (first_cases i q e);
        rising = λ i j a b k e f. first_rising i j a b k (first_cases i a e) (first_cases j b f);
        covers = λ k n b e t. meets_all new (λ k n b e t. (let c = g.covers k n b e t in (c.0, c.1, first_kept (c.0) (c.1) (c.2), c.3)))
            (λ t. (length old, p.last, ap (λ xs. slice_get xs (length old)) p.grown ∙ get_last old p.last, p.link)) k n b e t;
      }

    pub started_more : (rising : (i k a b : ℕ) → i < k → slice_get firsts i ≡ Some a → slice_get firsts k ≡ Some b → a < b) (new : List Reached) → IsTriedFirst at label enter state s m l old new → Started (count + 1) new
    started_more rising new (inl t) = subst (λ xs. Started (count + 1) xs) (sym (t.1)) (started_same (t.0))
    started_more rising new (inr t) = started_put rising new (t.0) (t.1)
