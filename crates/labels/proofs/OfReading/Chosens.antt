-- The first link and the links that follow are the chosen walk.
use Rattle.std.proofs.Common.{◌≡◌, ◌⊎◌, inl, inr, ℕ, ◌≤◌, ◌<◌, Bool, List, length, ap, sym, ◌∙◌, subst, arith, Some}
use Rattle.std.specs.Prelude.{slice_get}
use Rattle.std.proofs.lemmas.Bool.{cases_lt}
use Rattle.std.proofs.lemmas.Option.{slice_get_within}
use Rattle.net_core.specs.declared.rows.NetRows.{NetRows}
use Rattle.labels.specs.Reading.FirstLinks.{AreFirsts, first_label}
use Rattle.labels.specs.Reading.Paths.{IsChosenPath}
use Rattle.labels.specs.States.Routers.{ways_to}
use Rattle.labels.specs.Reading.Serves.{label_in, IsBest, IsFollowed, Serves}
use Rattle.labels.specs.declared.states.router.Router.{Router}
use Rattle.labels.proofs.OfReading.Joined.{chosen_is}
use Rattle.labels.proofs.OfReading.Leasts.{are_labels_of, goes_some}

module _ (net : NetRows) (zone : ℕ) (at rest : ℕ → ℕ → ℕ) (r : Router) (v : Serves net zone at rest r) (enter : ℕ → ℕ → ℕ) (begins : ℕ → Bool) (firsts : List ℕ) (are : AreFirsts begins firsts) where
  pub chosen_of : (s m l : ℕ) (route : List ℕ) → ((i k a b : ℕ) → i < k → slice_get firsts i ≡ Some a → slice_get firsts k ≡ Some b → a < b)
      → IsBest (first_label enter (label_in at rest r) s) firsts (length firsts) l m
      → IsFollowed (ways_to at net zone) (label_in at rest r) l (enter l s) route → IsChosenPath (ways_to at net zone) enter begins s route
  chosen_of s m l route rising best follows =
      subst (λ w. IsChosenPath (ways_to at net zone) enter begins s w) (sym (follows.1))
      (chosen_is (ways_to at net zone) (label_in at rest r) (are_labels_of net zone at rest r v) (goes_some net zone at rest r v) enter begins firsts are s m l (follows.0)
      (record { some = (best.place, l, best.stands, best.gives); least = λ k l x q e. best.least k l x (slice_get_within firsts k l q) q e })
      (record { place = best.place; stands = best.stands; gives = best.gives; first = λ k c x q less e. best.first k c x (before_it k c q less (cases_lt k best.place)) q e })
      (follows.2))
    where
      before_it : (k c : ℕ) → slice_get firsts k ≡ Some c → c < l → (k < best.place) ⊎ (best.place ≤ k) → k < best.place
      before_it k c q less (inl b) = b
      before_it k c q less (inr b) = by (cases_lt best.place k)
        where
          by : (best.place < k) ⊎ (k ≤ best.place) → k < best.place
          by (inl x) = let n = rising best.place k l c x best.stands q in absurd (omega (arith, n, less))
          by (inr x) = let same : k ≡ best.place = omega arith in let e : Some c ≡ Some l = sym q ∙ ap (λ n. slice_get firsts n) same ∙ best.stands in absurd (let z : c ≡ l = cc in omega (arith, z, less))
