-- The scenarios of rounds, one round after another.
use Rattle.std.proofs.Common.{◌≡◌, ℕ, suc, zero, ◌-◌, ◌<◌, ◌≤◌, List, [], ◌∷◌, ◌++◌, length, take, drop, get_or, map, sym, ap, subst, arith, refl, ◌∙◌, append_assoc}
use Rattle.std.specs.Prelude.{Result, Ok, IfOk}
use Rattle.std.specs.List.{AllZip}
use Rattle.std.specs.declared.alloc.AllocError.{AllocError}
use Rattle.std.proofs.lemmas.List.{append-nil, map-append, take_all}
use Rattle.net_core.specs.declared.rows.NetRows.{NetRows}
use Rattle.dta_model.specs.declared.trip.DemandCell.{DemandCell}
use Rattle.dta_words.specs.declared.command.Settings.{Settings}
use Rattle.sweep.specs.Rounds.{AreKept}
use Rattle.sweep.specs.Scenarios.{AreScenarios, IsScenario}
use Rattle.sweep.specs.declared.scenario.Scenario.{Scenario}

-- lists whose elements stand one to one, from each place
pub zip-from : {A B : Type 0} (R : A → B → Type 0) (xs : List A) (ys : List B) → length ys ≡ length xs
    → ((k : ℕ) (d : A) (e : B) → k < length xs → R (get_or xs k d) (get_or ys k e)) → AllZip R xs ys
zip-from R [] [] e f = tt
zip-from R [] (y ∷ ys) e f = absurd (omega (arith, e))
zip-from R (x ∷ xs) [] e f = absurd (omega (arith, e))
zip-from R (x ∷ xs) (y ∷ ys) e f =
    (f 0 x y (omega arith), zip-from R xs ys (omega (arith, e)) (λ k d z h. f (suc k) d z (omega (arith, h))))

zip-append : {A B : Type 0} (R : A → B → Type 0) (xs others : List A) (ys more : List B)
    → AllZip R xs ys → AllZip R others more → AllZip R (xs ++ others) (ys ++ more)
zip-append R [] others [] more h k = k
zip-append R [] others (y ∷ ys) more h k = absurd h
zip-append R (x ∷ xs) others [] more h k = absurd h
zip-append R (x ∷ xs) others (y ∷ ys) more h k = (h.0, zip-append R xs others ys more h.1 k)

-- all came
zip-came : {A B : Type 0} (R : A → B → Type 0) (xs : List A) (ys : List B)
    → AllZip (λ x (r : Result B AllocError). IfOk r (R x)) xs (map (λ y. Ok y) ys) → AllZip R xs ys
zip-came R [] [] h = tt
zip-came R [] (y ∷ ys) h = absurd h
zip-came R (x ∷ xs) [] h = absurd h
zip-came R (x ∷ xs) (y ∷ ys) h = (h.0, zip-came R xs ys h.1)

-- the first and the next few are the first of more
take-both : {A : Type 0} (xs : List A) (i j : ℕ) → i ≤ j → j ≤ length xs → take i xs ++ take (j - i) (drop i xs) ≡ take j xs
take-both [] i j h k = let e : j ≡ 0 = omega (arith, k) in let f : i ≡ 0 = omega (arith, h, k) in rw (e, f) refl
take-both (x ∷ xs) zero zero h k = refl
take-both (x ∷ xs) zero (suc j) h k = let e : suc j - 0 ≡ suc j = omega arith in rw e refl
take-both (x ∷ xs) (suc i) zero h k = absurd (omega (arith, h))
take-both (x ∷ xs) (suc i) (suc j) h k =
    let e : suc j - suc i ≡ j - i = omega arith in
    rw e (ap (λ (l : List _). x ∷ l) (take-both xs i j (omega (arith, h)) (omega (arith, k))))

module _ (s : Settings) (net : NetRows) (cells : List DemandCell) where
  -- the scenarios of one more round
  pub round-more : (scales part : List ℕ) (i j : ℕ) (old new : List Scenario) (round : List (Result Scenario AllocError))
      → i ≤ j → j ≤ length scales → part ≡ take (j - i) (drop i scales)
      → AreScenarios s net cells (take i scales) old
      → AllZip (λ scale one. IfOk one (IsScenario s net cells scale)) part round
      → AreKept old round new → AreScenarios s net cells (take j scales) new
  round-more scales part i j old new round h k is before each kept =
      let came : AllZip (λ scale (one : Result Scenario AllocError). IfOk one (IsScenario s net cells scale)) part (map (λ it. Ok it) kept.more)
      = subst (λ (r : List (Result Scenario AllocError)). AllZip (λ scale one. IfOk one (IsScenario s net cells scale)) part r) kept.came each in
      let more = zip-came (IsScenario s net cells) part kept.more came in
      rw kept.grown (subst (λ (l : List ℕ). AreScenarios s net cells l (old ++ kept.more))
      (ap (λ (l : List ℕ). take i scales ++ l) is ∙ take-both scales i j h k)
      (zip-append (IsScenario s net cells) (take i scales) part old kept.more before more))

  pub rounds-all : (scales : List ℕ) (i : ℕ) (all : List Scenario) → length scales ≤ i
      → AreScenarios s net cells (take i scales) all → AreScenarios s net cells scales all
  rounds-all scales i all h = subst (λ (l : List ℕ). AreScenarios s net cells l all) (take_all i scales h)

-- one more was kept
pub kept-none : (old : List Scenario) → AreKept old [] old
kept-none old = record { more = []; came = refl; grown = sym (append-nil old) }

pub kept-more : (old now new : List Scenario) (round next : List (Result Scenario AllocError)) (one : Result Scenario AllocError) (it : Scenario)
    → AreKept old round now → one ≡ Ok it → new ≡ now ++ it ∷ [] → next ≡ round ++ one ∷ [] → AreKept old next new
kept-more old now new round next one it kept is push then = record {
  more = kept.more ++ it ∷ [];
  came = then ∙ ap (λ (l : List (Result Scenario AllocError)). l ++ one ∷ []) kept.came
      ∙ ap (λ (x : Result Scenario AllocError). map (λ it. Ok it) kept.more ++ x ∷ []) is
      ∙ sym (map-append (λ it. Ok it) kept.more (it ∷ []));
  grown = push ∙ ap (λ (l : List Scenario). l ++ it ∷ []) kept.grown ∙ append_assoc old kept.more (it ∷ []);
}
