-- Those who wait and become due in a step.
use Rattle.std.specs.List.{range_with_len}
use Rattle.std.specs.Prelude.{filter, nat_le, nat_lt, ⊤}
use Rattle.std.proofs.Common.{◌≡◌, ℕ, zero, suc, ◌+◌, ◌≤◌, ◌<◌, Bool, true, false, cond, ◌&&◌, not, List, [], ◌∷◌, ◌++◌, refl, ap, sym, ◌∙◌, arith, append_assoc, append-nil}
use Rattle.std.proofs.lemmas.Bool.Decides.{nat_tests}
use Rattle.std.proofs.lemmas.List.{map-append}
use Rattle.dta_model.specs.NodeMoves.{is_first}
use Rattle.dta_model.specs.Plans.{departure_of, first_link, vehicle_count, vehicles_of}
use Rattle.dta_model.specs.Riders.{RiderState, rider_at, riders}
use Rattle.dta_model.specs.Sound.{IsSound}
use Rattle.cell_stages.specs.Stages.{waiting_for, waiting_before}
use Rattle.dta_model.specs.Trace.{Move, has_moved}
use Rattle.dta_model.specs.declared.plan.Plan.{Plan}
use Rattle.dta_model.proofs.Steady.{departures_rise}
use Rattle.cell_stages.specs.Contents.{waiting_parts}
use Rattle.node_transfer.specs.Inside.Outs.{released}
use Rattle.node_transfer.proofs.OfStep.InPass.{staying-none}
use Rattle.node_transfer.proofs.OfStep.Mid.{T, waiting_mid}

module _ (dep : ℕ → ℕ) where
  abbrev FromOn : ℕ → List ℕ → Type 0
  FromOn d [] = ⊤
  FromOn d (y ∷ ys) = (d ≤ dep y) × FromOn d ys

  -- departures don't fall
  abbrev pub Ordered : List ℕ → Type 0
  Ordered [] = ⊤
  Ordered (x ∷ xs) = FromOn (dep x) xs × Ordered xs

  FromOn-filter : (q : ℕ → Bool) (d : ℕ) (xs : List ℕ) → FromOn d xs → FromOn d (filter q xs)
  FromOn-filter q d [] f = tt
  FromOn-filter q d (x ∷ xs) f = by_test (q x) (FromOn-filter q d xs (f.1))
    where
      by_test : (c : Bool) → FromOn d (filter q xs) → FromOn d (cond c (x ∷ filter q xs) (filter q xs))
      by_test true ih = (f.0, ih)
      by_test false ih = ih

  pub Ordered-filter : (q : ℕ → Bool) (xs : List ℕ) → Ordered xs → Ordered (filter q xs)
  Ordered-filter q [] o = tt
  Ordered-filter q (x ∷ xs) o = by_test (q x) (FromOn-filter q (dep x) xs (o.0)) (Ordered-filter q xs (o.1))
    where
      by_test : (c : Bool) → FromOn (dep x) (filter q xs) → Ordered (filter q xs) → Ordered (cond c (x ∷ filter q xs) (filter q xs))
      by_test true f ih = (f, ih)
      by_test false f ih = ih

  module _ (count : ℕ) (rising : (u v : ℕ) → u ≤ v → v < count → dep u ≤ dep v) where
    FromOn-range : (u k from : ℕ) → u ≤ from → from + k ≤ count → FromOn (dep u) (range_with_len from k)
    FromOn-range u zero from l h = tt
    FromOn-range u (suc k) from l h = (rising u from l (omega (arith, h)), FromOn-range u k (from + 1) (omega (arith, l)) (omega (arith, h)))

    pub Ordered-range : (k from : ℕ) → from + k ≤ count → Ordered (range_with_len from k)
    Ordered-range zero from h = tt
    Ordered-range (suc k) from h = (FromOn-range from k (from + 1) (omega arith) (omega (arith, h)), Ordered-range k (from + 1) (omega (arith, h)))

  module _ (t : ℕ) where
    none_due : (d : ℕ) (xs : List ℕ) → t < d → FromOn d xs → filter (λ v. nat_le (dep v) t) xs ≡ []
    none_due d [] h f = refl
    none_due d (x ∷ xs) h f = let a : d ≤ dep x = f.0 in let e : nat_le (dep x) t ≡ false = grind (arith, nat_tests) in rw e (none_due d xs h (f.1))

    pub all_later : (d : ℕ) (xs : List ℕ) → t < d → FromOn d xs → filter (λ v. nat_le (suc t) (dep v)) xs ≡ xs
    all_later d [] h f = refl
    all_later d (x ∷ xs) h f = let a : d ≤ dep x = f.0 in let e : nat_le (suc t) (dep x) ≡ true = grind (arith, nat_tests) in rw e (ap (λ ys. x ∷ ys) (all_later d xs h (f.1)))

    pub none_before : (d : ℕ) (xs : List ℕ) → t ≤ d → FromOn d xs → filter (λ v. nat_lt (dep v) t) xs ≡ []
    none_before d [] h f = refl
    none_before d (x ∷ xs) h f = let a : d ≤ dep x = f.0 in let e : nat_lt (dep x) t ≡ false = grind (arith, nat_tests) in rw e (none_before d xs h (f.1))

    -- those before t, and of those from t on those that are due at t, make up those that are due at t
    pub joined : (xs : List ℕ) → Ordered xs → filter (λ v. nat_lt (dep v) t) xs ++ filter (λ v. nat_le (dep v) t) (filter (λ v. nat_le t (dep v)) xs) ≡ filter (λ v. nat_le (dep v) t) xs
    joined [] o = refl
    joined (x ∷ xs) o = by_two (nat_lt (dep x) t) (nat_le t (dep x)) (nat_le (dep x) t) refl refl refl (joined xs (o.1))
      where
        clash_low : nat_lt (dep x) t ≡ true → nat_le (dep x) t ≡ true
        clash_low h = grind (arith, nat_tests)

        clash_back : nat_lt (dep x) t ≡ true → nat_le t (dep x) ≡ false
        clash_back h = grind (arith, nat_tests)

        from_back : nat_lt (dep x) t ≡ false → nat_le t (dep x) ≡ true
        from_back h = grind (arith, nat_tests)

        from_le : nat_lt (dep x) t ≡ false → t ≤ dep x
        from_le h = grind (arith, nat_tests)

        by_two : (c d e : Bool) → c ≡ nat_lt (dep x) t → d ≡ nat_le t (dep x) → e ≡ nat_le (dep x) t
            → filter (λ v. nat_lt (dep v) t) xs ++ filter (λ v. nat_le (dep v) t) (filter (λ v. nat_le t (dep v)) xs) ≡ filter (λ v. nat_le (dep v) t) xs
            → cond c (x ∷ filter (λ v. nat_lt (dep v) t) xs) (filter (λ v. nat_lt (dep v) t) xs)
            ++ filter (λ v. nat_le (dep v) t) (cond d (x ∷ filter (λ v. nat_le t (dep v)) xs) (filter (λ v. nat_le t (dep v)) xs))
            ≡ cond e (x ∷ filter (λ v. nat_le (dep v) t) xs) (filter (λ v. nat_le (dep v) t) xs)
        by_two true false true q r s ih = ap (λ ys. x ∷ ys) ih
        by_two true true e q r s ih = let no_way : true ≡ false = r ∙ clash_back (sym q) in cc no_way
        by_two true false false q r s ih = let no_way : true ≡ false = sym (clash_low (sym q)) ∙ sym s in cc no_way
        by_two false false e q r s ih = let no_way : true ≡ false = sym (from_back (sym q)) ∙ sym r in cc no_way
        by_two false true e q r s ih =
            let n : filter (λ v. nat_lt (dep v) t) xs ≡ [] = none_before (dep x) xs (from_le (sym q)) (o.0) in
            rw n (by_le e s (ap (λ ys. ys ++ filter (λ v. nat_le (dep v) t) (filter (λ v. nat_le t (dep v)) xs)) (sym n) ∙ ih))
          where
            by_le : (e : Bool) → e ≡ nat_le (dep x) t → filter (λ v. nat_le (dep v) t) (filter (λ v. nat_le t (dep v)) xs) ≡ filter (λ v. nat_le (dep v) t) xs
                → filter (λ v. nat_le (dep v) t) (x ∷ filter (λ v. nat_le t (dep v)) xs) ≡ cond e (x ∷ filter (λ v. nat_le (dep v) t) xs) (filter (λ v. nat_le (dep v) t) xs)
            by_le true s h = rw (← s) (ap (λ ys. x ∷ ys) h)
            by_le false s h = rw (← s) h

    pub later_on : (xs : List ℕ) → filter (λ v. nat_le (suc t) (dep v)) (filter (λ v. nat_le t (dep v)) xs) ≡ filter (λ v. nat_le (suc t) (dep v)) xs
    later_on [] = refl
    later_on (x ∷ xs) = by_two (nat_le t (dep x)) (nat_le (suc t) (dep x)) refl refl (later_on xs)
      where
        later_too : nat_le (suc t) (dep x) ≡ true → nat_le t (dep x) ≡ true
        later_too h = grind (arith, nat_tests)

        by_two : (c d : Bool) → c ≡ nat_le t (dep x) → d ≡ nat_le (suc t) (dep x)
            → filter (λ v. nat_le (suc t) (dep v)) (filter (λ v. nat_le t (dep v)) xs) ≡ filter (λ v. nat_le (suc t) (dep v)) xs
            → filter (λ v. nat_le (suc t) (dep v)) (cond c (x ∷ filter (λ v. nat_le t (dep v)) xs) (filter (λ v. nat_le t (dep v)) xs)) ≡ cond d (x ∷ filter (λ v. nat_le (suc t) (dep v)) xs) (filter (λ v. nat_le (suc t) (dep v)) xs)
        by_two true true q r ih = rw (← r) (ap (λ ys. x ∷ ys) ih)
        by_two true false q r ih = rw (← r) ih
        by_two false true q r ih = let no_way : true ≡ false = sym (later_too (sym r)) ∙ sym q in cc no_way
        by_two false false q r ih = ih

module _ (p : Plan) (U : List Move) where
  -- tests of riders by their departures
  pub filter_riders : (q : ℕ → Bool) (xs : List ℕ) → filter (λ r. q r.departure) (riders p U xs) ≡ riders p U (filter (λ v. q (departure_of p v)) xs)
  unfolding rider_at
  filter_riders q [] = refl
  filter_riders q (x ∷ xs) = by_test (q (departure_of p x)) (filter_riders q xs)
    where
      by_test : (c : Bool) → filter (λ r. q r.departure) (riders p U xs) ≡ riders p U (filter (λ v. q (departure_of p v)) xs)
          → cond c (rider_at p U x ∷ filter (λ r. q r.departure) (riders p U xs)) (filter (λ r. q r.departure) (riders p U xs)) ≡ riders p U (cond c (x ∷ filter (λ v. q (departure_of p v)) xs) (filter (λ v. q (departure_of p v)) xs))
      by_test true ih = ap (λ ys. rider_at p U x ∷ ys) ih
      by_test false ih = ih

  -- a release takes those that are due
  pub released-is : (t : ℕ) (L : List ℕ) (D : List RiderState) → Ordered (departure_of p) L
      → released t (riders p U L) D ≡ record { later = riders p U (filter (λ v. nat_le (suc t) (departure_of p v)) L); due = D ++ riders p U (filter (λ v. nat_le (departure_of p v) t) L) }
  unfolding released rider_at
  released-is t [] D o = ap (λ d. record { later = []; due = d }) (sym (append-nil D))
  released-is t (v ∷ L) D o = by_test (nat_le (departure_of p v) t) refl (released-is t L (D ++ rider_at p U v ∷ []) (o.1))
    where
      late : nat_le (departure_of p v) t ≡ false → t < departure_of p v
      late h = grind (arith, nat_tests)

      not_late : nat_le (departure_of p v) t ≡ true → nat_le (suc t) (departure_of p v) ≡ false
      not_late h = grind (arith, nat_tests)

      is_late : nat_le (departure_of p v) t ≡ false → nat_le (suc t) (departure_of p v) ≡ true
      is_late h = grind (arith, nat_tests)

      by_test : (c : Bool) → nat_le (departure_of p v) t ≡ c
          → released t (riders p U L) (D ++ rider_at p U v ∷ []) ≡ record { later = riders p U (filter (λ v. nat_le (suc t) (departure_of p v)) L); due = (D ++ rider_at p U v ∷ []) ++ riders p U (filter (λ v. nat_le (departure_of p v) t) L) }
          → cond c (released t (riders p U L) (D ++ rider_at p U v ∷ [])) (record { later = rider_at p U v ∷ riders p U L; due = D })
          ≡ record { later = riders p U (filter (λ v. nat_le (suc t) (departure_of p v)) (v ∷ L)); due = D ++ riders p U (cond c (v ∷ filter (λ v. nat_le (departure_of p v) t) L) (filter (λ v. nat_le (departure_of p v) t) L)) }
      by_test true e ih = rw (not_late e) (ih ∙ ap (λ d. record { later = riders p U (filter (λ v. nat_le (suc t) (departure_of p v)) L); due = d }) (append_assoc D (rider_at p U v ∷ []) _))
      by_test false e ih =
          let n : filter (λ v. nat_le (departure_of p v) t) L ≡ [] = none_due (departure_of p) t (departure_of p v) L (late e) (o.0) in
          let a : filter (λ v. nat_le (suc t) (departure_of p v)) L ≡ L = all_later (departure_of p) t (departure_of p v) L (late e) (o.0) in
          rw (n, is_late e, a) (ap (λ d. record { later = rider_at p U v ∷ riders p U L; due = d }) (sym (append-nil D)))

  lt_suc : (d t : ℕ) → nat_lt d (suc t) ≡ nat_le d t
  lt_suc d t = grind (arith, nat_tests)

  filter_all_like : (f g : ℕ → Bool) → ((v : ℕ) → f v ≡ g v) → (xs : List ℕ) → filter f xs ≡ filter g xs
  filter_all_like f g e [] = refl
  filter_all_like f g e (x ∷ xs) = rw (e x, filter_all_like f g e xs) refl

  -- the parts of a waiting line in the next step
  pub parts-after : (t : ℕ) (xs : List ℕ) → waiting_parts (suc t) (riders p U xs)
      ≡ record { later = riders p U (filter (λ v. nat_le (suc t) (departure_of p v)) xs); due = riders p U (filter (λ v. nat_le (departure_of p v) t) xs) }
  parts-after t xs =
      rw (
        filter_riders (λ d. nat_le (suc t) d) xs,
        filter_riders (λ d. nat_lt d (suc t)) xs,
        filter_all_like (λ v. nat_lt (departure_of p v) (suc t)) (λ v. nat_le (departure_of p v) t) (λ v. lt_suc (departure_of p v) t) xs,
      ) refl

  -- a release makes the parts of the next step of those of this one
  pub parts-release : (t : ℕ) (xs : List ℕ) → Ordered (departure_of p) xs
      → released t (waiting_parts t (riders p U xs)).later (waiting_parts t (riders p U xs)).due
      ≡ record { later = riders p U (filter (λ v. nat_le (suc t) (departure_of p v)) xs); due = riders p U (filter (λ v. nat_le (departure_of p v) t) xs) }
  parts-release t xs o =
      ap (λ l. released t l (waiting_parts t (riders p U xs)).due) (filter_riders (λ d. nat_le t d) xs)
      ∙ ap (λ d. released t (riders p U (filter (λ v. nat_le t (departure_of p v)) xs)) d) (filter_riders (λ d. nat_lt d t) xs)
      ∙ released-is t (filter (λ v. nat_le t (departure_of p v)) xs) (riders p U (filter (λ v. nat_lt (departure_of p v) t) xs)) (Ordered-filter (departure_of p) (λ v. nat_le t (departure_of p v)) xs o)
      ∙ ap (λ l. record { later = riders p U l; due = riders p U (filter (λ v. nat_lt (departure_of p v) t) xs) ++ riders p U (filter (λ v. nat_le (departure_of p v) t) (filter (λ v. nat_le t (departure_of p v)) xs)) }) (later_on (departure_of p) t xs)
      ∙ ap (λ d. record { later = riders p U (filter (λ v. nat_le (suc t) (departure_of p v)) xs); due = d })
      (sym (map-append (rider_at p U) (filter (λ v. nat_lt (departure_of p v) t) xs) (filter (λ v. nat_le (departure_of p v) t) (filter (λ v. nat_le t (departure_of p v)) xs))) ∙ ap (λ Q. riders p U Q) (joined (departure_of p) t xs o))

pub waiting-ordered : (p : Plan) (sound : IsSound p) (b : ℕ) (U : List Move) → Ordered (departure_of p) (waiting_for p b U)
unfolding waiting_for
waiting-ordered p sound b U = Ordered-filter (departure_of p) (λ v. is_first b (first_link p v) && not (has_moved v U)) (vehicles_of p) (Ordered-range (departure_of p) (vehicle_count p) (departures_rise p sound) (vehicle_count p) 0 (omega arith))

-- the waiting line at the start of the transfer of a step
pub waiting-opens : (p : Plan) (sound : IsSound p) (n t b : ℕ) → released t (waiting_parts t (waiting_before p t b)).later (waiting_parts t (waiting_before p t b)).due ≡ waiting_mid p n t [] b
unfolding waiting_before
waiting-opens p sound n t b =
    parts-release p (T p n t) t (waiting_for p b (T p n t)) (waiting-ordered p sound b (T p n t))
    ∙ ap (λ S. record { later = riders p (T p n t) (filter (λ v. nat_le (suc t) (departure_of p v)) S); due = riders p (T p n t) (filter (λ v. nat_le (departure_of p v) t) S) }) (sym (staying-none (waiting_for p b (T p n t))))
