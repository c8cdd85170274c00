-- The ways on from a link are its turns, in the order of the links that they enter.
use Rattle.std.proofs.Common.{◌≡◌, ℕ, zero, suc, ◌<◌, Bool, true, false, List, [], ◌∷◌, length, refl, ap, sym, ◌∙◌, subst, arith, rules, Option, Some, None, get_or, nat_eq}
use Rattle.std.specs.Prelude.{slice_get, filter, All, option_map}
use Rattle.std.proofs.lemmas.List.FromFn.{length-range_with_len, get_or-range_with_len}
use Rattle.std.proofs.lemmas.Option.{slice_get-map, slice_get_within, slice_get-get_or, get_or_from_slice_get}
use Rattle.net_core.specs.Network.{as_links, link_at, outs, turn, numbers_below}
use Rattle.net_core.specs.declared.rows.LinkNo.{LinkNo}
use Rattle.net_core.specs.declared.rows.NetRows.{NetRows}
use Rattle.net_core.specs.declared.rows.Turn.{Turn}
use Rattle.labels.specs.States.Onwards.{with_turn, ways_over}
use Rattle.labels.specs.Filling.Rests.{AreOrdered}
use Rattle.labels.specs.declared.states.onward.Onward.{Onward}
use Rattle.labels.proofs.Basics.{some_same}

-- numbers that rise
abbrev pub IsRising : List ℕ → Type 0
IsRising xs = (i k a b : ℕ) → i < k → slice_get xs i ≡ Some a → slice_get xs k ≡ Some b → a < b

-- where an element of a filtered list stands in the list, and the other way
abbrev pub StandsPassing : {X : Type 0} → (X → Bool) → List X → X → Type 0
StandsPassing p xs x = (i : ℕ) × (slice_get xs i ≡ Some x) × (p x ≡ true)

pub in_filter : {X : Type 0} (p : X → Bool) (xs : List X) (j : ℕ) (x : X) → slice_get (filter p xs) j ≡ Some x → StandsPassing p xs x
in_filter p [] j x h = cc
in_filter p (y ∷ xs) j x h = by (p y) refl j (λ k e. in_filter p xs k x e) h
  where
    later : StandsPassing p xs x → StandsPassing p (y ∷ xs) x
    later r = (suc (r.0), r.1, r.2)

    by : (b : Bool) → p y ≡ b → (j : ℕ) → ((k : ℕ) → slice_get (filter p xs) k ≡ Some x → StandsPassing p xs x) → slice_get (filter p (y ∷ xs)) j ≡ Some x → StandsPassing p (y ∷ xs) x
    by true t zero ih e = let here : Some y ≡ Some x = rw t at e in let same : y ≡ x = some_same y x here in (zero, here, subst (λ z. p z ≡ true) same t)
    by true t (suc k) ih e = later (ih k (rw t at e))
    by false t k ih e = later (ih k (rw t at e))

abbrev pub StandsIn : {X : Type 0} → List X → X → Type 0
StandsIn xs x = (j : ℕ) × (slice_get xs j ≡ Some x)

pub of_filter : {X : Type 0} (p : X → Bool) (xs : List X) (i : ℕ) (x : X) → slice_get xs i ≡ Some x → p x ≡ true → StandsIn (filter p xs) x
of_filter p [] i x h t = cc
of_filter p (y ∷ xs) zero x h t = let same : y ≡ x = some_same y x h in let u : p y ≡ true = subst (λ z. p z ≡ true) (sym same) t in (zero, rw u h)
of_filter p (y ∷ xs) (suc i) x h t = by (p y) refl (of_filter p xs i x h t)
  where
    by : (b : Bool) → p y ≡ b → StandsIn (filter p xs) x → StandsIn (filter p (y ∷ xs)) x
    by true u r = (suc (r.0), rw u r.1)
    by false u r = (r.0, rw u r.1)

rising_tail : (x : ℕ) (xs : List ℕ) → IsRising (x ∷ xs) → IsRising xs
rising_tail x xs r i k a b h s t = r (suc i) (suc k) a b (omega (arith, h)) s t

pub rising_filter : (p : ℕ → Bool) (xs : List ℕ) → IsRising xs → IsRising (filter p xs)
rising_filter p [] r = λ i k a b h s t. cc
rising_filter p (y ∷ xs) r = by (p y) refl (rising_filter p xs (rising_tail y xs r))
  where
    after : (k b : ℕ) → slice_get (filter p xs) k ≡ Some b → y < b
    after k b e = let s = in_filter p xs k b e in r zero (suc (s.0)) y b (omega arith) refl (s.1)

    with_head : IsRising (filter p xs) → (i k a b : ℕ) → i < k → slice_get (y ∷ filter p xs) i ≡ Some a → slice_get (y ∷ filter p xs) k ≡ Some b → a < b
    with_head ih i zero a b h s t = absurd (omega (arith, h))
    with_head ih zero (suc k) a b h s t = let same : y ≡ a = some_same y a s in subst (λ z. z < b) same (after k b t)
    with_head ih (suc i) (suc k) a b h s t = ih i k a b (omega (arith, h)) s t

    by : (b : Bool) → p y ≡ b → IsRising (filter p xs) → IsRising (filter p (y ∷ xs))
    by true u ih = rw u (with_head ih)
    by false u ih = rw u ih

pub number_at : (n i x : ℕ) → slice_get (numbers_below n) i ≡ Some x → (x ≡ i) × (i < n)
number_at n i x s =
    let small : i < n = (let w = slice_get_within (numbers_below n) i x s in omega (arith, w, length-range_with_len 0 n)) in
    let g = get_or_from_slice_get (numbers_below n) i x x s in
    let r = get_or-range_with_len 0 n i x small in
    (omega (arith, g, r), small)

pub numbers_rise : (n : ℕ) → IsRising (numbers_below n)
numbers_rise n i k a b h s t = let x = number_at n i a s in let y = number_at n k b t in omega (arith, x.0, y.0, h)

pub number_stands : (n l : ℕ) → l < n → slice_get (numbers_below n) l ≡ Some l
number_stands n l h =
    let r = get_or-range_with_len 0 n l 0 h in
    slice_get-get_or (numbers_below n) l 0 (omega (arith, h, length-range_with_len 0 n)) ∙ ap (λ x. Some x) (r ∙ omega arith)

-- the links out of a node
pub out_is : (net : NetRows) (n j l : ℕ) → slice_get (outs net n) j ≡ Some l → (l < length net.links) × ((link_at net l).from.0 ≡ n)
unfolding outs
out_is net n j l s =
    let f = in_filter (λ k. nat_eq (link_at net k).from.0 n) (numbers_below (length net.links)) j l s in
    let x = number_at (length net.links) (f.0) l (f.1) in
    (omega (arith, x.0, x.1), search (rules, f.2))

pub is_out : (net : NetRows) (n l : ℕ) → l < length net.links → nat_eq (link_at net l).from.0 n ≡ true → StandsIn (outs net n) l
unfolding outs
is_out net n l h t = of_filter (λ k. nat_eq (link_at net k).from.0 n) (numbers_below (length net.links)) l l (number_stands (length net.links) l h) t

pub outs_rise : (net : NetRows) (n : ℕ) → IsRising (outs net n)
unfolding outs
outs_rise net n = rising_filter (λ k. nat_eq (link_at net k).from.0 n) (numbers_below (length net.links)) (numbers_rise (length net.links))

abbrev as_link : ℕ → LinkNo
as_link l = record { 0 = l }

mapped : (o : Option ℕ) (b : LinkNo) → option_map as_link o ≡ Some b → o ≡ Some b.0
mapped None b h = cc
mapped (Some l) b h = let same : as_link l ≡ b = some_same (as_link l) b h in ap (λ x. Some x.0) same

pub link_stands : (ls : List ℕ) (j : ℕ) (b : LinkNo) → slice_get (as_links ls) j ≡ Some b → slice_get ls j ≡ Some b.0
link_stands ls j b h = mapped (slice_get ls j) b (sym (slice_get-map as_link ls j) ∙ h)

pub as_link_stands : (ls : List ℕ) (j l : ℕ) → slice_get ls j ≡ Some l → slice_get (as_links ls) j ≡ Some (as_link l)
as_link_stands ls j l h = slice_get-map as_link ls j ∙ ap (λ o. option_map as_link o) h

pub outs_within : (net : NetRows) (n : ℕ) → All (λ b. b.0 < length net.links) (as_links (outs net n))
outs_within net n k d h =
    let b = get_or (as_links (outs net n)) k d in
    let s = link_stands (outs net n) k b (slice_get-get_or (as_links (outs net n)) k d h) in
    (out_is net n k b.0 s).0

-- ways on over links
module _ (net : NetRows) (states : List ℕ) (a : ℕ) where
  abbrev IsWay : List LinkNo → Onward → Type 0
  IsWay bs w = (j : ℕ) × (b : LinkNo) × (t : Turn) × (slice_get bs j ≡ Some b) × (turn net a b.0 ≡ Some t) × (w ≡ record { wait = t.penalty; link = b.0; to = get_or states b.0 0 })

  pub way_is : (bs : List LinkNo) (k : ℕ) (w : Onward) → slice_get (ways_over net states a bs) k ≡ Some w → IsWay bs w
  way_is [] k w h = cc
  way_is (b ∷ bs) k w h = by (turn net a b.0) refl k (λ i e. way_is bs i w e) h
    where
      later : IsWay bs w → IsWay (b ∷ bs) w
      later r = (suc (r.0), r.1, r.2, r.3, r.4, r.5)

      by : (o : Option Turn) → turn net a b.0 ≡ o → (k : ℕ) → ((i : ℕ) → slice_get (ways_over net states a bs) i ≡ Some w → IsWay bs w) → slice_get (with_turn o b.0 (get_or states b.0 0) (ways_over net states a bs)) k ≡ Some w → IsWay (b ∷ bs) w
      by None t k ih e = later (ih k e)
      by (Some u) t zero ih e = (zero, b, u, refl, t, sym (some_same _ w e))
      by (Some u) t (suc k) ih e = later (ih k e)

  pub is_way : (bs : List LinkNo) (j : ℕ) (b : LinkNo) (t : Turn) → slice_get bs j ≡ Some b → turn net a b.0 ≡ Some t → StandsIn (ways_over net states a bs) (record { wait = t.penalty; link = b.0; to = get_or states b.0 0 })
  is_way [] j b t h u = cc
  is_way (c ∷ bs) zero b t h u =
      let same : c ≡ b = some_same c b h in
      let v : turn net a c.0 ≡ Some t = ap (λ x. turn net a x.0) same ∙ u in
      (zero, rw v (ap (λ x. Some (record { wait = t.penalty; link = x.0; to = get_or states x.0 0 })) same))
  is_way (c ∷ bs) (suc j) b t h u = by (turn net a c.0) (is_way bs j b t h u)
    where
      by : (o : Option Turn) → StandsIn (ways_over net states a bs) (record { wait = t.penalty; link = b.0; to = get_or states b.0 0 }) → StandsIn (with_turn o c.0 (get_or states c.0 0) (ways_over net states a bs)) (record { wait = t.penalty; link = b.0; to = get_or states b.0 0 })
      by None r = r
      by (Some v) r = (suc (r.0), r.1)

  abbrev AreRising : List LinkNo → Type 0
  AreRising bs = (i k : ℕ) (x y : LinkNo) → i < k → slice_get bs i ≡ Some x → slice_get bs k ≡ Some y → x.0 < y.0

  pub ways_rise : (bs : List LinkNo) → AreRising bs → AreOrdered (ways_over net states a bs)
  ways_rise [] r = λ i k v w h s t. cc
  ways_rise (b ∷ bs) r = by (turn net a b.0) refl (ways_rise bs (λ i k x y h s t. r (suc i) (suc k) x y (omega (arith, h)) s t))
    where
      after : (k : ℕ) (w : Onward) → slice_get (ways_over net states a bs) k ≡ Some w → b.0 < w.link
      after k w e =
          let i = way_is bs k w e in
          let less : b.0 < (i.1).0 = r zero (suc (i.0)) b (i.1) (omega arith) refl (i.3) in
          let same : w.link ≡ (i.1).0 = ap (λ x. x.link) (i.5) in
          omega (arith, less, same)

      with_head : (u : Turn) → AreOrdered (ways_over net states a bs) → (i k : ℕ) (v w : Onward) → i < k → slice_get (with_turn (Some u) b.0 (get_or states b.0 0) (ways_over net states a bs)) i ≡ Some v → slice_get (with_turn (Some u) b.0 (get_or states b.0 0) (ways_over net states a bs)) k ≡ Some w → v.link < w.link
      with_head u ih i zero v w h s t = absurd (omega (arith, h))
      with_head u ih zero (suc k) v w h s t = let same : b.0 ≡ v.link = ap (λ x. x.link) (some_same _ v s) in let more = after k w t in omega (arith, same, more)
      with_head u ih (suc i) (suc k) v w h s t = ih i k v w (omega (arith, h)) s t

      by : (o : Option Turn) → turn net a b.0 ≡ o → AreOrdered (ways_over net states a bs) → AreOrdered (with_turn o b.0 (get_or states b.0 0) (ways_over net states a bs))
      by None t ih = ih
      by (Some u) t ih = with_head u ih
