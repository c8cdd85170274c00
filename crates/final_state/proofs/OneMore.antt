-- The state of one more vehicle.
use Rattle.std.specs.List.{range_with_len}
use Rattle.std.specs.Prelude.{All, count_by, slice_index, slice_set, nat_eq}
use Rattle.std.proofs.Common.{◌≡◌, ℕ, zero, suc, ◌+◌, ◌<◌, ◌≤◌, Bool, cond, List, [], ◌∷◌, length, refl, ap, sym, ◌∙◌, subst, arith}
use Rattle.std.proofs.lemmas.Bool.{ne_eqb}
use Rattle.std.proofs.lemmas.List.Elements.{All-cons, All-nil}
use Rattle.std.proofs.lemmas.List.FromFn.{length-range_with_len}
use Rattle.std.proofs.lemmas.List.Sums.{sum_by-cons, count_by-le-length}
use Rattle.net_core.specs.Network.{numbers_below}
use Rattle.dta_model.specs.declared.eight.Eight.{Eight}
use Rattle.dta_model.specs.declared.trip.TheConstants.{MOST_TRIPS}
use Rattle.final_state.specs.Counts.{HasRoom, counted, has_come, is_on, is_running, is_waiting, one_more, state_of}
use Rattle.final_state.specs.declared.whereabouts.Whereabouts.{Whereabouts}
use Rattle.final_state.specs.declared.whereabouts.Whereabouts.TheVariants as whereabouts

abbrev Few : ℕ → Type 0
Few n = n < MOST_TRIPS

pub set_one_more : (xs : List ℕ) (l : ℕ) → l < length xs → slice_set xs l (slice_index xs l + 1) ≡ one_more xs l
set_one_more [] l h = absurd (omega (arith, h))
set_one_more (n ∷ xs) zero h = refl
set_one_more (n ∷ xs) (suc l) h = ap (λ ys. n ∷ ys) (set_one_more xs l (omega (arith, h)))

pub none_more : (xs : List ℕ) (l : ℕ) → length xs ≤ l → xs ≡ one_more xs l
none_more [] l h = refl
none_more (n ∷ xs) zero h = absurd (omega (arith, h))
none_more (n ∷ xs) (suc l) h = ap (λ ys. n ∷ ys) (none_more xs l (omega (arith, h)))

-- one number more is counted
count_from : (q : ℕ → Bool) (from n : ℕ) → count_by q (range_with_len from (suc n)) ≡ count_by q (range_with_len from n) + cond (q (from + n)) 1 0
count_from q from zero = let a = sum_by-cons (λ v. cond (q v) 1 0) from [] in let e : from + 0 ≡ from = omega arith in rw e (omega (arith, a))
count_from q from (suc n) =
    let a = sum_by-cons (λ v. cond (q v) 1 0) from (range_with_len (from + 1) (suc n)) in
    let b = sum_by-cons (λ v. cond (q v) 1 0) from (range_with_len (from + 1) n) in
    let rest = count_from q (from + 1) n in
    let e : from + suc n ≡ from + 1 + n = omega arith in
    rw e (omega (arith, a, b, rest))

pub count_more : (q : ℕ → Bool) (n m : ℕ) → m ≡ suc n → count_by q (numbers_below m) ≡ count_by q (numbers_below n) + cond (q n) 1 0
count_more q n m e = subst (λ k. count_by q (numbers_below k) ≡ count_by q (numbers_below n) + cond (q n) 1 0) (sym e) (subst (λ k. count_by q (numbers_below (suc n)) ≡ count_by q (numbers_below n) + cond (q k) 1 0) (omega arith) (count_from q 0 n))

pub count_few : (q : ℕ → Bool) (n : ℕ) → count_by q (numbers_below n) ≤ n
count_few q n = let a = count_by-le-length q (numbers_below n) in let b = length-range_with_len 0 n in omega (arith, a, b)

plus_none : (a b : ℕ) → a ≡ b + 0 → a ≡ b
plus_none a b e = omega (arith, e)

four : (a b c d k l m n : ℕ) → a ≡ k → b ≡ l → c ≡ m → d ≡ n → a ∷ b ∷ c ∷ d ∷ [] ≡ k ∷ l ∷ m ∷ n ∷ []
four a b c d k l m n e f g h = rw (e, f, g, h) refl

not_there : (l k a n : ℕ) → k < l → n ≡ a + cond (nat_eq l k) 1 0 → n ≡ a
not_there l k a n h e = plus_none n a (e ∙ ap (λ b. a + cond b 1 0) (ne_eqb l k (λ same. absurd (omega (arith, h, same)))))

-- four counts after one more vehicle on a link
one_of_four : (l a b c d k j m n : ℕ) → k ≡ a + cond (nat_eq l 0) 1 0 → j ≡ b + cond (nat_eq l 1) 1 0 → m ≡ c + cond (nat_eq l 2) 1 0 → n ≡ d + cond (nat_eq l 3) 1 0
    → k ∷ j ∷ m ∷ n ∷ [] ≡ one_more (a ∷ b ∷ c ∷ d ∷ []) l
one_of_four zero a b c d k j m n e f g h = four k j m n (a + 1) b c d e (plus_none j b f) (plus_none m c g) (plus_none n d h)
one_of_four (suc zero) a b c d k j m n e f g h = four k j m n a (b + 1) c d (plus_none k a e) f (plus_none m c g) (plus_none n d h)
one_of_four (suc (suc zero)) a b c d k j m n e f g h = four k j m n a b (c + 1) d (plus_none k a e) (plus_none j b f) g (plus_none n d h)
one_of_four (suc (suc (suc zero))) a b c d k j m n e f g h = four k j m n a b c (d + 1) (plus_none k a e) (plus_none j b f) (plus_none m c g) h
one_of_four (suc (suc (suc (suc l)))) a b c d k j m n e f g h =
    let x : ℕ = suc (suc (suc (suc l))) in four k j m n a b c d (not_there x 0 a k (omega arith) e) (not_there x 1 b j (omega arith) f) (not_there x 2 c m (omega arith) g) (not_there x 3 d n (omega arith) h)

same_state : (s w r a w' r' a' : ℕ) (f f' : List ℕ) → w ≡ w' → r ≡ r' → a ≡ a' → f ≡ f' → ◌≡◌ {A = Eight} (record { steps = s; waiting = w; running = r; arrived = a; first = f }) (record { steps = s; waiting = w'; running = r'; arrived = a'; first = f' })
same_state s w r a w' r' a' f f' e g h k = rw (e, g, h, k) refl

grown : (s : ℕ) (x : Whereabouts) (w r a k0 k1 k2 k3 w' r' a' j0 j1 j2 j3 : ℕ)
    → w' ≡ w + cond (is_waiting x) 1 0 → r' ≡ r + cond (is_running x) 1 0 → a' ≡ a + cond (has_come x) 1 0
    → j0 ≡ k0 + cond (is_on 0 x) 1 0 → j1 ≡ k1 + cond (is_on 1 x) 1 0 → j2 ≡ k2 + cond (is_on 2 x) 1 0 → j3 ≡ k3 + cond (is_on 3 x) 1 0
    → ◌≡◌ {A = Eight} (record { steps = s; waiting = w'; running = r'; arrived = a'; first = j0 ∷ j1 ∷ j2 ∷ j3 ∷ [] }) (counted x (record { steps = s; waiting = w; running = r; arrived = a; first = k0 ∷ k1 ∷ k2 ∷ k3 ∷ [] }))
grown s whereabouts.Unrouted w r a k0 k1 k2 k3 w' r' a' j0 j1 j2 j3 e f g h0 h1 h2 h3 =
    same_state s w' r' a' w r a _ _ (plus_none w' w e) (plus_none r' r f) (plus_none a' a g) (four j0 j1 j2 j3 k0 k1 k2 k3 (plus_none j0 k0 h0) (plus_none j1 k1 h1) (plus_none j2 k2 h2) (plus_none j3 k3 h3))
grown s whereabouts.Waiting w r a k0 k1 k2 k3 w' r' a' j0 j1 j2 j3 e f g h0 h1 h2 h3 =
    same_state s w' r' a' (w + 1) r a _ _ e (plus_none r' r f) (plus_none a' a g) (four j0 j1 j2 j3 k0 k1 k2 k3 (plus_none j0 k0 h0) (plus_none j1 k1 h1) (plus_none j2 k2 h2) (plus_none j3 k3 h3))
grown s (whereabouts.OnLink l) w r a k0 k1 k2 k3 w' r' a' j0 j1 j2 j3 e f g h0 h1 h2 h3 =
    same_state s w' r' a' w (r + 1) a _ _ (plus_none w' w e) f (plus_none a' a g) (one_of_four l.0 k0 k1 k2 k3 j0 j1 j2 j3 h0 h1 h2 h3)
grown s whereabouts.Arrived w r a k0 k1 k2 k3 w' r' a' j0 j1 j2 j3 e f g h0 h1 h2 h3 =
    same_state s w' r' a' w r (a + 1) _ _ (plus_none w' w e) (plus_none r' r f) g (four j0 j1 j2 j3 k0 k1 k2 k3 (plus_none j0 k0 h0) (plus_none j1 k1 h1) (plus_none j2 k2 h2) (plus_none j3 k3 h3))

-- the state of one vehicle more counts it by its whereabouts
pub state_more : (steps : ℕ) (at : ℕ → Whereabouts) (n m : ℕ) → m ≡ suc n → state_of steps at m ≡ counted (at n) (state_of steps at n)
unfolding state_of
state_more steps at n m e =
    grown steps (at n) _ _ _ _ _ _ _ _ _ _ _ _ _ _
    (count_more (λ v. is_waiting (at v)) n m e) (count_more (λ v. is_running (at v)) n m e) (count_more (λ v. has_come (at v)) n m e)
    (count_more (λ v. is_on 0 (at v)) n m e) (count_more (λ v. is_on 1 (at v)) n m e) (count_more (λ v. is_on 2 (at v)) n m e) (count_more (λ v. is_on 3 (at v)) n m e)

pub state_none : (steps : ℕ) (at : ℕ → Whereabouts) → ◌≡◌ {A = Eight} (record { steps = steps; waiting = 0; running = 0; arrived = 0; first = 0 ∷ 0 ∷ 0 ∷ 0 ∷ [] }) (state_of steps at 0)
unfolding state_of
state_none steps at = refl

each_of_four : (a b c d : ℕ) → a < MOST_TRIPS → b < MOST_TRIPS → c < MOST_TRIPS → d < MOST_TRIPS → All (λ n. n < MOST_TRIPS) (a ∷ b ∷ c ∷ d ∷ [])
each_of_four a b c d e f g h = All-cons Few a (b ∷ c ∷ d ∷ []) e (All-cons Few b (c ∷ d ∷ []) f (All-cons Few c (d ∷ []) g (All-cons Few d [] h (All-nil Few))))

-- it has room for one more vehicle
pub state_room : (steps : ℕ) (at : ℕ → Whereabouts) (n : ℕ) → n < MOST_TRIPS → HasRoom (state_of steps at n)
unfolding state_of
state_room steps at n h = record {
  waiting = below (λ v. is_waiting (at v));
  running = below (λ v. is_running (at v));
  arrived = below (λ v. has_come (at v));
  first = each_of_four _ _ _ _ (below (λ v. is_on 0 (at v))) (below (λ v. is_on 1 (at v))) (below (λ v. is_on 2 (at v))) (below (λ v. is_on 3 (at v)));
}
  where
    below : (q : ℕ → Bool) → count_by q (numbers_below n) < MOST_TRIPS
    below q = let few = count_few q n in omega (arith, few, h)
