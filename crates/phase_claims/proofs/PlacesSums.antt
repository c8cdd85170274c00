-- The state of a loading, counted node by node.
use Rattle.std.specs.Prelude.{nat_eq, nat_lt, slice_get, slice_set}
use Rattle.std.specs.List.{range_with_len, sum_by}
use Rattle.std.proofs.Common.{◌≡◌, ◌≢◌, ℕ, zero, suc, ◌+◌, ◌<◌, ◌≤◌, ◌^◌, Bool, true, false, ◌&&◌, ◌||◌, cond, List, [], ◌∷◌, ◌++◌, length, take, get_or, refl, sym, ap, ◌∙◌, add-one, lt_of_not-le, arith, Some}
use Rattle.std.proofs.lemmas.Bool.Decides.{nat_tests}
use Rattle.std.proofs.lemmas.Grind.{get_or-set_at}
use Rattle.std.proofs.lemmas.List.{get_or-set_other, length-set, take_all}
use Rattle.std.proofs.lemmas.List.FromFn.{length-range_with_len}
use Rattle.std.proofs.lemmas.List.Sums.{count_by-le-length, sum_by-append}
use Rattle.std.proofs.lemmas.Option.{same_Some}
use mathlib.Core.Logic.{dite}
use native.Mathlib.Decide.{dec_le}
use Rattle.net_core.specs.Network.{numbers_below}
use Rattle.dta_model.specs.Loading.{trace_after}
use Rattle.dta_model.specs.Plans.{ins, link_at, vehicles_of}
use Rattle.dta_model.specs.Sound.{IsSound}
use Rattle.dta_model.specs.State.{arrived_in, count_on, eight_after, eight_in, has_arrived, is_due, running_in, runs, waiting_in, waits}
use Rattle.dta_model.specs.Units.{node_count}
use Rattle.dta_model.specs.declared.eight.Eight.{Eight}
use Rattle.dta_model.specs.declared.plan.Plan.{Plan}
use Rattle.dta_model.proofs.Onward.{none_outside}
use Rattle.node_transfer.specs.Counts.{counts_at}
use Rattle.node_transfer.specs.Exchange.{is_among}
use Rattle.node_transfer.proofs.OfCounts.AddUp.{counts_add_up}
use Rattle.node_transfer.proofs.OfMail.Finished.{to-below}
use Rattle.node_transfer.proofs.OfMail.Parts.{ins-among, ins-member}
use Rattle.net_core.proofs.Numbers.{numbers_grow}
use Rattle.claim_core.proofs.Places.{Rises, ins_rise}
use Rattle.phase_claims.specs.PlacesCounted.{counted_in, first_on, firsts_on}
use Rattle.phase_claims.proofs.PlacesTurn.{take_next}
use Rattle.phase_claims.proofs.PlacesUnit.{lt_is, lt_not}

sum_more : (f : ℕ → ℕ) (m : ℕ) → sum_by f (numbers_below (suc m)) ≡ sum_by f (numbers_below m) + f m
sum_more f m =
    let z : 0 + m ≡ m = omega arith in
    let one : sum_by f ((0 + m) ∷ []) ≡ f m = ap (λ x. sum_by f (x ∷ [])) z ∙ omega arith in
    omega (arith, ap (λ xs. sum_by f xs) (numbers_grow 0 m (0 + m) refl), sum_by-append f (range_with_len 0 m) ((0 + m) ∷ []), one)

sum_grows : (f : ℕ → ℕ) (m n : ℕ) → m ≤ n → sum_by f (numbers_below m) ≤ sum_by f (numbers_below n)
sum_grows f m zero h = let z : m ≡ 0 = omega (arith, h) in omega (arith, ap (λ x. sum_by f (numbers_below x)) z)
sum_grows f m (suc n) h = dite (dec_le m n)
    (λ low. omega (arith, sum_grows f m n low, sum_more f n))
    (λ top. let e : m ≡ suc n = (let l : n < m = lt_of_not-le top in omega (arith, h)) in omega (arith, ap (λ x. sum_by f (numbers_below x)) e))

module _ (p : Plan) (sound : IsSound p) (t : ℕ) where
  few : length (vehicles_of p) < 2 ^ 32
  few = let c = length-range_with_len 0 (length p.trips) in let m = sound.trips.few in omega (arith, c, m)

  few_waiting : (eight_after p t).waiting < 2 ^ 32
  unfolding eight_after eight_in waiting_in
  few_waiting = let h = count_by-le-length (λ v. is_due p t v && waits (trace_after p t) v) (vehicles_of p) in omega (arith, few, h)

  few_running : (eight_after p t).running < 2 ^ 32
  unfolding eight_after eight_in running_in
  few_running = let h = count_by-le-length (λ v. is_due p t v && runs (trace_after p t) v) (vehicles_of p) in omega (arith, few, h)

  few_arrived : (eight_after p t).arrived < 2 ^ 32
  unfolding eight_after eight_in arrived_in
  few_arrived = let h = count_by-le-length (λ v. is_due p t v && has_arrived (trace_after p t) v) (vehicles_of p) in omega (arith, few, h)

  -- a sum over the first nodes and one more is small
  pub small_waiting : (n : ℕ) → n < node_count p → sum_by (λ m. (counts_at p m t).waiting) (numbers_below n) + (counts_at p n t).waiting < 2 ^ 32
  small_waiting n h = let s = (counts_add_up p sound t).waiting in omega (arith, s, few_waiting, sum_more (λ m. (counts_at p m t).waiting) n, sum_grows (λ m. (counts_at p m t).waiting) (suc n) (node_count p) h)

  pub small_running : (n : ℕ) → n < node_count p → sum_by (λ m. (counts_at p m t).running) (numbers_below n) + (counts_at p n t).running < 2 ^ 32
  small_running n h = let s = (counts_add_up p sound t).running in omega (arith, s, few_running, sum_more (λ m. (counts_at p m t).running) n, sum_grows (λ m. (counts_at p m t).running) (suc n) (node_count p) h)

  pub small_arrived : (n : ℕ) → n < node_count p → sum_by (λ m. (counts_at p m t).arrived) (numbers_below n) + (counts_at p n t).arrived < 2 ^ 32
  small_arrived n h = let s = (counts_add_up p sound t).arrived in omega (arith, s, few_arrived, sum_more (λ m. (counts_at p m t).arrived) n, sum_grows (λ m. (counts_at p m t).arrived) (suc n) (node_count p) h)

  -- one more node
  pub one_more : (n a b c : ℕ) (first : List ℕ) → a ≡ (counts_at p n t).waiting → b ≡ (counts_at p n t).running → c ≡ (counts_at p n t).arrived → first ≡ firsts_on p t (suc n)
      → (old : Eight) → old ≡ counted_in p t n → record { steps = old.steps; waiting = old.waiting + a; running = old.running + b; arrived = old.arrived + c; first = first } ≡ counted_in p t (suc n)
  one_more n a b c first ea eb ec ef old e =
      let w : old.waiting + a ≡ sum_by (λ m. (counts_at p m t).waiting) (numbers_below (suc n)) = omega (arith, ap (λ (x : Eight). x.waiting) e, ea, sum_more (λ m. (counts_at p m t).waiting) n) in
      let r : old.running + b ≡ sum_by (λ m. (counts_at p m t).running) (numbers_below (suc n)) = omega (arith, ap (λ (x : Eight). x.running) e, eb, sum_more (λ m. (counts_at p m t).running) n) in
      let d : old.arrived + c ≡ sum_by (λ m. (counts_at p m t).arrived) (numbers_below (suc n)) = omega (arith, ap (λ (x : Eight). x.arrived) e, ec, sum_more (λ m. (counts_at p m t).arrived) n) in
      let s : old.steps ≡ t = ap (λ (x : Eight). x.steps) e in
      λ i. record { steps = s i; waiting = w i; running = r i; arrived = d i; first = ef i }

-- counts that are put at the places of some links
abbrev pub puts : (ℕ → ℕ) → List ℕ → List ℕ → List ℕ
puts f [] xs = xs
puts f (l ∷ ls) xs = puts f ls (slice_set xs l (f l))

puts_snoc : (f : ℕ → ℕ) (ls : List ℕ) (l : ℕ) (xs : List ℕ) → puts f (ls ++ l ∷ []) xs ≡ slice_set (puts f ls xs) l (f l)
puts_snoc f [] l xs = refl
puts_snoc f (k ∷ ls) l xs = puts_snoc f ls l (slice_set xs k (f k))

pub puts_next : (f : ℕ → ℕ) (ks : List ℕ) (j b : ℕ) (xs : List ℕ) → slice_get ks j ≡ Some b → slice_set (puts f (take j ks) xs) b (f b) ≡ puts f (take (j + 1) ks) xs
puts_next f ks j b xs e = rw add-one (sym (ap (λ ls. puts f ls xs) (take_next ks j b e) ∙ puts_snoc f (take j ks) b xs))

puts_count : (f : ℕ → ℕ) (ls xs : List ℕ) → length (puts f ls xs) ≡ length xs
puts_count f [] xs = refl
puts_count f (l ∷ ls) xs = puts_count f ls (slice_set xs l (f l)) ∙ length-set xs l (f l)

get_set : (xs : List ℕ) (l i x : ℕ) (b : Bool) → nat_eq l i ≡ b → i < length xs → get_or (slice_set xs l x) i 0 ≡ cond b x (get_or xs i 0)
get_set xs l i x true e h = let same : i ≡ l = grind (arith, nat_tests) in get_or-set_at xs l i x 0 same (omega (arith, h, same))
get_set xs l i x false e h = get_or-set_other xs l i x 0 (other l i e)
  where
    other : (l i : ℕ) → nat_eq l i ≡ false → i ≢ l
    other l i e q = grind (arith, nat_tests)

puts_at : (f : ℕ → ℕ) (ls xs : List ℕ) (i : ℕ) → i < length xs → get_or (puts f ls xs) i 0 ≡ cond (is_among ls i) (f i) (get_or xs i 0)
puts_at f [] xs i h = refl
puts_at f (l ∷ ls) xs i h =
    puts_at f ls (slice_set xs l (f l)) i (omega (arith, h, length-set xs l (f l)))
    ∙ ap (λ x. cond (is_among ls i) (f i) x) (get_set xs l i (f l) (nat_eq l i) refl h)
    ∙ by (nat_eq l i) (is_among ls i) (same l i)
  where
    same : (l i : ℕ) → nat_eq l i ≡ true → l ≡ i
    same l i e = grind (arith, nat_tests)

    by : (b c : Bool) → (b ≡ true → l ≡ i) → cond c (f i) (cond b (f l) (get_or xs i 0)) ≡ cond (b || c) (f i) (get_or xs i 0)
    by true true s = refl
    by true false s = ap f (s refl)
    by false true s = refl
    by false false s = refl

-- two lists of four numbers
four : (xs : List ℕ) (a b c d : ℕ) → length xs ≡ 4 → get_or xs 0 0 ≡ a → get_or xs 1 0 ≡ b → get_or xs 2 0 ≡ c → get_or xs 3 0 ≡ d → xs ≡ a ∷ b ∷ c ∷ d ∷ []
four [] a b c d h ea eb ec ed = absurd (omega arith)
four (x ∷ []) a b c d h ea eb ec ed = absurd (omega arith)
four (x ∷ y ∷ []) a b c d h ea eb ec ed = absurd (omega arith)
four (x ∷ y ∷ z ∷ []) a b c d h ea eb ec ed = absurd (omega arith)
four (x ∷ y ∷ z ∷ w ∷ []) a b c d h ea eb ec ed = λ i. ea i ∷ eb i ∷ ec i ∷ ed i ∷ []
four (x ∷ y ∷ z ∷ w ∷ v ∷ xs) a b c d h ea eb ec ed = absurd (omega arith)

-- of numbers that rise, those before one of them have all that are below it
none_below : (low high : ℕ) (xs : List ℕ) → Rises low high xs → (l : ℕ) → l < low → is_among xs l ≡ false
none_below low high [] r l h = refl
none_below low high (x ∷ xs) r l h = let z : nat_eq x l ≡ false = (let ne : l < x = omega (arith, h, r.0) in other x l ne) in (λ i. z i || none_below (suc x) high xs r.2 l (omega (arith, h, r.0)) i)
  where
    other : (x l : ℕ) → l < x → nat_eq x l ≡ false
    other x l h = grind (arith, nat_tests)

among_before : (j low high b : ℕ) (xs : List ℕ) → Rises low high xs → slice_get xs j ≡ Some b → (l : ℕ) → l < b → is_among (take j xs) l ≡ is_among xs l
among_before zero low high b [] r at l h = refl
among_before (suc j) low high b [] r at l h = refl
among_before zero low high b (x ∷ xs) r at l h = let same : x ≡ b = same_Some x b at in sym (none_below x high (x ∷ xs) (omega arith, r.1, r.2) l (omega (arith, h, same)))
among_before (suc j) low high b (x ∷ xs) r at l h = ap (λ t. nat_eq x l || t) (among_before j (suc x) high b xs r.2 at l h)

module _ (p : Plan) (t n : ℕ) (h : n < node_count p) where
  abbrev f : ℕ → ℕ
  f l = count_on (trace_after p t) l

  next : (l : ℕ) → cond (is_among (ins p n) l) (f l) (first_on p t n l) ≡ first_on p t (suc n) l
  next l = dite (dec_le (length p.net.links) l)
      (λ past. let away : is_among (ins p n) l ≡ false = by_among (is_among (ins p n) l) refl past in
      let no_link : nat_lt l (length p.net.links) ≡ false = lt_not l (length p.net.links) past in
      ap (λ b. cond b (f l) (first_on p t n l)) away
      ∙ ap (λ b. cond (b && nat_lt (link_at p l).to.0 n) (f l) 0) no_link
      ∙ sym (ap (λ b. cond (b && nat_lt (link_at p l).to.0 (suc n)) (f l) 0) no_link))
      (λ low. let low' : l < length p.net.links = lt_of_not-le low in
      let in_table : nat_lt l (length p.net.links) ≡ true = lt_is l (length p.net.links) low' in
      ap (λ b. cond b (f l) (first_on p t n l)) (ins-member p n l low')
      ∙ ap (λ b. cond (nat_eq (link_at p l).to.0 n) (f l) (cond (b && nat_lt (link_at p l).to.0 n) (f l) 0)) in_table
      ∙ by_node (nat_eq (link_at p l).to.0 n) (nat_lt (link_at p l).to.0 n)
      ∙ ap (λ b. cond b (f l) 0) (node_next (link_at p l).to.0 n)
      ∙ sym (ap (λ b. cond (b && nat_lt (link_at p l).to.0 (suc n)) (f l) 0) in_table))
    where
      node_next : (a b : ℕ) → (nat_eq a b || nat_lt a b) ≡ nat_lt a (suc b)
      node_next a b = grind (arith, nat_tests)

      by_node : (b c : Bool) → cond b (f l) (cond c (f l) 0) ≡ cond (b || c) (f l) 0
      by_node true c = refl
      by_node false c = refl

      by_among : (b : Bool) → is_among (ins p n) l ≡ b → length p.net.links ≤ l → b ≡ false
      by_among true e past = absurd (omega (arith, past, ins-among p n l e))
      by_among false e past = refl

  all_put : (j : ℕ) → ((i : ℕ) → i < 4 → is_among (take j (ins p n)) i ≡ is_among (ins p n) i) → puts f (take j (ins p n)) (firsts_on p t n) ≡ firsts_on p t (suc n)
  all_put j same =
      let xs : List ℕ = puts f (take j (ins p n)) (firsts_on p t n) in
      four xs (first_on p t (suc n) 0) (first_on p t (suc n) 1) (first_on p t (suc n) 2) (first_on p t (suc n) 3) (puts_count f (take j (ins p n)) (firsts_on p t n))
      (at 0 (omega arith) ∙ next 0) (at 1 (omega arith) ∙ next 1) (at 2 (omega arith) ∙ next 2) (at 3 (omega arith) ∙ next 3)
    where
      at : (i : ℕ) → i < 4 → get_or (puts f (take j (ins p n)) (firsts_on p t n)) i 0 ≡ cond (is_among (ins p n) i) (f i) (get_or (firsts_on p t n) i 0)
      at i l = puts_at f (take j (ins p n)) (firsts_on p t n) i l ∙ ap (λ b. cond b (f i) (get_or (firsts_on p t n) i 0)) (same i l)

  -- all in-links, or those before one that is none of the first four links
  pub put_whole : (j : ℕ) → length (ins p n) ≤ j → puts f (take j (ins p n)) (firsts_on p t n) ≡ firsts_on p t (suc n)
  put_whole j over = all_put j (λ i l. ap (λ ks. is_among ks i) (take_all j (ins p n) over))

  pub put_before : (j b : ℕ) → slice_get (ins p n) j ≡ Some b → 4 ≤ b → puts f (take j (ins p n)) (firsts_on p t n) ≡ firsts_on p t (suc n)
  put_before j b at past = all_put j (λ i l. among_before j 0 (length p.net.links) b (ins p n) (ins_rise p n) at i (omega (arith, l, past)))

-- all nodes
module _ (p : Plan) (sound : IsSound p) (t : ℕ) where
  first_whole : (l : ℕ) → first_on p t (node_count p) l ≡ count_on (trace_after p t) l
  unfolding count_on
  first_whole l = dite (dec_le (length p.net.links) l)
      (λ past. ap (λ b. cond (b && nat_lt (link_at p l).to.0 (node_count p)) (count_on (trace_after p t) l) 0) (lt_not l (length p.net.links) past)
      ∙ sym (ap (λ (q : List ℕ). length q) (none_outside p sound t l past)))
      (λ low. let low' : l < length p.net.links = lt_of_not-le low in
      ap (λ b. cond (b && nat_lt (link_at p l).to.0 (node_count p)) (count_on (trace_after p t) l) 0) (lt_is l (length p.net.links) low')
      ∙ ap (λ b. cond b (count_on (trace_after p t) l) 0) (lt_is (link_at p l).to.0 (node_count p) (to-below p sound (node_count p) (omega arith) l low')))

  pub all_counted : counted_in p t (node_count p) ≡ eight_after p t
  unfolding eight_after eight_in
  all_counted =
      let s = counts_add_up p sound t in
      λ i. record {
        steps = t;
        waiting = s.waiting i;
        running = s.running i;
        arrived = s.arrived i;
        first = first_whole 0 i ∷ first_whole 1 i ∷ first_whole 2 i ∷ first_whole 3 i ∷ [];
      }
