-- The places of units: they rise, and no two units of one phase have one in common, or move one part.
use Rattle.net_core.specs.Network as network
use Rattle.std.specs.Prelude.{Contains, filter, nat_eq}
use Rattle.std.specs.List.{range_with_len}
use Rattle.std.specs.List.Sorted.{IsStrictlyIncreasing}
use Rattle.std.proofs.Common.{◌≡◌, ◌≢◌, ℕ, zero, suc, ◌+◌, ◌-◌, ◌*◌, ◌/◌, ◌%◌, ◌<◌, ◌≤◌, Bool, true, false, cond, List, [], ◌∷◌, ◌++◌, length, map, get_or, refl, ap, sym, ◌∙◌, subst, arith, lt_of_not-le}
use Rattle.std.proofs.lemmas.Bool.Decides.{nat_tests}
use Rattle.std.proofs.lemmas.Nat.{div-add-mod'}
use Rattle.std.proofs.Math.Nat.{mod-lt}
use mathlib.Core.Logic.{dite}
use native.Mathlib.Decide.{dec_le}
use Rattle.net_core.specs.Network.{numbers_below}
use Rattle.dta_model.specs.Plans.{all_nodes, ins, link_at, outs}
use Rattle.dta_model.specs.Units.{Gather, Posting, Task, Transfer, mail_part, moved_by, moved_in, node_count, phase_end, phase_start, places, places_in, posting_part, step_units, task_at, task_of}
use Rattle.dta_model.specs.declared.plan.Plan.{Plan}
use Rattle.claim_core.specs.Laws.{NoPlaceIsShared, PlacesRise}
use Rattle.claim_core.specs.Parts.{moves}
use Rattle.claim_core.specs.Sums.{is_at, times}
use Rattle.claim_core.proofs.Phases.{lt_stop, next_start, same_step, start_is, start_le, starts, stop_is, stops}
use Rattle.claim_core.proofs.Parts.{at_is, cell_of, gathers, in_task, ins_past, mail_of, outs_past, posts, times_ins, times_outs, transfers}
use Rattle.claim_core.proofs.Sums.{total-append}

-- numbers that rise from low on, and stay below high
abbrev pub Rises : ℕ → ℕ → List ℕ → Type 0
Rises low high [] = Unit {0}
Rises low high (x ∷ xs) = (low ≤ x) × (x < high) × Rises (suc x) high xs

lower : (low low' high : ℕ) (xs : List ℕ) → low' ≤ low → Rises low high xs → Rises low' high xs
lower low low' high [] le r = tt
lower low low' high (x ∷ xs) le r = (omega (arith, le, r.0), r.1, r.2)

higher : (low high high' : ℕ) (xs : List ℕ) → high ≤ high' → Rises low high xs → Rises low high' xs
higher low high high' [] le r = tt
higher low high high' (x ∷ xs) le r = (r.0, omega (arith, le, r.1), higher (suc x) high high' xs le r.2)

range_rises : (n a : ℕ) → Rises a (a + n) (range_with_len a n)
range_rises zero a = tt
range_rises (suc n) a =
    let next : Rises (a + 1) (a + 1 + n) (range_with_len (a + 1) n) = range_rises n (a + 1) in
    (omega arith, omega arith, lower (a + 1) (suc a) (a + suc n) (range_with_len (a + 1) n) (omega arith) (higher (a + 1) (a + 1 + n) (a + suc n) (range_with_len (a + 1) n) (omega arith) next))

numbers_rise : (n : ℕ) → Rises 0 n (numbers_below n)
numbers_rise n = higher 0 (0 + n) n (numbers_below n) (omega arith) (range_rises n 0)

filter_rises : (f : ℕ → Bool) (low high : ℕ) (xs : List ℕ) → Rises low high xs → Rises low high (filter f xs)
filter_rises f low high [] r = tt
filter_rises f low high (x ∷ xs) r = by (f x) (filter_rises f (suc x) high xs r.2)
  where
    by : (b : Bool) → Rises (suc x) high (filter f xs) → Rises low high (cond b (x ∷ filter f xs) (filter f xs))
    by true h = (r.0, r.1, h)
    by false h = lower (suc x) low high (filter f xs) (omega (arith, r.0)) h

map_rises : (n low high : ℕ) (xs : List ℕ) → Rises low high xs → Rises (n + low) (n + high) (map (λ x. n + x) xs)
map_rises n low high [] r = tt
map_rises n low high (x ∷ xs) r = (omega (arith, r.0), omega (arith, r.1), lower (n + suc x) (suc (n + x)) (n + high) (map (λ y. n + y) xs) (omega arith) (map_rises n (suc x) high xs r.2))

snoc_rises : (low top : ℕ) (xs : List ℕ) → low ≤ top → Rises low top xs → Rises low (suc top) (xs ++ top ∷ [])
snoc_rises low top [] le r = (le, omega arith, tt)
snoc_rises low top (x ∷ xs) le r = (r.0, omega (arith, r.1), snoc_rises (suc x) top xs (omega (arith, r.1)) r.2)

-- each number stands once
pub none_lower : (low high : ℕ) (xs : List ℕ) → Rises low high xs → (k : ℕ) → k < low → times k xs ≡ 0
none_lower low high [] r k h = refl
none_lower low high (x ∷ xs) r k h =
    let z : is_at k x ≡ 0 = (let ne : k < x = omega (arith, h, r.0) in other k x ne) in
    omega (arith, z, none_lower (suc x) high xs r.2 k (omega (arith, h, r.0)))
  where
    other : (k x : ℕ) → k < x → is_at k x ≡ 0
    other k x h = grind (arith, nat_tests)

at_least : (low high : ℕ) (xs : List ℕ) → Rises low high xs → (i : ℕ) → i < length xs → low ≤ get_or xs i 0
at_least low high [] r i h = absurd (omega arith)
at_least low high (x ∷ xs) r zero h = r.0
at_least low high (x ∷ xs) r (suc i) h = omega (arith, r.0, at_least (suc x) high xs r.2 i (omega (arith, h)))

below_high : (low high : ℕ) (xs : List ℕ) → Rises low high xs → (i d : ℕ) → i < length xs → get_or xs i d < high
below_high low high [] r i d h = absurd (omega arith)
below_high low high (x ∷ xs) r zero d h = r.1
below_high low high (x ∷ xs) r (suc i) d h = below_high (suc x) high xs r.2 i d (omega (arith, h))

rise : (low high : ℕ) (xs : List ℕ) → Rises low high xs → (i j : ℕ) → i < j → j < length xs → get_or xs i 0 < get_or xs j 0
rise low high [] r i j l h = absurd (omega arith)
rise low high (x ∷ xs) r i zero l h = absurd (omega (arith, l))
rise low high (x ∷ xs) r zero (suc j) l h = omega (arith, at_least (suc x) high xs r.2 j (omega (arith, h)))
rise low high (x ∷ xs) r (suc i) (suc j) l h = rise (suc x) high xs r.2 i j (omega (arith, l)) (omega (arith, h))

increasing : (low high : ℕ) (xs : List ℕ) → Rises low high xs → IsStrictlyIncreasing xs
increasing low high xs r k h = rise low high xs r k (k + 1) (omega arith) h

-- a number that stands in a list stands there at least once
stands : (xs : List ℕ) (k : ℕ) → Contains xs k → 1 ≤ times k xs
stands xs k c = by xs c.0 c.1 c.2
  where
    self : (k x : ℕ) → x ≡ k → is_at k x ≡ 1
    self k x e = grind (arith, nat_tests)

    by : (xs : List ℕ) (i : ℕ) → i < length xs → get_or xs i k ≡ k → 1 ≤ times k xs
    by [] i h e = absurd (omega arith)
    by (x ∷ xs) zero h e = omega (arith, self k x e)
    by (x ∷ xs) (suc i) h e = omega (arith, by xs i (omega (arith, h)) e)

-- two places of a step are of one phase
band : (k b r j : ℕ) → r < k + k + 1 → j < k + k + 1 → starts k b r ≤ b + j → b + j < stops k b r → r < k → j < k
band k b r j hr hj lo hi h = grind (arith, nat_tests)

band_low : (k b r j : ℕ) → r < k + k + 1 → j < k + k + 1 → starts k b r ≤ b + j → b + j < stops k b r → k ≤ r → r < k + k → k ≤ j
band_low k b r j hr hj lo hi h g = grind (arith, nat_tests)

band_high : (k b r j : ℕ) → r < k + k + 1 → j < k + k + 1 → starts k b r ≤ b + j → b + j < stops k b r → k ≤ r → r < k + k → j < k + k
band_high k b r j hr hj lo hi h g = grind (arith, nat_tests)

band_last : (k b r j : ℕ) → r < k + k + 1 → j < k + k + 1 → starts k b r ≤ b + j → b + j < stops k b r → k + k ≤ r → j ≡ r
band_last k b r j hr hj lo hi h = grind (arith, nat_tests)

module _ (p : Plan) where
  links_rise : (n : ℕ) (links : List ℕ) → n < node_count p → Rises 0 (length p.net.links) links → Rises 0 (suc (posting_part p)) (n ∷ map (mail_part p) links)
  links_rise n links h r =
      let mail : Rises (node_count p + 0) (posting_part p) (map (mail_part p) links) = map_rises (node_count p) 0 (length p.net.links) links r in (
        omega arith,
        omega (arith, h),
        higher (suc n) (posting_part p) (suc (posting_part p)) (map (mail_part p) links) (omega arith)
            (lower (node_count p + 0) (suc n) (posting_part p) (map (mail_part p) links) (omega (arith, h)) mail),
      )

  pub outs_rise : (n : ℕ) → Rises 0 (length p.net.links) (outs p n)
  unfolding network.outs
  outs_rise n = filter_rises (λ l. nat_eq (link_at p l).from.0 n) 0 (length p.net.links) (numbers_below (length p.net.links)) (numbers_rise (length p.net.links))

  pub ins_rise : (n : ℕ) → Rises 0 (length p.net.links) (ins p n)
  unfolding network.ins
  ins_rise n = filter_rises (λ l. nat_eq (link_at p l).to.0 n) 0 (length p.net.links) (numbers_below (length p.net.links)) (numbers_rise (length p.net.links))

  task_rises : (i : ℕ) → i < step_units (node_count p) → Rises 0 (suc (posting_part p)) (places_in p (task_at (node_count p) i))
  task_rises i h =
      let N : ℕ = node_count p in
      dite (dec_le N i)
      (λ past. dite (dec_le (N + N) i)
      (λ last. let e : i ≡ N + N = omega (arith, h, last) in
      let all : Rises 0 (posting_part p) (all_nodes p) = higher 0 N (posting_part p) (all_nodes p) (omega arith) (numbers_rise N) in
      subst (λ task. Rises 0 (suc (posting_part p)) (places_in p task)) (sym (ap (λ j. task_at N j) e ∙ posts N)) (snoc_rises 0 (posting_part p) (all_nodes p) (omega arith) all))
      (λ mid. let mid' : i < N + N = lt_of_not-le mid in let e : i ≡ N + (i - N) = omega (arith, past) in
      subst (λ task. Rises 0 (suc (posting_part p)) (places_in p task)) (sym (ap (λ j. task_at N j) e ∙ gathers N (i - N) (omega (arith, past, mid')))) (links_rise (i - N) (ins p (i - N)) (omega (arith, past, mid')) (ins_rise (i - N)))))
      (λ first. let first' : i < N = lt_of_not-le first in
      subst (λ task. Rises 0 (suc (posting_part p)) (places_in p task)) (sym (transfers N i first')) (links_rise i (outs p i) first' (outs_rise i)))

  pub places_in_order : (u : ℕ) → Rises 0 (suc (posting_part p)) (places p u)
  unfolding places task_of
  places_in_order u = task_rises (u % step_units (node_count p)) (mod-lt u (omega arith))

  -- a transfer, or a gather, is known by any of its places, from n being what a node's links are and
  -- ends the node of a link
  module _ (links : ℕ → List ℕ) (ends : ℕ → ℕ) (own : (n l : ℕ) → l < length p.net.links → times l (links n) ≡ is_at n (ends l)) (past : (n l : ℕ) → length p.net.links ≤ l → times l (links n) ≡ 0) where
    by_mail : (l n : ℕ) → 1 ≤ times l (links n) → n ≡ ends l
    by_mail l n h = dite (dec_le (length p.net.links) l)
        (λ beyond. absurd (omega (arith, h, past n l beyond)))
        (λ there. at_is n (ends l) (omega (arith, h, own n l (lt_of_not-le there))))

    by_place : (k a b : ℕ) → a < node_count p → b < node_count p → 1 ≤ times k (a ∷ map (mail_part p) (links a)) → 1 ≤ times k (b ∷ map (mail_part p) (links b)) → a ≡ b
    by_place k a b ha hb in_a in_b = dite (dec_le (node_count p) k)
        (λ mail. let l : ℕ = k - node_count p in let e : k ≡ node_count p + l = omega (arith, mail) in
        let one : 1 ≤ times l (links a) = omega (arith, in_a, ap (λ x. times x (a ∷ map (mail_part p) (links a))) e, mail_of p a (links a) ha l) in
        let two : 1 ≤ times l (links b) = omega (arith, in_b, ap (λ x. times x (b ∷ map (mail_part p) (links b))) e, mail_of p b (links b) hb l) in
        by_mail l a one ∙ sym (by_mail l b two))
        (λ cell. let cell' : k < node_count p = lt_of_not-le cell in
        sym (at_is k a (omega (arith, in_a, cell_of p a (links a) k cell'))) ∙ at_is k b (omega (arith, in_b, cell_of p b (links b) k cell')))

  -- of the units of one phase only one has a place
  abbrev placed : ℕ → ℕ → ℕ
  placed k i = times k (places_in p (task_at (node_count p) i))

  placed_is : (k u : ℕ) → times k (places p u) ≡ placed k (u % step_units (node_count p))
  unfolding places task_of
  placed_is k u = refl

  pub one_has_it : (c x k : ℕ) → phase_start (node_count p) c ≤ x → x < phase_end (node_count p) c → 1 ≤ times k (places p c) → 1 ≤ times k (places p x) → c ≡ x
  one_has_it c x k lo hi in_c in_x =
      let N : ℕ = node_count p in
      let W : ℕ = step_units N in
      let b : ℕ = c / W * W in
      let r : ℕ = c % W in
      let j : ℕ = x % W in
      let q : x / W ≡ c / W = same_step N c x lo hi in
      let here : b + j ≡ x = subst (λ (y : ℕ). y * W + j ≡ x) q (div-add-mod' x W) in
      let there : b + r ≡ c = div-add-mod' c W in
      let hr : r < N + N + 1 = mod-lt c (omega arith) in
      let hj : j < N + N + 1 = mod-lt x (omega arith) in
      let lo' : starts N b r ≤ b + j = omega (arith, lo, start_is N c, here) in
      let hi' : b + j < stops N b r = omega (arith, hi, stop_is N c, here) in
      let mine : 1 ≤ placed k r = omega (arith, in_c, placed_is k c) in
      let its : 1 ≤ placed k j = omega (arith, in_x, placed_is k x) in
      let same : r ≡ j = dite (dec_le N r)
      (λ past. dite (dec_le (N + N) r)
      (λ last. sym (band_last N b r j hr hj lo' hi' last))
      (λ mid. let mid' : r < N + N = lt_of_not-le mid in
      let low : N ≤ j = band_low N b r j hr hj lo' hi' past mid' in
      let high : j < N + N = band_high N b r j hr hj lo' hi' past mid' in
      let at_r : placed k r ≡ in_task p k (Gather (r - N)) = ap (λ i. placed k i) (let e : r ≡ N + (r - N) = omega (arith, past) in e) ∙ ap (λ task. times k (places_in p task)) (gathers N (r - N) (omega (arith, past, mid'))) in
      let at_j : placed k j ≡ in_task p k (Gather (j - N)) = ap (λ i. placed k i) (let e : j ≡ N + (j - N) = omega (arith, low) in e) ∙ ap (λ task. times k (places_in p task)) (gathers N (j - N) (omega (arith, low, high))) in
      let one : r - N ≡ j - N = by_place (λ n. ins p n) (λ l. (link_at p l).to.0) (λ n l h. times_ins p n l h) (λ n l h. ins_past p n l h) k (r - N) (j - N) (omega (arith, past, mid')) (omega (arith, low, high)) (omega (arith, mine, at_r)) (omega (arith, its, at_j)) in
      omega (arith, one, past, low)))
      (λ first. let first' : r < N = lt_of_not-le first in
      let low : j < N = band N b r j hr hj lo' hi' first' in
      let at_r : placed k r ≡ in_task p k (Transfer r) = ap (λ task. times k (places_in p task)) (transfers N r first') in
      let at_j : placed k j ≡ in_task p k (Transfer j) = ap (λ task. times k (places_in p task)) (transfers N j low) in
      by_place (λ n. outs p n) (λ l. (link_at p l).from.0) (λ n l h. times_outs p n l h) (λ n l h. outs_past p n l h) k r j first' low (omega (arith, mine, at_r)) (omega (arith, its, at_j))) in
      sym there ∙ ap (λ y. b + y) same ∙ here

  -- what a unit moves is among its places
  pub moved_is_placed : (k u : ℕ) → times k (moved_by p u) ≤ times k (places p u)
  unfolding moved_by places
  moved_is_placed k u = by (task_of (node_count p) u)
    where
      by : (task : Task) → times k (moved_in p task) ≤ times k (places_in p task)
      by (Transfer n) = omega arith
      by (Gather n) = omega arith
      by Posting = omega (arith, total-append (is_at k) (all_nodes p) (posting_part p ∷ []))

  -- of the units of one phase no other moves a part that unit c moves
  pub alone : (c x k : ℕ) → phase_start (node_count p) c ≤ x → x < phase_end (node_count p) c → x ≢ c → 1 ≤ moves p k c → moves p k x ≡ 0
  alone c x k lo hi other own =
      dite (dec_le 1 (moves p k x))
      (λ his. absurd (other (sym (one_has_it c x k lo hi (omega (arith, own, moved_is_placed k c)) (omega (arith, his, moved_is_placed k x))))))
      (λ none. let z : moves p k x < 1 = lt_of_not-le none in omega (arith, z))

in_phase : (n a b : ℕ) → phase_start n a ≡ phase_start n b → b < phase_end n a
in_phase n a b e = dite (dec_le (phase_end n a) b)
    (λ past. absurd (omega (arith, next_start n a b past, e, start_le n a, lt_stop n a)))
    (λ h. lt_of_not-le h)

pub no_place_is_shared : NoPlaceIsShared
no_place_is_shared p a b k e in_a in_b =
    one_has_it p a b k (omega (arith, e, start_le (node_count p) b)) (in_phase (node_count p) a b e) (stands (places p a) k in_a) (stands (places p b) k in_b)

pub places_do_rise : PlacesRise
places_do_rise p u =
    let r = places_in_order p u in
    (increasing 0 (suc (posting_part p)) (places p u) r, λ i d h. (let l = below_high 0 (suc (posting_part p)) (places p u) r i d h in omega (arith, l)))
