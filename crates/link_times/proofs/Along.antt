-- The moves of a vehicle are as its route and its journey tell them.
use Rattle.std.specs.Prelude.{slice_get, slice_index, All, option_to_list}
use Rattle.std.proofs.Common.{◌≡◌, ℕ, zero, suc, ◌+◌, ◌<◌, ◌≤◌, true, false, List, [], ◌∷◌, ◌++◌, length, map, drop, refl, ap, sym, ◌∙◌, subst, arith, Some, Option, None}
use Rattle.std.proofs.lemmas.List.Elements.{All-head, All-tail}
use Rattle.net_core.specs.declared.rows.LinkNo.{LinkNo}
use Rattle.dta_model.specs.declared.plan.Plan.{Plan}
use Rattle.dta_model.specs.Loading.{is_entry, is_onto, step_in}
use Rattle.dta_model.specs.Plans.{link_numbers}
use Rattle.dta_model.specs.Trace.{Arrived, Move, Onto, Target, target_at}
use Rattle.link_times.proofs.TravelTimes.{Lasts, Spaced}
use Rattle.link_times.specs.Journeys.{moves_along, link_on}

abbrev OnRoute : List LinkNo → List Move → Type 0
OnRoute route M = (i : ℕ) (m : Move) → slice_get M i ≡ Some m → m.target ≡ target_at (slice_get (link_numbers route) i)

move_is : (m : Move) (v : ℕ) (x : Target) → m.vehicle ≡ v → m.target ≡ x → record { step = m.step; vehicle = v; target = x } ≡ m
move_is m v x e f = subst (λ w. record { step = m.step; vehicle = w; target = x } ≡ m) e (subst (λ y. record { step = m.step; vehicle = m.vehicle; target = y } ≡ m) f refl)

pub record IsAlong (v : ℕ) (route : List LinkNo) (E : List Move) (o : Option Move) : Type 0 where
  pub moves : moves_along v route (map (λ m. m.step) E) (step_in o) ≡ E ++ option_to_list o
  pub within : length E ≤ length route

pub is_along : (v : ℕ) (route : List LinkNo) (E : List Move) (o : Option Move) → All (λ m. is_entry m ≡ true) E → ((m : Move) → o ≡ Some m → is_entry m ≡ false) → All (λ m. m.vehicle ≡ v) (E ++ option_to_list o) → OnRoute route (E ++ option_to_list o) → IsAlong v route E o
unfolding moves_along
is_along v route [] None entries out own on = record { moves = refl; within = omega arith }
is_along v route [] (Some m) entries out own on = record { moves = ap (λ x. x ∷ []) (move_is m v Arrived (All-head (λ x. x.vehicle ≡ v) m [] own) (left m.target (out m refl))); within = omega arith }
  where
    left : (x : Target) → is_onto x ≡ false → x ≡ Arrived
    left (Onto l) h = cc
    left Arrived h = refl
is_along v [] (m ∷ E) o entries out own on =
    let gone : m.target ≡ Arrived = on 0 m refl in
    let entry : is_onto m.target ≡ true = All-head (λ x. is_entry x ≡ true) m E entries in
    let clash : false ≡ true = sym (ap is_onto gone) ∙ entry in cc
is_along v (l ∷ route) (m ∷ E) o entries out own on =
    let rest = is_along v route E o (All-tail (λ x. is_entry x ≡ true) m E entries) out (All-tail (λ x. x.vehicle ≡ v) m (E ++ option_to_list o) own) (λ i x e. on (suc i) x e) in
    let w = rest.within in
    record {
      moves = ap (λ x. x ∷ moves_along v route (map (λ x. x.step) E) (step_in o)) (move_is m v (Onto l.0) (All-head (λ x. x.vehicle ≡ v) m (E ++ option_to_list o) own) (on 0 m refl)) ∙ ap (λ L. m ∷ L) rest.moves;
      within = omega (arith, w);
    }

-- entry i
pub along_get : (v : ℕ) (route : List LinkNo) (entries : List ℕ) (arrival : Option ℕ) (i : ℕ) → length entries ≤ length route → i < length entries
    → slice_get (moves_along v route entries arrival) i ≡ Some (record { step = slice_index entries i; vehicle = v; target = Onto (link_on route i) })
unfolding moves_along
along_get v route [] arrival i w h = absurd (omega (arith, h))
along_get v [] (e ∷ entries) arrival i w h = absurd (omega (arith, w))
along_get v (l ∷ route) (e ∷ entries) arrival zero w h = refl
along_get v (l ∷ route) (e ∷ entries) arrival (suc i) w h = along_get v route entries arrival i (omega (arith, w)) (omega (arith, h))

-- and what follows the last one
abbrev pub out_in : ℕ → Option ℕ → Option Move
out_in v None = None
out_in v (Some step) = Some (record { step = step; vehicle = v; target = Arrived })

pub along_end : (v : ℕ) (route : List LinkNo) (entries : List ℕ) (arrival : Option ℕ) (i : ℕ) → length entries ≤ length route → i ≡ length entries
    → slice_get (moves_along v route entries arrival) i ≡ out_in v arrival
unfolding moves_along
along_end v route [] None zero w h = refl
along_end v route [] (Some s) zero w h = refl
along_end v route [] arrival (suc i) w h = absurd (omega (arith, h))
along_end v [] (e ∷ entries) arrival i w h = absurd (omega (arith, w))
along_end v (l ∷ route) (e ∷ entries) arrival zero w h = absurd (omega (arith, h))
along_end v (l ∷ route) (e ∷ entries) arrival (suc i) w h = along_end v route entries arrival i (omega (arith, w)) (omega (arith, h))

-- the moves after the i-th entry and from it on
pub along_more : (v : ℕ) (route : List LinkNo) (entries : List ℕ) (arrival : Option ℕ) (i : ℕ) → length entries ≤ length route → i < length entries
    → drop i (moves_along v route entries arrival) ≡ record { step = slice_index entries i; vehicle = v; target = Onto (link_on route i) } ∷ drop (suc i) (moves_along v route entries arrival)
unfolding moves_along
along_more v route [] arrival i w h = absurd (omega (arith, h))
along_more v [] (e ∷ entries) arrival i w h = absurd (omega (arith, w))
along_more v (l ∷ route) (e ∷ entries) arrival zero w h = refl
along_more v (l ∷ route) (e ∷ entries) arrival (suc i) w h = along_more v route entries arrival i (omega (arith, w)) (omega (arith, h))

pub along_last : (v : ℕ) (route : List LinkNo) (entries : List ℕ) (arrival : Option ℕ) → length entries ≤ length route → drop (length entries) (moves_along v route entries arrival) ≡ option_to_list (out_in v arrival)
unfolding moves_along
along_last v route [] None w = refl
along_last v route [] (Some s) w = refl
along_last v [] (e ∷ entries) arrival w = absurd (omega (arith, w))
along_last v (l ∷ route) (e ∷ entries) arrival w = along_last v route entries arrival (omega (arith, w))

pub along_own : (v : ℕ) (route : List LinkNo) (entries : List ℕ) (arrival : Option ℕ) → All (λ m. m.vehicle ≡ v) (moves_along v route entries arrival)
unfolding moves_along
along_own v route [] None i d h = absurd (omega (arith, h))
along_own v route [] (Some s) zero d h = refl
along_own v route [] (Some s) (suc i) d h = absurd (omega (arith, h))
along_own v [] (e ∷ entries) arrival i d h = absurd (omega (arith, h))
along_own v (l ∷ route) (e ∷ entries) arrival zero d h = refl
along_own v (l ∷ route) (e ∷ entries) arrival (suc i) d h = along_own v route entries arrival i d (omega (arith, h))

-- moves that follow each other
pub spaced_at : (p : Plan) (before : Option Move) (M : List Move) (i : ℕ) (a b : Move) → Spaced p before M → slice_get M i ≡ Some a → slice_get M (suc i) ≡ Some b → Lasts p a b
spaced_at p before [] i a b s e f = cc
spaced_at p None (x ∷ []) zero a b s e f = cc
spaced_at p None (x ∷ y ∷ M) zero a b s e f = let q : x ≡ a = cc in let r : y ≡ b = cc in subst (λ z. Lasts p z b) q (subst (λ z. Lasts p x z) r s.0)
spaced_at p (Some c) (x ∷ []) zero a b s e f = cc
spaced_at p (Some c) (x ∷ y ∷ M) zero a b s e f = let q : x ≡ a = cc in let r : y ≡ b = cc in subst (λ z. Lasts p z b) q (subst (λ z. Lasts p x z) r s.1.0)
spaced_at p None (x ∷ M) (suc i) a b s e f = spaced_at p (Some x) M i a b s e f
spaced_at p (Some c) (x ∷ M) (suc i) a b s e f = spaced_at p (Some x) M i a b s.1 e f

-- numbers that rise are no fewer than they are great
pub rising_few : (xs : List ℕ) (most : ℕ) → ((i : ℕ) → suc i < length xs → slice_index xs i + 1 ≤ slice_index xs (suc i)) → ((i : ℕ) → i < length xs → slice_index xs i < most) → length xs ≤ most
rising_few [] most rise low = omega arith
rising_few (x ∷ xs) most rise low = let a = at_least (length xs) (omega arith) in let b = low (length xs) (omega arith) in omega (arith, a, b)
  where
    at_least : (i : ℕ) → i < length (x ∷ xs) → i ≤ slice_index (x ∷ xs) i
    at_least zero h = omega arith
    at_least (suc i) h = let a = at_least i (omega (arith, h)) in let b = rise i (omega (arith, h)) in omega (arith, a, b)
