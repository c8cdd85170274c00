-- Answers of vehicles, and how they are put in their places.
use Rattle.trip_costs.specs.Timings.{Timing}
use Rattle.trip_costs.specs.Costs.{CostTables}
use Rattle.std.proofs.Common.{◌≡◌, ◌⊎◌, inl, inr, ℕ, zero, suc, ◌+◌, ◌-◌, ◌*◌, ◌≤◌, Bool, true, false, cond, List, [], ◌∷◌, ◌++◌, length, refl, sym, ◌∙◌, subst, ap, arith, Some, set, take, drop}
use Rattle.std.specs.Prelude.{slice_get}
use Rattle.std.specs.Fork.{slice_chunk}
use Rattle.std.specs.List.{slice_range}
use Rattle.std.proofs.lemmas.List.{length-drop, length-set, take_all}
use Rattle.std.proofs.lemmas.List.Elements.{All-push}
use Rattle.net_core.specs.declared.rows.NetRows.{NetRows}
use Rattle.net_core.specs.declared.rows.ZoneNo.{ZoneNo}
use Rattle.dta_model.specs.declared.trip.Trip.{Trip}
use Rattle.labels.specs.ToZone.{AreOfFirst, ToZones, zone_numbers}
use Rattle.time_routes.specs.Destinations.{asked_least, asked_walk, asks_least, asks_walk, IsRight, LeastOf, WalkOf}
use Rattle.time_routes.specs.Answers.{answered, AnswersMore, AreAnswers, IsAnswer}
use Rattle.time_routes.specs.Tell.{LeadsToFirst, Settles, Stands, Tells}
use Rattle.time_routes.specs.declared.answers.Answer.{Answer}
use Rattle.time_routes.specs.declared.vehicles.Ask.{Ask}
use Rattle.time_routes.specs.declared.vehicles.Told.{Told}
use Rattle.time_routes.proofs.TellFacts.{group_more, settles_same, settles_set, tells_fewer}

-- ---- who is answered
pub answered_before : (answers : List Answer) (answer : Answer) (v : ℕ) → Stands (answered answers) v → Stands (answered (answers ++ answer ∷ [])) v
answered_before [] answer v s = let e = s.1 in cc
answered_before (a ∷ answers) answer v s = by (s.0) s.1 (λ k e. answered_before answers answer v (k, e))
  where
    by : (k : ℕ) → slice_get (answered (a ∷ answers)) k ≡ Some v → ((k : ℕ) → slice_get (answered answers) k ≡ Some v → Stands (answered (answers ++ answer ∷ [])) v) → Stands (answered (a ∷ (answers ++ answer ∷ []))) v
    by zero e later = (zero, e)
    by (suc k) e later = let r = later k e in (suc (r.0), r.1)

pub answered_last : (answers : List Answer) (answer : Answer) → Stands (answered (answers ++ answer ∷ [])) answer.vehicle
answered_last [] answer = (zero, refl)
answered_last (a ∷ answers) answer = let r = answered_last answers answer in (suc (r.0), r.1)

pub answered_then : (answers : List Answer) (answer : Answer) (v : ℕ) → Stands (answered (answers ++ answer ∷ [])) v → Stands (answered answers) v ⊎ (v ≡ answer.vehicle)
answered_then [] answer v s = by (s.0) s.1
  where
    by : (k : ℕ) → slice_get (answered (answer ∷ [])) k ≡ Some v → Stands (answered []) v ⊎ (v ≡ answer.vehicle)
    by zero e = inr (let same : answer.vehicle ≡ v = cc in sym same)
    by (suc k) e = cc
answered_then (a ∷ answers) answer v s = by (s.0) s.1 (λ k e. answered_then answers answer v (k, e))
  where
    further : Stands (answered answers) v ⊎ (v ≡ answer.vehicle) → Stands (answered (a ∷ answers)) v ⊎ (v ≡ answer.vehicle)
    further (inl r) = inl (suc (r.0), r.1)
    further (inr e) = inr e

    by : (k : ℕ) → slice_get (answered (a ∷ (answers ++ answer ∷ []))) k ≡ Some v → ((k : ℕ) → slice_get (answered (answers ++ answer ∷ [])) k ≡ Some v → Stands (answered answers) v ⊎ (v ≡ answer.vehicle)) → Stands (answered (a ∷ answers)) v ⊎ (v ≡ answer.vehicle)
    by zero e later = inl (zero, e)
    by (suc k) e later = further (later k e)

-- ---- some answers after others
module _ (costs : Timing) (net : NetRows) (trips : List Trip) (asks : List Ask) where
  pub answers_push : (v : ℕ) (answers : List Answer) (answer : Answer) → answer.vehicle ≡ v → IsAnswer costs net trips asks answer → AnswersMore costs net trips asks (λ w. w ≡ v) answers (answers ++ answer ∷ [])
  answers_push v answers answer of right = record {
    right = λ all. All-push (IsAnswer costs net trips asks) answers answer all right;
    kept = λ w s. answered_before answers answer w s;
    made = λ w n. subst (λ u. Stands (answered (answers ++ answer ∷ [])) u) (of ∙ sym n) (answered_last answers answer);
  }

  pub answers_then : (First Second Both : ℕ → Type 0) (old mid new : List Answer) → AnswersMore costs net trips asks First old mid → AnswersMore costs net trips asks Second mid new → ((v : ℕ) → Both v → First v ⊎ Second v) → AnswersMore costs net trips asks Both old new
  answers_then First Second Both old mid new one two split = record {
    right = λ all. two.right (one.right all);
    kept = λ v s. two.kept v (one.kept v s);
    made = λ v n. by v (split v n);
  }
    where
      by : (v : ℕ) → First v ⊎ Second v → Stands (answered new) v
      by v (inl f) = two.kept v (one.made v f)
      by v (inr s) = two.made v s

  pub answers_fewer : (Many Few : ℕ → Type 0) (old new : List Answer) → AnswersMore costs net trips asks Many old new → ((v : ℕ) → Few v → Many v) → AnswersMore costs net trips asks Few old new
  answers_fewer Many Few old new more h = record { right = more.right; kept = more.kept; made = λ v n. more.made v (h v n) }

-- ---- an answer in its place
module _ {X : Type 0} (T : Trip → X → Type 0) (asked : ℕ → Bool) (trips : List Trip) (v : ℕ) (xs : List X) (x : X) (right : IsRight T asked trips v x) where
  settles_asked_by : (b : Bool) → asked v ≡ b → Settles asked (IsRight T asked trips) (λ w. w ≡ v) xs (cond b (set xs v x) xs)
  settles_asked_by true e = settles_set asked (IsRight T asked trips) v xs x e right
  settles_asked_by false e = settles_same asked (IsRight T asked trips) v xs (λ y trip a. (let clash = sym e ∙ a in cc))

  pub settles_asked : Settles asked (IsRight T asked trips) (λ w. w ≡ v) xs (cond (asked v) (set xs v x) xs)
  settles_asked = settles_asked_by (asked v) refl

-- ---- one share after others
pub chunk_more : (net : NetRows) (trips : List Trip) (asks : List Ask) (named : List ZoneNo) (size share : ℕ) (v : ℕ) → LeadsToFirst net trips asks named ((share + 1) * size) v
    → LeadsToFirst net trips asks named (share * size) v ⊎ LeadsToFirst net trips asks (slice_chunk named size share) (length (slice_chunk named size share)) v
chunk_more net trips asks named size share v s =
    let wide : (share + 1) * size - share * size ≡ size = omega arith in
    subst (λ n. LeadsToFirst net trips asks named (share * size) v ⊎ LeadsToFirst net trips asks (take n (drop (share * size) named)) (length (take n (drop (share * size) named))) v) wide
    (group_more net trips asks named (share * size) ((share + 1) * size) v s)

pub in_all : (net : NetRows) (trips : List Trip) (asks : List Ask) (named : List ZoneNo) (count : ℕ) (v : ℕ) → length named ≤ count → LeadsToFirst net trips asks named (length named) v → LeadsToFirst net trips asks named count v
in_all net trips asks named count v h s = let low = s.2 in (s.0, s.1, omega (arith, low, h), s.3, s.4)

pub put_told : (costs : Timing) (net : NetRows) (trips : List Trip) (asks : List Ask) (answer : Answer) (ask : Ask) (old new : Told) → IsAnswer costs net trips asks answer → slice_get asks answer.vehicle ≡ Some ask
    → new.leasts.items ≡ cond ask.least (set old.leasts.items answer.vehicle answer.least) old.leasts.items
    → new.walks.items ≡ cond ask.walk (set old.walks.items answer.vehicle answer.walk) old.walks.items
    → Tells costs net trips asks (λ v. v ≡ answer.vehicle) old new
put_told costs net trips asks answer ask old new right there leasts walks = record {
  leasts = subst (λ l. Settles (asks_least asks) (IsRight (LeastOf costs net) (asks_least asks) trips) (λ v. v ≡ answer.vehicle) old.leasts.items l)
      (ap (λ o. cond (asked_least o) (set old.leasts.items answer.vehicle answer.least) old.leasts.items) there ∙ sym leasts)
      (settles_asked (LeastOf costs net) (asks_least asks) trips answer.vehicle old.leasts.items answer.least right.least);
  walks = subst (λ l. Settles (asks_walk asks) (IsRight (WalkOf costs net) (asks_walk asks) trips) (λ v. v ≡ answer.vehicle) old.walks.items l)
      (ap (λ o. cond (asked_walk o) (set old.walks.items answer.vehicle answer.walk) old.walks.items) there ∙ sym walks)
      (settles_asked (WalkOf costs net) (asks_walk asks) trips answer.vehicle old.walks.items answer.walk right.walk);
}

pub put_long : {X : Type 0} (b : Bool) (xs : List X) (v : ℕ) (x : X) → length (cond b (set xs v x) xs) ≡ length xs
put_long true xs v x = length-set xs v x
put_long false xs v x = refl

-- ---- all answers put
pub told_by : (costs : Timing) (net : NetRows) (trips : List Trip) (asks : List Ask) (Now : ℕ → Type 0) (answers : List Answer) (old new : Told) → AreAnswers costs net trips asks Now answers
    → Tells costs net trips asks (Stands (answered answers)) old new → Tells costs net trips asks Now old new
told_by costs net trips asks Now answers old new are put = tells_fewer costs net trips asks (Stands (answered answers)) Now old new put are.each

-- ---- labels of the first of some zones
-- zones from a place on, of which there are labels of the first
pub first_from : (net : NetRows) (costs : CostTables) (zones : List ZoneNo) (first : ℕ) (group : ToZones) → first ≤ length zones
    → AreOfFirst net costs (slice_range zones first (length zones)) group → group.zones ≡ zone_numbers (slice_range zones first (first + length group.zones))
first_from net costs zones first group low of =
    let rest : take (length zones - first) (drop first zones) ≡ drop first zones = take_all (length zones - first) (drop first zones) (let n = length-drop first zones in omega (arith, n)) in
    let many : length group.zones ≡ first + length group.zones - first = omega arith in
    of.first ∙ ap (λ zs. zone_numbers (take (length group.zones) zs)) rest ∙ ap (λ k. zone_numbers (take k (drop first zones))) many

-- no more zones than there are from a place on
pub first_few : (net : NetRows) (costs : CostTables) (zones : List ZoneNo) (first : ℕ) (group : ToZones) → first ≤ length zones
    → AreOfFirst net costs (slice_range zones first (length zones)) group → first + length group.zones ≤ length zones
first_few net costs zones first group low of =
    let rest : take (length zones - first) (drop first zones) ≡ drop first zones = take_all (length zones - first) (drop first zones) (let n = length-drop first zones in omega (arith, n)) in
    let n = length-drop first zones in
    let many = ap (λ (zs : List ZoneNo). length zs) rest in
    let few = of.few in
    omega (arith, few, many, n, low)
