-- What links hold, by the room of each step.
use Rattle.std.specs.Prelude.{count_by, nat_le, nat_lt}
use Rattle.std.proofs.Common.{◌≡◌, ℕ, zero, suc, ◌+◌, ◌-◌, ◌<◌, ◌≤◌, length, Bool, true, false}
use Rattle.std.proofs.Common.{◌&&◌, [], refl, ap, arith, Some, ◌⊎◌, inl, inr}
use Rattle.std.proofs.lemmas.Bool.{and_parts, cases_lt}
use Rattle.std.proofs.lemmas.Bool.Decides.{nat_tests}
use Rattle.std.proofs.lemmas.List.{length-append}
use Rattle.std.proofs.lemmas.List.Elements.{All-weaker}
use Rattle.std.proofs.lemmas.List.Sums.{count_by-le-length}
use Rattle.dta_model.specs.Leavings.{leaving_moves}
use Rattle.dta_model.specs.Loading.{after_step, step_moves, trace_after}
use Rattle.dta_model.specs.Plans.{all_nodes, link_at}
use Rattle.dta_model.specs.Room.{entered_by, leavings, left_below, room, room_by, wave_of}
use Rattle.dta_model.specs.Sound.{IsSound}
use Rattle.dta_model.specs.Trace.{last_moves, leads_to, queue_of}
use Rattle.dta_model.specs.declared.plan.Plan.{Plan}
use Rattle.dta_model.specs.declared.queue.Queue.{Queue}
use Rattle.dta_model.specs.declared.queue.Queue.TheVariants as queue
use Rattle.dta_model.proofs.Left.{entries_add_up, steps_are_below}
use Rattle.traffic_laws.specs.Capacity.{entered_within, left_within}
use Rattle.traffic_laws.specs.Storage.{EntriesFollowTheWave, IsBounded, StorageHolds}
use Rattle.traffic_laws.proofs.Counts.{count-alike, count-append, count-less, count-none}
use Rattle.traffic_laws.proofs.WithinRates.{all-now, enters-room, entered-most, entries-at}
use Rattle.traffic_laws.proofs.WithinRates.{leave-next}

module _ (p : Plan) (sound : IsSound p) (l : ℕ) (h : l < length p.net.links) where
  abbrev came : ℕ → ℕ
  came t = count_by (leads_to l) (step_moves p t (trace_after p t) (all_nodes p))

  -- who enters in a step finds room
  come-in : (t places : ℕ) → room p l t (trace_after p t) ≡ Some places → came t ≤ places
  come-in t places e =
      let n = (link_at p l).from.0 in
      let T = trace_after p t in
      let at = entries-at p sound t T l h in
      let few = entered-most p n t T l places (λ M f. enters-room p n t T M l places e f) in
      omega (arith, at, few)

  entered-next : (t : ℕ)
      → entered_by (trace_after p (suc t)) l ≡ entered_by (trace_after p t) l + came t
  unfolding trace_after after_step
  entered-next t =
      count-append (leads_to l) (trace_after p t)
      (step_moves p t (trace_after p t) (all_nodes p))

  gone-next : (t : ℕ)
      → length (leavings l [] (trace_after p t)) ≤ length (leavings l [] (trace_after p (suc t)))
  gone-next t =
      let next = ap (λ L. length L) (leave-next p sound l h t) in
      let both = length-append (leavings l [] (trace_after p t)) (leaving_moves p t l) in
      omega (arith, next, both)

  -- with a spatial queue
  spatial_room : p.queue ≡ queue.Spatial → (t : ℕ) → room p l t (trace_after p t)
      ≡ Some ((link_at p l).storage - length (queue_of l (trace_after p t)))
  unfolding room
  spatial_room e t = ap (λ q. room_by p q l t (trace_after p t)) e

  nobody : queue_of l (trace_after p 0) ≡ []
  unfolding trace_after queue_of last_moves
  nobody = refl

  spatial : p.queue ≡ queue.Spatial → (t : ℕ)
      → length (queue_of l (trace_after p t)) ≤ (link_at p l).storage
  spatial e zero = let none = ap (λ Q. length Q) nobody in omega (arith, none)
  spatial e (suc t) =
      let so_far = spatial e t in
      let now = entries_add_up p t l in
      let then = entries_add_up p (suc t) l in
      let next = entered-next t in
      let gone = gone-next t in
      let few = come-in t ((link_at p l).storage - length (queue_of l (trace_after p t)))
      (spatial_room e t) in
      omega (arith, so_far, now, then, next, gone, few)

  -- with Newell's queue
  newell_room : (wave : ℕ) → p.queue ≡ queue.Newell wave → (t : ℕ)
      → room p l t (trace_after p t)
      ≡ Some ((link_at p l).storage + left_below (suc t - wave_of p l) (trace_after p t) l
      - entered_by (trace_after p t) l)
  unfolding room
  newell_room wave e t = ap (λ q. room_by p q l t (trace_after p t)) e

  -- exits before a step are no fewer before a later one, and after one more step
  exits-later : (t a b : ℕ) → a ≤ b
      → left_within (trace_after p t) l 0 a ≤ left_below b (trace_after p t) l
  exits-later t a b less =
      count-less (λ m. nat_le 0 m.step && nat_lt m.step a) (λ m. nat_lt m.step b)
      (λ m e. earlier m.step e) (leavings l [] (trace_after p t))
    where
      earlier : (k : ℕ) → (nat_le 0 k && nat_lt k a) ≡ true → nat_lt k b ≡ true
      earlier k e = grind (arith, nat_tests)

  exits-next : (t a b : ℕ) → a ≤ b
      → left_below a (trace_after p t) l ≤ left_within (trace_after p (suc t)) l 0 b
  exits-next t a b less =
      let more = count-less (λ m. nat_lt m.step a) (λ m. nat_le 0 m.step && nat_lt m.step b)
      (λ m e. later m.step e) (leavings l [] (trace_after p t)) in
      let next = ap (λ L. count_by (λ m. nat_le 0 m.step && nat_lt m.step b) L)
      (leave-next p sound l h t) in
      let both = count-append (λ m. nat_le 0 m.step && nat_lt m.step b)
      (leavings l [] (trace_after p t)) (leaving_moves p t l) in
      omega (arith, more, next, both)
    where
      later : (k : ℕ) → nat_lt k a ≡ true → (nat_le 0 k && nat_lt k b) ≡ true
      later k e = grind (arith, nat_tests)

  -- entries before a step are some of all, and after that many steps they are all
  entries-some : (t u : ℕ) → entered_within (trace_after p t) l 0 u ≤ entered_by (trace_after p t) l
  entries-some t u =
      count-less (λ m. leads_to l m && nat_le 0 m.step && nat_lt m.step u) (leads_to l)
      (λ m e. (and_parts (leads_to l m) (nat_le 0 m.step)
      (and_parts (leads_to l m && nat_le 0 m.step) (nat_lt m.step u) e).0).0) (trace_after p t)

  entries-all : (t : ℕ) → entered_by (trace_after p t) l ≤ entered_within (trace_after p t) l 0 t
  entries-all t =
      let all = count-alike (leads_to l)
      (λ m. leads_to l m && nat_le 0 m.step && nat_lt m.step t) (trace_after p t)
      (All-weaker (λ m. m.step < t)
      (λ m. leads_to l m ≡ (leads_to l m && nat_le 0 m.step && nat_lt m.step t))
      (λ m h. passes (leads_to l m) m.step h) (trace_after p t) (steps_are_below p t)) in
      omega (arith, all)
    where
      passes : (c : Bool) (k : ℕ) → k < t → c ≡ (c && nat_le 0 k && nat_lt k t)
      passes true k e = grind (arith, nat_tests)
      passes false k e = refl

  -- moves of a later step are none of those before
  entries-past : (t u : ℕ) → u ≤ t
      → entered_within (trace_after p (suc t)) l 0 u ≡ entered_within (trace_after p t) l 0 u
  unfolding trace_after after_step
  entries-past t u past =
      let M = step_moves p t (trace_after p t) (all_nodes p) in
      let both = count-append (λ m. leads_to l m && nat_le 0 m.step && nat_lt m.step u)
      (trace_after p t) M in
      let none = count-none (λ m. leads_to l m && nat_le 0 m.step && nat_lt m.step u) M
      (All-weaker (λ m. m.step ≡ t)
      (λ m. (leads_to l m && nat_le 0 m.step && nat_lt m.step u) ≡ false)
      (λ m now. outside (leads_to l m) m.step now) M (all-now p sound t (trace_after p t))) in
      omega (arith, both, none)
    where
      outside : (c : Bool) (k : ℕ) → k ≡ t → (c && nat_le 0 k && nat_lt k u) ≡ false
      outside true k e = grind (arith, nat_tests)
      outside false k e = refl

  nobody_came : (u : ℕ) → entered_within (trace_after p 0) l 0 u ≡ 0
  unfolding trace_after
  nobody_came u = refl

  wave_holds : (wave : ℕ) → p.queue ≡ queue.Newell wave → (t u : ℕ)
      → entered_within (trace_after p t) l 0 u
      ≤ left_within (trace_after p t) l 0 (u - wave_of p l) + (link_at p l).storage
  wave_holds wave e zero u = let none = nobody_came u in omega (arith, none)
  wave_holds wave e (suc t) u = by (cases_lt t u) (wave_holds wave e t)
    where
      by : (t < u) ⊎ (u ≤ t)
          → ((k : ℕ) → entered_within (trace_after p t) l 0 k
          ≤ left_within (trace_after p t) l 0 (k - wave_of p l) + (link_at p l).storage)
          → entered_within (trace_after p (suc t)) l 0 u
          ≤ left_within (trace_after p (suc t)) l 0 (u - wave_of p l) + (link_at p l).storage
      by (inl now) ih =
          let before = ih t in
          let all = entries-all t in
          let w = wave_of p l in
          let there = exits-later t (t - w) (suc t - w) (omega arith) in
          let few = come-in t ((link_at p l).storage + left_below (suc t - w) (trace_after p t) l
          - entered_by (trace_after p t) l) (newell_room wave e t) in
          let next = entered-next t in
          let some = entries-some (suc t) u in
          let more = exits-next t (suc t - w) (u - w) (omega (arith, now)) in
          omega (arith, before, all, there, few, next, some, more)
      by (inr past) ih =
          let before = ih u in
          let same = entries-past t u past in
          let w = wave_of p l in
          let there = exits-later t (u - w) (u - w) (omega arith) in
          let more = exits-next t (u - w) (u - w) (omega arith) in
          omega (arith, before, same, there, more)

  newell : (wave : ℕ) → p.queue ≡ queue.Newell wave → (t : ℕ)
      → length (queue_of l (trace_after p t)) ≤ (link_at p l).storage
  newell wave e t =
      let most = wave_holds wave e t t in
      let all = entries-all t in
      let add = entries_add_up p t l in
      let some = count_by-le-length (λ m. nat_le 0 m.step && nat_lt m.step (t - wave_of p l))
      (leavings l [] (trace_after p t)) in
      omega (arith, most, all, add, some)

  bounded : (q : Queue) → p.queue ≡ q → IsBounded q → (t : ℕ)
      → length (queue_of l (trace_after p t)) ≤ (link_at p l).storage
  bounded queue.Point e b t = absurd b
  bounded queue.Spatial e b t = spatial e t
  bounded (queue.Newell wave) e b t = newell wave e t

pub storage_holds : StorageHolds
storage_holds p sound b t l h = bounded p sound l h p.queue refl b t

pub entries_follow_the_wave : EntriesFollowTheWave
entries_follow_the_wave p sound wave e t l step h = wave_holds p sound l h wave e t step
