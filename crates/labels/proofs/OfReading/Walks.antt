-- One more link of a walk that follows the labels.
use Rattle.std.proofs.Common.{◌≡◌, ℕ, ◌+◌, ◌<◌, Bool, true, false, List, [], ◌∷◌, ◌++◌, length, refl, ap, sym, ◌∙◌, subst, arith, append_assoc}
use Rattle.std.specs.Prelude.{nat_eq, slice_index}
use Rattle.std.proofs.lemmas.List.{map-append}
use Rattle.net_core.specs.declared.rows.LinkNo.{LinkNo}
use Rattle.net_core.specs.declared.rows.NetRows.{NetRows}
use Rattle.dta_model.specs.Plans.{link_numbers}
use Rattle.labels.specs.Filling.Labels.{far}
use Rattle.labels.specs.Reading.Follows.{Follows}
use Rattle.labels.specs.Filling.Rests.{over, least_over, IsPick}
use Rattle.labels.specs.States.Routers.{ways_to, ends_to}
use Rattle.labels.specs.Reading.Serves.{label_in, Serves}
use Rattle.labels.specs.States.RouterWays.{is_own, onwards, state_of}
use Rattle.labels.specs.declared.states.onward.Onward.{Onward}
use Rattle.labels.specs.declared.states.router.Router.{Router}
use Rattle.labels.proofs.OfFilling.LeastOver.{choice_of, far_rest}
use Rattle.labels.proofs.Basics.{some_same}

pub append_nil : (xs : List ℕ) → xs ++ [] ≡ xs
append_nil [] = refl
append_nil (x ∷ xs) = ap (λ ys. x ∷ ys) (append_nil xs)

module _ (net : NetRows) (zone : ℕ) (at rest : ℕ → ℕ → ℕ) (r : Router) (v : Serves net zone at rest r) where
  not_end : (l : ℕ) → l < length r.states.items → is_own r zone (state_of r l) ≡ false → ends_to net zone l ≡ false
  not_end l small own = sym (v.routes.turns.ends l small) ∙ own

  -- what is left is the least over the ways on
  pub least_here : (l e : ℕ) → l < length r.states.items → is_own r zone (state_of r l) ≡ false → rest (state_of r l) e ≡ least_over at far rest e (onwards r (state_of r l))
  least_here l e small own = far_rest (ways_to at net zone) (is_own r zone) (state_of r) (onwards r) rest (length r.states.items) (length r.zones.items) far v.most v.longest v.routes.turns v.rests v.near v.short v.room l e small (not_end l small own)

  pub ends_here : (l e : ℕ) → l < length r.states.items → is_own r zone (state_of r l) ≡ true → Follows (ways_to at net zone) (label_in at rest r) l e []
  ends_here l e small own = sym (v.routes.turns.ends l small) ∙ own

  module _ (l e : ℕ) (small : l < length r.states.items) (own : is_own r zone (state_of r l) ≡ false) (near : rest (state_of r l) (e + at l e) < far) (w : Onward)
      (p : IsPick at far rest (onwards r (state_of r l)) (e + at l e) (rest (state_of r l) (e + at l e)) w) where
    pub within : w.link < length r.states.items
    within = let a = v.routes.turns.allowed l p.place w small p.stands in let i = v.routes.turns.turn_within l w.link w.wait (a.0) in i.1

    pub goes_on : rest (state_of r w.link) ((e + at l e) + w.wait + at w.link ((e + at l e) + w.wait)) + (w.wait + at w.link ((e + at l e) + w.wait)) ≡ rest (state_of r l) (e + at l e)
    unfolding over
    goes_on =
        let a = v.routes.turns.allowed l p.place w small p.stands in
        let start = e + at l e in
        let same : w.to ≡ state_of r w.link = a.1 in
        let place : start + w.wait + at w.link (start + w.wait) ≡ start + (w.wait + at w.link (start + w.wait)) = omega arith in
        rw (place, ← same) p.gives

    pub follows_more : (others : List ℕ) → Follows (ways_to at net zone) (label_in at rest r) w.link ((e + at l e) + w.wait) others → Follows (ways_to at net zone) (label_in at rest r) l e (w.link ∷ others)
    follows_more others f =
        let a = v.routes.turns.allowed l p.place w small p.stands in
        let c = choice_of (ways_to at net zone) (is_own r zone) (state_of r) (onwards r) rest (length r.states.items) (length r.zones.items) far v.most v.longest v.routes.turns v.rests v.near v.short v.room l e w small (not_end l small own) near (v.routes.ordered (state_of r l) (v.routes.turns.narrow l small)) p in
        let same : w.wait ≡ c.wait = some_same w.wait c.wait (sym (a.0) ∙ c.way) in
        let place : (e + at l e) + w.wait ≡ e + (at l e + c.wait) = omega (arith, same) in
        (c, subst (λ x. Follows (ways_to at net zone) (label_in at rest r) w.link x others) place f)

  -- the same in the numbers that the code holds
  pub step_of : (l e s x y : ℕ) (ws : List Onward) → l < length r.states.items → is_own r zone (state_of r l) ≡ false → rest (state_of r l) (e + at l e) < far → (w : Onward) → s ≡ state_of r l → x ≡ at l e → y ≡ rest s (e + x) → ws ≡ onwards r s
      → IsPick at far rest ws (e + x) y w
      → (w.link < length r.states.items) × (rest (state_of r w.link) ((e + x) + w.wait + at w.link ((e + x) + w.wait)) + (w.wait + at w.link ((e + x) + w.wait)) ≡ rest (state_of r l) (e + at l e)) × (0 < at w.link ((e + x) + w.wait))
      × ((others : List ℕ) → Follows (ways_to at net zone) (label_in at rest r) w.link ((e + x) + w.wait) others → Follows (ways_to at net zone) (label_in at rest r) l e (w.link ∷ others))
  step_of l e s x y ws small own near w is time left ways p =
      let q0 = subst (λ u. IsPick at far rest u (e + x) y w) ways p in
      let q1 = subst (λ z. IsPick at far rest (onwards r s) (e + x) z w) left q0 in
      let q2 = subst (λ n. IsPick at far rest (onwards r n) (e + x) (rest n (e + x)) w) is q1 in
      let q = subst (λ z. IsPick at far rest (onwards r (state_of r l)) (e + z) (rest (state_of r l) (e + z)) w) time q2 in
      subst (λ z. (w.link < length r.states.items) × (rest (state_of r w.link) ((e + z) + w.wait + at w.link ((e + z) + w.wait)) + (w.wait + at w.link ((e + z) + w.wait)) ≡ rest (state_of r l) (e + at l e)) × (0 < at w.link ((e + z) + w.wait))
      × ((others : List ℕ) → Follows (ways_to at net zone) (label_in at rest r) w.link ((e + z) + w.wait) others → Follows (ways_to at net zone) (label_in at rest r) l e (w.link ∷ others)))
      (sym time)
      (within l e small own near w q, goes_on l e small own near w q, v.takes_time w.link ((e + at l e) + w.wait) (within l e small own near w q), follows_more l e small own near w q)

pub numbers_more : (old new : List LinkNo) (l : ℕ) (others : List ℕ) → new ≡ old ++ record { 0 = l } ∷ [] → link_numbers new ++ others ≡ link_numbers old ++ (l ∷ others)
numbers_more old new l others h =
    ap (λ ls. link_numbers ls ++ others) h
    ∙ ap (λ ns. ns ++ others) (map-append (λ n. n.0) old (record { 0 = l } ∷ []))
    ∙ append_assoc (link_numbers old) (l ∷ []) others

-- a test of the state that the code has
pub own_of : (r : Router) (zone l s : ℕ) (b x : Bool) → s ≡ state_of r l → b ≡ nat_eq (slice_index r.zones.items s) zone → b ≡ x → is_own r zone (state_of r l) ≡ x
own_of r zone l s b x is test told = subst (λ n. nat_eq (slice_index r.zones.items n) zone ≡ x) is (sym test ∙ told)

pub left_of : (r : Router) (rest at : ℕ → ℕ → ℕ) (l s e left : ℕ) (ws : List Onward) → s ≡ state_of r l → left ≡ rest s e → ws ≡ onwards r s → rest (state_of r l) e ≡ least_over at far rest e (onwards r (state_of r l)) → rest (state_of r l) e < far
    → (left < far) × (left ≡ least_over at far rest e ws)
left_of r rest at l s e left ws is have are least near =
    let same : rest s e ≡ rest (state_of r l) e = ap (λ n. rest n e) is in
    let ways : ws ≡ onwards r (state_of r l) = are ∙ ap (λ n. onwards r n) is in
    (omega (arith, have, same, near), have ∙ same ∙ least ∙ ap (λ us. least_over at far rest e us) (sym ways))
