-- What the head of a line does is the head's move of the definitions.
use Rattle.std.specs.Prelude.{slice_get, find, nat_eq, nat_lt, nat_le, option_map}
use Rattle.std.specs.List.{last_or}
use Rattle.std.specs.Option.{is_none}
use Rattle.std.proofs.Common.{◌≡◌, ℕ, suc, ◌+◌, ◌-◌, Bool, true, false, cond, ◌&&◌, ◌||◌, not, List, [], ◌∷◌, length, map, refl, ap, sym, ◌∙◌, arith, Option, Some, None}
use Rattle.std.proofs.lemmas.Bool.{eqb-true, ne_eqb}
use Rattle.std.proofs.lemmas.Bool.Decides.{nat_tests}
use Rattle.std.proofs.Math.Dec.{eqb}
use Rattle.dta_model.specs.Allowance.{allowance}
use Rattle.dta_model.specs.NodeMoves.{left, entered, turned, may_enter, may_turn, may_move, turn_test}
use Rattle.dta_model.specs.Plans.{link_at, link_allowance, link_rates, has_pass, turn, turn_rates, outs}
use Rattle.dta_model.specs.Riders.{RiderState, rider_at}
use Rattle.dta_model.specs.Room.{room, has_room}
use Rattle.dta_model.specs.Trace.{Move, Onto, Arrived}
use Rattle.dta_model.specs.declared.plan.Plan.{Plan}
use Rattle.net_core.specs.Rates.{last_begun, rate_in}
use Rattle.net_core.specs.declared.rates.Rates.{Rates}
use Rattle.net_core.specs.declared.rates.Window.{Window}
use Rattle.net_core.specs.declared.rows.Turn.{Turn}
use Rattle.cell_stages.specs.Contents.{kept_turns, is_kept, is_limited, turn_by}
use Rattle.node_transfer.specs.Inside.Pass.{place_of, head_action, by_target, entry_at, is_entry, turn_links, out_links, turn_open, limit_open, out_open, penalty_of}
use Rattle.cell_stages.specs.declared.out_link.OutLink.{OutLink}
use Rattle.cell_stages.specs.declared.exit.Exit.{Exit}
use Rattle.node_transfer.specs.declared.step.pass.HeadAction.{HeadAction}
use Rattle.node_transfer.specs.declared.step.pass.HeadAction.TheVariants.{Stays, Arrives, Enters}
use Rattle.cell_stages.specs.declared.turn.LimitedTurn.{LimitedTurn}
use Rattle.node_transfer.proofs.OfStep.Mid.{T, meter_mid, capped_room, turn_mid, exit_mid, out_mid}
use Rattle.capacity_credits.specs.Meter.{MeterState}
use Rattle.node_transfer.proofs.OfStep.ByKey.{get-at, find_kept}

-- a turn that the network allows, to a link out of the node
pub record Allowed (p : Plan) (n l b : ℕ) : Type 0 where
  pub way : Turn
  pub allows : turn p l b ≡ Some way
  pub there : find (λ o. nat_eq o b) (outs p n) ≡ Some b

pub lt_sub : (a u : ℕ) → nat_lt 0 (a - u) ≡ nat_lt u a
lt_sub a u = grind (arith, nat_tests)

takes_test : (r : Option ℕ) (a e : ℕ) → nat_lt 0 (capped_room r a - e) ≡ (nat_lt e a && has_room r e)
takes_test None a e = grind (arith, nat_tests)
takes_test (Some places) a e = grind (arith, nat_tests)

no_nots : (b c : Bool) → (not b || c) ≡ false → (b ≡ true) × (c ≡ false)
no_nots true false h = (refl, refl)
no_nots true true h = cc
no_nots false c h = cc

-- a turn that isn't kept has no penalty and no limit
plain-parts : (rates : Rates) (way : Turn) → is_kept rates (Some way) ≡ false → (way.penalty ≡ 0) × (is_limited rates ≡ false)
plain-parts rates way h =
    let b = no_nots (nat_eq way.penalty 0) (is_limited rates) h in
    (eqb-true way.penalty 0 b.0, b.1)

-- rates that limit no step have no limit in any
never-limited : (usual : Option ℕ) (windows : List Window) (t : ℕ) → is_limited (record { usual = usual; windows = windows }) ≡ false → rate_in (record { usual = usual; windows = windows }) t ≡ None
unfolding last_begun
never-limited None [] t h = refl
never-limited None (w ∷ ws) t h =
    let some : nat_eq (length (w ∷ ws)) 0 ≡ false = ne_eqb (suc (length ws)) 0 (λ z. absurd (omega (arith, z))) in
    let no_way : true ≡ false = rw some at h in
    cc
never-limited (Some rate) windows t h = cc

-- the turn that a cell finds
abbrev found_turn : (Rates → MeterState) → ℕ → Rates → Turn → Bool → Option LimitedTurn
found_turn meter b rates way c = cond c (Some (turn_by meter b rates (Some way))) None

and_assoc : (a b c : Bool) → (a && (b && c)) ≡ ((a && b) && c)
and_assoc true b c = refl
and_assoc false b c = refl

conds : (p q : Bool) (x y : HeadAction) → cond p (cond q x y) y ≡ cond (q && p) x y
conds true true x y = refl
conds true false x y = refl
conds false true x y = refl
conds false false x y = refl

conds_and : (p q : Bool) (x y : HeadAction) → cond p (cond q x y) y ≡ cond (p && q) x y
conds_and true true x y = refl
conds_and true false x y = refl
conds_and false true x y = refl
conds_and false false x y = refl

head_action-of : (t : ℕ) (exit : Exit) (os : List OutLink) (r : RiderState) (entry : ℕ) (o : Option ℕ) → last_or None r.entries ≡ Some entry → slice_get r.ahead 0 ≡ o
    → head_action t exit os r ≡ cond (nat_lt 0 exit.outflow.left) (by_target t (entry + exit.free) exit.turns os o) Stays
unfolding head_action
head_action-of t exit os r entry o e q = rw (e, q) refl

module _ (p : Plan) (n t : ℕ) (M : List Move) where
  pub out-test : (b : ℕ) → out_open (Some (out_mid p n t M b)) ≡ may_enter p n t (T p n t) M b
  unfolding may_enter
  out-test b = takes_test (room p b t (T p n t)) (link_allowance p b t) (entered p n t (T p n t) M b)

  found-penalty : (l b : ℕ) (way : Turn) (c : Bool) → is_kept (turn_rates p l b) (Some way) ≡ c
      → penalty_of (found_turn (λ rates. meter_mid p t rates (turned p n t (T p n t) M l b)) b (turn_rates p l b) way c) ≡ way.penalty
  found-penalty l b way true h = refl
  found-penalty l b way false h = sym (plain-parts (turn_rates p l b) way h).0

  found-open : (l b : ℕ) (way : Turn) (c : Bool) → is_kept (turn_rates p l b) (Some way) ≡ c
      → turn_open (found_turn (λ rates. meter_mid p t rates (turned p n t (T p n t) M l b)) b (turn_rates p l b) way c) ≡ has_pass p (turn_rates p l b) t (turned p n t (T p n t) M l b)
  found-open l b way true h = by_limit (is_limited (turn_rates p l b)) refl
    where
      by_limit : (c : Bool) → is_limited (turn_rates p l b) ≡ c
          → limit_open (cond c (Some (meter_mid p t (turn_rates p l b) (turned p n t (T p n t) M l b))) None) ≡ has_pass p (turn_rates p l b) t (turned p n t (T p n t) M l b)
      by_limit true e =
          ap (λ q. is_none (rate_in (turn_rates p l b) t) || q) (lt_sub (allowance (turn_rates p l b) p.delta t) (turned p n t (T p n t) M l b))
      by_limit false e = rw (never-limited (turn_rates p l b).usual (turn_rates p l b).windows t e) refl
  found-open l b way false h = rw (never-limited (turn_rates p l b).usual (turn_rates p l b).windows t (plain-parts (turn_rates p l b) way h).1) refl

  -- the links of the turns and of the out-links
  pub turn_links-mid : (l : ℕ) (xs : List ℕ) → turn_links (map (turn_mid p n t M l) xs) ≡ xs
  turn_links-mid l [] = refl
  turn_links-mid l (x ∷ xs) = ap (λ ys. x ∷ ys) (turn_links-mid l xs)

  pub out_links-mid : (xs : List ℕ) → out_links (map (out_mid p n t M) xs) ≡ xs
  out_links-mid [] = refl
  out_links-mid (x ∷ xs) = ap (λ ys. x ∷ ys) (out_links-mid xs)

  get_turn : (l b : ℕ) (a : Allowed p n l b)
      → slice_get (map (turn_mid p n t M l) (kept_turns p n l)) (place_of b (kept_turns p n l))
      ≡ found_turn (λ rates. meter_mid p t rates (turned p n t (T p n t) M l b)) b (turn_rates p l b) a.way (is_kept (turn_rates p l b) (Some a.way))
  get_turn l b a =
      get-at (turn_mid p n t M l) b (kept_turns p n l)
      ∙ ap (λ o. option_map (turn_mid p n t M l) o) (find_kept (λ x. is_kept (turn_rates p l x) (turn p l x)) b (outs p n) ∙ ap (λ o. cond (is_kept (turn_rates p l b) (turn p l b)) o None) a.there)
      ∙ push (is_kept (turn_rates p l b) (turn p l b))
      ∙ ap (λ o. cond (is_kept (turn_rates p l b) o) (Some (turn_by (λ rates. meter_mid p t rates (turned p n t (T p n t) M l b)) b (turn_rates p l b) o)) None) a.allows
    where
      push : (c : Bool) → option_map (turn_mid p n t M l) (cond c (Some b) None) ≡ cond c (Some (turn_mid p n t M l b)) None
      push true = refl
      push false = refl

  get_out : (l b : ℕ) (a : Allowed p n l b) → slice_get (map (out_mid p n t M) (outs p n)) (place_of b (outs p n)) ≡ Some (out_mid p n t M b)
  get_out l b a = get-at (out_mid p n t M) b (outs p n) ∙ ap (λ o. option_map (out_mid p n t M) o) a.there

  entry-test : (l ready b : ℕ) → Allowed p n l b
      → is_entry t ready (map (turn_mid p n t M l) (kept_turns p n l)) (map (out_mid p n t M) (outs p n)) (place_of b (outs p n)) (place_of b (kept_turns p n l))
      ≡ may_turn p n t (T p n t) M ready l b
  unfolding may_turn
  entry-test l ready b a =
      rw (get_turn l b a, get_out l b a, out-test b, found-open l b a.way (is_kept (turn_rates p l b) (Some a.way)) refl, found-penalty l b a.way (is_kept (turn_rates p l b) (Some a.way)) refl)
      (and_assoc (nat_le (ready + a.way.penalty) t) (has_pass p (turn_rates p l b) t (turned p n t (T p n t) M l b)) (may_enter p n t (T p n t) M b)
      ∙ ap (λ o. turn_test p n t (T p n t) M ready l b o) (sym a.allows))

  -- what a head does, by its next link
  abbrev pub next_head_action : ℕ → ℕ → Option ℕ → HeadAction
  next_head_action l ready None = cond (may_move p n t (T p n t) M l ready Arrived) Arrives Stays
  next_head_action l ready (Some b) = cond (may_move p n t (T p n t) M l ready (Onto b)) (Enters (place_of b (outs p n)) (place_of b (kept_turns p n l))) Stays

  -- what the code finds is what the definitions say
  pub head_action-head : (l v entry : ℕ) (o : Option ℕ) → last_or None (rider_at p (T p n t) v).entries ≡ Some entry
      → slice_get (rider_at p (T p n t) v).ahead 0 ≡ o → ((b : ℕ) → o ≡ Some b → Allowed p n l b)
      → head_action t (exit_mid p n t M l) (map (out_mid p n t M) (outs p n)) (rider_at p (T p n t) v) ≡ next_head_action l (entry + (link_at p l).free) o
  unfolding may_move link_allowance
  head_action-head l v entry None e q a =
      head_action-of t (exit_mid p n t M l) (map (out_mid p n t M) (outs p n)) (rider_at p (T p n t) v) entry None e q
      ∙ ap (λ c. cond c (cond (nat_le (entry + (link_at p l).free) t) Arrives Stays) Stays) (lt_sub (allowance (link_rates p l) p.delta t) (left p n t (T p n t) M l))
      ∙ conds (nat_lt (left p n t (T p n t) M l) (allowance (link_rates p l) p.delta t)) (nat_le (entry + (link_at p l).free) t) Arrives Stays
  head_action-head l v entry (Some b) e q a =
      head_action-of t (exit_mid p n t M l) (map (out_mid p n t M) (outs p n)) (rider_at p (T p n t) v) entry (Some b) e q
      ∙ ap (λ c. cond c (entry_at t (entry + (link_at p l).free) (map (turn_mid p n t M l) (kept_turns p n l)) (map (out_mid p n t M) (outs p n)) (place_of b (out_links (map (out_mid p n t M) (outs p n)))) (place_of b (turn_links (map (turn_mid p n t M l) (kept_turns p n l))))) Stays) (lt_sub (allowance (link_rates p l) p.delta t) (left p n t (T p n t) M l))
      ∙ rw (out_links-mid (outs p n), turn_links-mid l (kept_turns p n l), entry-test l (entry + (link_at p l).free) b (a b refl))
      (conds_and (nat_lt (left p n t (T p n t) M l) (allowance (link_rates p l) p.delta t)) (may_turn p n t (T p n t) M (entry + (link_at p l).free) l b) _ Stays)
