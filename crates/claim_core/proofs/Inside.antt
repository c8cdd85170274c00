-- What every event keeps of a machine.
use Rattle.std.proofs.Common.{◌≡◌, ℕ, zero, suc, ◌+◌, ◌≤◌, ◌^◌, false, List, [], ◌∷◌, ◌++◌, length, take, drop, refl, ap, sym, ◌∙◌, subst, arith}
use Rattle.dta_model.specs.Machine.{Claims, Effect, all_idle, effect_of, finished, is_finished, left_of, run_machine, step_machine, with_open}
use Rattle.dta_model.specs.Units.{node_count, unit_count}
use Rattle.dta_model.specs.declared.plan.Plan.{Plan}
use Rattle.dta_model.specs.declared.machine.Event.{Event}
use Rattle.dta_model.specs.declared.machine.Event.TheVariants as event
use Rattle.dta_model.specs.declared.machine.Outcome.{Outcome}
use Rattle.dta_model.specs.declared.machine.Stage.TheVariants as stage
use Rattle.node_transfer.proofs.OfMail.Sets.{count-set}
use Rattle.claim_core.specs.Machine.{AreReached, IsMachine}
use Rattle.claim_core.specs.Parts.{done_in, stage_in}
use Rattle.claim_core.specs.Work.{AreAtStages, PartsState}
use Rattle.claim_core.proofs.Counts.{count_below}
use Rattle.claim_core.proofs.Cuts.{below_same}
use Rattle.claim_core.proofs.Finishing.{same_parts}
use Rattle.claim_core.proofs.Events.{drawn_most, kept_of, others_finish_none}
use Rattle.claim_core.proofs.Steps.{is_finish, step_by}

-- no event changes the number of workers
step_count : (p : Plan) (s : Claims) (e : Event)
    → length (step_machine p s e).stages ≡ length s.stages
step_count p s =
    step_by p s (λ _ f. length f.claims.stages ≡ length s.stages)
    (λ e o _. refl)
    (λ e w many new o _ idle most d. count-set s.stages w new)
    (λ w a b out may. count-set s.stages w (with_open (node_count p) (stage.Held a b)))
    (λ w a m b out. count-set s.stages w (left_of (stage.Open a m b)))

pub workers_stay : (p : Plan) (s : Claims) (e : Event) {new : Claims} {o : Outcome}
    → record { claims = new; outcome = o } ≡ effect_of p s e → length new.stages ≡ length s.stages
workers_stay p s e made = ap (λ (x : Effect). length x.claims.stages) made ∙ step_count p s e

run_snoc : (p : Plan) (events : List Event) (s : Claims) (e : Event) → run_machine p (events ++ e ∷ []) s ≡ step_machine p (run_machine p events s) e
unfolding run_machine
run_snoc p [] s e = refl
run_snoc p (d ∷ events) s e = run_snoc p events (step_machine p s d) e

pub next_reached : (p : Plan) (s : Claims) → AreReached p s → (e : Event) → AreReached p (step_machine p s e)
next_reached p s r e = record {
  workers = r.workers;
  events = r.events ++ e ∷ [];
  claims = ap (λ x. step_machine p x e) r.claims ∙ sym (run_snoc p r.events (all_idle r.workers) e);
}

same_finished : (p : Plan) (s s' : Claims) → ((x : ℕ) → done_in p s' x ≡ done_in p s x)
    → finished p s' ≡ finished p s
unfolding finished
same_finished p s s' same =
    count_below (is_finished p s') (unit_count p)
    ∙ below_same (done_in p s') (done_in p s) (unit_count p) (λ x _. same x)
    ∙ sym (count_below (is_finished p s) (unit_count p))

module _ {p : Plan} {s : Claims} {parts : PartsState} {n : ℕ}
    (m : IsMachine (record { plan = p; claims = s; parts = parts }) n) where
  pub room_left : s.drawn ≤ unit_count p + 2 ^ 40
  room_left = omega (arith, drawn_most p s m.reached, m.few)

  module _ (e : Event) {new : Claims} {o : Outcome}
      (made : record { claims = new; outcome = o } ≡ effect_of p s e) where
    abbrev is : new ≡ step_machine p s e
    is = ap (λ x. x.claims) made

    keeps : (parts' : PartsState) (n' : ℕ) → AreAtStages p (stage_in p new) parts'
        → n' ≡ finished p new → IsMachine (record { plan = p; claims = new; parts = parts' }) n'
    keeps parts' n' at count = record {
      sound = m.sound;
      reached = subst (λ x. AreReached p x) (sym is) (next_reached p s m.reached e);
      parts = at;
      counted = count;
      few = let q = workers_stay p s e made in let f = m.few in omega (arith, q, f);
    }

    -- an event that finishes nothing leaves the parts as they are
    pub others_keep : is_finish e ≡ false
        → IsMachine (record { plan = p; claims = new; parts = parts }) n
    others_keep other =
        let same : (x : ℕ) → done_in p new x ≡ done_in p s x = λ x. ap (λ y. done_in p y x) is
        ∙ others_finish_none p s (kept_of p s m.reached) e other x in
        keeps parts n (same_parts p (done_in p s) (done_in p new) same parts m.parts)
        (m.counted ∙ sym (same_finished p s new same))

-- a list that was lent whole comes back whole
none_taken : {A : Type 0} (n : ℕ) (old : List A) → length old ≡ n → n ≡ 0 → take n (drop 0 old) ≡ []
none_taken zero old h z = refl
none_taken (suc n) old h z = absurd (omega (arith, z))

back : {A : Type 0} (n : ℕ) (new old : List A) → length new ≡ n → length old ≡ n → take n (new ++ drop (length new) old) ≡ new
back n [] old e h = none_taken n old h (sym e)
back n (x ∷ new) [] e h = absurd (omega (arith, e, h))
back zero (x ∷ new) (y ∷ old) e h = absurd (omega (arith, e))
back (suc n) (x ∷ new) (y ∷ old) e h = ap (λ xs. x ∷ xs) (back n new old (omega (arith, e)) (omega (arith, h)))

pub finish_closes : {p : Plan} {s : Claims} {parts : PartsState} {n : ℕ}
    (m : IsMachine (record { plan = p; claims = s; parts = parts }) n) (w : ℕ) {new : Claims}
    {o : Outcome} → record { claims = new; outcome = o } ≡ effect_of p s (event.Finish w)
    → (made : PartsState) (n' cell_len mail_len : ℕ) → AreAtStages p (stage_in p new) made
    → n' ≡ finished p new → length parts.cells ≡ cell_len → length parts.mail ≡ mail_len
    → IsMachine (record {
      plan = p;
      claims = new;
      parts = record {
        cells = take cell_len (made.cells ++ drop (length made.cells) parts.cells);
        mail = take mail_len (made.mail ++ drop (length made.mail) parts.mail);
      };
    }) n'
finish_closes {parts = parts} m w effect made n' cell_len mail_len at count cells mail =
    let cells_back = back cell_len made.cells parts.cells
    (at.counted.cells ∙ sym m.parts.counted.cells ∙ cells) cells in
    let mail_back = back mail_len made.mail parts.mail
    (at.counted.mail ∙ sym m.parts.counted.mail ∙ mail) mail in
    keeps m (event.Finish w) effect _ n' (rw (cells_back, mail_back) at) count
