-- The laws of the claims, after every list of events.
use Rattle.std.specs.Prelude.{nat_lt}
use Rattle.std.specs.List.{flat_map}
use Rattle.std.proofs.Common.{◌≡◌, ℕ, zero, suc, ◌+◌, ◌-◌, ◌*◌, ◌<◌, ◌≤◌, min, Bool, true, false, List, [], ◌∷◌, ◌++◌, length, refl, ap, sym, ◌∙◌, arith}
use Rattle.std.proofs.lemmas.Bool.Decides.{nat_tests}
use Rattle.std.proofs.lemmas.List.{append_assoc, append-nil}
use Rattle.net_core.proofs.Numbers.{numbers_grow}
use Rattle.net_core.specs.Network.{numbers_below}
use Rattle.dta_model.specs.Machine.{Claims, all_idle, finished, is_finished, outcome, outcomes_of, run_machine, step_machine}
use Rattle.dta_model.specs.Sound.{IsSound}
use Rattle.dta_model.specs.Units.{mail_part, node_count, phase_start, step_units, unit_count}
use Rattle.dta_model.specs.declared.plan.Plan.{Plan}
use Rattle.dta_model.specs.declared.machine.Event.{Event}
use Rattle.cell_stages.specs.Contents.{away, cell_at, cell_before, mail_at, room_of}
use Rattle.cell_stages.proofs.TwoStages.{steps_have_two_stages}
use Rattle.claim_core.specs.Laws.{Always, EarlierAreFinished, HeldWereGiven, IsHeldOnce, LaterAreNot, NumbersRise, OpenAreOfThePhase, PartsAreOfWholeSteps, numbers_given}
use Rattle.claim_core.specs.Parts.{done_in, moves, stage_in, stage_of}
use Rattle.claim_core.specs.Runs.{numbers, run}
use Rattle.claim_core.specs.Sums.{below}
use Rattle.claim_core.proofs.Claimed.{finished_le}
use Rattle.claim_core.proofs.Counts.{drawn_in, held_in, min_low, none_past}
use Rattle.claim_core.proofs.Cuts.{below_cut}
use Rattle.claim_core.proofs.Events.{Kept, always_kept, fits_open}
use Rattle.claim_core.proofs.Steps.{step_by}
use Rattle.claim_core.proofs.Phases.{whole_start}
use Rattle.claim_core.proofs.Parts.{at_place, of_whole_steps, step_cell, step_mail}
use Rattle.claim_core.proofs.Stages.{others_none}
use Rattle.claim_core.proofs.Sums.{is_one, is_zero, once_in, once_le}

module _ (p : Plan) (s : Claims) (k : Kept p s) where
  held_once : IsHeldOnce p s
  held_once c = omega (arith, k.claimed.once c, once_le c (drawn_in p s))

  held_given : HeldWereGiven p s
  held_given c h = once_in c (drawn_in p s) (omega (arith, k.claimed.once c, h))

  earlier : EarlierAreFinished p s
  earlier u l = is_one (is_finished p s u) (k.claimed.before u l)

  later : LaterAreNot p s
  later u l = is_zero (is_finished p s u) (k.claimed.after u l)

  in_the_phase : OpenAreOfThePhase p s
  in_the_phase w a m b e = let f = fits_open p s k w a m b e in (f.2, f.3)

  -- where whole steps are finished
  module _ (t : ℕ) (whole : finished p s ≡ t * step_units (node_count p)) where
    abbrev m : ℕ
    m = t * step_units (node_count p)

    abbrev g : ℕ
    g = drawn_in p s

    drawn_most : m ≤ g
    drawn_most = omega (arith, whole, finished_le (node_count p) g (finished p s) (done_in p s) (held_in s) k.claimed)

    all_done : (x : ℕ) → x < m → done_in p s x ≡ 1
    all_done x l = omega (arith, k.claimed.before x (omega (arith, l, ap (λ n. phase_start (node_count p) n) whole, whole_start (node_count p) t)), k.claimed.once x, once_le x g)

    no_other : (x : ℕ) → m ≤ x → done_in p s x ≡ 0
    no_other x le = by_bound (nat_lt x g) refl
      where
        below_of : (a b : ℕ) → nat_lt a b ≡ true → a < b
        below_of a b h = grind (arith, nat_tests)

        past_of : (a b : ℕ) → nat_lt a b ≡ false → b ≤ a
        past_of a b h = grind (arith, nat_tests)

        by_bound : (b : Bool) → nat_lt x g ≡ b → done_in p s x ≡ 0
        by_bound true e = others_none (done_in p s) m g drawn_most (λ y l. omega (arith, all_done y l)) (sym (k.claimed.sum) ∙ whole) x le (below_of x g e)
        by_bound false e = none_past p s x (past_of x g e)

    pub whole_stage : (part : ℕ) → stage_in p s part ≡ t * below (step_units (node_count p)) (at_place p part)
    unfolding stage_of
    whole_stage part =
        below_cut (λ u. moves p part u * done_in p s u) (moves p part) m (unit_count p) (omega (arith, drawn_most))
        (λ x l. ap (λ d. moves p part x * d) (all_done x l) ∙ omega arith)
        (λ x le. ap (λ d. moves p part x * d) (no_other x le) ∙ omega arith)
        ∙ of_whole_steps p part t

    twice : (part : ℕ) → below (step_units (node_count p)) (at_place p part) ≡ 2 → stage_in p s part ≡ 2 * t
    twice part e = whole_stage part ∙ ap (λ b. t * b) e ∙ omega arith

    cells_then : (n : ℕ) → n < node_count p → cell_at p n (stage_in p s n) ≡ cell_before p n t away away
    cells_then n h = ap (λ k. cell_at p n k) (twice n (step_cell p n h)) ∙ (steps_have_two_stages p t).0.cell n

    mail_then : IsSound p → (l : ℕ) → l < length p.net.links → mail_at p l (stage_in p s (mail_part p l)) ≡ room_of p t l
    mail_then sound l h = ap (λ k. mail_at p l k) (twice (mail_part p l) (step_mail p sound l h)) ∙ (steps_have_two_stages p t).0.mail l

  whole_parts : PartsAreOfWholeSteps p s
  whole_parts t sound e = (cells_then t e, mail_then t e sound)

pub none_held_twice : Always IsHeldOnce
none_held_twice p workers events = held_once p (run_machine p events (all_idle workers)) (always_kept p workers events)

pub held_were_given : Always HeldWereGiven
held_were_given p workers events = held_given p (run_machine p events (all_idle workers)) (always_kept p workers events)

pub earlier_are_finished : Always EarlierAreFinished
earlier_are_finished p workers events = earlier p (run_machine p events (all_idle workers)) (always_kept p workers events)

pub later_are_not : Always LaterAreNot
later_are_not p workers events = later p (run_machine p events (all_idle workers)) (always_kept p workers events)

pub open_are_of_the_phase : Always OpenAreOfThePhase
open_are_of_the_phase p workers events = in_the_phase p (run_machine p events (all_idle workers)) (always_kept p workers events)

pub parts_are_of_whole_steps : Always PartsAreOfWholeSteps
parts_are_of_whole_steps p workers events = whole_parts p (run_machine p events (all_idle workers)) (always_kept p workers events)

-- numbers rise
numbers_more : (g many : ℕ) → numbers_below g ++ run g many ≡ numbers_below (g + many)
numbers_more g zero =
    append-nil (numbers_below g) ∙ ap numbers_below (let e : g ≡ g + 0 = omega arith in e)
numbers_more g (suc many) =
    sym (append_assoc (numbers_below g) (g ∷ []) (run (suc g) many))
    ∙ ap (λ xs. xs ++ run (suc g) many) (sym (numbers_grow 0 g g (omega arith)))
    ∙ numbers_more (suc g) many
    ∙ ap numbers_below (let e : suc g + many ≡ g + suc many = omega arith in e)

numbers_upto : (g g' : ℕ) → g ≤ g' → numbers_below g ++ numbers g g' ≡ numbers_below g'
numbers_upto g g' le =
    numbers_more g (g' - g)
    ∙ ap numbers_below (let e : g + (g' - g) ≡ g' = omega (arith, le) in e)

step_gives : (p : Plan) (s : Claims) (e : Event)
    → numbers_below (drawn_in p s) ++ numbers_given (outcome p s e)
    ≡ numbers_below (drawn_in p (step_machine p s e))
step_gives p s =
    step_by p s
    (λ _ f. numbers_below (drawn_in p s) ++ numbers_given f.outcome
    ≡ numbers_below (drawn_in p f.claims))
    (λ e o none. ap (λ xs. numbers_below (drawn_in p s) ++ xs) none ∙ same)
    (λ e w many new o _ idle most d. ap (λ xs. numbers_below (drawn_in p s) ++ xs) d.told
    ∙ numbers_upto (drawn_in p s) (min (s.drawn + many) (unit_count p)) (omega arith))
    (λ w a b out may. same)
    (λ w a m b out. same)
  where
    same : numbers_below (drawn_in p s) ++ [] ≡ numbers_below (drawn_in p s)
    same = append-nil (numbers_below (drawn_in p s))

run_gives : (p : Plan) (events : List Event) (s : Claims)
    → numbers_below (drawn_in p s) ++ flat_map numbers_given (outcomes_of p events s)
    ≡ numbers_below (drawn_in p (run_machine p events s))
unfolding outcomes_of run_machine
run_gives p [] s = append-nil (numbers_below (drawn_in p s))
run_gives p (e ∷ events) s =
    let rest = flat_map numbers_given (outcomes_of p events (step_machine p s e)) in
    sym (append_assoc (numbers_below (drawn_in p s)) (numbers_given (outcome p s e)) rest)
    ∙ ap (λ xs. xs ++ rest) (step_gives p s e)
    ∙ run_gives p events (step_machine p s e)

pub numbers_rise : NumbersRise
numbers_rise p workers events =
    let start : drawn_in p (all_idle workers) ≡ 0 = min_low 0 (unit_count p) (omega arith) in
    ap (λ x. numbers_below x ++ flat_map numbers_given (outcomes_of p events (all_idle workers)))
    (sym start)
    ∙ run_gives p events (all_idle workers)
