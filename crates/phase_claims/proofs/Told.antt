-- Which nodes are told that somebody comes, from step to step.
use Rattle.std.proofs.Common.{◌≡◌, ◌≢◌, ℕ, zero, suc, ◌+◌, ◌-◌, ◌*◌, ◌<◌, ◌≤◌, max, List, [], ◌∷◌, ◌++◌, length, set, get_or, refl, sym, ap, ◌∙◌, subst, ◌⊎◌, ⊎_elim, inl, inr, lt_of_not-le, arith, None, Some}
use Rattle.std.specs.Prelude.{slice_get}
use Rattle.std.proofs.lemmas.Bool.{eq-eqb, eqb-true}
use Rattle.std.proofs.lemmas.Option.{same_Some, slice_get_within}
use mathlib.Core.Option.{some, some-injective, some-ne-none}
use mathlib.Core.Logic.{dite}
use native.Mathlib.Decide.{dec_le, ℕ_discrete}
use lib.ListN.{get_elem?}
use Rattle.dta_model.specs.Plans.{ins, link_at, outs}
use Rattle.dta_model.specs.Sound.{IsSound}
use Rattle.dta_model.specs.Units.{Gather, Posting, mail_part, node_count, places, posting_part, step_of, task_of, unit_count}
use Rattle.dta_model.specs.declared.plan.Plan.{Plan}
use Rattle.cell_stages.specs.Contents.{mail_at}
use Rattle.cell_stages.specs.Stages.{batch_mail, room_mail}
use Rattle.cell_stages.proofs.MailTells.{room-stays}
use Rattle.dta_model.specs.Loading.{trace_after}
use Rattle.dta_model.specs.Room.{room, room_by}
use Rattle.dta_model.specs.declared.queue.Queue.TheVariants as queue
use Rattle.cell_stages.proofs.TwoStages.{steps_have_two_stages}
use Rattle.node_transfer.specs.Exchange.{is_among}
use Rattle.node_transfer.specs.Gathered.{mail_line}
use Rattle.node_transfer.specs.Halves.{links_by, links_of}
use Rattle.node_transfer.specs.Rest.{IsIdle, NobodyComes}
use Rattle.node_transfer.specs.declared.half.Half.{Half}
use Rattle.node_transfer.specs.declared.half.HalfStep.{HalfStep}
use Rattle.node_transfer.proofs.OfMail.ListPlaces.{among-place}
use Rattle.node_transfer.proofs.OfMail.Parts.{ins-member, outs-member}
use Rattle.node_transfer.proofs.OfStep.MailLines.{batch-line, room-line}
use Rattle.claim_core.specs.Kinds.{half_by}
use Rattle.claim_core.specs.Parts.{moves, stage_before, stage_of}
use Rattle.claim_core.specs.Sums.{is_at, one_if, times}
use Rattle.claim_core.proofs.Cuts.{below_none, below_same, point}
use Rattle.claim_core.proofs.Parts.{at_is}
use Rattle.claim_core.proofs.Places.{moved_is_placed}
use Rattle.claim_core.proofs.Stages.{stage_more}
use Rattle.claim_core.proofs.Sums.{at_other, at_self, is_one, total-append, total_set, total_snoc}
use Rattle.atomic_table.proofs.Lists.{at_snoc}
use Rattle.claim_core.proofs.Working.{IsOfNode, gather_of, half_is, half_node, half_stage, mail_left, mail_taken, moves_by}
use Rattle.phase_claims.specs.declared.view.Scope.{Scope}
use Rattle.phase_claims.specs.declared.view.View.{View}
use Rattle.phase_claims.specs.declared.work_told.TheConstants.{FIRST_NODE_WORD}
use Rattle.phase_claims.specs.declared.part.Part.{Part}
use Rattle.atomic_table.specs.declared.shared.Seat.{Seat}
use Rattle.phase_claims.specs.PlacesHeld.{IsSameSeat}
use Rattle.phase_claims.specs.Told.{AreAmong, AreReached, HasOnlyTold, HasTold, IsReached, IsWoken, KeepsRooms, TellsAll, node_word}
use Rattle.phase_claims.specs.Passes.{HoldsNoUnit}
use Rattle.phase_claims.specs.Views.{beginning, joined, less_spare, nobody, performs, worked, worked_by}
use Rattle.phase_claims.proofs.Counts.{each_set, none_both, worked_none}
use Rattle.phase_claims.proofs.PlacesFree.{one_place, places_once}

-- a list that isn't anything but empty
empty_of : {A : Type 0} (xs : List A) → (xs ≢ [] → ⊥) → xs ≡ []
empty_of [] h = refl
empty_of (x ∷ xs) h = absurd (h (λ e. cc))

-- words of which one changes
set_length : (l : List ℕ) (i x : ℕ) → length (set l i x) ≡ length l
set_length [] i x = refl
set_length (y ∷ l) zero x = refl
set_length (y ∷ l) (suc i) x = ap suc (set_length l i x)

set_other : (l : List ℕ) (i j x : ℕ) → i ≢ j → get_or (set l i x) j 0 ≡ get_or l j 0
set_other [] i j x ne = refl
set_other (y ∷ l) zero zero x ne = absurd (ne refl)
set_other (y ∷ l) zero (suc j) x ne = refl
set_other (y ∷ l) (suc i) zero x ne = refl
set_other (y ∷ l) (suc i) (suc j) x ne = set_other l i j x (λ e. ne (ap suc e))

set_same : (l : List ℕ) (i x : ℕ) → i < length l → get_or (set l i x) i 0 ≡ x
set_same [] i x h = absurd (omega (arith, h))
set_same (y ∷ l) zero x h = refl
set_same (y ∷ l) (suc i) x h = set_same l i x (omega (arith, h))

-- one behind the first three
pub set_far : (a b c : ℕ) (l : List ℕ) (i x : ℕ) → 3 ≤ i → set (a ∷ b ∷ c ∷ l) i x ≡ a ∷ b ∷ c ∷ set l (i - 3) x
set_far a b c l zero x h = absurd (omega (arith, h))
set_far a b c l (suc zero) x h = absurd (omega (arith, h))
set_far a b c l (suc (suc zero)) x h = absurd (omega (arith, h))
set_far a b c l (suc (suc (suc i))) x h = ap (λ j. a ∷ b ∷ c ∷ set l j x) (let e : i ≡ suc (suc (suc i)) - 3 = omega arith in e)

-- the nodes' words only grow
pub record AreGrown (words words' : List ℕ) : Type 0 where
  pub count : length words ≤ length words'
  pub each : (n : ℕ) → node_word words n ≤ node_word words' n

pub not_grown : (words : List ℕ) → AreGrown words words
not_grown words = record { count = omega arith; each = λ n. omega arith }

pub grown_else : (words : List ℕ) (i x : ℕ) → i < FIRST_NODE_WORD → AreGrown words (set words i x)
grown_else words i x low = record {
  count = omega (arith, set_length words i x);
  each = λ n. omega (arith, set_other words i (FIRST_NODE_WORD + n) x (λ e. (let q : i ≡ FIRST_NODE_WORD + n = e in omega (arith, q, low))));
}

module _ (words : List ℕ) (n x : ℕ) where
  abbrev old : ℕ
  old = node_word words n

  abbrev pub words_told : List ℕ
  words_told = set words (FIRST_NODE_WORD + n) (max old x)

  pub told_here : FIRST_NODE_WORD + n < length words → x ≤ node_word words_told n
  told_here h = omega (arith, set_same words (FIRST_NODE_WORD + n) (max old x) h)

  pub grown_here : FIRST_NODE_WORD + n < length words → AreGrown words words_told
  grown_here h = record {
    count = omega (arith, set_length words (FIRST_NODE_WORD + n) (max old x));
    each = λ m. dite (ℕ_discrete n m)
        (λ same. subst (λ (j : ℕ). node_word words j ≤ node_word words_told j) same (omega (arith, set_same words (FIRST_NODE_WORD + n) (max old x) h)))
        (λ other. omega (arith, set_other words (FIRST_NODE_WORD + n) (FIRST_NODE_WORD + m) (max old x) (λ e. (let q : FIRST_NODE_WORD + n ≡ FIRST_NODE_WORD + m = e in other (omega (arith, q))))));
  }

module _ (k : Scope) where
  abbrev p : Plan
  p = k.plan

  abbrev N : ℕ
  N = node_count p

  abbrev Q : ℕ
  Q = unit_count p

  abbrev L : ℕ
  L = length p.net.links

  pub still_told : (words words' : List ℕ) (v : View) → AreGrown words words' → HasTold p words v → HasTold p words' v
  still_told words words' v g h n one = omega (arith, h n one, g.each n)

  pub none_told : (words : List ℕ) (v : View) → v.told ≡ [] → HasTold p words v
  none_told words v e n one = absurd (omega (arith, one, ap (λ xs. times n xs) e))

  still_woken : (words words' : List ℕ) (n stage : ℕ) → AreGrown words words' → IsWoken p words n stage → IsWoken p words' n stage
  still_woken words words' n stage g h t e = ⊎_elim (λ idle. inl idle) (λ past. inr (omega (arith, past, g.each n))) (h t e)

  -- no unit more is worked on
  pub reached_same : (words words' : List ℕ) (views views' : List View) → AreGrown words words' → ((x : ℕ) → worked_by views' x ≡ worked_by views x) → ((by : ℕ) (v : View) → get_elem? views' by ≡ some v → HasTold p words' v) → AreReached k words views → AreReached k words' views'
  unfolding stage_of
  reached_same words words' views views' g same own r = record {
    count = omega (arith, r.count, g.count);
    links = λ l h. (let slot : ℕ = mail_part p l in
        let at : stage_of p (worked_by views) slot ≡ stage_of p (worked_by views') slot = below_same (λ u. moves p slot u * worked_by views u) (λ u. moves p slot u * worked_by views' u) Q (λ u _. ap (λ d. moves p slot u * d) (sym (same u))) in
        subst (λ s. IsReached p words' l s) at (λ some_come. omega (arith, r.links l h some_come, g.each (link_at p l).to.0)));
    nodes = λ n h. (let at : stage_of p (worked_by views) n ≡ stage_of p (worked_by views') n = below_same (λ u. moves p n u * worked_by views u) (λ u. moves p n u * worked_by views' u) Q (λ u _. ap (λ d. moves p n u * d) (sym (same u))) in
        subst (λ s. IsWoken p words' n s) at (still_woken words words' n (stage_of p (worked_by views) n) g (r.nodes n h)));
    passes = own;
  }

  pub reached_set : (words words' : List ℕ) (views : List View) (by : ℕ) (v v' : View) → get_elem? views by ≡ some v → AreGrown words words' → ((x : ℕ) → worked x v' ≡ worked x v) → HasTold p words' v' → AreReached k words views → AreReached k words' (set views by v')
  reached_set words words' views by v v' e g done told r =
      reached_same words words' views (set views by v') g (λ x. omega (arith, total_set (worked x) views by v v' e, done x))
      (each_set (HasTold p words') views by v' (λ j u _ a. still_told words words' u g (r.passes j u a)) told) r

  pub reached_split : (words : List ℕ) (views : List View) (by : ℕ) (v : View) → get_elem? views by ≡ some v → AreReached k words views → AreReached k words (set views by (less_spare v) ++ beginning v.scope 0 ∷ [])
  reached_split words views by v e r =
      let u : View = beginning v.scope 0 in
      reached_same words words views (set views by (less_spare v) ++ u ∷ []) (not_grown words)
      (λ x. omega (arith, total_set (worked x) views by v (less_spare v) e, total_snoc (worked x) (set views by (less_spare v)) u))
      (λ j y i. ⊎_elim
      (λ was. each_set (HasTold p words) views by (less_spare v) (λ j u _ a. r.passes j u a) (r.passes by v e) j y was)
      (λ same. subst (HasTold p words) same (none_told words u refl))
      (at_snoc (set views by (less_spare v)) u y j i)) r

  pub reached_join : (words : List ℕ) (views : List View) (by other : ℕ) (v u : View) → get_elem? views by ≡ some v → get_elem? (set views by (joined v u)) other ≡ some u → HoldsNoUnit v.stage → HoldsNoUnit u.stage
      → AreReached k words views → AreReached k words (set (set views by (joined v u)) other nobody)
  reached_join words views by other v u e there hv hu r =
      let v' : View = joined v u in
      reached_same words words views (set (set views by v') other nobody) (not_grown words)
      (λ x. (let all : performs x v' ≡ performs x v + performs x u = total-append (is_at x) v.performed u.performed in
      omega (arith, total_set (worked x) views by v v' e, total_set (worked x) (set views by v') other u nobody there, all, worked_none v.stage v.at x hv, worked_none u.stage u.at x hu, worked_none v'.stage 0 x (none_both v.stage u.stage hv hu))))
      (each_set (HasTold p words) (set views by v') other nobody (λ j y _ i. each_set (HasTold p words) views by v' (λ j y _ a. r.passes j y a) (none_told words v' refl) j y i) (none_told words nobody refl)) r

  -- the unit that a pass is at is worked on: those to whom it sends somebody are told
  pub reached_more : (words words' : List ℕ) (views : List View) (by : ℕ) (v v' : View) → get_elem? views by ≡ some v → AreGrown words words' → v.at < Q → ((x : ℕ) → worked x v' ≡ worked x v + is_at x v.at) → v'.told ≡ []
      → ((slot : ℕ) → 1 ≤ times slot (places p v.at) → stage_of p (worked_by views) slot ≡ stage_before p v.at slot)
      → TellsAll p v.at v.told → AreReached k words views → AreReached k words' (set views by v')
  unfolding stage_of
  reached_more words words' views by v v' e g drawn done none stage tells r =
      let views' : List View = set views by v' in
      let later : (slot : ℕ) → stage_of p (worked_by views') slot ≡ stage_of p (worked_by views) slot + moves p slot v.at = λ slot.
      (let up = stage_more Q (moves p slot) (worked_by views) (worked_by views') (λ x. is_at x v.at) (λ x. omega (arith, total_set (worked x) views by v v' e, done x)) in
      omega (arith, up, point (moves p slot) v.at Q drawn)) in
      let as_was : (slot : ℕ) → moves p slot v.at < 1 → stage_of p (worked_by views) slot ≡ stage_of p (worked_by views') slot = λ slot z. omega (arith, later slot, z) in
      let next : (slot : ℕ) → 1 ≤ moves p slot v.at → suc (stage_before p v.at slot) ≡ stage_of p (worked_by views') slot = λ slot one.
      omega (arith, later slot, one, stage slot (omega (arith, one, moved_is_placed p slot v.at)), moved_is_placed p slot v.at, one_place (suc (posting_part p)) (places p v.at) (places_once k v.at) slot) in record {
        count = omega (arith, r.count, g.count);
        links = λ l h. (let slot : ℕ = mail_part p l in
            let to : ℕ = (link_at p l).to.0 in
            dite (dec_le 1 (moves p slot v.at))
            (λ one. subst (λ s. IsReached p words' l s) (next slot one)
            (λ some_come. (let t = tells.links l h (one, some_come) in omega (arith, r.passes by v e to t.1, t.0, g.each to))))
            (λ away. subst (λ s. IsReached p words' l s) (as_was slot (lt_of_not-le away)) (λ some_come. omega (arith, r.links l h some_come, g.each to))));
        nodes = λ n h. dite (dec_le 1 (moves p n v.at))
            (λ one. subst (λ s. IsWoken p words' n s) (next n one)
            (λ t at. ⊎_elim (λ idle. inl idle) (λ told. inr (omega (arith, r.passes by v e n told.1, told.0, g.each n))) (tells.node n t h one at)))
            (λ away. subst (λ s. IsWoken p words' n s) (as_was n (lt_of_not-le away)) (still_woken words words' n (stage_of p (worked_by views) n) g (r.nodes n h)));
        passes = each_set (HasTold p words') views by v' (λ j u _ a. still_told words words' u g (r.passes j u a)) (none_told words' v' none);
      }

  -- where the word of a node isn't past the mail of a gather's step, nobody comes, and its rooms stay
  module _ (sound : IsSound p) (words : List ℕ) (views : List View) (r : AreReached k words views) (c n : ℕ) (task : task_of N c ≡ Gather n)
      (stage : (slot : ℕ) → 1 ≤ times slot (places p c) → stage_of p (worked_by views) slot ≡ stage_before p c slot) (few : node_word words n ≤ 2 * step_of N c + 1) where
    abbrev of_gather : IsOfNode p c n (ins p n) (2 * step_of N c + 1)
    of_gather = gather_of p sound c n task

    pub nobody_comes : NobodyComes p n (step_of N c)
    nobody_comes l below to =
        let t : ℕ = step_of N c in
        let slot : ℕ = mail_part p l in
        let one : moves p slot c ≡ 1 = of_gather.mail_moves l below ∙ ap one_if (ins-member p n l below ∙ eq-eqb (link_at p l).to.0 n to) in
        let at : stage_of p (worked_by views) slot ≡ 2 * t + 1 = stage slot (omega (arith, one, moved_is_placed p slot c)) ∙ of_gather.mail_stage l below in
        let same : node_word words (link_at p l).to.0 ≡ node_word words n = ap (node_word words) to in
        let reached : IsReached p words l (2 * t + 1) = subst (λ s. IsReached p words l s) at (r.links l below) in
        sym (batch-line p t l) ∙ ap mail_line (sym (mail_taken Half.Gather p l t))
        ∙ empty_of (mail_line (mail_at p l (2 * t + 1))) (λ some_come. omega (arith, reached some_come, few, same))

    pub rooms_kept : KeepsRooms p n (step_of N c)
    rooms_kept =
        let one : moves p n c ≡ 1 = of_gather.cell_moves n of_gather.node ∙ at_self n in
        let at : stage_of p (worked_by views) n ≡ 2 * step_of N c + 1 = stage n (omega (arith, one, moved_is_placed p n c)) ∙ of_gather.cell_stage n of_gather.node in
        ⊎_elim (λ idle. idle) (λ past. absurd (omega (arith, past, at, few))) (r.nodes n of_gather.node (step_of N c) at)

  -- what a pass tells
  pub tells_more : (words : List ℕ) (v : View) (n x : ℕ) → FIRST_NODE_WORD + n < length words → 2 * step_of N v.at + 1 < x → HasTold p words v → HasTold p (words_told words n x) (record v { told = n ∷ v.told })
  tells_more words v n x here past h m one = dite (ℕ_discrete n m)
      (λ same. subst (λ (j : ℕ). 2 * step_of N v.at + 1 < node_word (words_told words n x) j) same (omega (arith, told_here words n x here, past)))
      (λ other. let g = grown_here words n x here in
      let z : is_at m n ≡ 0 = at_other m n (λ e. other (sym e)) in
      omega (arith, h m (omega (arith, one, z)), g.each m))

  -- at the start nobody comes
  pub reached_start : (words : List ℕ) (spare : ℕ) → FIRST_NODE_WORD + N ≤ length words → AreReached k words (beginning k spare ∷ [])
  unfolding stage_of
  reached_start words spare count = record {
    count = count;
    links = λ l h. (let none : stage_of p (worked_by (beginning k spare ∷ [])) (mail_part p l) ≡ 0 = below_none (λ u. moves p (mail_part p l) u * worked_by (beginning k spare ∷ []) u) Q (λ u _. omega arith) in
        subst (λ s. IsReached p words l s) (sym none) (λ some_come. (let z : 0 ≡ 2 * 0 = omega arith in absurd (some_come (ap (λ s. mail_line (mail_at p l s)) z ∙ ap mail_line ((steps_have_two_stages p 0).0.mail l) ∙ room-line p 0 l)))));
    nodes = λ n h t at. (let none : stage_of p (worked_by (beginning k spare ∷ [])) n ≡ 0 = below_none (λ u. moves p n u * worked_by (beginning k spare ∷ []) u) Q (λ u _. omega arith) in
        absurd (omega (arith, at, none)));
    passes = first;
  }
    where
      first : (by : ℕ) (v : View) → get_elem? (beginning k spare ∷ []) by ≡ some v → HasTold p words v
      first zero v e = none_told words v (ap (λ (u : View). u.told) (sym (some-injective _ _ e)))
      first (suc by) v e = absurd (some-ne-none v (sym e))

-- what a unit tells is enough
module _ (p : Plan) (sound : IsSound p) (u : ℕ) (told : List ℕ) where
  not_posting : (part : ℕ) → task_of (node_count p) u ≡ Posting → part < posting_part p → moves p part u ≡ 0
  not_posting part task below = moves_by p sound u 0 Posting task part ∙ (let none : is_at part (posting_part p) ≡ 0 = at_other part (posting_part p) (λ e. (let q : part ≡ posting_part p = e in omega (arith, q, below))) in omega (arith, none))

  pub posting_tells : task_of (node_count p) u ≡ Posting → TellsAll p u told
  posting_tells task = record {
    links = λ l below sends. absurd (omega (arith, sends.0, not_posting (mail_part p l) task (omega (arith, below))));
    node = λ n t below one at. absurd (omega (arith, one, not_posting n task (omega (arith, below))));
  }

  module _ (h : HalfStep) (few : u < unit_count p) (is_half : half_by (step_of (node_count p) u) (task_of (node_count p) u) ≡ Some h) where
    of_node : IsOfNode p u h.node.0 (links_of p h) (half_stage h.half h.step)
    of_node = half_node p sound u (node_count p) few refl h is_half

    pub step_is : h.step ≡ step_of (node_count p) u
    step_is = (half_is (step_of (node_count p) u) (task_of (node_count p) u) h is_half).1

    by_half : (half : Half) → IsOfNode p u h.node.0 (links_by half p h.node.0) (half_stage half h.step)
        → (half ≡ Half.Transfer → IsIdle p h.node.0 h.step ⊎ AreAmong p h.node.0 h.step told) → TellsAll p u told
    by_half Half.Gather g tells = record {
      links = λ l below sends. absurd (sends.1 (ap (λ s. mail_line (mail_at p l (suc s))) (g.mail_stage l below) ∙ ap mail_line (mail_left Half.Gather p l h.step) ∙ room-line p (suc h.step) l));
      node = λ n t below one at. absurd (omega (arith, at, g.cell_stage n below));
    }
    by_half Half.Transfer g tells = record {
      links = λ l below sends. (let stage = g.mail_stage l below in
          let among = is_one (is_among (outs p h.node.0) l) (omega (arith, sends.0, g.mail_moves l below)) in
          let from = eqb-true (link_at p l).from.0 h.node.0 (sym (outs-member p h.node.0 l below) ∙ among) in
          let comes : batch_mail p l h.step ≢ [] = λ none. sends.1 (ap (λ s. mail_line (mail_at p l (suc s))) stage ∙ ap mail_line (mail_left Half.Transfer p l h.step) ∙ batch-line p h.step l ∙ none) in
          ⊎_elim (λ idle. absurd (comes (idle.batches l below from))) (λ all. (omega (arith, stage, step_is), all.ends l below from comes)) (tells refl));
      node = λ n t below one at. (let stage = g.cell_stage n below in
          let same : n ≡ h.node.0 = at_is n h.node.0 (omega (arith, one, g.cell_moves n below)) in
          let now : h.step ≡ t = omega (arith, stage, at) in
          let here : KeepsRooms p h.node.0 h.step → KeepsRooms p n t = λ keeps. subst (λ (i : ℕ). KeepsRooms p i t) (sym same) (subst (λ (s : ℕ). KeepsRooms p h.node.0 s) now keeps) in
          ⊎_elim (λ idle. inl (here idle.rooms))
          (λ all. ⊎_elim (λ keeps. inl (here keeps)) (λ own. inr (omega (arith, stage, step_is), subst (λ (i : ℕ). 1 ≤ times i told) (sym same) own)) all.own) (tells refl));
    }

    pub half_tells : (h.half ≡ Half.Transfer → IsIdle p h.node.0 h.step ⊎ AreAmong p h.node.0 h.step told) → TellsAll p u told
    half_tells tells = by_half h.half of_node tells

-- without a bound on queues no room is told
pub point_keeps : (p : Plan) (n t : ℕ) → p.queue ≡ queue.Point → KeepsRooms p n t
unfolding room_mail room
point_keeps p n t is nobody l below to = room-stays p t l (nobody l below to) (none (suc t) ∙ sym (none t))
  where
    none : (s : ℕ) → room_mail p l s ≡ None
    none s = ap (λ q. room_by p q l s (trace_after p s)) is

pub never_both : {P : Type 0} (half : Half) → half ≡ Half.Gather → half ≡ Half.Transfer → P
never_both half a b = cc

-- the nodes at the ends of the first links are told
abbrev pub SentYet : Plan → ℕ → ℕ → ℕ → List ℕ → Type 0
SentYet p n t j told = (i l : ℕ) → i < j → slice_get (outs p n) i ≡ Some l → batch_mail p l t ≢ [] → 1 ≤ times (link_at p l).to.0 told

pub sent_next : (p : Plan) (n t j b : ℕ) (told told' : List ℕ) → slice_get (outs p n) j ≡ Some b → (batch_mail p b t ≢ [] → 1 ≤ times (link_at p b).to.0 told') → ((m : ℕ) → 1 ≤ times m told → 1 ≤ times m told')
    → SentYet p n t j told → SentYet p n t (j + 1) told'
sent_next p n t j b told told' at now still yet i l h e comes = dite (dec_le j i)
    (λ last. let same : j ≡ i = omega (arith, last, h) in
    let link : b ≡ l = same_Some b l (sym at ∙ ap (λ k. slice_get (outs p n) k) same ∙ e) in
    subst (λ (k : ℕ). batch_mail p k t ≢ [] → 1 ≤ times (link_at p k).to.0 told') link now comes)
    (λ low. still (link_at p l).to.0 (yet i l (lt_of_not-le low) e comes))

pub none_sent : (p : Plan) (n t : ℕ) (told : List ℕ) → SentYet p n t 0 told
none_sent p n t told i l h e comes = absurd (omega (arith, h))

pub all_sent : (p : Plan) (n t j : ℕ) (told : List ℕ) → length (outs p n) ≤ j → KeepsRooms p n t ⊎ (1 ≤ times n told) → SentYet p n t j told → AreAmong p n t told
all_sent p n t j told over own yet = record {
  own = own;
  ends = λ l below from comes. (let stands = among-place (outs p n) l (outs-member p n l below ∙ eq-eqb (link_at p l).from.0 n from) in
      let inside = slice_get_within (outs p n) (stands.0) l (stands.1) in
      yet (stands.0) l (omega (arith, inside, over)) (stands.1) comes);
}

-- a seat that has told some nodes
pub told_so : (a b c : Seat Part View) → HasOnlyTold a b → HasOnlyTold b c → HasOnlyTold a c
told_so a b c x y = record {
  table = y.table ∙ x.table;
  view = y.view ∙ ap (λ (v : View). record v { told = c.me.0.told }) x.view;
  still = λ n one. y.still n (x.still n one);
}

pub same_told : (a b : Seat Part View) → IsSameSeat a b → HasOnlyTold a b
same_told a b x = record {
  table = x.table;
  view = x.view ∙ ap (λ (xs : List ℕ). record a.me.0 { told = xs }) (sym (ap (λ (v : View). v.told) x.view));
  still = λ n one. subst (λ (v : View). 1 ≤ times n v.told) (sym x.view) one;
}
