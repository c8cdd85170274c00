-- What a pass has with it for a transfer and for a gather, and what it brings home.
use Rattle.std.specs.Prelude.{nat_lt}
use Rattle.std.proofs.Common.{◌≡◌, ℕ, suc, ◌+◌, ◌-◌, ◌<◌, ◌≤◌, Bool, true, false, cond, List, [], ◌∷◌, length, map, refl, sym, ap, ◌∙◌, subst, lt_of_not-le, arith, Some}
use Rattle.std.proofs.lemmas.Bool.Decides.{nat_tests}
use mathlib.Core.Logic.{dite}
use native.Mathlib.Decide.{dec_le}
use Rattle.dta_model.specs.Plans.{ins, outs}
use Rattle.dta_model.specs.Sound.{IsSound}
use Rattle.dta_model.specs.Units.{Task, mail_part, node_count, places, places_in, posting_part, step_of, task_of, unit_count}
use Rattle.dta_model.specs.declared.plan.Plan.{Plan}
use Rattle.cell_stages.specs.Contents.{away, cell_at, mail_at}
use Rattle.node_transfer.specs.Exchange.{is_among}
use Rattle.cell_stages.specs.declared.mail.Mail as mail
use Rattle.node_transfer.specs.Halves.{IsHalf, leaving_cell, left_mail, links_by, links_of, taken_mail, taking_cell}
use Rattle.node_transfer.specs.declared.half.Half.{Half}
use Rattle.node_transfer.specs.declared.half.HalfStep.{HalfStep}
use Rattle.claim_core.specs.Kinds.{half_by}
use Rattle.claim_core.specs.Parts.{moves, stage_before}
use Rattle.claim_core.specs.Sums.{one_if, times}
use Rattle.claim_core.proofs.Parts.{in_task, ins_past, mail_of, outs_past}
use Rattle.claim_core.proofs.Sums.{at_self}
use Rattle.claim_core.proofs.Working.{IsOfNode, cell_left, cell_taken, half_node, half_stage, half_step, half_task, half_work, mail_left, mail_taken, moves_by}
use Rattle.phase_claims.specs.declared.part.Part.{Part}
use Rattle.phase_claims.specs.declared.part.Part.TheVariants.{Cell, Mail, Writer}
use Rattle.phase_claims.specs.declared.view.Scope.{Scope}
use Rattle.phase_claims.specs.PlacesHeld.{mail_place, mail_places, node_places}
use Rattle.phase_claims.specs.PlacesHome.{brought, part_at, parts_of, posted_in, taken}

pub lt_is : (a b : ℕ) → a < b → nat_lt a b ≡ true
lt_is a b h = grind (arith, nat_tests)

pub lt_not : (a b : ℕ) → b ≤ a → nat_lt a b ≡ false
lt_not a b h = grind (arith, nat_tests)

by_tests : (b c b' c' : Bool) (x y z : Part) → b ≡ b' → c ≡ c' → cond b x (cond c y z) ≡ cond b' x (cond c' y z)
by_tests b c b' c' x y z eb ec = ap (λ d. cond d x (cond c y z)) eb ∙ ap (λ d. cond b' x (cond d y z)) ec

module _ (k : Scope) where
  abbrev p : Plan
  p = k.plan

  abbrev writer_at : ℕ → Part
  writer_at at = Writer (record { board = k.board; list = posted_in k.plan at })

  pub part_cell : (n at : ℕ) → n < node_count p → part_at k n at ≡ Cell (cell_at p n at)
  unfolding part_at
  part_cell n at h = ap (λ b. cond b (Cell (cell_at p n at)) (cond (nat_lt n (posting_part p)) (Mail (mail_at p (n - node_count p) at)) (writer_at at))) (lt_is n (node_count p) h)

  pub part_mail : (l at : ℕ) → l < length p.net.links → part_at k (mail_part p l) at ≡ Mail (mail_at p l at)
  unfolding part_at
  part_mail l at h =
      let slot : ℕ = mail_part p l in
      by_tests (nat_lt slot (node_count p)) (nat_lt slot (posting_part p)) false true (Cell (cell_at p slot at)) (Mail (mail_at p (slot - node_count p) at)) (writer_at at) (lt_not slot (node_count p) (omega arith)) (lt_is slot (posting_part p) (omega (arith, h)))
      ∙ ap (λ x. Mail (mail_at p x at)) (let e : slot - node_count p ≡ l = omega arith in e)

  pub part_writer : (at : ℕ) → part_at k (posting_part p) at ≡ writer_at at
  unfolding part_at
  part_writer at =
      let slot : ℕ = posting_part p in
      by_tests (nat_lt slot (node_count p)) (nat_lt slot (posting_part p)) false false (Cell (cell_at p slot at)) (Mail (mail_at p (slot - node_count p) at)) (writer_at at) (lt_not slot (node_count p) (omega arith)) (lt_not slot (posting_part p) (omega arith))

  links_parts : (at : ℕ → ℕ) (F : ℕ → mail.Mail) (links : List ℕ) → ((l : ℕ) → 1 ≤ times l links → part_at k (mail_part p l) (at (mail_part p l)) ≡ Mail (F l)) → parts_of (part_at k) (map (mail_part p) links) at ≡ mail_places p F links
  links_parts at F [] same = refl
  links_parts at F (x ∷ links) same =
      ap (λ y. (mail_part p x, y) ∷ parts_of (part_at k) (map (mail_part p) links) at) (same x (omega (arith, at_self x)))
      ∙ ap (λ xs. mail_place p F x ∷ xs) (links_parts at F links (λ l h. same l (omega (arith, h))))

  one_most : (b : Bool) → one_if b ≤ 1
  one_most true = omega arith
  one_most false = omega arith

  -- the places of a unit of one node, where all are at stage s before its phase
  module _ (c a s : ℕ) (links : List ℕ) (m : IsOfNode p c a links s) (are : places p c ≡ a ∷ map (mail_part p) links) (past : (l : ℕ) → length p.net.links ≤ l → times l links ≡ 0) (moved : (l : ℕ) → moves p (mail_part p l) c ≡ times l links) where
    within : (l : ℕ) → 1 ≤ times l links → l < length p.net.links
    within l h = dite (dec_le (length p.net.links) l) (λ over. absurd (omega (arith, past l over, h))) (λ low. lt_of_not-le low)

    pub node_carried : (F : ℕ → mail.Mail) → ((l : ℕ) → mail_at p l s ≡ F l) → taken k c ≡ node_places p a (cell_at p a s) F links
    node_carried F is =
        ap (λ xs. parts_of (part_at k) xs (stage_before p c)) are
        ∙ ap (λ y. (a, y) ∷ parts_of (part_at k) (map (mail_part p) links) (stage_before p c)) (part_cell a (stage_before p c a) m.node ∙ ap (λ x. Cell (cell_at p a x)) (m.cell_stage a m.node))
        ∙ ap (λ xs. (a, Cell (cell_at p a s)) ∷ xs) (links_parts (stage_before p c) F links
        (λ l h. part_mail l (stage_before p c (mail_part p l)) (within l h) ∙ ap (λ x. Mail (mail_at p l x)) (m.mail_stage l (within l h)) ∙ ap (λ x. Mail x) (is l)))

    cell_later : stage_before p c a + moves p a c ≡ suc s
    cell_later = omega (arith, m.cell_stage a m.node, m.cell_moves a m.node, at_self a)

    mail_later : (l : ℕ) → 1 ≤ times l links → stage_before p c (mail_part p l) + moves p (mail_part p l) c ≡ suc s
    mail_later l h = let in_range = within l h in omega (arith, m.mail_stage l in_range, m.mail_moves l in_range, moved l, one_most (is_among links l), h)

    pub node_brought : (F : ℕ → mail.Mail) → ((l : ℕ) → mail_at p l (suc s) ≡ F l) → brought k c ≡ node_places p a (cell_at p a (suc s)) F links
    node_brought F is =
        ap (λ xs. parts_of (part_at k) xs (λ slot. stage_before p c slot + moves p slot c)) are
        ∙ ap (λ y. (a, y) ∷ parts_of (part_at k) (map (mail_part p) links) (λ slot. stage_before p c slot + moves p slot c)) (part_cell a (stage_before p c a + moves p a c) m.node ∙ ap (λ x. Cell (cell_at p a x)) cell_later)
        ∙ ap (λ xs. (a, Cell (cell_at p a (suc s))) ∷ xs) (links_parts (λ slot. stage_before p c slot + moves p slot c) F links
        (λ l h. part_mail l (stage_before p c (mail_part p l) + moves p (mail_part p l) c) (within l h) ∙ ap (λ x. Mail (mail_at p l x)) (mail_later l h) ∙ ap (λ x. Mail x) (is l)))

  places_are : (c : ℕ) (task : Task) → task_of (node_count p) c ≡ task → places p c ≡ places_in p task
  unfolding places
  places_are c task e = ap (λ x. places_in p x) e

  -- the links of a half
  places_by : (half : Half) (a : ℕ) → places_in p (half_task half a) ≡ a ∷ map (mail_part p) (links_by half p a)
  places_by Half.Transfer a = refl
  places_by Half.Gather a = refl

  past_by : (half : Half) (a l : ℕ) → length p.net.links ≤ l → times l (links_by half p a) ≡ 0
  past_by Half.Transfer a = outs_past p a
  past_by Half.Gather a = ins_past p a

  mail_by : (half : Half) (a : ℕ) → a < node_count p → (l : ℕ) → in_task p (mail_part p l) (half_task half a) ≡ times l (links_by half p a)
  mail_by Half.Transfer a node l = mail_of p a (outs p a) node l
  mail_by Half.Gather a node l = mail_of p a (ins p a) node l

  module _ (sound : IsSound p) (c : ℕ) (few : c < unit_count p) (h : HalfStep) (is_half : half_by (step_of (node_count p) c) (task_of (node_count p) c) ≡ Some h) where
    abbrev node_is : IsOfNode p c h.node.0 (links_of p h) (half_stage h.half h.step)
    node_is = half_node p sound c (node_count p) few refl h is_half

    abbrev task_is : task_of (node_count p) c ≡ half_task h.half h.node.0
    task_is = half_work p sound c (node_count p) few refl h is_half

    abbrev places_now : places p c ≡ h.node.0 ∷ map (mail_part p) (links_of p h)
    places_now = places_are c (half_task h.half h.node.0) task_is ∙ places_by h.half h.node.0

    moved_now : (l : ℕ) → moves p (mail_part p l) c ≡ times l (links_of p h)
    moved_now l = moves_by p sound c h.node.0 (half_task h.half h.node.0) task_is (mail_part p l) ∙ mail_by h.half h.node.0 node_is.node l

    pub half_carried : taken k c ≡ node_places p h.node.0 (taking_cell p h away) (taken_mail p h) (links_of p h)
    half_carried =
        node_carried c h.node.0 (half_stage h.half h.step) (links_of p h) node_is places_now (past_by h.half h.node.0) moved_now (taken_mail p h) (λ l. mail_taken h.half p l h.step)
        ∙ ap (λ x. node_places p h.node.0 x (taken_mail p h) (links_of p h)) (cell_taken h.half p h.node.0 h.step)

    pub half_brought : brought k c ≡ node_places p h.node.0 (leaving_cell p h away) (left_mail p h) (links_of p h)
    half_brought =
        node_brought c h.node.0 (half_stage h.half h.step) (links_of p h) node_is places_now (past_by h.half h.node.0) moved_now (left_mail p h) (λ l. mail_left h.half p l h.step)
        ∙ ap (λ x. node_places p h.node.0 x (left_mail p h) (links_of p h)) (cell_left h.half p h.node.0 h.step)

-- where the work is done: q is the plan that the code has, k the scope that the table was told, and k' that
-- of the floor
module _ (k k' : Scope) (q : Plan) (same : k ≡ k') (plan : q ≡ k.plan) (sound : IsSound k.plan) (u N : ℕ) (few : u < unit_count k'.plan) (nodes : N ≡ node_count k.plan)
    (h : HalfStep) (is_half : half_by (step_of N u) (task_of N u) ≡ Some h) where
  few_here : u < unit_count k.plan
  few_here = subst (λ (j : Scope). u < unit_count j.plan) (sym same) few

  half_here : half_by (step_of (node_count k.plan) u) (task_of (node_count k.plan) u) ≡ Some h
  half_here = ap (λ n. half_by (step_of n u) (task_of n u)) (sym nodes) ∙ is_half

  pub half_may : IsHalf q h
  half_may = subst (λ (x : Plan). IsHalf x h) (sym plan) (half_step k.plan sound u N few_here nodes h is_half)

  pub half_has : (xs : List (ℕ × Part)) → xs ≡ taken k' u → xs ≡ node_places q h.node.0 (taking_cell q h away) (taken_mail q h) (links_of q h)
  half_has xs e =
      e ∙ ap (λ (j : Scope). taken j u) (sym same) ∙ half_carried k sound u few_here h half_here
      ∙ ap (λ (x : Plan). node_places x h.node.0 (taking_cell x h away) (taken_mail x h) (links_of x h)) (sym plan)

  pub half_brings : (xs : List (ℕ × Part)) → xs ≡ node_places q h.node.0 (leaving_cell q h away) (left_mail q h) (links_of q h) → xs ≡ brought k' u
  half_brings xs e =
      e ∙ ap (λ (x : Plan). node_places x h.node.0 (leaving_cell x h away) (left_mail x h) (links_of x h)) plan
      ∙ sym (half_brought k sound u few_here h half_here) ∙ ap (λ (j : Scope). brought j u) same
