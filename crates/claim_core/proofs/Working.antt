-- The work of a transfer and of a gather.
use Rattle.std.specs.Prelude.{nat_lt, slice_get, slice_index_or, slice_set}
use Rattle.std.proofs.lemmas.Nat.{div-add-mod'}
use Rattle.std.proofs.Common.{◌≡◌, ℕ, zero, suc, ◌+◌, ◌-◌, ◌*◌, ◌/◌, ◌<◌, ◌≤◌, Bool, true, false, cond, List, [], ◌∷◌, length, refl, ap, sym, ◌∙◌, subst, arith, lt_of_not-le, None, Some, mul-le-mul_right}
use Rattle.std.proofs.lemmas.Bool.Decides.{nat_tests}
use Rattle.std.proofs.lemmas.Option.{same_Some}
use mathlib.Core.Logic.{dite}
use native.Mathlib.Decide.{dec_le}
use Rattle.net_core.specs.declared.rows.NodeNo.{NodeNo}
use Rattle.dta_model.specs.Plans.{ins, outs}
use Rattle.dta_model.specs.Sound.{IsSound}
use Rattle.dta_model.specs.Units.{Gather, Posting, Task, Transfer, mail_part, moved_by, node_count, posting_part, step_of, step_units, task_at, task_of, position_of, unit_count}
use Rattle.dta_model.specs.declared.plan.Plan.{Plan}
use Rattle.cell_stages.specs.CellState.{CellState}
use Rattle.cell_stages.specs.Contents.{away, cell_at, mail_at}
use Rattle.node_transfer.specs.Exchange.{AreMail, ArePut, is_among}
use Rattle.node_transfer.specs.Halves.{IsHalf, half_after, half_before, leaving_cell, left_mail, links_by, links_of, mail_after, mail_before, taken_mail, taking_cell}
use Rattle.node_transfer.specs.declared.half.Half.{Half}
use Rattle.node_transfer.specs.declared.half.HalfStep.{HalfStep}
use Rattle.cell_stages.specs.declared.mail.Mail.{Mail}
use Rattle.node_transfer.proofs.OfMail.Parts.{ins-among, ins-member, outs-among, outs-member}
use Rattle.node_transfer.proofs.OfMail.Sets.{count-set, set-here, set-other}
use Rattle.cell_stages.proofs.TwoStages.{steps_have_two_stages}
use Rattle.claim_core.specs.Kinds.{half_by, kind_by}
use Rattle.claim_core.specs.Parts.{moves, stage_before}
use Rattle.claim_core.specs.Sums.{is_at, one_if}
use Rattle.claim_core.specs.Work.{AreMoved, AreReady, PartsState}
use Rattle.claim_core.specs.declared.units.UnitKind.TheVariants as kind
use Rattle.claim_core.proofs.Apart.{before_gather, before_transfer, cell_once, mail_once}
use Rattle.claim_core.proofs.Parts.{at_is, cell_of, in_task, mail_of, step_cell, step_mail, times_ins, times_outs}
use Rattle.claim_core.proofs.Sums.{at_self, is_one, is_zero}

-- what the parts of a unit of one node are, all at stage s
pub record IsOfNode (p : Plan) (c a : ℕ) (links : List ℕ) (s : ℕ) : Type 0 where
  pub node : a < node_count p
  pub cell_moves : (n : ℕ) → n < node_count p → moves p n c ≡ is_at n a
  pub mail_moves : (l : ℕ) → l < length p.net.links → moves p (mail_part p l) c ≡ one_if (is_among links l)
  pub among : (l : ℕ) → is_among links l ≡ true → l < length p.net.links
  pub cell_stage : (n : ℕ) → n < node_count p → stage_before p c n ≡ s
  pub mail_stage : (l : ℕ) → l < length p.net.links → stage_before p c (mail_part p l) ≡ s

one_is : (b : Bool) → b ≡ true → 1 ≤ one_if b
one_is true h = omega arith
one_is false h = cc

module _ (p : Plan) (c a : ℕ) (links : List ℕ) (s : ℕ) (m : IsOfNode p c a links s) (cells : List CellState) (mail : List Mail) (r : AreReady p c (record { cells = cells; mail = mail })) where
  pub cell_inside : a < length cells
  cell_inside = omega (arith, r.counted.cells, m.node)

  pub cell_ready : slice_get cells a ≡ Some (cell_at p a s)
  cell_ready = r.cells a m.node (omega (arith, m.cell_moves a m.node, at_self a)) ∙ ap (λ k. Some (cell_at p a k)) (m.cell_stage a m.node)

  pub mail_ready : (l : ℕ) → is_among links l ≡ true → slice_get mail l ≡ Some (mail_at p l s)
  mail_ready l is_in =
      let h = m.among l is_in in
      r.mail l h (omega (arith, m.mail_moves l h, one_is (is_among links l) is_in)) ∙ ap (λ k. Some (mail_at p l k)) (m.mail_stage l h)

  pub parts_moved : (cell : CellState) (mail' : List Mail) → cell ≡ cell_at p a (suc s) → ((l : ℕ) → is_among links l ≡ true → slice_get mail' l ≡ Some (mail_at p l (suc s)))
      → length mail' ≡ length mail → ((l : ℕ) → is_among links l ≡ false → slice_get mail' l ≡ slice_get mail l)
      → AreMoved p c (record { cells = cells; mail = mail }) (record { cells = slice_set cells a cell; mail = mail' })
  parts_moved cell mail' e own count others = record {
    counted = record { cells = count-set cells a cell ∙ r.counted.cells; mail = count ∙ r.counted.mail };
    cells = λ n h one. (let same : n ≡ a = at_is n a (omega (arith, one, m.cell_moves n h)) in
        subst (λ (x : ℕ). slice_get (slice_set cells a cell) x ≡ Some (cell_at p x (suc (stage_before p c x)))) (sym same)
        (set-here cells a cell cell_inside ∙ ap (λ y. Some y) (e ∙ ap (λ k. cell_at p a (suc k)) (sym (m.cell_stage a m.node)))));
    mail = λ l h one. own l (is_one (is_among links l) (omega (arith, one, m.mail_moves l h))) ∙ ap (λ k. Some (mail_at p l (suc k))) (sym (m.mail_stage l h));
    other_cells = λ n h zero_moves. set-other cells a n cell (λ same. (let one : is_at n a ≡ 1 = ap (λ x. is_at x a) same ∙ at_self a in absurd (omega (arith, zero_moves, m.cell_moves n h, one))));
    other_mail = λ l h zero_moves. others l (is_zero (is_among links l) (omega (arith, zero_moves, m.mail_moves l h)));
  }

-- the tasks
task_node : (n i a : ℕ) → task_at n i ≡ Transfer a → a < n
task_node n i a e = by (nat_lt i n) (nat_lt i (n + n)) refl e
  where
    below_of : (x y : ℕ) → nat_lt x y ≡ true → x < y
    below_of x y h = grind (arith, nat_tests)

    same_node : Transfer i ≡ Transfer a → i ≡ a
    same_node q = cc

    by : (b d : Bool) → nat_lt i n ≡ b → cond b (Transfer i) (cond d (Gather (i - n)) Posting) ≡ Transfer a → a < n
    by true d t q = omega (arith, same_node q, below_of i n t)
    by false true t q = cc
    by false false t q = cc

task_gather : (n i a : ℕ) → task_at n i ≡ Gather a → a < n
task_gather n i a e = by (nat_lt i n) (nat_lt i (n + n)) refl refl e
  where
    below_of : (x y : ℕ) → nat_lt x y ≡ true → x < y
    below_of x y h = grind (arith, nat_tests)

    past_of : (x y : ℕ) → nat_lt x y ≡ false → y ≤ x
    past_of x y h = grind (arith, nat_tests)

    same_node : Gather (i - n) ≡ Gather a → i - n ≡ a
    same_node q = cc

    by : (b d : Bool) → nat_lt i n ≡ b → nat_lt i (n + n) ≡ d → cond b (Transfer i) (cond d (Gather (i - n)) Posting) ≡ Gather a → a < n
    by true d t u q = cc
    by false true t u q = omega (arith, same_node q, past_of i n t, below_of i (n + n) u)
    by false false t u q = cc

-- of a sound loading
module _ (p : Plan) (sound : IsSound p) (c a : ℕ) where
  pub moves_by : (task : Task) → task_of (node_count p) c ≡ task → (k : ℕ) → moves p k c ≡ in_task p k task
  unfolding moved_by
  moves_by task e k = ap (λ x. in_task p k x) e

  pub transfer_of : task_of (node_count p) c ≡ Transfer a → IsOfNode p c a (outs p a) (2 * step_of (node_count p) c)
  unfolding task_of
  transfer_of e =
      let node : a < node_count p = task_node (node_count p) (position_of (node_count p) c) a e in
      record {
        node = node;
        cell_moves = λ n h. moves_by (Transfer a) e n ∙ cell_of p a (outs p a) n h;
        mail_moves = λ l h. moves_by (Transfer a) e (mail_part p l) ∙ mail_of p a (outs p a) node l ∙ times_outs p a l h ∙ ap (λ b. one_if b) (sym (outs-member p a l h));
        among = outs-among p a;
        cell_stage = λ n h. before_transfer p n c (step_cell p n h) a e;
        mail_stage = λ l h. before_transfer p (mail_part p l) c (step_mail p sound l h) a e;
      }

  pub gather_of : task_of (node_count p) c ≡ Gather a → IsOfNode p c a (ins p a) (2 * step_of (node_count p) c + 1)
  unfolding task_of
  gather_of e =
      let node : a < node_count p = task_gather (node_count p) (position_of (node_count p) c) a e in
      record {
        node = node;
        cell_moves = λ n h. moves_by (Gather a) e n ∙ cell_of p a (ins p a) n h;
        mail_moves = λ l h. moves_by (Gather a) e (mail_part p l) ∙ mail_of p a (ins p a) node l ∙ times_ins p a l h ∙ ap (λ b. one_if b) (sym (ins-member p a l h));
        among = ins-among p a;
        cell_stage = λ n h. before_gather p n c (step_cell p n h) a (cell_once p n h) e;
        mail_stage = λ l h. before_gather p (mail_part p l) c (step_mail p sound l h) a (mail_once p sound l h) e;
      }

pub transfer_kind : (task : Task) (node : NodeNo) → kind_by task ≡ kind.Transfer node → task ≡ Transfer node.0
transfer_kind (Transfer a) node e = ap (λ n. Transfer n.0) (same (record { 0 = a }) node e)
  where
    same : (x y : NodeNo) → kind.Transfer x ≡ kind.Transfer y → x ≡ y
    same x y e = cc
transfer_kind (Gather a) node e = cc
transfer_kind Posting node e = cc

pub gather_kind : (task : Task) (node : NodeNo) → kind_by task ≡ kind.Gather node → task ≡ Gather node.0
gather_kind (Transfer a) node e = cc
gather_kind (Gather a) node e = ap (λ n. Gather n.0) (same (record { 0 = a }) node e)
  where
    same : (x y : NodeNo) → kind.Gather x ≡ kind.Gather y → x ≡ y
    same x y e = cc
gather_kind Posting node e = cc

pub posting_kind : (task : Task) → kind_by task ≡ kind.Posting → task ≡ Posting
posting_kind (Transfer a) e = cc
posting_kind (Gather a) e = cc
posting_kind Posting e = refl

pub index_of : {A : Type 0} (xs : List A) (i : ℕ) (x d : A) → slice_get xs i ≡ Some x → slice_index_or xs i d ≡ x
index_of [] i x d e = cc
index_of {A} (y ∷ xs) zero x d e = same y x e
  where
    same : (a b : A) → Some a ≡ Some b → a ≡ b
    same a b q = cc
index_of (y ∷ xs) (suc i) x d e = index_of xs i x d e

pub in_count : (p : Plan) (u H N : ℕ) → H ≡ p.horizon → N ≡ node_count p → u < unit_count p → u < H * step_units N
unfolding unit_count
in_count p u H N h n l = let e : H * step_units N ≡ p.horizon * step_units (node_count p) = ap (λ x. x * step_units N) h ∙ ap (λ x. p.horizon * step_units x) n in omega (arith, l, e)

pub in_time : (W H u : ℕ) → 1 ≤ W → u < H * W → u / W < H
in_time W H u one l = dite (dec_le H (u / W))
    (λ le. let m : H * W ≤ u / W * W = mul-le-mul_right W le in absurd (omega (arith, m, l, div-add-mod' u W)))
    (λ n. lt_of_not-le n)

-- a half's task, and the stage of the parts before it
abbrev pub half_task : Half → ℕ → Task
half_task Half.Transfer a = Transfer a
half_task Half.Gather a = Gather a

abbrev pub half_stage : Half → ℕ → ℕ
half_stage Half.Transfer t = 2 * t
half_stage Half.Gather t = 2 * t + 1

pub half_is : (t : ℕ) (task : Task) (h : HalfStep) → half_by t task ≡ Some h → (task ≡ half_task h.half h.node.0) × (h.step ≡ t)
half_is t (Transfer a) h e =
    let same = same_Some (record { half = Half.Transfer; node = record { 0 = a }; step = t }) h e in
    (ap (λ (x : HalfStep). half_task x.half x.node.0) same, sym (ap (λ (x : HalfStep). x.step) same))
half_is t (Gather a) h e =
    let same = same_Some (record { half = Half.Gather; node = record { 0 = a }; step = t }) h e in
    (ap (λ (x : HalfStep). half_task x.half x.node.0) same, sym (ap (λ (x : HalfStep). x.step) same))
half_is t Posting h e = cc

pub no_half : (t : ℕ) (task : Task) → half_by t task ≡ None → task ≡ Posting
no_half t (Transfer a) e = cc
no_half t (Gather a) e = cc
no_half t Posting e = refl

-- the cell of a node and the mail of a link before a half, and after it
pub cell_taken : (half : Half) (p : Plan) (a t : ℕ) → cell_at p a (half_stage half t) ≡ half_before half p a t away
cell_taken Half.Transfer p a t = (steps_have_two_stages p t).0.cell a
cell_taken Half.Gather p a t = (steps_have_two_stages p t).1.cell a

pub mail_taken : (half : Half) (p : Plan) (l t : ℕ) → mail_at p l (half_stage half t) ≡ mail_before half p t l
mail_taken Half.Transfer p l t = (steps_have_two_stages p t).0.mail l
mail_taken Half.Gather p l t = (steps_have_two_stages p t).1.mail l

after_transfer : (t : ℕ) → suc (2 * t) ≡ 2 * t + 1
after_transfer t = omega arith

after_gather : (t : ℕ) → suc (2 * t + 1) ≡ 2 * suc t
after_gather t = omega arith

pub cell_left : (half : Half) (p : Plan) (a t : ℕ) → cell_at p a (suc (half_stage half t)) ≡ half_after half p a t away
cell_left Half.Transfer p a t = ap (λ x. cell_at p a x) (after_transfer t) ∙ (steps_have_two_stages p t).1.cell a
cell_left Half.Gather p a t = ap (λ x. cell_at p a x) (after_gather t) ∙ (steps_have_two_stages p (suc t)).0.cell a

pub mail_left : (half : Half) (p : Plan) (l t : ℕ) → mail_at p l (suc (half_stage half t)) ≡ mail_after half p t l
mail_left Half.Transfer p l t = ap (λ x. mail_at p l x) (after_transfer t) ∙ (steps_have_two_stages p t).1.mail l
mail_left Half.Gather p l t = ap (λ x. mail_at p l x) (after_gather t) ∙ (steps_have_two_stages p (suc t)).0.mail l

-- a unit that is a half of a node's step
module _ (p : Plan) (sound : IsSound p) (u N : ℕ) (few : u < unit_count p) (nodes : N ≡ node_count p) (h : HalfStep) (is_half : half_by (step_of N u) (task_of N u) ≡ Some h) where
  told_half : (task_of (node_count p) u ≡ half_task h.half h.node.0) × (h.step ≡ step_of (node_count p) u)
  told_half = half_is (step_of (node_count p) u) (task_of (node_count p) u) h (ap (λ n. half_by (step_of n u) (task_of n u)) (sym nodes) ∙ is_half)

  pub half_work : task_of (node_count p) u ≡ half_task h.half h.node.0
  half_work = told_half.0

  of_half : (half : Half) (a : ℕ) → task_of (node_count p) u ≡ half_task half a → IsOfNode p u a (links_by half p a) (half_stage half (step_of (node_count p) u))
  of_half Half.Transfer a e = transfer_of p sound u a e
  of_half Half.Gather a e = gather_of p sound u a e

  pub half_node : IsOfNode p u h.node.0 (links_of p h) (half_stage h.half h.step)
  half_node = subst (λ (x : ℕ). IsOfNode p u h.node.0 (links_of p h) (half_stage h.half x)) (sym told_half.1) (of_half h.half h.node.0 told_half.0)

  before_end : h.step < p.horizon
  unfolding unit_count
  before_end = let l : u / step_units (node_count p) < p.horizon = in_time (step_units (node_count p)) p.horizon u (omega arith) few in omega (arith, l, told_half.1)

  pub half_step : IsHalf p h
  half_step = record { sound = sound; node = half_node.node; step = before_end }

  module _ (cells : List CellState) (mail : List Mail) (r : AreReady p u (record { cells = cells; mail = mail })) where
    abbrev stage : ℕ
    stage = half_stage h.half h.step

    pub half_inside : h.node.0 < length cells
    half_inside = cell_inside p u h.node.0 (links_of p h) stage half_node cells mail r

    pub half_cell : (d : CellState) → slice_index_or cells h.node.0 d ≡ taking_cell p h away
    half_cell d =
        index_of cells h.node.0 (taking_cell p h away) d
        (cell_ready p u h.node.0 (links_of p h) stage half_node cells mail r ∙ ap (λ x. Some x) (cell_taken h.half p h.node.0 h.step))

    pub half_mail : AreMail (taken_mail p h) (links_of p h) mail
    half_mail l is_in = mail_ready p u h.node.0 (links_of p h) stage half_node cells mail r l is_in ∙ ap (λ x. Some x) (mail_taken h.half p l h.step)

    pub half_done : (cell : CellState) (mail' : List Mail) → cell ≡ leaving_cell p h away → ArePut (left_mail p h) (links_of p h) mail mail'
        → AreMoved p u (record { cells = cells; mail = mail }) (record { cells = slice_set cells h.node.0 cell; mail = mail' })
    half_done cell mail' e put =
        parts_moved p u h.node.0 (links_of p h) stage half_node cells mail r cell mail'
        (e ∙ sym (cell_left h.half p h.node.0 h.step))
        (λ l is_in. put.own l is_in ∙ ap (λ x. Some x) (sym (mail_left h.half p l h.step)))
        put.others.count put.others.others

-- a posting moves nothing
module _ (p : Plan) (sound : IsSound p) (u N : ℕ) (nodes : N ≡ node_count p) (none : half_by (step_of N u) (task_of N u) ≡ None) where
  posts_now : (part : ℕ) → moves p part u ≡ in_task p part Posting
  posts_now part = moves_by p sound u 0 Posting (no_half (step_of (node_count p) u) (task_of (node_count p) u) (ap (λ n. half_by (step_of n u) (task_of n u)) (sym nodes) ∙ none)) part

  no_part : (x y : ℕ) → x < y → is_at x y ≡ 0
  no_part x y h = grind (arith, nat_tests)

  pub posting_done : (parts : PartsState) → AreReady p u parts → AreMoved p u parts parts
  posting_done parts r = record {
    counted = r.counted;
    cells = λ n h one. absurd (omega (arith, one, posts_now n, no_part n (posting_part p) (omega (arith, h))));
    mail = λ l h one. absurd (omega (arith, one, posts_now (mail_part p l), no_part (mail_part p l) (posting_part p) (omega (arith, h))));
    other_cells = λ n h z. refl;
    other_mail = λ l h z. refl;
  }

pub count_is_all : (p : Plan) (H N : ℕ) → H ≡ p.horizon → N ≡ node_count p → H * step_units N ≡ unit_count p
unfolding unit_count
count_is_all p H N h n = ap (λ x. x * step_units N) h ∙ ap (λ x. p.horizon * step_units x) n
