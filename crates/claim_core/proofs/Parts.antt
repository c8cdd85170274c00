-- How often the units of a step take each part to its next stage.
use Rattle.net_core.specs.Network as network
use Rattle.std.specs.Prelude.{filter, nat_eq, nat_lt}
use Rattle.std.specs.List.{range_with_len}
use Rattle.std.proofs.Common.{◌≡◌, ℕ, zero, suc, ◌+◌, ◌-◌, ◌*◌, ◌%◌, ◌<◌, ◌≤◌, Bool, true, false, cond, List, [], ◌∷◌, length, map, refl, ap, sym, ◌∙◌, arith}
use Rattle.std.proofs.lemmas.Bool.Decides.{nat_tests}
use Rattle.net_core.proofs.Orders.{is_lt, not_lt}
use mathlib.Core.Logic.{dite}
use native.Mathlib.Decide.{ℕ_discrete}
use Rattle.net_core.specs.Network.{numbers_below}
use Rattle.dta_model.specs.Plans.{ins, link_at, outs}
use Rattle.dta_model.specs.Sound.{IsSound}
use Rattle.dta_model.specs.Units.{Gather, Posting, Task, Transfer, mail_part, moved_by, moved_in, node_count, posting_part, step_units, task_at, task_of}
use Rattle.dta_model.specs.declared.plan.Plan.{Plan}
use Rattle.node_transfer.proofs.OfMail.Finished.{from-below, to-below}
use Rattle.claim_core.specs.Parts.{moves}
use Rattle.claim_core.specs.Sums.{below, is_at, once_below, one_if, times}
use Rattle.net_core.proofs.Numbers.{numbers_grow}
use Rattle.claim_core.proofs.Cuts.{below_none, below_same}
use Rattle.claim_core.proofs.Stages.{below_shift, whole_steps}
use Rattle.claim_core.proofs.Sums.{at_other, at_same, below_at, below_at_le, once_here, once_more, once_out, total-append}

pub at_is : (x y : ℕ) → 1 ≤ is_at x y → x ≡ y
at_is x y h = grind (arith, nat_tests)

-- a number among those below a bound
pub times_range : (x m : ℕ) → times x (numbers_below m) ≡ once_below x m
times_range x zero = sym (once_out x 0 (omega arith))
times_range x (suc m) =
    let a = ap (λ xs. times x xs) (numbers_grow 0 m (0 + m) refl) in
    let b = total-append (is_at x) (range_with_len 0 m) ((0 + m) ∷ []) in
    let z : 0 + m ≡ m = omega arith in
    omega (arith, a, b, ap (λ y. is_at x y) z, times_range x m, once_more x m)

-- a number among those that pass a test
module _ (f : ℕ → Bool) (x : ℕ) where
  pass_step : (b : Bool) (y : ℕ) (ys : List ℕ) → (b ≡ false → is_at x y ≡ 0) → times x (filter f ys) ≡ times x ys → times x (cond b (y ∷ filter f ys) (filter f ys)) ≡ is_at x y + times x ys
  pass_step true y ys z h = omega (arith, h)
  pass_step false y ys z h = omega (arith, h, z refl)

  pass : f x ≡ true → (ys : List ℕ) → times x (filter f ys) ≡ times x ys
  pass e [] = refl
  pass e (y ∷ ys) = pass_step (f y) y ys
      (λ b. dite (ℕ_discrete x y) (λ same. (let q : true ≡ false = sym e ∙ ap f same ∙ b in cc)) (λ other. at_other x y other))
      (pass e ys)

  drop_step : (b : Bool) (y : ℕ) (ys : List ℕ) → (b ≡ true → is_at x y ≡ 0) → times x (filter f ys) ≡ 0 → times x (cond b (y ∷ filter f ys) (filter f ys)) ≡ 0
  drop_step true y ys z h = omega (arith, h, z refl)
  drop_step false y ys z h = h

  dropped : f x ≡ false → (ys : List ℕ) → times x (filter f ys) ≡ 0
  dropped e [] = refl
  dropped e (y ∷ ys) = drop_step (f y) y ys
      (λ b. dite (ℕ_discrete x y) (λ same. (let q : false ≡ true = sym e ∙ ap f same ∙ b in cc)) (λ other. at_other x y other))
      (dropped e ys)

  filtered : (b : Bool) → f x ≡ b → (ys : List ℕ) → times x (filter f ys) ≡ cond b (times x ys) 0
  filtered true e ys = pass e ys
  filtered false e ys = dropped e ys

-- a link among those of a node
among_links : (ends : ℕ → ℕ) (n count l : ℕ) → times l (filter (λ b. nat_eq (ends b) n) (numbers_below count)) ≡ cond (nat_eq (ends l) n) (once_below l count) 0
among_links ends n count l = filtered (λ b. nat_eq (ends b) n) l (nat_eq (ends l) n) refl (numbers_below count) ∙ ap (λ k. cond (nat_eq (ends l) n) k 0) (times_range l count)

one_link : (b : Bool) (k : ℕ) → k ≡ 1 → cond b k 0 ≡ one_if b
one_link true k e = e
one_link false k e = refl

no_link : (b : Bool) (k : ℕ) → k ≡ 0 → cond b k 0 ≡ 0
no_link true k e = e
no_link false k e = refl

module _ (p : Plan) where
  pub times_outs : (n l : ℕ) → l < length p.net.links → times l (outs p n) ≡ is_at n (link_at p l).from.0
  unfolding network.outs
  times_outs n l h = among_links (λ b. (link_at p b).from.0) n (length p.net.links) l ∙ one_link (nat_eq (link_at p l).from.0 n) (once_below l (length p.net.links)) (once_here l (length p.net.links) h)

  pub times_ins : (n l : ℕ) → l < length p.net.links → times l (ins p n) ≡ is_at n (link_at p l).to.0
  unfolding network.ins
  times_ins n l h = among_links (λ b. (link_at p b).to.0) n (length p.net.links) l ∙ one_link (nat_eq (link_at p l).to.0 n) (once_below l (length p.net.links)) (once_here l (length p.net.links) h)

  pub outs_past : (n l : ℕ) → length p.net.links ≤ l → times l (outs p n) ≡ 0
  unfolding network.outs
  outs_past n l h = among_links (λ b. (link_at p b).from.0) n (length p.net.links) l ∙ no_link (nat_eq (link_at p l).from.0 n) (once_below l (length p.net.links)) (once_out l (length p.net.links) h)

  pub ins_past : (n l : ℕ) → length p.net.links ≤ l → times l (ins p n) ≡ 0
  unfolding network.ins
  ins_past n l h = among_links (λ b. (link_at p b).to.0) n (length p.net.links) l ∙ no_link (nat_eq (link_at p l).to.0 n) (once_below l (length p.net.links)) (once_out l (length p.net.links) h)

-- the parts of mail come after those of cells
cell_else : (count k : ℕ) → k < count → (links : List ℕ) → times k (map (λ l. count + l) links) ≡ 0
cell_else count k h [] = refl
cell_else count k h (l ∷ links) = omega (arith, at_other k (count + l) (λ e. omega (arith, e, h)), cell_else count k h links)

mail_at_part : (count l : ℕ) (links : List ℕ) → times (count + l) (map (λ b. count + b) links) ≡ times l links
mail_at_part count l [] = refl
mail_at_part count l (b ∷ links) = omega (arith, shifted count l b, mail_at_part count l links)
  where
    shifted : (c x y : ℕ) → is_at (c + x) (c + y) ≡ is_at x y
    shifted c x y = grind (arith, nat_tests)

-- a node's cell and the mail of some links
module _ (p : Plan) (a : ℕ) (links : List ℕ) where
  pub cell_of : (k : ℕ) → k < node_count p → times k (a ∷ map (mail_part p) links) ≡ is_at k a
  cell_of k h = omega (arith, cell_else (node_count p) k h links)

  pub mail_of : a < node_count p → (l : ℕ) → times (node_count p + l) (a ∷ map (mail_part p) links) ≡ times l links
  mail_of h l = omega (arith, mail_at_part (node_count p) l links, at_other (node_count p + l) a (λ e. omega (arith, e, h)))

pub transfers : (n i : ℕ) → i < n → task_at n i ≡ Transfer i
transfers n i h = ap (λ b. cond b (Transfer i) (cond (nat_lt i (n + n)) (Gather (i - n)) Posting)) (is_lt i n h)

pub gathers : (n i : ℕ) → i < n → task_at n (n + i) ≡ Gather i
gathers n i h =
    ap (λ b. cond b (Transfer (n + i)) (cond (nat_lt (n + i) (n + n)) (Gather (n + i - n)) Posting)) (not_lt (n + i) n (omega arith))
    ∙ ap (λ b. cond b (Gather (n + i - n)) Posting) (is_lt (n + i) (n + n) (omega (arith, h)))
    ∙ ap (λ j. Gather j) (omega arith)

pub posts : (n : ℕ) → task_at n (n + n) ≡ Posting
posts n =
    ap (λ b. cond b (Transfer (n + n)) (cond (nat_lt (n + n) (n + n)) (Gather (n + n - n)) Posting)) (not_lt (n + n) n (omega arith))
    ∙ ap (λ b. cond b (Gather (n + n - n)) Posting) (not_lt (n + n) (n + n) (omega arith))

module _ (p : Plan) (k : ℕ) where
  abbrev pub in_task : Task → ℕ
  in_task task = times k (moved_in p task)

  abbrev pub at_place : ℕ → ℕ
  at_place i = in_task (task_at (node_count p) i)

  -- a step's units are the transfers, the gathers and the posting
  in_bands : below (step_units (node_count p)) at_place ≡ below (node_count p) (λ i. in_task (Transfer i)) + below (node_count p) (λ i. in_task (Gather i)) + in_task Posting
  in_bands =
      let n : ℕ = node_count p in
      let e : step_units n ≡ n + suc n = omega arith in
      let split : below (n + suc n) at_place ≡ below n at_place + below (suc n) (λ i. at_place (n + i)) = below_shift at_place n (suc n) in
      let whole : below (step_units n) at_place ≡ below (n + suc n) at_place = ap (λ b. below b at_place) e in
      let first : below n at_place ≡ below n (λ i. in_task (Transfer i)) = below_same at_place (λ i. in_task (Transfer i)) n (λ i l. ap (λ task. in_task task) (transfers n i l)) in
      let second : below n (λ i. at_place (n + i)) ≡ below n (λ i. in_task (Gather i)) = below_same (λ i. at_place (n + i)) (λ i. in_task (Gather i)) n (λ i l. ap (λ task. in_task task) (gathers n i l)) in
      let third : at_place (n + n) ≡ in_task Posting = ap (λ task. in_task task) (posts n) in
      omega (arith, split, whole, first, second, third)

pub once : (y m : ℕ) → y < m → below m (λ x. is_at x y) ≡ 1
once y m h = omega (arith, below_at y m h, below_at_le y m)

module _ (p : Plan) where
  pub step_cell : (n : ℕ) → n < node_count p → below (step_units (node_count p)) (at_place p n) ≡ 2
  step_cell n h =
      let N : ℕ = node_count p in
      let same : (links : ℕ → List ℕ) → below N (λ i. times n (i ∷ map (mail_part p) (links i))) ≡ 1 = λ links.
      below_same (λ i. times n (i ∷ map (mail_part p) (links i))) (λ i. is_at i n) N (λ i l. cell_of p i (links i) n h ∙ at_same n i) ∙ once n N h in
      let post : is_at n (posting_part p) ≡ 0 = at_other n (posting_part p) (λ e. omega (arith, e, h)) in
      omega (arith, in_bands p n, same (λ i. outs p i), same (λ i. ins p i), post)

  pub step_mail : IsSound p → (l : ℕ) → l < length p.net.links → below (step_units (node_count p)) (at_place p (mail_part p l)) ≡ 2
  step_mail sound l h =
      let N : ℕ = node_count p in
      let out : below N (λ i. times (N + l) (i ∷ map (mail_part p) (outs p i))) ≡ 1 =
      below_same (λ i. times (N + l) (i ∷ map (mail_part p) (outs p i))) (λ i. is_at i (link_at p l).from.0) N (λ i b. mail_of p i (outs p i) b l ∙ times_outs p i l h)
      ∙ once (link_at p l).from.0 N (from-below p sound N (omega arith) l h) in
      let into : below N (λ i. times (N + l) (i ∷ map (mail_part p) (ins p i))) ≡ 1 =
      below_same (λ i. times (N + l) (i ∷ map (mail_part p) (ins p i))) (λ i. is_at i (link_at p l).to.0) N (λ i b. mail_of p i (ins p i) b l ∙ times_ins p i l h)
      ∙ once (link_at p l).to.0 N (to-below p sound N (omega arith) l h) in
      let post : is_at (N + l) (posting_part p) ≡ 0 = at_other (N + l) (posting_part p) (λ e. omega (arith, e, h)) in
      omega (arith, in_bands p (mail_part p l), out, into, post)

  pub step_posting : below (step_units (node_count p)) (at_place p (posting_part p)) ≡ 1
  step_posting =
      let N : ℕ = node_count p in let k : ℕ = posting_part p in
      let out : below N (λ i. times k (i ∷ map (mail_part p) (outs p i))) ≡ 0 =
      below_none (λ i. times k (i ∷ map (mail_part p) (outs p i))) N (λ i b. mail_of p i (outs p i) b (length p.net.links) ∙ outs_past p i (length p.net.links) (omega arith)) in
      let into : below N (λ i. times k (i ∷ map (mail_part p) (ins p i))) ≡ 0 =
      below_none (λ i. times k (i ∷ map (mail_part p) (ins p i))) N (λ i b. mail_of p i (ins p i) b (length p.net.links) ∙ ins_past p i (length p.net.links) (omega arith)) in
      let post : is_at k k ≡ 1 = self k in
      omega (arith, in_bands p k, out, into, post)
    where
      self : (y : ℕ) → is_at y y ≡ 1
      self y = grind (arith, nat_tests)

  -- how often whole steps take a part to its next stage
  pub moves_is : (k u : ℕ) → moves p k u ≡ at_place p k (u % step_units (node_count p))
  unfolding moved_by task_of
  moves_is k u = refl

  pub of_whole_steps : (k t : ℕ) → below (t * step_units (node_count p)) (moves p k) ≡ t * below (step_units (node_count p)) (at_place p k)
  of_whole_steps k t =
      below_same (moves p k) (λ u. at_place p k (u % step_units (node_count p))) (t * step_units (node_count p)) (λ u l. moves_is k u)
      ∙ whole_steps (step_units (node_count p)) (at_place p k) t
