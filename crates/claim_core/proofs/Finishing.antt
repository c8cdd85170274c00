-- What a finish does with the parts, one open unit after another.
use Rattle.std.specs.Prelude.{slice_get, slice_index_or}
use Rattle.std.proofs.Common.{◌≡◌, ℕ, suc, ◌+◌, ◌-◌, ◌*◌, ◌<◌, ◌≤◌, Bool, true, false, length, refl, ap, sym, ◌∙◌, arith, lt_of_not-le, Some}
use Rattle.std.proofs.lemmas.Bool.Decides.{nat_tests}
use mathlib.Core.Logic.{dite}
use native.Mathlib.Decide.{dec_le}
use Rattle.dta_model.specs.Machine.{Claims, finished, left_of, with_stage}
use Rattle.dta_model.specs.Sound.{IsSound}
use Rattle.dta_model.specs.Units.{Gather, Posting, Task, Transfer, mail_part, node_count, phase_end, phase_start, posting_part, task_of, unit_count}
use Rattle.dta_model.specs.declared.plan.Plan.{Plan}
use Rattle.dta_model.specs.declared.machine.Stage.{Stage}
use Rattle.dta_model.specs.declared.machine.Stage.TheVariants as stage
use Rattle.dta_model.specs.Plans.{ins, outs}
use Rattle.cell_stages.specs.Contents.{cell_at, mail_at}
use Rattle.node_transfer.specs.Exchange.{is_among}
use Rattle.claim_core.specs.Machine.{AreReached}
use Rattle.claim_core.specs.Parts.{done_in, moves, stage_before, stage_in, stage_of}
use Rattle.claim_core.specs.Runs.{among}
use Rattle.claim_core.specs.Sums.{below, is_at, one_if}
use Rattle.claim_core.specs.Work.{AreAtStages, AreMoved, AreReady, PartsState}
use Rattle.claim_core.proofs.Places.{alone}
use Rattle.claim_core.proofs.Claimed.{finished_le}
use Rattle.claim_core.proofs.Counts.{drawn_in, held_in}
use Rattle.claim_core.proofs.Cuts.{below_same, point}
use Rattle.claim_core.proofs.Events.{Kept, done_more, finished_kept, fits_open, kept_of, more_finished, open_held}
use Rattle.claim_core.proofs.Holds.{held_at}
use Rattle.claim_core.proofs.Phases.{same_start, same_stop, start_le}
use Rattle.claim_core.proofs.Runs.{among_high, among_none, among_two}
use Rattle.claim_core.proofs.Stages.{stage_held, stage_more}
use Rattle.claim_core.proofs.Sums.{once_le}
use Rattle.claim_core.proofs.Working.{gather_of, moves_by, transfer_of}
use Rattle.claim_core.proofs.Effects.{has}

at_most_one : (x y : ℕ) → is_at x y ≤ 1
at_most_one x y = grind (arith, nat_tests)

one_at_most : (b : Bool) → one_if b ≤ 1
one_at_most true = omega arith
one_at_most false = omega arith

-- a part is moved once or not
module _ (p : Plan) (sound : IsSound p) (c : ℕ) where
  cell_most : (n : ℕ) → n < node_count p → moves p n c ≤ 1
  cell_most n h = by (task_of (node_count p) c) refl
    where
      by : (task : Task) → task_of (node_count p) c ≡ task → moves p n c ≤ 1
      by (Transfer a) e = omega (arith, (transfer_of p sound c a e).cell_moves n h, at_most_one n a)
      by (Gather a) e = omega (arith, (gather_of p sound c a e).cell_moves n h, at_most_one n a)
      by Posting e = omega (arith, moves_by p sound c 0 Posting e n, at_most_one n (posting_part p))

  mail_most : (l : ℕ) → l < length p.net.links → moves p (mail_part p l) c ≤ 1
  mail_most l h = by (task_of (node_count p) c) refl
    where
      by : (task : Task) → task_of (node_count p) c ≡ task → moves p (mail_part p l) c ≤ 1
      by (Transfer a) e = let q = (transfer_of p sound c a e).mail_moves l h in omega (arith, q, one_at_most (is_among (outs p a) l))
      by (Gather a) e = let q = (gather_of p sound c a e).mail_moves l h in omega (arith, q, one_at_most (is_among (ins p a) l))
      by Posting e = omega (arith, moves_by p sound c 0 Posting e (mail_part p l), at_most_one (mail_part p l) (posting_part p))

-- the parts are at the stages that the done units tell, by two rules that are the same
pub same_parts : (p : Plan) (D D' : ℕ → ℕ) → ((x : ℕ) → D' x ≡ D x) → (parts : PartsState)
    → AreAtStages p (stage_of p D) parts → AreAtStages p (stage_of p D') parts
unfolding stage_of
same_parts p D D' same parts at = record {
  counted = at.counted;
  cells = λ n h. at.cells n h ∙ ap (λ x. Some (cell_at p n x)) (stage n);
  mail = λ l h. at.mail l h ∙ ap (λ x. Some (mail_at p l x)) (stage (mail_part p l));
}
  where
    stage : (part : ℕ) → below (unit_count p) (λ x. moves p part x * D x)
        ≡ below (unit_count p) (λ x. moves p part x * D' x)
    stage part = below_same (λ x. moves p part x * D x) (λ x. moves p part x * D' x) (unit_count p)
        (λ x _. ap (λ d. moves p part x * d) (sym (same x)))

-- a unit of the phase in which n stands, which isn't done
pub record IsNext (p : Plan) (n : ℕ) (D : ℕ → ℕ) (c : ℕ) : Type 0 where
  pub within : phase_start (node_count p) n ≤ unit_count p
  pub once : (x : ℕ) → D x ≤ 1
  pub before : (x : ℕ) → x < phase_start (node_count p) n → 1 ≤ D x
  pub after : (x : ℕ) → phase_end (node_count p) n ≤ x → D x ≡ 0
  pub undone : D c ≡ 0
  pub unit : c < unit_count p
  pub low : phase_start (node_count p) n ≤ c
  pub high : c < phase_end (node_count p) n

module _ (p : Plan) (sound : IsSound p) (n c : ℕ) (D D' : ℕ → ℕ) (next : IsNext p n D c)
    (more : (x : ℕ) → D' x ≡ D x + is_at x c) where
  stage_now : (part : ℕ) → 1 ≤ moves p part c → stage_of p D part ≡ stage_before p c part
  unfolding stage_of stage_before
  stage_now part own =
      let N : ℕ = node_count p in
      let from : phase_start N c ≡ phase_start N n = same_start N n c next.low next.high in
      let to : phase_end N c ≡ phase_end N n = same_stop N n c next.low next.high in
      stage_held (unit_count p) N n D next.within next.once next.before next.after (moves p part) c
      next.undone next.low next.high
      (λ x lo hi other. alone p c x part (omega (arith, lo, from)) (omega (arith, hi, to)) other own)

  stage_next : (part : ℕ) → stage_of p D' part ≡ stage_of p D part + moves p part c
  unfolding stage_of
  stage_next part =
      stage_more (unit_count p) (moves p part) D D' (λ x. is_at x c) more
      ∙ ap (λ m. stage_of p D part + m) (point (moves p part) c (unit_count p) next.unit)

  module _ (parts : PartsState) (at : AreAtStages p (stage_of p D) parts) where
    pub parts_ready : AreReady p c parts
    parts_ready = record {
      counted = at.counted;
      cells = λ k h one. at.cells k h ∙ ap (λ x. Some (cell_at p k x)) (stage_now k one);
      mail = λ l h one. at.mail l h ∙ ap (λ x. Some (mail_at p l x)) (stage_now (mail_part p l) one);
    }

    then_stage : (part : ℕ) → moves p part c ≤ 1 → 1 ≤ moves p part c
        → suc (stage_before p c part) ≡ stage_of p D' part
    then_stage part most one = omega (arith, stage_next part, stage_now part one, most, one)

    no_stage : (part : ℕ) → moves p part c ≡ 0 → stage_of p D part ≡ stage_of p D' part
    no_stage part none = omega (arith, stage_next part, none)

    pub parts_then : (new : PartsState) → AreMoved p c parts new → AreAtStages p (stage_of p D') new
    parts_then new moved = record {
      counted = moved.counted;
      cells = λ k h. dite (dec_le 1 (moves p k c))
          (λ one. moved.cells k h one
          ∙ ap (λ x. Some (cell_at p k x)) (then_stage k (cell_most p sound c k h) one))
          (λ other. let z : moves p k c ≡ 0 = (let l = lt_of_not-le other in omega (arith, l)) in
          moved.other_cells k h z ∙ at.cells k h ∙ ap (λ x. Some (cell_at p k x)) (no_stage k z));
      mail = λ l h. let k : ℕ = mail_part p l in dite (dec_le 1 (moves p k c))
          (λ one. moved.mail l h one
          ∙ ap (λ x. Some (mail_at p l x)) (then_stage k (mail_most p sound c l h) one))
          (λ other. let z : moves p k c ≡ 0 = (let q = lt_of_not-le other in omega (arith, q)) in
          moved.other_mail l h z ∙ at.mail l h ∙ ap (λ x. Some (mail_at p l x)) (no_stage k z));
    }

-- the units are done of which the claims tell, and the first ones of a row
abbrev pub done_upto : Plan → Claims → ℕ → ℕ → ℕ → ℕ
done_upto p s a c x = done_in p s x + among a c x

pub at_first : (p : Plan) (s : Claims) (a : ℕ) (parts : PartsState)
    → AreAtStages p (stage_of p (done_in p s)) parts
    → AreAtStages p (stage_of p (done_upto p s a a)) parts
at_first p s a = same_parts p (done_in p s) (done_upto p s a a) (λ x. omega (arith, among_none a x))

-- the open units of a worker
pub record HasOpen (p : Plan) (s : Claims) (w a m b : ℕ) : Type 0 where
  pub sound : IsSound p
  pub kept : Kept p s
  pub out : slice_get s.stages w ≡ Some (stage.Open a m b)

pub has_open : {p : Plan} {v s : Claims} {w a m b : ℕ} {x : Stage} → IsSound p → AreReached p s
    → v ≡ s → w < length s.stages → x ≡ slice_index_or v.stages w x → x ≡ stage.Open a m b
    → HasOpen p s w a m b
has_open {p} {s = s} sound reached same inside read is = record {
  sound = sound;
  kept = kept_of p s reached;
  out = has same inside read is;
}

module _ {p : Plan} {s : Claims} {w a m b : ℕ} (open_units : HasOpen p s w a m b) where
  abbrev k : Kept p s
  k = open_units.kept

  abbrev out : slice_get s.stages w ≡ Some (stage.Open a m b)
  out = open_units.out

  abbrev then_claims : Claims
  then_claims = with_stage s w (left_of (stage.Open a m b))

  pub in_order : a < m
  in_order = (fits_open p s k w a m b out).0

  pub is_unit : (c : ℕ) → a ≤ c → c < m → c < unit_count p
  is_unit c lo hi = let drawn = (open_held p s k w a m b out c lo hi).1 in omega (arith, drawn)

  next_in : (c : ℕ) → a ≤ c → c < m → IsNext p (finished p s) (done_upto p s a c) c
  next_in c lo hi =
      let N : ℕ = node_count p in
      let n : ℕ = finished p s in
      let g : ℕ = drawn_in p s in
      let f = fits_open p s k w a m b out in
      record {
        within = omega (arith, start_le N n, finished_le N g n (done_in p s) (held_in s) k.claimed);
        once = λ x. omega (
          arith,
          k.claimed.once x,
          once_le x g,
          held_at s.stages w (stage.Open a m b) x out,
          part_of x,
        );
        before = λ x l. omega (arith, k.claimed.before x l);
        after = λ x l. omega (arith, k.claimed.after x l, among_high a c x (omega (arith, l, f.3, hi)));
        undone = omega (
          arith,
          k.claimed.once c,
          once_le c g,
          (open_held p s k w a m b out c lo hi).0,
          among_high a c c (omega arith),
        );
        unit = is_unit c lo hi;
        low = omega (arith, f.2, lo);
        high = omega (arith, f.3, hi);
      }
    where
      part_of : (x : ℕ) → among a c x ≤ among a b x
      part_of x = omega (arith, among_two a c b x lo (omega (arith, hi, (fits_open p s k w a m b out).1)))

  module _ (c : ℕ) (lo : a ≤ c) (hi : c < m) {parts : PartsState}
      (at : AreAtStages p (stage_of p (done_upto p s a c)) parts) where
    one_more : (x : ℕ) → done_upto p s a (c + 1) x ≡ done_upto p s a c x + is_at x c
    one_more x = omega (arith, among_two a c (c + 1) x lo (omega arith), last x)
      where
        last : (x : ℕ) → among c (c + 1) x ≡ is_at x c
        last x = grind (arith, nat_tests)

    pub unit_ready : AreReady p c parts
    unit_ready = parts_ready p open_units.sound (finished p s) c (done_upto p s a c) (done_upto p s a (c + 1))
        (next_in c lo hi) one_more parts at

    pub unit_moved : {new : PartsState} → AreMoved p c parts new
        → AreAtStages p (stage_of p (done_upto p s a (c + 1))) new
    unit_moved {new} = parts_then p open_units.sound (finished p s) c (done_upto p s a c)
        (done_upto p s a (c + 1)) (next_in c lo hi) one_more parts at new

  pub at_last : {new : Claims} → new ≡ then_claims → {parts : PartsState}
      → AreAtStages p (stage_of p (done_upto p s a m)) parts → AreAtStages p (stage_in p new) parts
  at_last {new} is {parts} at =
      same_parts p (done_upto p s a m) (done_in p new)
      (λ x. ap (λ y. done_in p y x) is ∙ done_more p s k w a m b out x) parts at

  pub next_count : {new : Claims} → new ≡ then_claims → finished p new ≡ finished p s + (m - a)
  next_count is = ap (λ x. finished p x) is ∙ more_finished p s k w a m b out

  pub count_fits : finished p s + (m - a) ≤ s.drawn
  count_fits = omega (
    arith,
    more_finished p s k w a m b out,
    finished_le (node_count p) (drawn_in p s) (finished p then_claims)
        (done_in p then_claims) (held_in then_claims) (finished_kept p s k w a m b out).claimed,
  )
