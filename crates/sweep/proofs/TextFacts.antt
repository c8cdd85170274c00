-- Texts that are put one after another to an output.
use Rattle.std.proofs.Common.{◌≡◌, ℕ, ◌+◌, ◌<◌, ◌≤◌, List, [], ◌++◌, length, take, drop, get_or, sym, ap, subst, arith, refl, ◌∙◌, append_assoc}
use Rattle.std.specs.Prelude.{Result, Ok, Err}
use Rattle.std.specs.List.{enumerate_from, flat_map}
use Rattle.std.proofs.lemmas.List.{take_all}
use Rattle.std.proofs.lemmas.List.FromFn.{get_or-enumerate_from, length-enumerate_from}
use Rattle.desk_io.specs.declared.desk.Output.{Output}
use Rattle.desk_io.specs.declared.desk.Output.TheVariants as output
use Rattle.desk_io.specs.declared.desk.Failed.{Failed}
use Rattle.desk_io.specs.Desk.{grown}
use Rattle.desk_io.specs.State.{DeskState}
use Rattle.desk_io.specs.Transfers.{Puts}
use Rattle.desk_io.proofs.DeskFacts.{grown-empty, grown-grown}
use Rattle.pending_text.proofs.LineFacts.{lines-more, lines-split}
use Rattle.pending_text.proofs.SendingFacts.{part-later, part-longer}
use Rattle.sweep.specs.Texts.{numbered_text, scenario_text, sweep_text, tables_of}
use Rattle.sweep.specs.declared.scenario.Scenario.{Scenario}

-- a text was put, and then another
pub put-then : {T U E : Type 0} (o : Output) (a b : List ℕ) (s0 s1 s2 : DeskState) (x : T) (r : Result U E)
    → Puts {E = E} o a s0 s1 (Ok x) → Puts o b s1 s2 r → Puts o (a ++ b) s0 s2 r
put-then {T} {U} {E} o a b s0 s1 s2 x (Ok y) p q = record {
  whole = q.whole ∙ ap (grown o b) p.whole ∙ grown-grown o a b s0.taken;
  refused = tt;
  cause = record { later = (let h = p.cause.later in let k = q.cause.later in omega (arith, h, k)); failed = tt };
  left = q.left ∙ p.left;
  reads = q.reads ∙ p.reads;
}
put-then {T} {U} {E} o a b s0 s1 s2 x (Err e) p q = record {
  whole = tt;
  refused = part-later o a b s0.taken s1.taken s2.taken p.whole q.refused;
  cause = record {
    later = (let h = p.cause.later in let k = q.cause.later in omega (arith, h, k));
    failed = (let h = p.cause.later in let k = q.cause.failed in omega (arith, h, k));
  };
  left = q.left ∙ p.left;
  reads = q.reads ∙ p.reads;
}

-- the first of two was cut off
pub put-cut : {T U E : Type 0} (o : Output) (a b : List ℕ) (s0 s1 : DeskState) (e f : E)
    → Puts {T = T} o a s0 s1 (Err e) → Puts {T = U} o (a ++ b) s0 s1 (Err f)
put-cut o a b s0 s1 e f p = record {
  whole = tt;
  refused = part-longer o a b s0.taken s1.taken p.refused;
  cause = record { later = p.cause.later; failed = p.cause.failed };
  left = p.left;
  reads = p.reads;
}

-- a text was put to an output
abbrev pub HasPut : Output → List ℕ → DeskState → DeskState → Type 0
HasPut o text before after = Puts {T = Unit {0}} {E = Failed} o text before after (Ok tt)

-- the texts of a scenario: two at once, one, and two at once
tables-are : (it : Scenario) (a l w g r : List ℕ) → a ≡ it.agent → l ≡ it.link_time → w ≡ it.origin_wait → g ≡ it.gap → r ≡ it.report
    → (a ++ l) ++ (w ++ (g ++ r)) ≡ tables_of it
unfolding tables_of
tables-are it a l w g r e f h k m =
    let times = it.agent ++ it.link_time in
    rw (e, f, h, k, m) (sym (append_assoc times it.origin_wait (it.gap ++ it.report)) ∙ sym (append_assoc (times ++ it.origin_wait) it.gap it.report))

-- the first two were put, and the third was cut off
pub cut-at-waits : {T U V E : Type 0} (it : Scenario) (a l w : List ℕ) (s0 s1 s2 : DeskState) (x : T) (e f : E) → a ≡ it.agent → l ≡ it.link_time → w ≡ it.origin_wait
    → Puts {E = E} output.Sweep (a ++ l) s0 s1 (Ok x) → Puts {T = U} output.Sweep w s1 s2 (Err e)
    → Puts {T = V} output.Sweep (tables_of it) s0 s2 (Err f)
cut-at-waits {T} {U} {V} it a l w s0 s1 s2 x e f agent link_time origin_wait p q =
    let rest = it.gap ++ it.report in
    subst (λ (text : List ℕ). Puts {T = V} output.Sweep text s0 s2 (Err f)) (tables-are it a l w it.gap it.report agent link_time origin_wait refl refl)
    (put-then output.Sweep (a ++ l) (w ++ rest) s0 s1 s2 x (Err f) p (put-cut output.Sweep w rest s1 s2 e f q))

-- the first three were put, and then the last two
pub tables-put : {T U V E : Type 0} (it : Scenario) (a l w g r : List ℕ) (s0 s1 s2 s3 : DeskState) (x : T) (y : U) (z : Result V E)
    → a ≡ it.agent → l ≡ it.link_time → w ≡ it.origin_wait → g ≡ it.gap → r ≡ it.report
    → Puts {E = E} output.Sweep (a ++ l) s0 s1 (Ok x) → Puts {E = E} output.Sweep w s1 s2 (Ok y) → Puts output.Sweep (g ++ r) s2 s3 z
    → Puts output.Sweep (tables_of it) s0 s3 z
tables-put it a l w g r s0 s1 s2 s3 x y z e f h k m p q last =
    subst (λ (text : List ℕ). Puts output.Sweep text s0 s3 z) (tables-are it a l w g r e f h k m)
    (put-then output.Sweep (a ++ l) (w ++ (g ++ r)) s0 s1 s3 x z p (put-then output.Sweep w (g ++ r) s1 s2 s3 y z q last))

-- nothing was put
pub put-none : (o : Output) (s : DeskState) → HasPut o [] s s
put-none o s = record {
  whole = sym (grown-empty o s.taken);
  refused = tt;
  cause = record { later = omega arith; failed = tt };
  left = refl;
  reads = refl;
}

-- ---- the scenarios one after another

-- the text of the first scenarios
abbrev pub first_texts : ℕ → List Scenario → List ℕ
first_texts n xs = flat_map numbered_text (take n (enumerate_from 0 xs))

module _ (xs : List Scenario) (i : ℕ) where
  -- one more
  pub texts-more : (d : Scenario) → i < length xs → first_texts (i + 1) xs ≡ first_texts i xs ++ scenario_text i (get_or xs i d)
  texts-more d h =
      let k : i < length (enumerate_from 0 xs) = rw (length-enumerate_from 0 xs) h in
      let same : 0 + i ≡ i = omega arith in
      lines-more numbered_text [] (enumerate_from 0 xs) i (0, d) k
      ∙ ap (λ (x : List ℕ). first_texts i xs ++ x)
      (ap numbered_text (get_or-enumerate_from 0 xs i (0, d) h)
      ∙ ap (λ n. scenario_text n (get_or xs i d)) same)

  -- and the others
  pub texts-split : sweep_text xs ≡ first_texts i xs ++ flat_map numbered_text (drop i (enumerate_from 0 xs))
  unfolding sweep_text
  texts-split = lines-split numbered_text [] (enumerate_from 0 xs) i

  -- all of them
  pub texts-all : length xs ≤ i → first_texts i xs ≡ sweep_text xs
  unfolding sweep_text
  texts-all h = ap (flat_map numbered_text) (take_all i (enumerate_from 0 xs) (rw (length-enumerate_from 0 xs) h))

-- the same of the scenario that stands there
text-more : (xs : List Scenario) (i : ℕ) (it : Scenario) → i < length xs → it ≡ get_or xs i it
    → first_texts (i + 1) xs ≡ first_texts i xs ++ scenario_text i it
text-more xs i it h e =
    texts-more xs i it h ∙ ap (λ (y : Scenario). first_texts i xs ++ scenario_text i y) (sym e)

-- one more scenario was put
pub put-more : (xs : List Scenario) (i : ℕ) (it : Scenario) (s0 s1 s2 : DeskState) → i < length xs → it ≡ get_or xs i it
    → HasPut output.Sweep (first_texts i xs) s0 s1 → HasPut output.Sweep (scenario_text i it) s1 s2
    → HasPut output.Sweep (first_texts (i + 1) xs) s0 s2
put-more xs i it s0 s1 s2 h e p q =
    subst (λ (text : List ℕ). HasPut output.Sweep text s0 s2) (sym (text-more xs i it h e))
    (put-then output.Sweep (first_texts i xs) (scenario_text i it) s0 s1 s2 tt (Ok tt) p q)

-- all were
pub put-sweep : (xs : List Scenario) (i : ℕ) (s0 s1 : DeskState) → length xs ≤ i
    → HasPut output.Sweep (first_texts i xs) s0 s1 → HasPut output.Sweep (sweep_text xs) s0 s1
put-sweep xs i s0 s1 h = subst (λ (text : List ℕ). HasPut output.Sweep text s0 s1) (texts-all xs i h)

-- a scenario was cut off
pub sweep-cut : {T U E : Type 0} (xs : List Scenario) (i : ℕ) (it : Scenario) (s0 s1 s2 : DeskState) (x : T) (e f : E) → i < length xs → it ≡ get_or xs i it
    → Puts {E = E} output.Sweep (first_texts i xs) s0 s1 (Ok x)
    → Puts {T = U} output.Sweep (scenario_text i it) s1 s2 (Err e)
    → Puts {T = U} output.Sweep (sweep_text xs) s0 s2 (Err f)
sweep-cut {T} {U} xs i it s0 s1 s2 x e f h same p q =
    subst (λ (text : List ℕ). Puts {T = U} output.Sweep text s0 s2 (Err f)) (sym (texts-split xs (i + 1)))
    (put-cut output.Sweep (first_texts (i + 1) xs) (flat_map numbered_text (drop (i + 1) (enumerate_from 0 xs))) s0 s2 e f
    (subst (λ (text : List ℕ). Puts {T = U} output.Sweep text s0 s2 (Err e)) (sym (text-more xs i it h same))
    (put-then output.Sweep (first_texts i xs) (scenario_text i it) s0 s1 s2 x (Err e) p q)))
