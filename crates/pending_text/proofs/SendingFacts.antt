-- Texts that go out by way of a buffer, one piece after another.
use Rattle.std.proofs.Common.{◌≡◌, ℕ, ◌+◌, ◌≤◌, List, [], ◌++◌, length, take, refl, sym, ap, ◌∙◌, arith, append_assoc, length-append, Ok, Err, Result}
use Rattle.std.proofs.lemmas.List.{take-append-le, append-nil}
use Rattle.std.proofs.Math.Seq.{take-append-add}
use Rattle.desk_io.specs.declared.desk.Output.{Output}
use Rattle.desk_io.specs.Desk.{Taken, grown}
use Rattle.desk_io.specs.State.{DeskState}
use Rattle.desk_io.specs.Transfers.{IsPartOut, OnlyPuts, Puts}
use Rattle.desk_io.proofs.DeskFacts.{grown-grown, grown-empty}
use Rattle.pending_text.specs.Sending.{Adds, IsAdded}

-- nothing was added, and nothing went out
pub added-none : (o : Output) (p : List ℕ) (t : Taken) → IsAdded o [] p p t t
added-none o p t = record { sent = []; out = sym (grown-empty o t); rest = append-nil p }

-- all that was pending went out
pub added-all : (o : Output) (p : List ℕ) (t0 t1 : Taken) → t1 ≡ grown o p t0 → IsAdded o [] p [] t0 t1
added-all o p t0 t1 e = record { sent = p; out = e; rest = refl }

-- what is pending is the text itself
pub added-text : (o : Output) (text : List ℕ) (t : Taken) → IsAdded o text [] text t t
added-text o text t = record { sent = []; out = sym (grown-empty o t); rest = refl }

-- what is pending is a header, before the first line
pub added-header : (o : Output) (header p : List ℕ) (t : Taken) → p ≡ header → IsAdded o (header ++ []) [] p t t
added-header o header p t e = record { sent = []; out = sym (grown-empty o t); rest = append-nil header ∙ sym e }

-- a text was pushed after room was made
pub added-pushed : (o : Output) (text p q r : List ℕ) (t0 t1 : Taken) → IsAdded o [] p q t0 t1 → r ≡ q ++ text → IsAdded o text p r t0 t1
added-pushed o text p q r t0 t1 a e = record {
  sent = a.sent;
  out = a.out;
  rest = ap (λ (x : List ℕ). x ++ text) (sym (append-nil p) ∙ a.rest) ∙ append_assoc a.sent q text ∙ ap (λ (x : List ℕ). a.sent ++ x) (sym e);
}

-- one text was added, and then another
pub added-then : (o : Output) (a b p q r : List ℕ) (t0 t1 t2 : Taken) → IsAdded o a p q t0 t1 → IsAdded o b q r t1 t2 → IsAdded o (a ++ b) p r t0 t2
added-then o a b p q r t0 t1 t2 x y = record {
  sent = x.sent ++ y.sent;
  out = y.out ∙ ap (grown o y.sent) x.out ∙ grown-grown o x.sent y.sent t0;
  rest = sym (append_assoc p a b) ∙ ap (λ (l : List ℕ). l ++ b) x.rest ∙ append_assoc x.sent q b
      ∙ ap (λ (l : List ℕ). x.sent ++ l) y.rest ∙ sym (append_assoc x.sent y.sent r);
}

-- what is pending went out, and so the whole text did
pub added-done : (o : Output) (text p : List ℕ) (t0 t1 t2 : Taken) → IsAdded o text [] p t0 t1 → t2 ≡ grown o p t1 → t2 ≡ grown o text t0
added-done o text p t0 t1 t2 a e =
    e ∙ ap (grown o p) a.out ∙ grown-grown o a.sent p t0 ∙ ap (λ (x : List ℕ). grown o x t0) (sym a.rest)

-- a first part of a text is one of a longer text
pub part-longer : (o : Output) (text more : List ℕ) (t0 t1 : Taken) → IsPartOut o text t0 t1 → IsPartOut o (text ++ more) t0 t1
part-longer o text more t0 t1 b = record {
  count = b.count;
  within = (let w = b.within in rw (length-append text more) (omega arith));
  out = b.out ∙ ap (λ (x : List ℕ). grown o x t0) (sym (take-append-le b.count text more b.within));
}

-- some of a text went out, and then a first part of the rest
pub part-later : (o : Output) (sent rest : List ℕ) (t0 t1 t2 : Taken) → t1 ≡ grown o sent t0 → IsPartOut o rest t1 t2 → IsPartOut o (sent ++ rest) t0 t2
part-later o sent rest t0 t1 t2 e b = record {
  count = length sent + b.count;
  within = (let w = b.within in rw (length-append sent rest) (omega arith));
  out = b.out ∙ ap (grown o (take b.count rest)) e ∙ grown-grown o sent (take b.count rest) t0
      ∙ ap (λ (x : List ℕ). grown o x t0) (sym (take-append-add sent rest b.count));
}

-- a first part of what is pending and of the first of two texts went out
pub part-first : (o : Output) (a b p : List ℕ) (t0 t1 : Taken) → IsPartOut o (p ++ a) t0 t1 → IsPartOut o (p ++ (a ++ b)) t0 t1
part-first o a b p t0 t1 x = rw (← append_assoc p a b) (part-longer o (p ++ a) b t0 t1 x)

-- one text was added, and a first part of what is pending and of the next text went out
pub part-then : (o : Output) (a b p q : List ℕ) (t0 t1 t2 : Taken) → IsAdded o a p q t0 t1 → IsPartOut o (q ++ b) t1 t2 → IsPartOut o (p ++ (a ++ b)) t0 t2
part-then o a b p q t0 t1 t2 x y =
    rw (← append_assoc p a b, x.rest, append_assoc x.sent q b) (part-later o x.sent (q ++ b) t0 t1 t2 x.out y)

-- a text was added to nothing, and a first part of what is pending went out
pub part-done : (o : Output) (text p : List ℕ) (t0 t1 t2 : Taken) → IsAdded o text [] p t0 t1 → IsPartOut o p t1 t2 → IsPartOut o text t0 t2
part-done o text p t0 t1 t2 a b = rw a.rest (part-later o a.sent p t0 t1 t2 a.out b)

-- a first part of what is pending went out where room was made, and so a first part of it with a
-- text
pub part-of-room : (o : Output) (text p : List ℕ) (t0 t1 : Taken) → IsPartOut o (p ++ []) t0 t1 → IsPartOut o (p ++ text) t0 t1
part-of-room o text p t0 t1 b = part-longer o p text t0 t1 (rw (← append-nil p) b)

-- ---- whole calls
-- a text was added, and nothing else was done to the desk
pub record HasAdded (o : Output) (text p q : List ℕ) (before after : DeskState) : Type 0 where
  pub added : IsAdded o text p q before.taken after.taken
  pub left : after.left ≡ before.left
  pub later : before.put_faults ≤ after.put_faults
  pub reads : after.read_faults ≡ before.read_faults

-- it is what a call does that adds the text
pub has-adds : {T E : Type 0} (o : Output) (text p q : List ℕ) (s0 s1 : DeskState) (t : T) → HasAdded o text p q s0 s1 → Adds {T = T} {E = E} o text p q s0 s1 (Ok t)
has-adds o text p q s0 s1 t a = record { whole = a.added; refused = tt; cause = record { later = a.later; failed = tt }; left = a.left; reads = a.reads }

pub adds-has : {T E : Type 0} (o : Output) (text p q : List ℕ) (s0 s1 : DeskState) (t : T) → Adds {T = T} {E = E} o text p q s0 s1 (Ok t) → HasAdded o text p q s0 s1
adds-has o text p q s0 s1 t a = record { added = a.whole; left = a.left; later = a.cause.later; reads = a.reads }

-- and then another text
pub has-then : {T E : Type 0} (o : Output) (a b p q r : List ℕ) (s0 s1 s2 : DeskState) (t : T) → HasAdded o a p q s0 s1 → Adds {T = T} {E = E} o b q r s1 s2 (Ok t) → HasAdded o (a ++ b) p r s0 s2
has-then o a b p q r s0 s1 s2 t x y = record {
  added = added-then o a b p q r s0.taken s1.taken s2.taken x.added y.whole;
  left = y.left ∙ x.left;
  later = (let k = x.later in let n = y.cause.later in omega (arith, k, n));
  reads = y.reads ∙ x.reads;
}

-- or that was refused, and with it both
pub has-failed : {T S E F : Type 0} (Done : Taken → Taken → Type 0) (o : Output) (a b p q r : List ℕ) (s0 s1 s2 : DeskState) (e : E) (e2 : F) → HasAdded o a p q s0 s1 → Adds {T = T} o b q r s1 s2 (Err e)
    → OnlyPuts {T = S} Done (IsPartOut o (p ++ (a ++ b))) s0 s2 (Err e2)
has-failed Done o a b p q r s0 s1 s2 e e2 x y = record {
  whole = tt;
  refused = part-then o a b p q s0.taken s1.taken s2.taken x.added y.refused;
  cause = record {
    later = (let k = x.later in let n = y.cause.later in omega (arith, k, n));
    failed = (let k = x.later in let n = y.cause.failed in omega (arith, k, n));
  };
  left = y.left ∙ x.left;
  reads = y.reads ∙ x.reads;
}

-- and with them any text that begins with both
pub has-refused : {T S E F : Type 0} (Done : Taken → Taken → Type 0) (o : Output) (a b more p q r : List ℕ) (s0 s1 s2 : DeskState) (e : E) (e2 : F) → HasAdded o a p q s0 s1 → Adds {T = T} o b q r s1 s2 (Err e)
    → OnlyPuts {T = S} Done (IsPartOut o (p ++ ((a ++ b) ++ more))) s0 s2 (Err e2)
has-refused {T} {S} {E} {F} Done o a b more p q r s0 s1 s2 e e2 x y =
    let f : OnlyPuts {T = S} Done (IsPartOut o (p ++ (a ++ b))) s0 s2 (Err e2) = has-failed {T = T} Done o a b p q r s0 s1 s2 e e2 x y in
    record { whole = tt; refused = part-first o (a ++ b) more p s0.taken s2.taken f.refused; cause = f.cause; left = f.left; reads = f.reads }

-- one text was added, and then a call added another or was refused
pub adds-then : {T S E F : Type 0} (o : Output) (a b p q r : List ℕ) (s0 s1 s2 : DeskState) (t : T) (result : Result S F) → Adds {T = T} {E = E} o a p q s0 s1 (Ok t) → Adds o b q r s1 s2 result → Adds o (a ++ b) p r s0 s2 result
adds-then o a b p q r s0 s1 s2 t (Ok s) x y = has-adds o (a ++ b) p r s0 s2 s (has-then o a b p q r s0 s1 s2 s (adds-has o a p q s0 s1 t x) y)
adds-then {T} {S} {E} {F} o a b p q r s0 s1 s2 t (Err e) x y = has-failed {T = S} _ o a b p q r s0 s1 s2 e e (adds-has o a p q s0 s1 t x) y

-- the text was added to nothing, and what was pending was put
pub has-put : {T E : Type 0} (o : Output) (text p : List ℕ) (s0 s1 s2 : DeskState) (result : Result T E) → HasAdded o text [] p s0 s1 → Puts o p s1 s2 result → Puts o text s0 s2 result
has-put o text p s0 s1 s2 (Ok t) a b = record {
  whole = added-done o text p s0.taken s1.taken s2.taken a.added b.whole;
  refused = tt;
  cause = record { later = (let x = a.later in let y = b.cause.later in omega (arith, x, y)); failed = tt };
  left = b.left ∙ a.left;
  reads = b.reads ∙ a.reads;
}
has-put o text p s0 s1 s2 (Err e) a b = record {
  whole = tt;
  refused = part-done o text p s0.taken s1.taken s2.taken a.added b.refused;
  cause = record {
    later = (let x = a.later in let y = b.cause.later in omega (arith, x, y));
    failed = (let x = a.later in let y = b.cause.failed in omega (arith, x, y));
  };
  left = b.left ∙ a.left;
  reads = b.reads ∙ a.reads;
}

-- what is pending is the text itself, before anything else is done
pub has-text : (o : Output) (text : List ℕ) (s : DeskState) → HasAdded o text [] text s s
has-text o text s = record { added = added-text o text s.taken; left = refl; later = omega arith; reads = refl }

-- making room
pub ruleset rooms = (added-none, added-all, part-longer)

-- before the first of many lines
pub ruleset starts = (added-none, added-header)

-- making room, and pushing a text after it
pub ruleset pieces = (added-pushed, part-of-room)
