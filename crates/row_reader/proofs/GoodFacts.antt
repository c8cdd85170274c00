-- When a record is text, and good under a header.
use Rattle.std.proofs.Common.{◌≡◌, [], ◌∷◌, length, refl, Bool, true, false, rules}
use Rattle.std.specs.Prelude.{◌==◌, ◌&&◌}
use Rattle.std.specs.Str.{is_utf8}
use Rattle.std.proofs.lemmas.Str.{IsUtf8-from_is_utf8, is_utf8-from_IsUtf8}
use Rattle.csv.specs.Records.{AllText}
use Rattle.row_reader.specs.Records.{Record, is_text, is_good}

pub text-all : (r : Record) → AllText r → is_text r ≡ true
unfolding AllText
text-all [] t = refl
text-all (f ∷ fs) t = let u = is_utf8-from_IsUtf8 f t.0 in rw u (text-all fs t.1)

pub all-text : (r : Record) → is_text r ≡ true → AllText r
unfolding AllText
all-text [] t = tt
all-text (f ∷ fs) t =
    elim (is_utf8 f) as (λ b. is_utf8 f ≡ b → AllText (f ∷ fs)) [
      | true ↦ λ e. (IsUtf8-from_is_utf8 f e, all-text fs (rw e at t))
      | false ↦ λ e. absurd (let k = rw e at t in cc)
    ] refl

not-true : (b : Bool) → ¬ (b ≡ true) → b ≡ false
not-true true n = absurd (n refl)
not-true false n = refl

pub not-text-all : (r : Record) → ¬ AllText r → is_text r ≡ false
not-text-all r n = not-true (is_text r) (λ e. n (all-text r e))

pub good : (h r : Record) → length r ≡ length h → AllText r → is_good h r ≡ true
good h r long text = let t = text-all r text in let n : (length r == length h) ≡ true = search (rules, long) in rw (n, t) refl

pub not-long : (h r : Record) → ¬ (length r ≡ length h) → is_good h r ≡ false
not-long h r n = let e : (length r == length h) ≡ false = not-true _ (λ t. n (search (rules, t))) in rw e refl

both-false : (a b : Bool) → b ≡ false → (a && b) ≡ false
both-false true b e = e
both-false false b e = refl

pub not-text : (h r : Record) → ¬ AllText r → is_good h r ≡ false
not-text h r n = both-false _ _ (not-text-all r n)
