-- Verdicts of lists of checks.
use Rattle.std.proofs.Common.{◌≡◌, inl, inr, ℕ, zero, suc, ◌+◌, ◌<◌, ◌≤◌, List, [], ◌∷◌, ◌++◌, length, refl, ap, sym, ◌∙◌, subst, arith, Some, get_or, drop}
use Rattle.std.specs.Prelude.{All, slice_get}
use Rattle.std.specs.List.{enumerate_from, flat_map}
use Rattle.std.proofs.lemmas.List.{drop_more}
use Rattle.desk_io.specs.declared.desk.Table.{Table}
use Rattle.row_reader.specs.declared.faults.Column.{Column}
use Rattle.audit.specs.Checks.{Check, Holds, IsVerdict}
use Rattle.audit.specs.declared.verdict.Verdict.{Verdict}
use Rattle.audit.specs.declared.verdict.Verdict.TheVariants.{No, Yes}

-- ---- checks one after another
pub yes_then : (xs ys : List Check) (v : Verdict) → IsVerdict xs Yes → IsVerdict ys v → IsVerdict (xs ++ ys) v
yes_then [] ys v e h = h
yes_then (c ∷ xs) ys v (inl (holds, rest)) h = inl (holds, yes_then xs ys v rest h)
yes_then (c ∷ xs) ys v (inr (fails, e)) h = cc

pub no_then : (xs ys : List Check) (t : Table) (line : ℕ) (what : Column) → IsVerdict xs (No t line what) → IsVerdict (xs ++ ys) (No t line what)
no_then [] ys t line what e = cc
no_then (c ∷ xs) ys t line what (inl (holds, rest)) = inl (holds, no_then xs ys t line what rest)
no_then (c ∷ xs) ys t line what (inr both) = inr both

pub yes_first : (xs ys : List Check) → IsVerdict (xs ++ ys) Yes → IsVerdict xs Yes
yes_first [] ys h = refl
yes_first (c ∷ xs) ys (inl (holds, rest)) = inl (holds, yes_first xs ys rest)
yes_first (c ∷ xs) ys (inr (fails, e)) = cc

pub yes_last : (xs ys : List Check) → IsVerdict (xs ++ ys) Yes → IsVerdict ys Yes
yes_last [] ys h = h
yes_last (c ∷ xs) ys (inl (holds, rest)) = yes_last xs ys rest
yes_last (c ∷ xs) ys (inr (fails, e)) = cc

-- checks whose verdict is at hand, and others after them
pub yes_more : (xs ys : List Check) (v w : Verdict) → v ≡ Yes → IsVerdict xs v → IsVerdict ys w → IsVerdict (xs ++ ys) w
yes_more xs ys v w e h k = yes_then xs ys w (subst (λ u. IsVerdict xs u) e h) k

pub no_more : (xs ys : List Check) (v : Verdict) (t : Table) (line : ℕ) (what : Column) → v ≡ No t line what → IsVerdict xs v → IsVerdict (xs ++ ys) v
no_more xs ys v t line what e h =
    subst (λ u. IsVerdict (xs ++ ys) u) (sym e) (no_then xs ys t line what (subst (λ u. IsVerdict xs u) e h))

-- ---- laws
pub determined : (cs : List Check) (v w : Verdict) → IsVerdict cs v → IsVerdict cs w → v ≡ w
determined [] v w a b = a ∙ sym b
determined (c ∷ cs) v w (inl (h, a)) (inl (k, b)) = determined cs v w a b
determined (c ∷ cs) v w (inl (h, a)) (inr (f, b)) = absurd (f h)
determined (c ∷ cs) v w (inr (f, a)) (inl (h, b)) = absurd (f h)
determined (c ∷ cs) v w (inr (f, a)) (inr (g, b)) = a ∙ sym b

pub all_hold : (cs : List Check) → IsVerdict cs Yes → All (λ c. Holds c.statement) cs
all_hold [] e i d h = absurd (omega (arith, h))
all_hold (c ∷ cs) (inl (holds, rest)) zero d h = holds
all_hold (c ∷ cs) (inl (holds, rest)) (suc i) d h = all_hold cs rest i d (omega (arith, h))
all_hold (c ∷ cs) (inr (fails, e)) i d h = cc

-- ---- the checks of numbered rows, one row after another: the verdict of what is left is that of all
abbrev pub IsLeft : {X : Type 0} → (ℕ × X → List Check) → List X → ℕ → Type 0
IsLeft f xs r = (v : Verdict) → IsVerdict (flat_map f (enumerate_from r (drop r xs))) v → IsVerdict (flat_map f (enumerate_from 0 xs)) v

left_is : {X : Type 0} (f : ℕ × X → List Check) (xs : List X) (r : ℕ) (d : X) → r < length xs
    → flat_map f (enumerate_from r (drop r xs)) ≡ f (r, get_or xs r d) ++ flat_map f (enumerate_from (r + 1) (drop (r + 1) xs))
left_is f xs r d h = ap (λ l. flat_map f (enumerate_from r l)) (drop_more xs r d h)

pub row_holds : {X : Type 0} (f : ℕ × X → List Check) (xs : List X) (r : ℕ) (x : X) (v : Verdict) → r < length xs → x ≡ get_or xs r x → v ≡ Yes
    → IsVerdict (f (r, x)) v → IsLeft f xs r → IsLeft f xs (r + 1)
row_holds f xs r x v h is e here left w rest =
    let row : IsVerdict (f (r, get_or xs r x)) Yes = subst (λ y. IsVerdict (f (r, y)) Yes) is (subst (λ u. IsVerdict (f (r, x)) u) e here) in
    left w (subst (λ cs. IsVerdict cs w) (sym (left_is f xs r x h))
    (yes_then (f (r, get_or xs r x)) (flat_map f (enumerate_from (r + 1) (drop (r + 1) xs))) w row rest))

pub row_fails : {X : Type 0} (f : ℕ × X → List Check) (xs : List X) (r : ℕ) (x : X) (v : Verdict) (t : Table) (line : ℕ) (what : Column) → r < length xs → x ≡ get_or xs r x
    → v ≡ No t line what → IsVerdict (f (r, x)) v → IsLeft f xs r → IsVerdict (flat_map f (enumerate_from 0 xs)) v
row_fails f xs r x v t line what h is e here left =
    let row : IsVerdict (f (r, get_or xs r x)) (No t line what) = subst (λ y. IsVerdict (f (r, y)) (No t line what)) is (subst (λ u. IsVerdict (f (r, x)) u) e here) in
    subst (λ u. IsVerdict (flat_map f (enumerate_from 0 xs)) u) (sym e)
    (left (No t line what) (subst (λ cs. IsVerdict cs (No t line what)) (sym (left_is f xs r x h))
    (no_then (f (r, get_or xs r x)) (flat_map f (enumerate_from (r + 1) (drop (r + 1) xs))) t line what row)))

drop_all : {X : Type 0} (r : ℕ) (xs : List X) → length xs ≤ r → drop r xs ≡ []
drop_all zero [] h = refl
drop_all (suc r) [] h = refl
drop_all zero (x ∷ xs) h = absurd (omega (arith, h))
drop_all (suc r) (x ∷ xs) h = drop_all r xs (omega (arith, h))

pub none_left : {X : Type 0} (f : ℕ × X → List Check) (xs : List X) (r : ℕ) → length xs ≤ r → IsLeft f xs r → IsVerdict (flat_map f (enumerate_from 0 xs)) Yes
none_left f xs r h left =
    left Yes (subst (λ l. IsVerdict (flat_map f (enumerate_from r l)) Yes) (sym (drop_all r xs h)) refl)

-- where all rows hold, so does each one
pub holds_at : {X : Type 0} (f : ℕ × X → List Check) (xs : List X) (k i : ℕ) (x : X) → slice_get xs i ≡ Some x → IsVerdict (flat_map f (enumerate_from k xs)) Yes → IsVerdict (f (k + i, x)) Yes
holds_at f [] k i x e h = cc
holds_at f (y ∷ xs) k zero x e h =
    let same : y ≡ x = cc in
    let place : k ≡ k + 0 = omega arith in
    subst (λ n. IsVerdict (f (n, x)) Yes) place
    (subst (λ z. IsVerdict (f (k, z)) Yes) same (yes_first (f (k, y)) (flat_map f (enumerate_from (k + 1) xs)) h))
holds_at f (y ∷ xs) k (suc i) x e h =
    let place : k + 1 + i ≡ k + suc i = omega arith in
    subst (λ n. IsVerdict (f (n, x)) Yes) place
    (holds_at f xs (k + 1) i x e (yes_last (f (k, y)) (flat_map f (enumerate_from (k + 1) xs)) h))
