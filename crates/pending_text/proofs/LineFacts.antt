-- Texts of a head and then a line for each element of a list, one after another.
use Rattle.std.proofs.Common.{◌≡◌, ℕ, ◌+◌, ◌<◌, ◌≤◌, List, [], ◌∷◌, ◌++◌, length, take, drop, get_or, sym, ap, ◌∙◌, append_assoc, Ok, Err, Result}
use Rattle.std.specs.List.{flat_map}
use Rattle.std.proofs.lemmas.List.{take_more, append-nil, take-append-drop, take_all}
use Rattle.std.proofs.lemmas.Grind.{flat_map-append}
use Rattle.desk_io.specs.declared.desk.Output.{Output}
use Rattle.desk_io.specs.Desk.{Taken}
use Rattle.desk_io.specs.State.{DeskState}
use Rattle.desk_io.specs.Transfers.{IsPartOut, OnlyPuts, Puts}
use Rattle.pending_text.specs.Sending.{Adds}
use Rattle.pending_text.proofs.SendingFacts.{HasAdded, has-adds, has-put, has-refused, has-then}

-- one more line
pub lines-more : {X : Type 0} (f : X → List ℕ) (h : List ℕ) (xs : List X) (i : ℕ) (d : X) → i < length xs
    → h ++ flat_map f (take (i + 1) xs) ≡ (h ++ flat_map f (take i xs)) ++ f (get_or xs i d)
lines-more f h xs i d k =
    rw (take_more xs i d k, flat_map-append f (take i xs) (get_or xs i d ∷ []), append-nil (f (get_or xs i d)))
    (sym (append_assoc h (flat_map f (take i xs)) (f (get_or xs i d))))

-- the first lines and the others
pub lines-split : {X : Type 0} (f : X → List ℕ) (h : List ℕ) (xs : List X) (i : ℕ)
    → h ++ flat_map f xs ≡ (h ++ flat_map f (take i xs)) ++ flat_map f (drop i xs)
lines-split {X} f h xs i =
    ap (λ (l : List X). h ++ flat_map f l) (sym (take-append-drop i xs))
    ∙ ap (λ (x : List ℕ). h ++ x) (flat_map-append f (take i xs) (drop i xs))
    ∙ sym (append_assoc h (flat_map f (take i xs)) (flat_map f (drop i xs)))

-- ---- a loop that adds a line for each element
-- the head and the lines of the first elements were added, and nothing else was done to the desk
abbrev pub AreAdded : {X : Type 0} → Output → (X → List ℕ) → List ℕ → List X → ℕ → List ℕ → List ℕ → DeskState → DeskState → Type 0
AreAdded o f h xs i p0 p before after = HasAdded o (h ++ flat_map f (take i xs)) p0 p before after

-- the line of the next one was added too
pub line-added : {X T E : Type 0} (o : Output) (f : X → List ℕ) (h : List ℕ) (xs : List X) (i : ℕ) (d : X) (line p0 p q : List ℕ) (s0 s1 s2 : DeskState) (t : T)
    → i < length xs → line ≡ f (get_or xs i d) → AreAdded o f h xs i p0 p s0 s1 → Adds {T = T} {E = E} o line p q s1 s2 (Ok t) → AreAdded o f h xs (i + 1) p0 q s0 s2
line-added o f h xs i d line p0 p q s0 s1 s2 t k e a b =
    rw (lines-more f h xs i d k, ← e) (has-then o (h ++ flat_map f (take i xs)) line p0 p q s0 s1 s2 t a b)

-- or it was refused, and with it the whole text
pub line-refused : {X T S E : Type 0} (Done : Taken → Taken → Type 0) (o : Output) (f : X → List ℕ) (h : List ℕ) (xs : List X) (i : ℕ) (d : X) (line p0 p q : List ℕ) (s0 s1 s2 : DeskState) (e e2 : E)
    → i < length xs → line ≡ f (get_or xs i d) → AreAdded o f h xs i p0 p s0 s1 → Adds {T = T} o line p q s1 s2 (Err e)
    → OnlyPuts {T = S} Done (IsPartOut o (p0 ++ (h ++ flat_map f xs))) s0 s2 (Err e2)
line-refused Done o f h xs i d line p0 p q s0 s1 s2 e e2 k is a b =
    rw (lines-split f h xs (i + 1), lines-more f h xs i d k, ← is)
    (has-refused Done o (h ++ flat_map f (take i xs)) line (flat_map f (drop (i + 1) xs)) p0 p q s0 s1 s2 e e2 a b)

-- the lines of all elements were added
pub lines-added : {X T E : Type 0} (o : Output) (f : X → List ℕ) (h : List ℕ) (xs : List X) (i : ℕ) (p0 p : List ℕ) (s0 s1 : DeskState) (t : T)
    → length xs ≤ i → AreAdded o f h xs i p0 p s0 s1 → Adds {T = T} {E = E} o (h ++ flat_map f xs) p0 p s0 s1 (Ok t)
lines-added o f h xs i p0 p s0 s1 t k a = has-adds o (h ++ flat_map f xs) p0 p s0 s1 t (rw (take_all i xs k) at a)

-- and what was pending was put
pub lines-put : {X T E : Type 0} (o : Output) (f : X → List ℕ) (h : List ℕ) (xs : List X) (i : ℕ) (p : List ℕ) (s0 s1 s2 : DeskState) (r : Result T E)
    → length xs ≤ i → AreAdded o f h xs i [] p s0 s1 → Puts o p s1 s2 r → Puts o (h ++ flat_map f xs) s0 s2 r
lines-put o f h xs i p s0 s1 s2 r k a b = has-put o (h ++ flat_map f xs) p s0 s1 s2 r (rw (take_all i xs k) at a) b
