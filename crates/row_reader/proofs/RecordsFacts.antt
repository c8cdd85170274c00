-- How many records a text has, and what is left after one.
use Rattle.std.proofs.Common.{◌≡◌, ℕ, zero, suc, ◌+◌, ◌<◌, ◌≤◌, ◌⊎◌, inl, inr, List, [], ◌∷◌, length, refl, ap, add-one, sym, ◌∙◌, Bool, true, false, arith}
use Rattle.std.specs.Prelude.{Option, None, Some, if◌then◌else◌}
use Rattle.std.proofs.lemmas.Grind.{common_steps}
use Rattle.csv.specs.Machine.{Read, next_record, step, is_end, fields_after, field_after}
use Rattle.csv.specs.Reading.{records_from, records_next}
use Rattle.csv.specs.declared.parser.Config.{Config}
use Rattle.csv.specs.declared.parser.State.{State}
use Rattle.csv.specs.declared.parser.State.TheVariants as st

-- a read leaves fewer than n bytes, or the end of the text
abbrev pub LeavesBelow : ℕ → Read → Type 0
LeavesBelow n r = (length r.2 < n) ⊎ ((r.1 ≡ st.StartRecord) × (r.2 ≡ []))

weaken : (n : ℕ) (r : Read) → LeavesBelow n r → LeavesBelow (suc n) r
weaken n r (inl h) = inl (omega arith)
weaken n r (inr h) = inr h

after-byte : (b : Bool) (one : Read) (more : Option Read) (r : Read) (n : ℕ) → length one.2 ≤ n → (more ≡ Some r → LeavesBelow n r)
    → (if b then Some one else more) ≡ Some r → LeavesBelow (suc n) r
after-byte true one more r n h k e = inl (let same : one ≡ r = cc in let len : length one.2 ≡ length r.2 = ap (λ (q : Read). length q.2) same in omega arith)
after-byte false one more r n h k e = weaken n r (k e)

-- a record takes a byte, or ends the text
pub next-rest : (cfg : Config) (s : State) (f : List (List ℕ)) (p : List ℕ) (xs : List ℕ) (r : Read)
    → next_record cfg s f p xs ≡ Some r → LeavesBelow (length xs) r
unfolding next_record
next-rest cfg s f p [] r e = grind (arith, common_steps)
next-rest cfg s f p (c ∷ rest) r e =
    after-byte (is_end (step cfg s c).1) _ _ r (length rest) (omega arith)
    (next-rest cfg (step cfg s c).0 (fields_after (step cfg s c).1 f p) (field_after (step cfg s c).1 c p) rest r) e

-- at the end of a text there is no record
pub none-at-end : (cfg : Config) (n : ℕ) → records_from cfg n st.StartRecord [] ≡ []
unfolding records_from next_record
none-at-end cfg zero = refl
none-at-end cfg (suc n) = refl

at-end-same : (cfg : Config) (n m : ℕ) (s : State) (xs : List ℕ) → s ≡ st.StartRecord → xs ≡ [] → records_from cfg n s xs ≡ records_from cfg m s xs
at-end-same cfg n m s xs a b = rw (a, b) (none-at-end cfg n ∙ sym (none-at-end cfg m))

step-same : (cfg : Config) (n m : ℕ) (o : Option Read) → ((r : Read) → o ≡ Some r → records_from cfg n r.1 r.2 ≡ records_from cfg m r.1 r.2)
    → records_next (records_from cfg n) o ≡ records_next (records_from cfg m) o
step-same cfg n m None k = refl
step-same cfg n m (Some r) k = ap (λ (t : List (List (List ℕ))). r.0 ∷ t) (k r refl)

-- more turns than bytes give the same records
pub records-stable : (cfg : Config) (n m : ℕ) (s : State) (xs : List ℕ) → length xs < n → length xs < m → records_from cfg n s xs ≡ records_from cfg m s xs
unfolding records_from
records-stable cfg zero m s xs h k = absurd (omega arith)
records-stable cfg (suc n) zero s xs h k = absurd (omega arith)
records-stable cfg (suc n) (suc m) s xs h k =
    step-same cfg n m (next_record cfg s [] [] xs) (λ (r : Read) (e : next_record cfg s [] [] xs ≡ Some r).
    elim (next-rest cfg s [] [] xs r e) as (λ _. records_from cfg n r.1 r.2 ≡ records_from cfg m r.1 r.2) [
      | inl less ↦ records-stable cfg n m r.1 r.2 (omega arith) (omega arith)
      | inr ended ↦ at-end-same cfg n m r.1 r.2 ended.0 ended.1
    ])

length-next : (n : ℕ) (more : State → List ℕ → List (List (List ℕ))) (o : Option Read) → ((r : Read) → length (more r.1 r.2) ≤ n)
    → length (records_next more o) ≤ suc n
length-next n more None k = omega arith
length-next n more (Some r) k = let below : length (more r.1 r.2) ≤ n = k r in omega arith

-- a text has at most so many records
pub length-records_from : (cfg : Config) (n : ℕ) (s : State) (xs : List ℕ) → length (records_from cfg n s xs) ≤ n
unfolding records_from
length-records_from cfg zero s xs = omega arith
length-records_from cfg (suc n) s xs =
    length-next n (records_from cfg n) (next_record cfg s [] [] xs) (λ (r : Read). length-records_from cfg n r.1 r.2)

-- the records that are left, from the read of the next one
pub records-none : (cfg : Config) (s : State) (xs : List ℕ) → next_record cfg s [] [] xs ≡ None → records_from cfg (length xs + 1) s xs ≡ []
unfolding records_from
records-none cfg s xs e = rw (add-one, e) refl

pub records-some : (cfg : Config) (s : State) (xs : List ℕ) (r : Read) → next_record cfg s [] [] xs ≡ Some r
    → records_from cfg (length xs + 1) s xs ≡ r.0 ∷ records_from cfg (length r.2 + 1) r.1 r.2
unfolding records_from
records-some cfg s xs r e =
    let rest : records_from cfg (length xs) r.1 r.2 ≡ records_from cfg (length r.2 + 1) r.1 r.2 =
    elim (next-rest cfg s [] [] xs r e) as (λ _. records_from cfg (length xs) r.1 r.2 ≡ records_from cfg (length r.2 + 1) r.1 r.2) [
      | inl less ↦ records-stable cfg (length xs) (length r.2 + 1) r.1 r.2 (omega arith) (omega arith)
      | inr ended ↦ at-end-same cfg _ _ r.1 r.2 ended.0 ended.1
    ]
    in rw (add-one (length xs), e) (ap (λ (t : List (List (List ℕ))). r.0 ∷ t) rest)
