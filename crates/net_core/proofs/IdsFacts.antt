-- Where an identifier is found, and where it isn't.
use Rattle.std.proofs.Common.{◌≡◌, ◌<◌, ℕ, List, [], ◌∷◌, ◌++◌, length, refl, sym, arith, rules, Bool, true, false, nat_eq, nat_lt, position}
use Rattle.std.specs.Prelude.{None, is_some}
use Rattle.std.specs.List.{list_any, position_or_len}
use Rattle.indexmap.specs.IndexSet.{insert_key}
use Rattle.net_core.specs.Ids.{place_of, place_of_pair, pair_eq}

-- where some element passes, the first that passes has a place
position_or_len-any : {X : Type 0} (p : X → Bool) (xs : List X) → list_any p xs ≡ true
    → position_or_len p xs < length xs
position_or_len-any p [] h = absurd cc
position_or_len-any p (x ∷ xs) h = elim (p x) as (λ b. p x ≡ b
    → position_or_len p (x ∷ xs) < length (x ∷ xs)) [
      | true ↦ λ e. rw e (omega arith)
      | false ↦ λ e. let k = position_or_len-any p xs (rw e at h) in rw e (omega arith)
    ] refl

-- and where none does, the place is past the list
position_or_len-none : {X : Type 0} (p : X → Bool) (xs : List X) → list_any p xs ≡ false
    → position_or_len p xs ≡ length xs
position_or_len-none p [] h = refl
position_or_len-none p (x ∷ xs) h = elim (p x) as (λ b. p x ≡ b
    → position_or_len p (x ∷ xs) ≡ length (x ∷ xs)) [
      | true ↦ λ e. absurd (let k = rw e at h in cc)
      | false ↦ λ e. let k = position_or_len-none p xs (rw e at h) in rw (e, k) (omega arith)
    ] refl

-- an element that passes has a place exactly where there is one
pub is_some-position : {X : Type 0} (p : X → Bool) (xs : List X)
    → is_some (position p xs) ≡ list_any p xs
is_some-position p xs = elim (list_any p xs) as (λ b. list_any p xs ≡ b → is_some (position p xs) ≡ b) [
  | true ↦ λ h.
      let l = position_or_len-any p xs h in
      let t : nat_lt (position_or_len p xs) (length xs) ≡ true = search rules in
      rw t refl
  | false ↦ λ h.
      let l = position_or_len-none p xs h in
      let t : nat_lt (position_or_len p xs) (length xs) ≡ false = rw l (search rules) in
      rw t refl
] refl

-- where none has a place, none passes
pub list_any-absent : {X : Type 0} (p : X → Bool) (xs : List X) → position p xs ≡ None
    → list_any p xs ≡ false
list_any-absent p xs e = let k = is_some-position p xs in sym (rw e at k)

-- a new identifier goes last
pub insert_key-new : (ids : List ℕ) (id : ℕ) → place_of ids id ≡ None
    → insert_key nat_eq ids id ≡ ids ++ id ∷ []
insert_key-new ids id e = rw (list_any-absent (nat_eq id) ids e) refl

-- a new pair goes last
pub insert_key-new_pair : (pairs : List (ℕ × ℕ)) (a b : ℕ) → place_of_pair pairs a b ≡ None
    → insert_key pair_eq pairs (a, b) ≡ pairs ++ (a, b) ∷ []
insert_key-new_pair pairs a b e = rw (list_any-absent (pair_eq (a, b)) pairs e) refl
