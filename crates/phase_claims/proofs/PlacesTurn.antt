-- A loop over held places: the first is worked on and goes last. So those that are left come first, and
-- those that are done last, with some others between.
use Rattle.std.specs.Prelude.{slice_get}
use Rattle.std.proofs.Common.{◌≡◌, ℕ, zero, suc, ◌+◌, ◌≤◌, List, [], ◌∷◌, ◌++◌, length, take, drop, map, sym, ap, ◌∙◌, append_assoc, add-one, Some}
use Rattle.std.proofs.lemmas.List.{drop_all, map_push, take_all}
use Rattle.std.proofs.lemmas.Option.{same_Some}
use mathlib.Core.Path.{Path}
use Rattle.atomic_table.specs.Table.{rest, turned}

drop_next : (ks : List ℕ) (j b : ℕ) → slice_get ks j ≡ Some b → drop j ks ≡ b ∷ drop (suc j) ks
drop_next [] j b e = cc
drop_next (k ∷ ks) zero b e = ap (λ x. x ∷ ks) (same_Some k b e)
drop_next (k ∷ ks) (suc j) b e = drop_next ks j b e

pub take_next : (ks : List ℕ) (j b : ℕ) → slice_get ks j ≡ Some b → take (suc j) ks ≡ take j ks ++ b ∷ []
take_next [] j b e = cc
take_next (k ∷ ks) zero b e = ap (λ x. x ∷ []) (same_Some k b e)
take_next (k ∷ ks) (suc j) b e = ap (λ xs. k ∷ xs) (take_next ks j b e)

-- g is a place before its round, h the same after it, and z stands between
module _ {S : Type 0} (g h : ℕ → ℕ × S) (z : List (ℕ × S)) where
  abbrev pub midway : List ℕ → ℕ → List (ℕ × S)
  midway ks j = map g (drop j ks) ++ (z ++ map h (take j ks))

  pub at_end : (ks : List ℕ) (j : ℕ) → length ks ≤ j → midway ks j ≡ z ++ map h ks
  at_end ks j over = ap (λ xs. map g xs ++ (z ++ map h (take j ks))) (drop_all j ks over) ∙ ap (λ xs. z ++ map h xs) (take_all j ks over)

  -- the place of the next number is first
  pub first_is : (ks : List ℕ) (j b : ℕ) (l : List (ℕ × S)) → slice_get ks j ≡ Some b → l ≡ midway ks j → l ≡ g b ∷ rest l
  first_is ks j b l e is =
      let f : l ≡ g b ∷ (map g (drop (suc j) ks) ++ (z ++ map h (take j ks))) = is ∙ ap (λ xs. map g xs ++ (z ++ map h (take j ks))) (drop_next ks j b e) in
      f ∙ ap (λ xs. g b ∷ rest xs) (sym f)

  -- and goes last
  pub round : (ks : List ℕ) (j b : ℕ) (l l' : List (ℕ × S)) → slice_get ks j ≡ Some b → l ≡ midway ks j → l' ≡ turned (h b ∷ rest l) → l' ≡ midway ks (j + 1)
  round ks j b l l' e is now =
      let left = map g (drop (suc j) ks) in
      let done = map h (take j ks) in
      let f : l ≡ g b ∷ (left ++ (z ++ done)) = is ∙ ap (λ xs. map g xs ++ (z ++ done)) (drop_next ks j b e) in
      let more : done ++ h b ∷ [] ≡ map h (take (suc j) ks) = sym (map_push h (take j ks) b) ∙ ap (λ xs. map h xs) (sym (take_next ks j b e)) in
      rw add-one (now ∙ ap (λ xs. turned (h b ∷ rest xs)) f
      ∙ append_assoc left (z ++ done) (h b ∷ [])
      ∙ ap (λ xs. left ++ xs) (append_assoc z done (h b ∷ []) ∙ ap (λ xs. z ++ xs) more))

-- what lies in the first place
pub same_first : {S : Type 0} (k : ℕ) (x y : S) (l : List (ℕ × S)) → l ≡ (k, x) ∷ rest l → l ≡ (k, y) ∷ rest l → x ≡ y
same_first {S} k x y l e f =
    let g : (k, x) ∷ rest l ≡ (k, y) ∷ rest l = sym e ∙ f in
    let h : Path (ℕ × S) (k, x) (k, y) = (cc) in
    ap (λ (q : ℕ × S). q.1) h
