-- What growing an output twice and reading a table twice come to, and what is then left and taken.
use Rattle.std.proofs.Common.{◌≡◌, ◌≢◌, ℕ, zero, suc, List, [], ◌∷◌, ◌++◌, get_or, refl, ap, sym, ◌∙◌, append_assoc}
use Rattle.std.proofs.lemmas.List.{append-nil}
use Rattle.std.specs.Prelude.{Option, None, Some}
use Rattle.std.specs.Io.KnownBytes.{prepend_known, append_known}
use Rattle.desk_io.specs.Desk.{Left, Taken, before_left, changed_at, grown, left_of, nothing_taken, output_number, table_number, taken_of}
use Rattle.desk_io.specs.declared.desk.Table.{Table}
use Rattle.desk_io.specs.declared.desk.Table.TheVariants.{Node, Link, Movement, Demand, Start, Times}
use Rattle.desk_io.specs.declared.desk.Output.{Output}
use Rattle.desk_io.specs.declared.desk.Output.TheVariants.{Agent, LinkTime, OriginWait, Gap, Report, Watch, Skim, Counts, Sweep}

append_known-append_known : (a b : List ℕ) (k : Option (List ℕ)) → append_known (append_known k a) b ≡ append_known k (a ++ b)
append_known-append_known a b None = refl
append_known-append_known a b (Some xs) = ap Some (append_assoc xs a b)

append_known-empty : (k : Option (List ℕ)) → append_known k [] ≡ k
append_known-empty None = refl
append_known-empty (Some xs) = ap Some (append-nil xs)

prepend_known-prepend_known : (a b : List ℕ) (k : Option (List ℕ)) → prepend_known a (prepend_known b k) ≡ prepend_known (a ++ b) k
prepend_known-prepend_known a b None = refl
prepend_known-prepend_known a b (Some xs) = ap Some (sym (append_assoc a b xs))

prepend_known-empty : (k : Option (List ℕ)) → prepend_known [] k ≡ k
prepend_known-empty None = refl
prepend_known-empty (Some xs) = refl

-- ---- a list with one element changed

module _ {A : Type 0} where
  changed-twice : (f g h : A → A) → ((x : A) → g (f x) ≡ h x) → (n : ℕ) (xs : List A) → changed_at n g (changed_at n f xs) ≡ changed_at n h xs
  changed-twice f g h are n [] = refl
  changed-twice f g h are zero (x ∷ xs) = ap (λ y. y ∷ xs) (are x)
  changed-twice f g h are (suc n) (x ∷ xs) = ap (λ ys. x ∷ ys) (changed-twice f g h are n xs)

  changed-none : (f : A → A) → ((x : A) → f x ≡ x) → (n : ℕ) (xs : List A) → changed_at n f xs ≡ xs
  changed-none f are n [] = refl
  changed-none f are zero (x ∷ xs) = ap (λ y. y ∷ xs) (are x)
  changed-none f are (suc n) (x ∷ xs) = ap (λ ys. x ∷ ys) (changed-none f are n xs)

  changed-own : (f : A → A) (d : A) → f d ≡ d → (n : ℕ) (xs : List A) → get_or (changed_at n f xs) n d ≡ f (get_or xs n d)
  changed-own f d is n [] = sym is
  changed-own f d is zero (x ∷ xs) = refl
  changed-own f d is (suc n) (x ∷ xs) = changed-own f d is n xs

  changed-other : (f : A → A) (d : A) (n m : ℕ) (xs : List A) → n ≢ m → get_or (changed_at n f xs) m d ≡ get_or xs m d
  changed-other f d n m [] other = refl
  changed-other f d zero zero (x ∷ xs) other = absurd (other refl)
  changed-other f d zero (suc m) (x ∷ xs) other = refl
  changed-other f d (suc n) zero (x ∷ xs) other = refl
  changed-other f d (suc n) (suc m) (x ∷ xs) other = changed-other f d n m xs (λ e. other (ap suc e))

-- ---- outputs

pub grown-grown : (o : Output) (a b : List ℕ) (t : Taken) → grown o b (grown o a t) ≡ grown o (a ++ b) t
unfolding grown
grown-grown o a b t = changed-twice _ _ _ (append_known-append_known a b) (output_number o) t

pub grown-empty : (o : Output) (t : Taken) → grown o [] t ≡ t
unfolding grown
grown-empty o t = changed-none _ append_known-empty (output_number o) t

-- a text that was put to a desk that had taken nothing
pub taken-first : (o : Output) (text : List ℕ) → taken_of o (grown o text nothing_taken) ≡ Some text
unfolding grown
taken-first Agent text = refl
taken-first LinkTime text = refl
taken-first OriginWait text = refl
taken-first Gap text = refl
taken-first Report text = refl
taken-first Watch text = refl
taken-first Skim text = refl
taken-first Counts text = refl
taken-first Sweep text = refl

-- ---- tables

pub before_left-before_left : (t : Table) (a b : List ℕ) (l : Left) → before_left t a (before_left t b l) ≡ before_left t (a ++ b) l
unfolding before_left
before_left-before_left t a b l = changed-twice _ _ _ (prepend_known-prepend_known a b) (table_number t) l

pub before_left-empty : (t : Table) (l : Left) → before_left t [] l ≡ l
unfolding before_left
before_left-empty t l = changed-none _ prepend_known-empty (table_number t) l

-- bytes of one table before what is left of it
pub left-own : (t : Table) (bytes : List ℕ) (l : Left) → left_of t (before_left t bytes l) ≡ prepend_known bytes (left_of t l)
unfolding before_left
left-own t bytes l = changed-own _ None refl (table_number t) l

table-at : (t : Table) → get_or (Node ∷ Link ∷ Movement ∷ Demand ∷ Start ∷ Times ∷ []) (table_number t) Node ≡ t
table-at Node = refl
table-at Link = refl
table-at Movement = refl
table-at Demand = refl
table-at Start = refl
table-at Times = refl

same-table : (t u : Table) → table_number t ≡ table_number u → t ≡ u
same-table t u e = sym (table-at t) ∙ ap (λ n. get_or (Node ∷ Link ∷ Movement ∷ Demand ∷ Start ∷ Times ∷ []) n Node) e ∙ table-at u

-- and what is left of another table
pub left-other : (t u : Table) (bytes : List ℕ) (l : Left) → t ≢ u → left_of u (before_left t bytes l) ≡ left_of u l
unfolding before_left
left-other t u bytes l other = changed-other _ None (table_number t) (table_number u) l (λ e. other (same-table t u e))

-- the lemmas for a loop over a desk
pub ruleset desk_facts = (grown-grown, grown-empty, before_left-before_left, before_left-empty)
