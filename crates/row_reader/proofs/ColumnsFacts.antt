-- The first place of a name, one more field at a time.
use Rattle.std.proofs.Common.{◌≡◌, ℕ, suc, zero, ◌+◌, ◌<◌, ◌≤◌, List, [], ◌∷◌, ◌∙◌, length, drop, get_or, map, set, take, refl, ap, arith, true, false}
use Rattle.std.proofs.lemmas.List.{map_more, take-map, take_more_set}
use Rattle.std.specs.Prelude.{None, Option, Some, option_map}
use Rattle.std.specs.List.{position_from}
use Rattle.std.specs.Str.{bytes_eq}
use Rattle.std.specs.Cmp.Lexicographic.{bytes_decides}
use native.Mathlib.Numerals.{unary_clauses}
use Rattle.csv.specs.Records.{field_at}
use Rattle.row_reader.specs.Records.{Record}
use Rattle.row_reader.specs.Columns.{is_named}
use Rattle.row_reader.specs.Trimmed.{trimmed}
use Rattle.row_reader.specs.declared.faults.Column.{Column}

pub name-there : (h : Record) (name : List ℕ) (i n : ℕ) → option_map trimmed (field_at h i) ≡ Some name
    → position_from (is_named name) n (drop i h) ≡ Some n
unfolding field_at
name-there [] name i n e = absurd cc
name-there (f ∷ fs) name zero n e =
    let same : trimmed f ≡ name = cc in
    let t : bytes_eq (trimmed f) name ≡ true = (bytes_decides (trimmed f) name).1 same in
    rw t refl
name-there (f ∷ fs) name (suc i) n e = name-there fs name i n e

pub name-absent : (h : Record) (name : List ℕ) (i n : ℕ) → ¬ (option_map trimmed (field_at h i) ≡ Some name)
    → position_from (is_named name) n (drop i h) ≡ position_from (is_named name) (n + 1) (drop (i + 1) h)
unfolding field_at
name-absent [] name zero n e = refl
name-absent [] name (suc i) n e = simp unary_clauses refl
name-absent (f ∷ fs) name zero n e =
    elim (bytes_eq (trimmed f) name) as (λ t. bytes_eq (trimmed f) name ≡ t → position_from (is_named name) n (f ∷ fs) ≡ position_from (is_named name) (n + 1) fs) [
      | true ↦ λ t. absurd (e (ap Some ((bytes_decides (trimmed f) name).0 t)))
      | false ↦ λ t. rw t refl
    ] refl
name-absent (f ∷ fs) name (suc i) n e =
    let h = name-absent fs name i n e in
    let k = simp unary_clauses at h in
    simp unary_clauses k

pub name-nowhere : (h : Record) (name : List ℕ) (i n : ℕ) → length h ≤ i → position_from (is_named name) n (drop i h) ≡ None
name-nowhere [] name zero n e = refl
name-nowhere [] name (suc i) n e = refl
name-nowhere (f ∷ fs) name zero n e = absurd (omega arith)
name-nowhere (f ∷ fs) name (suc i) n e = name-nowhere fs name i n (omega arith)

-- the places of one column more
pub one-place-more : (f : Column → Option ℕ) (all : List Column) (places : List (Option ℕ)) (i : ℕ) (d : Column) (v : Option ℕ) → i < length all → length places ≡ length all
    → take i places ≡ take i (map f all) → v ≡ f (get_or all i d) → take (i + 1) (set places i v) ≡ take (i + 1) (map f all)
one-place-more f all places i d v h n same e =
    take_more_set places i v (omega arith) ∙ rw (same, take-map f i all, e, take-map f (i + 1) all, map_more f all i d h) refl
