-- Equal options, tests of numbers, and parts of lists.
pub use Rattle.std.proofs.lemmas.Option.{same_Some as some_same}
pub use Rattle.net_core.proofs.Orders.{is_lt as is_below, lt_holds as below}
use Rattle.std.proofs.Common.{◌≡◌, ℕ, ◌+◌, ◌-◌, ◌<◌, ◌≤◌, true, false, List, length, drop, arith, rules, refl, sym, ◌∙◌, subst, nat_eq, Option, Some, None}
use Rattle.std.specs.Prelude.{All}
use Rattle.std.specs.List.{slice_range}
use Rattle.std.proofs.lemmas.Bool.Decides.{nat_tests}
use Rattle.std.proofs.lemmas.Grind.{common_steps}
use Rattle.std.proofs.lemmas.List.{get_or-take, get_or-drop}
use Rattle.labels.specs.Reading.Paths.{later}

pub same_true : (a b : ℕ) → a ≡ b → nat_eq a b ≡ true
same_true a b h = grind (arith, nat_tests)

pub equal_of : (a b : ℕ) → nat_eq a b ≡ true → a ≡ b
equal_of a b h = search (rules, h)

pub differs : (a b : ℕ) → (a ≡ b → ⊥) → nat_eq a b ≡ false
differs a b h = grind (arith, nat_tests)

pub All_range : {X : Type 0} (P : X → Type 0) (xs : List X) (a b : ℕ) → a ≤ b → b ≤ length xs → All P xs → All P (slice_range xs a b)
All_range P xs a b h k all i d within =
    let n : i < b - a = grind (arith, common_steps) in
    subst P (sym (get_or-take (b - a) (drop a xs) i d n ∙ get_or-drop a xs i d)) (all (a + i) d (omega arith))

-- a time that is later by some steps
pub after_more : (more k : ℕ) (o : Option ℕ) → later more o ≡ Some k → (j : ℕ) × (o ≡ Some j) × (more + j ≡ k)
after_more more k None h = cc
after_more more k (Some j) h = (j, refl, some_same (more + j) k h)
