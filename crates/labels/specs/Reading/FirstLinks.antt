-- The least over the links that a walk may begin with, and the choice at each link.
use Rattle.std.specs.Prelude.{◌≡◌, ℕ, ◌-◌, ◌<◌, ◌≤◌, Bool, true, List, Option, Some, slice_get}
use Rattle.labels.specs.Reading.Paths.{later}

-- the time from a step on over a first link, by its label in the step of its entry
abbrev pub first_label : (ℕ → ℕ → ℕ) → (ℕ → ℕ → Option ℕ) → ℕ → ℕ → Option ℕ
first_label enter label s l = later (enter l s - s) (label l (enter l s))

-- the links listed are those that a walk may begin with
pub record AreFirsts (begins : ℕ → Bool) (firsts : List ℕ) : Type 0 where
  pub listed : (l : ℕ) → begins l ≡ true → (k : ℕ) × (slice_get firsts k ≡ Some l)
  pub starts : (k l : ℕ) → slice_get firsts k ≡ Some l → begins l ≡ true

-- one of the links has the label, and none has a smaller one
pub record IsFirstLeast (label : ℕ → Option ℕ) (firsts : List ℕ) (m : ℕ) : Type 0 where
  pub some : (k : ℕ) × (l : ℕ) × (slice_get firsts k ≡ Some l) × (label l ≡ Some m)
  pub least : (k l x : ℕ) → slice_get firsts k ≡ Some l → label l ≡ Some x → m ≤ x

-- the link comes first among those whose label is the least
pub record IsFirstChoice (label : ℕ → Option ℕ) (firsts : List ℕ) (m l : ℕ) : Type 0 where
  pub place : ℕ
  pub stands : slice_get firsts place ≡ Some l
  pub gives : label l ≡ Some m
  pub first : (k c x : ℕ) → slice_get firsts k ≡ Some c → c < l → label c ≡ Some x → m < x
