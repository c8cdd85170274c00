-- Least times where link times stand still.
use Rattle.std.specs.Prelude.{◌≡◌, ℕ, ◌*◌, ◌<◌, ◌≤◌, cond, nat_lt, List, length, slice_index}
use Rattle.std.specs.Prelude.{slice_index_or, All, sum_by}
use Rattle.labels.specs.declared.states.onward.Onward.{Onward}
use Rattle.labels.specs.Filling.Labels.{most_span, far}
use Rattle.labels.specs.Filling.Rests.{least_over}
use Rattle.labels.specs.States.RouterWays.{is_own, onwards}
use Rattle.labels.specs.declared.states.router.Router.{Router}

-- a list of numbers that stand still
abbrev pub still : List ℕ → ℕ → ℕ → ℕ
still xs k e = slice_index xs k

-- the least over some ways on
abbrev pub still_least : List ℕ → List ℕ → List Onward → ℕ
still_least tail free ws = least_over (still free) far (still tail) 0 ws

-- what ought to be left from a state: nothing at the zone, else the least over its ways on
abbrev pub value : List ℕ → Router → ℕ → List ℕ → ℕ → ℕ
value free r zone tail s = cond (is_own r zone s) 0 (still_least tail free (onwards r s))

-- nothing is below what it ought to be
abbrev pub AreAbove : List ℕ → Router → ℕ → List ℕ → Type 0
AreAbove free r zone tail = (s : ℕ) → s < length tail
    → value free r zone tail s ≤ slice_index_or tail s 0

-- everything is what it ought to be
abbrev pub AreSettled : List ℕ → Router → ℕ → List ℕ → Type 0
AreSettled free r zone tail = (s : ℕ) → s < length tail
    → slice_index_or tail s 0 ≡ value free r zone tail s

-- 1 where a walk is known
abbrev pub is_known : ℕ → ℕ
is_known x = cond (nat_lt x far) 1 0

-- how many walks are known
abbrev pub known : List ℕ → ℕ
known tail = sum_by is_known tail

-- what is left is at most a long span for each walk that is known
abbrev pub AreShort : List ℕ → Type 0
AreShort tail = All (λ x. x < far → x ≤ known tail * most_span) tail
