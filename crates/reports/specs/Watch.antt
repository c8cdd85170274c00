-- The watch lines of a loading, and the steps whose states they tell.
use Rattle.std.specs.Prelude.{ℕ, suc, zero, Bool, false, true, ◌≡◌, ◌&&◌, ◌/◌, nat_lt, List, []}
use Rattle.std.specs.Prelude.{◌∷◌, ◌++◌, map}
use Rattle.desk_io.specs.declared.desk.Output.TheVariants as output
use Rattle.pending_text.specs.Outs.{OutText, text_to}
use Rattle.dta_model.specs.State.{eight_after}
use Rattle.dta_model.specs.declared.eight.Eight.{Eight}
use Rattle.dta_model.specs.declared.plan.Plan.{Plan}
use Rattle.reports.specs.Texts.{watch_line}

-- whether numbers rise: each is above the one before it, and the first above this one
abbrev pub rises_from : ℕ → List ℕ → Bool
rises_from n [] = true
rises_from n (m ∷ others) = nat_lt n m && rises_from m others

-- the whole multiples of `every` in so many steps
abbrev pub multiples : ℕ → ℕ → ℕ
multiples every steps = steps / every

-- the steps after which a loading with this horizon is told, where it is watched every so many:
-- they rise from 0, each but the last has more whole multiples of `every` than the one before it,
-- or than 0, and the last is the horizon
pub record AreWatchSteps (every horizon : ℕ) (steps : List ℕ) : Type 0 where
  pub before : List ℕ
  pub ends : steps ≡ before ++ horizon ∷ []
  pub rising : rises_from 0 steps ≡ true
  pub apart : rises_from 0 (map (multiples every) before) ≡ true

-- the steps of a loading whose states go out: none without a watch, the last alone where the
-- loader is plain, and else some by the rule of watch lines
abbrev pub AreToldSteps : (every : ℕ) (plain : Bool) (horizon : ℕ) → List ℕ → Type 0
AreToldSteps zero plain horizon steps = steps ≡ []
AreToldSteps (suc every) true horizon steps = steps ≡ horizon ∷ []
AreToldSteps (suc every) false horizon steps = AreWatchSteps (suc every) horizon steps

-- the line of an iteration's state, for Watch
abbrev pub watch_text : (iteration : ℕ) → Eight → OutText
watch_text iteration eight = text_to output.Watch (watch_line iteration eight)

-- that of an iteration with this loading, after so many of its steps
abbrev pub text_after : (iteration : ℕ) → Plan → (steps : ℕ) → OutText
text_after iteration p steps = watch_text iteration (eight_after p steps)

-- the watch lines of an iteration with this loading
pub record AreLinesOf (every : ℕ) (plain : Bool) (iteration : ℕ) (p : Plan) (lines : List OutText)
    : Type 0 where
  pub steps : List ℕ
  pub by_rule : AreToldSteps every plain p.horizon steps
  pub lines_are : lines ≡ map (text_after iteration p) steps
