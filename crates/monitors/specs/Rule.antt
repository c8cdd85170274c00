-- The rule of a board, and what each step tells of it. The rule holds between any two steps of any
-- threads: a pass knows only what it says.
use Rattle.std.specs.Prelude.{◌≡◌, ℕ, List, [], ◌∷◌, ◌++◌, Bool, true, false}
use mathlib.Core.Option.{some}
use lib.ListN.{get_elem?}
use Rattle.dta_model.specs.declared.eight.Eight.{Eight}
use Rattle.monitors.specs.declared.rule.View.{View}
use Rattle.monitors.specs.Posted.{last_of, IsPrefix, StepsRise}
use Rattle.monitors.specs.Words.{words_of, eight_of}

-- a pass that knows these states, and was told nothing since its last load
abbrev pub knowing : Bool → List Eight → View
knowing writes list = record { writes = writes; seen = list; told = [] }

-- a pass that is told a list of states
abbrev pub telling : View → List Eight → View
telling pass list = record { writes = pass.writes; seen = pass.seen; told = list }

-- what is left of a pass that was told to another
abbrev pub nothing : View
nothing = knowing false []

-- what pass number `by` knows fits the posted states: the writer alone writes and knows all of
-- them, and every pass knows and was told a beginning of them
pub record Fits (writer : ℕ) (posted : List Eight) (by : ℕ) (pass : View) : Type 0 where
  pub alone : pass.writes ≡ true → by ≡ writer
  pub all : pass.writes ≡ true → pass.seen ≡ posted
  pub seen : IsPrefix pass.seen posted
  pub told : IsPrefix pass.told posted

-- the rule: there is one list of posted states, the words are the last of it, or zeros where it is
-- empty, and what each pass knows fits it
pub record Shows (words : List ℕ) (passes : List View) : Type 0 where
  pub writer : ℕ
  pub posted : List Eight
  pub rises : StepsRise posted
  pub last : words ≡ words_of (last_of posted)
  pub fits : (by : ℕ) (pass : View) → get_elem? passes by ≡ some pass → Fits writer posted by pass

-- what a post tells: the writer posted one state more, which the board shows now
abbrev pub Posts : View → List ℕ → List ℕ → View → Type 0
Posts old shown words new =
    new ≡ record old { seen = old.seen ++ eight_of words ∷ [] }

-- what a read tells: the pass knows all posted states now, those that it knew or was told of are a
-- beginning of them, and the words are the last of them
pub record Reads (old : View) (shown words : List ℕ) (new : View) : Type 0 where
  pub writes : new.writes ≡ old.writes
  pub rises : StepsRise new.seen
  pub seen : IsPrefix old.seen new.seen
  pub told : IsPrefix old.told new.seen
  pub last : words ≡ words_of (last_of new.seen)

-- what a read by the writer tells: it knows what it knew, which is all; what it was told is a
-- beginning of it, and the words are the last of it
pub record Settles (old : View) (shown words : List ℕ) (new : View) : Type 0 where
  pub same : new ≡ knowing old.writes old.seen
  pub rises : StepsRise old.seen
  pub told : IsPrefix old.told old.seen
  pub last : words ≡ words_of (last_of old.seen)
