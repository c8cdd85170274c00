-- The watch lines of a loading by workers, and what worker 0 has put of them meanwhile.
use Rattle.std.specs.Prelude.{◌≡◌, ℕ, ◌<◌, ◌≤◌, Bool, true, false, List, [], ◌∷◌, map, ⊤}
use Rattle.desk_io.specs.Desk.{Taken}
use Rattle.desk_io.specs.Faults.{Rose}
use Rattle.desk_io.specs.State.{DeskState}
use Rattle.dta_model.specs.declared.eight.Eight.{Eight}
use Rattle.monitors.specs.Posted.{IsPrefix, last_of}
use Rattle.pending_text.specs.Outs.{IsCutOff, OutText, grown_by}
use Rattle.dta_model.specs.declared.plan.Plan.{Plan}
use Rattle.reports.specs.Watch.{AreLinesOf, multiples, watch_text}
use Rattle.loader.specs.declared.watch.Watch.{Watch}
use Rattle.loader.specs.declared.watch.Watcher.{Watcher}

-- the watch lines of a loading by workers
abbrev pub AreLinesBy : Plan → Watch → List OutText → Type 0
AreLinesBy p watch lines = AreLinesOf watch.every false watch.iteration p lines

-- the board showed this state: it is the last of some first ones of these posted states
pub record IsShown (posted : List Eight) (e : Eight) : Type 0 where
  pub front : List Eight
  pub begins : IsPrefix front posted
  pub last : e ≡ last_of front

-- the last of some numbers, or else this one
abbrev pub last_from : ℕ → List ℕ → ℕ
last_from n [] = n
last_from n (m ∷ others) = last_from m others

abbrev pub steps_of : List Eight → List ℕ
steps_of states = map (λ (e : Eight). e.steps) states

-- the board showed each of these states, and the steps of each have more whole multiples of
-- `every` than those before
abbrev pub AreShown : List Eight → (every : ℕ) → ℕ → List Eight → Type 0
AreShown posted every steps [] = ⊤
AreShown posted every steps (e ∷ others) =
    IsShown posted e × (multiples every steps < multiples every e.steps)
    × AreShown posted every e.steps others

-- these lines went out whole or, where a put failed, up to a first part of the last
abbrev pub WentOut : (failed : Bool) → List OutText → Taken → Taken → Type 0
WentOut false lines before after = after ≡ grown_by lines before
WentOut true lines before after = IsCutOff lines before after

-- what worker 0 has put since the desk was like this
pub record HasWatched (w : Watcher) (before after : DeskState) : Type 0 where
  pub states : List Eight
  pub shown : AreShown w.monitor.list w.watch.every 0 states
  pub none : w.watch.every ≡ 0 → states ≡ []
  pub last : w.failed ≡ false → w.last ≡ last_from 0 (steps_of states)
  pub out : WentOut w.failed (map (watch_text w.watch.iteration) states) before.taken after.taken
  pub cause : w.failed ≡ true → Rose before.put_faults after.put_faults
  pub later : before.put_faults ≤ after.put_faults
  pub left : after.left ≡ before.left
  pub reads : after.read_faults ≡ before.read_faults

-- the same watch over the same board, and a pass of the same board
pub record IsSameWatch (old new : Watcher) : Type 0 where
  pub watch : new.watch ≡ old.watch
  pub board : new.board ≡ old.board
  pub pass : new.monitor.board ≡ old.monitor.board

-- there is a watch, and the steps of a state have more whole multiples of `every` than those of
-- the last line
pub record IsMore (w : Watcher) (e : Eight) : Type 0 where
  pub watches : 1 ≤ w.watch.every
  pub more : multiples w.watch.every w.last < multiples w.watch.every e.steps
