-- Tables one after the other: those that were accepted, and the table at which the reading stopped;
-- and calls that only read, one after the other.
use Rattle.std.specs.Prelude.{⊤, Result, Ok, Err, IfOk, IfErr}
use Rattle.std.proofs.Common.{◌≡◌, ℕ, ◌≤◌, Bool, false, true, List, [], ◌∷◌, ◌++◌, refl, subst, sym, ◌∙◌, arith, inl, inr}
use Rattle.desk_io.specs.declared.desk.Table.TheVariants as table
use Rattle.desk_io.specs.declared.desk.Table.{Table}
use Rattle.desk_io.specs.Desk.{Left}
use Rattle.desk_io.specs.Faults.{Rose}
use Rattle.reports.specs.declared.refusal.Refusal.TheVariants as refusal
use Rattle.jobs.specs.Calls.{OnlyReads}
use Rattle.desk_io.specs.State.{DeskState}
use Rattle.jobs.specs.TableRows.{TableRows, all_tables, loading_tables, no_rows}
use Rattle.jobs.specs.Reading.{ReadState, reads_at}
use Rattle.jobs.specs.Stops.{StopsAmong, StopsAt}
use Rattle.jobs.specs.Tables.{AreAccepted, IsAccepted, ReachedAmong}
use Rattle.jobs.specs.declared.stop.Stop.{Stop}
use Rattle.jobs.specs.declared.stop.Stop.TheVariants.{Refused, Memory}
use Rattle.dta_words.specs.declared.command.Settings.{Settings}

pub rose-earlier : (before between now : ℕ) → before ≤ between → Rose between now → Rose before now
rose-earlier before between now h r = omega (arith, h, r)

-- a stop, seen from before an earlier call on the desk
abbrev since : ReadState → ReadState → ReadState
since earlier before = record earlier { left = before.left }

stop-since : (settings : Settings) (t : Table) (rows : TableRows) (s : Stop) (earlier before after : ReadState) → earlier.read_faults ≤ before.read_faults
    → StopsAt settings t rows s before after → StopsAt settings t rows s (since earlier before) after
stop-since settings t rows Memory earlier before after h stops = stops
stop-since settings t rows (Refused refusal.Usage) earlier before after h stops = stops
stop-since settings t rows (Refused (refusal.Table fault)) earlier before after h stops = stops
stop-since settings t rows (Refused (refusal.Read u)) earlier before after h stops =
    (stops.0, stops.1, rose-earlier earlier.read_faults before.read_faults after.read_faults h stops.2)
stop-since settings t rows (Refused (refusal.LongTable u)) earlier before after h stops = stops
stop-since settings t rows (Refused (refusal.Cells links steps)) earlier before after h stops = stops
stop-since settings t rows (Refused (refusal.Vehicles line total)) earlier before after h stops = stops
stop-since settings t rows (Refused (refusal.SkimPairs number)) earlier before after h stops = stops
stop-since settings t rows (Refused (refusal.SweepCells links steps)) earlier before after h stops = stops

module _ (settings : Settings) where
  pub accepted-one : (t : Table) (rows more : TableRows) (left rest : Left) → IsAccepted settings t rows more left rest → AreAccepted settings (t ∷ []) rows more left rest
  accepted-one t rows more left rest a = (more, rest, a, (refl, refl))

  pub accepted-both : (tables others : List Table) (rows next more : TableRows) (left between rest : Left)
      → AreAccepted settings tables rows next left between → AreAccepted settings others next more between rest → AreAccepted settings (tables ++ others) rows more left rest
  accepted-both [] others rows next more left between rest a b =
      subst (λ l. AreAccepted settings others rows more l rest) a.1 (subst (λ r. AreAccepted settings others r more between rest) a.0 b)
  accepted-both (t ∷ tables) others rows next more left between rest a b =
      (a.0, a.1, a.2, accepted-both tables others a.0 next more a.1 between rest a.3 b)

  module _ (t : Table) (Part : TableRows → Left → Left → Type 0) where
    reached-first : (tables others : List Table) (rows : TableRows) (left rest : Left) → ReachedAmong settings tables t Part rows left rest → ReachedAmong settings (tables ++ others) t Part rows left rest
    reached-first [] others rows left rest h = absurd h
    reached-first (u ∷ tables) others rows left rest (inl h) = inl h
    reached-first (u ∷ tables) others rows left rest (inr h) = inr (h.0, h.1, h.2, reached-first tables others h.0 h.1 rest h.3)

    pub reached-then : (tables others : List Table) (rows next : TableRows) (left between rest : Left)
        → AreAccepted settings tables rows next left between → ReachedAmong settings others t Part next between rest → ReachedAmong settings (tables ++ others) t Part rows left rest
    reached-then [] others rows next left between rest a h =
        subst (λ l. ReachedAmong settings others t Part rows l rest) a.1 (subst (λ r. ReachedAmong settings others t Part r between rest) a.0 h)
    reached-then (u ∷ tables) others rows next left between rest a h =
        inr (a.0, a.1, a.2, reached-then tables others a.0 next a.1 between rest a.3 h)

  -- the reading stopped at the first of these tables
  pub among-now : (t : Table) (others : List Table) (rows : TableRows) (s : Stop) (before after : ReadState) → StopsAt settings t rows s before after
      → StopsAmong settings (t ∷ others) rows s before after
  among-now t others rows s before after h = (t, inl (refl, h))

  -- or at one of the first
  pub among-first : (tables others : List Table) (rows : TableRows) (s : Stop) (before after : ReadState) → StopsAmong settings tables rows s before after
      → StopsAmong settings (tables ++ others) rows s before after
  among-first tables others rows s before after h = (h.0, reached-first h.0 _ tables others rows before.left after.left h.1)

  -- or at the table after those that were accepted
  pub among-then : (tables others : List Table) (t : Table) (rows next : TableRows) (s : Stop) (before between after : ReadState)
      → AreAccepted settings tables rows next before.left between.left → before.read_faults ≤ between.read_faults
      → StopsAt settings t next s between after → StopsAmong settings (tables ++ t ∷ others) rows s before after
  among-then tables others t rows next s before between after a h stops =
      (t, reached-then t _ tables (t ∷ others) rows next before.left between.left after.left a (inl (refl, stop-since settings t next s before between after h stops)))

  -- the start table was accepted after the others, where it is asked for
  pub accepted-start : (start : Bool) (rows more : TableRows) (left between rest : Left) → start ≡ true → AreAccepted settings all_tables no_rows rows left between
      → IsAccepted settings table.Start rows more between rest → AreAccepted settings (loading_tables start) no_rows more left rest
  accepted-start start rows more left between rest asks others own =
      subst (λ (b : Bool). AreAccepted settings (loading_tables b) no_rows more left rest) (sym asks)
      (accepted-both all_tables (table.Start ∷ []) no_rows rows more left between rest others (accepted-one table.Start rows more between rest own))

  -- the reading stopped there
  pub among-start : (start : Bool) (rows : TableRows) (s : Stop) (before between after : ReadState) → start ≡ true
      → AreAccepted settings all_tables no_rows rows before.left between.left → before.read_faults ≤ between.read_faults
      → StopsAt settings table.Start rows s between after → StopsAmong settings (loading_tables start) no_rows s before after
  among-start start rows s before between after asks others h stops =
      subst (λ (b : Bool). StopsAmong settings (loading_tables b) no_rows s before after) (sym asks)
      (among-then all_tables [] table.Start no_rows rows s before between after others h stops)

  -- no start table is asked for
  pub accepted-unstarted : (start : Bool) (rows : TableRows) (left rest : Left) → start ≡ false → AreAccepted settings all_tables no_rows rows left rest
      → AreAccepted settings (loading_tables start) no_rows rows left rest
  accepted-unstarted start rows left rest asks others =
      subst (λ (b : Bool). AreAccepted settings (loading_tables b) no_rows rows left rest) (sym asks) others

-- ---- calls that only read

-- a call that does what another did to a desk, and says something else of it
module _ {T U : Type 0} {Done : T → ReadState → ReadState → Type 0} {Done' : U → ReadState → ReadState → Type 0} {Stopped Stopped' : Stop → ReadState → ReadState → Type 0}
    {before after : DeskState} {x : Result T Stop} where
  pub reads-so : {y : Result U Stop} → OnlyReads Done Stopped before after x
      → IfOk y (λ v. Done' v (reads_at before) (reads_at after)) → IfErr y (λ stop. Stopped' stop (reads_at before) (reads_at after)) → OnlyReads Done' Stopped' before after y
  reads-so r done stops = record { done = done; stops = stops; later = r.later; taken = r.taken; puts = r.puts }

  pub reads-done : {v : U} → OnlyReads Done Stopped before after x → Done' v (reads_at before) (reads_at after) → OnlyReads Done' Stopped' before after (Ok v)
  reads-done r done = record { done = done; stops = tt; later = r.later; taken = r.taken; puts = r.puts }

  pub reads-stopped : {stop : Stop} → OnlyReads Done Stopped before after x → Stopped' stop (reads_at before) (reads_at after) → OnlyReads Done' Stopped' before after (Err stop)
  reads-stopped r stops = record { done = tt; stops = stops; later = r.later; taken = r.taken; puts = r.puts }

-- what a call did to a desk and then another
pub reads-both : {T U : Type 0} {Done : T → ReadState → ReadState → Type 0} {Done' : U → ReadState → ReadState → Type 0} {Stopped Stopped' : Stop → ReadState → ReadState → Type 0}
    {before between after : DeskState} {x : Result T Stop} {y : Result U Stop}
    → OnlyReads Done Stopped before between x → OnlyReads Done' Stopped' between after y
    → OnlyReads {T = ⊤} (λ v left rest. ⊤) (λ stop before after. ⊤) before after (Ok tt)
reads-both r t = record {
  done = tt;
  stops = tt;
  later = (let a = r.later in let b = t.later in omega (arith, a, b));
  taken = t.taken ∙ r.taken;
  puts = t.puts ∙ r.puts;
}
