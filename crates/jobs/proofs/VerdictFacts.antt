-- Where the bytes of the tables are told, what was read is what is told, and so the verdict is on the job that was made.
use Rattle.std.proofs.Common.{◌≡◌, ◌≢◌, ℕ, ◌+◌, ◌*◌, ◌<◌, ◌≤◌, suc, zero, List, [], ◌∷◌, ◌++◌, length, refl, sym, ap, ◌∙◌, arith, rules, inl, inr, length-append, subst, Bool, true, false, cond}
use Rattle.std.specs.Prelude.{⊤, Option, None, Some, Ok, Err, nat_le, nat_lt, find, slice_get}
use Rattle.std.specs.List.{range_with_len}
use Rattle.std.proofs.lemmas.List.{append-nil}
use Rattle.std.specs.Io.KnownBytes.{prepend_known, IsAtEnd}
use Rattle.desk_io.specs.declared.desk.Table.{Table}
use Rattle.desk_io.specs.Desk.{Left, left_of, before_left}
use Rattle.desk_io.proofs.DeskFacts.{left-other, left-own}
use Rattle.desk_io.specs.Transfers.{IsRead, IsLong}
use Rattle.row_reader.specs.declared.faults.TableFault.{TableFault}
use Rattle.dta_model.specs.Release.{vehicles_before}
use Rattle.dta_model.specs.declared.trip.DemandCell.{DemandCell}
use Rattle.dta_model.specs.declared.trip.TheConstants.{MOST_TRIPS}
use Rattle.vehicle_release.specs.Limits.{IsFirstAbove, IsWithin}
use Rattle.reports.specs.declared.refusal.Refusal.{Refusal}
use Rattle.reports.specs.declared.refusal.Refusal.TheVariants as refusal
use Rattle.desk_io.specs.declared.transfers.TheConstants.{MOST_TABLE_BYTES}
use Rattle.dta_model.specs.declared.loading.TheConstants.{MOST_LINK_STEPS}
use Rattle.dta_words.specs.Grammar.{settings_of}
use Rattle.dta_words.specs.declared.command.Command.{Command}
use Rattle.dta_words.specs.declared.command.Command.TheVariants as command
use Rattle.dta_words.specs.declared.command.Settings.{Settings}
use Rattle.reports.specs.declared.refusal.TheConstants.{MOST_SWEEP_LINK_STEPS}
use Rattle.std.proofs.lemmas.List.Elements.{All-head, All-tail}
use Rattle.scaled_demand.specs.Scales.{AreAllWithin, IsFirstTooMany, scaled}
use Rattle.jobs.specs.TableRows.{TableRows, no_rows}
use Rattle.jobs.specs.Limits.{AreAbove, Limits, first_above, loading_limits, scales_past, skim_entries, skim_limits, sweep_limits, vehicles_past}
use Rattle.jobs.specs.Inputs.{Assigning, Auditing, FreeFlow, Kind, Skimming, Sweeping, inputs_by, kind_of, tables_of}
use Rattle.jobs.specs.Reading.{ReadState, Reading, grid_left, read_tables, texts_for}
use Rattle.jobs.specs.Jobs.{IsJobOf, JobRows}
use Rattle.jobs.specs.Causes.{IsCause, IsPast}
use Rattle.jobs.specs.Tables.{AreAccepted, AreTold, IsAccepted, IsFaulty, ReachedAmong, with_table}
use Rattle.jobs.specs.Verdict.{Accepted, AreToldBy, Refused, Verdict, verdict, verdict_by, verdict_on, verdict_on_rows, verdict_past}

-- ---- what was read is what is told

known-whole : (k : Option (List ℕ)) (bytes xs : List ℕ) → IsAtEnd k → prepend_known bytes k ≡ Some xs → bytes ≡ xs
known-whole None bytes xs end e = absurd cc
known-whole (Some ys) bytes xs end e = let s : bytes ++ ys ≡ xs = cc in sym (append-nil bytes) ∙ ap (λ (y : List ℕ). bytes ++ y) (sym end) ∙ s

known-longer : (k : Option (List ℕ)) (bytes xs : List ℕ) → prepend_known bytes k ≡ Some xs → length bytes ≤ length xs
known-longer None bytes xs e = absurd cc
known-longer (Some ys) bytes xs e = let s : bytes ++ ys ≡ xs = cc in let n : length (bytes ++ ys) ≡ length xs = ap length s in omega (arith, length-append bytes ys)

-- the bytes that were read of a table are a first part of those that were told
part-told : (t : Table) (bytes xs : List ℕ) (before after : Left) → before ≡ before_left t bytes after → left_of t before ≡ Some xs
    → prepend_known bytes (left_of t after) ≡ Some xs
part-told t bytes xs before after r e = sym (left-own t bytes after) ∙ sym (ap (left_of t) r) ∙ e

whole-told : (t : Table) (bytes xs : List ℕ) (before after : Left) → IsRead t bytes before after → left_of t before ≡ Some xs → bytes ≡ xs
whole-told t bytes xs before after r e = known-whole (left_of t after) bytes xs r.ended (part-told t bytes xs before after r.read e)

long-told : (t : Table) (limit : ℕ) (xs : List ℕ) (before after : Left) → IsLong t limit before after → left_of t before ≡ Some xs → limit < length xs
long-told t limit xs before after r e =
    let m = r.more in
    let n = known-longer (left_of t after) r.bytes xs (part-told t r.bytes xs before after r.read e) in
    omega arith

-- ---- each table of a list stands there once

abbrev AreOthers : Table → List Table → Type 0
AreOthers t [] = ⊤
AreOthers t (u ∷ others) = (t ≢ u) × AreOthers t others

abbrev AreDistinct : List Table → Type 0
AreDistinct [] = ⊤
AreDistinct (t ∷ others) = AreOthers t others × AreDistinct others

-- what is told of the others stays told once a table was read
others-told : (t : Table) (others : List Table) (texts : Table → List ℕ) (bytes : List ℕ) (after : Left)
    → AreOthers t others → AreTold others (before_left t bytes after) texts → AreTold others after texts
others-told t [] texts bytes after o h = tt
others-told t (u ∷ others) texts bytes after o h =
    (sym (left-other t u bytes after o.0) ∙ h.0, others-told t others texts bytes after o.1 h.1)

still-told : (settings : Settings) (t : Table) (others : List Table) (texts : Table → List ℕ) (rows next : TableRows) (before after : Left)
    → AreOthers t others → IsAccepted settings t rows next before after → AreTold others before texts → AreTold others after texts
still-told settings t others texts rows next before after o h told =
    others-told t others texts h.bytes after o (subst (λ (l : Left). AreTold others l texts) h.read.read told)

-- ---- the verdict, table by table

short-is : (n limit : ℕ) → n ≤ limit → nat_le n limit ≡ true
short-is n limit h = search rules

long-is : (n limit : ℕ) → limit < n → nat_le n limit ≡ false
long-is n limit h = search rules

above-is : (n limit : ℕ) → limit < n → nat_lt limit n ≡ true
above-is n limit h = search rules

within-is : (n limit : ℕ) → n ≤ limit → nat_lt limit n ≡ false
within-is n limit h = search rules

-- a table that was accepted
on-accepted : (settings : Settings) (t : Table) (others : List Table) (texts : Table → List ℕ) (rows next : TableRows) (before after : Left) (then : TableRows → Verdict)
    → IsAccepted settings t rows next before after → left_of t before ≡ Some (texts t)
    → verdict_on settings (t ∷ others) texts rows then ≡ verdict_on settings others texts next then
on-accepted settings t others texts rows next before after then h e =
    let same : h.bytes ≡ texts t = whole-told t h.bytes (texts t) before after h.read e in
    let s : nat_le (length (texts t)) MOST_TABLE_BYTES ≡ true = short-is (length (texts t)) MOST_TABLE_BYTES (rw same at h.short) in
    let p : with_table settings rows t (texts t) ≡ Ok next = rw same at h.accepted in
    rw (s, p) refl

-- a table with a first fault
on-faulty : (settings : Settings) (fault : TableFault) (t : Table) (others : List Table) (texts : Table → List ℕ) (rows : TableRows) (before after : Left) (then : TableRows → Verdict)
    → IsFaulty settings fault t rows before after → left_of t before ≡ Some (texts t)
    → verdict_on settings (t ∷ others) texts rows then ≡ Refused (refusal.Table fault)
on-faulty settings fault t others texts rows before after then h e =
    let same : h.bytes ≡ texts t = whole-told t h.bytes (texts t) before after h.read e in
    let s : nat_le (length (texts t)) MOST_TABLE_BYTES ≡ true = short-is (length (texts t)) MOST_TABLE_BYTES (rw same at h.short) in
    let p : with_table settings rows t (texts t) ≡ Err fault = rw same at h.first in
    rw (s, p) refl

-- a table that is too long
on-long : (settings : Settings) (t : Table) (others : List Table) (texts : Table → List ℕ) (rows : TableRows) (before after : Left) (then : TableRows → Verdict)
    → IsLong t MOST_TABLE_BYTES before after → left_of t before ≡ Some (texts t)
    → verdict_on settings (t ∷ others) texts rows then ≡ Refused (refusal.LongTable t)
on-long settings t others texts rows before after then h e =
    let s : nat_le (length (texts t)) MOST_TABLE_BYTES ≡ false = long-is (length (texts t)) MOST_TABLE_BYTES (long-told t MOST_TABLE_BYTES (texts t) before after h e) in
    rw s refl

-- all tables were accepted
on-all : (settings : Settings) (tables : List Table) (texts : Table → List ℕ) (rows more : TableRows) (before after : Left) (then : TableRows → Verdict)
    → AreDistinct tables → AreTold tables before texts → AreAccepted settings tables rows more before after
    → verdict_on settings tables texts rows then ≡ then more
on-all settings [] texts rows more before after then d told h = ap then (sym h.0)
on-all settings (t ∷ others) texts rows more before after then d told h =
    on-accepted settings t others texts rows h.0 before h.1 then h.2 told.0
    ∙ on-all settings others texts h.0 more h.1 after then d.1 (still-told settings t others texts rows h.0 before h.1 d.0 h.2 told.1) h.3

-- a table was reached
on-reached : (settings : Settings) (tables : List Table) (t : Table) (Part : TableRows → Left → Left → Type 0) (texts : Table → List ℕ) (rows : TableRows)
    (before after : Left) (then : TableRows → Verdict) (v : Verdict)
    → AreDistinct tables → AreTold tables before texts → ReachedAmong settings tables t Part rows before after
    → ((others : List Table) (so_far : TableRows) (left : Left) → Part so_far left after → left_of t left ≡ Some (texts t)
    → verdict_on settings (t ∷ others) texts so_far then ≡ v)
    → verdict_on settings tables texts rows then ≡ v
on-reached settings [] t Part texts rows before after then v d told h step = absurd h
on-reached settings (first ∷ others) t Part texts rows before after then v d told (inl h) step =
    subst (λ (u : Table). left_of u before ≡ Some (texts u) → verdict_on settings (u ∷ others) texts rows then ≡ v) (sym h.0)
    (λ e. step others rows before h.1 e) told.0
on-reached settings (first ∷ others) t Part texts rows before after then v d told (inr h) step =
    on-accepted settings first others texts rows h.0 before h.1 then h.2 told.0
    ∙ on-reached settings others t Part texts h.0 h.1 after then v d.1
    (still-told settings first others texts rows h.0 before h.1 d.0 h.2 told.1) h.3 step

-- ---- the sizes of a loading

-- no number of a range passes
find-none : (p : ℕ → Bool) (a n : ℕ) → ((i : ℕ) → a ≤ i → i < a + n → p i ≡ false) → find p (range_with_len a n) ≡ None
find-none p a zero none = refl
find-none p a (suc n) none =
    let here : p a ≡ false = none a (omega arith) (omega arith) in
    rw here (find-none p (a + 1) n (λ i low high. none i (omega arith) (omega arith)))

-- the first number of a range that passes
find-first : (p : ℕ → Bool) (a n i : ℕ) → a ≤ i → i < a + n → p i ≡ true → ((j : ℕ) → j < i → p j ≡ false) → find p (range_with_len a n) ≡ Some i
find-first p a zero i low high passes first = absurd (omega arith)
find-first p a (suc n) i low high passes first =
    elim (p a) as (λ b. p a ≡ b → cond b (Some a) (find p (range_with_len (a + 1) n)) ≡ Some i) [
      | true ↦ λ here.
          let not_below : a < i → ⊥ = λ below. let gone = first a below in absurd cc in
          let same : a ≡ i = omega arith in
          ap Some same
      | false ↦ λ here.
          let not_same : a ≡ i → ⊥ = λ same. let there : p a ≡ true = rw same passes in absurd cc in
          find-first p (a + 1) n i (omega arith) (omega arith) passes first
    ] refl

no-row-above : (demand_cells : List DemandCell) → IsWithin demand_cells → first_above demand_cells ≡ None
no-row-above demand_cells w =
    find-none (λ row. nat_lt MOST_TRIPS (vehicles_before demand_cells (row + 1))) 0 (length demand_cells)
    (λ row low high. within-is (vehicles_before demand_cells (row + 1)) MOST_TRIPS (w row (omega arith)))

below-length : (demand_cells : List DemandCell) (row : ℕ) (cell : DemandCell) → slice_get demand_cells row ≡ Some cell → row < length demand_cells
below-length [] row cell e = absurd cc
below-length (x ∷ demand_cells) zero cell e = omega arith
below-length (x ∷ demand_cells) (suc row) cell e = let r = below-length demand_cells row cell e in omega arith

row-above : (demand_cells : List DemandCell) (line total : ℕ) (h : IsFirstAbove demand_cells line total) → first_above demand_cells ≡ Some h.row
row-above demand_cells line total h =
    let there = below-length demand_cells h.row h.cell h.at in
    let many : MOST_TRIPS < vehicles_before demand_cells (h.row + 1) = rw h.so_many h.above in
    find-first (λ row. nat_lt MOST_TRIPS (vehicles_before demand_cells (row + 1))) 0 (length demand_cells) h.row (omega arith) (omega arith)
    (above-is (vehicles_before demand_cells (h.row + 1)) MOST_TRIPS many)
    (λ row below. within-is (vehicles_before demand_cells (row + 1)) MOST_TRIPS (h.first row below))

-- no scenario has too many vehicles
on-scales-within : (demand_cells : List DemandCell) (scales : List ℕ) → AreAllWithin demand_cells scales → scales_past demand_cells scales ≡ None
on-scales-within demand_cells [] w = refl
on-scales-within demand_cells (scale ∷ scales) w =
    let here : IsWithin (scaled scale demand_cells) = All-head (λ m. IsWithin (scaled m demand_cells)) scale scales w in
    let none : first_above (scaled scale demand_cells) ≡ None = no-row-above (scaled scale demand_cells) here in
    ap (λ (o : Option ℕ). vehicles_past (scaled scale demand_cells) o (scales_past demand_cells scales)) none
    ∙ on-scales-within demand_cells scales (All-tail (λ m. IsWithin (scaled m demand_cells)) scale scales w)

-- or one is the first that has
on-above : (demand_cells : List DemandCell) (next : Option Refusal) (line total : ℕ) (h : IsFirstAbove demand_cells line total)
    → vehicles_past demand_cells (first_above demand_cells) next ≡ Some (refusal.Vehicles line total)
on-above demand_cells next line total h =
    let f : first_above demand_cells ≡ Some h.row = row-above demand_cells line total h in
    let at : slice_get demand_cells h.row ≡ Some h.cell = h.at in
    let on : h.cell.line ≡ line = h.on in
    let many : vehicles_before demand_cells (h.row + 1) ≡ total = h.so_many in
    rw (f, at, on, many) refl

on-scales-above : (demand_cells : List DemandCell) (scales : List ℕ) (scenario line total : ℕ)
    → IsFirstTooMany demand_cells scales scenario line total → scales_past demand_cells scales ≡ Some (refusal.Vehicles line total)
on-scales-above demand_cells [] scenario line total h = let e = h.at in absurd cc
on-scales-above demand_cells (scale ∷ scales) zero line total h =
    let e : Some scale ≡ Some h.scale = h.at in
    let same : h.scale ≡ scale = cc in
    on-above (scaled scale demand_cells) (scales_past demand_cells scales) line total
    (subst (λ m. IsFirstAbove (scaled m demand_cells) line total) same h.above)
on-scales-above demand_cells (scale ∷ scales) (suc scenario) line total h =
    let here : IsWithin (scaled scale demand_cells) = h.before 0 scale (omega arith) refl in
    let none : first_above (scaled scale demand_cells) ≡ None = no-row-above (scaled scale demand_cells) here in
    ap (λ (o : Option ℕ). vehicles_past (scaled scale demand_cells) o (scales_past demand_cells scales)) none
    ∙ on-scales-above demand_cells scales scenario line total (record {
      scale = h.scale;
      at = h.at;
      above = h.above;
      before = λ earlier other below there. h.before (suc earlier) other (omega (arith, below)) there;
    })

-- links and steps within a limit, and above it
in-room : (o : Option Refusal) (n limit : ℕ) (r : Refusal) → n ≤ limit → cond (nat_le n limit) o (Some r) ≡ o
in-room o n limit r h = let is : nat_le n limit ≡ true = short-is n limit h in rw is refl

not-in-room : (o : Option Refusal) (n limit : ℕ) (r : Refusal) → limit < n → cond (nat_le n limit) o (Some r) ≡ Some r
not-in-room o n limit r h = let is : nat_le n limit ≡ false = long-is n limit h in rw is refl

-- ---- the limits of each kind

abbrev OnWithin : Limits → Type 0
OnWithin limits = (s : Settings) (rows : TableRows) → limits.within s rows → limits.first_past s rows ≡ None

abbrev OnPast : Limits → Type 0
OnPast limits = (s : Settings) (rows : TableRows) (r : Refusal) → limits.past s rows r → limits.first_past s rows ≡ Some r

-- links times steps that are above the limit
on-many-steps : (limit : ℕ) (s : Settings) (rows : TableRows) (links steps : ℕ) (o : Option Refusal) (tells : ℕ → ℕ → Refusal) → AreAbove limit s rows links steps
    → cond (nat_le (length rows.links * s.horizon) limit) o (Some (tells (length rows.links) s.horizon)) ≡ Some (tells links steps)
on-many-steps limit s rows links steps o tells (l, t, m) =
    let n : limit < length rows.links * s.horizon = rw (l, t) at m in
    rw (l, t) (not-in-room o (length rows.links * s.horizon) limit (tells (length rows.links) s.horizon) n)

on-loading : OnWithin loading_limits
on-loading s rows (room, w) = in-room _ _ _ _ room ∙ ap (λ (o : Option ℕ). vehicles_past rows.demand_cells o None) (no-row-above rows.demand_cells w)

past-loading : OnPast loading_limits
past-loading s rows refusal.Usage h = absurd h
past-loading s rows (refusal.Table fault) h = absurd h
past-loading s rows (refusal.Read t) h = absurd h
past-loading s rows (refusal.LongTable t) h = absurd h
past-loading s rows (refusal.Cells links steps) h = on-many-steps MOST_LINK_STEPS s rows links steps _ refusal.Cells h
past-loading s rows (refusal.Vehicles line total) (room, h) = in-room _ _ _ _ room ∙ on-above rows.demand_cells None line total h
past-loading s rows (refusal.SkimPairs number) h = absurd h
past-loading s rows (refusal.SweepCells links steps) h = absurd h

on-skim : OnWithin skim_limits
on-skim s rows (room, few) = in-room _ _ _ _ room ∙ in-room None _ _ _ few

past-skim : OnPast skim_limits
past-skim s rows refusal.Usage h = absurd h
past-skim s rows (refusal.Table fault) h = absurd h
past-skim s rows (refusal.Read t) h = absurd h
past-skim s rows (refusal.LongTable t) h = absurd h
past-skim s rows (refusal.Cells links steps) h = on-many-steps MOST_LINK_STEPS s rows links steps _ refusal.Cells h
past-skim s rows (refusal.Vehicles line total) h = absurd h
past-skim s rows (refusal.SkimPairs number) (room, e, m) =
    in-room _ _ _ _ room ∙ not-in-room None (skim_entries s rows) _ _ (rw e at m) ∙ ap (λ n. Some (refusal.SkimPairs n)) (sym e)
past-skim s rows (refusal.SweepCells links steps) h = absurd h

on-sweep : OnWithin sweep_limits
on-sweep s rows (room, w) = in-room _ _ _ _ room ∙ on-scales-within rows.demand_cells s.scales w

past-sweep : OnPast sweep_limits
past-sweep s rows refusal.Usage h = absurd h
past-sweep s rows (refusal.Table fault) h = absurd h
past-sweep s rows (refusal.Read t) h = absurd h
past-sweep s rows (refusal.LongTable t) h = absurd h
past-sweep s rows (refusal.Cells links steps) h = absurd h
past-sweep s rows (refusal.Vehicles line total) (room, (scenario, h)) =
    in-room _ _ _ _ room ∙ on-scales-above rows.demand_cells s.scales scenario line total h
past-sweep s rows (refusal.SkimPairs number) h = absurd h
past-sweep s rows (refusal.SweepCells links steps) h = on-many-steps MOST_SWEEP_LINK_STEPS s rows links steps _ refusal.SweepCells h

on-limits : (k : Kind) → OnWithin (inputs_by k).limits × OnPast (inputs_by k).limits
on-limits FreeFlow = (λ s rows w. refl, λ s rows r h. absurd h)
on-limits Assigning = (on-loading, past-loading)
on-limits Skimming = (on-skim, past-skim)
on-limits Sweeping = (on-sweep, past-sweep)
on-limits Auditing = (on-loading, past-loading)

-- ---- the verdict of a run whose words are in the grammar

distinct : (k : Kind) (start : Bool) → AreDistinct ((inputs_by k).tables start)
distinct FreeFlow start = grind arith
distinct k false = grind arith
distinct k true = grind arith

-- what was read of a command's tables, at the desk or of a grid, was told before
record ReadOfTold (c : Command) (start : Bool) (texts : Table → List ℕ) (Part : ReadState → ReadState → Type 0) : Type 0 where
  before : ReadState
  after : ReadState
  told : AreTold (tables_of c start) before.left (texts_for c texts)
  part : Part before after

grid-told : (n : ℕ) (start : Bool) (texts : Table → List ℕ) → AreTold (tables_of (command.Demo n) start) (grid_left n) (texts_for (command.Demo n) texts)
grid-told n false texts = (refl, (refl, (refl, (refl, tt))))
grid-told n true texts = (refl, (refl, (refl, (refl, (refl, tt)))))

read-of-told : (c : Command) (start : Bool) (texts : Table → List ℕ) (Part : ReadState → ReadState → Type 0) (before after : ReadState)
    → AreTold (read_tables c start) before.left texts → Reading c Part before after → ReadOfTold c start texts Part
read-of-told (command.Demo n) start texts Part before after told h = record {
  before = record { left = grid_left n; read_faults = 0 };
  after = record { left = h.1; read_faults = 0 };
  told = grid-told n start texts;
  part = h.2;
}
read-of-told c start texts Part before after told h = record { before = before; after = after; told = told; part = h }

-- a refusal whose cause the bytes of the tables show
abbrev pub IsShown : Refusal → Type 0
IsShown refusal.Usage = ⊥
IsShown (refusal.Table fault) = ⊤
IsShown (refusal.Read t) = ⊥
IsShown (refusal.LongTable t) = ⊤
IsShown (refusal.Cells links steps) = ⊤
IsShown (refusal.Vehicles line total) = ⊤
IsShown (refusal.SkimPairs number) = ⊤
IsShown (refusal.SweepCells links steps) = ⊤

module _ (s : Settings) (texts : Table → List ℕ) where
  abbrev Told : (ReadState → ReadState → Type 0) → Type 0
  Told Part = ReadOfTold s.command s.start texts Part

  on-job : (job : JobRows) → Told (IsJobOf s job) → verdict_by (Some s) texts ≡ Accepted s job
  on-job job h =
      on-all s (tables_of s.command s.start) (texts_for s.command texts) no_rows h.part.rows h.before.left h.after.left
      (verdict_on_rows s.command s) (distinct (kind_of s.command) s.start) h.told h.part.read
      ∙ ap (λ (o : Option Refusal). verdict_past o s h.part.rows) ((on-limits (kind_of s.command)).0 s h.part.rows h.part.within) ∙ ap (Accepted s) (sym h.part.makes)

  on-past : (r : Refusal) → Told (IsPast s r) → verdict_by (Some s) texts ≡ Refused r
  on-past r h =
      on-all s (tables_of s.command s.start) (texts_for s.command texts) no_rows h.part.rows h.before.left h.after.left
      (verdict_on_rows s.command s) (distinct (kind_of s.command) s.start) h.told h.part.read
      ∙ ap (λ (o : Option Refusal). verdict_past o s h.part.rows) ((on-limits (kind_of s.command)).1 s h.part.rows r h.part.part)

  on-cause : (r : Refusal) → IsShown r → Told (IsCause s r) → verdict_by (Some s) texts ≡ Refused r
  on-cause refusal.Usage i h = absurd i
  on-cause (refusal.Read t) i h = absurd i
  on-cause (refusal.Table fault) i h =
      on-reached s (tables_of s.command s.start) fault.table (IsFaulty s fault fault.table) (texts_for s.command texts) no_rows
      h.before.left h.after.left (verdict_on_rows s.command s) (Refused (refusal.Table fault)) (distinct (kind_of s.command) s.start) h.told h.part
      (λ others rows left turn e. on-faulty s fault fault.table others (texts_for s.command texts) rows left h.after.left (verdict_on_rows s.command s) turn e)
  on-cause (refusal.LongTable t) i h =
      on-reached s (tables_of s.command s.start) t (λ _. IsLong t MOST_TABLE_BYTES) (texts_for s.command texts) no_rows
      h.before.left h.after.left (verdict_on_rows s.command s) (Refused (refusal.LongTable t)) (distinct (kind_of s.command) s.start) h.told h.part
      (λ others rows left turn e. on-long s t others (texts_for s.command texts) rows left h.after.left (verdict_on_rows s.command s) turn e)
  on-cause (refusal.Cells links steps) i h = on-past (refusal.Cells links steps) h
  on-cause (refusal.Vehicles line total) i h = on-past (refusal.Vehicles line total) h
  on-cause (refusal.SkimPairs number) i h = on-past (refusal.SkimPairs number) h
  on-cause (refusal.SweepCells links steps) i h = on-past (refusal.SweepCells links steps) h

-- the verdict over words and bytes, by what was read
module _ (words : List (List ℕ)) (s : Settings) (texts : Table → List ℕ) (before after : ReadState) (is : settings_of words ≡ Some s)
    (told : AreToldBy (settings_of words) before.left texts) where
  read-by : (Part : ReadState → ReadState → Type 0) → Reading s.command Part before after → ReadOfTold s.command s.start texts Part
  read-by Part h = read-of-told s.command s.start texts Part before after (subst (λ (o : Option Settings). AreToldBy o before.left texts) is told) h

  pub verdict-job : (job : JobRows) → Reading s.command (IsJobOf s job) before after → verdict words texts ≡ Accepted s job
  verdict-job job h = ap (λ (o : Option Settings). verdict_by o texts) is ∙ on-job s texts job (read-by (IsJobOf s job) h)

  pub verdict-refused : (r : Refusal) → IsShown r → Reading s.command (IsCause s r) before after → verdict words texts ≡ Refused r
  verdict-refused r i h = ap (λ (o : Option Settings). verdict_by o texts) is ∙ on-cause s texts r i (read-by (IsCause s r) h)
