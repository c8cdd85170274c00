-- Where the bytes of the tables are told, the answer is that of the verdict.
use Rattle.std.proofs.Common.{◌≡◌, ℕ, ◌<◌, suc, List, [], ◌∷◌, length, refl, sym, ap, arith, inl, inr, subst}
use Rattle.std.specs.Prelude.{Option, Contains}
use Rattle.desk_io.specs.declared.desk.Table.{Table}
use Rattle.desk_io.specs.Desk.{Left}
use Rattle.desk_io.specs.Transfers.{IsBegun}
use Rattle.reports.specs.declared.refusal.Refusal.{Refusal}
use Rattle.reports.specs.declared.refusal.Refusal.TheVariants as refusal
use Rattle.dta_words.specs.Grammar.{settings_of}
use Rattle.dta_words.specs.declared.command.Settings.{Settings}
use Rattle.commands.specs.declared.status.Status.{Status}
use Rattle.commands.specs.declared.status.Status.TheVariants as status
use Rattle.jobs.specs.TableRows.{TableRows, no_rows}
use Rattle.dta_words.specs.declared.command.Command.{Command}
use Rattle.dta_words.specs.declared.command.Command.TheVariants as command
use Rattle.jobs.specs.Inputs.{tables_of}
use Rattle.jobs.specs.Reading.{ReadState, Reading, read_tables, reads_at}
use Rattle.jobs.specs.Causes.{IsCause, ReadsFailed}
use Rattle.jobs.specs.Tables.{ReachedAmong}
use Rattle.jobs.specs.Verdict.{Accepted, AreToldBy, Refused, Verdict, verdict, verdict_by}
use Rattle.dta_run.specs.Outcome.{Answers, HasWorked, IsHindered, IsReadBy, IsRefused, IsUnread, Means}
use Rattle.desk_io.specs.State.{DeskState}
use Rattle.commands.specs.Status.{refusal_status}
use Rattle.jobs.proofs.VerdictFacts.{IsShown, verdict-job, verdict-refused}

-- a run that was hindered may have any verdict
hindered : (o : Option Settings) (v : Verdict) (answer : Status) (before after : DeskState)
    → IsHindered o answer before after → Answers o v answer before after
hindered o (Refused r) answer before after h = inr h
hindered o (Accepted s job) answer before after h = inr h

-- what a run answers by its words and the texts of its tables
abbrev AnswersTo : List (List ℕ) → (Table → List ℕ) → Status → DeskState → DeskState → Type 0
AnswersTo words texts answer before after =
    Answers (settings_of words) (verdict words texts) answer before after

answers-by : (words : List (List ℕ)) (texts : Table → List ℕ) (v : Verdict) (answer : Status) (before after : DeskState)
    → verdict words texts ≡ v → Answers (settings_of words) v answer before after → AnswersTo words texts answer before after
answers-by words texts v answer before after is h =
    subst (λ (x : Verdict). Answers (settings_of words) x answer before after) (sym is) h

-- a table that was reached is one of the list
reached-one : (settings : Settings) (tables : List Table) (t : Table) (Part : TableRows → Left → Left → Type 0)
    (rows : TableRows) (before after : Left) → ReachedAmong settings tables t Part rows before after
    → Contains tables t
reached-one settings [] t Part rows before after h = absurd h
reached-one settings (u ∷ tables) t Part rows before after (inl h) = (0, omega arith, h.0)
reached-one settings (u ∷ tables) t Part rows before after (inr h) =
    let c = reached-one settings tables t Part h.0 h.1 after h.3 in
    let within : suc c.0 < suc (length tables) = (let w = c.1 in omega (arith, w)) in
    (suc c.0, within, c.2)

-- a table that couldn't be read is one of the desk
read-there : (s : Settings) (t : Table) (c : Command) (before after : ReadState) → s.command ≡ c → Reading c (IsCause s (refusal.Read t)) before after
    → Contains (read_tables c s.start) t × ReadsFailed before after
read-there s t (command.Demo n) before after is h = absurd (let failed = h.2.1 in omega (arith, failed))
read-there s t c before after is h =
    (subst (λ (x : Command). Contains (tables_of x s.start) t) is (reached-one s (tables_of s.command s.start) t (λ _. IsBegun t) no_rows before.left after.left h.0), h.1)

unread : (words : List (List ℕ)) (t : Table) (before after : DeskState)
    → IsRefused (refusal.Read t) words before after → IsUnread (settings_of words) before after
unread words t before after h =
    let own = read-there h.settings t h.settings.command (reads_at before) (reads_at after) refl h.cause in
    (t, subst (λ (o : Option Settings). IsReadBy o t) (sym h.told) own.0, h.report, own.1)

answers-refused : (words : List (List ℕ)) (texts : Table → List ℕ) (r : Refusal) (before after : DeskState) → IsShown r
    → IsRefused r words before after → AreToldBy (settings_of words) before.left texts
    → AnswersTo words texts (refusal_status r) before after
answers-refused words texts r before after i h told =
    answers-by words texts (Refused r) (refusal_status r) before after
    (verdict-refused words h.settings texts (reads_at before) (reads_at after) h.told told r i h.cause)
    (inl (refl, h.report))

-- the verdict is on the job whose work was done
answers-worked : (words : List (List ℕ)) (texts : Table → List ℕ) (answer : Status) (before after : DeskState)
    → HasWorked words answer before after → AreToldBy (settings_of words) before.left texts
    → AnswersTo words texts answer before after
answers-worked words texts answer before after m t =
    answers-by words texts (Accepted m.settings m.job) answer before after
    (verdict-job words m.settings texts (reads_at before) (reads_at after) m.told t m.job m.accepted)
    (inl m.holds)

-- what an answer says of the desk, where the bytes of all tables are told
pub told : (words : List (List ℕ)) (texts : Table → List ℕ) (answer : Status) (before after : DeskState)
    → Means words answer before after
    → AreToldBy (settings_of words) before.left texts
    → Answers (settings_of words) (verdict words texts) answer before after
told words texts status.Usage before after m t =
    answers-by words texts (Refused refusal.Usage) status.Usage before after (ap (λ (o : Option Settings). verdict_by o texts) m.told) (inl (refl, m.report))
told words texts status.Done before after m t = answers-worked words texts status.Done before after m t
told words texts status.WriteFault before after m t = answers-worked words texts status.WriteFault before after m t
told words texts status.Differs before after m t = answers-worked words texts status.Differs before after m t
told words texts status.Table before after m t = answers-refused words texts (refusal.Table m.0) before after tt m.1 t
told words texts status.Size before after (inl m) t = answers-refused words texts (refusal.LongTable m.0) before after tt m.1 t
told words texts status.Size before after (inr (inl m)) t = answers-refused words texts (refusal.Cells m.0 m.1) before after tt m.2 t
told words texts status.Size before after (inr (inr (inl m))) t = answers-refused words texts (refusal.Vehicles m.0 m.1) before after tt m.2 t
told words texts status.Size before after (inr (inr (inr (inl m)))) t = answers-refused words texts (refusal.SkimPairs m.0) before after tt m.1 t
told words texts status.Size before after (inr (inr (inr (inr m)))) t = answers-refused words texts (refusal.SweepCells m.0 m.1) before after tt m.2 t
told words texts status.ReadFault before after m t =
    hindered (settings_of words) (verdict words texts) status.ReadFault before after
    (inl (refl, unread words m.0 before after m.1))
told words texts status.Memory before after m t =
    hindered (settings_of words) (verdict words texts) status.Memory before after (inr refl)
