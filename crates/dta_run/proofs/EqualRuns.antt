-- Two runs over equal words and equal tables write equal texts.
use Rattle.std.proofs.Common.{◌≡◌, ℕ, zero, suc, ◌+◌, false, List, [], ◌∷◌, map, inl, inr}
use Rattle.std.proofs.Common.{refl, sym, ap, ◌∙◌}
use Rattle.std.specs.Prelude.{Option, None, get_or}
use Rattle.std.specs.Io.KnownBytes.{append_known}
use Rattle.desk_io.specs.Desk.{Taken, changed_at, grown, output_number, taken_of}
use Rattle.desk_io.specs.State.{DeskState}
use Rattle.desk_io.specs.declared.desk.Output.{Output}
use Rattle.pending_text.proofs.OutFacts.{grown-append}
use Rattle.reports.specs.Watch.{text_after}
use Rattle.pending_text.specs.Outs.{OutText, grown_by}
use Rattle.desk_io.specs.declared.desk.Output.TheVariants as output
use Rattle.reports.specs.declared.refusal.Refusal.{Refusal}
use Rattle.reports.specs.declared.refusal.Refusal.TheVariants as refusal
use Rattle.dta_words.specs.Grammar.{settings_of}
use Rattle.dta_words.specs.declared.command.Settings.{Settings}
use Rattle.assignment.specs.Assignment.{Traffic, VehicleRoutes, plan_of}
use Rattle.jobs.specs.Inputs.{Assigning, Kind, kind_of}
use Rattle.jobs.specs.Jobs.{JobRows, traffic_of}
use Rattle.jobs.specs.Verdict.{Accepted, Refused, Verdict, verdict}
use Rattle.commands.specs.Texts.{AreWatchTexts, is_watch}
use Rattle.commands.specs.Status.{refusal_status}
use Rattle.commands.specs.declared.status.Status.TheVariants as status
use Rattle.reference.specs.Texts.{AreWatchLinesBy, texts_of}
use Rattle.dta_run.specs.Laws.{EqualRunsWriteEqualTexts}
use Rattle.dta_run.specs.Outcome.{Answers, IsHindered, IsPut}

-- one element of a list, where another one may have been changed
abbrev pick : ℕ → ℕ → (Option (List ℕ) → Option (List ℕ)) → Option (List ℕ) → Option (List ℕ)
pick zero zero f v = f v
pick zero (suc n) f v = v
pick (suc m) zero f v = v
pick (suc m) (suc n) f v = pick m n f v

pick_none : (f : Option (List ℕ) → Option (List ℕ)) → f None ≡ None → (m n : ℕ) → pick m n f None ≡ None
pick_none f is zero zero = is
pick_none f is zero (suc n) = refl
pick_none f is (suc m) zero = refl
pick_none f is (suc m) (suc n) = pick_none f is m n

at_changed : (f : Option (List ℕ) → Option (List ℕ)) → f None ≡ None → (m n : ℕ) (xs : Taken) → get_or (changed_at m f xs) n None ≡ pick m n f (get_or xs n None)
at_changed f is m n [] = sym (pick_none f is m n)
at_changed f is zero zero (x ∷ xs) = refl
at_changed f is zero (suc n) (x ∷ xs) = refl
at_changed f is (suc m) zero (x ∷ xs) = refl
at_changed f is (suc m) (suc n) (x ∷ xs) = at_changed f is m n xs

-- outputs that have taken the same and take the same text
grown_same : (to o : Output) (text : List ℕ) (x y : Taken) → taken_of o x ≡ taken_of o y → taken_of o (grown to text x) ≡ taken_of o (grown to text y)
unfolding grown
grown_same to o text x y e =
    at_changed (λ known. append_known known text) refl (output_number to) (output_number o) x
    ∙ ap (pick (output_number to) (output_number o) (λ known. append_known known text)) e
    ∙ sym (at_changed (λ known. append_known known text) refl (output_number to) (output_number o) y)

-- a watch line changes no other output
not_watch : (o : Output) → is_watch o ≡ false → (f : Option (List ℕ) → Option (List ℕ))
    (v : Option (List ℕ)) → pick 5 (output_number o) f v ≡ v
not_watch output.Watch kept f v = absurd (cc)
not_watch o kept f v = refl

watch_else : (o : Output) (text : List ℕ) (x : Taken) → is_watch o ≡ false → taken_of o (grown output.Watch text x) ≡ taken_of o x
unfolding grown
watch_else o text x kept =
    at_changed (λ known. append_known known text) refl 5 (output_number o) x
    ∙ not_watch o kept (λ known. append_known known text) (taken_of o x)

same_by : (texts : List OutText) (o : Output) (x y : Taken) → taken_of o x ≡ taken_of o y
    → taken_of o (grown_by texts x) ≡ taken_of o (grown_by texts y)
same_by [] o x y e = e
same_by (t ∷ texts) o x y e = same_by texts o (grown t.to t.text x) (grown t.to t.text y) (grown_same t.to o t.text x y e)

-- the watch lines of an iteration change no other output, and neither do those of iterations
module _ (s : Settings) (traffic : Traffic) (o : Output) (kept : is_watch o ≡ false) where
  lines_else : (number : ℕ) (r : VehicleRoutes) (steps : List ℕ) (x : Taken)
      → taken_of o (grown_by (map (text_after number (plan_of s traffic r)) steps) x) ≡ taken_of o x
  lines_else number r [] x = refl
  lines_else number r (step ∷ steps) x =
      let t = text_after number (plan_of s traffic r) step in
      lines_else number r steps (grown output.Watch t.text x) ∙ watch_else o t.text x kept

  watched_else : (number : ℕ) (routes : List VehicleRoutes) (texts : List OutText) (x : Taken)
      → AreWatchTexts s traffic number routes texts → taken_of o (grown_by texts x) ≡ taken_of o x
  watched_else number [] texts x told = ap (λ ts. taken_of o (grown_by ts x)) told
  watched_else number (r ∷ routes) texts x told =
      ap (λ ts. taken_of o (grown_by ts x)) told.4 ∙ ap (taken_of o) (grown-append told.0 told.1 x)
      ∙ watched_else (number + 1) routes told.1 (grown_by told.0 x) told.3
      ∙ ap (λ ts. taken_of o (grown_by ts x)) told.2.lines_are ∙ lines_else number r told.2.steps x

-- so an output but Watch takes the texts of the job alone
else_by : (k : Kind) (s : Settings) (job : JobRows) (n : ℕ) (watched : List OutText) (o : Output) (x : Taken) → is_watch o ≡ false
    → AreWatchLinesBy k s job n watched → taken_of o (grown_by watched x) ≡ taken_of o x
else_by Assigning s job n watched o x kept told = watched_else s (traffic_of job) o kept 1 _ watched x told
else_by k s job n watched o x kept told = ap (λ ts. taken_of o (grown_by ts x)) told

own_taken : (s : Settings) (job : JobRows) (before after : DeskState) (o : Output) → is_watch o ≡ false → IsPut s job status.Done before after
    → taken_of o after.taken ≡ taken_of o (grown_by (texts_of s job) before.taken)
own_taken s job before after o kept put =
    ap (taken_of o) (put.holds ∙ grown-append put.watched (texts_of s job) before.taken)
    ∙ same_by (texts_of s job) o (grown_by put.watched before.taken) before.taken
    (else_by (kind_of s.command) s job s.iterations put.watched o before.taken kept put.by_rule)

not_refused : (r : Refusal) → status.Done ≡ refusal_status r → ⊥
not_refused refusal.Usage e = cc
not_refused r e = cc

not_read : status.Done ≡ status.ReadFault → ⊥
not_read e = cc

not_memory : status.Done ≡ status.Memory → ⊥
not_memory e = cc

not_hindered : (o : Option Settings) (before after : DeskState) → IsHindered o status.Done before after → ⊥
not_hindered o before after (inl h) = not_read h.0
not_hindered o before after (inr m) = not_memory m

-- runs that ended with Done over the same verdict
both_wrote : (words : List (List ℕ)) (v : Verdict) (before after before' after' : DeskState) → Answers (settings_of words) v status.Done before after
    → Answers (settings_of words) v status.Done before' after' → before.taken ≡ before'.taken
    → (o : Output) → is_watch o ≡ false → taken_of o after.taken ≡ taken_of o after'.taken
both_wrote words (Refused r) before after before' after' (inl a) b same o kept = absurd (not_refused r a.0)
both_wrote words (Refused r) before after before' after' (inr h) b same o kept = absurd (not_hindered (settings_of words) before after h)
both_wrote words (Accepted s job) before after before' after' (inr h) b same o kept = absurd (not_hindered (settings_of words) before after h)
both_wrote words (Accepted s job) before after before' after' (inl a) (inr h) same o kept = absurd (not_hindered (settings_of words) before' after' h)
both_wrote words (Accepted s job) before after before' after' (inl a) (inl b) same o kept =
    own_taken s job before after o kept a.put
    ∙ ap (λ taken. taken_of o (grown_by (texts_of s job) taken)) same
    ∙ sym (own_taken s job before' after' o kept b.put)

pub equal_runs : EqualRunsWriteEqualTexts
equal_runs words texts before after before' after' one two same =
    both_wrote words (verdict words texts) before after before' after' (one.headline.told texts one.told) (two.headline.told texts two.told) same
