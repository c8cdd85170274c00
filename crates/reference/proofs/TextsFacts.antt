-- Each accepted job has its texts, and its loadings are sound.
use Rattle.std.proofs.Common.{◌≡◌, ◌≤◌, ℕ, List, [], ◌++◌, refl, ap, sym, ◌∙◌, subst, arith, inl, inr, length}
use Rattle.audit.specs.Audit.{checks_of}
use Rattle.audit.specs.declared.verdict.Verdict.{Verdict}
use Rattle.audit.specs.declared.verdict.Verdict.TheVariants as verdict
use Rattle.audit.proofs.Verdicts.{determined}
use Rattle.desk_io.specs.Desk.{Taken}
use Rattle.pending_text.proofs.OutFacts.{cut-sooner}
use Rattle.pending_text.specs.Outs.{IsCutOff, OutText}
use Rattle.dta_words.specs.declared.command.Settings.{Settings}
use Rattle.skims.specs.GivenTimes.{AreRowsOf}
use Rattle.sweep.proofs.Determined.{scenarios_stand_alone}
use Rattle.assignment.specs.Traffic.{IsTraffic}
use Rattle.assignment.proofs.SoundFacts.{sound-iterations}
use Rattle.jobs.specs.Inputs.{Assigning, Auditing, FreeFlow, Kind, Skimming, Sweeping, inputs_by, kind_of}
use Rattle.jobs.specs.Jobs.{JobRows, traffic_of}
use Rattle.commands.specs.Outputs.{IsAudited}
use Rattle.commands.specs.Works.{AreTexts, AreTextsSoFar, AreWatchedSoFar, work_by}
use Rattle.commands.proofs.Determined.{texts_are_determined}
use Rattle.commands.specs.Texts.{audit_plan, but_watch}
use Rattle.reference.specs.Audits.{Passes, verdict_of}
use Rattle.reference.specs.Laws.{EachJobHasItsTexts, IsAccepted}
use Rattle.reference.specs.Reference.{routes_until, watch_texts}
use Rattle.reference.specs.Texts.{AreWatchLinesBy, AreWatchLinesOf, HasItsTexts, HasSoundLoadings, HasSoundLoadingsBy, texts_by}
use Rattle.reference.proofs.AcceptedFacts.{accepted_are_sound}
use Rattle.reference.proofs.AssignedFacts.{assigned, laws, own-lines, own-texts, plain-lines, soundly-loaded, watched-are, watched-cut}
use Rattle.reference.proofs.AuditFacts.{audited, audited-soundly}
use Rattle.reference.proofs.SkimFacts.{skimmed}
use Rattle.reference.proofs.SweepFacts.{swept, swept-soundly}

module _ (s : Settings) (job : JobRows) (good : IsAccepted s job) where
  -- the traffic of a job is that of a loading
  traffic-is : IsTraffic s.horizon (traffic_of job)
  traffic-is = record { net = good.sound.net; trips = good.sound.trips; start = good.sound.start }

  -- ---- texts of the reference are texts of the job
  texts-are : (k : Kind) (lines : List OutText) → kind_of s.command ≡ k → Passes s job → AreWatchLinesBy k s job s.iterations lines
      → (work_by k).texts s job (lines ++ texts_by k s job)
  texts-are Assigning lines is passes told = assigned s (traffic_of job) good.in_range traffic-is lines told
  texts-are Skimming lines is passes told =
      rw told (skimmed s job good.in_range good.sound
      ((subst (λ (k : Kind). (inputs_by k).takes_times → AreRowsOf job.net s.bucket s.horizon job.times) is good.sound.times) tt))
  texts-are Sweeping lines is passes told = rw told (swept s job good.in_range good.sound (good.sound.sweep is))
  texts-are Auditing lines is passes told =
      rw told (record { passes = subst (λ v. IsAudited s job v) (passes is) (audited s job); texts_are = refl })
  texts-are k lines is passes told = rw told refl

  pub has : (texts : List OutText) → HasItsTexts s job (λ own. texts ≡ own) → AreTexts s.command s job texts
  has texts own = rw own.holds (texts-are (kind_of s.command) own.watched refl own.passes own.by_rule)

  -- ---- and there are no others

  -- an audit has one verdict
  pub verdict-is : (v : Verdict) → IsAudited s job v → verdict_of s job ≡ v
  verdict-is v is = determined (checks_of job.net job.trips job.agents job.times (audit_plan s)) (verdict_of s job) v (audited s job) is

  -- what is no audit passes
  passes-else : (k : Kind) → kind_of s.command ≡ k → (k ≡ Auditing → ⊥) → Passes s job
  passes-else k is other audits = absurd (other (sym is ∙ audits))

  abbrev Own : Kind → (List OutText → Type 0) → Type 0
  Own k Holds = (lines : List OutText) × AreWatchLinesBy k s job s.iterations lines × Passes s job × Holds (lines ++ texts_by k s job)

  owned : (Holds : List OutText → Type 0) → Own (kind_of s.command) Holds → HasItsTexts s job Holds
  owned Holds own = record { watched = own.0; by_rule = own.1; passes = own.2; holds = own.3 }

  module _ (texts : List OutText) where
    -- those of work without watch lines
    but-watch-same : (k : Kind) → kind_of s.command ≡ k → (work_by k).texts s job texts → Passes s job → AreWatchLinesBy k s job s.iterations []
        → but_watch texts ≡ but_watch (texts_by k s job)
    but-watch-same k is are passes none =
        let whole : AreTexts s.command s job texts = subst (λ (x : Kind). (work_by x).texts s job texts) (sym is) are in
        let own : AreTexts s.command s job (texts_by k s job) = subst (λ (x : Kind). (work_by x).texts s job (texts_by k s job)) (sym is) (texts-are k [] is passes none) in
        (texts_are_determined laws (scenarios_stand_alone laws) s job texts (texts_by k s job) whole own).but_watch_lines

    own-by : (Holds : List OutText → Type 0) (k : Kind) → kind_of s.command ≡ k → (work_by k).texts s job texts → Holds texts → Own k Holds
    own-by Holds Assigning is a holds = (
      a.watched,
      own-lines s (traffic_of job) good.in_range traffic-is texts a,
      passes-else Assigning is (λ e. cc),
      subst Holds (own-texts s (traffic_of job) good.in_range traffic-is texts a) holds,
    )
    own-by Holds Skimming is a holds =
        let passes = passes-else Skimming is (λ e. cc) in
        ([], refl, passes, subst Holds (a.texts_are ∙ sym (ap but_watch a.texts_are) ∙ but-watch-same Skimming is a passes refl) holds)
    own-by Holds Sweeping is a holds =
        let passes = passes-else Sweeping is (λ e. cc) in
        ([], refl, passes, subst Holds (a.texts_are ∙ sym (ap but_watch a.texts_are) ∙ but-watch-same Sweeping is a passes refl) holds)
    own-by Holds Auditing is a holds = ([], refl, λ _. verdict-is verdict.Yes a.passes, subst Holds a.texts_are holds)
    own-by Holds FreeFlow is a holds = ([], refl, passes-else FreeFlow is (λ e. cc), subst Holds a holds)

    pub own-texts-of : (Holds : List OutText → Type 0) → AreTexts s.command s job texts → Holds texts → HasItsTexts s job Holds
    own-texts-of Holds are holds = owned Holds (own-by Holds (kind_of s.command) refl are holds)

    -- texts that were cut off, as far as the work came
    cut-by : (before after : Taken) (k : Kind) → kind_of s.command ≡ k → (work_by k).so_far s job texts → IsCutOff texts before after → Own k (λ own. IsCutOff own before after)
    cut-by before after Assigning is (inl a) cut = own-by (λ own. IsCutOff own before after) Assigning is a cut
    cut-by before after Assigning is (inr w) cut =
        let all = watched-cut s (traffic_of job) good.in_range traffic-is texts before after w cut in
        (all.0, all.1, passes-else Assigning is (λ e. cc), cut-sooner all.0 (texts_by Assigning s job) before after all.2)
    cut-by before after k is are cut = own-by (λ own. IsCutOff own before after) k is are cut

    pub cut-of : (before after : Taken) → AreTextsSoFar s.command s job texts → IsCutOff texts before after → HasItsTexts s job (λ own. IsCutOff own before after)
    cut-of before after are cut = owned (λ own. IsCutOff own before after) (cut-by before after (kind_of s.command) refl are cut)

    -- watch lines, where memory was wanting
    watched-by : (k : Kind) → (work_by k).watched s job texts → (n : ℕ) × (n ≤ s.iterations) × AreWatchLinesBy k s job n texts
    watched-by Assigning w = (length w.routes, w.few, watched-are s (traffic_of job) good.in_range traffic-is texts w)
    watched-by k none = (0, omega arith, none)

    pub watched-of : AreWatchedSoFar s.command s job texts → (n : ℕ) × (n ≤ s.iterations) × AreWatchLinesOf s job n texts
    watched-of w = watched-by (kind_of s.command) w

  -- there are watch lines
  plain-by : (k : Kind) → (lines : List OutText) × AreWatchLinesBy k s job s.iterations lines
  plain-by Assigning =
      let routes = routes_until s (traffic_of job) s.iterations in
      (watch_texts s (traffic_of job) 1 routes, plain-lines s (traffic_of job) good.in_range traffic-is 1 routes)
  plain-by k = ([], refl)

  -- ---- loadings
  sound-by : (k : Kind) → kind_of s.command ≡ k → HasSoundLoadingsBy k s job
  sound-by Assigning is = soundly-loaded s (traffic_of job) good.in_range traffic-is
  sound-by Sweeping is = swept-soundly s job good.in_range good.sound (good.sound.sweep is)
  sound-by Auditing is = λ passes. audited-soundly s job good.in_range good.sound (passes is)
  sound-by k is = tt

  pub loads-are-sound : HasSoundLoadings s job
  loads-are-sound = sound-by (kind_of s.command) refl

pub each_job_has_its_texts : EachJobHasItsTexts
each_job_has_its_texts = record {
  accepted = accepted_are_sound;
  has = λ s job texts good own. has s job good texts own;
  no_others = λ s job texts good are. own-texts-of s job good texts (λ own. texts ≡ own) are refl;
  watched = λ s job good. plain-by s job good (kind_of s.command);
  audited = audited;
  iterated = λ s traffic settings good. sound-iterations s traffic settings good.net good.trips;
}
