-- Each step keeps the rule of a board, and tells what it says.
use Rattle.std.proofs.Common.{arith, ◌≡◌, ◌≢◌, ℕ, zero, suc, List, [], ◌∷◌, ◌++◌, set}
use Rattle.std.proofs.Common.{true, false, true≢false, refl, sym, ap, ◌∙◌, subst, ⊎_elim}
use mathlib.Core.Option.{some, some-ne-none, some-injective}
use lib.ListN.{get_elem?}
use Rattle.crossbeam_utils.specs.Register.{Turns, Forks, Merges}
use Rattle.atomic_table.proofs.Lists.{at_set, at_snoc, set_again}
use Rattle.dta_model.specs.declared.eight.Eight.{Eight}
use Rattle.monitors.specs.declared.rule.View.{View}
use Rattle.monitors.specs.Posted.{last_of, zeros, IsPrefix, IsLater, StepsRise}
use Rattle.monitors.specs.Words.{words_of}
use Rattle.monitors.specs.Rule.{knowing, telling, nothing, Fits, Shows, Posts, Reads, Settles}
use Rattle.monitors.proofs.Lists.{IsPrefix-same, IsPrefix-nothing, IsPrefix-more}
use Rattle.monitors.proofs.Lists.{last_of-push, StepsRise-push}

off : {P : Type 0} → false ≡ true → P
off e = absurd (true≢false (sym e))

-- a pass that doesn't write, which knows and was told beginnings
reader : (writer : ℕ) (posted : List Eight) (by : ℕ) (pass : View)
    → pass.writes ≡ false → IsPrefix pass.seen posted → IsPrefix pass.told posted
    → Fits writer posted by pass
reader writer posted by pass quiet seen heard = record {
  alone = λ writes. off (sym quiet ∙ writes);
  all = λ writes. off (sym quiet ∙ writes);
  seen = seen;
  told = heard;
}

abbrev AllFit : ℕ → List Eight → List View → Type 0
AllFit writer posted views =
    (j : ℕ) (u : View) → get_elem? views j ≡ some u → Fits writer posted j u

abbrev OthersFit : ℕ → List Eight → List View → ℕ → Type 0
OthersFit writer posted views by =
    (j : ℕ) (u : View) → j ≢ by → get_elem? views j ≡ some u → Fits writer posted j u

-- every pass fits where the others do, and one of them becomes a pass that fits
fits_set : (writer : ℕ) (posted : List Eight) (views : List View) (by : ℕ) (w : View)
    → OthersFit writer posted views by → Fits writer posted by w
    → AllFit writer posted (set views by w)
fits_set writer posted views by w others mine j u e =
    let fits : ℕ × View → Type 0 = λ y. Fits writer posted y.0 y.1 in
    ⊎_elim
    (λ (x : (j ≡ by) × (w ≡ u)). subst fits (λ i. (sym x.0 i, x.1 i)) mine)
    (λ (x : (j ≢ by) × (get_elem? views j ≡ some u)). others j u x.0 x.1)
    (at_set views by j w u e)

-- every pass fits where the others do, and one more comes that fits
fits_snoc : (writer : ℕ) (posted : List Eight) (views : List View) (w : View)
    → AllFit writer posted views → ((j : ℕ) → Fits writer posted j w)
    → AllFit writer posted (views ++ w ∷ [])
fits_snoc writer posted views w others mine j u e =
    ⊎_elim
    (λ was. others j u was)
    (λ (same : w ≡ u). subst (Fits writer posted j) same (mine j))
    (at_snoc views w u j e)

pub opens : Shows (words_of zeros) (knowing true [] ∷ [])
opens = record {
  writer = 0;
  posted = [];
  rises = λ i j d below within. omega arith;
  last = refl;
  fits = one;
}
  where
    first : Fits 0 [] 0 (knowing true [])
    first = record {
      alone = λ _. refl;
      all = λ _. refl;
      seen = IsPrefix-nothing [];
      told = IsPrefix-nothing [];
    }

    one : AllFit 0 [] (knowing true [] ∷ [])
    one zero v e = subst (Fits 0 [] 0) (some-injective _ _ e) first
    one (suc by) v e = absurd (some-ne-none v (sym e))

pub posts : (by : ℕ) (v : View) (e : Eight) (ws : List ℕ)
    → v.writes ≡ true → ws ≡ words_of e → IsLater e v.seen → Turns Shows by v (λ _. ws) Posts
posts by v e ws writes is later =
    subst (λ (l : List ℕ). Turns Shows by v (λ _. l) Posts) (sym is) go
  where
    go : Turns Shows by v (λ _. words_of e) Posts
    go words views h at =
        let mine = h.fits by v at in
        let whole = mine.all writes in
        let grown = h.posted ++ e ∷ [] in
        let w : View = record v { seen = v.seen ++ e ∷ [] } in (
          w,
          record {
            writer = h.writer;
            posted = grown;
            rises = StepsRise-push h.posted e h.rises (subst (IsLater e) whole later);
            last = ap words_of (sym (last_of-push h.posted e));
            fits = fits_set h.writer grown views by w
                (λ j u apart f. let x = h.fits j u f in record {
                  alone = x.alone;
                  all = λ k. absurd (apart (x.alone k ∙ sym (mine.alone writes)));
                  seen = IsPrefix-more u.seen h.posted (e ∷ []) x.seen;
                  told = IsPrefix-more u.told h.posted (e ∷ []) x.told;
                })
                (record {
                  alone = λ _. mine.alone writes;
                  all = λ _. ap (λ l. l ++ e ∷ []) whole;
                  seen = subst
                      (λ (l : List Eight). IsPrefix (l ++ e ∷ []) grown)
                      (sym whole)
                      (IsPrefix-same grown);
                  told = IsPrefix-more v.told h.posted (e ∷ []) mine.told;
                });
          },
          refl,
        )

pub reads : (by : ℕ) (v : View) → v.writes ≡ false → Turns Shows by v (λ x. x) Reads
reads by v quiet words views h at =
    let mine = h.fits by v at in
    let w = knowing v.writes h.posted in (
      w,
      record {
        writer = h.writer;
        posted = h.posted;
        rises = h.rises;
        last = h.last;
        fits = fits_set h.writer h.posted views by w (λ j u _ e. h.fits j u e)
            (reader h.writer h.posted by w quiet
            (IsPrefix-same h.posted)
            (IsPrefix-nothing h.posted));
      },
      record { writes = refl; rises = h.rises; seen = mine.seen; told = mine.told; last = h.last },
    )

pub settles : (by : ℕ) (v : View) → v.writes ≡ true → Turns Shows by v (λ x. x) Settles
settles by v writes words views h at =
    let mine = h.fits by v at in
    let whole = mine.all writes in
    let w = knowing v.writes v.seen in (
      w,
      record {
        writer = h.writer;
        posted = h.posted;
        rises = h.rises;
        last = h.last;
        fits = fits_set h.writer h.posted views by w (λ j u _ e. h.fits j u e)
            (record {
              alone = mine.alone;
              all = mine.all;
              seen = mine.seen;
              told = IsPrefix-nothing h.posted;
            });
      },
      record {
        same = refl;
        rises = subst StepsRise (sym whole) h.rises;
        told = subst (IsPrefix v.told) (sym whole) mine.told;
        last = h.last ∙ ap (λ l. words_of (last_of l)) (sym whole);
      },
    )

pub parts : (by : ℕ) (v : View) → Forks Shows by v v (knowing false v.seen)
parts by v words views h at =
    let mine = h.fits by v at in
    let w = knowing false v.seen in
    record {
      writer = h.writer;
      posted = h.posted;
      rises = h.rises;
      last = h.last;
      fits = fits_snoc h.writer h.posted (set views by v) w
          (λ j u e. h.fits j u (subst (λ l. get_elem? l j ≡ some u) (set_again views by v at) e))
          (λ j. reader h.writer h.posted j w refl mine.seen (IsPrefix-nothing h.posted));
    }

pub tells : (by : ℕ) (v : View) (other : ℕ) (u : View)
    → Merges Shows by v other u (telling v u.seen) nothing
tells by v other u words views h at apart there =
    let w = telling v u.seen in
    let mine = h.fits by v at in
    let theirs = ⊎_elim
    (λ (t : (other ≡ by) × (w ≡ u)). absurd (apart t.0))
    (λ (t : (other ≢ by) × (get_elem? views other ≡ some u)). h.fits other u t.1)
    (at_set views by other w u there) in
    let hears : Fits h.writer h.posted by w =
    record { alone = mine.alone; all = mine.all; seen = mine.seen; told = theirs.seen } in
    let one : AllFit h.writer h.posted (set views by w) =
    fits_set h.writer h.posted views by w (λ j y _ e. h.fits j y e) hears in
    let empty : IsPrefix [] h.posted = IsPrefix-nothing h.posted in
    record {
      writer = h.writer;
      posted = h.posted;
      rises = h.rises;
      last = h.last;
      fits = fits_set h.writer h.posted (set views by w) other nothing
          (λ j y _ e. one j y e)
          (reader h.writer h.posted other nothing refl empty empty);
    }

pub ruleset keeps = (opens, reads, settles, parts, tells)
