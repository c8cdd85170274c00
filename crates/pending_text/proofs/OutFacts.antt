-- Texts that go out one after another.
use Rattle.std.proofs.Common.{◌≡◌, ℕ, List, [], ◌∷◌, ◌++◌, refl, ap, sym, subst, ◌∙◌, inl, inr}
use Rattle.std.specs.Prelude.{Result, Ok, Err}
use Rattle.desk_io.specs.declared.desk.Output.{Output}
use Rattle.desk_io.specs.Desk.{Taken, grown}
use Rattle.desk_io.specs.State.{DeskState}
use Rattle.desk_io.specs.Transfers.{IsPartOut, Puts}
use Rattle.pending_text.specs.Outs.{IsCutOff, OutText, PutsAll, grown_by, text_to}

-- some texts went out, and then others
pub grown-append : (xs ys : List OutText) (t : Taken)
    → grown_by (xs ++ ys) t ≡ grown_by ys (grown_by xs t)
grown-append [] ys t = refl
grown-append (x ∷ xs) ys t = grown-append xs ys (grown x.to x.text t)

-- the second of two parts was cut off
pub cut-later : (xs ys : List OutText) (t after : Taken) → IsCutOff ys (grown_by xs t) after
    → IsCutOff (xs ++ ys) t after
cut-later [] ys t after cut = cut
cut-later (x ∷ xs) ys t after cut = inr (cut-later xs ys (grown x.to x.text t) after cut)

-- the first was
pub cut-sooner : (xs ys : List OutText) (t after : Taken) → IsCutOff xs t after
    → IsCutOff (xs ++ ys) t after
cut-sooner [] ys t after cut = absurd cut
cut-sooner (x ∷ xs) ys t after (inl part) = inl part
cut-sooner (x ∷ xs) ys t after (inr cut) =
    inr (cut-sooner xs ys (grown x.to x.text t) after cut)

-- what the outputs have taken after the texts of one more part
pub grown-more : (texts more : List OutText) (start before now : Taken)
    → before ≡ grown_by texts start → now ≡ grown_by more before
    → now ≡ grown_by (texts ++ more) start
grown-more texts more start before now old new =
    new ∙ ap (grown_by more) old ∙ sym (grown-append texts more start)

-- those of one more part were cut off
pub cut-more : (texts more : List OutText) (start before now : Taken)
    → before ≡ grown_by texts start → IsCutOff more before now
    → IsCutOff (texts ++ more) start now
cut-more texts more start before now old cut =
    cut-later texts more start now (subst (λ (t : Taken). IsCutOff more t now) old cut)

-- one text went out, or was cut off
pub grown-one : (o : Output) (text : List ℕ) (before now : Taken) → now ≡ grown o text before
    → now ≡ grown_by (text_to o text ∷ []) before
grown-one o text before now e = e

pub cut-one : (o : Output) (text : List ℕ) (before now : Taken) → IsPartOut o text before now
    → IsCutOff (text_to o text ∷ []) before now
cut-one o text before now part = inl part

-- a call that puts a text puts a list of one
pub puts-one : {T E : Type 0} (o : Output) (text : List ℕ) (before after : DeskState)
    (r : Result T E) → Puts o text before after r → PutsAll (text_to o text ∷ []) before after r
puts-one o text before after (Ok x) p =
    record { whole = p.whole; refused = tt; cause = p.cause; left = p.left; reads = p.reads }
puts-one o text before after (Err e) p =
    record { whole = tt; refused = inl p.refused; cause = p.cause; left = p.left; reads = p.reads }

pub ruleset parts = (grown-append, cut-later, cut-sooner, grown-one, cut-one)
