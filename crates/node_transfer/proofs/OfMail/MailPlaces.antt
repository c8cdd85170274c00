-- Mail in the places of cells.
use Rattle.std.specs.Prelude.{All, ◌≢◌}
use Rattle.std.proofs.Common.{◌≡◌, ℕ, suc, List, [], ◌∷◌, cond, map, refl, ap, sym, ◌∙◌}
use Rattle.std.proofs.lemmas.Bool.{eq-eqb, ne_eqb}
use Rattle.std.proofs.lemmas.List.Elements.{All-head, All-tail}
use Rattle.dta_model.specs.Plans.{ins, outs}
use Rattle.dta_model.specs.Riders.{RiderState}
use Rattle.cell_stages.specs.Stages.{line_after, line_before, waiting_after, waiting_before}
use Rattle.dta_model.specs.declared.plan.Plan.{Plan}
use Rattle.cell_stages.specs.Contents.{cell_after, cell_before, in_link, left_after, left_before, out_link}
use Rattle.node_transfer.specs.Laws.{MailGoesByLinks, put_mail}
use Rattle.cell_stages.specs.declared.in_link.InLink.{InLink}
use Rattle.cell_stages.specs.declared.mail.Mail.{Mail}
use Rattle.cell_stages.specs.declared.out_link.OutLink.{OutLink}
use Rattle.node_transfer.proofs.OfMail.Parts.{ins-after, ins-before, outs-after, outs-before}

-- the mail that is put at a link, and that of the others
put-here : (b : ℕ) (mail : Mail) (f : ℕ → Mail) → mail ≡ put_mail b mail f b
put-here b mail f = sym (ap (λ c. cond c mail (f b)) (eq-eqb b b refl))

put-other : (b : ℕ) (mail : Mail) (f : ℕ → Mail) (x : ℕ) → x ≢ b → f x ≡ put_mail b mail f x
put-other b mail f x other = sym (ap (λ c. cond c mail (f x)) (ne_eqb x b other))

same_all : {Y : Type 0} (make : Mail → ℕ → Y) (f f' : ℕ → Mail) (xs : List ℕ) → All (λ x. f x ≡ f' x) xs → map (λ x. make (f x) x) xs ≡ map (λ x. make (f' x) x) xs
same_all make f f' [] a = refl
same_all make f f' (x ∷ xs) a =
    ap (λ m. make m x ∷ map (λ x. make (f x) x) xs) (All-head (λ x. f x ≡ f' x) x xs a)
    ∙ ap (λ ys. make (f' x) x ∷ ys) (same_all make f f' xs (All-tail (λ x. f x ≡ f' x) x xs a))

abbrev in_made : Plan → ℕ → (ℕ → List RiderState) → (ℕ → List ℕ) → Mail → ℕ → InLink
in_made p n line left mail l = in_link p n line left (λ x. mail) l

abbrev out_made : Plan → ℕ → (ℕ → List RiderState) → Mail → ℕ → OutLink
out_made p steps waiting mail b = out_link p steps waiting (λ x. mail) b

pub mail_goes_by_links : MailGoesByLinks
unfolding cell_before cell_after
mail_goes_by_links p n t = record {
  out_before = λ i b mail f g e. (outs-before p n t f).puts g (put_mail b mail g) i b mail e (put-other b mail g) (put-here b mail g);
  out_after = λ i b mail f g e. (outs-after p n t f).puts g (put_mail b mail g) i b mail e (put-other b mail g) (put-here b mail g);
  in_before = λ i l mail f g e. (ins-before p n t g).puts f (put_mail l mail f) i l mail e (put-other l mail f) (put-here l mail f);
  in_after = λ i l mail f g e. (ins-after p n t g).puts f (put_mail l mail f) i l mail e (put-other l mail f) (put-here l mail f);
  same_before = λ f f' g g' a b. ap (λ is. record (cell_before p n t f g) { ins = is }) (same_all (in_made p n (line_before p t) (left_before p t)) f f' (ins p n) a) ∙ ap (λ os. record (cell_before p n t f' g) { outs = os }) (same_all (out_made p t (waiting_before p t)) g g' (outs p n) b);
  same_after = λ f f' g g' a b. ap (λ is. record (cell_after p n t f g) { ins = is }) (same_all (in_made p n (line_after p n t) (left_after p n t)) f f' (ins p n) a) ∙ ap (λ os. record (cell_after p n t f' g) { outs = os }) (same_all (out_made p (suc t) (waiting_after p n t)) g g' (outs p n) b);
}
