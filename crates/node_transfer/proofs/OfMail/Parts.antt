-- The places for mail in a cell.
use Rattle.net_core.specs.Network as network
use Rattle.std.specs.Prelude.{nat_eq, slice_get, option_map, ◌≢◌}
use Rattle.std.proofs.Common.{◌≡◌, ℕ, zero, suc, ◌<◌, true, List, [], ◌∷◌, length, map, ap, sym, ◌∙◌, Option, Some}
use Rattle.std.proofs.lemmas.Bool.{eqb-true}
use Rattle.std.proofs.lemmas.List.{length-map}
use Rattle.dta_model.specs.Plans.{ins, link_at, outs}
use Rattle.dta_model.specs.Riders.{RiderState}
use Rattle.cell_stages.specs.Stages.{line_after, line_before, waiting_after, waiting_before}
use Rattle.dta_model.specs.declared.plan.Plan.{Plan}
use Rattle.dta_model.proofs.Queues.{distinct}
use Rattle.cell_stages.specs.CellState.{CellState}
use Rattle.node_transfer.specs.Places.{in_mail, in_mail_put, in_mailed, mail_of_in, mail_of_out, out_mail, out_mail_put, out_mailed, with_in_mail, with_out_mail}
use Rattle.cell_stages.specs.Contents.{cell_after, cell_before, in_link, left_after, left_before, out_link}
use Rattle.node_transfer.specs.Exchange.{is_among}
use Rattle.cell_stages.specs.declared.mail.Mail.{Mail}
use Rattle.node_transfer.proofs.OfStep.ByKey.{set-at}
use Rattle.node_transfer.proofs.OfStep.Movers.{distinct_filter, distinct_range}
use Rattle.node_transfer.proofs.OfMail.Numbers.{any-below, kept-below, same-kept}
use Rattle.node_transfer.proofs.OfMail.ListPlaces.{among-place, place-is}

-- a cell, made of the mail in the places of links: those that end or begin at its node
pub record IsMadeOf (p : Plan) (n : ℕ) (ends : ℕ → ℕ) (links : List ℕ) (cell : (ℕ → Mail) → CellState) (put : ℕ → Mail → CellState → CellState) (told : ℕ → CellState → Option Mail) : Type 0 where
  pub once : distinct links ≡ true
  pub member : (l : ℕ) → l < length p.net.links → is_among links l ≡ nat_eq (ends l) n
  pub inside : (j b : ℕ) → slice_get links j ≡ Some b → b < length p.net.links
  pub puts : (mail mail' : ℕ → Mail) (j b : ℕ) (m : Mail) → slice_get links j ≡ Some b → ((x : ℕ) → x ≢ b → mail x ≡ mail' x) → m ≡ mail' b → put j m (cell mail) ≡ cell mail'
  pub tells : (mail : ℕ → Mail) (j b : ℕ) → slice_get links j ≡ Some b → told j (cell mail) ≡ Some (mail b)
  pub same : (mail mail' : ℕ → Mail) → ((x : ℕ) → x < length p.net.links → ends x ≡ n → mail x ≡ mail' x) → cell mail ≡ cell mail'

pub got-map : {X Y : Type 0} (f : X → Y) (xs : List X) (j : ℕ) (b : X) → slice_get xs j ≡ Some b → slice_get (map f xs) j ≡ Some (f b)
got-map f [] j b e = cc
got-map f (x ∷ xs) zero b e = ap (λ o. option_map f o) e
got-map f (x ∷ xs) (suc j) b e = got-map f xs j b e

module _ (p : Plan) (n : ℕ) where
  pub outs-once : distinct (outs p n) ≡ true
  unfolding network.outs
  outs-once = distinct_filter (λ l. nat_eq (link_at p l).from.0 n) (network.numbers_below (length p.net.links)) (distinct_range (length p.net.links) 0)

  pub ins-once : distinct (ins p n) ≡ true
  unfolding network.ins
  ins-once = distinct_filter (λ l. nat_eq (link_at p l).to.0 n) (network.numbers_below (length p.net.links)) (distinct_range (length p.net.links) 0)

  pub outs-member : (l : ℕ) → l < length p.net.links → is_among (outs p n) l ≡ nat_eq (link_at p l).from.0 n
  unfolding network.outs
  outs-member l h = any-below (λ l. nat_eq (link_at p l).from.0 n) l (length p.net.links) h

  pub ins-member : (l : ℕ) → l < length p.net.links → is_among (ins p n) l ≡ nat_eq (link_at p l).to.0 n
  unfolding network.ins
  ins-member l h = any-below (λ l. nat_eq (link_at p l).to.0 n) l (length p.net.links) h

  pub outs-inside : (j b : ℕ) → slice_get (outs p n) j ≡ Some b → b < length p.net.links
  unfolding network.outs
  outs-inside j b e = kept-below (λ l. nat_eq (link_at p l).from.0 n) (length p.net.links) j b e

  pub ins-inside : (j b : ℕ) → slice_get (ins p n) j ≡ Some b → b < length p.net.links
  unfolding network.ins
  ins-inside j b e = kept-below (λ l. nat_eq (link_at p l).to.0 n) (length p.net.links) j b e

  pub outs-among : (l : ℕ) → is_among (outs p n) l ≡ true → l < length p.net.links
  outs-among l is_in = let stands = among-place (outs p n) l is_in in outs-inside stands.0 l stands.1

  pub outs-same : {X : Type 0} (f g : ℕ → X) → ((x : ℕ) → x < length p.net.links → (link_at p x).from.0 ≡ n → f x ≡ g x) → map f (outs p n) ≡ map g (outs p n)
  unfolding network.outs
  outs-same f g h = same-kept f g (λ l. nat_eq (link_at p l).from.0 n) (length p.net.links) (λ i below e. h i below (eqb-true (link_at p i).from.0 n e))

  pub ins-among : (l : ℕ) → is_among (ins p n) l ≡ true → l < length p.net.links
  ins-among l is_in = let stands = among-place (ins p n) l is_in in ins-inside stands.0 l stands.1

  pub ins-same : {X : Type 0} (f g : ℕ → X) → ((x : ℕ) → x < length p.net.links → (link_at p x).to.0 ≡ n → f x ≡ g x) → map f (ins p n) ≡ map g (ins p n)
  unfolding network.ins
  ins-same f g h = same-kept f g (λ l. nat_eq (link_at p l).to.0 n) (length p.net.links) (λ i below e. h i below (eqb-true (link_at p i).to.0 n e))

  -- the mail of one out-link is put
  outs-put : (t : ℕ) (line : ℕ → List RiderState) (mail mail' : ℕ → Mail) (j b : ℕ) (m : Mail) → slice_get (outs p n) j ≡ Some b → ((x : ℕ) → x ≢ b → mail x ≡ mail' x) → m ≡ mail' b
      → out_mailed j m (map (out_link p t line mail) (outs p n)) ≡ map (out_link p t line mail') (outs p n)
  outs-put t line mail mail' j b m e other here =
      ap (λ k. out_mailed k m (map (out_link p t line mail) (outs p n))) (sym (place-is (outs p n) j b outs-once e))
      ∙ set-at (out_link p t line mail) (out_link p t line mail') (out_mail_put m) b (outs p n) outs-once
      (λ x ne. ap (λ y. record (out_link p t line mail x) { mail = y }) (sym (other x ne)))
      (ap (λ y. record (out_link p t line mail b) { mail = y }) (sym here))

  ins-put : (line : ℕ → List RiderState) (left : ℕ → List ℕ) (mail mail' : ℕ → Mail) (j b : ℕ) (m : Mail) → slice_get (ins p n) j ≡ Some b → ((x : ℕ) → x ≢ b → mail x ≡ mail' x) → m ≡ mail' b
      → in_mailed j m (map (in_link p n line left mail) (ins p n)) ≡ map (in_link p n line left mail') (ins p n)
  ins-put line left mail mail' j b m e other here =
      ap (λ k. in_mailed k m (map (in_link p n line left mail) (ins p n))) (sym (place-is (ins p n) j b ins-once e))
      ∙ set-at (in_link p n line left mail) (in_link p n line left mail') (in_mail_put m) b (ins p n) ins-once
      (λ x ne. ap (λ y. record (in_link p n line left mail x) { mail = y }) (sym (other x ne)))
      (ap (λ y. record (in_link p n line left mail b) { mail = y }) (sym here))

  -- the four cells and their places
  pub outs-before : (t : ℕ) (ms : ℕ → Mail) → IsMadeOf p n (λ l. (link_at p l).from.0) (outs p n) (cell_before p n t ms) with_out_mail out_mail
  unfolding cell_before
  outs-before t ms = record {
    once = outs-once;
    member = outs-member;
    inside = outs-inside;
    puts = λ mail mail' j b m e other here. ap (λ os. record (cell_before p n t ms mail) { outs = os }) (outs-put t (waiting_before p t) mail mail' j b m e other here);
    tells = λ mail j b e. ap (λ o. option_map mail_of_out o) (got-map (out_link p t (waiting_before p t) mail) (outs p n) j b e);
    same = λ mail mail' h. ap (λ os. record (cell_before p n t ms mail) { outs = os }) (outs-same (out_link p t (waiting_before p t) mail) (out_link p t (waiting_before p t) mail') (λ x below at. ap (λ y. record (out_link p t (waiting_before p t) mail x) { mail = y }) (h x below at)));
  }

  pub outs-after : (t : ℕ) (ms : ℕ → Mail) → IsMadeOf p n (λ l. (link_at p l).from.0) (outs p n) (cell_after p n t ms) with_out_mail out_mail
  unfolding cell_after
  outs-after t ms = record {
    once = outs-once;
    member = outs-member;
    inside = outs-inside;
    puts = λ mail mail' j b m e other here. ap (λ os. record (cell_after p n t ms mail) { outs = os }) (outs-put (suc t) (waiting_after p n t) mail mail' j b m e other here);
    tells = λ mail j b e. ap (λ o. option_map mail_of_out o) (got-map (out_link p (suc t) (waiting_after p n t) mail) (outs p n) j b e);
    same = λ mail mail' h. ap (λ os. record (cell_after p n t ms mail) { outs = os }) (outs-same (out_link p (suc t) (waiting_after p n t) mail) (out_link p (suc t) (waiting_after p n t) mail') (λ x below at. ap (λ y. record (out_link p (suc t) (waiting_after p n t) mail x) { mail = y }) (h x below at)));
  }

  pub ins-before : (t : ℕ) (ms : ℕ → Mail) → IsMadeOf p n (λ l. (link_at p l).to.0) (ins p n) (λ mail. cell_before p n t mail ms) with_in_mail in_mail
  unfolding cell_before
  ins-before t ms = record {
    once = ins-once;
    member = ins-member;
    inside = ins-inside;
    puts = λ mail mail' j b m e other here. ap (λ is. record (cell_before p n t mail ms) { ins = is }) (ins-put (line_before p t) (left_before p t) mail mail' j b m e other here);
    tells = λ mail j b e. ap (λ o. option_map mail_of_in o) (got-map (in_link p n (line_before p t) (left_before p t) mail) (ins p n) j b e);
    same = λ mail mail' h. ap (λ is. record (cell_before p n t mail ms) { ins = is }) (ins-same (in_link p n (line_before p t) (left_before p t) mail) (in_link p n (line_before p t) (left_before p t) mail') (λ x below at. ap (λ y. record (in_link p n (line_before p t) (left_before p t) mail x) { mail = y }) (h x below at)));
  }

  pub ins-after : (t : ℕ) (ms : ℕ → Mail) → IsMadeOf p n (λ l. (link_at p l).to.0) (ins p n) (λ mail. cell_after p n t mail ms) with_in_mail in_mail
  unfolding cell_after
  ins-after t ms = record {
    once = ins-once;
    member = ins-member;
    inside = ins-inside;
    puts = λ mail mail' j b m e other here. ap (λ is. record (cell_after p n t mail ms) { ins = is }) (ins-put (line_after p n t) (left_after p n t) mail mail' j b m e other here);
    tells = λ mail j b e. ap (λ o. option_map mail_of_in o) (got-map (in_link p n (line_after p n t) (left_after p n t) mail) (ins p n) j b e);
    same = λ mail mail' h. ap (λ is. record (cell_after p n t mail ms) { ins = is }) (ins-same (in_link p n (line_after p n t) (left_after p n t) mail) (in_link p n (line_after p n t) (left_after p n t) mail') (λ x below at. ap (λ y. record (in_link p n (line_after p n t) (left_after p n t) mail x) { mail = y }) (h x below at)));
  }

  pub ins-count-before : (t : ℕ) (mail ms : ℕ → Mail) → length (cell_before p n t mail ms).ins ≡ length (ins p n)
  unfolding cell_before
  ins-count-before t mail ms = length-map (ins p n) (in_link p n (line_before p t) (left_before p t) mail)
