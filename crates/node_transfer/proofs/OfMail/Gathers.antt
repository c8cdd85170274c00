-- A gather of one in-link after another, each over its mail where it stands.
use Rattle.std.specs.Prelude.{slice_get}
use Rattle.std.proofs.Common.{◌≡◌, ℕ, suc, ◌+◌, ◌<◌, ◌≤◌, List, [], length, map, refl, ap, sym, ◌∙◌, cond, Some, take, add-one}
use Rattle.std.proofs.lemmas.Bool.{eq-eqb, eqb-true}
use Rattle.dta_model.specs.Plans.{ins, link_at}
use Rattle.dta_model.specs.Sound.{IsSound}
use Rattle.dta_model.specs.declared.plan.Plan.{Plan}
use Rattle.cell_stages.specs.CellState.{CellState}
use Rattle.cell_stages.specs.Contents.{away, batch_of, cell_after, cell_before, in_link, left_after, left_before, room_of}
use Rattle.cell_stages.specs.Stages.{line_after, line_before}
use Rattle.cell_stages.specs.declared.in_link.InLink.{InLink}
use Rattle.cell_stages.specs.declared.mail.Mail.TheVariants.{Away}
use Rattle.node_transfer.specs.Gathered.{grown_by, room_told}
use Rattle.node_transfer.specs.Inside.Cells.{CanGather}
use Rattle.node_transfer.specs.Places.{changed_at}
use Rattle.node_transfer.proofs.OfMail.Exchanges.{replaced, replaced-here, replaced-other}
use Rattle.node_transfer.proofs.OfMail.ListPlaces.{not-before, place-is, take-all}
use Rattle.node_transfer.proofs.OfMail.Parts.{got-map, ins-inside, ins-member, ins-once, ins-same}
use Rattle.node_transfer.proofs.OfMail.Puts.{among-links}
use Rattle.node_transfer.proofs.OfStep.ByKey.{set-at}
use Rattle.node_transfer.proofs.OfStep.Gather.{in-can, in-gathers, in_after, outs-next}

-- an in-link after the transfer of a step, and before the next one
abbrev pub in_old : Plan → ℕ → ℕ → ℕ → InLink
in_old p n t = in_link p n (line_after p n t) (left_after p n t) away

abbrev in_new : Plan → ℕ → ℕ → ℕ → InLink
in_new p n t = in_link p n (line_before p (suc t)) (left_before p (suc t)) away

-- the cell after the transfer of a step, once those who come are on these in-links
unfoldable pub gathering : Plan → ℕ → ℕ → List ℕ → CellState
gathering p n t done =
    record (cell_after p n t away away) { ins = map (replaced done (in_new p n t) (in_old p n t)) (ins p n) }

pub none-gathered : (p : Plan) (n t : ℕ) → cell_after p n t away away ≡ gathering p n t []
unfolding gathering cell_after
none-gathered p n t = refl

module _ (p : Plan) (sound : IsSound p) (n t j b : ℕ) (here : slice_get (ins p n) j ≡ Some b) where
  below : b < length p.net.links
  below = ins-inside p n j b here

  ends : (link_at p b).to.0 ≡ n
  ends = eqb-true (link_at p b).to.0 n (sym (ins-member p n b below) ∙ among-links (ins p n) j b here)

  old-here : replaced (take j (ins p n)) (in_new p n t) (in_old p n t) b ≡ in_old p n t b
  old-here = ap (λ c. cond c (in_new p n t b) (in_old p n t b)) (not-before (ins p n) j b (ins-once p n) here)

  pub link-there : (c : CellState) → c ≡ gathering p n t (take j (ins p n)) → slice_get c.ins j ≡ Some (in_old p n t b)
  unfolding gathering
  link-there c is =
      ap (λ x. slice_get x.ins j) is
      ∙ got-map (replaced (take j (ins p n)) (in_new p n t) (in_old p n t)) (ins p n) j b here
      ∙ ap (λ x. Some x) old-here

  pub link-fits : CanGather (in_after p sound n t b)
  link-fits = in-can p sound n t b below ends

  pub mail-told : room_told t (batch_of p t b) (in_old p n t b) ≡ room_of p (suc t) b
  mail-told = ap (λ x. x.mail) (in-gathers p sound n t b below ends)

  new-here : grown_by (batch_of p t b) (in_old p n t b) ≡ in_new p n t b
  new-here = ap (λ (x : InLink). record x { mail = Away }) (in-gathers p sound n t b below ends)

  pub one-gathered : (c c' : CellState) → c ≡ gathering p n t (take j (ins p n)) → c' ≡ record c { ins = changed_at (grown_by (batch_of p t b)) j c.ins } → c' ≡ gathering p n t (take (j + 1) (ins p n))
  unfolding gathering
  one-gathered c c' is now =
      let links = ins p n in
      let f = replaced (take j links) (in_new p n t) (in_old p n t) in
      let f' = replaced (take (suc j) links) (in_new p n t) (in_old p n t) in
      let h = grown_by (batch_of p t b) in
      rw add-one
      (now ∙ ap (λ (x : CellState). record x { ins = changed_at h j x.ins }) is
      ∙ ap (λ is. record (cell_after p n t away away) { ins = is })
      (ap (λ k. changed_at h k (map f links)) (sym (place-is links j b (ins-once p n) here))
      ∙ set-at f f' h b links (ins-once p n) (λ x ne. sym (replaced-other links (in_new p n t) (in_old p n t) j b x here ne))
      (sym (replaced-here links (in_new p n t) (in_old p n t) j b here) ∙ sym (ap h old-here ∙ new-here))))

pub all-gathered : (p : Plan) (sound : IsSound p) (n t j : ℕ) (c : CellState) → length (ins p n) ≤ j → c ≡ gathering p n t (take j (ins p n)) → c ≡ cell_before p n (suc t) away away
unfolding gathering cell_after cell_before
all-gathered p sound n t j c over is =
    is
    ∙ ap (λ links. record (cell_after p n t away away) { ins = map (replaced links (in_new p n t) (in_old p n t)) (ins p n) }) (take-all (ins p n) j over)
    ∙ ap (λ is. record (cell_after p n t away away) { ins = is })
    (ins-same p n (replaced (ins p n) (in_new p n t) (in_old p n t)) (in_new p n t)
    (λ l below to. ap (λ c. cond c (in_new p n t l) (in_old p n t l)) (ins-member p n l below ∙ eq-eqb (link_at p l).to.0 n to)))
    ∙ ap (λ os. record (cell_before p n (suc t) away away) { outs = os }) (outs-next p sound n t)
