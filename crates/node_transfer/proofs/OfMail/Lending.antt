-- One round of a loop over the places of a node's links: the next place, its link, and the mail of it.
use Rattle.std.specs.Prelude.{slice_get}
use Rattle.std.proofs.Common.{◌≡◌, ℕ, ◌+◌, ◌<◌, ◌≤◌, List, length, ap, sym, ◌∙◌, arith, Option, Some, take, get_or}
use Rattle.std.proofs.lemmas.Option.{slice_get-get_or}
use Rattle.net_core.specs.Network.{as_links}
use Rattle.net_core.specs.declared.rows.LinkNo.{LinkNo}
use Rattle.dta_model.specs.declared.plan.Plan.{Plan}
use Rattle.cell_stages.specs.CellState.{CellState}
use Rattle.cell_stages.specs.Contents.{away}
use Rattle.node_transfer.specs.Exchange.{AreMail, ChangesOnly}
use Rattle.cell_stages.specs.declared.mail.Mail.{Mail}
use Rattle.cell_stages.specs.declared.mail.Mail.TheVariants.{Away}
use Rattle.node_transfer.proofs.OfMail.Exchanges.{all-places, emptied-next, filled-next, next-away, replaced, told-next}
use Rattle.node_transfer.proofs.OfMail.ListPlaces.{link-here, links-count, not-before}
use Rattle.node_transfer.proofs.OfMail.Parts.{IsMadeOf}
use Rattle.node_transfer.proofs.OfMail.Puts.{among-links}

-- the link at a place
abbrev pub link_of : List LinkNo → ℕ → ℕ
link_of ls j = (get_or ls j (record { 0 = 0 })).0

pub one-mail : (x y : Mail) → Some x ≡ Some y → x ≡ y
one-mail x y h = cc

-- a place whose mail is known is there
module _ {p : Plan} {n : ℕ} {ends : ℕ → ℕ} {links : List ℕ} {cell : (ℕ → Mail) → CellState} {put : ℕ → Mail → CellState → CellState} {told : ℕ → CellState → Option Mail}
    (made : IsMadeOf p n ends links cell put told) (F : ℕ → Mail) (ls : List LinkNo) (are : ls ≡ as_links links) (j : ℕ) where
  pub at-place : j < length ls → slice_get links j ≡ Some (link_of ls j)
  at-place within = link-here links ls j (record { 0 = 0 }) are within

  pub past : length ls ≤ j → length links ≤ j
  past over = let count = ap (λ xs. length xs) are in let many = links-count links in omega (arith, over, count, many)

  -- the mail of the link is in the list
  pub mail-inside : j < length ls → (old ms : List Mail) → length old ≡ length p.net.links → ChangesOnly (take j links) old ms → link_of ls j < length ms
  mail-inside within old ms count changed =
      let inside = made.inside j (link_of ls j) (at-place within) in
      let same = changed.count in
      omega (arith, inside, count, same)

  -- that mail is still the one before the loop
  pub mail-here : j < length ls → (d : Mail) (old ms : List Mail) → length old ≡ length p.net.links → ChangesOnly (take j links) old ms → AreMail F links old → get_or ms (link_of ls j) d ≡ F (link_of ls j)
  mail-here within d old ms count changed own =
      let b = link_of ls j in
      let here = at-place within in
      one-mail (get_or ms b d) (F b)
      (sym (slice_get-get_or ms b d (mail-inside within old ms count changed)) ∙ changed.others b (not-before links j b made.once here) ∙ own b (among-links links j b here))

  -- the place is empty, or holds the mail
  pub is-away : j < length ls → (c : CellState) → c ≡ cell (replaced (take j links) F away) → told j c ≡ Some Away
  is-away within c is = next-away p n ends links cell put told made F j (link_of ls j) c (at-place within) is

  pub is-told : j < length ls → (c : CellState) → c ≡ cell (replaced (take j links) away F) → told j c ≡ Some (F (link_of ls j))
  is-told within c is = told-next p n ends links cell put told made F j (link_of ls j) c (at-place within) is

  -- one more place is filled, or emptied
  pub is-filled : j < length ls → (m : Mail) (c c' : CellState) → c ≡ cell (replaced (take j links) F away) → m ≡ F (link_of ls j) → c' ≡ put j m c → c' ≡ cell (replaced (take (j + 1) links) F away)
  is-filled within m c c' is same now = filled-next p n ends links cell put told made F j (link_of ls j) m c c' (at-place within) is same now

  pub is-emptied : j < length ls → (c c' : CellState) → c ≡ cell (replaced (take j links) away F) → c' ≡ put j Away c → c' ≡ cell (replaced (take (j + 1) links) away F)
  is-emptied within c c' is now = emptied-next p n ends links cell put told made F j (link_of ls j) c c' (at-place within) is now

  -- past the last place
  pub all-lent : length ls ≤ j → (c : CellState) → c ≡ cell (replaced (take j links) F away) → c ≡ cell F
  all-lent over c is = is ∙ all-places p n ends links cell put told made F F away j (past over)

  pub all-collected : length ls ≤ j → (c : CellState) → c ≡ cell (replaced (take j links) away F) → c ≡ cell away
  all-collected over c is = is ∙ all-places p n ends links cell put told made F away F j (past over)
