-- One round of a loop in which the mail of a node's links goes between held slots and the node's cell.
use Rattle.std.specs.Prelude.{nat_eq, slice_get, IsSome}
use Rattle.std.proofs.lemmas.Bool.{eq-eqb}
use Rattle.std.proofs.Common.{◌≡◌, ℕ, ◌+◌, ◌<◌, Bool, true, false, ◌||◌, List, [], ◌∷◌, length, refl, sym, ap, ◌∙◌, Option, Some}
use Rattle.atomic_table.specs.Table.{rest, turned}
use Rattle.atomic_table.specs.declared.shared.Seat.{Seat}
use Rattle.net_core.specs.Network.{as_links}
use Rattle.net_core.specs.declared.rows.LinkNo.{LinkNo}
use Rattle.dta_model.specs.Units.{mail_part, node_count}
use Rattle.dta_model.specs.declared.plan.Plan.{Plan}
use Rattle.cell_stages.specs.CellState.{CellState}
use Rattle.cell_stages.specs.Contents.{away}
use Rattle.cell_stages.specs.declared.mail.Mail as mail
use Rattle.node_transfer.specs.Exchange.{is_among}
use Rattle.node_transfer.specs.Halves.{leaving_cell, left_mail, links_of, taken_mail, taking_cell}
use Rattle.node_transfer.specs.declared.half.HalfStep.{HalfStep}
use Rattle.node_transfer.proofs.OfMail.Lending.{at-place, link_of}
use Rattle.node_transfer.proofs.OfMail.Parts.{IsMadeOf}
use Rattle.phase_claims.specs.Noted.{StaysAsItIs}
use Rattle.phase_claims.specs.PlacesHeld.{HoldsCell, HoldsMail, IsSameSeat, mail_place, mail_places, node_places}
use Rattle.phase_claims.specs.declared.part.Part.{Part}
use Rattle.phase_claims.specs.declared.part.Part.TheVariants.{Cell, Mail}
use Rattle.phase_claims.proofs.PlacesTurn.{first_is, midway, round, same_first}

pub stays : {V : Type 0} (a b c : Seat Part V) → IsSameSeat a b → IsSameSeat b c → IsSameSeat a c
stays a b c x y = record { table = y.table ∙ x.table; id = y.id ∙ x.id; view = y.view ∙ x.view }

-- the cell of a node is first among its places
pub cell_first : (p : Plan) (n : ℕ) (cell : CellState) (by : ℕ → mail.Mail) (links : List ℕ) (l : List (ℕ × Part)) → l ≡ node_places p n cell by links → HoldsCell n l
cell_first p n cell by links l e = (cell, e ∙ ap (λ xs. (n, Cell cell) ∷ rest xs) (sym e))

pub same_cell : (x y : CellState) → Cell x ≡ Cell y → x ≡ y
same_cell x y e = cc

pub cell_taken : (p : Plan) (n : ℕ) (cell c : CellState) (by : ℕ → mail.Mail) (links : List ℕ) (l : List (ℕ × Part)) → l ≡ node_places p n cell by links → l ≡ (n, Cell c) ∷ rest l → c ≡ cell
cell_taken p n cell c by links l e got = same_cell c cell (same_first n (Cell c) (Cell cell) l got (e ∙ ap (λ xs. (n, Cell cell) ∷ rest xs) (sym e)))

pub is_there : {X : Type 0} (o : Option X) (x : X) → o ≡ Some x → IsSome o
is_there o x e = rw e refl

same_mail : (x y : mail.Mail) → Mail x ≡ Mail y → x ≡ y
same_mail x y e = cc

module _ {p : Plan} {n : ℕ} {ends : ℕ → ℕ} {links : List ℕ} {cell : (ℕ → mail.Mail) → CellState} {put : ℕ → mail.Mail → CellState → CellState} {told : ℕ → CellState → Option mail.Mail}
    (made : IsMadeOf p n ends links cell put told) (F G : ℕ → mail.Mail) (ls : List LinkNo) (are : ls ≡ as_links links) (N : ℕ) (nodes : N ≡ node_count p) (z : List (ℕ × Part)) (j : ℕ) (within : j < length ls) where
  abbrev here : ℕ
  here = link_of ls j

  there : slice_get links j ≡ Some here
  there = at-place made F ls are j within

  abbrev Midway : ℕ → List (ℕ × Part)
  Midway k = midway (mail_place p F) (mail_place p G) z links k

  -- the mail of the next link is first
  pub first_mail : (l : List (ℕ × Part)) → l ≡ Midway j → l ≡ (N + here, Mail (F here)) ∷ rest l
  first_mail l is = first_is (mail_place p F) (mail_place p G) z links j here l there is ∙ ap (λ k. (k + here, Mail (F here)) ∷ rest l) (sym nodes)

  pub mail_first : (l : List (ℕ × Part)) → l ≡ Midway j → HoldsMail (N + here) l
  mail_first l is = (F here, first_mail l is)

  -- and other mail goes last in its place
  pub mail_round : (m : mail.Mail) (l l' : List (ℕ × Part)) → l ≡ Midway j → m ≡ G here → l' ≡ turned ((N + here, Mail m) ∷ rest l) → l' ≡ Midway (j + 1)
  mail_round m l l' is same now =
      round (mail_place p F) (mail_place p G) z links j here l l' there is
      (now ∙ ap (λ k. turned ((k + here, Mail m) ∷ rest l)) nodes ∙ ap (λ x. turned ((mail_part p here, Mail x) ∷ rest l)) same)

  -- that mail is by the rule
  pub mail_is : (l : List (ℕ × Part)) (m : mail.Mail) → l ≡ Midway j → l ≡ (N + here, Mail m) ∷ rest l → F here ≡ m
  mail_is l m is got = same_mail (F here) m (same_first (N + here) (Mail (F here)) (Mail m) l (first_mail l is) got)

same_places : (p : Plan) (F G : ℕ → mail.Mail) (links : List ℕ) → ((l : ℕ) → is_among links l ≡ true → F l ≡ G l) → mail_places p F links ≡ mail_places p G links
same_places p F G [] same = refl
same_places p F G (x ∷ links) same =
    ap (λ m. (mail_part p x, Mail m) ∷ mail_places p F links) (same x (ap (λ c. c || is_among links x) (eq-eqb x x refl)))
    ∙ ap (λ xs. mail_place p G x ∷ xs) (same_places p F G links (λ l later. same l (or_later (nat_eq x l) (is_among links l) later)))
  where
    or_later : (c d : Bool) → d ≡ true → (c || d) ≡ true
    or_later true d h = refl
    or_later false d h = h

-- a half that changes nothing leaves the places as they are
pub places_stay : (p : Plan) (h : HalfStep) → StaysAsItIs p h
    → node_places p h.node.0 (leaving_cell p h away) (left_mail p h) (links_of p h) ≡ node_places p h.node.0 (taking_cell p h away) (taken_mail p h) (links_of p h)
places_stay p h same =
    ap (λ s. node_places p h.node.0 s (left_mail p h) (links_of p h)) same.cell
    ∙ ap (λ xs. (h.node.0, Cell (taking_cell p h away)) ∷ xs) (same_places p (left_mail p h) (taken_mail p h) (links_of p h) same.mail)
