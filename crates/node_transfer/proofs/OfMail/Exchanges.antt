-- Mail that is lent to the places of a cell, and collected from them.
use Rattle.std.specs.Prelude.{nat_eq, slice_get, ◌≢◌}
use Rattle.std.proofs.Common.{◌≡◌, ℕ, suc, ◌+◌, ◌≤◌, Bool, true, false, cond, ◌||◌, List, length, refl, ap, sym, ◌∙◌, Option, Some, take, add-one}
use Rattle.std.proofs.lemmas.Bool.{eq-eqb, ne_eqb}
use Rattle.dta_model.specs.declared.plan.Plan.{Plan}
use Rattle.cell_stages.specs.CellState.{CellState}
use Rattle.cell_stages.specs.Contents.{away}
use Rattle.node_transfer.specs.Exchange.{is_among}
use Rattle.cell_stages.specs.declared.mail.Mail.{Mail}
use Rattle.cell_stages.specs.declared.mail.Mail.TheVariants.{Away}
use Rattle.node_transfer.proofs.OfMail.ListPlaces.{among-next, not-before, take-all}
use Rattle.node_transfer.proofs.OfMail.Parts.{IsMadeOf}

-- what belongs to the links of a list by one rule, and what to the others by another
abbrev pub replaced : {X : Type 0} → List ℕ → (ℕ → X) → (ℕ → X) → ℕ → X
replaced links there others l = cond (is_among links l) (there l) (others l)

-- one more link whose mail is replaced
replaced-next : {X : Type 0} (links : List ℕ) (there others : ℕ → X) (j b l : ℕ) → slice_get links j ≡ Some b → replaced (take (suc j) links) there others l ≡ cond (nat_eq b l) (there l) (replaced (take j links) there others l)
replaced-next links there others j b l e = ap (λ c. cond c (there l) (others l)) (among-next links j b l e) ∙ by_two (nat_eq b l) (is_among (take j links) l)
  where
    by_two : (c d : Bool) → cond (c || d) (there l) (others l) ≡ cond c (there l) (cond d (there l) (others l))
    by_two true d = refl
    by_two false d = refl

pub replaced-here : {X : Type 0} (links : List ℕ) (there others : ℕ → X) (j b : ℕ) → slice_get links j ≡ Some b → there b ≡ replaced (take (suc j) links) there others b
replaced-here links there others j b e = sym (replaced-next links there others j b b e ∙ ap (λ c. cond c (there b) (replaced (take j links) there others b)) (eq-eqb b b refl))

pub replaced-other : {X : Type 0} (links : List ℕ) (there others : ℕ → X) (j b l : ℕ) → slice_get links j ≡ Some b → l ≢ b → replaced (take j links) there others l ≡ replaced (take (suc j) links) there others l
replaced-other links there others j b l e ne = sym (replaced-next links there others j b l e ∙ ap (λ c. cond c (there l) (replaced (take j links) there others l)) (ne_eqb b l (λ q. ne (sym q))))

module _ (p : Plan) (n : ℕ) (ends : ℕ → ℕ) (links : List ℕ) (cell : (ℕ → Mail) → CellState) (put : ℕ → Mail → CellState → CellState) (told : ℕ → CellState → Option Mail)
    (made : IsMadeOf p n ends links cell put told) (F : ℕ → Mail) where
  before-it : (there others : ℕ → Mail) (j b : ℕ) → slice_get links j ≡ Some b → replaced (take j links) there others b ≡ others b
  before-it there others j b e = ap (λ c. cond c (there b) (others b)) (not-before links j b made.once e)

  cell-next : (there others : ℕ → Mail) (j b : ℕ) → slice_get links j ≡ Some b → put j (there b) (cell (replaced (take j links) there others)) ≡ cell (replaced (take (suc j) links) there others)
  cell-next there others j b e =
      made.puts (replaced (take j links) there others) (replaced (take (suc j) links) there others) j b (there b) e
      (λ l ne. replaced-other links there others j b l e ne) (replaced-here links there others j b e)

  -- the place of the next link is empty, or has its mail
  pub next-away : (j b : ℕ) (c : CellState) → slice_get links j ≡ Some b → c ≡ cell (replaced (take j links) F away) → told j c ≡ Some Away
  next-away j b c e is = ap (λ x. told j x) is ∙ made.tells (replaced (take j links) F away) j b e ∙ ap (λ m. Some m) (before-it F away j b e)

  pub told-next : (j b : ℕ) (c : CellState) → slice_get links j ≡ Some b → c ≡ cell (replaced (take j links) away F) → told j c ≡ Some (F b)
  told-next j b c e is = ap (λ x. told j x) is ∙ made.tells (replaced (take j links) away F) j b e ∙ ap (λ m. Some m) (before-it away F j b e)

  -- one more place is filled, or emptied
  pub filled-next : (j b : ℕ) (m : Mail) (c c' : CellState) → slice_get links j ≡ Some b → c ≡ cell (replaced (take j links) F away) → m ≡ F b → c' ≡ put j m c → c' ≡ cell (replaced (take (j + 1) links) F away)
  filled-next j b m c c' e is same now =
      rw add-one (now ∙ ap (λ x. put j m x) is ∙ ap (λ x. put j x (cell (replaced (take j links) F away))) same ∙ cell-next F away j b e)

  pub emptied-next : (j b : ℕ) (c c' : CellState) → slice_get links j ≡ Some b → c ≡ cell (replaced (take j links) away F) → c' ≡ put j Away c → c' ≡ cell (replaced (take (j + 1) links) away F)
  emptied-next j b c c' e is now = rw add-one (now ∙ ap (λ x. put j Away x) is ∙ cell-next away F j b e)

  -- where all are filled, or emptied
  pub all-places : (there others : ℕ → Mail) (j : ℕ) → length links ≤ j → cell (replaced (take j links) there others) ≡ cell there
  all-places there others j over =
      made.same (replaced (take j links) there others) there
      (λ x below at. ap (λ xs. replaced xs there others x) (take-all links j over) ∙ ap (λ c. cond c (there x) (others x)) (made.member x below ∙ eq-eqb (ends x) n at))
