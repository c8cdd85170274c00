-- Whether links are a walk.
use Rattle.std.proofs.Common.{◌≡◌, ℕ, zero, suc, ◌<◌, ◌+◌, Bool, true, List, [], ◌∷◌, length, ap, sym, ◌∙◌, arith, Some, subst, IsTrue, ◌↔◌}
use Rattle.std.specs.Prelude.{All, IfSome, is_some, IsSome, slice_get}
use Rattle.std.proofs.lemmas.List.{get_or-map, length-map}
use Rattle.std.proofs.lemmas.List.Elements.{All-from_get_or, All-get_or}
use Rattle.std.proofs.lemmas.Option.{slice_get_within}
use Rattle.net_core.specs.Network.{IsNet, link_at, turn}
use Rattle.net_core.specs.Rows.{IsBetween, link_in, or_no_link}
use Rattle.net_core.specs.declared.rows.LinkNo.{LinkNo}
use Rattle.net_core.specs.declared.rows.LinkRow.{LinkRow}
use Rattle.net_core.specs.declared.rows.NetRows.{NetRows}
use Rattle.dta_model.proofs.Steady.{all_at}
use Rattle.dta_model.specs.Plans.{link_numbers}
use Rattle.dta_model.specs.Walks.{begins_in, IsWalk}
use Rattle.start_table.specs.Names.{EndsRight, TurnsOn}

-- the row of a link, and the nodes at its ends
pub row_is : (net : NetRows) (l : ℕ) (row : LinkRow) → slice_get net.links l ≡ Some row → row ≡ link_at net l
unfolding link_in
row_is net l row e = sym (ap or_no_link e)

pub row_joins : (net : NetRows) (l : ℕ) (row : LinkRow) → IsNet net → slice_get net.links l ≡ Some row → IsBetween net.nodes row
row_joins net l row is e = all_at (IsBetween net.nodes) net.links l row is.between e

-- places of links and of their numbers
pub number_at : (links : List LinkNo) (i : ℕ) (l : LinkNo) → slice_get links i ≡ Some l → slice_get (link_numbers links) i ≡ Some l.0
number_at [] i l e = cc
number_at (x ∷ links) zero l e = let same : x ≡ l = cc in ap (λ w. Some w.0) same
number_at (x ∷ links) (suc i) l e = number_at links i l e

pub numbers_many : (links : List LinkNo) → length (link_numbers links) ≡ length links
numbers_many links = length-map links (λ l. l.0)

same_some : {X : Type 0} (a b : X) → Some a ≡ Some b → a ≡ b
same_some a b e = cc

-- ---- a place of a walk
pub turns_here : (net : NetRows) (links : List LinkNo) (i : ℕ) (a b : LinkNo) (r : Bool) → slice_get links i ≡ Some a → slice_get links (i + 1) ≡ Some b → r ≡ is_some (turn net a.0 b.0) → IsTrue r ↔ TurnsOn net (link_numbers links) i
turns_here net links i a b r ea eb is = (forth, back)
  where
    there : slice_get (link_numbers links) (suc i) ≡ Some b.0
    there = let up : suc i ≡ i + 1 = omega arith in ap (λ n. slice_get (link_numbers links) n) up ∙ number_at links (i + 1) b eb

    forth : IsTrue r → TurnsOn net (link_numbers links) i
    forth t x y ex ey =
        let ax : a.0 ≡ x = same_some a.0 x (sym (number_at links i a ea) ∙ ex) in
        let by : b.0 ≡ y = same_some b.0 y (sym there ∙ ey) in
        subst (λ n. IsSome (turn net n y)) ax (subst (λ n. IsSome (turn net a.0 n)) by (sym is ∙ t))

    back : TurnsOn net (link_numbers links) i → IsTrue r
    back h = is ∙ h a.0 b.0 (number_at links i a ea) there

-- ---- the whole walk
numbers_within : (n : ℕ) (links : List LinkNo) → All (λ l. l.0 < n) links → All (λ l. l < n) (link_numbers links)
numbers_within n links all = All-from_get_or (λ l. l < n) (link_numbers links) 0 (λ i h.
    let many = numbers_many links in
    let inside : i < length links = omega (arith, h, many) in
    let is = get_or-map (λ (l : LinkNo). l.0) links i (record { 0 = 0 }) 0 inside in
    let here = All-get_or (λ (l : LinkNo). l.0 < n) links i (record { 0 = 0 }) inside all in
    rw is here)

pub walk_is : (net : NetRows) (o d : ℕ) (links : List LinkNo) (first : LinkNo) → slice_get links 0 ≡ Some first → All (λ l. l.0 < length net.links) links → begins_in net o first.0 ≡ true
    → ((i : ℕ) → i < length links → TurnsOn net (link_numbers links) i) → ((i : ℕ) → i < length links → EndsRight net d (link_numbers links) i) → IsWalk net o d (link_numbers links)
walk_is net o d links first e all begins turns ends = record {
  some = let many = numbers_many links in let within = slice_get_within links 0 first e in omega (arith, many, within);
  links = numbers_within (length net.links) links all;
  begins = subst (λ x. IfSome x (λ l. begins_in net o l ≡ true)) (sym (number_at links 0 first e)) begins;
  turns = λ i a b ea eb. (let many = numbers_many links in let within = slice_get_within (link_numbers links) i a ea in turns i (omega (arith, many, within)) a b ea eb);
  ends = λ i l el. (let many = numbers_many links in let within = slice_get_within (link_numbers links) i l el in ends i (omega (arith, many, within)) l el);
}
