-- Steps over the in-links of a cell.
use Rattle.std.proofs.Common.{◌≡◌, ℕ, zero, suc, ◌+◌, ◌<◌, ◌≤◌, List, [], ◌∷◌, ◌++◌, length, refl, ap, sym, subst, arith, drop, take, add-one}
use Rattle.std.specs.Prelude.{slice_set, slice_index_or, All}
use Rattle.std.specs.List.{sum_by}
use Rattle.std.proofs.lemmas.List.Sums.{sum_by-set, sum_by-cons, get_or-le-sum_by}
use Rattle.std.proofs.lemmas.List.Elements.{All-head, All-tail, All-cons, All-get_or}
use Rattle.dta_model.specs.Riders.{RiderState}
use Rattle.node_transfer.specs.Inside.Pass.{CanPass, Rides, total, held, out_links}
use Rattle.node_transfer.specs.Inside.Cells.{passed_link, CellWork, put_first, passed_links, CanCross, IsShut, cell_total}
use Rattle.node_transfer.specs.Inside.Lengths.{line_length, waiting_length}
use Rattle.cell_stages.specs.declared.in_link.InLink.{InLink}
use Rattle.cell_stages.specs.declared.out_link.OutLink.{OutLink}

abbrev pub behind : List InLink → CellWork → CellWork
behind done w = record w { ins = done ++ w.ins }

cross_suc : (step : ℕ) (xs : List InLink) (i : ℕ) (d link : InLink) (outs : List OutLink) (arrived : List RiderState) (outs' : List OutLink) (arrived' : List RiderState)
    → i < length xs → passed_link step (slice_index_or xs i d) outs arrived ≡ record { link = link; outs = outs'; arrived = arrived' }
    → behind (take i xs) (passed_links step (drop i xs) outs arrived) ≡ behind (take (suc i) (slice_set xs i link)) (passed_links step (drop (suc i) (slice_set xs i link)) outs' arrived')
unfolding passed_links
cross_suc step [] i d link outs arrived outs' arrived' h e = absurd (omega arith)
cross_suc step (x ∷ xs) zero d link outs arrived outs' arrived' h e = ap (λ w. put_first w.link (passed_links step xs w.outs w.arrived)) e
cross_suc step (x ∷ xs) (suc i) d link outs arrived outs' arrived' h e = ap (λ w. put_first x w) (cross_suc step xs i d link outs arrived outs' arrived' (omega arith) e)

pub cross_step : (step : ℕ) (xs : List InLink) (i : ℕ) (d link : InLink) (outs : List OutLink) (arrived : List RiderState) (outs' : List OutLink) (arrived' : List RiderState)
    → i < length xs → passed_link step (slice_index_or xs i d) outs arrived ≡ record { link = link; outs = outs'; arrived = arrived' }
    → behind (take i xs) (passed_links step (drop i xs) outs arrived) ≡ behind (take (i + 1) (slice_set xs i link)) (passed_links step (drop (i + 1) (slice_set xs i link)) outs' arrived')
cross_step step xs i d link outs arrived outs' arrived' h e = rw add-one (cross_suc step xs i d link outs arrived outs' arrived' h e)

pub cross_end : (step : ℕ) (xs : List InLink) (i : ℕ) (outs : List OutLink) (arrived : List RiderState) → length xs ≤ i → behind (take i xs) (passed_links step (drop i xs) outs arrived) ≡ record { ins = xs; outs = outs; arrived = arrived }
unfolding passed_links
cross_end step [] zero outs arrived h = refl
cross_end step [] (suc i) outs arrived h = refl
cross_end step (x ∷ xs) zero outs arrived h = absurd (omega arith)
cross_end step (x ∷ xs) (suc i) outs arrived h = ap (λ w. put_first x w) (cross_end step xs i outs arrived (omega arith))

-- one in-link of many
pub CanPass-one : (ins : List InLink) (outs : List OutLink) (arrived : List RiderState) (i : ℕ) (d : InLink) → i < length ins → CanCross ins outs arrived → CanPass (slice_index_or ins i d).line outs arrived
CanPass-one ins outs arrived i d h c = record {
  rides = All-get_or (λ link. All (Rides (out_links outs)) link.line) ins i d h c.rides;
  fits = let m = get_or-le-sum_by line_length ins i d h in let f = c.fits in omega arith;
}

pub shut-one : (ins : List InLink) (i : ℕ) (d : InLink) → i < length ins → All (λ link. IsShut link.exit) ins → IsShut (slice_index_or ins i d).exit
shut-one ins i d h a = All-get_or (λ (link : InLink). IsShut link.exit) ins i d h a

set_all : {X : Type 0} (P : X → Type 0) (xs : List X) (i : ℕ) (y : X) → All P xs → P y → All P (slice_set xs i y)
set_all P [] i y a p = a
set_all P (x ∷ xs) zero y a p = All-cons P y xs p (All-tail P x xs a)
set_all P (x ∷ xs) (suc i) y a p = All-cons P x (slice_set xs i y) (All-head P x xs a) (set_all P xs i y (All-tail P x xs a) p)

pub CanCross-one : (ins : List InLink) (outs : List OutLink) (arrived : List RiderState) (i : ℕ) (d link : InLink) (outs' : List OutLink) (arrived' : List RiderState) → i < length ins
    → CanCross ins outs arrived → CanPass link.line outs' arrived' → IsShut link.exit → out_links outs' ≡ out_links outs → total link.line outs' arrived' ≤ total (slice_index_or ins i d).line outs arrived
    → CanCross (slice_set ins i link) outs' arrived'
CanCross-one ins outs arrived i d link outs' arrived' h c p s ls t = record {
  rides = set_all (λ x. All (Rides (out_links outs')) x.line) ins i link (subst (λ l. All (λ x. All (Rides l) x.line) ins) (sym ls) c.rides) p.rides;
  shut = set_all (λ x. IsShut x.exit) ins i link c.shut s;
  fits = let f = c.fits in let s = sum_by-set line_length ins i link d h in omega arith;
}

pub cross_total : (ins : List InLink) (outs : List OutLink) (arrived : List RiderState) (i : ℕ) (d link : InLink) (outs' : List OutLink) (arrived' : List RiderState) → i < length ins
    → total link.line outs' arrived' ≤ total (slice_index_or ins i d).line outs arrived
    → cell_total (slice_set ins i link) outs' arrived' ≤ cell_total ins outs arrived
cross_total ins outs arrived i d link outs' arrived' h t = let s = sum_by-set line_length ins i link d h in omega arith

pub waiting_le : (outs : List OutLink) → sum_by waiting_length outs ≤ sum_by held outs
waiting_le [] = omega arith
waiting_le (o ∷ outs) = let h = waiting_le outs in omega (arith, sum_by-cons held o outs, sum_by-cons waiting_length o outs)
