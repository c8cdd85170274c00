-- A table of free-flow times has the network's links, and one of a loading no number above the
-- longest horizon.
use Rattle.std.proofs.Common.{◌≡◌, ℕ, ◌<◌, ◌≤◌, List, length, ap, sym, ◌∙◌, subst, arith}
use Rattle.std.specs.Prelude.{All}
use Rattle.std.proofs.lemmas.List.{get_or-map, length-map}
use Rattle.net_core.specs.Network.{IsNet}
use Rattle.net_core.specs.Rows.{no_link}
use Rattle.net_core.specs.declared.rows.NetRows.{NetRows}
use Rattle.dta_model.specs.LinkTimes.{TimeTable, free_steps, free_table, table_in, table_of}
use Rattle.dta_model.specs.declared.loading.TheConstants.{MOST_HORIZON}
use Rattle.dta_model.specs.declared.plan.Plan.{Plan}
use Rattle.link_times.specs.TimeTables.{IsShort}

free-short : (net : NetRows) → IsNet net → All (λ x. x ≤ MOST_HORIZON) (free_steps net)
free-short net sound k d h =
    let long : length (free_steps net) ≡ length net.links = length-map net.links (λ link. link.free) in
    let inside : k < length net.links = omega (arith, h, long) in
    let range = sound.links.range k no_link inside in
    let is = get_or-map (λ link. link.free) net.links k no_link d inside in
    let low = range.free in
    omega (arith, is, low)

-- the free-flow table has the steps of each link
pub free_many : (t : TimeTable) (net : NetRows) (bucket horizon : ℕ) → t ≡ free_table net bucket horizon → length t.free ≡ length net.links
unfolding free_table
free_many t net bucket horizon is = ap (λ x. length x.free) is ∙ length-map net.links (λ link. link.free)

-- the table of a loading has them too, and is short
pub many-of : (p : Plan) (bucket : ℕ) (t : TimeTable) → t ≡ table_of p bucket → length t.free ≡ length p.net.links
unfolding table_in
many-of p bucket t is = ap (λ (x : TimeTable). length x.free) is ∙ length-map p.net.links (λ link. link.free)

pub short-of : (p : Plan) (bucket : ℕ) (t : TimeTable) → IsNet p.net → t ≡ table_of p bucket → All (λ x. x ≤ MOST_HORIZON) t.times → IsShort t
unfolding table_in
short-of p bucket t sound is times = record {
  times = times;
  free = subst (λ (l : List ℕ). All (λ x. x ≤ MOST_HORIZON) l) (sym (ap (λ (x : TimeTable). x.free) is)) (free-short p.net sound);
}
