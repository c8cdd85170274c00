-- The free-flow steps of links.
use Rattle.std.specs.Prelude.{slice_get, slice_index, All}
use Rattle.std.proofs.Common.{◌≡◌, ℕ, ◌+◌, ◌<◌, ◌≤◌, List, [], ◌∷◌, ◌++◌, length, map, take, arith, ap, sym, ◌∙◌, Some}
use Rattle.std.proofs.lemmas.List.{get_or-map, length-map, map-append, take_more}
use Rattle.std.proofs.lemmas.List.Elements.{All-map, All-weaker}
use Rattle.std.proofs.lemmas.Option.{get_or_from_slice_get, slice_get-get_or}
use Rattle.net_core.specs.Network.{IsNet, link_at}
use Rattle.net_core.specs.Rows.{IsLinkInRange, link_in, no_link, or_no_link}
use Rattle.net_core.specs.declared.rows.LinkRow.{LinkRow}
use Rattle.net_core.specs.declared.rows.NetRows.{NetRows}
use Rattle.net_core.specs.declared.rows.TheConstants.{MOST_LINKS}
use Rattle.dta_model.specs.declared.loading.TheConstants.{MOST_HORIZON}
use Rattle.dta_model.specs.LinkTimes.{free_steps}

pub steps_more : (links : List LinkRow) (i : ℕ) (row : LinkRow) (xs ys : List ℕ) → i < length links → xs ≡ map (λ link. link.free) (take i links) → slice_get links i ≡ Some row → ys ≡ xs ++ row.free ∷ [] → ys ≡ map (λ link. link.free) (take (i + 1) links)
steps_more links i row xs ys h so_far there more =
    more ∙ ap (λ L. L ++ row.free ∷ []) so_far
    ∙ sym (ap (map (λ link. link.free)) (take_more links i row h ∙ ap (λ x. take i links ++ x ∷ []) (get_or_from_slice_get links i row row there)) ∙ map-append (λ link. link.free) (take i links) (row ∷ []))

-- they are in range
pub steps_least : (net : NetRows) → IsNet net → All (λ f. 1 ≤ f) (free_steps net)
steps_least net sound = All-map (λ f. 1 ≤ f) (λ link. link.free) net.links (All-weaker IsLinkInRange (λ link. 1 ≤ link.free) (λ link r. r.moves) net.links sound.links.range)

pub steps_most : (net : NetRows) → IsNet net → All (λ f. f ≤ MOST_HORIZON) (free_steps net)
steps_most net sound = All-map (λ f. f ≤ MOST_HORIZON) (λ link. link.free) net.links (All-weaker IsLinkInRange (λ link. link.free ≤ MOST_HORIZON) (λ link r. let x = r.free in omega (arith, x)) net.links sound.links.range)

pub steps_few : (net : NetRows) → IsNet net → length (free_steps net) ≤ MOST_LINKS
steps_few net sound = let a = length-map net.links (λ link. link.free) in let b = sound.links.few in omega (arith, a, b)

pub steps_at : (net : NetRows) (l : ℕ) → l < length net.links → slice_index (free_steps net) l ≡ (link_at net l).free
unfolding link_in
steps_at net l h = get_or-map (λ link. link.free) net.links l no_link 0 h ∙ sym (ap (λ o. (or_no_link o).free) (slice_get-get_or net.links l no_link h))
