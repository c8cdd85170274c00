-- Rows by their places.
use Rattle.std.proofs.Common.{◌≡◌, ℕ, suc, zero, ◌<◌, List, [], ◌∷◌, length, refl, arith, sym, subst}
use Rattle.std.specs.Prelude.{All, get_or}
use Rattle.net_core.specs.Rows.{link_in}
use Rattle.net_core.specs.declared.rows.LinkRow.{LinkRow}

pub link_in-get_or : (links : List LinkRow) (l : ℕ) (d : LinkRow) → l < length links
    → link_in links l ≡ get_or links l d
unfolding link_in
link_in-get_or [] l d b = absurd (omega arith)
link_in-get_or (x ∷ xs) zero d b = refl
link_in-get_or (x ∷ xs) (suc l) d b = link_in-get_or xs l d (omega arith)

-- what is so of all links is so of the link at a place
pub link_in-all : (P : LinkRow → Type 0) (links : List LinkRow) (l : ℕ) → l < length links
    → All P links → P (link_in links l)
link_in-all P links l b a = subst P (sym (link_in-get_or links l (link_in links l) b)) (a l (link_in links l) b)
