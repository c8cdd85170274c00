use Rattle.std.proofs.Common.{arith, ◌≡◌, ◌≤◌, ◌+◌, ◌++◌, ℕ, List, length, take, drop, ◌∙◌, length-take, length-drop}
use Rattle.std.proofs.lemmas.Grind.{common_steps}
use Rattle.std.proofs.lemmas.List.{take-append-le}
use Rattle.std.proofs.lemmas.Simd.{chunk-drop}
use Rattle.desk_io.proofs.source.Source.read.Goals as goal

-- what is left is the piece that was copied, and then what is left after it
moved : (bs rest : List ℕ) (at n : ℕ) → at + n ≤ length bs → drop at bs ≡ take n (take n (drop at bs) ++ rest) ++ drop (at + n) bs
moved bs rest at n within =
    let enough : n ≤ length (take n (drop at bs)) = simp (length-take, length-drop) (omega arith) in
    let same : take n (take n (drop at bs) ++ rest) ≡ take n (drop at bs) = take-append-le n _ rest enough ∙ grind (arith, common_steps) in
    grind (arith, common_steps, same, chunk-drop at n bs)

pub returns-clause-bytes : goal.returns-clause-bytes
returns-clause-bytes c =
    let n = c.min-count.result in
    let whole : c.self.inside.at + n ≤ length c.self.inside.bytes.items = grind (arith, common_steps) in
    let piece : c.copy_from_slice.new.self ≡ take n (drop c.self.inside.at c.self.inside.bytes.items) = grind (arith, common_steps) in
    rw (← c.self.view_is, piece) (moved _ _ _ n whole)
