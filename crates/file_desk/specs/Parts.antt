-- What one read gives of a file, and one write adds to it. Bytes are told, or not told (`None`):
-- what is told stays told.
use Rattle.std.specs.Prelude.{ℕ, ◌≡◌, ◌<◌, ◌≤◌, List, length, take, Option, Result, IfOk, OnErr}
use Rattle.std.specs.Io.KnownBytes.{IsAtEnd, append_known, prepend_known}

-- the first bytes of what was left were moved, none only at the end, or the read failed and moved
-- none
pub record ReadsPart {E : Type 0} (buf : List ℕ) (before after : Option (List ℕ))
    (result : Result ℕ E) : Type 0 where
  pub count : IfOk result (λ n. n ≤ length buf)
  pub bytes : IfOk result (λ n. before ≡ prepend_known (take n buf) after)
  pub end : IfOk result (λ n. n ≡ 0 → 0 < length buf → IsAtEnd after)
  pub refused : OnErr result (after ≡ before)

-- a first part of the piece was added, some of a piece that isn't empty, or the write failed and
-- added nothing
pub record AddsPart {E : Type 0} (piece : List ℕ) (before after : Option (List ℕ))
    (result : Result ℕ E) : Type 0 where
  pub count : IfOk result (λ n. n ≤ length piece)
  pub some : IfOk result (λ n. 0 < length piece → 0 < n)
  pub bytes : IfOk result (λ n. after ≡ append_known before (take n piece))
  pub refused : OnErr result (after ≡ before)
