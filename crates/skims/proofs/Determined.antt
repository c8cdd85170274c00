-- A network, a table and starts have one skim.
use Rattle.trip_costs.specs.Timings.{Links}
use Rattle.std.proofs.Common.{◌≡◌, ℕ, ◌≤◌, List, [], ◌∷◌, refl, ap, sym, ◌∙◌, arith, Option, Some, None}
use Rattle.std.specs.List.{AllZip}
use Rattle.net_core.specs.Network.{zones}
use Rattle.net_core.specs.declared.rows.NetRows.{NetRows}
use Rattle.dta_model.specs.Least.{IsLeast}
use Rattle.labels.specs.ToZone.{TellsLeast}
use Rattle.skims.specs.Laws.{SkimsAreDetermined}
use Rattle.skims.specs.Skim.{IsEntryOf}
use Rattle.skims.specs.Questions.{Question, questions}
use Rattle.skims.specs.declared.skim_entry.SkimEntry.{SkimEntry}

zip-same : {A B : Type 0} (R : A → B → Type 0) (one : (x : A) (y z : B) → R x y → R x z → y ≡ z)
    (xs : List A) (ys zs : List B) → AllZip R xs ys → AllZip R xs zs → ys ≡ zs
zip-same R one [] [] [] h k = refl
zip-same R one [] (y ∷ ys) zs h k = absurd h
zip-same R one [] [] (z ∷ zs) h k = absurd k
zip-same R one (x ∷ xs) [] zs h k = absurd h
zip-same R one (x ∷ xs) (y ∷ ys) [] h k = absurd k
zip-same R one (x ∷ xs) (y ∷ ys) (z ∷ zs) h k =
    ap (λ a. a ∷ ys) (one x y z h.0 k.0) ∙ ap (λ as'. z ∷ as') (zip-same R one xs ys zs h.1 k.1)

no_more : (at : ℕ → ℕ → ℕ) (net : NetRows) (o d start a b : ℕ) → IsLeast at net o d start a
    → IsLeast at net o d start b → a ≤ b
no_more at net o d start a b x y =
    let low = x.none_less (y.some_walk.0) (y.some_walk.1) in
    let is = y.some_walk.2 in
    omega (arith, low, is)

least-same : (at : ℕ → ℕ → ℕ) (net : NetRows) (o d start : ℕ) (a b : Option ℕ)
    → TellsLeast (Links at) net o d start a → TellsLeast (Links at) net o d start b → a ≡ b
least-same at net o d start None None x y = refl
least-same at net o d start None (Some b) x y = absurd (x (y.some_walk.0) (y.some_walk.1))
least-same at net o d start (Some a) None x y = absurd (y (x.some_walk.0) (x.some_walk.1))
least-same at net o d start (Some a) (Some b) x y =
    let up = no_more at net o d start a b x y in
    let down = no_more at net o d start b a y x in
    let same : a ≡ b = omega (arith, up, down) in
    ap (λ t. Some t) same

abbrev entry_of : ℕ → ℕ → ℕ → Option ℕ → SkimEntry
entry_of o d start least = record { origin = o; destination = d; start = start; least = least }

same_entry : (a b : SkimEntry) → a.origin ≡ b.origin → a.destination ≡ b.destination
    → a.start ≡ b.start → a.least ≡ b.least → a ≡ b
same_entry a b p q r s =
    ap (λ x. entry_of x a.destination a.start a.least) p
    ∙ ap (λ x. entry_of b.origin x a.start a.least) q
    ∙ ap (λ x. entry_of b.origin b.destination x a.least) r
    ∙ ap (λ x. entry_of b.origin b.destination b.start x) s

entry-same : (at : ℕ → ℕ → ℕ) (net : NetRows) (question : Question) (a b : SkimEntry)
    → IsEntryOf at net question a → IsEntryOf at net question b → a ≡ b
entry-same at net question a b x y =
    same_entry a b (x.origin ∙ sym y.origin) (x.destination ∙ sym y.destination)
    (x.start ∙ sym y.start)
    (least-same at net question.origin question.destination question.start a.least b.least x.least
    y.least)

pub skims_are_determined : SkimsAreDetermined
skims_are_determined at net starts a b x y =
    zip-same (IsEntryOf at net) (entry-same at net) (questions (zones net.nodes) starts) a b x y
