-- Items by number, one more item at a time.
use Rattle.std.proofs.Common.{◌≡◌, ◌≢◌, ℕ, ◌<◌, List, [], ◌∷◌, ◌++◌, length, ap, sym, ◌∙◌, refl, rules, set, get_or, true, false, nat_eq, append-nil}
use Rattle.std.specs.Prelude.{filter}
use Rattle.std.proofs.lemmas.List.{length-set, get_or-set_same, get_or-set_other}
use Rattle.std.proofs.lemmas.List.Elements.{filter-append}
use Rattle.net_core.specs.AreListed.{AreListed}

set-here : {T : Type 0} (lists : List (List T)) (m n : ℕ) (x : List T) → m ≡ n → m < length lists
    → get_or (set lists m (get_or lists m [] ++ x)) n [] ≡ get_or lists n [] ++ x
set-here lists m n x e b = rw (← e) (get_or-set_same lists m _ [] b)

-- the list of a number, after an item of some number
list-more : {T : Type 0} (lists : List (List T)) (number : T → ℕ) (items : List T) (item : T) (n : ℕ)
    → number item < length lists → get_or lists n [] ≡ filter (λ x. nat_eq (number x) n) items
    → get_or (set lists (number item) (get_or lists (number item) [] ++ item ∷ [])) n []
    ≡ filter (λ x. nat_eq (number x) n) (items ++ item ∷ [])
list-more lists number items item n b before =
    let here = number item in
    let more = filter-append (λ x. nat_eq (number x) n) items (item ∷ []) in
    elim (nat_eq here n) as (λ t. nat_eq here n ≡ t
    → get_or (set lists here (get_or lists here [] ++ item ∷ [])) n []
    ≡ filter (λ x. nat_eq (number x) n) (items ++ item ∷ [])) [
      | true ↦ λ t.
          let same : here ≡ n = search (rules, t) in
          set-here lists here n (item ∷ []) same b
          ∙ ap (λ l. l ++ item ∷ []) before
          ∙ sym (rw t at more)
      | false ↦ λ t.
          let apart : n ≢ here = (λ q. let z : nat_eq here n ≡ true = search (rules, sym q) in cc) in
          get_or-set_other lists here n _ [] apart
          ∙ before
          ∙ sym (append-nil _)
          ∙ sym (rw t at more)
    ] refl

-- an item goes to the end of the list of its number, and the other lists stay
pub listed-more : {T : Type 0} (lists : List (List T)) (bound : ℕ) (number : T → ℕ) (items : List T)
    (item : T) → number item < bound → AreListed lists bound number items
    → AreListed (set lists (number item) (get_or lists (number item) [] ++ item ∷ [])) bound number
    (items ++ item ∷ [])
listed-more lists bound number items item b g = record {
  bounded = length-set lists (number item) _ ∙ g.bounded;
  listed = λ n v. list-more lists number items item n (rw g.bounded b) (g.listed n v);
}
