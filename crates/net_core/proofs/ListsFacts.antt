-- One more item in a list of lists.
use Rattle.std.proofs.Common.{◌≡◌, ℕ, ◌<◌, List, [], ◌∷◌, ◌++◌, length, ap, sym, ◌∙◌, arith, map, set, get_or}
use Rattle.std.proofs.lemmas.List.{map-set, get_or-map, length-map}

pub pushed : {V T : Type 0} (f : V → List T) (lists : List V) (value : List (List T)) (i : ℕ) (old new : V)
    (x : T) → map f lists ≡ value → i < length value → old ≡ get_or lists i old → f new ≡ f old ++ x ∷ []
    → map f (set lists i new) ≡ set value i (get_or value i [] ++ x ∷ [])
pushed f lists value i old new x v b o n =
    let n1 : length (map f lists) ≡ length lists = length-map lists f in
    let n2 : length (map f lists) ≡ length value = ap length v in
    let within : i < length lists = omega arith in
    let before = ap f o ∙ sym (get_or-map f lists i old [] within) in
    let after = n ∙ ap (λ l. l ++ x ∷ []) before in
    rw (← v) (map-set f lists i new ∙ ap (λ l. set (map f lists) i l) after)
