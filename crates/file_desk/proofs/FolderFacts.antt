-- What a file that is made leaves as it was.
use Rattle.std.proofs.Common.{◌≡◌, ◌≢◌, ℕ, Bool, true, false, List, [], ◌∷◌, get_or, map, cond, rules, refl, ap, sym, ◌∙◌}
use Rattle.std.specs.Prelude.{None, Some}
use Rattle.std.proofs.Math.Dec.{eqb}
use Rattle.std.proofs.lemmas.Bool.{true≢false}
use Rattle.desk_io.specs.declared.desk.Table.TheVariants.{Node, Link, Movement, Demand, Start, Times}
use Rattle.desk_io.specs.declared.desk.Output.{Output}
use Rattle.desk_io.specs.declared.desk.Output.TheVariants.{Agent, LinkTime, OriginWait, Gap, Report, Watch, Skim, Counts, Sweep}
use Rattle.file_desk.specs.Folders.{Lies, Names, SameTables, no_bytes, with_name}
use Rattle.file_desk.specs.Names.{output_name, table_file}

pub no_bytes_with_name : (name : List ℕ) (made : Names) → no_bytes (with_name name made) ≡ no_bytes made
no_bytes_with_name name None = refl
no_bytes_with_name name (Some names) = refl

-- ---- no table has the name of an output

abbrev same : List ℕ → List ℕ → Bool
same [] [] = true
same (x ∷ xs) (y ∷ ys) = cond (eqb x y) (same xs ys) false
same _ _ = false

eqb-own : (n : ℕ) → eqb n n ≡ true
eqb-own n = search rules

same-own : (xs : List ℕ) → same xs xs ≡ true
same-own [] = refl
same-own (x ∷ xs) = ap (λ b. cond b (same xs xs) false) (eqb-own x) ∙ same-own xs

differ : (xs ys : List ℕ) → same xs ys ≡ false → xs ≢ ys
differ xs ys e h = true≢false (sym (same-own xs) ∙ ap (same xs) h ∙ e)

abbrev clashes : List ℕ → List Bool
clashes name = map (λ t. same (table_file t) name) (Node ∷ Link ∷ Movement ∷ Demand ∷ Start ∷ Times ∷ [])

abbrev none : List Bool
none = false ∷ false ∷ false ∷ false ∷ false ∷ false ∷ []

no-clash : (o : Output) → clashes (output_name o) ≡ none
no-clash Agent = refl
no-clash LinkTime = refl
no-clash OriginWait = refl
no-clash Gap = refl
no-clash Report = refl
no-clash Watch = refl
no-clash Skim = refl
no-clash Counts = refl
no-clash Sweep = refl

pub same-tables : (before after : List ℕ → Lies) (o : Output) → ((other : List ℕ) → other ≢ output_name o → after other ≡ before other) → SameTables before after
same-tables before after o rest =
    let e = no-clash o in
    record {
      node = rest _ (differ _ _ (ap (λ l. get_or l 0 true) e));
      link = rest _ (differ _ _ (ap (λ l. get_or l 1 true) e));
      movement = rest _ (differ _ _ (ap (λ l. get_or l 2 true) e));
      demand = rest _ (differ _ _ (ap (λ l. get_or l 3 true) e));
      start = rest _ (differ _ _ (ap (λ l. get_or l 4 true) e));
      times = rest _ (differ _ _ (ap (λ l. get_or l 5 true) e));
    }

pub ruleset folder_facts = (no_bytes_with_name, same-tables)
