-- Rows with the windows of each, and their parts.
use Rattle.std.proofs.Common.{◌≡◌, ◌∙◌, ℕ, suc, ◌<◌, List, [], ◌∷◌, ◌++◌, length, nat_eq, refl, ap, arith, sym, subst}
use Rattle.std.specs.Prelude.{All}
use Rattle.std.specs.List.{IsDistinct}
use Rattle.std.proofs.lemmas.List.{length-append, length-map, map_push}
use Rattle.std.proofs.lemmas.List.Elements.{All-push}
use Rattle.net_core.specs.Ids.{pair_eq}
use Rattle.net_core.specs.Rates.{AreLinkWindows, AreWindows}
use Rattle.net_core.specs.Rows.{IsLinkInRange, IsTurnInRange, link_ids, turn_pairs}
use Rattle.net_core.specs.declared.rates.Window.{Window}
use Rattle.net_core.specs.declared.rows.LinkRow.{LinkRow}
use Rattle.net_core.specs.declared.rows.TheConstants.{MOST_LINKS, MOST_TURNS}
use Rattle.net_core.specs.declared.rows.TurnRow.{TurnRow}
use Rattle.gmns_tables.specs.RowsWithWindows.{AreLinkRows, AreTurnRows, rows_of, windows_of, with_windows}
use Rattle.gmns_tables.specs.declared.with_windows.WithWindows.{WithWindows}

-- the rows of rows with windows
pub rows_of_with : {R : Type 0} (rows : List R) (windows : List (List Window)) → length windows ≡ length rows
    → rows_of (with_windows rows windows) ≡ rows
rows_of_with [] windows same = refl
rows_of_with (row ∷ rows) [] same = absurd (omega arith)
rows_of_with (row ∷ rows) (ws ∷ windows) same =
    ap (λ xs. row ∷ xs) (rows_of_with rows windows (omega arith))

-- the windows of rows with windows
pub windows_of_with : {R : Type 0} (rows : List R) (windows : List (List Window)) → length windows ≡ length rows
    → windows_of (with_windows rows windows) ≡ windows
windows_of_with [] [] same = refl
windows_of_with [] (ws ∷ windows) same = absurd (omega arith)
windows_of_with (row ∷ rows) [] same = absurd (omega arith)
windows_of_with (row ∷ rows) (ws ∷ windows) same =
    ap (λ xs. ws ∷ xs) (windows_of_with rows windows (omega arith))

-- one more row with its windows
pub with_windows_push : {R : Type 0} (rows : List R) (windows : List (List Window)) (row : R) (ws : List Window)
    → length windows ≡ length rows
    → with_windows (rows ++ row ∷ []) (windows ++ ws ∷ []) ≡ with_windows rows windows ++ (record { row = row; windows = ws }) ∷ []
with_windows_push [] [] row ws same = refl
with_windows_push [] (vs ∷ windows) row ws same = absurd (omega arith)
with_windows_push (first ∷ rows) [] row ws same = absurd (omega arith)
with_windows_push (first ∷ rows) (vs ∷ windows) row ws same =
    ap (λ xs. (record { row = first; windows = vs }) ∷ xs) (with_windows_push rows windows row ws (omega arith))

-- as many rows with windows as rows
pub length_with_windows : {R : Type 0} (rows : List R) (windows : List (List Window)) → length windows ≡ length rows
    → length (with_windows rows windows) ≡ length rows
length_with_windows [] windows same = refl
length_with_windows (row ∷ rows) [] same = absurd (omega arith)
length_with_windows (row ∷ rows) (ws ∷ windows) same = ap suc (length_with_windows rows windows (omega arith))

pub ruleset parts = (rows_of_with, windows_of_with, with_windows_push, length_with_windows)

rows_of_push : {R : Type 0} (items : List (WithWindows R)) (item : WithWindows R) → rows_of (items ++ item ∷ []) ≡ rows_of items ++ item.row ∷ []
rows_of_push items item = map_push (λ (i : WithWindows _). i.row) items item

windows_of_push : {R : Type 0} (items : List (WithWindows R)) (item : WithWindows R) → windows_of (items ++ item ∷ []) ≡ windows_of items ++ item.windows ∷ []
windows_of_push items item = map_push (λ (i : WithWindows _). i.windows) items item

-- one more link
link_rows_push : (links : List (WithWindows LinkRow)) (link : WithWindows LinkRow) → AreLinkRows links
    → IsDistinct nat_eq (link_ids (rows_of links) ++ link.row.id ∷ []) → length links < MOST_LINKS → IsLinkInRange link.row → AreLinkWindows link.windows
    → AreLinkRows (links ++ link ∷ [])
link_rows_push links link are distinct room range windows =
    let rows = rows_of_push links link in
    let ids : link_ids (rows_of (links ++ link ∷ [])) ≡ link_ids (rows_of links) ++ link.row.id ∷ [] = ap link_ids rows ∙ map_push (λ (l : LinkRow). l.id) (rows_of links) link.row in
    record {
      rows = record {
        distinct = subst (IsDistinct nat_eq) (sym ids) distinct;
        few = omega (arith, length-map (links ++ link ∷ []) (λ (i : WithWindows LinkRow). i.row), length-append links (link ∷ []));
        range = subst (All IsLinkInRange) (sym rows) (All-push IsLinkInRange (rows_of links) link.row are.rows.range range);
      };
      windows = subst (All AreLinkWindows) (sym (windows_of_push links link)) (All-push AreLinkWindows (windows_of links) link.windows are.windows windows);
    }

-- one more turn
turn_rows_push : (turns : List (WithWindows TurnRow)) (turn : WithWindows TurnRow) → AreTurnRows turns
    → IsDistinct pair_eq (turn_pairs (rows_of turns) ++ (turn.row.a.0, turn.row.b.0) ∷ []) → length turns < MOST_TURNS → IsTurnInRange turn.row → AreWindows turn.windows
    → AreTurnRows (turns ++ turn ∷ [])
turn_rows_push turns turn are distinct room range windows =
    let rows = rows_of_push turns turn in
    let pairs : turn_pairs (rows_of (turns ++ turn ∷ [])) ≡ turn_pairs (rows_of turns) ++ (turn.row.a.0, turn.row.b.0) ∷ []
    = ap turn_pairs rows ∙ map_push (λ (t : TurnRow). (t.a.0, t.b.0)) (rows_of turns) turn.row in
    record {
      rows = record {
        distinct = subst (IsDistinct pair_eq) (sym pairs) distinct;
        few = omega (arith, length-map (turns ++ turn ∷ []) (λ (i : WithWindows TurnRow). i.row), length-append turns (turn ∷ []));
        range = subst (All IsTurnInRange) (sym rows) (All-push IsTurnInRange (rows_of turns) turn.row are.rows.range range);
      };
      windows = subst (All AreWindows) (sym (windows_of_push turns turn)) (All-push AreWindows (windows_of turns) turn.windows are.windows windows);
    }

-- what links keep after one more, in their two lists and their identifiers
pub link_pushed : (rows more : List LinkRow) (windows grown : List (List Window)) (ids ids_now : List ℕ) (link : WithWindows LinkRow)
    → (length windows ≡ length rows) × (ids ≡ link_ids (rows_of (with_windows rows windows))) × AreLinkRows (with_windows rows windows)
    → more ≡ rows ++ link.row ∷ [] → grown ≡ windows ++ link.windows ∷ [] → ids_now ≡ ids ++ link.row.id ∷ [] → IsDistinct nat_eq ids_now
    → length (with_windows rows windows) < MOST_LINKS → IsLinkInRange link.row → AreLinkWindows link.windows
    → (length grown ≡ length more) × (ids_now ≡ link_ids (rows_of (with_windows more grown))) × AreLinkRows (with_windows more grown)
link_pushed rows more windows grown ids ids_now link (same, index, are) is_more is_grown is_ids distinct room range given =
    let all = with_windows rows windows in
    let one : with_windows more grown ≡ all ++ link ∷ []
    = ap (λ (xs : List LinkRow). with_windows xs grown) is_more ∙ ap (with_windows (rows ++ link.row ∷ [])) is_grown ∙ with_windows_push rows windows link.row link.windows same in
    let now : ids_now ≡ link_ids (rows_of all) ++ link.row.id ∷ [] = is_ids ∙ ap (λ (xs : List ℕ). xs ++ link.row.id ∷ []) index in
    let fresh : IsDistinct nat_eq (link_ids (rows_of all) ++ link.row.id ∷ []) = subst (IsDistinct nat_eq) now distinct in (
      omega (arith, ap length is_more, ap length is_grown, length-append rows (link.row ∷ []), length-append windows (link.windows ∷ [])),
      now ∙ sym (ap (λ (xs : List (WithWindows LinkRow)). link_ids (rows_of xs)) one ∙ ap link_ids (rows_of_push all link) ∙ map_push (λ (l : LinkRow). l.id) (rows_of all) link.row),
      subst AreLinkRows (sym one) (link_rows_push all link are fresh room range given),
    )

-- what turns keep after one more
pub turn_pushed : (rows more : List TurnRow) (windows grown : List (List Window)) (pairs pairs_now : List (ℕ × ℕ)) (turn : WithWindows TurnRow)
    → (length windows ≡ length rows) × (pairs ≡ turn_pairs (rows_of (with_windows rows windows))) × AreTurnRows (with_windows rows windows)
    → more ≡ rows ++ turn.row ∷ [] → grown ≡ windows ++ turn.windows ∷ [] → pairs_now ≡ pairs ++ (turn.row.a.0, turn.row.b.0) ∷ [] → IsDistinct pair_eq pairs_now
    → length (with_windows rows windows) < MOST_TURNS → IsTurnInRange turn.row → AreWindows turn.windows
    → (length grown ≡ length more) × (pairs_now ≡ turn_pairs (rows_of (with_windows more grown))) × AreTurnRows (with_windows more grown)
turn_pushed rows more windows grown pairs pairs_now turn (same, index, are) is_more is_grown is_pairs distinct room range given =
    let all = with_windows rows windows in
    let one : with_windows more grown ≡ all ++ turn ∷ []
    = ap (λ (xs : List TurnRow). with_windows xs grown) is_more ∙ ap (with_windows (rows ++ turn.row ∷ [])) is_grown ∙ with_windows_push rows windows turn.row turn.windows same in
    let now : pairs_now ≡ turn_pairs (rows_of all) ++ (turn.row.a.0, turn.row.b.0) ∷ [] = is_pairs ∙ ap (λ (xs : List (ℕ × ℕ)). xs ++ (turn.row.a.0, turn.row.b.0) ∷ []) index in
    let fresh : IsDistinct pair_eq (turn_pairs (rows_of all) ++ (turn.row.a.0, turn.row.b.0) ∷ []) = subst (IsDistinct pair_eq) now distinct in (
      omega (arith, ap length is_more, ap length is_grown, length-append rows (turn.row ∷ []), length-append windows (turn.windows ∷ [])),
      now ∙ sym (ap (λ (xs : List (WithWindows TurnRow)). turn_pairs (rows_of xs)) one ∙ ap turn_pairs (rows_of_push all turn) ∙ map_push (λ (t : TurnRow). (t.a.0, t.b.0)) (rows_of all) turn.row),
      subst AreTurnRows (sym one) (turn_rows_push all turn are fresh room range given),
    )
