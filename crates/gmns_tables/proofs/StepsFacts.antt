-- Windows that are read from parts, and what holds of them.
use Rattle.std.proofs.Common.{◌≡◌, ◌∙◌, ◌+◌, ◌≤◌, ◌<◌, ◌&&◌, not, ℕ, zero, suc, Bor, true, false, cond, List, [], ◌∷◌, ◌++◌, length, take, get_or, nat_le, nat_lt, refl, ap, arith, sym, subst, tests, rules}
use Rattle.std.specs.Prelude.{All, IfSome, Some, Result, Ok, Err, slice_get, ◌==◌}
use Rattle.std.specs.List.{list_all, slice_index_or}
use Rattle.std.proofs.lemmas.Bool.{and_parts, ltb-true}
use Rattle.std.proofs.lemmas.List.{append-nil, length-map, map_push, take_more, get_or-map}
use Rattle.std.proofs.lemmas.List.Elements.{All-weaker}
use Rattle.std.proofs.lemmas.List.Folds.{list_all-map}
use Rattle.std.proofs.lemmas.List.Recursion.{and_at}
use Rattle.std.proofs.lemmas.Option.{same_Some}
use Rattle.fixed_units.specs.Quantity.{are_digits, is_digit, is_identifier, number, whole_of, whole_part, within}
use Rattle.fixed_units.specs.declared.fault.NumberFault.{NumberFault}
use Rattle.fixed_units.specs.declared.fault.NumberFault.TheVariants.{OutOfRange}
use Rattle.fixed_units.specs.declared.identifier.TheConstants.{GREATEST_IDENTIFIER}
use Rattle.fixed_units.proofs.Splits.{is_identifier-joined, whole_part-joined}
use Rattle.row_reader.specs.Fields.{then_with}
use Rattle.row_reader.specs.Fields.{complain}
use Rattle.row_reader.specs.declared.faults.Code.TheVariants as code
use Rattle.row_reader.specs.declared.faults.Column.TheVariants as column
use Rattle.net_core.specs.declared.rates.TheConstants.{MOST_WINDOWS, MOST_WINDOW_STEP}
use Rattle.net_core.specs.declared.rates.Window.{Window}
use Rattle.gmns_tables.specs.Windows.{AreWindowsOf, IsWindowOf, are_in_order, in_order, is_part, rise_after, texts, window_in, windows_in}
use Rattle.gmns_tables.specs.declared.windows.WindowsOf.{WindowsOf}
use Rattle.gmns_tables.specs.declared.windows.WindowsOf.TheVariants.{Link, Turn}

-- ---- digits

digits-whole : (text : List ℕ) → are_digits text ≡ true → (is_identifier text ≡ true) × (whole_part text ≡ text)
digits-whole text h =
    let parts = and_parts (not (length text == 0)) (list_all is_digit text) h in
    let joined : text ++ [] ≡ text = append-nil text in
    let form : is_identifier (text ++ []) ≡ (not (length text == 0) && true) = is_identifier-joined text [] parts.1 refl in
    let whole : whole_part (text ++ []) ≡ text = whole_part-joined text [] parts.1 refl in
    (ap is_identifier (sym joined) ∙ form ∙ ap (λ b. b && true) parts.0, ap whole_part (sym joined) ∙ whole)

-- an identifier that is digits alone
whole-digits : (text : List ℕ) → are_digits text ≡ true → whole_of text ≡ within GREATEST_IDENTIFIER (number text)
whole-digits text h =
    let k = digits-whole text h in
    rw k.0 (ap (λ t. within GREATEST_IDENTIFIER (number t)) k.1)

-- a step of digits
pub step_near : (text : List ℕ) (n : ℕ) → are_digits text ≡ true → Ok n ≡ whole_of text → n ≤ MOST_WINDOW_STEP
    → Ok n ≡ within MOST_WINDOW_STEP (number text)
step_near text n h is near = go (number text) (is ∙ whole-digits text h)
  where
    go : (m : ℕ) → Ok n ≡ within GREATEST_IDENTIFIER m → Ok n ≡ within MOST_WINDOW_STEP m
    go m e = elim (nat_le m GREATEST_IDENTIFIER) as (λ b. Ok n ≡ cond b (Ok m) (Err OutOfRange) → Ok n ≡ within MOST_WINDOW_STEP m) [
      | true ↦ λ f. let same : n ≡ m = cc in let few : nat_le m MOST_WINDOW_STEP ≡ true = grind arith in rw few (ap Ok same)
      | false ↦ λ f. absurd cc
    ] e

pub step_far : (text : List ℕ) (n : ℕ) → are_digits text ≡ true → Ok n ≡ whole_of text → MOST_WINDOW_STEP < n
    → Err OutOfRange ≡ within MOST_WINDOW_STEP (number text)
step_far text n h is far = go (number text) (is ∙ whole-digits text h)
  where
    go : (m : ℕ) → Ok n ≡ within GREATEST_IDENTIFIER m → Err OutOfRange ≡ within MOST_WINDOW_STEP m
    go m e = elim (nat_le m GREATEST_IDENTIFIER) as (λ b. Ok n ≡ cond b (Ok m) (Err OutOfRange) → Err OutOfRange ≡ within MOST_WINDOW_STEP m) [
      | true ↦ λ f. let same : n ≡ m = cc in let many : nat_le m MOST_WINDOW_STEP ≡ false = grind arith in rw many refl
      | false ↦ λ f. absurd cc
    ] e

pub step_above : (text : List ℕ) (why : NumberFault) → are_digits text ≡ true → Err why ≡ whole_of text
    → Err OutOfRange ≡ within MOST_WINDOW_STEP (number text)
step_above text why h is = go (number text) (is ∙ whole-digits text h)
  where
    go : (m : ℕ) → Err why ≡ within GREATEST_IDENTIFIER m → Err OutOfRange ≡ within MOST_WINDOW_STEP m
    go m e = elim (nat_le m GREATEST_IDENTIFIER) as (λ b. nat_le m GREATEST_IDENTIFIER ≡ b → Err OutOfRange ≡ within MOST_WINDOW_STEP m) [
      | true ↦ λ t. absurd (let k = rw t at e in cc)
      | false ↦ λ f. let many : nat_le m MOST_WINDOW_STEP ≡ false = grind arith in rw many refl
    ] refl

-- ---- parts

-- one of some parts
pub part_at : (kind : WindowsOf) (parts : List (Bor (List ℕ))) (i : ℕ) (d : Bor (List ℕ)) → i < length parts
    → list_all (is_part kind) (texts parts) ≡ true → is_part kind (slice_index_or parts i d).now ≡ true
part_at kind parts i d within h =
    and_at (list_all (λ (part : Bor (List ℕ)). is_part kind part.now)) (λ (part : Bor (List ℕ)). is_part kind part.now) refl (λ _ _. refl) parts i d within
    (sym (list_all-map (is_part kind) (λ (part : Bor (List ℕ)). part.now) parts) ∙ h)

then_ok : {A B C : Type 0} (r : Result A C) (f : A → Result B C) (y : B) → then_with r f ≡ Ok y → (x : A) × (r ≡ Ok x) × (f x ≡ Ok y)
then_ok (Ok x) f y e = (x, refl, e)
then_ok (Err c) f y e = absurd cc

windows_in-push : (kind : WindowsOf) (parts : List (List ℕ)) (part : List ℕ) (ws : List Window) (w : Window)
    → windows_in kind parts ≡ Ok ws → window_in kind part ≡ Ok w → windows_in kind (parts ++ part ∷ []) ≡ Ok (ws ++ w ∷ [])
windows_in-push kind [] part ws w e f = let none : [] ≡ ws = cc in rw (f, ← none) refl
windows_in-push kind (p ∷ parts) part ws w e f =
    let first = then_ok (window_in kind p) (λ v. then_with (windows_in kind parts) (λ vs. Ok (v ∷ vs))) ws e in
    let others = then_ok (windows_in kind parts) (λ vs. Ok (first.0 ∷ vs)) ws first.2 in
    let more : windows_in kind (parts ++ part ∷ []) ≡ Ok (others.0 ++ w ∷ []) = windows_in-push kind parts part others.0 w others.1 f in
    let all : first.0 ∷ others.0 ≡ ws = cc (others.2) in
    rw (first.1, more) (ap (λ xs. Ok (xs ++ w ∷ [])) all)

-- one more part whose numbers are in range
pub windows_more : (kind : WindowsOf) (parts : List (Bor (List ℕ))) (i : ℕ) (d : Bor (List ℕ)) (ws : List Window) (w : Window)
    → i < length parts → windows_in kind (texts (take i parts)) ≡ Ok ws → Ok w ≡ window_in kind (slice_index_or parts i d).now
    → windows_in kind (texts (take (i + 1) parts)) ≡ Ok (ws ++ w ∷ [])
windows_more kind parts i d ws w within e f =
    ap (λ xs. windows_in kind (texts xs)) (take_more parts i d within)
    ∙ ap (windows_in kind) (map_push (λ (part : Bor (List ℕ)). part.now) (take i parts) (get_or parts i d))
    ∙ windows_in-push kind (texts (take i parts)) (get_or parts i d).now ws w e (sym f)

far-at : (kind : WindowsOf) (parts : List (List ℕ)) (i : ℕ) (d : List ℕ) (why : NumberFault) → i < length parts
    → window_in kind (get_or parts i d) ≡ Err why → (e : NumberFault) × (windows_in kind parts ≡ Err e)
far-at kind [] i d why within e = absurd (omega arith)
far-at kind (p ∷ parts) zero d why within e = (why, rw e refl)
far-at kind (p ∷ parts) (suc i) d why within e =
    let later = far-at kind parts i d why (omega arith) e in
    elim (window_in kind p) as (λ r. window_in kind p ≡ r → (e : NumberFault) × (windows_in kind (p ∷ parts) ≡ Err e)) [
      | Ok w ↦ λ f. (later.0, rw (f, later.1) refl)
      | Err why ↦ λ f. (why, rw f refl)
    ] refl

-- one part whose numbers aren't in range
pub windows_far : (kind : WindowsOf) (parts : List (Bor (List ℕ))) (i : ℕ) (d : Bor (List ℕ)) (why : NumberFault) → i < length parts
    → Err why ≡ window_in kind (slice_index_or parts i d).now → in_order (windows_in kind (texts parts)) ≡ Err (complain code.E5 column.CapacityByStep)
windows_far kind parts i d why within e =
    let at : get_or (texts parts) i d.now ≡ (get_or parts i d).now = get_or-map (λ (part : Bor (List ℕ)). part.now) parts i d d.now within in
    let far = far-at kind (texts parts) i d.now why (omega (arith, length-map parts (λ (part : Bor (List ℕ)). part.now))) (ap (window_in kind) at ∙ sym e) in
    ap in_order far.1

-- ---- order

pub above : (step : ℕ) (ws : List Window) (j : ℕ) (w : Window) → rise_after step ws ≡ true → slice_get ws j ≡ Some w → step < w.from
above step [] j w h e = absurd cc
above step (v ∷ ws) zero w h e =
    let parts = and_parts (nat_lt step v.from) (rise_after v.from ws) h in
    let same : v ≡ w = same_Some _ _ e in
    subst (λ (x : Window). step < x.from) same (ltb-true step v.from parts.0)
above step (v ∷ ws) (suc j) w h e =
    let parts = and_parts (nat_lt step v.from) (rise_after v.from ws) h in
    let first : step < v.from = ltb-true step v.from parts.0 in
    let later : v.from < w.from = above v.from ws j w parts.1 e in
    omega arith

pub rising : (step : ℕ) (ws : List Window) (i j : ℕ) (v w : Window) → rise_after step ws ≡ true → i < j → slice_get ws i ≡ Some v → slice_get ws j ≡ Some w → v.from < w.from
rising step [] i j v w h less e f = absurd cc
rising step (x ∷ ws) zero zero v w h less e f = absurd (omega arith)
rising step (x ∷ ws) zero (suc j) v w h less e f =
    let parts = and_parts (nat_lt step x.from) (rise_after x.from ws) h in
    let same : x ≡ v = same_Some _ _ e in
    subst (λ (y : Window). y.from < w.from) same (above x.from ws j w parts.1 f)
rising step (x ∷ ws) (suc i) zero v w h less e f = absurd (omega arith)
rising step (x ∷ ws) (suc i) (suc j) v w h less e f =
    let parts = and_parts (nat_lt step x.from) (rise_after x.from ws) h in
    rising x.from ws i j v w parts.1 (omega arith) e f

rising-all : (ws : List Window) (i j : ℕ) (v w : Window) → are_in_order ws ≡ true → i < j → slice_get ws i ≡ Some v → slice_get ws j ≡ Some w → v.from < w.from
rising-all [] i j v w h less e f = absurd cc
rising-all (x ∷ ws) zero zero v w h less e f = absurd (omega arith)
rising-all (x ∷ ws) zero (suc j) v w h less e f =
    let parts = and_parts (x.from == 0) (rise_after x.from ws) h in
    let same : x ≡ v = same_Some _ _ e in
    subst (λ (y : Window). y.from < w.from) same (above x.from ws j w parts.1 f)
rising-all (x ∷ ws) (suc i) zero v w h less e f = absurd (omega arith)
rising-all (x ∷ ws) (suc i) (suc j) v w h less e f =
    let parts = and_parts (x.from == 0) (rise_after x.from ws) h in
    rising x.from ws i j v w parts.1 (omega arith) e f

first-is : (ws : List Window) → are_in_order ws ≡ true → IfSome (slice_get ws 0) (λ w. w.from ≡ 0)
first-is [] h = tt
first-is (x ∷ ws) h = let parts = and_parts (x.from == 0) (rise_after x.from ws) h in let at = parts.0 in search (rules, tests)

-- windows in range that stand in order
pub are_windows : (kind : WindowsOf) (ws : List Window) → length ws ≤ MOST_WINDOWS → are_in_order ws ≡ true → All (IsWindowOf kind) ws → AreWindowsOf kind ws
are_windows (Link lanes) ws few order range = record {
  windows = record {
    few = few;
    first = first-is ws order;
    rising = λ i j v w less e f. rising-all ws i j v w order less e f;
    early = All-weaker (IsWindowOf (Link lanes)) _ (λ w h. h.early) ws range;
    range = All-weaker (IsWindowOf (Link lanes)) _ (λ w h. h.rate.1) ws range;
  };
  given = All-weaker (IsWindowOf (Link lanes)) _ (λ w h. h.rate.0) ws range;
}
are_windows Turn ws few order range = record {
  few = few;
  first = first-is ws order;
  rising = λ i j v w less e f. rising-all ws i j v w order less e f;
  early = All-weaker (IsWindowOf Turn) _ (λ w h. h.early) ws range;
  range = All-weaker (IsWindowOf Turn) _ (λ w h. h.rate) ws range;
}
