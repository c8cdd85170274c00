-- Capacities in time windows, as the column `capacity_by_step` spells them.
use Rattle.std.specs.Prelude.{ℕ, ◌==◌, ◌&&◌, ◌||◌, nat_le, nat_lt, Bool, true, false, List, []}
use Rattle.std.specs.Prelude.{◌∷◌, length, codes, if◌then◌else◌, Option, None, Some, Result, Ok}
use Rattle.std.specs.Prelude.{◌≤◌, Err, IfSome, IsSome, is_some, map, position, ⊤}
use Rattle.std.specs.Borrow.{Bor}
use Rattle.std.specs.List.{list_all, slice_split, before_first, after_first}
use Rattle.std.specs.Str.{bytes_eq}
use Rattle.fixed_units.specs.Quantity.{are_digits, is_quantity, milli_of, number, within}
use Rattle.fixed_units.specs.Units.{link_rate_of, turn_rate_of}
use Rattle.fixed_units.specs.declared.link.TheConstants.{MOST_LANES, MOST_RATE}
use Rattle.fixed_units.specs.declared.fault.NumberFault.{NumberFault}
use Rattle.row_reader.specs.Fields.{then_with}
use Rattle.row_reader.specs.Fields.{complain}
use Rattle.row_reader.specs.declared.faults.Code.TheVariants as code
use Rattle.row_reader.specs.declared.faults.Column.TheVariants as column
use Rattle.row_reader.specs.declared.faults.Complaint.{Complaint}
use Rattle.net_core.specs.Rates.{AreLinkWindows, AreWindows}
use Rattle.net_core.specs.declared.rates.TheConstants.{MOST_WINDOWS, MOST_WINDOW_STEP}
use Rattle.net_core.specs.declared.rates.Window.{Window}
use Rattle.gmns_tables.specs.declared.windows.WindowsOf.{WindowsOf}
use Rattle.gmns_tables.specs.declared.windows.WindowsOf.TheVariants.{Link, Turn}

-- ---- the form

-- the parts of a text, which stand between its semicolons. There is always one
abbrev pub parts_of : List ℕ → List (List ℕ)
parts_of text = slice_split (λ byte. byte == 59) text

abbrev pub is_colon : ℕ → Bool
is_colon byte = byte == 58

-- what stands before the first colon of a part: its step
abbrev pub step_text : List ℕ → List ℕ
step_text part = before_first is_colon part

-- what stands after the first colon of a part: its capacity
abbrev pub capacity_text : List ℕ → List ℕ
capacity_text part = after_first is_colon part

-- the word for a turn without limit
abbrev pub is_no_limit : List ℕ → Bool
is_no_limit text = bytes_eq text (codes "none")

-- the capacity of a link is a quantity, and that of a turn is a quantity or no limit
abbrev pub is_capacity : WindowsOf → List ℕ → Bool
is_capacity (Link _) text = is_quantity text
is_capacity Turn text = is_no_limit text || is_quantity text

-- digits, a colon and a capacity
abbrev pub is_part : WindowsOf → List ℕ → Bool
is_part kind part =
    is_some (position is_colon part)
    && (are_digits (step_text part) && is_capacity kind (capacity_text part))

-- a text is parts of this form
abbrev pub is_form : WindowsOf → List ℕ → Bool
is_form kind text = list_all (is_part kind) (parts_of text)

-- ---- the value

-- the rate of a capacity: that of a link is by lane
abbrev pub rate_of : WindowsOf → ℕ → ℕ
rate_of (Link lanes) capacity = link_rate_of capacity lanes
rate_of Turn capacity = turn_rate_of capacity

-- the rate of a capacity that is a quantity, if it is in range
abbrev pub limit_in : WindowsOf → List ℕ → Result (Option ℕ) NumberFault
limit_in kind text = then_with (milli_of text) (λ capacity. Ok (Some (rate_of kind capacity)))

-- the rate of a capacity, if it is in range. No rate is no limit
abbrev pub rate_in : WindowsOf → List ℕ → Result (Option ℕ) NumberFault
rate_in (Link lanes) text = limit_in (Link lanes) text
rate_in Turn text = if is_no_limit text then Ok None else limit_in Turn text

-- the window of a part, if its numbers are in range
unfoldable pub window_in : WindowsOf → List ℕ → Result Window NumberFault
window_in kind part =
    then_with (within MOST_WINDOW_STEP (number (step_text part))) (λ from.
    then_with (rate_in kind (capacity_text part)) (λ rate.
    Ok (record { from = from; rate = rate })))

-- the windows of parts, if all their numbers are in range
abbrev pub windows_in : WindowsOf → List (List ℕ) → Result (List Window) NumberFault
windows_in kind [] = Ok []
windows_in kind (part ∷ parts) =
    then_with (window_in kind part) (λ w.
    then_with (windows_in kind parts) (λ ws.
    Ok (w ∷ ws)))

-- each window begins after the one before, and the first after this step
abbrev pub rise_after : ℕ → List Window → Bool
rise_after step [] = true
rise_after step (w ∷ ws) = nat_lt step w.from && rise_after w.from ws

-- the first window begins with step 0, and each of the others after the one before
abbrev pub are_in_order : List Window → Bool
are_in_order [] = false
are_in_order (w ∷ ws) = w.from == 0 && rise_after w.from ws

-- windows that were read, if they aren't too many and stand in order
abbrev pub in_order : Result (List Window) NumberFault → Result (List Window) Complaint
in_order (Ok ws) =
    if nat_le (length ws) MOST_WINDOWS && are_in_order ws
    then Ok ws
    else Err (complain code.E5 column.CapacityByStep)
in_order (Err _) = Err (complain code.E5 column.CapacityByStep)

-- the windows of a text: none where it is empty. Its form is checked before its numbers
unfoldable pub windows_by_step : WindowsOf → List ℕ → Result (List Window) Complaint
windows_by_step kind text =
    if length text == 0
    then Ok []
    else (if is_form kind text
    then in_order (windows_in kind (parts_of text))
    else Err (complain code.E4 column.CapacityByStep))

-- ---- windows of links and turns

-- what windows may be of: a link has so many lanes at most
abbrev pub IsKind : WindowsOf → Type 0
IsKind (Link lanes) = lanes ≤ MOST_LANES
IsKind Turn = ⊤

-- a rate in range; that of a link has a limit
abbrev pub IsRateOf : WindowsOf → Option ℕ → Type 0
IsRateOf (Link _) rate = IsSome rate × IfSome rate (λ n. n ≤ MOST_RATE)
IsRateOf Turn rate = IfSome rate (λ n. n ≤ MOST_RATE)

-- a window whose numbers are in range
pub record IsWindowOf (kind : WindowsOf) (w : Window) : Type 0 where
  pub early : w.from ≤ MOST_WINDOW_STEP
  pub rate : IsRateOf kind w.rate

-- windows that a link or a turn may have
abbrev pub AreWindowsOf : WindowsOf → List Window → Type 0
AreWindowsOf (Link _) ws = AreLinkWindows ws
AreWindowsOf Turn ws = AreWindows ws

-- the texts behind references
abbrev pub texts : List (Bor (List ℕ)) → List (List ℕ)
texts = map (λ text. text.now)
