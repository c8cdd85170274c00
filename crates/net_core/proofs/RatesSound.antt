-- The rates of a network's links and turns are in range.
use Rattle.std.proofs.Common.{◌≡◌, ◌<◌, ◌≤◌, ℕ, List, [], ◌∷◌, length, refl, arith, Bool, true, false}
use Rattle.std.specs.Prelude.{All, IfSome, None, Some, Option, find, position, cond, nat_eq}
use Rattle.std.proofs.lemmas.List.Elements.{All-head, All-nil, All-tail}
use Rattle.fixed_units.specs.declared.link.TheConstants.{MOST_RATE}
use Rattle.net_core.specs.ByNode.{is_from_to}
use Rattle.net_core.specs.Network.{IsNet, as_turn, is_named, limit_of, link_at, link_rates, turn, turn_at, turn_rates, turn_windows, windows_at}
use Rattle.net_core.specs.Rates.{AreRates, AreWindows}
use Rattle.net_core.specs.Rows.{IsLinkInRange, IsTurnInRange}
use Rattle.net_core.specs.declared.rates.TheConstants.{MOST_WINDOW_STEP}
use Rattle.net_core.specs.declared.rows.NetRows.{NetRows}
use Rattle.net_core.specs.declared.rows.TurnRow.{TurnRow}
use Rattle.net_core.specs.declared.rows.Turn.{Turn}
use Rattle.net_core.proofs.RatesFacts.{all-get_or}
use Rattle.net_core.proofs.RowsFacts.{link_in-all}

no_windows : AreWindows []
no_windows = record {
  few = omega arith;
  first = tt;
  rising = λ i j v w b f g. absurd cc;
  early = All-nil (λ w. w.from ≤ MOST_WINDOW_STEP);
  range = All-nil (λ w. IfSome w.rate (λ rate. rate ≤ MOST_RATE));
}

abbrev IsInRange : Option ℕ → Type 0
IsInRange rate = IfSome rate (λ r. r ≤ MOST_RATE)

found-range : (p : TurnRow → Bool) (turns : List TurnRow) → All IsTurnInRange turns
    → IsInRange (limit_of (as_turn (find p turns)))
found-range p [] all = tt
found-range p (x ∷ xs) all = elim (p x) as (λ v. p x ≡ v
    → IsInRange (limit_of (as_turn (find p (x ∷ xs))))) [
      | true ↦ λ t. rw t (All-head IsTurnInRange x xs all).rate
      | false ↦ λ f. rw f (found-range p xs (All-tail IsTurnInRange x xs all))
    ] refl

either : (c : Bool) (o q : Option Turn) → IsInRange (limit_of o) → IsInRange (limit_of q)
    → IsInRange (limit_of (cond c o q))
either true o q h k = h
either false o q h k = k

windows_at-sound : (net : NetRows) (place : Option ℕ) → IsNet net → AreWindows (windows_at net place)
windows_at-sound net None is = no_windows
windows_at-sound net (Some place) is =
    all-get_or AreWindows net.turn_windows place [] is.turn_windows no_windows

pub link_rates_sound : (net : NetRows) (l : ℕ) → l < length net.links → IsNet net
    → AreRates (link_rates net l)
link_rates_sound net l b is = record {
  usual = (link_in-all IsLinkInRange net.links l b is.links.range).rate;
  windows = all-get_or AreWindows net.link_windows l []
      (λ i d c. (is.link_windows i d c).windows) no_windows;
}

pub turn_rates_sound : (net : NetRows) (a b : ℕ) → IsNet net → AreRates (turn_rates net a b)
unfolding turn turn_at turn_windows
turn_rates_sound net a b is =
    let listed = found-range (is_from_to a b) net.turns is.turns.range in
    let here = either (is_named net (link_at net a).to.0) (as_turn (find (is_from_to a b) net.turns))
    (Some (record { penalty = 0; rate = None })) listed tt in
    record {
      usual = either (nat_eq (link_at net b).from.0 (link_at net a).to.0)
          (turn_at net (link_at net a).to.0 a b) None here tt;
      windows = windows_at-sound net (position (is_from_to a b) net.turns) is;
    }
