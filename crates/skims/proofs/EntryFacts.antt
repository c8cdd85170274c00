-- What an entry tells, and where least times between zones stand.
use Rattle.trip_costs.specs.Timings.{Links, Timing}
use Rattle.std.proofs.Common.{◌≡◌, ◌≢◌, ℕ, ◌<◌, List, length, refl, sym, subst, Option, get_or, Vec}
use Rattle.std.specs.Prelude.{slice_index}
use Rattle.std.specs.declared.alloc.Global.{Global}
use Rattle.net_core.specs.Network.{zones}
use Rattle.net_core.specs.declared.rows.NetRows.{NetRows}
use Rattle.labels.specs.Named.{zone_named}
use Rattle.labels.specs.ToZone.{TellsLeast}
use Rattle.skims.specs.Leasts.{AreBetween, AreFrom, AreTo, IsFrom}
use Rattle.skims.specs.Skim.{IsEntryOf}
use Rattle.skims.proofs.ZipFacts.{zip-at, zip-length}

-- the entry of a least time, of zones and starts by their places
pub entry-told : (at : ℕ → ℕ → ℕ) (net : NetRows) (named starts kept : List ℕ) (o d i : ℕ)
    (least : Option ℕ) → named ≡ zones net.nodes → starts ≡ kept
    → slice_index named o ≢ slice_index named d
    → (zone_named net o ≢ zone_named net d
    → TellsLeast (Links at) net (zone_named net o) (zone_named net d) (slice_index kept i) least)
    → IsEntryOf at net
    (record { origin = slice_index named o; destination = slice_index named d; start = slice_index starts i })
    (record { origin = slice_index named o; destination = slice_index named d; start = slice_index starts i; least = least })
entry-told at net named starts kept o d i least same kept_same apart told =
    let known : slice_index named o ≢ slice_index named d
    → TellsLeast (Links at) net (slice_index named o) (slice_index named d) (slice_index starts i) least =
    subst (λ ns. slice_index ns o ≢ slice_index ns d
    → TellsLeast (Links at) net (slice_index ns o) (slice_index ns d) (slice_index starts i) least)
    (sym same)
    (subst (λ ss. slice_index (zones net.nodes) o ≢ slice_index (zones net.nodes) d
    → TellsLeast (Links at) net (slice_index (zones net.nodes) o) (slice_index (zones net.nodes) d) (slice_index ss i) least)
    (sym kept_same) told) in
    record { origin = refl; destination = refl; start = refl; least = known apart }

-- ---- least times between zones
abbrev From : Type 0
From = Vec (Option ℕ) Global

abbrev To : Type 0
To = Vec From Global

module _ (costs : Timing) (net : NetRows) (starts : List ℕ) (all : List To)
    (are : AreBetween costs net starts (zones net.nodes) all) where
  pub to-at : (d : ℕ) (to : To) → d < length (zones net.nodes) → to ≡ get_or all d to
      → AreTo costs net starts (zone_named net d) to.items
  to-at d to within is =
      subst (λ t. AreTo costs net starts (zone_named net d) t.items) (sym is)
      (zip-at (λ d to. AreTo costs net starts d to.items) (zones net.nodes) all d 0 to are within)

  pub from-at : (d i : ℕ) (to : To) (from : From) → d < length (zones net.nodes)
      → i < length starts → to ≡ get_or all d to → from ≡ get_or to.items i from
      → AreFrom costs net (zones net.nodes) (zone_named net d) (slice_index starts i) from.items
  from-at d i to from within begun is has =
      subst (λ f. AreFrom costs net (zones net.nodes) (zone_named net d) (slice_index starts i) f.items)
      (sym has)
      (zip-at (λ start from. AreFrom costs net (zones net.nodes) (zone_named net d) start from.items)
      starts to.items i 0 from (to-at d to within is) begun)

  pub least-at : (o d i : ℕ) (to : To) (from : From) (least : Option ℕ)
      → o < length (zones net.nodes) → d < length (zones net.nodes) → i < length starts
      → to ≡ get_or all d to → from ≡ get_or to.items i from → least ≡ get_or from.items o least
      → IsFrom costs net (zone_named net d) (slice_index starts i) (zone_named net o) least
  least-at o d i to from least begin within begun is has tells =
      subst (λ l. IsFrom costs net (zone_named net d) (slice_index starts i) (zone_named net o) l)
      (sym tells)
      (zip-at (IsFrom costs net (zone_named net d) (slice_index starts i)) (zones net.nodes) from.items
      o 0 least (from-at d i to from within begun is has) begin)

  pub all-many : length all ≡ length (zones net.nodes)
  all-many = zip-length (λ d to. AreTo costs net starts d to.items) (zones net.nodes) all are

  pub to-many : (d : ℕ) (to : To) → d < length (zones net.nodes) → to ≡ get_or all d to
      → length to.items ≡ length starts
  to-many d to within is =
      zip-length (λ start from. AreFrom costs net (zones net.nodes) (zone_named net d) start from.items)
      starts to.items (to-at d to within is)

  pub from-many : (d i : ℕ) (to : To) (from : From) → d < length (zones net.nodes)
      → i < length starts → to ≡ get_or all d to → from ≡ get_or to.items i from
      → length from.items ≡ length (zones net.nodes)
  from-many d i to from within begun is has =
      zip-length (IsFrom costs net (zone_named net d) (slice_index starts i)) (zones net.nodes)
      from.items (from-at d i to from within begun is has)
