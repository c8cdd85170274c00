-- The chosen walk between two zones, found among the walks of a bounded number of links.
use Rattle.std.specs.Prelude.{ℕ, zero, suc, ◌+◌, ◌*◌, ◌&&◌, ◌||◌, Bool, cond, nat_eq, nat_lt}
use Rattle.std.specs.Prelude.{List, [], ◌∷◌, filter, length, map, Option, None, Some}
use Rattle.std.specs.Cmp.Lexicographic.{slice_cmp}
use Rattle.std.specs.List.{flat_map}
use Rattle.std.specs.Option.{is_some}
use Rattle.std.specs.Ordering.{is_le, nat_cmp}
use Rattle.net_core.specs.Network.{numbers_below, turn}
use Rattle.net_core.specs.declared.rows.NetRows.{NetRows}
use Rattle.fixed_units.specs.declared.turn.TheConstants.{MOST_PENALTY_STEPS}
use Rattle.dta_model.specs.Walks.{begins_in, ends_in}
use Rattle.dta_model.specs.declared.loading.TheConstants.{MOST_HORIZON}
use Rattle.trip_costs.specs.Timings.{Links, Timing, Trips, walk_time_by}

-- the links of a network
abbrev pub all_links : NetRows → List ℕ
all_links net = numbers_below (length net.links)

-- the links to which there is a turn from link l
abbrev pub onward : NetRows → ℕ → List ℕ
onward net l = filter (λ b. is_some (turn net l b)) (all_links net)

-- the walks of at most so many links that begin with link l, each up to where it first reaches the
-- destination
unfoldable pub walks_on : NetRows → (destination most l : ℕ) → List (List ℕ)
walks_on net destination zero l = []
walks_on net destination (suc most) l =
    cond (ends_in net destination l) ((l ∷ []) ∷ [])
    (map (λ walk. l ∷ walk) (flat_map (walks_on net destination most) (onward net l)))

-- those from a zone to another
abbrev pub walks_between : NetRows → (origin destination most : ℕ) → List (List ℕ)
walks_between net origin destination most =
    flat_map (walks_on net destination most) (filter (begins_in net origin) (all_links net))

-- which of two walks of the same time comes first: by link times the first in the order of link
-- numbers; by trips the one with fewer links, and of as many the first in that order
abbrev pub comes_first : Timing → List ℕ → List ℕ → Bool
comes_first (Links at) walk other = is_le (slice_cmp nat_cmp walk other)
comes_first (Trips costs) walk other =
    nat_lt (length walk) (length other)
    || (nat_eq (length walk) (length other) && is_le (slice_cmp nat_cmp walk other))

-- whether a walk comes before another: it takes less time, or as much and comes first of both
abbrev pub comes_before : Timing → NetRows → (start : ℕ) → List ℕ → List ℕ → Bool
comes_before costs net start walk other =
    nat_lt (walk_time_by costs net start walk) (walk_time_by costs net start other)
    || (nat_eq (walk_time_by costs net start walk) (walk_time_by costs net start other)
    && comes_first costs walk other)

abbrev pub better : Timing → NetRows → (start : ℕ) → List ℕ → Option (List ℕ) → Option (List ℕ)
better costs net start walk None = Some walk
better costs net start walk (Some best) =
    Some (cond (comes_before costs net start walk best) walk best)

-- the best of some walks
unfoldable pub best_of : Timing → NetRows → (start : ℕ) → List (List ℕ) → Option (List ℕ)
best_of costs net start [] = None
best_of costs net start (walk ∷ others) =
    better costs net start walk (best_of costs net start others)

-- no chosen walk has more links. By link times, where no link takes more steps than this: a walk
-- that repeats no link takes at most so many steps, and each link takes one at least. By trips no
-- chosen walk repeats a link
abbrev pub most_links : (most : ℕ) → Timing → NetRows → ℕ
most_links most (Links at) net = length net.links * (most + MOST_PENALTY_STEPS)
most_links most (Trips costs) net = length net.links

-- the chosen walk from a zone to another that starts in a step, where there is a walk
abbrev pub search_within :
    (most : ℕ) → Timing → NetRows → (origin destination start : ℕ) → Option (List ℕ)
search_within most costs net origin destination start =
    best_of costs net start (walks_between net origin destination (most_links most costs net))

-- by the link times of a loading, which are no longer than a horizon, and by trips over them
abbrev pub search : Timing → NetRows → (origin destination start : ℕ) → Option (List ℕ)
search costs net origin destination start =
    search_within MOST_HORIZON costs net origin destination start
