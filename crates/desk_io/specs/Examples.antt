-- Small cases of the definitions, computed.
use Rattle.std.specs.Prelude.{◌≡◌, refl, codes, [], ◌∷◌, Some, true, false, ◌^◌, ◌-◌}
use Rattle.std.proofs.Math.Nat.{le_refl, lt_irrefl, le-add_right}
use Rattle.desk_io.specs.declared.desk.Table.TheVariants.{Link, Start, Times}
use Rattle.desk_io.specs.declared.desk.Output.TheVariants.{Counts, Gap, OriginWait, Report}
use Rattle.desk_io.specs.declared.desk.Output.TheVariants.{Skim, Watch}
use Rattle.desk_io.specs.Desk.{before_left, grown, nothing_taken, taken_of}
use Rattle.desk_io.specs.Faults.{last_count, Rose}
use Rattle.desk_io.specs.MemDesk.{all_left, is_listed, number_after}
use Rattle.desk_io.specs.MemDesk.{with_start, with_times}
use Rattle.desk_io.specs.TallyDesk.{count_of, counted, no_counts}
use Rattle.desk_io.specs.Transfers.{IsPartOut}

-- a desk with the texts "n" and "link" had handed out "li" when "nk" was left
a-link-table-half-read : all_left (codes "n") (codes "link") [] []
    ≡ before_left Link (codes "li") (all_left (codes "n") (codes "nk") [] [])
unfolding before_left
a-link-table-half-read = refl

-- Report has taken "nodes 3" and then a line feed
two-puts : grown Report (codes "\n") (grown Report (codes "nodes 3") nothing_taken)
    ≡ grown Report (codes "nodes 3\n") nothing_taken
unfolding grown
two-puts = refl

-- a desk whose table of link times was half read
a-times-table-half-read : with_times (codes "link_id") (all_left [] [] [] [])
    ≡ before_left Times (codes "link_") (with_times (codes "id") (all_left [] [] [] []))
unfolding before_left
a-times-table-half-read = refl

-- a desk whose table of a start was half read, beside a table of link times
a-start-table-half-read :
    with_start (codes "agent_id") (with_times (codes "link_id") (all_left [] [] [] []))
    ≡ before_left Start (codes "agent")
    (with_times (codes "link_id") (with_start (codes "_id") (all_left [] [] [] [])))
unfolding before_left
a-start-table-half-read = refl

-- what Skim takes isn't in Counts
skim-alone : taken_of Counts (grown Skim (codes "1") nothing_taken) ≡ Some []
unfolding grown
skim-alone = refl

-- what OriginWait takes isn't in Gap
waits-alone : taken_of Gap (grown OriginWait (codes "1") nothing_taken) ≡ Some []
unfolding grown
waits-alone = refl

-- the second call is listed
the-second-call : is_listed (2 ∷ 5 ∷ []) (number_after (Some 1)) ≡ true
the-second-call = refl

-- no call past the last number of a counter is made to fail
past-the-last-call : is_listed ((2 ^ 64 - 1) ∷ []) (number_after (Some (2 ^ 64 - 1))) ≡ false
past-the-last-call = refl

-- the last value of a counter
the-last-count : last_count ≡ 18446744073709551615
the-last-count = refl

-- one failure more is a rise
one-more : Rose 3 4
one-more = le_refl 4

-- a count that stands where it stood is no rise
no-more : Rose 3 3 → ⊥
no-more h = lt_irrefl 3 h

-- but a counter at its last value is taken to have risen
at-the-last : Rose last_count last_count
at-the-last = le_refl last_count

-- of "usage" the first part "us" went out to Report
us-of-usage : IsPartOut Report (codes "usage")
    (grown Report (codes "a") nothing_taken) (grown Report (codes "aus") nothing_taken)
unfolding grown
us-of-usage = record { count = 2; within = le-add_right 2 3; out = refl }

-- Watch took 3 bytes and then 2
five-bytes : count_of Watch (counted Watch 2 (counted Watch 3 no_counts)) ≡ 5
five-bytes = refl

-- what Watch takes isn't counted for Report
another-output : count_of Report (counted Watch 3 no_counts) ≡ 0
another-output = refl

-- a count near its last value stops there
at-the-last-byte :
    count_of Report (counted Report 7 (counted Report (last_count - 1) no_counts)) ≡ last_count
at-the-last-byte = refl
