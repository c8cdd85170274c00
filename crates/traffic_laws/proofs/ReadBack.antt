-- A table of link times that is written is read back.
use Rattle.std.specs.Prelude.{cond, min, nat_lt, replicate, slice_get, slice_index}
use Rattle.std.specs.List.{flat_map, range_with_len}
use Rattle.std.proofs.Common.{◌≡◌, ℕ, ◌+◌, ◌*◌, ◌/◌, ◌<◌, ◌≤◌, true, false, List, [], ◌∷◌, ◌++◌}
use Rattle.std.proofs.Common.{append_assoc, length, map, All, Ok, Some, codes, decimal, refl}
use Rattle.std.proofs.Common.{ap, sym, ◌∙◌, subst, arith, le-leb, eq-eqb, le-ltb, get_or, nat_eq}
use Rattle.std.proofs.lemmas.List.{length-map}
use Rattle.std.proofs.lemmas.List.Folds.{list_any_at}
use Rattle.std.proofs.lemmas.Nat.{div-mul-add, mod-mul-add}
use Rattle.std.proofs.Math.Nat.{mul-div_cancel}
use Rattle.std.proofs.lemmas.Option.{slice_get-get_or}
use Rattle.std.proofs.lemmas.Simd.{map-map}
use Rattle.csv.specs.Records.{field_at}
use Rattle.csv.specs.Writing.{default_writer, fields_text, is_blank, row_text}
use Rattle.desk_io.specs.declared.desk.Table.TheVariants as table
use Rattle.fixed_units.specs.declared.identifier.TheConstants.{GREATEST_IDENTIFIER}
use Rattle.row_reader.specs.Columns.{place_of}
use Rattle.row_reader.specs.OnLiterals.{tables_on_literals}
use Rattle.row_reader.specs.Records.{Record, records}
use Rattle.row_reader.specs.Trimmed.{trimmed}
use Rattle.row_reader.specs.declared.faults.Column.{Column}
use Rattle.row_reader.specs.declared.faults.Column.TheVariants as column
use Rattle.net_core.specs.Network.{link_at, numbers_below}
use Rattle.net_core.specs.Rows.{link_in, no_link, or_no_link}
use Rattle.net_core.specs.declared.rows.LinkRow.{LinkRow}
use Rattle.net_core.specs.declared.rows.NetRows.{NetRows}
use Rattle.dta_model.specs.LinkTimes.{bucket_time, buckets_to, by_bucket, entered_in, free_steps}
use Rattle.dta_model.specs.LinkTimes.{place_in}
use Rattle.dta_model.specs.LinkTimes.{table_in, table_of, time_at, visits_in}
use Rattle.dta_model.specs.Loading.{trace_after}
use Rattle.dta_model.specs.Plans.{link_at as link_at_of}
use Rattle.dta_model.specs.Sound.{IsSound}
use Rattle.dta_model.specs.declared.loading.TheConstants.{MOST_LINK_STEPS}
use Rattle.dta_model.specs.declared.plan.Plan.{Plan}
use Rattle.link_times.proofs.Places.{bucket_inside, by_bucket-get, by_bucket-is, by_bucket-long}
use Rattle.link_times.proofs.Places.{place_inside}
use Rattle.skims.specs.GivenTimes.{table_given}
use Rattle.skims.specs.TimesTable.{has_link, link_of, row_count, same_number}
use Rattle.skims.specs.TimesTable.{time_row_of, times_columns, times_verdict, travel_of}
use Rattle.skims.specs.TimesTable.{wanted_after, wanted_in}
use Rattle.skims.specs.declared.time_rows.TimeRow.{TimeRow}
use Rattle.skims.specs.declared.times_table.TheConstants.{MOST_TIME_ROWS, MOST_TRAVEL_STEPS}
use Rattle.grid_maker.proofs.LinesFacts.{AreFields, line-is, table-accepted}
use Rattle.grid_maker.proofs.WrittenFacts.{decimal-field, identifier-read}
use Rattle.traffic_laws.specs.RoundTrips.{IsWithinLimits, LinkTimesAreReadBack}
use Rattle.reports.specs.Texts.{bucket_line, link_lines, link_time_header, link_time_text}
use Rattle.traffic_laws.proofs.BucketTimes.{time_is, times_are_not_below_free}
use Rattle.traffic_laws.proofs.BucketLists.{LinkBucket, all_buckets, buckets_from, buckets_many}
use Rattle.traffic_laws.proofs.BucketLists.{buckets_rise, by_buckets, flat_buckets, number_in}
use Rattle.traffic_laws.proofs.InRange.{bucket_begins, few_buckets, few_entered, time_short}

abbrev names : Record
names =
    codes "link_id" ∷ codes "from_step" ∷ codes "to_step" ∷ codes "entered" ∷ codes "travel_steps"
    ∷ codes "free_steps" ∷ []

record AreInPlace (header : Record) : Type 0 where
  link : place_of header column.LinkId ≡ Some 0
  from : place_of header column.FromStep ≡ Some 1
  to : place_of header column.ToStep ≡ Some 2
  entered : place_of header column.Entered ≡ Some 3
  travel : place_of header column.TravelSteps ≡ Some 4
  free : place_of header column.FreeSteps ≡ Some 5

in-place : AreInPlace names
unfolding tables_on_literals
in-place = record {
  link = refl;
  from = refl;
  to = refl;
  entered = refl;
  travel = refl;
  free = refl;
}

-- ---- one field
same-read : (what : Column) (n : ℕ) → n ≤ GREATEST_IDENTIFIER
    → same_number what n (trimmed (decimal n)) ≡ Ok n
unfolding same_number
same-read what n h = rw (identifier-read what n h, eq-eqb n n refl) refl

travel-read : (n : ℕ) → 1 ≤ n → n ≤ MOST_TRAVEL_STEPS → travel_of (trimmed (decimal n)) ≡ Ok n
unfolding travel_of
travel-read n low high =
    rw (
      identifier-read column.TravelSteps n (omega (arith, high)),
      le-leb 1 n low,
      le-leb n MOST_TRAVEL_STEPS high,
    ) refl

link-read : (links : List LinkRow) (bucket horizon b : ℕ) (link : LinkRow)
    → link.id ≤ GREATEST_IDENTIFIER → has_link links link.id ≡ true
    → link_of links (Some (wanted_in bucket horizon b link)) (trimmed (decimal link.id))
    ≡ Ok (wanted_in bucket horizon b link)
unfolding link_of
link-read links bucket horizon b link h has =
    rw (identifier-read column.LinkId link.id h, has, eq-eqb link.id link.id refl) refl

pub link-there : (net : NetRows) (l : ℕ) → l < length net.links
    → slice_get net.links l ≡ Some (link_at net l)
unfolding link_in
link-there net l h =
    let e = slice_get-get_or net.links l no_link h in e ∙ ap Some (sym (ap or_no_link e))

link-known : (net : NetRows) (l : ℕ) → l < length net.links
    → has_link net.links (link_at net l).id ≡ true
unfolding link_in
link-known net l h =
    let e = ap or_no_link (slice_get-get_or net.links l no_link h) in
    list_any_at (λ link. nat_eq link.id (or_no_link (slice_get net.links l)).id) net.links l no_link
    h (eq-eqb (get_or net.links l no_link).id (or_no_link (slice_get net.links l)).id
    (ap (λ link. link.id) (sym e)))

-- ---- a table of these numbers
module _ (net : NetRows) (bucket horizon : ℕ) (entered travel : ℕ → ℕ → ℕ) where
  abbrev buckets : ℕ
  buckets = buckets_to bucket horizon

  abbrev row-fields : LinkBucket → Record
  row-fields c =
      decimal (link_at net c.0).id ∷ decimal (c.1 * bucket)
      ∷ decimal (min ((c.1 + 1) * bucket) horizon) ∷ decimal (entered c.0 c.1)
      ∷ decimal (travel c.0 c.1) ∷ decimal (link_at net c.0).free ∷ []

  abbrev row-line : LinkBucket → List ℕ
  row-line c =
      decimal (link_at net c.0).id ++ codes "," ++ decimal (c.1 * bucket) ++ codes ","
      ++ decimal (min ((c.1 + 1) * bucket) horizon) ++ codes ","
      ++ decimal (entered c.0 c.1) ++ codes ","
      ++ decimal (travel c.0 c.1) ++ codes ","
      ++ decimal (link_at net c.0).free ++ codes "\n"

  abbrev row-told : LinkBucket → TimeRow
  row-told c = record { entered = entered c.0 c.1; travel = travel c.0 c.1 }

  record RowFits (c : LinkBucket) : Type 0 where
    link : c.0 < length net.links
    inside : c.1 < buckets
    id : (link_at net c.0).id ≤ GREATEST_IDENTIFIER
    free : (link_at net c.0).free ≤ GREATEST_IDENTIFIER
    begins : c.1 * bucket ≤ GREATEST_IDENTIFIER
    short : horizon ≤ GREATEST_IDENTIFIER
    few : entered c.0 c.1 ≤ GREATEST_IDENTIFIER
    least : 1 ≤ travel c.0 c.1
    most : travel c.0 c.1 ≤ MOST_TRAVEL_STEPS
    number : number_in buckets c ≤ MOST_TIME_ROWS

  ends : (c : LinkBucket) → RowFits c → min ((c.1 + 1) * bucket) horizon ≤ GREATEST_IDENTIFIER
  ends c f = let k = f.short in omega (arith, k)

  row-are : (c : LinkBucket) → RowFits c → AreFields (row-fields c)
  row-are c f =
      let a = f.id in
      let b = f.free in
      let d = f.begins in
      let e = ends c f in
      let g = f.few in
      let h = f.most in (
        decimal-field (link_at net c.0).id (omega (arith, a)),
        (
          decimal-field (c.1 * bucket) (omega (arith, d)),
          (
            decimal-field (min ((c.1 + 1) * bucket) horizon) (omega (arith, e)),
            (
              decimal-field (entered c.0 c.1) (omega (arith, g)),
              (
                decimal-field (travel c.0 c.1) (omega (arith, h)),
                (
                  decimal-field (link_at net c.0).free (omega (arith, b)),
                  tt,
                ),
              ),
            ),
          ),
        ),
      )

  row-line-is : (c : LinkBucket) → RowFits c → row-line c ≡ row_text default_writer (row-fields c)
  row-line-is c f =
      rw (← line-is (decimal (link_at net c.0).id) (decimal (c.1 * bucket))
      (decimal (min ((c.1 + 1) * bucket) horizon) ∷ decimal (entered c.0 c.1)
      ∷ decimal (travel c.0 c.1) ∷ decimal (link_at net c.0).free ∷ []) (row-are c f))
      (simp append_assoc)

  wanted-is : (c : LinkBucket) (n : ℕ) → RowFits c → number_in buckets c ≡ n + 1
      → wanted_after net bucket horizon n ≡ Some (wanted_in bucket horizon c.1 (link_at net c.0))
  wanted-is c n f e =
      let place : n ≡ c.0 * buckets + c.1 = omega (arith, e) in
      let l = div-mul-add c.0 buckets c.1 f.inside in
      let b = mod-mul-add c.0 buckets c.1 f.inside in
      subst (λ k. wanted_after net bucket horizon k
      ≡ Some (wanted_in bucket horizon c.1 (link_at net c.0))) (sym place)
      (rw (l, b, link-there net c.0 f.link) refl)

  row-accepted : (before : List LinkBucket) (c : LinkBucket) → RowFits c
      → map (number_in buckets) before ≡ range_with_len 1 (length before)
      → number_in buckets c ≡ length before + 1
      → time_row_of net bucket horizon (map row-told before) (record {
        header = names;
        fields = row-fields c;
        line = length (map row-told before) + 2;
      })
      ≡ Ok (row-told c)
  unfolding time_row_of field_at
  row-accepted before c f b n =
      let long = length-map before row-told in
      let wanted = wanted-is c (length (map row-told before)) f (omega (arith, n, long)) in
      let link = link-read net.links bucket horizon c.1 (link_at net c.0) f.id
      (link-known net c.0 f.link) in
      rw (
        in-place.link,
        in-place.from,
        in-place.to,
        in-place.entered,
        in-place.travel,
        in-place.free,
        wanted,
        link,
        same-read column.FromStep (c.1 * bucket) f.begins,
        same-read column.ToStep (min ((c.1 + 1) * bucket) horizon) (ends c f),
        identifier-read column.Entered (entered c.0 c.1) f.few,
        travel-read (travel c.0 c.1) f.least f.most,
        same-read column.FreeSteps (link_at net c.0).free f.free,
      ) refl

  abbrev all-buckets : List LinkBucket
  all-buckets = buckets_from buckets 0 (length net.links)

  abbrev all-rows : List TimeRow
  all-rows = map row-told all-buckets

  rows-many : length all-rows ≡ row_count net bucket horizon
  rows-many = length-map all-buckets row-told ∙ buckets_many buckets 0 (length net.links)

  rows-read : All RowFits all-buckets
      → times_verdict net bucket horizon
      (records (link_time_header ++ flat_map row-line all-buckets))
      ≡ Ok all-rows
  unfolding tables_on_literals link_time_header is_blank fields_text
  rows-read fit =
      let many = rows-many in
      let none : nat_lt (length all-rows) (row_count net bucket horizon) ≡ false =
      le-ltb (length all-rows) (row_count net bucket horizon) (omega (arith, many)) in
      let read = table-accepted row-fields row-line (number_in buckets) RowFits table.Times
      MOST_TIME_ROWS times_columns (time_row_of net bucket horizon) names
      (λ c f. (refl, row-are c f, f.number)) row-line-is (λ _. refl) row-told row-accepted
      all-buckets (link_time_header ++ flat_map row-line all-buckets) fit refl refl refl refl refl
      (buckets_rise buckets 0 (length net.links)
      ∙ ap (λ a. range_with_len a (length net.links * buckets)) (from-one buckets)
      ∙ ap (range_with_len 1) (sym (buckets_many buckets 0 (length net.links)))) in
      rw (read, none) refl
    where
      from-one : (b : ℕ) → 0 * b + 1 ≡ 1
      from-one b = omega arith

-- ---- the table of a sound loading
module _ (p : Plan) (bucket : ℕ) (sound : IsSound p) (limits : IsWithinLimits p)
    (some : 1 ≤ bucket) where
  abbrev of-bucket : ℕ → ℕ → ℕ
  of-bucket l b = time_at (table_of p bucket) l (b * bucket)

  abbrev in-bucket : ℕ → ℕ → ℕ
  in-bucket l b = entered_in (table_of p bucket) l b

  link-is : (l : ℕ) → l < length p.net.links → link_at p.net l ≡ get_or p.net.links l no_link
  unfolding link_in
  link-is l h = ap or_no_link (slice_get-get_or p.net.links l no_link h)

  fits : (l b : ℕ) → 0 ≤ l → l < 0 + length p.net.links → b < buckets_to bucket p.horizon
      → RowFits p.net bucket p.horizon in-bucket of-bucket (l, b)
  fits l b none hl hb =
      let inside : l < length p.net.links = omega (arith, hl) in
      let row = sound.net.links.range l no_link inside in
      let at = link-is l inside in
      let steps = sound.horizon_most in
      let begins = bucket_begins bucket p.horizon b some hb in
      let few = few_entered p sound bucket l b inside hb in
      let low = times_are_not_below_free p bucket l (b * bucket) some inside in
      let high = time_short p sound bucket some l (b * bucket) inside begins in
      let place = place_inside (length p.net.links) (buckets_to bucket p.horizon) l b inside hb in
      let all = row_limit (length p.net.links) (buckets_to bucket p.horizon) p.horizon
      (few_buckets bucket p.horizon some) limits.few in
      let free = row.free in
      let moves = row.moves in
      let id = limits.ids l no_link inside in
      let id_at = ap (λ link. link.id) at in
      let free_at = ap (λ link. link.free) at in
      record {
        link = inside;
        inside = hb;
        id = omega (arith, id, id_at);
        free = omega (arith, free, free_at);
        begins = omega (arith, begins, steps);
        short = omega (arith, steps);
        few = omega (arith, few);
        least = omega (arith, low, moves, free_at);
        most = omega (arith, high);
        number = omega (arith, place, all);
      }
    where
      row_limit : (links buckets horizon : ℕ) → buckets ≤ horizon
          → links * horizon ≤ MOST_LINK_STEPS → links * buckets ≤ MOST_TIME_ROWS
      row_limit links buckets horizon h k =
          let more : links * buckets ≤ links * horizon = grind arith in
          omega (arith, more, k)

  line-same : (l b : ℕ) → bucket_line p.net (table_of p bucket) l b
      ≡ row-line p.net bucket p.horizon in-bucket of-bucket (l, b)
  unfolding bucket_line table_in
  line-same l b = refl

  lines-same : (l : ℕ) → link_lines p.net (table_of p bucket) l
      ≡ flat_map (λ b. row-line p.net bucket p.horizon in-bucket of-bucket (l, b))
      (range_with_len 0 (buckets_to bucket p.horizon))
  unfolding link_lines table_in
  lines-same l =
      λ i. flat_map (λ b. line-same l b i) (range_with_len 0 (buckets_to bucket p.horizon))

  text-same : link_time_text p.net (table_of p bucket)
      ≡ link_time_header ++ flat_map (row-line p.net bucket p.horizon in-bucket of-bucket)
      (all-buckets p.net bucket p.horizon in-bucket of-bucket)
  unfolding link_time_text
  text-same =
      ap (λ t. link_time_header ++ t)
      ((λ i. flat_map (λ l. lines-same l i) (numbers_below (length p.net.links)))
      ∙ flat_buckets (λ l b. row-line p.net bucket p.horizon in-bucket of-bucket (l, b))
      (buckets_to bucket p.horizon) 0 (length p.net.links))

  abbrev rows : List TimeRow
  rows = all-rows p.net bucket p.horizon in-bucket of-bucket

  accepted : times_verdict p.net bucket p.horizon
      (records (link_time_text p.net (table_of p bucket)))
      ≡ Ok rows
  accepted =
      ap (λ t. times_verdict p.net bucket p.horizon (records t)) text-same
      ∙ rows-read p.net bucket p.horizon in-bucket of-bucket
      (all_buckets (RowFits p.net bucket p.horizon in-bucket of-bucket)
      (buckets_to bucket p.horizon) 0 (length p.net.links) fits)

  -- the numbers of rows are those of the table, bucket by bucket
  numbers-same : (f g : ℕ → ℕ → ℕ)
      → ((l b : ℕ) → l < length p.net.links → b < buckets_to bucket p.horizon → f l b ≡ g l b)
      → by_bucket (length p.net.links) (buckets_to bucket p.horizon) f
      ≡ by_bucket (length p.net.links) (buckets_to bucket p.horizon) g
  numbers-same f g same =
      let inside = bucket_inside bucket p.horizon 0 some sound.horizon_least in
      by_bucket-is (length p.net.links) (buckets_to bucket p.horizon) g
      (by_bucket (length p.net.links) (buckets_to bucket p.horizon) f) (omega (arith, inside))
      (by_bucket-long (length p.net.links) (buckets_to bucket p.horizon) f)
      (λ l b hl hb. by_bucket-get (length p.net.links) (buckets_to bucket p.horizon) f l b hl hb
      ∙ same l b hl hb)

  each-time : (l b : ℕ) → l < length p.net.links → b < buckets_to bucket p.horizon
      → of-bucket l b
      ≡ bucket_time (link_at_of p l).free (visits_in p bucket l b (trace_after p p.horizon))
  each-time l b hl hb =
      time_is p bucket l (b * bucket) some hl (bucket_begins bucket p.horizon b some hb)
      ∙ ap (λ k. bucket_time (link_at_of p l).free
      (visits_in p bucket l k (trace_after p p.horizon))) (mul-div_cancel b some)

  travel-same : map (λ row. row.travel) rows ≡ (table_of p bucket).times
  unfolding table_in
  travel-same =
      map-map (λ (row : TimeRow). row.travel)
      (row-told p.net bucket p.horizon in-bucket of-bucket)
      (all-buckets p.net bucket p.horizon in-bucket of-bucket)
      ∙ by_buckets of-bucket (buckets_to bucket p.horizon) (length p.net.links)
      ∙ numbers-same of-bucket
      (λ l b. bucket_time (link_at_of p l).free (visits_in p bucket l b (trace_after p p.horizon)))
      each-time

  each-number : (l b : ℕ) → l < length p.net.links → b < buckets_to bucket p.horizon
      → in-bucket l b ≡ length (visits_in p bucket l b (trace_after p p.horizon))
  unfolding entered_in table_in
  each-number l b hl hb =
      by_bucket-get (length p.net.links) (buckets_to bucket p.horizon)
      (λ l b. length (visits_in p bucket l b (trace_after p p.horizon))) l b hl hb

  entered-same : map (λ row. row.entered) rows ≡ (table_of p bucket).entered
  unfolding table_in
  entered-same =
      map-map (λ (row : TimeRow). row.entered)
      (row-told p.net bucket p.horizon in-bucket of-bucket)
      (all-buckets p.net bucket p.horizon in-bucket of-bucket)
      ∙ by_buckets in-bucket (buckets_to bucket p.horizon) (length p.net.links)
      ∙ numbers-same in-bucket (λ l b. length (visits_in p bucket l b (trace_after p p.horizon)))
      each-number

  table-same : (times : List ℕ) → times ≡ (table_of p bucket).times
      → (l step : ℕ) → time_at (record {
        bucket = bucket;
        horizon = p.horizon;
        free = free_steps p.net;
        times = times;
        entered = replicate (length rows) 0;
      }) l step ≡ time_at (table_of p bucket) l step
  unfolding time_at table_in
  table-same times same l step =
      ap (λ t. cond (nat_lt step p.horizon)
      (slice_index t (place_in (buckets_to bucket p.horizon) l (step / bucket)))
      (slice_index (free_steps p.net) l)) same

  same : time_at (table_given p.net bucket p.horizon rows) ≡ time_at (table_of p bucket)
  same = λ i l step. table-same (map (λ row. row.travel) rows) travel-same l step i

pub link_times_are_read_back : LinkTimesAreReadBack
link_times_are_read_back p bucket sound limits some = record {
  rows = rows p bucket sound limits some;
  accepted = accepted p bucket sound limits some;
  entered = entered-same p bucket sound limits some;
  travel = travel-same p bucket sound limits some;
  same = same p bucket sound limits some;
}
