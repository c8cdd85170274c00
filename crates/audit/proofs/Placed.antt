-- Rows beside the journeys of a loading, and beside the buckets of its link times.
use Rattle.std.proofs.Common.{◌≡◌, ℕ, ◌*◌, ◌/◌, ◌%◌, ◌<◌, List, length, ap, sym, ◌∙◌, arith, get_or}
use Rattle.std.specs.List.{zip}
use Rattle.std.proofs.lemmas.List.{length-map}
use Rattle.std.proofs.lemmas.Slice.Zip.{get_or-zip, length-zip}
use Rattle.std.specs.Prelude.{min}
use Rattle.net_core.specs.declared.rows.LinkRow.{LinkRow}
use Rattle.dta_model.specs.LinkTimes.{TimeTable, bucket_count, buckets_to, entered_in, table_in, table_of, time_at}
use Rattle.dta_model.specs.declared.loaded.Journey.{Journey}
use Rattle.dta_model.specs.declared.plan.Plan.{Plan}
use Rattle.agent_table.specs.declared.rows.AgentRow.{AgentRow}

-- ---- pairs
pub pair_is : (agents : List AgentRow) (journeys : List Journey) (r : ℕ) (row : AgentRow) (journey : Journey) → length agents ≡ length journeys → r < length agents
    → row ≡ get_or agents r row → journey ≡ get_or journeys r journey → (row, journey) ≡ get_or (zip agents journeys) r (row, journey)
pair_is agents journeys r row journey many h a b =
    ap (λ (x : AgentRow). (x, journey)) a ∙ ap (λ (y : Journey). (get_or agents r row, y)) b
    ∙ sym (get_or-zip agents journeys r (row, journey) h (omega (arith, h, many)))

pub pairs_many : (agents : List AgentRow) (journeys : List Journey) → length agents ≡ length journeys → length (zip agents journeys) ≡ length agents
pairs_many agents journeys many = length-zip agents journeys ∙ ap (λ n. min (length agents) n) (sym many) ∙ same (length agents)
  where
    same : (n : ℕ) → min n n ≡ n
    same n = grind arith

-- ---- buckets
pub entered_is : (t : TimeTable) (r l b n x : ℕ) → n ≡ bucket_count t → l ≡ r / n → b ≡ r % n → x ≡ entered_in t l b → x ≡ entered_in t (r / bucket_count t) (r % bucket_count t)
entered_is t r l b n x en el eb ex =
    ex ∙ ap (λ k. entered_in t k b) (el ∙ ap (λ m. r / m) en) ∙ ap (λ k. entered_in t (r / bucket_count t) k) (eb ∙ ap (λ m. r % m) en)

pub time_is : (t : TimeTable) (r l b n first steps x : ℕ) → n ≡ bucket_count t → l ≡ r / n → b ≡ r % n → first ≡ b → steps ≡ t.bucket → x ≡ time_at t l (first * steps)
    → x ≡ time_at t (r / bucket_count t) (r % bucket_count t * t.bucket)
time_is t r l b n first steps x en el eb ef es ex =
    ex ∙ ap (λ k. time_at t k (first * steps)) (el ∙ ap (λ m. r / m) en)
    ∙ ap (λ k. time_at t (r / bucket_count t) (k * steps)) (ef ∙ eb ∙ ap (λ m. r % m) en)
    ∙ ap (λ k. time_at t (r / bucket_count t) (r % bucket_count t * k)) es

-- ---- the table of a loading
pub links_many : (p : Plan) (bucket : ℕ) (t : TimeTable) → t ≡ table_of p bucket → length t.free ≡ length p.net.links
unfolding table_in
links_many p bucket t e = ap (λ (u : TimeTable). length u.free) e ∙ length-map p.net.links (λ (link : LinkRow). link.free)

pub buckets_many : (p : Plan) (bucket : ℕ) (t : TimeTable) → t ≡ table_of p bucket → bucket_count t ≡ buckets_to bucket p.horizon
unfolding table_in
buckets_many p bucket t e = ap (λ (u : TimeTable). bucket_count u) e
