use Rattle.std.proofs.Common.{◌≡◌, ◌+◌, ◌*◌, ◌<◌, length, ap, sym, ◌∙◌, subst, slice_index}
use Rattle.dta_model.specs.LinkTimes.{bucket_count, place_in}
use Rattle.link_times.specs.Rows.{times_in}
use Rattle.link_times.proofs.RowFacts.{row_read}
use Rattle.link_times.proofs.table.LinkTimes.beside.Goals as goal

pub returns-in-Some : goal.returns-in-Some
returns-in-Some c =
    let t = c.self.inside in
    let l = c.args.link.0 in
    let b = c.args.bucket in
    let small = subst (λ v. l < length v.free) (sym c.self.view_is) c.requires.link in
    let many : c.len.result ≡ length t.free.items = c.len.ensures ∙ t.free.ok.0 in
    let place : c.row_place.result ≡ b * length t.free.items + l = c.row_place.ensures ∙ ap (λ n. b * n + l) many in
    row_read (length t.free.items) t.buckets b l c.row_place.result c.in-Some.time t.times.items (times_in t.rows) small place (sym c.get.ensures ∙ c.in-Some.is) c.self.invariant.rows
    ∙ ap (λ n. slice_index t.times.items (place_in n l b)) c.self.invariant.buckets
    ∙ ap (λ v. slice_index v.times (place_in (bucket_count v) l b)) c.self.view_is
