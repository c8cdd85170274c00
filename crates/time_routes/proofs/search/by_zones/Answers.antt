use Rattle.std.proofs.Common.{◌<◌, ◌∷◌, ◌++◌, [], ap, length, sym, ◌∙◌, subst, take}
use Rattle.std.proofs.lemmas.List.{map_push, take_more}
use Rattle.std.proofs.lemmas.Option.{slice_get-get_or}
use Rattle.net_core.specs.Network.{zones}
use Rattle.time_routes.specs.Tell.{origins_of, wanted_zone}
use Rattle.time_routes.proofs.TellFacts.{wanted_at}
use Rattle.labels.proofs.OfStates.ByZoneFacts.{listed_more}
use Rattle.time_routes.proofs.search.by_zones.Goals as goal

pub loop-v-preserved : goal.loop-v-preserved
loop-v-preserved c =
    let net = c.args.net.now in
    let trips = c.args.trips.now in
    let asks = c.args.asks.now in
    let v = c.loop-v.v in
    let here = c.loop-v-test.true in
    let asked = slice_get-get_or asks v _ (subst (λ n. v < n) (sym c.requires.each) here) in
    record {
      many = c.number_of.ensures.many;
      right = c.number_of.ensures.right;
      origins = c.in_ok-push.ensures.items ∙ ap (λ l. l ++ c.number_of.result ∷ []) c.loop-v.invariant.origins ∙ ap (λ n. origins_of net (take v trips) ++ n ∷ []) c.number_of.ensures.is
          ∙ sym (ap (origins_of net) (take_more trips v _ here) ∙ map_push _ (take v trips) _);
      lists = listed_more c.loop-v.lists c.note.new.self (length (zones net.nodes)) (wanted_zone net trips asks) v c.zone_wanted.result
          (c.zone_wanted.ensures.is ∙ sym (wanted_at net trips asks v _ _ (slice_get-get_or trips v _ here) asked)) c.in_ok-note.ensures c.loop-v.invariant.lists;
    }
