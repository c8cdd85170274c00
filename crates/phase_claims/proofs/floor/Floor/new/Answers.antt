use Rattle.std.proofs.Common.{suc, ◌+◌, ◌-◌, ℕ, List, ap, length, sym, ◌∙◌, rules}
use Rattle.dta_model.specs.Units.{node_count, posting_part}
use Rattle.phase_claims.specs.Scopes.{scope_of}
use Rattle.phase_claims.specs.declared.rule.Key.{Key}
use Rattle.phase_claims.specs.declared.work_told.TheConstants.{FIRST_NODE_WORD}
use Rattle.phase_claims.proofs.Allowed.{begins_with, length_zeros, zero_words}
use Rattle.phase_claims.proofs.PlacesStart.{homes_start, parts_count}
use Rattle.phase_claims.proofs.floor.Floor.new.Goals as goal

pub new-requires : goal.new-requires
new-requires c =
    let start = c.in_ok-start.ensures in
    let homes = homes_start _ _ _ _ _ (c.into_vec-cells.ensures ∙ start.cells) (c.into_vec.ensures ∙ start.mail) c.requires.own c.requires.new c.in_ok-parts.ensures (c.args.passes - 1) in
    let words = c.deref.ensures.value ∙ c.in_ok-words.ensures ∙ ap (λ (n : ℕ). zero_words (FIRST_NODE_WORD + n)) c.of-units.ensures.nodes in
    begins_with _ _ _ words homes c.requires.sound c.requires.least c.requires.most

pub invariant_of-floor : goal.invariant_of-floor
invariant_of-floor c =
    let start = c.in_ok-start.ensures in
    let count = parts_count (scope_of (record { loading = c.args.loading.now; board = c.args.board; passes = c.args.passes })) _ _ _ _ (c.into_vec-cells.ensures ∙ start.cells) (c.into_vec.ensures ∙ start.mail) c.requires.own c.requires.new c.in_ok-parts.ensures in
    let words = c.deref.ensures.value ∙ c.in_ok-words.ensures ∙ ap (λ (n : ℕ). zero_words (FIRST_NODE_WORD + n)) c.of-units.ensures.nodes in
    record {
      words = c.in-Ok.ensures.ok.0 ∙ ap (λ (xs : List ℕ). length xs) words ∙ length_zeros _ ∙ ap (λ (key : Key). FIRST_NODE_WORD + node_count (scope_of key).plan) (sym c.in-Ok.ensures.ok.5);
      slots = c.in-Ok.ensures.ok.1 ∙ count ∙ ap (λ (key : Key). suc (posting_part (scope_of key).plan)) (sym c.in-Ok.ensures.ok.5);
      plan = search rules;
      board = search rules;
      sound = search rules;
      nodes = search rules;
      horizon = search rules;
      passes = search rules;
      loaded = search rules;
    }
