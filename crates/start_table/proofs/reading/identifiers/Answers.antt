use Rattle.std.proofs.Common.{◌≡◌, ◌∙◌, ap, Bor, Err, false, List, map, Result, subst, sym, true, ℕ}
use Rattle.std.specs.List.{list_any}
use Rattle.fixed_units.specs.Quantity.{whole_of}
use Rattle.row_reader.specs.declared.accepted.RowRefusal.{RowRefusal}
use Rattle.row_reader.specs.declared.accepted.RowRefusal.TheVariants as refusal
use Rattle.row_reader.specs.declared.faults.Complaint.{Complaint}
use Rattle.start_table.specs.StartTable.{is_beyond, is_formless, value_in}
use Rattle.start_table.proofs.Pieces.{any_here, beyond_more, formed_more, take_all, told_beyond, told_formless, told_values, values_more}
use Rattle.start_table.proofs.reading.identifiers.Goals as goal

abbrev err_of : {T : Type 0} → Complaint → Result T RowRefusal
err_of a = Err (refusal.Complaint a)

same_complaint : {T : Type 0} (a b : Complaint) → err_of {T = T} a ≡ err_of {T = T} b → a ≡ b
same_complaint a b e = cc

abbrev text_of : Bor (List ℕ) → List ℕ
text_of p = p.now

pub returns-then-is_formless-clause-complaint : goal.returns-then-is_formless-clause-complaint
returns-then-is_formless-clause-complaint c w e =
    told_formless c.args.column text_of c.args.pieces.now
    (any_here (λ p. is_formless (whole_of (text_of p))) c.args.pieces.now c.loop-piece.piece-index _ c.loop-piece-test.true
    (sym (ap is_formless c.whole-read.ensures.value) ∙ sym c.is_formless.ensures ∙ c.if-is_formless.true))
    ∙ ap Err (sym c.not_a_number.ensures ∙ same_complaint c.not_a_number.result w e)

pub loop-piece-preserved : goal.loop-piece-preserved
loop-piece-preserved c = record {
  formed =
      formed_more c.args.column text_of c.args.pieces.now c.loop-piece.piece-index _ c.loop-piece-test.true c.loop-piece.invariant.formed
      (sym (ap is_formless c.whole-read.ensures.value) ∙ sym c.is_formless.ensures ∙ c.if-is_formless.false);
  beyond =
      beyond_more c.args.column text_of c.args.pieces.now c.loop-piece.piece-index _ c.loop-piece.beyond c.is_beyond-beyond.result c.loop-piece-test.true c.loop-piece.invariant.beyond
      (c.is_beyond-beyond.ensures ∙ ap is_beyond c.whole-read.ensures.value);
  ids =
      values_more c.args.column text_of c.args.pieces.now c.loop-piece.piece-index _ c.loop-piece.ids.items c.push.new.self.items c.value_in.result c.loop-piece-test.true c.loop-piece.invariant.ids
      (c.value_in.ensures ∙ ap value_in c.whole-read.ensures.value) c.in_ok-push.ensures.items;
}

pub returns-then-beyond-clause-complaint : goal.returns-then-beyond-clause-complaint
returns-then-beyond-clause-complaint c w e =
    let all = take_all c.loop-piece.piece-index c.args.pieces.now c.loop-piece-test.false in
    told_beyond c.args.column text_of c.args.pieces.now
    (subst (λ l. list_any (λ p. is_formless (whole_of (text_of p))) l ≡ false) all c.loop-piece.invariant.formed)
    (subst (λ l. list_any (λ p. is_beyond (whole_of (text_of p))) l ≡ true) all (c.loop-piece.invariant.beyond ∙ c.if-beyond.true))
    ∙ ap Err (sym c.not_a_number-then-beyond.ensures ∙ same_complaint c.not_a_number-then-beyond.result w e)

pub returns-clause-ids : goal.returns-clause-ids
returns-clause-ids c =
    let all = take_all c.loop-piece.piece-index c.args.pieces.now c.loop-piece-test.false in
    told_values c.args.column text_of c.args.pieces.now c.of.result
    (subst (λ l. list_any (λ p. is_formless (whole_of (text_of p))) l ≡ false) all c.loop-piece.invariant.formed)
    (subst (λ l. list_any (λ p. is_beyond (whole_of (text_of p))) l ≡ false) all (c.loop-piece.invariant.beyond ∙ c.if-beyond.false))
    (c.of.ensures ∙ subst (λ l. c.loop-piece.ids.items ≡ map (λ p. value_in (whole_of (text_of p))) l) all c.loop-piece.invariant.ids)
