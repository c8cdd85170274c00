use Rattle.std.proofs.Common.{refl, sym, ◌∙◌, arith}
use Rattle.std.proofs.lemmas.List.Folds.{list_all_more}
use Rattle.fixed_units.specs.Quantity.{is_digit}
use Rattle.fixed_units.proofs.Leads.{leads-no_digits, leads-more}
use Rattle.fixed_units.proofs.leading.walk.Goals as goal

pub each-init : goal.each-init
each-init c = record {
  digits = refl;
  leads = λ n h. leads-no_digits n c.args.before h;
  dropped = omega arith;
}

pub each-preserved : goal.each-preserved
each-preserved c = record {
  digits = rw (list_all_more is_digit c.args.text.now c.each.place 0 c.each-test.true, c.each.invariant.digits) (sym c.is_digit.ensures ∙ c.if-not-is_digit.false);
  leads = λ n h. leads-more n c.each.place c.args.text.now c.followed_by-leading.result c.each-test.true (c.followed_by-leading.ensures.leading _ (c.each.invariant.leads n h));
  dropped = omega arith;
}
