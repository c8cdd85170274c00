use Rattle.std.proofs.Common.{◌≡◌, ℕ, ◌-◌, ◌∙◌, arith, refl, subst}
use Rattle.std.proofs.lemmas.Result.{err_from_is_err_and}
use Rattle.loader.specs.Gates.{gate_of}
use Rattle.assignment.specs.Lent.{settings_in, traffic_in}
use Rattle.assign_command.specs.Progress.{IsAt}
use Rattle.assign_command.specs.Receipts.{by_workers, numbers_in}
use Rattle.assign_command.proofs.IterateFacts.{ahead, begun, halts-first, last-measured, load-halts, memory-halts}
use Rattle.assign_command.proofs.ReceiptFacts.{all-more, gives-all, gives-more, no-loadings, some-more}
use Rattle.assign_command.proofs.iterate.iterate.Goals as goal

pub returns-in_err-it-clause-watches : goal.returns-in_err-it-clause-watches
returns-in_err-it-clause-watches g c =
    let p = err_from_is_err_and c.from_residual.result c.from_residual.ensures.1 in
    rw (p.1, p.2) (record {
      done = tt;
      halts = halts-first (settings_in c.args.assignment.now) (traffic_in c.args.assignment.now) (g.D.Desk.state c.args.desk.now).taken c.requires.is.traffic.start;
      failed = λ e. absurd cc;
      later = omega arith;
      left = refl;
      reads = refl;
    })

pub returns-in_err-it-clause-receipts : goal.returns-in_err-it-clause-receipts
returns-in_err-it-clause-receipts g c =
    let p = err_from_is_err_and c.from_residual.result c.from_residual.ensures.1 in
    rw (p.1, p.2) (record { all = tt; some = (0, omega arith, refl) })

pub loop-number-init : goal.loop-number-init
loop-number-init g c = record {
  before = begun (settings_in c.args.assignment.now) (traffic_in c.args.assignment.now) c.in_ok-it.it.routes c.in_ok-it.it.lines.items (g.D.Desk.state c.args.desk.now).taken c.requires.is.traffic.start c.in_ok-it.ensures;
  routes = c.in_ok-it.ensures.routed;
  left = refl;
  later = omega arith;
  reads = refl;
  receipts = no-loadings (settings_in c.args.assignment.now).plain (numbers_in (settings_in c.args.assignment.now) (traffic_in c.args.assignment.now))
      (gate_of g.G.Gate.closes g.G.Gate.last c.args.gate.now);
}

pub loop-number-preserved : goal.loop-number-preserved
loop-number-preserved g c =
    let a = c.args.assignment.now in
    let i = c.loop-number.invariant in
    let w = (c.requires.loads _ _ _ _ _ _ _ i.routes c.in_ok-loaded.ensures).watches in
    let took = c.requires.receipts _ _ _ _ _ _ _ i.routes c.in_ok-loaded.ensures in
    let many = i.before.at.as_many in
    record {
      before = ahead (settings_in a) (traffic_in a) c.loop-number.number c.loop-number.it.routes c.advance.new.it.routes c.loop-number.it.lines.items
          c.advance.new.it.lines.items (g.D.Desk.state c.args.desk.now).taken _ _ i.before w.done c.in_ok-advance.ensures;
      routes = c.in_ok-advance.ensures.routed;
      left = w.left ∙ i.left;
      later = (let p = i.later in let q = w.later in omega (arith, p, q));
      reads = w.reads ∙ i.reads;
      receipts = all-more (settings_in a).plain (numbers_in (settings_in a) (traffic_in a)) _ (c.loop-number.number - 1) 1 _ _ _
          (omega (arith, many)) i.receipts took.all;
    }

pub returns-in_err-loaded-clause-watches : goal.returns-in_err-loaded-clause-watches
returns-in_err-loaded-clause-watches g c =
    let p = err_from_is_err_and c.from_residual-in_err-loaded.result c.from_residual-in_err-loaded.ensures.1 in
    let a = c.args.assignment.now in
    let i = c.loop-number.invariant in
    let w = (c.requires.loads _ _ _ _ _ _ _ i.routes c.in_err-loaded.ensures).watches in
    rw (p.1, p.2) (load-halts (settings_in a) (traffic_in a) c.loop-number.number c.loop-number.it.routes c.loop-number.it.lines.items (omega arith)
    (g.D.Desk.state c.args.desk.now) _ _ i.before i.later i.left i.reads _ w)

pub returns-in_err-loaded-clause-receipts : goal.returns-in_err-loaded-clause-receipts
returns-in_err-loaded-clause-receipts g c =
    let p = err_from_is_err_and c.from_residual-in_err-loaded.result c.from_residual-in_err-loaded.ensures.1 in
    let a = c.args.assignment.now in
    let i = c.loop-number.invariant in
    let took = c.requires.receipts _ _ _ _ _ _ _ i.routes c.in_err-loaded.ensures in
    let many = i.before.at.as_many in
    rw (p.1, p.2) (record {
      all = tt;
      some = some-more (settings_in a).plain (numbers_in (settings_in a) (traffic_in a)) _ (c.loop-number.number - 1) 1 _ _ _
          (omega (arith, many)) i.receipts took.some;
    })

pub returns-in_err-advance-clause-watches : goal.returns-in_err-advance-clause-watches
returns-in_err-advance-clause-watches g c =
    let p = err_from_is_err_and c.from_residual-in_err-advance.result c.from_residual-in_err-advance.ensures.1 in
    let a = c.args.assignment.now in
    let i = c.loop-number.invariant in
    let w = (c.requires.loads _ _ _ _ _ _ _ i.routes c.in_ok-loaded.ensures).watches in
    rw (p.1, p.2) (memory-halts (settings_in a) (traffic_in a) c.loop-number.number c.loop-number.it.routes c.loop-number.it.lines.items (omega arith)
    (g.D.Desk.state c.args.desk.now) _ _ i.before i.later i.left i.reads _ w)

pub returns-in_err-advance-clause-receipts : goal.returns-in_err-advance-clause-receipts
returns-in_err-advance-clause-receipts g c =
    let p = err_from_is_err_and c.from_residual-in_err-advance.result c.from_residual-in_err-advance.ensures.1 in
    let a = c.args.assignment.now in
    let i = c.loop-number.invariant in
    let took = c.requires.receipts _ _ _ _ _ _ _ i.routes c.in_ok-loaded.ensures in
    let many = i.before.at.as_many in
    rw (p.1, p.2) (record {
      all = tt;
      some = some-more (settings_in a).plain (numbers_in (settings_in a) (traffic_in a)) _ (c.loop-number.number - 1) 1 _ _ _
          (omega (arith, many)) i.receipts (by_workers (settings_in a).plain 1, omega arith, took.all);
    })

pub returns-in_err-loaded-2-clause-watches : goal.returns-in_err-loaded-2-clause-watches
returns-in_err-loaded-2-clause-watches g c =
    let p = err_from_is_err_and c.from_residual-in_err-loaded-2.result c.from_residual-in_err-loaded-2.ensures.1 in
    let a = c.args.assignment.now in
    let i = c.loop-number.invariant in
    let least = c.requires.is.settings.iterations.0 in
    let last : c.loop-number.number ≡ (settings_in a).iterations = omega (arith, least) in
    let at = subst (λ (n : ℕ). IsAt (settings_in a) (traffic_in a) n c.loop-number.it.routes c.loop-number.it.lines.items (g.D.Desk.state c.args.desk.now).taken (g.D.Desk.state c.loop-number.desk).taken) last i.before in
    let w = (c.requires.loads _ _ _ _ _ _ _ i.routes c.in_err-loaded-2.ensures).watches in
    rw (p.1, p.2) (load-halts (settings_in a) (traffic_in a) (settings_in a).iterations c.loop-number.it.routes c.loop-number.it.lines.items (omega arith)
    (g.D.Desk.state c.args.desk.now) _ _ at i.later i.left i.reads _ w)

pub returns-in_err-loaded-2-clause-receipts : goal.returns-in_err-loaded-2-clause-receipts
returns-in_err-loaded-2-clause-receipts g c =
    let p = err_from_is_err_and c.from_residual-in_err-loaded-2.result c.from_residual-in_err-loaded-2.ensures.1 in
    let a = c.args.assignment.now in
    let i = c.loop-number.invariant in
    let least = c.requires.is.settings.iterations.0 in
    let last : c.loop-number.number ≡ (settings_in a).iterations = omega (arith, least) in
    let many = i.before.at.as_many in
    let took = c.requires.receipts _ _ _ _ _ _ _ i.routes c.in_err-loaded-2.ensures in
    rw (p.1, p.2) (record {
      all = tt;
      some = some-more (settings_in a).plain (numbers_in (settings_in a) (traffic_in a)) _ (c.loop-number.number - 1) 1 _ _ _
          (omega (arith, last, many)) i.receipts took.some;
    })

pub returns-clause-watches : goal.returns-clause-watches
returns-clause-watches g c =
    let a = c.args.assignment.now in
    let i = c.loop-number.invariant in
    let least = c.requires.is.settings.iterations.0 in
    let last : c.loop-number.number ≡ (settings_in a).iterations = omega (arith, least) in
    let at = subst (λ (n : ℕ). IsAt (settings_in a) (traffic_in a) n c.loop-number.it.routes c.loop-number.it.lines.items (g.D.Desk.state c.args.desk.now).taken (g.D.Desk.state c.loop-number.desk).taken) last i.before in
    let w = (c.requires.loads _ _ _ _ _ _ _ i.routes c.in_ok-loaded-2.ensures).watches in
    last-measured (settings_in a) (traffic_in a) c.loop-number.it.routes c.loop-number.it.lines.items (g.D.Desk.state c.args.desk.now) _ _
    at i.later i.left i.reads _ w c.measure_last.result c.measure_last.ensures.measured c.measure_last.ensures.memory

pub returns-clause-receipts : goal.returns-clause-receipts
returns-clause-receipts g c =
    let a = c.args.assignment.now in
    let i = c.loop-number.invariant in
    let least = c.requires.is.settings.iterations.0 in
    let last : c.loop-number.number ≡ (settings_in a).iterations = omega (arith, least) in
    let many = i.before.at.as_many in
    let took = c.requires.receipts _ _ _ _ _ _ _ i.routes c.in_ok-loaded-2.ensures in
    gives-more (settings_in a).plain (numbers_in (settings_in a) (traffic_in a)) _ c.measure_last.result (c.loop-number.number - 1) 1 _ _ _
    (omega (arith, last, many)) i.receipts (gives-all c.measure_last.result _ _ _ _ took.all)
