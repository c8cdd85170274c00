use Rattle.assignment.proofs.iterations.begin.Goals as goal

pub returns : goal.returns
returns g c = record {
  started = c.in_ok-routes.ensures.started;
  routed = record { each = c.in_ok-routes.ensures.started.as_many; walks = c.in_ok-routes.ensures.walks };
  none = c.new-lines.ensures.items;
}
