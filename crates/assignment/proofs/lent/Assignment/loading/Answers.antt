use Rattle.assignment.specs.Lent.{settings_in, traffic_in}
use Rattle.assignment.proofs.AssignmentFacts.{sound-plan}
use Rattle.assignment.proofs.lent.Assignment.loading.Goals as goal

pub returns-clause-sound : goal.returns-clause-sound
returns-clause-sound c =
    let a = c.args.self.now in
    let is = c.requires.is in
    sound-plan (settings_in a) (traffic_in a) c.args.routes.now is.settings is.traffic.net is.traffic.trips c.requires.routes
