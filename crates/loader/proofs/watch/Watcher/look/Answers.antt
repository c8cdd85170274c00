use Rattle.std.proofs.Common.{rules}
use Rattle.loader.proofs.Shown.{shown-last}
use Rattle.loader.proofs.Watches.{watched-later}
use Rattle.loader.proofs.watch.Watcher.look.Goals as goal

-- src/watch.rt:53:5
pub returns-then-self-every-clause-put : goal.returns-then-self-every-clause-put
returns-then-self-every-clause-put g c = λ before h.
    c.put_line.ensures.put before
    (watched-later c.args.self.now c.read-eight.new.pass before _ c.read-eight.ensures.list h)
    (shown-last _ _ c.read-eight.ensures.last)
    (record { watches = search rules; more = search rules })

-- src/watch.rt:53:5
pub returns-else-self-every-clause-put : goal.returns-else-self-every-clause-put
returns-else-self-every-clause-put g c = λ before h.
    watched-later c.args.self.now c.read-eight.new.pass before _ c.read-eight.ensures.list h
