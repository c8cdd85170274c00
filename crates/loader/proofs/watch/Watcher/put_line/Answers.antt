use Rattle.loader.proofs.Watches.{put-part, put-whole}
use Rattle.loader.proofs.watch.Watcher.put_line.Goals as goal

-- src/watch.rt:36:5
pub returns-in-Ok-clause-put : goal.returns-in-Ok-clause-put
returns-in-Ok-clause-put g c = λ before h shown more.
    put-whole c.args.self.now c.args.eight.now before _ _ c.requires.whole
    (rw c.in-Ok.is at c.put_watch.ensures.whole)
    c.put_watch.ensures.cause.later c.put_watch.ensures.left c.put_watch.ensures.reads h shown more

-- src/watch.rt:36:5
pub returns-in-Err-clause-put : goal.returns-in-Err-clause-put
returns-in-Err-clause-put g c = λ before h shown more.
    put-part c.args.self.now c.args.eight.now before _ _ c.requires.whole
    (rw c.in-Err.is at c.put_watch.ensures.refused)
    c.put_watch.ensures.cause.later (rw c.in-Err.is at c.put_watch.ensures.cause.failed)
    c.put_watch.ensures.left c.put_watch.ensures.reads h shown more
