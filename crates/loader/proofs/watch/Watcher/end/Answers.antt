use Rattle.std.proofs.Common.{rules}
use Rattle.loader.proofs.Watches.{end-failed, end-put, end-told}
use Rattle.loader.proofs.watch.Watcher.end.Goals as goal

-- src/watch.rt:92:13
pub returns-then-self : goal.returns-then-self
returns-then-self g c = record {
  put = λ p before far posted h.
      end-failed p c.args.self c.args.writer.list c.settle.result.2 (search rules) far
      (record { posted = posted; knew = c.settle.ensures.knew; last = c.settle.ensures.last })
      _ before _ c.if-self.true h;
}

-- src/watch.rt:95:13
pub returns-then-eight-self : goal.returns-then-eight-self
returns-then-eight-self g c = record {
  put = λ p before far posted h.
      end-told p c.args.self c.args.writer.list c.settle.result.2 (search rules) far
      (record { posted = posted; knew = c.settle.ensures.knew; last = c.settle.ensures.last })
      _ before _ c.if-self.false (search rules) h;
}

-- src/watch.rt:72:5
pub returns : goal.returns
returns g c = record {
  put = λ p before far posted h.
      end-put p c.args.self c.args.writer.list c.settle.result.2 (search rules) far
      (record { posted = posted; knew = c.settle.ensures.knew; last = c.settle.ensures.last })
      _ before _ _ c.if-self.false (search rules) c.put_watch.ensures h;
}
