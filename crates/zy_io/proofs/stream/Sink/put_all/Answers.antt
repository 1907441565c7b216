-- One more call took a prefix of the rest.
use Rattle.std.proofs.Common.{rules}
use Rattle.zy_io.proofs.StreamLemmas.{Remains-more}
use Rattle.zy_io.proofs.stream.Sink.put_all.Goals as goal

pub loop-rest-preserved : goal.loop-rest-preserved
loop-rest-preserved g c = record {
  so_far =
      rw c.split_at.ensures.back (Remains-more (g.Self.Sink.sent c.args.self.now) (g.Self.Sink.sent c.loop-rest.self) (g.Self.Sink.sent c.put.new.self) _ _ c.in-Ok.count c.loop-rest.invariant.so_far c.in-Ok.ensures.bytes);
  none_failed = search rules;
}
