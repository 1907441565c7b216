-- What was taken so far is what is held.
use Rattle.std.proofs.Common.{◌≡◌, ◌≤◌, ◌+◌, ◌-◌, vec_len}
use Rattle.std.specs.Io.KnownBytes.{Consumes}
use Rattle.zy_io.proofs.reading.read_all.Given as goal
use Rattle.zy_io.specs.Streams.{max_input, most_read}

abbrev pub invariant-loop-count : goal.invariant-loop-count
invariant-loop-count g l = record {
  so_far : Consumes (g.S.Source.pulled l.initial.source).left (g.S.Source.pulled l.source).left l.bytes.items;
  none_failed : (g.S.Source.pulled l.source).failures ≡ (g.S.Source.pulled l.initial.source).failures;
  bound : (g.S.Source.pulled l.source).given ≤ (g.S.Source.pulled l.initial.source).given + vec_len l.bytes;
  room : vec_len l.bytes ≤ max_input;
}

abbrev pub decreases-loop-count : goal.decreases-loop-count
decreases-loop-count g l = most_read - vec_len l.bytes
