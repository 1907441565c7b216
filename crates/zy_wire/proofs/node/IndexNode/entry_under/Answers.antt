use Rattle.std.proofs.Common.{◌≡◌, ◌+◌, ◌-◌, ◌<◌, length, arith}
use Rattle.std.proofs.lemmas.List.{get_or_default}
use Rattle.zy_wire.proofs.Entries.{place_some}
use Rattle.zy_wire.proofs.node.IndexNode.entry_under.Goals as goal

pub overflow_sub-result : goal.overflow_sub-result
overflow_sub-result c = place_some c.args.key c.place.result c.args.self.now.entries c.args.self.now.end c.requires.some c.requires.under c.place.ensures

pub returns : goal.returns
returns c =
    let es = c.args.self.now.entries in
    let some = place_some c.args.key c.place.result es c.args.self.now.end c.requires.some c.requires.under c.place.ensures in
    let count : c.place.result ≡ (c.place.result - 1) + 1 = omega (arith, some) in
    let within : c.place.result - 1 < length es = omega (arith, c.place.ensures.0, some) in
    record {
      at = c.place.result - 1;
      place = rw count at c.place.ensures;
      is = λ d. rw c.entries.ensures.value (get_or_default es (c.place.result - 1) d (record { low = 0; to = 0 }) within);
    }
