use Rattle.std.proofs.Common.{◌∙◌, ap, map, slice_get}
use Rattle.zy_state_ids.proofs.PartLemmas.{one_more, stay}
use Rattle.zy_state_ids.proofs.numbers.put.Goals as goal

pub returns-clause-numbers : goal.returns-clause-numbers
returns-clause-numbers c xs e =
    ap (λ ns. map (slice_get c.number.new.self) ns) c.in_ok-push.ensures.items
    ∙ one_more c.number.new.self c.args.numbers.now.items xs c.in_ok-number.number c.args.bytes.items
    (stay c.args.table.now c.number.new.self c.in_ok-number.ensures.keeps c.args.numbers.now.items xs e) c.in_ok-number.ensures.number
