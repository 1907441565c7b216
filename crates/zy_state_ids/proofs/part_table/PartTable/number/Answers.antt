use Rattle.std.proofs.Common.{◌∙◌, ap, slice_get}
use Rattle.zy_state_ids.proofs.TableLemmas.{at_place, kept, bytes_of}
use Rattle.zy_state_ids.proofs.part_table.PartTable.number.Goals as goal

pub returns-clause-number : goal.returns-clause-number
returns-clause-number c =
    let there = c.in_ok-place.ensures.stored in
    ap (slice_get (bytes_of c.insert_full.new.self.keys)) c.in_ok-number.ensures
    ∙ at_place c.insert_full.new.self.keys c.args.bytes there.0 _ there.1 there.2

pub returns-clause-keeps : goal.returns-clause-keeps
returns-clause-keeps c i x e =
    kept c.self.inside.parts.keys c.args.bytes c.insert_full.new.self.keys c.in_ok-place.ensures.keys i x (ap (λ table. slice_get table i) c.self.view_is ∙ e)
