use Rattle.std.proofs.Common.{◌∷◌, [], ap, map, slice_get}
use Rattle.zy_state_ids.proofs.PartLemmas.{five}
use Rattle.zy_state_ids.proofs.numbers.shared_numbers.Goals as goal

pub returns-clause-numbers : goal.returns-clause-numbers
returns-clause-numbers c =
    let a = c.in_ok-node_bytes.field-0.items in
    let b = c.in_ok-node_bytes-2.field-0.items in
    let ab = c.in_ok-link_bytes.field-0.items in
    let ba = c.in_ok-link_bytes-2.field-0.items in
    let none = ap (map (slice_get c.args.table.now)) c.in_ok-numbers.ensures.items in
    five _ _ c.args.machine.now.state c.in_ok-node_bytes.ensures c.in_ok-node_bytes-2.ensures c.in_ok-link_bytes.ensures c.in_ok-link_bytes-2.ensures
    c.in_ok-commit_bytes.ensures (c.in_ok-put-5.ensures.numbers (a ∷ b ∷ ab ∷ ba ∷ []) (c.in_ok-put-4.ensures.numbers (a ∷ b ∷ ab ∷ [])
    (c.in_ok-put-3.ensures.numbers (a ∷ b ∷ []) (c.in_ok-put-2.ensures.numbers (a ∷ []) (c.in_ok-put.ensures.numbers [] none)))))

pub returns-clause-keeps : goal.returns-clause-keeps
returns-clause-keeps c i x e =
    c.in_ok-put-5.ensures.keeps i x (c.in_ok-put-4.ensures.keeps i x (c.in_ok-put-3.ensures.keeps i x (c.in_ok-put-2.ensures.keeps i x (c.in_ok-put.ensures.keeps i x e))))
