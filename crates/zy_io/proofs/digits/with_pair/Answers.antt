-- The signs in the table are the digits.
use Rattle.std.proofs.Common.{◌++◌, ◌∷◌, [], ◌+◌, ◌/◌, ◌%◌, ap, ap₂, ◌∙◌, append_assoc}
use Rattle.zy_io.proofs.PairLemmas.{tens, ones}
use Rattle.zy_io.proofs.digits.with_pair.Goals as goal

pub returns-clause-items : goal.returns-clause-items
returns-clause-items c =
    let n = c.args.number in
    let items = c.args.bytes.items in
    c.push_reserved-2.ensures.items
    ∙ ap₂ (λ l o. l ++ o ∷ []) (c.push_reserved.ensures.items ∙ ap (λ t. items ++ t ∷ []) (tens n c.requires.few)) (ones n c.requires.few)
    ∙ append_assoc items ((48 + n / 10) ∷ []) ((48 + n % 10) ∷ [])
