-- One digit is the number, and so are two.
use Rattle.std.proofs.Common.{◌++◌, ◌∷◌, [], ap, ◌∙◌, arith}
use Rattle.std.proofs.lemmas.Fmt.{decimal_digit}
use Rattle.zy_io.proofs.DigitLemmas.{decimal_two}
use Rattle.zy_io.proofs.digits.with_front.Goals as goal

pub returns-then-number-lt10-clause-items : goal.returns-then-number-lt10-clause-items
returns-then-number-lt10-clause-items c =
    let items = c.args.bytes.items in
    rw (decimal_digit c.args.number (omega arith)) (c.push_reserved.ensures.items ∙ ap (λ d. items ++ d ∷ []) c.digit.ensures)

pub returns-clause-items : goal.returns-clause-items
returns-clause-items c = rw (decimal_two c.args.number (omega arith) (omega arith)) c.with_pair.ensures.items
