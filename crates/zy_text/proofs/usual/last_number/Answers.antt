-- The digits are those of the number.
use Rattle.std.proofs.Common.{rules, ◌∙◌, ◌∷◌, [], ap, sym}
use Rattle.std.specs.Fmt.{decimal}
use Rattle.zy_text.proofs.UsualLemmas.{one_digit, two_digits}
use Rattle.zy_text.proofs.usual.last_number.Goals as goal

pub returns-in_ok-value-in-10-clause-words : goal.returns-in_ok-value-in-10-clause-words
returns-in_ok-value-in-10-clause-words c =
    one_digit c.in_ok-digit_from-in-10.field-0 c.args.text.now (search rules) (search rules) (search rules) (search rules)
    ∙ ap (λ d. decimal d ∷ []) (sym c.in_ok-value-in-10.ensures.0)

pub returns-in_ok-value-in-10-2-clause-words : goal.returns-in_ok-value-in-10-2-clause-words
returns-in_ok-value-in-10-2-clause-words c =
    two_digits c.in_ok-tens-in-10-2.tens c.in_ok-ones-in-10-2.ones c.args.text.now (search rules) (search rules) (search rules) (search rules)
    (search rules) (search rules) (search rules)
    ∙ ap (λ d. decimal d ∷ []) (sym c.in_ok-value-in-10-2.ensures.0)
