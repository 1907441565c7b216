-- The digits in front and then two at a time are the number.
use Rattle.std.proofs.Common.{ℕ, List, ◌++◌, ◌∷◌, [], ◌+◌, ◌/◌, ◌%◌, ◌≡◌, ap, ◌∙◌, arith, append_assoc}
use Rattle.std.specs.Fmt.{decimal}
use Rattle.zy_io.proofs.DigitLemmas.{decimal_hundreds}
use Rattle.zy_io.proofs.digits.with_number.Goals as goal

-- a number's last two digits
abbrev last_two : ℕ → List ℕ
last_two n = (48 + n % 100 / 10) ∷ (48 + n % 100 % 10) ∷ []

pub returns-then-number-lt10000-clause-items : goal.returns-then-number-lt10000-clause-items
returns-then-number-lt10000-clause-items c =
    let n = c.args.number in
    let items = c.args.bytes.items in
    rw (decimal_hundreds n (omega arith) (omega arith))
    (c.with_pair.ensures.items
    ∙ ap (λ l. l ++ last_two n) c.with_front-then-number-lt10000.ensures.items
    ∙ append_assoc items (decimal (n / 100)) (last_two n))

pub returns-then-number-lt1000000-clause-items : goal.returns-then-number-lt1000000-clause-items
returns-then-number-lt1000000-clause-items c =
    let n = c.args.number in
    let items = c.args.bytes.items in
    let hundreds = n / 100 in
    let front : decimal (n / 10000) ≡ decimal (hundreds / 100) = ap decimal (omega arith) in
    rw (decimal_hundreds n (omega arith) (omega arith))
    (rw (decimal_hundreds hundreds (omega arith) (omega arith))
    (c.with_pair-then-number-lt1000000.ensures.items
    ∙ ap (λ l. l ++ last_two n) (c.with_pair-hundreds.ensures.items ∙ ap (λ l. l ++ last_two hundreds) (c.with_front-then-number-lt1000000.ensures.items ∙ ap (λ ds. items ++ ds) front))
    ∙ ap (λ l. l ++ last_two n) (append_assoc items (decimal (hundreds / 100)) (last_two hundreds))
    ∙ append_assoc items (decimal (hundreds / 100) ++ last_two hundreds) (last_two n)))
