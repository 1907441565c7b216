-- Three words follow.
use Rattle.std.proofs.Common.{◌∙◌, ap, sym, inr, rules, Err}
use Rattle.zy_asm.proofs.CodeLemmas.{target_few, target_many}
use Rattle.zy_asm.proofs.instructions.with_target.Goals as goal
use Rattle.zy_asm.proofs.instructions.with_target.Goals.{in_default-via-then-words-lt3, in_default-via-else-words-lt3+else-words-lt4}

pub returns-in_default : goal.returns-in_default
returns-in_default c =
    let kind = ap Err (sym c.miscounted.ensures) in
    elim c.in_default.branch [
      | in_default-via-then-words-lt3 w ↦ inr (target_few c.args.operation c.args.words.now (search rules) ∙ kind)
      | in_default-via-else-words-lt3+else-words-lt4 w ↦ inr (target_many c.args.operation c.args.words.now (search rules) ∙ kind)
    ]
