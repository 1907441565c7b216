-- A label by the last byte of its word.
use Rattle.std.proofs.Common.{◌∙◌, ap, sym, refl}
use Rattle.zy_text.specs.Names.{label_of}
use Rattle.zy_text.proofs.LabelLemmas.{label-last, label-not, label-none}
use Rattle.zy_text.proofs.names.label_of.Goals as goal
use Rattle.zy_text.proofs.names.label_of.Goals.{in_default-via-in-Some+else-last-eq58, in_default-via-in_default}

pub returns-in-Some : goal.returns-in-Some
returns-in-Some c = sym (ap label_of c.in-Some.ensures.cases.0 ∙ label-last c.in-Some.name.now c.in-Some.last.now ∙ rw c.if-last-eq58.true refl)

pub returns-in_default : goal.returns-in_default
returns-in_default c =
    elim c.in_default.branch [
      | in_default-via-in-Some+else-last-eq58 w ↦ sym (ap label_of w.in-Some.ensures.cases.0
          ∙ label-not w.in-Some.name.now w.in-Some.last.now w.if-last-eq58.false)
      | in_default-via-in_default w ↦ sym (label-none c.args.word.now w.in_default.ensures.cases)
    ]
