-- The word `run` and a space are in front of the number.
use Rattle.std.proofs.Common.{rules, ◌∙◌, ◌∷◌, ap, refl, codes}
use Rattle.zy_text.specs.Canon.{node_text}
use Rattle.zy_text.proofs.UsualLemmas.{behind_run}
use Rattle.zy_text.proofs.usual.node_line.Goals as goal

pub returns-then-are_same-clause-line : goal.returns-then-are_same-clause-line
returns-then-are_same-clause-line c = record {
  spelled = ap (λ ws. node_text c.args.node ∷ ws)
      (behind_run c.args.text.now (search rules) (c.if-are_same.ensures refl) ∙ ap (λ ws. codes "run" ∷ ws) c.in_ok-number.ensures.words);
  named = search rules;
}
