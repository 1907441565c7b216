-- The word `begin` and a space are in front of the number.
use Rattle.std.proofs.Common.{rules, ◌∙◌, ◌∷◌, ap, codes}
use Rattle.zy_text.proofs.UsualLemmas.{behind_begin}
use Rattle.zy_text.proofs.usual.client_line.Goals as goal

pub returns-clause-line : goal.returns-clause-line
returns-clause-line c = record {
  spelled = ap (λ ws. codes "C" ∷ ws)
      (behind_begin c.args.text.now (search rules) (search rules) (search rules) (search rules) (search rules) (search rules) (search rules)
      ∙ ap (λ ws. codes "begin" ∷ ws) c.in_ok-number.ensures.words);
  named = search rules;
}
