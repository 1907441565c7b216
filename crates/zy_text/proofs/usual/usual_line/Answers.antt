-- The actor's letter and a space are in front of what the actor's line says.
use Rattle.std.proofs.Common.{rules, List, ℕ, IfSome, refl, sym, subst}
use Rattle.zy_text.specs.Usual.{IsUsual}
use Rattle.zy_text.proofs.UsualLemmas.{behind_actor, behind_node}
use Rattle.zy_text.proofs.usual.usual_line.Goals as goal

pub returns-in-67-clause-line : goal.returns-in-67-clause-line
returns-in-67-clause-line c = subst (λ (ws : List (List ℕ)). IfSome c.client_line.result (λ r. IsUsual c.args.count ws r.choice))
    (sym (behind_actor 67 c.args.text.now (search rules) refl (search rules) (search rules))) c.client_line.ensures.line

pub returns-in_ok-node_of-in-32-clause-line : goal.returns-in_ok-node_of-in-32-clause-line
returns-in_ok-node_of-in-32-clause-line c = subst (λ (ws : List (List ℕ)). IfSome c.node_line.result (λ r. IsUsual c.args.count ws r.choice))
    (sym (behind_node c.in_ok-node_of-in-32.field-0 c.args.text.now (search rules) (search rules) (search rules))) c.node_line.ensures.line
