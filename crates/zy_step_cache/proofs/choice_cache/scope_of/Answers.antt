use Rattle.std.proofs.Common.{subst, sym, ℕ}
use Rattle.zy_isa.specs.declared.choice.Choice.TheVariants.{Run}
use Rattle.zy_step_cache.specs.Steps.{IsInScope}
use Rattle.zy_step_cache.proofs.ChoiceCacheLemmas.{if_some}
use Rattle.zy_step_cache.proofs.choice_cache.scope_of.Goals as goal

pub returns-in-Run : goal.returns-in-Run
returns-in-Run c =
    if_some (λ k. (t : ℕ) → IsInScope (Run c.in-Run.n t) k c.args.before.now c.args.after.now) (λ k. IsInScope c.args.choice k c.args.before.now c.args.after.now)
    c.run_scope.result (λ k p. subst (λ y. IsInScope y k c.args.before.now c.args.after.now) (sym c.in-Run.is) (p c.in-Run.field-1)) c.run_scope.ensures
