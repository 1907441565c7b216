use Rattle.std.proofs.Common.{List, ℕ, refl, subst, sym}
use Rattle.zy_step_cache.specs.StepCaches.{choice_at, Leads, Numbers}
use Rattle.zy_step_cache.proofs.ExploredLemmas.{grown, remembered}
use Rattle.zy_step_cache.proofs.explored.Explored.learn.Goals as goal

pub returns-clause-knows : goal.returns-clause-knows
returns-clause-knows c sc states s =
    let taken = c.in_ok-next.ensures in
    let kept = c.in_ok-learn.ensures in
    let middle = c.numbers_of.new.self in
    let choice = choice_at middle c.args.choice in
    remembered sc c.args.self.now _ middle states s c.args.after.now.state c.args.choice c.args.place c.in_ok-next.field-0.items c.args.outcome
    refl taken.keeps taken.part taken.choices (taken.truth sc) kept.table kept.part taken.numbers
    (λ truth before leads many named. kept.truth sc s truth (subst (Numbers middle s) (sym c.numbers_in-before.ensures) before)
    (subst (λ (ns : List ℕ). Leads sc middle choice s ns c.args.outcome) (sym c.deref.ensures.value) leads) many named)

pub returns-then-before-ge-MOST_NUMBERS-clause-knows : goal.returns-then-before-ge-MOST_NUMBERS-clause-knows
returns-then-before-ge-MOST_NUMBERS-clause-knows c sc states s k at is outcome named =
    let taken = c.in_ok-next.ensures in
    grown sc c.args.self.now _ states refl taken.keeps taken.part (taken.truth sc k.truth) k
