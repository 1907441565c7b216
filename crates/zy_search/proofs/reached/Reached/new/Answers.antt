use Rattle.std.proofs.Common.{◌≡◌, ◌∙◌, ap, List, [], length, subst, sym}
use Rattle.zy_isa.specs.declared.choice.Choice.{Choice}
use Rattle.zy_table.specs.State.{State}
use Rattle.zy_machine.specs.Histories.{choices_of}
use Rattle.zy_step_cache.specs.StepCaches.{Knows}
use Rattle.zy_step_cache.specs.StepCaches.{choices_of as choices_in}
use Rattle.zy_search.specs.Visits.{states_of}
use Rattle.zy_search.proofs.reached.Reached.new.Goals as goal

pub returns-clause-informed : goal.returns-clause-informed
returns-clause-informed c =
    let h = c.args.plan.now.start in
    let sc = h.scenario in
    let replay = c.scenario-tested.ensures.replay in
    let none = c.in_ok-explored.ensures.knows sc in
    let numbers = c.in_ok-numbers.ensures in
    let pushed = c.in_ok-push.ensures in
    let many = subst (λ (s : State). length s.txns ≡ length sc.programs) (sym replay.state)
    (c.safe_counts.ensures sc replay.tested (choices_of h.entries)).txns in
    let first = pushed.knows sc [] h.state (record { truth = numbers.truth sc none.truth; many = none.many; each = λ i s e. cc }) (rw c.deref-2.ensures.value numbers.numbers) many in
    record {
      knows = subst (λ (ps : List (List Choice)). Knows sc c.push.new.self (states_of h ps)) (sym c.new-2.ensures) first;
      part = rw pushed.cache (numbers.part ∙ (c.in_ok-explored.ensures.part ∙ c.counted.ensures));
      choices = ap choices_in pushed.cache ∙ (numbers.choices ∙ (c.in_ok-explored.ensures.choices ∙ c.deref.ensures.value));
    }
