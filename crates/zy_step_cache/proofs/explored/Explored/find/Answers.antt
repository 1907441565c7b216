use Rattle.std.proofs.Common.{◌≡◌, ◌<◌, List, Some, length, slice_get}
use Rattle.zy_isa.specs.Scenario.{Scenario}
use Rattle.zy_steps.specs.Alike.{Alike}
use Rattle.zy_table.specs.State.{State}
use Rattle.zy_step_cache.specs.StepCaches.{Knows, Numbers}
use Rattle.zy_step_cache.proofs.ChoiceCacheLemmas.{if_some}
use Rattle.zy_step_cache.proofs.ExploredLemmas.{found, is_place}
use Rattle.zy_step_cache.proofs.explored.Explored.find.Goals as goal

pub returns-clause-there : goal.returns-clause-there
returns-clause-there c =
    let e = c.args.self.now in
    if_some (λ i. slice_get e.vectors i ≡ Some c.args.numbers.now) (λ i. (sc : Scenario) (states : List State) → Knows sc e states → i < length states)
    c.find.result (λ i at sc states k. is_place sc e states i c.args.numbers.now at k) c.find.ensures

pub returns-clause-alike : goal.returns-clause-alike
returns-clause-alike c =
    let e = c.args.self.now in
    if_some (λ i. slice_get e.vectors i ≡ Some c.args.numbers.now)
    (λ i. (sc : Scenario) (states : List State) (s t : State) → Knows sc e states → slice_get states i ≡ Some s → Numbers e.cache t c.args.numbers.now
    → Alike e.cache.part s t)
    c.find.result (λ i at sc states s t k there are. found sc e states s t i c.args.numbers.now at k there are) c.find.ensures
