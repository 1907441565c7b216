-- The last step of what is found.
use Rattle.std.proofs.Common.{◌≡◌, List, true, length, subst, Option, Some}
use Rattle.std.proofs.lemmas.Bool.{and_parts}
use Rattle.zy_isa.specs.declared.choice.Choice.{Choice}
use Rattle.zy_isa.specs.Scenario.{AreNamed}
use Rattle.zy_machine.specs.Histories.{History}
use Rattle.zy_patterns.specs.declared.patterns.OutcomePattern.{OutcomePattern}
use Rattle.zy_goals.specs.Goals.{meets}
use Rattle.zy_search.specs.declared.sought.Sought.{Sought}
use Rattle.zy_search.specs.Possible.{is_possible}
use Rattle.zy_search.specs.Searches.{reached, context_of, may_follow, Finds}
use Rattle.zy_search.proofs.SearchLemmas.{are_named}

-- the outcome that is asked for is possible where the choices that were found lead
pub follows : (h : History) (q : Sought) (x : OutcomePattern) → q.then ≡ Some x → (cs : List Choice) → Finds h q cs
    → is_possible h.scenario q.kinds x (reached h cs) ≡ true
follows h q x is cs f =
    let s = reached h cs in
    subst (λ (o : Option OutcomePattern). may_follow h.scenario q.kinds o s ≡ true) is
    (and_parts (meets (context_of h.scenario q.kinds s) q.goal s) (may_follow h.scenario q.kinds q.then s) f.shows).1

-- what is found names transactions that are there
pub found_named : (h : History) (q : Sought) (cs : List Choice) → Finds h q cs → AreNamed (length h.scenario.programs) cs
found_named h q cs f = are_named q.kinds (length h.scenario.programs) cs f.path.considered
