-- The steps that a machine has made of all choices of its scenario.
use Rattle.std.proofs.Common.{◌≡◌, ◌∙◌, None, refl, sym, ap, subst, length, take}
use Rattle.zy_isa.specs.Scenario.{Scenario}
use Rattle.zy_machine.specs.Histories.{History}
use Rattle.zy_engine.specs.Searching.{history_of}
use Rattle.zy_engine.proofs.SearchLemmas.{taken-first}

-- those that it has made are all
pub ran_all : (h : History) → h ≡ history_of None h.scenario → take (length h.entries) h.scenario.choices ≡ h.scenario.choices
ran_all h ran = ap (λ (k : History). take (length k.entries) h.scenario.choices) ran ∙ taken-first None h.scenario

-- a machine that is that of a scenario is that of its own
pub ran_own : (h : History) (sc : Scenario) → h ≡ history_of None sc → h ≡ history_of None h.scenario
ran_own h sc e = subst (λ (k : History). k ≡ history_of None k.scenario) (sym e) refl
