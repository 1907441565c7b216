-- Bytes that mean a scenario have no fault.
use Rattle.std.proofs.Common.{◌≡◌, ℕ, List, None, Ok, Err, Result, IfOk, subst, refl}
use Rattle.zy_isa.specs.Scenario.{Scenario}
use Rattle.zy_text.specs.Text.{Means}
use Rattle.zy_asm.specs.declared.faults.LineFault.{LineFault}
use Rattle.zy_asm.specs.Input.{utf8_fault, input_fault}
use Rattle.zy_asm.proofs.OnlyLemmas.{only}

-- bytes that are UTF-8 and mean a scenario have no fault
not_faulty : (bs : List ℕ) (s : Scenario) → utf8_fault bs ≡ None → Means bs s → Means bs s × (input_fault bs ≡ None)
not_faulty bs s e h = (h, rw (e, only bs s h) refl)

-- where the text means the scenario of an answer, its bytes mean it too, and have no fault
pub found_in : (bs text : List ℕ) (r : Result Scenario LineFault) → utf8_fault bs ≡ None → text ≡ bs → IfOk r (λ s. Means text s)
    → IfOk r (λ s. Means bs s × (input_fault bs ≡ None))
found_in bs text (Ok s) e same h = not_faulty bs s e (subst (λ x. Means x s) same h)
found_in bs text (Err f) e same h = tt
