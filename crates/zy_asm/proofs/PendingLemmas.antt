-- A program's instructions are resolved one by one.
use Rattle.std.proofs.Common.{◌≡◌, List, [], ◌∷◌, ◌++◌, Result, Ok, Err, refl, sym, ap, append_assoc}
use Rattle.zy_isa.specs.declared.instr.Instr.{Instr}
use Rattle.zy_text.specs.Names.{Mark}
use Rattle.zy_isa.specs.Results.{◌>>=◌}
use Rattle.zy_asm.specs.Pending.{Pending, resolved, all_resolved}
use Rattle.zy_asm.specs.declared.faults.AsmKind.{AsmKind}

-- with these instructions in front
abbrev pub with_front : List Instr → Result (List Instr) AsmKind → Result (List Instr) AsmKind
with_front front r = r >>= λ x. Ok (front ++ x)

-- an instruction that is resolved goes to the end of those in front
pub with_front-next : (labels : List Mark) (front : List Instr) (p : Pending) (i : Instr) (ps : List Pending) → resolved labels p ≡ Ok i
    → with_front front (all_resolved labels (p ∷ ps)) ≡ with_front (front ++ i ∷ []) (all_resolved labels ps)
with_front-next labels front p i ps e = rw e (next (all_resolved labels ps))
  where
    next : (r : Result (List Instr) AsmKind) → with_front front (r >>= λ x. Ok (i ∷ x)) ≡ with_front (front ++ i ∷ []) r
    next (Ok x) = ap Ok (sym (append_assoc front (i ∷ []) x))
    next (Err k) = refl

-- an instruction that is not resolved is the fault of all
pub with_front-fails : (labels : List Mark) (front : List Instr) (p : Pending) (k : AsmKind) (ps : List Pending) → resolved labels p ≡ Err k
    → with_front front (all_resolved labels (p ∷ ps)) ≡ Err k
with_front-fails labels front p k ps e = rw e refl
