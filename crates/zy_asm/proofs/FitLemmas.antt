-- Instructions of a program that is still open are of the version, and so are those of the program.
use Rattle.std.proofs.Common.{◌≡◌, ℕ, true, List, [], ◌∷◌, ◌++◌, Ok, subst}
use Rattle.zy_isa.specs.declared.version.Version.{Version}
use Rattle.zy_isa.specs.declared.instr.Instr.{Instr}
use Rattle.zy_isa.specs.declared.operation.Operation.{Operation}
use Rattle.zy_isa.specs.declared.operation.Parts.{Parts}
use Rattle.zy_isa.specs.declared.operation.Parts.TheVariants.{Number, Pair, Jump, Lone}
use Rattle.zy_text.specs.Names.{Mark}
use Rattle.zy_isa.specs.Operations.{has, is_of, mnemonic, operation_of, parts_of}
use Rattle.zy_isa.specs.Programs.{HasEach}
use Rattle.zy_text.specs.Text.{SpellsParts}
use Rattle.zy_isa.proofs.OperationLemmas.{same_operation}
use Rattle.zy_isa.proofs.ResultLemmas.{bind_ok}
use Rattle.zy_asm.specs.Pending.{Pending, resolved, all_resolved}
use Rattle.zy_asm.proofs.SpellLemmas.{SpellsPending}

-- what it is once the labels are known, the version has
abbrev pub FitsIn : Version → Pending → Type 0
FitsIn version p = (labels : List Mark) (i : Instr) → resolved labels p ≡ Ok i → has version i ≡ true

-- each instruction is, once the labels are known, one that the version has
abbrev pub AllFit : Version → List Pending → Type 0
AllFit version [] = Unit {0}
AllFit version (p ∷ ps) = FitsIn version p × AllFit version ps

-- the first word of a line is that of its operation
spelled_by : (labels : List Mark) (p : Parts) (w : List ℕ) (ws : List (List ℕ)) → SpellsParts labels p (w ∷ ws) → w ≡ mnemonic (operation_of p)
spelled_by labels (Number o a n) w ws h = cc (h.1)
spelled_by labels (Pair o a b) w ws h = cc h
spelled_by labels (Jump o a b n) w ws h = cc (h.1)
spelled_by labels (Lone o) w ws h = cc h

-- an instruction that is spelled with an operation of the version is one that the version has
pub spelled_fits : (version : Version) (o : Operation) (ws : List (List ℕ)) (p : Pending) → is_of version o ≡ true → SpellsPending p (mnemonic o ∷ ws)
    → FitsIn version p
spelled_fits version o ws p known spelled labels i e =
    let same = same_operation o (operation_of (parts_of i)) (spelled_by labels (parts_of i) (mnemonic o) ws (spelled labels i e)) in
    subst (λ x. is_of version x ≡ true) same known

-- instructions that the version has, and more of them, are such instructions
pub all_fit-append : (version : Version) (O Q : List Pending) → AllFit version O → AllFit version Q → AllFit version (O ++ Q)
all_fit-append version [] Q h g = g
all_fit-append version (p ∷ O) Q h g = (h.0, all_fit-append version O Q h.1 g)

-- the program is of the version
pub all_known : (version : Version) (labels : List Mark) (ps : List Pending) (is : List Instr) → AllFit version ps → all_resolved labels ps ≡ Ok is
    → HasEach version is
all_known version labels [] is h e = let none : [] ≡ is = cc in subst (HasEach version) none tt
all_known version labels (p ∷ ps) is h e =
    let a = bind_ok (resolved labels p) _ is e in
    let b = bind_ok (all_resolved labels ps) _ is a.2 in
    let all : a.0 ∷ b.0 ≡ is = cc (b.2) in
    subst (HasEach version) all (h.0 labels a.0 a.1, all_known version labels ps b.0 h.1 b.1)
