-- Operations differ in their numbers and by their words; an instruction is its parts.
use Rattle.std.proofs.Common.{◌≡◌, ◌∙◌, ◌==◌, ℕ, Bool, true, false, List, [], ◌∷◌, Option, None, Some, inl, inr, refl, sym, ap, subst, arith, if◌then◌else◌}
use Rattle.std.specs.List.{find, list_all}
use Rattle.std.specs.Str.{bytes_eq}
use Rattle.zy_isa.specs.declared.version.Version.{Version}
use Rattle.zy_isa.specs.declared.instr.Instr.{Instr}
use Rattle.zy_isa.specs.declared.instr.Instr.TheVariants as instr
use Rattle.zy_isa.specs.declared.operation.NumberOperation.TheVariants.{Set}
use Rattle.zy_isa.specs.declared.operation.PairOperation.TheVariants.{Read, Write, Insert, Add, Sum}
use Rattle.zy_isa.specs.declared.operation.JumpOperation.TheVariants.{Beq}
use Rattle.zy_isa.specs.declared.operation.LoneOperation.TheVariants.{Commit, Abort}
use Rattle.zy_isa.specs.declared.operation.Operation.{Operation}
use Rattle.zy_isa.specs.declared.operation.Operation.TheVariants as op
use Rattle.zy_isa.specs.declared.operation.Parts.{Parts}
use Rattle.zy_isa.specs.declared.operation.Parts.TheVariants.{Number, Pair, Jump, Lone}
use Rattle.zy_isa.specs.Operations.{opcode, mnemonic, operations, coded, named, if_of, is_of, instr_with, parts_of}
use Rattle.zy_isa.proofs.ResultLemmas.{chosen_by, both, same}
use borrow.Author.Tests.{tests}

-- numbers that the test finds equal are equal
pub same_number : (n k : ℕ) → (n == k) ≡ true → n ≡ k
same_number n k e = grind (arith, tests)

-- what is found passes
pub found_passes : {X : Type 0} (p : X → Bool) (xs : List X) (x : X) → find p xs ≡ Some x → p x ≡ true
found_passes p [] x h = cc
found_passes p (y ∷ ys) x h = elim (chosen_by (p y) (Some y) (find p ys) (Some x) h) [
  | inl e ↦ (let q : y ≡ x = cc (e.1) in rw q at (e.0))
  | inr e ↦ found_passes p ys x e.1
]

-- the operation that is found by a number has that number
pub coded_is : (n : ℕ) (o : Operation) → coded n ≡ Some o → n ≡ opcode o
coded_is n o h = same_number n (opcode o) (found_passes (λ x. n == opcode x) operations o h)

-- the operation that is found by a word has that word
pub named_is : (w : List ℕ) (o : Operation) → named w ≡ Some o → w ≡ mnemonic o
named_is w o h = same w (mnemonic o) (found_passes (λ x. bytes_eq w (mnemonic x)) operations o h)

-- the number of an operation finds it
pub coded_back : (o : Operation) → coded (opcode o) ≡ Some o
coded_back (op.Number Set) = refl
coded_back (op.Pair Read) = refl
coded_back (op.Pair Write) = refl
coded_back (op.Pair Insert) = refl
coded_back (op.Pair Add) = refl
coded_back (op.Pair Sum) = refl
coded_back (op.Jump Beq) = refl
coded_back (op.Lone Commit) = refl
coded_back (op.Lone Abort) = refl

-- the word of an operation finds it
pub named_back : (o : Operation) → named (mnemonic o) ≡ Some o
named_back (op.Number Set) = refl
named_back (op.Pair Read) = refl
named_back (op.Pair Write) = refl
named_back (op.Pair Insert) = refl
named_back (op.Pair Add) = refl
named_back (op.Pair Sum) = refl
named_back (op.Jump Beq) = refl
named_back (op.Lone Commit) = refl
named_back (op.Lone Abort) = refl

-- what is found in a list passes each test that the whole list passes
found_all : {X : Type 0} (p q : X → Bool) (xs : List X) (x : X) → list_all p xs ≡ true → find q xs ≡ Some x → p x ≡ true
found_all p q [] x h e = cc
found_all p q (y ∷ ys) x h e =
    let b = both (p y) (list_all p ys) h in
    elim (chosen_by (q y) (Some y) (find q ys) (Some x) e) [
      | inl d ↦ (let k : y ≡ x = cc (d.1) in rw k at (b.0))
      | inr d ↦ found_all p q ys x b.1 d.1
    ]

-- a test that all operations pass
pub each : (p : Operation → Bool) → list_all p operations ≡ true → (o : Operation) → p o ≡ true
each p h o = found_all p (λ x. opcode o == opcode x) operations o h (coded_back o)

-- an instruction is made again from its operation and operands
pub instr_again : (i : Instr) → instr_with (parts_of i) ≡ i
instr_again (instr.Set a n) = refl
instr_again (instr.Read a b) = refl
instr_again (instr.Write a b) = refl
instr_again (instr.Insert a b) = refl
instr_again (instr.Add a b) = refl
instr_again (instr.Sum a b) = refl
instr_again (instr.Beq a b n) = refl
instr_again instr.Commit = refl
instr_again instr.Abort = refl

-- the instruction that an operation and its operands make has these as its parts
pub parts_again : (p : Parts) → parts_of (instr_with p) ≡ p
parts_again (Number Set a n) = refl
parts_again (Pair Read a b) = refl
parts_again (Pair Write a b) = refl
parts_again (Pair Insert a b) = refl
parts_again (Pair Add a b) = refl
parts_again (Pair Sum a b) = refl
parts_again (Jump Beq a b n) = refl
parts_again (Lone Commit) = refl
parts_again (Lone Abort) = refl

-- two operations with one word are the same
pub same_operation : (o q : Operation) → mnemonic o ≡ mnemonic q → o ≡ q
same_operation o q e = let same : Some o ≡ Some q = sym (named_back o) ∙ ap named e ∙ named_back q in cc

-- what is found in a version is there, and the version has it
pub found_in : (version : Version) (r : Option Operation) (o : Operation) → if_of version r ≡ Some o → (r ≡ Some o) × (is_of version o ≡ true)
found_in version None o h = cc
found_in version (Some x) o h = by (is_of version x) refl h
  where
    by : (b : Bool) → is_of version x ≡ b → (if b then Some x else None) ≡ Some o → (Some x ≡ Some o) × (is_of version o ≡ true)
    by true e g = (g, subst (λ z. is_of version z ≡ true) (let q : x ≡ o = cc in q) e)
    by false e g = cc
