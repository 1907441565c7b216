-- Laws that the code's answers cite.
use Rattle.std.proofs.Common.{◌≡◌, ℕ, ◌<◌, ◌==◌, ◌+◌, true, List, [], ◌∷◌, length, Result, Ok, Err, refl, sym, ap, ◌∙◌, arith, Bor, Some, eq-eqb}
use borrow.Author.Tests.{eqb-true}
use Rattle.zy_text.specs.Words.{lines_of, words_of, number_of}
use Rattle.zy_text.specs.Lines.{texts, first_words}
use Rattle.zy_asm.proofs.FirstWords.{line_first}
use Rattle.zy_asm.specs.Reading.Progress.{Seen}
use Rattle.zy_asm.specs.Reading.{line_step, read_lines, end_reached}
use Rattle.zy_asm.specs.Reading.ProgramLines.{own_number}
use Rattle.zy_asm.specs.declared.faults.AsmFault.{AsmFault}
use Rattle.zy_asm.specs.declared.faults.AsmKind.{AsmKind}
use Rattle.zy_asm.specs.declared.faults.AsmKind.TheVariants as kinds
use Rattle.zy_isa.specs.declared.operation.JumpOperation.{JumpOperation}
use Rattle.zy_asm.specs.Instructions.{with_target}

-- a text without a byte has no line
pub empty_lines : (xs : List ℕ) → (length xs == 0) ≡ true → lines_of xs ≡ []
empty_lines [] h = refl
empty_lines (x ∷ xs) h = absurd (omega (arith, eqb-true (length (x ∷ xs)) 0 h))

-- the fault of a line
pub fault_at : (s : Seen) (n : ℕ) (ls rest : List (List ℕ)) (l : List ℕ) (k : AsmKind) (r : Result Seen AsmFault)
    → read_lines s n ls ≡ r → ls ≡ l ∷ rest → line_step s (first_words (words_of l)) ≡ Err k → r ≡ Err (record { line = n; kind = k })
fault_at s n ls rest l k r h e f = sym h ∙ ap (read_lines s n) e ∙ rw (sym (line_first s (words_of l)) ∙ f) refl

-- what is left after a line
pub line_done : (s t : Seen) (n : ℕ) (ls rest : List (List ℕ)) (l : List ℕ) (r : Result Seen AsmFault)
    → read_lines s n ls ≡ r → ls ≡ l ∷ rest → line_step s (first_words (words_of l)) ≡ Ok t → read_lines t (n + 1) rest ≡ r
line_done s t n ls rest l r h e f = sym (rw (sym (line_first s (words_of l)) ∙ f) refl) ∙ (sym (ap (read_lines s n) e) ∙ h)

-- the fault of the end
pub fault_end : (s : Seen) (n : ℕ) (ls : List (List ℕ)) (k : AsmKind) (r : Result Seen AsmFault) → read_lines s n ls ≡ r → ls ≡ [] → end_reached s.stage ≡ Err k
    → r ≡ Err (record { line = n; kind = k })
fault_end s n ls k r h e f = sym h ∙ ap (read_lines s n) e ∙ rw f refl

-- the program's own number is given
pub own_gives : (count : ℕ) (w : List ℕ) → number_of w ≡ Some count → own_number count w ≡ Ok count
own_gives count w e = rw (e, eq-eqb count count refl) refl

-- an operation with a target has three words behind it
pub target_few : (o : JumpOperation) (ws : List (Bor (List ℕ))) → length ws < 3 → with_target o (texts ws) ≡ Err kinds.Word
target_few o [] h = refl
target_few o (a ∷ []) h = refl
target_few o (a ∷ b ∷ []) h = refl
target_few o (a ∷ b ∷ t ∷ ws) h = absurd (omega arith)

-- with more than three words behind it, it is faulty
pub target_many : (o : JumpOperation) (ws : List (Bor (List ℕ))) → 3 < length ws → with_target o (texts ws) ≡ Err kinds.Word
target_many o [] h = absurd (omega arith)
target_many o (a ∷ []) h = absurd (omega arith)
target_many o (a ∷ b ∷ []) h = absurd (omega arith)
target_many o (a ∷ b ∷ t ∷ []) h = absurd (omega arith)
target_many o (a ∷ b ∷ t ∷ u ∷ us) h = refl
