-- The lines of a program as they are read, and what they are once its labels are known.
use Rattle.std.proofs.Common.{◌≡◌, ℕ, ◌+◌, List, [], ◌∷◌, ◌++◌, length, map, Bool, true, false, Option, Some, None, Ok, if◌then◌else◌, refl, sym, ap, ◌∙◌}
use Rattle.std.proofs.Common.{append-nil, arith}
use Rattle.zy_isa.specs.declared.instr.Instr.{Instr}
use Rattle.zy_text.specs.Names.{Mark, is_name, AreNew}
use Rattle.zy_text.specs.Text as m
use Rattle.zy_text.specs.Text.{Code, Statement, SpellsLabel, SpellEach, instrs_of, label_at, labels_of, name_in}
use Rattle.zy_isa.proofs.ResultLemmas.{bind_ok}
use Rattle.zy_asm.specs.Pending.{Pending, resolved, all_resolved}
use Rattle.zy_asm.proofs.SpellLemmas.{SpellsPending, AreBelow}

-- ---- lines as they are read

-- a line of a program that is still open: a label or none, and an instruction that may name a label, or none
pub record Line : Type 0 where
  pub label : Option (List ℕ)
  pub pending : Option Pending

-- no word where there is no instruction
abbrev pub MayPend : Option Pending → List (List ℕ) → Type 0
MayPend None ws = ws ≡ []
MayPend (Some p) ws = SpellsPending p ws

-- the words of a line spell its label, if it has one, and then its instruction, if it has one
abbrev pub SpellsLine : Line → List (List ℕ) → Type 0
SpellsLine x ws = (front : List (List ℕ)) × (back : List (List ℕ)) × (ws ≡ front ++ back) × SpellsLabel x.label front × MayPend x.pending back

-- the instruction of a line, if it has one
abbrev pub pending_in : Option Pending → List Pending
pending_in None = []
pending_in (Some p) = p ∷ []

-- the instructions of lines, in order
abbrev pub pendings : List Line → List Pending
pendings [] = []
pendings (x ∷ xs) = pending_in x.pending ++ pendings xs

-- the labels of lines with k instructions above them: each is the index of the next instruction
abbrev pub marks : ℕ → List Line → List Mark
marks k [] = []
marks k (x ∷ xs) = label_at x.label k ++ marks (k + length (pending_in x.pending)) xs

-- the lines, and then statements
abbrev pub SpellBody : List Line → List Statement → List (List (List ℕ)) → Type 0
SpellBody [] xs ls = SpellEach xs ls
SpellBody (x ∷ body) xs [] = ⊥
SpellBody (x ∷ body) xs (l ∷ ls) = SpellsLine x l × SpellBody body xs ls

-- ---- lines once the labels are known

-- a program's lines once its labels are known: they have the same instructions and labels, and the same words spell them
pub record Coded (labels : List Mark) (body : List Line) (is : List Instr) (xs : List Statement) (ls : List (List (List ℕ))) : Type 0 where
  pub codes : List Code
  pub instrs : instrs_of codes ≡ is
  pub same : (k : ℕ) → labels_of k codes ≡ marks k body
  pub spelled : SpellEach (map (m.code labels) codes ++ xs) ls

-- one line more in front, with what it is once the labels are known
coded_line : (labels : List Mark) (v : Option (List ℕ)) (o : Option Pending) (body : List Line) (is : List Instr) (xs : List Statement) (l : List (List ℕ))
    (ls : List (List (List ℕ)))
    → all_resolved labels (pending_in o ++ pendings body) ≡ Ok is → SpellsLine (record { label = v; pending = o }) l
    → ((js : List Instr) → all_resolved labels (pendings body) ≡ Ok js → Coded labels body js xs ls)
    → Coded labels (record { label = v; pending = o } ∷ body) is xs (l ∷ ls)
coded_line labels v None body is xs l ls h s ih =
    let r = ih is h in
    record {
      codes = record { label = v; instr = None } ∷ r.codes;
      instrs = r.instrs;
      same = λ k. ap (λ (ms : List Mark). label_at v k ++ ms) (r.same (k + 0));
      spelled = ((s.0, s.1, s.2, s.3, s.4), r.spelled);
    }
coded_line labels v (Some p) body is xs l ls h s ih =
    let a = bind_ok (resolved labels p) _ is h in
    let b = bind_ok (all_resolved labels (pendings body)) _ is a.2 in
    let e : a.0 ∷ b.0 ≡ is = cc (b.2) in
    let r = ih b.0 b.1 in
    record {
      codes = record { label = v; instr = Some a.0 } ∷ r.codes;
      instrs = ap (λ x. a.0 ∷ x) r.instrs ∙ e;
      same = λ k. ap (λ (ms : List Mark). label_at v k ++ ms) (r.same (k + 1));
      spelled = ((s.0, s.1, s.2, s.3, s.4 labels a.0 a.1), r.spelled);
    }

-- lines whose instructions are resolved with the labels spell the statements of a program
pub coded : (labels : List Mark) (body : List Line) (is : List Instr) (xs : List Statement) (ls : List (List (List ℕ)))
    → all_resolved labels (pendings body) ≡ Ok is → SpellBody body xs ls → Coded labels body is xs ls
coded labels [] is xs ls h s = record { codes = []; instrs = (let e : is ≡ [] = cc in sym e); same = λ k. refl; spelled = s }
coded labels (x ∷ body) is xs [] h s = absurd s
coded labels (x ∷ body) is xs (l ∷ ls) h s = coded_line labels x.label x.pending body is xs l ls h s.0 (λ js g. coded labels body js xs ls g s.1)

-- ---- marks

-- a label that is new, and then labels that are new behind it, are new in a row
pub new_label : (M : List Mark) (v : Option (List ℕ)) (n : ℕ) (more : List Mark) → AreNew M (label_at v n) → AreNew (M ++ label_at v n) more
    → AreNew M (label_at v n ++ more)
new_label M None n more h g = rw append-nil at g
new_label M (Some w) n more h g = (h.0, g)

-- the same of the name of a program, if its head is one
pub new_name : (N : List Mark) (w : List ℕ) (n : ℕ) (more : List Mark) → AreNew N (name_in w n) → AreNew (N ++ name_in w n) more
    → AreNew N (name_in w n ++ more)
new_name N w n more h g = by (is_name w) h g
  where
    by : (b : Bool) → AreNew N (if b then (w, n) ∷ [] else []) → AreNew (N ++ (if b then (w, n) ∷ [] else [])) more
        → AreNew N ((if b then (w, n) ∷ [] else []) ++ more)
    by true h g = (h.0, g)
    by false h g = rw append-nil at g

-- names with numbers below n, and the name of program n, have numbers below n + 1
pub below_name : (n : ℕ) (N : List Mark) (w : List ℕ) → AreBelow n N → AreBelow (n + 1) (N ++ name_in w n)
below_name n [] w h = by (is_name w)
  where
    by : (b : Bool) → AreBelow (n + 1) (if b then (w, n) ∷ [] else [])
    by true = (omega arith, tt)
    by false = tt
below_name n (x ∷ xs) w h = (omega (arith, h.0), below_name n xs w h.1)
