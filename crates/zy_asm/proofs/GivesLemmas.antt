-- A line that spells something is read as it.
use Rattle.std.proofs.Common.{◌≡◌, ℕ, ◌+◌, ◌<◌, ◌≤◌, ◌^◌, ◌==◌, ◌&&◌, ◌⊎◌, Bool, true, false, nat_lt, nat_le, List, [], ◌∷◌, ◌++◌, length, codes, Ok, Option}
use Rattle.std.proofs.Common.{Some, None, if◌then◌else◌, refl, sym, ap, ◌∙◌, subst, inl, inr, arith, append-nil}
use Rattle.std.specs.Prelude.{replicate}
use Rattle.std.specs.Char.{is_ascii_digit}
use Rattle.zy_isa.specs.Limits.{max_key, max_value, max_target}
use Rattle.zy_isa.specs.declared.node.Node.{Node}
use Rattle.zy_isa.specs.declared.node.Node.TheVariants as node
use Rattle.zy_isa.specs.declared.node.Actor.{Actor}
use Rattle.zy_isa.specs.declared.node.Actor.TheVariants as actor
use Rattle.zy_isa.specs.declared.row.Row.{Row}
use Rattle.zy_isa.specs.declared.instr.Reg.{Reg}
use Rattle.zy_isa.specs.declared.instr.Reg.TheVariants.{R0, R1, R2, R3, R4, R5, R6, R7}
use Rattle.zy_isa.specs.declared.instr.Instr.{Instr}
use Rattle.zy_isa.specs.declared.operation.JumpOperation.{JumpOperation}
use Rattle.zy_isa.specs.declared.operation.Operation.{Operation}
use Rattle.zy_isa.specs.declared.operation.Operation.TheVariants as op
use Rattle.zy_isa.specs.declared.operation.Parts.{Parts}
use Rattle.zy_isa.specs.declared.operation.Parts.TheVariants.{Number, Pair, Jump, Lone}
use Rattle.zy_isa.specs.declared.choice.Choice.{Choice}
use Rattle.zy_isa.specs.declared.choice.Choice.TheVariants as choice
use Rattle.zy_text.specs.Words.{is_word, number_of, has_words, is_numeral}
use Rattle.zy_isa.specs.Operations.{is_of, mnemonic, instr_with, operation_of, parts_of}
use Rattle.zy_text.specs.Canon.{reg_text, node_text}
use Rattle.zy_isa.specs.Programs.{PartsFit, HasValue, HasEach, Values}
use Rattle.zy_isa.specs.Choices.{names_below, actor_at}
use Rattle.zy_isa.specs.Scenario.{opening_pages_for}
use Rattle.zy_text.specs.Text as m
use Rattle.zy_text.specs.Text.{Times, Spells, SpellsTarget, SpellsParts, SpellsInstr, MaySpell, SpellsLabel, Refers, SpellsChoice, SpellsTimes, instr_in}
use Rattle.zy_text.specs.Text.{label_at, name_in}
use Rattle.zy_text.specs.Names.{Mark, is_letter, are_parts, is_name, place, AreNew}
use Rattle.zy_asm.specs.declared.choices.Action.TheVariants.{Txn, Plain}
use Rattle.zy_asm.specs.declared.choices.TxnAction.{TxnAction}
use Rattle.zy_asm.specs.declared.choices.TxnAction.TheVariants.{Begin, Kill, Run}
use Rattle.zy_asm.specs.declared.state.Stage.{Stage}
use Rattle.zy_asm.specs.declared.state.Stage.TheVariants as stage
use Rattle.zy_asm.specs.Steps.{number_in}
use Rattle.zy_asm.specs.Instructions.{register_of, two, instr_of}
use Rattle.zy_asm.specs.Pending.{Pending, whole, jump, resolved, all_resolved}
use Rattle.zy_asm.specs.Choices.{node_action, action_of, chosen, transaction, are_times, times_of}
use Rattle.zy_isa.specs.Rows.{is_low, last_row}
use Rattle.zy_asm.specs.Reading.Progress.{Seen}
use Rattle.zy_asm.specs.Reading.ProgramLines.{instr_line, behind_label, head_line}
use Rattle.zy_asm.specs.Reading.{line_led_by, step}
use Rattle.zy_asm.specs.Reading.ChoiceLines.{repeat_line, choice_line}
use Rattle.zy_isa.proofs.OperationLemmas.{named_back, instr_again}
use Rattle.zy_isa.proofs.ResultLemmas.{out_of_neither, not_below, over_not, both}
use Rattle.zy_asm.proofs.SpellLemmas.{no_label, actor_word, node_word, no_name}
use Rattle.zy_text.proofs.LabelLemmas.{label-last}
use Rattle.zy_asm.proofs.CodeLemmas.{own_gives}
use Rattle.zy_asm.proofs.FoundSteps.{Base, at, top}
use borrow.Author.Tests.{tests}

-- a word that spells a number in the range is read as it
pub number_in_gives : (w : List ℕ) (a b n : ℕ) → number_of w ≡ Some n → a ≤ n → n ≤ b → number_in w a b ≡ Ok n
number_in_gives w a b n e p q = rw e (rw (out_of_neither n a b p q) refl)

-- ---- instructions

-- the name of a register is read as the register
register_gives : (r : Reg) → register_of (reg_text r) ≡ Ok r
register_gives R0 = refl
register_gives R1 = refl
register_gives R2 = refl
register_gives R3 = refl
register_gives R4 = refl
register_gives R5 = refl
register_gives R6 = refl
register_gives R7 = refl

-- the names of two registers are read as both
two_gives : (a b : Reg) → two (reg_text a) (reg_text b) ≡ Ok (a, b)
two_gives a b = rw (register_gives a, register_gives b) refl

-- the operation of an instruction
abbrev pub op_of : Instr → Operation
op_of i = operation_of (parts_of i)

-- a letter is not `@`
letter_no_at : (b : ℕ) → is_letter b ≡ true → (b == 64) ≡ false
letter_no_at b h = grind (arith, tests)

-- a label, and what is in its place
pub record Given (labels : List Mark) (o : Operation) (rest : List (List ℕ)) (i : Instr) : Type 0 where
  pub pending : Pending
  pub given : instr_of o rest ≡ Ok pending
  pub resolves : resolved labels pending ≡ Ok i

-- a jump to a label of the program is given, with the label's number in its place
jump_gives : (labels : List Mark) (o : JumpOperation) (a b : Reg) (n : ℕ) (w : List ℕ) → is_name w ≡ true → place w labels ≡ Some n
    → Given labels (op.Jump o) (reg_text a ∷ reg_text b ∷ w ∷ []) (instr_with (Jump o a b n))
jump_gives labels o a b n [] h e = cc
jump_gives labels o a b n (c ∷ cs) h e =
    let l = both (is_letter c && are_parts cs) (nat_le (length cs) 31) h in
    let first = both (is_letter c) (are_parts cs) l.0 in
    record { pending = jump o a b (c ∷ cs); given = rw (two_gives a b, letter_no_at c first.0, h) refl; resolves = rw e refl }

-- a jump to `@N` or to a label of the program is given
target_gives : (labels : List Mark) (o : JumpOperation) (a b : Reg) (n : ℕ) (w : List ℕ) → SpellsTarget labels n w → n < 2 ^ 32
    → Given labels (op.Jump o) (reg_text a ∷ reg_text b ∷ w ∷ []) (instr_with (Jump o a b n))
target_gives labels o a b n w h v = elim h [
  | inl d ↦
      record {
        pending = whole (instr_with (Jump o a b n));
        given = rw (
          two_gives a b,
          d.1,
          number_in_gives d.0 0 max_target n d.2 (omega arith) (omega arith),
        ) refl;
        resolves = refl;
      }
  | inr d ↦ jump_gives labels o a b n w d.0 d.1
]

-- an instruction without a label is given as it is
whole_given : (labels : List Mark) (o : Operation) (rest : List (List ℕ)) (i : Instr) → instr_of o rest ≡ Ok (whole i) → Given labels o rest i
whole_given labels o rest i e = record { pending = whole i; given = e; resolves = refl }

-- the words behind the operation, and what they give
abbrev Gives : List Mark → Operation → List (List ℕ) → Instr → Type 0
Gives labels o ws i = (rest : List (List ℕ)) × (ws ≡ mnemonic o ∷ rest) × Given labels o rest i

-- words that spell the parts of an instruction give the instruction
parts_give : (labels : List Mark) (p : Parts) (ws : List (List ℕ)) → SpellsParts labels p ws → PartsFit p → Gives labels (operation_of p) ws (instr_with p)
parts_give labels (Number o a n) ws h v = (
  reg_text a ∷ h.0 ∷ [],
  h.1,
  whole_given labels (op.Number o) _ _ (rw (register_gives a, number_in_gives h.0 0 max_value n h.2 (omega arith) (omega arith)) refl),
)
parts_give labels (Pair o a b) ws h v = (reg_text a ∷ reg_text b ∷ [], h, whole_given labels (op.Pair o) _ _ (rw (two_gives a b) refl))
parts_give labels (Jump o a b n) ws h v = (reg_text a ∷ reg_text b ∷ h.0 ∷ [], h.1, target_gives labels o a b n h.0 h.2 v)
parts_give labels (Lone o) ws h v = ([], h, whole_given labels (op.Lone o) [] _ refl)

-- words that spell an instruction give it
pub instr_gives : (labels : List Mark) (i : Instr) (ws : List (List ℕ)) → SpellsInstr labels i ws → HasValue i → Gives labels (op_of i) ws i
instr_gives labels i ws h v = subst (Gives labels (op_of i) ws) (instr_again i) (parts_give labels (parts_of i) ws h v)

-- an instruction that is read and that there is room for is put last
instr_line_gives : (s : Seen) (o : Operation) (rest : List (List ℕ)) (p : Pending) → instr_of o rest ≡ Ok p → length s.instrs < 64
    → instr_line s o rest ≡ Ok (record s { instrs = s.instrs ++ p ∷ [] })
instr_line_gives s o rest p e few = rw (e, not_below (length s.instrs) 64 few) refl

-- a line of an open program that begins with an operation
op_line : (o : Operation) (b : Base) (N : List Mark) (P : List (List Instr)) (M : List Mark) (O : List Pending) (rest : List (List ℕ))
    → is_of b.version o ≡ true
    → step (at stage.Program b N P M O []) (mnemonic o ∷ rest) ≡ instr_line (at stage.Program b N P M O []) o rest
op_line o b N P M O rest known = rw (no_label o, named_back o, known) refl

-- what is behind a label
behind_op : (o : Operation) (s : Seen) (rest : List (List ℕ)) → is_of s.version o ≡ true → behind_label s (mnemonic o ∷ rest) ≡ instr_line s o rest
behind_op o s rest known = rw (named_back o, known) refl

-- a line of an open program that begins with a new label
label_gives : (b : Base) (N : List Mark) (P : List (List Instr)) (M : List Mark) (O : List Pending) (name : List ℕ) (ws : List (List ℕ)) → is_name name ≡ true
    → place name M ≡ None
    → step (at stage.Program b N P M O []) ((name ++ 58 ∷ []) ∷ ws) ≡ behind_label (at stage.Program b N P (M ++ (name, length O) ∷ []) O []) ws
label_gives b N P M O name ws h e =
    ap (λ o. line_led_by o (at stage.Program b N P M O []) (name ++ 58 ∷ []) ws) (label-last name 58) ∙ rw (h, e) refl

-- what a line of a program makes of the state
pub record Codes (labels : List Mark) (b : Base) (N : List Mark) (P : List (List Instr)) (M : List Mark) (O : List Pending) (l : List (List ℕ))
    (v : Option (List ℕ)) (i : Option Instr) : Type 0 where
  pub more : List Pending
  pub resolves : all_resolved labels more ≡ Ok (instr_in i)
  pub count : length more ≡ length (instr_in i)
  pub same : step (at stage.Program b N P M O []) l ≡ Ok (at stage.Program b N P (M ++ label_at v (length O)) (O ++ more) [])

-- one instruction that is resolved is a list that is resolved
alone_resolved : (labels : List Mark) (p : Pending) (i : Instr) → resolved labels p ≡ Ok i → all_resolved labels (p ∷ []) ≡ Ok (i ∷ [])
alone_resolved labels p i e = rw e refl

-- a line that spells a new label or none, and an instruction or none, puts them last in the open program
pub code_gives : (labels : List Mark) (b : Base) (N : List Mark) (P : List (List Instr)) (M : List Mark) (O : List Pending) (v : Option (List ℕ))
    (i : Option Instr) (l front back : List (List ℕ))
    → l ≡ front ++ back → SpellsLabel v front → MaySpell labels i back → has_words l ≡ true → Values (instr_in i) → HasEach b.version (instr_in i)
    → AreNew M (label_at v (length O)) → length O + length (instr_in i) ≤ 64
    → Codes labels b N P M O l v i
code_gives labels b N P M O None None l front back e f g some values known new few = absurd (no_words (e ∙ rw (f, g) refl) some)
  where
    no_words : l ≡ [] → has_words l ≡ true → ⊥
    no_words q h = let x : has_words [] ≡ true = rw q at h in (cc)
code_gives labels b N P M O None (Some i) l front back e f g some values known new few =
    let d = instr_gives labels i back g values.0 in
    let line : l ≡ mnemonic (op_of i) ∷ d.0 = e ∙ ap (λ x. x ++ back) f ∙ d.1 in
    record {
      more = d.2.pending ∷ [];
      resolves = alone_resolved labels d.2.pending i d.2.resolves;
      count = refl;
      same = ap (step (at stage.Program b N P M O [])) line ∙ op_line (op_of i) b N P M O d.0 known.0
          ∙ instr_line_gives (at stage.Program b N P M O []) (op_of i) d.0 d.2.pending d.2.given (omega (arith, few))
          ∙ ap (λ x. Ok (at stage.Program b N P x (O ++ d.2.pending ∷ []) [])) (sym (append-nil M));
    }
code_gives labels b N P M O (Some name) None l front back e f g some values known new few =
    let line : l ≡ (name ++ 58 ∷ []) ∷ [] = e ∙ rw (f.0, g) refl in
    record {
      more = [];
      resolves = refl;
      count = refl;
      same = ap (step (at stage.Program b N P M O [])) line ∙ label_gives b N P M O name [] f.1 new.0
          ∙ ap (λ x. Ok (at stage.Program b N P (M ++ (name, length O) ∷ []) x [])) (sym (append-nil O));
    }
code_gives labels b N P M O (Some name) (Some i) l front back e f g some values known new few =
    let d = instr_gives labels i back g values.0 in
    let line : l ≡ (name ++ 58 ∷ []) ∷ mnemonic (op_of i) ∷ d.0 = e ∙ ap (λ x. x ++ back) f.0 ∙ ap (λ x. (name ++ 58 ∷ []) ∷ x) d.1 in
    let s = at stage.Program b N P (M ++ (name, length O) ∷ []) O [] in
    record {
      more = d.2.pending ∷ [];
      resolves = alone_resolved labels d.2.pending i d.2.resolves;
      count = refl;
      same = ap (step (at stage.Program b N P M O [])) line ∙ label_gives b N P M O name (mnemonic (op_of i) ∷ d.0) f.1 new.0
          ∙ behind_op (op_of i) s d.0 known.0
          ∙ instr_line_gives s (op_of i) d.0 d.2.pending d.2.given (omega (arith, few));
    }

-- ---- names

-- a word that spells a number begins with a digit
digits_first : (b : ℕ) (bs : List ℕ) (n : ℕ) (t : Bool) → is_ascii_digit b ≡ t → number_of (b ∷ bs) ≡ Some n → is_ascii_digit b ≡ true
digits_first b bs n true e h = e
digits_first b bs n false e h = by (is_word (b ∷ bs) && nat_le (length (b ∷ bs)) 10) (rw e at h)
  where
    by : (t : Bool) → (if t then None else None) ≡ Some n → is_ascii_digit b ≡ true
    by true g = cc
    by false g = cc

-- a word that spells a number is a numeral
pub numeral_ok : (w : List ℕ) (n : ℕ) → number_of w ≡ Some n → is_numeral w ≡ true
numeral_ok [] n h = cc
numeral_ok (b ∷ bs) n h = digits_first b bs n (is_ascii_digit b) refl h

-- a name is no numeral
pub no_numeral : (w : List ℕ) → is_name w ≡ true → is_numeral w ≡ false
no_numeral w h = by (is_numeral w) refl
  where
    by : (t : Bool) → is_numeral w ≡ t → is_numeral w ≡ false
    by true e = let g : true ≡ false = sym h ∙ no_name w e in cc
    by false e = e

-- a word that refers to a transaction is read as its number
transaction_gives : (count : ℕ) (names : List Mark) (t : ℕ) (w : List ℕ) → Refers names t w → nat_lt t count ≡ true → transaction count names w ≡ Ok t
transaction_gives count names t w h low = elim h [
  | inl e ↦ rw (numeral_ok w t e, e, low) refl
  | inr e ↦ rw (no_numeral w e.0, e.0, e.1) refl
]

-- the head of a program
pub head_gives : (st : Stage) (b : Base) (N : List Mark) (P : List (List Instr)) (w : List ℕ) → (is_name w ≡ true) ⊎ (number_of w ≡ Some (length P))
    → AreNew N (name_in w (length P))
    → head_line (top st b N P) w ≡ Ok (top st b (N ++ name_in w (length P)) P)
head_gives st b N P w h new = elim h [
  | inl e ↦ named e (rw e at new)
  | inr e ↦
      let n = numeral_ok w (length P) e in
      rw (n, own_gives (length P) w e, no_name w n, append-nil N) refl
]
  where
    named : is_name w ≡ true → AreNew N ((w, length P) ∷ []) → head_line (top st b N P) w ≡ Ok (top st b (N ++ name_in w (length P)) P)
    named e n = rw (no_numeral w e, e, n.0) refl

-- ---- choices

-- words that spell how often are read as this number
times_gives : (n : ℕ) (ws : List (List ℕ)) → SpellsTimes n ws → (are_times ws ≡ true) × (times_of ws ≡ Ok n)
times_gives n ws h = elim h [
  | inl e ↦ rw (e.0, e.1) (refl, refl)
  | inr e ↦ rw e.1 (refl, number_in_gives e.0 1 4096 n e.2 e.3 e.4)
]

-- a choice that there is room for, and words that spell how often, put it last as often
repeat_gives : (s : Seen) (c : Choice) (n : ℕ) (times : List (List ℕ)) → SpellsTimes n times → length s.choices + n ≤ 4096
    → repeat_line s c times ≡ Ok (record s { stage = stage.Choices; choices = s.choices ++ replicate n c })
repeat_gives s c n times h few = rw ((times_gives n times h).1, over_not (length s.choices + n) 4096 few) refl

-- a choice with a transaction's action, the transaction and how often is read so
txn_gives : (s : Seen) (a : Actor) (w who : List ℕ) (b : TxnAction) (i n : ℕ) (times : List (List ℕ)) → action_of a w ≡ Some (Txn b) → Refers s.names i who
    → nat_lt i (length s.programs) ≡ true → SpellsTimes n times → length s.choices + n ≤ 4096
    → choice_line s a (w ∷ who ∷ times) ≡ Ok (record s { stage = stage.Choices; choices = s.choices ++ replicate n (chosen b i) })
txn_gives s a w who b i n times e f g h few = rw (e, (times_gives n times h).0, transaction_gives (length s.programs) s.names i who f g)
    (repeat_gives s (chosen b i) n times h few)

-- a choice with an action of no transaction, and how often, is read so
plain_gives : (s : Seen) (a : Actor) (w : List ℕ) (c : Choice) (n : ℕ) (times : List (List ℕ)) → action_of a w ≡ Some (Plain c) → SpellsTimes n times
    → length s.choices + n ≤ 4096
    → choice_line s a (w ∷ times) ≡ Ok (record s { stage = stage.Choices; choices = s.choices ++ replicate n c })
plain_gives s a w c n times e h few = rw (e, (times_gives n times h).0) (repeat_gives s c n times h few)

-- the actions of a node's lines are the node's
at_node : (n : Node) (w : List ℕ) → action_of (actor_at n) w ≡ node_action n w
at_node node.A w = refl
at_node node.B w = refl

-- the actor of a choice, and what its line is behind the first word
abbrev pub Line : Seen → List (List ℕ) → ℕ → Choice → Type 0
Line s ws n c = (a : Actor) × (rest : List (List ℕ)) × (ws ≡ actor_word a ∷ rest)
    × (choice_line s a rest ≡ Ok (record s { stage = stage.Choices; choices = s.choices ++ replicate n c }))

-- words that spell a choice whose transaction exists, and that there is room for, are read as it
pub choice_gives : (s : Seen) (d : Times) (ws : List (List ℕ)) → Spells (m.choice s.names d) ws → names_below (length s.programs) d.choice ≡ true
    → length s.choices + d.times ≤ 4096 → Line s ws d.times d.choice
choice_gives s d ws h named few = by d.choice h.3 named
  where
    of_txn : (a : Actor) (w who : List ℕ) (b : TxnAction) (i : ℕ) → h.0 ≡ actor_word a ∷ w ∷ who ∷ [] → action_of a w ≡ Some (Txn b) → Refers s.names i who
        → nat_lt i (length s.programs) ≡ true → Line s ws d.times (chosen b i)
    of_txn a w who b i e f g n = (a, w ∷ who ∷ h.1, h.2 ∙ ap (λ x. x ++ h.1) e, txn_gives s a w who b i d.times h.1 f g n h.4 few)

    plain : (a : Actor) (w : List ℕ) (c : Choice) → h.0 ≡ actor_word a ∷ w ∷ [] → action_of a w ≡ Some (Plain c) → Line s ws d.times c
    plain a w c e f = (a, w ∷ h.1, h.2 ∙ ap (λ x. x ++ h.1) e, plain_gives s a w c d.times h.1 f h.4 few)

    plain_at : (n : Node) (w : List ℕ) (c : Choice) → h.0 ≡ node_text n ∷ w ∷ [] → node_action n w ≡ Some (Plain c) → Line s ws d.times c
    plain_at n w c e f = plain (actor_at n) w c (e ∙ ap (λ v. v ∷ w ∷ []) (sym (node_word n))) (at_node n w ∙ f)

    by : (x : Choice) → SpellsChoice s.names x h.0 → names_below (length s.programs) x ≡ true → Line s ws d.times x
    by choice.Start g n = plain actor.C (codes "start") choice.Start g refl
    by (choice.Begin t) g n = of_txn actor.C (codes "begin") g.0 Begin t g.1 refl g.2 n
    by (choice.Kill t) g n = of_txn actor.C (codes "kill") g.0 Kill t g.1 refl g.2 n
    by (choice.Run node t) g n =
        of_txn (actor_at node) (codes "run") g.0 (Run node) t (g.1 ∙ ap (λ v. v ∷ codes "run" ∷ g.0 ∷ []) (sym (node_word node)))
        (at_node node (codes "run")) g.2 n
    by (choice.Take node) g n = plain_at node (codes "take") (choice.Take node) g refl
    by (choice.Finish node) g n = plain_at node (codes "finish") (choice.Finish node) g refl
    by (choice.Push node) g n = plain_at node (codes "push") (choice.Push node) g refl

-- ---- rows

-- words that spell a row with a key above the last, and that there is room for, are read as it
pub row_gives : (b : Base) (r : Row) (l : List (List ℕ)) → Spells (m.row r) l → r.key < 2 ^ 16 → r.value < 2 ^ 32 → length b.rows < 256
    → opening_pages_for b.cap (length b.rows + 1) ≤ b.pages → is_low r.key (last_row b.rows) ≡ false
    → step (top stage.Rows b [] []) l ≡ Ok (top stage.Rows (record b { rows = b.rows ++ r ∷ [] }) [] [])
row_gives b r l q k v few pages low =
    rw (q.2, number_in_gives q.0 0 max_key r.key q.3 (omega arith) (omega arith), number_in_gives q.1 0 max_value r.value q.4 (omega arith) (omega arith))
    (rw (not_below (length b.rows) 256 few, over_not (opening_pages_for b.cap (length b.rows + 1)) b.pages pages, low) refl)
