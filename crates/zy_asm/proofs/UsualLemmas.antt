-- The lines that most texts have most of: a choice made once, an instruction of two words.
use Rattle.std.proofs.Common.{◌≡◌, ◌∙◌, ℕ, ◌<◌, ◌≤◌, ◌+◌, nat_lt, codes, List, [], ◌∷◌, ◌++◌, length, Ok, Some, true, refl, sym, ap, subst, arith}
use Rattle.zy_isa.specs.declared.node.Actor.{Actor}
use Rattle.zy_isa.specs.declared.node.Actor.TheVariants as actor
use Rattle.zy_isa.specs.declared.instr.Instr.{Instr}
use Rattle.zy_isa.specs.declared.operation.Operation.{Operation}
use Rattle.zy_isa.specs.declared.choice.Choice.{Choice}
use Rattle.zy_isa.specs.declared.choice.Choice.TheVariants.{Start, Begin, Kill, Run, Take, Finish, Push}
use Rattle.zy_isa.specs.declared.node.Node.TheVariants.{A, B}
use Rattle.zy_isa.specs.Choices.{names_below}
use Rattle.std.specs.Fmt.{decimal}
use Rattle.zy_asm.specs.declared.choices.TxnAction.TheVariants as txn
use Rattle.zy_text.specs.Canon.{choice_words}
use Rattle.zy_text.proofs.CanonCut.{under}
use Rattle.zy_text.proofs.WordLemmas.{number_of-decimal}
use Rattle.zy_asm.proofs.GivesLemmas.{numeral_ok}
use Rattle.zy_isa.specs.Operations.{is_of, mnemonic, named, named_in}
use Rattle.zy_asm.specs.declared.choices.Action.TheVariants.{Txn, Plain}
use Rattle.zy_asm.specs.declared.choices.TxnAction.{TxnAction}
use Rattle.zy_asm.specs.declared.state.Stage.TheVariants as stage
use Rattle.zy_text.specs.Words.{is_numeral}
use Rattle.zy_asm.specs.Pending.{whole}
use Rattle.zy_asm.specs.Instructions.{instr_of}
use Rattle.zy_asm.specs.Choices.{action_of, chosen, numbered}
use Rattle.zy_asm.specs.Reading.Progress.{Seen}
use Rattle.zy_asm.specs.Reading.{line_step}
use Rattle.zy_asm.specs.Reading.ChoiceLines.{choice_line, repeat_choice}
use Rattle.zy_asm.specs.Reading.ProgramLines.{instr_line}
use Rattle.zy_isa.proofs.OperationLemmas.{found_in, named_is, named_back}
use Rattle.zy_isa.proofs.ResultLemmas.{over_not, not_below}
use Rattle.zy_asm.proofs.SpellLemmas.{no_label, actor_word}

-- ---- a choice

-- a choice that is made once, and that there is room for, is put last
one_choice : (u : Seen) (c : Choice) → length u.choices < 4096 → repeat_choice (record u { stage = stage.Choices }) c 1
    ≡ Ok (record u { stage = stage.Choices; choices = u.choices ++ c ∷ [] })
one_choice u c few = rw (over_not (length u.choices + 1) 4096 (omega (arith, few))) refl

-- a line below a choice that begins with an actor's word is read as a choice
by_actor : (u : Seen) (o : Actor) (vs : List (List ℕ)) → line_step (record u { stage = stage.Choices }) (actor_word o ∷ vs)
    ≡ choice_line (record u { stage = stage.Choices }) o vs
by_actor u actor.C vs = refl
by_actor u actor.A vs = refl
by_actor u actor.B vs = refl

-- the decimal digits of the number of a transaction are read as this transaction
number_read : (count t : ℕ) → count ≤ 64 → nat_lt t count ≡ true → (is_numeral (decimal t) ≡ true) × (numbered count (decimal t) ≡ Ok t)
number_read count t few low =
    let n = number_of-decimal t (under t count few low) in
    (numeral_ok (decimal t) t n, rw (n, low) refl)

-- the words of an actor, an action and a transaction's number are read as this choice, made once
numbered_read : (u : Seen) (o : Actor) (v : List ℕ) (a : TxnAction) (t : ℕ) → length u.choices < 4096 → length u.programs ≤ 64
    → nat_lt t (length u.programs) ≡ true → action_of o v ≡ Some (Txn a)
    → line_step (record u { stage = stage.Choices }) (actor_word o ∷ v ∷ decimal t ∷ [])
    ≡ Ok (record u { stage = stage.Choices; choices = u.choices ++ chosen a t ∷ [] })
numbered_read u o v a t few most low f =
    let n = number_read (length u.programs) t most low in
    by_actor u o (v ∷ decimal t ∷ []) ∙ rw (f, n.0, n.1) (one_choice u (chosen a t) few)

-- the words of an actor and an action of no transaction are read as this choice, made once
plain_read : (u : Seen) (o : Actor) (v : List ℕ) (c : Choice) → length u.choices < 4096 → action_of o v ≡ Some (Plain c)
    → line_step (record u { stage = stage.Choices }) (actor_word o ∷ v ∷ []) ≡ Ok (record u { stage = stage.Choices; choices = u.choices ++ c ∷ [] })
plain_read u o v c few f = by_actor u o (v ∷ []) ∙ rw f (one_choice u c few)

-- the canonical words of a choice are read as this choice, made once
words_read : (u : Seen) (c : Choice) → length u.choices < 4096 → length u.programs ≤ 64 → names_below (length u.programs) c ≡ true
    → line_step (record u { stage = stage.Choices }) (choice_words c) ≡ Ok (record u { stage = stage.Choices; choices = u.choices ++ c ∷ [] })
words_read u Start few most low = plain_read u actor.C (codes "start") Start few refl
words_read u (Begin t) few most low = numbered_read u actor.C (codes "begin") txn.Begin t few most low refl
words_read u (Kill t) few most low = numbered_read u actor.C (codes "kill") txn.Kill t few most low refl
words_read u (Run A t) few most low = numbered_read u actor.A (codes "run") (txn.Run A) t few most low refl
words_read u (Run B t) few most low = numbered_read u actor.B (codes "run") (txn.Run B) t few most low refl
words_read u (Take A) few most low = plain_read u actor.A (codes "take") (Take A) few refl
words_read u (Take B) few most low = plain_read u actor.B (codes "take") (Take B) few refl
words_read u (Finish A) few most low = plain_read u actor.A (codes "finish") (Finish A) few refl
words_read u (Finish B) few most low = plain_read u actor.B (codes "finish") (Finish B) few refl
words_read u (Push A) few most low = plain_read u actor.A (codes "push") (Push A) few refl
words_read u (Push B) few most low = plain_read u actor.B (codes "push") (Push B) few refl

-- the canonical words of a choice, below a choice, are read as this choice, made once
pub choice_taken : (s : Seen) (c : Choice) → s.stage ≡ stage.Choices → length s.choices < 4096 → length s.programs ≤ 64
    → names_below (length s.programs) c ≡ true → line_step s (choice_words c) ≡ Ok (record s { choices = s.choices ++ c ∷ [] })
choice_taken s c e few most low =
    let same : s ≡ record s { stage = stage.Choices } = ap (λ x. record s { stage = x }) e in
    subst (λ (x : Seen). line_step x (choice_words c) ≡ Ok (record x { choices = x.choices ++ c ∷ [] })) (sym same) (words_read s c few most low)

-- ---- an instruction

-- a line in an open program that begins with an operation is read as an instruction
by_operation : (u : Seen) (o : Operation) (vs : List (List ℕ)) → is_of u.version o ≡ true
    → line_step (record u { stage = stage.Program }) (mnemonic o ∷ vs) ≡ instr_line (record u { stage = stage.Program }) o vs
by_operation u o vs known = rw (no_label o, named_back o, known) refl

-- an instruction without a label, which there is room for, is put last
one_instr : (u : Seen) (o : Operation) (vs : List (List ℕ)) (i : Instr) → length u.instrs < 64 → instr_of o vs ≡ Ok (whole i)
    → instr_line u o vs ≡ Ok (record u { instrs = u.instrs ++ whole i ∷ [] })
one_instr u o vs i few h = rw (h, not_below (length u.instrs) 64 few) refl

-- a line of an operation and two words in an open program is read as this instruction
pub instr_taken : (s : Seen) (w v t : List ℕ) (o : Operation) (i : Instr) → s.stage ≡ stage.Program → length s.instrs < 64 → named_in s.version w ≡ Some o
    → instr_of o (v ∷ t ∷ []) ≡ Ok (whole i) → line_step s (w ∷ v ∷ t ∷ []) ≡ Ok (record s { instrs = s.instrs ++ whole i ∷ [] })
instr_taken s w v t o i e few h f =
    let same : s ≡ record s { stage = stage.Program } = ap (λ x. record s { stage = x }) e in
    let there = found_in s.version (named w) o h in
    let taken = ap (λ x. line_step (record s { stage = stage.Program }) (x ∷ v ∷ t ∷ [])) (named_is w o there.0) ∙ by_operation s o (v ∷ t ∷ []) there.1
    ∙ one_instr (record s { stage = stage.Program }) o (v ∷ t ∷ []) i few f in
    subst (λ (x : Seen). line_step x (w ∷ v ∷ t ∷ []) ≡ Ok (record x { instrs = x.instrs ++ whole i ∷ [] })) (sym same) taken
