-- What a line that is read spells.
use Rattle.std.proofs.Common.{◌≡◌, ℕ, ◌+◌, ◌<◌, ◌≤◌, ◌⊎◌, Bool, Option, true, false, is_some, if◌then◌else◌, append-nil, lt-ltb, ◌||◌, ◌==◌, nat_lt, List, []}
use Rattle.std.proofs.Common.{◌∷◌, ◌++◌, length, codes, Result, Ok, Some, None, refl, sym, ap, ◌∙◌, subst, inl, inr, arith, ok_or}
use Rattle.std.specs.Prelude.{replicate, is_none}
use Rattle.std.specs.List.{find}
use Rattle.std.specs.Str.{bytes_eq}
use Rattle.std.specs.Char.{is_ascii_digit}
use Rattle.zy_isa.specs.Limits.{max_key, max_value, max_target}
use Rattle.zy_isa.specs.declared.version.Version.{Version}
use Rattle.zy_isa.specs.declared.node.Node.{Node}
use Rattle.zy_isa.specs.declared.node.Node.TheVariants as node
use Rattle.zy_isa.specs.declared.node.Actor.{Actor}
use Rattle.zy_isa.specs.declared.node.Actor.TheVariants as actor
use Rattle.zy_isa.specs.declared.row.Row.{Row}
use Rattle.zy_isa.specs.declared.instr.Reg.{Reg}
use Rattle.zy_isa.specs.declared.instr.Instr.{Instr}
use Rattle.zy_isa.specs.declared.operation.NumberOperation.{NumberOperation}
use Rattle.zy_isa.specs.declared.operation.JumpOperation.{JumpOperation}
use Rattle.zy_isa.specs.declared.operation.Operation.{Operation}
use Rattle.zy_isa.specs.declared.operation.Operation.TheVariants as op
use Rattle.zy_isa.specs.declared.operation.Parts.{Parts}
use Rattle.zy_isa.specs.declared.operation.Parts.TheVariants.{Number, Pair, Jump, Lone}
use Rattle.zy_isa.specs.declared.choice.Choice.{Choice}
use Rattle.zy_isa.specs.declared.choice.Choice.TheVariants as choice
use Rattle.zy_text.specs.Words.{number_of, is_numeral}
use Rattle.zy_isa.specs.Registers.{registers}
use Rattle.zy_isa.specs.Operations.{is_of, mnemonic, named_in, named, instr_with}
use Rattle.zy_text.specs.Canon.{reg_text, node_text}
use Rattle.zy_isa.specs.Choices.{names_below, actor_at}
use Rattle.zy_text.specs.Text as m
use Rattle.zy_text.specs.Text.{Times, Spells, SpellsParts, SpellsInstr, SpellsChoice, SpellsTimes, Refers, name_in}
use Rattle.zy_asm.specs.declared.faults.AsmKind.{AsmKind}
use Rattle.zy_asm.specs.declared.faults.AsmKind.TheVariants as kinds
use Rattle.zy_asm.specs.declared.choices.Action.{Action}
use Rattle.zy_asm.specs.declared.choices.Action.TheVariants.{Txn, Plain}
use Rattle.zy_asm.specs.declared.choices.TxnAction.{TxnAction}
use Rattle.zy_asm.specs.declared.choices.TxnAction.TheVariants.{Begin, Kill, Run}
use Rattle.zy_asm.specs.declared.reading.keyword.Keyword.{Keyword}
use Rattle.zy_asm.specs.declared.reading.keyword.Keyword.TheVariants as k
use Rattle.zy_asm.specs.declared.state.Stage.TheVariants as stage
use Rattle.zy_asm.specs.Steps.{number_in}
use Rattle.zy_text.specs.Names.{Mark, is_letter, is_name, place, AreNew, label_of}
use Rattle.zy_asm.specs.Pending.{Pending, whole, jump, resolved}
use Rattle.zy_asm.specs.Instructions.{register_of, two, pair_of, with_number, jump_to, with_target, alone, instr_of}
use Rattle.zy_asm.specs.Choices.{actor_of, client_action, node_action, action_of, chosen, numbered, transaction, are_times, times_of}
use Rattle.zy_asm.specs.Reading.Progress.{Seen}
use Rattle.zy_asm.specs.Reading.Keywords.{keyword_of}
use Rattle.zy_asm.specs.Reading.RowLines.{row_of}
use Rattle.zy_asm.specs.Reading.ChoiceLines.{repeat_choice, repeat_line, action_line, choice_line}
use Rattle.zy_asm.specs.Reading.ProgramLines.{own_number, head_line}
use Rattle.zy_isa.proofs.OperationLemmas.{found_in, found_passes, named_is, each, parts_again}
use Rattle.zy_isa.proofs.ResultLemmas.{bind_ok, if_ok, if_err, ok_or_ok, chosen_by, first_or, in_range, not_over, same}
use borrow.Author.Tests.{eqb-true, tests}

-- ---- first words

-- the first word of an actor's choices
abbrev pub actor_word : Actor → List ℕ
actor_word actor.C = codes "C"
actor_word actor.A = codes "A"
actor_word actor.B = codes "B"

-- nothing is not something
nothing : {X : Type 0} (x : X) → None ≡ Some x → ⊥
nothing x h = cc

-- a word that is equal to an actor's is that actor's
this_actor : (w : List ℕ) (a b : Actor) → bytes_eq w (actor_word a) ≡ true → Some a ≡ Some b → w ≡ actor_word b
this_actor w a b e h = let q : a ≡ b = cc in same w (actor_word a) e ∙ ap actor_word q

-- a word that is read as an actor is that actor's
pub actor_ok : (w : List ℕ) (o : Actor) → actor_of w ≡ Some o → w ≡ actor_word o
actor_ok w o h =
    elim (chosen_by (bytes_eq w (codes "C")) _ _ _ h) [
      | inl a ↦ this_actor w actor.C o a.0 a.1
      | inr a ↦
          elim (chosen_by (bytes_eq w (codes "A")) _ _ _ a.1) [
            | inl b ↦ this_actor w actor.A o b.0 b.1
            | inr b ↦
                elim (chosen_by (bytes_eq w (codes "B")) _ _ _ b.1) [ inl d ↦ this_actor w actor.B o d.0 d.1 | inr d ↦ absurd (nothing o d.1) ]
          ]
    ]

-- no operation's word is a label
pub no_label : (o : Operation) → label_of (mnemonic o) ≡ None
no_label o = none (label_of (mnemonic o)) (each (λ x. is_none (label_of (mnemonic x))) refl o)
  where
    none : (x : Option (List ℕ)) → is_none x ≡ true → x ≡ None
    none None h = refl
    none (Some w) h = cc

-- what a keyword says of its word
abbrev pub IsWordOf : Version → Keyword → List ℕ → Type 0
IsWordOf version k.Header w = Unit {0}
IsWordOf version k.Row w = w ≡ codes "row"
IsWordOf version k.Txn w = w ≡ codes "txn"
IsWordOf version (k.Instr o) w = (w ≡ mnemonic o) × (is_of version o ≡ true)
IsWordOf version (k.Choice a) w = w ≡ actor_word a
IsWordOf version k.End w = w ≡ codes "end"

-- what a keyword says of its word, an equal keyword says too
by_key : (version : Version) (w : List ℕ) (a key : Keyword) → IsWordOf version a w → a ≡ key → IsWordOf version key w
by_key version w a key h e = rw e at h

-- the same of a keyword that was found
some_key : (version : Version) (w : List ℕ) (a key : Keyword) → IsWordOf version a w → Some a ≡ Some key → IsWordOf version key w
some_key version w a key h e = let q : a ≡ key = cc in by_key version w a key h q

-- a word that is read as an operation of the version is its mnemonic
operation_ok : (version : Version) (w : List ℕ) (o : Operation) → named_in version w ≡ Some o → IsWordOf version (k.Instr o) w
operation_ok version w o h = let f = found_in version (named w) o h in (named_is w o f.0, f.1)

-- a word that is read as a keyword is that keyword's
pub keyword_ok : (version : Version) (w : List ℕ) (key : Keyword) → keyword_of version w ≡ Some key → IsWordOf version key w
keyword_ok version w key h =
    elim (first_or k.Instr (named_in version w) _ key h) [
      | inl a ↦ by_key version w (k.Instr a.0) key (operation_ok version w a.0 a.1) a.2
      | inr a ↦
          elim (first_or k.Choice (actor_of w) _ key a) [
            | inl b ↦ by_key version w (k.Choice b.0) key (actor_ok w b.0 b.1) b.2
            | inr b ↦
                elim (chosen_by (bytes_eq w (codes "row")) _ _ _ b) [
                  | inl d ↦ some_key version w k.Row key (same w (codes "row") d.0) d.1
                  | inr d ↦
                      elim (chosen_by (bytes_eq w (codes "txn")) _ _ _ d.1) [
                        | inl e ↦ some_key version w k.Txn key (same w (codes "txn") e.0) e.1
                        | inr e ↦
                            elim (chosen_by (bytes_eq w (codes "end")) _ _ _ e.1) [
                              | inl f ↦ some_key version w k.End key (same w (codes "end") f.0) f.1
                              | inr f ↦
                                  elim (chosen_by (bytes_eq w (codes "zephyr") || bytes_eq w (codes "cap") || bytes_eq w (codes "pages")
                                  || bytes_eq w (codes "rule")) _ _ _ f.1) [
                                    | inl g ↦ some_key version w k.Header key tt g.1
                                    | inr g ↦
                                        absurd (nothing key g.1)
                                  ]
                            ]
                      ]
                ]
          ]
    ]

-- ---- numbers and registers

-- a word that is read as a number in a range spells it, and it is in the range
pub number_in_ok : (w : List ℕ) (a b n : ℕ) → number_in w a b ≡ Ok n → (number_of w ≡ Some n) × (a ≤ n) × (n ≤ b)
number_in_ok w a b n h =
    let p = bind_ok (ok_or (number_of w) kinds.Number) _ n h in
    let q = if_err (nat_lt p.0 a || nat_lt b p.0) (Ok p.0) kinds.Range n p.2 in
    let e : p.0 ≡ n = cc (q.1) in
    let r = in_range p.0 a b q.0 in
    (ok_or_ok (number_of w) kinds.Number p.0 p.1 ∙ ap Some e, omega arith, omega arith)

-- a word that is read as a register is its name
pub register_ok : (w : List ℕ) (r : Reg) → register_of w ≡ Ok r → w ≡ reg_text r
register_ok w r h =
    same w (reg_text r) (found_passes (λ x. bytes_eq w (reg_text x)) registers r (ok_or_ok (find (λ x. bytes_eq w (reg_text x)) registers) kinds.Word r h))

-- two words that are read as registers are their names
two_ok : (a b : List ℕ) (p : Reg × Reg) → two a b ≡ Ok p → (a ≡ reg_text p.0) × (b ≡ reg_text p.1)
two_ok a b p h =
    let x = bind_ok (register_of a) _ p h in
    let y = bind_ok (register_of b) _ p x.2 in
    let e : (x.0, y.0) ≡ p = cc (y.2) in
    (register_ok a x.0 x.1 ∙ ap (λ (q : Reg × Reg). reg_text q.0) e, register_ok b y.0 y.1 ∙ ap (λ (q : Reg × Reg). reg_text q.1) e)

-- words that are read as two registers are their names, and no more
pair_ok : (ws : List (List ℕ)) (p : Reg × Reg) → pair_of ws ≡ Ok p → ws ≡ reg_text p.0 ∷ reg_text p.1 ∷ []
pair_ok [] p h = cc
pair_ok (a ∷ []) p h = cc
pair_ok (a ∷ b ∷ []) p h = let q = two_ok a b p h in rw (q.0, q.1) refl
pair_ok (a ∷ b ∷ d ∷ ws) p h = cc

-- ---- instructions

-- whatever the labels, the words spell what the instruction is with them
abbrev pub SpellsPending : Pending → List (List ℕ) → Type 0
SpellsPending p ws = (labels : List Mark) (i : Instr) → resolved labels p ≡ Ok i → SpellsInstr labels i ws

-- words that spell an instruction whatever the labels spell it before these are known
whole_ok : (i : Instr) (p : Pending) (ws : List (List ℕ)) → whole i ≡ p → ((labels : List Mark) → SpellsInstr labels i ws) → SpellsPending p ws
whole_ok i p ws q h = subst (λ x. SpellsPending x ws) q (λ labels j e. same_instr labels j (let g : i ≡ j = cc in g))
  where
    same_instr : (labels : List Mark) (j : Instr) → i ≡ j → SpellsInstr labels j ws
    same_instr labels j g = subst (λ x. SpellsInstr labels x ws) g (h labels)

-- words that spell parts spell the instruction with them
spelled_whole : (labels : List Mark) (p : Parts) (ws : List (List ℕ)) → SpellsParts labels p ws → SpellsInstr labels (instr_with p) ws
spelled_whole labels p ws h = subst (λ x. SpellsParts labels x ws) (sym (parts_again p)) h

-- words that are read as an operation with a number spell the instruction
number_ok : (o : NumberOperation) (ws : List (List ℕ)) (i : Instr) → with_number o ws ≡ Ok i → (labels : List Mark)
    → SpellsInstr labels i (mnemonic (op.Number o) ∷ ws)
number_ok o [] i h labels = cc
number_ok o (a ∷ []) i h labels = cc
number_ok o (a ∷ w ∷ []) i h labels =
    let p = bind_ok (register_of a) _ i h in
    let n = bind_ok (number_in w 0 max_value) _ i p.2 in
    let q : i ≡ instr_with (Number o p.0 n.0) = cc (n.2) in
    rw q (spelled_whole labels (Number o p.0 n.0) _ (
      w,
      ap (λ r. mnemonic (op.Number o) ∷ r ∷ w ∷ []) (register_ok a p.0 p.1),
      (number_in_ok w 0 max_value n.0 n.1).0,
    ))
number_ok o (a ∷ w ∷ v ∷ ws) i h labels = cc

-- the words of a jump: its mnemonic, two registers and the target
abbrev jump_words : JumpOperation → Reg → Reg → List ℕ → List (List ℕ)
jump_words o a b w = mnemonic (op.Jump o) ∷ reg_text a ∷ reg_text b ∷ w ∷ []

-- words that are equal to those of a jump are its words
same_words : (o : JumpOperation) (a b w : List ℕ) (x y : Reg) → a ≡ reg_text x → b ≡ reg_text y → mnemonic (op.Jump o) ∷ a ∷ b ∷ w ∷ [] ≡ jump_words o x y w
same_words o a b w x y e f = rw (e, f) refl

-- a jump to a name is spelled by the words of that jump
named_ok : (o : JumpOperation) (a b : Reg) (w : List ℕ) (p : Pending) → is_name w ≡ true → jump o a b w ≡ p → SpellsPending p (jump_words o a b w)
named_ok o a b w p n q = subst (λ x. SpellsPending x (jump_words o a b w)) q found
  where
    found : SpellsPending (jump o a b w) (jump_words o a b w)
    found labels i h =
        let g = bind_ok (ok_or (place w labels) kinds.Label) _ i h in
        let e : instr_with (Jump o a b g.0) ≡ i = cc (g.2) in
        subst (λ x. SpellsInstr labels x (jump_words o a b w)) e (spelled_whole labels (Jump o a b g.0) _ (
          w,
          refl,
          inr (n, ok_or_ok (place w labels) kinds.Label g.0 g.1),
        ))

-- a target that is read is that of the jump whose words these are
jump_ok : (o : JumpOperation) (a b : Reg) (t : List ℕ) (p : Pending) → jump_to o a b t ≡ Ok p → SpellsPending p (jump_words o a b t)
jump_ok o a b [] p h = cc
jump_ok o a b (c ∷ cs) p h =
    elim (chosen_by (c == 64) _ _ _ h) [
      | inl e ↦ at_number e.0 (bind_ok (number_in cs 0 max_target) _ p e.1)
      | inr e ↦ let d = if_ok (is_name (c ∷ cs)) (Ok (jump o a b (c ∷ cs))) kinds.Word p e.1 in
          named_ok o a b (c ∷ cs) p d.0 (let q : jump o a b (c ∷ cs) ≡ p = cc (d.1) in q)
    ]
  where
    at_number : (c == 64) ≡ true → ((n : ℕ) × (number_in cs 0 max_target ≡ Ok n)
        × ((let r : Result Pending AsmKind = Ok (whole (instr_with (Jump o a b n))) in r) ≡ Ok p)) → SpellsPending p (jump_words o a b (c ∷ cs))
    at_number e n =
        let i = instr_with (Jump o a b n.0) in
        let q : whole i ≡ p = cc (n.2) in
        whole_ok i p (jump_words o a b (c ∷ cs)) q
        (λ labels. spelled_whole labels (Jump o a b n.0) _ (
          c ∷ cs,
          refl,
          inl (
            cs,
            ap (λ x. x ∷ cs) (eqb-true c 64 e),
            (number_in_ok cs 0 max_target n.0 n.1).0,
          ),
        ))

-- words that are read as a jump spell it
target_ok : (o : JumpOperation) (ws : List (List ℕ)) (p : Pending) → with_target o ws ≡ Ok p → SpellsPending p (mnemonic (op.Jump o) ∷ ws)
target_ok o [] p h = cc
target_ok o (a ∷ []) p h = cc
target_ok o (a ∷ b ∷ []) p h = cc
target_ok o (a ∷ b ∷ t ∷ []) p h =
    let r = bind_ok (two a b) _ p h in
    let q = two_ok a b r.0 r.1 in
    subst (SpellsPending p) (sym (same_words o a b t r.0.0 r.0.1 q.0 q.1)) (jump_ok o r.0.0 r.0.1 t p r.2)
target_ok o (a ∷ b ∷ t ∷ u ∷ ws) p h = cc

-- an operation that is read with nothing behind it has no word behind it
alone_ok : (ws : List (List ℕ)) (i j : Instr) → alone ws i ≡ Ok j → (ws ≡ []) × (j ≡ i)
alone_ok [] i j h = (refl, cc)
alone_ok (w ∷ ws) i j h = cc

-- words that are read behind an operation spell the instruction
pub instr_ok : (o : Operation) (ws : List (List ℕ)) (p : Pending) → instr_of o ws ≡ Ok p → SpellsPending p (mnemonic o ∷ ws)
instr_ok (op.Number o) ws p h =
    let g = bind_ok (with_number o ws) _ p h in
    let q : whole g.0 ≡ p = cc (g.2) in
    whole_ok g.0 p (mnemonic (op.Number o) ∷ ws) q (number_ok o ws g.0 g.1)
instr_ok (op.Pair o) ws p h =
    let g = bind_ok (pair_of ws) _ p h in
    let i = instr_with (Pair o g.0.0 g.0.1) in
    let q : whole i ≡ p = cc (g.2) in
    whole_ok i p (mnemonic (op.Pair o) ∷ ws) q (λ labels. spelled_whole labels (Pair o g.0.0 g.0.1) _ (ap (λ x. mnemonic (op.Pair o) ∷ x) (pair_ok ws g.0 g.1)))
instr_ok (op.Jump o) ws p h = target_ok o ws p h
instr_ok (op.Lone o) ws p h =
    let i = instr_with (Lone o) in
    let g = bind_ok (alone ws i) _ p h in
    let a = alone_ok ws i g.0 g.1 in
    let q : whole g.0 ≡ p = cc (g.2) in
    whole_ok i p (mnemonic (op.Lone o) ∷ ws) (ap whole (sym a.1) ∙ q) (λ labels. spelled_whole labels (Lone o) _ (ap (λ x. mnemonic (op.Lone o) ∷ x) a.0))

-- ---- rows

-- words that are read as a row spell it
pub row_ok : (ws : List (List ℕ)) (r : Row) → row_of ws ≡ Ok r → Spells (m.row r) (codes "row" ∷ ws)
row_ok [] r h = cc
row_ok (k ∷ []) r h = cc
row_ok (k ∷ v ∷ []) r h =
    let q = bind_ok (number_in k 0 max_key) _ r h in
    let o = bind_ok (number_in v 0 max_value) _ r q.2 in
    let e : r ≡ record { key = q.0; value = o.0 } = cc (o.2) in
    rw e (k, v, refl, (number_in_ok k 0 max_key q.0 q.1).0, (number_in_ok v 0 max_value o.0 o.1).0)
row_ok (k ∷ v ∷ y ∷ ys) r h = cc

-- ---- names

-- a digit is no letter
letter_digit : (b : ℕ) → is_ascii_digit b ≡ true → is_letter b ≡ false
letter_digit b h = grind (arith, tests)

-- a numeral is no name
pub no_name : (w : List ℕ) → is_numeral w ≡ true → is_name w ≡ false
no_name [] h = refl
no_name (b ∷ bs) h = rw (letter_digit b h) refl

-- what is not something is nothing
pub not_some : {X : Type 0} (o : Option X) → is_some o ≡ false → o ≡ None
not_some None h = refl
not_some (Some x) h = cc

-- a word that is read as the program's own number spells it
own_ok : (count : ℕ) (w : List ℕ) (n : ℕ) → own_number count w ≡ Ok n → number_of w ≡ Some count
own_ok count w n h =
    let p = bind_ok (ok_or (number_of w) kinds.Number) _ n h in
    let q = if_ok (p.0 == count) (Ok p.0) kinds.Label n p.2 in
    ok_or_ok (number_of w) kinds.Number p.0 p.1 ∙ ap Some (eqb-true p.0 count q.0)

-- what a head did
pub record HeadStep (s : Seen) (w : List ℕ) (t : Seen) : Type 0 where
  pub kind : (is_name w ≡ true) ⊎ (number_of w ≡ Some (length s.programs))
  pub new : AreNew s.names (name_in w (length s.programs))
  pub after : t ≡ record s { names = s.names ++ name_in w (length s.programs) }

-- the head of a program that is read is its number or a new name
pub head_ok : (s : Seen) (w : List ℕ) (t : Seen) → head_line s w ≡ Ok t → HeadStep s w t
head_ok s w t h = split (is_numeral w) refl
  where
    split : (b : Bool) → is_numeral w ≡ b → HeadStep s w t
    split true e =
        let p = bind_ok (own_number (length s.programs) w) _ t (rw e at h) in
        let n = no_name w e in
        record {
          kind = inr (own_ok (length s.programs) w p.0 p.1);
          new = rw n tt;
          after = (let g : t ≡ s = cc (p.2) in g) ∙ ap (λ x. record s { names = x }) (sym (append-nil s.names))
              ∙ ap (λ x. record s { names = s.names ++ (if x then (w, length s.programs) ∷ [] else []) }) (sym n);
        }
    split false e =
        let p = if_ok (is_name w) _ kinds.Word t (rw e at h) in
        let q = if_err (is_some (place w s.names)) _ kinds.Label t p.1 in
        record {
          kind = inl p.0;
          new = rw p.0 (not_some (place w s.names) q.0, tt);
          after = (let g : t ≡ record s { names = s.names ++ (w, length s.programs) ∷ [] } = cc (q.1) in g)
              ∙ ap (λ x. record s { names = s.names ++ (if x then (w, length s.programs) ∷ [] else []) }) (sym p.0);
        }

-- the numbers of names are below the count
abbrev pub AreBelow : ℕ → List Mark → Type 0
AreBelow n [] = Unit {0}
AreBelow n (m ∷ ms) = (m.1 < n) × AreBelow n ms

-- the number that a name stands for is below the count, where all numbers are
place_below : (n : ℕ) (w : List ℕ) (ms : List Mark) (t : ℕ) → AreBelow n ms → place w ms ≡ Some t → t < n
place_below n w [] t h e = cc
place_below n w (x ∷ xs) t h e = split (bytes_eq w x.0) refl (λ g. place_below n w xs t h.1 g)
  where
    split : (b : Bool) → bytes_eq w x.0 ≡ b → (place w xs ≡ Some t → t < n) → t < n
    split true q ih = let g : Some x.1 ≡ Some t = rw q at e in let g2 : x.1 ≡ t = cc in rw g2 at (h.0)
    split false q ih = ih (rw q at e)

-- ---- choices

-- a node's letter as the first word of its lines
pub node_word : (n : Node) → actor_word (actor_at n) ≡ node_text n
node_word node.A = refl
node_word node.B = refl

-- an action that this word names
abbrev SpellsAction : List Mark → Actor → List ℕ → Action → Type 0
SpellsAction names a w (Txn x) = (who : List ℕ) (i : ℕ) → Refers names i who → SpellsChoice names (chosen x i) (actor_word a ∷ w ∷ who ∷ [])
SpellsAction names a w (Plain c) = SpellsChoice names c (actor_word a ∷ w ∷ []) × ((count : ℕ) → names_below count c ≡ true)

-- a word that is equal to that of an action names this action
this_action : (names : List Mark) (a : Actor) (w v : List ℕ) (x y : Action) → SpellsAction names a v x → bytes_eq w v ≡ true → Some x ≡ Some y
    → SpellsAction names a w y
this_action names a w v x y s e h = let q : x ≡ y = cc in subst (SpellsAction names a w) q (subst (λ u. SpellsAction names a u x) (sym (same w v e)) s)

-- a word that is read as an action of the client names it
client_ok : (names : List Mark) (w : List ℕ) (x : Action) → client_action w ≡ Some x → SpellsAction names actor.C w x
client_ok names w x h =
    elim (chosen_by (bytes_eq w (codes "start")) _ _ _ h) [
      | inl a ↦ this_action names actor.C w (codes "start") (Plain choice.Start) x (refl, λ count. refl) a.0 a.1
      | inr a ↦
          elim (chosen_by (bytes_eq w (codes "begin")) _ _ _ a.1) [
            | inl b ↦ this_action names actor.C w (codes "begin") (Txn Begin) x (λ who i n. (who, refl, n)) b.0 b.1
            | inr b ↦
                elim (chosen_by (bytes_eq w (codes "kill")) _ _ _ b.1) [
                  | inl d ↦ this_action names actor.C w (codes "kill") (Txn Kill) x
                      (λ who i n. (who, refl, n)) d.0 d.1
                  | inr d ↦ absurd (nothing x d.1)
                ]
          ]
    ]

-- a word that is read as an action of a node names it
node_ok : (names : List Mark) (n : Node) (w : List ℕ) (x : Action) → node_action n w ≡ Some x → SpellsAction names (actor_at n) w x
node_ok names n w x h =
    elim (chosen_by (bytes_eq w (codes "run")) _ _ _ h) [
      | inl a ↦ this_action names (actor_at n) w (codes "run") (Txn (Run n)) x (λ who i k. (who, ap (λ v. v ∷ codes "run" ∷ who ∷ []) (node_word n), k)) a.0 a.1
      | inr a ↦
          elim (chosen_by (bytes_eq w (codes "take")) _ _ _ a.1) [
            | inl b ↦ this_action names (actor_at n) w (codes "take") (Plain (choice.Take n)) x (
              ap (λ v. v ∷ codes "take" ∷ []) (node_word n),
              λ count. refl,
            ) b.0 b.1
            | inr b ↦
                elim (chosen_by (bytes_eq w (codes "finish")) _ _ _ b.1) [
                  | inl d ↦ this_action names (actor_at n) w (codes "finish") (Plain (choice.Finish n)) x (
                    ap (λ v. v ∷ codes "finish" ∷ []) (node_word n),
                    λ count. refl,
                  ) d.0 d.1
                  | inr d ↦
                      elim (chosen_by (bytes_eq w (codes "push")) _ _ _ d.1) [
                        | inl e ↦
                            this_action names (actor_at n) w (codes "push") (Plain (choice.Push n)) x (
                              ap (λ v. v ∷ codes "push" ∷ []) (node_word n),
                              λ count. refl,
                            ) e.0 e.1
                        | inr e ↦ absurd (nothing x e.1)
                      ]
                ]
          ]
    ]

-- a word that is read as an action of an actor names it
action_ok : (names : List Mark) (a : Actor) (w : List ℕ) (x : Action) → action_of a w ≡ Some x → SpellsAction names a w x
action_ok names actor.C w x h = client_ok names w x h
action_ok names actor.A w x h = node_ok names node.A w x h
action_ok names actor.B w x h = node_ok names node.B w x h

-- a choice with a transaction's action names one that exists if and only if its number is below the count
names_chosen : (count i : ℕ) (a : TxnAction) → names_below count (chosen a i) ≡ nat_lt i count
names_chosen count i Begin = refl
names_chosen count i Kill = refl
names_chosen count i (Run n) = refl

-- a word that is read as a transaction's number spells it, and it is below the count
numbered_ok : (count : ℕ) (w : List ℕ) (i : ℕ) → numbered count w ≡ Ok i → (number_of w ≡ Some i) × (nat_lt i count ≡ true)
numbered_ok count w i h =
    let p = bind_ok (ok_or (number_of w) kinds.Number) _ i h in
    let q = if_ok (nat_lt p.0 count) (Ok p.0) kinds.Label i p.2 in
    let e : p.0 ≡ i = cc (q.1) in
    (ok_or_ok (number_of w) kinds.Number p.0 p.1 ∙ ap Some e, ap (λ x. nat_lt x count) (sym e) ∙ q.0)

-- a word that is read as a transaction refers to it, and its number is below the count
transaction_ok : (count : ℕ) (names : List Mark) (w : List ℕ) (i : ℕ) → AreBelow count names → transaction count names w ≡ Ok i → Refers names i w
    × (nat_lt i count ≡ true)
transaction_ok count names w i low h =
    elim (chosen_by (is_numeral w) _ _ _ h) [
      | inl e ↦ let n = numbered_ok count w i e.1 in (inl n.0, n.1)
      | inr e ↦
          let d = if_ok (is_name w) (ok_or (place w names) kinds.Label) kinds.Word i e.1 in
          let p = ok_or_ok (place w names) kinds.Label i d.1 in
          (inr (d.0, p), lt-ltb i count (place_below count w names i low p))
    ]

-- words that are read as how often spell it
times_ok : (ws : List (List ℕ)) (n : ℕ) → are_times ws ≡ true → times_of ws ≡ Ok n → SpellsTimes n ws
times_ok [] n e h = inl (refl, cc)
times_ok (x ∷ []) n e h = cc
times_ok (x ∷ w ∷ []) n e h = let p = number_in_ok w 1 4096 n h in inr (w, ap (λ l. l ∷ w ∷ []) (same x (codes "x") e), p.0, p.1, p.2)
times_ok (x ∷ w ∷ v ∷ ws) n e h = cc

-- what a choice did
pub record Chose (s : Seen) (a : Actor) (ws : List (List ℕ)) (t : Seen) : Type 0 where
  pub made : Times
  pub spelled : Spells (m.choice s.names made) (actor_word a ∷ ws)
  pub named : names_below (length s.programs) made.choice ≡ true
  pub few : length s.choices + made.times ≤ 4096
  pub after : t ≡ record s { stage = stage.Choices; choices = s.choices ++ replicate made.times made.choice }

-- a choice that is read with how often is made so often
repeat_ok : (s t : Seen) (a : Actor) (front times : List (List ℕ)) (c : Choice) → SpellsChoice s.names c (actor_word a ∷ front)
    → names_below (length s.programs) c ≡ true
    → are_times times ≡ true → repeat_line s c times ≡ Ok t → Chose s a (front ++ times) t
repeat_ok s t a front times c spelled named are h =
    let n = bind_ok (times_of times) (repeat_choice s c) t h in
    let f = if_err (nat_lt 4096 (length s.choices + n.0)) _ kinds.Count t n.2 in
    record {
      made = record { choice = c; times = n.0 };
      spelled = (actor_word a ∷ front, times, refl, spelled, times_ok times n.0 are n.1);
      named = named;
      few = not_over (length s.choices + n.0) 4096 f.0;
      after = cc (f.1);
    }

-- a line that is read from its action on is a choice
action_line_ok : (s t : Seen) (a : Actor) (w : List ℕ) (x : Action) (ws : List (List ℕ)) → AreBelow (length s.programs) s.names → SpellsAction s.names a w x
    → action_line s x ws ≡ Ok t → Chose s a (w ∷ ws) t
action_line_ok s t a w (Txn x) [] low spelled h = cc
action_line_ok s t a w (Txn x) (who ∷ times) low spelled h =
    let p = if_ok (are_times times) _ kinds.Word t h in
    let i = bind_ok (transaction (length s.programs) s.names who) _ t p.1 in
    let j = transaction_ok (length s.programs) s.names who i.0 low i.1 in
    repeat_ok s t a (w ∷ who ∷ []) times (chosen x i.0) (spelled who i.0 j.0) (names_chosen (length s.programs) i.0 x ∙ j.1) p.0 i.2
action_line_ok s t a w (Plain c) times low spelled h =
    let p = if_ok (are_times times) _ kinds.Word t h in
    repeat_ok s t a (w ∷ []) times c spelled.0 (spelled.1 (length s.programs)) p.0 p.1

-- a line of an actor that is read is a choice
pub choice_ok : (s t : Seen) (a : Actor) (ws : List (List ℕ)) → AreBelow (length s.programs) s.names → choice_line s a ws ≡ Ok t → Chose s a ws t
choice_ok s t a [] low h = cc
choice_ok s t a (w ∷ ws) low h =
    let x = bind_ok (ok_or (action_of a w) kinds.Word) _ t h in
    action_line_ok s t a w x.0 ws low (action_ok s.names a w x.0 (ok_or_ok (action_of a w) kinds.Word x.0 x.1)) x.2
