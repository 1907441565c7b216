-- Behind six words of a line nothing changes what becomes of it.
use Rattle.std.proofs.Common.{◌≡◌, ℕ, List, [], ◌∷◌, Result, Ok, Err, Option, Some, None, refl, sym, ap, ◌∙◌, ok_or}
use Rattle.std.specs.Prelude.{if◌then◌else◌}
use Rattle.zy_isa.specs.Results.{◌>>=◌}
use Rattle.zy_text.specs.Names.{is_name, label_of}
use Rattle.zy_isa.specs.declared.node.Actor.{Actor}
use Rattle.zy_text.specs.Lines.{first_words}
use Rattle.zy_asm.specs.declared.faults.AsmKind.{AsmKind}
use Rattle.zy_asm.specs.declared.faults.AsmKind.TheVariants as kinds
use Rattle.zy_asm.specs.declared.choices.Action.{Action}
use Rattle.zy_asm.specs.declared.choices.Action.TheVariants.{Txn, Plain}
use Rattle.zy_isa.specs.declared.operation.Operation.{Operation}
use Rattle.zy_isa.specs.declared.operation.Operation.TheVariants.{Number, Pair, Jump, Lone}
use Rattle.zy_asm.specs.declared.reading.keyword.Keyword.{Keyword}
use Rattle.zy_asm.specs.declared.reading.keyword.Keyword.TheVariants as k
use Rattle.zy_asm.specs.declared.state.Stage.{Stage}
use Rattle.zy_asm.specs.declared.state.Stage.TheVariants as stage
use Rattle.zy_asm.specs.Instructions.{instr_of}
use Rattle.zy_asm.specs.Choices.{action_of}
use Rattle.zy_asm.specs.Reading.Progress.{Seen}
use Rattle.zy_asm.specs.Reading.ProgramLines.{note_label, label_at, labelled_instr, instr_line, instr_at, closed, txn_at}
use Rattle.zy_asm.specs.Reading.Keywords.{keyword_of}
use Rattle.zy_asm.specs.Reading.RowLines.{row_at}
use Rattle.zy_asm.specs.Reading.ChoiceLines.{action_line, choice_line}
use Rattle.zy_asm.specs.Reading.{statement, line_led_by, line_at, line_step}

-- to go on from an answer in two ways that agree on each value is the same
bind_same : {X Y : Type 0} (r : Result X AsmKind) (f g : X → Result Y AsmKind) → ((x : X) → f x ≡ g x) → (r >>= f) ≡ (r >>= g)
bind_same (Ok x) f g h = h x
bind_same (Err e) f g h = refl

-- an operation with four words or more behind it is faulty
too_many : (op : Operation) (c d e f : List ℕ) (ws : List (List ℕ)) → instr_of op (c ∷ d ∷ e ∷ f ∷ ws) ≡ Err kinds.Word
too_many (Number o) c d e f ws = refl
too_many (Pair o) c d e f ws = refl
too_many (Jump o) c d e f ws = refl
too_many (Lone o) c d e f ws = refl

-- so is its line
instr_fault : (s : Seen) (op : Operation) (c d e f : List ℕ) (ws : List (List ℕ)) → instr_line s op (c ∷ d ∷ e ∷ f ∷ ws) ≡ Err kinds.Word
instr_fault s op c d e f ws = rw (too_many op c d e f ws) refl

-- words b to f and more behind them: each kind of line is the same without what is behind f
module _ (b c d e f : List ℕ) (ws : List (List ℕ)) where
  -- what is behind a label
  labelled_same : (o : Option Keyword) (s : Seen) → labelled_instr o s (c ∷ d ∷ e ∷ f ∷ []) ≡ labelled_instr o s (c ∷ d ∷ e ∷ f ∷ ws)
  labelled_same (Some (k.Instr op)) s = instr_fault s op c d e f [] ∙ sym (instr_fault s op c d e f ws)
  labelled_same o s = refl

  -- a line that a label begins
  label_same : (x : Stage) (s : Seen) (name : List ℕ) → label_at x s name (b ∷ c ∷ d ∷ e ∷ f ∷ []) ≡ label_at x s name (b ∷ c ∷ d ∷ e ∷ f ∷ ws)
  label_same stage.Program s name = bind_same (note_label s name) _ _ (λ u. labelled_same (keyword_of u.version b) u)
  label_same x s name = refl

  -- a row
  row_same : (x : Stage) (s : Seen) → row_at x s (b ∷ c ∷ d ∷ e ∷ f ∷ []) ≡ row_at x s (b ∷ c ∷ d ∷ e ∷ f ∷ ws)
  row_same stage.Rows s = refl
  row_same x s = refl

  -- the beginning of a program
  txn_same : (x : Stage) (s : Seen) → txn_at x s (b ∷ c ∷ d ∷ e ∷ f ∷ []) ≡ txn_at x s (b ∷ c ∷ d ∷ e ∷ f ∷ ws)
  txn_same stage.Choices s = refl
  txn_same x s = refl

  -- an instruction
  program_same : (x : Stage) (s : Seen) (op : Operation) → instr_at x s op (b ∷ c ∷ d ∷ e ∷ f ∷ []) ≡ instr_at x s op (b ∷ c ∷ d ∷ e ∷ f ∷ ws)
  program_same stage.Program s op = instr_fault s op b c d e (f ∷ []) ∙ sym (instr_fault s op b c d e (f ∷ ws))
  program_same x s op = refl

  -- a choice of an action
  action_same : (s : Seen) (a : Action) → action_line s a (c ∷ d ∷ e ∷ f ∷ []) ≡ action_line s a (c ∷ d ∷ e ∷ f ∷ ws)
  action_same s (Txn a) = refl
  action_same s (Plain a) = refl

  -- a choice of an actor
  choice_same : (a : Actor) (s : Seen) → choice_line s a (b ∷ c ∷ d ∷ e ∷ f ∷ []) ≡ choice_line s a (b ∷ c ∷ d ∷ e ∷ f ∷ ws)
  choice_same a s = bind_same (ok_or (action_of a b) kinds.Word) _ _ (action_same s)

  -- a line by its keyword
  statement_same : (o : Option Keyword) (s : Seen) → statement o s (b ∷ c ∷ d ∷ e ∷ f ∷ []) ≡ statement o s (b ∷ c ∷ d ∷ e ∷ f ∷ ws)
  statement_same (Some k.Row) s = row_same s.stage s
  statement_same (Some k.Txn) s = txn_same s.stage s
  statement_same (Some (k.Instr op)) s = program_same s.stage s op
  statement_same (Some (k.Choice a)) s = bind_same (closed s) _ _ (choice_same a)
  statement_same o s = refl

  -- a line below the header
  led_same : (o : Option (List ℕ)) (s : Seen) (w : List ℕ) → line_led_by o s w (b ∷ c ∷ d ∷ e ∷ f ∷ []) ≡ line_led_by o s w (b ∷ c ∷ d ∷ e ∷ f ∷ ws)
  led_same (Some name) s w = ap (λ x. if is_name name then x else Err kinds.Word) (label_same s.stage s name)
  led_same None s w = statement_same (keyword_of s.version w) s

  -- a line of each stage
  line_same : (x : Stage) (s : Seen) (w : List ℕ) → line_at x s (w ∷ b ∷ c ∷ d ∷ e ∷ f ∷ []) ≡ line_at x s (w ∷ b ∷ c ∷ d ∷ e ∷ f ∷ ws)
  line_same stage.Rows s w = led_same (label_of w) s w
  line_same stage.Program s w = led_same (label_of w) s w
  line_same stage.Choices s w = led_same (label_of w) s w
  line_same x s w = refl

-- a line is read as its first six words are
pub line_first : (s : Seen) (ws : List (List ℕ)) → line_step s (first_words ws) ≡ line_step s ws
line_first s [] = refl
line_first s (a ∷ []) = refl
line_first s (a ∷ b ∷ []) = refl
line_first s (a ∷ b ∷ c ∷ []) = refl
line_first s (a ∷ b ∷ c ∷ d ∷ []) = refl
line_first s (a ∷ b ∷ c ∷ d ∷ e ∷ []) = refl
line_first s (a ∷ b ∷ c ∷ d ∷ e ∷ f ∷ ws) = line_same b c d e f ws s.stage s a
