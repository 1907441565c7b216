-- The choices, and the end.
use Rattle.std.specs.Prelude.{◌+◌, ℕ, List, [], ◌∷◌, ◌++◌, length}
use Rattle.std.specs.Prelude.{Result, Ok, Err, ok_or, if◌then◌else◌, nat_lt}
use Rattle.std.specs.Prelude.{replicate}
use Rattle.zy_isa.specs.Limits.{max_choices}
use Rattle.zy_isa.specs.declared.node.Actor.{Actor}
use Rattle.zy_isa.specs.declared.choice.Choice.{Choice}
use Rattle.zy_asm.specs.declared.faults.AsmKind.{AsmKind}
use Rattle.zy_asm.specs.declared.faults.AsmKind.TheVariants as kinds
use Rattle.zy_asm.specs.declared.choices.Action.{Action}
use Rattle.zy_asm.specs.declared.choices.Action.TheVariants.{Txn, Plain}
use Rattle.zy_asm.specs.declared.choices.TxnAction.{TxnAction}
use Rattle.zy_asm.specs.declared.state.Stage.TheVariants.{Choices, Done}
use Rattle.zy_isa.specs.Results.{◌>>=◌}
use Rattle.zy_asm.specs.Choices.{action_of, chosen, transaction, are_times, times_of}
use Rattle.zy_asm.specs.Reading.Progress.{Seen}

abbrev pub repeat_choice : Seen → Choice → ℕ → Result Seen AsmKind
repeat_choice s c n = if nat_lt max_choices (length s.choices + n) then Err kinds.Count
    else Ok (record s { stage = Choices; choices = s.choices ++ replicate n c })

-- a choice, as often as the words behind it say
abbrev pub repeat_line : Seen → Choice → List (List ℕ) → Result Seen AsmKind
repeat_line s c times = times_of times >>= repeat_choice s c

-- a choice that names no transaction
abbrev pub plain_line : Seen → Choice → List (List ℕ) → Result Seen AsmKind
plain_line s c times = if are_times times then repeat_line s c times else Err kinds.Word

-- a transaction's action, with its number behind it
abbrev pub txn_action_line : Seen → TxnAction → List (List ℕ) → Result Seen AsmKind
txn_action_line s a (t ∷ times) = if are_times times then (do
  i ← transaction (length s.programs) s.names t
  repeat_line s (chosen a i) times) else Err kinds.Word
txn_action_line s a [] = Err kinds.Word

abbrev pub action_line : Seen → Action → List (List ℕ) → Result Seen AsmKind
action_line s (Txn a) ws = txn_action_line s a ws
action_line s (Plain c) ws = plain_line s c ws

abbrev pub choice_line : Seen → Actor → List (List ℕ) → Result Seen AsmKind
choice_line s a (w ∷ ws) = do
  action ← ok_or (action_of a w) kinds.Word
  action_line s action ws
choice_line s a [] = Err kinds.Word

abbrev pub end_line : Seen → List (List ℕ) → Result Seen AsmKind
end_line s [] = Ok (record s { stage = Done })
end_line s (w ∷ ws) = Err kinds.Word
