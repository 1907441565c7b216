-- The choice that the words of a line spell, and the fault where they spell none.
use Rattle.std.specs.Prelude.{ℕ, List, [], ◌∷◌, codes, nat_lt, Bool, true, false, Option, Some, None, Result, Ok, Err}
use Rattle.std.specs.Prelude.{ok_or, if◌then◌else◌}
use Rattle.std.specs.Str.{bytes_eq}
use Rattle.zy_isa.specs.Limits.{max_choices}
use Rattle.zy_isa.specs.declared.node.Node.{Node}
use Rattle.zy_isa.specs.declared.node.Node.TheVariants as node
use Rattle.zy_isa.specs.declared.node.Actor.{Actor}
use Rattle.zy_isa.specs.declared.node.Actor.TheVariants as actor
use Rattle.zy_isa.specs.declared.choice.Choice.{Choice}
use Rattle.zy_isa.specs.declared.choice.Choice.TheVariants as choice
use Rattle.zy_text.specs.Words.{number_of, is_numeral}
use Rattle.zy_asm.specs.declared.faults.AsmKind.{AsmKind}
use Rattle.zy_asm.specs.declared.faults.AsmKind.TheVariants as kinds
use Rattle.zy_asm.specs.declared.choices.Action.{Action}
use Rattle.zy_asm.specs.declared.choices.Action.TheVariants.{Txn, Plain}
use Rattle.zy_asm.specs.declared.choices.TxnAction.{TxnAction}
use Rattle.zy_asm.specs.declared.choices.TxnAction.TheVariants.{Begin, Kill, Run}
use Rattle.zy_isa.specs.Results.{◌>>=◌}
use Rattle.zy_text.specs.Names.{Mark, is_name, place}
use Rattle.zy_asm.specs.Steps.{number_in}

abbrev pub actor_of : List ℕ → Option Actor
actor_of w =
    if bytes_eq w (codes "C") then Some actor.C else
    if bytes_eq w (codes "A") then Some actor.A else
    if bytes_eq w (codes "B") then Some actor.B else
    None

abbrev pub client_action : List ℕ → Option Action
client_action w =
    if bytes_eq w (codes "start") then Some (Plain choice.Start) else
    if bytes_eq w (codes "begin") then Some (Txn Begin) else
    if bytes_eq w (codes "kill") then Some (Txn Kill) else
    None

abbrev pub node_action : Node → List ℕ → Option Action
node_action n w =
    if bytes_eq w (codes "run") then Some (Txn (Run n)) else
    if bytes_eq w (codes "take") then Some (Plain (choice.Take n)) else
    if bytes_eq w (codes "finish") then Some (Plain (choice.Finish n)) else
    if bytes_eq w (codes "push") then Some (Plain (choice.Push n)) else
    None

abbrev pub action_of : Actor → List ℕ → Option Action
action_of actor.C w = client_action w
action_of actor.A w = node_action node.A w
action_of actor.B w = node_action node.B w

abbrev pub chosen : TxnAction → ℕ → Choice
chosen Begin t = choice.Begin t
chosen Kill t = choice.Kill t
chosen (Run n) t = choice.Run n t

-- the number of one of this number of transactions
abbrev pub numbered : ℕ → List ℕ → Result ℕ AsmKind
numbered count w = do
  n ← ok_or (number_of w) kinds.Number
  if nat_lt n count then Ok n else Err kinds.Label

-- a transaction, by its number or its name
abbrev pub transaction : ℕ → List Mark → List ℕ → Result ℕ AsmKind
transaction count names w =
    if is_numeral w then numbered count w else
    if is_name w then ok_or (place w names) kinds.Label else
    Err kinds.Word

-- `x` and a word, or nothing
abbrev pub are_times : List (List ℕ) → Bool
are_times [] = true
are_times (x ∷ n ∷ []) = bytes_eq x (codes "x")
are_times _ = false

abbrev pub times_of : List (List ℕ) → Result ℕ AsmKind
times_of [] = Ok 1
times_of (x ∷ n ∷ []) = number_in n 1 max_choices
times_of _ = Err kinds.Word
