-- The command that the words of a line spell.
use Rattle.std.specs.Prelude.{ℕ, ◌&&◌, nat_le, List, [], ◌∷◌, codes, Option, Some, None, option_map, if◌then◌else◌}
use Rattle.std.specs.Option.{option_and_then}
use Rattle.std.specs.Str.{bytes_eq}
use Rattle.zy_text.specs.Words.{number_of}
use Rattle.zy_isa.specs.Integers.{max_u32}
use Rattle.zy_isa.specs.declared.node.Node.TheVariants.{A, B}
use Rattle.zy_debug.specs.declared.command.Command.{Command}
use Rattle.zy_debug.specs.declared.command.Command.TheVariants as command

-- the greatest number of a command
abbrev pub max_number : ℕ
max_number = max_u32

-- the number that 1 to 10 digits spell, where a command may have it
abbrev pub small : ℕ → Option ℕ
small n = if nat_le n max_number then Some n else None

abbrev pub count_of : List ℕ → Option ℕ
count_of w = option_and_then small (number_of w)

-- a command of one word
abbrev pub bare : List ℕ → Option Command
bare w =
    if bytes_eq w (codes "cont") then Some command.Cont else
    if bytes_eq w (codes "rcont") then Some command.RCont else
    if bytes_eq w (codes "links") then Some command.Links else
    if bytes_eq w (codes "where") then Some command.Position else
    None

-- a command of a word and a number
abbrev pub numbered : List ℕ → ℕ → Option Command
numbered w n =
    if bytes_eq w (codes "step") then Some (command.Step n) else
    if bytes_eq w (codes "back") then Some (command.Back n) else
    if bytes_eq w (codes "goto") then Some (command.Goto n) else
    if bytes_eq w (codes "watch") then Some (command.Watch n) else
    if bytes_eq w (codes "delete") then Some (command.Delete n) else
    if bytes_eq w (codes "page") then Some (command.Page n) else
    if bytes_eq w (codes "txn") then Some (command.Txn n) else
    None

-- the only word behind `break`
abbrev pub break_at : List ℕ → Option Command
break_at w =
    if bytes_eq w (codes "mode") then Some command.BreakMode else
    if bytes_eq w (codes "abort") then Some command.BreakAbort else
    None

-- the node behind `node`
abbrev pub node_at : List ℕ → Option Command
node_at w =
    if bytes_eq w (codes "A") then Some (command.Node A) else
    if bytes_eq w (codes "B") then Some (command.Node B) else
    None

abbrev pub of_two : List ℕ → List ℕ → Option Command
of_two w v =
    if bytes_eq w (codes "break") then break_at v else
    if bytes_eq w (codes "node") then node_at v else
    option_and_then (numbered w) (count_of v)

-- `break page` and a number
abbrev pub of_three : List ℕ → List ℕ → List ℕ → Option Command
of_three w v u =
    if bytes_eq w (codes "break") && bytes_eq v (codes "page") then option_map command.BreakPage (count_of u) else
    None

-- the words spell this command
abbrev pub command_of : List (List ℕ) → Option Command
command_of (w ∷ []) = bare w
command_of (w ∷ v ∷ []) = of_two w v
command_of (w ∷ v ∷ u ∷ []) = of_three w v u
command_of _ = None
