-- Reading an image field by field, up to the first check that fails. The size is that of the whole input.
use Rattle.std.specs.Prelude.{◌≡◌, ◌==◌, ◌-◌, ◌⊎◌, ◌||◌, ℕ, zero, suc, nat_lt, List, [], ◌∷◌, ◌++◌, length, take, drop}
use Rattle.std.specs.Prelude.{get_or, Option, Some, None, Result, Ok, Err, ok_or, option_map, if◌then◌else◌}
use Rattle.std.specs.Result.{result_err}
use Rattle.std.specs.Int.{w16, w32, from_be_bytes}
use Rattle.std.specs.Borrow.{Bor}
use Rattle.zy_isa.specs.Limits.{min_cap, max_cap, max_pages, max_rows, max_txns, max_instrs, max_choices}
use Rattle.zy_isa.specs.declared.version.Version.{Version}
use Rattle.zy_isa.specs.Versions.{version_of_magic}
use Rattle.zy_isa.specs.declared.rule.Rule.{Rule}
use Rattle.zy_isa.specs.declared.rule.Rule.TheVariants.{Held, Loose}
use Rattle.zy_isa.specs.declared.row.Row.{Row}
use Rattle.zy_isa.specs.declared.node.Node.{Node}
use Rattle.zy_isa.specs.declared.node.Node.TheVariants as node
use Rattle.zy_isa.specs.declared.instr.Instr.{Instr}
use Rattle.zy_isa.specs.declared.program.ProgramFault.{ProgramFault}
use Rattle.zy_isa.specs.declared.program.ProgramFault.TheVariants as prog
use Rattle.zy_isa.specs.declared.choice.Choice.{Choice}
use Rattle.zy_isa.specs.declared.choice.Choice.TheVariants.{Start, Begin, Kill, Run, Take, Finish, Push}
use Rattle.zy_isa.specs.Results.{◌>>=◌}
use Rattle.zy_isa.specs.Rows.{last_row, is_low}
use Rattle.zy_isa.specs.Operations.{has}
use Rattle.zy_isa.specs.Programs.{program_fault}
use Rattle.zy_isa.specs.WordFields.{decoded}
use Rattle.zy_isa.specs.Scenario.{Scenario, is_outside, misnamed_choice, opening_pages_for}
use Rattle.zy_image.specs.declared.faults.LoadFault.{LoadFault}
use Rattle.zy_image.specs.declared.faults.LoadFault.TheVariants as fault
use Rattle.zy_image.specs.declared.head.ImageHead.{ImageHead}

-- what was read, and the bytes behind it; or the first fault
abbrev pub Read : Type 0 → Type 0
Read X = Result (X × List ℕ) LoadFault

-- ---- fields

-- a field of n bytes
abbrev pub field : ℕ → ℕ → List ℕ → Read (List ℕ)
field n size bytes = if nat_lt (length bytes) n then Err (fault.Truncated size) else Ok (take n bytes, drop n bytes)

-- a number of one byte
abbrev pub byte : ℕ → List ℕ → Read ℕ
byte size bytes = field 1 size bytes >>= λ f. Ok (get_or f.0 0 0, f.1)

-- a number of two bytes
abbrev pub half : ℕ → List ℕ → Read ℕ
half size bytes = field 2 size bytes >>= λ f. Ok (from_be_bytes w16 f.0, f.1)

-- ---- the head

abbrev pub magic_field : ℕ → List ℕ → Read Version
magic_field size bytes = do
  f ← field 4 size bytes
  version ← ok_or (version_of_magic f.0) fault.Magic
  Ok (version, f.1)

abbrev pub cap_field : ℕ → List ℕ → Read ℕ
cap_field size bytes = byte size bytes >>= λ n. if is_outside min_cap max_cap n.0 then Err fault.Cap else Ok n

abbrev pub pages_field : ℕ → List ℕ → Read ℕ
pages_field size bytes = half size bytes >>= λ n. if is_outside 1 max_pages n.0 then Err fault.Pages else Ok n

abbrev pub rule_at : ℕ → Option Rule
rule_at n = if n == 0 then Some Held else if n == 1 then Some Loose else None

abbrev pub rule_field : ℕ → List ℕ → Read Rule
rule_field size bytes = do
  n ← byte size bytes
  rule ← ok_or (rule_at n.0) fault.Rule
  Ok (rule, n.1)

abbrev pub head_fields : ℕ → List ℕ → Read ImageHead
head_fields size bytes = do
  version ← magic_field size bytes
  cap ← cap_field size version.1
  pages ← pages_field size cap.1
  rule ← rule_field size pages.1
  Ok (record { version = version.0; cap = cap.0; pages = pages.0; rule = rule.0 }, rule.1)

-- ---- lists

-- this number of items more, each read behind those that are before it
abbrev pub read_items : {X : Type 0} → (List X → List ℕ → Read X) → List X → ℕ → List ℕ → Read (List X)
read_items next xs zero bytes = Ok (xs, bytes)
read_items next xs (suc n) bytes = next xs bytes >>= λ x. read_items next (xs ++ x.0 ∷ []) n x.1

-- ---- rows

abbrev pub row_at : List ℕ → Row
row_at f = record { key = from_be_bytes w16 (take 2 f); value = from_be_bytes w32 (drop 2 f) }

abbrev pub next_row : ℕ → List Row → List ℕ → Read Row
next_row size rows bytes = field 6 size bytes >>= λ f. if is_low (row_at f.0).key (last_row rows)
    then Err (fault.RowOrder (length rows)) else Ok (row_at f.0, f.1)

abbrev pub row_count : ImageHead → ℕ → List ℕ → Read ℕ
row_count h size bytes = half size bytes >>= λ n. if nat_lt max_rows n.0 || nat_lt h.pages (opening_pages_for h.cap n.0)
    then Err fault.RowCount else Ok n

abbrev pub rows : ImageHead → ℕ → List ℕ → Read (List Row)
rows h size bytes = row_count h size bytes >>= λ n. read_items (next_row size) [] n.0 n.1

-- ---- programs

-- an instruction that the version has
abbrev pub if_known : Version → Option Instr → Option Instr
if_known version None = None
if_known version (Some i) = if has version i then Some i else None

abbrev pub next_instr : Version → ℕ → ℕ → List Instr → List ℕ → Read Instr
next_instr version t size is bytes = do
  f ← field 8 size bytes
  i ← ok_or (if_known version (decoded f.0)) (fault.Word t (length is))
  Ok (i, f.1)

abbrev pub instr_count : ℕ → ℕ → List ℕ → Read ℕ
instr_count t size bytes = byte size bytes >>= λ n. if n.0 == 0 then Err (fault.Program t prog.Empty)
    else if nat_lt max_instrs n.0 then Err (fault.Program t prog.TooLong) else Ok n

abbrev pub checked_program : {X : Type 0} → ℕ → Option ProgramFault → X → Result X LoadFault
checked_program t None x = Ok x
checked_program t (Some f) x = Err (fault.Program t f)

abbrev pub instrs : Version → ℕ → ℕ → List ℕ → Read (List Instr)
instrs version t size bytes = instr_count t size bytes >>= λ n. read_items (next_instr version t size) [] n.0 n.1

abbrev pub next_program : Version → ℕ → List (List Instr) → List ℕ → Read (List Instr)
next_program version size ps bytes = instrs version (length ps) size bytes >>= λ is. checked_program (length ps)
    (program_fault is.0) is

abbrev pub program_count : ℕ → List ℕ → Read ℕ
program_count size bytes = byte size bytes >>= λ n. if nat_lt max_txns n.0 then Err fault.TxnCount else Ok n

abbrev pub programs : Version → ℕ → List ℕ → Read (List (List Instr))
programs version size bytes = program_count size bytes >>= λ n. read_items (next_program version size) [] n.0 n.1

-- ---- choices

-- a choice with a transaction, of which there are `count`
abbrev pub named : ℕ → ℕ → Choice → Option Choice
named count t c = if nat_lt t count then Some c else None

-- a choice without a transaction
abbrev pub plain : ℕ → Choice → Option Choice
plain t c = if t == 0 then Some c else None

abbrev pub client_choice : ℕ → ℕ → ℕ → Option Choice
client_choice count action t =
    if action == 0 then plain t Start else
    if action == 1 then named count t (Begin t) else
    if action == 2 then named count t (Kill t) else
    None

abbrev pub node_choice : ℕ → Node → ℕ → ℕ → Option Choice
node_choice count n action t =
    if action == 3 then named count t (Run n t) else
    if action == 4 then plain t (Take n) else
    if action == 5 then plain t (Finish n) else
    if action == 6 then plain t (Push n) else
    None

-- the node of an actor's number
abbrev pub node_of : ℕ → Option Node
node_of actor = if actor == 1 then Some node.A else if actor == 2 then Some node.B else None

abbrev pub choice_at : ℕ → ℕ → ℕ → ℕ → Option Choice
choice_at count actor action t =
    if actor == 0 then client_choice count action t else
    if actor == 1 then node_choice count node.A action t else
    if actor == 2 then node_choice count node.B action t else
    None

abbrev pub next_choice : ℕ → ℕ → List Choice → List ℕ → Read Choice
next_choice count size cs bytes = do
  f ← field 3 size bytes
  c ← ok_or (choice_at count (get_or f.0 0 0) (get_or f.0 1 0) (get_or f.0 2 0)) (fault.Choice (length cs))
  Ok (c, f.1)

abbrev pub choice_count : ℕ → List ℕ → Read ℕ
choice_count size bytes = half size bytes >>= λ n. if nat_lt max_choices n.0 then Err fault.ChoiceCount else Ok n

abbrev pub choices : ℕ → ℕ → List ℕ → Read (List Choice)
choices count size bytes = choice_count size bytes >>= λ n. read_items (next_choice count size) [] n.0 n.1

-- ---- the whole image

abbrev pub all_read : {X : Type 0} → ℕ → X × List ℕ → Result X LoadFault
all_read size x = if length x.1 == 0 then Ok x.0 else Err (fault.Trailing (size - length x.1))

abbrev pub of_parts : ImageHead → List Row → List (List Instr) → List Choice → Scenario
of_parts h rs ps cs = record {
  version = h.version;
  cap = h.cap;
  pages = h.pages;
  rule = h.rule;
  rows = rs;
  programs = ps;
  choices = cs;
}

-- what an image gives, or its first fault
abbrev pub reading : List ℕ → Result Scenario LoadFault
reading bytes = do
  h ← head_fields (length bytes) bytes
  rs ← rows h.0 (length bytes) h.1
  ps ← programs h.0.version (length bytes) rs.1
  cs ← choices (length ps.0) (length bytes) ps.1
  last ← all_read (length bytes) cs
  Ok (of_parts h.0 rs.0 ps.0 last)

-- the first fault of bytes that are to be an image
abbrev pub image_fault : List ℕ → Option LoadFault
image_fault bytes = result_err (reading bytes)

-- ---- calls that may run out of memory

-- the answer is what was read and what is left, unless there was no memory
abbrev pub Gives : {X : Type 0} → Result (X × Bor (List ℕ)) LoadFault → Read X → Type 0
Gives (Ok x) read = read ≡ Ok (x.0, x.1.now)
Gives (Err e) read = (e ≡ fault.Memory) ⊎ (read ≡ Err e)

-- the answer is this scenario, unless there was no memory
abbrev pub GivesScenario : Result Scenario LoadFault → Scenario → Type 0
GivesScenario (Ok t) s = t ≡ s
GivesScenario (Err e) s = e ≡ fault.Memory

-- ---- other choices

-- the first fault of choices among this number of transactions
abbrev pub choices_fault : ℕ → List Choice → Option LoadFault
choices_fault count cs =
    if nat_lt max_choices (length cs) then Some fault.ChoiceCount else
    option_map fault.Choice (misnamed_choice count cs)

-- the answer is the scenario with these choices in place of its own, or their first fault
abbrev pub HasChoices : Result Scenario LoadFault → Scenario → List Choice → Type 0
HasChoices (Ok t) s cs = (choices_fault (length s.programs) cs ≡ None) × (t ≡ record s { choices = cs })
HasChoices (Err e) s cs = choices_fault (length s.programs) cs ≡ Some e
