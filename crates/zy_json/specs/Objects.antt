-- What the members of an object tell of a step.
use Rattle.std.specs.Prelude.{ℕ, nat_le, Bool, false, List, [], ◌∷◌, codes, Option, Some, None, Result, Ok, Err, if◌then◌else◌}
use Rattle.std.specs.List.{list_any}
use Rattle.std.specs.Option.{option_and_then}
use Rattle.std.specs.Str.{bytes_eq}
use Rattle.json.specs.Json.{Json, Members, no_members, member}
use Rattle.json.specs.Find.{as_number, as_str}
use Rattle.zy_isa.specs.declared.node.Actor.{Actor}
use Rattle.zy_isa.specs.declared.node.Actor.TheVariants.{C, A, B}
use Rattle.zy_isa.specs.Limits.{max_value}
use Rattle.zy_isa.specs.Results.{◌>>=◌}
use Rattle.zy_text.specs.Words.{number_of}
use Rattle.zy_json.specs.declared.faults.JsonFault.{JsonFault}
use Rattle.zy_json.specs.declared.faults.JsonFault.TheVariants.{Missing, Twice, NotString, NotNumber, NotDid, NoActor, Sign}
use Rattle.zy_json.specs.declared.field.Member.{Member}
use Rattle.zy_json.specs.declared.field.Member.TheVariants as field
use Rattle.zy_json.specs.Fields.{key_of, ends_part}
use Rattle.zy_json.specs.Steps.{Step}

-- the values of the members of this name, in order
abbrev pub values_of : List ℕ → Members → List Json
values_of key no_members = []
values_of key (member k j ms) = if bytes_eq k key then j ∷ values_of key ms else values_of key ms

-- the only one of a field's values; none, where the field has no value
abbrev pub only : Member → List Json → Result (Option Json) JsonFault
only f [] = Ok None
only f (j ∷ []) = Ok (Some j)
only f (i ∷ j ∷ js) = Err (Twice f)

-- the value of a field, if it is there
abbrev pub found : Member → Members → Result (Option Json) JsonFault
found f ms = only f (values_of (key_of f) ms)

-- a fault, where nothing is found
abbrev pub found_or : {X : Type 0} → JsonFault → Option X → Result (Option X) JsonFault
found_or fault None = Err fault
found_or fault (Some x) = Ok (Some x)

-- the text of a value, if the value is there
abbrev pub if_string : Member → Option Json → Result (Option (List ℕ)) JsonFault
if_string f None = Ok None
if_string f (Some j) = found_or (NotString f) (as_str j)

-- the text of a field, if it is there
abbrev pub text_of : Member → Members → Result (Option (List ℕ)) JsonFault
text_of f ms = found f ms >>= if_string f

-- a text without a sign that ends a part in a line of a log
abbrev pub if_part : Member → Option (List ℕ) → Result (Option (List ℕ)) JsonFault
if_part f None = Ok None
if_part f (Some text) = if list_any ends_part text then Err (Sign f) else Ok (Some text)

-- the text of a field that is a part of a line of a log, if it is there
abbrev pub part_of : Member → Members → Result (Option (List ℕ)) JsonFault
part_of f ms = text_of f ms >>= if_part f

-- a number of 32 bits
abbrev pub small : ℕ → Option ℕ
small n = if nat_le n max_value then Some n else None

-- the number that a value is: 1 to 10 digits, and nothing else
abbrev pub number_in : Json → Option ℕ
number_in j = option_and_then small (option_and_then number_of (as_number j))

-- the number of a value, if the value is there
abbrev pub if_number : Option Json → Result (Option ℕ) JsonFault
if_number None = Ok None
if_number (Some j) = found_or NotNumber (number_in j)

-- the number under `value`, if it is there
abbrev pub number_told : Members → Result (Option ℕ) JsonFault
number_told ms = found field.Value ms >>= if_number

-- what came of a step is that it did
abbrev pub is_did : Option (List ℕ) → Bool
is_did None = false
is_did (Some came) = bytes_eq came (codes "did")

-- a step that did may show a number, and no other
abbrev pub if_did : Option (List ℕ) → Option ℕ → Result (Option ℕ) JsonFault
if_did came None = Ok None
if_did came (Some n) = if is_did came then Ok (Some n) else Err NotDid

-- the number that a step shows, beside what came of it
abbrev pub value_beside : Option (List ℕ) → Members → Result (Option ℕ) JsonFault
value_beside came ms = number_told ms >>= if_did came

-- a field that has to be there
abbrev pub present : Member → Option (List ℕ) → Result (List ℕ) JsonFault
present f None = Err (Missing f)
present f (Some text) = Ok text

-- the actor of this name
abbrev pub actor_of : List ℕ → Result Actor JsonFault
actor_of name =
    if bytes_eq name (codes "C") then Ok C else
    if bytes_eq name (codes "A") then Ok A else
    if bytes_eq name (codes "B") then Ok B else
    Err NoActor

abbrev pub actor_in : Members → Result Actor JsonFault
actor_in ms = (text_of field.Actor ms >>= present field.Actor) >>= actor_of

abbrev pub action_in : Members → Result (List ℕ) JsonFault
action_in ms = part_of field.Action ms >>= present field.Action

-- the step that members tell; other members than these six are passed over
abbrev pub step_in : Members → Result Step JsonFault
step_in ms = do
  who ← actor_in ms
  what ← action_in ms
  came ← part_of field.Came ms
  value ← value_beside came ms
  sent ← part_of field.Sent ms
  rows ← part_of field.Rows ms
  Ok (record { actor = who; action = what; came = came; value = value; sent = sent; rows = rows })
