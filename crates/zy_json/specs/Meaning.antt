-- The step that a line of JSON tells, and what the reader's answers are.
use Rattle.std.specs.Prelude.{◌≡◌, ◌≤◌, ℕ, List, [], ◌∷◌, length, Option, Some, None, Result, Ok, Err}
use Rattle.std.specs.Borrow.{Bor}
use Rattle.std.specs.Option.{option_copied, option_map}
use Rattle.std.specs.Str.{IsUtf8}
use Rattle.std.specs.declared.alloc.Global.{Global}
use Rattle.json.specs.Json.{Json, object, Members, document}
use Rattle.json.specs.Value.{members_view, value_view}
use Rattle.json.specs.declared.value.Value.{Value}
use Rattle.zy_json.specs.declared.faults.JsonFault.{JsonFault}
use Rattle.zy_json.specs.declared.faults.JsonFault.TheVariants.{NotJson, NotObject, Memory}
use Rattle.zy_json.specs.declared.step.JsonStep.{JsonStep}
use Rattle.zy_json.specs.Objects.{values_of, step_in}
use Rattle.zy_json.specs.Steps.{Step, step_of}

-- ---- what a line tells

-- the text is JSON in UTF-8, and this value
abbrev pub IsJson : List ℕ → Json → Type 0
IsJson text j = IsUtf8 text × (document text ≡ Some j)

-- what a value tells of a step, or the first fault
abbrev pub step_told : Json → Result Step JsonFault
step_told (object ms) = step_in ms
step_told _ = Err NotObject

-- what a text that is JSON tells of a step, or the first fault
abbrev pub Tells : List ℕ → Result Step JsonFault → Type 0
Tells text told = (j : Json) × IsJson text j × (step_told j ≡ told)

-- the answer is what the text tells. A text that is no JSON tells nothing, and where memory was short nothing is known
abbrev pub Reads : List ℕ → Result JsonStep JsonFault → Type 0
Reads text (Ok s) = Tells text (Ok (step_of s))
Reads text (Err (NotJson at)) = ((j : Json) → ¬ IsJson text j) × (at ≤ length text)
Reads text (Err Memory) = Unit {0}
Reads text (Err fault) = Tells text (Err fault)

-- ---- for private clauses: what was found, as values and texts

abbrev pub values_found : Result (Option (Bor (Value Global))) JsonFault → Result (Option Json) JsonFault
values_found (Ok v) = Ok (option_map (λ j. value_view j.now) v)
values_found (Err f) = Err f

abbrev pub texts_found : Result (Option (Bor (List ℕ))) JsonFault → Result (Option (List ℕ)) JsonFault
texts_found (Ok t) = Ok (option_copied t)
texts_found (Err f) = Err f

abbrev pub text_found : Result (Bor (List ℕ)) JsonFault → Result (List ℕ) JsonFault
text_found (Ok t) = Ok t.now
text_found (Err f) = Err f

abbrev pub step_found : Result JsonStep JsonFault → Result Step JsonFault
step_found (Ok s) = Ok (step_of s)
step_found (Err f) = Err f

-- the first value of this name, and the members behind it
abbrev pub FindsMember : List ℕ → Members → Option (Bor (Value Global) × Bor (List (Bor (List ℕ) × Value Global))) → Type 0
FindsMember key ms None = values_of key ms ≡ []
FindsMember key ms (Some p) = values_of key ms ≡ value_view p.0.now ∷ values_of key (members_view p.1.now)
