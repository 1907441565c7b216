-- The words of the line of a log that a step says.
use Rattle.std.specs.Prelude.{◌≡◌, ◌≤◌, ℕ, List, [], ◌∷◌, ◌++◌, codes, false, Option, Some, None, IfSome}
use Rattle.std.specs.Fmt.{decimal}
use Rattle.std.specs.List.{list_any}
use Rattle.zy_isa.specs.Limits.{max_value}
use Rattle.zy_text.specs.Words.{words_of}
use Rattle.zy_json.specs.Fields.{ends_part}
use Rattle.zy_json.specs.Steps.{Step, actor_text}

-- a text that no sign ends in a line of a log
abbrev pub IsPart : List ℕ → Type 0
IsPart text = list_any ends_part text ≡ false

-- a number of 32 bits, beside what came of the step that shows it: it did
abbrev pub IsBesideDid : Option (List ℕ) → ℕ → Type 0
IsBesideDid came n = (n ≤ max_value) × (came ≡ Some (codes "did"))

-- the texts of a step are parts of a line, and its value is that of a step that did
pub record IsLine (s : Step) : Type 0 where
  pub action : IsPart s.action
  pub came : IfSome s.came IsPart
  pub value : IfSome s.value (IsBesideDid s.came)
  pub sent : IfSome s.sent IsPart
  pub rows : IfSome s.rows IsPart

-- a sign and the words of a text; nothing, where there is no text
abbrev pub signed : List ℕ → Option (List ℕ) → List (List ℕ)
signed sign None = []
signed sign (Some text) = sign ∷ words_of text

-- the digits of a number; nothing, where there is none
abbrev pub numeral : Option ℕ → List (List ℕ)
numeral None = []
numeral (Some n) = decimal n ∷ []

-- the words of the line: the actor, and those of each text, with a sign or the word `rows` between, and the value behind what came
abbrev pub line_words : Step → List (List ℕ)
line_words s = actor_text s.actor ∷ words_of s.action
    ++ (signed (codes "->") s.came ++ (numeral s.value
    ++ (signed (codes "!") s.sent ++ signed (codes "rows") s.rows)))
