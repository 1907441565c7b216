-- The fields of the object that a line is, and what their texts may not have.
use Rattle.std.specs.Prelude.{ℕ, ◌==◌, ◌||◌, Bool, List, [], ◌∷◌, ◌++◌, codes}
use Rattle.zy_json.specs.declared.field.Member.{Member}
use Rattle.zy_json.specs.declared.field.Member.TheVariants as field

-- the name of a field
abbrev pub key_of : Member → List ℕ
key_of field.Actor = codes "actor"
key_of field.Action = codes "do"
key_of field.Came = codes "came"
key_of field.Value = codes "value"
key_of field.Sent = codes "sent"
key_of field.Rows = codes "rows"

-- its name in quotation marks
abbrev pub shown : Member → List ℕ
shown f = 34 ∷ (key_of f ++ 34 ∷ [])

-- a sign that ends a part in a line of a log: a line feed, `!`, `;` or `>`
abbrev pub ends_part : ℕ → Bool
ends_part b = b == 10 || b == 33 || b == 59 || b == 62
