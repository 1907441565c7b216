-- The line of JSON of a step whose texts need no escapes.
use Rattle.std.specs.Prelude.{◌≡◌, ℕ, ◌==◌, ◌||◌, nat_lt, Bool, false, List, [], ◌++◌, codes, Option, Some, None, IfSome}
use Rattle.std.specs.List.{list_any}
use Rattle.zy_json.specs.Steps.{Step, actor_text, behind, digits_of}

-- a sign that JSON escapes: a control character, `"` or `\`
abbrev pub is_escaped : ℕ → Bool
is_escaped b = nat_lt b 32 || b == 34 || b == 92

abbrev pub IsPlainText : List ℕ → Type 0
IsPlainText text = list_any is_escaped text ≡ false

-- the texts of a step have no sign that JSON escapes
pub record IsPlain (s : Step) : Type 0 where
  pub action : IsPlainText s.action
  pub came : IfSome s.came IsPlainText
  pub sent : IfSome s.sent IsPlainText
  pub rows : IfSome s.rows IsPlainText

-- a name, and a text as it is in quotation marks; nothing, where there is no text
abbrev pub plain_field : List ℕ → Option (List ℕ) → List ℕ
plain_field name None = []
plain_field name (Some text) = name ++ (codes "\"" ++ (text ++ codes "\""))

-- {"actor":"ACTOR","do":"ACTION"[,"came":"CAME"][,"value":VALUE][,"sent":"SENT"][,"rows":"ROWS"], without the brace at its end
abbrev pub plain_fields : Step → List ℕ
plain_fields s =
    codes "{\"actor\":\"" ++ (actor_text s.actor
    ++ (codes "\",\"do\":\"" ++ (s.action ++ (codes "\""
    ++ (plain_field (codes ",\"came\":") s.came
    ++ (behind (codes ",\"value\":") (digits_of s.value)
    ++ (plain_field (codes ",\"sent\":") s.sent
    ++ plain_field (codes ",\"rows\":") s.rows)))))))

abbrev pub plain_text : Step → List ℕ
plain_text s = plain_fields s ++ codes "}"
