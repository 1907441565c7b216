-- The line of JSON for a step.
use Rattle.std.specs.Prelude.{◌≡◌, ℕ, List, [], ◌++◌, codes, Option, Some, None, IfSome, Result, Ok, Err}
use Rattle.std.specs.Str.{IsUtf8}
use Rattle.json.specs.Print.{quoted}
use Rattle.zy_json.specs.declared.faults.JsonFault.{JsonFault}
use Rattle.zy_json.specs.declared.faults.JsonFault.TheVariants.{Memory}
use Rattle.zy_json.specs.declared.step.JsonStep.{JsonStep}
use Rattle.zy_json.specs.Steps.{Step, actor_text, behind, digits_of, step_of}

-- a name, its colon and a string; nothing, where there is no text
abbrev pub with_name : List ℕ → Option (List ℕ) → List ℕ
with_name name None = []
with_name name (Some text) = name ++ quoted text

-- {"actor":ACTOR,"do":ACTION[,"came":CAME][,"value":VALUE][,"sent":SENT][,"rows":ROWS]}
abbrev pub json_text : Step → List ℕ
json_text s =
    codes "{\"actor\":" ++ (quoted (actor_text s.actor)
    ++ (codes ",\"do\":" ++ (quoted s.action
    ++ (with_name (codes ",\"came\":") s.came
    ++ (behind (codes ",\"value\":") (digits_of s.value)
    ++ (with_name (codes ",\"sent\":") s.sent
    ++ (with_name (codes ",\"rows\":") s.rows
    ++ codes "}")))))))

-- the texts of a step are in UTF-8
pub record IsInUtf8 (s : Step) : Type 0 where
  pub action : IsUtf8 s.action
  pub came : IfSome s.came IsUtf8
  pub sent : IfSome s.sent IsUtf8
  pub rows : IfSome s.rows IsUtf8

-- what is read of a step's line is the step, unless there was no memory
abbrev pub IsReadAs : Step → Result JsonStep JsonFault → Type 0
IsReadAs s (Ok x) = step_of x ≡ s
IsReadAs s (Err Memory) = Unit {0}
IsReadAs s (Err fault) = ⊥
