-- What a line tells of a step, and the line of a log that tells it.
use Rattle.std.specs.Prelude.{ℕ, List, [], ◌∷◌, ◌++◌, codes, Option, Some, None}
use Rattle.std.specs.Fmt.{decimal}
use Rattle.std.specs.Option.{option_copied, option_map}
use Rattle.zy_isa.specs.declared.node.Actor.{Actor}
use Rattle.zy_isa.specs.declared.node.Actor.TheVariants.{C, A, B}
use Rattle.zy_json.specs.declared.step.JsonStep.{JsonStep}

-- who made a step, what was done, what came of it, the value that it shows, the kind of the message that was sent and the rows of the
-- page that it moved
pub record Step : Type 0 where
  pub actor : Actor
  pub action : List ℕ
  pub came : Option (List ℕ)
  pub value : Option ℕ
  pub sent : Option (List ℕ)
  pub rows : Option (List ℕ)

-- the step that a value of the code tells
abbrev pub step_of : JsonStep → Step
step_of s = record {
  actor = s.actor;
  action = s.action.now;
  came = option_copied s.came;
  value = s.value;
  sent = option_copied s.sent;
  rows = option_copied s.rows;
}

abbrev pub actor_text : Actor → List ℕ
actor_text C = codes "C"
actor_text A = codes "A"
actor_text B = codes "B"

-- a text behind a sign; nothing, where there is no text
abbrev pub behind : List ℕ → Option (List ℕ) → List ℕ
behind sign None = []
behind sign (Some text) = sign ++ text

-- the digits of a number, if there is one
abbrev pub digits_of : Option ℕ → Option (List ℕ)
digits_of = option_map decimal

-- ACTOR ACTION [ -> CAME ] [ VALUE ] [ ! SENT ] [ rows ROWS ]
abbrev pub log_text : Step → List ℕ
log_text s = actor_text s.actor ++ (32 ∷ s.action
    ++ (behind (codes " -> ") s.came ++ (behind (codes " ") (digits_of s.value)
    ++ (behind (codes " ! ") s.sent ++ behind (codes " rows ") s.rows))))
