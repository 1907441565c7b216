-- What a step of a run shows as an object of JSON, by itself or with the lines of the state that it changed.
use Rattle.std.specs.Prelude.{ℕ, List, ◌++◌, codes, drop, Some}
use Rattle.std.specs.Fmt.{decimal}
use Rattle.std.specs.List.{flat_map}
use Rattle.std.specs.Option.{option_map}
use Rattle.zy_isa.specs.declared.choice.Choice.{Choice}
use Rattle.zy_isa.specs.declared.choice.Choice.TheVariants.{Start, Begin, Kill, Run, Take, Finish, Push}
use Rattle.zy_isa.specs.Choices.{actor_of}
use Rattle.zy_page.specs.declared.page_rows.PageRows.{PageRows}
use Rattle.zy_page.specs.RowLists.{rows_in}
use Rattle.zy_table.specs.declared.observation.Observation.{Observation}
use Rattle.zy_listing.specs.Texts.{kind_text, outcome_text, row_words}
use Rattle.zy_json.specs.Steps.{Step}
use Rattle.zy_json.specs.Plain.{plain_fields, plain_text}

-- what is done of a choice, without who does it
abbrev pub action_text : Choice → List ℕ
action_text Start = codes "start"
action_text (Begin t) = codes "begin " ++ decimal t
action_text (Kill t) = codes "kill " ++ decimal t
action_text (Run n t) = codes "run " ++ decimal t
action_text (Take n) = codes "take"
action_text (Finish n) = codes "finish"
action_text (Push n) = codes "push"

-- the words of the rows that a step shows
abbrev pub moved_words : PageRows → List ℕ
moved_words rows = row_words (rows_in rows)

-- all that a log can tell of a step
abbrev pub told_of : Observation → Step
told_of o = record {
  actor = actor_of o.entry.choice;
  action = action_text o.entry.choice;
  came = Some (outcome_text o.entry.outcome);
  value = o.value;
  sent = option_map kind_text o.entry.sent;
  rows = option_map moved_words o.rows;
}

-- the object of a step
abbrev pub object_text : Observation → List ℕ
object_text o = plain_text (told_of o)

-- a line in quotation marks, behind a comma
abbrev pub quoted : List ℕ → List ℕ
quoted line = codes ",\"" ++ (line ++ codes "\"")

-- the object of a step with one field more, the list of these lines: each is behind a comma, and the first comma is left out
abbrev pub listed_text : Observation → List ℕ → List ℕ
listed_text o lines = plain_fields (told_of o) ++ (codes ",\"changed\":[" ++ (drop 1 lines ++ codes "]}"))

-- the object of a step with lines of the state, none of which has a sign that JSON escapes
abbrev pub traced_text : Observation → List (List ℕ) → List ℕ
traced_text o lines = listed_text o (flat_map quoted lines)
