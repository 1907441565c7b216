-- The lines that most schedules have most of.
use Rattle.std.specs.Prelude.{ℕ, ◌≡◌, ◌<◌, List, length, true}
use Rattle.zy_isa.specs.declared.choice.Choice.{Choice}
use Rattle.zy_isa.specs.Choices.{names_below}
use Rattle.zy_text.specs.Words.{lines_of}
use Rattle.zy_text.specs.Lines.{lines_below}
use Rattle.zy_text.specs.Canon.{choice_words}

-- these words are the canonical text of a choice, which names one of count transactions or none
pub record IsUsual (count : ℕ) (words : List (List ℕ)) (choice : Choice) : Type 0 where
  pub spelled : words ≡ choice_words choice
  pub named : names_below count choice ≡ true

-- what is below the first line of a text
pub record IsBelow (text below : List ℕ) : Type 0 where
  pub lines : lines_of below ≡ lines_below text
  pub shorter : length below < length text
