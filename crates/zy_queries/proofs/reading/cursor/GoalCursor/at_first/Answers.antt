-- The first word and the words behind it are the words.
use Rattle.std.proofs.Common.{◌∙◌}
use Rattle.zy_queries.proofs.WordLemmas.{cut_word}
use Rattle.zy_queries.proofs.reading.cursor.GoalCursor.at_first.Goals as goal

pub returns : goal.returns
returns c = rw (c.split_at.ensures.front, c.split_at.ensures.back, c.word_len.ensures.value)
    (cut_word c.without_spaces-rest.result.now c.without_spaces-rest.ensures.begins ∙ c.without_spaces-rest.ensures.words)
