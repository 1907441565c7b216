use Rattle.zy_json.proofs.WordLemmas.{words_of-log_text, lines_of-log_text, words_are_clean}
use Rattle.zy_json.proofs.laws.line_has_words.Goals as goal

pub returns-clause-words : goal.returns-clause-words
returns-clause-words c s line = words_of-log_text s line

pub returns-clause-one : goal.returns-clause-one
returns-clause-one c s below line = lines_of-log_text s below line

pub returns-clause-apart : goal.returns-clause-apart
returns-clause-apart c text part = words_are_clean text part
