-- Splitting and keeping words gives what `words_of` says.
use Rattle.std.proofs.Common.{rules}
use borrow.Author.Tests.{tests}
use Rattle.std.proofs.lemmas.Iterator.Consumers.{YieldsList-from_filter, map_from_collect}
use Rattle.std.proofs.lemmas.Iterator.Splits.{YieldsList-from_slice_split}
use Rattle.zy_text.specs.Words.{is_word, is_space, without_comment}
use Rattle.zy_logs.proofs.text.words_of.Goals as goal

pub returns : goal.returns
returns c =
    map_from_collect c.collect.result c.collect.ensures.ran
    (YieldsList-from_filter _ is_word
    (YieldsList-from_slice_split _ is_space (without_comment c.args.line.now) (cc) (search rules) (search rules) (λ x b q k. search (rules, tests)))
    (search rules) (λ x b q k. search (rules, tests)))
