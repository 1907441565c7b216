-- The first line ends with the first line feed, or with the text.
use Rattle.std.proofs.Common.{◌∙◌, ◌+◌, ap, sym, drop}
use Rattle.std.proofs.lemmas.List.{take_rest}
use Rattle.zy_text.specs.Words.{lines_of}
use Rattle.zy_text.proofs.FeedLemmas.{first_some, none_below}
use Rattle.zy_text.proofs.line.below.Goals as goal

pub returns-in-Some-clause-lines : goal.returns-in-Some-clause-lines
returns-in-Some-clause-lines c = ap lines_of (take_rest c.args.text.now (c.in-Some.end + 1))
    ∙ sym (ap (drop 1) (first_some c.args.text.now c.in-Some.end c.in-Some.ensures))

pub returns-in-None-clause-lines : goal.returns-in-None-clause-lines
returns-in-None-clause-lines c = sym (none_below c.args.text.now c.in-None.ensures)
