-- The first line by its first line feed.
use Rattle.zy_text.proofs.FeedLemmas.{first_some, first_none}
use Rattle.std.proofs.Common.{◌+◌}
use Rattle.std.proofs.lemmas.List.{take_rest}
use Rattle.zy_json.proofs.logs.first_line.Goals as goal

pub returns-in-Some-clause-lines : goal.returns-in-Some-clause-lines
returns-in-Some-clause-lines c = rw (take_rest c.args.text.now (c.in-Some.end + 1)) (first_some c.args.text.now c.in-Some.end c.in-Some.ensures)

pub returns-in-None-clause-lines : goal.returns-in-None-clause-lines
returns-in-None-clause-lines c = first_none c.args.text.now c.requires c.in-None.ensures
