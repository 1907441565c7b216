-- As many line feeds are counted as there are.
use Rattle.std.proofs.Common.{◌+◌, ◌∙◌, ap, length}
use Rattle.zy_check.specs.Differs.{feeds}
use Rattle.memchr.specs.Find.{is_byte}
use Rattle.memchr.proofs.lemmas.CallerLemmas.{length-places}
use Rattle.zy_check.proofs.comparing.line_after.Goals as goal

pub returns : goal.returns
returns c = ap (λ n. n + 1) (c.count.ensures ∙ ap length c.memchr_iter.ensures.value
    ∙ length-places (is_byte 10) c.split_at.result.0.now ∙ ap feeds c.split_at.ensures.front)
