use Rattle.zy_text.proofs.PlaceLemmas.{IsFirstByte-position}
use Rattle.zy_text.proofs.cut.first_place.Goals as goal

pub returns : goal.returns
returns c = IsFirstByte-position c.args.sought c.args.bytes.now c.memchr.result c.memchr.ensures
