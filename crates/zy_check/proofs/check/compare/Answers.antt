-- What the listing left in the sink is the verdict.
use Rattle.zy_listing.specs.Run.{listing_of}
use Rattle.zy_check.proofs.JudgeLemmas.{judged_whole, judged_prefix}
use Rattle.zy_check.proofs.check.compare.Goals as goal

pub returns-in-Ok : goal.returns-in-Ok
returns-in-Ok c =
    judged_whole c.args.input.now (listing_of c.args.machine.now) c.new-sink.result c.write_listing.new.sink c.finish.result.verdict
    c.new-sink.ensures c.in-Ok.ensures.0 c.finish.ensures.whole

pub returns-in-Err-Write : goal.returns-in-Err-Write
returns-in-Err-Write c =
    let wrote = rw c.in-Err-Write.field-0-is at c.in-Err-Write.ensures in
    judged_prefix c.args.input.now (listing_of c.args.machine.now) c.new-sink.result c.write_listing.new.sink c.finish-in-Err-Write.result.verdict
    c.new-sink.ensures wrote.0 wrote.1 c.finish-in-Err-Write.ensures.prefix
