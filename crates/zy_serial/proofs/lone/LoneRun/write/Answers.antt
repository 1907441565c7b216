use Rattle.std.proofs.Common.{◌≡◌, ◌∙◌, ap, true}
use Rattle.std.specs.Prelude.{is_some, not}
use Rattle.zy_serial.specs.Lone.{map_of}
use Rattle.zy_serial.proofs.LoneSteps.{written-there}
use Rattle.zy_serial.proofs.lone.LoneRun.write.Goals as goal

pub returns : goal.returns
returns c =
    let there : is_some c.value.result ≡ true = c.is_none.ensures ∙ ap not c.if-is_none.false in
    let m = map_of c.args.table.now in
    written-there c.put.result m c.args.key c.args.value c.args.self.now c.put.new.self c.value.result c.requires.on c.value.ensures there c.put.ensures.ok
