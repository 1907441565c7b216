use Rattle.std.proofs.Common.{◌≡◌, ◌∙◌, sym, false}
use Rattle.std.specs.Prelude.{is_some}
use Rattle.zy_serial.specs.Lone.{map_of}
use Rattle.zy_serial.proofs.LoneSteps.{inserted-new}
use Rattle.zy_serial.proofs.lone.LoneRun.insert.Goals as goal

pub returns : goal.returns
returns c =
    let new : is_some c.value.result ≡ false = sym c.is_some.ensures ∙ c.if-is_some.false in
    let m = map_of c.args.table.now in
    inserted-new c.put.result m c.args.key c.args.value c.args.self.now c.put.new.self c.value.result c.requires.on c.value.ensures new c.put.ensures.ok
