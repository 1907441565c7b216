-- A look-up in the map is one in the table.
use Rattle.std.proofs.Common.{◌∙◌, ap}
use Rattle.zy_text.specs.Names.{place}
use Rattle.zy_asm.proofs.NameLemmas.{lookup-place}
use Rattle.zy_asm.proofs.name_table.NameTable.find.Goals as goal

pub returns : goal.returns
returns c = c.copied.ensures ∙ c.get.ensures.value ∙ lookup-place c.args.name.now c.self.inside.numbers.entries ∙ ap (place c.args.name.now) c.self.view_is
