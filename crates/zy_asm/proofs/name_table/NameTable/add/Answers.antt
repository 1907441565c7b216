-- A new name goes last.
use Rattle.std.proofs.Common.{◌≡◌, ◌∙◌, ap, List, ℕ, ◌++◌, ◌∷◌, []}
use Rattle.indexmap.proofs.CallerLemmas.{insert_entry-new}
use Rattle.zy_text.specs.Names.{Mark, place}
use Rattle.zy_asm.proofs.NameLemmas.{lookup-place, entries-add}
use Rattle.zy_asm.proofs.name_table.NameTable.add.Goals as goal

pub returns : goal.returns
returns c =
    let k : c.in_ok-key.key.items ≡ c.args.name.now = c.in_ok-key.ensures.items_if_clones_equal (λ x y e. e) in
    let none = lookup-place c.in_ok-key.key.items c.self.inside.numbers.entries ∙ ap (place c.in_ok-key.key.items) c.self.view_is
    ∙ ap (λ (w : List ℕ). place w c.args.self.now) k ∙ c.requires in
    entries-add c.self.inside.numbers.entries c.insert.new.self.entries c.in_ok-key.key c.args.name.now c.args.number
    (c.in_ok-insert.ensures.entries ∙ insert_entry-new _ c.self.inside.numbers c.in_ok-key.key c.args.number none) k
    ∙ ap (λ (ms : List Mark). ms ++ (c.args.name.now, c.args.number) ∷ []) c.self.view_is
