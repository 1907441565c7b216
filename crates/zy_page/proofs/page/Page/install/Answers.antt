use Rattle.std.proofs.Common.{◌∙◌, sym, arith}
use Rattle.std.proofs.lemmas.List.{length-set}
use Rattle.zy_isa.specs.declared.row.Row.{Row}
use Rattle.zy_page.proofs.Found.{get_row_not_at, put_row_between}
use Rattle.zy_page.proofs.Cells.{put_over, AreKept-put_row}
use Rattle.zy_page.proofs.page.Page.install.Goals as goal

abbrev blank : Row
blank = record { key = 0; value = 0 }

pub invariant_of-self : goal.invariant_of-self
invariant_of-self c =
    let was = c.self.inside in
    let found = rw (c.rows.ensures.value, ← c.self.view_is) at c.in-Ok.ensures in
    let put = put_over c.args.key c.args.new_value c.in-Ok.at was.len blank was.cells (omega (arith, c.self.invariant.few, c.self.invariant.full)) found in
    let kept = AreKept-put_row c.args.key c.args.new_value _ c.self.invariant.kept c.ranges.key.fits c.ranges.new_value.fits in
    record { few = c.self.invariant.few; full = length-set was.cells c.in-Ok.at _ ∙ c.self.invariant.full; kept = rw put kept }

pub insert-requires-clause-room : goal.insert-requires-clause-room
insert-requires-clause-room c =
    let found = rw c.rows.ensures.value at c.in-Err.ensures in
    c.requires (get_row_not_at 0 c.args.key c.in-Err.at c.args.self.now.rows c.rows.ensures.rise found.0 found.1)

pub insert-requires-clause-kept : goal.insert-requires-clause-kept
insert-requires-clause-kept c =
    let found = rw c.rows.ensures.value at c.in-Err.ensures in
    let kept = AreKept-put_row c.args.key c.args.new_value c.args.self.now.rows
    (record { rise = c.rows.ensures.rise; fit = c.rows.ensures.fit }) c.ranges.key.fits c.ranges.new_value.fits in
    rw (put_row_between c.args.key c.args.new_value c.in-Err.at c.args.self.now.rows found.0 found.1) at kept

pub returns-in-Ok : goal.returns-in-Ok
returns-in-Ok c =
    let was = c.self.inside in
    let found = rw (c.rows.ensures.value, ← c.self.view_is) at c.in-Ok.ensures in
    let put = put_over c.args.key c.args.new_value c.in-Ok.at was.len blank was.cells (omega (arith, c.self.invariant.few, c.self.invariant.full)) found in
    rw (← c.self.view_is) (λ i. record { number = was.number; low = was.low; rows = put i })

pub returns-in-Err : goal.returns-in-Err
returns-in-Err c =
    let was = c.args.self.now in
    let found = rw c.rows.ensures.value at c.in-Err.ensures in
    let put = sym (put_row_between c.args.key c.args.new_value c.in-Err.at was.rows found.0 found.1) in
    c.insert.ensures ∙ (λ i. record { number = was.number; low = was.low; rows = put i })
