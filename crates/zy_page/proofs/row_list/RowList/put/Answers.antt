use Rattle.std.proofs.Common.{sym, arith}
use Rattle.zy_page.proofs.Cells.{AreKept-put_row}
use Rattle.zy_page.proofs.Found.{put_row_at, put_row_between, none_there, room_for}
use Rattle.zy_page.proofs.row_list.RowList.put.Goals as goal

pub invariant_of-self : goal.invariant_of-self
invariant_of-self c =
    let rows = c.self.inside.rows.items in
    let was = c.index_mut.result.now in
    let found = rw c.deref.ensures.value at c.in-Ok.ensures in
    let new = AreKept-put_row c.args.key c.args.value rows c.self.invariant c.ranges.key.fits c.ranges.value.fits in
    rw (put_row_at c.args.key c.args.value c.in-Ok.at was rows found.0 found.1 (found.2 was), ← c.index_mut.ensures.value) at new

pub returns-in-Ok-clause-rows : goal.returns-in-Ok-clause-rows
returns-in-Ok-clause-rows c =
    let was = c.index_mut.result.now in
    let found = rw c.deref.ensures.value at c.in-Ok.ensures in
    let put = put_row_at c.args.key c.args.value c.in-Ok.at was c.self.inside.rows.items found.0 found.1 (found.2 was) in
    rw (← c.self.view_is) (sym (rw (← c.index_mut.ensures.value) at put))

pub unwrap-requires : goal.unwrap-requires
unwrap-requires c =
    let found = rw c.deref.ensures.value at c.in-Err.ensures in
    let room = room_for c.args.key c.in-Err.at _ c.self.inside.rows.items c.self.invariant.rise found.0 found.1 (rw (← c.self.view_is) at c.requires) in
    c.insert.ensures.succeeds (omega (arith, room, c.self.inside.rows.ok.0))

pub invariant_of-self-in-Err : goal.invariant_of-self-in-Err
invariant_of-self-in-Err c =
    let rows = c.self.inside.rows.items in
    let found = rw c.deref.ensures.value at c.in-Err.ensures in
    let new = AreKept-put_row c.args.key c.args.value rows c.self.invariant c.ranges.key.fits c.ranges.value.fits in
    let items = rw c.unwrap.ensures at c.insert.ensures.items in
    rw items (rw (put_row_between c.args.key c.args.value c.in-Err.at rows found.0 found.1) at new)

pub returns-in-Err-clause-rows : goal.returns-in-Err-clause-rows
returns-in-Err-clause-rows c =
    let found = rw c.deref.ensures.value at c.in-Err.ensures in
    let items = rw c.unwrap.ensures at c.insert.ensures.items in
    rw (← c.self.view_is, items) (sym (put_row_between c.args.key c.args.value c.in-Err.at c.self.inside.rows.items found.0 found.1))

pub returns-in-Err-clause-room : goal.returns-in-Err-clause-room
returns-in-Err-clause-room c =
    let found = rw c.deref.ensures.value at c.in-Err.ensures in
    let room = room_for c.args.key c.in-Err.at _ c.self.inside.rows.items c.self.invariant.rise found.0 found.1 (rw (← c.self.view_is) at c.requires) in
    let same = c.insert.ensures.in_place (omega (arith, room, c.self.inside.rows.ok.0)) in
    let len = rw c.unwrap.ensures at c.insert.ensures.len in
    rw (← c.self.view_is) (omega (arith, room, same.1.0, len, c.self.inside.rows.ok.0, c.insert.new.self.ok.0))

pub returns-in-Err-clause-over : goal.returns-in-Err-clause-over
returns-in-Err-clause-over c =
    let found = rw c.deref.ensures.value at c.in-Err.ensures in
    λ there. absurd (none_there c.args.key c.in-Err.at c.self.inside.rows.items c.self.invariant.rise found.0 found.1 (rw (← c.self.view_is) at there))
