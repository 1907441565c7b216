use Rattle.std.proofs.Common.{◌≡◌, ◌∷◌, add-one, ap, arith, drop, drop-cons, get_or, length, subst, suc, take}
use Rattle.zy_isa.specs.Rows.{Rising}
use Rattle.zy_isa.specs.declared.row.Row.{Row}
use Rattle.zy_table.proofs.RisingRows.{rises_drop}
use Rattle.zy_serial.specs.Laying.{rows_past}
use Rattle.zy_serial.proofs.Laying.{laid_more, length-rows_past, put_rows_step, rises_past}
use Rattle.zy_serial.proofs.table.merge.Goals as goal

pub loop-row-preserved : goal.loop-row-preserved
loop-row-preserved c =
    let rows = c.args.rows.now in
    let i = c.loop-row.row-index in
    let left = c.loop-row.left.now in
    let at = c.place.result in
    let d : Row = record { key = 0; value = 0 } in
    let r = get_or rows i d in
    let split : drop i rows ≡ r ∷ drop (suc i) rows = drop-cons rows i d c.loop-row-test.true in
    let rise = subst (Rising 0) split (rises_drop 0 i rows c.requires.rows) in
    let step = put_rows_step r (drop (suc i) rows) left at rise.1 c.loop-row.invariant.rise c.place.ensures in
    let laid = rw split at c.loop-row.invariant.laid in
    let items = rw c.unwrap.ensures at c.extend_from_slice.ensures.items in
    let len = rw c.unwrap.ensures at c.extend_from_slice.ensures.len in
    record {
      laid =
          rw (add-one, c.push_reserved.ensures.items, items, c.past-left.ensures, c.split_at.ensures.front, c.split_at.ensures.back)
          (laid_more c.loop-row.list.items (take at left) (rows_past r.key (drop at left)) (drop (suc i) rows) _ _ r laid step);
      rise = rw (c.past-left.ensures, c.split_at.ensures.back) (rises_past 0 r.key (drop at left) (rises_drop 0 at left c.loop-row.invariant.rise));
      room =
          let more = ap length split in
          let most = length-rows_past r.key c.split_at.result.1.now in
          let passed = ap length c.past-left.ensures in
          rw add-one (omega (
            arith,
            more,
            most,
            passed,
            len,
            c.extend_from_slice.ensures.capacity,
            c.push_reserved.ensures.len,
            c.push_reserved.ensures.capacity,
            c.split_at.ensures.front_len,
            c.split_at.ensures.back_len,
            c.loop-row.invariant.room,
          ));
      fit = λ h. c.loop-row.invariant.fit (rw split (omega arith, omega arith, rw add-one at h));
    }
