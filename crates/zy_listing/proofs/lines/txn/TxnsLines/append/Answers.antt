-- A place among the texts is a transaction's number.
use Rattle.std.proofs.Common.{◌<◌, arith, length, rules, zero-add, []}
use Rattle.std.proofs.lemmas.List.FromFn.{length-map-range_with_len, get_or-map-range_with_len}
use Rattle.zy_listing.specs.Texts.{txn_text}
use Rattle.zy_listing.proofs.lines.txn.TxnsLines.append.Goals as goal

pub overflow_cast-place : goal.overflow_cast-place
overflow_cast-place c =
    let s = c.args.self.now.0.now.state in
    let h : c.args.place < length s.txns = omega (arith, c.requires, length-map-range_with_len (txn_text s) 0 (length s.txns)) in
    search rules

pub txn_line-requires : goal.txn_line-requires
txn_line-requires c =
    let s = c.args.self.now.0.now.state in omega (arith, c.requires, length-map-range_with_len (txn_text s) 0 (length s.txns))

pub returns : goal.returns
returns c =
    let s = c.args.self.now.0.now.state in
    let h : c.args.place < length s.txns = omega (arith, c.requires, length-map-range_with_len (txn_text s) 0 (length s.txns)) in
    rw (get_or-map-range_with_len (txn_text s) 0 (length s.txns) c.args.place c.args.place [] h (zero-add c.args.place)) c.txn_line.ensures
