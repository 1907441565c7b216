use Rattle.std.proofs.Common.{◌∙◌, sym, length}
use Rattle.std.proofs.lemmas.List.FromFn.{length-map-range_with_len}
use Rattle.zy_listing.specs.Texts.{txn_text}
use Rattle.zy_listing.proofs.lines.txn.TxnsLines.len.Goals as goal

pub returns : goal.returns
returns c =
    let s = c.args.self.now.0.now.state in c.txn_count.ensures.value ∙ sym (length-map-range_with_len (txn_text s) 0 (length s.txns))
