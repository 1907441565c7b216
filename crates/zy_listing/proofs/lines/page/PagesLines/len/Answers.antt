use Rattle.std.proofs.Common.{◌∙◌, sym, length}
use Rattle.std.proofs.lemmas.List.FromFn.{length-map-range_with_len}
use Rattle.zy_table.specs.Database.{newest}
use Rattle.zy_listing.specs.Texts.{page_text}
use Rattle.zy_listing.proofs.lines.page.PagesLines.len.Goals as goal

pub returns : goal.returns
returns c =
    let s = c.args.self.now.0.now.state in c.from.ensures ∙ c.page_count.ensures.value ∙ sym (length-map-range_with_len (page_text s) 0 (length (newest s)))
