-- A place among the texts is a page's number.
use Rattle.std.proofs.Common.{◌<◌, arith, length, rules, zero-add, []}
use Rattle.std.proofs.lemmas.List.FromFn.{length-map-range_with_len, get_or-map-range_with_len}
use Rattle.zy_table.specs.Database.{newest}
use Rattle.zy_listing.specs.Texts.{page_text}
use Rattle.zy_listing.proofs.lines.page.PagesLines.append.Goals as goal

pub overflow_cast-place : goal.overflow_cast-place
overflow_cast-place c =
    let s = c.args.self.now.0.now.state in
    let h : c.args.place < length (newest s) = omega (arith, c.requires, length-map-range_with_len (page_text s) 0 (length (newest s))) in
    search rules

pub page_line-requires : goal.page_line-requires
page_line-requires c =
    let s = c.args.self.now.0.now.state in
    c.page_count-count.ensures.there c.args.place (omega (arith, c.requires, length-map-range_with_len (page_text s) 0 (length (newest s))))

pub returns : goal.returns
returns c =
    let s = c.args.self.now.0.now.state in
    let h : c.args.place < length (newest s) = omega (arith, c.requires, length-map-range_with_len (page_text s) 0 (length (newest s))) in
    rw (get_or-map-range_with_len (page_text s) 0 (length (newest s)) c.args.place c.args.place [] h (zero-add c.args.place)) c.page_line.ensures
