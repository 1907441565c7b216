-- The name of the next line comes behind those that were found.
use Rattle.std.proofs.Common.{◌∙◌, ◌++◌, List, ℕ, sym, ap}
use Rattle.zy_text.specs.Lines.{texts, first_line}
use Rattle.zy_text.specs.Words.{lines_of}
use Rattle.zy_text.proofs.LineLemmas.{line_taken}
use Rattle.zy_asm.specs.Names.{name_at, names_in}
use Rattle.zy_asm.proofs.HeadLemmas.{names_more}
use Rattle.zy_asm.proofs.names.names_of.Goals as goal

pub loop-words-preserved : goal.loop-words-preserved
loop-words-preserved c =
    let some = sym c.is_empty.ensures ∙ c.loop-words-test.true in
    let text = c.loop-words.rest.now in
    let below = c.take_line-rest.result.now in
    let parted = line_taken text below some c.take_line-rest.ensures.below in
    let names = texts c.loop-words.names.items in
    ap (λ (ns : List (List ℕ)). ns ++ names_in (lines_of below)) c.in_ok-add_name.ensures
    ∙ (names_more names text (first_line text) below (name_at (texts c.as_slice.result.now)) parted
    (ap name_at (c.as_slice.ensures ∙ c.take_line-rest.ensures.words)) ∙ c.loop-words.invariant)
