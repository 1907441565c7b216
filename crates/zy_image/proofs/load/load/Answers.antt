-- What was read has its image and no fault, and what has an image is read.
use Rattle.std.proofs.Common.{inl, inr, sym, ap, ◌∙◌, rules}
use Rattle.std.specs.Result.{result_err}
use Rattle.std.proofs.lemmas.Result.{err_from_is_err_and}
use Rattle.zy_image.specs.Reading.{reading, of_parts}
use Rattle.zy_image.proofs.FieldLemmas.{are_bytes, same_value}
use Rattle.zy_image.proofs.WholeImage.{image_found, only_image}
use Rattle.zy_image.proofs.load.load.Goals as goal

pub returns-in_err-head-clause-only : goal.returns-in_err-head-clause-only
returns-in_err-head-clause-only c s image =
    let p = err_from_is_err_and c.from_residual.result c.from_residual.ensures.1 in
    rw p.1 (elim c.in_err-head.ensures [
      | inl e ↦ p.2 ∙ e
      | inr e ↦ let clash = sym e ∙ only_image c.args.bytes.now s image in cc
    ])

pub of_parts-requires : goal.of_parts-requires
of_parts-requires c =
    let p = c.in_ok-head.field-0 in
    let s = of_parts p.head p.rows.items p.programs.items p.choices.items in
    (image_found c.args.bytes.now s (are_bytes c.args.bytes.now (search rules)) c.in_ok-head.ensures).no_fault

pub returns-clause-found : goal.returns-clause-found
returns-clause-found c =
    let p = c.in_ok-head.field-0 in
    let s = of_parts p.head p.rows.items p.programs.items p.choices.items in
    let f = image_found c.args.bytes.now s (are_bytes c.args.bytes.now (search rules)) c.in_ok-head.ensures in
    rw c.of_parts.ensures.value ((rw (← c.of_parts.ensures.value) c.of_parts.ensures.tested, f.same_bytes), ap result_err c.in_ok-head.ensures)

pub returns-clause-only : goal.returns-clause-only
returns-clause-only c s image =
    let p = c.in_ok-head.field-0 in
    let t = of_parts p.head p.rows.items p.programs.items p.choices.items in
    c.of_parts.ensures.value ∙ same_value (reading c.args.bytes.now) t s c.in_ok-head.ensures (only_image c.args.bytes.now s image)
