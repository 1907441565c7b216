-- All that the line shows is what it was.
use Rattle.std.proofs.Common.{◌&&◌, ◌∙◌, subst, sym}
use Rattle.std.proofs.lemmas.Bool.{and_parts}
use Rattle.zy_isa.specs.declared.node.Node.TheVariants.{A, B}
use Rattle.zy_machine.specs.Finds.{FindsPage}
use Rattle.zy_trace.specs.Kept.{none_on}
use Rattle.zy_trace.proofs.KeptLemmas.{same_reply, none_says}
use Rattle.zy_trace.proofs.kept.is_kept.Goals as goal

pub returns : goal.returns
returns c = λ h.
    let s = c.args.before.now.state in
    let t = c.args.after.now.state in
    let p = c.args.p in
    let page = c.same_page-page.result in
    let place = c.same_place-place.result in
    let at_a = c.are_elsewhere-at_a.result in
    let at_b = c.are_elsewhere-at_b.result in
    let three = and_parts ((page && place) && at_a) at_b h in
    let two = and_parts (page && place) at_a three.0 in
    let one = and_parts page place two.0 in
    let none_a = and_parts (none_on p c.args.a.old.now) (none_on p c.args.a.new.now) (sym c.are_elsewhere-at_a.ensures ∙ two.1) in
    let none_b = and_parts (none_on p c.args.b.old.now) (none_on p c.args.b.new.now) (sym c.are_elsewhere-at_b.ensures ∙ three.1) in
    let old = subst (FindsPage p s) c.in-Some-Some.is-0 c.located.ensures in
    let new = subst (FindsPage p t) c.in-Some-Some.is-1 c.located-2.ensures in
    same_reply s t p c.in-Some-Some.old.now c.in-Some-Some.new.now (sym old.1) (sym new.1)
    (c.same_page-page.ensures one.0) (sym old.0 ∙ (c.same_place-place.ensures one.1 ∙ new.0))
    (c.requires.a A p (none_says A p c.args.a.old.now none_a.0 ∙ sym (none_says A p c.args.a.new.now none_a.1)))
    (c.requires.b B p (none_says B p c.args.b.old.now none_b.0 ∙ sym (none_says B p c.args.b.new.now none_b.1)))
