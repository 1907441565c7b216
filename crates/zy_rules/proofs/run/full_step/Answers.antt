use Rattle.std.proofs.Common.{◌≡◌, ◌∙◌, true, length, sym, arith}
use Rattle.std.specs.Prelude.{nat_le}
use Rattle.std.proofs.lemmas.Bool.{le-leb}
use Rattle.zy_model.specs.declared.lock.LockKind.TheVariants.{Exclusive}
use Rattle.zy_node.specs.Wireframes.{lows_in}
use Rattle.zy_rules.specs.Parts.{here}
use Rattle.zy_rules.proofs.AbortLemmas.{full-frozen, full-no_page}
use Rattle.zy_rules.proofs.run.full_step.Goals as goal

pub returns-then-not-may_split-clause-line : goal.returns-then-not-may_split-clause-line
returns-then-not-may_split-clause-line c = (
  c.abort_step.ensures.line.0,
  λ v. c.abort_step.ensures.line.1 v ∙ sym (full-frozen c.args.scenario.now c.args.t c.args.key c.args.p Exclusive (here c.args.me.now c.args.book.now v)
      (sym c.may_split.ensures ∙ c.if-not-may_split.true)),
)

pub returns-then-page_count-from-clause-line : goal.returns-then-page_count-from-clause-line
returns-then-page_count-from-clause-line c =
    let sc = c.args.scenario.now in
    let none : nat_le sc.pages (length (lows_in c.args.me.now.wire)) ≡ true =
    le-leb _ _ (omega (arith, c.if-page_count-from.true, c.from.ensures, c.pages.ensures.value, c.page_count.ensures.value)) in
    let abort = c.abort_step-then-page_count-from.ensures.line in (
      abort.0,
      λ v. abort.1 v ∙ sym (full-no_page sc c.args.t c.args.key c.args.p Exclusive (here c.args.me.now c.args.book.now v)
          (sym c.may_split.ensures ∙ c.if-not-may_split.false) none),
    )
