-- The lines fit and where they lead is known, or they do not fit.
use Rattle.std.proofs.Common.{◌∙◌, ◌<◌, refl, sym, ap, subst}
use Rattle.std.proofs.Math.Bool.{false≢true}
use Rattle.zy_isa.specs.Integers.{max_u16}
use Rattle.zy_order.specs.declared.cursors.Cursors.{Cursors}
use Rattle.zy_order.specs.Orders.{Agree}
use Rattle.zy_order.specs.Ways.{cursor, advanced_by}
use Rattle.zy_order.specs.Reaches.{cursors_at, observation_by}
use Rattle.zy_order.proofs.PushLemmas.{lines_lead}
use Rattle.zy_order.proofs.ReachLemmas.{come_few, leads_by, unfit_by}
use Rattle.zy_order.proofs.search.Search.meet_shown.Goals as goal

pub advanced_by-cursors-requires : goal.advanced_by-cursors-requires
advanced_by-cursors-requires c = λ x tells.
    let lines = c.args.lines.now in
    let g = cursors_at c.args.self.now.reached c.args.at in
    subst (λ (f : Cursors). cursor x f < max_u16) (sym c.cursors_at.ensures)
    (come_few c.args.plan.now g lines.by lines.line lines.other c.requires.search.under_way.plan c.requires.next x tells)

pub returns-then-not-agree-clause-met : goal.returns-then-not-agree-clause-met
returns-then-not-agree-clause-met c =
    unfit_by c.args.plan.now.start c.args.self.now.reached c.args.at c.args.lines.now c.args.shown.now c.requires.came
    (λ agree. false≢true (sym c.if-not-agree.true ∙ c.agree.ensures.1 agree))

pub note-requires : goal.note-requires
note-requires c =
    let p = c.args.plan.now in
    let s = c.args.self.now in
    let lines = c.args.lines.now in
    let g = cursors_at s.reached c.args.at in
    let agree = subst (Agree lines.line lines.other) c.requires.came (c.agree.ensures.0 c.if-not-agree.false) in
    let there = c.advanced_by-cursors.ensures ∙ ap (advanced_by lines.by) c.cursors_at.ensures in
    record {
      search = c.requires.search;
      there = c.requires.there;
      leads = lines_lead p.start.scenario p.logs g (observation_by p.start s.reached c.args.at lines.line.choice) lines c.advanced_by-cursors.result
          c.requires.next refl agree there;
      next = c.requires.made;
    }

pub returns-clause-met : goal.returns-clause-met
returns-clause-met c =
    let there = c.advanced_by-cursors.ensures ∙ ap (advanced_by c.args.lines.now.by) c.cursors_at.ensures in
    leads_by c.args.plan.now.start c.args.self.now.reached c.note.new.self.reached c.args.at c.args.lines.now _ c.advanced_by-cursors.result
    c.in_ok-note.ensures.adds.extends c.requires.there c.requires.came (c.agree.ensures.0 c.if-not-agree.false) there
    (c.in_ok-note.ensures.known c.if-not-branch.false)
