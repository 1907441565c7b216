-- No lines come next; or those that do are met: they fit and where they lead is known, or they do not fit.
use Rattle.std.proofs.Common.{◌≡◌, ◌∙◌, inl, inr, ap, subst, sym}
use Rattle.zy_isa.specs.Scenario.{Scenario}
use Rattle.zy_isa.specs.declared.version.Version.{Version}
use Rattle.zy_order.specs.declared.cursors.Cursors.{Cursors}
use Rattle.zy_order.specs.declared.plan.Plan.{Plan}
use Rattle.zy_order.specs.declared.tellers.StepLines.{StepLines}
use Rattle.zy_order.specs.Ways.{ComeNext}
use Rattle.zy_order.specs.Reaches.{cursors_at, IsMet}
use Rattle.zy_order.proofs.LoopLemmas.{lines_met, none_met}
use Rattle.zy_order.proofs.search.Search.meet.Goals as goal

-- lines that come next by the version of the plan and the cursors of a path
come_there : (p : Plan) (v : Version) (g f : Cursors) (lines : StepLines) → v ≡ p.start.scenario.version → g ≡ f → ComeNext v p.logs g lines
    → ComeNext p.start.scenario.version p.logs f lines
come_there p v g f lines version at next =
    subst (λ (h : Cursors). ComeNext p.start.scenario.version p.logs h lines) at
    (subst (λ (w : Version). ComeNext w p.logs g lines) version next)

-- the other way
come_back : (p : Plan) (v : Version) (g f : Cursors) (lines : StepLines) → v ≡ p.start.scenario.version → g ≡ f
    → ComeNext p.start.scenario.version p.logs f lines → ComeNext v p.logs g lines
come_back p v g f lines version at next =
    subst (λ (h : Cursors). ComeNext v p.logs h lines) (sym at) (subst (λ (w : Version). ComeNext w p.logs f lines) (sym version) next)

pub meet_lines-requires-clause-next : goal.meet_lines-requires-clause-next
meet_lines-requires-clause-next c =
    let version = c.version-version.ensures.value ∙ ap (λ (sc : Scenario). sc.version) c.scenario.ensures.value in
    come_there c.args.here.plan.now _ _ _ c.in-Some.lines version c.cursors_at-cursors.ensures c.in-Some.ensures.1

pub returns-in_default-clause-met : goal.returns-in_default-clause-met
returns-in_default-clause-met c = λ _.
    let p = c.args.here.plan.now in
    let version = c.version-version.ensures.value ∙ ap (λ (sc : Scenario). sc.version) c.scenario.ensures.value in
    none_met p.start p.logs c.args.self.now.reached c.args.here.at c.args.by
    (λ lines same next. c.in_default.ensures lines same
    (come_back p c.version-version.result c.cursors_at-cursors.result (cursors_at c.args.self.now.reached c.args.here.at) lines version
    c.cursors_at-cursors.ensures next))

pub returns-in-Unfit-clause-met : goal.returns-in-Unfit-clause-met
returns-in-Unfit-clause-met c = λ _.
    let p = c.args.here.plan.now in
    let new = c.meet_lines.new.self.reached in
    let version = c.version-version.ensures.value ∙ ap (λ (sc : Scenario). sc.version) c.scenario.ensures.value in
    let next = come_there p _ _ _ c.in-Some.lines version c.cursors_at-cursors.ensures c.in-Some.ensures.1 in
    subst (IsMet p.start p.logs new c.args.here.at) c.in-Some.ensures.0
    (lines_met p.start p.logs c.args.self.now.reached new c.args.here.at c.in-Some.lines c.in_ok-meet_lines.ensures.adds.extends c.requires.there next
    (inr (rw c.in-Unfit.is at c.in_ok-meet_lines.ensures.met)))

pub returns-in-Known-clause-met : goal.returns-in-Known-clause-met
returns-in-Known-clause-met c = λ _.
    let p = c.args.here.plan.now in
    let new = c.meet_lines.new.self.reached in
    let version = c.version-version.ensures.value ∙ ap (λ (sc : Scenario). sc.version) c.scenario.ensures.value in
    let next = come_there p _ _ _ c.in-Some.lines version c.cursors_at-cursors.ensures c.in-Some.ensures.1 in
    subst (IsMet p.start p.logs new c.args.here.at) c.in-Some.ensures.0
    (lines_met p.start p.logs c.args.self.now.reached new c.args.here.at c.in-Some.lines c.in_ok-meet_lines.ensures.adds.extends c.requires.there next
    (inl (rw c.in-Known.is at c.in_ok-meet_lines.ensures.met)))
