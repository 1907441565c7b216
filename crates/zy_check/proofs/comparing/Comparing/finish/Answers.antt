-- What the sink knows is the verdict.
use Rattle.std.proofs.Common.{sym, ap, subst, ◌≡◌, ◌<◌, ◌++◌, ◌+◌, ◌∙◌, take, arith, false}
use Rattle.std.specs.Option.{is_some}
use Rattle.std.specs.Prelude.{not}
use Rattle.zy_check.specs.declared.verdict.Verdict.TheVariants.{Table, NotTable}
use Rattle.zy_check.specs.Differs.{feeds, verdict}
use Rattle.zy_check.specs.Comparing.{Compared}
use Rattle.zy_check.proofs.CompareLemmas.{other_taken, other_whole, whole_taken, front_taken, none_refused}
use Rattle.zy_check.proofs.comparing.Comparing.finish.Goals.{then-is_none+then-self, else-is_none, else-is_none-via-then-is_none+else-self, else-is_none-via-else-is_none}
use Rattle.zy_check.proofs.comparing.Comparing.finish.Goals as goal

pub returns-clause-whole : goal.returns-clause-whole
returns-clause-whole c =
    let s = c.self.inside in
    elim c.if-is_none.branch [
      | then-is_none+then-self w ↦ w.verdict-is ∙ subst (λ (x : Compared). Table ≡ verdict x.input x.text) c.self.view_is
          (whole_taken s.input.now s.at s.other s.refusals c.self.invariant (c.is_none.ensures ∙ ap not w.if-is_none.true) w.if-self.true)
      | else-is_none w ↦ w.verdict-is ∙ ap NotTable w.line_after.ensures
          ∙ subst (λ (x : Compared). NotTable (feeds (take s.at s.input.now) + 1) ≡ verdict x.input x.text) c.self.view_is
          (elim w.else-is_none.branch [
            | else-is_none-via-then-is_none+else-self w' ↦
                front_taken s.input.now s.at s.other s.refusals c.self.invariant (c.is_none.ensures ∙ ap not w'.if-is_none.true) w'.if-self.false
            | else-is_none-via-else-is_none w' ↦
                other_whole s.input.now s.at s.other s.refusals c.self.invariant (c.is_none.ensures ∙ ap not w'.if-is_none.false)
          ])
    ]

pub returns-clause-prefix : goal.returns-clause-prefix
returns-clause-prefix c = λ some back.
    let s = c.self.inside in
    let refused : 0 < s.refusals = subst (λ (x : Compared). 0 < x.refusals) (sym c.self.view_is) some in
    let never : is_some s.other ≡ false → ⊥ = λ none. absurd (omega (arith, refused, none_refused s.input.now s.at s.other s.refusals c.self.invariant none)) in
    elim c.if-is_none.branch [
      | then-is_none+then-self w ↦ absurd (never (c.is_none.ensures ∙ ap not w.if-is_none.true))
      | else-is_none w ↦ w.verdict-is ∙ ap NotTable w.line_after.ensures
          ∙ subst (λ (x : Compared). NotTable (feeds (take s.at s.input.now) + 1) ≡ verdict x.input (x.text ++ back)) c.self.view_is
          (elim w.else-is_none.branch [
            | else-is_none-via-then-is_none+else-self w' ↦ absurd (never (c.is_none.ensures ∙ ap not w'.if-is_none.true))
            | else-is_none-via-else-is_none w' ↦
                other_taken s.input.now s.at s.other s.refusals c.self.invariant (c.is_none.ensures ∙ ap not w'.if-is_none.false) back
          ])
    ]
