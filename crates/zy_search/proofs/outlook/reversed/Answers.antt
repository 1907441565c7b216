use Rattle.std.proofs.Common.{IfOk, subst}
use Rattle.std.proofs.lemmas.List.Elements.{All-pop, All-push}
use Rattle.zy_search.specs.Ahead.{IsForeseen}
use Rattle.zy_search.proofs.outlook.reversed.Goals.{in-Some+in_ok-result+in_ok-push, in_default}
use Rattle.zy_search.proofs.outlook.reversed.Goals as goal

pub loop-preserved : goal.loop-preserved
loop-preserved c p x all =
    let before = c.loop.invariant p x all in
    let popped = All-pop (λ r. IfOk r (IsForeseen p x)) c.loop.results.items c.pop.new.self.items c.pop.result c.pop.ensures.items before.0 in
    elim c.match-pop.branch [
      | in-Some+in_ok-result+in_ok-push w ↦
          let one = subst (λ r. IfOk r (IsForeseen p x)) w.branch-result.ensures (rw w.in-Some.is at popped.1) in
          let it = rw w.in_ok-result.is at one in
          (popped.0, rw (w.parts-is, w.in_ok-push.ensures.items) (All-push (IsForeseen p x) c.loop.parts.items _ before.1 it))
      | in_default w ↦ (popped.0, rw w.parts-is before.1)
    ]

pub returns : goal.returns
returns c p x all = (c.loop.invariant p x all).1
