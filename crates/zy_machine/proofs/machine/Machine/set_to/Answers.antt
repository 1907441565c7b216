-- The other machine is of the same scenario, so that its nodes have the limits of this one's.
use Rattle.std.specs.Arc.{arc_value}
use Rattle.std.proofs.Common.{◌≡◌, ◌∙◌, ap, sym}
use Rattle.zy_machine.specs.Histories.{History}
use Rattle.zy_machine.specs.NodePairs.{AreLimited}
use Rattle.zy_machine.proofs.machine.Machine.set_to.Goals as goal

pub invariant_of-self-in_err-set_to : goal.invariant_of-self-in_err-set_to
invariant_of-self-in_err-set_to c =
    let same : arc_value c.self.inside.scenario ≡ arc_value c.other.inside.scenario = ap (λ (h : History). h.scenario) c.self.view_is ∙ (c.requires
    ∙ sym (ap (λ (h : History). h.scenario) c.other.view_is)) in
    let limited : AreLimited (arc_value c.self.inside.scenario).pages c.other.inside.nodes = rw same c.other.invariant.2 in
    rw (c.in_err-set_to.ensures.err, c.make_ready.ensures.made, c.make_ready.ensures.ahead) (
      c.self.invariant.0,
      c.self.invariant.1,
      c.set_to.ensures.limits (arc_value c.self.inside.scenario).pages c.self.invariant.2 limited,
    )

pub invariant_of-self-2 : goal.invariant_of-self-2
invariant_of-self-2 c =
    let same : arc_value c.self.inside.scenario ≡ arc_value c.other.inside.scenario = ap (λ (h : History). h.scenario) c.self.view_is ∙ (c.requires
    ∙ sym (ap (λ (h : History). h.scenario) c.other.view_is)) in
    let limited : AreLimited (arc_value c.self.inside.scenario).pages c.other.inside.nodes = rw same c.other.invariant.2 in
    let after = c.set_to.ensures.limits (arc_value c.self.inside.scenario).pages c.self.invariant.2 limited in
    rw (c.in_ok-set_to.ensures.ok, c.set_to-2.ensures.made, c.set_to-2.ensures.ahead) (
      rw same c.other.invariant.0,
      rw same c.other.invariant.1,
      after,
    )
