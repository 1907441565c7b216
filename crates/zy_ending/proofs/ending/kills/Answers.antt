use Rattle.std.proofs.Common.{◌≡◌, ◌∙◌, ◌+◌, ◌<◌, ◌++◌, ◌∷◌, [], ap, arith, drop, length, subst, sym}
use Rattle.zy_isa.proofs.ScenarioLemmas.{named_more}
use Rattle.zy_isa.specs.Scenario.{AreNamed}
use Rattle.zy_isa.specs.declared.choice.Choice.TheVariants.{Kill}
use Rattle.zy_laws.specs.WayOut.{kills}
use Rattle.zy_ending.proofs.WayLemmas.{kill_active, kill_named, kill_none}
use Rattle.zy_ending.proofs.ending.kills.Goals as goal
use Rattle.zy_ending.proofs.ending.kills.Goals.{then-is_active+in_ok-push, else-is_active}

pub loop-t-preserved : goal.loop-t-preserved
loop-t-preserved c =
    let m = c.args.machine.now in
    let txns = m.state.txns in
    let t = c.loop-t.t in
    let made = c.loop-t.kills.items in
    let before = c.loop-t.invariant in
    let below : t < length txns = omega (arith, c.loop-t-test.true, c.txn_count-t-end.ensures.value) in
    elim c.if-is_active.branch [
      | then-is_active+in_ok-push w ↦
          let active = rw c.txn.ensures.value at w.if-is_active.ensures in
          let items : c.if-is_active.kills.items ≡ made ++ Kill t ∷ [] = ap (λ v. v.items) w.kills-is ∙ w.in_ok-push.ensures.items in
          record {
            rest = ap (λ cs. cs ++ kills (t + 1) (drop (t + 1) txns)) items ∙ (kill_active txns t made below (sym active) ∙ before.rest);
            named = subst (AreNamed (length m.scenario.programs)) (sym items)
                (named_more (length m.scenario.programs) made (Kill t) before.named (kill_named m t c.txn.ensures.replay below));
          }
      | else-is_active w ↦
          let idle = rw c.txn.ensures.value at w.if-is_active.ensures in
          rw w.kills-is (record {
            rest = kill_none txns t made below (sym idle) ∙ before.rest;
            named = before.named;
          })
    ]
