use Rattle.std.proofs.Common.{◌≡◌, ◌∙◌, ◌++◌, ◌∷◌, [], ap, arith, length, length-append, sym}
use Rattle.std.proofs.lemmas.Result.{err_from_is_err_and}
use Rattle.zy_isa.specs.Limits.{max_choices}
use Rattle.zy_laws.specs.WayOut.{onward}
use Rattle.zy_table.specs.Play.{play, step}
use Rattle.zy_table.specs.State.{State}
use Rattle.zy_ending.proofs.WayLemmas.{ended, next_on_way}
use Rattle.zy_laws.proofs.walk.PlayPush.{play-push}
use Rattle.zy_ending.proofs.ending.go_on.Goals as goal

pub onward-preserved : goal.onward-preserved
onward-preserved c =
    let m = c.args.machine.now in
    let way = c.onward.invariant in
    let choice = c.in-Some.choice in
    let made = c.onward.made.items in
    let step_made = c.in_ok-make.ensures in
    let items : c.push_reserved.new.self.items ≡ made ++ choice ∷ [] =
    c.push_reserved.ensures.items ∙ ap (λ cs. cs ++ choice ∷ []) c.in_ok-reserve.ensures.items in
    let state : c.make.new.machine.state ≡ (step m.scenario choice c.onward.replay.state).after = rw way.scenario at step_made.state in
    let on = next_on_way m.scenario m.state c.onward.replay.state made choice way.fuel (ended m c.entries.ensures.replay) way.state (sym c.in-Some.ensures) way.rest in
    record {
      scenario = step_made.scenario ∙ way.scenario;
      state = state ∙ (ap (λ (s : State). (step m.scenario choice s).after) way.state
          ∙ (sym (play-push m.scenario m.state made choice) ∙ ap (play m.scenario m.state) (sym items)));
      count = omega (arith, step_made.count, way.count, ap length items, length-append made (choice ∷ []));
      fuel = on.0;
      rest = ap (λ cs. cs ++ onward m.scenario on.0 c.make.new.machine.state) items
          ∙ (ap (λ (s : State). (made ++ choice ∷ []) ++ onward m.scenario on.0 s) state ∙ on.1);
    }

pub returns-in_err-make-clause-full : goal.returns-in_err-make-clause-full
returns-in_err-make-clause-full c e =
    let m = c.args.machine.now in
    let way = c.onward.invariant in
    let made = c.onward.made.items in
    let choice = c.in-Some.choice in
    let on = next_on_way m.scenario m.state c.onward.replay.state made choice way.fuel (ended m c.entries.ensures.replay) way.state (sym c.in-Some.ensures) way.rest in
    let p = err_from_is_err_and c.from_residual-in_err-make.result c.from_residual-in_err-make.ensures.1 in
    let full : length c.onward.replay.entries ≡ max_choices = c.in_err-make.ensures.full (cc (p.1, p.2, e)) in
    omega (
      arith,
      full,
      way.count,
      ap length on.1,
      length-append (made ++ choice ∷ []) (onward m.scenario on.0 (step m.scenario choice c.onward.replay.state).after),
      length-append made (choice ∷ []),
    )
