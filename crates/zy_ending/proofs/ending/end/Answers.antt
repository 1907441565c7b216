use Rattle.std.proofs.Common.{◌≡◌, ◌∙◌, ◌++◌, ap, arith, length}
use Rattle.zy_laws.specs.WayOut.{enough, onward}
use Rattle.zy_machine.specs.Histories.{History}
use Rattle.zy_table.specs.Play.{play}
use Rattle.zy_table.specs.State.{State}
use Rattle.zy_ending.proofs.ending.end.Goals as goal

pub go_on-requires : goal.go_on-requires
go_on-requires c =
    let m = c.args.machine.now in
    let made = c.in_ok-make_all.ensures in
    let now = c.make_all.new.machine.state in
    let kills = c.in_ok-made.made.items in
    let items = c.deref.ensures.value in
    let state : now ≡ play m.scenario m.state kills = rw (c.requires, items) at made.state in
    record {
      scenario = made.scenario ∙ ap (λ (h : History). h.scenario) c.requires;
      state = state;
      count = omega (arith, made.count, ap (λ (h : History). length h.entries) c.requires, ap length items);
      fuel = enough now;
      rest = ap (λ (s : State). kills ++ onward m.scenario (enough s) s) state
          ∙ ap (λ cs. let s = play m.scenario m.state cs in cs ++ onward m.scenario (enough s) s) c.in_ok-made.ensures.kills;
    }
