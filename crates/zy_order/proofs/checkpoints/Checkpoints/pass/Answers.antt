-- The machines of paths behind the place go, and a copy of the machine comes, if enough choices were made.
use Rattle.std.proofs.Common.{rules, ◌≡◌, ◌++◌, ◌∷◌, [], Some, sym, subst}
use Rattle.std.specs.Prelude.{take}
use Rattle.std.specs.List.{All}
use Rattle.std.proofs.lemmas.List.Elements.{All-append, All-take}
use Rattle.zy_machine.specs.Histories.{History}
use Rattle.zy_order.specs.declared.placed_machine.PlacedMachine.{PlacedMachine}
use Rattle.zy_order.specs.Machines.{IsPlaced, IsThere}
use Rattle.zy_order.proofs.RecentLemmas.{one_machine, placed_there}
use Rattle.zy_order.proofs.checkpoints.Checkpoints.pass.Goals as goal

pub returns : goal.returns
returns c = λ h ps are there.
    let points = c.args.self.now.points.items in
    let n = c.count_up_to-kept.result in
    let new : PlacedMachine = record { machine = c.in_ok-machine.machine; at = Some c.args.at } in
    let copied = subst (λ (m : History). IsThere h ps c.args.at m) (sym c.in_ok-machine.ensures) there in
    let e : c.push_reserved.new.self.items ≡ take n points ++ new ∷ [] = search rules in
    subst (All (IsPlaced h ps)) (sym e) (All-append (IsPlaced h ps) (take n points) (new ∷ []) (All-take (IsPlaced h ps) n points are)
    (one_machine h ps new (placed_there h ps c.args.at c.in_ok-machine.machine copied)))
