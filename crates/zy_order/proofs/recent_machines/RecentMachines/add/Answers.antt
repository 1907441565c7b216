use Rattle.std.proofs.Common.{rules, ◌≡◌, ◌++◌, ◌∷◌, [], Some, sym, subst}
use Rattle.std.specs.List.{All}
use Rattle.std.proofs.lemmas.List.Elements.{All-append}
use Rattle.zy_order.specs.declared.placed_machine.PlacedMachine.{PlacedMachine}
use Rattle.zy_order.specs.Machines.{IsPlaced}
use Rattle.zy_order.proofs.RecentLemmas.{one_machine, placed_there}
use Rattle.zy_order.proofs.recent_machines.RecentMachines.add.Goals as goal

pub returns-in-Ok : goal.returns-in-Ok
returns-in-Ok c = λ h ps s there.
    let kept : PlacedMachine = record { machine = c.args.machine; at = Some c.args.at } in
    let e : c.push_reserved.new.self.items ≡ c.args.self.now.machines.items ++ kept ∷ [] = search rules in
    record {
      machines =
          subst (All (IsPlaced h ps)) (sym e) (All-append (IsPlaced h ps) c.args.self.now.machines.items (kept ∷ []) s.machines
          (one_machine h ps kept (placed_there h ps c.args.at c.args.machine there)));
      checkpoints = s.checkpoints;
      spare = s.spare;
    }
