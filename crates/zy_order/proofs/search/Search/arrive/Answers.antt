-- The machine was kept, or it goes along the path.
use Rattle.zy_order.proofs.RecentLemmas.{there_placed}
use Rattle.zy_order.proofs.search.Search.arrive.Goals as goal

pub returns-clause-there : goal.returns-clause-there
returns-clause-there c =
    let d = c.requires in
    let h = c.args.plan.now.start in
    let ps = c.args.self.now.reached.visited in
    let m = c.go_to.new.machine in
    let taken = c.take.ensures.recent h ps d.search.recent d.machine in
    let there = there_placed h ps c.args.at m c.in_ok-go_to.ensures.at c.in_ok-go_to.ensures.placed in
    record {
      search = record {
        under_way = d.search.under_way;
        recent = record { machines = taken.machines; checkpoints = c.in_ok-pass.ensures h ps taken.checkpoints there; spare = taken.spare };
        twin = d.search.twin;
      };
      there = d.there;
      machine = there.here;
    }
