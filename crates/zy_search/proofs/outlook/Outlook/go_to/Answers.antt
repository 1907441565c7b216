use Rattle.zy_search.proofs.outlook.Outlook.go_to.Goals.{then-is_empty+in_ok-self, else-is_empty}
use Rattle.zy_search.proofs.outlook.Outlook.go_to.Goals as goal

pub returns : goal.returns
returns g c =
    c.go_on.ensures c.args.plan.now c.args.reached.now (elim c.if-is_empty.branch [
      | then-is_empty+in_ok-self w ↦ rw w.self-is (record { ahead = c.requires.outlook.ahead; rest = w.in_ok-self.ensures })
      | else-is_empty w ↦ rw w.self-is c.requires.outlook
    ])
