use Rattle.std.proofs.lemmas.List.Elements.{All-pop}
use Rattle.zy_search.specs.Ahead.{IsForeseen}
use Rattle.zy_search.proofs.outlook.Outlook.go_on.Goals as goal

pub returns-in-Some : goal.returns-in-Some
returns-in-Some c p x is =
    let popped = All-pop (IsForeseen p x) c.args.self.now.rest.items c.pop.new.self.items c.pop.result c.pop.ensures.items is.rest in
    record { ahead = rw c.in-Some.is at popped.1; rest = popped.0 }

pub returns-in_default : goal.returns-in_default
returns-in_default c p x is =
    let popped = All-pop (IsForeseen p x) c.args.self.now.rest.items c.pop.new.self.items c.pop.result c.pop.ensures.items is.rest in
    record { ahead = is.ahead; rest = popped.0 }
