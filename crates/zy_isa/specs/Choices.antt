-- Who makes a choice, and which transaction it names.
use Rattle.std.specs.Prelude.{ℕ, nat_lt, Bool, true}
use Rattle.zy_isa.specs.declared.node.Node.{Node}
use Rattle.zy_isa.specs.declared.node.Node.TheVariants as node
use Rattle.zy_isa.specs.declared.node.Actor.{Actor}
use Rattle.zy_isa.specs.declared.node.Actor.TheVariants as actor
use Rattle.zy_isa.specs.declared.choice.Choice.{Choice}
use Rattle.zy_isa.specs.declared.choice.Choice.TheVariants.{Start, Begin, Kill, Run, Take, Finish, Push}

abbrev pub actor_at : Node → Actor
actor_at node.A = actor.A
actor_at node.B = actor.B

abbrev pub actor_of : Choice → Actor
actor_of Start = actor.C
actor_of (Begin t) = actor.C
actor_of (Kill t) = actor.C
actor_of (Run n t) = actor_at n
actor_of (Take n) = actor_at n
actor_of (Finish n) = actor_at n
actor_of (Push n) = actor_at n

-- the transaction that a choice names, if it names one, has a number below count
abbrev pub names_below : ℕ → Choice → Bool
names_below count Start = true
names_below count (Begin t) = nat_lt t count
names_below count (Kill t) = nat_lt t count
names_below count (Run n t) = nat_lt t count
names_below count (Take n) = true
names_below count (Finish n) = true
names_below count (Push n) = true
