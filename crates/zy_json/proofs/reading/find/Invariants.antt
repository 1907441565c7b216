use Rattle.std.proofs.Common.{◌≡◌, length}
use Rattle.json.specs.Value.{members_view}
use Rattle.zy_json.specs.Objects.{values_of}
use Rattle.zy_json.proofs.reading.find.Given as goal

-- no member that was passed has the name
abbrev pub invariant-loop-rest : goal.invariant-loop-rest
invariant-loop-rest l = values_of l.key (members_view l.members) ≡ values_of l.key (members_view l.rest)

abbrev pub decreases-loop-rest : goal.decreases-loop-rest
decreases-loop-rest l = length l.rest
