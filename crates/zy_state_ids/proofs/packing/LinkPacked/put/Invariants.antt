-- The bytes of the messages so far were put.
use Rattle.std.proofs.Common.{◌≡◌, ◌++◌, take}
use Rattle.std.specs.List.{flat_map}
use Rattle.zy_links.specs.Messages.{messages_of}
use Rattle.zy_state_ids.specs.Packed.{message}
use Rattle.zy_state_ids.proofs.packing.LinkPacked.put.Given as goal

abbrev pub invariant-loop-i : goal.invariant-loop-i
invariant-loop-i l = record { so_far : l.out.items ≡ l.initial.out.items ++ flat_map message (take l.i (messages_of l.self.messages)) }
