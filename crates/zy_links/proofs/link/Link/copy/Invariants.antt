use Rattle.std.proofs.Common.{◌≡◌, ◌+◌, ◌≤◌, ◌++◌, length}
use Rattle.std.specs.VecDeque.{deque_capacity}
use Rattle.std.specs.VecDeque.Iter.{deque_iter_rest}
use Rattle.zy_links.specs.Messages.{limits, messages_of}
use Rattle.zy_links.proofs.link.Link.copy.Given as goal

-- what was copied and what is left are all messages
abbrev pub invariant-loop-message : goal.invariant-loop-message
invariant-loop-message l =
    let left = deque_iter_rest l.message-iterator in
    (messages_of l.queue.items ++ messages_of left ≡ messages_of l.self.messages) ×
    (limits l.queue.items ++ limits left ≡ limits l.self.messages) ×
    (length l.queue.items + length left ≤ deque_capacity l.queue)
