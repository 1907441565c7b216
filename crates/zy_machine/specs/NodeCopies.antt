-- What a node takes over to become a copy of another one.
use Rattle.std.specs.Prelude.{◌≡◌, ◌≤◌, ◌+◌, ℕ, Option, None, Some, length}
use Rattle.zy_model.specs.Wireframe.{Wireframe}
use Rattle.zy_node.specs.Mail.{Mail}
use Rattle.zy_node.specs.Wireframes.{lows_in, limit_or}
use Rattle.zy_node.specs.declared.node_store.NodeStore.{NodeStore}
use Rattle.zy_machine.specs.declared.node_copy.ChangedParts.{ChangedParts}

-- a copy of the other wireframe, or none where mine has the same low keys
abbrev pub IsChangedWire : Option Wireframe → Option Wireframe → Option (Option Wireframe) → Type 0
IsChangedWire mine other None = lows_in mine ≡ lows_in other
IsChangedWire mine other (Some w) = (lows_in w ≡ lows_in other) × ((n : ℕ) → limit_or n w ≡ limit_or n other)

-- a copy of the other messages, or none where mine are the same
abbrev pub IsChangedMail : Mail → Mail → Option Mail → Type 0
IsChangedMail mine other None = mine.messages ≡ other.messages
IsChangedMail mine other (Some m) = (m.messages ≡ other.messages) × (m.pages ≡ other.pages)

-- the wireframe after the change, if there is a new one
abbrev pub wire_after : Option Wireframe → Option (Option Wireframe) → Option Wireframe
wire_after w None = w
wire_after w (Some v) = v

-- the messages after the change, if there are new ones
abbrev pub mail_after : Mail → Option Mail → Mail
mail_after m None = m
mail_after m (Some n) = n

-- these make a node a copy of another one, and it has room for the other's locks
pub record AreChangedParts (mine other : NodeStore) (parts : ChangedParts) : Type 0 where
  pub wire : IsChangedWire mine.wire other.wire parts.wire
  pub outbox : IsChangedMail mine.outbox other.outbox parts.outbox
  pub locks : length other.locks.locks ≤ length mine.locks.locks + mine.locks.spare
