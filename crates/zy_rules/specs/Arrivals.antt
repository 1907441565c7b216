-- What makes an arriving message safe to take.
use Rattle.std.specs.Prelude.{◌≡◌, ◌<◌, ◌≤◌, ℕ, true, None, List, ◌∷◌, length}
use Rattle.zy_isa.specs.Limits.{max_pages}
use Rattle.zy_model.specs.Messages.{Message, Page}
use Rattle.zy_links.specs.Messages.{message_of}
use Rattle.zy_links.specs.declared.message.Message.{Message as Sent}
use Rattle.zy_table.specs.State.{NodeState}
use Rattle.zy_table.specs.Pages.{owns, page_in}
use Rattle.zy_node.specs.declared.node_store.NodeStore.{NodeStore}
use Rattle.zy_node.specs.Mail.{Mail, IsWholeMessage}
use Rattle.zy_node.specs.Nodes.{node_shown, IsLimited}

-- each page here has a number of the wireframe
abbrev pub IsNamed : NodeState → Type 0
IsNamed x = (q : ℕ) → owns x.pages q ≡ true → q < length x.lows

-- a page that a message brings is not here, and has a number of the wireframe
abbrev pub IsNew : Message → NodeState → Type 0
IsNew (Page leaf) x = (leaf.number < length x.lows) × (page_in leaf.number x.pages ≡ None)
IsNew message x = Unit {0}

-- a node can take the message that is at the front of its link
pub record MayTake (inbox : List Message) (x : NodeState) : Type 0 where
  pub named : IsNamed x
  pub new : (m : Message) (ms : List Message) → inbox ≡ m ∷ ms → IsNew m x

-- a node can take from this link, whose wireframes have as many pages as the node's
pub record MayTakeFrom (inbox : Mail) (x : NodeStore) : Type 0 where
  pub may : MayTake inbox.messages (node_shown x)
  pub limited : IsLimited inbox.pages x
  pub few : inbox.pages ≤ max_pages

-- a node can keep what this message brings, of which a wireframe has as many pages as the node's
pub record IsFitting (message : Sent) (x : NodeStore) : Type 0 where
  pub whole : IsWholeMessage x.outbox.pages message
  pub new : IsNew (message_of message) (node_shown x)
  pub limited : IsLimited x.outbox.pages x
  pub few : x.outbox.pages ≤ max_pages
