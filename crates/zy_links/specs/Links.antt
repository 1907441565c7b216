-- A link as everyone sees it.
use Rattle.std.specs.Prelude.{ℕ, List}
use Rattle.zy_links.specs.declared.message.Message.{Message}

-- the messages on their way, front first, and how many more there is memory for
pub record InTransit : Type 0 where
  pub messages : List Message
  pub spare : ℕ
