-- The messages of the program, as the model has them.
use Rattle.std.specs.Prelude.{ℕ, List, map}
use Rattle.zy_model.specs.Messages.{Message, Wire, Ready, Dual, Pull, Page, Finish, Done}
use Rattle.zy_links.specs.declared.message.Message.{Message as Sent}
use Rattle.zy_links.specs.declared.message.Message.TheVariants as sent

-- a message of the program: of its wireframe only the low keys are seen
abbrev pub message_of : Sent → Message
message_of (sent.Wire wire) = Wire wire.lows
message_of sent.Ready = Ready
message_of sent.Dual = Dual
message_of (sent.Pull page) = Pull page
message_of (sent.Page leaf) = Page leaf
message_of sent.Finish = Finish
message_of sent.Done = Done

abbrev pub messages_of : List Sent → List Message
messages_of = map message_of

-- the greatest number of pages of its wireframe, 0 where it has none
abbrev pub limit_of : Sent → ℕ
limit_of (sent.Wire wire) = wire.pages
limit_of message = 0

abbrev pub limits : List Sent → List ℕ
limits = map limit_of
