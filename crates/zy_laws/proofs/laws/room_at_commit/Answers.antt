use Rattle.zy_laws.proofs.room.RoomAtCommit.{fits}
use Rattle.zy_laws.proofs.laws.room_at_commit.Goals as goal

pub returns : goal.returns
returns c sc ok choices = fits sc ok choices
