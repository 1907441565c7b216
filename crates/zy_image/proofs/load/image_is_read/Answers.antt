-- The image of a scenario is read as it.
use Rattle.zy_image.proofs.WholeImage.{image_gives}
use Rattle.zy_image.proofs.load.image_is_read.Goals as goal

pub returns : goal.returns
returns c = image_gives
