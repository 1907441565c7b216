use Rattle.zy_laws.proofs.serial.Serializable.{serializable}
use Rattle.zy_laws.proofs.laws.serializable.Goals as goal

pub returns : goal.returns
returns c sc ok held choices = serializable sc ok held choices
