-- The second section's text follows the first's.
use Rattle.std.proofs.lemmas.Grind.{flat_map-append}
use Rattle.zy_io.proofs.WritingLemmas.{Wrote-then}
use Rattle.zy_io.proofs.section.BothSection.write.Goals as goal

pub returns : goal.returns
returns g c = rw flat_map-append (Wrote-then _ _ _ _ _ _ c.in_ok-write.ensures c.write-2.ensures)
