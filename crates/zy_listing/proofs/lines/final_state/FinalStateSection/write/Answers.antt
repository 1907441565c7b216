use Rattle.zy_listing.proofs.lines.final_state.FinalStateSection.write.Goals as goal

pub returns : goal.returns
returns g c = rw (c.mode.ensures, c.mode-2.ensures, c.link.ensures, c.link-2.ensures) at c.write.ensures
