use Rattle.std.proofs.Common.{◌≡◌, length, subst, sym, arith, true}
use Rattle.std.specs.Prelude.{nat_lt}
use Rattle.std.proofs.lemmas.Bool.{ltb-true}
use Rattle.zy_laws.specs.Counts.{Safe}
use Rattle.zy_laws.proofs.counts.SafeCounts.{safe}
use Rattle.zy_machine.specs.Histories.{choices_of}
use Rattle.zy_serial.proofs.acting.side_of.Goals as goal

pub txn-requires : goal.txn-requires
txn-requires c =
    let m = c.args.machine.now in
    let replay = c.entries.ensures.replay in
    let cs = choices_of m.entries in
    let counts : Safe m.scenario (length cs) m.state =
    subst (Safe m.scenario (length cs)) (sym replay.state) (safe m.scenario replay.tested cs) in
    let named : nat_lt c.in-Kill.t (length m.scenario.programs) ≡ true = rw c.in-Kill.is at c.requires in
    let below = ltb-true _ _ named in
    omega (arith, counts.txns, below)
