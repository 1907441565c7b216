-- One commit after the other.
use Rattle.std.proofs.Common.{Bool, List, [], ap, arith, false, get_or, length, refl, subst, suc, sym, true, zero, ℕ, if◌then◌else◌, ◌<◌, ◌≤◌, ◌∷◌, ◌≡◌}
use Rattle.std.specs.Prelude.{drop, slice_get}
use Rattle.std.proofs.lemmas.Bool.{false≢true}
use Rattle.std.proofs.lemmas.Bool.Decides.{nat_tests}
use Rattle.zy_isa.specs.Scenario.{Scenario}
use Rattle.zy_table.specs.Change.{txn_or}
use Rattle.zy_table.specs.Database.{Map}
use Rattle.zy_machine.specs.Histories.{History, IsReplay, choices_of}
use Rattle.zy_table.specs.Play.{opening, play}
use Rattle.zy_table.specs.Run.{program_of}
use Rattle.zy_table.specs.Serial.{CommitsListed, alone, is_committed, serial, times_listed}
use Rattle.zy_table.specs.declared.entry.CommitRecord.{CommitRecord}
use Rattle.zy_table.specs.State.{State, Txn}
use Rattle.zy_laws.proofs.counts.SafeCounts.{safe}
use Rattle.zy_laws.proofs.serial.Listed.{listed}

-- the run of one commit leads to those behind it
pub serial-more : (sc : Scenario) (m n : Map) (cs : List CommitRecord) (i : ℕ) (d : CommitRecord) → i < length cs
    → n ≡ (alone m (program_of sc (get_or cs i d).txn) (get_or cs i d).done).map → serial sc n (drop (suc i) cs) ≡ serial sc m (drop i cs)
serial-more sc m n [] i d lt e = absurd (omega arith)
serial-more sc m n (c ∷ cs) zero d lt e = ap (λ x. serial sc x cs) e
serial-more sc m n (c ∷ cs) (suc i) d lt e = serial-more sc m n cs i d (omega arith) e

-- a transaction that committed exists
committed_within : (txns : List Txn) (t : ℕ) → is_committed (txn_or (slice_get txns t)).status ≡ true → t < length txns
committed_within [] t h = absurd (false≢true h)
committed_within (x ∷ txns) zero h = omega arith
committed_within (x ∷ txns) (suc t) h = let rest = committed_within txns t h in omega arith

-- a commit of the list is listed
listed_once : (cs : List CommitRecord) (k : ℕ) (d : CommitRecord) → k < length cs → 1 ≤ times_listed (get_or cs k d).txn cs
listed_once [] k d lt = absurd (omega arith)
listed_once (c ∷ cs) zero d lt = grind (arith, nat_tests)
listed_once (c ∷ cs) (suc k) d lt = let more = listed_once cs k d (omega arith) in omega (arith, more)

-- a test that adds at least one holds
counted : (b : Bool) → 1 ≤ (if b then 1 else 0) → b ≡ true
counted true h = refl
counted false h = absurd (omega (arith, h))

-- in a state whose commit list is right, each commit of it names a transaction that exists
listed_named : (s : State) (k : ℕ) (d : CommitRecord) → CommitsListed s → k < length s.commits → (get_or s.commits k d).txn < length s.txns
listed_named s k d h lt =
    let t = (get_or s.commits k d).txn in
    committed_within s.txns t (counted _ (subst (λ n. 1 ≤ n) (h t) (listed_once s.commits k d lt)))

-- each commit of a state names a transaction of the scenario
record Named (sc : Scenario) (s : State) : Type 0 where
  each : (k : ℕ) (d : CommitRecord) → k < length s.commits → (get_or s.commits k d).txn < length sc.programs

-- in the state that a machine's choices lead to, each commit names a transaction of the scenario
named_played : (h : History) → IsReplay h → Named h.scenario (play h.scenario (opening h.scenario) (choices_of h.entries))
named_played h is = record {
  each = λ k d lt.
      let sc = h.scenario in
      let s = play sc (opening sc) (choices_of h.entries) in
      subst (λ n. (get_or s.commits k d).txn < n) (safe sc is.tested (choices_of h.entries)).txns
      (listed_named s k d (listed sc (choices_of h.entries)) lt);
}

-- each commit of a machine names a transaction
pub commits-named : (h : History) → IsReplay h → (k : ℕ) (d : CommitRecord) → k < length h.state.commits
    → (get_or h.state.commits k d).txn < length h.scenario.programs
commits-named h is = (subst (Named h.scenario) (sym is.state) (named_played h is)).each
