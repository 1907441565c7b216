-- The migration order keeps to real time and is stable.
use Rattle.std.specs.Prelude.{◌≡◌, ◌<◌, ℕ, suc, List, [], ◌∷◌, ◌==◌, if◌then◌else◌, slice_get, take, true, false}
use Rattle.std.specs.List.{filter}
use Rattle.zy_isa.specs.Scenario.{Scenario}
use Rattle.zy_isa.specs.declared.choice.Choice.{Choice}
use Rattle.zy_table.specs.declared.entry.CommitRecord.{CommitRecord}
use Rattle.zy_table.specs.State.{Txn, other}
use Rattle.zy_table.specs.Change.{txn_or}
use Rattle.zy_table.specs.Client.{is_new}
use Rattle.zy_table.specs.Play.{opening, play}
use Rattle.zy_table.specs.Serial.{is_committed}
use Rattle.zy_laws.specs.SourceFirst.{migration_order}

-- the transactions after these choices
abbrev pub txns_now : Scenario → List Choice → (ℕ → Txn)
txns_now sc choices = λ (t : ℕ). txn_or (slice_get (play sc (opening sc) choices).txns t)

-- the transactions after the first n of these choices
abbrev pub txns_after : Scenario → List Choice → ℕ → (ℕ → Txn)
txns_after sc choices n = txns_now sc (take n choices)

-- how many commits stand before that of transaction t; where it has none, all of them
abbrev pub place : ℕ → List CommitRecord → ℕ
place t [] = 0
place t (c ∷ cs) = if c.txn == t then 0 else suc (place t cs)

-- the migration order keeps to real time: if t has committed and u has not begun after some of the choices, t stands
-- before u in the order of all
abbrev pub KeepsRealTime : Scenario → List Choice → Type 0
KeepsRealTime sc choices = (n t u : ℕ) → let x = txns_after sc choices n in
    is_committed (x t).status ≡ true → is_new (x u).status ≡ true
    → place t (migration_order sc choices) < place u (migration_order sc choices)

-- the migration order is stable: in the order of all choices, those that had committed after some of them stand in the
-- order that these had then
abbrev pub IsStable : Scenario → List Choice → Type 0
IsStable sc choices = (n : ℕ)
    → filter (λ (c : CommitRecord). is_committed (txns_after sc choices n c.txn).status) (migration_order sc choices)
    ≡ migration_order sc (take n choices)

-- of two transactions that have committed at different nodes the one that began first stands first in the migration order
abbrev pub BeginsInOrder : Scenario → List Choice → Type 0
BeginsInOrder sc choices = (n t u : ℕ) → let before = txns_after sc choices n in let now = txns_now sc choices in
    is_new (before t).status ≡ false → is_new (before u).status ≡ true → is_committed (now t).status ≡ true
    → is_committed (now u).status ≡ true → (now u).node ≡ other (now t).node
    → place t (migration_order sc choices) < place u (migration_order sc choices)
