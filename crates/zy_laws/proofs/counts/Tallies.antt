-- As many transactions are committed as commits are listed.
use Rattle.std.proofs.Common.{List, [], ap, arith, false, length, length-append, refl, suc, true, zero, ℕ, ◌+◌, ◌∙◌, ◌∷◌, ◌≡◌, ◌≤◌}
use Rattle.std.specs.Prelude.{if◌then◌else◌, slice_get, slice_set}
use Rattle.std.proofs.Math.ListN.{length-set}
use Rattle.std.proofs.lemmas.Bool.{cond_both, false≢true}
use Rattle.zy_isa.specs.Scenario.{Scenario}
use Rattle.zy_isa.specs.declared.node.Node.{Node}
use Rattle.zy_table.specs.Change.{aborted, begun, committed, did, locked, shares, txn_at, txn_or, cut, asks, leaves}
use Rattle.zy_table.specs.Client.{is_active}
use Rattle.zy_table.specs.Serial.{is_committed}
use Rattle.zy_table.specs.declared.status.Status.TheVariants.{Committed}
use Rattle.zy_table.specs.State.{Txn, View}
use Rattle.zy_laws.proofs.walk.Events.{Aborts, Begins, Commits, Event, Gets, Inserts, SumsUp, Writes, Splits, GoesOn}
use Rattle.zy_laws.proofs.walk.Txns.{active_off, new_off}
use Rattle.zy_laws.proofs.walk.Kinds.{quiet_of}

-- how many transactions are committed
abbrev pub tally : List Txn → ℕ
tally [] = 0
tally (x ∷ xs) = (if is_committed x.status then 1 else 0) + tally xs

-- at most all are committed
pub tally_most : (xs : List Txn) → tally xs ≤ length xs
tally_most [] = omega arith
tally_most (x ∷ xs) = let k = tally_most xs in cond_both (is_committed x.status) 1 0 (λ m. m + tally xs ≤ suc (length xs)) (λ _. omega arith) (λ _. omega arith)

-- setting one that is not committed to one that is not leaves how many are
tally_same : (xs : List Txn) (t : ℕ) (y : Txn) → is_committed y.status ≡ false → is_committed (txn_or (slice_get xs t)).status ≡ false
    → tally (slice_set xs t y) ≡ tally xs
tally_same [] t y a b = refl
tally_same (x ∷ xs) zero y a b = rw (a, b) refl
tally_same (x ∷ xs) (suc t) y a b = ap (λ m. (if is_committed x.status then 1 else 0) + m) (tally_same xs t y a b)

-- committing one makes one more
tally_more : (xs : List Txn) (t : ℕ) (y : Txn) → is_committed y.status ≡ true → is_active (txn_or (slice_get xs t)).status ≡ true
    → tally (slice_set xs t y) ≡ tally xs + 1
tally_more [] t y a b = absurd (false≢true b)
tally_more (x ∷ xs) zero y a b = rw (a, active_off x.status b) (omega arith)
tally_more (x ∷ xs) (suc t) y a b = let k = tally_more xs t y a b in omega (arith, k)

-- as many transactions more are committed as commits are listed
pub record Tallied (v w : View) : Type 0 where
  pub txns : length w.txns ≡ length v.txns
  pub commits : tally w.txns + length v.commits ≡ tally v.txns + length w.commits

-- a step that sets a transaction without a commit
tallied_set : (v w : View) (t : ℕ) (y : Txn) → w.txns ≡ slice_set v.txns t y → w.commits ≡ v.commits → is_committed y.status ≡ false
    → is_committed (txn_at v t).status ≡ false → Tallied v w
unfolding txn_at
tallied_set v w t y e c a b =
    let k : tally w.txns ≡ tally v.txns = ap tally e ∙ tally_same v.txns t y a b in
    record { txns = ap length e ∙ length-set v.txns t y; commits = omega (arith, k, ap length c) }

-- a step that sets no transaction
tallied_same : (v w : View) → w.txns ≡ v.txns → w.commits ≡ v.commits → Tallied v w
tallied_same v w e c = record { txns = ap length e; commits = omega (arith, ap tally e, ap length c) }

-- t goes on, in the status that it had
tallied_step : (v w : View) (t : ℕ) (y : Txn) → w.txns ≡ slice_set v.txns t y → w.commits ≡ v.commits → y.status ≡ (txn_at v t).status
    → is_active (txn_at v t).status ≡ true → Tallied v w
tallied_step v w t y e c a b = let off = active_off (txn_at v t).status b in tallied_set v w t y e c (ap is_committed a ∙ off) off

-- each event lists as many commits as it makes
pub tallied : (sc : Scenario) (n : Node) (v w : View) → Event sc n v w → Tallied v w
unfolding did locked shares txn_at aborted begun committed cut asks leaves
tallied sc n v w (Begins line e) = rw e (tallied_set v _ line.txn _ refl refl refl (new_off (txn_at v line.txn).status line.new))
tallied sc n v w (Aborts line e) = rw e (tallied_set v _ line.txn _ refl refl refl (active_off (txn_at v line.txn).status line.active))
tallied sc n v w (GoesOn line e) = rw e (tallied_step v _ line.txn _ refl refl refl line.runs.active)
tallied sc n v w (Gets line e) = rw e (tallied_step v _ line.txn _ refl refl refl line.runs.active)
tallied sc n v w (SumsUp line e) = rw e (tallied_step v _ line.txn _ refl refl refl line.runs.active)
tallied sc n v w (Writes line e) = rw e (tallied_step v _ line.txn _ refl refl refl line.runs.active)
tallied sc n v w (Inserts line e) = rw e (tallied_step v _ line.txn _ refl refl refl line.runs.active)
tallied sc n v w (Splits line e) = rw e (tallied_same v _ refl refl)
tallied sc n v w (Commits line e) = rw e (record {
  txns = length-set v.txns line.txn _;
  commits = omega (
    arith,
    tally_more v.txns line.txn (record (txn_at v line.txn) { status = Committed; rows = []; done = (txn_at v line.txn).done + 1 }) refl line.runs.active,
    length-append v.commits (record { txn = line.txn; done = (txn_at v line.txn).done + 1 } ∷ []),
  );
})
tallied sc n v w e = let q = quiet_of e refl in tallied_same v w q.txns q.commits
