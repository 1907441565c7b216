-- A transaction begins at a home, which is not idle.
use Rattle.zy_model.specs.Families.{is_home, is_destination, is_idle}
use Rattle.std.proofs.Common.{List, false, refl, subst, sym, true, ℕ, ◌≡◌}
use Rattle.std.specs.Prelude.{None, Option, Some}
use Rattle.std.proofs.lemmas.Bool.{cond_both, false≢true}
use Rattle.zy_isa.specs.Scenario.{Scenario}
use Rattle.zy_isa.specs.declared.node.Node.{Node}
use Rattle.zy_isa.specs.declared.node.Node.TheVariants.{A, B}
use Rattle.zy_model.specs.declared.mode.NodeMode.{NodeMode}
use Rattle.zy_model.specs.declared.mode.NodeMode.TheVariants.{Normal, SInit, DInit, DDual, DFinish}
use Rattle.zy_model.specs.Table.{home_of}
use Rattle.zy_table.specs.Change.{begun, txn_at}
use Rattle.zy_table.specs.Client.{is_new}
use Rattle.zy_table.specs.State.{View}
use Rattle.zy_laws.proofs.locks.Locking.{Kept, began}
use Rattle.zy_laws.proofs.owner.Roles.{Inv}
use Rattle.zy_laws.proofs.walk.Txns.{not_new}

-- a node in a home mode is not idle
home_runs : (m : NodeMode) → is_home m ≡ true → is_idle m ≡ false
home_runs Normal h = refl
home_runs SInit h = refl
home_runs m h = absurd (false≢true h)

-- a destination is not idle
destination_runs : (m : NodeMode) → is_destination m ≡ true → is_idle m ≡ false
destination_runs DInit h = refl
destination_runs DDual h = refl
destination_runs DFinish h = refl
destination_runs m h = absurd (false≢true h)

-- where o names h, that node is not idle
abbrev Busy : NodeMode → NodeMode → Option Node → Node → Type 0
Busy a b o h = o ≡ Some h → (h ≡ A → is_idle a ≡ false) × (h ≡ B → is_idle b ≡ false)

-- A is home and not idle
busy_a : (a b : NodeMode) (h : Node) → is_idle a ≡ false → Busy a b (Some A) h
busy_a a b h r e = ((λ _. r), (λ f. cc))

-- B is home and not idle
busy_b : (a b : NodeMode) (h : Node) → is_idle b ≡ false → Busy a b (Some B) h
busy_b a b h r e = ((λ f. cc), (λ _. r))

-- a home is not idle
home_busy : (a b : NodeMode) (h : Node) → Busy a b (home_of a b) h
home_busy a b h =
    cond_both (is_home a) _ _ (λ o. Busy a b o h) (λ r. busy_a a b h (home_runs a r))
    (λ _. cond_both (is_home b) _ _ (λ o. Busy a b o h) (λ r. busy_b a b h (home_runs b r))
    (λ _. cond_both (is_destination a) _ _ (λ o. Busy a b o h) (λ r. busy_a a b h (destination_runs a r))
    (λ _. cond_both (is_destination b) (Some B) None (λ o. Busy a b o h) (λ r. busy_b a b h (destination_runs b r)) (λ _ e. cc))))

-- a begin keeps what holds of every state, seen from A
begun_kept : (sc : Scenario) (v : View) (lows : List ℕ) (t : ℕ) (h : Node) → Kept sc A v lows → is_new (txn_at v t).status ≡ true
    → home_of v.me.mode v.them.mode ≡ Some h → Inv (begun h t v) → Kept sc A (begun h t v) lows
unfolding begun
begun_kept sc v lows t h k new home i =
    let off = not_new (txn_at v t).status new in
    let busy = home_busy v.me.mode v.them.mode h home in
    record {
      inv = i;
      first = k.first;
      placed = k.placed;
      mine = began sc A h v.me v lows t k.mine off busy.0;
      theirs = began sc B h v.them v lows t k.theirs off busy.1;
    }

-- the same from n, which is A
pub begun_event : (sc : Scenario) (n : Node) (v : View) (lows : List ℕ) (t : ℕ) (h : Node) → Kept sc n v lows → n ≡ A → is_new (txn_at v t).status ≡ true
    → home_of v.me.mode v.them.mode ≡ Some h → Inv (begun h t v) → Kept sc n (begun h t v) lows
begun_event sc n v lows t h k a new home i =
    subst (λ m. Kept sc m (begun h t v) lows) (sym a) (begun_kept sc v lows t h (subst (λ m. Kept sc m v lows) a k) new home i)
