-- What a running transaction does keeps locks, private rows and the places of rows.
use Rattle.std.proofs.Common.{List, [], ap, false, inl, inr, length, refl, subst, sym, true, ℕ, ◌++◌, ◌+◌, ◌∙◌, ◌∷◌, ◌≡◌, ◌<◌}
use Rattle.std.specs.Prelude.{Some, is_some, ◌==◌, ◌⊎◌}
use Rattle.std.proofs.lemmas.Bool.{cases_eq, cond_both, eqb-true, false≢true, or_right}
use Rattle.zy_isa.specs.Rows.{get_row, put_row}
use Rattle.zy_isa.specs.Scenario.{Scenario}
use Rattle.zy_isa.specs.declared.node.Node.{Node}
use Rattle.zy_isa.specs.declared.row.Row.{Row}
use Rattle.zy_model.specs.Locks.{conflict}
use Rattle.zy_model.specs.declared.lock.LockKind.{LockKind}
use Rattle.zy_model.specs.declared.lock.LockKind.TheVariants.{Exclusive, Shared}
use Rattle.zy_model.specs.Wireframe.{page_of}
use Rattle.zy_table.specs.declared.outcome.Why.{Why}
use Rattle.zy_table.specs.Change.{aborted, committed, did, installed, locked, shares, txn_at}
use Rattle.zy_table.specs.Database.{sent_leaves}
use Rattle.zy_table.specs.Numbers.{has}
use Rattle.zy_table.specs.Pages.{owns}
use Rattle.zy_table.specs.Ranges.{range_pages}
use Rattle.zy_table.specs.State.{Txn, View, other}
use Rattle.zy_laws.proofs.locks.Runners.{within}
use Rattle.zy_table.proofs.RangeLists.{has_first, key_of_page}
use Rattle.zy_table.proofs.SharedLocks.{conflict_own}
use Rattle.zy_laws.proofs.walk.Conditions.{Free, has_lock, FreeRange, has_locks}
use Rattle.zy_laws.proofs.places.Installing.{Placed, owns-installed, placed_installed}
use Rattle.zy_laws.proofs.locks.Locking.{Kept, Locking, freed, lock_taken, seen_other, seen_step, untouched}
use Rattle.zy_laws.proofs.serial.LoneRuns.{get_row-put}
use Rattle.zy_laws.proofs.owner.Roles.{Inv}
use Rattle.zy_laws.proofs.walk.Txns.{IsAt, Stands, at_other, at_self, not_both_nodes}

-- t shares some pages
shares_locking : (sc : Scenario) (n : Node) (ps : List ℕ) (v : View) (lows : List ℕ) (t : ℕ) → Locking sc n v.me v lows → IsAt v t n
    → ((p : ℕ) → has ps p ≡ true → p < length lows) → ((p : ℕ) → has ps p ≡ true → owns v.me.pages p ≡ true)
    → ((p : ℕ) → has ps p ≡ true → conflict v.me.locks p t Shared ≡ false) → Locking sc n (shares t ps v).me (shares t ps v) lows
unfolding shares locked txn_at
shares_locking sc n [] v lows t l at small own free = l
shares_locking sc n (p ∷ ps) v lows t l at small own free =
    let w = locked t p Shared v in
    let here = has_first p ps in
    let one : Locking sc n w.me w lows = lock_taken sc n v w lows t p Shared l at (small p here) (own p here) (free p here) (λ u a. a)
    (λ u a. a) (λ u j a s. inl s) in
    shares_locking sc n ps w lows t one at (λ q h. small q (or_right _ _ h)) (λ q h. own q (or_right _ _ h))
    (λ q h. conflict_own p t Shared v.me.locks q Shared ∙ free q (or_right _ _ h))

-- the keys of the private rows after one is put
pub grown : (k x : ℕ) (rows : List Row) (j : ℕ) → is_some (get_row (put_row k x rows) j) ≡ true
    → (is_some (get_row rows j) ≡ true) ⊎ ((k ≡ j) × (Exclusive ≡ Exclusive))
grown k x rows j h =
    cond_both (k == j) (Some x) (get_row rows j) (λ o. is_some o ≡ true → (is_some (get_row rows j) ≡ true) ⊎ ((k ≡ j) × (Exclusive ≡ Exclusive)))
    (λ e _. inr (eqb-true _ _ e, refl)) (λ _ g. inl g) (ap is_some (sym (get_row-put k x rows j)) ∙ h)

-- a state seen from n, where t runs, and its newest low keys
module _ (sc : Scenario) (n : Node) (v : View) (lows : List ℕ) (t : ℕ) (k : Kept sc n v lows) (at : IsAt v t n) where
  -- t does an instruction without a key
  pub goes_kept : (pc : ℕ) (regs : List ℕ) → Inv (did t pc regs (txn_at v t).rows v) → Kept sc n (did t pc regs (txn_at v t).rows v) lows
  unfolding did
  goes_kept pc regs i = record {
    inv = i;
    first = k.first;
    placed = k.placed;
    mine = untouched sc n v.me v _ lows k.mine (seen_step n v _ t _ refl at.0 refl refl refl);
    theirs = untouched sc (other n) v.them v _ lows k.theirs (seen_step (other n) v _ t _ refl at.0 refl refl refl);
  }

  -- t does an instruction on a key, with the lock that it takes
  pub lock_kept : (key : ℕ) (kind : LockKind) (pc : ℕ) (regs : List ℕ) (rows : List Row) → Free t key kind v
      → ((j : ℕ) → is_some (get_row rows j) ≡ true → (is_some (get_row (txn_at v t).rows j) ≡ true) ⊎ ((key ≡ j) × (kind ≡ Exclusive)))
      → Inv (did t pc regs rows (has_lock t key kind v)) → Kept sc n (did t pc regs rows (has_lock t key kind v)) lows
  unfolding did locked txn_at
  lock_kept key kind pc regs rows f grow i =
      let w = did t pc regs rows (has_lock t key kind v) in
      let x = txn_at v t in
      let y : Txn = record x { pc = pc; regs = regs; rows = rows; done = x.done + 1 } in
      let p = page_of v.me.lows key in
      let self : txn_at w t ≡ y = at_self v w t y refl at.0 in
      let newest : v.me.lows ≡ lows = k.mine.newest (k.mine.busy t at) in
      record {
        inv = i;
        first = k.first;
        placed = k.placed;
        mine = lock_taken sc n v w lows t p kind k.mine at (within sc n v lows t k at key) f.here f.free
            (λ u a. elim (cases_eq u t) [
              | inl same ↦ subst (λ z. IsAt v z n) (sym same) at
              | inr far ↦ subst (λ (z : Txn). Stands z n) (at_other v w t u y refl far) a
            ])
            (λ u a. elim (cases_eq u t) [
              | inl same ↦ subst (λ z. IsAt w z n) (sym same) (subst (λ (z : Txn). Stands z n) (sym self) at)
              | inr far ↦ subst (λ (z : Txn). Stands z n) (sym (at_other v w t u y refl far)) a
            ])
            (λ u j a s. elim (cases_eq u t) [
              | inl same ↦ elim (grow j (subst (λ (z : Txn). is_some (get_row z.rows j) ≡ true) (ap (txn_at w) same ∙ self) s)) [
                | inl old ↦ inl (subst (λ z. is_some (get_row (txn_at v z).rows j) ≡ true) (sym same) old)
                | inr new ↦ inr (same, sym (ap (page_of v.me.lows) new.0 ∙ ap (λ l. page_of l j) newest), new.1)
              ]
              | inr far ↦ inl (subst (λ (z : Txn). is_some (get_row z.rows j) ≡ true) (at_other v w t u y refl far) s)
            ]);
        theirs = untouched sc (other n) v.them v w lows k.theirs (seen_other n v w t y refl (λ s. not_both_nodes n x.node at.1 s.1) at);
      }

  -- t does a sum, with the locks that it takes
  pub sum_kept : (a b pc : ℕ) (regs : List ℕ) → FreeRange t a b v
      → Inv (did t pc regs (txn_at v t).rows (has_locks t a b v)) → Kept sc n (did t pc regs (txn_at v t).rows (has_locks t a b v)) lows
  unfolding did shares txn_at
  sum_kept a b pc regs f i =
      let x = has_locks t a b v in
      let w = did t pc regs (txn_at v t).rows x in
      let small : (p : ℕ) → has (range_pages v.me.lows a b) p ≡ true → p < length lows = λ p e. let key = key_of_page v.me.lows a b p e in
      subst (λ z. z < length lows) key.1 (within sc n v lows t k at key.0) in
      record {
        inv = i;
        first = k.first;
        placed = k.placed;
        mine = untouched sc n x.me x w lows (shares_locking sc n (range_pages v.me.lows a b) v lows t k.mine at small f.here f.free)
            (seen_step n x w t _ refl at.0 refl refl refl);
        theirs = untouched sc (other n) v.them v w lows k.theirs (seen_step (other n) v w t _ refl at.0 refl refl refl);
      }

  -- an abort keeps it
  pub aborted_kept : (why : Why) → Inv (aborted t why v) → Kept sc n (aborted t why v) lows
  unfolding aborted
  aborted_kept why i = record {
    inv = i;
    first = k.first;
    placed = k.placed;
    mine = freed sc n v _ lows t _ k.mine at refl refl (λ p. refl);
    theirs = untouched sc (other n) v.them v _ lows k.theirs (seen_other n v _ t _ refl (λ s. false≢true s.0) at);
  }

  -- a commit keeps it
  pub committed_kept : Inv (committed t v) → Kept sc n (committed t v) lows
  unfolding committed
  committed_kept i = record {
    inv = i;
    first = k.first;
    placed = subst (λ l. Placed lows (installed l (txn_at v t).rows v.me.pages ++ (v.them.pages ++ (sent_leaves v.inbox ++ sent_leaves v.outbox))))
        (sym (k.mine.newest (k.mine.busy t at))) (placed_installed lows (txn_at v t).rows v.me.pages _ k.placed);
    mine = freed sc n v _ lows t _ k.mine at refl refl (owns-installed v.me.lows (txn_at v t).rows v.me.pages);
    theirs = untouched sc (other n) v.them v _ lows k.theirs (seen_other n v _ t _ refl (λ s. false≢true s.0) at);
  }
