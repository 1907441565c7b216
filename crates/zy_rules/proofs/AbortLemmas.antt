-- A line that aborts, and that begins with a lock: the abort drops it.
use Rattle.std.proofs.Common.{◌≡◌, ◌∙◌, ℕ, refl, ap, length, true, false}
use Rattle.std.specs.Prelude.{nat_le}
use Rattle.zy_isa.specs.Scenario.{Scenario}
use Rattle.zy_model.specs.declared.lock.LockKind.{LockKind}
use Rattle.zy_model.specs.Table.{may_split}
use Rattle.zy_table.specs.declared.outcome.Why.TheVariants.{Missing, Duplicate, Frozen, NoPage}
use Rattle.zy_table.specs.State.{View}
use Rattle.zy_table.specs.Change.{txn_at, locked}
use Rattle.zy_table.specs.Run.{write_step, insert_step, full_step, abort_step, is_there}
use Rattle.zy_table.proofs.AbortedLocks.{aborted-locked}

-- k is there for t after t has locked p if and only if it was before
there-locked : (t k p : ℕ) (kind : LockKind) (s : View) → (let z = locked t p kind s in is_there k p z.me (txn_at z t)) ≡ is_there k p s.me (txn_at s t)
unfolding locked txn_at
there-locked t k p kind s = refl

-- a write that locks the page and finds its key missing is t's abort without the lock
pub write-missing : (t k v p : ℕ) (kind : LockKind) (s : View) → is_there k p s.me (txn_at s t) ≡ false
    → write_step t k v p (locked t p kind s) ≡ abort_step t Missing s
unfolding write_step abort_step
write-missing t k v p kind s e = rw (there-locked t k p kind s ∙ e, aborted-locked t p kind Missing s) refl

-- the same for an insert of a key that is there
pub insert-duplicate : (sc : Scenario) (t k v p : ℕ) (kind : LockKind) (s : View) → is_there k p s.me (txn_at s t) ≡ true
    → insert_step sc t k v p (locked t p kind s) ≡ abort_step t Duplicate s
unfolding insert_step abort_step
insert-duplicate sc t k v p kind s e = rw (there-locked t k p kind s ∙ e, aborted-locked t p kind Duplicate s) refl

-- the same for an insert on a full page in a mode that forbids a split
pub full-frozen : (sc : Scenario) (t k p : ℕ) (kind : LockKind) (s : View) → may_split s.me.mode ≡ false
    → full_step sc t k p (locked t p kind s) ≡ abort_step t (Frozen p) s
unfolding full_step abort_step locked
full-frozen sc t k p kind s e = rw e (ap (abort_step t (Frozen p)) refl ∙ rw (aborted-locked t p kind (Frozen p) s) refl)

-- the same for an insert on a full page where there are as many pages as may be
pub full-no_page : (sc : Scenario) (t k p : ℕ) (kind : LockKind) (s : View) → may_split s.me.mode ≡ true → nat_le sc.pages (length s.me.lows) ≡ true
    → full_step sc t k p (locked t p kind s) ≡ abort_step t NoPage s
unfolding full_step abort_step locked
full-no_page sc t k p kind s normal none = rw (normal, none) (rw (aborted-locked t p kind NoPage s) refl)
