-- A transaction takes its locks where another's are dropped.
use Rattle.std.proofs.Common.{◌≡◌, ◌∙◌, ℕ, List, [], ◌∷◌, refl, sym, ap, arith, subst, Bool, true, false, not, Some, None, cond}
use Rattle.std.specs.Prelude.{◌==◌, ◌&&◌, ◌||◌, nat_lt}
use Rattle.std.proofs.lemmas.Bool.{and_parts, cond_both, eqb-true, ne_eqb, or_from, or_parts}
use Rattle.std.proofs.lemmas.Bool.Decides.{nat_tests}
use Rattle.zy_model.specs.declared.lock.Lock.{Lock}
use Rattle.zy_model.specs.declared.lock.LockKind.{LockKind}
use Rattle.zy_model.specs.declared.lock.LockKind.TheVariants.{Shared}
use Rattle.zy_model.specs.Locks.{add_lock, clashes, conflict, drop_locks, stronger}
use Rattle.zy_model.specs.Order.{LocksBehind, LocksRise, comes_before}
use Rattle.zy_model.proofs.Rising.{behind_rise, rise_add, rise_drop}
use Rattle.zy_table.specs.Change.{share_all}
use Rattle.zy_table.specs.Run.{first_taken}

-- What is done to locks is fair to t: they stay in order, no lock is in the way of t that was not, and t takes its locks
-- after it as before it.
pub record IsFair (t : ℕ) (f : List Lock → List Lock) : Type 0 where
  pub rises : (xs : List Lock) → LocksRise xs → LocksRise (f xs)
  pub free : (xs : List Lock) (p : ℕ) (kind : LockKind) → conflict xs p t kind ≡ false → conflict (f xs) p t kind ≡ false
  pub adds : (xs : List Lock) (p : ℕ) (kind : LockKind) → LocksRise xs → f (add_lock p t kind xs) ≡ add_lock p t kind (f xs)

-- the locks stay as they are
abbrev pub same : List Lock → List Lock
same xs = xs

-- that is fair
pub same_fair : (t : ℕ) → IsFair t same
same_fair t = record { rises = λ xs r. r; free = λ xs p kind e. e; adds = λ xs p kind r. refl }

-- ---- the locks of u are dropped

-- fewer locks are in the way
fewer : (u : ℕ) (xs : List Lock) (p t : ℕ) (kind : LockKind) → conflict xs p t kind ≡ false → conflict (drop_locks u xs) p t kind ≡ false
fewer u [] p t kind h = h
fewer u (x ∷ xs) p t kind h =
    let parts = or_parts (clashes p t kind x) (conflict xs p t kind) h in
    let rest = fewer u xs p t kind parts.1 in
    cond_both (not (x.txn == u)) (x ∷ drop_locks u xs) (drop_locks u xs) (λ ys. conflict ys p t kind ≡ false)
    (λ _. or_from (clashes p t kind x) (conflict (drop_locks u xs) p t kind) parts.0 rest)
    (λ _. rest)

-- t's lock of a kind on p
abbrev lock : ℕ → ℕ → LockKind → Lock
lock p t kind = record { page = p; txn = t; kind = kind }

-- where t's lock on p would go before x
abbrev goes_before : ℕ → ℕ → Lock → Bool
goes_before p t x = nat_lt p x.page || ((x.page == p) && nat_lt t x.txn)

-- a lock that t's comes before in order is none of t's on that page
not_held : (p t : ℕ) (kind : LockKind) (x : Lock) → comes_before (lock p t kind) x.page x.txn ≡ true → ((x.page == p) && (x.txn == t)) ≡ false
not_held p t kind x h = grind (arith, nat_tests, h)

-- t's lock goes before it
goes : (p t : ℕ) (kind : LockKind) (x : Lock) → comes_before (lock p t kind) x.page x.txn ≡ true → goes_before p t x ≡ true
goes p t kind x h = grind (arith, nat_tests, h)

-- where t's lock on p goes before x, it comes before x in order
comes : (p t : ℕ) (kind : LockKind) (x : Lock) → goes_before p t x ≡ true → comes_before (lock p t kind) x.page x.txn ≡ true
comes p t kind x h = grind (arith, nat_tests, h)

-- a lock is taken in front of those that rise behind it
in_front : (p t : ℕ) (kind : LockKind) (xs : List Lock) → LocksBehind (lock p t kind) xs → add_lock p t kind xs ≡ lock p t kind ∷ xs
in_front p t kind [] h = refl
in_front p t kind (x ∷ xs) h = rw (not_held p t kind x h.0, goes p t kind x h.0) refl

module _ (u p t : ℕ) (kind : LockKind) (far : u ≡ t → ⊥) where
  -- a lock that is not u's stays, whatever its kind
  stays : (x : Lock) (xs : List Lock) → (x.txn == u) ≡ false → drop_locks u (x ∷ xs) ≡ x ∷ drop_locks u xs
  stays x xs e = rw e refl

  -- u's goes
  drops : (x : Lock) (xs : List Lock) → (x.txn == u) ≡ true → drop_locks u (x ∷ xs) ≡ drop_locks u xs
  drops x xs e = rw e refl

  -- t is not u
  other : (x : ℕ) → x ≡ t → (x == u) ≡ false
  other x e = ne_eqb x u (λ h. far (sym h ∙ e))

  -- t's lock is put in place of one that it has there
  held : (x : Lock) (xs : List Lock) → ((x.page == p) && (x.txn == t)) ≡ true
      → drop_locks u (record x { kind = stronger x.kind kind } ∷ xs) ≡ add_lock p t kind (drop_locks u (x ∷ xs))
  held x xs e =
      let own = other x.txn (eqb-true x.txn t (and_parts (x.page == p) (x.txn == t) e).1) in
      stays (record x { kind = stronger x.kind kind }) xs own
      ∙ (sym (ap (λ b. cond b (record x { kind = stronger x.kind kind } ∷ drop_locks u xs)
      (cond (goes_before p t x) (lock p t kind ∷ x ∷ drop_locks u xs) (x ∷ add_lock p t kind (drop_locks u xs)))) e)
      ∙ sym (ap (add_lock p t kind) (stays x xs own)))

  -- it is put in front
  fronts : (xs : List Lock) → LocksBehind (lock p t kind) xs → drop_locks u (lock p t kind ∷ xs) ≡ add_lock p t kind (drop_locks u xs)
  fronts xs h =
      let own = other t refl in
      let e = stays (lock p t kind) xs own in
      e ∙ sym (in_front p t kind (drop_locks u xs) (subst LocksRise e (rise_drop u (lock p t kind ∷ xs) h)))

  -- it is put behind the first
  behind : (x : Lock) (xs : List Lock) (b : Bool) → ((x.page == p) && (x.txn == t)) ≡ false → goes_before p t x ≡ false → (x.txn == u) ≡ b
      → drop_locks u (add_lock p t kind xs) ≡ add_lock p t kind (drop_locks u xs)
      → drop_locks u (x ∷ add_lock p t kind xs) ≡ add_lock p t kind (drop_locks u (x ∷ xs))
  behind x xs true n g e rest = drops x (add_lock p t kind xs) e ∙ (rest ∙ sym (ap (add_lock p t kind) (drops x xs e)))
  behind x xs false n g e rest =
      stays x (add_lock p t kind xs) e
      ∙ (ap (λ ys. x ∷ ys) rest
      ∙ (sym (rw (n, g) refl)
      ∙ sym (ap (add_lock p t kind) (stays x xs e))))

  -- t takes a lock
  takes : (xs : List Lock) → LocksRise xs → drop_locks u (add_lock p t kind xs) ≡ add_lock p t kind (drop_locks u xs)
  takes [] h = stays (lock p t kind) [] (other t refl)
  takes (x ∷ xs) h =
      cond_both ((x.page == p) && (x.txn == t)) _ _ (λ ys. drop_locks u ys ≡ add_lock p t kind (drop_locks u (x ∷ xs)))
      (λ e. held x xs e)
      (λ n. cond_both (goes_before p t x) _ _ (λ ys. drop_locks u ys ≡ add_lock p t kind (drop_locks u (x ∷ xs)))
      (λ e. fronts (x ∷ xs) (comes p t kind x e, h))
      (λ g. behind x xs (x.txn == u) n g refl (takes xs (behind_rise x xs h))))

-- that is fair to another
pub drop_fair : (t u : ℕ) → (u ≡ t → ⊥) → IsFair t (drop_locks u)
drop_fair t u far = record {
  rises = λ xs r. rise_drop u xs r;
  free = λ xs p kind e. fewer u xs p t kind e;
  adds = λ xs p kind r. takes u p t kind far xs r;
}

-- ---- shared locks on several pages

module _ (t : ℕ) (f : List Lock → List Lock) (fair : IsFair t f) where
  -- t shares pages after what is fair to it as before
  pub shares_fair : (ps : List ℕ) (xs : List Lock) → LocksRise xs → f (share_all ps t xs) ≡ share_all ps t (f xs)
  shares_fair [] xs r = refl
  shares_fair (p ∷ ps) xs r =
      shares_fair ps (add_lock p t Shared xs) (rise_add p t Shared xs r) ∙ ap (share_all ps t) (fair.adds xs p Shared r)

  -- where none of some pages was taken, none is
  pub free_fair : (ps : List ℕ) (xs : List Lock) → first_taken xs t ps ≡ None → first_taken (f xs) t ps ≡ None
  free_fair [] xs e = refl
  free_fair (p ∷ ps) xs e =
      cond_both (conflict xs p t Shared) (Some p) (first_taken xs t ps) (λ o. o ≡ None → first_taken (f xs) t (p ∷ ps) ≡ None)
      (λ _ h. cc)
      (λ no h. rw (fair.free xs p Shared no) (free_fair ps xs h))
      e
