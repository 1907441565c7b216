-- Who holds which lock where a transaction shares some pages.
use Rattle.std.proofs.Common.{Bool, List, [], ap, false, inl, inr, refl, sym, true, ℕ, ◌∙◌, ◌∷◌, ◌≡◌}
use Rattle.std.specs.Prelude.{None, Some, if◌then◌else◌, nat_lt, not, ◌&&◌, ◌==◌, ◌||◌}
use Rattle.std.proofs.lemmas.Bool.{and_parts, cond_both, eq-eqb, eqb-true, false≢true, or_cases}
use Rattle.zy_model.specs.Locks.{add_lock, clashes, conflict, is_shared, stronger}
use Rattle.zy_model.specs.declared.lock.LockKind.{LockKind}
use Rattle.zy_model.specs.declared.lock.LockKind.TheVariants.{Shared}
use Rattle.zy_table.specs.Change.{share_all}
use Rattle.zy_table.specs.Holders.{holds}
use Rattle.zy_table.specs.Numbers.{has}
use Rattle.zy_table.specs.Run.{first_taken}
use Rattle.zy_table.specs.State.{Lock}
use Rattle.zy_table.proofs.LockLists.{holds_more, holds_new}

-- who has a lock on q still has it after t shares some pages
pub holds_more_shared : (ps : List ℕ) (t : ℕ) (xs : List Lock) (q u : ℕ) → holds xs q u ≡ true → holds (share_all ps t xs) q u ≡ true
holds_more_shared [] t xs q u h = h
holds_more_shared (p ∷ ps) t xs q u h = holds_more_shared ps t (add_lock p t Shared xs) q u (holds_more p t Shared xs q u h)

-- who shares some pages has a lock on each of them
pub holds_shared : (ps : List ℕ) (t : ℕ) (xs : List Lock) (q : ℕ) → has ps q ≡ true → holds (share_all ps t xs) q t ≡ true
holds_shared [] t xs q h = absurd (false≢true h)
holds_shared (p ∷ ps) t xs q h =
    elim (or_cases (p == q) (has ps q) h) [
      | inl e ↦ let same = eqb-true _ _ e in rw (← same) (holds_more_shared ps t (add_lock p t Shared xs) p t (holds_new p t Shared xs))
      | inr e ↦ holds_shared ps t (add_lock p t Shared xs) q e
    ]

-- a transaction is not in its own way
own_never : (b : Bool) (c : Bool) → (b && (not true && c)) ≡ false
own_never true c = refl
own_never false c = refl

-- a lock of t is not in the way of any ask of t
no_clash : (q t : ℕ) (k : LockKind) (x : Lock) → (x.txn == t) ≡ true → clashes q t k x ≡ false
no_clash q t k x e = ap (λ b. (x.page == q) && (not b && not (is_shared x.kind && is_shared k))) e
    ∙ own_never (x.page == q) (not (is_shared x.kind && is_shared k))

-- a lock that t takes does not change what is in the way of t
pub conflict_own : (p t : ℕ) (kind : LockKind) (xs : List Lock) (q : ℕ) (k : LockKind) → conflict (add_lock p t kind xs) q t k ≡ conflict xs q t k
conflict_own p t kind [] q k = ap (λ b. b || false) (no_clash q t k (record { page = p; txn = t; kind = kind }) (eq-eqb t t refl))
conflict_own p t kind (x ∷ xs) q k =
    cond_both ((x.page == p) && (x.txn == t)) (record x { kind = stronger x.kind kind } ∷ xs) _ (λ y. conflict y q t k ≡ conflict (x ∷ xs) q t k)
    (λ e. let own = (and_parts (x.page == p) (x.txn == t) e).1 in
    ap (λ b. b || conflict xs q t k) (no_clash q t k (record x { kind = stronger x.kind kind }) own ∙ sym (no_clash q t k x own)))
    (λ _. cond_both (nat_lt p x.page || ((x.page == p) && nat_lt t x.txn)) (record { page = p; txn = t; kind = kind } ∷ x ∷ xs) (x ∷ add_lock p t kind xs)
    (λ y. conflict y q t k ≡ conflict (x ∷ xs) q t k)
    (λ _. ap (λ b. b || conflict (x ∷ xs) q t k) (no_clash q t k (record { page = p; txn = t; kind = kind }) (eq-eqb t t refl)))
    (λ _. ap (λ b. clashes q t k x || b) (conflict_own p t kind xs q k)))

-- who takes the first of some pages that are free for it finds the others free
taken_own : (p t : ℕ) (xs : List Lock) (ps : List ℕ) → first_taken (add_lock p t Shared xs) t ps ≡ first_taken xs t ps
taken_own p t xs [] = refl
taken_own p t xs (q ∷ ps) =
    ap (λ b. if b then Some q else first_taken (add_lock p t Shared xs) t ps) (conflict_own p t Shared xs q Shared)
    ∙ ap (λ o. if conflict xs q t Shared then Some q else o) (taken_own p t xs ps)

-- where none of some pages is taken, none of those behind the first is
free_rest : (p t : ℕ) (xs : List Lock) (ps : List ℕ) → first_taken xs t (p ∷ ps) ≡ None → first_taken xs t ps ≡ None
free_rest p t xs ps h = cond_both (conflict xs p t Shared) (Some p) (first_taken xs t ps) (λ o. o ≡ None → first_taken xs t ps ≡ None) (λ _ e. cc) (λ _ e. e) h

-- where none of some pages is taken, none of those behind the first is once t shares the first
pub free_others : (p t : ℕ) (xs : List Lock) (ps : List ℕ) → first_taken xs t (p ∷ ps) ≡ None → first_taken (add_lock p t Shared xs) t ps ≡ None
free_others p t xs ps h = taken_own p t xs ps ∙ free_rest p t xs ps h
