-- Who has a page alone: nothing is in the way, and a further ask leaves the lock as it is.
use Rattle.std.proofs.Common.{◌≡◌, ◌∙◌, Bool, true, false, ℕ, List, [], ◌∷◌, refl, sym, ap, arith, inl, inr}
use Rattle.std.specs.Prelude.{◌==◌, ◌&&◌, not}
use Rattle.std.proofs.lemmas.Bool.{and_from, and_parts, cond_both, eq-eqb, eqb-true, false≢true, true≢false, false_from_ne_true, ne_eqb, eqb-false, not-true}
use Rattle.std.proofs.lemmas.Bool.{or_cases, or_left, or_right, or_parts}
use Rattle.std.proofs.lemmas.Bool.Decides.{nat_tests}
use Rattle.zy_model.specs.declared.lock.Lock.{Lock}
use Rattle.zy_model.specs.declared.lock.LockKind.{LockKind}
use Rattle.zy_model.specs.declared.lock.LockKind.TheVariants.{Shared, Exclusive}
use Rattle.zy_model.specs.Locks.{add_lock, clashes, conflict, holds, holds_alone, is_exclusive, is_shared, stronger, LocksAgree}
use Rattle.zy_model.specs.Order.{comes_before, is_held_by, LocksBehind, LocksRise}
use Rattle.zy_locks.specs.LockTable.{LockTable, HasPlaces}
use Rattle.zy_model.proofs.Alone.{exclusive_holds}
use Rattle.zy_locks.proofs.Held.{before_is_other, held_takes, none_behind}
use Rattle.zy_model.proofs.Rising.{lock, goes_before, behind_rise}

-- what an exclusive lock would find free every lock does
weaker : (a b c d : Bool) → (a && (b && not (c && false))) ≡ false → (a && (b && not (c && d))) ≡ false
weaker false b c d h = refl
weaker true false c d h = refl
weaker true true true d h = absurd (true≢false h)
weaker true true false d h = absurd (true≢false h)

-- where nothing is in the way of t's exclusive lock on p, nothing is in the way of its lock of any kind
free_for_all : (p t : ℕ) (kind : LockKind) (xs : List Lock) → conflict xs p t Exclusive ≡ false → conflict xs p t kind ≡ false
free_for_all p t kind [] h = refl
free_for_all p t kind (x ∷ xs) h =
    let parts = or_parts (clashes p t Exclusive x) (conflict xs p t Exclusive) h in
    rw (weaker (x.page == p) (not (x.txn == t)) (is_shared x.kind) (is_shared kind) parts.0) (free_for_all p t kind xs parts.1)

-- a kind that passes the test for exclusive is Exclusive
is_exclusive_one : (k : LockKind) → is_exclusive k ≡ true → k ≡ Exclusive
is_exclusive_one Shared h = absurd (false≢true h)
is_exclusive_one Exclusive h = refl

-- a lock on p that is another's is in the way of one that has p alone
meets : (x y : Lock) (p t : ℕ) → x.page ≡ p → (x.txn ≡ t → ⊥) → y.page ≡ p → y.txn ≡ t → is_exclusive y.kind ≡ true → clashes x.page x.txn x.kind y ≡ true
meets x y p t on far at own alone =
    rw (eq-eqb y.page x.page (at ∙ sym on), ne_eqb y.txn x.txn (λ e. far (sym e ∙ own)), is_exclusive_one y.kind alone) refl

-- another's lock on p has one in its way where t has an exclusive lock on p
meets_one : (x : Lock) (p t : ℕ) (xs : List Lock) → x.page ≡ p → (x.txn ≡ t → ⊥) → holds_alone xs p t ≡ true → conflict xs x.page x.txn x.kind ≡ true
meets_one x p t [] on far h = absurd (false≢true h)
meets_one x p t (y ∷ ys) on far h =
    elim (or_cases ((y.page == p) && ((y.txn == t) && is_exclusive y.kind)) (holds_alone ys p t) h) [
      | inl e ↦
          let a = and_parts (y.page == p) ((y.txn == t) && is_exclusive y.kind) e in
          let b = and_parts (y.txn == t) (is_exclusive y.kind) a.1 in
          or_left _ _ (meets x y p t on far (eqb-true _ _ a.0) (eqb-true _ _ b.0) b.1)
      | inr e ↦ or_right _ _ (meets_one x p t ys on far e)
    ]

-- a test that asks for another's lock fails for one's own
own_is_free : (a b c : Bool) → b ≡ true → (a && (not b && c)) ≡ false
own_is_free true true c h = refl
own_is_free false true c h = refl
own_is_free a false c h = absurd (false≢true h)

-- nothing is in the way of one who has the page alone
pub alone_free : (p t : ℕ) (kind : LockKind) (xs : List Lock) → LocksAgree xs → holds_alone xs p t ≡ true → conflict xs p t kind ≡ false
alone_free p t kind [] agree h = absurd (false≢true h)
alone_free p t kind (x ∷ xs) agree h =
    elim (or_cases ((x.page == p) && ((x.txn == t) && is_exclusive x.kind)) (holds_alone xs p t) h) [
      | inl e ↦
          let a = and_parts (x.page == p) ((x.txn == t) && is_exclusive x.kind) e in
          let b = and_parts (x.txn == t) (is_exclusive x.kind) a.1 in
          let rest : conflict xs p t Exclusive ≡ false = rw (eqb-true x.page p a.0, eqb-true x.txn t b.0, is_exclusive_one x.kind b.1) at agree.0 in
          rw (own_is_free (x.page == p) (x.txn == t) (not (is_shared x.kind && is_shared kind)) b.0) (free_for_all p t kind xs rest)
      | inr e ↦
          let rest = alone_free p t kind xs agree.1 e in
          let none : clashes p t kind x ≡ false = false_from_ne_true _ (λ hit.
          let a = and_parts (x.page == p) (not (x.txn == t) && not (is_shared x.kind && is_shared kind)) hit in
          let b = and_parts (not (x.txn == t)) (not (is_shared x.kind && is_shared kind)) a.1 in
          true≢false (sym (meets_one x p t xs (eqb-true _ _ a.0) (eqb-false _ _ (not-true _ b.0)) e) ∙ agree.0)) in
          rw none rest
    ]

-- a lock of t on p is the only one
held_goes_before : (x y : Lock) (p t : ℕ) → comes_before x y.page y.txn ≡ true → is_held_by x p t ≡ true → goes_before p t y ≡ true
held_goes_before x y p t h k = grind (arith, nat_tests, h, k)

-- behind t's lock on p there is no other of t on p
none_behind_held : (x : Lock) (p t : ℕ) (xs : List Lock) → LocksBehind x xs → is_held_by x p t ≡ true → holds xs p t ≡ false
none_behind_held x p t [] h e = refl
none_behind_held x p t (y ∷ ys) h e =
    let later = held_goes_before x y p t h.0 e in
    rw (before_is_other y p t later) (none_behind y p t ys h.1 later)

-- an exclusive lock stays as it is by a further ask
stays : (k kind : LockKind) → is_exclusive k ≡ true → stronger k kind ≡ k
stays Shared kind h = absurd (false≢true h)
stays Exclusive kind h = refl

-- t has no exclusive lock on p where it has no lock on p
not_among : (xs : List Lock) (p t : ℕ) → holds xs p t ≡ false → holds_alone xs p t ≡ true → ⊥
not_among xs p t none h = false≢true (sym none ∙ exclusive_holds xs p t h)

-- and it stays what it is
pub alone_kept : (p t : ℕ) (kind : LockKind) (xs : List Lock) → LocksRise xs → holds_alone xs p t ≡ true → add_lock p t kind xs ≡ xs
alone_kept p t kind [] rise h = absurd (false≢true h)
alone_kept p t kind (x ∷ xs) rise h =
    cond_both (is_held_by x p t) (record x { kind = stronger x.kind kind } ∷ xs) _ (λ ys. ys ≡ x ∷ xs)
    (λ held. elim (or_cases ((x.page == p) && ((x.txn == t) && is_exclusive x.kind)) (holds_alone xs p t) h) [
      | inl e ↦ let a = and_parts (x.page == p) ((x.txn == t) && is_exclusive x.kind) e in
          ap (λ k. record x { kind = k } ∷ xs) (stays x.kind kind (and_parts (x.txn == t) (is_exclusive x.kind) a.1).1)
      | inr e ↦ absurd (not_among xs p t (none_behind_held x p t xs rise held) e)
    ])
    (λ other. let rest : holds_alone xs p t ≡ true = elim (or_cases ((x.page == p) && ((x.txn == t) && is_exclusive x.kind)) (holds_alone xs p t) h) [
      | inl e ↦ let a = and_parts (x.page == p) ((x.txn == t) && is_exclusive x.kind) e in
          absurd (false≢true (sym other ∙ and_from _ _ a.0 (and_parts (x.txn == t) (is_exclusive x.kind) a.1).0))
      | inr e ↦ e
    ] in
    cond_both (goes_before p t x) (lock p t kind ∷ x ∷ xs) (x ∷ add_lock p t kind xs) (λ ys. ys ≡ x ∷ xs)
    (λ early. absurd (not_among xs p t (none_behind x p t xs rise early) rest))
    (λ late. ap (λ ys. x ∷ ys) (alone_kept p t kind xs (behind_rise x xs rise) rest)))

-- and has its place
pub alone_has_place : (p t : ℕ) (x : LockTable) → holds_alone x.locks p t ≡ true → HasPlaces (p ∷ []) t x
alone_has_place p t x h = omega (arith, held_takes p t x.locks (exclusive_holds x.locks p t h))
