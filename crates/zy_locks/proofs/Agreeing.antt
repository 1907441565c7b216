-- Laws of locks that agree: of two on one page both are shared.
use Rattle.std.proofs.Common.{◌≡◌, ◌∙◌, ◌+◌, ◌-◌, Bool, true, false, ℕ, zero, suc, ◌<◌, ◌≤◌, List, [], ◌∷◌, length, get_or, take, drop, refl, sym, ap, arith}
use Rattle.std.proofs.Common.{inl, inr, length-drop}
use Rattle.std.specs.Prelude.{◌==◌, not, ◌&&◌, ◌⊎◌}
use Rattle.std.specs.List.{list_any}
use Rattle.std.proofs.lemmas.Bool.{and_parts, cases_eq, cases_lt, cond_both, eq-eqb, eqb-true, false_from_ne_true, false≢true, true≢false, ne_eqb, or_parts}
use Rattle.std.proofs.lemmas.Bool.{or_right, or_left}
use Rattle.std.proofs.lemmas.Bool.Decides.{nat_tests}
use Rattle.std.proofs.lemmas.List.{get_or-drop, get_or-take, length-take, take-append-drop}
use Rattle.std.proofs.lemmas.List.Folds.{Any-from_list_any, list_any_at, list_any-append}
use Rattle.zy_model.specs.declared.lock.Lock.{Lock}
use Rattle.zy_model.specs.declared.lock.LockKind.{LockKind}
use Rattle.zy_model.specs.declared.lock.LockKind.TheVariants.{Shared, Exclusive}
use Rattle.zy_model.specs.Locks.{add_lock, clashes, conflict, drop_locks, is_shared, stronger, LocksAgree}
use Rattle.zy_model.specs.Order.{comes_before, is_held_by, IsLockPlace, LocksRise}
use Rattle.zy_model.proofs.Rising.{lock, goes_before, behind_at, behind_rise}

-- two locks are in each other's way or not
not_both : (a b : Bool) → not (a && b) ≡ not (b && a)
not_both true true = refl
not_both true false = refl
not_both false true = refl
not_both false false = refl

-- the test whether two numbers are equal is the same in either order
pub same_way : (p q : ℕ) → (p == q) ≡ (q == p)
same_way p q = elim (cases_eq p q) [ inl e ↦ eq-eqb p q e ∙ sym (eq-eqb q p (sym e)) | inr ne ↦ ne_eqb p q ne ∙ sym (ne_eqb q p (λ e. ne (sym e))) ]

-- of two locks each is in the way of the other, or neither is
clash_both : (x y : Lock) → clashes y.page y.txn y.kind x ≡ clashes x.page x.txn x.kind y
clash_both x y = rw (same_way x.page y.page, same_way x.txn y.txn, not_both (is_shared x.kind) (is_shared y.kind)) refl

-- t's lock on p is in the way of x if and only if x is in the way of it
pub clash_sym : (p t : ℕ) (kind : LockKind) (x : Lock) → clashes x.page x.txn x.kind (lock p t kind) ≡ clashes p t kind x
clash_sym p t kind x = clash_both (lock p t kind) x

-- a lock that is raised is in the way of no more than the one that was there and the one that is asked for
raised_kind : (q u : ℕ) (k : LockKind) (p t : ℕ) (held kind : LockKind) → clashes q u k (lock p t held) ≡ false → clashes q u k (lock p t kind) ≡ false
    → clashes q u k (lock p t (stronger held kind)) ≡ false
raised_kind q u k p t Shared kind e f = f
raised_kind q u k p t Exclusive kind e f = e

-- the same for any lock of which the kind is raised
raised_free : (q u : ℕ) (k : LockKind) (x : Lock) (kind : LockKind) → clashes q u k x ≡ false → clashes q u k (lock x.page x.txn kind) ≡ false
    → clashes q u k (record x { kind = stronger x.kind kind }) ≡ false
raised_free q u k x kind e f = raised_kind q u k x.page x.txn x.kind kind e f

-- nor is more in the way of it
raised_alone : (xs : List Lock) (q u : ℕ) (held kind : LockKind) → conflict xs q u held ≡ false → conflict xs q u kind ≡ false
    → conflict xs q u (stronger held kind) ≡ false
raised_alone xs q u Shared kind e f = f
raised_alone xs q u Exclusive kind e f = e

-- a lock that is taken leaves another's ask free if it was free and the new lock is not in its way
conflict_add : (q u : ℕ) (k : LockKind) (p t : ℕ) (kind : LockKind) (xs : List Lock) → conflict xs q u k ≡ false → clashes q u k (lock p t kind) ≡ false
    → conflict (add_lock p t kind xs) q u k ≡ false
conflict_add q u k p t kind [] e f = rw f refl
conflict_add q u k p t kind (x ∷ xs) e f =
    let parts = or_parts (clashes q u k x) (conflict xs q u k) e in
    cond_both (is_held_by x p t) (record x { kind = stronger x.kind kind } ∷ xs) _ (λ ys. conflict ys q u k ≡ false)
    (λ held. let same = and_parts (x.page == p) (x.txn == t) held in
    rw (raised_free q u k x kind parts.0 (rw (eqb-true x.page p same.0, eqb-true x.txn t same.1) f), parts.1) refl)
    (λ other. cond_both (goes_before p t x) (lock p t kind ∷ x ∷ xs) (x ∷ add_lock p t kind xs) (λ ys. conflict ys q u k ≡ false)
    (λ early. rw (f, e) refl)
    (λ late. rw (parts.0, conflict_add q u k p t kind xs parts.1 f) refl))

-- what is there after a lock is taken
pub agree_add : (p t : ℕ) (kind : LockKind) (xs : List Lock) → conflict xs p t kind ≡ false → LocksAgree xs → LocksAgree (add_lock p t kind xs)
agree_add p t kind [] free h = (refl, tt)
agree_add p t kind (x ∷ xs) free h =
    let parts = or_parts (clashes p t kind x) (conflict xs p t kind) free in
    cond_both (is_held_by x p t) (record x { kind = stronger x.kind kind } ∷ xs) _ LocksAgree
    (λ held. let same = and_parts (x.page == p) (x.txn == t) held in
    (raised_alone xs x.page x.txn x.kind kind h.0 (rw (eqb-true x.page p same.0, eqb-true x.txn t same.1) parts.1), h.1))
    (λ other. cond_both (goes_before p t x) (lock p t kind ∷ x ∷ xs) (x ∷ add_lock p t kind xs) LocksAgree
    (λ early. (free, h))
    (λ late. (conflict_add x.page x.txn x.kind p t kind xs h.0 (clash_sym p t kind x ∙ parts.0), agree_add p t kind xs parts.1 h.1)))

-- a release leaves an ask free that was free
conflict_drop : (q u : ℕ) (k : LockKind) (t : ℕ) (xs : List Lock) → conflict xs q u k ≡ false → conflict (drop_locks t xs) q u k ≡ false
conflict_drop q u k t [] e = refl
conflict_drop q u k t (x ∷ xs) e =
    let parts = or_parts (clashes q u k x) (conflict xs q u k) e in
    let rest = conflict_drop q u k t xs parts.1 in
    cond_both (not (x.txn == t)) (x ∷ drop_locks t xs) (drop_locks t xs) (λ ys. conflict ys q u k ≡ false)
    (λ _. rw (parts.0, rest) refl)
    (λ _. rest)

-- and after a release
pub agree_drop : (t : ℕ) (xs : List Lock) → LocksAgree xs → LocksAgree (drop_locks t xs)
agree_drop t [] h = tt
agree_drop t (x ∷ xs) h =
    cond_both (not (x.txn == t)) (x ∷ drop_locks t xs) (drop_locks t xs) LocksAgree
    (λ _. (conflict_drop x.page x.txn x.kind t xs h.0, agree_drop t xs h.1))
    (λ _. agree_drop t xs h.1)

-- a lock and one behind it
free_at : (q : Lock → Bool) (i : ℕ) (d : Lock) (xs : List Lock) → i < length xs → list_any q xs ≡ false → q (get_or xs i d) ≡ false
free_at q i d xs lt e = false_from_ne_true _ (λ h. false≢true (sym e ∙ list_any_at q xs i d lt h))

-- no lock is in the way of one behind it, in locks that agree
agree_at : (i j : ℕ) (d : Lock) (xs : List Lock) → LocksAgree xs → i < j → j < length xs → let x = get_or xs i d in
    clashes x.page x.txn x.kind (get_or xs j d) ≡ false
agree_at i j d [] h le lt = absurd (omega arith)
agree_at i zero d (x ∷ xs) h le lt = absurd (omega arith)
agree_at zero (suc j) d (x ∷ xs) h le lt = free_at (clashes x.page x.txn x.kind) j d xs (omega arith) h.0
agree_at (suc i) (suc j) d (x ∷ xs) h le lt = agree_at i j d xs h.1 (omega arith) (omega arith)

-- a lock comes before one behind it, in locks that rise
rise_at : (i j : ℕ) (d : Lock) (xs : List Lock) → LocksRise xs → i < j → j < length xs → let y = get_or xs j d in
    comes_before (get_or xs i d) y.page y.txn ≡ true
rise_at i j d [] h le lt = absurd (omega arith)
rise_at i zero d (x ∷ xs) h le lt = absurd (omega arith)
rise_at zero (suc j) d (x ∷ xs) h le lt = behind_at x j d xs h (omega arith)
rise_at (suc i) (suc j) d (x ∷ xs) h le lt = rise_at i j d xs (behind_rise x xs h) (omega arith) (omega arith)

-- where a lock is in the way, so is another on its page that it agrees with
shared_on : (a b c : Bool) → not (a && b) ≡ false → not (a && c) ≡ true → not (b && c) ≡ true
shared_on true true c e h = h
shared_on true false c e h = refl
shared_on false b c e h = absurd (true≢false e)

-- where x is in the way of t's lock on p, so is another's y on p that is not in the way of x
also_clashes : (x y : Lock) (p t : ℕ) (kind : LockKind) → clashes y.page y.txn y.kind x ≡ false → x.page ≡ p → y.page ≡ p → (x.txn ≡ y.txn → ⊥)
    → (y.txn ≡ t → ⊥) → clashes p t kind x ≡ true → clashes p t kind y ≡ true
also_clashes x y p t kind agree on at other far hit =
    let both : not (is_shared x.kind && is_shared y.kind) ≡ false = rw (eq-eqb x.page y.page (on ∙ sym at), ne_eqb x.txn y.txn other) at agree in
    let asks = and_parts (not (x.txn == t)) (not (is_shared x.kind && is_shared kind))
    (and_parts (x.page == p) (not (x.txn == t) && not (is_shared x.kind && is_shared kind)) hit).1 in
    rw (eq-eqb y.page p at, ne_eqb y.txn t far) (shared_on (is_shared x.kind) (is_shared y.kind) (is_shared kind) both asks.1)

-- three locks in order, the first or the last of which is on p
between_low : (x y : Lock) (p t : ℕ) → x.page ≡ p → comes_before x y.page y.txn ≡ true → comes_before y p t ≡ true → (y.page ≡ p) × (x.txn < y.txn)
    × (y.txn < t)
between_low x y p t on h k = (grind (arith, nat_tests, on, h, k), grind (arith, nat_tests, on, h, k), grind (arith, nat_tests, on, h, k))

-- the same for x on p behind y and z, where z does not come before t's lock on p: y is on p too, and between t and x
between_high : (z y x : Lock) (p t : ℕ) → x.page ≡ p → comes_before z p t ≡ false → comes_before z y.page y.txn ≡ true → comes_before y x.page x.txn ≡ true
    → (y.page ≡ p) × (t < y.txn) × (y.txn < x.txn)
between_high z y x p t on h k l = (grind (arith, nat_tests, on, h, k, l), grind (arith, nat_tests, on, h, k, l), grind (arith, nat_tests, on, h, k, l))

-- a lock that is in the way of t's lock on p, if one is, is beside its place
abbrev pub Beside : ℕ → (Lock → Bool) → List Lock → Type 0
Beside at q xs = (k : ℕ) × (d : Lock) × (at ≤ k + 1) × (k ≤ at + 1) × (k < length xs) × (q (get_or xs k d) ≡ true)

-- a lock that is in the way of t's lock on p is on p
page_hit : (p t : ℕ) (kind : LockKind) (x : Lock) → clashes p t kind x ≡ true → x.page ≡ p
page_hit p t kind x hit = eqb-true _ _ (and_parts (x.page == p) (not (x.txn == t) && not (is_shared x.kind && is_shared kind)) hit).0

-- where a lock before the place's neighbours is in the way, one beside the place is
beside_low : (p t at j : ℕ) (kind : LockKind) (d : Lock) (xs : List Lock) → LocksRise xs → LocksAgree xs → IsLockPlace p t xs at → j + 1 < at
    → clashes p t kind (get_or xs j d) ≡ true → Beside at (clashes p t kind) xs
beside_low p t at j kind d xs rise agree placed low hit =
    let k = at - 1 in
    let x = get_or xs j d in
    let y = get_or xs k d in
    let on = page_hit p t kind x hit in
    let few = placed.0 in
    let mid = between_low x y p t on (rise_at j k d xs rise (omega arith) (omega (arith, few))) (placed.1 k d (omega arith) (omega arith)) in (
      k,
      d,
      omega arith,
      omega arith,
      omega (arith, few),
      also_clashes x y p t kind
          (clash_both x y ∙ agree_at j k d xs agree (omega arith) (omega (arith, few))) on mid.0 (λ e. absurd (omega (arith, mid.1)))
          (λ e. absurd (omega (arith, mid.2))) hit,
    )

-- the same for a lock behind the place's neighbours
beside_high : (p t at j : ℕ) (kind : LockKind) (d : Lock) (xs : List Lock) → LocksRise xs → LocksAgree xs → IsLockPlace p t xs at → at + 1 < j → j < length xs
    → clashes p t kind (get_or xs j d) ≡ true → Beside at (clashes p t kind) xs
beside_high p t at j kind d xs rise agree placed high lt hit =
    let k = at + 1 in
    let x = get_or xs j d in
    let y = get_or xs k d in
    let z = get_or xs at d in
    let on = page_hit p t kind x hit in
    let mid = between_high z y x p t on (placed.2 at d (omega arith) (omega arith)) (rise_at at k d xs rise (omega arith) (omega arith))
    (rise_at k j d xs rise (omega arith) (omega arith)) in (
      k,
      d,
      omega arith,
      omega arith,
      omega arith,
      also_clashes x y p t kind (agree_at k j d xs agree (omega arith) (omega arith)) on mid.0
          (λ e. absurd (omega (arith, mid.2))) (λ e. absurd (omega (arith, mid.1))) hit,
    )

-- where any lock is in the way of t's lock on p, one beside its place is
beside : (p t at : ℕ) (kind : LockKind) (xs : List Lock) → LocksRise xs → LocksAgree xs → IsLockPlace p t xs at → conflict xs p t kind ≡ true
    → Beside at (clashes p t kind) xs
beside p t at kind xs rise agree placed h =
    let any = Any-from_list_any (clashes p t kind) xs h in
    let j = any.0 in
    let x = any.1 in
    let hit : clashes p t kind (get_or xs j x) ≡ true = rw any.3 any.4 in
    elim (cases_lt (j + 1) at) [
      | inl low ↦ beside_low p t at j kind x xs rise agree placed low hit
      | inr near ↦ elim (cases_lt (at + 1) j) [
        | inl high ↦ beside_high p t at j kind x xs rise agree placed high any.2 hit
        | inr close ↦ (j, x, near, close, any.2, hit)
      ]
    ]

-- what is found among some locks in a row is found among all
pub any_part : (q : Lock → Bool) (i n : ℕ) (xs : List Lock) → list_any q (take n (drop i xs)) ≡ true → list_any q xs ≡ true
any_part q i n xs h =
    let rest = sym (ap (list_any q) (take-append-drop n (drop i xs))) in
    let all = sym (ap (list_any q) (take-append-drop i xs)) in
    all ∙ (list_any-append q (take i xs) (drop i xs) ∙ or_right _ _ (rest ∙ (list_any-append q (take n (drop i xs)) (drop n (drop i xs)) ∙ or_left _ _ h)))

-- and one of those is found there
any_near : (q : Lock → Bool) (i n k : ℕ) (d : Lock) (xs : List Lock) → i ≤ k → k < i + n → k < length xs → q (get_or xs k d) ≡ true
    → list_any q (take n (drop i xs)) ≡ true
any_near q i n k d xs low high lt hit =
    let j = k - i in
    let same : get_or (take n (drop i xs)) j d ≡ get_or xs k d = get_or-take n (drop i xs) j d (omega arith)
    ∙ (get_or-drop i xs j d ∙ ap (λ z. get_or xs z d) (omega arith)) in
    list_any_at q (take n (drop i xs)) j d (omega (arith, length-take n (drop i xs), length-drop i xs)) (rw same hit)

-- so nothing is in the way where nothing beside the place is
pub none_beside : (p t at i n : ℕ) (kind : LockKind) (xs : List Lock) → LocksRise xs → LocksAgree xs → IsLockPlace p t xs at → i ≤ at - 1 → (length xs ≤ i + n)
    ⊎ (at + 2 ≤ i + n) → list_any (clashes p t kind) (take n (drop i xs)) ≡ false → conflict xs p t kind ≡ false
none_beside p t at i n kind xs rise agree placed low high none = false_from_ne_true _ (λ h.
    let found = beside p t at kind xs rise agree placed h in
    let k = found.0 in
    let above : k < i + n = elim high [ inl all ↦ omega (arith, found.4, all) | inr far ↦ omega (arith, found.3, far) ] in
    false≢true (sym none ∙ any_near (clashes p t kind) i n k found.1 xs (omega (arith, found.2)) above found.4 found.5))
