-- The locks of one page are together, from the place of its first transaction's on.
use Rattle.std.proofs.Common.{◌≡◌, ◌∙◌, ℕ, zero, suc, ◌<◌, ◌≤◌, Bool, true, false, List, [], ◌∷◌, length, get_or, drop, refl, ap, eqb, sym, arith, inl, inr}
use Rattle.std.proofs.lemmas.Bool.{eq-eqb, ne_eqb, cases_eq}
use Rattle.std.proofs.lemmas.Bool.Decides.{nat_tests}
use Rattle.std.proofs.lemmas.List.{get_or-drop, length-drop}
use Rattle.std.proofs.Math.Bool.{or-true}
use Rattle.std.specs.List.{list_any}
use Rattle.zy_model.specs.declared.lock.Lock.{Lock}
use Rattle.zy_model.specs.Order.{comes_before, LocksBehind, LocksRise, IsLockPlace}
use Rattle.zy_model.specs.Locks.{is_locked}
use Rattle.zy_model.proofs.Rising.{behind_rise, place_rest, front_before}

-- a test that only locks on p pass
abbrev pub OnlyOn : ℕ → (Lock → Bool) → Type 0
OnlyOn p q = (x : Lock) → (x.page ≡ p → ⊥) → q x ≡ false

-- a test that a lock at an index passes is passed by some lock of the list
pub any_at : (q : Lock → Bool) (i : ℕ) (d : Lock) (xs : List Lock) → i < length xs → q (get_or xs i d) ≡ true → list_any q xs ≡ true
any_at q i d [] lt e = absurd (omega arith)
any_at q zero d (x ∷ xs) lt e = rw e refl
any_at q (suc i) d (x ∷ xs) lt e = rw (any_at q i d xs (omega arith) e) (or-true (q x))

-- which page a lock is on that comes before, or does not
page_before : (x : Lock) (p : ℕ) → comes_before x p 0 ≡ true → x.page < p
page_before x p h = grind (arith, nat_tests, h)

-- a lock that does not come before the place of the first lock on p is on p or a later page
page_from : (x : Lock) (p : ℕ) → comes_before x p 0 ≡ false → p ≤ x.page
page_from x p h = grind (arith, nat_tests, h)

-- a lock that comes before t's lock on p is on p or an earlier page
page_behind : (x : Lock) (p t : ℕ) → comes_before x p t ≡ true → x.page ≤ p
page_behind x p t h = grind (arith, nat_tests, h)

-- nothing before the place passes
none_in_front : (p i : ℕ) (q : Lock → Bool) (xs : List Lock) → OnlyOn p q → IsLockPlace p 0 xs i → list_any q xs ≡ list_any q (drop i xs)
none_in_front p zero q [] only at = refl
none_in_front p zero q (x ∷ xs) only at = refl
none_in_front p (suc i) q [] only at = refl
none_in_front p (suc i) q (x ∷ xs) only at =
    let below = page_before x p (front_before p 0 i x xs at) in
    rw (only x (λ e. absurd (omega arith))) (none_in_front p i q xs only (place_rest p 0 i x xs at))

-- nor does a lock behind one of a later page
none_later : (p : ℕ) (z : Lock) (q : Lock → Bool) (xs : List Lock) → OnlyOn p q → LocksBehind z xs → p < z.page → list_any q xs ≡ false
none_later p z q [] only h lt = refl
none_later p z q (x ∷ xs) only h lt =
    let up = page_behind z x.page x.txn h.0 in
    rw (only x (λ e. absurd (omega arith))) (none_later p x q xs only h.1 (omega arith))

-- so nothing passes where nothing does up to the first lock of another page
none_in_run : (p i j : ℕ) (q : Lock → Bool) (d : Lock) (xs : List Lock) → OnlyOn p q → LocksRise xs → IsLockPlace p 0 xs i
    → ((k : ℕ) (e : Lock) → k < j → q (get_or (drop i xs) k e) ≡ false) → (j < length (drop i xs) → (get_or (drop i xs) j d).page ≡ p → ⊥)
    → list_any q (drop i xs) ≡ false
none_in_run p zero j q d [] only h at none ne = refl
none_in_run p (suc i) j q d [] only h at none ne = refl
none_in_run p (suc i) j q d (x ∷ xs) only h at none ne = none_in_run p i j q d xs only (behind_rise x xs h) (place_rest p 0 i x xs at) none ne
none_in_run p zero zero q d (x ∷ xs) only h at none ne =
    let other = ne (omega arith) in
    let low = page_from x p (at.2 0 x (omega arith) (omega arith)) in
    rw (only x other) (none_later p x q xs only h (omega (arith, other)))
none_in_run p zero (suc j) q d (x ∷ xs) only h at none ne =
    let rest : IsLockPlace p 0 xs 0 = (omega arith, (λ k e low high. absurd (omega arith)), (λ k e low high. at.2 (suc k) e (omega arith) (omega arith))) in
    rw (none 0 x (omega arith)) (none_in_run p 0 j q d xs only (behind_rise x xs h) rest (λ k e lt. none (suc k) e (omega arith)) (λ lt. ne (omega arith)))

-- no lock at all passes a test for locks on p where none does from p's place up to the first lock of another page
pub none_on_page : (p i j : ℕ) (q : Lock → Bool) (d : Lock) (xs ys : List Lock) → OnlyOn p q → LocksRise xs → IsLockPlace p 0 xs i → ys ≡ drop i xs
    → ((k : ℕ) (e : Lock) → k < j → q (get_or ys k e) ≡ false) → (j < length ys → (get_or ys j d).page ≡ p → ⊥) → list_any q xs ≡ false
none_on_page p i j q d xs ys only h at run none ne =
    none_in_front p i q xs only at ∙ none_in_run p i j q d xs only h at (rw run at none) (rw run at ne)

-- a page is locked where the lock at that place is on it, and only there
pub is_locked_at : (p i : ℕ) (x : Lock) (xs : List Lock) → LocksRise xs → IsLockPlace p 0 xs i → i < length xs → x ≡ get_or xs i x → eqb x.page p ≡ is_locked xs p
is_locked_at p i x xs h at lt e =
    let first : get_or (drop i xs) 0 x ≡ x = get_or-drop i xs 0 x ∙ (ap (λ n. get_or xs n x) (omega arith) ∙ sym e) in
    elim (cases_eq x.page p) [
      | inl f ↦ eq-eqb x.page p f ∙ sym (any_at (λ (y : Lock). eqb y.page p) i x xs lt (eq-eqb (get_or xs i x).page p (rw (← e) f)))
      | inr ne ↦
          ne_eqb x.page p ne ∙ sym (none_on_page p i 0 (λ (y : Lock). eqb y.page p) x xs (drop i xs) (λ y no. ne_eqb y.page p no) h at refl
          (λ k d lt. absurd (omega arith)) (λ more f. ne (rw first at f)))
    ]

-- where the place of p's first lock is behind all locks, p is not locked
pub is_locked_past : (p i : ℕ) (d : Lock) (xs : List Lock) → LocksRise xs → IsLockPlace p 0 xs i → length xs ≤ i → is_locked xs p ≡ false
is_locked_past p i d xs h at le = none_on_page p i 0 (λ (y : Lock). eqb y.page p) d xs (drop i xs) (λ y no. ne_eqb y.page p no) h at refl
    (λ k e lt. absurd (omega arith)) (λ lt f. absurd (omega (arith, length-drop i xs)))
