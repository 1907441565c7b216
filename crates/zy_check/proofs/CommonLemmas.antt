-- The common prefix, byte by byte.
use Rattle.std.proofs.Common.{◌≡◌, ◌==◌, ◌≤◌, ◌+◌, ℕ, suc, Bool, true, false, List, [], ◌∷◌, ◌++◌, length, take, drop, refl, sym, ap, ◌∙◌, inl, inr, arith}
use Rattle.std.proofs.Common.{append-nil}
use Rattle.std.specs.List.{starts_with}
use Rattle.std.specs.Str.{bytes_eq}
use Rattle.std.proofs.lemmas.Bool.{cases_Bool}
use Rattle.std.proofs.lemmas.Bool.Decides.{Decides-eqb}
use Rattle.std.proofs.lemmas.Slice.Eq.{starts_is}
use Rattle.std.proofs.lemmas.List.{drop_all}
use borrow.Author.Tests.{tests}
use Rattle.zy_isa.proofs.OperationLemmas.{same_number}
use Rattle.zy_check.specs.Differs.{common, feeds, differs}

-- a number compares equal to itself
same_self : (x : ℕ) → (x == x) ≡ true
same_self x = grind (arith, tests)

-- nothing is shared with nothing
pub common-nil : (xs : List ℕ) → common xs [] ≡ []
common-nil [] = refl
common-nil (x ∷ xs) = refl

-- the second text is at its end
pub common_right : (xs ys : List ℕ) (k : ℕ) → length ys ≤ k → length (common (drop k xs) (drop k ys)) ≡ 0
common_right xs ys k p = rw (drop_all k ys p, common-nil (drop k xs)) refl

-- a byte that both begin with is shared
pub cons_same : (x y : ℕ) (xs ys : List ℕ) → (x == y) ≡ true → common (x ∷ xs) (y ∷ ys) ≡ x ∷ common xs ys
cons_same x y xs ys e = rw e refl

-- bytes that differ are not
pub cons_other : (x y : ℕ) (xs ys : List ℕ) → (x == y) ≡ false → common (x ∷ xs) (y ∷ ys) ≡ []
cons_other x y xs ys e = rw e refl

-- a prefix that both have
pub common_shared : (fs xs ys : List ℕ) → common (fs ++ xs) (fs ++ ys) ≡ fs ++ common xs ys
common_shared [] xs ys = refl
common_shared (a ∷ fs) xs ys = cons_same a a (fs ++ xs) (fs ++ ys) (same_self a) ∙ ap (λ l. a ∷ l) (common_shared fs xs ys)

-- a byte in front of both
eq_same : (x : ℕ) (xs ys : List ℕ) → bytes_eq (x ∷ xs) (x ∷ ys) ≡ bytes_eq xs ys
eq_same x xs ys = rw (same_self x) refl

-- the same bytes in front of both
pub eq_shared : (fs xs ys : List ℕ) → bytes_eq (fs ++ xs) (fs ++ ys) ≡ bytes_eq xs ys
eq_shared [] xs ys = refl
eq_shared (a ∷ fs) xs ys = eq_same a (fs ++ xs) (fs ++ ys) ∙ eq_shared fs xs ys

-- what is common is a prefix of both, and what follows it has nothing in common
pub record IsCommon (n : ℕ) (xs ys : List ℕ) : Type 0 where
  pub left : n ≤ length xs
  pub right : n ≤ length ys
  pub same : take n xs ≡ take n ys
  pub apart : common (drop n xs) (drop n ys) ≡ []

-- one byte more that both begin with
one_more : (n x y : ℕ) (xs ys : List ℕ) → x ≡ y → IsCommon n xs ys → IsCommon (suc n) (x ∷ xs) (y ∷ ys)
one_more n x y xs ys e h = record {
  left = omega (arith, h.left);
  right = omega (arith, h.right);
  same = rw (e, h.same) refl;
  apart = h.apart;
}

-- none
none_common : (xs ys : List ℕ) → common xs ys ≡ [] → IsCommon 0 xs ys
none_common xs ys h = record { left = omega arith; right = omega arith; same = refl; apart = h }

-- both begin with one byte
common_first : (x y : ℕ) (xs ys : List ℕ) → (x == y) ≡ true → IsCommon (length (common xs ys)) xs ys
    → IsCommon (length (common (x ∷ xs) (y ∷ ys))) (x ∷ xs) (y ∷ ys)
common_first x y xs ys e h = rw (cons_same x y xs ys e) (one_more (length (common xs ys)) x y xs ys (same_number x y e) h)

-- they begin with two
common_none : (x y : ℕ) (xs ys : List ℕ) → (x == y) ≡ false → IsCommon (length (common (x ∷ xs) (y ∷ ys))) (x ∷ xs) (y ∷ ys)
common_none x y xs ys e = rw (cons_other x y xs ys e) (none_common (x ∷ xs) (y ∷ ys) (cons_other x y xs ys e))

-- the shared prefix is one
pub is_common : (xs ys : List ℕ) → IsCommon (length (common xs ys)) xs ys
is_common [] ys = none_common [] ys refl
is_common (x ∷ xs) [] = none_common (x ∷ xs) [] refl
is_common (x ∷ xs) (y ∷ ys) = elim (cases_Bool (x == y)) [ inl e ↦ common_first x y xs ys e (is_common xs ys) | inr e ↦ common_none x y xs ys e ]

-- a list with an element is not empty
not_cons : {Q : Type 0} (x : ℕ) (xs ys : List ℕ) → ys ≡ x ∷ xs → ys ≡ [] → Q
not_cons x xs ys e h = absurd (cc)

-- where the first bytes differ, what follows does not matter
pub apart_more : (y : ℕ) (xs ys zs : List ℕ) → common xs (y ∷ ys) ≡ [] → common xs (y ∷ zs) ≡ []
apart_more y [] ys zs h = refl
apart_more y (x ∷ xs) ys zs h = elim (cases_Bool (x == y)) [ inl e ↦ not_cons x (common xs ys) _ (cons_same x y xs ys e) h | inr e ↦ cons_other x y xs zs e ]

-- texts that begin with two bytes differ
eq_other : (x y : ℕ) (xs ys : List ℕ) → (x == y) ≡ false → bytes_eq (x ∷ xs) (y ∷ ys) ≡ false
eq_other x y xs ys e = rw e refl

-- texts that share no first byte differ
pub apart_eq : (y : ℕ) (xs ys : List ℕ) → common xs (y ∷ ys) ≡ [] → bytes_eq xs (y ∷ ys) ≡ false
apart_eq y [] ys h = refl
apart_eq y (x ∷ xs) ys h = elim (cases_Bool (x == y)) [ inl e ↦ not_cons x (common xs ys) _ (cons_same x y xs ys e) h | inr e ↦ eq_other x y xs ys e ]

-- two texts with a common prefix and nothing behind it
pub differs_shared : (fs xs ys : List ℕ) → common xs ys ≡ [] → differs (fs ++ xs) (fs ++ ys) ≡ feeds fs + 1
differs_shared fs xs ys h = ap (λ l. feeds l + 1) (common_shared fs xs ys ∙ ap (λ l. fs ++ l) h ∙ append-nil fs)

-- a text that is a prefix of the other
common_prefix : (ys rest : List ℕ) → common (ys ++ rest) ys ≡ ys
common_prefix ys rest =
    ap (common (ys ++ rest)) (sym (append-nil ys)) ∙ common_shared ys rest [] ∙ ap (λ l. ys ++ l) (common-nil rest) ∙ append-nil ys

-- a text that begins with another shares all of it
pub starting_common : (xs ys : List ℕ) (r : Bool) → r ≡ starts_with (λ a b. a == b) xs ys → r ≡ true → length ys ≡ length (common xs ys)
starting_common xs ys r h t =
    let front = (starts_is Decides-eqb xs ys r h).0 t in
    sym (ap (λ l. length (common l ys)) front ∙ ap length (common_prefix ys (drop (length ys) xs)))
