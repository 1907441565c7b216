-- Where the order is in two parts, each transaction of the front stands before those of the back.
use Rattle.std.proofs.Common.{Bool, List, [], ap, arith, false, length, refl, subst, suc, sym, true, ℕ, if◌then◌else◌, ◌++◌, ◌+◌, ◌<◌, ◌≤◌, ◌∙◌, ◌∷◌, ◌≡◌}
use Rattle.std.specs.Prelude.{◌==◌}
use Rattle.std.specs.List.{sum_by}
use Rattle.std.specs.List.Sorted.{IsPermutation}
use Rattle.std.proofs.lemmas.Bool.{cond_both, eqb-true, false≢true}
use Rattle.std.proofs.lemmas.List.Sorted.{sum_by-IsPermutation}
use Rattle.std.proofs.lemmas.List.Sums.{sum_by-cons}
use Rattle.zy_table.specs.declared.entry.CommitRecord.{CommitRecord}
use Rattle.zy_table.specs.declared.status.Status.{Status}
use Rattle.zy_table.specs.Serial.{times_listed}
use Rattle.zy_table.specs.State.{Txn}
use Rattle.zy_laws.specs.RealTime.{place}

-- none of these commits is of a transaction whose status is so
abbrev pub NoneIs : (Status → Bool) → (ℕ → Txn) → List CommitRecord → Type 0
NoneIs so txns [] = Unit {0}
NoneIs so txns (c ∷ cs) = (so (txns c.txn).status ≡ false) × NoneIs so txns cs

-- a transaction whose status is so has none of them
pub none_listed : (so : Status → Bool) (f : ℕ → Txn) (t : ℕ) (cs : List CommitRecord) → NoneIs so f cs → so (f t).status ≡ true → times_listed t cs ≡ 0
none_listed so f t [] none is = refl
none_listed so f t (c ∷ cs) none is =
    cond_both (c.txn == t) 1 0 (λ n. n + times_listed t cs ≡ 0)
    (λ same. absurd (false≢true (sym none.0 ∙ ap (λ u. so (f u).status) (eqb-true c.txn t same) ∙ is)))
    (λ far. let rest = none_listed so f t cs none.1 is in omega (arith, rest))

-- in two lists a transaction is listed as often as in both together
pub listed_both : (t : ℕ) (xs ys : List CommitRecord) → times_listed t (xs ++ ys) ≡ times_listed t xs + times_listed t ys
listed_both t [] ys = omega arith
listed_both t (c ∷ xs) ys = let more = listed_both t xs ys in omega (arith, more)

-- how often a transaction is listed, as a sum
listed_sum : (t : ℕ) (cs : List CommitRecord) → times_listed t cs ≡ sum_by (λ (c : CommitRecord). if c.txn == t then 1 else 0) cs
listed_sum t [] = refl
listed_sum t (c ∷ cs) =
    ap (λ n. (if c.txn == t then 1 else 0) + n) (listed_sum t cs) ∙ sym (sum_by-cons (λ (d : CommitRecord). if d.txn == t then 1 else 0) c cs)

-- a list rearranged has it as often
pub listed_permuted : (t : ℕ) (xs ys : List CommitRecord) → IsPermutation xs ys → times_listed t ys ≡ times_listed t xs
listed_permuted t xs ys same =
    listed_sum t ys ∙ sum_by-IsPermutation (λ (c : CommitRecord). if c.txn == t then 1 else 0) xs ys same ∙ sym (listed_sum t xs)

-- who is in the front stands in it
pub place_front : (t : ℕ) (xs ys : List CommitRecord) → 1 ≤ times_listed t xs → place t (xs ++ ys) < length xs
place_front t [] ys there = absurd (omega (arith, there))
place_front t (c ∷ xs) ys there =
    cond_both (c.txn == t) 0 (suc (place t (xs ++ ys))) (λ n. n < suc (length xs)) (λ same. omega arith)
    (λ far.
    let rest : 1 ≤ 0 + times_listed t xs = subst (λ b. 1 ≤ (if b then 1 else 0) + times_listed t xs) far there in
    let more = place_front t xs ys (omega (arith, rest)) in
    omega (arith, more))

-- who is not stands behind it
pub place_back : (t : ℕ) (xs ys : List CommitRecord) → times_listed t xs ≡ 0 → length xs ≤ place t (xs ++ ys)
place_back t [] ys off = omega arith
place_back t (c ∷ xs) ys off =
    cond_both (c.txn == t) 0 (suc (place t (xs ++ ys))) (λ n. suc (length xs) ≤ n)
    (λ same. let one : 1 + times_listed t xs ≡ 0 = subst (λ b. (if b then 1 else 0) + times_listed t xs ≡ 0) same off in absurd (omega (arith, one)))
    (λ far.
    let rest : 0 + times_listed t xs ≡ 0 = subst (λ b. (if b then 1 else 0) + times_listed t xs ≡ 0) far off in
    let more = place_back t xs ys (omega (arith, rest)) in
    omega (arith, more))

-- where the back has nothing of t's status and the front nothing of u's, t, which is listed, stands before u
pub stands_before : (early late : Status → Bool) (f : ℕ → Txn) (t u : ℕ) (cs front back : List CommitRecord) → IsPermutation cs (front ++ back)
    → times_listed t cs ≡ 1 → NoneIs late f front → NoneIs early f back → early (f t).status ≡ true → late (f u).status ≡ true
    → place t (front ++ back) < place u (front ++ back)
stands_before early late f t u cs front back same once a b is new =
    let off = none_listed early f t back b is in
    let parts = listed_both t front back in
    let there : times_listed t (front ++ back) ≡ 1 = listed_permuted t cs (front ++ back) same ∙ once in
    let first = place_front t front back (omega (arith, off, parts, there)) in
    let second = place_back u front back (none_listed late f u front a new) in
    omega (arith, first, second)
