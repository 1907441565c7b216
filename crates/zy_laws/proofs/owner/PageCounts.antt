-- How often a page is in lists of pages.
use Rattle.std.proofs.Common.{List, [], ap, arith, false, inl, inr, refl, true, ℕ, ◌++◌, ◌+◌, ◌∙◌, ◌∷◌, ◌≡◌, ◌≤◌}
use Rattle.std.specs.Prelude.{if◌then◌else◌, nat_lt, ◌==◌}
use Rattle.std.proofs.lemmas.Bool.{cond_both, eqb-true, eqb-false, cases_eq, eq-eqb, false_from_ne_true, false≢true, or_cases, or_left, or_right}
use Rattle.std.proofs.lemmas.Bool.Decides.{nat_tests}
use Rattle.zy_isa.specs.declared.row.Row.{Row}
use Rattle.zy_table.specs.Change.{installed}
use Rattle.zy_table.specs.Database.{all_leaves, sent_leaves}
use Rattle.zy_model.specs.Messages.{Page}
use Rattle.zy_laws.specs.OneOwner.{times}
use Rattle.zy_table.specs.Pages.{lowered, owns, with_page, without}
use Rattle.zy_table.specs.State.{Leaf, Message, State}

-- how often page p is in a message, and in a link
abbrev pub times_in : ℕ → Message → ℕ
times_in p (Page leaf) = if leaf.number == p then 1 else 0
times_in p m = 0

-- how often page p is in a link
abbrev pub times_sent : ℕ → List Message → ℕ
times_sent p [] = 0
times_sent p (m ∷ ms) = times_in p m + times_sent p ms

-- a page that is owned is counted
pub owns-times : (p : ℕ) (xs : List Leaf) → owns xs p ≡ true → 1 ≤ times p xs
owns-times p [] e = absurd (false≢true e)
owns-times p (x ∷ xs) e =
    elim (or_cases (x.number == p) (owns xs p) e) [
      | inl h ↦ grind (arith, nat_tests)
      | inr h ↦ let k = owns-times p xs h in grind (arith, nat_tests)
    ]

-- a page that is counted is owned
pub owns_from : (p : ℕ) (xs : List Leaf) → 1 ≤ times p xs → owns xs p ≡ true
owns_from p [] h = absurd (omega arith)
owns_from p (x ∷ xs) h =
    elim (cases_eq x.number p) [
      | inl e ↦ or_left _ _ (eq-eqb _ _ e)
      | inr e ↦ or_right _ _ (owns_from p xs (let k : 1 ≤ (if x.number == p then 1 else 0) + times p xs = h in grind (arith, nat_tests, k, e)))
    ]

-- a page that is not counted is not owned
pub owns_none : (p : ℕ) (xs : List Leaf) → times p xs ≡ 0 → owns xs p ≡ false
owns_none p xs h = false_from_ne_true _ (λ own. let k = owns-times p xs own in absurd (omega (arith, k, h)))

-- two lists count a page as often as both
pub times-append : (p : ℕ) (xs ys : List Leaf) → times p (xs ++ ys) ≡ times p xs + times p ys
times-append p [] ys = omega arith
times-append p (x ∷ xs) ys = omega (arith, times-append p xs ys)

-- the pages of a link are counted in the link
pub times-sent_leaves : (p : ℕ) (ms : List Message) → times p (sent_leaves ms) ≡ times_sent p ms
times-sent_leaves p [] = refl
times-sent_leaves p (Page leaf ∷ ms) = ap (λ n. (if leaf.number == p then 1 else 0) + n) (times-sent_leaves p ms)
times-sent_leaves p (m ∷ ms) = times-sent_leaves p ms ∙ omega arith

-- all pages are those of both nodes and both links
pub times-all_leaves : (p : ℕ) (s : State) → times p (all_leaves s) ≡ (times p s.a.pages + times p s.b.pages) + (times_sent p s.ab + times_sent p s.ba)
times-all_leaves p s =
    let ba = times-sent_leaves p s.ba in
    let ab = times-sent_leaves p s.ab in
    let links = times-append p (sent_leaves s.ba) (sent_leaves s.ab) in
    let b = times-append p s.b.pages (sent_leaves s.ba ++ sent_leaves s.ab) in
    let a = times-append p s.a.pages (s.b.pages ++ (sent_leaves s.ba ++ sent_leaves s.ab)) in
    omega (arith, a, b, links, ba, ab)

-- installing rows leaves the counts
pub times-installed : (p : ℕ) (lows : List ℕ) (rows : List Row) (xs : List Leaf) → times p (installed lows rows xs) ≡ times p xs
times-installed p lows rows [] = refl
times-installed p lows rows (x ∷ xs) = ap (λ n. (if x.number == p then 1 else 0) + n) (times-installed p lows rows xs)

-- a page more adds one to the count
pub times-with_page : (p : ℕ) (leaf : Leaf) (xs : List Leaf) → times p (with_page leaf xs) ≡ (if leaf.number == p then 1 else 0) + times p xs
times-with_page p leaf [] = refl
times-with_page p leaf (x ∷ xs) =
    let e = times-with_page p leaf xs in
    cond_both (nat_lt leaf.number x.number) (leaf ∷ x ∷ xs) (x ∷ with_page leaf xs) (λ y. times p y ≡ (if leaf.number == p then 1 else 0) + times p (x ∷ xs))
    (λ _. refl)
    (λ _. omega (arith, e))

-- cutting a page's rows leaves the counts
pub times-lowered : (q b p : ℕ) (xs : List Leaf) → times p (lowered q b xs) ≡ times p xs
times-lowered q b p [] = refl
times-lowered q b p (x ∷ xs) = ap (λ n. (if x.number == p then 1 else 0) + n) (times-lowered q b p xs)

-- a message at the end of a link is counted
pub times_sent-post : (p : ℕ) (ms : List Message) (m : Message) → times_sent p (ms ++ m ∷ []) ≡ times_sent p ms + times_in p m
times_sent-post p [] m = omega arith
times_sent-post p (x ∷ xs) m = omega (arith, times_sent-post p xs m)

-- a list without a page does not count it, and counts the others as before
pub times-without : (q p : ℕ) (xs : List Leaf) → times q (without p xs) ≡ (if p == q then 0 else times q xs)
times-without q p [] = grind (arith, nat_tests)
times-without q p (x ∷ xs) =
    let e = times-without q p xs in
    cond_both (x.number == p) (without p xs) (x ∷ without p xs) (λ y. times q y ≡ (if p == q then 0 else times q (x ∷ xs)))
    (λ h. let k = eqb-true _ _ h in grind (arith, nat_tests, e, k))
    (λ h. let k = eqb-false _ _ h in elim (cases_eq p q) [ inl same ↦ grind (arith, nat_tests, e, k, same) | inr far ↦ grind (arith, nat_tests, e, k, far) ])
