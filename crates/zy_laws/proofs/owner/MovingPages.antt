-- Pages that leave, come, and are on their way.
use Rattle.std.proofs.Common.{List, [], ap, append-nil, arith, false, inl, inr, refl, suc, sym, true, zero, ℕ, ◌++◌, ◌<◌, ◌∙◌, ◌∷◌, ◌≡◌}
use Rattle.std.specs.Prelude.{◌==◌, ◌||◌}
use Rattle.std.proofs.Math.Bool.{or-false, or_assoc}
use Rattle.std.proofs.lemmas.Bool.{and_parts, cases_eq, cond_both, eqb-true, ne_eqb, or_from}
use Rattle.zy_model.specs.Messages.{Page}
use Rattle.zy_table.specs.Database.{sent_leaves}
use Rattle.zy_table.specs.Pages.{leaf_at, owns, without}
use Rattle.zy_table.specs.State.{Leaf, Message}
use Rattle.zy_table.specs.Take.{all_below}

-- the page of a number has that number
pub leaf_at-number : (xs : List Leaf) (p : ℕ) → (leaf_at xs p).number ≡ p
leaf_at-number [] p = refl
leaf_at-number (x ∷ xs) p = cond_both (x.number == p) x (leaf_at xs p) (λ (y : Leaf). y.number ≡ p) (λ h. eqb-true _ _ h) (λ _. leaf_at-number xs p)

-- where all pages below a number are here, each of them is
pub all_below-owns : (xs : List Leaf) (w p : ℕ) → all_below xs w ≡ true → p < w → owns xs p ≡ true
all_below-owns xs zero p e h = absurd (omega arith)
all_below-owns xs (suc w) p e h =
    let parts = and_parts _ _ e in
    elim (cases_eq p w) [
      | inl same ↦ rw same parts.0
      | inr other ↦ all_below-owns xs w p parts.1 (omega arith)
    ]

-- a page that left is not here, and the others are
pub owns-without : (p : ℕ) (xs : List Leaf) → owns (without p xs) p ≡ false
owns-without p [] = refl
owns-without p (x ∷ xs) =
    cond_both (x.number == p) (without p xs) (x ∷ without p xs) (λ y. owns y p ≡ false)
    (λ _. owns-without p xs)
    (λ h. or_from _ _ h (owns-without p xs))

-- a page less leaves the others
pub owns-without_other : (p q : ℕ) (xs : List Leaf) → (q ≡ p → ⊥) → owns (without p xs) q ≡ owns xs q
owns-without_other p q [] far = refl
owns-without_other p q (x ∷ xs) far =
    cond_both (x.number == p) (without p xs) (x ∷ without p xs) (λ y. owns y q ≡ owns (x ∷ xs) q)
    (λ e. let off : (x.number == q) ≡ false = ne_eqb _ _ (λ h. far (sym h ∙ eqb-true _ _ e)) in
    owns-without_other p q xs far ∙ ap (λ b. b || owns xs q) (sym off))
    (λ _. ap (λ b. (x.number == q) || b) (owns-without_other p q xs far))

-- the pages of a link with messages more
pub sent_leaves-append : (xs ys : List Message) → sent_leaves (xs ++ ys) ≡ sent_leaves xs ++ sent_leaves ys
sent_leaves-append [] ys = refl
sent_leaves-append (Page x ∷ xs) ys = ap (λ zs. x ∷ zs) (sent_leaves-append xs ys)
sent_leaves-append (m ∷ xs) ys = sent_leaves-append xs ys

-- the same of one message without a page
pub sent_bare : (ms : List Message) (m : Message) → sent_leaves (m ∷ []) ≡ [] → sent_leaves (ms ++ m ∷ []) ≡ sent_leaves ms
sent_bare ms m e = sent_leaves-append ms (m ∷ []) ∙ ap (λ xs. sent_leaves ms ++ xs) e ∙ append-nil (sent_leaves ms)

-- which pages there are in two lists, and in a link with a page more
pub owns-append : (p : ℕ) (xs ys : List Leaf) → owns (xs ++ ys) p ≡ (owns xs p || owns ys p)
owns-append p [] ys = refl
owns-append p (x ∷ xs) ys = ap (λ b. (x.number == p) || b) (owns-append p xs ys) ∙ sym (or_assoc (x.number == p) (owns xs p) (owns ys p))

-- a page that is sent is on its way, with those before it
pub owns-sent_post : (p : ℕ) (ms : List Message) (leaf : Leaf) → owns (sent_leaves (ms ++ Page leaf ∷ [])) p ≡ (owns (sent_leaves ms) p || (leaf.number == p))
owns-sent_post p ms leaf =
    ap (λ xs. owns xs p) (sent_leaves-append ms (Page leaf ∷ [])) ∙ owns-append p (sent_leaves ms) (leaf ∷ [])
    ∙ ap (λ b. owns (sent_leaves ms) p || b) (or-false (leaf.number == p))
