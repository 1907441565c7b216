-- A split changes no value of the database.
use Rattle.std.proofs.Common.{◌≡◌, ℕ, ◌≤◌, List, [], ◌∷◌, ◌++◌, length, Bool, true, false, refl, sym, ap, ◌∙◌, arith, inl, inr}
use Rattle.std.specs.Prelude.{◌⊎◌, if◌then◌else◌, ◌==◌, nat_lt, Option, Some, None}
use Rattle.std.proofs.lemmas.Bool.{cond_both, cases_Bool, eqb-true, eqb-false, cases_eq}
use Rattle.std.proofs.lemmas.Bool.Decides.{nat_tests}
use Rattle.std.proofs.lemmas.Cmp.{nat_cmp_total}
use Rattle.std.specs.FinMap.{same_map, nat_cmp-IsAntisymmetric}
use Rattle.zy_isa.specs.Rows.{get_row}
use Rattle.zy_model.specs.Leaf.{Leaf, rows_below, rows_from}
use Rattle.zy_model.specs.Wireframe.{page_of}
use Rattle.zy_table.specs.Change.{cut}
use Rattle.zy_laws.specs.OneOwner.{times}
use Rattle.zy_table.specs.Pages.{leaf_at, lowered, owns, rows_of, with_page}
use Rattle.zy_table.specs.State.{View}
use Rattle.zy_model.proofs.Parted.{get_row-rows_below, get_row-rows_from}
use Rattle.zy_laws.proofs.places.Installing.{Placed, found, found-append, get-leaves, if_none, none_else, not_found, or_else_assoc, or_else_none, placed_front}
use Rattle.zy_laws.proofs.locks.Locking.{whole}
use Rattle.zy_laws.proofs.serial.LoneRuns.{or_else}
use Rattle.zy_laws.proofs.places.PageValues.{db, found_once, rest_lacks, rest_of}
use Rattle.zy_laws.proofs.owner.Roles.{Owned}

-- ---- a page put in its place, where it and the others do not both have a key

-- where neither has a value, each has none
or_else_parts : (a b : Option ℕ) → or_else a b ≡ None → (a ≡ None) × (b ≡ None)
or_else_parts None b h = (refl, h)
or_else_parts (Some v) b h = cc

-- a page more that lacks a key changes nothing at it
found_none : (leaf : Leaf) (xs : List Leaf) (k : ℕ) → get_row leaf.rows k ≡ None → found (with_page leaf xs) k ≡ found xs k
found_none leaf [] k h = rw h refl
found_none leaf (x ∷ xs) k h =
    cond_both (nat_lt leaf.number x.number) (leaf ∷ x ∷ xs) (x ∷ with_page leaf xs) (λ y. found y k ≡ found (x ∷ xs) k)
    (λ _. ap (λ o. or_else o (found (x ∷ xs) k)) h)
    (λ _. ap (or_else (get_row x.rows k)) (found_none leaf xs k h))

-- a page more is found where the others lack the key
found_some : (leaf : Leaf) (xs : List Leaf) (k : ℕ) → found xs k ≡ None → found (with_page leaf xs) k ≡ get_row leaf.rows k
found_some leaf [] k h = or_else_none (get_row leaf.rows k)
found_some leaf (x ∷ xs) k h =
    let parts = or_else_parts (get_row x.rows k) (found xs k) h in
    cond_both (nat_lt leaf.number x.number) (leaf ∷ x ∷ xs) (x ∷ with_page leaf xs) (λ y. found y k ≡ get_row leaf.rows k)
    (λ _. ap (or_else (get_row leaf.rows k)) h ∙ or_else_none (get_row leaf.rows k))
    (λ _. ap (λ o. or_else o (found (with_page leaf xs) k)) parts.0 ∙ found_some leaf xs k parts.1)

-- a page more is found first, where the two share no key
pub found-with_page : (leaf : Leaf) (xs : List Leaf) (k : ℕ) → (get_row leaf.rows k ≡ None) ⊎ (found xs k ≡ None)
    → found (with_page leaf xs) k ≡ or_else (get_row leaf.rows k) (found xs k)
found-with_page leaf xs k (inl h) = found_none leaf xs k h ∙ ap (λ o. or_else o (found xs k)) (sym h)
found-with_page leaf xs k (inr h) = found_some leaf xs k h ∙ sym (or_else_none (get_row leaf.rows k)) ∙ ap (or_else (get_row leaf.rows k)) (sym h)

-- a page lacks the keys that lie on another one
pub rows_of-far : (lows : List ℕ) (p : ℕ) (xs : List Leaf) (k : ℕ) → Placed lows xs → (page_of lows k ≡ p → ⊥) → get_row (rows_of xs p) k ≡ None
rows_of-far lows p [] k h far = refl
rows_of-far lows p (x ∷ xs) k h far =
    cond_both (x.number == p) x (leaf_at xs p) (λ y. get_row y.rows k ≡ None)
    (λ e. none_else _ (λ is. far (h.0.each k is ∙ eqb-true _ _ e)))
    (λ _. rows_of-far lows p xs k h.1 far)

-- ---- keys of other pages, keys below the boundary, and the others of p

-- nothing under either test is nothing
if_both : (b : Bool) (o : Option ℕ) → o ≡ None → (if b then None else o) ≡ None
if_both true o h = refl
if_both false o h = h

-- cutting a page leaves the keys of the others
lowered_far : (lows : List ℕ) (p b : ℕ) (xs : List Leaf) (k : ℕ) → Placed lows xs → (page_of lows k ≡ p → ⊥) → found (lowered p b xs) k ≡ found xs k
lowered_far lows p b [] k h far = refl
lowered_far lows p b (x ∷ xs) k h far =
    cond_both (x.number == p) (rows_below b x.rows) x.rows (λ rows. or_else (get_row rows k) (found (lowered p b xs) k) ≡ found (x ∷ xs) k)
    (λ e. let none : get_row x.rows k ≡ None = none_else _ (λ is. far (h.0.each k is ∙ eqb-true _ _ e)) in
    let none' : get_row (rows_below b x.rows) k ≡ None = get_row-rows_below b x.rows k ∙ if_none (nat_lt k b) (get_row x.rows k) none in
    rw (none', none) (lowered_far lows p b xs k h.1 far))
    (λ _. ap (or_else (get_row x.rows k)) (lowered_far lows p b xs k h.1 far))

-- cutting a page leaves the keys below the boundary
lowered_below : (p b : ℕ) (xs : List Leaf) (k : ℕ) → nat_lt k b ≡ true → found (lowered p b xs) k ≡ found xs k
lowered_below p b [] k h = refl
lowered_below p b (x ∷ xs) k h =
    let same : get_row (rows_below b x.rows) k ≡ get_row x.rows k = get_row-rows_below b x.rows k ∙ ap (λ t. if t then get_row x.rows k else None) h in
    cond_both (x.number == p) (rows_below b x.rows) x.rows (λ rows. or_else (get_row rows k) (found (lowered p b xs) k) ≡ found (x ∷ xs) k)
    (λ _. rw same (ap (or_else (get_row x.rows k)) (lowered_below p b xs k h)))
    (λ _. ap (or_else (get_row x.rows k)) (lowered_below p b xs k h))

-- the cut page lacks the keys from the boundary on
lowered_above : (lows : List ℕ) (p b : ℕ) (xs : List Leaf) (k : ℕ) → Placed lows xs → page_of lows k ≡ p → nat_lt k b ≡ false → found (lowered p b xs) k ≡ None
lowered_above lows p b [] k h here above = refl
lowered_above lows p b (x ∷ xs) k h here above =
    cond_both (x.number == p) (rows_below b x.rows) x.rows (λ rows. or_else (get_row rows k) (found (lowered p b xs) k) ≡ None)
    (λ _. let none : get_row (rows_below b x.rows) k ≡ None = get_row-rows_below b x.rows k ∙ ap (λ t. if t then get_row x.rows k else None) above in
    rw none (lowered_above lows p b xs k h.1 here above))
    (λ e. let none : get_row x.rows k ≡ None = none_else _ (λ is. eqb-false _ _ e (sym (h.0.each k is) ∙ here)) in
    rw none (lowered_above lows p b xs k h.1 here above))

-- the new page and the others share no key
cut_apart : (lows : List ℕ) (p b : ℕ) (xs : List Leaf) (k : ℕ) → Placed lows xs
    → (page_of lows k ≡ p) ⊎ (page_of lows k ≡ p → ⊥) → (nat_lt k b ≡ true) ⊎ (nat_lt k b ≡ false)
    → (get_row (rows_from b (rows_of xs p)) k ≡ None) ⊎ (found (lowered p b xs) k ≡ None)
cut_apart lows p b xs k h (inr far) side = inl (get_row-rows_from b (rows_of xs p) k ∙ if_both (nat_lt k b) _ (rows_of-far lows p xs k h far))
cut_apart lows p b xs k h (inl here) (inl below) = inl (get_row-rows_from b (rows_of xs p) k ∙ ap (λ t. if t then None else get_row (rows_of xs p) k) below)
cut_apart lows p b xs k h (inl here) (inr above) = inr (lowered_above lows p b xs k h here above)

-- a split changes no key
cut_key : (lows : List ℕ) (v : View) (p b k : ℕ) → Placed lows v.me.pages → Placed lows (rest_of v) → Owned v → owns v.me.pages p ≡ true
    → (page_of lows k ≡ p) ⊎ (page_of lows k ≡ p → ⊥) → (nat_lt k b ≡ true) ⊎ (nat_lt k b ≡ false)
    → or_else (get_row (rows_from b (rows_of v.me.pages p)) k) (or_else (found (lowered p b v.me.pages) k) (found (rest_of v) k))
    ≡ or_else (found v.me.pages k) (found (rest_of v) k)
cut_key lows v p b k mine theirs o own (inr far) side =
    let none : get_row (rows_from b (rows_of v.me.pages p)) k ≡ None = get_row-rows_from b (rows_of v.me.pages p) k
    ∙ if_both (nat_lt k b) _ (rows_of-far lows p v.me.pages k mine far) in
    rw (none, lowered_far lows p b v.me.pages k mine far) refl
cut_key lows v p b k mine theirs o own (inl here) (inl below) =
    let none : get_row (rows_from b (rows_of v.me.pages p)) k ≡ None = get_row-rows_from b (rows_of v.me.pages p) k
    ∙ ap (λ t. if t then None else get_row (rows_of v.me.pages p) k) below in
    rw (none, lowered_below p b v.me.pages k below) refl
cut_key lows v p b k mine theirs o own (inl here) (inr above) =
    let moved : get_row (rows_from b (rows_of v.me.pages p)) k ≡ get_row (rows_of v.me.pages p) k =
    get_row-rows_from b (rows_of v.me.pages p) k ∙ ap (λ t. if t then None else get_row (rows_of v.me.pages p) k) above in
    let gone = lowered_above lows p b v.me.pages k mine here above in
    let none : found (rest_of v) k ≡ None = not_found lows (rest_of v) k theirs (rw here (rest_lacks v p o own)) in
    let once = o.once p in
    let most : times p v.me.pages ≤ 1 = grind (arith, nat_tests, once) in
    let all : found v.me.pages k ≡ get_row (rows_of v.me.pages p) k = found_once lows v.me.pages k mine (rw here most)
    ∙ ap (λ q. get_row (rows_of v.me.pages q) k) here in
    rw (moved, gone, none, all) refl

-- a split changes no value of the database
pub cut_db : (lows : List ℕ) (v : View) (t p b : ℕ) → Placed lows (whole v) → Owned v → owns v.me.pages p ≡ true → db (cut t p b v) ≡ db v
unfolding cut
cut_db lows v t p b placed o own =
    same_map nat_cmp_total nat_cmp-IsAntisymmetric _ _ (λ k.
    let parts = placed_front lows v.me.pages (rest_of v) placed in
    let rows = rows_of v.me.pages p in
    let leaf : Leaf = record { number = length v.me.lows; low = b; rows = rows_from b rows } in
    let put =
    found-with_page leaf (lowered p b v.me.pages) k (cut_apart lows p b v.me.pages k parts.0 (cases_eq (page_of lows k) p) (cases_Bool (nat_lt k b))) in
    let after : found (with_page leaf (lowered p b v.me.pages) ++ rest_of v) k
    ≡ or_else (get_row (rows_from b rows) k) (or_else (found (lowered p b v.me.pages) k) (found (rest_of v) k)) =
    found-append (with_page leaf (lowered p b v.me.pages)) (rest_of v) k ∙ ap (λ o. or_else o (found (rest_of v) k)) put
    ∙ or_else_assoc (get_row (rows_from b rows) k) (found (lowered p b v.me.pages) k) (found (rest_of v) k) in
    let before : found (whole v) k ≡ or_else (found v.me.pages k) (found (rest_of v) k) = found-append v.me.pages (rest_of v) k in
    get-leaves (with_page leaf (lowered p b v.me.pages) ++ rest_of v) k ∙ after
    ∙ cut_key lows v p b k parts.0 parts.1 o own (cases_eq (page_of lows k) p) (cases_Bool (nat_lt k b)) ∙ sym before ∙ sym (get-leaves (whole v) k))
