-- A page that moves changes no value of the database.
use Rattle.std.proofs.Common.{◌≡◌, ℕ, ◌+◌, ◌≤◌, subst, List, [], ◌∷◌, ◌++◌, true, false, refl, sym, ap, ◌∙◌, arith, inl, inr}
use Rattle.std.specs.Prelude.{◌⊎◌, ◌==◌, if◌then◌else◌, None, Option, Some, is_some}
use Rattle.std.specs.FinMap.{same_map, nat_cmp-IsAntisymmetric}
use Rattle.std.proofs.lemmas.Bool.{cases_Bool, cases_eq, cond_both, eqb-true, false≢true}
use Rattle.std.proofs.lemmas.Bool.Decides.{nat_tests}
use Rattle.std.proofs.lemmas.Cmp.{nat_cmp_total}
use Rattle.zy_isa.specs.Rows.{get_row}
use Rattle.zy_model.specs.Messages.{Page}
use Rattle.zy_model.specs.Wireframe.{page_of}
use Rattle.zy_table.specs.Change.{leaves}
use Rattle.zy_table.specs.Database.{laid_leaves, sent_leaves}
use Rattle.zy_laws.specs.OneOwner.{times}
use Rattle.zy_table.specs.Pages.{leaf_at, owns, rows_of, with_page, without}
use Rattle.zy_table.specs.State.{Leaf, Message, View}
use Rattle.zy_laws.proofs.serial.CutValues.{found-with_page, rows_of-far}
use Rattle.zy_laws.proofs.walk.Conditions.{arrived, rest}
use Rattle.zy_laws.proofs.places.Installing.{OnPage, Placed, found, found-append, get-leaves, none_else, not_found, or_else_none, placed_front}
use Rattle.zy_laws.proofs.locks.Locking.{whole}
use Rattle.zy_laws.proofs.serial.LoneRuns.{or_else}
use Rattle.zy_laws.proofs.places.MovedPages.{placed_without, whole-front, whole-leaves, whole_same}
use Rattle.zy_laws.proofs.owner.MovingPages.{owns-without}
use Rattle.zy_laws.proofs.owner.PageCounts.{owns_none, times_sent}
use Rattle.zy_laws.proofs.places.PageValues.{db, found_once, rest_lacks, rest_of}
use Rattle.zy_laws.proofs.owner.Roles.{Owned}

-- the pages are the same, and so is what they have
pub same_db : (v w : View) → w.me.pages ≡ v.me.pages → w.them.pages ≡ v.them.pages → sent_leaves w.inbox ≡ sent_leaves v.inbox
    → sent_leaves w.outbox ≡ sent_leaves v.outbox → db w ≡ db v
same_db v w a b c d = ap laid_leaves (whole_same v w a b c d)

-- ---- a page leaves

-- a key of another page does not see that p left
found-without : (lows : List ℕ) (p : ℕ) (xs : List Leaf) (k : ℕ) → Placed lows xs → (page_of lows k ≡ p → ⊥) → found (without p xs) k ≡ found xs k
found-without lows p [] k h far = refl
found-without lows p (x ∷ xs) k h far =
    cond_both (x.number == p) (without p xs) (x ∷ without p xs) (λ y. found y k ≡ found (x ∷ xs) k)
    (λ e. let none : get_row x.rows k ≡ None = none_else _ (λ is. far (h.0.each k is ∙ eqb-true _ _ e)) in
    found-without lows p xs k h.1 far ∙ ap (λ o. or_else o (found xs k)) (sym none))
    (λ _. ap (or_else (get_row x.rows k)) (found-without lows p xs k h.1 far))

-- a page that left changes no key
left_key : (lows : List ℕ) (v : View) (p k : ℕ) → Placed lows v.me.pages → Placed lows (rest_of v) → Owned v → owns v.me.pages p ≡ true → (page_of lows k ≡ p)
    ⊎ (page_of lows k ≡ p → ⊥)
    → or_else (found (without p v.me.pages) k) (or_else (found (rest_of v) k) (or_else (get_row (rows_of v.me.pages p) k) None))
    ≡ or_else (found v.me.pages k) (found (rest_of v) k)
left_key lows v p k mine theirs o own (inl here) =
    let none : found (rest_of v) k ≡ None = not_found lows (rest_of v) k theirs (rw here (rest_lacks v p o own)) in
    let gone : found (without p v.me.pages) k ≡ None = not_found lows (without p v.me.pages) k (placed_without lows p v.me.pages mine)
    (rw here (owns-without p v.me.pages)) in
    let once = o.once p in
    let most : times p v.me.pages ≤ 1 = grind (arith, nat_tests, once) in
    let all : found v.me.pages k ≡ get_row (rows_of v.me.pages p) k = found_once lows v.me.pages k mine (rw here most)
    ∙ ap (λ q. get_row (rows_of v.me.pages q) k) here in
    rw (none, gone, all) refl
left_key lows v p k mine theirs o own (inr far) =
    let none = rows_of-far lows p v.me.pages k mine far in
    let same = found-without lows p v.me.pages k mine far in
    rw (none, same) (ap (or_else (found v.me.pages k)) (or_else_none (found (rest_of v) k)))

-- a page that leaves changes no value of the database
pub leaves_db : (lows : List ℕ) (v : View) (p : ℕ) (ms : List Message) → Placed lows (whole v) → Owned v → sent_leaves ms ≡ sent_leaves v.inbox
    → owns v.me.pages p ≡ true → db (leaves p (rest v ms)) ≡ db v
leaves_db lows v p ms placed o inbox own =
    same_map nat_cmp_total nat_cmp-IsAntisymmetric _ _ (λ k.
    let parts = placed_front lows v.me.pages (rest_of v) placed in
    let leaf : Leaf = leaf_at v.me.pages p in
    let pages : whole (leaves p (rest v ms)) ≡ without p v.me.pages ++ (rest_of v ++ leaf ∷ []) =
    whole-leaves p (rest v ms) ∙ ap (λ xs. without p v.me.pages ++ ((v.them.pages ++ (xs ++ sent_leaves v.outbox)) ++ leaf ∷ [])) inbox in
    let after : found (without p v.me.pages ++ (rest_of v ++ leaf ∷ [])) k ≡ or_else (found (without p v.me.pages) k)
    (or_else (found (rest_of v) k) (or_else (get_row leaf.rows k) None)) =
    found-append (without p v.me.pages) (rest_of v ++ leaf ∷ []) k ∙ ap (or_else (found (without p v.me.pages) k)) (found-append (rest_of v) (leaf ∷ []) k) in
    get-leaves (whole (leaves p (rest v ms))) k ∙ ap (λ xs. found xs k) pages ∙ after ∙ left_key lows v p k parts.0 parts.1 o own (cases_eq (page_of lows k) p)
    ∙ sym (found-append v.me.pages (rest_of v) k) ∙ sym (get-leaves (whole v) k))

-- ---- a page comes

-- values may change places where one of two is none
come_values : (l m t r : Option ℕ) → (l ≡ None) ⊎ ((m ≡ None) × (t ≡ None)) → or_else (or_else l m) (or_else t r) ≡ or_else m (or_else t (or_else l r))
come_values None m t r h = refl
come_values (Some x) m t r (inl e) = cc
come_values (Some x) m t r (inr e) = rw (e.0, e.1) refl

-- the page that comes, or both nodes, lack the key
come_apart : (lows : List ℕ) (v : View) (leaf : Leaf) (ms : List Message) (k : ℕ) → v.inbox ≡ Page leaf ∷ ms → Owned v → OnPage lows leaf
    → Placed lows v.me.pages → Placed lows v.them.pages
    → (is_some (get_row leaf.rows k) ≡ true) ⊎ (is_some (get_row leaf.rows k) ≡ false) → (get_row leaf.rows k ≡ None)
    ⊎ ((found v.me.pages k ≡ None) × (found v.them.pages k ≡ None))
come_apart lows v leaf ms k e o on mine theirs (inr none) = inl (none_else _ (λ is. false≢true (sym none ∙ is)))
come_apart lows v leaf ms k e o on mine theirs (inl some) =
    let here = on.each k some in
    let p = leaf.number in
    let once = o.once p in
    let sent : times_sent p v.inbox ≡ (if p == p then 1 else 0) + times_sent p ms = ap (times_sent p) e in
    let a = owns_none p v.me.pages (grind (arith, nat_tests, once, sent)) in
    let b = owns_none p v.them.pages (grind (arith, nat_tests, once, sent)) in
    inr (not_found lows v.me.pages k mine (ap (owns v.me.pages) here ∙ a), not_found lows v.them.pages k theirs (ap (owns v.them.pages) here ∙ b))

-- a page that arrives changes no value of the database
pub arrived_db : (lows : List ℕ) (v : View) (leaf : Leaf) (ms : List Message) → v.inbox ≡ Page leaf ∷ ms → Placed lows (whole v) → Owned v
    → db (arrived leaf (rest v ms)) ≡ db v
arrived_db lows v leaf ms e h o =
    let others = sent_leaves ms ++ sent_leaves v.outbox in
    let a = placed_front lows v.me.pages (v.them.pages ++ (leaf ∷ others)) (subst (Placed lows) (whole-front v leaf ms e) h) in
    let b = placed_front lows v.them.pages (leaf ∷ others) a.1 in
    same_map nat_cmp_total nat_cmp-IsAntisymmetric _ _ (λ k.
    let apart = come_apart lows v leaf ms k e o b.1.0 a.0 b.0 (cases_Bool (is_some (get_row leaf.rows k))) in
    let m = found v.me.pages k in
    let t = found v.them.pages k in
    let either : (get_row leaf.rows k ≡ None) ⊎ (m ≡ None) = elim apart [ inl x ↦ inl x | inr x ↦ inr x.0 ] in
    let after : found (with_page leaf v.me.pages ++ (v.them.pages ++ others)) k ≡ or_else (or_else (get_row leaf.rows k) m) (or_else t (found others k)) =
    found-append (with_page leaf v.me.pages) (v.them.pages ++ others) k ∙ ap (λ z. or_else z (found (v.them.pages ++ others) k))
    (found-with_page leaf v.me.pages k either)
    ∙ ap (or_else (or_else (get_row leaf.rows k) m)) (found-append v.them.pages others k) in
    let before : found (v.me.pages ++ (v.them.pages ++ (leaf ∷ others))) k ≡ or_else m (or_else t (or_else (get_row leaf.rows k) (found others k))) =
    found-append v.me.pages (v.them.pages ++ (leaf ∷ others)) k ∙ ap (or_else m) (found-append v.them.pages (leaf ∷ others) k) in
    get-leaves (with_page leaf v.me.pages ++ (v.them.pages ++ others)) k ∙ after ∙ come_values (get_row leaf.rows k) m t (found others k) apart ∙ sym before
    ∙ ap (λ xs. found xs k) (sym (whole-front v leaf ms e)) ∙ sym (get-leaves (whole v) k))
