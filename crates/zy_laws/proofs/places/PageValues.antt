-- What the database has at a key, by the page that it lies on.
use Rattle.std.proofs.Common.{List, [], ap, arith, false, inl, inr, refl, sym, true, ℕ, ◌++◌, ◌∙◌, ◌∷◌, ◌≡◌, ◌≤◌}
use Rattle.std.specs.Prelude.{None, Option, Some, if◌then◌else◌, unwrap_or, ◌==◌}
use Rattle.std.specs.FinMap.{get}
use Rattle.std.proofs.lemmas.Bool.{cases_eq, eq-eqb, false_from_ne_true, ne_eqb}
use Rattle.std.proofs.lemmas.Bool.Decides.{nat_tests}
use Rattle.zy_isa.specs.Rows.{get_row}
use Rattle.zy_table.specs.Database.{Map, laid_leaves, sent_leaves}
use Rattle.zy_laws.specs.OneOwner.{times}
use Rattle.zy_table.specs.Pages.{leaf_at, owns, rows_of}
use Rattle.zy_table.specs.State.{Leaf, View}
use Rattle.zy_model.specs.Wireframe.{page_of}
use Rattle.zy_laws.proofs.places.Installing.{Placed, found, found-append, get-leaves, none_else, not_found, or_else_none, placed_front}
use Rattle.zy_laws.proofs.locks.Locking.{whole}
use Rattle.zy_laws.proofs.serial.LoneRuns.{or_else}
use Rattle.zy_laws.proofs.owner.PageCounts.{owns-times, times-append, times-sent_leaves}
use Rattle.zy_laws.proofs.owner.Roles.{Owned}

-- what all pages have
abbrev pub db : View → Map
db v = laid_leaves (whole v)

-- all pages but n's own
abbrev pub rest_of : View → List Leaf
rest_of v = v.them.pages ++ (sent_leaves v.inbox ++ sent_leaves v.outbox)

-- a page that is here is nowhere else
pub rest_lacks : (v : View) (p : ℕ) → Owned v → owns v.me.pages p ≡ true → owns (rest_of v) p ≡ false
rest_lacks v p o own =
    false_from_ne_true _ (λ h.
    let one = owns-times p v.me.pages own in
    let two = owns-times p (rest_of v) h in
    let k = o.once p in
    let a = times-append p v.them.pages (sent_leaves v.inbox ++ sent_leaves v.outbox) in
    let b = times-append p (sent_leaves v.inbox) (sent_leaves v.outbox) in
    let c = times-sent_leaves p v.inbox in
    let d = times-sent_leaves p v.outbox in
    grind (arith, nat_tests, k, a, b, c, d))

-- the rows of the first page by its number
pub rows_of-here : (x : Leaf) (xs : List Leaf) (p : ℕ) → (x.number == p) ≡ true → rows_of (x ∷ xs) p ≡ x.rows
rows_of-here x xs p h = ap (λ b. (if b then x else leaf_at xs p).rows) h

-- the rows of another page are those behind the first
pub rows_of-past : (x : Leaf) (xs : List Leaf) (p : ℕ) → (x.number == p) ≡ false → rows_of (x ∷ xs) p ≡ rows_of xs p
rows_of-past x xs p h = ap (λ b. (if b then x else leaf_at xs p).rows) h

-- a page is once in a list: what the list has at a key is what that page has
pub found_once : (lows : List ℕ) (xs : List Leaf) (k : ℕ) → Placed lows xs → times (page_of lows k) xs ≤ 1
    → found xs k ≡ get_row (rows_of xs (page_of lows k)) k
found_once lows [] k p h = refl
found_once lows (x ∷ xs) k p h =
    elim (cases_eq x.number (page_of lows k)) [
      | inl here ↦
          let yes : (x.number == page_of lows k) ≡ true = eq-eqb _ _ here in
          let few : times (page_of lows k) xs ≡ 0 = grind (arith, nat_tests, h, yes) in
          let none : found xs k ≡ None =
          not_found lows xs k p.1 (false_from_ne_true _ (λ own. let n = owns-times (page_of lows k) xs own in absurd (omega (arith, n, few)))) in
          ap (or_else (get_row x.rows k)) none ∙ or_else_none (get_row x.rows k) ∙ ap (λ rows. get_row rows k) (sym (rows_of-here x xs (page_of lows k) yes))
      | inr far ↦
          let off : (x.number == page_of lows k) ≡ false = ne_eqb _ _ far in
          let none : get_row x.rows k ≡ None = none_else _ (λ is. far (sym (p.0.each k is))) in
          let less : times (page_of lows k) xs ≤ 1 = omega (arith, h) in
          ap (λ o. or_else o (found xs k)) none ∙ found_once lows xs k p.1 less ∙ ap (λ rows. get_row rows k) (sym (rows_of-past x xs (page_of lows k) off))
    ]

-- what the database has at a key whose page is here is what the page has
pub page_value : (lows : List ℕ) (v : View) (k : ℕ) → Placed lows (whole v) → Owned v → owns v.me.pages (page_of lows k) ≡ true
    → get (db v) k ≡ get_row (rows_of v.me.pages (page_of lows k)) k
page_value lows v k placed o own =
    let parts = placed_front lows v.me.pages (rest_of v) placed in
    let none = not_found lows (rest_of v) k parts.1 (rest_lacks v (page_of lows k) o own) in
    let once = o.once (page_of lows k) in
    let most : times (page_of lows k) v.me.pages ≤ 1 = grind (arith, nat_tests, once) in
    get-leaves (whole v) k ∙ found-append v.me.pages (rest_of v) k ∙ ap (or_else (found v.me.pages k)) none ∙ or_else_none (found v.me.pages k)
    ∙ found_once lows v.me.pages k parts.0 most

-- what is read: the private row, else the committed one, else 0
pub value_same : (a b : Option ℕ) → unwrap_or (or_else a b) 0 ≡ unwrap_or a (unwrap_or b 0)
value_same None b = refl
value_same (Some v) b = refl
