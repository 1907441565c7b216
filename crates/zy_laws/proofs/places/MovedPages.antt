-- Where the keys lie of pages that leave a node, or come to it.
use Rattle.std.proofs.Common.{◌≡◌, ℕ, List, [], ◌∷◌, ◌++◌, true, sym, ap, ◌∙◌, subst, append_assoc}
use Rattle.std.specs.Prelude.{◌==◌, ◌||◌}
use Rattle.std.proofs.lemmas.Bool.{cond_both, false≢true}
use Rattle.zy_model.specs.Messages.{Page}
use Rattle.zy_table.specs.Change.{leaves}
use Rattle.zy_table.specs.Database.{sent_leaves}
use Rattle.zy_table.specs.Pages.{leaf_at, owns, with_page, without}
use Rattle.zy_table.specs.State.{Leaf, Message, View}
use Rattle.zy_laws.proofs.places.CutPages.{placed-with_page}
use Rattle.zy_laws.proofs.walk.Conditions.{arrived, rest}
use Rattle.zy_laws.proofs.places.Installing.{OnPage, Placed, placed_append, placed_front}
use Rattle.zy_laws.proofs.locks.Locking.{whole}
use Rattle.zy_laws.proofs.owner.MovingPages.{sent_leaves-append}
use Rattle.zy_laws.proofs.places.PageValues.{rest_of}

-- the pages are the same, wherever they are
pub whole_same : (v w : View) → w.me.pages ≡ v.me.pages → w.them.pages ≡ v.them.pages → sent_leaves w.inbox ≡ sent_leaves v.inbox
    → sent_leaves w.outbox ≡ sent_leaves v.outbox
    → whole w ≡ whole v
whole_same v w a b c d = λ i. a i ++ (b i ++ (c i ++ d i))

-- ---- a page leaves

-- the page of a number is one of these
leaf_on : (lows : List ℕ) (p : ℕ) (xs : List Leaf) → Placed lows xs → owns xs p ≡ true → OnPage lows (leaf_at xs p)
leaf_on lows p [] h own = absurd (false≢true own)
leaf_on lows p (x ∷ xs) h own =
    cond_both (x.number == p) x (leaf_at xs p) (λ y. OnPage lows y)
    (λ _. h.0)
    (λ off. leaf_on lows p xs h.1 (ap (λ b. b || owns xs p) (sym off) ∙ own))

-- a page less leaves the others where they lie
pub placed_without : (lows : List ℕ) (p : ℕ) (xs : List Leaf) → Placed lows xs → Placed lows (without p xs)
placed_without lows p [] h = h
placed_without lows p (x ∷ xs) h =
    cond_both (x.number == p) (without p xs) (x ∷ without p xs) (Placed lows) (λ _. placed_without lows p xs h.1) (λ _. (h.0, placed_without lows p xs h.1))

-- all pages after page p left
pub whole-leaves : (p : ℕ) (v : View) → whole (leaves p v) ≡ without p v.me.pages ++ (rest_of v ++ leaf_at v.me.pages p ∷ [])
unfolding leaves
whole-leaves p v =
    let leaf = leaf_at v.me.pages p in
    ap (λ xs. without p v.me.pages ++ (v.them.pages ++ (sent_leaves v.inbox ++ xs))) (sent_leaves-append v.outbox (Page leaf ∷ [])) ∙ simp append_assoc

-- after a page left, each row lies on its page
pub leaves_placed : (lows : List ℕ) (v : View) (p : ℕ) → Placed lows (whole v) → owns v.me.pages p ≡ true → Placed lows (whole (leaves p v))
leaves_placed lows v p h own =
    let parts = placed_front lows v.me.pages (rest_of v) h in
    let leaf = leaf_at v.me.pages p in
    subst (Placed lows) (sym (whole-leaves p v))
    (placed_append lows (without p v.me.pages) _ (placed_without lows p v.me.pages parts.0)
    (placed_append lows (rest_of v) (leaf ∷ []) parts.1 (leaf_on lows p v.me.pages parts.0 own, tt)))

-- ---- a page comes

-- all pages, with the one in front of the inbox
pub whole-front : (v : View) (leaf : Leaf) (ms : List Message) → v.inbox ≡ Page leaf ∷ ms
    → whole v ≡ v.me.pages ++ (v.them.pages ++ (leaf ∷ (sent_leaves ms ++ sent_leaves v.outbox)))
whole-front v leaf ms e = ap (λ xs. v.me.pages ++ (v.them.pages ++ (sent_leaves xs ++ sent_leaves v.outbox))) e

-- after a page arrived, each row lies on its page
pub arrived_placed : (lows : List ℕ) (v : View) (leaf : Leaf) (ms : List Message) → v.inbox ≡ Page leaf ∷ ms → Placed lows (whole v)
    → Placed lows (whole (arrived leaf (rest v ms)))
arrived_placed lows v leaf ms e h =
    let others = sent_leaves ms ++ sent_leaves v.outbox in
    let a = placed_front lows v.me.pages (v.them.pages ++ (leaf ∷ others)) (subst (Placed lows) (whole-front v leaf ms e) h) in
    let b = placed_front lows v.them.pages (leaf ∷ others) a.1 in
    placed_append lows (with_page leaf v.me.pages) (v.them.pages ++ others) (placed-with_page lows leaf v.me.pages b.1.0 a.0)
    (placed_append lows v.them.pages others b.0 b.1.1)
