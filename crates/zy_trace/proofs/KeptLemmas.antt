-- A page that is what it was and where it was, with locks that are what they were, has the same line.
use Rattle.std.proofs.Common.{◌≡◌, ◌∙◌, ℕ, ◌==◌, Bool, true, false, not, List, [], ◌∷◌, ◌++◌, Some, ap, ap₂, sym, refl, take, drop, take-append-drop, length}
use Rattle.std.specs.Prelude.{codes, is_some, if◌then◌else◌, ◌&&◌, ◌-◌}
use Rattle.std.specs.List.{list_all}
use Rattle.std.proofs.lemmas.List.{length-drop}
use Rattle.std.proofs.lemmas.Grind.{flat_map-append}
use Rattle.zy_isa.specs.declared.node.Node.{Node}
use Rattle.zy_isa.specs.declared.node.Node.TheVariants.{A, B}
use Rattle.zy_model.specs.declared.lock.Lock.{Lock}
use Rattle.zy_model.specs.Leaf.{Leaf}
use Rattle.zy_table.specs.State.{State}
use Rattle.zy_table.specs.Pages.{page_in, leaf_at}
use Rattle.zy_table.specs.Places.{place_of}
use Rattle.zy_table.specs.Database.{all_leaves}
use Rattle.zy_table.proofs.PageFinds.{leaf_at-some}
use Rattle.zy_listing.specs.Texts.{leaf_text}
use Rattle.zy_listing.specs.Locked.{lock_on, lock_text, locks_on, page_reply, locked_page, no_page}
use Rattle.zy_trace.specs.Kept.{none_on}

-- behind a common front the rests say what the lists say
pub rests_say : (old new : List Lock) (i : ℕ) → take i old ≡ take i new → (n : Node) (p : ℕ) → locks_on n p (drop i old) ≡ locks_on n p (drop i new)
    → locks_on n p old ≡ locks_on n p new
rests_say old new i e n p h =
    ap (locks_on n p) (sym (take-append-drop i old))
    ∙ (flat_map-append (lock_on n p) (take i old) (drop i old)
    ∙ (ap₂ (λ a b. a ++ b) (ap (locks_on n p) e) h
    ∙ (sym (flat_map-append (lock_on n p) (take i new) (drop i new)) ∙ ap (locks_on n p) (take-append-drop i new))))

-- a lock that is not on the page has no text, and where those behind it have none there is no text at all
none_here : (b : Bool) (text rest : List ℕ) (more : Bool) → (not b && more) ≡ true → (more ≡ true → rest ≡ []) → (if b then text else []) ++ rest ≡ []
none_here true text rest more h k = (cc)
none_here false text rest more h k = k h

-- where no lock is on a page they say nothing of it
pub none_says : (n : Node) (p : ℕ) (locks : List Lock) → none_on p locks ≡ true → locks_on n p locks ≡ []
none_says n p [] h = refl
none_says n p (x ∷ xs) h = none_here (x.page == p) (lock_text n x) (locks_on n p xs) (list_all (λ (y : Lock). not (y.page == p)) xs) h (none_says n p xs)

-- a list up to its length is the whole list
whole : (xs : List Lock) → take (length xs) xs ≡ xs
whole [] = refl
whole (x ∷ xs) = ap (λ l. x ∷ l) (whole xs)

-- behind the first i locks are as many as the length leaves
pub rest_whole : (i : ℕ) (xs : List Lock) → take (length xs - i) (drop i xs) ≡ drop i xs
rest_whole i xs = ap (λ k. take k (drop i xs)) (sym (length-drop i xs)) ∙ whole (drop i xs)

-- a page with equal leaf, place and locks in two states has one line in both
pub same_reply : (s t : State) (p : ℕ) (x y : Leaf) → page_in p (all_leaves s) ≡ Some x → page_in p (all_leaves t) ≡ Some y → x ≡ y
    → place_of p s ≡ place_of p t
    → locks_on A p s.a.locks ≡ locks_on A p t.a.locks → locks_on B p s.b.locks ≡ locks_on B p t.b.locks → page_reply s p ≡ page_reply t p
same_reply s t p x y f g e h a b =
    let there : page_reply s p ≡ locked_page s p = ap (λ o. if is_some o then locked_page s p else no_page p) f in
    let here : page_reply t p ≡ locked_page t p = ap (λ o. if is_some o then locked_page t p else no_page p) g in
    let leaf : leaf_at (all_leaves s) p ≡ leaf_at (all_leaves t) p = leaf_at-some p x (all_leaves s) f ∙ (e ∙ sym (leaf_at-some p y (all_leaves t) g)) in
    let line : locked_page s p ≡ locked_page t p =
    ap₂ (λ l m. l ++ m) (ap₂ leaf_text h leaf) (ap₂ (λ l m. codes " locks" ++ (l ++ m)) a b) in
    there ∙ (line ∙ sym here)
