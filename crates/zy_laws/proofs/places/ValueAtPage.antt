-- Each key's value is on the page of its key, and each page shows its low key.
use Rattle.std.proofs.Common.{List, [], ap, append-nil, arith, false, inl, inr, length, length-append, subst, sym, true, ℕ, ◌++◌, ◌<◌, ◌∙◌, ◌∷◌, ◌≡◌, ◌≤◌}
use Rattle.std.specs.Prelude.{◌⊎◌, if◌then◌else◌, max, nat_lt}
use Rattle.std.specs.FinMap.{get}
use Rattle.std.proofs.lemmas.Bool.{cond_both, ltb-false, ltb-true}
use Rattle.std.proofs.lemmas.Bool.Decides.{nat_tests}
use Rattle.std.proofs.lemmas.List.{nil_from_length}
use Rattle.zy_model.specs.Families.{is_idle}
use Rattle.zy_isa.specs.Rows.{get_row}
use Rattle.zy_isa.specs.Scenario.{IsScenario, Scenario}
use Rattle.zy_isa.specs.declared.choice.Choice.{Choice}
use Rattle.zy_isa.specs.declared.node.Node.TheVariants.{A}
use Rattle.zy_table.specs.Database.{EachKeyHasPage, HasLows, RowsLie, ValuesAtPages, all_leaves, database, newest}
use Rattle.zy_laws.specs.Journey.{Begins}
use Rattle.zy_laws.specs.OneOwner.{times}
use Rattle.zy_table.specs.Pages.{owns, rows_of}
use Rattle.zy_table.specs.Play.{opening, play}
use Rattle.zy_table.specs.State.{Leaf, Message, NodeState, State, View, facing}
use Rattle.zy_model.specs.Wireframe.{page_of}
use Rattle.zy_laws.proofs.places.Installing.{OnPage, Placed, get-leaves}
use Rattle.zy_laws.proofs.locks.Locking.{Kept}
use Rattle.zy_laws.proofs.wireframe.OneWireframe.{no_more}
use Rattle.zy_laws.proofs.owner.PageCounts.{owns_from, times-all_leaves}
use Rattle.zy_laws.proofs.locks.Reached.{reached}
use Rattle.zy_laws.proofs.places.PageValues.{db, found_once}
use Rattle.zy_laws.proofs.owner.Phases.{Phase, Is, Resting, Wire_sent, Ready_sent, Dual_sent, In_dual, Done_sent}
use Rattle.zy_laws.proofs.owner.Roles.{Destination, Owned, Roles, Source, width}
use Rattle.zy_model.proofs.PageOf.{page_of-within}

-- ---- where the newest low keys are

-- the low keys of each node begin these, and those of one of them are these
record Newest (xs ys lows : List ℕ) : Type 0 where
  left : Begins xs lows
  right : Begins ys lows
  one : (xs ≡ lows) ⊎ (ys ≡ lows)

-- no low key begins any
begins_none : (xs lows : List ℕ) → xs ≡ [] → Begins xs lows
begins_none xs lows e = record { more = lows; is = ap (λ l. l ++ lows) (sym e) }

-- the source has them, and the destination has none yet, or the same
from_source : (xs ys lows : List ℕ) → xs ≡ lows → (ys ≡ []) ⊎ (ys ≡ xs) → Newest xs ys lows
from_source xs ys lows e other = record {
  left = no_more xs lows (sym e);
  right = elim other [ inl none ↦ begins_none ys lows none | inr same ↦ no_more ys lows (sym (same ∙ e)) ];
  one = inl e;
}

-- the destination has them
from_destination : (xs ys lows : List ℕ) → ys ≡ lows → Begins xs ys → Newest xs ys lows
from_destination xs ys lows e b = record { left = subst (Begins xs) e b; right = no_more ys lows (sym e); one = inr e }

-- in each phase the source or the destination has the newest low keys
newest_in : (src dst : NodeState) (out back : List Message) (lows : List ℕ) → Phase src dst out back → (is_idle src.mode ≡ false → src.lows ≡ lows)
    → (is_idle dst.mode ≡ false → dst.lows ≡ lows) → Newest src.lows dst.lows lows
newest_in src dst out back lows (Is Resting at) x y = from_source src.lows dst.lows lows (x (ap is_idle at.source)) (inl at.lows)
newest_in src dst out back lows (Is Wire_sent at) x y = from_source src.lows dst.lows lows (x (ap is_idle at.source)) (inl at.lows)
newest_in src dst out back lows (Is Ready_sent at) x y = from_source src.lows dst.lows lows (x (ap is_idle at.source)) (inr at.lows)
newest_in src dst out back lows (Is Dual_sent at) x y = from_source src.lows dst.lows lows (x (ap is_idle at.source)) (inr at.lows)
newest_in src dst out back lows (Is In_dual at) x y = from_source src.lows dst.lows lows (x (ap is_idle at.source)) (inr at.lows)
newest_in src dst out back lows (Is Done_sent at) x y = from_destination src.lows dst.lows lows (y (ap is_idle at.destination)) at.lows.begins
newest_in src dst out back lows (Is g at) x y = from_destination src.lows dst.lows lows (y (ap is_idle at.destination)) (no_more src.lows dst.lows at.lows)

-- by the roles, one of the two has the newest low keys
newest_of : (v : View) (lows : List ℕ) → Roles v → (is_idle v.me.mode ≡ false → v.me.lows ≡ lows) → (is_idle v.them.mode ≡ false → v.them.lows ≡ lows)
    → Newest v.me.lows v.them.lows lows
newest_of v lows (Source ph) x y = newest_in v.me v.them v.outbox v.inbox lows ph x y
newest_of v lows (Destination ph) x y =
    let r = newest_in v.them v.me v.inbox v.outbox lows ph y x in
    record { left = r.right; right = r.left; one = elim r.one [ inl e ↦ inr e | inr e ↦ inl e ] }

-- a list that begins another one and is no shorter is that one
begins_long : (xs lows : List ℕ) → Begins xs lows → length lows ≤ length xs → xs ≡ lows
begins_long xs lows b long =
    let e = ap length b.is in
    let parts = length-append xs b.more in
    sym (b.is ∙ ap (λ l. xs ++ l) (nil_from_length b.more (omega (arith, e, parts, long))) ∙ append-nil xs)

-- the longer of the two
longer_is : (xs ys lows : List ℕ) → Newest xs ys lows → (if nat_lt (length xs) (length ys) then ys else xs) ≡ lows
longer_is xs ys lows r =
    cond_both (nat_lt (length xs) (length ys)) ys xs (λ z. z ≡ lows)
    (λ h. let less = ltb-true _ _ h in elim r.one [ inl e ↦ begins_long ys lows r.right (let k = ap length e in omega (arith, k, less)) | inr e ↦ e ])
    (λ h. let more = ltb-false _ _ h in elim r.one [ inl e ↦ e | inr e ↦ begins_long xs lows r.left (let k = ap length e in omega (arith, k, more)) ])

-- the newest low keys are those that every step keeps
pub newest_lows : (sc : Scenario) (s : State) (lows : List ℕ) → Kept sc A (facing A s) lows → newest s ≡ lows
newest_lows sc s lows k = longer_is s.a.lows s.b.lows lows (newest_of (facing A s) lows k.inv.roles k.mine.newest k.theirs.newest)

-- what holds of the low keys that every step keeps holds of the newest
at_newest : (sc : Scenario) → IsScenario sc → (cs : List Choice) (P : List ℕ → Type 0)
    → ((lows : List ℕ) → Kept sc A (facing A (play sc (opening sc) cs)) lows → P lows) → P (newest (play sc (opening sc) cs))
at_newest sc ok cs P holds =
    let r = reached sc ok cs in
    subst P (sym (newest_lows sc (play sc (opening sc) cs) r.lows r.kept)) (holds r.lows r.kept)

-- a page is once among all pages
once_in_all : (s : State) (p : ℕ) → Owned (facing A s) → times p (all_leaves s) ≤ 1
once_in_all s p o = let once = o.once p in let all = times-all_leaves p s in grind (arith, nat_tests, once, all)

-- the law: what the database has at a key is on the page of the key
pub values_at_pages : (sc : Scenario) → IsScenario sc → (cs : List Choice) → ValuesAtPages (play sc (opening sc) cs)
unfolding database
values_at_pages sc ok cs k =
    let s = play sc (opening sc) cs in
    at_newest sc ok cs (λ lows. get (db (facing A s)) k ≡ get_row (rows_of (all_leaves s) (page_of lows k)) k)
    (λ lows kept. get-leaves (all_leaves s) k ∙ found_once lows (all_leaves s) k kept.placed (once_in_all s (page_of lows k) kept.inv.owned))

-- each key's page is one of all pages
page_there : (s : State) (lows more : List ℕ) (k : ℕ) → lows ≡ 0 ∷ more → Owned (facing A s) → length lows ≤ width (facing A s)
    → owns (all_leaves s) (page_of lows k) ≡ true
page_there s lows more k first o wide =
    let p = page_of lows k in
    let below : p < length lows = subst (λ l. page_of l k < length l) (sym first) (page_of-within (0 ∷ more) k (omega arith)) in
    let once = o.once p in
    let all = times-all_leaves p s in
    owns_from p (all_leaves s) (grind (arith, nat_tests, below, wide, once, all))

-- the newest low keys are no more than the width
longest : (s : State) → length (newest s) ≤ width (facing A s)
longest s = cond_both (nat_lt (length s.a.lows) (length s.b.lows)) s.b.lows s.a.lows (λ z. length z ≤ max (length s.a.lows) (length s.b.lows))
    (λ _. omega arith) (λ _. omega arith)

-- the law: each key has a page
pub each_key_has_page : (sc : Scenario) → IsScenario sc → (cs : List Choice) → EachKeyHasPage (play sc (opening sc) cs)
each_key_has_page sc ok cs k =
    let s = play sc (opening sc) cs in
    let r = reached sc ok cs in
    page_there s (newest s) r.kept.first.0 k (newest_lows sc s r.lows r.kept ∙ r.kept.first.1) r.kept.inv.owned (longest s)

-- what holds of no pages, and with one more on its place, holds of all that lie on their places
placed_all : (lows : List ℕ) (P : List Leaf → Type 0) → P [] → ((x : Leaf) (xs : List Leaf) → OnPage lows x → P xs → P (x ∷ xs)) → (xs : List Leaf)
    → Placed lows xs → P xs
placed_all lows P none more [] h = none
placed_all lows P none more (x ∷ xs) h = more x xs h.0 (placed_all lows P none more xs h.1)

-- the law: each page shows the low key of the wireframe
pub lows_match : (sc : Scenario) → IsScenario sc → (cs : List Choice) → let s = play sc (opening sc) cs in HasLows (newest s) (all_leaves s)
lows_match sc ok cs =
    let xs = all_leaves (play sc (opening sc) cs) in
    at_newest sc ok cs (λ lows. HasLows lows xs) (λ lows kept. placed_all lows (HasLows lows) tt (λ x ys on more. (on.low, more)) xs kept.placed)

-- the law: each row lies on the page of its key
pub rows_match : (sc : Scenario) → IsScenario sc → (cs : List Choice) → let s = play sc (opening sc) cs in RowsLie (newest s) (all_leaves s)
rows_match sc ok cs =
    let xs = all_leaves (play sc (opening sc) cs) in
    at_newest sc ok cs (λ lows. RowsLie lows xs) (λ lows kept. placed_all lows (RowsLie lows) tt (λ x ys on more. (on.each, more)) xs kept.placed)
