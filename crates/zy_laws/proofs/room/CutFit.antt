-- Room at commit when a page is cut.
use Rattle.std.proofs.Common.{List, [], ap, arith, inl, inr, length, refl, subst, sym, true, false, ℕ, ◌++◌, ◌<◌, ◌∙◌, ◌∷◌, ◌≡◌, ◌≤◌}
use Rattle.std.specs.Prelude.{Bool, Contains, None, if◌then◌else◌, is_some, nat_le, nat_lt, not, ◌==◌}
use Rattle.std.proofs.lemmas.Bool.{and_from, and_parts, cases_lt, eq-eqb, eqb-true, false≢true, le-ltb, lt-ltb, not-true}
use Rattle.zy_isa.specs.Rows.{get_row}
use Rattle.zy_isa.specs.Scenario.{Scenario}
use Rattle.zy_isa.specs.declared.node.Node.{Node}
use Rattle.zy_isa.specs.declared.row.Row.{Row}
use Rattle.zy_model.specs.declared.lock.LockKind.TheVariants.{Exclusive}
use Rattle.zy_model.specs.Leaf.{Leaf, rows_below, rows_from}
use Rattle.zy_model.specs.Wireframe.{page_of}
use Rattle.zy_model.proofs.Longer.{page_of-cut, page_of-cut_above, page_of-cut_below}
use Rattle.zy_model.proofs.PageOf.{page_of-within}
use Rattle.zy_table.specs.Change.{cut, locked, txn_at}
use Rattle.zy_model.specs.Table.{may_split}
use Rattle.zy_table.specs.Pages.{lowered, owns, rows_of, with_page}
use Rattle.zy_table.specs.State.{View, other}
use Rattle.zy_model.proofs.Parted.{get_row-rows_below, get_row-rows_from, length-filter}
use Rattle.zy_laws.proofs.room.EachPage.{Each, each_append, each_at, each_both, each_front, each_in, each_lowered, each_map, each_with_page}
use Rattle.zy_laws.proofs.walk.Conditions.{Free, has_lock}
use Rattle.zy_laws.proofs.room.Fit.{Fit, Room, Sized}
use Rattle.zy_laws.proofs.locks.Locking.{Kept, nobody_runs}
use Rattle.zy_laws.proofs.order.Rising.{rises_below, rises_from}
use Rattle.zy_laws.proofs.places.PageValues.{rest_of}
use Rattle.zy_laws.proofs.owner.Roles.{fresh_number, normal_other}
use Rattle.zy_laws.proofs.room.Room.{is_new_on, need, one_if}
use Rattle.zy_laws.proofs.walk.Txns.{IsAt}

-- ---- the parts of a page

-- below a key are no more rows than all
below_length : (b : ℕ) (rows : List Row) → length (rows_below b rows) ≤ length rows
below_length b rows = length-filter (λ (r : Row). nat_lt r.key b) rows

-- from a key on are no more rows than all
from_length : (b : ℕ) (rows : List Row) → length (rows_from b rows) ≤ length rows
from_length b rows = length-filter (λ (r : Row). nat_le b r.key) rows

-- ---- the private rows that are new on a part

-- a test that implies another counts no more
one_less : (a b : Bool) → (a ≡ true → b ≡ true) → one_if a ≤ one_if b
one_less true b h = subst (λ c. 1 ≤ one_if c) (sym (h refl)) (omega arith)
one_less false b h = omega arith

-- fewer new rows where each new one was new before
need_less : (lows more : List ℕ) (p q : ℕ) (held rest rows : List Row) → ((k : ℕ) → is_new_on more q rest k ≡ true → is_new_on lows p held k ≡ true)
    → need more q rest rows ≤ need lows p held rows
need_less lows more p q held rest [] h = omega arith
need_less lows more p q held rest (r ∷ rows) h =
    let a = one_less (is_new_on more q rest r.key) (is_new_on lows p held r.key) (h r.key) in
    let b = need_less lows more p q held rest rows h in
    omega (arith, a, b)

-- a key below the boundary is held as before
held_below : (b k : ℕ) (rows : List Row) → k < b → is_some (get_row (rows_below b rows) k) ≡ is_some (get_row rows k)
held_below b k rows h = ap is_some (get_row-rows_below b rows k ∙ ap (λ t. if t then get_row rows k else None) (lt-ltb k b h))

-- a key from the boundary on is held as before
held_from : (b k : ℕ) (rows : List Row) → b ≤ k → is_some (get_row (rows_from b rows) k) ≡ is_some (get_row rows k)
held_from b k rows h = ap is_some (get_row-rows_from b rows k ∙ ap (λ t. if t then None else get_row rows k) (le-ltb k b h))

-- a key that lies on a page and is not held is new there
new_on : (lows : List ℕ) (p k : ℕ) (held : List Row) → page_of lows k ≡ p → is_some (get_row held k) ≡ false → is_new_on lows p held k ≡ true
new_on lows p k held on off = and_from _ _ (eq-eqb _ _ on) (ap not off)

-- a new key lies on the page and is not held
new_parts : (lows : List ℕ) (p k : ℕ) (held : List Row) → is_new_on lows p held k ≡ true → (page_of lows k ≡ p) × (is_some (get_row held k) ≡ false)
new_parts lows p k held h = let a = and_parts (page_of lows k == p) (not (is_some (get_row held k))) h in (eqb-true _ _ a.0, not-true _ a.1)

-- a key that lies on the cut page afterwards lay there, below the boundary
cut_side : (more : List ℕ) (b k p : ℕ) → (Contains (0 ∷ more) b → ⊥) → page_of (0 ∷ more) b ≡ p → page_of ((0 ∷ more) ++ b ∷ []) k ≡ p
    → (p ≡ length (0 ∷ more) → ⊥) → (page_of (0 ∷ more) k ≡ p) × (k < b)
cut_side more b k p new on here old =
    elim (page_of-cut more b k) [
      | inl stays ↦
          let was : page_of (0 ∷ more) k ≡ p = sym stays ∙ here in
          (was, elim (cases_lt k b) [ inl below ↦ below | inr above ↦ absurd (old (sym here ∙ page_of-cut_above more b k new (on ∙ sym was) above)) ])
      | inr moves ↦ absurd (old (sym here ∙ moves.0))
    ]

-- no key is on a page that is not there yet
not_yet : (more : List ℕ) (k : ℕ) → page_of (0 ∷ more) k ≡ length (0 ∷ more) → ⊥
not_yet more k e = let within = page_of-within (0 ∷ more) k (omega arith) in omega arith

-- page p of a wireframe with a low key more, b
module _ (more : List ℕ) (b p : ℕ) where
  -- the cut page needs no more rows than before
  split_below : (rows private : List Row) → (Contains (0 ∷ more) b → ⊥) → page_of (0 ∷ more) b ≡ p → (p ≡ length (0 ∷ more) → ⊥)
      → need ((0 ∷ more) ++ b ∷ []) p (rows_below b rows) private ≤ need (0 ∷ more) p rows private
  split_below rows private new on old =
      need_less (0 ∷ more) ((0 ∷ more) ++ b ∷ []) p p rows (rows_below b rows) private (λ k h.
      let a = new_parts ((0 ∷ more) ++ b ∷ []) p k (rows_below b rows) h in
      let c = cut_side more b k p new on a.0 old in
      new_on (0 ∷ more) p k rows c.0 (sym (held_below b k rows c.1) ∙ a.1))

  -- another page needs no more rows than before
  split_other : (rows private : List Row) → (p ≡ length (0 ∷ more) → ⊥)
      → need ((0 ∷ more) ++ b ∷ []) p rows private ≤ need (0 ∷ more) p rows private
  split_other rows private old =
      need_less (0 ∷ more) ((0 ∷ more) ++ b ∷ []) p p rows rows private (λ k h.
      let a = new_parts ((0 ∷ more) ++ b ∷ []) p k rows h in
      elim (page_of-cut more b k) [ inl stays ↦ new_on (0 ∷ more) p k rows (sym stays ∙ a.0) a.1 | inr moves ↦ absurd (old (sym a.0 ∙ moves.0)) ])

  -- the new page needs no more rows than the cut page did
  split_new : (rows private : List Row) → page_of (0 ∷ more) b ≡ p
      → need ((0 ∷ more) ++ b ∷ []) (length (0 ∷ more)) (rows_from b rows) private ≤ need (0 ∷ more) p rows private
  split_new rows private on =
      need_less (0 ∷ more) ((0 ∷ more) ++ b ∷ []) p (length (0 ∷ more)) rows (rows_from b rows) private (λ k h.
      let a = new_parts ((0 ∷ more) ++ b ∷ []) (length (0 ∷ more)) k (rows_from b rows) h in
      elim (cases_lt k b) [
        | inl below ↦ absurd (not_yet more k (sym (page_of-cut_below more b k below) ∙ a.0))
        | inr above ↦ elim (page_of-cut more b k) [
          | inl stays ↦ absurd (not_yet more k (sym stays ∙ a.0))
          | inr moves ↦ new_on (0 ∷ more) p k rows (sym moves.1 ∙ on) (sym (held_from b k rows above) ∙ a.1)
        ]
      ])

-- ---- the pages of a node whose page p is cut

-- an old page that has room for these private rows
abbrev OldRoom : ℕ → List ℕ → List Row → ℕ → List Row → Type 0
OldRoom cap more private q rows = (q ≡ length (0 ∷ more) → ⊥) × Room cap (0 ∷ more) private q rows

-- after a cut each page has room
cut_room : (cap : ℕ) (more : List ℕ) (private : List Row) (b p : ℕ) (xs : List Leaf) → (Contains (0 ∷ more) b → ⊥) → page_of (0 ∷ more) b ≡ p → owns xs p ≡ true
    → Each (OldRoom cap more private) xs
    → Each (Room cap ((0 ∷ more) ++ b ∷ []) private) (with_page (record { number = length (0 ∷ more); low = b; rows = rows_from b (rows_of xs p) })
    (lowered p b xs))
cut_room cap more private b p xs new on own h =
    let lows = (0 ∷ more) ++ b ∷ [] in
    each_with_page (Room cap lows private) _ (lowered p b xs)
    (let a = (each_at (OldRoom cap more private) p xs own h).1 in
    let c = from_length b (rows_of xs p) in let d = split_new more b p (rows_of xs p) private on in omega (arith, a, c, d))
    (each_lowered (OldRoom cap more private) (Room cap lows private) p b xs
    (λ q rows far r. let a = r.1 in let d = split_other more b q rows private r.0 in omega (arith, a, d))
    (λ q rows same r. let a = r.1 in let c = below_length b rows in let d = split_below more b q rows private new (on ∙ sym same) r.0 in
    omega (arith, a, c, d)) h)

-- a split keeps room
pub cut_fit : (sc : Scenario) (n : Node) (v : View) (lows : List ℕ) (t k b : ℕ) → Kept sc n v lows → Fit sc n v lows → IsAt v t n → Free t k Exclusive v
    → may_split v.me.mode ≡ true
    → page_of v.me.lows b ≡ page_of v.me.lows k → (Contains v.me.lows b → ⊥)
    → Fit sc n (cut t (page_of v.me.lows k) b (has_lock t k Exclusive v)) (lows ++ b ∷ [])
unfolding cut locked txn_at
cut_fit sc n v lows t k b h f at free normal on new =
    let p = page_of v.me.lows k in
    let q = length v.me.lows in
    let own = free.here in
    let more = h.first.0 in
    let newest : v.me.lows ≡ lows = h.mine.newest (h.mine.busy t at) in
    let begins : v.me.lows ≡ 0 ∷ more = newest ∙ h.first.1 in
    let idle = normal_other v h.inv.roles normal in
    let fresh = fresh_number v h.inv.owned idle.1 in
    let a = each_front (Sized sc.cap) v.me.pages (rest_of v) f.sized in
    let here : Sized sc.cap p (rows_of v.me.pages p) = each_at (Sized sc.cap) p v.me.pages own a.0 in
    let top : Sized sc.cap q (rows_from b (rows_of v.me.pages p)) = (
      (let c = from_length b (rows_of v.me.pages p) in let d = here.0 in omega (arith, c, d)),
      rises_from 0 b (rows_of v.me.pages p) here.1,
    ) in
    let rest_low : Each (Sized sc.cap) (lowered p b v.me.pages) = each_lowered (Sized sc.cap) (Sized sc.cap) p b v.me.pages (λ z rows far s. s)
    (λ z rows same s. ((let c = below_length b rows in let d = s.0 in omega (arith, c, d)), rises_below 0 b rows s.1)) a.0 in
    let far : (z : ℕ) → owns v.me.pages z ≡ true → z ≡ q → ⊥ = λ z here same. false≢true (sym fresh ∙ subst (λ x. owns v.me.pages x ≡ true) same here) in
    let leaf : ℕ → Leaf = λ m. record { number = m; low = b; rows = rows_from b (rows_of v.me.pages p) } in
    record {
      sized = each_append (Sized sc.cap) (with_page (leaf q) (lowered p b v.me.pages)) (rest_of v)
          (each_with_page (Sized sc.cap) (leaf q) (lowered p b v.me.pages) top rest_low) a.1;
      rising = f.rising;
      mine = λ u c. subst (λ l. Each (Room sc.cap (l ++ b ∷ []) (txn_at v u).rows) (with_page (leaf q) (lowered p b v.me.pages))) (sym h.first.1)
          (subst (λ l. Each (Room sc.cap ((0 ∷ more) ++ b ∷ []) (txn_at v u).rows) (with_page (leaf (length l)) (lowered p b v.me.pages))) (sym begins)
          (cut_room sc.cap more (txn_at v u).rows b p v.me.pages (subst (λ l. Contains l b → ⊥) begins new) (subst (λ l. page_of l b ≡ p) begins on) own
          (each_map (λ z rows. (owns v.me.pages z ≡ true) × Room sc.cap lows (txn_at v u).rows z rows) (OldRoom sc.cap more (txn_at v u).rows) v.me.pages
          (λ z rows r. (subst (λ l. z ≡ length l → ⊥) begins (far z r.0), subst (λ l. Room sc.cap l (txn_at v u).rows z rows) h.first.1 r.1))
          (each_both (λ z rows. owns v.me.pages z ≡ true) (Room sc.cap lows (txn_at v u).rows) v.me.pages (each_in v.me.pages) (f.mine u c)))));
      theirs = λ u c. absurd (nobody_runs sc (other n) v.them v lows u h.theirs idle.0 c);
    }
