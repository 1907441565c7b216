-- A page is cut: whoever locks it alone locks the new page alone.
use Rattle.std.proofs.Common.{List, [], ap, false, inl, inr, length, refl, subst, sym, true, ℕ, ◌++◌, ◌+◌, ◌≤◌, ◌∙◌, ◌∷◌, ◌≡◌, length-append, arith}
use Rattle.std.specs.Prelude.{Contains, ◌⊎◌}
use Rattle.std.proofs.lemmas.Bool.{eq-eqb, or_left, or_right}
use Rattle.zy_isa.specs.Rows.{Rising}
use Rattle.zy_isa.specs.Scenario.{Scenario}
use Rattle.zy_isa.specs.declared.node.Node.{Node}
use Rattle.zy_model.specs.Locks.{add_lock}
use Rattle.zy_model.specs.declared.lock.LockKind.TheVariants.{Exclusive}
use Rattle.zy_model.specs.Leaf.{rows_from}
use Rattle.zy_model.specs.Wireframe.{page_of}
use Rattle.zy_model.proofs.Longer.{page_of-cut}
use Rattle.zy_model.specs.Table.{may_split}
use Rattle.zy_table.specs.Change.{cut, locked, txn_at}
use Rattle.zy_table.specs.Holders.{holds, holds_alone}
use Rattle.zy_table.specs.Pages.{lowered, rows_of, with_page}
use Rattle.zy_table.specs.Run.{boundary, has_room, is_there}
use Rattle.zy_table.specs.State.{Leaf, View, other}
use Rattle.zy_laws.proofs.places.Boundary.{boundary_new, boundary_on}
use Rattle.zy_table.proofs.PageLists.{owns-lowered, owns-with_page}
use Rattle.zy_laws.proofs.places.CutPages.{placed_cut}
use Rattle.zy_laws.proofs.walk.Conditions.{page, Free, has_lock}
use Rattle.zy_laws.proofs.places.Installing.{Placed, placed_front}
use Rattle.zy_table.proofs.LockLists.{alone-add, alone_more, alone_new, exclusive_holds, holds-add}
use Rattle.zy_laws.proofs.locks.Runners.{has_lock_locking, home_placed}
use Rattle.zy_laws.proofs.locks.Locking.{Kept, Locking, idle_locking, whole}
use Rattle.zy_laws.proofs.places.PageValues.{rest_lacks, rest_of}
use Rattle.zy_laws.proofs.owner.Roles.{Inv, normal_other}
use Rattle.zy_laws.proofs.walk.Txns.{IsAt}

-- t has page p alone, and gets the new page alone
cut_locking : (sc : Scenario) (n : Node) (v : View) (lows more : List ℕ) (t p b : ℕ) → Locking sc n v.me v lows → lows ≡ 0 ∷ more
    → holds_alone v.me.locks p t ≡ true → page_of lows b ≡ p
    → Locking sc n (cut t p b v).me (cut t p b v) (lows ++ b ∷ [])
unfolding cut txn_at
cut_locking sc n v lows more t p b l begins mine on =
    let q = length v.me.lows in
    let at : IsAt v t n = l.runs p t (exclusive_holds v.me.locks p t mine) in
    let newest : v.me.lows ≡ lows = l.newest (l.busy t at) in
    let count : q ≡ length lows = ap length newest in
    let none : (u : ℕ) → holds v.me.locks q u ≡ true → ⊥ = λ u h. let under = l.below q u h in omega (arith, under, count) in
    let longer : length (lows ++ b ∷ []) ≡ length lows + 1 = length-append lows (b ∷ []) in
    let there : (z u : ℕ) → holds (add_lock q t Exclusive v.me.locks) z u ≡ true → (holds v.me.locks z u ≡ true) ⊎ ((q ≡ z) × (t ≡ u)) =
    λ z u h. holds-add q t Exclusive v.me.locks z u h in
    record {
      busy = l.busy;
      newest = λ _. ap (λ xs. xs ++ b ∷ []) newest;
      runs = λ z u h. elim (there z u h) [ inl i ↦ l.runs z u i | inr i ↦ subst (λ j. IsAt v j n) i.1 at ];
      below = λ z u h. elim (there z u h) [
        | inl i ↦ let under = l.below z u i in omega (arith, under, longer)
        | inr i ↦ let same = i.0 in omega (arith, same, count, longer)
      ];
      kept = λ z u s h. owns-with_page z _ (lowered p b v.me.pages) ∙ elim (there z u h) [
        | inl i ↦ or_right _ _ (owns-lowered p b v.me.pages z ∙ l.kept z u s i)
        | inr i ↦ or_left _ _ (eq-eqb _ _ i.0)
      ];
      apart = λ z u j a c. elim (alone-add q t Exclusive v.me.locks z u a) [
        | inl i ↦ elim (there z j c) [
          | inl k ↦ l.apart z u j i k
          | inr k ↦ absurd (none u (subst (λ m. holds v.me.locks m u ≡ true) (sym k.0) (exclusive_holds v.me.locks z u i)))
        ]
        | inr i ↦ elim (there z j c) [
          | inl k ↦ absurd (none j (subst (λ m. holds v.me.locks m j ≡ true) (sym i.0) k))
          | inr k ↦ sym i.1 ∙ k.1
        ]
      ];
      private = λ u k a h.
          let old = l.private u k a h in
          elim (subst (λ l. (page_of (l ++ b ∷ []) k ≡ page_of l k) ⊎ ((page_of (l ++ b ∷ []) k ≡ length l) × (page_of l b ≡ page_of l k))) (sym begins)
          (page_of-cut more b k)) [
            | inl same ↦ alone_more q t Exclusive v.me.locks (page_of (lows ++ b ∷ []) k) u (subst (λ z. holds_alone v.me.locks z u ≡ true) (sym same) old)
            | inr new ↦
                let one : u ≡ t = l.apart p u t (subst (λ z. holds_alone v.me.locks z u ≡ true) (sym new.1 ∙ on) old) (exclusive_holds v.me.locks p t mine) in
                let here : page_of (lows ++ b ∷ []) k ≡ q = new.0 ∙ ap length (sym newest) in
                subst (λ z. holds_alone (add_lock q t Exclusive v.me.locks) z u ≡ true) (sym here)
                (subst (λ z. holds_alone (add_lock q t Exclusive v.me.locks) q z ≡ true) (sym one) (alone_new q t v.me.locks))
          ];
    }

-- a state seen from n, where t runs, and its newest low keys
module _ (sc : Scenario) (n : Node) (v : View) (lows : List ℕ) (t : ℕ) (h : Kept sc n v lows) (at : IsAt v t n) where
  -- a split keeps it, with one low key more
  pub cut_kept : (k b : ℕ) → Free t k Exclusive v → may_split v.me.mode ≡ true
      → page_of v.me.lows b ≡ page_of v.me.lows k → (Contains v.me.lows b → ⊥) → Inv (cut t (page_of v.me.lows k) b (has_lock t k Exclusive v))
      → Kept sc n (cut t (page_of v.me.lows k) b (has_lock t k Exclusive v)) (lows ++ b ∷ [])
  unfolding cut locked
  cut_kept k b f normal on new i =
      let p = page_of v.me.lows k in
      let more = h.first.0 in
      let newest : v.me.lows ≡ lows = h.mine.newest (h.mine.busy t at) in
      let begins : v.me.lows ≡ 0 ∷ more = newest ∙ h.first.1 in
      let idle = normal_other v h.inv.roles normal in
      let parts = placed_front (0 ∷ more) v.me.pages (rest_of v) (subst (λ l. Placed l (whole v)) h.first.1 h.placed) in
      let here : page_of (0 ∷ more) b ≡ p = subst (λ l. page_of l b ≡ p) begins on in
      let lacks = rest_lacks v p h.inv.owned f.here in
      let now = placed_cut more p b v.me.pages (rest_of v) here (subst (λ l. Contains l b → ⊥) begins new) lacks parts.0 parts.1 in
      let pages : ℕ → List Leaf = λ q. with_page (record { number = q; low = b; rows = rows_from b (rows_of v.me.pages p) }) (lowered p b v.me.pages)
      ++ rest_of v in
      record {
        inv = i;
        first = (more ++ b ∷ [], ap (λ l. l ++ b ∷ []) h.first.1);
        placed = subst (λ l. Placed (l ++ b ∷ []) (pages (length v.me.lows))) (sym h.first.1)
            (subst (λ l. Placed ((0 ∷ more) ++ b ∷ []) (pages (length l))) (sym begins) now);
        mine = cut_locking sc n (has_lock t k Exclusive v) lows more t p b (has_lock_locking sc n v lows t h at k Exclusive f) h.first.1
            (alone_new p t v.me.locks) (ap (λ l. page_of l b) (sym newest) ∙ on);
        theirs = idle_locking sc (other n) v.them v.them v _ lows (lows ++ b ∷ []) h.theirs idle.0 idle.0 refl refl;
      }

  -- the boundary lies on the page that is cut
  pub split_on : (key : ℕ) → has_room sc (page key v) v.me (txn_at v t) ≡ false
      → page_of v.me.lows (boundary sc key (page key v) v.me (txn_at v t)) ≡ page key v
  split_on key full = boundary_on sc t key (page key v) v (home_placed sc n v lows t h at) refl full

  -- the boundary is no low key yet
  pub split_new : (key : ℕ) → 2 ≤ sc.cap → Rising 0 (rows_of v.me.pages (page key v)) → Rising 0 (txn_at v t).rows
      → is_there key (page key v) v.me (txn_at v t) ≡ false → has_room sc (page key v) v.me (txn_at v t) ≡ false
      → Contains v.me.lows (boundary sc key (page key v) v.me (txn_at v t)) → ⊥
  split_new key two rows private new full =
      let begins = h.mine.newest (h.mine.busy t at) ∙ h.first.1 in
      boundary_new sc t key (page key v) v h.first.0 begins two (home_placed sc n v lows t h at) refl full rows private new
