-- What makes a split safe, and which line an insert into a full page leads to.
use Rattle.std.proofs.Common.{List, [], None, ap, arith, false, inl, inr, length, refl, subst, sym, true, ℕ, ◌<◌, ◌∙◌, ◌∷◌, ◌≡◌}
use Rattle.std.specs.Prelude.{Contains, is_some, not, ◌&&◌, ◌==◌}
use Rattle.std.proofs.lemmas.Bool.{and_from, and_parts, eq-eqb, eqb-false, false≢true, false_from_ne_true, not-true, or_cases, or_left, or_right}
use Rattle.zy_isa.specs.Scenario.{Scenario}
use Rattle.zy_model.specs.Leaf.{Leaf}
use Rattle.zy_model.specs.Wireframe.{page_of}
use Rattle.zy_table.specs.Pages.{owns, page_in}
use Rattle.zy_model.specs.Locks.{add_lock, clashes, conflict, is_shared}
use Rattle.zy_model.specs.declared.lock.LockKind.{LockKind}
use Rattle.zy_model.specs.declared.lock.LockKind.TheVariants.{Exclusive}
use Rattle.zy_model.specs.Table.{may_split}
use Rattle.zy_node.specs.declared.node_store.NodeStore.{NodeStore}
use Rattle.zy_table.specs.Holders.{holds}
use Rattle.zy_table.specs.Run.{boundary, has_room, is_there}
use Rattle.zy_node.specs.Nodes.{node_shown, IsCuttable}
use Rattle.zy_node.specs.Wireframes.{lows_in, limit_or}
use Rattle.zy_node.proofs.LimitLemmas.{limit_left}
use Rattle.zy_txns.specs.Books.{Ledger, txn_in}
use Rattle.zy_model.specs.declared.lock.Lock.{Lock}
use Rattle.zy_rules.specs.Ready.{IsFull}
use Rattle.zy_table.proofs.LockLists.{holds-add}
use Rattle.zy_table.proofs.PageFinds.{owns-page_in}

-- where nobody else holds a page, nobody is in the way
conflict_none : (xs : List Lock) (q t : ℕ) (kind : LockKind) → ((u : ℕ) → (u ≡ t → ⊥) → holds xs q u ≡ true → ⊥) → conflict xs q t kind ≡ false
conflict_none [] q t kind none = refl
conflict_none (x ∷ xs) q t kind none = false_from_ne_true _ (λ h.
    elim (or_cases (clashes q t kind x) (conflict xs q t kind) h) [
      | inl e ↦
          let a = and_parts (x.page == q) (not (x.txn == t) && not (is_shared x.kind && is_shared kind)) e in
          let b = and_parts (not (x.txn == t)) (not (is_shared x.kind && is_shared kind)) a.1 in
          none x.txn (eqb-false _ _ (not-true _ b.0)) (or_left _ _ (and_from _ _ a.0 (eq-eqb x.txn x.txn refl)))
      | inr e ↦ false≢true (sym (conflict_none xs q t kind (λ u far held. none u far (or_right _ _ held))) ∙ e)
    ])

-- nor is anyone in the way of the new page, when t has locked the old one
alone_there : (xs : List Lock) (p q t : ℕ) → ((u : ℕ) → holds xs q u ≡ false) → conflict (add_lock p t Exclusive xs) q t Exclusive ≡ false
alone_there xs p q t free = conflict_none (add_lock p t Exclusive xs) q t Exclusive (λ u far h.
    elim (holds-add p t Exclusive xs q u h) [ inl old ↦ false≢true (sym (free u) ∙ old) | inr new ↦ far (sym new.1) ])

-- where an insert finds its page full and free, and there may be a page more, the page can be cut at the boundary
pub cuttable : (sc : Scenario) (t k p at b : ℕ) (x : NodeStore) (book : Ledger) → IsFull sc t k p at x book → may_split x.mode ≡ true
    → length (lows_in x.wire) < sc.pages → b ≡ boundary sc k p (node_shown x) (txn_in t book) → IsCuttable t p b (node_shown x)
cuttable sc t k p at b x book f normal more is =
    let lows = lows_in x.wire in
    let v = node_shown x in
    let y = txn_in t book in
    record {
      free = f.page.free.free;
      alone = alone_there x.locks.locks p (length lows) t (f.splits.unheld normal);
      few = let most = f.splits.pages in omega (arith, most, more);
      other =
          subst (λ z. Contains lows z → ⊥) (sym is) (subst (λ z. Contains lows (boundary sc k z v y) → ⊥) (sym f.page.on)
          (f.splits.other k (subst (λ z. is_there k z v y ≡ false) f.page.on f.new) (subst (λ z. has_room sc z v y ≡ false) f.page.on f.full)));
      absent = f.splits.absent normal;
      owned = f.page.owned;
    }

-- a node that owns the page of a key, and none with the next number, has a page
has_page : (lows : List ℕ) (k p : ℕ) (pages : List Leaf) → p ≡ page_of lows k → page_in (length lows) pages ≡ None → owns pages p ≡ true → 0 < length lows
unfolding page_of
has_page [] k p pages on absent owned = absurd (false≢true (sym (owns-page_in 0 pages ∙ ap is_some absent) ∙ subst (λ q. owns pages q ≡ true) on owned))
has_page (low ∷ lows) k p pages on absent owned = omega arith

-- so its wireframe can grow
pub growable : (sc : Scenario) (t k p at : ℕ) (x : NodeStore) (book : Ledger) → IsFull sc t k p at x book → may_split x.mode ≡ true
    → length (lows_in x.wire) < sc.pages → length (lows_in x.wire) < limit_or 0 x.wire
growable sc t k p at x book f normal more =
    let page = has_page (lows_in x.wire) k p x.pages f.page.on (f.splits.absent normal) f.page.owned in
    limit_left sc.pages x f.limited page more
