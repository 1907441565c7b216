-- Locks, the transactions that have them, and the private rows that they cover: what each kind of step keeps.
use Rattle.std.proofs.Common.{List, [], ap, false, inl, inr, length, refl, subst, sym, true, ℕ, ◌++◌, ◌<◌, ◌∙◌, ◌∷◌, ◌≡◌}
use Rattle.std.specs.Prelude.{is_some, slice_set, ◌⊎◌}
use Rattle.std.proofs.lemmas.Bool.{cases_eq, false≢true}
use Rattle.zy_model.specs.Families.{is_source, is_idle}
use Rattle.zy_isa.specs.Rows.{get_row}
use Rattle.zy_isa.specs.Scenario.{Scenario}
use Rattle.zy_isa.specs.declared.node.Node.{Node}
use Rattle.zy_model.specs.Locks.{add_lock, conflict, drop_locks}
use Rattle.zy_model.specs.declared.lock.LockKind.{LockKind}
use Rattle.zy_model.specs.declared.lock.LockKind.TheVariants.{Exclusive}
use Rattle.zy_table.specs.Change.{begun, nobody, txn_at}
use Rattle.zy_table.specs.declared.status.Status.TheVariants.{Active}
use Rattle.zy_model.specs.declared.mode.NodeMode.{NodeMode}
use Rattle.zy_table.specs.Take.{is_held}
use Rattle.zy_table.specs.Client.{is_active}
use Rattle.zy_table.specs.Database.{sent_leaves}
use Rattle.zy_table.specs.Holders.{holds, holds_alone}
use Rattle.zy_table.specs.Pages.{owns}
use Rattle.zy_table.specs.State.{Leaf, NodeState, Txn, View, other}
use Rattle.zy_model.specs.Wireframe.{page_of}
use Rattle.zy_laws.proofs.places.Installing.{Placed}
use Rattle.zy_table.proofs.LockLists.{alone-add, alone_more, alone_new, exclusive_holds, free_all, free_alone, holds-add, holds-drop, holds-dropped}
use Rattle.zy_table.proofs.LockLists.{holds_alone-drop}
use Rattle.zy_laws.proofs.owner.Roles.{Inv}
use Rattle.zy_laws.proofs.walk.Txns.{IsAt, Stands, ended_far, at_either, at_other, at_same, at_self, not_both_nodes}

-- all pages
abbrev pub whole : View → List Leaf
whole v = v.me.pages ++ (v.them.pages ++ (sent_leaves v.inbox ++ sent_leaves v.outbox))

-- the rule keeps locked pages at a node, or the node hands none on
abbrev pub Stay : Scenario → NodeMode → Type 0
Stay sc mode = (is_held sc.rule ≡ true) ⊎ (is_source mode ≡ false)

-- node x, named n, whose newest low keys are these
pub record Locking (sc : Scenario) (n : Node) (x : NodeState) (v : View) (lows : List ℕ) : Type 0 where
  pub busy : (t : ℕ) → IsAt v t n → is_idle x.mode ≡ false
  pub newest : is_idle x.mode ≡ false → x.lows ≡ lows
  pub runs : (p t : ℕ) → holds x.locks p t ≡ true → IsAt v t n
  pub below : (p t : ℕ) → holds x.locks p t ≡ true → p < length lows
  pub kept : (p t : ℕ) → Stay sc x.mode → holds x.locks p t ≡ true → owns x.pages p ≡ true
  pub apart : (p t u : ℕ) → holds_alone x.locks p t ≡ true → holds x.locks p u ≡ true → t ≡ u
  pub private : (t k : ℕ) → IsAt v t n → is_some (get_row (txn_at v t).rows k) ≡ true → holds_alone x.locks (page_of lows k) t ≡ true

-- what holds of every state
pub record Kept (sc : Scenario) (n : Node) (v : View) (lows : List ℕ) : Type 0 where
  pub inv : Inv v
  pub first : (more : List ℕ) × (lows ≡ 0 ∷ more)
  pub placed : Placed lows (whole v)
  pub mine : Locking sc n v.me v lows
  pub theirs : Locking sc (other n) v.them v lows

-- n's running transactions and their private rows are the same in w
pub record Seen (n : Node) (v w : View) : Type 0 where
  pub back : (t : ℕ) → IsAt w t n → IsAt v t n × ((txn_at w t).rows ≡ (txn_at v t).rows)
  pub forth : (t : ℕ) → IsAt v t n → IsAt w t n

-- where each transaction is what it was, n sees the same
seen_all : (n : Node) (v w : View) → ((u : ℕ) → txn_at w u ≡ txn_at v u) → Seen n v w
seen_all n v w same = record {
  back = λ u at. (subst (λ x. Stands x n) (same u) at, ap (λ (x : Txn). x.rows) (same u));
  forth = λ u at. subst (λ x. Stands x n) (sym (same u)) at;
}

-- a step that sets no transaction shows n the same
pub seen_same : (n : Node) (v w : View) → w.txns ≡ v.txns → Seen n v w
seen_same n v w e = seen_all n v w (λ u. at_same v w u e)

-- t goes on with the same private rows
pub seen_step : (n : Node) (v w : View) (t : ℕ) (y : Txn) → w.txns ≡ slice_set v.txns t y → is_active (txn_at v t).status ≡ true
    → y.status ≡ (txn_at v t).status → y.node ≡ (txn_at v t).node → y.rows ≡ (txn_at v t).rows → Seen n v w
seen_step n v w t y e active status node rows = record {
  back = λ u at. elim (cases_eq u t) [
    | inl same ↦
        let now : txn_at w u ≡ y = ap (txn_at w) same ∙ at_self v w t y e active in
        let b : Stands y n = subst (λ x. Stands x n) now at in (
          (ap (λ z. is_active (txn_at v z).status) same ∙ active, ap (λ z. (txn_at v z).node) same ∙ sym node ∙ b.1),
          ap (λ (x : Txn). x.rows) now ∙ rows ∙ ap (λ z. (txn_at v z).rows) (sym same),
        )
    | inr far ↦ let now = at_other v w t u y e far in (subst (λ x. Stands x n) now at, ap (λ (x : Txn). x.rows) now)
  ];
  forth = λ u at. elim (cases_eq u t) [
    | inl same ↦
        let now : txn_at w u ≡ y = ap (txn_at w) same ∙ at_self v w t y e active in
        subst (λ x. Stands x n) (sym now) (ap is_active status ∙ active, node ∙ ap (λ z. (txn_at v z).node) (sym same) ∙ at.1)
    | inr far ↦ subst (λ x. Stands x n) (sym (at_other v w t u y e far)) at
  ];
}

-- what t does at n is not seen at the other node
pub seen_other : (n : Node) (v w : View) (t : ℕ) (y : Txn) → w.txns ≡ slice_set v.txns t y → (Stands y (other n) → ⊥) → IsAt v t n
    → Seen (other n) v w
seen_other n v w t y e off at = record {
  back = λ u h. elim (cases_eq u t) [
    | inl same ↦ absurd (off (subst (λ x. Stands x (other n)) (ap (txn_at w) same ∙ at_self v w t y e at.0) h))
    | inr far ↦ let now = at_other v w t u y e far in (subst (λ x. Stands x (other n)) now h, ap (λ (x : Txn). x.rows) now)
  ];
  forth = λ u h. elim (cases_eq u t) [
    | inl same ↦ absurd (not_both_nodes n (txn_at v t).node at.1 (ap (λ z. (txn_at v z).node) (sym same) ∙ h.1))
    | inr far ↦ subst (λ x. Stands x (other n)) (sym (at_other v w t u y e far)) h
  ];
}

-- the locks of a node that is named n
module _ (sc : Scenario) (n : Node) where
  -- a step that leaves n's locks and transactions as they are
  pub steady : (x y : NodeState) (v w : View) (lows : List ℕ) → Locking sc n x v lows → Seen n v w → y.locks ≡ x.locks
      → ((t : ℕ) → IsAt v t n → is_idle y.mode ≡ false)
      → (is_idle y.mode ≡ false → y.lows ≡ lows)
      → ((p t : ℕ) → Stay sc y.mode → holds x.locks p t ≡ true → owns y.pages p ≡ true)
      → Locking sc n y w lows
  steady x y v w lows l seen same busy newest kept = record {
    busy = λ t at. busy t (seen.back t at).0;
    newest = newest;
    runs = λ p t h. seen.forth t (l.runs p t (subst (λ xs. holds xs p t ≡ true) same h));
    below = λ p t h. l.below p t (subst (λ xs. holds xs p t ≡ true) same h);
    kept = λ p t s h. kept p t s (subst (λ xs. holds xs p t ≡ true) same h);
    apart = λ p t u a b. l.apart p t u (subst (λ xs. holds_alone xs p t ≡ true) same a) (subst (λ xs. holds xs p u ≡ true) same b);
    private = λ t k at h. let b = seen.back t at in subst (λ xs. holds_alone xs (page_of lows k) t ≡ true) (sym same)
        (l.private t k b.0 (subst (λ rows. is_some (get_row rows k) ≡ true) b.1 h));
  }

  -- the node that does not act
  pub untouched : (x : NodeState) (v w : View) (lows : List ℕ) → Locking sc n x v lows → Seen n v w → Locking sc n x w lows
  untouched x v w lows l seen = steady x x v w lows l seen refl l.busy l.newest l.kept

  -- nobody runs at an idle node
  pub nobody_runs : (x : NodeState) (v : View) (lows : List ℕ) (t : ℕ) → Locking sc n x v lows → is_idle x.mode ≡ true → IsAt v t n → ⊥
  nobody_runs x v lows t l idle at = false≢true (sym (l.busy t at) ∙ idle)

  -- a node where nobody runs, whatever its low keys become
  pub idle_locking : (x y : NodeState) (v w : View) (lows more : List ℕ) → Locking sc n x v lows → is_idle x.mode ≡ true
      → is_idle y.mode ≡ true
      → w.txns ≡ v.txns → y.locks ≡ x.locks → Locking sc n y w more
  idle_locking x y v w lows more l idle still same locks =
      let none : (t : ℕ) → IsAt w t n → ⊥ = λ t at. nobody_runs x v lows t l idle ((seen_same n v w same).back t at).0 in
      let free : (p t : ℕ) → holds y.locks p t ≡ true → ⊥ = λ p t h. nobody_runs x v lows t l idle
      (l.runs p t (subst (λ xs. holds xs p t ≡ true) locks h)) in
      record {
        busy = λ t at. absurd (none t at);
        newest = λ h. absurd (false≢true (sym h ∙ still));
        runs = λ p t h. absurd (free p t h);
        below = λ p t h. absurd (free p t h);
        kept = λ p t s h. absurd (free p t h);
        apart = λ p t u a b. absurd (free p u b);
        private = λ t k at h. absurd (none t at);
      }

  -- t's lock is taken, and its private rows grow by keys of that page
  pub lock_taken : (v w : View) (lows : List ℕ) (t p : ℕ) (kind : LockKind) → Locking sc n v.me v lows → IsAt v t n
      → p < length lows → owns v.me.pages p ≡ true → conflict v.me.locks p t kind ≡ false
      → ((u : ℕ) → IsAt w u n → IsAt v u n) → ((u : ℕ) → IsAt v u n → IsAt w u n)
      → ((u k : ℕ) → IsAt w u n → is_some (get_row (txn_at w u).rows k) ≡ true → (is_some (get_row (txn_at v u).rows k) ≡ true)
      ⊎ ((u ≡ t) × (page_of lows k ≡ p) × (kind ≡ Exclusive)))
      → Locking sc n (record v.me { locks = add_lock p t kind v.me.locks }) w lows
  lock_taken v w lows t p kind l at small own free back forth rows =
      let locks = add_lock p t kind v.me.locks in
      let old : (q u : ℕ) → holds locks q u ≡ true → (holds v.me.locks q u ≡ true) ⊎ ((p ≡ q) × (t ≡ u)) = λ q u h. holds-add p t kind v.me.locks q u h in
      record {
        busy = λ u a. l.busy u (back u a);
        newest = l.newest;
        runs = λ q u h. forth u (elim (old q u h) [ inl i ↦ l.runs q u i | inr i ↦ subst (λ z. IsAt v z n) i.1 at ]);
        below = λ q u h. elim (old q u h) [ inl i ↦ l.below q u i | inr i ↦ subst (λ z. z < length lows) i.0 small ];
        kept = λ q u s h. elim (old q u h) [ inl i ↦ l.kept q u s i | inr i ↦ subst (λ z. owns v.me.pages z ≡ true) i.0 own ];
        apart = λ q a b ha hb. elim (alone-add p t kind v.me.locks q a ha) [
          | inl i ↦ elim (old q b hb) [
            | inl j ↦ l.apart q a b i j
            | inr j ↦ free_alone p t a kind v.me.locks free (subst (λ z. holds_alone v.me.locks z a ≡ true) (sym j.0) i) ∙ j.1
          ]
          | inr i ↦ elim (old q b hb) [
            | inl j ↦ sym i.1 ∙ sym (free_all p t b kind v.me.locks i.2 free (subst (λ z. holds v.me.locks z b ≡ true) (sym i.0) j))
            | inr j ↦ sym i.1 ∙ j.1
          ]
        ];
        private = λ u k a h. elim (rows u k a h) [
          | inl i ↦ alone_more p t kind v.me.locks (page_of lows k) u (l.private u k (back u a) i)
          | inr i ↦ subst (λ z. holds_alone locks z u ≡ true) (sym i.1) (subst (λ z. holds_alone locks p z ≡ true) (sym i.0)
              (subst (λ z. holds_alone (add_lock p t z v.me.locks) p t ≡ true) (sym i.2) (alone_new p t v.me.locks)))
        ];
      }

  -- t ends: its locks are dropped
  pub freed : {pages : List Leaf} (v w : View) (lows : List ℕ) (t : ℕ) (y : Txn) → Locking sc n v.me v lows → IsAt v t n
      → w.txns ≡ slice_set v.txns t y → is_active y.status ≡ false → ((p : ℕ) → owns pages p ≡ owns v.me.pages p)
      → Locking sc n (record v.me { locks = drop_locks t v.me.locks; pages = pages }) w lows
  freed v w lows t y l at e over pages =
      let locks = drop_locks t v.me.locks in
      let far_at : (u : ℕ) → IsAt w u n → u ≡ t → ⊥ = λ u. ended_far v w t y e at.0 over u n in
      let now : (u : ℕ) → (u ≡ t → ⊥) → txn_at w u ≡ txn_at v u = λ u far. at_other v w t u y e far in
      let far : (q u : ℕ) → holds locks q u ≡ true → u ≡ t → ⊥ = λ q u h same. holds-dropped v.me.locks q t (subst (λ j. holds locks q j ≡ true) same h) in
      let old : (q u : ℕ) → holds locks q u ≡ true → holds v.me.locks q u ≡ true = λ q u h. sym (holds-drop v.me.locks q t u (far q u h)) ∙ h in
      record {
        busy = λ u a. l.busy u (subst (λ x. Stands x n) (now u (far_at u a)) a);
        newest = l.newest;
        runs = λ q u h. subst (λ x. Stands x n) (sym (now u (far q u h))) (l.runs q u (old q u h));
        below = λ q u h. l.below q u (old q u h);
        kept = λ q u s h. pages q ∙ l.kept q u s (old q u h);
        apart = λ q a b ha hb. l.apart q a b (sym (holds_alone-drop v.me.locks q t a (far q a (exclusive_holds locks q a ha))) ∙ ha) (old q b hb);
        private = λ u k a h.
            let f = far_at u a in
            let s = now u f in
            holds_alone-drop v.me.locks (page_of lows k) t u f
            ∙ l.private u k (subst (λ x. Stands x n) s a) (subst (λ x. is_some (get_row x.rows k) ≡ true) s h);
      }

-- t begins at h
pub began : (sc : Scenario) (n h : Node) (x : NodeState) (v : View) (lows : List ℕ) (t : ℕ) → Locking sc n x v lows → is_active (txn_at v t).status ≡ false
    → (h ≡ n → is_idle x.mode ≡ false) → Locking sc n x (begun h t v) lows
unfolding begun
began sc n h x v lows t l new busy =
    let w = begun h t v in
    let y : Txn = record nobody { status = Active; node = h } in
    let far : (u : ℕ) → IsAt v u n → u ≡ t → ⊥ = λ u a same. false≢true (sym new ∙ ap (λ z. is_active (txn_at v z).status) (sym same) ∙ a.0) in
    let now : (u : ℕ) → IsAt w u n → (IsAt v u n × ((txn_at w u).rows ≡ (txn_at v u).rows)) ⊎ (((txn_at w u).rows ≡ []) × (h ≡ n)) =
    λ u a. elim (cases_eq u t) [
      | inl same ↦ elim (at_either v w t y refl) [
        | inl i ↦ let j : txn_at w u ≡ y = ap (txn_at w) same ∙ i in inr (ap (λ (z : Txn). z.rows) j, subst (λ (z : Txn). z.node ≡ n) j a.1)
        | inr i ↦ absurd (false≢true (sym new ∙ subst (λ (z : Txn). is_active z.status ≡ true) (ap (txn_at w) same ∙ i) a.0))
      ]
      | inr f ↦ let i = at_other v w t u y refl f in inl (subst (λ z. Stands z n) i a, ap (λ (z : Txn). z.rows) i)
    ] in
    record {
      busy = λ u a. elim (now u a) [ inl i ↦ l.busy u i.0 | inr i ↦ busy i.1 ];
      newest = l.newest;
      runs = λ p u h'. let a = l.runs p u h' in subst (λ z. Stands z n) (sym (at_other v w t u y refl (far u a))) a;
      below = l.below;
      kept = l.kept;
      apart = l.apart;
      private = λ u k a s. elim (now u a) [
        | inl i ↦ l.private u k i.0 (subst (λ rows. is_some (get_row rows k) ≡ true) i.1 s)
        | inr i ↦ absurd (false≢true (subst (λ rows. is_some (get_row rows k) ≡ true) i.0 s))
      ];
    }
