-- Each page has room for its rows and the private inserts of whoever runs at its node: what each kind of step keeps.
use Rattle.std.proofs.Common.{List, [], ap, arith, false, inl, inr, length, refl, subst, sym, true, ℕ, ◌+◌, ◌<◌, ◌∙◌, ◌∷◌, ◌≡◌, ◌≤◌}
use Rattle.std.specs.Prelude.{Some, if◌then◌else◌, is_some, not, slice_set, ◌==◌, ◌||◌, ◌⊎◌}
use Rattle.std.proofs.lemmas.Bool.{and_right, cases_eq, cond_both, eq-eqb, false≢true, ne_eqb, or_cases}
use Rattle.zy_isa.specs.Rows.{Rising, get_row, put_row}
use Rattle.zy_isa.specs.Scenario.{Scenario}
use Rattle.zy_isa.specs.declared.node.Node.{Node}
use Rattle.zy_isa.specs.declared.row.Row.{Row}
use Rattle.zy_table.specs.Change.{txn_at}
use Rattle.zy_table.specs.Client.{is_active}
use Rattle.zy_laws.specs.OneOwner.{times}
use Rattle.zy_table.specs.Pages.{rows_of}
use Rattle.zy_table.specs.Rows.{put_rows, rows_on}
use Rattle.zy_table.specs.State.{Leaf, NodeState, Txn, View, other}
use Rattle.zy_model.specs.Wireframe.{page_of}
use Rattle.zy_laws.proofs.room.EachPage.{Each, each_both, each_map, each_own}
use Rattle.zy_laws.proofs.locks.Locking.{whole}
use Rattle.zy_laws.proofs.places.MovedPages.{whole_same}
use Rattle.zy_laws.proofs.room.Room.{installed_length, is_new_on, need, need_none, need_put, need_same, one_if}
use Rattle.zy_laws.proofs.walk.Txns.{IsAt, Stands, at_other, at_same}
use Rattle.zy_laws.proofs.walk.Kinds.{Unmoved}
use Rattle.zy_table.specs.declared.entry.CommitRecord.{CommitRecord}

-- the rows of a page are in key order and at most cap
abbrev pub Sized : ℕ → ℕ → List Row → Type 0
Sized cap p rows = (length rows ≤ cap) × Rising 0 rows

-- they and these private rows fit
abbrev pub Room : ℕ → List ℕ → List Row → ℕ → List Row → Type 0
Room cap lows private p rows = length rows + need lows p rows private ≤ cap

-- all pages are sized, private rows rise, and each page has room for those who run at its node
pub record Fit (sc : Scenario) (n : Node) (v : View) (lows : List ℕ) : Type 0 where
  pub sized : Each (Sized sc.cap) (whole v)
  pub rising : (t : ℕ) → Rising 0 (txn_at v t).rows
  pub mine : (t : ℕ) → IsAt v t n → Each (Room sc.cap lows (txn_at v t).rows) v.me.pages
  pub theirs : (t : ℕ) → IsAt v t (other n) → Each (Room sc.cap lows (txn_at v t).rows) v.them.pages

-- t's page has room for one private row more; the other rows are as they were
pub put_room : (cap : ℕ) (lows : List ℕ) (private : List Row) (k x : ℕ) (xs : List Leaf) → Rising 0 private → ((p : ℕ) → times p xs ≤ 1)
    → ((is_some (get_row private k) || is_some (get_row (rows_of xs (page_of lows k)) k)) ≡ true)
    ⊎ (length (rows_of xs (page_of lows k)) + need lows (page_of lows k) (rows_of xs (page_of lows k)) private < cap)
    → Each (Room cap lows private) xs → Each (Room cap lows (put_row k x private)) xs
put_room cap lows private k x xs rises once (inl there) h =
    elim (or_cases (is_some (get_row private k)) (is_some (get_row (rows_of xs (page_of lows k)) k)) there) [
      | inl old ↦ each_map (Room cap lows private) (Room cap lows (put_row k x private)) xs
          (λ p rows r. let e = need_same lows p rows 0 k x private rises old in omega (arith, e, r)) h
      | inr here ↦ each_map (λ p rows. (rows ≡ rows_of xs p) × Room cap lows private p rows) (Room cap lows (put_row k x private)) xs
          (λ p rows r.
          let e = need_put lows p rows k x private in
          let none : one_if (is_new_on lows p rows k) ≡ 0 = elim (cases_eq (page_of lows k) p) [
            | inl same ↦ let old : is_some (get_row rows k) ≡ true = subst (λ (z : List Row). is_some (get_row z k) ≡ true)
                (ap (rows_of xs) same ∙ sym r.0) here in ap {B = ℕ} one_if (and_right (page_of lows k == p) (not (is_some (get_row rows k))) (ap not old))
            | inr far ↦ let off : (page_of lows k == p) ≡ false = ne_eqb _ _ far in rw off refl
          ] in
          let room = r.1 in
          omega (arith, e, none, room))
          (each_both (λ p rows. rows ≡ rows_of xs p) (Room cap lows private) xs (each_own xs once) h)
    ]
put_room cap lows private k x xs rises once (inr room) h =
    each_map (λ p rows. (rows ≡ rows_of xs p) × Room cap lows private p rows) (Room cap lows (put_row k x private)) xs
    (λ p rows r.
    let e = need_put lows p rows k x private in
    elim (cases_eq (page_of lows k) p) [
      | inl same ↦
          let less : length rows + need lows p rows private < cap = subst (λ z. length z + need lows p z private < cap) (sym r.0)
          (subst (λ z. length (rows_of xs z) + need lows z (rows_of xs z) private < cap) same room) in
          let one : one_if (is_new_on lows p rows k) ≤ 1 = cond_both (is_new_on lows p rows k) 1 0 (λ m. m ≤ 1) (λ _. omega arith) (λ _. omega arith) in
          omega (arith, e, less, one)
      | inr far ↦
          let off : (page_of lows k == p) ≡ false = ne_eqb _ _ far in
          let none : one_if (is_new_on lows p rows k) ≡ 0 = rw off refl in
          let old = r.1 in
          omega (arith, e, none, old)
    ])
    (each_both (λ p rows. rows ≡ rows_of xs p) (Room cap lows private) xs (each_own xs once) h)

-- where no key lies on a page, no row does
none_on : (lows : List ℕ) (p : ℕ) (rows : List Row) → ((k : ℕ) → is_some (get_row rows k) ≡ true → page_of lows k ≡ p → ⊥) → rows_on lows p rows ≡ []
none_on lows p [] h = refl
none_on lows p (r ∷ rows) h =
    let off : (page_of lows r.key == p) ≡ false =
    ne_eqb _ _ (h r.key (ap (λ b. is_some (if b then Some r.value else get_row rows r.key)) (eq-eqb r.key r.key refl))) in
    ap (λ b. if b then r ∷ rows_on lows p rows else rows_on lows p rows) off
    ∙ none_on lows p rows (λ k s. h k (cond_both (r.key == k) (Some r.value) (get_row rows k) (λ o. is_some o ≡ true) (λ _. refl) (λ _. s)))

-- what a commit leaves for the others
pub commit_room : (cap : ℕ) (lows : List ℕ) (mine theirs : List Row) (p : ℕ) (rows : List Row) → Sized cap p rows → Room cap lows mine p rows
    → Room cap lows theirs p rows
    → (((k : ℕ) → is_some (get_row mine k) ≡ true → page_of lows k ≡ p → ⊥) ⊎ ((k : ℕ) → is_some (get_row theirs k) ≡ true → page_of lows k ≡ p → ⊥))
    → Room cap lows theirs p (put_rows (rows_on lows p mine) rows)
commit_room cap lows mine theirs p rows size a b (inl none) =
    subst (λ z. Room cap lows theirs p (put_rows z rows)) (sym (none_on lows p mine none)) b
commit_room cap lows mine theirs p rows size a b (inr none) =
    let e = installed_length lows p mine rows size.1 in
    let z = need_none lows p (put_rows (rows_on lows p mine) rows) theirs none in
    omega (arith, e, z, a)

-- a state in which everybody has room
module _ (sc : Scenario) (n : Node) (v : View) (lows : List ℕ) (f : Fit sc n v lows) where
  -- steps that change no transaction and no page
  pub fit_stays : (w : View) → w.txns ≡ v.txns → Unmoved v w → Fit sc n w lows
  fit_stays w txns u =
      let same : (t : ℕ) → txn_at w t ≡ txn_at v t = λ t. at_same v w t txns in
      record {
        sized = subst (Each (Sized sc.cap)) (sym (whole_same v w u.pages (ap (λ (x : NodeState). x.pages) u.them) u.inbox u.outbox)) f.sized;
        rising = λ t. subst (λ (x : Txn). Rising 0 x.rows) (sym (same t)) (f.rising t);
        mine = λ t at. subst (Each (Room sc.cap lows (txn_at w t).rows)) (sym u.pages)
            (subst (λ (x : Txn). Each (Room sc.cap lows x.rows) v.me.pages) (sym (same t)) (f.mine t (subst (λ x. Stands x n) (same t) at)));
        theirs = λ t at. subst (λ (x : NodeState). Each (Room sc.cap lows (txn_at w t).rows) x.pages) (sym u.them)
            (subst (λ (x : Txn). Each (Room sc.cap lows x.rows) v.them.pages) (sym (same t)) (f.theirs t (subst (λ x. Stands x (other n)) (same t) at)));
      }

  -- steps in which t alone changes, and perhaps n's own node
  pub fit_acts : {x : NodeState} {commits : List CommitRecord} (t : ℕ) (y : Txn)
      → let w : View = record v { me = x; txns = slice_set v.txns t y; commits = commits } in
      (txn_at w t ≡ y) ⊎ ((txn_at w t ≡ txn_at v t) × (is_active (txn_at v t).status ≡ false)) → Rising 0 y.rows → Each (Sized sc.cap) (whole w)
      → (Stands y n → Each (Room sc.cap lows y.rows) x.pages) → (Stands y (other n) → Each (Room sc.cap lows y.rows) v.them.pages)
      → ((u : ℕ) → (u ≡ t → ⊥) → IsAt v u n → Each (Room sc.cap lows (txn_at v u).rows) v.me.pages → Each (Room sc.cap lows (txn_at v u).rows) x.pages)
      → Fit sc n w lows
  fit_acts {x = node} {commits = commits} t y self rises sized own off others =
      let w : View = record v { me = node; txns = slice_set v.txns t y; commits = commits } in
      let at_t : (u : ℕ) → u ≡ t → (txn_at w u ≡ y) ⊎ ((txn_at w u ≡ txn_at v u) × (is_active (txn_at v u).status ≡ false)) = λ u here.
      subst (λ z. (txn_at w z ≡ y) ⊎ ((txn_at w z ≡ txn_at v z) × (is_active (txn_at v z).status ≡ false))) (sym here) self in
      record {
        sized = sized;
        rising = λ u. elim (cases_eq u t) [
          | inl here ↦ elim (at_t u here) [
            | inl now ↦ subst (λ (x : Txn). Rising 0 x.rows) (sym now) rises
            | inr old ↦ subst (λ (x : Txn). Rising 0 x.rows) (sym old.0) (f.rising u)
          ]
          | inr far ↦ subst (λ (x : Txn). Rising 0 x.rows) (sym (at_other v w t u y refl far)) (f.rising u)
        ];
        mine = λ u at. elim (cases_eq u t) [
          | inl here ↦ elim (at_t u here) [
            | inl now ↦ subst (λ (x : Txn). Each (Room sc.cap lows x.rows) node.pages) (sym now) (own (subst (λ x. Stands x n) now at))
            | inr old ↦ absurd (false≢true (sym old.1 ∙ subst (λ (x : Txn). is_active x.status ≡ true) old.0 at.0))
          ]
          | inr far ↦ let now = at_other v w t u y refl far in let a = subst (λ x. Stands x n) now at in
              subst (λ (x : Txn). Each (Room sc.cap lows x.rows) node.pages) (sym now) (others u far a (f.mine u a))
        ];
        theirs = λ u at. elim (cases_eq u t) [
          | inl here ↦ elim (at_t u here) [
            | inl now ↦ subst (λ (x : Txn). Each (Room sc.cap lows x.rows) v.them.pages) (sym now) (off (subst (λ x. Stands x (other n)) now at))
            | inr old ↦ absurd (false≢true (sym old.1 ∙ subst (λ (x : Txn). is_active x.status ≡ true) old.0 at.0))
          ]
          | inr far ↦ let now = at_other v w t u y refl far in subst (λ (x : Txn). Each (Room sc.cap lows x.rows) v.them.pages) (sym now)
              (f.theirs u (subst (λ x. Stands x (other n)) now at))
        ];
      }
