-- Of two transactions that commit at different nodes the one that began first comes first: what each event keeps.
use Rattle.std.proofs.Common.{List, [], ap, append_assoc, append-nil, arith, false, inl, inr, refl, subst, sym, true, ℕ, if◌then◌else◌, ◌++◌, ◌+◌, ◌∙◌, ◌∷◌, ◌≡◌, ◌≤◌}
use Rattle.std.specs.Prelude.{Some}
use Rattle.std.proofs.lemmas.Bool.{cases_Bool, cases_eq, eq-eqb, false≢true, false_from_ne_true}
use Rattle.zy_isa.specs.Scenario.{Scenario}
use Rattle.zy_isa.specs.declared.node.Node.{Node}
use Rattle.zy_isa.specs.declared.node.Node.TheVariants.{A, B}
use Rattle.zy_model.specs.Families.{is_idle, is_source}
use Rattle.zy_model.specs.Table.{home_of}
use Rattle.zy_table.specs.Change.{begun, committed, nobody, txn_at}
use Rattle.zy_table.specs.Client.{is_active, is_new}
use Rattle.zy_table.specs.Database.{Map}
use Rattle.zy_table.specs.declared.entry.CommitRecord.{CommitRecord}
use Rattle.zy_table.specs.declared.status.Status.TheVariants.{Active}
use Rattle.zy_table.specs.Run.{same_node}
use Rattle.zy_table.specs.Serial.{is_committed, times_listed}
use Rattle.zy_table.specs.State.{NodeState, Txn, View, other}
use Rattle.zy_laws.specs.SourceFirst.{Sorted}
use Rattle.zy_laws.proofs.counts.Fates.{txns_of}
use Rattle.zy_laws.proofs.owner.Roles.{Roles, turned, turned_roles}
use Rattle.zy_laws.proofs.sources.Halves.{Divided}
use Rattle.zy_laws.proofs.sources.Histories.{still_source}
use Rattle.zy_laws.proofs.sources.Places.{listed_both}
use Rattle.zy_laws.proofs.sources.Sorting.{sorted_after, sorted_first, sorted_last, then_starts, then_still}
use Rattle.zy_laws.proofs.walk.Conditions.{Committing}
use Rattle.zy_laws.proofs.walk.Events.{Event, Begins, Commits, Starts}
use Rattle.zy_laws.proofs.walk.Events.{same_node-true}
use Rattle.zy_laws.proofs.walk.Txns.{IsAt, Stands, active_off, active_old, at_either, at_other, new_off, not_both_nodes}
use Rattle.zy_laws.proofs.wireframe.OneWireframe.{one_of}
use Rattle.zy_laws.proofs.sources.Past.{Base, begun_other, beside_past, beside_source, commits, home_may, left_alone, listed_more, may_begin, new_stays, node_stays, old_far, old_stays, unlisted, was_ended}

-- how t, which has begun, stands to u, which began later: u is new; t runs at a source and u is at the other node; t is in a front of the
-- first list, and u is not; both are at one node; or t has aborted
pub data Rank (t u : ℕ) (n : Node) (v : View) (o : Sorted) : Type 0 where
  Waits : is_new (txn_at v u).status ≡ true → is_new (txn_at v t).status ≡ false → Rank t u n v o
  Mine : IsAt v t n → is_source v.me.mode ≡ true → is_new (txn_at v u).status ≡ false → (txn_at v u).node ≡ other n → times_listed u o.first ≡ 0
      → Rank t u n v o
  Theirs : IsAt v t (other n) → is_source v.them.mode ≡ true → is_new (txn_at v u).status ≡ false → (txn_at v u).node ≡ n → times_listed u o.first ≡ 0
      → Rank t u n v o
  Ahead : (front more : List CommitRecord) → o.first ≡ front ++ more → 1 ≤ times_listed t front → times_listed u front ≡ 0 → Rank t u n v o
  Together : is_new (txn_at v t).status ≡ false → is_new (txn_at v u).status ≡ false → (txn_at v t).node ≡ (txn_at v u).node → Rank t u n v o
  Lost : is_new (txn_at v t).status ≡ false → is_active (txn_at v t).status ≡ false → is_committed (txn_at v t).status ≡ false → Rank t u n v o

-- who runs goes on, or is lost
goes_on_or : {sc : Scenario} {n : Node} {v w : View} (t u : ℕ) (o : Sorted) (m : Node) (e : Event sc n v w) → commits e ≡ false → IsAt v t m
    → (IsAt w t m → Rank t u n w o) → Rank t u n w o
goes_on_or {v = v} {w = w} t u o m e plain a go =
    let old = active_old (txn_at v t).status a.0 in
    elim (cases_Bool (is_active (txn_at w t).status)) [
      | inl active ↦ go (active, node_stays e t old ∙ a.1)
      | inr off ↦ Lost (old_stays e t old) off (false_from_ne_true _ (λ ended.
          false≢true (sym (active_off (txn_at v t).status a.0) ∙ sym (ap (λ (y : Txn). is_committed y.status) (was_ended e plain t ended)) ∙ ended)))
    ]

-- what holds whatever is sorted stays so
settled_event : {sc : Scenario} {n : Node} {v w : View} (t u : ℕ) (o p : Sorted) (e : Event sc n v w) → is_new (txn_at v t).status ≡ false
    → is_new (txn_at v u).status ≡ false → (txn_at v t).node ≡ (txn_at v u).node → Rank t u n w p
settled_event t u o p e a b same = Together (old_stays e t a) (old_stays e u b) (node_stays e t a ∙ same ∙ sym (node_stays e u b))

-- a begin leaves the modes
mode_begun : (v w : View) (t : ℕ) (h : Node) → w ≡ begun h t v → w.me.mode ≡ v.me.mode
unfolding begun
mode_begun v w t h e = ap (λ (x : View). x.me.mode) e

-- not the same node is the other one
not_same : (a b : Node) → same_node a b ≡ false → a ≡ other b
not_same A A e = absurd (false≢true (sym e))
not_same A B e = refl
not_same B A e = refl
not_same B B e = absurd (false≢true (sym e))

-- t runs at the other node than that at which u begins, so at a source
rank_runs : (sc : Scenario) (t u : ℕ) (n : Node) (v w : View) (o : Sorted) (h : Node) → n ≡ A → Roles v
    → (h ≡ A → may_begin v.me.mode ≡ true) × (h ≡ B → may_begin v.them.mode ≡ true)
    → (IsAt v t n → is_idle v.me.mode ≡ false) → (IsAt v t (other n) → is_idle v.them.mode ≡ false) → Base t n v o
    → is_active (txn_at w t).status ≡ true → is_active (txn_at v t).status ≡ true → (txn_at v t).node ≡ other h → (txn_at w t).node ≡ (txn_at v t).node
    → w.me.mode ≡ v.me.mode → w.them ≡ v.them → is_new (txn_at w u).status ≡ false → (txn_at w u).node ≡ h → times_listed u o.first ≡ 0 → Rank t u n w o
rank_runs sc t u n v w o A at_a roles may busy busy_them b now runs there same mode them old at none =
    let far : (txn_at v t).node ≡ other n = there ∙ ap other (sym at_a) in
    Theirs (now, same ∙ far)
    (ap (λ (x : NodeState). is_source x.mode) them
    ∙ beside_source (turned v) (turned_roles v roles) (may.0 refl) (busy_them (runs, far)) (λ init. b.alone_theirs init t (runs, far)))
    old (at ∙ sym at_a) none
rank_runs sc t u n v w o B at_a roles may busy busy_them b now runs there same mode them old at none =
    let here : (txn_at v t).node ≡ n = there ∙ sym at_a in
    Mine (now, same ∙ here)
    (ap is_source mode ∙ beside_source v roles (may.1 refl) (busy (runs, here)) (λ init. b.alone_mine init t (runs, here)))
    old (at ∙ ap other (sym at_a)) none

-- t has committed there, and so before the last start, or at a source
late_none : (t : ℕ) (n : Node) (v : View) (o : Sorted) (h : Node) → n ≡ A → Roles v
    → (h ≡ A → may_begin v.me.mode ≡ true) × (h ≡ B → may_begin v.them.mode ≡ true) → Base t n v o → is_committed (txn_at v t).status ≡ true
    → (txn_at v t).node ≡ other h → times_listed t o.later ≡ 0
late_none t n v o A at_a roles may b ended there =
    b.past_theirs (beside_past (turned v) (turned_roles v roles) (may.0 refl)) ended (there ∙ ap other (sym at_a))
late_none t n v o B at_a roles may b ended there = b.past_mine (beside_past v roles (may.1 refl)) ended (there ∙ sym at_a)

-- u begins at h
rank_begins : (sc : Scenario) (t u : ℕ) (n : Node) (v w : View) (start : Map) (lows : List ℕ) (o : Sorted) → Divided sc n v start lows o → (h : Node)
    → n ≡ A → home_of v.me.mode v.them.mode ≡ Some h → w ≡ begun h u v → w.them ≡ v.them → Base t n v o
    → (is_committed (txn_at v t).status ≡ true → times_listed t (o.first ++ o.later) ≡ 1) → is_new (txn_at v u).status ≡ true
    → is_new (txn_at v t).status ≡ false → (txn_at w u).status ≡ Active → (txn_at w u).node ≡ h → Rank t u n w o
rank_begins sc t u n v w start lows o s h at_a home e them b once new old active at =
    let same : txn_at w t ≡ txn_at v t = begun_other v w u h e t (old_far v u t new old) in
    let old_t : is_new (txn_at w t).status ≡ false = ap (λ (y : Txn). is_new y.status) same ∙ old in
    let old_u : is_new (txn_at w u).status ≡ false = ap is_new active in
    let none = (unlisted sc (txn_at v) start o u s.registers (new_off (txn_at v u).status new)).0 in
    let may = home_may v.me.mode v.them.mode h home in
    let mode : w.me.mode ≡ v.me.mode = mode_begun v w u h e in
    elim (cases_Bool (same_node (txn_at v t).node h)) [
      | inl one ↦ Together old_t old_u (ap (λ (y : Txn). y.node) same ∙ same_node-true (txn_at v t).node h one ∙ sym at)
      | inr two ↦
          let there : (txn_at v t).node ≡ other h = not_same (txn_at v t).node h two in
          elim (cases_Bool (is_active (txn_at v t).status)) [
            | inl runs ↦ rank_runs sc t u n v w o h at_a s.kept.inv.roles may (λ a. s.kept.mine.busy t a) (λ a. s.kept.theirs.busy t a) b
                (ap (λ (y : Txn). is_active y.status) same ∙ runs) runs there (ap (λ (y : Txn). y.node) same) mode them old_u at none
            | inr off ↦ elim (cases_Bool (is_committed (txn_at v t).status)) [
              | inl ended ↦
                  let zero = late_none t n v o h at_a s.kept.inv.roles may b ended there in
                  let all = once ended in
                  let both = listed_both t o.first o.later in
                  Ahead o.first [] (sym (append-nil o.first)) (omega (arith, zero, all, both)) none
              | inr lost ↦ Lost old_t (ap (λ (y : Txn). is_active y.status) same ∙ off) (ap (λ (y : Txn). is_committed y.status) same ∙ lost)
            ]
          ]
    ]

-- a begun transaction has these parts
begun_self : (v w : View) (t : ℕ) (h : Node) → w ≡ begun h t v → is_new (txn_at v t).status ≡ true → is_new (txn_at w t).status ≡ false
    → ((txn_at w t).status ≡ Active) × ((txn_at w t).node ≡ h)
unfolding begun
begun_self v w t h e new old = elim (at_either v w t (record nobody { status = Active; node = h }) (ap txns_of e)) [
  | inl now ↦ (ap (λ (y : Txn). y.status) now, ap (λ (y : Txn). y.node) now)
  | inr same ↦ absurd (false≢true (sym old ∙ ap (λ (y : Txn). is_new y.status) same ∙ new))
]

-- a commit keeps the rank
module _ (sc : Scenario) (t u : ℕ) (n : Node) (v : View) (start : Map) (lows : List ℕ) (o : Sorted) (s : Divided sc n v start lows o)
    (line : Committing sc n v) (old_t : is_new (txn_at v t).status ≡ false) where
  -- the view after it
  abbrev z : View
  z = committed line.txn v

  -- the commit as an event
  abbrev event : Event sc n v z
  event = Commits line refl

  -- its record
  abbrev c : CommitRecord
  c = record { txn = line.txn; done = (txn_at v line.txn).done + 1 }

  -- who is at the other node has not made it
  not_made : (x : ℕ) → (txn_at v x).node ≡ other n → x ≡ line.txn → ⊥
  not_made x at is = not_both_nodes n (txn_at v x).node (ap (λ y. (txn_at v y).node) is ∙ line.runs.here) at

  -- the others stay as they are
  stays_far : (x : ℕ) → (x ≡ line.txn → ⊥) → txn_at z x ≡ txn_at v x
  unfolding committed
  stays_far x far = at_other v z line.txn x _ refl far

  -- where t runs at n, which is a source
  mine_commit : IsAt v t n → is_source v.me.mode ≡ true → is_new (txn_at v u).status ≡ false → (txn_at v u).node ≡ other n → times_listed u o.first ≡ 0
      → Rank t u n z (record { first = o.first ++ c ∷ []; later = o.later })
  unfolding committed
  mine_commit a source old at none =
      let off = not_made u at in
      let zero = listed_more u o.first c (λ is. off (sym is)) none in
      elim (cases_eq t line.txn) [
        | inl is ↦
            let both = listed_both t o.first (c ∷ []) in
            let one : times_listed t (c ∷ []) ≡ 1 = ap (λ b. (if b then 1 else 0) + 0) (eq-eqb c.txn t (sym is)) in
            Ahead (o.first ++ c ∷ []) [] (sym (append-nil (o.first ++ c ∷ []))) (omega (arith, both, one)) zero
        | inr far ↦
            Mine (subst (λ (y : Txn). Stands y n) (sym (stays_far t far)) a) source (old_stays event u old) (node_stays event u old ∙ at) zero
      ]

  -- where t runs at the other node, which is a source
  theirs_commit : IsAt v t (other n) → is_source v.them.mode ≡ true → is_new (txn_at v u).status ≡ false → (txn_at v u).node ≡ n → times_listed u o.first ≡ 0
      → Rank t u n z (record { first = o.first; later = o.later ++ c ∷ [] })
  unfolding committed
  theirs_commit a source old at none =
      Theirs (subst (λ (y : Txn). Stands y (other n)) (sym (stays_far t (not_made t a.1))) a) source (old_stays event u old) (node_stays event u old ∙ at) none

-- each event keeps it
pub rank_event : (sc : Scenario) (t u : ℕ) (n : Node) (v w : View) (start : Map) (lows : List ℕ) (o : Sorted) → Divided sc n v start lows o
    → (e : Event sc n v w) → w.them ≡ v.them → Base t n v o → (is_committed (txn_at v t).status ≡ true → times_listed t (o.first ++ o.later) ≡ 1)
    → Rank t u n v o → Rank t u n w (sorted_after v w o)
unfolding committed
rank_event sc t u n v w start lows o s e them b once (Together x y same) = settled_event t u o (sorted_after v w o) e x y same
rank_event sc t u n v w start lows o s e them b once (Lost old off lost) =
    let same = left_alone e t old off in
    Lost (old_stays e t old) (ap (λ (y : Txn). is_active y.status) same ∙ off) (ap (λ (y : Txn). is_committed y.status) same ∙ lost)
rank_event sc t u n v w start lows o s (Begins line e) them b once (Waits new old) =
    let event : Event sc n v w = Begins line e in
    subst (Rank t u n w) (sym (then_still o event refl)) (elim (cases_Bool (is_new (txn_at w u).status)) [
      | inl still ↦ Waits still (old_stays event t old)
      | inr began ↦ elim (cases_eq u line.txn) [
        | inl is ↦
            let e_u : w ≡ begun line.home u v = e ∙ ap (λ x. begun line.home x v) (sym is) in
            let self = begun_self v w u line.home e_u new began in
            rank_begins sc t u n v w start lows o s line.home line.at_a line.home_is e_u them b once new old self.0 self.1
        | inr far ↦ absurd (false≢true (sym began ∙ ap (λ (y : Txn). is_new y.status) (begun_other v w line.txn line.home e u far) ∙ new))
      ]
    ])
rank_event sc t u n v w start lows o s e them b once (Waits new old) = Waits (new_stays e refl u new) (old_stays e t old)
rank_event sc t u n v w start lows o s (Commits line e) them b once (Ahead front more is held none) =
    let c : CommitRecord = record { txn = line.txn; done = (txn_at v line.txn).done + 1 } in
    let z = committed line.txn v in
    subst (λ x. Rank t u n x (sorted_after v x o)) (sym e) (elim (cases_Bool (is_source v.me.mode)) [
      | inl source ↦ subst (Rank t u n z) (sym (sorted_first (is_source v.me.mode) v.commits c o source))
          (Ahead front (more ++ c ∷ []) (ap (λ xs. xs ++ c ∷ []) is ∙ append_assoc front more (c ∷ [])) held none)
      | inr off ↦ subst (Rank t u n z) (sym (sorted_last (is_source v.me.mode) v.commits c o off)) (Ahead front more is held none)
    ])
rank_event sc t u n v w start lows o s (Starts line e) them b once (Ahead front more is held none) =
    subst (Rank t u n w) (sym (then_starts v w o line.normal (ap (λ (z : View). is_source z.me.mode) e)))
    (Ahead front (more ++ o.later) (ap (λ xs. xs ++ o.later) is ∙ append_assoc front more o.later) held none)
rank_event sc t u n v w start lows o s e them b once (Ahead front more is held none) =
    subst (Rank t u n w) (sym (then_still o e refl)) (Ahead front more is held none)
rank_event sc t u n v w start lows o s (Commits line e) them b once (Mine a source old at none) =
    let c : CommitRecord = record { txn = line.txn; done = (txn_at v line.txn).done + 1 } in
    subst (λ x. Rank t u n x (sorted_after v x o)) (sym e) (subst (Rank t u n (committed line.txn v))
    (sym (sorted_first (is_source v.me.mode) v.commits c o source))
    (mine_commit sc t u n v start lows o s line (active_old (txn_at v t).status a.0) a source old at none))
rank_event sc t u n v w start lows o s (Starts line e) them b once (Mine a source old at none) =
    absurd (false≢true (sym (ap is_source line.normal) ∙ source))
rank_event sc t u n v w start lows o s e them b once (Mine a source old at none) =
    subst (Rank t u n w) (sym (then_still o e refl)) (goes_on_or t u o n e refl a (λ on.
    Mine on (still_source lows e refl s.kept t a ∙ source) (old_stays e u old) (node_stays e u old ∙ at) none))
rank_event sc t u n v w start lows o s (Commits line e) them b once (Theirs a source old at none) =
    let c : CommitRecord = record { txn = line.txn; done = (txn_at v line.txn).done + 1 } in
    let off : is_source v.me.mode ≡ false = false_from_ne_true _ (λ m. false≢true (sym (one_of v s.kept.inv.roles m) ∙ source)) in
    subst (λ x. Rank t u n x (sorted_after v x o)) (sym e) (subst (Rank t u n (committed line.txn v))
    (sym (sorted_last (is_source v.me.mode) v.commits c o off))
    (theirs_commit sc t u n v start lows o s line (active_old (txn_at v t).status a.0) a source old at none))
rank_event sc t u n v w start lows o s (Starts line e) them b once (Theirs a source old at none) =
    absurd (false≢true (sym (ap is_source line.empty) ∙ source))
rank_event sc t u n v w start lows o s e them b once (Theirs a source old at none) =
    subst (Rank t u n w) (sym (then_still o e refl)) (goes_on_or t u o (other n) e refl a (λ on.
    Theirs on (ap (λ (x : NodeState). is_source x.mode) them ∙ source) (old_stays e u old) (node_stays e u old ∙ at) none))
