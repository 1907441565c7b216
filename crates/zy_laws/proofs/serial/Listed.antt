-- The commit list has each committed transaction once, and nothing else.
use Rattle.std.proofs.Common.{List, [], ap, arith, inl, inr, refl, subst, sym, true, ℕ, ◌++◌, ◌+◌, ◌∙◌, ◌∷◌, ◌≡◌}
use Rattle.std.specs.Prelude.{slice_set, ◌==◌}
use Rattle.std.proofs.lemmas.Bool.{cases_eq, eq-eqb, ne_eqb}
use Rattle.zy_isa.specs.Scenario.{Scenario}
use Rattle.zy_isa.specs.declared.choice.Choice.{Choice}
use Rattle.zy_isa.specs.declared.node.Node.{Node}
use Rattle.zy_isa.specs.declared.node.Node.TheVariants.{A, B}
use Rattle.zy_table.specs.Change.{aborted, asks, begun, committed, cut, did, leaves, locked, shares, txn_at}
use Rattle.zy_table.specs.Client.{is_active}
use Rattle.zy_table.specs.Play.{move, opening, play, side_of, step}
use Rattle.zy_table.specs.Serial.{CommitsListed, is_committed, times_listed}
use Rattle.zy_table.specs.declared.entry.CommitRecord.{CommitRecord}
use Rattle.zy_table.specs.State.{State, Txn, View, facing, seen_from}
use Rattle.zy_laws.proofs.walk.Events.{Aborts, Begins, Commits, Event, Gets}
use Rattle.zy_laws.proofs.walk.Events.{Inserts, SumsUp, Splits, Writes, step_happens, GoesOn}
use Rattle.zy_laws.proofs.walk.PlayPush.{play-keeps}
use Rattle.zy_laws.proofs.room.Room.{one_if}
use Rattle.zy_laws.proofs.counts.Fates.{txns_of}
use Rattle.zy_laws.proofs.walk.Txns.{active_off, at_back, at_either, at_other, at_same, at_self, at_side, blank_at, new_off}
use Rattle.zy_laws.proofs.walk.Kinds.{quiet_of}

-- 1 for a transaction that is committed
abbrev counts : Txn → ℕ
counts x = one_if (is_committed x.status)

-- the list counts t as its status says
abbrev Told : View → ℕ → Type 0
Told v t = times_listed t v.commits ≡ counts (txn_at v t)

-- a commit more is counted for its transaction
listed-push : (t : ℕ) (cs : List CommitRecord) (c : CommitRecord) → times_listed t (cs ++ c ∷ []) ≡ times_listed t cs + one_if (c.txn == t)
listed-push t [] c = omega arith
listed-push t (x ∷ cs) c = let k = listed-push t cs c in omega (arith, k)

-- a step that sets no transaction keeps it
told_same : (v w : View) (u : ℕ) → w.txns ≡ v.txns → w.commits ≡ v.commits → Told v u → Told w u
told_same v w u e c h = ap (times_listed u) c ∙ h ∙ sym (ap counts (at_same v w u e))

-- t alone is set, and is committed as it was
told_set : (v w : View) (t u : ℕ) (y : Txn) → w.txns ≡ slice_set v.txns t y → w.commits ≡ v.commits → is_committed y.status ≡ is_committed (txn_at v t).status
    → Told v u → Told w u
told_set v w t u y e c a h =
    let same : counts (txn_at w u) ≡ counts (txn_at v u) = elim (cases_eq u t) [
      | inl is ↦ subst (λ z. counts (txn_at w z) ≡ counts (txn_at v z)) (sym is) (elim (at_either v w t y e) [
        | inl k ↦ ap counts k ∙ ap one_if a
        | inr k ↦ ap counts k
      ])
      | inr far ↦ ap counts (at_other v w t u y e far)
    ] in
    ap (times_listed u) c ∙ h ∙ sym same

-- t commits, and a record of it is at the end of the list
told_commit : (v w : View) (t u : ℕ) (y : Txn) (c : CommitRecord) → w.txns ≡ slice_set v.txns t y → w.commits ≡ v.commits ++ c ∷ [] → c.txn ≡ t
    → is_committed y.status ≡ true → is_active (txn_at v t).status ≡ true → Told v u → Told w u
told_commit v w t u y c e more named now active h =
    let long = ap (times_listed u) more ∙ listed-push u v.commits c in
    elim (cases_eq u t) [
      | inl is ↦
          let before : counts (txn_at v u) ≡ 0 = ap (λ z. counts (txn_at v z)) is ∙ ap one_if (active_off (txn_at v t).status active) in
          let after : counts (txn_at w u) ≡ 1 = ap (λ z. counts (txn_at w z)) is ∙ ap counts (at_self v w t y e active) ∙ ap one_if now in
          let one : one_if (c.txn == u) ≡ 1 = ap one_if (eq-eqb c.txn u (named ∙ sym is)) in
          omega (arith, long, before, after, one, h)
      | inr far ↦
          let same : counts (txn_at w u) ≡ counts (txn_at v u) = ap counts (at_other v w t u y e far) in
          let none : one_if (c.txn == u) ≡ 0 = ap one_if (ne_eqb c.txn u (λ k. far (sym k ∙ named))) in
          omega (arith, long, same, none, h)
    ]

-- the commit list of a view
abbrev commits_of : View → List CommitRecord
commits_of v = v.commits

-- each event keeps it
told : (sc : Scenario) (n : Node) (v w : View) (u : ℕ) → Event sc n v w → Told v u → Told w u
unfolding did locked shares txn_at aborted begun committed cut asks leaves
told sc n v w u (Begins line e) = told_set v w line.txn u _ (ap txns_of e) (ap commits_of e) (sym (new_off (txn_at v line.txn).status line.new))
told sc n v w u (Aborts line e) = told_set v w line.txn u _ (ap txns_of e) (ap commits_of e) (sym (active_off (txn_at v line.txn).status line.active))
told sc n v w u (GoesOn line e) = told_set v w line.txn u _ (ap txns_of e) (ap commits_of e) refl
told sc n v w u (Gets line e) = told_set v w line.txn u _ (ap txns_of e) (ap commits_of e) refl
told sc n v w u (SumsUp line e) = told_set v w line.txn u _ (ap txns_of e) (ap commits_of e) refl
told sc n v w u (Writes line e) = told_set v w line.txn u _ (ap txns_of e) (ap commits_of e) refl
told sc n v w u (Inserts line e) = told_set v w line.txn u _ (ap txns_of e) (ap commits_of e) refl
told sc n v w u (Splits line e) = told_same v w u (ap txns_of e) (ap commits_of e)
told sc n v w u (Commits line e) = told_commit v w line.txn u _ _ (ap txns_of e) (ap commits_of e) refl refl line.runs.active
told sc n v w u e = let q = quiet_of e refl in told_same v w u q.txns q.commits

-- what holds of a state holds of the view from either node
told_from : (n : Node) (s : State) (t : ℕ) → CommitsListed s → Told (facing n s) t
told_from A s t h = h t ∙ sym (ap counts (at_side A s t))
told_from B s t h = h t ∙ sym (ap counts (at_side B s t))

-- what holds of a view holds of its state
told_to : (n : Node) (w : View) → ((t : ℕ) → Told w t) → CommitsListed (seen_from n w)
told_to A w h = λ t. h t ∙ sym (ap counts (at_back A w t))
told_to B w h = λ t. h t ∙ sym (ap counts (at_back B w t))

-- a step keeps it
pub step_listed : (sc : Scenario) (c : Choice) (s : State) → CommitsListed s → CommitsListed (step sc c s).after
unfolding step
step_listed sc c s h =
    let n = side_of sc c s in
    let v = facing n s in
    let w = (move sc c v).after in
    told_to n w (λ t. told sc n v w t (step_happens sc c s).event (told_from n s t h))

-- it holds at the opening
pub opening_listed : (sc : Scenario) → CommitsListed (opening sc)
unfolding opening
opening_listed sc = λ t. sym (ap counts (blank_at sc.programs t))

-- in every state that is reached
pub listed : (sc : Scenario) (cs : List Choice) → CommitsListed (play sc (opening sc) cs)
listed sc cs = play-keeps sc CommitsListed (step_listed sc) cs (opening sc) (opening_listed sc)
