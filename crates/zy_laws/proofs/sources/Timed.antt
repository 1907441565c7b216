-- The sorted commits beside the transactions of an earlier state: those that were committed then stand before those that were new.
use Rattle.std.proofs.Common.{List, [], ap, append_assoc, false, inl, inr, refl, subst, sym, true, ℕ, ◌++◌, ◌+◌, ◌∙◌, ◌∷◌, ◌≡◌}
use Rattle.std.specs.Prelude.{Bool}
use Rattle.std.proofs.lemmas.Bool.{cases_Bool, false≢true, false_from_ne_true}
use Rattle.zy_isa.specs.Scenario.{Scenario}
use Rattle.zy_isa.specs.declared.node.Node.{Node}
use Rattle.zy_model.specs.Families.{is_source}
use Rattle.zy_model.specs.declared.mode.NodeMode.TheVariants.{SInit}
use Rattle.zy_table.specs.Change.{begun, committed, txn_at}
use Rattle.zy_table.specs.Client.{is_new}
use Rattle.zy_table.specs.declared.entry.CommitRecord.{CommitRecord}
use Rattle.zy_table.specs.declared.status.Status.{Status}
use Rattle.zy_table.specs.Serial.{is_committed}
use Rattle.zy_table.specs.State.{NodeState, Txn, View, other}
use Rattle.zy_laws.specs.SourceFirst.{Sorted}
use Rattle.zy_laws.proofs.locks.Locking.{Kept}
use Rattle.zy_laws.proofs.sources.Places.{NoneIs}
use Rattle.zy_laws.proofs.sources.Sorting.{keeps_commits, sorted_after, sorted_first, sorted_last, then_starts, then_still}
use Rattle.zy_laws.proofs.walk.Events.{Event, Begins, Commits, Starts}
use Rattle.zy_laws.proofs.walk.Conditions.{is_at}
use Rattle.zy_laws.proofs.walk.Txns.{IsAt, active_off}
use Rattle.zy_laws.proofs.sources.Beginnings.{back, back_begun, home_away, no_init, unready}

-- where two lists have none whose status is so, both as one have none
pub none_both : (so : Status → Bool) (f : ℕ → Txn) (xs ys : List CommitRecord) → NoneIs so f xs → NoneIs so f ys → NoneIs so f (xs ++ ys)
none_both so f [] ys a b = b
none_both so f (c ∷ cs) ys a b = (a.0, none_both so f cs ys a.1 b)

-- a node x, named n, is not in SInit, and if it is a source, whoever runs there had begun in the earlier state
pub record Aged (was : ℕ → Txn) (n : Node) (x : NodeState) (v : View) : Type 0 where
  pub plain : x.mode ≡ SInit → ⊥
  pub old : is_source x.mode ≡ true → (t : ℕ) → IsAt v t n → is_new (was t).status ≡ false

-- the sorted commits in two parts: none of the front was new in the earlier state, and none of the rest was committed in it. The front
-- ends in the first list (Ends_in_first), or in the second (Ends_in_later); then whatever was new runs at no source
pub data Timed (was : ℕ → Txn) (n : Node) (v : View) (o : Sorted) : Type 0 where
  Ends_in_first : (front more : List CommitRecord) → o.first ≡ front ++ more → NoneIs is_new was front → NoneIs is_committed was more
      → NoneIs is_committed was o.later → Timed was n v o
  Ends_in_later : (old more : List CommitRecord) → o.later ≡ old ++ more → NoneIs is_new was o.first → NoneIs is_new was old → NoneIs is_committed was more
      → Aged was n v.me v → Aged was (other n) v.them v → Timed was n v o

-- a node keeps it whose transactions ran there before
aged_back : (was : ℕ → Txn) (n : Node) (x y : NodeState) (v w : View) → Aged was n x v → (y.mode ≡ SInit → x.mode ≡ SInit)
    → (is_source y.mode ≡ true → is_source x.mode ≡ true) → ((u : ℕ) → IsAt w u n → IsAt v u n) → Aged was n y w
aged_back was n x y v w a init source before = record {
  plain = λ h. a.plain (init h);
  old = λ h t at. a.old (source h) t (before t at);
}

-- each event keeps it
pub timed_event : (sc : Scenario) (was : ℕ → Txn) (n : Node) (v w : View) (o : Sorted) → (e : Event sc n v w) → w.them ≡ v.them
    → ((t : ℕ) → is_committed (was t).status ≡ true → is_committed (txn_at v t).status ≡ true) → Timed was n v o → Timed was n w (sorted_after v w o)
unfolding committed begun
timed_event sc was n v w o (Commits line e) them still (Ends_in_first front more is f r l) =
    let c : CommitRecord = record { txn = line.txn; done = (txn_at v line.txn).done + 1 } in
    let late : is_committed (was line.txn).status ≡ false =
    false_from_ne_true _ (λ h. false≢true (sym (active_off (txn_at v line.txn).status line.runs.active) ∙ still line.txn h)) in
    subst (λ z. Timed was n z (sorted_after v z o)) (sym e) (elim (cases_Bool (is_source v.me.mode)) [
      | inl source ↦ subst (Timed was n (committed line.txn v)) (sym (sorted_first (is_source v.me.mode) v.commits c o source))
          (Ends_in_first front (more ++ c ∷ []) (ap (λ xs. xs ++ c ∷ []) is ∙ append_assoc front more (c ∷ [])) f
          (none_both is_committed was more (c ∷ []) r (late, tt)) l)
      | inr off ↦ subst (Timed was n (committed line.txn v)) (sym (sorted_last (is_source v.me.mode) v.commits c o off))
          (Ends_in_first front more is f r (none_both is_committed was o.later (c ∷ []) l (late, tt)))
    ])
timed_event sc was n v w o (Commits line e) them still (Ends_in_later old more is f b r mine theirs) =
    let c : CommitRecord = record { txn = line.txn; done = (txn_at v line.txn).done + 1 } in
    let z = committed line.txn v in
    let here : Event sc n v z = Commits line refl in
    let m : Aged was n z.me z = aged_back was n v.me z.me v z mine (λ h. h) (λ h. h) (λ u. back here refl u n) in
    let d : Aged was (other n) z.them z = aged_back was (other n) v.them z.them v z theirs (λ h. h) (λ h. h) (λ u. back here refl u (other n)) in
    let late : is_committed (was line.txn).status ≡ false =
    false_from_ne_true _ (λ h. false≢true (sym (active_off (txn_at v line.txn).status line.runs.active) ∙ still line.txn h)) in
    subst (λ x. Timed was n x (sorted_after v x o)) (sym e) (elim (cases_Bool (is_source v.me.mode)) [
      | inl source ↦ subst (Timed was n z) (sym (sorted_first (is_source v.me.mode) v.commits c o source))
          (Ends_in_later old more is (none_both is_new was o.first (c ∷ []) f (mine.old source line.txn (is_at line.runs), tt)) b r m d)
      | inr off ↦ subst (Timed was n z) (sym (sorted_last (is_source v.me.mode) v.commits c o off))
          (Ends_in_later old (more ++ c ∷ []) (ap (λ xs. xs ++ c ∷ []) is ∙ append_assoc old more (c ∷ [])) f b
          (none_both is_committed was more (c ∷ []) r (late, tt)) m d)
    ])
timed_event sc was n v w o (Starts line e) them still (Ends_in_first front more is f r l) =
    subst (Timed was n w) (sym (then_starts v w o line.normal (ap (λ (z : View). is_source z.me.mode) e)))
    (Ends_in_first front (more ++ o.later) (ap (λ xs. xs ++ o.later) is ∙ append_assoc front more o.later) f (none_both is_committed was more o.later r l) tt)
timed_event sc was n v w o (Starts line e) them still (Ends_in_later old more is f b r mine theirs) =
    subst (Timed was n w) (sym (then_starts v w o line.normal (ap (λ (z : View). is_source z.me.mode) e)))
    (Ends_in_first (o.first ++ old) more (ap (λ xs. o.first ++ xs) is ∙ sym (append_assoc o.first old more)) (none_both is_new was o.first old f b) r tt)
timed_event sc was n v w o (Begins line e) them still (Ends_in_later old more is f b r mine theirs) =
    let event : Event sc n v w = Begins line e in
    let away = home_away v.me.mode v.them.mode line.home mine.plain theirs.plain line.home_is in
    let same : w.me.mode ≡ v.me.mode = ap (λ (x : View). x.me.mode) e in
    let other_same : w.them.mode ≡ v.them.mode = ap (λ (x : NodeState). x.mode) them in
    let m : Aged was n w.me w = record {
      plain = λ i. mine.plain (sym same ∙ i);
      old = λ s u at. elim (back_begun v w line.txn line.home e u n at) [
        | inl before ↦ mine.old (sym (ap is_source same) ∙ s) u before
        | inr it ↦ absurd (false≢true (sym (away.0 (sym it ∙ line.at_a)) ∙ sym (ap is_source same) ∙ s))
      ];
    } in
    let d : Aged was (other n) w.them w = record {
      plain = λ i. theirs.plain (sym other_same ∙ i);
      old = λ s u at. elim (back_begun v w line.txn line.home e u (other n) at) [
        | inl before ↦ theirs.old (sym (ap is_source other_same) ∙ s) u before
        | inr it ↦ absurd (false≢true (sym (away.1 (sym it ∙ ap other line.at_a)) ∙ sym (ap is_source other_same) ∙ s))
      ];
    } in
    subst (Timed was n w) (sym (then_still o event refl)) (Ends_in_later old more is f b r m d)
timed_event sc was n v w o e them still (Ends_in_first front more is f r l) =
    subst (Timed was n w) (sym (then_still o e refl)) (Ends_in_first front more is f r l)
timed_event sc was n v w o e them still (Ends_in_later old more is f b r mine theirs) =
    let other_same : w.them.mode ≡ v.them.mode = ap (λ (x : NodeState). x.mode) them in
    subst (Timed was n w) (sym (then_still o e refl)) (Ends_in_later old more is f b r
    (aged_back was n v.me w.me v w mine (no_init v w e refl) (keeps_commits e refl).1 (λ u. back e refl u n))
    (aged_back was (other n) v.them w.them v w theirs (λ h. sym other_same ∙ h) (λ h. sym (ap is_source other_same) ∙ h) (λ u. back e refl u (other n))))

-- while a node is in SInit nothing has committed elsewhere since its start
pub record Early (v : View) (o : Sorted) : Type 0 where
  pub mine : v.me.mode ≡ SInit → o.later ≡ []
  pub theirs : v.them.mode ≡ SInit → o.later ≡ []

-- each event keeps it
pub early_event : (sc : Scenario) (n : Node) (v w : View) (lows : List ℕ) (o : Sorted) → (e : Event sc n v w) → Kept sc n v lows → w.them ≡ v.them → Early v o
    → Early w (sorted_after v w o)
unfolding committed
early_event sc n v w lows o (Commits line e) k them x =
    let c : CommitRecord = record { txn = line.txn; done = (txn_at v line.txn).done + 1 } in
    let z = committed line.txn v in
    subst (λ y. Early y (sorted_after v y o)) (sym e) (elim (cases_Bool (is_source v.me.mode)) [
      | inl source ↦ subst (Early z) (sym (sorted_first (is_source v.me.mode) v.commits c o source)) (record { mine = x.mine; theirs = x.theirs })
      | inr off ↦ subst (Early z) (sym (sorted_last (is_source v.me.mode) v.commits c o off)) (record {
        mine = λ h. absurd (false≢true (sym off ∙ ap is_source h));
        theirs = λ h. elim (unready v k.inv.roles h) [
          | inl idle ↦ absurd (false≢true (sym (k.mine.busy line.txn (is_at line.runs)) ∙ idle))
          | inr waits ↦ absurd (false≢true (sym line.runs.begun ∙ waits))
        ];
      })
    ])
early_event sc n v w lows o (Starts line e) k them x =
    subst (Early w) (sym (then_starts v w o line.normal (ap (λ (z : View). is_source z.me.mode) e))) (record { mine = λ _. refl; theirs = λ _. refl })
early_event sc n v w lows o e k them x =
    subst (Early w) (sym (then_still o e refl)) (record {
      mine = λ h. x.mine (no_init v w e refl h);
      theirs = λ h. x.theirs (sym (ap (λ (y : NodeState). y.mode) them) ∙ h);
    })
