-- Kills of active transactions: these end, and every other is as it was; once each active one is killed, none is active.
use Rattle.std.proofs.Common.{List, [], ap, arith, false, inl, inr, refl, suc, subst, sym, true, zero, ℕ, ◌+◌, ◌∙◌, ◌∷◌, ◌≡◌}
use Rattle.std.specs.Prelude.{Bool, slice_get, ◌++◌}
use Rattle.std.proofs.lemmas.Bool.{cases_Bool, cond_both, false≢true}
use Rattle.zy_isa.specs.Scenario.{IsScenario, Scenario}
use Rattle.zy_isa.specs.declared.choice.Choice.{Choice}
use Rattle.zy_isa.specs.declared.choice.Choice.TheVariants.{Kill}
use Rattle.zy_isa.specs.declared.node.Node.{Node}
use Rattle.zy_isa.specs.declared.node.Node.TheVariants.{A, B}
use Rattle.zy_table.specs.Change.{aborted, txn_at, txn_or}
use Rattle.zy_table.specs.Client.{is_active, kill_step}
use Rattle.zy_table.specs.Database.{database}
use Rattle.zy_table.specs.Play.{move, opening, play, step}
use Rattle.zy_table.specs.State.{Move, NodeState, State, Txn, View, facing, seen_from}
use Rattle.zy_table.specs.declared.outcome.Why.TheVariants as why
use Rattle.zy_laws.specs.WayOut.{kills}
use Rattle.zy_laws.proofs.walk.PlayPush.{play-push}
use Rattle.zy_laws.proofs.serial.Values.{commits_alone}
use Rattle.zy_laws.proofs.walk.Txns.{at_back, at_other, at_self, at_side}

-- whether transaction t of these is active
abbrev pub on : List Txn → ℕ → Bool
on xs t = is_active (txn_or (slice_get xs t)).status

-- a step ended t, and left every other as it was
pub record Killed (t : ℕ) (s w : State) : Type 0 where
  pub ended : on w.txns t ≡ false
  pub others : (u : ℕ) → (u ≡ t → ⊥) → txn_or (slice_get w.txns u) ≡ txn_or (slice_get s.txns u)
  pub commits : w.commits ≡ s.commits
  pub modes : (n : Node) → (facing n w).me.mode ≡ (facing n s).me.mode

-- the same of the views of a node
record Ended (t : ℕ) (v w : View) : Type 0 where
  ended : is_active (txn_at w t).status ≡ false
  others : (u : ℕ) → (u ≡ t → ⊥) → txn_at w u ≡ txn_at v u
  commits : w.commits ≡ v.commits
  mode : w.me.mode ≡ v.me.mode
  them : w.them ≡ v.them

-- an active transaction that aborts has ended
aborted_ends : (t : ℕ) (v : View) → is_active (txn_at v t).status ≡ true → Ended t v (aborted t why.Killed v)
unfolding aborted
aborted_ends t v h = record {
  ended = ap (λ (x : Txn). is_active x.status) (at_self v _ t _ refl h);
  others = λ u far. at_other v _ t u _ refl far;
  commits = refl;
  mode = refl;
  them = refl;
}

-- so a kill of an active transaction ends it
kill_ends : (t : ℕ) (v : View) → is_active (txn_at v t).status ≡ true → Ended t v (kill_step t v).after
unfolding kill_step
kill_ends t v h =
    cond_both (is_active (txn_at v t).status) _ _ (λ (z : Move). Ended t v z.after)
    (λ _. aborted_ends t v h)
    (λ off. absurd (false≢true (sym off ∙ h)))

-- commits are the same from either side
commits_back : (n : Node) (s : State) (w : View) → w.commits ≡ (facing n s).commits → (seen_from n w).commits ≡ s.commits
commits_back A s w e = e
commits_back B s w e = e

-- a node has its mode from either side
modes_back : (n m : Node) (s : State) (w : View) → w.me.mode ≡ (facing n s).me.mode → w.them ≡ (facing n s).them
    → (facing m (seen_from n w)).me.mode ≡ (facing m s).me.mode
modes_back A A s w mode them = mode
modes_back A B s w mode them = ap (λ (x : NodeState). x.mode) them
modes_back B A s w mode them = ap (λ (x : NodeState). x.mode) them
modes_back B B s w mode them = mode

-- what a node's view says of the others holds in the state
killed_back : (n : Node) (t : ℕ) (s : State) (w : View) → Ended t (facing n s) w → Killed t s (seen_from n w)
killed_back n t s w k = record {
  ended = ap (λ (x : Txn). is_active x.status) (at_back n w t) ∙ k.ended;
  others = λ u far. at_back n w u ∙ k.others u far ∙ at_side n s u;
  commits = commits_back n s w k.commits;
  modes = λ m. modes_back n m s w k.mode k.them;
}

-- a kill of an active transaction ends it, and no other
step_kills : (sc : Scenario) (t : ℕ) (s : State) → on s.txns t ≡ true → Killed t s (step sc (Kill t) s).after
unfolding step move
step_kills sc t s h =
    let n = (txn_or (slice_get s.txns t)).node in
    killed_back n t s (kill_step t (facing n s)).after (kill_ends t (facing n s) (ap (λ (x : Txn). is_active x.status) (at_side n s t) ∙ h))

-- a state that a schedule leads to
pub record From (sc : Scenario) (s : State) : Type 0 where
  pub choices : List Choice
  pub is : play sc (opening sc) choices ≡ s

-- so is the state after a step
pub from_step : (sc : Scenario) (c : Choice) (s : State) → From sc s → From sc (step sc c s).after
from_step sc c s f = record {
  choices = f.choices ++ c ∷ [];
  is = play-push sc (opening sc) f.choices c ∙ ap (λ z. (step sc c z).after) f.is;
}

-- a state has the commits and the database of an earlier one
pub record Keeps (s w : State) : Type 0 where
  pub commits : w.commits ≡ s.commits
  pub data_same : database w ≡ database s

-- it has its own
pub keeps_none : (s : State) → Keeps s s
keeps_none s = record { commits = refl; data_same = refl }

-- and those that the one before it has
pub keeps_on : (s w x : State) → Keeps s w → Keeps w x → Keeps s x
keeps_on s w x a b = record { commits = b.commits ∙ a.commits; data_same = b.data_same ∙ a.data_same }

-- a step without a commit keeps the database
pub step_keeps : (sc : Scenario) → IsScenario sc → (c : Choice) (s : State) → From sc s → (step sc c s).after.commits ≡ s.commits
    → Keeps s (step sc c s).after
step_keeps sc ok c s f e = record {
  commits = e;
  data_same = subst (λ z. (step sc c z).after.commits ≡ z.commits → database (step sc c z).after ≡ database z) f.is (commits_alone sc ok f.choices c) e;
}

-- a state that is reached, with the modes, the commits and the database of an earlier one, in which those of xs that were active, numbered
-- from t on, have ended, and every other is as it was
pub record KilledAll (sc : Scenario) (t : ℕ) (xs : List Txn) (s w : State) : Type 0 where
  pub from : From sc w
  pub ended : (i : ℕ) → on xs i ≡ true → on w.txns (t + i) ≡ false
  pub others : (u : ℕ) → ((i : ℕ) → u ≡ t + i → on xs i ≡ false) → txn_or (slice_get w.txns u) ≡ txn_or (slice_get s.txns u)
  pub modes : (n : Node) → (facing n w).me.mode ≡ (facing n s).me.mode
  pub keeps : Keeps s w

-- the same for one more before them, which was not active
not_killed : (sc : Scenario) (t : ℕ) (x : Txn) (xs : List Txn) (s w : State) → is_active x.status ≡ false → KilledAll sc (t + 1) xs s w
    → KilledAll sc t (x ∷ xs) s w
not_killed sc t x xs s w off rest = record {
  from = rest.from;
  ended = λ i h. ended_at i h;
  others = λ u far. rest.others u (λ i e. far (suc i) (omega (arith, e)));
  modes = rest.modes;
  keeps = rest.keeps;
}
  where
    ended_at : (i : ℕ) → on (x ∷ xs) i ≡ true → on w.txns (t + i) ≡ false
    ended_at zero h = absurd (false≢true (sym off ∙ h))
    ended_at (suc i) h = let same : t + 1 + i ≡ t + suc i = omega arith in subst (λ (z : ℕ). on w.txns z ≡ false) same (rest.ended i h)

-- once the active ones of xs are killed, where they are active in the state, too
pub killed_from : (sc : Scenario) → IsScenario sc → (xs : List Txn) (t : ℕ) (s : State) → From sc s
    → ((i : ℕ) → on xs i ≡ true → on s.txns (t + i) ≡ true) → KilledAll sc t xs s (play sc s (kills t xs))
killed_from sc ok [] t s f each = record { from = f; ended = λ i h. absurd (false≢true h); others = λ u far. refl; modes = λ n. refl; keeps = keeps_none s }
killed_from sc ok (x ∷ xs) t s f each =
    let next : (i : ℕ) → on xs i ≡ true → on s.txns (t + 1 + i) ≡ true = λ i h.
    let same : t + suc i ≡ t + 1 + i = omega arith in subst (λ (z : ℕ). on s.txns z ≡ true) same (each (suc i) h) in
    cond_both (is_active x.status) (Kill t ∷ kills (t + 1) xs) (kills (t + 1) xs) (λ cs. KilledAll sc t (x ∷ xs) s (play sc s cs))
    (λ active.
    let w = (step sc (Kill t) s).after in
    let none : t + 0 ≡ t = omega arith in
    let k = step_kills sc t s (subst (λ (z : ℕ). on s.txns z ≡ true) none (each 0 active)) in
    let rest = killed_from sc ok xs (t + 1) w (from_step sc (Kill t) s f)
    (λ i h. ap (λ (y : Txn). is_active y.status) (k.others (t + 1 + i) (λ e. omega (arith, e))) ∙ next i h) in
    record {
      from = rest.from;
      ended = ended_at w k rest;
      others = λ u far. rest.others u (λ i e. far (suc i) (omega (arith, e)))
          ∙ k.others u (λ same. false≢true (sym (far 0 (omega (arith, same))) ∙ active));
      modes = λ n. rest.modes n ∙ k.modes n;
      keeps = keeps_on s w _ (step_keeps sc ok (Kill t) s f k.commits) rest.keeps;
    })
    (λ off. not_killed sc t x xs s _ off (killed_from sc ok xs (t + 1) s f next))
  where
    ended_at : (w : State) → Killed t s w → KilledAll sc (t + 1) xs w (play sc w (kills (t + 1) xs)) → (i : ℕ) → on (x ∷ xs) i ≡ true
        → on (play sc w (kills (t + 1) xs)).txns (t + i) ≡ false
    ended_at w k rest zero h =
        let none : t ≡ t + 0 = omega arith in
        subst (λ (z : ℕ). on (play sc w (kills (t + 1) xs)).txns z ≡ false) none
        (ap (λ (y : Txn). is_active y.status) (rest.others t (λ i e. absurd (omega (arith, e)))) ∙ k.ended)
    ended_at w k rest (suc i) h =
        let same : t + 1 + i ≡ t + suc i = omega arith in
        subst (λ (z : ℕ). on (play sc w (kills (t + 1) xs)).txns z ≡ false) same (rest.ended i h)

-- a state that is reached in which no transaction is active, with the modes, the commits and the database of an earlier one
pub record Stilled (sc : Scenario) (s w : State) : Type 0 where
  pub from : From sc w
  pub idle : (t : ℕ) → on w.txns t ≡ false
  pub modes : (n : Node) → (facing n w).me.mode ≡ (facing n s).me.mode
  pub keeps : Keeps s w

-- once each active transaction is killed, none is active
pub all_killed : (sc : Scenario) → IsScenario sc → (s : State) → From sc s → Stilled sc s (play sc s (kills 0 s.txns))
all_killed sc ok s f =
    let k = killed_from sc ok s.txns 0 s f (λ i h. let same : i ≡ 0 + i = omega arith in subst (λ (z : ℕ). on s.txns z ≡ true) same h) in
    record {
      from = k.from;
      idle = λ u. elim (cases_Bool (on s.txns u)) [
        | inl active ↦ let same : 0 + u ≡ u = omega arith in subst (λ (z : ℕ). on (play sc s (kills 0 s.txns)).txns z ≡ false) same (k.ended u active)
        | inr off ↦ ap (λ (x : Txn). is_active x.status)
            (k.others u (λ i e. let same : u ≡ i = omega (arith, e) in subst (λ (z : ℕ). on s.txns z ≡ false) same off)) ∙ off
      ];
      modes = k.modes;
      keeps = k.keeps;
    }
