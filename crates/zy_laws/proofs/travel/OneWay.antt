-- A node becomes a source by a start alone: so a page that has passed to another one goes back only in another migration.
use Rattle.std.proofs.Common.{List, [], ap, false, inl, inr, refl, subst, sym, ℕ, ◌∙◌, ◌∷◌, ◌≡◌}
use Rattle.std.specs.Prelude.{◌⊎◌}
use Rattle.std.proofs.lemmas.Bool.{false≢true}
use Rattle.zy_isa.specs.declared.version.Version.TheVariants.{One}
use Rattle.zy_model.specs.Families.{is_source}
use Rattle.zy_isa.proofs.ResultLemmas.{neither}
use Rattle.zy_isa.specs.Scenario.{Scenario}
use Rattle.zy_isa.specs.declared.choice.Choice.{Choice}
use Rattle.zy_isa.specs.declared.node.Node.{Node}
use Rattle.zy_isa.specs.declared.node.Node.TheVariants.{A, B}
use Rattle.zy_table.specs.declared.outcome.Outcome.{Outcome}
use Rattle.zy_table.specs.declared.outcome.Outcome.TheVariants.{Started}
use Rattle.zy_table.specs.Change.{aborted, asks, begun, committed, cut, did, leaves, locked, shares, txn_at}
use Rattle.zy_laws.specs.Travel.{Travels, Stays, Appears, Leaves, Arrives, IsPassed, NeverBack, NoneStarted, is_started}
use Rattle.zy_table.specs.Play.{entries, move, opening, play, side_of, step}
use Rattle.zy_table.specs.State.{Step, State, View, facing, seen_from}
use Rattle.zy_laws.proofs.walk.Events.{Told, Asks, Commits, Event, Finishes, Gives, GotAll, GotDone, GotDual, GotFinish, GotLast, GotPage}
use Rattle.zy_laws.proofs.walk.Events.{GotReady, GotWire, IsStale, Pushes, Splits, Starts, step_happens}
use Rattle.zy_laws.proofs.owner.OneOwner.{play_inv, step_inv}
use Rattle.zy_laws.proofs.walk.PlayPush.{play-keeps}
use Rattle.zy_laws.proofs.owner.Roles.{Inv}
use Rattle.zy_laws.proofs.travel.Travel.{step_travels}
use Rattle.zy_laws.proofs.walk.Kinds.{in_place_of}

-- a step changes its own node alone, and makes a source of it where it is a start that acts: in version 1 at A
pub record Sourced (sc : Scenario) (n : Node) (o : Outcome) (v w : View) : Type 0 where
  pub them : w.them ≡ v.them
  pub off : is_source v.me.mode ≡ false → (is_source w.me.mode ≡ false) ⊎ ((o ≡ Started) × (sc.version ≡ One → n ≡ A))

-- a step that leaves the node's mode makes no source
in_mode : (sc : Scenario) (n : Node) (o : Outcome) (v w : View) → w.them ≡ v.them → w.me.mode ≡ v.me.mode → Sourced sc n o v w
in_mode sc n o v w them mode = record { them = them; off = λ h. inl (ap is_source mode ∙ h) }

-- each event leaves the other node alone, and makes a source by a start only
pub sourced : (sc : Scenario) (n : Node) (o : Outcome) (v w : View) → (e : Event sc n v w) → Told e o → Sourced sc n o v w
unfolding did locked shares txn_at aborted begun committed cut asks leaves
sourced sc n o v w (Splits line e) told = rw e (in_mode sc n o v _ refl refl)
sourced sc n o v w (Commits line e) told = rw e (in_mode sc n o v _ refl refl)
sourced sc n o v w (Asks line e) told = rw e (in_mode sc n o v _ refl refl)
sourced sc n o v w (Starts line e) told = rw e (record { them = refl; off = λ _. inr (told, line.at_a) })
sourced sc n o v w (GotWire line e) told = rw e (record { them = refl; off = λ _. inl refl })
sourced sc n o v w (GotReady line e) told = rw e (record { them = refl; off = λ h. absurd (false≢true (sym h ∙ ap is_source line.mode)) })
sourced sc n o v w (GotDual line e) told = rw e (record { them = refl; off = λ _. inl refl })
sourced sc n o v w (IsStale line e) told = rw e (in_mode sc n o v _ refl refl)
sourced sc n o v w (Gives line e) told = rw e (in_mode sc n o v _ refl refl)
sourced sc n o v w (GotPage line e) told = rw e (in_mode sc n o v _ refl refl)
sourced sc n o v w (GotLast line e) told = rw e (record { them = refl; off = λ _. inl refl })
sourced sc n o v w (GotFinish line e) told = rw e (record { them = refl; off = λ _. inl refl })
sourced sc n o v w (GotAll line e) told = rw e (record { them = refl; off = λ _. inl refl })
sourced sc n o v w (GotDone line e) told = rw e (record { them = refl; off = λ _. inl refl })
sourced sc n o v w (Finishes line e) told = rw e (record { them = refl; off = λ h. absurd (false≢true (sym h ∙ ap is_source line.dual)) })
sourced sc n o v w (Pushes line e) told = rw e (in_mode sc n o v _ refl refl)
sourced sc n o v w e told = let q = in_place_of e refl in in_mode sc n o v w q.them q.mode

-- node m is no source after a step that is no start at it
abbrev Bars : Scenario → Node → Outcome → Node → Type 0
Bars sc n o m = o ≡ Started → (sc.version ≡ One → n ≡ A) → n ≡ m → ⊥

-- what is no source stays none through a step that may not start it
off_after : (sc : Scenario) (m n : Node) (o : Outcome) (s : State) (w : View) → Bars sc n o m → Sourced sc n o (facing n s) w
    → is_source (facing m s).me.mode ≡ false → is_source (facing m (seen_from n w)).me.mode ≡ false
off_after sc A A o s w bar x h = elim (x.off h) [ inl e ↦ e | inr k ↦ absurd (bar k.0 k.1 refl) ]
off_after sc A B o s w bar x h = ap (λ z. is_source z.mode) x.them ∙ h
off_after sc B A o s w bar x h = ap (λ z. is_source z.mode) x.them ∙ h
off_after sc B B o s w bar x h = elim (x.off h) [ inl e ↦ e | inr k ↦ absurd (bar k.0 k.1 refl) ]

-- what is no source stays none through a step of a schedule that may not start it
pub step_off : (sc : Scenario) (c : Choice) (s : State) (m : Node) → Bars sc (side_of sc c s) (step sc c s).outcome m
    → is_source (facing m s).me.mode ≡ false → is_source (facing m (step sc c s).after).me.mode ≡ false
unfolding step
step_off sc c s m bar h =
    let n = side_of sc c s in
    let v = facing n s in
    let x = step_happens sc c s in
    off_after sc m n (move sc c v).outcome s (move sc c v).after bar (sourced sc n (move sc c v).outcome v (move sc c v).after x.event x.told) h

-- in version 1 no start acts at B
pub not_at_b : (sc : Scenario) (n : Node) (o : Outcome) → sc.version ≡ One → Bars sc n o B
not_at_b sc n o one started at_a at_b = let a : n ≡ A = at_a one in absurd cc

-- B is no source at the opening
pub opening_b : (sc : Scenario) → is_source (opening sc).b.mode ≡ false
unfolding opening
opening_b sc = refl

-- in every state that is reached
pub b_never_sends : (sc : Scenario) → sc.version ≡ One → (cs : List Choice) → is_source (play sc (opening sc) cs).b.mode ≡ false
b_never_sends sc one cs = play-keeps sc (λ s. is_source s.b.mode ≡ false) (λ c s h. step_off sc c s B (not_at_b sc _ _ one) h) cs (opening sc) (opening_b sc)

-- one step beside a node that is no source
goes_on : (p : ℕ) (n m : Node) (s : State) (x : Step) → is_source (facing m s).me.mode ≡ false → Travels p n s x → NeverBack p m s x.after
goes_on p n m s x off (Stays same) = record { passed = λ h. subst (IsPassed m) (sym same) h; there = λ h. same ∙ h }
goes_on p n m s x off (Appears q b told splits none here) =
    record { passed = λ h. elim h [ inl k ↦ absurd cc | inr k ↦ absurd cc ]; there = λ h. absurd cc }
goes_on p A A s x off (Leaves source here gone) = absurd (false≢true (sym off ∙ source))
goes_on p A B s x off (Leaves source here gone) = record { passed = λ _. inl gone; there = λ h. absurd cc }
goes_on p B A s x off (Leaves source here gone) = record { passed = λ _. inl gone; there = λ h. absurd cc }
goes_on p B B s x off (Leaves source here gone) = absurd (false≢true (sym off ∙ source))
goes_on p A A s x off (Arrives pulls coming here) = record { passed = λ _. inr here; there = λ _. here }
goes_on p A B s x off (Arrives pulls coming here) = record { passed = λ h. elim h [ inl k ↦ absurd cc | inr k ↦ absurd cc ]; there = λ h. absurd cc }
goes_on p B A s x off (Arrives pulls coming here) = record { passed = λ h. elim h [ inl k ↦ absurd cc | inr k ↦ absurd cc ]; there = λ h. absurd cc }
goes_on p B B s x off (Arrives pulls coming here) = record { passed = λ _. inr here; there = λ _. here }

-- no start acts at m: in version 1 m is B, or none acts at all
abbrev Calm : Scenario → Node → State → List Choice → Type 0
Calm sc m s cs = ((sc.version ≡ One) × (m ≡ B)) ⊎ NoneStarted (entries sc s cs)

-- a calm schedule bars its first step
calm_first : (sc : Scenario) (m : Node) (s : State) (c : Choice) (cs : List Choice) → Calm sc m s (c ∷ cs) → Bars sc (side_of sc c s) (step sc c s).outcome m
calm_first sc m s c cs (inl one) = subst (Bars sc (side_of sc c s) (step sc c s).outcome) (sym one.1) (not_at_b sc _ _ one.0)
calm_first sc m s c cs (inr none) = λ started _ _. false≢true (sym (neither _ _ none).0 ∙ ap is_started started)

-- what follows of a calm schedule is calm
calm_rest : (sc : Scenario) (m : Node) (s : State) (c : Choice) (cs : List Choice) → Calm sc m s (c ∷ cs) → Calm sc m (step sc c s).after cs
calm_rest sc m s c cs (inl one) = inl one
calm_rest sc m s c cs (inr none) = inr (neither _ _ none).1

-- in a calm schedule no page that has passed to a node goes back
never_back : (sc : Scenario) (cs : List Choice) (s : State) (p : ℕ) (m : Node) → Calm sc m s cs → Inv (facing A s) → is_source (facing m s).me.mode ≡ false
    → NeverBack p m s (play sc s cs)
never_back sc [] s p m calm i off = record { passed = λ h. h; there = λ h. h }
never_back sc (c ∷ cs) s p m calm i off =
    let next = step_inv sc c s i in
    let one = goes_on p (side_of sc c s) m s (step sc c s) off (step_travels sc c s p i next) in
    let more = never_back sc cs (step sc c s).after p m (calm_rest sc m s c cs calm) next (step_off sc c s m (calm_first sc m s c cs calm) off) in
    record { passed = λ h. more.passed (one.passed h); there = λ h. more.there (one.there h) }

-- the law: in version 1 no page goes back
pub none_goes_back : (sc : Scenario) → sc.version ≡ One → (cs more : List Choice) (p : ℕ) → let s = play sc (opening sc) cs in NeverBack p B s (play sc s more)
none_goes_back sc one cs more p = never_back sc more (play sc (opening sc) cs) p B (inl (one, refl)) (play_inv sc cs) (b_never_sends sc one cs)

-- the law: a page goes back only after another start
pub returns_by_start : (sc : Scenario) (cs more : List Choice) (p : ℕ) (n : Node) → let s = play sc (opening sc) cs in
    NoneStarted (entries sc s more) → is_source (facing n s).me.mode ≡ false → NeverBack p n s (play sc s more)
returns_by_start sc cs more p n none off = never_back sc more (play sc (opening sc) cs) p n (inr none) (play_inv sc cs) off
