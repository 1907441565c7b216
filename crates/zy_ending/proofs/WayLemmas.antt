-- A step more of a way out.
use Rattle.std.proofs.Common.{◌≡◌, ◌∙◌, ◌+◌, ◌<◌, ◌++◌, ℕ, zero, suc, List, [], ◌∷◌, length, drop, slice_get, refl, ap, sym, subst, arith, true, false}
use Rattle.std.specs.Prelude.{Option, Some, None}
use Rattle.std.proofs.lemmas.Bool.{lt-ltb}
use Rattle.std.proofs.lemmas.List.{append-nil, append_assoc}
use Rattle.zy_isa.specs.Choices.{names_below}
use Rattle.zy_isa.specs.Scenario.{Scenario}
use Rattle.zy_isa.specs.declared.choice.Choice.{Choice}
use Rattle.zy_isa.specs.declared.choice.Choice.TheVariants.{Kill}
use Rattle.zy_isa.specs.declared.node.Node.{Node}
use Rattle.zy_isa.specs.declared.node.Node.TheVariants.{A, B}
use Rattle.zy_model.specs.declared.mode.NodeMode.TheVariants.{Empty, Normal}
use Rattle.zy_table.specs.Change.{txn_or}
use Rattle.zy_table.specs.Client.{is_active}
use Rattle.zy_table.specs.Play.{play, step}
use Rattle.zy_table.specs.State.{State, Txn, facing}
use Rattle.zy_machine.specs.Histories.{History, IsReplay, choices_of}
use Rattle.zy_laws.specs.Counts.{Safe}
use Rattle.zy_laws.proofs.counts.SafeCounts.{safe}
use Rattle.zy_laws.proofs.way_out.NoDeadEnd.{no_dead_end}
use Rattle.zy_laws.specs.WayOut.{Ended, Over, kills, led_by, next, onward, way_out}

-- ---- kills

-- the transactions from one on are that one and those behind it
drop_txn : (xs : List Txn) (t : ℕ) → t < length xs → drop t xs ≡ txn_or (slice_get xs t) ∷ drop (t + 1) xs
drop_txn [] t lt = absurd (omega (arith, lt))
drop_txn (x ∷ xs) zero lt = refl
drop_txn (x ∷ xs) (suc t) lt =
    let next : suc (t + 1) ≡ suc t + 1 = omega arith in
    drop_txn xs t (omega (arith, lt)) ∙ ap (λ n. txn_or (slice_get xs t) ∷ drop n (x ∷ xs)) next

-- a transaction that is active is killed before those behind it
pub kill_active : (xs : List Txn) (t : ℕ) (made : List Choice) → t < length xs → is_active (txn_or (slice_get xs t)).status ≡ true
    → (made ++ Kill t ∷ []) ++ kills (t + 1) (drop (t + 1) xs) ≡ made ++ kills t (drop t xs)
kill_active xs t made lt on =
    append_assoc made (Kill t ∷ []) (kills (t + 1) (drop (t + 1) xs))
    ∙ ap (λ cs. made ++ cs) (rw (drop_txn xs t lt, on) refl)

-- one that is not is passed over
pub kill_none : (xs : List Txn) (t : ℕ) (made : List Choice) → t < length xs → is_active (txn_or (slice_get xs t)).status ≡ false
    → made ++ kills (t + 1) (drop (t + 1) xs) ≡ made ++ kills t (drop t xs)
kill_none xs t made lt off = ap (λ cs. made ++ cs) (rw (drop_txn xs t lt, off) refl)

-- a machine has a transaction for each program, so its scenario has what a kill of one names
pub kill_named : (h : History) (t : ℕ) → IsReplay h → t < length h.state.txns → names_below (length h.scenario.programs) (Kill t) ≡ true
kill_named h t replay lt =
    let cs = choices_of h.entries in
    let counts : Safe h.scenario (length cs) h.state = subst (Safe h.scenario (length cs)) (sym replay.state) (safe h.scenario replay.tested cs) in
    lt-ltb t (length h.scenario.programs) (omega (arith, counts.txns, lt))

-- ---- what comes next

-- between two migrations nothing comes next
between : (n : Node) (s : State) → (facing n s).inbox ≡ [] → (facing n s).outbox ≡ [] → (facing n s).me.mode ≡ Empty → (facing n s).them.mode ≡ Normal
    → next s ≡ None
between A s inbox outbox empty normal = rw (inbox, outbox, empty, normal) refl
between B s inbox outbox empty normal = rw (inbox, outbox, empty, normal) refl

-- so nothing does where a migration is over
none_over : (s : State) → Over s → next s ≡ None
none_over s over = between over.empty s over.left.links.0 over.left.links.1 over.modes.0 over.modes.1

-- what comes next is the next choice on the way out
pub next_on_way : (sc : Scenario) (start s : State) (made : List Choice) (c : Choice) (fuel : ℕ) → Ended start (play sc start (way_out sc start))
    → s ≡ play sc start made → next s ≡ Some c → made ++ onward sc fuel s ≡ way_out sc start
    → (n : ℕ) × ((made ++ c ∷ []) ++ onward sc n (step sc c s).after ≡ way_out sc start)
next_on_way sc start s made c zero ended is some rest =
    let all : made ≡ way_out sc start = sym (append-nil made) ∙ rest in
    let none : next s ≡ None = ap next (is ∙ ap (play sc start) all) ∙ none_over (play sc start (way_out sc start)) ended.over in
    cc (none, some)
next_on_way sc start s made c (suc n) ended is some rest =
    let more : Option Choice → List Choice = λ o. made ++ led_by o (λ d. onward sc n (step sc d s).after) in
    (n, append_assoc made (c ∷ []) (onward sc n (step sc c s).after) ∙ (ap more (sym some) ∙ rest))

-- the migration of a machine has ended once its way out is made
pub ended : (h : History) → IsReplay h → Ended h.state (play h.scenario h.state (way_out h.scenario h.state))
ended h replay =
    let sc = h.scenario in
    subst (λ s. Ended s (play sc s (way_out sc s))) (sym replay.state) (no_dead_end sc replay.tested (choices_of h.entries))
