-- A node in DFinish lacks a page.
use Rattle.std.proofs.Common.{List, ap, arith, false, inl, inr, refl, suc, subst, sym, true, zero, ℕ, ◌<◌, ◌∙◌, ◌≡◌}
use Rattle.std.specs.Prelude.{◌&&◌, length}
use Rattle.std.proofs.lemmas.Bool.{and_cases, false≢true}
use Rattle.zy_isa.specs.Scenario.{Scenario}
use Rattle.zy_isa.specs.declared.choice.Choice.{Choice}
use Rattle.zy_isa.specs.declared.node.Node.{Node}
use Rattle.zy_isa.specs.declared.node.Node.TheVariants.{A, B}
use Rattle.zy_model.specs.Families.{is_sending}
use Rattle.zy_model.specs.declared.mode.NodeMode.{NodeMode}
use Rattle.zy_model.specs.declared.mode.NodeMode.TheVariants.{DFinish}
use Rattle.zy_table.specs.Change.{aborted, asks, begun, committed, cut, did, leaves, locked, shares, txn_at}
use Rattle.zy_table.specs.Pages.{owns}
use Rattle.zy_table.specs.Play.{move, opening, play, side_of, step}
use Rattle.zy_table.specs.State.{Leaf, NodeState, State, View, facing, seen_from}
use Rattle.zy_table.specs.Take.{all_below, all_here}
use Rattle.zy_laws.proofs.places.Installing.{owns-installed}
use Rattle.zy_laws.proofs.travel.OneWay.{sourced}
use Rattle.zy_laws.proofs.walk.Events.{Asks, Commits, Event, Finishes, Gives, GotAll, GotDone, GotDual, GotFinish, GotLast, GotPage}
use Rattle.zy_laws.proofs.walk.Events.{GotReady, GotWire, IsStale, Pushes, Splits, Starts, step_happens}
use Rattle.zy_laws.proofs.walk.Kinds.{in_place_of}
use Rattle.zy_laws.proofs.walk.ModeLines.{splits_in_normal}
use Rattle.zy_laws.proofs.walk.PlayPush.{play-keeps}

-- in DFinish not every page is here
pub record Lacking (x : NodeState) : Type 0 where
  pub some : x.mode ≡ DFinish → all_here x ≡ false

-- pages of the same numbers are all there, or not
below_same : (xs ys : List Leaf) → ((p : ℕ) → owns ys p ≡ owns xs p) → (w : ℕ) → all_below ys w ≡ all_below xs w
below_same xs ys same zero = refl
below_same xs ys same (suc w) = ap (λ b. b && all_below ys w) (same w) ∙ ap (λ b. owns xs w && b) (below_same xs ys same w)

-- where not every page is here, one is missing
pub one_missing : (xs : List Leaf) (w : ℕ) → all_below xs w ≡ false → (p : ℕ) × (p < w) × (owns xs p ≡ false)
one_missing xs zero e = absurd (false≢true (sym e))
one_missing xs (suc w) e =
    elim (and_cases (owns xs w) (all_below xs w) e) [
      | inl here ↦ (w, omega arith, here)
      | inr more ↦ let m = one_missing xs w more in (m.0, omega (arith, m.1), m.2)
    ]

-- a node with the mode, the wireframe and the pages' numbers that it had lacks what it lacked
same_lacks : (x y : NodeState) → y.mode ≡ x.mode → y.lows ≡ x.lows → ((p : ℕ) → owns y.pages p ≡ owns x.pages p) → Lacking x → Lacking y
same_lacks x y mode lows pages l = record {
  some = λ e. ap (λ xs. all_below y.pages (length xs)) lows ∙ below_same x.pages y.pages pages (length x.lows) ∙ l.some (sym mode ∙ e);
}

-- a mode that sends is not DFinish
sends_not : (m : NodeMode) → is_sending m ≡ true → m ≡ DFinish → ⊥
sends_not m s e = false≢true (sym (ap is_sending e) ∙ s)

-- each event keeps it
lacking_event : (sc : Scenario) (n : Node) (v w : View) → Lacking v.me → Event sc n v w → Lacking w.me
unfolding did locked shares txn_at aborted begun committed cut asks leaves
lacking_event sc n v w l (Splits line e) = let normal = splits_in_normal v.me.mode line.normal in rw e (record { some = λ h. cc (normal, h) })
lacking_event sc n v w l (Commits line e) = rw e (same_lacks v.me _ refl refl (λ p. owns-installed v.me.lows (txn_at v line.txn).rows v.me.pages p) l)
lacking_event sc n v w l (Asks line e) = rw e (record { some = l.some })
lacking_event sc n v w l (Starts line e) = rw e (record { some = λ h. cc h })
lacking_event sc n v w l (GotWire line e) = rw e (record { some = λ h. cc h })
lacking_event sc n v w l (GotReady line e) = rw e (record { some = λ h. cc h })
lacking_event sc n v w l (GotDual line e) = rw e (record { some = λ h. cc h })
lacking_event sc n v w l (IsStale line e) = rw e l
lacking_event sc n v w l (Gives line e) = rw e (record { some = λ h. absurd (sends_not v.me.mode line.sends h) })
lacking_event sc n v w l (GotPage line e) = rw e (record { some = line.lacks })
lacking_event sc n v w l (GotLast line e) = rw e (record { some = λ h. cc h })
lacking_event sc n v w l (GotFinish line e) = rw e (record { some = λ _. line.lacks })
lacking_event sc n v w l (GotAll line e) = rw e (record { some = λ h. cc h })
lacking_event sc n v w l (GotDone line e) = rw e (record { some = λ h. cc h })
lacking_event sc n v w l (Finishes line e) = rw e (record { some = λ h. cc h })
lacking_event sc n v w l (Pushes line e) = rw e (record { some = λ h. absurd (sends_not v.me.mode (ap is_sending line.finish) h) })
lacking_event sc n v w l e = let q = in_place_of e refl in same_lacks v.me w.me q.mode q.lows (λ p. ap (λ xs. owns xs p) q.pages) l

-- at both nodes
pub record BothLack (s : State) : Type 0 where
  pub a : Lacking s.a
  pub b : Lacking s.b

-- it holds of both where it holds of the node that stepped
both_after : (n : Node) (s : State) (w : View) → Lacking w.me → w.them ≡ (facing n s).them → BothLack s → BothLack (seen_from n w)
both_after A s w mine them l = record { a = mine; b = subst Lacking (sym them) l.b }
both_after B s w mine them l = record { a = subst Lacking (sym them) l.a; b = mine }

-- it holds of either node
lacking_at : (n : Node) (s : State) → BothLack s → Lacking (facing n s).me
lacking_at A s l = l.a
lacking_at B s l = l.b

-- it holds of the node across
pub lacking_them : (n : Node) (s : State) → BothLack s → Lacking (facing n s).them
lacking_them A s l = l.b
lacking_them B s l = l.a

-- a step keeps it
step_lacks : (sc : Scenario) (c : Choice) (s : State) → BothLack s → BothLack (step sc c s).after
unfolding step
step_lacks sc c s l =
    let n = side_of sc c s in
    let v = facing n s in
    let m = move sc c v in
    let h = step_happens sc c s in
    both_after n s m.after (lacking_event sc n v m.after (lacking_at n s l) h.event) (sourced sc n m.outcome v m.after h.event h.told).them l

-- no node is in DFinish at the opening
opening_lacks : (sc : Scenario) → BothLack (opening sc)
unfolding opening
opening_lacks sc = record { a = record { some = λ h. cc h }; b = record { some = λ h. cc h } }

-- it holds after every schedule
pub play_lacks : (sc : Scenario) (cs : List Choice) → BothLack (play sc (opening sc) cs)
play_lacks sc cs = play-keeps sc BothLack (step_lacks sc) cs (opening sc) (opening_lacks sc)
