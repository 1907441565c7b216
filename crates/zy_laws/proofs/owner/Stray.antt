-- In each phase the mode knows the front of the link, so no message is stray.
use Rattle.std.proofs.Common.{◌≡◌, ℕ, List, ◌∷◌, Bool, true, false, arith, subst}
use Rattle.std.proofs.lemmas.Bool.{false_from_ne_true}
use Rattle.zy_isa.specs.Scenario.{Scenario}
use Rattle.zy_isa.specs.declared.choice.Choice.{Choice}
use Rattle.zy_model.specs.declared.table.MessageLine.TheVariants.{Stray}
use Rattle.zy_model.specs.Table.{on_message}
use Rattle.zy_model.specs.Messages.{Wire, kind_of}
use Rattle.zy_laws.specs.Journey.{is_stray}
use Rattle.zy_table.specs.Play.{opening, play, side_of, step}
use Rattle.zy_table.specs.State.{Message, View, facing}
use Rattle.zy_table.specs.Take.{all_here, mode_line, with_brought}
use Rattle.zy_laws.proofs.walk.Events.{step_happens}
use Rattle.zy_laws.proofs.owner.OneOwner.{inv_from, play_inv}
use Rattle.zy_laws.proofs.owner.Phases.{Is, Stage, Out, Back, Resting, source_mode, destination_mode}
use Rattle.zy_laws.proofs.owner.Roles.{Destination, Roles, Source}

-- at each stage the destination's mode knows the front of the link to it
knows_out : (g : Stage) (lows : List ℕ) (m : Message) (ms : List Message) (all : Bool) → Out g lows (m ∷ ms)
    → on_message (destination_mode g) (kind_of m) all ≡ Stray → ⊥
knows_out Resting lows (Wire xs) ms true h line = grind (arith, h, line)
knows_out g lows m ms all h line = grind (arith, h, line)

-- at each stage the source's mode knows the front of the link back
knows_back : (g : Stage) (m : Message) (ms : List Message) (all : Bool) → Back g (m ∷ ms) → on_message (source_mode g) (kind_of m) all ≡ Stray → ⊥
knows_back Resting (Wire xs) ms true h line = grind (arith, h, line)
knows_back g m ms all h line = grind (arith, h, line)

-- so my mode knows the front of the inbox
pub knows_front : (v : View) (m : Message) (ms : List Message) → v.inbox ≡ m ∷ ms → mode_line m v ≡ Stray → Roles v → ⊥
knows_front v m ms e line (Source (Is g at)) =
    knows_back g m ms _ (subst (Back g) e at.back) (subst (λ mode. on_message mode (kind_of m) (all_here (with_brought m v.me)) ≡ Stray) at.source line)
knows_front v m ms e line (Destination (Is g at)) =
    knows_out g v.them.lows m ms _ (subst (Out g v.them.lows) e at.out)
    (subst (λ mode. on_message mode (kind_of m) (all_here (with_brought m v.me)) ≡ Stray) at.destination line)

-- the law: no message is ever stray
pub never_stray : (sc : Scenario) (cs : List Choice) (next : Choice) → is_stray (step sc next (play sc (opening sc) cs)).outcome ≡ false
unfolding step
never_stray sc cs next =
    let s = play sc (opening sc) cs in
    let n = side_of sc next s in
    let v = facing n s in
    false_from_ne_true _ (λ h.
    let strange = (step_happens sc next s).strange h in
    knows_front v strange.message strange.after strange.front strange.line (inv_from n s (play_inv sc cs)).roles)
