-- A page appears where it is split off, leaves the source, arrives at the destination, and moves in no other way.
use Rattle.std.proofs.Common.{Bool, List, arith, false, refl, sym, true, ℕ, ◌∙◌, ◌≡◌}
use Rattle.std.specs.Prelude.{if◌then◌else◌}
use Rattle.std.proofs.lemmas.Bool.{false≢true}
use Rattle.std.proofs.lemmas.Bool.Decides.{nat_tests}
use Rattle.zy_isa.specs.Scenario.{Scenario}
use Rattle.zy_isa.specs.declared.choice.Choice.{Choice}
use Rattle.zy_isa.specs.declared.node.Node.{Node}
use Rattle.zy_isa.specs.declared.node.Node.TheVariants.{A, B}
use Rattle.zy_table.specs.declared.place.Place.TheVariants.{Nowhere, At, Moving}
use Rattle.zy_table.specs.Database.{sent_leaves}
use Rattle.zy_table.specs.Pages.{owns}
use Rattle.zy_table.specs.Places.{place_of}
use Rattle.zy_laws.specs.Travel.{Travels, Stays, Appears, Leaves, Arrives}
use Rattle.zy_table.specs.Play.{move, opening, play, side_of, step}
use Rattle.zy_table.specs.State.{Move, State, View, as_step, facing, seen_from}
use Rattle.zy_laws.proofs.walk.Events.{step_happens}
use Rattle.zy_laws.proofs.owner.OneOwner.{inv_from, play_inv, step_inv}
use Rattle.zy_laws.proofs.owner.PageCounts.{owns-times, owns_none, times-sent_leaves}
use Rattle.zy_laws.proofs.walk.ModeLines.{splits_in_normal}
use Rattle.zy_laws.proofs.owner.Roles.{Inv, Owned}
use Rattle.zy_laws.proofs.travel.Goes.{Goes, In, New, Out, Same, goes_event, place_in}

-- the place is the same from either side
place_order : (a b c d : Bool) → (a ≡ true → b ≡ false) → (c ≡ true → d ≡ false)
    → (if a then At B else if b then At A else if c then Moving B else if d then Moving A else Nowhere)
    ≡ (if b then At A else if a then At B else if d then Moving A else if c then Moving B else Nowhere)
place_order true true c d x y = absurd (false≢true (sym (x refl)))
place_order true false c d x y = refl
place_order false true c d x y = refl
place_order false false true true x y = absurd (false≢true (sym (y refl)))
place_order false false true false x y = refl
place_order false false false true x y = refl
place_order false false false false x y = refl

-- the place by one's own side is that by the state
place_seen : (p : ℕ) (n : Node) (v : View) → Owned v → place_in p n v ≡ place_of p (seen_from n v)
place_seen p A v o = refl
place_seen p B v o =
    let k = o.once p in
    let x = times-sent_leaves p v.outbox in
    let y = times-sent_leaves p v.inbox in
    place_order (owns v.me.pages p) (owns v.them.pages p) (owns (sent_leaves v.outbox) p) (owns (sent_leaves v.inbox) p)
    (λ h. let one = owns-times p v.me.pages h in owns_none p v.them.pages (grind (arith, nat_tests, k, one)))
    (λ h. let one = owns-times p (sent_leaves v.outbox) h in owns_none p (sent_leaves v.inbox) (grind (arith, nat_tests, k, one, x, y)))

-- the place in a state is that from either side
place_facing : (p : ℕ) (n : Node) (s : State) → Owned (facing n s) → place_in p n (facing n s) ≡ place_of p s
place_facing p A s o = refl
place_facing p B s o = place_seen p B (facing B s) o

-- what Goes says of a side, Travels says of the state
travel : (p : ℕ) (n : Node) (s : State) (m : Move) → place_in p n (facing n s) ≡ place_of p s → place_in p n m.after ≡ place_of p (seen_from n m.after)
    → Goes p n m.outcome (facing n s) m.after
    → Travels p n s (as_step n m)
travel p n s m x y (Same h) = Stays (sym y ∙ h ∙ x)
travel p n s m x y (New q b told a h k) = Appears q b told (splits_in_normal _ a) (sym x ∙ h) (sym y ∙ k)
travel p n s m x y (Out a b c) = Leaves a (sym x ∙ b) (sym y ∙ c)
travel p n s m x y (In a b c) = Arrives a (sym x ∙ b) (sym y ∙ c)

-- roles and owners of a state are those of the view
inv_seen : (n : Node) (w : View) → Inv (facing n (seen_from n w)) → Inv w
inv_seen A w i = i
inv_seen B w i = i

-- each step moves a page as Travels says
pub step_travels : (sc : Scenario) (c : Choice) (s : State) (p : ℕ) → Inv (facing A s) → Inv (facing A (step sc c s).after)
    → Travels p (side_of sc c s) s (step sc c s)
unfolding step
step_travels sc c s p i j =
    let n = side_of sc c s in
    let v = facing n s in
    let w = (move sc c v).after in
    let before = inv_from n s i in
    let after = inv_seen n w (inv_from n (seen_from n w) j) in
    let h = step_happens sc c s in
    travel p n s (move sc c v) (place_facing p n s before.owned) (place_seen p n w after.owned) (goes_event sc n _ v w p before h.event h.told)

-- in every state that is reached
pub pages_travel : (sc : Scenario) (cs : List Choice) (next : Choice) (p : ℕ) → let s = play sc (opening sc) cs in
    Travels p (side_of sc next s) s (step sc next s)
pages_travel sc cs next p =
    let s = play sc (opening sc) cs in
    let i = play_inv sc cs in
    step_travels sc next s p i (step_inv sc next s i)
