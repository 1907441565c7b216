-- A state of a run meets `over` where its migration is over as the laws have it, and nowhere else.
use Rattle.std.proofs.Common.{◌≡◌, ◌∙◌, ◌&&◌, ◌||◌, ◌⊎◌, inl, inr, ℕ, zero, suc, List, [], ◌∷◌, true, false, not, slice_get, refl, ap}
use Rattle.std.proofs.Math.Bool.{false≢true}
use Rattle.std.proofs.lemmas.Bool.{and_parts, or_parts, not-true}
use Rattle.std.specs.List.{list_any}
use Rattle.zy_isa.specs.declared.choice.Choice.{Choice}
use Rattle.zy_isa.specs.declared.node.Node.{Node}
use Rattle.zy_isa.specs.declared.node.Node.TheVariants.{A, B}
use Rattle.zy_isa.specs.Scenario.{IsScenario, Scenario}
use Rattle.zy_model.specs.declared.mode.NodeMode.{NodeMode}
use Rattle.zy_model.specs.declared.mode.NodeMode.TheVariants.{Empty, Normal}
use Rattle.zy_table.specs.Change.{txn_or}
use Rattle.zy_table.specs.Client.{is_active}
use Rattle.zy_table.specs.Play.{opening, play}
use Rattle.zy_table.specs.State.{State, Txn, facing}
use Rattle.zy_laws.specs.WayOut.{NoneActive, Over}
use Rattle.zy_laws.proofs.travel.Between.{nothing_left}
use Rattle.zy_goals.specs.declared.goal.LinkContent.TheVariants as content
use Rattle.zy_goals.specs.declared.goal.TxnProperty.TheVariants as property
use Rattle.zy_goals.specs.Facts.{are_settled, has_content, is_over}
use Rattle.zy_goals.specs.Txns.{has_property}

-- where no transaction of these is found that is active, none is
none_active : (xs : List Txn) → list_any (has_property property.Active) xs ≡ false → (t : ℕ) → is_active (txn_or (slice_get xs t)).status ≡ false
none_active [] e t = refl
none_active (x ∷ xs) e zero = (or_parts (is_active x.status) (list_any (has_property property.Active) xs) e).0
none_active (x ∷ xs) e (suc t) = none_active xs (or_parts (is_active x.status) (list_any (has_property property.Active) xs) e).1 t

-- where none is, none is found
none_found : (xs : List Txn) → ((t : ℕ) → is_active (txn_or (slice_get xs t)).status ≡ false) → list_any (has_property property.Active) xs ≡ false
none_found [] idle = refl
none_found (x ∷ xs) idle =
    ap (λ b. b || list_any (has_property property.Active) xs) (idle zero) ∙ none_found xs (λ t. idle (suc t))

-- of settled modes one is Empty, and the other Normal
settled : (a b : NodeMode) → are_settled a b ≡ true → ((a ≡ Empty) × (b ≡ Normal)) ⊎ ((b ≡ Empty) × (a ≡ Normal))
settled Empty Normal e = inl (refl, refl)
settled Normal Empty e = inr (refl, refl)
settled a b e = absurd (false≢true e)

-- a state that meets `over`
pub over_of : (sc : Scenario) → IsScenario sc → (cs : List Choice) → let s = play sc (opening sc) cs in is_over s ≡ true → Over s
over_of sc ok cs e =
    let s = play sc (opening sc) cs in
    let modes = are_settled s.a.mode s.b.mode in
    let ab = has_content content.Empty s.ab in
    let ba = has_content content.Empty s.ba in
    let idle = and_parts (modes && ab && ba) (not (list_any (has_property property.Active) s.txns)) e in
    let links = and_parts (modes && ab) ba idle.0 in
    let none : NoneActive s = none_active s.txns (not-true _ idle.1) in
    elim (settled s.a.mode s.b.mode (and_parts modes ab links.0).0) [
      | inl m ↦ record { empty = A; modes = m; left = nothing_left sc ok cs A m.0 m.1; idle = none }
      | inr m ↦ record { empty = B; modes = m; left = nothing_left sc ok cs B m.0 m.1; idle = none }
    ]

-- one whose migration is over, by the node that is empty
over_by : (n : Node) (s : State) → (facing n s).me.mode ≡ Empty → (facing n s).them.mode ≡ Normal → (facing n s).inbox ≡ [] → (facing n s).outbox ≡ []
    → list_any (has_property property.Active) s.txns ≡ false → is_over s ≡ true
over_by A s empty normal inbox outbox none = rw (empty, normal, inbox, outbox, none) refl
over_by B s empty normal inbox outbox none = rw (empty, normal, inbox, outbox, none) refl

-- one whose migration is over
pub is_over_of : (s : State) → Over s → is_over s ≡ true
is_over_of s over =
    over_by over.empty s over.modes.0 over.modes.1 over.left.links.0 over.left.links.1 (none_found s.txns over.idle)
