-- A transaction aborts as gone at a node in SDual alone.
use Rattle.std.proofs.Common.{◌≡◌, ◌∙◌, ℕ, ◌<◌, List, length, true, false, refl, sym, subst, arith, inl, inr, ◌∷◌}
use Rattle.std.specs.Prelude.{◌⊎◌}
use Rattle.std.proofs.lemmas.Bool.{false≢true}
use Rattle.zy_model.specs.Families.{is_home, is_source, is_idle}
use Rattle.zy_isa.specs.Scenario.{IsScenario, Scenario}
use Rattle.zy_isa.specs.declared.choice.Choice.{Choice}
use Rattle.zy_isa.specs.declared.node.Node.{Node}
use Rattle.zy_model.specs.declared.mode.NodeMode.{NodeMode}
use Rattle.zy_model.specs.declared.mode.NodeMode.TheVariants.{Empty, Normal, SInit, SDual, SFinish, DInit, DDual, DFinish}
use Rattle.zy_model.specs.Table.{is_waiting, may_pull}
use Rattle.zy_model.specs.Wireframe.{page_of}
use Rattle.zy_model.proofs.PageOf.{page_of-within}
use Rattle.zy_laws.specs.Journey.{is_gone}
use Rattle.zy_table.specs.Pages.{owns}
use Rattle.zy_table.specs.Play.{opening, play, side_of, step}
use Rattle.zy_table.specs.State.{View, facing}
use Rattle.zy_laws.proofs.walk.Events.{Lost, step_happens}
use Rattle.zy_table.proofs.LockLists.{exclusive_holds}
use Rattle.zy_laws.proofs.locks.Locking.{Kept}
use Rattle.zy_laws.proofs.locks.Reached.{kept_from, reached}
use Rattle.zy_laws.proofs.owner.Roles.{all_owned}

-- a node where transactions run, and that asks for no page
left_mode : (m : NodeMode) → is_idle m ≡ false → is_waiting m ≡ false → may_pull m ≡ false → (is_home m ≡ true) ⊎ (m ≡ SDual)
left_mode Empty a b c = absurd (false≢true (sym a))
left_mode Normal a b c = inl refl
left_mode SInit a b c = inl refl
left_mode SDual a b c = inr refl
left_mode SFinish a b c = absurd (false≢true (sym a))
left_mode DInit a b c = absurd (false≢true (sym b))
left_mode DDual a b c = absurd (false≢true (sym c))
left_mode DFinish a b c = absurd (false≢true (sym c))

-- a node where transactions run hands no page on, or has all of them, or is in the dual mode
hands_on : (m : NodeMode) → is_idle m ≡ false → (is_source m ≡ false) ⊎ ((is_home m ≡ true) ⊎ (m ≡ SDual))
hands_on SInit busy = inr (inl refl)
hands_on SDual busy = inr (inr refl)
hands_on SFinish busy = absurd (false≢true (sym busy))
hands_on m busy = inl refl

-- a private row's page is locked, and so is here unless the node hands pages on; and a node that is whole has every page
lost_in_dual : (sc : Scenario) (n : Node) (v : View) (lows : List ℕ) → Kept sc n v lows → Lost n v → v.me.mode ≡ SDual
lost_in_dual sc n v lows k l =
    let busy = k.mine.busy l.txn (l.active, l.here) in
    let newest : v.me.lows ≡ lows = k.mine.newest busy in
    let within : page_of v.me.lows l.key < length v.me.lows = subst (λ z. page_of z l.key < length z) (sym (newest ∙ k.first.1))
    (page_of-within (0 ∷ k.first.0) l.key (omega arith)) in
    let whole : is_home v.me.mode ≡ true → ⊥ = λ all. false≢true (sym l.gone ∙ all_owned v k.inv all k.inv.roles (page_of v.me.lows l.key) within) in
    elim l.cause [
      | inl still ↦ elim (left_mode v.me.mode busy l.begun still) [ inl all ↦ absurd (whole all) | inr dual ↦ dual ]
      | inr private ↦ elim (hands_on v.me.mode busy) [
        | inl off ↦
            let mine = exclusive_holds v.me.locks (page_of lows l.key) l.txn (k.mine.private l.txn l.key (l.active, l.here) private) in
            absurd
            (false≢true (sym l.gone ∙ subst (λ z. owns v.me.pages (page_of z l.key) ≡ true) (sym newest)
            (k.mine.kept (page_of lows l.key) l.txn (inr off) mine)))
        | inr source ↦ elim source [ inl all ↦ absurd (whole all) | inr dual ↦ dual ]
      ]
    ]

-- the law: a transaction is gone only at a source in the dual mode
pub gone_in_dual : (sc : Scenario) → IsScenario sc → (cs : List Choice) (next : Choice) → let s = play sc (opening sc) cs in
    is_gone (step sc next s).outcome ≡ true → (facing (side_of sc next s) s).me.mode ≡ SDual
unfolding step
gone_in_dual sc ok cs next gone =
    let s = play sc (opening sc) cs in
    let n = side_of sc next s in
    let r = reached sc ok cs in
    lost_in_dual sc n (facing n s) r.lows (kept_from sc n s r.lows r.kept) ((step_happens sc next s).lost gone)
