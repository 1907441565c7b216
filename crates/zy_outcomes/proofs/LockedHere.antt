-- Under `held` a locked page is at its node, and so no commit there finds a page gone.
use Rattle.std.proofs.Common.{◌≡◌, ℕ, List, [], ◌∷◌, true, false, refl, sym, ap, ◌∙◌, subst, inl, inr}
use Rattle.std.specs.Prelude.{◌==◌, ◌&&◌}
use Rattle.std.proofs.lemmas.Bool.{eq-eqb, false≢true, or_cases, or_left, or_right}
use Rattle.zy_isa.specs.Scenario.{IsScenario, Scenario}
use Rattle.zy_isa.specs.declared.choice.Choice.{Choice}
use Rattle.zy_isa.specs.declared.choice.Choice.TheVariants.{Run}
use Rattle.zy_isa.specs.declared.node.Node.{Node}
use Rattle.zy_isa.specs.declared.rule.Rule.TheVariants.{Held}
use Rattle.zy_model.specs.Locks.{holds, is_locked}
use Rattle.zy_model.specs.Wireframe.{page_of}
use Rattle.zy_model.specs.declared.lock.Lock.{Lock}
use Rattle.zy_model.specs.declared.lock.LockKind.{LockKind}
use Rattle.zy_table.proofs.LockLists.{exclusive_holds}
use Rattle.zy_table.specs.Change.{txn_at}
use Rattle.zy_table.specs.Effects.{effect_of}
use Rattle.zy_table.specs.Pages.{owns}
use Rattle.zy_table.specs.Play.{opening, play, step}
use Rattle.zy_table.specs.State.{View, facing}
use Rattle.zy_table.specs.Take.{is_held}
use Rattle.zy_table.specs.declared.effect.Effect.{Effect}
use Rattle.zy_table.specs.declared.effect.Effect.TheVariants.{Commits}
use Rattle.zy_table.specs.declared.outcome.Outcome.{Outcome}
use Rattle.zy_table.specs.declared.outcome.Outcome.TheVariants.{Aborted}
use Rattle.zy_table.specs.declared.outcome.Why.TheVariants.{Gone}
use Rattle.zy_laws.specs.Journey.{is_gone}
use Rattle.zy_laws.proofs.locks.Locking.{Kept}
use Rattle.zy_laws.proofs.locks.Reached.{kept_from, reached}
use Rattle.zy_outcomes.proofs.Steps.{step_reason}
use Rattle.zy_outcomes.specs.Reasons.{HasReason, Needs, Next}

-- a locked page is held by somebody
pub holder_of : (xs : List Lock) (p : ℕ) → is_locked xs p ≡ true → (t : ℕ) × (holds xs p t ≡ true)
holder_of [] p h = absurd (false≢true h)
holder_of (x ∷ xs) p h = elim (or_cases (x.page == p) (is_locked xs p) h) [
  | inl here ↦ let it : ((x.page == p) && (x.txn == x.txn)) ≡ true = rw (here, eq-eqb x.txn x.txn refl) refl in (x.txn, or_left _ _ it)
  | inr more ↦ let k = holder_of xs p more in (k.0, or_right _ _ k.1)
]

-- the law: a locked page is at its node
pub locked_here : (sc : Scenario) → IsScenario sc → sc.rule ≡ Held → (cs : List Choice) (n : Node) (p : ℕ)
    → let x = (facing n (play sc (opening sc) cs)).me in is_locked x.locks p ≡ true → owns x.pages p ≡ true
locked_here sc ok held cs n p locked =
    let s = play sc (opening sc) cs in
    let r = reached sc ok cs in
    let k = holder_of (facing n s).me.locks p locked in
    (kept_from sc n s r.lows r.kept).mine.kept p k.0 (inl (ap is_held held)) k.1

-- what an instruction does is one thing
one_effect : (sc : Scenario) (t : ℕ) (v : View) (d e : Effect) → Next sc t v d → Next sc t v e → d ≡ e
one_effect sc t v d e a b = let same : a.0 ≡ b.0 = let x = a.1 in let y = b.1 in cc in sym a.2 ∙ ap (λ i. effect_of i (txn_at v t).regs) same ∙ b.2

-- a commit needs no page as an access does
commit_needs : (sc : Scenario) (v : View) (p : ℕ) (kind : LockKind) (e : Effect) → e ≡ Commits → Needs v.me p kind e → ⊥
commit_needs sc v p kind e is needs = subst (Needs v.me p kind) is needs

-- where t commits, its outcome is not that a page has gone
not_gone : (sc : Scenario) (n : Node) (t : ℕ) (v : View) (lows : List ℕ) → Kept sc n v lows → is_held sc.rule ≡ true → Next sc t v Commits
    → (o : Outcome) → HasReason sc n v (Run n t) o → is_gone o ≡ false
not_gone sc n t v lows k held next (Aborted (Gone p)) r =
    let at = r.1 in
    elim r.2.1 [
      | inl w ↦
          let same : r.0 ≡ t = let e = w.1.run in cc in
          absurd (commit_needs sc v p w.0 w.1.does (one_effect sc t v w.1.does Commits (subst (λ u. Next sc u v w.1.does) same w.1.next) next) w.1.needs)
      | inr c ↦
          let newest : v.me.lows ≡ lows = k.mine.newest (k.mine.busy r.0 at) in
          let mine = exclusive_holds v.me.locks (page_of lows c.1.0) r.0 (k.mine.private r.0 c.1.0 at c.1.2) in
          let there : page_of lows c.1.0 ≡ p = ap (λ l. page_of l c.1.0) (sym newest) ∙ c.1.3 in
          absurd (false≢true (sym r.2.0 ∙ subst (λ q. owns v.me.pages q ≡ true) there (k.mine.kept (page_of lows c.1.0) r.0 (inl held) mine)))
    ]
not_gone sc n t v lows k held next o r = refl

-- the law: no commit is lost
pub no_commit_gone : (sc : Scenario) → IsScenario sc → sc.rule ≡ Held → (cs : List Choice) (n : Node) (t : ℕ) → let s = play sc (opening sc) cs in
    Next sc t (facing n s) Commits → is_gone (step sc (Run n t) s).outcome ≡ false
no_commit_gone sc ok held cs n t next =
    let s = play sc (opening sc) cs in
    let r = reached sc ok cs in
    not_gone sc n t (facing n s) r.lows (kept_from sc n s r.lows r.kept) (ap is_held held) next _ (step_reason sc (Run n t) s)
