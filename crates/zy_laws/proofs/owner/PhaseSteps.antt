-- What each line of the table does to the phase of a migration.
use Rattle.std.proofs.Common.{◌≡◌, ℕ, ◌≤◌, List, [], ◌∷◌, ◌++◌, length, true, refl, sym, ap, ◌∙◌, arith, subst, append_assoc}
use Rattle.zy_model.specs.Families.{is_source, is_taker, is_sending}
use Rattle.zy_model.specs.declared.mode.NodeMode.TheVariants.{Normal, SInit, SDual, SFinish, DDual, DFinish}
use Rattle.zy_model.specs.Table.{may_pull}
use Rattle.zy_model.specs.Messages.{Wire, Ready, Dual, Pull, Page, Finish, Done}
use Rattle.zy_table.specs.State.{NodeState, Leaf, Message, View}
use Rattle.zy_laws.specs.Journey.{Begins}
use Rattle.zy_laws.specs.OneOwner.{times}
use Rattle.zy_laws.proofs.owner.Phases.{Phase, Is, At, Stage, Lows, Out, Back, Arrived, AllThere, AllPages, PagesAndFinish, PullsAndDone, Resting, Wire_sent}
use Rattle.zy_laws.proofs.owner.Phases.{Ready_sent, Dual_sent, Both_sent, In_dual, Finish_sent, In_finish, Done_sent, begins_length, pages_post, finish_post}
use Rattle.zy_laws.proofs.owner.Phases.{dual_post, pages_finish_post, pulls_post}
use Rattle.zy_laws.proofs.owner.Roles.{Roles, Source, Destination}

-- which of the two a node is, by its mode
pub source_of : (v : View) → Roles v → is_source v.me.mode ≡ true → Phase v.me v.them v.outbox v.inbox
source_of v (Source ph) s = ph
source_of v (Destination (Is Resting at)) s = cc at.destination
source_of v (Destination (Is g at)) s = cc at.destination

-- in a mode that takes pages I am the destination
pub taker_of : (v : View) → Roles v → is_taker v.me.mode ≡ true → Phase v.them v.me v.inbox v.outbox
taker_of v (Source (Is Resting at)) s = cc at.source
taker_of v (Source (Is g at)) s = cc at.source
taker_of v (Destination ph) s = ph

-- a node in the same mode, with the same low keys and page numbers
pub record SameShape (x y : NodeState) : Type 0 where
  pub mode : y.mode ≡ x.mode
  pub lows : y.lows ≡ x.lows
  pub counts : (p : ℕ) → times p y.pages ≡ times p x.pages
  pub none : x.pages ≡ [] → y.pages ≡ []

-- a node of the same shape has the same pages there
there_same : {x y : NodeState} → SameShape x y → AllThere x → AllThere y
there_same s all = record { each = λ p h. rw s.counts (all.each p (rw s.lows at h)) }

-- and the same wireframe beside the source's
lows_same : {x y : NodeState} (g : Stage) (lows : List ℕ) → SameShape x y → Lows g lows x → Lows g lows y
lows_same Done_sent lows s h = record { begins = subst (Begins lows) (sym s.lows) h.begins; there = there_same s h.there }
lows_same g lows s h = s.lows ∙ h

-- a source of the same shape keeps the phase
pub source_same : {x y dst : NodeState} {out back : List Message} → SameShape x y → Phase x dst out back → Phase y dst out back
source_same {dst = dst} {out = out} s (Is g at) =
    let lows = subst (λ lows. Lows g lows dst) (sym s.lows) at.lows in
    let sent = subst (λ lows. Out g lows out) (sym s.lows) at.out in
    Is g (record { source = s.mode ∙ at.source; destination = at.destination; lows = lows; out = sent; back = at.back })

-- a destination of the same shape keeps the phase
pub destination_same : {src x y : NodeState} {out back : List Message} → SameShape x y → Phase src x out back → Phase src y out back
destination_same {src = src} s (Is g at) =
    let lows = lows_same g src.lows s at.lows in
    Is g (record { source = at.source; destination = s.mode ∙ at.destination; lows = lows; out = at.out; back = at.back })

-- a list that begins one that begins a third begins the third
begins_further : (xs ys zs : List ℕ) → Begins xs ys → Begins ys zs → Begins xs zs
begins_further xs ys zs a b = record { more = a.more ++ b.more; is = b.is ∙ ap (λ l. l ++ b.more) a.is ∙ append_assoc xs a.more b.more }

-- what a step does to a migration in its phase, from the source to the destination
module _ {src dst : NodeState} {out back : List Message} where
  -- messages go back, and nothing else changes
  returns : {g : Stage} {ms : List Message} → At g src dst out back → Back g ms → At g src dst out ms
  returns at ms = record { source = at.source; destination = at.destination; lows = at.lows; out = at.out; back = ms }

  -- messages go out, the source may have other pages, and nothing else changes
  sends : {g : Stage} {ms : List Message} {pages : List Leaf} → At g src dst out back → Out g src.lows ms
      → At g (record src { pages = pages }) dst ms back
  sends at ms = record { source = at.source; destination = at.destination; lows = at.lows; out = ms; back = at.back }

  -- a migration starts
  pub started : Phase src dst out back → src.mode ≡ Normal
      → Phase (record src { mode = SInit }) dst (out ++ Wire src.lows ∷ []) back
  started (Is Resting at) m =
      let sent = ap (λ ms. ms ++ Wire src.lows ∷ []) at.out in
      Is Wire_sent (record { source = refl; destination = at.destination; lows = at.lows; out = sent; back = at.back })
  started (Is g at) m = cc at.source

  -- the wireframe comes
  pub wire_came : {lows : List ℕ} {ms : List Message} → Phase src dst out back → out ≡ Wire lows ∷ ms → At Wire_sent src dst (Wire lows ∷ ms) back
  wire_came (Is Wire_sent at) e = sends at (subst (Out Wire_sent src.lows) e at.out)
  wire_came (Is g at) e = grind (arith, e, at.out)

  -- the destination is ready
  pub ready_came : {ms : List Message} → Phase src dst out back → back ≡ Ready ∷ ms
      → Phase (record src { mode = SDual }) dst (out ++ Dual ∷ []) ms
  ready_came (Is Ready_sent at) e =
      Is Dual_sent (record { source = refl; destination = at.destination; lows = at.lows; out = rw at.out tt; back = cc (e, at.back) })
  ready_came (Is g at) e = grind (arith, e, at.back)

  -- both run
  pub dual_came : {ms : List Message} → Phase src dst out back → out ≡ Dual ∷ ms
      → Phase src (record dst { mode = DDual }) ms back
  dual_came (Is Dual_sent at) e =
      let left = subst (Out Dual_sent src.lows) e at.out in
      Is In_dual (record { source = at.source; destination = refl; lows = at.lows; out = left; back = rw at.back tt })
  dual_came (Is Both_sent at) e =
      let left = subst (Out Both_sent src.lows) e at.out in
      Is Finish_sent (record { source = at.source; destination = refl; lows = at.lows; out = left; back = rw at.back tt })
  dual_came (Is g at) e = grind (arith, e, at.out)

  -- a page is asked for
  pub asked_for : (p : ℕ) → Phase src dst out back → may_pull dst.mode ≡ true
      → Phase src dst out (back ++ Pull p ∷ [])
  asked_for p (Is In_dual at) s = Is In_dual (returns at (pulls_post back p at.back))
  asked_for p (Is Finish_sent at) s = Is Finish_sent (returns at (pulls_post back p at.back))
  asked_for p (Is In_finish at) s = Is In_finish (returns at (pulls_post back p at.back))
  asked_for p (Is g at) s = cc at.destination

  -- a pull is taken from the link back
  pub pull_came : {p : ℕ} {ms : List Message} → Phase src dst out back → back ≡ Pull p ∷ ms → Phase src dst out ms
  pull_came (Is In_dual at) e = Is In_dual (returns at (subst (Back In_dual) e at.back))
  pull_came (Is Finish_sent at) e = Is Finish_sent (returns at (subst (Back Finish_sent) e at.back))
  pull_came (Is In_finish at) e = Is In_finish (returns at (subst (Back In_finish) e at.back))
  pull_came (Is Done_sent at) e = Is Done_sent (returns at (subst (Back Done_sent) e at.back))
  pull_came (Is g at) e = grind (arith, e, at.back)

  -- no pull is on its way out
  pub no_pull : {p : ℕ} {ms : List Message} → Phase src dst out back → out ≡ Pull p ∷ ms → ⊥
  no_pull (Is Resting at) e = grind (arith, e, at.out)
  no_pull (Is g at) e = grind (arith, e, at.out)

  -- a page leaves, where the destination lacks one
  pub page_left : (leaf : Leaf) (pages : List Leaf) → Phase src dst out back
      → is_sending src.mode ≡ true → (AllThere dst → ⊥) → Phase (record src { pages = pages }) dst (out ++ Page leaf ∷ []) back
  page_left leaf pages (Is Dual_sent at) s lacks =
      Is Dual_sent (sends at (dual_post AllPages AllPages (Page leaf) (λ ms. pages_post ms leaf) out at.out))
  page_left leaf pages (Is Both_sent at) s lacks =
      Is Both_sent (sends at (dual_post PagesAndFinish PagesAndFinish (Page leaf) (λ ms. pages_finish_post ms leaf) out at.out))
  page_left leaf pages (Is In_dual at) s lacks = Is In_dual (sends at (pages_post out leaf at.out))
  page_left leaf pages (Is Finish_sent at) s lacks = Is Finish_sent (sends at (pages_finish_post out leaf at.out))
  page_left leaf pages (Is In_finish at) s lacks = Is In_finish (sends at (pages_post out leaf at.out))
  page_left leaf pages (Is Done_sent at) s lacks = absurd (lacks at.lows.there)
  page_left leaf pages (Is g at) s lacks = cc at.source

  -- the source's wireframe is no longer then
  pub sending_lows : Phase src dst out back → is_sending src.mode ≡ true → length src.lows ≤ length dst.lows
  sending_lows (Is Resting at) s = cc at.source
  sending_lows (Is Wire_sent at) s = cc at.source
  sending_lows (Is Done_sent at) s = begins_length src.lows dst.lows at.lows.begins
  sending_lows (Is g at) s = omega (arith, ap length at.lows)

  -- a page comes
  pub page_came : (leaf : Leaf) (ms : List Message) (pages : List Leaf) (asked : List ℕ)
      → Phase src dst out back → may_pull dst.mode ≡ true → out ≡ Page leaf ∷ ms → Phase src (record dst { pages = pages; asked = asked }) ms back
  page_came leaf ms pages asked (Is In_dual at) s e =
      Is In_dual (record { source = at.source; destination = at.destination; lows = at.lows; out = subst AllPages e at.out; back = at.back })
  page_came leaf ms pages asked (Is Finish_sent at) s e =
      Is Finish_sent (record { source = at.source; destination = at.destination; lows = at.lows; out = subst PagesAndFinish e at.out; back = at.back })
  page_came leaf ms pages asked (Is In_finish at) s e =
      Is In_finish (record { source = at.source; destination = at.destination; lows = at.lows; out = subst AllPages e at.out; back = at.back })
  page_came leaf ms pages asked (Is g at) s e = cc at.destination

  -- the source runs nothing any more
  pub finished : Phase src dst out back → src.mode ≡ SDual
      → Phase (record src { mode = SFinish }) dst (out ++ Finish ∷ []) back
  finished (Is Dual_sent at) m =
      let sent = dual_post AllPages PagesAndFinish Finish finish_post out at.out in
      Is Both_sent (record { source = refl; destination = at.destination; lows = at.lows; out = sent; back = at.back })
  finished (Is In_dual at) m =
      Is Finish_sent (record { source = refl; destination = at.destination; lows = at.lows; out = finish_post out at.out; back = at.back })
  finished (Is g at) m = cc at.source

  -- the finish is taken
  pub finish_came : {ms : List Message} → Phase src dst out back → dst.mode ≡ DDual → out ≡ Finish ∷ ms
      → Phase src (record dst { mode = DFinish }) ms back
  finish_came (Is Finish_sent at) m e =
      Is In_finish (record { source = at.source; destination = refl; lows = at.lows; out = subst PagesAndFinish e at.out; back = at.back })
  finish_came (Is g at) m e = grind (arith, at.destination, m, e, at.out)

  -- a destination in DFinish is in the stage of that name
  pub in_finish : Phase src dst out back → dst.mode ≡ DFinish → At In_finish src dst out back
  in_finish (Is In_finish at) m = at
  in_finish (Is g at) m = cc at.destination

  -- the destination has all pages
  pub done_came : {ms : List Message} → Phase src dst out back → back ≡ Done ∷ ms → At Done_sent src dst out (Done ∷ ms)
  done_came (Is Done_sent at) e = returns at (subst PullsAndDone e at.back)
  done_came (Is g at) e = grind (arith, e, at.back)

  -- a page is cut at a node in Normal, which is the source, and rests
  pub cut_source : (y : NodeState) → Phase src dst out back → src.mode ≡ Normal → y.mode ≡ src.mode
      → Phase y dst out back
  cut_source y (Is Resting at) m same =
      Is Resting (record { source = same ∙ at.source; destination = at.destination; lows = at.lows; out = at.out; back = at.back })
  cut_source y (Is g at) m same = cc at.source

  -- or the destination, which has all pages
  pub cut_taker : (y : NodeState) → Phase src dst out back → dst.mode ≡ Normal → y.mode ≡ dst.mode
      → Begins dst.lows y.lows → (AllThere dst → AllThere y) → Phase src y out back
  cut_taker y (Is Done_sent at) m same more there =
      let lows : Arrived src.lows y = record { begins = begins_further src.lows dst.lows y.lows at.lows.begins more; there = there at.lows.there } in
      Is Done_sent (record { source = at.source; destination = same ∙ at.destination; lows = lows; out = at.out; back = at.back })
  cut_taker y (Is g at) m same more there = cc at.destination
