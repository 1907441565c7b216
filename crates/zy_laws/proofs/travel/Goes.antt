-- What each line of the table does to the place of a page, as one node sees it.
use Rattle.std.proofs.Common.{List, ap, arith, false, inl, inr, length, refl, subst, sym, true, ℕ, ◌+◌, ◌∙◌, ◌∷◌, ◌≡◌}
use Rattle.std.specs.Prelude.{if◌then◌else◌, ◌==◌, ◌||◌}
use Rattle.std.proofs.Math.Bool.{or-false}
use Rattle.std.proofs.lemmas.Bool.{cases_eq, eq-eqb, ne_eqb, or_left, or_right}
use Rattle.std.proofs.lemmas.Bool.Decides.{nat_tests}
use Rattle.zy_model.specs.Families.{is_source}
use Rattle.zy_isa.specs.Scenario.{Scenario}
use Rattle.zy_isa.specs.declared.node.Node.{Node}
use Rattle.zy_model.specs.Messages.{Page, Done}
use Rattle.zy_model.specs.declared.lock.LockKind.TheVariants.{Exclusive}
use Rattle.zy_model.specs.Table.{may_pull, may_split}
use Rattle.zy_table.specs.declared.outcome.Outcome.{Outcome}
use Rattle.zy_table.specs.declared.outcome.Outcome.TheVariants.{Split}
use Rattle.zy_table.specs.declared.place.Place.{Place}
use Rattle.zy_table.specs.declared.place.Place.TheVariants.{Nowhere, At, Moving}
use Rattle.zy_table.specs.Change.{aborted, asks, begun, committed, cut, did, leaves, locked, shares, txn_at}
use Rattle.zy_table.specs.Database.{sent_leaves}
use Rattle.zy_table.specs.Pages.{leaf_at, lowered, owns, with_page}
use Rattle.zy_table.specs.Run.{boundary}
use Rattle.zy_table.specs.State.{Leaf, Message, NodeState, View, other}
use Rattle.zy_table.proofs.PageLists.{owns-lowered, owns-with_page}
use Rattle.zy_laws.proofs.walk.Events.{Told, Commits, Event, Gives, GotLast, GotPage, Pushes, Splits}
use Rattle.zy_laws.proofs.walk.Conditions.{has_lock, page, rest}
use Rattle.zy_laws.proofs.places.Installing.{owns-installed}
use Rattle.zy_laws.proofs.owner.MovingPages.{leaf_at-number, owns-sent_post, owns-without, owns-without_other, sent_bare}
use Rattle.zy_laws.proofs.owner.LinkOwners.{pulled_inv}
use Rattle.zy_laws.proofs.walk.ModeLines.{sends_source}
use Rattle.zy_laws.proofs.owner.SameOwners.{locks_inv}
use Rattle.zy_laws.proofs.owner.PageCounts.{owns-times, owns_none, times-sent_leaves, times_sent}
use Rattle.zy_laws.proofs.owner.Roles.{Inv, Owned, normal_other}
use Rattle.zy_laws.proofs.walk.Kinds.{unmoved_of}

-- the place of a page as n sees it
abbrev pub place_in : ℕ → Node → View → Place
place_in p n v =
    if owns v.me.pages p then At n
    else if owns v.them.pages p then At (other n)
    else if owns (sent_leaves v.outbox) p then Moving n
    else if owns (sent_leaves v.inbox) p then Moving (other n)
    else Nowhere

-- what a step does to it
pub data Goes (p : ℕ) (n : Node) (o : Outcome) (v w : View) : Type 0 where
  Same : place_in p n w ≡ place_in p n v → Goes p n o v w
  New : (q b : ℕ) → o ≡ Split q p b → may_split v.me.mode ≡ true → place_in p n v ≡ Nowhere → place_in p n w ≡ At n → Goes p n o v w
  Out : is_source v.me.mode ≡ true → place_in p n v ≡ At n → place_in p n w ≡ Moving n → Goes p n o v w
  In : may_pull v.me.mode ≡ true → place_in p n v ≡ Moving (other n) → place_in p n w ≡ At n → Goes p n o v w

-- the place of page p, as n sees it
module _ (p : ℕ) (n : Node) (v : View) where
  -- a page stays where the lists that have it are the same
  same_place : (w : View) → owns w.me.pages p ≡ owns v.me.pages p → w.them ≡ v.them → owns (sent_leaves w.outbox) p ≡ owns (sent_leaves v.outbox) p
      → owns (sent_leaves w.inbox) p ≡ owns (sent_leaves v.inbox) p → place_in p n w ≡ place_in p n v
  same_place w a b c d = λ i.
      if a i then At n else if owns (b i).pages p then At (other n) else if c i then Moving n else if d i then Moving (other n) else Nowhere

  -- a page that a node owns is there
  at_me : owns v.me.pages p ≡ true → place_in p n v ≡ At n
  at_me a = rw a refl

  -- a page on the way from here is moving
  in_out : owns v.me.pages p ≡ false → owns v.them.pages p ≡ false → owns (sent_leaves v.outbox) p ≡ true → place_in p n v ≡ Moving n
  in_out a b c = rw (a, b, c) refl

  -- a page on the way to here is moving
  in_in : owns v.me.pages p ≡ false → owns v.them.pages p ≡ false → owns (sent_leaves v.outbox) p ≡ false → owns (sent_leaves v.inbox) p ≡ true
      → place_in p n v ≡ Moving (other n)
  in_in a b c d = rw (a, b, c, d) refl

  -- a page that is in no list is nowhere
  in_none : owns v.me.pages p ≡ false → owns v.them.pages p ≡ false → owns (sent_leaves v.outbox) p ≡ false → owns (sent_leaves v.inbox) p ≡ false
      → place_in p n v ≡ Nowhere
  in_none a b c d = rw (a, b, c, d) refl

-- what a step does to page p, from the view of n
module _ (p : ℕ) (n : Node) (o : Outcome) (v : View) where
  -- messages came and went, and no page did
  stays : (w : View) → owns w.me.pages p ≡ owns v.me.pages p → w.them ≡ v.them → sent_leaves w.outbox ≡ sent_leaves v.outbox
      → sent_leaves w.inbox ≡ sent_leaves v.inbox → Goes p n o v w
  stays w me them outbox inbox = Same (same_place p n v w me them (ap (λ xs. owns xs p) outbox) (ap (λ xs. owns xs p) inbox))

  -- a page leaves
  leaves_goes : (q : ℕ) → Owned v → is_source v.me.mode ≡ true → owns v.me.pages q ≡ true → Goes p n o v (leaves q v)
  unfolding leaves
  leaves_goes q owned source own =
      let leaf = leaf_at v.me.pages q in
      let number = leaf_at-number v.me.pages q in
      elim (cases_eq p q) [
        | inl here ↦
            let k = owned.once q in
            let one = owns-times q v.me.pages own in
            let them = owns_none q v.them.pages (grind (arith, nat_tests, k, one)) in
            let posted = owns-sent_post q v.outbox leaf ∙ or_right (owns (sent_leaves v.outbox) q) _ (eq-eqb _ _ number) in
            subst (λ z. Goes z n o v (leaves q v)) (sym here)
            (Out source (at_me q n v own) (in_out q n (leaves q v) (owns-without q v.me.pages) them posted))
        | inr far ↦
            let posted = owns-sent_post p v.outbox leaf ∙ ap (λ b. owns (sent_leaves v.outbox) p || b) (ne_eqb _ _ (λ h. far (sym h ∙ number)))
            ∙ or-false (owns (sent_leaves v.outbox) p) in
            Same (same_place p n v (leaves q v) (owns-without_other q p v.me.pages far) refl posted refl)
      ]

  -- a page comes
  arrives_goes : {x : NodeState} {outbox : List Message} (leaf : Leaf) (ms : List Message) → Owned v → may_pull v.me.mode ≡ true
      → v.inbox ≡ Page leaf ∷ ms → x.pages ≡ with_page leaf v.me.pages → sent_leaves outbox ≡ sent_leaves v.outbox
      → Goes p n o v (record v { me = x; inbox = ms; outbox = outbox })
  arrives_goes {x = x} {outbox = os} leaf ms once pulls f me outbox =
      let w : View = record v { me = x; inbox = ms; outbox = os } in
      let owned : owns x.pages p ≡ ((leaf.number == p) || owns v.me.pages p) = ap (λ xs. owns xs p) me ∙ owns-with_page p leaf v.me.pages in
      let sent : owns (sent_leaves v.inbox) p ≡ ((leaf.number == p) || owns (sent_leaves ms) p) = ap (λ xs. owns (sent_leaves xs) p) f in
      elim (cases_eq leaf.number p) [
        | inl here ↦
            let k = once.once p in
            let s : times_sent p v.inbox ≡ (if leaf.number == p then 1 else 0) + times_sent p ms = ap (times_sent p) f in
            let z = times-sent_leaves p v.outbox in
            let a = owns_none p v.me.pages (grind (arith, nat_tests, k, s, here)) in
            let b = owns_none p v.them.pages (grind (arith, nat_tests, k, s, here)) in
            let c = owns_none p (sent_leaves v.outbox) (grind (arith, nat_tests, k, s, here, z)) in
            In pulls (in_in p n v a b c (sent ∙ or_left _ _ (eq-eqb _ _ here))) (at_me p n w (owned ∙ or_left _ _ (eq-eqb _ _ here)))
        | inr far ↦
            let off : (leaf.number == p) ≡ false = ne_eqb _ _ far in
            let mine : owns x.pages p ≡ owns v.me.pages p = owned ∙ ap (λ b. b || owns v.me.pages p) off in
            let left : owns (sent_leaves ms) p ≡ owns (sent_leaves v.inbox) p = sym (sent ∙ ap (λ b. b || owns (sent_leaves ms) p) off) in
            Same (same_place p n v w mine refl (ap (λ xs. owns xs p) outbox) left)
      ]

  -- a page is split off
  cut_goes : (t q b : ℕ) → Inv v → may_split v.me.mode ≡ true → (x y : ℕ) × (o ≡ Split x (length v.me.lows) y) → Goes p n o v (cut t q b v)
  unfolding cut
  cut_goes t q b i normal told =
      let owned : owns (cut t q b v).me.pages p ≡ ((length v.me.lows == p) || owns v.me.pages p) =
      owns-with_page p _ (lowered q b v.me.pages) ∙ ap (λ c. (length v.me.lows == p) || c) (owns-lowered q b v.me.pages p) in
      elim (cases_eq (length v.me.lows) p) [
        | inl here ↦
            let k = i.owned.once p in
            let wide = (normal_other v i.roles normal).1 in
            let x = times-sent_leaves p v.outbox in
            let y = times-sent_leaves p v.inbox in
            let me = owns_none p v.me.pages (grind (arith, nat_tests, k, wide, here)) in
            let them = owns_none p v.them.pages (grind (arith, nat_tests, k, wide, here)) in
            let outbox = owns_none p (sent_leaves v.outbox) (grind (arith, nat_tests, k, wide, here, x)) in
            let inbox = owns_none p (sent_leaves v.inbox) (grind (arith, nat_tests, k, wide, here, y)) in
            New told.0 told.1 (told.2 ∙ ap (λ z. Split told.0 z told.1) here) normal (in_none p n v me them outbox inbox)
            (at_me p n (cut t q b v) (owned ∙ or_left _ _ (eq-eqb _ _ here)))
        | inr far ↦ stays (cut t q b v) (owned ∙ ap (λ c. c || owns v.me.pages p) (ne_eqb _ _ far)) refl refl refl
      ]

  -- what a step does from a view that differs in nothing that counts here
  from_same : (x w : View) → place_in p n v ≡ place_in p n x → x.me.mode ≡ v.me.mode → Goes p n o x w → Goes p n o v w
  from_same x w same mode (Same h) = Same (h ∙ sym same)
  from_same x w same mode (New q y told a b c) = New q y told (ap may_split (sym mode) ∙ a) (same ∙ b) c
  from_same x w same mode (Out a b c) = Out (ap is_source (sym mode) ∙ a) (same ∙ b) c
  from_same x w same mode (In a b c) = In (ap may_pull (sym mode) ∙ a) (same ∙ b) c

-- each event moves a page as Goes says
pub goes_event : (sc : Scenario) (n : Node) (o : Outcome) (v w : View) (p : ℕ) → Inv v → (e : Event sc n v w) → Told e o → Goes p n o v w
unfolding did locked shares txn_at aborted begun committed asks
goes_event sc n o v w p i (Splits line e) told =
    let x = has_lock line.txn line.key Exclusive v in
    let locked = locks_inv v x (refl, refl, refl) refl refl refl i in
    let low = boundary sc line.key (page line.key v) v.me (txn_at v line.txn) in
    rw e (from_same p n o v x _ refl refl (cut_goes p n o x line.txn (page line.key v) low locked line.normal told))
goes_event sc n o v w p i (Commits line e) told = rw e (stays p n o v _ (owns-installed v.me.lows (txn_at v line.txn).rows v.me.pages p) refl refl refl)
goes_event sc n o v w p i (Gives line e) told =
    let x = rest v line.after in
    let same = same_place p n x v refl refl refl (ap (λ xs. owns (sent_leaves xs) p) line.front) in
    let pulled = pulled_inv v i line.page line.after line.front in
    rw e (from_same p n o v x _ same refl (leaves_goes p n o x line.page pulled.owned (sends_source v.me.mode line.sends) line.own))
goes_event sc n o v w p i (GotPage line e) told = rw e (arrives_goes p n o v line.leaf line.after i.owned line.pulls line.front refl refl)
goes_event sc n o v w p i (GotLast line e) told =
    rw e (arrives_goes p n o v line.leaf line.after i.owned (ap may_pull line.mode) line.front refl (sent_bare v.outbox Done refl))
goes_event sc n o v w p i (Pushes line e) told = rw e (leaves_goes p n o v line.page i.owned (ap is_source line.finish) line.own)
goes_event sc n o v w p i e told = let q = unmoved_of e refl in stays p n o v w (ap (λ xs. owns xs p) q.pages) q.them q.outbox q.inbox
