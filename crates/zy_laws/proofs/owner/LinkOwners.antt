-- A message that is sent or taken, and is no page, keeps roles and owners.
use Rattle.std.proofs.Common.{List, [], ap, append-nil, arith, inl, inr, length, refl, sym, true, ℕ, ◌++◌, ◌+◌, ◌∙◌, ◌∷◌, ◌≡◌, ◌<◌}
use Rattle.std.specs.Prelude.{if◌then◌else◌, max, ◌==◌}
use Rattle.std.proofs.lemmas.Bool.{cases_lt}
use Rattle.std.proofs.lemmas.Bool.Decides.{nat_tests}
use Rattle.zy_model.specs.Families.{is_source, is_taker, is_bare}
use Rattle.zy_model.specs.Messages.{Wire, Ready, Dual, Pull, Page, Finish, Done}
use Rattle.zy_model.specs.declared.mode.NodeMode.{NodeMode}
use Rattle.zy_model.specs.declared.mode.NodeMode.TheVariants.{Empty, Normal, SInit, SDual, SFinish, DInit, DDual, DFinish}
use Rattle.zy_model.specs.Table.{may_pull}
use Rattle.zy_table.specs.Change.{asks, turns, with_lows}
use Rattle.zy_laws.specs.Journey.{Begins}
use Rattle.zy_laws.specs.OneOwner.{times}
use Rattle.zy_table.specs.State.{Leaf, Message, NodeState, View, post, with_me}
use Rattle.zy_table.specs.Take.{all_here}
use Rattle.zy_laws.proofs.walk.Conditions.{rest}
use Rattle.zy_laws.proofs.owner.MovingPages.{all_below-owns}
use Rattle.zy_laws.proofs.owner.PageCounts.{owns-times, times_in, times_sent, times_sent-post}
use Rattle.zy_laws.proofs.owner.Phases.{Is, AllPages, Arrived, AllThere, Resting, Ready_sent, Done_sent, begins_length, done_post}
use Rattle.zy_laws.proofs.owner.PhaseSteps.{asked_for, destination_same, done_came, dual_came, finish_came, finished}
use Rattle.zy_laws.proofs.owner.PhaseSteps.{in_finish, no_pull, pull_came, ready_came, source_of, started, taker_of, wire_came}
use Rattle.zy_laws.proofs.owner.Roles.{Bare, Destination, Inv, Owned, Roles, Source, turned, turned_inv, width}
use Rattle.zy_laws.proofs.owner.SameOwners.{bare_never, locks_shape, owned_same}
use Rattle.zy_laws.proofs.walk.ModeLines.{pulls_taker}

-- the test that all pages are here is right
there_of : (x : NodeState) → all_here x ≡ true → AllThere x
there_of x e = record { each = λ p h. owns-times p x.pages (all_below-owns x.pages (length x.lows) p e h) }

-- where a destination has all pages, nothing is on its way to it
nothing_sent : (v : View) (ms : List Message) → v.inbox ≡ ms → AllPages ms → Owned v → AllThere v.me → length v.me.lows ≡ length v.them.lows → ms ≡ []
nothing_sent v [] e h o all long = refl
nothing_sent v (Page leaf ∷ ms) e h o all long =
    let p = leaf.number in
    let k = o.once p in
    let sent : times_sent p v.inbox ≡ (if p == p then 1 else 0) + times_sent p ms = ap (times_sent p) e in
    let below : p < length v.me.lows = grind (arith, nat_tests, k, sent, long) in
    let two = all.each p below in
    absurd (grind (arith, nat_tests, k, sent, two))
nothing_sent v ms e h o all long = absurd h

-- a list in which no page is counted is empty
none_there : (xs : List Leaf) → ((p : ℕ) → times p xs ≡ 0) → xs ≡ []
none_there [] h = refl
none_there (x ∷ xs) h = let k = h x.number in absurd (grind (arith, nat_tests, k))

-- a step from a view in which roles and owners hold
module _ (v : View) (i : Inv v) where
  -- messages came and went, and no page did
  links_inv : {mode : NodeMode} {lows asked : List ℕ} {inbox outbox : List Message}
      → let w : View = record v { me = record v.me { mode = mode; lows = lows; asked = asked }; inbox = inbox; outbox = outbox } in
      Roles w → Bare w.me → width w ≡ width v
      → ((p : ℕ) → times_sent p inbox ≡ times_sent p v.inbox) → ((p : ℕ) → times_sent p outbox ≡ times_sent p v.outbox) → Inv w
  links_inv roles bare wide inbox outbox = record {
    roles = roles;
    owned = owned_same v _ (λ p. rw (inbox, outbox) refl) wide i.owned;
    mine = bare;
    theirs = i.theirs;
  }

  -- the front of the inbox is gone, and it was no page
  taken : (m : Message) (ms : List Message) → v.inbox ≡ m ∷ ms → ((p : ℕ) → times_in p m ≡ 0) → (p : ℕ) → times_sent p ms ≡ times_sent p v.inbox
  taken m ms f none p = omega (arith, ap (times_sent p) f, none p)

  -- a message more, and it is no page
  posted : (m : Message) → ((p : ℕ) → times_in p m ≡ 0) → (p : ℕ) → times_sent p (v.outbox ++ m ∷ []) ≡ times_sent p v.outbox
  posted m none p = omega (arith, times_sent-post p v.outbox m, none p)

  -- asking for a page keeps roles and owners
  pub asks_inv : (p : ℕ) → may_pull v.me.mode ≡ true → Inv (asks p v)
  unfolding asks
  asks_inv p s =
      let ph = asked_for p (taker_of v i.roles (pulls_taker v.me.mode s)) s in
      links_inv (Destination (destination_same (locks_shape v.me (asks p v).me (refl, refl, refl)) ph)) (record { none = i.mine.none }) refl
      (λ q. refl) (posted (Pull p) (λ q. refl))

  -- a start keeps roles and owners
  pub starts_inv : v.me.mode ≡ Normal → v.them.mode ≡ Empty → Inv (post (Wire v.me.lows) (turns SInit v))
  starts_inv normal empty =
      let ph = taker_of (turned v) (turned_inv v i).roles (ap is_taker empty) in
      links_inv (Source (started ph normal)) (bare_never _ SInit refl refl) refl (λ p. refl) (posted (Wire v.me.lows) (λ p. refl))

  -- a wireframe that is taken is at most as long as the other node's
  pub wire_wide : (lows : List ℕ) (ms : List Message) → v.inbox ≡ Wire lows ∷ ms → v.me.mode ≡ Empty → max (length lows) (length v.them.lows) ≡ width v
  wire_wide lows ms f empty =
      let came = wire_came (taker_of v i.roles (ap is_taker empty)) f in
      let bare : length v.me.lows ≡ 0 = ap length came.lows in
      let same : lows ≡ v.them.lows = cc came.out in
      let long = ap length same in
      omega (arith, bare, long)

  -- a wireframe that is taken keeps roles and owners
  pub wire_inv : (lows : List ℕ) (ms : List Message) → v.inbox ≡ Wire lows ∷ ms → v.me.mode ≡ Empty
      → Inv (post Ready (turns DInit (with_me (with_lows lows v.me) (rest v ms))))
  wire_inv lows ms f empty =
      let came = wire_came (taker_of v i.roles (ap is_taker empty)) f in
      let back = ap (λ xs. xs ++ Ready ∷ []) came.back in
      let sent = Is Ready_sent (record { source = came.source; destination = refl; lows = cc came.out; out = cc came.out; back = back }) in
      links_inv (Destination sent) (record { none = λ _. i.mine.none (ap is_bare empty) }) (wire_wide lows ms f empty)
      (taken (Wire lows) ms f (λ p. refl)) (posted Ready (λ p. refl))

  -- a ready that is taken keeps roles and owners
  pub ready_inv : (ms : List Message) → v.inbox ≡ Ready ∷ ms → v.me.mode ≡ SInit → Inv (post Dual (turns SDual (rest v ms)))
  ready_inv ms f init =
      links_inv (Source (ready_came (source_of v i.roles (ap is_source init)) f)) (bare_never _ SDual refl refl) refl
      (taken Ready ms f (λ p. refl)) (posted Dual (λ p. refl))

  -- a dual that is taken keeps roles and owners
  pub dual_inv : (ms : List Message) → v.inbox ≡ Dual ∷ ms → v.me.mode ≡ DInit → Inv (turns DDual (rest v ms))
  dual_inv ms f init =
      links_inv (Destination (dual_came (taker_of v i.roles (ap is_taker init)) f)) (bare_never _ DDual refl refl) refl
      (taken Dual ms f (λ p. refl)) (λ p. refl)

  -- a stale pull keeps the roles
  pulled_roles : (p : ℕ) (ms : List Message) → v.inbox ≡ Pull p ∷ ms → Roles v → Roles (rest v ms)
  pulled_roles p ms f (Source ph) = Source (pull_came ph f)
  pulled_roles p ms f (Destination ph) = absurd (no_pull ph f)

  -- a stale pull keeps roles and owners
  pub pulled_inv : (p : ℕ) (ms : List Message) → v.inbox ≡ Pull p ∷ ms → Inv (rest v ms)
  pulled_inv p ms f = links_inv (pulled_roles p ms f i.roles) i.mine refl (taken (Pull p) ms f (λ q. refl)) (λ q. refl)

  -- the end of dual mode at the source keeps roles and owners
  pub finishes_inv : v.me.mode ≡ SDual → Inv (post Finish (turns SFinish v))
  finishes_inv dual =
      links_inv (Source (finished (source_of v i.roles (ap is_source dual)) dual)) (bare_never _ SFinish refl refl) refl
      (λ p. refl) (posted Finish (λ p. refl))

  -- a finish that is taken keeps roles and owners
  pub finish_inv : (ms : List Message) → v.inbox ≡ Finish ∷ ms → v.me.mode ≡ DDual → Inv (turns DFinish (rest v ms))
  finish_inv ms f dual =
      links_inv (Destination (finish_came (taker_of v i.roles (ap is_taker dual)) dual f)) (bare_never _ DFinish refl refl) refl
      (taken Finish ms f (λ p. refl)) (λ p. refl)

  -- a destination that has all pages turns Normal and says so
  pub all_inv : v.me.mode ≡ DFinish → all_here v.me ≡ true → Inv (post Done (turns Normal v))
  all_inv finish here =
      let at = in_finish (taker_of v i.roles (ap is_taker finish)) finish in
      let all = there_of v.me here in
      let more : Begins v.them.lows v.me.lows = record { more = []; is = at.lows ∙ sym (append-nil v.them.lows) } in
      let none = nothing_sent v v.inbox refl at.out i.owned all (ap length at.lows) in
      let lows : Arrived v.them.lows (turns Normal v).me = record { begins = more; there = record { each = all.each } } in
      let done = Is Done_sent (record { source = at.source; destination = refl; lows = lows; out = none; back = done_post v.outbox at.back }) in
      links_inv (Destination done) (bare_never _ Normal refl refl) refl (λ p. refl) (posted Done (λ p. refl))

  -- without the source's wireframe the width is the same
  pub done_wide : (ms : List Message) → v.inbox ≡ Done ∷ ms → v.me.mode ≡ SFinish → max 0 (length v.them.lows) ≡ width v
  done_wide ms f finish =
      let at = done_came (source_of v i.roles (ap is_source finish)) f in
      let long = begins_length v.me.lows v.them.lows at.lows.begins in
      omega (arith, long)

  -- the source learns it: it has no page left, and the roles turn round
  pub done_inv : (ms : List Message) → v.inbox ≡ Done ∷ ms → v.me.mode ≡ SFinish → Inv (turns Empty (with_me (with_lows [] v.me) (rest v ms)))
  done_inv ms f finish =
      let at = done_came (source_of v i.roles (ap is_source finish)) f in
      let long = begins_length v.me.lows v.them.lows at.lows.begins in
      let left = none_there v.me.pages (λ p.
      let one = i.owned.once p in
      elim (cases_lt p (length v.them.lows)) [
        | inl below ↦ let there = at.lows.there.each p below in grind (arith, nat_tests, one, there)
        | inr above ↦ grind (arith, nat_tests, one, long)
      ]) in
      let rests = Is Resting (record { source = at.destination; destination = refl; lows = refl; out = at.back; back = at.out }) in
      links_inv (Destination rests) (record { none = λ _. left }) (done_wide ms f finish) (taken Done ms f (λ p. refl)) (λ p. refl)
