-- Which node has which role, and where each page is.
use Rattle.std.proofs.Common.{[], ◌∷◌, List, ap, arith, false, length, refl, true, ℕ, ◌+◌, ◌<◌, ◌≤◌, ◌≡◌}
use Rattle.std.specs.Prelude.{if◌then◌else◌, max, nat_lt, ◌==◌}
use Rattle.std.proofs.lemmas.Bool.Decides.{nat_tests}
use Rattle.zy_model.specs.Families.{is_home, is_bare, is_idle}
use Rattle.zy_model.specs.Table.{may_split}
use Rattle.zy_model.specs.Messages.{Page, Ready, Wire}
use Rattle.zy_laws.specs.OneOwner.{times}
use Rattle.zy_table.specs.Pages.{owns}
use Rattle.zy_table.specs.State.{Leaf, Message, NodeState, View}
use Rattle.zy_laws.proofs.owner.PageCounts.{owns_from, owns_none, times_sent}
use Rattle.zy_laws.proofs.owner.Phases.{Phase, Is, Resting, Wire_sent, Ready_sent, Done_sent, begins_length}

-- which of the two is the source
pub data Roles (v : View) : Type 0 where
  Source : Phase v.me v.them v.outbox v.inbox → Roles v
  Destination : Phase v.them v.me v.inbox v.outbox → Roles v

-- how often page p is at a node or on its way
abbrev pub places : ℕ → View → ℕ
places p v = (times p v.me.pages + times p v.them.pages) + (times_sent p v.inbox + times_sent p v.outbox)

-- the number of pages: the greater of the two numbers of low keys
abbrev pub width : View → ℕ
width v = max (length v.me.lows) (length v.them.lows)

-- each page below the width is in one place, and no other is anywhere
pub record Owned (v : View) : Type 0 where
  pub once : (p : ℕ) → places p v ≡ (if nat_lt p (width v) then 1 else 0)

-- a node in a bare mode has no page
pub record Bare (x : NodeState) : Type 0 where
  pub none : is_bare x.mode ≡ true → x.pages ≡ []

-- what every step keeps: the roles, the owners, and that a bare node has no page
pub record Inv (v : View) : Type 0 where
  pub roles : Roles v
  pub owned : Owned v
  pub mine : Bare v.me
  pub theirs : Bare v.them

-- the view from the other side
abbrev pub turned : View → View
turned v = record { me = v.them; them = v.me; inbox = v.outbox; outbox = v.inbox; txns = v.txns; commits = v.commits }

-- roles from one side are roles from the other
pub turned_roles : (v : View) → Roles v → Roles (turned v)
turned_roles v (Source ph) = Destination ph
turned_roles v (Destination ph) = Source ph

-- roles and owners from one side are those from the other
pub turned_inv : (v : View) → Inv v → Inv (turned v)
turned_inv v i = record {
  roles = turned_roles v i.roles;
  owned = record { once = λ p. let k = i.owned.once p in grind (arith, nat_tests, k) };
  mine = i.theirs;
  theirs = i.mine;
}

-- where the other node and both links are without pages, all pages are mine
sole : (v : View) (inbox outbox : List Message) → Owned v → v.them.pages ≡ [] → v.inbox ≡ inbox → v.outbox ≡ outbox
    → ((p : ℕ) → times_sent p inbox + times_sent p outbox ≡ 0) → (p : ℕ) → p < length v.me.lows → owns v.me.pages p ≡ true
sole v inbox outbox o none a b sent p h =
    let k = o.once p in
    let x : times p v.them.pages ≡ 0 = ap (times p) none in
    let y : times_sent p v.inbox ≡ times_sent p inbox = ap (times_sent p) a in
    let z : times_sent p v.outbox ≡ times_sent p outbox = ap (times_sent p) b in
    let s = sent p in
    owns_from p v.me.pages (grind (arith, nat_tests, k, x, y, z, s))

-- a node in a home mode has all pages
pub all_owned : (v : View) → Inv v → is_home v.me.mode ≡ true → Roles v → (p : ℕ) → p < length v.me.lows → owns v.me.pages p ≡ true
all_owned v i s (Source (Is Resting at)) = sole v [] [] i.owned (i.theirs.none (ap is_bare at.destination)) at.back at.out (λ p. refl)
all_owned v i s (Source (Is Wire_sent at)) = sole v [] (Wire v.me.lows ∷ []) i.owned (i.theirs.none (ap is_bare at.destination)) at.back at.out (λ p. refl)
all_owned v i s (Source (Is Ready_sent at)) = sole v (Ready ∷ []) [] i.owned (i.theirs.none (ap is_bare at.destination)) at.back at.out (λ p. refl)
all_owned v i s (Source (Is g at)) = cc at.source
all_owned v i s (Destination (Is Done_sent at)) = λ p h. owns_from p v.me.pages (at.lows.there.each p h)
all_owned v i s (Destination (Is g at)) = cc at.destination

-- where my mode is Normal, nothing runs at the other node, and its wireframe is at most as long as mine
pub normal_other : (v : View) → Roles v → may_split v.me.mode ≡ true → (is_idle v.them.mode ≡ true) × (length v.them.lows ≤ length v.me.lows)
normal_other v (Source (Is Resting at)) h = (ap is_idle at.destination, omega (arith, ap length at.lows))
normal_other v (Source (Is g at)) h = cc at.source
normal_other v (Destination (Is Done_sent at)) h = (ap is_idle at.source, begins_length v.them.lows v.me.lows at.lows.begins)
normal_other v (Destination (Is g at)) h = cc at.destination

-- a number from the width on is no page's
pub fresh_number : (v : View) → Owned v → length v.them.lows ≤ length v.me.lows → owns v.me.pages (length v.me.lows) ≡ false
fresh_number v o wide = owns_none (length v.me.lows) v.me.pages (let k = o.once (length v.me.lows) in grind (arith, nat_tests, k))

-- a page in front of the inbox is not here
pub not_here : (v : View) (leaf : Leaf) (ms : List Message) → Owned v → v.inbox ≡ Page leaf ∷ ms → owns v.me.pages leaf.number ≡ false
not_here v leaf ms o f =
    let once = o.once leaf.number in
    let sent : times_sent leaf.number v.inbox ≡ (if leaf.number == leaf.number then 1 else 0) + times_sent leaf.number ms = ap (times_sent leaf.number) f in
    owns_none leaf.number v.me.pages (grind (arith, nat_tests, once, sent))
