-- Each page that a node asked for is on its way to it.
use Rattle.std.proofs.Common.{◌≡◌, ℕ, ◌+◌, ◌≤◌, ◌<◌, List, [], ◌∷◌, ◌++◌, length, true, false, refl, sym, ap, ◌∙◌, subst, inl, inr, arith}
use Rattle.std.specs.Prelude.{◌⊎◌, ◌==◌, if◌then◌else◌}
use Rattle.std.proofs.lemmas.Bool.{cases_eq, cond_both, eq-eqb, eqb-true, false≢true, or_cases, or_left, or_right}
use Rattle.std.proofs.lemmas.Bool.Decides.{nat_tests}
use Rattle.zy_isa.specs.Scenario.{IsScenario, Scenario}
use Rattle.zy_isa.specs.declared.choice.Choice.{Choice}
use Rattle.zy_isa.specs.declared.node.Node.{Node}
use Rattle.zy_isa.specs.declared.node.Node.TheVariants.{A, B}
use Rattle.zy_model.proofs.PageOf.{page_of-within}
use Rattle.zy_model.specs.Families.{is_source}
use Rattle.zy_model.specs.Messages.{Wire, Ready, Dual, Pull, Page, Finish, Done}
use Rattle.zy_model.specs.Table.{may_pull}
use Rattle.zy_model.specs.Wireframe.{page_of}
use Rattle.zy_table.proofs.PageLists.{owns-lowered, owns-with_page}
use Rattle.zy_table.proofs.RangeLists.{has-put_new, has-put_old}
use Rattle.zy_table.proofs.RangeWalk.{has-put}
use Rattle.zy_table.proofs.RisingNumbers.{has-dropped}
use Rattle.zy_table.specs.Change.{aborted, asks, begun, committed, cut, did, leaves, locked, shares, txn_at, with_arrived}
use Rattle.zy_table.specs.Database.{sent_leaves}
use Rattle.zy_table.specs.Keys.{put_key}
use Rattle.zy_table.specs.Numbers.{drop_number, has}
use Rattle.zy_table.specs.Pages.{leaf_at, owns}
use Rattle.zy_table.specs.Play.{move, opening, play, side_of, step}
use Rattle.zy_table.specs.State.{Leaf, Message, NodeState, State, View, facing, seen_from}
use Rattle.zy_table.specs.declared.outcome.Outcome.{Outcome}
use Rattle.zy_laws.specs.OneOwner.{times}
use Rattle.zy_laws.proofs.locks.Locking.{Kept}
use Rattle.zy_laws.proofs.locks.Reached.{kept_from}
use Rattle.zy_laws.proofs.owner.MovingPages.{leaf_at-number, owns-sent_post, sent_bare}
use Rattle.zy_laws.proofs.owner.PageCounts.{owns_from, times-sent_leaves, times_sent}
use Rattle.zy_laws.proofs.owner.Phases.{Phase, Is, AllPages, AllPulls, DualThen, PagesAndFinish, Resting, Wire_sent, Ready_sent, Dual_sent, Both_sent}
use Rattle.zy_laws.proofs.owner.Phases.{In_dual, Finish_sent, In_finish, Done_sent}
use Rattle.zy_laws.proofs.owner.PhaseSteps.{source_of, taker_of}
use Rattle.zy_laws.proofs.owner.Roles.{Inv, turned, turned_inv}
use Rattle.zy_laws.proofs.places.Installing.{owns-installed}
use Rattle.zy_laws.proofs.travel.Between.{Known, arrived_away, none_asked, opening_known, pulls_busy, sends_none, step_known}
use Rattle.zy_laws.proofs.walk.Events.{Told, Asks, Commits, Event, Finishes, Gives, GotAll, GotDone, GotDual, GotFinish, GotLast, GotPage}
use Rattle.zy_laws.proofs.walk.Events.{GotReady, GotWire, IsStale, Pushes, Splits, Starts, step_happens}
use Rattle.zy_laws.proofs.walk.Kinds.{in_place_of}
use Rattle.zy_laws.proofs.walk.ModeLines.{pulls_taker, sends_source, splits_in_normal}
use Rattle.zy_laws.proofs.walk.PlayPush.{play-keeps-with}
use Rattle.zy_laws.proofs.way_out.NoDeadEnd.{not_counted}
use Rattle.zy_outcomes.proofs.Steps.{Stale, step_told}
use Rattle.zy_outcomes.specs.Coming.{OnItsWay, pull_in, pulls}

-- ---- pulls on links, and numbers that were put or dropped

-- a message at the end of a link is counted
pulls_post : (p : ℕ) (ms : List Message) (m : Message) → pulls p (ms ++ m ∷ []) ≡ pulls p ms + pull_in p m
pulls_post p [] m = omega arith
pulls_post p (x ∷ xs) m = omega (arith, pulls_post p xs m)

-- a message that is no pull is not counted
pulls_bare : (ms : List Message) (m : Message) → ((p : ℕ) → pull_in p m ≡ 0) → (p : ℕ) → pulls p (ms ++ m ∷ []) ≡ pulls p ms
pulls_bare ms m none p = let a = pulls_post p ms m in let b = none p in omega (arith, a, b)

-- links without a pull
no_pull_pages : (p : ℕ) (ms : List Message) → AllPages ms → pulls p ms ≡ 0
no_pull_pages p [] h = refl
no_pull_pages p (Page leaf ∷ ms) h = let k = no_pull_pages p ms h in omega (arith, k)
no_pull_pages p ms h = absurd h

-- with a finish among the pages
no_pull_finish : (p : ℕ) (ms : List Message) → PagesAndFinish ms → pulls p ms ≡ 0
no_pull_finish p (Page leaf ∷ ms) h = let k = no_pull_finish p ms h in omega (arith, k)
no_pull_finish p (Finish ∷ ms) h = let k = no_pull_pages p ms h in omega (arith, k)
no_pull_finish p ms h = absurd h

-- with a dual before
no_pull_dual : (P : List Message → Type 0) (p : ℕ) → ((ms : List Message) → P ms → pulls p ms ≡ 0) → (ms : List Message) → DualThen P ms
    → pulls p ms ≡ 0
no_pull_dual P p none (Dual ∷ ms) h = let k = none ms h in omega (arith, k)
no_pull_dual P p none ms h = absurd h

-- no pull is on its way from the source
no_pulls_out : {src dst : NodeState} {out back : List Message} (p : ℕ) → Phase src dst out back → pulls p out ≡ 0
no_pulls_out p (Is Resting at) = ap (pulls p) at.out
no_pulls_out p (Is Wire_sent at) = ap (pulls p) at.out
no_pulls_out p (Is Ready_sent at) = ap (pulls p) at.out
no_pulls_out p (Is Dual_sent at) = no_pull_dual AllPages p (no_pull_pages p) _ at.out
no_pulls_out p (Is Both_sent at) = no_pull_dual PagesAndFinish p (no_pull_finish p) _ at.out
no_pulls_out p (Is In_dual at) = no_pull_pages p _ at.out
no_pulls_out p (Is Finish_sent at) = no_pull_finish p _ at.out
no_pulls_out p (Is In_finish at) = no_pull_pages p _ at.out
no_pulls_out p (Is Done_sent at) = ap (pulls p) at.out

-- pulls bring no page
no_page_pulls : (p : ℕ) (ms : List Message) → AllPulls ms → times_sent p ms ≡ 0
no_page_pulls p [] h = refl
no_page_pulls p (Pull q ∷ ms) h = let k = no_page_pulls p ms h in omega (arith, k)
no_page_pulls p ms h = absurd h

-- no page is on its way to the source of a destination that asks
no_page_back : {src dst : NodeState} {out back : List Message} (p : ℕ) → Phase src dst out back → may_pull dst.mode ≡ true → times_sent p back ≡ 0
no_page_back p (Is In_dual at) s = no_page_pulls p _ at.back
no_page_back p (Is Finish_sent at) s = no_page_pulls p _ at.back
no_page_back p (Is In_finish at) s = no_page_pulls p _ at.back
no_page_back p (Is g at) s = cc at.destination

-- a number stays where another is dropped
pub has_kept : (k q : ℕ) (xs : List ℕ) → (k ≡ q → ⊥) → has xs q ≡ true → has (drop_number k xs) q ≡ true
has_kept k q [] far h = absurd (false≢true h)
has_kept k q (x ∷ xs) far h =
    cond_both (x == k) (drop_number k xs) (x ∷ drop_number k xs) (λ ys. has ys q ≡ true)
    (λ e. elim (or_cases (x == q) (has xs q) h) [
      | inl f ↦ absurd (far (sym (eqb-true _ _ e) ∙ eqb-true _ _ f))
      | inr f ↦ has_kept k q xs far f
    ])
    (λ _. elim (or_cases (x == q) (has xs q) h) [ inl f ↦ or_left _ _ f | inr f ↦ or_right _ _ (has_kept k q xs far f) ])

-- ---- one node

-- what a node asked for, by the links to it and from it
record Way (x : NodeState) (out inn : List Message) : Type 0 where
  asks : (p : ℕ) → has x.asked p ≡ true → may_pull x.mode ≡ true
  away : (p : ℕ) → has x.asked p ≡ true → (owns x.pages p ≡ false) × (p < length x.lows)
  coming : (p : ℕ) → has x.asked p ≡ true → (1 ≤ pulls p out) ⊎ (owns (sent_leaves inn) p ≡ true)
  once : (p : ℕ) → pulls p out ≤ 1
  pulled : (p : ℕ) → 1 ≤ pulls p out → (has x.asked p ≡ true) ⊎ (owns x.pages p ≡ true)

-- a node that asked for nothing
none_way : (x : NodeState) (out inn : List Message) → ((p : ℕ) → has x.asked p ≡ true → ⊥) → ((p : ℕ) → pulls p out ≤ 1)
    → ((p : ℕ) → 1 ≤ pulls p out → owns x.pages p ≡ true) → Way x out inn
none_way x out inn none once pulled = record {
  asks = λ p h. absurd (none p h);
  away = λ p h. absurd (none p h);
  coming = λ p h. absurd (none p h);
  once = once;
  pulled = λ p h. inr (pulled p h);
}

module _ {x : NodeState} {out inn : List Message} (a : Way x out inn) where
  -- a node in a mode that does not ask asked for nothing
  off_none : may_pull x.mode ≡ false → (p : ℕ) → has x.asked p ≡ true → ⊥
  off_none off p h = false≢true (sym off ∙ a.asks p h)

  -- and what was pulled has come
  off_pulled : may_pull x.mode ≡ false → (p : ℕ) → 1 ≤ pulls p out → owns x.pages p ≡ true
  off_pulled off p h = elim (a.pulled p h) [ inl asked ↦ absurd (off_none off p asked) | inr own ↦ own ]

  -- it still does not ask, and has its pages
  off_way : (y : NodeState) (more less : List Message) → may_pull x.mode ≡ false → y.asked ≡ x.asked
      → ((p : ℕ) → owns x.pages p ≡ true → owns y.pages p ≡ true) → ((p : ℕ) → pulls p more ≡ pulls p out) → Way y more less
  off_way y more less off same pages links =
      none_way y more less (λ p h. off_none off p (subst (λ xs. has xs p ≡ true) same h)) (λ p. let k = links p in let l = a.once p in omega (arith, k, l))
      (λ p h. let k = links p in pages p (off_pulled off p (omega (arith, k, h))))

  -- pages leave a node that does not ask, and none was pulled
  left_way : (y : NodeState) (more less : List Message) → may_pull x.mode ≡ false → y.asked ≡ x.asked → ((p : ℕ) → pulls p more ≡ 0) → Way y more less
  left_way y more less off same links =
      none_way y more less (λ p h. off_none off p (subst (λ xs. has xs p ≡ true) same h)) (λ p. let k = links p in omega (arith, k))
      (λ p h. let k = links p in absurd (omega (arith, k, h)))

  -- the node asks as before, and has the same pages
  same_way : (y : NodeState) (more less : List Message) → (may_pull x.mode ≡ true → may_pull y.mode ≡ true) → y.lows ≡ x.lows → y.asked ≡ x.asked
      → ((p : ℕ) → owns y.pages p ≡ owns x.pages p) → ((p : ℕ) → pulls p more ≡ pulls p out)
      → ((p : ℕ) → owns (sent_leaves inn) p ≡ true → owns (sent_leaves less) p ≡ true) → Way y more less
  same_way y more less mode lows same pages links come =
      let old : (p : ℕ) → has y.asked p ≡ true → has x.asked p ≡ true = λ p h. subst (λ xs. has xs p ≡ true) same h in
      record {
        asks = λ p h. mode (a.asks p (old p h));
        away = λ p h. let k = a.away p (old p h) in (pages p ∙ k.0, subst (λ xs. p < length xs) (sym lows) k.1);
        coming = λ p h. elim (a.coming p (old p h)) [
          | inl pull ↦ let k = links p in inl (omega (arith, k, pull))
          | inr page ↦ inr (come p page)
        ];
        once = λ p. let k = links p in let l = a.once p in omega (arith, k, l);
        pulled = λ p h. let k = links p in elim (a.pulled p (omega (arith, k, h))) [
          | inl asked ↦ inl (subst (λ xs. has xs p ≡ true) (sym same) asked)
          | inr own ↦ inr (pages p ∙ own)
        ];
      }

  -- the links alone change
  links_way : (more less : List Message) → ((p : ℕ) → pulls p more ≡ pulls p out)
      → ((p : ℕ) → owns (sent_leaves inn) p ≡ true → owns (sent_leaves less) p ≡ true) → Way x more less
  links_way more less links come = same_way x more less (λ h. h) refl refl (λ p. refl) links come

  -- page p, which is not here and is none that was asked for, is asked for
  asks_way : (p : ℕ) → may_pull x.mode ≡ true → owns x.pages p ≡ false → p < length x.lows → has x.asked p ≡ false
      → Way (record x { asked = put_key p x.asked }) (out ++ Pull p ∷ []) inn
  asks_way p mode gone within new =
      let post : (q : ℕ) → pulls q (out ++ Pull p ∷ []) ≡ pulls q out + (if p == q then 1 else 0) = λ q. pulls_post q out (Pull p) in
      record {
        asks = λ q h. mode;
        away = λ q h. elim (has-put p x.asked q h) [
          | inl same ↦ (subst (λ z. owns x.pages z ≡ false) same gone, subst (λ z. z < length x.lows) same within)
          | inr old ↦ a.away q old
        ];
        coming = λ q h. elim (has-put p x.asked q h) [
          | inl same ↦ let k = post q in inl (grind (arith, nat_tests, k, same))
          | inr old ↦ elim (a.coming q old) [
            | inl pull ↦ let k = post q in inl (grind (arith, nat_tests, k, pull))
            | inr page ↦ inr page
          ]
        ];
        once = λ q. let k = post q in elim (cases_eq p q) [
          | inl same ↦ elim (cases_eq (pulls q out) 0) [
            | inl none ↦ grind (arith, nat_tests, k, none)
            | inr some ↦ elim (a.pulled q (omega (arith, some))) [
              | inl asked ↦ absurd (false≢true (sym new ∙ subst (λ z. has x.asked z ≡ true) (sym same) asked))
              | inr own ↦ absurd (false≢true (sym gone ∙ subst (λ z. owns x.pages z ≡ true) (sym same) own))
            ]
          ]
          | inr far ↦ let l = a.once q in grind (arith, nat_tests, k, l, far)
        ];
        pulled = λ q h. elim (cases_eq p q) [
          | inl same ↦ inl (subst (λ z. has (put_key p x.asked) z ≡ true) same (has-put_new p x.asked))
          | inr far ↦ let k = post q in elim (a.pulled q (grind (arith, nat_tests, k, h, far))) [
            | inl asked ↦ inl (has-put_old p x.asked q asked)
            | inr own ↦ inr own
          ]
        ];
      }

  -- a page that was pulled, or is here, is asked for or here when a page has come
  arrived_pulled : (leaf : Leaf) (p : ℕ) → 1 ≤ pulls p out → (has (with_arrived leaf x).asked p ≡ true) ⊎ (owns (with_arrived leaf x).pages p ≡ true)
  arrived_pulled leaf p h =
      let pages = owns-with_page p leaf x.pages in
      elim (a.pulled p h) [
        | inl asked ↦ elim (cases_eq leaf.number p) [
          | inl same ↦ inr (pages ∙ or_left _ _ (eq-eqb _ _ same))
          | inr far ↦ inl (has_kept leaf.number p x.asked far asked)
        ]
        | inr own ↦ inr (pages ∙ or_right _ _ own)
      ]

  -- a page comes
  arrived_way : (leaf : Leaf) (ms : List Message) → inn ≡ Page leaf ∷ ms → Way (with_arrived leaf x) out ms
  arrived_way leaf ms f = record {
    asks = λ p h. a.asks p (has-dropped leaf.number p x.asked h).0;
    away = arrived_away leaf x a.away;
    coming = λ p h.
        let d = has-dropped leaf.number p x.asked h in
        elim (a.coming p d.0) [
          | inl pull ↦ inl pull
          | inr page ↦ elim (or_cases (leaf.number == p) (owns (sent_leaves ms) p) (subst (λ ls. owns (sent_leaves ls) p ≡ true) f page)) [
            | inl same ↦ absurd (false≢true (sym d.1 ∙ same))
            | inr later ↦ inr later
          ]
        ];
    once = a.once;
    pulled = arrived_pulled leaf;
  }

  -- a pull is taken of a page that is then on its way
  pull_way : (q : ℕ) (ms less : List Message) → out ≡ Pull q ∷ ms → (has x.asked q ≡ true → owns (sent_leaves less) q ≡ true)
      → ((p : ℕ) → owns (sent_leaves inn) p ≡ true → owns (sent_leaves less) p ≡ true) → Way x ms less
  pull_way q ms less f gone come =
      let links : (p : ℕ) → pulls p out ≡ (if q == p then 1 else 0) + pulls p ms = λ p. ap (pulls p) f in
      record {
        asks = a.asks;
        away = a.away;
        coming = λ p h. elim (a.coming p h) [
          | inl pull ↦ elim (cases_eq q p) [
            | inl same ↦ inr (subst (λ z. owns (sent_leaves less) z ≡ true) same (gone (subst (λ z. has x.asked z ≡ true) (sym same) h)))
            | inr far ↦ let k = links p in inl (grind (arith, nat_tests, k, pull, far))
          ]
          | inr page ↦ inr (come p page)
        ];
        once = λ p. let k = links p in let l = a.once p in omega (arith, k, l);
        pulled = λ p h. let k = links p in a.pulled p (omega (arith, k, h));
      }

-- ---- both nodes

-- what both nodes asked for
record Ways (v : View) : Type 0 where
  mine : Way v.me v.outbox v.inbox
  theirs : Way v.them v.inbox v.outbox

-- a page that is asked for there, and is not here, is on its way from here
page_sent : (v : View) (p : ℕ) → Inv v → Way v.them v.inbox v.outbox → has v.them.asked p ≡ true → owns v.me.pages p ≡ false
    → owns (sent_leaves v.outbox) p ≡ true
page_sent v p i a asked gone =
    let away = a.away p asked in
    let once = i.owned.once p in
    let back = no_page_back p (taker_of (turned v) (turned_inv v i).roles (pulls_taker v.them.mode (a.asks p asked))) (a.asks p asked) in
    let sent = times-sent_leaves p v.outbox in
    let mine : times p v.me.pages ≡ 0 = not_counted p v.me.pages gone in
    let theirs : times p v.them.pages ≡ 0 = not_counted p v.them.pages away.0 in
    let below = away.1 in
    owns_from p (sent_leaves v.outbox) (grind (arith, nat_tests, once, back, sent, mine, theirs, below))

-- a link of which a message is taken, and one to which a message is sent, that is no pull and no page
module _ (v : View) (x : Ways v) where
  -- the pulls that come, where another message is taken
  taken_pulls : (m : Message) (ms : List Message) → v.inbox ≡ m ∷ ms → ((p : ℕ) → pull_in p m ≡ 0) → (p : ℕ) → pulls p ms ≡ pulls p v.inbox
  taken_pulls m ms f none p = let a = ap (pulls p) f in let b = none p in omega (arith, a, b)

  -- pages on their way stay on it, where another message is sent
  sent_stays : (m : Message) → sent_leaves (m ∷ []) ≡ [] → (p : ℕ) → owns (sent_leaves v.outbox) p ≡ true → owns (sent_leaves (v.outbox ++ m ∷ [])) p ≡ true
  sent_stays m bare p h = subst (λ xs. owns xs p ≡ true) (sym (sent_bare v.outbox m bare)) h

  -- pages on their way stay on it, where a page is sent
  sent_more : (leaf : Leaf) (p : ℕ) → owns (sent_leaves v.outbox) p ≡ true → owns (sent_leaves (v.outbox ++ Page leaf ∷ [])) p ≡ true
  sent_more leaf p h = owns-sent_post p v.outbox leaf ∙ or_left _ _ h

  -- the page that is sent is on its way
  sent_page : (q p : ℕ) → q ≡ p → owns (sent_leaves (v.outbox ++ Page (leaf_at v.me.pages q) ∷ [])) p ≡ true
  sent_page q p same = owns-sent_post p v.outbox (leaf_at v.me.pages q) ∙ or_right _ _ (eq-eqb _ _ (leaf_at-number v.me.pages q ∙ same))

-- each event keeps it at the node that acts
my_event : (sc : Scenario) (n : Node) (o : Outcome) (v w : View) (lows : List ℕ) → Kept sc n v lows → Ways v → (e : Event sc n v w) → Told e o
    → Way w.me w.outbox w.inbox
unfolding did locked shares txn_at aborted begun committed cut asks leaves
my_event sc n o v w lows k x (Splits line e) told =
    rw e (off_way x.mine _ _ _ (ap may_pull (splits_in_normal v.me.mode line.normal)) refl
    (λ p h. owns-with_page p _ _ ∙ or_right _ _ (owns-lowered _ _ v.me.pages p ∙ h)) (λ p. refl))
my_event sc n o v w lows k x (Commits line e) told =
    rw e (same_way x.mine _ _ _ (λ h. h) refl refl (λ p. owns-installed v.me.lows (txn_at v line.txn).rows v.me.pages p) (λ p. refl) (λ p h. h))
my_event sc n o v w lows k x (Asks line e) told =
    let first : v.me.lows ≡ 0 ∷ k.first.0 = k.mine.newest (pulls_busy v.me.mode line.pulls) ∙ k.first.1 in
    let within : page_of v.me.lows told.0 < length v.me.lows = subst (λ l. page_of l told.0 < length l) (sym first)
    (page_of-within (0 ∷ k.first.0) told.0 (omega arith)) in
    let low : line.page < length v.me.lows = subst (λ z. z < length v.me.lows) (sym told.1) within in
    rw e (asks_way x.mine line.page line.pulls line.gone low line.unasked)
my_event sc n o v w lows k x (Starts line e) told =
    rw e (off_way x.mine _ _ _ (ap may_pull line.normal) refl (λ p h. h) (pulls_bare v.outbox (Wire v.me.lows) (λ p. refl)))
my_event sc n o v w lows k x (GotWire line e) told =
    rw e (off_way x.mine _ _ _ (ap may_pull line.empty) refl (λ p h. h) (pulls_bare v.outbox Ready (λ p. refl)))
my_event sc n o v w lows k x (GotReady line e) told =
    rw e (off_way x.mine _ _ _ (ap may_pull line.mode) refl (λ p h. h) (pulls_bare v.outbox Dual (λ p. refl)))
my_event sc n o v w lows k x (GotDual line e) told = rw e (off_way x.mine _ _ _ (ap may_pull line.mode) refl (λ p h. h) (λ p. refl))
my_event sc n o v w lows k x (IsStale line e) told =
    rw e (links_way x.mine _ _ (λ p. refl) (λ p h. subst (λ xs. owns (sent_leaves xs) p ≡ true) line.front h))
my_event sc n o v w lows k x (Gives line e) told =
    let ph = source_of v k.inv.roles (sends_source v.me.mode line.sends) in
    rw e (left_way x.mine _ _ _ (sends_none v.me.mode line.sends) refl
    (λ p. pulls_bare v.outbox (Page (leaf_at v.me.pages line.page)) (λ q. refl) p ∙ no_pulls_out p ph))
my_event sc n o v w lows k x (GotPage line e) told = rw e (arrived_way x.mine line.leaf line.after line.front)
my_event sc n o v w lows k x (GotLast line e) told =
    let y = with_arrived line.leaf v.me in
    let came = arrived_way x.mine line.leaf line.after line.front in
    let none = none_asked y came.away line.all in
    let post = pulls_bare v.outbox Done (λ p. refl) in
    rw e (none_way _ _ _ none (λ p. let a = post p in let b = came.once p in omega (arith, a, b))
    (λ p h. let a = post p in elim (came.pulled p (omega (arith, a, h))) [ inl asked ↦ absurd (none p asked) | inr own ↦ own ]))
my_event sc n o v w lows k x (GotFinish line e) told =
    rw e (same_way x.mine _ _ _ (λ h. refl) refl refl (λ p. refl) (λ p. refl) (λ p h. subst (λ xs. owns (sent_leaves xs) p ≡ true) line.front h))
my_event sc n o v w lows k x (GotAll line e) told =
    let none = none_asked v.me x.mine.away line.all in
    let post = pulls_bare v.outbox Done (λ p. refl) in
    rw e (none_way _ _ _ none (λ p. let a = post p in let b = x.mine.once p in omega (arith, a, b))
    (λ p h. let a = post p in elim (x.mine.pulled p (omega (arith, a, h))) [ inl asked ↦ absurd (none p asked) | inr own ↦ own ]))
my_event sc n o v w lows k x (GotDone line e) told = rw e (off_way x.mine _ _ _ (ap may_pull line.mode) refl (λ p h. h) (λ p. refl))
my_event sc n o v w lows k x (Finishes line e) told =
    rw e (off_way x.mine _ _ _ (ap may_pull line.dual) refl (λ p h. h) (pulls_bare v.outbox Finish (λ p. refl)))
my_event sc n o v w lows k x (Pushes line e) told =
    let ph = source_of v k.inv.roles (ap is_source line.finish) in
    rw e (left_way x.mine _ _ _ (ap may_pull line.finish) refl
    (λ p. pulls_bare v.outbox (Page (leaf_at v.me.pages line.page)) (λ q. refl) p ∙ no_pulls_out p ph))
my_event sc n o v w lows k x e told =
    let q = in_place_of e refl in
    same_way x.mine w.me w.outbox w.inbox (λ h. ap may_pull q.mode ∙ h) q.lows q.asked (λ p. ap (λ xs. owns xs p) q.pages)
    (λ p. ap (pulls p) q.outbox) (λ p h. subst (λ ms. owns (sent_leaves ms) p ≡ true) (sym q.inbox) h)

-- each event keeps it at the other node
their_event : (sc : Scenario) (n : Node) (v w : View) → Inv v → Ways v → Event sc n v w → Stale v w → Way w.them w.inbox w.outbox
unfolding did locked shares txn_at aborted begun committed cut asks leaves
their_event sc n v w i x (Splits line e) stale = rw e x.theirs
their_event sc n v w i x (Commits line e) stale = rw e x.theirs
their_event sc n v w i x (Asks line e) stale = rw e (links_way x.theirs _ _ (λ p. refl) (sent_stays v x (Pull line.page) refl))
their_event sc n v w i x (Starts line e) stale = rw e (links_way x.theirs _ _ (λ p. refl) (sent_stays v x (Wire v.me.lows) refl))
their_event sc n v w i x (GotWire line e) stale =
    rw e (links_way x.theirs _ _ (taken_pulls v x (Wire line.lows) line.after line.front (λ p. refl)) (sent_stays v x Ready refl))
their_event sc n v w i x (GotReady line e) stale =
    rw e (links_way x.theirs _ _ (taken_pulls v x Ready line.after line.front (λ p. refl)) (sent_stays v x Dual refl))
their_event sc n v w i x (GotDual line e) stale =
    rw e (links_way x.theirs _ _ (taken_pulls v x Dual line.after line.front (λ p. refl)) (λ p h. h))
their_event sc n v w i x (IsStale line e) stale =
    let gone = stale line.page line.after line.front (ap (λ (y : View). y.inbox) e) (ap (λ (y : View). y.me) e) in
    rw e (pull_way x.theirs line.page line.after v.outbox line.front (λ asked. page_sent v line.page i x.theirs asked gone) (λ p h. h))
their_event sc n v w i x (Gives line e) stale =
    rw e (pull_way x.theirs line.page line.after _ line.front (λ asked. sent_page v x line.page line.page refl) (sent_more v x (leaf_at v.me.pages line.page)))
their_event sc n v w i x (GotPage line e) stale =
    rw e (links_way x.theirs _ _ (taken_pulls v x (Page line.leaf) line.after line.front (λ p. refl)) (λ p h. h))
their_event sc n v w i x (GotLast line e) stale =
    rw e (links_way x.theirs _ _ (taken_pulls v x (Page line.leaf) line.after line.front (λ p. refl)) (sent_stays v x Done refl))
their_event sc n v w i x (GotFinish line e) stale =
    rw e (links_way x.theirs _ _ (taken_pulls v x Finish line.after line.front (λ p. refl)) (λ p h. h))
their_event sc n v w i x (GotAll line e) stale =
    rw e (links_way x.theirs _ _ (taken_pulls v x Finish line.after line.front (λ p. refl)) (sent_stays v x Done refl))
their_event sc n v w i x (GotDone line e) stale =
    rw e (links_way x.theirs _ _ (taken_pulls v x Done line.after line.front (λ p. refl)) (λ p h. h))
their_event sc n v w i x (Finishes line e) stale = rw e (links_way x.theirs _ _ (λ p. refl) (sent_stays v x Finish refl))
their_event sc n v w i x (Pushes line e) stale = rw e (links_way x.theirs _ _ (λ p. refl) (sent_more v x (leaf_at v.me.pages line.page)))
their_event sc n v w i x e stale =
    let q = in_place_of e refl in
    subst (λ y. Way y w.inbox w.outbox) (sym q.them) (links_way x.theirs w.inbox w.outbox (λ p. ap (pulls p) q.inbox)
    (λ p h. subst (λ ms. owns (sent_leaves ms) p ≡ true) (sym q.outbox) h))

-- ---- the whole

-- the ways from one side are those from the other
turned_ways : (v : View) → Ways v → Ways (turned v)
turned_ways v x = record { mine = x.theirs; theirs = x.mine }

-- from A to a node
ways_from : (n : Node) (s : State) → Ways (facing A s) → Ways (facing n s)
ways_from A s x = x
ways_from B s x = turned_ways (facing A s) x

-- from a node to A
ways_to : (n : Node) (w : View) → Ways w → Ways (facing A (seen_from n w))
ways_to A w x = x
ways_to B w x = turned_ways w x

-- a step keeps it
step_ways : (sc : Scenario) (c : Choice) (s : State) → Known sc s → Ways (facing A s) → Ways (facing A (step sc c s).after)
unfolding step
step_ways sc c s known x =
    let n = side_of sc c s in
    let v = facing n s in
    let m = move sc c v in
    let h = step_happens sc c s in
    let k = kept_from sc n s known.reached.lows known.reached.kept in
    let ways = ways_from n s x in
    ways_to n m.after (record {
      mine = my_event sc n m.outcome v m.after known.reached.lows k ways h.event h.told;
      theirs = their_event sc n v m.after k.inv ways h.event (step_told sc c s).stale;
    })

-- it holds at the opening
opening_ways : (sc : Scenario) → Ways (facing A (opening sc))
unfolding opening
opening_ways sc = record {
  mine = none_way _ _ _ (λ p h. false≢true h) (λ p. omega arith) (λ p h. absurd (omega (arith, h)));
  theirs = none_way _ _ _ (λ p h. false≢true h) (λ p. omega arith) (λ p h. absurd (omega (arith, h)));
}

-- it holds after every schedule
play_ways : (sc : Scenario) → IsScenario sc → (cs : List Choice) → Ways (facing A (play sc (opening sc) cs))
play_ways sc ok cs =
    play-keeps-with sc (Known sc) (λ s. Ways (facing A s)) (step_known sc ok) (step_ways sc) cs (opening sc) (opening_known sc ok) (opening_ways sc)

-- the law: each page that is asked for is on its way
pub on_its_way : (sc : Scenario) → IsScenario sc → (cs : List Choice) (n : Node) → OnItsWay (facing n (play sc (opening sc) cs))
on_its_way sc ok cs n =
    let s = play sc (opening sc) cs in
    let a = (ways_from n s (play_ways sc ok cs)).mine in
    record {
      asked = λ p h. record {
        asks = a.asks p h;
        known = (a.away p h).1;
        lacks = (a.away p h).0;
        coming = elim (a.coming p h) [ inl pull ↦ let k = a.once p in inl (omega (arith, k, pull)) | inr page ↦ inr page ];
      };
      once = a.once;
      pulled = λ p h. a.pulled p (omega (arith, h));
    }
