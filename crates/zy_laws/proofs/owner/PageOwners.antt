-- A page that is cut, leaves or arrives keeps roles and owners.
use Rattle.std.proofs.Common.{List, [], ap, arith, inl, inr, length, length-append, refl, true, ℕ, ◌+◌, ◌∙◌, ◌∷◌, ◌≡◌, ◌<◌, ◌≤◌}
use Rattle.std.specs.Prelude.{if◌then◌else◌, ◌==◌}
use Rattle.std.proofs.lemmas.Bool.{cases_eq}
use Rattle.std.proofs.lemmas.Bool.Decides.{nat_tests}
use Rattle.zy_model.specs.Families.{is_sending}
use Rattle.zy_model.specs.Messages.{Page}
use Rattle.zy_model.specs.declared.mode.NodeMode.TheVariants.{Normal}
use Rattle.zy_model.specs.Table.{may_pull, may_split}
use Rattle.zy_table.specs.Change.{cut, leaves}
use Rattle.zy_laws.specs.OneOwner.{times}
use Rattle.zy_table.specs.Pages.{leaf_at, lowered, owns, without}
use Rattle.zy_table.specs.State.{Leaf, Message, View}
use Rattle.zy_laws.proofs.walk.Conditions.{arrived, rest}
use Rattle.zy_laws.proofs.walk.ModeLines.{pulls_bare, pulls_taker, sends_source, splits_in_normal}
use Rattle.zy_laws.proofs.owner.MovingPages.{leaf_at-number}
use Rattle.zy_laws.proofs.owner.PageCounts.{owns-times, times-lowered, times-with_page, times-without, times_sent, times_sent-post}
use Rattle.zy_laws.proofs.owner.Phases.{AllThere}
use Rattle.zy_laws.proofs.owner.PhaseSteps.{cut_source, cut_taker, page_came, page_left, sending_lows, source_of, taker_of}
use Rattle.zy_laws.proofs.owner.Roles.{Destination, Inv, Owned, Roles, Source, normal_other}
use Rattle.zy_laws.proofs.owner.SameOwners.{bare_never, owned_same}

-- t cuts page p at b
module _ (t p b : ℕ) (v : View) where
  -- a split adds the new page, and no other
  cut_count : (q : ℕ) → times q (cut t p b v).me.pages ≡ (if length v.me.lows == q then 1 else 0) + times q v.me.pages
  unfolding cut
  cut_count q = times-with_page q _ (lowered p b v.me.pages) ∙ ap (λ n. (if length v.me.lows == q then 1 else 0) + n) (times-lowered p b q v.me.pages)

  -- a split adds one low key
  cut_lows : length (cut t p b v).me.lows ≡ length v.me.lows + 1
  unfolding cut
  cut_lows = length-append v.me.lows (b ∷ [])

  -- after a split every page is still there
  cut_there : AllThere v.me → AllThere (cut t p b v).me
  cut_there all = record {
    each = λ q h.
        let long = cut_lows in
        let n = cut_count q in
        elim (cases_eq (length v.me.lows) q) [
          | inl here ↦ grind (arith, nat_tests, n)
          | inr other ↦ let below : q < length v.me.lows = omega arith in let one = all.each q below in omega (arith, n, one)
        ];
  }

  -- a split keeps the roles
  cut_roles : v.me.mode ≡ Normal → Roles v → Roles (cut t p b v)
  unfolding cut
  cut_roles normal (Source ph) = Source (cut_source (cut t p b v).me ph normal refl)
  cut_roles normal (Destination ph) = Destination (cut_taker (cut t p b v).me ph normal refl (record { more = b ∷ []; is = refl }) cut_there)

  -- a split keeps roles and owners
  pub cut_inv : may_split v.me.mode ≡ true → Inv v → Inv (cut t p b v)
  unfolding cut
  cut_inv splits i =
      let normal = splits_in_normal v.me.mode splits in
      let wide = (normal_other v i.roles splits).1 in
      record {
        roles = cut_roles normal i.roles;
        owned = record {
          once = λ q. let long = cut_lows in let n = cut_count q in let k = i.owned.once q in grind (arith, nat_tests, long, n, k, wide);
        };
        mine = bare_never _ Normal normal refl;
        theirs = i.theirs;
      }

-- a page that leaves is counted in its message
left_counts : (v : View) (p q : ℕ) → owns v.me.pages p ≡ true → Owned v → times q (without p v.me.pages) + (if p == q then 1 else 0) ≡ times q v.me.pages
left_counts v p q own o =
    let one = owns-times p v.me.pages own in
    let k = o.once p in
    let most : times p v.me.pages ≤ 1 = grind (arith, nat_tests, k) in
    let e = times-without q p v.me.pages in
    elim (cases_eq p q) [
      | inl same ↦ let only : times q v.me.pages ≡ 1 = rw (← same) (omega arith) in grind (arith, nat_tests, e)
      | inr other ↦ grind (arith, nat_tests, e)
    ]

-- a page that is here is not at a destination that has all pages
pub not_both : (v : View) (p : ℕ) → Owned v → owns v.me.pages p ≡ true → length v.me.lows ≤ length v.them.lows → AllThere v.them → ⊥
not_both v p o own le all =
    let one = owns-times p v.me.pages own in
    let k = o.once p in
    let below : p < length v.them.lows = grind (arith, nat_tests, k) in
    let two = all.each p below in
    grind (arith, nat_tests, k)

-- a page that leaves keeps roles and owners
pub leaves_inv : (p : ℕ) (v : View) → Inv v → is_sending v.me.mode ≡ true → owns v.me.pages p ≡ true → Inv (leaves p v)
unfolding leaves
leaves_inv p v i s own =
    let leaf = leaf_at v.me.pages p in
    let ph = source_of v i.roles (sends_source v.me.mode s) in
    let lacks = not_both v p i.owned own (sending_lows ph s) in
    record {
      roles = Source (page_left leaf (without p v.me.pages) ph s lacks);
      owned = owned_same v _ (λ q.
          let number = ap {B = ℕ} (λ n. if n == q then 1 else 0) (leaf_at-number v.me.pages p) in
          omega (arith, left_counts v p q own i.owned, times_sent-post q v.outbox (Page leaf), number)) refl i.owned;
      mine = record { none = λ h. ap (without p) (i.mine.none h) };
      theirs = i.theirs;
    }

-- a page that arrives keeps roles and owners
pub arrived_inv : (v : View) (leaf : Leaf) (ms : List Message) → Inv v → v.inbox ≡ Page leaf ∷ ms → may_pull v.me.mode ≡ true → Inv (arrived leaf (rest v ms))
arrived_inv v leaf ms i f s =
    let w = arrived leaf (rest v ms) in
    record {
      roles = Destination (page_came leaf ms w.me.pages w.me.asked (taker_of v i.roles (pulls_taker v.me.mode s)) s f);
      owned = owned_same v w (λ q. omega (arith, ap (times_sent q) f, times-with_page q leaf v.me.pages)) refl i.owned;
      mine = bare_never w.me v.me.mode refl (pulls_bare v.me.mode s);
      theirs = i.theirs;
    }
