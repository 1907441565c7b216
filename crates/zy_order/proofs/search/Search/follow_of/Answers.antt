-- The next line may be followed alone, and leads on.
use Rattle.std.proofs.Common.{◌≡◌, None, subst, sym}
use Rattle.zy_isa.specs.declared.node.Actor.{Actor}
use Rattle.zy_order.specs.declared.cursors.Cursors.{Cursors}
use Rattle.zy_order.specs.declared.line.Met.{Met}
use Rattle.zy_order.specs.declared.line.Met.TheVariants as met
use Rattle.zy_order.specs.declared.tellers.Tellers.TheVariants.{One}
use Rattle.zy_order.specs.Ways.{ComesAlone}
use Rattle.zy_order.specs.Reaches.{cursors_at, Adds, FollowsAlone, IsMetBy, MayBeAlone}
use Rattle.zy_order.proofs.LoopLemmas.{if_ok, alone_leads, no_twin_alone}
use Rattle.zy_order.proofs.search.Search.follow_of.Goals as goal

pub meet_in_place-requires-clause-next : goal.meet_in_place-requires-clause-next
meet_in_place-requires-clause-next c =
    let p = c.args.plan.now in
    let n = c.args.node in
    let line = c.in-Some.line in
    let g = cursors_at c.args.self.now.reached c.args.at in
    let v = p.start.scenario.version in
    let may = subst (λ (g : Cursors). MayBeAlone n p.logs g line) c.cursors_at.ensures c.in-Some.ensures in
    subst (λ (x : Actor). ComesAlone v x p.logs g line) (sym c.of.ensures) (record { next = may.next; alone = no_twin_alone v n p.logs g line may })

pub returns-clause-alone : goal.returns-clause-alone
returns-clause-alone c =
    let p = c.args.plan.now in
    let h = p.start in
    let l = p.logs in
    let old = c.args.self.now in
    let new = c.meet_in_place.new.self in
    let at = c.args.at in
    let n = c.args.node in
    let line = c.in-Some.line in
    let may = subst (λ (g : Cursors). MayBeAlone n l g line) c.cursors_at.ensures c.in-Some.ensures in
    if_ok (Adds p old new) (IsMetBy h new.reached at (record { by = One c.of.result; line = line; other = None }))
    (λ (m : Met). m ≡ met.Known → FollowsAlone h l new.reached at) c.meet_in_place.result
    (λ m adds came known. alone_leads h l old.reached new.reached at n line m adds.extends c.requires.at.there may
    (subst (λ (x : Actor). IsMetBy h new.reached at (record { by = One x; line = line; other = None }) m) c.of.ensures came) known)
    c.meet_in_place.ensures.adds c.meet_in_place.ensures.met
