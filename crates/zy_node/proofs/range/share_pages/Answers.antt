use Rattle.std.proofs.Common.{refl, sym, ap, ◌∙◌, ◌∷◌, ◌≡◌}
use Rattle.std.specs.Prelude.{map}
use Rattle.zy_model.specs.Wireframe.{page_of}
use Rattle.zy_model.specs.declared.lock.LockKind.TheVariants.{Shared}
use Rattle.zy_table.specs.Change.{share_all}
use Rattle.zy_table.proofs.SharedLocks.{free_others}
use Rattle.zy_node.specs.Wireframes.{lows_in}
use Rattle.zy_node.proofs.LockPlaces.{places_rest}
use Rattle.zy_node.proofs.RangeSteps.{behind}
use Rattle.zy_node.proofs.range.share_pages.Goals as goal

pub loop-next-init : goal.loop-next-init
loop-next-init c =
    let lows = lows_in c.args.wire.now in
    record {
      locks = rw (c.lock.ensures.locks, c.page_of.ensures.value) refl;
      free =
          rw (c.lock.ensures.locks, c.page_of.ensures.value) (free_others (page_of lows c.args.first) c.args.t c.args.locks.now.locks
          (behind lows c.args.first c.args.last) c.requires.free);
      room = places_rest (page_of lows c.args.first) (behind lows c.args.first c.args.last) c.args.t Shared c.args.locks.now c.lock.new.self c.requires.room
          (rw (c.lock.ensures.locks, c.page_of.ensures.value) refl) (rw c.page_of.ensures.value at c.lock.ensures.room);
    }

pub loop-next-preserved : goal.loop-next-preserved
loop-next-preserved c =
    let lows = lows_in c.args.wire.now in
    let e = c.in-Some.next in
    let rest = behind lows e.low c.args.last in
    let step : behind lows c.loop-next.low c.args.last ≡ e.page ∷ rest = ap (map (page_of lows)) c.in-Some.ensures.next.0
    ∙ ap (λ p. p ∷ rest) c.in-Some.ensures.next.1 in
    let free = rw step at c.loop-next.invariant.free in
    let room = rw step at c.loop-next.invariant.room in
    record {
      locks = rw c.lock-in-Some.ensures.locks (sym (ap (λ ps. share_all ps c.args.t c.loop-next.locks.locks) step) ∙ c.loop-next.invariant.locks);
      free = rw c.lock-in-Some.ensures.locks (free_others e.page c.args.t c.loop-next.locks.locks rest free);
      room = places_rest e.page rest c.args.t Shared c.loop-next.locks c.lock-in-Some.new.self room c.lock-in-Some.ensures.locks c.lock-in-Some.ensures.room;
    }
