-- The first place that has the page.
use Rattle.std.specs.Arc.{arc_value}
use Rattle.std.proofs.Common.{refl}
use Rattle.zy_machine.specs.Histories.{choices_of}
use Rattle.zy_machine.specs.EntryLogs.{entries_of}
use Rattle.zy_machine.specs.NodePairs.{state_of}
use Rattle.zy_machine.proofs.PlaceLemmas.{page_in-reached, place_by}
use Rattle.zy_machine.proofs.machine.Machine.located.Goals as goal

pub returns-in-Some : goal.returns-in-Some
returns-in-Some c =
    let m = c.self.inside in
    let page = page_in-reached (arc_value m.scenario) (choices_of (entries_of m.log)) (state_of m.nodes) c.args.p c.self.invariant.0.state in
    let place = place_by c.args.p (state_of m.nodes) in
    rw (← c.self.view_is, page, place, ← c.in-Some.ensures) (refl, refl)

pub returns-in-Some-get : goal.returns-in-Some-get
returns-in-Some-get c =
    let m = c.self.inside in
    let page = page_in-reached (arc_value m.scenario) (choices_of (entries_of m.log)) (state_of m.nodes) c.args.p c.self.invariant.0.state in
    let place = place_by c.args.p (state_of m.nodes) in
    rw (← c.self.view_is, page, place, ← c.in_default.ensures, ← c.in-Some-get.ensures) (refl, refl)

pub returns-in-Some-page : goal.returns-in-Some-page
returns-in-Some-page c =
    let m = c.self.inside in
    let page = page_in-reached (arc_value m.scenario) (choices_of (entries_of m.log)) (state_of m.nodes) c.args.p c.self.invariant.0.state in
    let place = place_by c.args.p (state_of m.nodes) in
    rw (← c.self.view_is, page, place, ← c.in_default.ensures, ← c.in_default-get.ensures, ← c.in-Some-page.ensures) (refl, refl)

pub returns-in-Some-page-2 : goal.returns-in-Some-page-2
returns-in-Some-page-2 c =
    let m = c.self.inside in
    let page = page_in-reached (arc_value m.scenario) (choices_of (entries_of m.log)) (state_of m.nodes) c.args.p c.self.invariant.0.state in
    let place = place_by c.args.p (state_of m.nodes) in
    rw (← c.self.view_is, page, place, ← c.in_default.ensures, ← c.in_default-get.ensures, ← c.in_default-page.ensures, ← c.in-Some-page-2.ensures) (refl, refl)

pub returns : goal.returns
returns c =
    let m = c.self.inside in
    let page = page_in-reached (arc_value m.scenario) (choices_of (entries_of m.log)) (state_of m.nodes) c.args.p c.self.invariant.0.state in
    let place = place_by c.args.p (state_of m.nodes) in
    rw (← c.self.view_is, page, place, ← c.in_default.ensures, ← c.in_default-get.ensures, ← c.in_default-page.ensures, ← c.in_default-page-2.ensures) (
      refl,
      refl,
    )
