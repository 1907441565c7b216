use Rattle.std.proofs.Common.{◌≡◌, ap, ◌∙◌, ◌∷◌, ◌++◌, []}
use Rattle.std.specs.List.{slice_get}
use Rattle.zy_isa.specs.declared.node.Actor.TheVariants.{C, A, B}
use Rattle.zy_table.specs.declared.entry.Entry.{Entry}
use Rattle.zy_threads.specs.Turns.{BoardView, turns_of, after_choice}
use Rattle.zy_threads.proofs.TurnLemmas.{room, named, turn_kept, front_within}
use Rattle.zy_threads.proofs.board.Board.step_next.Goals as goal
use Rattle.zy_threads.proofs.board.Board.step_next.Goals.{In_ok-entry}

abbrev before : In_ok-entry → BoardView
before c = record { machine = c.self.inside.machine; c = c.self.inside.c; a = c.self.inside.a; b = c.self.inside.b }

stepped : (c : In_ok-entry) → c.step.new.self ≡ after_choice c.self.inside.machine c.in-Some.choice
stepped c =
    let e = c.in_ok-entry.ensures in
    let grown = e.history ∙ ap (λ (x : Entry). c.self.inside.machine.entries ++ x ∷ []) e.entry in
    λ i. record { scenario = e.scenario i; state = e.state i; entries = grown i }

pub step-requires-clause-named : goal.step-requires-clause-named
step-requires-clause-named c =
    let t : BoardView = record { machine = c.self.inside.machine; c = c.self.inside.c; a = c.self.inside.a; b = c.self.inside.b } in
    named c.args.actor t c.in-Some.choice c.self.invariant
    (ap (λ (s : BoardView). slice_get (turns_of s c.args.actor).schedule (turns_of s c.args.actor).cursor) c.self.view_is ∙ c.in-Some.ensures)

pub step-requires-clause-room : goal.step-requires-clause-room
step-requires-clause-room c =
    let t : BoardView = record { machine = c.self.inside.machine; c = c.self.inside.c; a = c.self.inside.a; b = c.self.inside.b } in
    room c.args.actor t c.in-Some.choice c.self.invariant (ap (λ (s : BoardView). slice_get (turns_of s c.args.actor).schedule (turns_of s c.args.actor).cursor)
    c.self.view_is ∙ c.in-Some.ensures)

pub advance-requires : goal.advance-requires
advance-requires c = front_within c.args.actor C c.args.self.now _ c.in-Some.choice c.in-C.is c.self.view_is c.in-Some.ensures

pub advance-requires-in-A : goal.advance-requires-in-A
advance-requires-in-A c = front_within c.args.actor A c.args.self.now _ c.in-Some.choice c.in-A.is c.self.view_is c.in-Some.ensures

pub advance-requires-in-B : goal.advance-requires-in-B
advance-requires-in-B c = front_within c.args.actor B c.args.self.now _ c.in-Some.choice c.in-B.is c.self.view_is c.in-Some.ensures

pub invariant_of-self-in-C : goal.invariant_of-self-in-C
invariant_of-self-in-C c =
    let m = stepped (goal.at.invariant_of-self-in-C c).In_ok-entry in
    turn_kept c.args.actor C c.args.self.now (before (goal.at.invariant_of-self-in-C c).In_ok-entry) _ c.in-Some.choice c.in-C.is c.self.view_is
    c.self.invariant c.in-Some.ensures
    (λ i. record { machine = m i; c = c.advance.ensures i; a = c.self.inside.a; b = c.self.inside.b })

pub invariant_of-self-in-A : goal.invariant_of-self-in-A
invariant_of-self-in-A c =
    let m = stepped (goal.at.invariant_of-self-in-A c).In_ok-entry in
    turn_kept c.args.actor A c.args.self.now (before (goal.at.invariant_of-self-in-A c).In_ok-entry) _ c.in-Some.choice c.in-A.is c.self.view_is
    c.self.invariant c.in-Some.ensures
    (λ i. record { machine = m i; c = c.self.inside.c; a = c.advance-in-A.ensures i; b = c.self.inside.b })

pub invariant_of-self-in-B : goal.invariant_of-self-in-B
invariant_of-self-in-B c =
    let m = stepped (goal.at.invariant_of-self-in-B c).In_ok-entry in
    turn_kept c.args.actor B c.args.self.now (before (goal.at.invariant_of-self-in-B c).In_ok-entry) _ c.in-Some.choice c.in-B.is c.self.view_is
    c.self.invariant c.in-Some.ensures
    (λ i. record { machine = m i; c = c.self.inside.c; a = c.self.inside.a; b = c.advance-in-B.ensures i })
