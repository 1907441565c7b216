-- Worked logs: which orders of their lines fit, computed.
use Rattle.std.proofs.Common.{◌≡◌, ℕ, inl, inr, List, [], ◌∷◌, Option, None, Some, refl, map, ap, arith}
use Rattle.std.proofs.lemmas.Bool.{false≢true}
use Rattle.zy_isa.specs.Choices.{actor_of}
use Rattle.zy_isa.specs.declared.node.Actor.{Actor}
use Rattle.zy_isa.specs.declared.version.Version.{Version}
use Rattle.zy_isa.specs.declared.version.Version.TheVariants.{One}
use Rattle.zy_isa.specs.declared.node.Node.TheVariants.{A, B}
use Rattle.zy_isa.specs.declared.node.Actor.TheVariants as actor
use Rattle.zy_isa.specs.declared.rule.Rule.TheVariants.{Held}
use Rattle.zy_isa.specs.declared.instr.Reg.TheVariants.{R0}
use Rattle.zy_isa.specs.declared.instr.Instr.TheVariants.{Set, Commit}
use Rattle.zy_isa.specs.declared.choice.Choice.TheVariants.{Start, Begin, Run, Take}
use Rattle.zy_isa.specs.Scenario.{Scenario}
use Rattle.zy_model.specs.declared.kind.Kind.{Kind}
use Rattle.zy_model.specs.declared.kind.Kind.TheVariants as kind
use Rattle.zy_patterns.specs.declared.patterns.OutcomePattern.{OutcomePattern}
use Rattle.zy_patterns.specs.declared.patterns.OutcomePattern.TheVariants as pattern
use Rattle.zy_table.specs.Change.{txn_at, begun, aborted, did, locked, shares, committed, cut, asks, leaves}
use Rattle.zy_table.specs.Client.{start_step, begin_at, begin_step}
use Rattle.zy_table.specs.Run.{set_step, commit_or_gone, commit_step, effect_step, instr_step, run_step}
use Rattle.zy_table.specs.Take.{arrival_step, pull_step, message_step, front_step, take_step}
use Rattle.zy_table.specs.Play.{move, step, opening_leaves, opening}
use Rattle.zy_logs.specs.declared.log_line.LogLine.{LogLine}
use Rattle.zy_order.specs.Gaps.{IsMissing, FillsGap, Completes}
use Rattle.zy_order.specs.Twins.{AreTwins, HasTwin}
use Rattle.zy_order.specs.Orders.{ToldStep, AreWhole, Fits, lines_of}

-- opens the lines of the table that the examples use
unfoldable table : ℕ
unfolding txn_at begun aborted did locked shares committed cut asks leaves start_step begin_at begin_step set_step commit_or_gone commit_step effect_step
    instr_step run_step arrival_step pull_step message_step front_step take_step move step opening_leaves opening
table = 0

-- a scenario of one page and no rows, with one program
abbrev one : Scenario
one = record { version = One; cap = 4; pages = 1; rule = Held; rows = []; programs = (Set R0 10 ∷ Commit ∷ []) ∷ []; choices = [] }

-- a line alone
abbrev alone : LogLine → ToldStep
alone line = record { line = line; other = None }

-- logs without a line
abbrev nowhere : Actor → List LogLine
nowhere x = []

-- they have no twin
no_twins : {v : Version} {line : LogLine} → HasTwin v nowhere line → ⊥
no_twins twin = absurd (omega (arith, twin.1.2))

-- ---- two lines of A and one of the client

-- the transaction begins at A
abbrev begins : LogLine
begins = record { log = actor_of (Begin 0); choice = Begin 0; told = Some (pattern.Began (Some A)); value = None; sent = None; rows = None }

-- a run of it at A, of which this came
abbrev run : Option OutcomePattern → LogLine
run came = record { log = actor_of (Run A 0); choice = Run A 0; told = came; value = None; sent = None; rows = None }

-- the lines of A, and then that of the client
abbrev lines : List LogLine
lines = run (Some pattern.Did) ∷ run (Some (pattern.Committed (Some 1))) ∷ begins ∷ []

-- the client's line comes first: they fit
client_first : Fits one nowhere (opening one) (alone begins ∷ alone (run (Some pattern.Did)) ∷ alone (run (Some (pattern.Committed (Some 1)))) ∷ [])
unfolding table
client_first = (no_twins, ((refl, tt, tt, tt, inl refl), tt), (no_twins, ((refl, tt, tt, tt, inl refl), tt), (no_twins, ((refl, tt, tt, tt, inl refl), tt), tt)))

-- the lines as they stand do not fit: the transaction has not begun, and the run is idle
client_last : Fits one nowhere (opening one) (map alone lines) → ⊥
unfolding table
client_last fits = absurd (false≢true fits.1.0.0)

-- ---- gaps

-- nothing fills a gap
nothing : (n : ℕ) → FillsGap 1 n actor.A []
nothing n = record { few = omega arith; missing = tt }

-- the lines of A complete themselves where no step may be missing
whole : Completes 1 actor.A 1 (run (Some pattern.Did) ∷ []) (0 ∷ 0 ∷ []) (run (Some pattern.Did) ∷ [])
whole = record { filled = []; rest = []; is = refl; gap = nothing 0; goes_on = nothing 0 }

-- a run of which nothing is known may be missing from the log of A
missing : IsMissing 1 actor.A (run None)
missing = record { is = refl; actor = refl; named = refl }

-- it stands before the line where one step may be missing there
filled : Completes 1 actor.A 1 (run (Some pattern.Did) ∷ []) (1 ∷ 0 ∷ []) (run None ∷ run (Some pattern.Did) ∷ [])
filled = record { filled = run None ∷ []; rest = []; is = refl; gap = record { few = omega arith; missing = (missing, tt) }; goes_on = nothing 0 }

-- it is none of B
of_b : IsMissing 1 actor.B (run None) → ⊥
of_b is = let same : actor.A ≡ actor.B = is.actor in absurd (cc same)

-- nor is a line that tells what came
known : IsMissing 1 actor.A (run (Some pattern.Did)) → ⊥
known is = let same : Some pattern.Did ≡ None = ap (λ (line : LogLine). line.told) is.is in absurd (cc same)

-- two missing steps do not fill a gap of one
too_many : FillsGap 1 1 actor.A (run None ∷ run None ∷ []) → ⊥
too_many gap = absurd (omega (arith, gap.few))

-- ---- an unknown outcome

-- a run without an outcome fits where the transaction has not begun
idle_first : Fits one nowhere (opening one) (alone (run None) ∷ alone begins ∷ [])
unfolding table
idle_first = (no_twins, ((tt, tt, tt, tt, inl refl), tt), (no_twins, ((refl, tt, tt, tt, inl refl), tt), tt))

-- and where it has
begun_first : Fits one nowhere (opening one) (alone begins ∷ alone (run None) ∷ [])
unfolding table
begun_first = (no_twins, ((refl, tt, tt, tt, inl refl), tt), (no_twins, ((tt, tt, tt, tt, inl refl), tt), tt))

-- ---- a value

-- the run that sets the register, with a value
abbrev shows : ℕ → LogLine
shows v = record { log = actor_of (Run A 0); choice = Run A 0; told = Some pattern.Did; value = Some v; sent = None; rows = None }

-- it is set to 10
set_to_ten : Fits one nowhere (opening one) (alone begins ∷ alone (shows 10) ∷ [])
unfolding table
set_to_ten = (no_twins, ((refl, tt, tt, tt, inl refl), tt), (no_twins, ((refl, refl, tt, tt, inl refl), tt), tt))

-- so no other value fits
not_to_seven : Fits one nowhere (opening one) (alone begins ∷ alone (shows 7) ∷ []) → ⊥
unfolding table
not_to_seven fits = let value : Some 10 ≡ Some 7 = fits.2.1.0.1 in absurd (cc value)

-- ---- a message

-- a migration starts
abbrev starts : LogLine
starts = record { log = actor_of (Start); choice = Start; told = Some pattern.Started; value = None; sent = Some kind.Wire; rows = None }

-- B takes the wireframe, and this message was logged, or none
abbrev takes : Option Kind → LogLine
takes sent = record { log = actor_of (Take B); choice = Take B; told = Some pattern.GotWire; value = None; sent = sent; rows = None }

-- it sends ready, as was logged
sends_ready : Fits one nowhere (opening one) (alone starts ∷ alone (takes (Some kind.Ready)) ∷ [])
unfolding table
sends_ready = (no_twins, ((refl, tt, refl, tt, inl refl), tt), (no_twins, ((refl, tt, refl, tt, inl refl), tt), tt))

-- a line without a message agrees with that too
says_nothing : Fits one nowhere (opening one) (alone starts ∷ alone (takes None) ∷ [])
unfolding table
says_nothing = (no_twins, ((refl, tt, refl, tt, inl refl), tt), (no_twins, ((refl, tt, tt, tt, inl refl), tt), tt))

-- one with another message does not
sends_no_dual : Fits one nowhere (opening one) (alone starts ∷ alone (takes (Some kind.Dual)) ∷ []) → ⊥
unfolding table
sends_no_dual fits = let sent : Some kind.Ready ≡ Some kind.Dual = fits.2.1.0.2 in absurd (cc sent)

-- ---- two lines of one step

-- the begin, in a node's log, too
abbrev begins_at : Actor → LogLine
begins_at x = record begins { log = x }

-- lines of the client's log and of A's are one step
both : Fits one nowhere (opening one) (record { line = begins; other = Some (begins_at actor.A) } ∷ [])
unfolding table
both = (
  record { node = A; client = refl; stands = refl; may = record { choice = refl; whole = λ twin. absurd (no_twins twin) } },
  ((refl, tt, tt, tt, inl refl), (refl, tt, tt, tt, inr refl)),
  tt,
)

-- the line may stand in A's log alone
in_log_of_a : Fits one nowhere (opening one) (alone (begins_at actor.A) ∷ [])
unfolding table
in_log_of_a = (no_twins, ((refl, tt, tt, tt, inr refl), tt), tt)

-- in B's log it does not, since the transaction begins at A
not_of_b : Fits one nowhere (opening one) (alone (begins_at actor.B) ∷ []) → ⊥
unfolding table
not_of_b fits = elim fits.1.0.4 [
  | inl own ↦ absurd (cc own)
  | inr there ↦ absurd (cc there)
]

-- the two lines are twins
twins : AreTwins One begins (begins_at actor.A)
twins = record {
  logs = λ e. absurd (cc e);
  choice = refl;
  first = record { what = pattern.Began (Some A); told = refl; once = refl };
  second = record { what = pattern.Began (Some A); told = refl; once = refl };
}

-- so with both in the logs the client's does not come alone
not_apart : AreWhole One (λ x. lines_of x (begins ∷ begins_at actor.A ∷ [])) begins None → ⊥
not_apart whole = whole (actor.A, (0, begins_at actor.A, omega arith, refl, twins))
