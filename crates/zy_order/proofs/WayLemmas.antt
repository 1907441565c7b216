-- Choices that go along the logs.
use Rattle.std.proofs.Common.{length-append, ◌≡◌, ◌∙◌, ℕ, ◌+◌, ◌<◌, ◌≤◌, inl, inr, List, [], ◌∷◌, ◌++◌, length, refl, sym, subst, arith, true, take, slice_get, ap, Option, None, Some}
use Rattle.std.specs.Prelude.{sum}
use Rattle.std.proofs.lemmas.Option.{slice_get_within}
use Rattle.std.proofs.lemmas.Bool.{cases_lt}
use Rattle.std.proofs.lemmas.List.Sums.{sum_by_more, sum_by-take-le}
use Rattle.zy_isa.specs.declared.node.Actor.{Actor}
use Rattle.zy_isa.specs.declared.node.Actor.TheVariants.{C, A, B}
use Rattle.zy_isa.specs.declared.node.Node.{Node}
use Rattle.zy_isa.specs.declared.node.Node.TheVariants as node
use Rattle.zy_isa.specs.declared.version.Version.{Version}
use Rattle.zy_isa.specs.declared.choice.Choice.{Choice}
use Rattle.zy_isa.specs.Choices.{actor_of, actor_at, names_below}
use Rattle.zy_isa.specs.Scenario.{Scenario, AreNamed}
use Rattle.zy_table.specs.declared.observation.Observation.{Observation}
use Rattle.zy_table.specs.State.{State}
use Rattle.zy_table.specs.Play.{play, step}
use Rattle.zy_logs.specs.declared.log_line.LogLine.{LogLine}
use Rattle.zy_order.specs.declared.logs.Logs.{Logs}
use Rattle.zy_order.specs.declared.cursors.Cursor.{Cursor}
use Rattle.zy_order.specs.declared.cursors.Cursors.{Cursors}
use Rattle.zy_order.specs.Gaps.{gaps_of}
use Rattle.zy_table.specs.Observations.{observation_at}
use Rattle.zy_order.specs.declared.tellers.Tellers.{Tellers}
use Rattle.zy_order.specs.declared.tellers.Tellers.TheVariants.{One, Both}
use Rattle.zy_order.specs.Ways.{log_of, cursor_of, cursor, at_start, gap_at, passed, filled, with_cursor, advanced, advanced_by, step_count}
use Rattle.zy_order.specs.Ways.{AreMatched, IsIn, IsWithin, IsNextLine, ComeBy, ComeTogether, Leads, IsWay, AreLinesOf}

-- ---- in one log

-- how many steps are possible up to a cursor: one for each line, and those of each gap before it
abbrev spent : List ℕ → Cursor → ℕ
spent gaps g = g.lines + (sum (take g.lines gaps) + g.missing)

-- there is a gap before each line of a log, and one behind the last
abbrev HasGaps : List LogLine → List ℕ → Type 0
HasGaps log gaps = length gaps ≡ length log + 1

module _ (log : List LogLine) (gaps : List ℕ) (g : Cursor) (many : HasGaps log gaps) (is : IsIn log gaps g) where
  -- the gaps up to the next line
  gaps_up : sum (take (g.lines + 1) gaps) ≡ sum (take g.lines gaps) + gap_at gaps g
  gaps_up = sum_by_more (λ x. x) gaps g.lines 0 (omega (arith, many, is.lines))

  -- no more steps are possible than the log has room for
  pub spent_few : spent gaps g ≤ length log + sum gaps
  spent_few = omega (arith, gaps_up, sum_by-take-le (λ x. x) gaps (g.lines + 1), is.lines, is.missing)

  -- and fewer where a line is left
  pub spent_fewer : g.lines < length log → spent gaps g < length log + sum gaps
  spent_fewer lt = omega (arith, gaps_up, sum_by-take-le (λ x. x) gaps (g.lines + 1), lt, is.missing)

  -- behind the next line the cursor is within the log
  in_passed : g.lines < length log → IsIn log gaps (passed g)
  in_passed lt = record { lines = omega (arith, lt); missing = omega arith }

  -- and one step more is possible
  spent_passed : spent gaps g < spent gaps (passed g)
  spent_passed = omega (arith, gaps_up, is.missing)

  -- so it is with a missing step more
  in_filled : g.missing < gap_at gaps g → IsIn log gaps (filled g)
  in_filled lt = record { lines = is.lines; missing = omega (arith, lt) }

  spent_filled : spent gaps g < spent gaps (filled g)
  spent_filled = omega arith

-- ---- in the three logs

-- each log has a gap before each line and one behind the last
abbrev pub HaveGaps : Logs → Type 0
HaveGaps l = (x : Actor) → length (gaps_of x l.gaps) ≡ length (log_of x l) + 1

-- how many steps are possible up to cursors
abbrev pub possible : Logs → Cursors → ℕ
possible l g = spent l.gaps.c.items g.c + (spent l.gaps.a.items g.a + spent l.gaps.b.items g.b)

-- what a step leads to: cursors within the logs, with one step more
pub record IsOn (l : Logs) (g to : Cursors) : Type 0 where
  pub within : IsWithin l to
  pub more : possible l g < possible l to

-- cursors within the logs are in that of each actor
pub is_in : (x : Actor) (l : Logs) (g : Cursors) → IsWithin l g → IsIn (log_of x l) (gaps_of x l.gaps) (cursor_of x g)
is_in C l g w = w.of_c
is_in A l g w = w.of_a
is_in B l g w = w.of_b

-- where an actor's cursor goes on within its log, by one step more
on_moved : (x : Actor) (l : Logs) (g : Cursors) (k : Cursor) → IsWithin l g → IsIn (log_of x l) (gaps_of x l.gaps) k
    → spent (gaps_of x l.gaps) (cursor_of x g) < spent (gaps_of x l.gaps) k → IsOn l g (with_cursor x k g)
on_moved C l g k w is more = record { within = record { of_c = is; of_a = w.of_a; of_b = w.of_b }; more = omega (arith, more) }
on_moved A l g k w is more = record { within = record { of_c = w.of_c; of_a = is; of_b = w.of_b }; more = omega (arith, more) }
on_moved B l g k w is more = record { within = record { of_c = w.of_c; of_a = w.of_a; of_b = is }; more = omega (arith, more) }

-- so it does by its next line
pub on_line : (x : Actor) (l : Logs) (g : Cursors) (line : LogLine) → HaveGaps l → IsWithin l g → IsNextLine x l g line → IsOn l g (advanced x g)
on_line x l g line many w next =
    let log = log_of x l in
    let gaps = gaps_of x l.gaps in
    let k = cursor_of x g in
    let is = is_in x l g w in
    on_moved x l g (passed k) w (in_passed log gaps k (many x) is (slice_get_within log k.lines line next)) (spent_passed log gaps k (many x) is)

-- and then by another
on_then : (l : Logs) (f g h : Cursors) → IsOn l f g → IsOn l g h → IsOn l f h
on_then l f g h x y = record { within = y.within; more = omega (arith, x.more, y.more) }

-- no node is the client
pub no_client : (n : Node) → C ≡ actor_at n → ⊥
no_client node.A e = cc e
no_client node.B e = cc e

-- the next line of a node is next behind a line of the client
pub node_beside : (n : Node) (l : Logs) (g : Cursors) (line : LogLine) → IsNextLine (actor_at n) l g line → IsNextLine (actor_at n) l (advanced C g) line
node_beside node.A l g line next = next
node_beside node.B l g line next = next

-- so they do by lines that come next
on_come : (v : Version) (l : Logs) (g : Cursors) (by : Tellers) (line : LogLine) (other : Option LogLine) → HaveGaps l → IsWithin l g
    → ComeBy by v l g line other → IsOn l g (advanced_by by g)
on_come v l g (One x) line None many w come = on_line x l g line many w come.next
on_come v l g (One x) line (Some other) many w come = absurd come
on_come v l g (Both n) line None many w come = absurd come
on_come v l g (Both n) line (Some other) many w come =
    let first = on_line C l g line many w come.client in
    on_then l g (advanced C g) (advanced (actor_at n) (advanced C g)) first
    (on_line (actor_at n) l (advanced C g) other many first.within (node_beside n l g other come.node))

-- and by each step
pub on_by : (sc : Scenario) (l : Logs) (g : Cursors) (o : Observation) (to : Cursors) → HaveGaps l → IsWithin l g → Leads sc l g o to → IsOn l g to
on_by sc l g o to many w leads =
    elim leads [
      | inl by ↦
          let lines = by.0.lines in subst (IsOn l g) (sym by.1) (on_come sc.version l g lines.by lines.line lines.other many w by.0.next)
      | inr by ↦
          let x = actor_of o.entry.choice in
          let log = log_of x l in
          let gaps = gaps_of x l.gaps in
          let k = cursor_of x g in
          let is = is_in x l g w in
          subst (IsOn l g) (sym by.1) (on_moved x l g (filled k) w (in_filled log gaps k (many x) is by.0.gap) (spent_filled log gaps k (many x) is))
    ]

-- at the start the cursors are within the logs
pub within_start : (l : Logs) → IsWithin l at_start
within_start l = record {
  of_c = record { lines = omega arith; missing = omega arith };
  of_a = record { lines = omega arith; missing = omega arith };
  of_b = record { lines = omega arith; missing = omega arith };
}

-- what a way leads to: cursors within the logs, with as many steps more at least as it has choices
pub record IsAlong (l : Logs) (g : Cursors) (cs : List Choice) (to : Cursors) : Type 0 where
  pub within : IsWithin l to
  pub more : possible l g + length cs ≤ possible l to

-- each way does
pub along : (sc : Scenario) (l : Logs) (g : Cursors) (s : State) (cs : List Choice) (to : Cursors) → HaveGaps l → IsWithin l g → IsWay sc l g s cs to
    → IsAlong l g cs to
along sc l g s [] to many w way = subst (IsAlong l g []) way (record { within = w; more = omega arith })
along sc l g s (c ∷ cs) to many w way =
    let on = on_by sc l g (observation_at sc s c) way.0 many w way.1 in
    let rest = along sc l way.0 (step sc c s).after cs to many on.within way.2 in
    record { within = rest.within; more = omega (arith, on.more, rest.more) }

-- where not all lines are matched, fewer steps are possible than the logs have room for
pub possible_fewer : (l : Logs) (g : Cursors) → HaveGaps l → IsWithin l g → (AreMatched l g → ⊥) → possible l g < step_count l
possible_fewer l g many w part =
    let c = spent_few l.c.items l.gaps.c.items g.c (many C) w.of_c in
    let a = spent_few l.a.items l.gaps.a.items g.a (many A) w.of_a in
    let b = spent_few l.b.items l.gaps.b.items g.b (many B) w.of_b in
    elim (cases_lt g.c.lines (length l.c.items)) [
      | inl less ↦ omega (arith, spent_fewer l.c.items l.gaps.c.items g.c (many C) w.of_c less, a, b)
      | inr c_all ↦
          elim (cases_lt g.a.lines (length l.a.items)) [
            | inl less ↦ omega (arith, spent_fewer l.a.items l.gaps.a.items g.a (many A) w.of_a less, c, b)
            | inr a_all ↦
                elim (cases_lt g.b.lines (length l.b.items)) [
                  | inl less ↦ omega (arith, spent_fewer l.b.items l.gaps.b.items g.b (many B) w.of_b less, c, a)
                  | inr b_all ↦ absurd (part (record {
                    of_c = omega (arith, c_all, w.of_c.lines);
                    of_a = omega (arith, a_all, w.of_a.lines);
                    of_b = omega (arith, b_all, w.of_b.lines);
                  }))
                ]
          ]
    ]

-- where all lines are matched, those of an actor are
pub matched_of : (x : Actor) (l : Logs) (g : Cursors) → AreMatched l g → cursor x g ≡ length (log_of x l)
matched_of C l g end = end.of_c
matched_of A l g end = end.of_a
matched_of B l g end = end.of_b

-- where an actor has a next line, not all are
pub next_part : (x : Actor) (l : Logs) (g : Cursors) (line : LogLine) → slice_get (log_of x l) (cursor x g) ≡ Some line → AreMatched l g → ⊥
next_part x l g line next end = absurd (omega (arith, matched_of x l g end, slice_get_within (log_of x l) (cursor x g) line next))

-- an actor has one next line
pub same_line : (x : Actor) (l : Logs) (g : Cursors) (line other : LogLine) → IsNextLine x l g line → IsNextLine x l g other → line ≡ other
same_line x l g line other next also = let both : Some line ≡ Some other = sym next ∙ also in cc both

-- of the same logs one list of lines comes next
pub same_lines : (v : Version) (l : Logs) (g : Cursors) (by : Tellers) (line m : LogLine) (other n : Option LogLine) → ComeBy by v l g line other
    → ComeBy by v l g m n → (line ≡ m) × (other ≡ n)
same_lines v l g (One x) line m None None come also = (same_line x l g line m come.next also.next, refl)
same_lines v l g (One x) line m (Some other) n come also = absurd come
same_lines v l g (One x) line m None (Some n) come also = absurd also
same_lines v l g (Both k) line m None n come also = absurd come
same_lines v l g (Both k) line m (Some other) None come also = absurd also
same_lines v l g (Both k) line m (Some other) (Some n) come also =
    (same_line C l g line m come.client also.client, ap Some (same_line (actor_at k) l g other n come.node also.node))

-- where no two lines come next together, none do by the client's log and a node's
pub none_together : (v : Version) (n : Node) (l : Logs) (g : Cursors) → ((line other : LogLine) → ComeTogether v n l g line other → ⊥)
    → (by : Tellers) (line : LogLine) (other : Option LogLine) → by ≡ Both n → ComeBy by v l g line other → ⊥
none_together v n l g none (One x) line other same come = cc same
none_together v n l g none (Both k) line None same come = come
none_together v n l g none (Both k) line (Some other) same come =
    let is : k ≡ n = cc same in none line other (subst (λ (m : Node). ComeTogether v m l g line other) is come)

-- so where lines come next not all are matched
pub come_part : (v : Version) (l : Logs) (g : Cursors) (by : Tellers) (line : LogLine) (other : Option LogLine) → ComeBy by v l g line other
    → AreMatched l g → ⊥
come_part v l g (One x) line None come = next_part x l g line come.next
come_part v l g (One x) line (Some other) come = absurd come
come_part v l g (Both n) line None come = absurd come
come_part v l g (Both n) line (Some other) come = next_part C l g line come.client

-- a log has no more lines than all have room for steps
pub log_few : (x : Actor) (l : Logs) → length (log_of x l) ≤ step_count l
log_few C l = omega arith
log_few A l = omega arith
log_few B l = omega arith

-- ---- ways

-- a way has no more choices than the logs have room for steps
pub way_few : (sc : Scenario) (l : Logs) (s : State) (cs : List Choice) (to : Cursors) → HaveGaps l → IsWay sc l at_start s cs to → length cs ≤ step_count l
way_few sc l s cs to many way =
    let is = along sc l at_start s cs to many (within_start l) way in
    omega (
      arith,
      is.more,
      spent_few l.c.items l.gaps.c.items to.c (many C) is.within.of_c,
      spent_few l.a.items l.gaps.a.items to.a (many A) is.within.of_a,
      spent_few l.b.items l.gaps.b.items to.b (many B) is.within.of_b,
    )

-- and fewer where a line is left
pub way_fewer : (sc : Scenario) (l : Logs) (s : State) (cs : List Choice) (to : Cursors) → HaveGaps l → IsWay sc l at_start s cs to
    → (AreMatched l to → ⊥) → length cs < step_count l
way_fewer sc l s cs to many way part =
    let is = along sc l at_start s cs to many (within_start l) way in
    omega (arith, is.more, possible_fewer l to many is.within part)

-- where each line names a transaction that is there, those that come next do
pub come_named : (v : Version) (l : Logs) (g : Cursors) (count : ℕ) (by : Tellers) (line : LogLine) (other : Option LogLine)
    → ((x : Actor) → AreLinesOf count x (log_of x l)) → ComeBy by v l g line other → names_below count line.choice ≡ true
come_named v l g count (One x) line None are come = (are x (cursor x g) line come.next).named
come_named v l g count (One x) line (Some other) are come = absurd come
come_named v l g count (Both n) line None are come = absurd come
come_named v l g count (Both n) line (Some other) are come = (are C (cursor C g) line come.client).named

-- so does each choice that leads on
leads_named : (sc : Scenario) (l : Logs) (g : Cursors) (o : Observation) (to : Cursors)
    → ((x : Actor) → AreLinesOf (length sc.programs) x (log_of x l)) → Leads sc l g o to → names_below (length sc.programs) o.entry.choice ≡ true
leads_named sc l g o to are leads =
    let count = length sc.programs in
    elim leads [
      | inl by ↦
          let lines = by.0.lines in
          subst (λ (d : Choice). names_below count d ≡ true) by.0.choice (come_named sc.version l g count lines.by lines.line lines.other are by.0.next)
      | inr by ↦ by.0.named
    ]

-- so each choice of a way does
pub way_named : (sc : Scenario) (l : Logs) (g : Cursors) (s : State) (cs : List Choice) (to : Cursors)
    → ((x : Actor) → AreLinesOf (length sc.programs) x (log_of x l)) → IsWay sc l g s cs to
    → AreNamed (length sc.programs) cs
way_named sc l g s [] to lines way = tt
way_named sc l g s (c ∷ cs) to lines way =
    (leads_named sc l g (observation_at sc s c) way.0 lines way.1, way_named sc l way.0 (step sc c s).after cs to lines way.2)

-- a way goes on by a step
pub way_push : (sc : Scenario) (l : Logs) (g : Cursors) (s : State) (cs : List Choice) (to : Cursors) (c : Choice) (on : Cursors) → IsWay sc l g s cs to
    → Leads sc l to (observation_at sc (play sc s cs) c) on
    → IsWay sc l g s (cs ++ c ∷ []) on
way_push sc l g s [] to c on way leads =
    (on, subst (λ (f : Cursors). Leads sc l f (observation_at sc s c) on) (sym way) leads, refl)
way_push sc l g s (d ∷ cs) to c on way leads = (way.0, way.1, way_push sc l way.0 (step sc d s).after cs to c on way.2 leads)

-- so a way that a step may follow has fewer choices than the logs have room for steps
pub way_room : (sc : Scenario) (l : Logs) (s : State) (cs : List Choice) (to : Cursors) (c : Choice) (on : Cursors) → HaveGaps l
    → IsWay sc l at_start s cs to → Leads sc l to (observation_at sc (play sc s cs) c) on
    → length cs < step_count l
way_room sc l s cs to c on many way leads =
    omega (arith, way_few sc l s (cs ++ c ∷ []) on many (way_push sc l at_start s cs to c on way leads), length-append cs (c ∷ []))
