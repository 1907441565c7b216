-- Cursors that need no more missing steps than others: what leads on from the others leads on from them.
use Rattle.std.proofs.Common.{◌≡◌, ◌∙◌, ◌+◌, inl, inr, List, [], ◌∷◌, refl, sym, ap, subst, arith, slice_get, Option, None, Some}
use Rattle.zy_isa.specs.declared.node.Actor.{Actor}
use Rattle.zy_isa.specs.declared.node.Actor.TheVariants.{C, A, B}
use Rattle.zy_isa.specs.declared.choice.Choice.{Choice}
use Rattle.zy_isa.specs.declared.version.Version.{Version}
use Rattle.zy_isa.specs.Choices.{actor_of, actor_at}
use Rattle.zy_isa.specs.Scenario.{Scenario}
use Rattle.zy_table.specs.declared.observation.Observation.{Observation}
use Rattle.zy_table.specs.State.{State}
use Rattle.zy_table.specs.Play.{step}
use Rattle.zy_order.specs.declared.logs.Logs.{Logs}
use Rattle.zy_order.specs.declared.cursors.Cursor.{Cursor}
use Rattle.zy_order.specs.declared.cursors.Cursors.{Cursors}
use Rattle.zy_order.specs.Gaps.{gaps_of}
use Rattle.zy_table.specs.Observations.{observation_at}
use Rattle.zy_logs.specs.declared.log_line.LogLine.{LogLine}
use Rattle.zy_order.specs.declared.tellers.Tellers.{Tellers}
use Rattle.zy_order.specs.declared.tellers.Tellers.TheVariants.{One, Both}
use Rattle.zy_order.specs.Ways.{log_of, cursor_of, gap_at, passed, filled, with_cursor, advanced, advanced_by, with_missing, of_nodes}
use Rattle.zy_order.specs.Ways.{NeedsNoMore, NeedNoMore, IsNoFurther, AreMatched, IsNextLine, ComeBy, HasGap, Leads, IsWay}

-- ---- cursors

-- a cursor needs no more than itself
needs_self : (p : Cursor) → NeedsNoMore p p
needs_self p = record { lines = refl; missing = omega arith }

-- nor than with one missing step more
needs_filled : (p : Cursor) → NeedsNoMore p (filled p)
needs_filled p = record { lines = refl; missing = omega arith }

-- where it needs no more than another, it needs no more behind the next line
needs_passed : (p q : Cursor) → NeedsNoMore p q → NeedsNoMore (passed p) (passed q)
needs_passed p q x = record { lines = ap (λ n. n + 1) x.lines; missing = omega arith }

-- and with a missing step more
needs_both : (p q : Cursor) → NeedsNoMore p q → NeedsNoMore (filled p) (filled q)
needs_both p q x = record { lines = x.lines; missing = omega (arith, x.missing) }

-- ---- the same of three actors

pub need_self : (g : Cursors) → NeedNoMore g g
need_self g = record { of_c = needs_self g.c; of_a = needs_self g.a; of_b = needs_self g.b }

-- cursors need no more than with a missing step more of an actor
pub need_missing : (x : Actor) (g : Cursors) → NeedNoMore g (with_missing x g)
need_missing C g = record { of_c = needs_filled g.c; of_a = needs_self g.a; of_b = needs_self g.b }
need_missing A g = record { of_c = needs_self g.c; of_a = needs_filled g.a; of_b = needs_self g.b }
need_missing B g = record { of_c = needs_self g.c; of_a = needs_self g.a; of_b = needs_filled g.b }

-- they have as many lines matched
pub need_lines : (f g : Cursors) → NeedNoMore f g → f.c.lines + of_nodes f ≡ g.c.lines + of_nodes g
need_lines f g n = omega (arith, n.of_c.lines, n.of_a.lines, n.of_b.lines)

-- of each actor
need_of : (x : Actor) (f g : Cursors) → NeedNoMore f g → NeedsNoMore (cursor_of x f) (cursor_of x g)
need_of C f g n = n.of_c
need_of A f g n = n.of_a
need_of B f g n = n.of_b

-- they need no more behind a step of an actor, by which its cursor needs no more
need_with : (x : Actor) (f g : Cursors) (p q : Cursor) → NeedNoMore f g → NeedsNoMore p q → NeedNoMore (with_cursor x p f) (with_cursor x q g)
need_with C f g p q n own = record { of_c = own; of_a = n.of_a; of_b = n.of_b }
need_with A f g p q n own = record { of_c = n.of_c; of_a = own; of_b = n.of_b }
need_with B f g p q n own = record { of_c = n.of_c; of_a = n.of_a; of_b = own }

-- ---- what leads on

-- a next line is next, too
line_less : (x : Actor) (l : Logs) (f g : Cursors) (line : LogLine) → NeedNoMore f g → IsNextLine x l g line → IsNextLine x l f line
line_less x l f g line n next = ap (λ k. slice_get (log_of x l) k) (need_of x f g n).lines ∙ next

-- so are those that come next
come_less : (v : Version) (l : Logs) (f g : Cursors) (by : Tellers) (line : LogLine) (other : Option LogLine) → NeedNoMore f g
    → ComeBy by v l g line other → ComeBy by v l f line other
come_less v l f g (One x) line None n come = record { next = line_less x l f g line n come.next; alone = come.alone }
come_less v l f g (One x) line (Some other) n come = absurd come
come_less v l f g (Both k) line None n come = absurd come
come_less v l f g (Both k) line (Some other) n come = record {
  client = line_less C l f g line n come.client;
  node = line_less (actor_at k) l f g other n come.node;
  may = come.may;
}

-- they need no more behind a line
need_advanced : (x : Actor) (f g : Cursors) → NeedNoMore f g → NeedNoMore (advanced x f) (advanced x g)
need_advanced x f g n =
    need_with x f g (passed (cursor_of x f)) (passed (cursor_of x g)) n (needs_passed (cursor_of x f) (cursor_of x g) (need_of x f g n))

-- and behind those of a step
need_by : (by : Tellers) (f g : Cursors) → NeedNoMore f g → NeedNoMore (advanced_by by f) (advanced_by by g)
need_by (One x) f g n = need_advanced x f g n
need_by (Both k) f g n = need_advanced (actor_at k) (advanced C f) (advanced C g) (need_advanced C f g n)

-- and where one missing step more is possible, it is
gap_less : (x : Actor) (l : Logs) (f g : Cursors) → NeedNoMore f g → HasGap x l g → HasGap x l f
gap_less x l f g n gap =
    let is = need_of x f g n in
    let same : gap_at (gaps_of x l.gaps) (cursor_of x f) ≡ gap_at (gaps_of x l.gaps) (cursor_of x g) =
    ap (λ k. gap_at (gaps_of x l.gaps) (record { lines = k; missing = 0 })) is.lines in
    omega (arith, is.missing, same, gap)

-- where a step leads from cursors that need no more than others
pub record LeadsLess (sc : Scenario) (l : Logs) (f : Cursors) (o : Observation) (next : Cursors) : Type 0 where
  pub to : Cursors
  pub leads : Leads sc l f o to
  pub need : NeedNoMore to next

-- a step that leads on from the others leads on from them, to cursors that need no more
pub leads_less : (sc : Scenario) (l : Logs) (f g : Cursors) (o : Observation) (next : Cursors) → NeedNoMore f g → Leads sc l g o next → LeadsLess sc l f o next
leads_less sc l f g o next n leads = elim leads [
  | inl by ↦
      let lines = by.0.lines in
      record {
        to = advanced_by lines.by f;
        leads = inl (
          record {
            lines = lines;
            next = come_less sc.version l f g lines.by lines.line lines.other n by.0.next;
            choice = by.0.choice;
            agree = by.0.agree;
          },
          refl,
        );
        need = subst (NeedNoMore (advanced_by lines.by f)) (sym by.1) (need_by lines.by f g n);
      }
  | inr by ↦
      let x = actor_of o.entry.choice in
      let p = cursor_of x f in
      let q = cursor_of x g in
      record {
        to = with_missing x f;
        leads = inr (record { named = by.0.named; gap = gap_less x l f g n by.0.gap }, refl);
        need = subst (NeedNoMore (with_missing x f)) (sym by.1) (need_with x f g (filled p) (filled q) n (needs_both p q (need_of x f g n)));
      }
]

-- where a way leads from cursors that need no more than others
pub record IsWayLess (sc : Scenario) (l : Logs) (f : Cursors) (s : State) (cs : List Choice) (to : Cursors) : Type 0 where
  pub end : Cursors
  pub way : IsWay sc l f s cs end
  pub need : NeedNoMore end to

-- a way from the others is one from them, to cursors that need no more
pub way_less : (sc : Scenario) (l : Logs) (f g : Cursors) (s : State) (cs : List Choice) (to : Cursors) → NeedNoMore f g → IsWay sc l g s cs to
    → IsWayLess sc l f s cs to
way_less sc l f g s [] to n way = record { end = f; way = refl; need = subst (NeedNoMore f) way n }
way_less sc l f g s (c ∷ cs) to n way =
    let first = leads_less sc l f g (observation_at sc s c) way.0 n way.1 in
    let rest = way_less sc l first.to way.0 (step sc c s).after cs to first.need way.2 in
    record { end = rest.end; way = (first.to, first.leads, rest.way); need = rest.need }

-- ---- where they lead in the end

-- they match all lines where the others do
pub matched_less : (l : Logs) (f g : Cursors) → NeedNoMore f g → AreMatched l g → AreMatched l f
matched_less l f g n end = record { of_c = n.of_c.lines ∙ end.of_c; of_a = n.of_a.lines ∙ end.of_a; of_b = n.of_b.lines ∙ end.of_b }

-- where they are no further than third ones, the others are not either
pub no_further_less : (f g k : Cursors) → NeedNoMore f g → IsNoFurther f k → IsNoFurther g k
no_further_less f g k n x = record {
  nodes = omega (arith, x.nodes, n.of_a.lines, n.of_b.lines);
  client = λ e. omega (arith, x.client (omega (arith, e, n.of_a.lines, n.of_b.lines)), n.of_c.lines);
}

-- cursors are no further than themselves
pub no_further_self : (g : Cursors) → IsNoFurther g g
no_further_self g = record { nodes = omega arith; client = λ e. omega arith }

-- where they are no further than others, and these no further than third ones, they are no further than those
pub no_further_on : (f g k : Cursors) → IsNoFurther f g → IsNoFurther g k → IsNoFurther f k
no_further_on f g k x y = record {
  nodes = omega (arith, x.nodes, y.nodes);
  client = λ e. omega (arith, x.client (omega (arith, e, x.nodes, y.nodes)), y.client (omega (arith, e, x.nodes, y.nodes)));
}
