-- What comes of the choice of a branch.
use Rattle.std.proofs.Common.{◌≡◌, ◌∙◌, ◌+◌, ◌++◌, ◌∷◌, [], List, Bool, true, false, inl, inr, refl, sym, ap, subst, length, length-append, ◌≤◌, arith}
use Rattle.std.specs.Bool.{Decides}
use Rattle.std.proofs.Math.Bool.{false≢true}
use Rattle.zy_isa.specs.declared.choice.Choice.{Choice}
use Rattle.zy_table.specs.State.{State}
use Rattle.zy_steps.specs.Alike.{part_of}
use Rattle.zy_search.specs.declared.branch.Branch.{Branch}
use Rattle.zy_search.specs.declared.plan.Plan.{Plan}
use Rattle.zy_search.specs.declared.answer.Met.TheVariants as met
use Rattle.zy_search.specs.declared.reached.Reached.{Reached}
use Rattle.zy_search.specs.declared.scratch.Scratch.{Scratch}
use Rattle.zy_search.specs.Stuck.{is_still}
use Rattle.zy_search.specs.Searches.{reached, Shows}
use Rattle.zy_search.specs.Visits.{path_at, length_at, counted, step_by, state_by, IsFull, IsKnown, IsReadyFor, IsTurn, IsVisited, Meets, Notes, ShowsNext}
use Rattle.zy_search.proofs.SearchLemmas.{reached_more, grows_not, grows_push, near_known, visits_push, visited_last, path_more}
use Rattle.zy_search.proofs.EdgeLemmas.{apart_push, edge_push}
use Rattle.zy_search.proofs.StillSteps.{still_stays}

module _ (p : Plan) (ps : List (List Choice)) (b : Branch) (turn : IsTurn p ps b) where
  -- a state that is known is taken in already
  pub known_noted : IsKnown p.start p.sought ps (state_by p ps b) → Notes p.start p.sought ps ps b.from b.by
  known_noted known = record {
    visits = turn.ready.visits;
    near = turn.ready.near;
    grows = grows_not ps;
    known = near_known p.start p.sought ps b.from (state_by p ps b) turn.ready.near known;
    more = inl refl;
  }

  -- where nothing comes of the choice it leads to the state of the path itself
  pub still_noted : is_still (step_by p ps b).outcome ≡ true → Notes p.start p.sought ps ps b.from b.by
  still_noted still =
      let s = reached p.start (path_at ps b.from) in
      known_noted (b.from, turn.ready.there, ap (part_of (counted p.sought)) (sym (still_stays p.start.scenario b.by s still)))

  -- there are as many paths as there may be
  pub full : p.most ≤ length ps → IsFull p.start p.sought p.most ps ps b.from
  full many = record { visits = turn.ready.visits; near = turn.ready.near; grows = grows_not ps; many = many }

  -- It was tested whether the state that the choice leads to shows what is looked for.
  module _ (moved : is_still (step_by p ps b).outcome ≡ false) (shown : Bool) (decides : Decides shown (Shows p.start.scenario p.sought (state_by p ps b))) where
    -- so it was of the state to which the longer path leads
    decides_path : Decides shown (Shows p.start.scenario p.sought (reached p.start (path_at ps b.from ++ b.by ∷ [])))
    decides_path = subst (λ (x : State). Decides shown (Shows p.start.scenario p.sought x)) (sym (reached_more p.start (path_at ps b.from) b.by)) decides

    -- it does
    pub shown_next : shown ≡ true → ShowsNext p.start p.sought ps ps b.from b.by
    shown_next e = record { shows = decides_path.0 e; moved = moved; grows = grows_not ps }

    -- it does not, and the longer path is taken in
    pub noted : (new : List (List Choice)) → shown ≡ false → new ≡ ps ++ (path_at ps b.from ++ b.by ∷ []) ∷ [] → Notes p.start p.sought ps new b.from b.by
    noted new f e =
        let h = p.start in
        let q = p.sought in
        let cs = path_at ps b.from in
        let longer = cs ++ b.by ∷ [] in
        let one = length-append cs (b.by ∷ []) in
        let v = turn.ready.visits in
        rw e (record {
          visits = visits_push ps longer h q v (path_more h q cs b.by (v.paths b.from turn.ready.there) turn.ready.room moved turn.considered)
              (λ s. false≢true (sym f ∙ decides_path.1 s))
              (λ i below. omega (arith, turn.ready.near.near i below, one)) (apart_push ps longer v.apart turn.fresh);
          near = edge_push ps b.from b.by v.apart turn.ready.near turn.ready.there;
          grows = grows_push ps longer;
          known = subst (IsVisited h q (ps ++ longer ∷ []) (length_at ps b.from + 1)) (reached_more h cs b.by)
              (visited_last h q ps longer (length_at ps b.from + 1) (omega (arith, one)));
          more = inr refl;
        })

-- a choice leads to a state that is known: nothing else changes
pub known_met : (p : Plan) (x : Reached) (b : Branch) (scratch : Scratch) → IsReadyFor p x b scratch → IsKnown p.start p.sought x.tree (state_by p x.tree b)
    → Meets p x.tree x b scratch met.Noted
known_met p x b scratch ready known = record { well = known_noted p x.tree b ready.turn known; informed = ready.informed; machines = ready.machines }
