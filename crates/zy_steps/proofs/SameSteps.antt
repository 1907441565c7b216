-- A step is a move of one side: from states whose sides agree the same comes of a choice.
use Rattle.std.proofs.Common.{◌≡◌, ◌∙◌, ℕ, length, refl, sym, ap, subst}
use Rattle.zy_isa.specs.declared.node.Node.{Node}
use Rattle.zy_isa.specs.declared.node.Node.TheVariants.{A, B}
use Rattle.zy_isa.specs.declared.choice.Choice.{Choice}
use Rattle.zy_isa.specs.declared.choice.Choice.TheVariants.{Start, Begin, Kill, Run, Take, Finish, Push}
use Rattle.zy_isa.specs.Scenario.{Scenario}
use Rattle.zy_table.specs.State.{State, View, Move, Txn, facing, as_step}
use Rattle.zy_table.specs.Change.{txn_at}
use Rattle.zy_table.specs.Play.{move, step, side_of}
use Rattle.zy_steps.specs.Reads.{Agree, SameMove, Changes, seen_by}
use Rattle.zy_steps.proofs.Rest.{face}
use Rattle.zy_steps.proofs.SameMoves.{move_same, move_changes}

-- a move as a step, as its node sees it, is that move
seen_back : (n : Node) (m : Move) → seen_by n (as_step n m) ≡ m
seen_back A m = refl
seen_back B m = refl

-- as many transactions as a state has
many_facing : (n : Node) (s t : State) → length s.txns ≡ length t.txns → length (facing n s).txns ≡ length (facing n t).txns
many_facing A s t many = many
many_facing B s t many = many

module _ (sc : Scenario) where
  -- a start is made from one side
  start_side : (n : Node) (s t : State) → Agree Start (facing n s) (facing n t) → side_of sc Start t ≡ side_of sc Start s
  start_side A s t (me, them) = rw (me, them) refl
  start_side B s t (me, them) = rw (me, them) refl

  -- a kill is made from one side
  kill_side : (n : Node) (u : ℕ) (s t : State) → Agree (Kill u) (facing n s) (facing n t) → side_of sc (Kill u) t ≡ side_of sc (Kill u) s
  unfolding txn_at
  kill_side A u s t (me, txn) = ap (λ (x : Txn). x.node) (sym txn)
  kill_side B u s t (me, txn) = ap (λ (x : Txn). x.node) (sym txn)

  -- a choice is made from one side
  same_side : (c : Choice) (n : Node) (s t : State) → Agree c (facing n s) (facing n t) → side_of sc c t ≡ side_of sc c s
  same_side Start n s t e = start_side n s t e
  same_side (Begin u) n s t e = refl
  same_side (Kill u) n s t e = kill_side n u s t e
  same_side (Run m u) n s t e = refl
  same_side (Take m) n s t e = refl
  same_side (Finish m) n s t e = refl
  same_side (Push m) n s t e = refl

  -- a step, as its side sees it
  seen_step : (c : Choice) (n : Node) (s : State) → side_of sc c s ≡ n → seen_by n (step sc c s) ≡ move sc c (facing n s)
  unfolding step
  seen_step c n s e =
      ap (λ (k : Node). seen_by n (as_step k (move sc c (facing k s)))) e ∙ seen_back n (move sc c (facing n s))

  -- the side and what comes of a step are the same
  pub step_same : (c : Choice) (s t : State) → length s.txns ≡ length t.txns → Agree c (facing (side_of sc c s) s) (facing (side_of sc c s) t)
      → (side_of sc c t ≡ side_of sc c s)
      × SameMove c (facing (side_of sc c s) s) (facing (side_of sc c s) t)
      (seen_by (side_of sc c s) (step sc c s)) (seen_by (side_of sc c s) (step sc c t))
  step_same c s t many e =
      let n = side_of sc c s in
      let v = facing n s in
      let w = facing n t in
      let side = same_side c n s t e in (
        side,
        subst (λ (x : Move). SameMove c v w x (seen_by n (step sc c t))) (sym (seen_step c n s refl))
            (subst (λ (y : Move). SameMove c v w (move sc c v) y) (sym (seen_step c n t side))
            (move_same sc c v w (many_facing n s t many) e)),
      )

  -- what a step changes
  pub step_changes : (c : Choice) (s : State) → Changes c (facing (side_of sc c s) s) (facing (side_of sc c s) (step sc c s).after)
  unfolding step
  step_changes c s =
      let n = side_of sc c s in
      subst (λ (w : View). Changes c (facing n s) w) (sym (face n (move sc c (facing n s)).after)) (move_changes sc c (facing n s))
