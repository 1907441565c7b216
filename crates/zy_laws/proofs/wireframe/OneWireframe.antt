-- What a phase says of the two wireframes, and of one that is on its way.
use Rattle.std.proofs.Common.{◌≡◌, arith, ℕ, List, [], ◌∷◌, true, false, refl, sym, ap, ◌∙◌, subst, inl, inr, append-nil}
use Rattle.std.specs.Prelude.{◌⊎◌}
use Rattle.std.proofs.lemmas.Bool.{false≢true}
use Rattle.zy_model.specs.Families.{is_source}
use Rattle.zy_isa.specs.Scenario.{Scenario}
use Rattle.zy_isa.specs.declared.choice.Choice.{Choice}
use Rattle.zy_isa.specs.declared.node.Node.{Node}
use Rattle.zy_model.specs.declared.mode.NodeMode.TheVariants.{Normal}
use Rattle.zy_model.specs.Messages.{Wire, Dual, Pull, Page, Finish, Done}
use Rattle.zy_laws.specs.Journey.{Begins, OneWireframe, Sent, Wireframes}
use Rattle.zy_table.specs.Play.{opening, play}
use Rattle.zy_table.specs.State.{Message, NodeState, View, facing}
use Rattle.zy_laws.proofs.owner.OneOwner.{inv_from, play_inv}
use Rattle.zy_laws.proofs.owner.Phases.{Back, Is, Lows, Out, Phase, Stage}
use Rattle.zy_laws.proofs.owner.Phases.{destination_mode, source_mode}
use Rattle.zy_laws.proofs.owner.Phases.{Resting, Wire_sent, Ready_sent, Dual_sent, Both_sent, In_dual, Finish_sent, In_finish, Done_sent}
use Rattle.zy_laws.proofs.owner.Roles.{Destination, Roles, Source}

-- the low keys of source and destination
record Framed (src dst : NodeState) (out back : List Message) : Type 0 where
  one : (dst.lows ≡ []) ⊎ (is_source src.mode ≡ true)
  last : is_source dst.mode ≡ false
  begins : (dst.lows ≡ []) ⊎ Begins src.lows dst.lows
  same : (dst.lows ≡ []) ⊎ ((dst.mode ≡ Normal) ⊎ (dst.lows ≡ src.lows))
  sent : Sent src out
  back_sent : Sent dst back

-- a list begins itself
pub no_more : (xs ys : List ℕ) → ys ≡ xs → Begins xs ys
no_more xs ys e = record { more = []; is = e ∙ sym (append-nil xs) }

-- a destination with low keys has a source beside it
one_at : (g : Stage) (lows : List ℕ) (dst : NodeState) → Lows g lows dst → (dst.lows ≡ []) ⊎ (is_source (source_mode g) ≡ true)
one_at Resting lows dst h = inl h
one_at g lows dst h = inr refl

-- the destination is no source
last_at : (g : Stage) → is_source (destination_mode g) ≡ false
last_at Resting = refl
last_at g = refl

-- the source's low keys begin the destination's, if it has any
begins_at : (g : Stage) (lows : List ℕ) (dst : NodeState) → Lows g lows dst → (dst.lows ≡ []) ⊎ Begins lows dst.lows
begins_at Resting lows dst h = inl h
begins_at Wire_sent lows dst h = inl h
begins_at Done_sent lows dst h = inr h.begins
begins_at g lows dst h = inr (no_more _ _ h)

-- at each stage the destination has no low keys, or is Normal, or has those of the source
same_at : (g : Stage) (lows : List ℕ) (dst : NodeState) → Lows g lows dst → (dst.lows ≡ []) ⊎ ((destination_mode g ≡ Normal) ⊎ (dst.lows ≡ lows))
same_at Resting lows dst h = inl h
same_at Wire_sent lows dst h = inl h
same_at Done_sent lows dst h = inr (inl refl)
same_at g lows dst h = inr (inr h)

-- a wireframe on its way to the destination is the source's
sent_at : (g : Stage) (src : NodeState) (ms : List Message) → src.mode ≡ source_mode g → Out g src.lows ms → Sent src ms
sent_at g src [] mode h = tt
sent_at Wire_sent src (Wire lows ∷ ms) mode h = subst (Sent src) (sym h) (ap is_source mode, refl, tt)
sent_at Dual_sent src (Dual ∷ ms) mode h = sent_at In_dual src ms mode h
sent_at Both_sent src (Dual ∷ ms) mode h = sent_at Finish_sent src ms mode h
sent_at In_dual src (Page leaf ∷ ms) mode h = sent_at In_dual src ms mode h
sent_at Finish_sent src (Page leaf ∷ ms) mode h = sent_at Finish_sent src ms mode h
sent_at Finish_sent src (Finish ∷ ms) mode h = sent_at In_finish src ms mode h
sent_at In_finish src (Page leaf ∷ ms) mode h = sent_at In_finish src ms mode h
sent_at g src (m ∷ ms) mode h = grind (arith, h)

-- no wireframe is on its way back
back_at : (g : Stage) (dst : NodeState) (ms : List Message) → Back g ms → Sent dst ms
back_at g dst [] h = tt
back_at Ready_sent dst ms h = subst (Sent dst) (sym h) tt
back_at In_dual dst (Pull p ∷ ms) h = back_at In_dual dst ms h
back_at Finish_sent dst (Pull p ∷ ms) h = back_at Finish_sent dst ms h
back_at In_finish dst (Pull p ∷ ms) h = back_at In_finish dst ms h
back_at Done_sent dst (Pull p ∷ ms) h = back_at Done_sent dst ms h
back_at Done_sent dst (Done ∷ ms) h = subst (Sent dst) (sym h) tt
back_at g dst (m ∷ ms) h = grind (arith, h)

-- each phase of a migration is framed
framed : (src dst : NodeState) (out back : List Message) → Phase src dst out back → Framed src dst out back
framed src dst out back (Is g at) = record {
  one = rw at.source (one_at g src.lows dst at.lows);
  last = ap is_source at.destination ∙ last_at g;
  begins = begins_at g src.lows dst at.lows;
  same = rw at.destination (same_at g src.lows dst at.lows);
  sent = sent_at g src out at.source at.out;
  back_sent = back_at g dst back at.back;
}

-- what roles say of the two wireframes
pub wireframes : (v : View) → Roles v → Wireframes v
wireframes v (Source ph) =
    let f = framed v.me v.them v.outbox v.inbox ph in
    record { one = elim f.one [ inl e ↦ inr (inl e) | inr e ↦ inr (inr (inl e)) ]; begins = λ _. f.begins; same = λ _. f.same; sent = f.sent }
wireframes v (Destination ph) =
    let f = framed v.them v.me v.inbox v.outbox ph in
    record {
      one = elim f.one [ inl e ↦ inl e | inr e ↦ inr (inr (inr e)) ];
      begins = λ s. absurd (false≢true (sym f.last ∙ s));
      same = λ s. absurd (false≢true (sym f.last ∙ s));
      sent = f.back_sent;
    }

-- at most one node is a source
pub one_of : (v : View) → Roles v → is_source v.me.mode ≡ true → is_source v.them.mode ≡ false
one_of v (Source ph) s = (framed v.me v.them v.outbox v.inbox ph).last
one_of v (Destination ph) s = absurd (false≢true (sym (framed v.them v.me v.inbox v.outbox ph).last ∙ s))

-- the law: at most one node is a source
pub one_source : (sc : Scenario) (cs : List Choice) (n : Node) → let s = play sc (opening sc) cs in
    is_source (facing n s).me.mode ≡ true → is_source (facing n s).them.mode ≡ false
one_source sc cs n = let s = play sc (opening sc) cs in one_of (facing n s) (inv_from n s (play_inv sc cs)).roles

-- the law: of two wireframes one is the source's, which begins the other
pub one_wireframe : (sc : Scenario) (cs : List Choice) → OneWireframe (play sc (opening sc) cs)
one_wireframe sc cs n = let s = play sc (opening sc) cs in wireframes (facing n s) (inv_from n s (play_inv sc cs)).roles
