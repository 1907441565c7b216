-- Where a migration is, and what is on the links then.
use Rattle.std.proofs.Common.{◌≡◌, ℕ, ◌<◌, ◌≤◌, List, [], ◌∷◌, ◌++◌, length, refl, ap, arith, length-append}
use Rattle.zy_model.specs.declared.mode.NodeMode.{NodeMode}
use Rattle.zy_model.specs.declared.mode.NodeMode.TheVariants.{Empty, Normal, SInit, SDual, SFinish, DInit, DDual, DFinish}
use Rattle.zy_model.specs.Messages.{Wire, Ready, Dual, Pull, Page, Finish, Done}
use Rattle.zy_table.specs.State.{NodeState, Leaf, Message}
use Rattle.zy_laws.specs.OneOwner.{times}
use Rattle.zy_laws.specs.Journey.{Begins}

-- links that hold messages of one kind, or these and then one more
abbrev pub AllPages : List Message → Type 0
AllPages [] = Unit {0}
AllPages (Page leaf ∷ ms) = AllPages ms
AllPages ms = ⊥

-- pages and one finish among them
abbrev pub PagesAndFinish : List Message → Type 0
PagesAndFinish [] = ⊥
PagesAndFinish (Page leaf ∷ ms) = PagesAndFinish ms
PagesAndFinish (Finish ∷ ms) = AllPages ms
PagesAndFinish ms = ⊥

-- pulls alone
abbrev pub AllPulls : List Message → Type 0
AllPulls [] = Unit {0}
AllPulls (Pull p ∷ ms) = AllPulls ms
AllPulls ms = ⊥

-- pulls and then one done
abbrev pub PullsAndDone : List Message → Type 0
PullsAndDone [] = ⊥
PullsAndDone (Pull p ∷ ms) = PullsAndDone ms
PullsAndDone (Done ∷ ms) = ms ≡ []
PullsAndDone ms = ⊥

-- every number of the wireframe is there
pub record AllThere (x : NodeState) : Type 0 where
  pub each : (p : ℕ) → p < length x.lows → 1 ≤ times p x.pages

-- a dual, and behind it such messages
abbrev pub DualThen : (List Message → Type 0) → List Message → Type 0
DualThen P [] = ⊥
DualThen P (Dual ∷ ms) = P ms
DualThen P ms = ⊥

-- the stages of a migration, in order
pub data Stage : Type 0 where
  Resting Wire_sent Ready_sent Dual_sent Both_sent In_dual Finish_sent In_finish Done_sent : Stage

-- the source's mode
abbrev pub source_mode : Stage → NodeMode
source_mode Resting = Normal
source_mode Wire_sent = SInit
source_mode Ready_sent = SInit
source_mode Dual_sent = SDual
source_mode In_dual = SDual
source_mode g = SFinish

-- the destination's mode
abbrev pub destination_mode : Stage → NodeMode
destination_mode Resting = Empty
destination_mode Wire_sent = Empty
destination_mode In_dual = DDual
destination_mode Finish_sent = DDual
destination_mode In_finish = DFinish
destination_mode Done_sent = Normal
destination_mode g = DInit

-- the source's low keys begin the destination's, and all pages are there
pub record Arrived (lows : List ℕ) (dst : NodeState) : Type 0 where
  pub begins : Begins lows dst.lows
  pub there : AllThere dst

-- the destination's wireframe beside the source's low keys: none yet, the same, or one that those begin, with all its pages
abbrev pub Lows : Stage → List ℕ → NodeState → Type 0
Lows Resting lows dst = dst.lows ≡ []
Lows Wire_sent lows dst = dst.lows ≡ []
Lows Done_sent lows dst = Arrived lows dst
Lows g lows dst = dst.lows ≡ lows

-- what is on its way to the destination, beside the source's low keys
abbrev pub Out : Stage → List ℕ → List Message → Type 0
Out Wire_sent lows out = out ≡ Wire lows ∷ []
Out Dual_sent lows out = DualThen AllPages out
Out Both_sent lows out = DualThen PagesAndFinish out
Out In_dual lows out = AllPages out
Out Finish_sent lows out = PagesAndFinish out
Out In_finish lows out = AllPages out
Out g lows out = out ≡ []

-- what is on its way back to the source
abbrev pub Back : Stage → List Message → Type 0
Back Ready_sent back = back ≡ Ready ∷ []
Back In_dual back = AllPulls back
Back Finish_sent back = AllPulls back
Back In_finish back = AllPulls back
Back Done_sent back = PullsAndDone back
Back g back = back ≡ []

-- what holds at a stage, from the source to the destination: one field for each column
pub record At (g : Stage) (src dst : NodeState) (going coming : List Message) : Type 0 where
  pub source : src.mode ≡ source_mode g
  pub destination : dst.mode ≡ destination_mode g
  pub lows : Lows g src.lows dst
  pub out : Out g src.lows going
  pub back : Back g coming

-- where a migration is: its stage, and what holds there
pub data Phase (src dst : NodeState) (out back : List Message) : Type 0 where
  Is : (g : Stage) → At g src dst out back → Phase src dst out back

-- pages and one more are pages
pub pages_post : (ms : List Message) (leaf : Leaf) → AllPages ms → AllPages (ms ++ Page leaf ∷ [])
pages_post [] leaf h = tt
pages_post (Page x ∷ ms) leaf h = pages_post ms leaf h
pages_post ms leaf h = absurd h

-- a finish behind pages is a finish among pages
pub finish_post : (ms : List Message) → AllPages ms → PagesAndFinish (ms ++ Finish ∷ [])
finish_post [] h = tt
finish_post (Page x ∷ ms) h = finish_post ms h
finish_post ms h = absurd h

-- a page more leaves one finish among pages
pub pages_finish_post : (ms : List Message) (leaf : Leaf) → PagesAndFinish ms → PagesAndFinish (ms ++ Page leaf ∷ [])
pages_finish_post (Page x ∷ ms) leaf h = pages_finish_post ms leaf h
pages_finish_post (Finish ∷ ms) leaf h = pages_post ms leaf h
pages_finish_post ms leaf h = absurd h

-- pulls and one more are pulls
pub pulls_post : (ms : List Message) (p : ℕ) → AllPulls ms → AllPulls (ms ++ Pull p ∷ [])
pulls_post [] p h = tt
pulls_post (Pull q ∷ ms) p h = pulls_post ms p h
pulls_post ms p h = absurd h

-- a done behind pulls is pulls and then a done
pub done_post : (ms : List Message) → AllPulls ms → PullsAndDone (ms ++ Done ∷ [])
done_post [] h = refl
done_post (Pull q ∷ ms) h = done_post ms h
done_post ms h = absurd h

-- a message more behind a dual
pub dual_post : (P Q : List Message → Type 0) (m : Message) → ((ms : List Message) → P ms → Q (ms ++ m ∷ [])) → (ms : List Message) → DualThen P ms
    → DualThen Q (ms ++ m ∷ [])
dual_post P Q m more (Dual ∷ ms) h = more ms h
dual_post P Q m more ms h = absurd h

-- a list is at least as long as one that begins it
pub begins_length : (xs ys : List ℕ) → Begins xs ys → length xs ≤ length ys
begins_length xs ys b = omega (arith, length-append xs b.more, ap length b.is)
