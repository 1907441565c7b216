-- The lines of the mode table, one lemma for each kind of message.
use Rattle.std.proofs.Common.{◌≡◌, Bool, true, false, ap, refl, inl, inr}
use Rattle.std.specs.Prelude.{◌⊎◌, Some, None, unwrap_or}
use Rattle.std.proofs.lemmas.Bool.{cond_both, false≢true}
use Rattle.zy_isa.specs.declared.version.Version.{Version}
use Rattle.zy_isa.specs.declared.version.Version.TheVariants.{One}
use Rattle.zy_model.specs.Families.{is_bare, is_sending, is_source, is_taker}
use Rattle.zy_isa.specs.declared.node.Node.TheVariants.{A}
use Rattle.zy_model.specs.declared.mode.NodeMode.{NodeMode}
use Rattle.zy_model.specs.declared.mode.NodeMode.TheVariants.{Empty, Normal, SInit, SDual, SFinish, DInit, DDual, DFinish}
use Rattle.zy_model.specs.declared.kind.Kind.TheVariants as kind
use Rattle.zy_model.specs.declared.table.MessageLine.TheVariants.{Stray, Turns}
use Rattle.zy_model.specs.Table.{may_start, on_message, on_start, may_split, may_pull, may_push}

-- a wireframe is stray but in Empty, which turns to DInit and answers ready
pub wire_line : (mode : NodeMode) (all : Bool) → (on_message mode kind.Wire all ≡ Stray)
    ⊎ ((mode ≡ Empty) × (on_message mode kind.Wire all ≡ Turns DInit (Some kind.Ready)))
wire_line Empty all = inr (refl, refl)
wire_line mode all = inl refl

-- a ready is stray but in SInit, which turns to SDual and answers dual
pub ready_line : (mode : NodeMode) (all : Bool) → (on_message mode kind.Ready all ≡ Stray)
    ⊎ ((mode ≡ SInit) × (on_message mode kind.Ready all ≡ Turns SDual (Some kind.Dual)))
ready_line SInit all = inr (refl, refl)
ready_line mode all = inl refl

-- a dual is stray but in DInit, which turns to DDual
pub dual_line : (mode : NodeMode) (all : Bool) → (on_message mode kind.Dual all ≡ Stray) ⊎ ((mode ≡ DInit) × (on_message mode kind.Dual all ≡ Turns DDual None))
dual_line DInit all = inr (refl, refl)
dual_line mode all = inl refl

-- a pull is stray but in a mode that sends, which answers with the page
pub pull_line : (mode : NodeMode) (all : Bool) → (on_message mode kind.Pull all ≡ Stray)
    ⊎ ((is_sending mode ≡ true) × ((to : NodeMode) × (on_message mode kind.Pull all ≡ Turns to (Some kind.Page))))
pull_line SDual all = inr (refl, (SDual, refl))
pull_line SFinish all = inr (refl, (SFinish, refl))
pull_line mode all = inl refl

-- a page is stray but in a mode that takes pages; the last one turns DFinish to Normal, which answers done, and no other does
pub page_line : (mode : NodeMode) (all : Bool) → (on_message mode kind.Page all ≡ Stray)
    ⊎ (((may_pull mode ≡ true) × (mode ≡ DFinish → all ≡ false) × (on_message mode kind.Page all ≡ Turns mode None))
    ⊎ ((mode ≡ DFinish) × (all ≡ true) × (on_message mode kind.Page all ≡ Turns Normal (Some kind.Done))))
page_line DDual all = inr (inl (refl, (λ e. cc), refl))
page_line DFinish false = inr (inl (refl, (λ _. refl), refl))
page_line DFinish true = inr (inr (refl, refl, refl))
page_line mode all = inl refl

-- a finish is stray but in DDual, which turns to Normal with all pages here, and else to DFinish
pub finish_line : (mode : NodeMode) (all : Bool) → (on_message mode kind.Finish all ≡ Stray)
    ⊎ ((mode ≡ DDual) × (((all ≡ false) × (on_message mode kind.Finish all ≡ Turns DFinish None))
    ⊎ ((all ≡ true) × (on_message mode kind.Finish all ≡ Turns Normal (Some kind.Done)))))
finish_line DDual false = inr (refl, inl (refl, refl))
finish_line DDual true = inr (refl, inr (refl, refl))
finish_line mode all = inl refl

-- a done is stray but in SFinish, which turns to Empty
pub done_line : (mode : NodeMode) (all : Bool) → (on_message mode kind.Done all ≡ Stray)
    ⊎ ((mode ≡ SFinish) × (on_message mode kind.Done all ≡ Turns Empty None))
done_line SFinish all = inr (refl, refl)
done_line mode all = inl refl

-- what the tests of a mode say
pub splits_in_normal : (mode : NodeMode) → may_split mode ≡ true → mode ≡ Normal
splits_in_normal Normal h = refl
splits_in_normal mode h = absurd (false≢true h)

-- pages are pushed in SFinish alone
pub pushes_in_finish : (mode : NodeMode) → may_push mode ≡ true → mode ≡ SFinish
pushes_in_finish SFinish h = refl
pushes_in_finish mode h = absurd (false≢true h)

-- pages are asked for in DDual and DFinish alone
pub pulls_in : (mode : NodeMode) → may_pull mode ≡ true → (mode ≡ DDual) ⊎ (mode ≡ DFinish)
pulls_in DDual h = inl refl
pulls_in DFinish h = inr refl
pulls_in mode h = absurd (false≢true h)

-- pulls are answered in SDual and SFinish alone
pub sends_in : (mode : NodeMode) → is_sending mode ≡ true → (mode ≡ SDual) ⊎ (mode ≡ SFinish)
sends_in SDual h = inl refl
sends_in SFinish h = inr refl
sends_in mode h = absurd (false≢true h)

-- a migration from Normal starts only to a node in Empty
starts_with : (b : NodeMode) → may_start Normal b ≡ true → b ≡ Empty
starts_with Empty h = refl
starts_with mode h = absurd (false≢true h)

-- a migration starts only from Normal to Empty
pub starts_from : (a b : NodeMode) → may_start a b ≡ true → (a ≡ Normal) × (b ≡ Empty)
starts_from Normal b h = (refl, starts_with b h)
starts_from mode b h = absurd (false≢true h)

-- in version 1 a migration starts from A
pub starts_at_a : (a b : NodeMode) (version : Version) → version ≡ One → unwrap_or (on_start a b version) A ≡ A
starts_at_a a b version one = rw one (cond_both (may_start a b) (Some A) None (λ o. unwrap_or o A ≡ A) (λ _. refl) (λ _. refl))

-- a mode that sends pages is a source's
pub sends_source : (m : NodeMode) → is_sending m ≡ true → is_source m ≡ true
sends_source m s = elim (sends_in m s) [ inl e ↦ ap is_source e | inr e ↦ ap is_source e ]

-- who may ask for pages is a destination that takes them
pub pulls_taker : (m : NodeMode) → may_pull m ≡ true → is_taker m ≡ true
pulls_taker m s = elim (pulls_in m s) [ inl e ↦ ap is_taker e | inr e ↦ ap is_taker e ]

-- who may ask for pages is in no bare mode
pub pulls_bare : (m : NodeMode) → may_pull m ≡ true → is_bare m ≡ false
pulls_bare m s = elim (pulls_in m s) [ inl e ↦ ap is_bare e | inr e ↦ ap is_bare e ]
