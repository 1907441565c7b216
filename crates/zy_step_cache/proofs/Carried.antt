-- A step carries over from one state to another: what it wrote there it writes here, and leaves the rest.
use Rattle.std.proofs.Common.{◌≡◌, ◌∙◌, ◌⊎◌, inl, inr, ℕ, zero, suc, List, [], ◌∷◌, ◌++◌, length, map, drop, Option, Some, None, slice_get, slice_set, refl, sym, ap, arith}
use Rattle.zy_isa.specs.declared.node.Node.{Node}
use Rattle.zy_isa.specs.declared.node.Node.TheVariants.{A, B}
use Rattle.zy_isa.specs.declared.choice.Choice.TheVariants.{Start, Begin, Kill, Run, Take, Finish, Push}
use Rattle.zy_isa.specs.Scenario.{Scenario}
use Rattle.zy_model.specs.Messages.{Message}
use Rattle.zy_table.specs.declared.entry.CommitRecord.{CommitRecord}
use Rattle.zy_table.specs.State.{State, View, Txn, seen_from, other}
use Rattle.zy_table.specs.Change.{txn_at}
use Rattle.zy_table.specs.Play.{move}
use Rattle.zy_steps.specs.declared.part.StatePart.{StatePart}
use Rattle.zy_steps.specs.declared.part.StatePart.TheVariants.{Whole, Live}
use Rattle.zy_steps.specs.Alike.{txn_part, txns_part}
use Rattle.zy_state_ids.specs.Packed.{node_state, items, message, commit, txn}
use Rattle.zy_state_ids.proofs.Codecs.{IsCode}
use Rattle.zy_steps.specs.Reads.{SameMove, Changes}
use Rattle.zy_step_cache.specs.Places.{node_place, link_place, commits_place, txn_place}
use Rattle.zy_step_cache.proofs.Offside.{part_at}
use Rattle.zy_step_cache.proofs.Sides.{me_at, them_at, outbox_at, inbox_at, commits_at, txn_in, txn_at_place, off_view}

-- ---- lists

-- nothing was put behind
nothing : {T : Type 0} (xs ms : List T) → xs ≡ xs ++ ms → ms ≡ []
nothing [] ms e = sym e
nothing (x ∷ xs) ms e = let behind : xs ≡ xs ++ ms = ap (drop 1) e in nothing xs ms behind

-- so nothing is here
nil_behind : {T : Type 0} (ys : List T) → ys ++ [] ≡ ys
nil_behind [] = refl
nil_behind (y ∷ ys) = ap (λ zs. y ∷ zs) (nil_behind ys)

-- what is put behind one list and leaves it leaves another
left : {T : Type 0} (xs xs' ys ys' ms : List T) → xs' ≡ xs ++ ms → ys' ≡ ys ++ ms → xs ≡ xs' → ys ≡ ys'
left xs xs' ys ys' ms e f same =
    let none = nothing xs ms (same ∙ e) in sym (f ∙ ap (λ zs. ys ++ zs) none ∙ nil_behind ys)

-- some of an option
pub of_some : {T : Type 0} (x y : T) → Some x ≡ Some y → x ≡ y
of_some x y e = ap (λ o. elim_or x o) e
  where
    elim_or : {T : Type 0} → T → Option T → T
    elim_or d None = d
    elim_or d (Some z) = z

-- the same bytes code the same
pub told : {T : Type 0} (f : T → List ℕ) → IsCode f → (x y : T) → Some (f x) ≡ Some (f y) → x ≡ y
told f code x y e = (code x y [] [] (ap (λ z. z ++ []) (of_some (f x) (f y) e))).0

-- ---- where one transaction is set

-- it is the same in two lists as long
set_here : {T U : Type 0} (f : T → U) (xs ys : List T) (u : ℕ) (x : T) → length xs ≡ length ys
    → slice_get (map f (slice_set xs u x)) u ≡ slice_get (map f (slice_set ys u x)) u
set_here f [] [] u x e = refl
set_here f [] (y ∷ ys) u x e = absurd (omega (arith, e))
set_here f (z ∷ xs) [] u x e = absurd (omega (arith, e))
set_here f (z ∷ xs) (y ∷ ys) zero x e = refl
set_here f (z ∷ xs) (y ∷ ys) (suc u) x e = set_here f xs ys u x (omega (arith, e))

-- others are as they were
set_there : {T U : Type 0} (f : T → U) (xs : List T) (t u : ℕ) (x : T) → (u ≡ t → ⊥) → slice_get (map f (slice_set xs t x)) u ≡ slice_get (map f xs) u
set_there f [] t u x n = refl
set_there f (y ∷ ys) zero zero x n = absurd (n refl)
set_there f (y ∷ ys) zero (suc u) x n = refl
set_there f (y ∷ ys) (suc t) zero x n = refl
set_there f (y ∷ ys) (suc t) (suc u) x n = set_there f ys t u x (λ e. n (ap suc e))

-- the part of each transaction
abbrev of_each : StatePart → Txn → List ℕ
of_each part x = txn (txn_part part x)

each_part : (part : StatePart) (xs : List Txn) → map txn (txns_part part xs) ≡ map (of_each part) xs
each_part Whole [] = refl
each_part Whole (x ∷ xs) = ap (λ ys. txn x ∷ ys) (each_part Whole xs)
each_part Live [] = refl
each_part Live (x ∷ xs) = ap (λ ys. of_each Live x ∷ ys) (each_part Live xs)

module _ (part : StatePart) where
  -- the part of one that is set is the same in two lists as long
  part_here : (xs ys : List Txn) (u : ℕ) (x : Txn) → length xs ≡ length ys
      → slice_get (map txn (txns_part part (slice_set xs u x))) u ≡ slice_get (map txn (txns_part part (slice_set ys u x))) u
  part_here xs ys u x e =
      ap (λ zs. slice_get zs u) (each_part part (slice_set xs u x)) ∙ set_here (of_each part) xs ys u x e
      ∙ sym (ap (λ zs. slice_get zs u) (each_part part (slice_set ys u x)))

  -- those of the others are as they were
  part_there : (xs : List Txn) (t u : ℕ) (x : Txn) → (u ≡ t → ⊥)
      → slice_get (map txn (txns_part part xs)) u ≡ slice_get (map txn (txns_part part (slice_set xs t x))) u
  part_there xs t u x n =
      ap (λ zs. slice_get zs u) (each_part part xs) ∙ sym (set_there (of_each part) xs t u x n)
      ∙ sym (ap (λ zs. slice_get zs u) (each_part part (slice_set xs t x)))

  -- ---- transaction u is set in two views, to the same

  module _ (u : ℕ) (v w v' w' : View) (many : length v.txns ≡ length w.txns) (cv : v'.txns ≡ slice_set v.txns u (txn_at v' u))
      (cw : w'.txns ≡ slice_set w.txns u (txn_at w' u)) where
    pub set_alike : txn_at v' u ≡ txn_at w' u → txn_in part v' u ≡ txn_in part w' u
    set_alike same =
        ap (λ xs. slice_get (map txn (txns_part part xs)) u) cv ∙ part_here v.txns w.txns u (txn_at v' u) many
        ∙ ap (λ x. slice_get (map txn (txns_part part (slice_set w.txns u x))) u) same
        ∙ sym (ap (λ xs. slice_get (map txn (txns_part part xs)) u) cw)

    pub others_stay : (i : ℕ) → (i ≡ u → ⊥) → txn_in part w i ≡ txn_in part w' i
    others_stay i n =
        part_there w.txns u i (txn_at w' u) n ∙ sym (ap (λ xs. slice_get (map txn (txns_part part xs)) i) cw)

-- ---- what carries over

-- one of four places
abbrev pub IsAmong : ℕ → ℕ → ℕ → ℕ → ℕ → Type 0
IsAmong p q r z i = (i ≡ p) ⊎ ((i ≡ q) ⊎ ((i ≡ r) ⊎ (i ≡ z)))

not_among : (p q r z i : ℕ) → (i ≡ p → ⊥) → (i ≡ q → ⊥) → (i ≡ r → ⊥) → (i ≡ z → ⊥) → IsAmong p q r z i → ⊥
not_among p q r z i np nq nr nz (inl e) = np e
not_among p q r z i np nq nr nz (inr (inl e)) = nq e
not_among p q r z i np nq nr nz (inr (inr (inl e))) = nr e
not_among p q r z i np nq nr nz (inr (inr (inr e))) = nz e

-- a step that led to a state s carries over to one from t to u: at four places s and u have the same parts, and off these u has those of t
pub record Carries (part : StatePart) (s t u : State) (p q r z : ℕ) : Type 0 where
  pub first : part_at part s p ≡ part_at part u p
  pub second : part_at part s q ≡ part_at part u q
  pub third : part_at part s r ≡ part_at part u r
  pub fourth : part_at part s z ≡ part_at part u z
  pub off : (i : ℕ) → (i ≡ p → ⊥) → (i ≡ q → ⊥) → (i ≡ r → ⊥) → (i ≡ z → ⊥) → part_at part t i ≡ part_at part u i

-- two moves: from v to v', and from w to w'
module _ (part : StatePart) (x : Node) (v w v' w' : View) where
  -- the node is the same after both
  node_same : v'.me ≡ w'.me → part_at part (seen_from x v') (node_place x) ≡ part_at part (seen_from x w') (node_place x)
  node_same e = me_at part x v' ∙ ap (λ y. Some (node_state y)) e ∙ sym (me_at part x w')

  them_same : v'.them ≡ w'.them → part_at part (seen_from x v') (node_place (other x)) ≡ part_at part (seen_from x w') (node_place (other x))
  them_same e = them_at part x v' ∙ ap (λ y. Some (node_state y)) e ∙ sym (them_at part x w')

  -- the outbound link, where it was the same before
  outbox_same : (ms : List Message) → v'.outbox ≡ v.outbox ++ ms → w'.outbox ≡ w.outbox ++ ms → v.outbox ≡ w.outbox
      → part_at part (seen_from x v') (link_place x) ≡ part_at part (seen_from x w') (link_place x)
  outbox_same ms e f same =
      outbox_at part x v' ∙ ap (λ zs. Some (items message zs)) (e ∙ ap (λ zs. zs ++ ms) same ∙ sym f) ∙ sym (outbox_at part x w')

  -- the inbound link, where it was
  inbox_same : (k : ℕ) → v'.inbox ≡ drop k v.inbox → w'.inbox ≡ drop k w.inbox → v.inbox ≡ w.inbox
      → part_at part (seen_from x v') (link_place (other x)) ≡ part_at part (seen_from x w') (link_place (other x))
  inbox_same k e f same =
      inbox_at part x v' ∙ ap (λ zs. Some (items message zs)) (e ∙ ap (drop k) same ∙ sym f) ∙ sym (inbox_at part x w')

  -- the commits, where they were
  commits_same : (cs : List CommitRecord) → v'.commits ≡ v.commits ++ cs → w'.commits ≡ w.commits ++ cs → v.commits ≡ w.commits
      → part_at part (seen_from x v') commits_place ≡ part_at part (seen_from x w') commits_place
  commits_same cs e f same =
      commits_at part x v' ∙ ap (λ zs. Some (items commit zs)) (e ∙ ap (λ zs. zs ++ cs) same ∙ sym f) ∙ sym (commits_at part x w')

  -- the transaction that is set
  txn_same : (u : ℕ) → txn_in part v' u ≡ txn_in part w' u
      → part_at part (seen_from x v') (txn_place u) ≡ part_at part (seen_from x w') (txn_place u)
  txn_same u e = txn_at_place part x v' u ∙ e ∙ sym (txn_at_place part x w' u)

-- ---- each choice

module _ (part : StatePart) (sc : Scenario) (x : Node) (v w : View) (many : length v.txns ≡ length w.txns) where
  -- a run, in its scope
  module _ (u : ℕ) (same : SameMove (Run x u) v w (move sc (Run x u) v) (move sc (Run x u) w))
      (cv : Changes (Run x u) v (move sc (Run x u) v).after) (cw : Changes (Run x u) w (move sc (Run x u) w).after) where
    abbrev rv : View
    rv = (move sc (Run x u) v).after

    abbrev rw : View
    rw = (move sc (Run x u) w).after

    run_node : part_at part (seen_from x rv) (node_place x) ≡ part_at part (seen_from x rw) (node_place x)
    run_node = node_same part x v w rv rw same.me

    run_txn : part_at part (seen_from x rv) (txn_place u) ≡ part_at part (seen_from x rw) (txn_place u)
    run_txn = txn_same part x v w rv rw u (set_alike part u v w rv rw many (ap (λ y. y.txns) cv) (ap (λ y. y.txns) cw) same.txn)

    run_off : (q r z : ℕ) → ((IsAmong (node_place x) q r z (link_place x) → ⊥) → w.outbox ≡ rw.outbox)
        → ((IsAmong (node_place x) q r z commits_place → ⊥) → w.commits ≡ rw.commits) → (txn_place u ≡ q)
        → (i : ℕ) → (IsAmong (node_place x) q r z i → ⊥) → part_at part (seen_from x w) i ≡ part_at part (seen_from x rw) i
    run_off q r z outbox commits txn =
        off_view part x w rw (IsAmong (node_place x) q r z) (λ n. absurd (n (inl refl))) (λ n. sym (ap (λ y. y.them) cw)) outbox
        (λ n. sym (ap (λ y. y.inbox) cw)) commits
        (λ i n. others_stay part u v w rv rw many (ap (λ y. y.txns) cv) (ap (λ y. y.txns) cw) i (λ e. n (inr (inl (ap txn_place e ∙ txn)))))

    outbox_left : v.outbox ≡ rv.outbox → w.outbox ≡ rw.outbox
    outbox_left e = left v.outbox rv.outbox w.outbox rw.outbox same.posts.0 same.posts.1.0 same.posts.1.1 e

    commits_left : v.commits ≡ rv.commits → w.commits ≡ rw.commits
    commits_left e = left v.commits rv.commits w.commits rw.commits same.commits.0 same.commits.1.0 same.commits.1.1 e

    pub run_own : v.outbox ≡ rv.outbox → v.commits ≡ rv.commits
        → Carries part (seen_from x rv) (seen_from x w) (seen_from x rw) (node_place x) (txn_place u) (txn_place u) (txn_place u)
    run_own outbox commits = record {
      first = run_node;
      second = run_txn;
      third = run_txn;
      fourth = run_txn;
      off = λ i np nq nr nz. run_off (txn_place u) (txn_place u) (txn_place u) (λ n. outbox_left outbox) (λ n. commits_left commits) refl i
          (not_among (node_place x) (txn_place u) (txn_place u) (txn_place u) i np nq nr nz);
    }

    pub run_link : v.outbox ≡ w.outbox → v.commits ≡ rv.commits
        → Carries part (seen_from x rv) (seen_from x w) (seen_from x rw) (node_place x) (txn_place u) (link_place x) (link_place x)
    run_link outbox commits = record {
      first = run_node;
      second = run_txn;
      third = outbox_same part x v w rv rw same.posts.0 same.posts.1.0 same.posts.1.1 outbox;
      fourth = outbox_same part x v w rv rw same.posts.0 same.posts.1.0 same.posts.1.1 outbox;
      off = λ i np nq nr nz. run_off (txn_place u) (link_place x) (link_place x) (λ n. absurd (n (inr (inr (inl refl))))) (λ n. commits_left commits) refl i
          (not_among (node_place x) (txn_place u) (link_place x) (link_place x) i np nq nr nz);
    }

    pub run_commits : v.outbox ≡ rv.outbox → v.commits ≡ w.commits
        → Carries part (seen_from x rv) (seen_from x w) (seen_from x rw) (node_place x) (txn_place u) commits_place commits_place
    run_commits outbox commits = record {
      first = run_node;
      second = run_txn;
      third = commits_same part x v w rv rw same.commits.0 same.commits.1.0 same.commits.1.1 commits;
      fourth = commits_same part x v w rv rw same.commits.0 same.commits.1.0 same.commits.1.1 commits;
      off = λ i np nq nr nz. run_off (txn_place u) commits_place commits_place (λ n. outbox_left outbox) (λ n. absurd (n (inr (inr (inl refl))))) refl i
          (not_among (node_place x) (txn_place u) commits_place commits_place i np nq nr nz);
    }

  -- a take
  pub take_carries : SameMove (Take x) v w (move sc (Take x) v) (move sc (Take x) w) → Changes (Take x) w (move sc (Take x) w).after
      → v.outbox ≡ w.outbox → v.inbox ≡ w.inbox
      → Carries part (seen_from x (move sc (Take x) v).after) (seen_from x w) (seen_from x (move sc (Take x) w).after) (node_place x) (link_place x)
      (link_place (other x)) (link_place (other x))
  take_carries same cw outbox inbox =
      let v' = (move sc (Take x) v).after in
      let w' = (move sc (Take x) w).after in
      record {
        first = node_same part x v w v' w' same.me;
        second = outbox_same part x v w v' w' same.posts.0 same.posts.1.0 same.posts.1.1 outbox;
        third = inbox_same part x v w v' w' same.taken.0 same.taken.1.0 same.taken.1.1 inbox;
        fourth = inbox_same part x v w v' w' same.taken.0 same.taken.1.0 same.taken.1.1 inbox;
        off = λ i np nq nr nz. off_view part x w w' (IsAmong (node_place x) (link_place x) (link_place (other x)) (link_place (other x)))
            (λ n. absurd (n (inl refl))) (λ n. sym (ap (λ y. y.them) cw)) (λ n. absurd (n (inr (inl refl)))) (λ n. absurd (n (inr (inr (inl refl)))))
            (λ n. sym (ap (λ y. y.commits) cw)) (λ u n. ap (λ ys. slice_get (map txn (txns_part part ys)) u) (sym (ap (λ y. y.txns) cw))) i
            (not_among (node_place x) (link_place x) (link_place (other x)) (link_place (other x)) i np nq nr nz);
      }

  -- a finish or a push: a step that changes the node and sends
  sends_carries : (v' w' : View) (ms : List Message) → v'.me ≡ w'.me → v'.outbox ≡ v.outbox ++ ms → w'.outbox ≡ w.outbox ++ ms
      → w' ≡ record w { me = w'.me; outbox = w'.outbox } → v.outbox ≡ w.outbox
      → Carries part (seen_from x v') (seen_from x w) (seen_from x w') (node_place x) (link_place x) (link_place x) (link_place x)
  sends_carries v' w' ms me e f cw outbox = record {
    first = node_same part x v w v' w' me;
    second = outbox_same part x v w v' w' ms e f outbox;
    third = outbox_same part x v w v' w' ms e f outbox;
    fourth = outbox_same part x v w v' w' ms e f outbox;
    off = λ i np nq nr nz. off_view part x w w' (IsAmong (node_place x) (link_place x) (link_place x) (link_place x)) (λ n. absurd (n (inl refl)))
        (λ n. sym (ap (λ y. y.them) cw)) (λ n. absurd (n (inr (inl refl)))) (λ n. sym (ap (λ y. y.inbox) cw)) (λ n. sym (ap (λ y. y.commits) cw))
        (λ u n. ap (λ ys. slice_get (map txn (txns_part part ys)) u) (sym (ap (λ y. y.txns) cw))) i
        (not_among (node_place x) (link_place x) (link_place x) (link_place x) i np nq nr nz);
  }

  pub finish_carries : SameMove (Finish x) v w (move sc (Finish x) v) (move sc (Finish x) w) → Changes (Finish x) w (move sc (Finish x) w).after
      → v.outbox ≡ w.outbox
      → Carries part (seen_from x (move sc (Finish x) v).after) (seen_from x w) (seen_from x (move sc (Finish x) w).after) (node_place x) (link_place x)
      (link_place x) (link_place x)
  finish_carries same cw outbox = sends_carries (move sc (Finish x) v).after (move sc (Finish x) w).after same.posts.0 same.me same.posts.1.0 same.posts.1.1 cw outbox

  pub push_carries : SameMove (Push x) v w (move sc (Push x) v) (move sc (Push x) w) → Changes (Push x) w (move sc (Push x) w).after
      → v.outbox ≡ w.outbox
      → Carries part (seen_from x (move sc (Push x) v).after) (seen_from x w) (seen_from x (move sc (Push x) w).after) (node_place x) (link_place x)
      (link_place x) (link_place x)
  push_carries same cw outbox = sends_carries (move sc (Push x) v).after (move sc (Push x) w).after same.posts.0 same.me same.posts.1.0 same.posts.1.1 cw outbox

  -- a kill of an active transaction, seen from its node
  pub kill_carries : (u : ℕ) → SameMove (Kill u) v w (move sc (Kill u) v) (move sc (Kill u) w) → Changes (Kill u) v (move sc (Kill u) v).after
      → Changes (Kill u) w (move sc (Kill u) w).after
      → Carries part (seen_from x (move sc (Kill u) v).after) (seen_from x w) (seen_from x (move sc (Kill u) w).after) (txn_place u) (node_place x)
      (node_place x) (node_place x)
  kill_carries u same cv cw =
      let v' = (move sc (Kill u) v).after in
      let w' = (move sc (Kill u) w).after in
      record {
        first = txn_same part x v w v' w' u (set_alike part u v w v' w' many (ap (λ y. y.txns) cv) (ap (λ y. y.txns) cw) same.txn);
        second = node_same part x v w v' w' same.me;
        third = node_same part x v w v' w' same.me;
        fourth = node_same part x v w v' w' same.me;
        off = λ i np nq nr nz. off_view part x w w' (IsAmong (txn_place u) (node_place x) (node_place x) (node_place x))
            (λ n. absurd (n (inr (inl refl)))) (λ n. sym (ap (λ y. y.them) cw)) (λ n. sym (ap (λ y. y.outbox) cw)) (λ n. sym (ap (λ y. y.inbox) cw))
            (λ n. sym (ap (λ y. y.commits) cw))
            (λ t n. others_stay part u v w v' w' many (ap (λ y. y.txns) cv) (ap (λ y. y.txns) cw) t (λ e. n (inl (ap txn_place e)))) i
            (not_among (txn_place u) (node_place x) (node_place x) (node_place x) i np nq nr nz);
      }

  -- a begin
  pub begin_carries : (u : ℕ) → SameMove (Begin u) v w (move sc (Begin u) v) (move sc (Begin u) w) → Changes (Begin u) v (move sc (Begin u) v).after
      → Changes (Begin u) w (move sc (Begin u) w).after
      → Carries part (seen_from x (move sc (Begin u) v).after) (seen_from x w) (seen_from x (move sc (Begin u) w).after) (txn_place u) (txn_place u)
      (txn_place u) (txn_place u)
  begin_carries u same cv cw =
      let v' = (move sc (Begin u) v).after in
      let w' = (move sc (Begin u) w).after in
      let here = txn_same part x v w v' w' u (set_alike part u v w v' w' many (ap (λ y. y.txns) cv) (ap (λ y. y.txns) cw) same.txn) in
      record {
        first = here;
        second = here;
        third = here;
        fourth = here;
        off = λ i np nq nr nz. off_view part x w w' (IsAmong (txn_place u) (txn_place u) (txn_place u) (txn_place u))
            (λ n. sym (ap (λ y. y.me) cw)) (λ n. sym (ap (λ y. y.them) cw)) (λ n. sym (ap (λ y. y.outbox) cw)) (λ n. sym (ap (λ y. y.inbox) cw))
            (λ n. sym (ap (λ y. y.commits) cw))
            (λ t n. others_stay part u v w v' w' many (ap (λ y. y.txns) cv) (ap (λ y. y.txns) cw) t (λ e. n (inl (ap txn_place e)))) i
            (not_among (txn_place u) (txn_place u) (txn_place u) (txn_place u) i np nq nr nz);
      }

  -- a start, seen from the node that starts, if one does
  start_off : SameMove Start v w (move sc Start v) (move sc Start w) → Changes Start v (move sc Start v).after → Changes Start w (move sc Start w).after
      → (p q r z : ℕ) → ((y : Node) → IsAmong p q r z (node_place y)) → ((y : Node) → IsAmong p q r z (link_place y))
      → (i : ℕ) → (IsAmong p q r z i → ⊥) → part_at part (seen_from x w) i ≡ part_at part (seen_from x (move sc Start w).after) i
  start_off same cv cw p q r z nodes links =
      let w' = (move sc Start w).after in
      off_view part x w w' (IsAmong p q r z) (λ n. absurd (n (nodes x))) (λ n. absurd (n (nodes (other x)))) (λ n. absurd (n (links x)))
      (λ n. absurd (n (links (other x)))) (λ n. sym (ap (λ y. y.commits) cw))
      (λ u n. ap (λ ys. slice_get (map txn (txns_part part ys)) u) (sym (ap (λ y. y.txns) cw)))

  nodes_among : (y : Node) → IsAmong (node_place A) (node_place B) (link_place A) (link_place B) (node_place y)
  nodes_among A = inl refl
  nodes_among B = inr (inl refl)

  links_among : (y : Node) → IsAmong (node_place A) (node_place B) (link_place A) (link_place B) (link_place y)
  links_among A = inr (inr (inl refl))
  links_among B = inr (inr (inr refl))

-- the same at each side
pub start_carries : (part : StatePart) (sc : Scenario) (x : Node) (v w : View) (many : length v.txns ≡ length w.txns)
    → SameMove Start v w (move sc Start v) (move sc Start w) → Changes Start v (move sc Start v).after → Changes Start w (move sc Start w).after
    → v.them ≡ w.them → v.outbox ≡ w.outbox → v.inbox ≡ w.inbox
    → Carries part (seen_from x (move sc Start v).after) (seen_from x w) (seen_from x (move sc Start w).after) (node_place A) (node_place B) (link_place A)
    (link_place B)
start_carries part sc A v w many same cv cw them outbox inbox =
    let v' = (move sc Start v).after in
    let w' = (move sc Start w).after in
    record {
      first = node_same part A v w v' w' same.me;
      second = them_same part A v w v' w' (ap (λ y. y.them) cv ∙ them ∙ sym (ap (λ y. y.them) cw));
      third = outbox_same part A v w v' w' same.posts.0 same.posts.1.0 same.posts.1.1 outbox;
      fourth = inbox_same part A v w v' w' same.taken.0 same.taken.1.0 same.taken.1.1 inbox;
      off = λ i np nq nr nz. start_off part sc A v w many same cv cw _ _ _ _ (nodes_among part sc A v w many) (links_among part sc A v w many) i
          (not_among (node_place A) (node_place B) (link_place A) (link_place B) i np nq nr nz);
    }
start_carries part sc B v w many same cv cw them outbox inbox =
    let v' = (move sc Start v).after in
    let w' = (move sc Start w).after in
    record {
      first = them_same part B v w v' w' (ap (λ y. y.them) cv ∙ them ∙ sym (ap (λ y. y.them) cw));
      second = node_same part B v w v' w' same.me;
      third = inbox_same part B v w v' w' same.taken.0 same.taken.1.0 same.taken.1.1 inbox;
      fourth = outbox_same part B v w v' w' same.posts.0 same.posts.1.0 same.posts.1.1 outbox;
      off = λ i np nq nr nz. start_off part sc B v w many same cv cw _ _ _ _ (nodes_among part sc B v w many) (links_among part sc B v w many) i
          (not_among (node_place A) (node_place B) (link_place A) (link_place B) i np nq nr nz);
    }
