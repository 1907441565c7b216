-- Paths that each go on from an earlier one.
use Rattle.std.proofs.Common.{◌≡◌, ◌∙◌, ℕ, zero, suc, ◌+◌, ◌<◌, List, [], ◌∷◌, ◌++◌, length, get_or, refl, sym, ap, subst, arith, length-append, append_assoc}
use Rattle.std.proofs.Common.{reverse}
use Rattle.std.proofs.lemmas.List.{get_or_append_left, reverse-append}
use Rattle.std.proofs.Math.Seq.{get_or-append_seam}
use Rattle.zy_isa.specs.declared.choice.Choice.{Choice}
use Rattle.zy_search.specs.declared.branch.Branch.{Branch}
use Rattle.zy_search.specs.Paths.{grown, paths_of, AreRooted}

-- one path more, which goes on from that at a branch's place
abbrev pub with_path : List (List Choice) → Branch → List (List Choice)
with_path ps b = ps ++ (get_or ps b.from [] ++ b.by ∷ []) ∷ []

-- one branch more is one path more
pub grown-push : (ps : List (List Choice)) (bs : List Branch) (b : Branch) → grown ps (bs ++ b ∷ []) ≡ with_path (grown ps bs) b
grown-push ps [] b = refl
grown-push ps (x ∷ bs) b = grown-push (with_path ps x) bs b

-- how many there are then
length_with : (ps : List (List Choice)) (b : Branch) → length (with_path ps b) ≡ suc (length ps)
length_with ps b = omega (arith, length-append ps ((get_or ps b.from [] ++ b.by ∷ []) ∷ []))

-- there is a path more for each branch
pub length-grown : (ps : List (List Choice)) (bs : List Branch) → length (grown ps bs) ≡ length ps + length bs
length-grown ps [] = omega arith
length-grown ps (b ∷ bs) = omega (arith, length-grown (with_path ps b) bs, length_with ps b)

-- one more branch that goes on from an earlier path
pub rooted_push : (n : ℕ) (bs : List Branch) (b : Branch) → AreRooted n bs → b.from < n + length bs → AreRooted n (bs ++ b ∷ [])
rooted_push n [] b h lt = (omega (arith, lt), tt)
rooted_push n (x ∷ bs) b h lt = (h.0, rooted_push (suc n) bs b h.1 (omega (arith, lt)))

-- each goes on from an earlier path
pub rooted_at : (n k : ℕ) (d : Branch) (bs : List Branch) → AreRooted n bs → k < length bs → (get_or bs k d).from < n + k
rooted_at n k d [] h lt = absurd (omega (arith, lt))
rooted_at n zero d (b ∷ bs) h lt = omega (arith, h.0)
rooted_at n (suc k) d (b ∷ bs) h lt = omega (arith, rooted_at (suc n) k d bs h.1 (omega (arith, lt)))

-- the paths that are there stay at their places
grown_front : (i : ℕ) (ps : List (List Choice)) (bs : List Branch) → i < length ps → get_or (grown ps bs) i [] ≡ get_or ps i []
grown_front i ps [] lt = refl
grown_front i ps (b ∷ bs) lt =
    grown_front i (with_path ps b) bs (omega (arith, lt, length_with ps b)) ∙ get_or_append_left ps _ [] i lt

-- the path of a branch goes on from that at the branch's place
grown_at : (k : ℕ) (d : Branch) (ps : List (List Choice)) (bs : List Branch) → AreRooted (length ps) bs → k < length bs
    → get_or (grown ps bs) (length ps + k) [] ≡ get_or (grown ps bs) (get_or bs k d).from [] ++ (get_or bs k d).by ∷ []
grown_at k d ps [] h lt = absurd (omega (arith, lt))
grown_at zero d ps (b ∷ bs) h lt =
    let here : length ps + zero ≡ length ps = omega arith in
    rw here (
    grown_front (length ps) (with_path ps b) bs (omega (arith, length_with ps b))
    ∙ (get_or-append_seam ps (get_or ps b.from [] ++ b.by ∷ []) [] []
    ∙ ap (λ p. p ++ b.by ∷ []) (sym (grown_front b.from (with_path ps b) bs (omega (arith, h.0, length_with ps b)) ∙ get_or_append_left ps _ [] b.from h.0)))
    )
grown_at (suc k) d ps (b ∷ bs) h lt =
    let more = length_with ps b in
    let there : length ps + suc k ≡ length (with_path ps b) + k = omega (arith, more) in
    rw there (grown_at k d (with_path ps b) bs (subst (λ n. AreRooted n bs) (sym more) h.1) (omega (arith, lt)))

-- the path at a place goes on from an earlier one
pub path_at : (i : ℕ) (d : Branch) (bs : List Branch) → AreRooted 1 bs → i < length bs
    → get_or (paths_of bs) (i + 1) [] ≡ get_or (paths_of bs) (get_or bs i d).from [] ++ (get_or bs i d).by ∷ []
path_at i d bs h lt = let e : i + 1 ≡ 1 + i = omega arith in rw e (grown_at i d ([] ∷ []) bs h lt)

-- the first path is the empty one
pub path_none : (bs : List Branch) → get_or (paths_of bs) 0 [] ≡ []
path_none bs = grown_front 0 ([] ∷ []) bs (omega arith)

-- a walk from a path to its root has gone one branch further
pub walked : (p q r items : List Choice) (c : Choice) → p ≡ q ++ reverse items → q ≡ r ++ c ∷ [] → p ≡ r ++ reverse (items ++ c ∷ [])
walked p q r items c e f =
    e ∙ (ap (λ l. l ++ reverse items) f ∙ (append_assoc r (c ∷ []) (reverse items) ∙ ap (λ l. r ++ l) (sym (reverse-append items (c ∷ [])))))
