-- Lists: an item more, what was read, and what gives it.
use Rattle.std.proofs.Common.{◌≡◌, ℕ, zero, suc, ◌+◌, ◌-◌, ◌<◌, List, [], ◌∷◌, ◌++◌, length, Ok, Err, refl, sym, ap, ◌∙◌, subst, append_assoc, append-nil}
use Rattle.std.proofs.Common.{arith}
use Rattle.std.specs.List.{flat_map}
use Rattle.zy_isa.proofs.ResultLemmas.{bind_ok}
use Rattle.zy_image.specs.declared.faults.LoadFault.{LoadFault}
use Rattle.zy_image.specs.Reading.{Read, read_items}
use Rattle.zy_image.proofs.FieldLemmas.{AreBytes, one_answer}

module _ {X : Type 0} (next : List X → List ℕ → Read X) (xs : List X) (bytes : List ℕ) where
  -- what is left of n items behind k of them begins with the next one
  one_left : (k n : ℕ) → k < n → read_items next xs (n - k) bytes ≡ read_items next xs (suc (n - (k + 1))) bytes
  one_left k n h =
      let same : n - k ≡ suc (n - (k + 1)) = omega (arith, h) in
      ap (λ m. read_items next xs m bytes) same

  -- an item more was read
  pub item_more : (x : X) (left : List ℕ) (k n : ℕ) → k < n → next xs bytes ≡ Ok (x, left)
      → read_items next (xs ++ x ∷ []) (n - (k + 1)) left ≡ read_items next xs (n - k) bytes
  item_more x left k n h e = sym (one_left k n h ∙ rw e refl)

  -- the next item has a fault, which is that of the list
  pub item_fails : (fault : LoadFault) (k n : ℕ) → k < n → next xs bytes ≡ Err fault → read_items next xs (n - k) bytes ≡ Err fault
  item_fails fault k n h e = one_left k n h ∙ rw e refl

-- ---- what was read has its image

-- this number of items was read: their images are in front, and what holds of the list is kept
pub record TookItems {X : Type 0} (image : X → List ℕ) (P : List X → Type 0) (xs : List X) (n : ℕ) (bytes : List ℕ) (ys : List X) (left : List ℕ) : Type 0 where
  pub more : List X
  pub all : ys ≡ xs ++ more
  pub count : length more ≡ n
  pub same : bytes ≡ flat_map image more ++ left
  pub back : AreBytes left
  pub kept : P ys

-- an item was read: its image is in front, and what holds of the list is kept
pub record TookItem {X : Type 0} (image : X → List ℕ) (P : List X → Type 0) (xs : List X) (bytes : List ℕ) (x : X) (left : List ℕ) : Type 0 where
  pub same : bytes ≡ image x ++ left
  pub back : AreBytes left
  pub kept : P (xs ++ x ∷ [])

-- this number of items was read, and these are all of them
pub record TookList {X : Type 0} (image : X → List ℕ) (P : List X → Type 0) (n : ℕ) (bytes : List ℕ) (ys : List X) (left : List ℕ) : Type 0 where
  pub count : n ≡ length ys
  pub same : bytes ≡ flat_map image ys ++ left
  pub back : AreBytes left
  pub kept : P ys

module _ {X : Type 0} (image : X → List ℕ) (next : List X → List ℕ → Read X) (P : List X → Type 0)
    (one : (xs : List X) (bytes : List ℕ) (x : X) (left : List ℕ) → P xs → AreBytes bytes → next xs bytes ≡ Ok (x, left)
    → TookItem image P xs bytes x left) where
  pub items_found : (n : ℕ) (xs : List X) (bytes : List ℕ) (ys : List X) (left : List ℕ) → P xs → AreBytes bytes → read_items next xs n bytes ≡ Ok (ys, left)
      → TookItems image P xs n bytes ys left
  items_found zero xs bytes ys left p fit h =
      let s = one_answer xs ys bytes left h in
      record { more = []; all = sym s.0 ∙ sym (append-nil xs); count = refl; same = s.1; back = subst AreBytes s.1 fit; kept = subst P s.0 p }
  items_found (suc n) xs bytes ys left p fit h =
      let d = bind_ok (next xs bytes) (λ x. read_items next (xs ++ x.0 ∷ []) n x.1) (ys, left) h in
      let t = one xs bytes d.0.0 d.0.1 p fit d.1 in
      let r = items_found n (xs ++ d.0.0 ∷ []) d.0.1 ys left t.kept t.back d.2 in
      record {
        more = d.0.0 ∷ r.more;
        all = r.all ∙ append_assoc xs (d.0.0 ∷ []) r.more;
        count = ap suc r.count;
        same = t.same ∙ ap (λ z. image d.0.0 ++ z) r.same ∙ sym (append_assoc (image d.0.0) (flat_map image r.more) left);
        back = r.back;
        kept = r.kept;
      }

  -- the same where nothing is before them
  pub list_found : (n : ℕ) (bytes : List ℕ) (ys : List X) (left : List ℕ) → P [] → AreBytes bytes → read_items next [] n bytes ≡ Ok (ys, left)
      → TookList image P n bytes ys left
  list_found n bytes ys left p fit h =
      let i = items_found n [] bytes ys left p fit h in
      record {
        count = sym i.count ∙ ap length (sym i.all);
        same = i.same ∙ ap (λ x. flat_map image x ++ left) (sym i.all);
        back = i.back;
        kept = i.kept;
      }

-- ---- an image is read as what it shows

module _ {X : Type 0} (image : X → List ℕ) (next : List X → List ℕ → Read X) where
  -- each of these is read behind those before it
  -- each of these items is read from its image, behind those before it
  abbrev pub AreRead : List X → List X → Type 0
  AreRead xs [] = Unit {0}
  AreRead xs (z ∷ zs) = ((left : List ℕ) → next xs (image z ++ left) ≡ Ok (z, left)) × AreRead (xs ++ z ∷ []) zs

  -- such items are read from their images, one after another
  pub items_give : (zs xs : List X) (left : List ℕ) → AreRead xs zs → read_items next xs (length zs) (flat_map image zs ++ left) ≡ Ok (xs ++ zs, left)
  items_give [] xs left h = rw (append-nil xs) refl
  items_give (z ∷ zs) xs left h =
      rw (append_assoc (image z) (flat_map image zs) left) (rw (h.0 (flat_map image zs ++ left)) (
      items_give zs (xs ++ z ∷ []) left h.1 ∙ ap (λ l. Ok (l, left)) (append_assoc xs (z ∷ []) zs)))
