-- The spoiled tests over the words of records: they pass where each record has what they ask.
use mathlib.Core.Path.{◌≡◌, refl, sym, ap, ◌∙◌}
use mathlib.Core.Bool.{Bool, true, false, cond}
use mathlib.Core.List.{List, [], ◌∷◌, append-nil, map}
use Prim.Native.Nat.{ℕ, zero, suc, ◌+◌, ◌*◌, ◌/◌, ◌≤◌, ◌<◌}
use native.Mathlib.Omega.{arith}
use borrow.Author.Tests.{le-leb, lt-ltb}
use lib.Dec.{leb}
use lib.ListN.{length, get_or}
use Rattle.memory.specs.rules.Lists.{keep, upto, sort_by}
use Rattle.memory.specs.rules.Records.{encoded}
use Rattle.memory.proofs.RecordLaws.{record-at}
use Rattle.memory.specs.declared.rect.Rect.{Rect}
use Rattle.sorting.specs.rules.Units.{median}
use Rattle.memory.specs.stages.Boxes.{Inside}
use Rattle.memory.proofs.ListLaws.{Each, each_at, each-sort, each-table}
use Rattle.judging.specs.rules.Spoiled.{every, fields_ok, box_ok, boxes_ok}
use Rattle.store.proofs.LayoutLaws.{sort-long}

pub every-pass : (p : ℕ → Bool) (n : ℕ) → ((i : ℕ) → i < n → p i ≡ true) → every p n ≡ true
unfolding every
every-pass p zero h = refl
every-pass p (suc n) h = rw (every-pass p n (λ i l. h i (omega arith)), h n (omega arith))

module _ {A : Type 0} (words : A → List ℕ) (k : ℕ) (each : (a : A) → length (words a) ≡ k) where
  -- word j of record i
  pub word_of : (l : List A) (i j : ℕ) (d : A) → i < length l → j < k → get_or (encoded words l) (i * k + j) 0 ≡ get_or (words (get_or l i d)) j 0
  word_of l i j d h b = ap (λ (z : List ℕ). get_or z (i * k + j) 0) (sym (append-nil (encoded words l))) ∙ record-at words k each l [] i j d h b

  pub fields-pass : (q : ℕ → Bool) (j : ℕ) (l : List A) (d : A) → j < k → ((i : ℕ) → i < length l → q (get_or (words (get_or l i d)) j 0) ≡ true) → fields_ok q k j (encoded words l) (length l) ≡ true
  unfolding fields_ok
  fields-pass q j l d b h = every-pass _ (length l) (λ i o. ap q (word_of l i j d o b) ∙ h i o)

  -- records that begin with a box
  pub boxes-pass : (w h : ℕ) (box : A → Rect) → ((a : A) → (get_or (words a) 0 0 ≡ (box a).x0) × (get_or (words a) 1 0 ≡ (box a).y0) × (get_or (words a) 2 0 ≡ (box a).x1) × (get_or (words a) 3 0 ≡ (box a).y1))
      → 4 ≤ k → (l : List A) (d : A) → ((i : ℕ) → i < length l → Inside w h (box (get_or l i d))) → boxes_ok w h k (encoded words l) (length l) ≡ true
  unfolding boxes_ok
  boxes-pass w h box is b l d inside = every-pass _ (length l) (λ i o. at i o)
    where
      at : (i : ℕ) → i < length l → box_ok w h (encoded words l) (i * k) ≡ true
      at i o =
          let I = inside i o in
          let e = is (get_or l i d) in
          let z : i * k + 0 ≡ i * k = omega arith in
          let x0 = ap (λ n. get_or (encoded words l) n 0) (sym z) ∙ (word_of l i 0 d o (omega arith) ∙ e.0) in
          let y0 = word_of l i 1 d o (omega arith) ∙ e.1 in
          let x1 = word_of l i 2 d o (omega arith) ∙ e.2 in
          let y1 = word_of l i 3 d o (omega arith) ∙ e.3 in
          rw (x0, y0, x1, y1, le-leb _ _ I.columns, lt-ltb _ _ I.right, le-leb _ _ I.rows, lt-ltb _ _ I.bottom)

-- ---- every entry of a list

pub each_of : {A : Type 0} (P : A → Type 0) (l : List A) (d : A) → ((i : ℕ) → i < length l → P (get_or l i d)) → Each P l
each_of P [] d h = tt
each_of P (a ∷ l) d h = (h 0 (omega arith), each_of P l d (λ i o. h (suc i) (omega arith)))

pub each-kept : {A : Type 0} (P : A → Type 0) (q : A → Bool) (l : List A) → Each P l → Each P (keep q l)
unfolding keep
each-kept P q [] e = tt
each-kept P q (a ∷ l) (x, e) = go (q a) x (each-kept P q l e)
  where
    go : (b : Bool) → P a → Each P (keep q l) → Each P (cond b (a ∷ keep q l) (keep q l))
    go true x e = (x, e)
    go false x e = e

pub each_map : {A B : Type 0} (P : B → Type 0) (f : A → B) (l : List A) → Each (λ a. P (f a)) l → Each P (map f l)
each_map P f [] e = tt
each_map P f (a ∷ l) (x, e) = (x, each_map P f l e)

pub each-with : {A : Type 0} (P Q : A → Type 0) (l : List A) → ((a : A) → P a → Q a) → Each P l → Each Q l
each-with P Q [] f e = tt
each-with P Q (a ∷ l) f (x, e) = (f a x, each-with P Q l f e)

pub each-upto : (n : ℕ) → Each (λ i. i < n) (upto n)
unfolding upto
each-upto n = each-table (λ i. i < n) (λ i. i) n (λ i l. l)

-- ---- the median is one of the list

pub median-in : (P : ℕ → Type 0) (a : ℕ) (l : List ℕ) → Each P (a ∷ l) → P (median (a ∷ l))
unfolding median
median-in P a l e = each_at P (sort_by leb (a ∷ l)) (each-sort P leb (a ∷ l) e) (length (a ∷ l) / 2) 0 (let s = sort-long leb (a ∷ l) in omega arith)

none-low : (m : ℕ) → median [] ≤ m
unfolding median sort_by
none-low m = omega arith

pub median-low : (m : ℕ) (l : List ℕ) → Each (λ v. v ≤ m) l → median l ≤ m
median-low m [] e = none-low m
median-low m (a ∷ l) e = median-in (λ v. v ≤ m) a l e
