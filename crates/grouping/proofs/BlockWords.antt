-- The records of the blocks in lent words, with one line more.
use mathlib.Core.Path.{◌≡◌, refl, sym, ap, ◌∙◌, subst}
use mathlib.Core.Bool.{true, false}
use mathlib.Core.List.{List, [], ◌∷◌, ◌++◌, map, append_assoc}
use Prim.Native.Nat.{ℕ, zero, suc, ◌+◌, ◌-◌, ◌*◌, ◌≤◌, ◌<◌, min, max}
use native.Mathlib.Nat.{le_refl}
use native.Mathlib.Decide.{ℕ_discrete}
use native.Mathlib.Omega.{arith}
use native.Mathlib.Numerals.{add-one}
use borrow.Author.Tests.{eq-eqb, ne_eqb}
use lib.ListN.{get_or, length, set, take, drop, take-append-drop, length-append, length-set, length-map, length-drop}
use lib.Seq.{sets, sets-eq, take_at, drop_at, drop-append-add, set_split, split_at, ext_get_or, get_or-set_same, get_or-set_other, get_or-take, length-take-le}
use borrow.Rule.Slice.PartMut.{put_mid}
use lib.Dec.{eqb}
use Rattle.memory.specs.rules.Lists.{table, upto, keep, count_if}
use Rattle.memory.specs.rules.Words.{over, put_at}
use Rattle.memory.specs.rules.Records.{encoded}
use Rattle.memory.proofs.RecordLaws.{length-encoded, record-more, record-at}
use Rattle.memory.proofs.PartLaws.{tail-part, tail-put}
use Rattle.memory.specs.rules.Rects.{union}
use Rattle.union_find.specs.rules.Classes.{first_of}
use Rattle.memory.specs.declared.rect.Rect.{Rect}
use Rattle.grouping.specs.rules.Blocks.{Block, no_rect, opens_block, block_number, union_all, block_of, blocks_of}
use Rattle.grouping.specs.stages.Numbering.{block_box, block_fields, Grown}
use Rattle.grouping.specs.rules.BlockRecords.{block_record}
use Rattle.grouping.specs.rules.HeldLines.{line_box}
use Rattle.memory.proofs.ListLaws.{keep-snoc-yes, keep-snoc-no, upto-suc, map-append, keep-few, get_or-mapped}
use Rattle.memory.proofs.PlaceLaws.{count-below, count-length, count-place, place-count}

-- A record set in place

module _ {A : Type 0} (words : A → List ℕ) (k : ℕ) (each : (a : A) → length (words a) ≡ k) where
  encoded-append : (l m : List A) → encoded words (l ++ m) ≡ encoded words l ++ encoded words m
  unfolding encoded
  encoded-append [] m = refl
  encoded-append (a ∷ l) m = ap (λ (t : List ℕ). words a ++ t) (encoded-append l m) ∙ sym (append_assoc (words a) (encoded words l) (encoded words m))

  encoded-split : (l m : List A) (a : A) (rest : List ℕ) → encoded words (l ++ a ∷ m) ++ rest ≡ encoded words l ++ (words a ++ (encoded words m ++ rest))
  unfolding encoded
  encoded-split l m a rest =
      ap (λ (t : List ℕ). t ++ rest) (encoded-append l (a ∷ m))
      ∙ (append_assoc (encoded words l) (words a ++ encoded words m) rest ∙ ap (λ (t : List ℕ). encoded words l ++ t) (append_assoc (words a) (encoded words m) rest))

  record-set : (l : List A) (b : ℕ) (a d : A) (rest : List ℕ) → b < length l → sets (encoded words l ++ rest) (b * k) (words a) ≡ encoded words (set l b a) ++ rest
  record-set l b a d rest h =
      let P : List ℕ = encoded words (take b l) in
      let x : List ℕ = words (get_or l b d) in
      let R : List ℕ = encoded words (drop (suc b) l) ++ rest in
      let whole : encoded words l ++ rest ≡ P ++ (x ++ R) = ap (λ (t : List A). encoded words t ++ rest) (split_at l b d h) ∙ encoded-split (take b l) (drop (suc b) l) (get_or l b d) rest in
      let len : length P ≡ b * k = length-encoded words k each (take b l) ∙ ap (λ j. j * k) (lib.Seq.length-take-le b l (omega arith)) in
      let la : length (words a) ≡ k = each a in
      let lx : length x ≡ k = each (get_or l b d) in
      let long : b * k + length (words a) ≤ length (P ++ (x ++ R)) = (let p = length-append P (x ++ R) in let q = length-append x R in omega arith) in
      let back : drop (b * k + length (words a)) (P ++ (x ++ R)) ≡ R =
      (λ i. drop (sym len i + la i) (P ++ (x ++ R))) ∙ (drop-append-add P (x ++ R) k ∙ drop_at x R k lx) in
      ap (λ (t : List ℕ). sets t (b * k) (words a)) whole
      ∙ (sets-eq (words a) (P ++ (x ++ R)) (b * k) long
      ∙ ((λ i. (take_at P (x ++ R) (b * k) len i ++ words a) ++ back i)
      ∙ (append_assoc P (words a) R
      ∙ sym (ap (λ (t : List A). encoded words t ++ rest) (set_split l b a h) ∙ encoded-split (take b l) (drop (suc b) l) a rest))))

-- Boxes

union-same : (r : Rect) → union r r ≡ r
union-same r = λ i. record { x0 = (let e : min r.x0 r.x0 ≡ r.x0 = omega arith in e) i; y0 = (let e : min r.y0 r.y0 ≡ r.y0 = omega arith in e) i; x1 = (let e : max r.x1 r.x1 ≡ r.x1 = omega arith in e) i; y1 = (let e : max r.y1 r.y1 ≡ r.y1 = omega arith in e) i }

union-swap : (a b c : Rect) → union a (union b c) ≡ union (union a b) c
union-swap a b c = λ i. record {
  x0 = (let e : min a.x0 (min b.x0 c.x0) ≡ min (min a.x0 b.x0) c.x0 = omega arith in e) i;
  y0 = (let e : min a.y0 (min b.y0 c.y0) ≡ min (min a.y0 b.y0) c.y0 = omega arith in e) i;
  x1 = (let e : max a.x1 (max b.x1 c.x1) ≡ max (max a.x1 b.x1) c.x1 = omega arith in e) i;
  y1 = (let e : max a.y1 (max b.y1 c.y1) ≡ max (max a.y1 b.y1) c.y1 = omega arith in e) i;
}

union_comm : (a b : Rect) → union a b ≡ union b a
union_comm a b = λ i. record {
  x0 = (let e : min a.x0 b.x0 ≡ min b.x0 a.x0 = omega arith in e) i;
  y0 = (let e : min a.y0 b.y0 ≡ min b.y0 a.y0 = omega arith in e) i;
  x1 = (let e : max a.x1 b.x1 ≡ max b.x1 a.x1 = omega arith in e) i;
  y1 = (let e : max a.y1 b.y1 ≡ max b.y1 a.y1 = omega arith in e) i;
}

union-snoc : (r a : Rect) (l : List Rect) → union_all r (l ++ (a ∷ [])) ≡ union (union_all r l) a
unfolding union_all
union-snoc r a [] = union_comm a r
union-snoc r a (b ∷ l) = ap (union b) (union-snoc r a l) ∙ union-swap b (union_all r l) a

-- The blocks of the lines before i

abbrev no_block : Block
no_block = record { bbox = no_rect; lines = [] }

pub five-words : (b : Block) → length (block_record b) ≡ 5
five-words b = refl

module _ (ls : List Rect) (fs : List ℕ) where
  unfoldable pub own : ℕ → ℕ → List ℕ
  own i k = keep (λ j. eqb (first_of fs j) k) (upto i)

  unfoldable pub block_to : ℕ → ℕ → Block
  block_to i k = record { bbox = union_all (get_or ls k no_rect) (map (λ j. get_or ls j no_rect) (own i k)); lines = own i k }

  unfoldable pub blocks_to : ℕ → List Block
  blocks_to i = map (block_to i) (keep (opens_block fs) (upto i))

  pub blocks-to-none : blocks_to 0 ≡ []
  unfolding blocks_to upto table keep
  blocks-to-none = refl

  pub blocks-to-all : (i : ℕ) → i ≡ length ls → blocks_to i ≡ blocks_of ls fs
  unfolding blocks_to blocks_of block_of block_to own
  blocks-to-all i e = ap blocks_to e

  pub blocks-to-length : (i : ℕ) → length (blocks_to i) ≡ count_if (opens_block fs) i
  unfolding blocks_to
  blocks-to-length i = length-map (keep (opens_block fs) (upto i)) (block_to i) ∙ count-length (opens_block fs) i

  own-yes : (i k : ℕ) → first_of fs i ≡ k → own (suc i) k ≡ own i k ++ (i ∷ [])
  unfolding own
  own-yes i k e = ap (keep (λ j. eqb (first_of fs j) k)) (upto-suc i) ∙ keep-snoc-yes (λ j. eqb (first_of fs j) k) (upto i) i (eq-eqb (first_of fs i) k e)

  own-no : (i k : ℕ) → (first_of fs i ≡ k → ⊥) → own (suc i) k ≡ own i k
  unfolding own
  own-no i k e = ap (keep (λ j. eqb (first_of fs j) k)) (upto-suc i) ∙ keep-snoc-no (λ j. eqb (first_of fs j) k) (upto i) i (ne_eqb (first_of fs i) k e)

  block_no : (i k : ℕ) → (first_of fs i ≡ k → ⊥) → block_to (suc i) k ≡ block_to i k
  unfolding block_to
  block_no i k e = λ t. record { bbox = union_all (get_or ls k no_rect) (map (λ j. get_or ls j no_rect) (own-no i k e t)); lines = own-no i k e t }

  own-few : (i k : ℕ) → length (own i k) ≤ i
  unfolding own
  own-few i k = keep-few (λ j. eqb (first_of fs j) k) i

  module _ (low : (k : ℕ) → first_of fs k ≤ k) (idem : (k : ℕ) → first_of fs (first_of fs k) ≡ first_of fs k) where
    opens : (i : ℕ) → opens_block fs (first_of fs i) ≡ true
    unfolding opens_block
    opens i = eq-eqb (first_of fs (first_of fs i)) (first_of fs i) (idem i)

    -- line i opens a block
    module _ (i : ℕ) (e : first_of fs i ≡ i) where
      number-first : block_number fs i ≡ count_if (opens_block fs) i
      unfolding block_number
      number-first = ap (count_if (opens_block fs)) e

      openers-yes : keep (opens_block fs) (upto (suc i)) ≡ keep (opens_block fs) (upto i) ++ (i ∷ [])
      openers-yes = ap (keep (opens_block fs)) (upto-suc i) ∙ keep-snoc-yes (opens_block fs) (upto i) i (subst (λ k. opens_block fs k ≡ true) e (opens i))

      others_same : map (block_to (suc i)) (keep (opens_block fs) (upto i)) ≡ map (block_to i) (keep (opens_block fs) (upto i))
      others_same =
          let K : List ℕ = keep (opens_block fs) (upto i) in
          let a = length-map K (block_to (suc i)) in
          let b = length-map K (block_to i) in
          ext_get_or no_block (map (block_to (suc i)) K) (map (block_to i) K) (a ∙ sym b)
          (λ m h. let hk : m < length K = omega arith in
          get_or-mapped (block_to (suc i)) K m no_block 0 hk
          ∙ (block_no i (get_or K m 0) (λ z. let p = (place-count (opens_block fs) i m 0 (let c = count-length (opens_block fs) i in omega arith)).below in omega arith)
          ∙ sym (get_or-mapped (block_to i) K m no_block 0 hk)))

      own-none : (j : ℕ) → j ≤ i → own j i ≡ []
      unfolding own upto table keep
      own-none zero h = refl
      own-none (suc j) h = own-no j i (λ z. let l = low j in omega arith) ∙ own-none j (omega arith)

      own_first : own (suc i) i ≡ i ∷ []
      own_first = own-yes i i e ∙ ap (λ (t : List ℕ). t ++ (i ∷ [])) (own-none i (le_refl i))

      pub blocks-first : blocks_to (suc i) ≡ blocks_to i ++ (block_to (suc i) i ∷ [])
      unfolding blocks_to
      blocks-first =
          ap (map (block_to (suc i))) openers-yes
          ∙ (map-append (block_to (suc i)) (keep (opens_block fs) (upto i)) (i ∷ []) ∙ ap (λ (t : List Block). t ++ (block_to (suc i) i ∷ [])) others_same)

      pub first-fields : block_record (block_to (suc i) i) ≡ block_fields (get_or ls i no_rect) 1
      unfolding block_to union_all
      first-fields =
          let r : Rect = get_or ls i no_rect in
          (λ t. block_fields (union_all r (map (λ j. get_or ls j no_rect) (own_first t))) (length (own_first t))) ∙ ap (λ (q : Rect). block_fields q 1) (union-same r)

    -- line i is in an older block
    module _ (i : ℕ) (ne : first_of fs i ≡ i → ⊥) where
      first-before : first_of fs i < i
      first-before = let l = low i in omega arith

      number-later : block_number fs i ≡ count_if (opens_block fs) (first_of fs i)
      unfolding block_number
      number-later = refl

      pub number-below : block_number fs i < count_if (opens_block fs) i
      number-below = let c = count-below (opens_block fs) (first_of fs i) i first-before (opens i) in let n = number-later in omega arith

      shut : opens_block fs i ≡ false
      unfolding opens_block
      shut = ne_eqb (first_of fs i) i ne

      openers-no : keep (opens_block fs) (upto (suc i)) ≡ keep (opens_block fs) (upto i)
      openers-no = ap (keep (opens_block fs)) (upto-suc i) ∙ keep-snoc-no (opens_block fs) (upto i) i shut

      place : get_or (keep (opens_block fs) (upto i)) (block_number fs i) 0 ≡ first_of fs i
      place = ap (λ m. get_or (keep (opens_block fs) (upto i)) m 0) number-later ∙ count-place (opens_block fs) i (first_of fs i) 0 first-before (opens i)

      pub block-there : get_or (blocks_to i) (block_number fs i) no_block ≡ block_to i (first_of fs i)
      unfolding blocks_to
      block-there =
          get_or-mapped (block_to i) (keep (opens_block fs) (upto i)) (block_number fs i) no_block 0 (let c = count-length (opens_block fs) i in let b = number-below in omega arith) ∙ ap (block_to i) place

      pub blocks-later : blocks_to (suc i) ≡ set (blocks_to i) (block_number fs i) (block_to (suc i) (first_of fs i))
      unfolding blocks_to
      blocks-later =
          let K : List ℕ = keep (opens_block fs) (upto i) in
          let v : Block = block_to (suc i) (first_of fs i) in
          let n : ℕ = block_number fs i in
          let a = length-map K (block_to (suc i)) in
          let b = length-map K (block_to i) in
          ap (map (block_to (suc i))) openers-no
          ∙ ext_get_or no_block (map (block_to (suc i)) K) (set (map (block_to i) K) n v) (a ∙ sym (length-set (map (block_to i) K) n v ∙ b))
          (λ m h. at m (omega arith) (ℕ_discrete m n))
        where
          at : (m : ℕ) → m < length (keep (opens_block fs) (upto i)) → Dec (m ≡ block_number fs i)
              → get_or (map (block_to (suc i)) (keep (opens_block fs) (upto i))) m no_block ≡ get_or (set (map (block_to i) (keep (opens_block fs) (upto i))) (block_number fs i) (block_to (suc i) (first_of fs i))) m no_block
          at m h (yes z) =
              let K : List ℕ = keep (opens_block fs) (upto i) in
              get_or-mapped (block_to (suc i)) K m no_block 0 h
              ∙ (ap (λ j. block_to (suc i) (get_or K j 0)) z
              ∙ (ap (block_to (suc i)) place
              ∙ sym (ap (λ j. get_or (set (map (block_to i) K) (block_number fs i) (block_to (suc i) (first_of fs i))) j no_block) z
              ∙ get_or-set_same (map (block_to i) K) (block_number fs i) (block_to (suc i) (first_of fs i)) no_block (let b = length-map K (block_to i) in omega arith))))
          at m h (no z) =
              let K : List ℕ = keep (opens_block fs) (upto i) in
              get_or-mapped (block_to (suc i)) K m no_block 0 h
              ∙ (block_no i (get_or K m 0) (λ q. z (sym (place-count (opens_block fs) i m 0 (let c = count-length (opens_block fs) i in omega arith)).count ∙ (ap (count_if (opens_block fs)) (sym q) ∙ sym number-later)))
              ∙ sym (get_or-set_other (map (block_to i) K) (block_number fs i) m (block_to (suc i) (first_of fs i)) no_block z ∙ get_or-mapped (block_to i) K m no_block 0 h))

      pub later-fields : block_record (block_to (suc i) (first_of fs i)) ≡ block_fields (union (block_to i (first_of fs i)).bbox (get_or ls i no_rect)) (length (block_to i (first_of fs i)).lines + 1)
      unfolding block_to
      later-fields =
          let k : ℕ = first_of fs i in
          let r : Rect = get_or ls k no_rect in
          let f : ℕ → Rect = λ j. get_or ls j no_rect in
          (λ t. block_fields (union_all r (map f (own-yes i k refl t))) (length (own-yes i k refl t)))
          ∙ (λ t. block_fields ((ap (union_all r) (map-append f (own i k) (i ∷ [])) ∙ union-snoc r (f i) (map f (own i k))) t) (length-append (own i k) (i ∷ []) t))

-- the blocks of the lines before i are written
pub record Written (ls : List Rect) (fs out₀ out : List ℕ) (count i : ℕ) : Type 0 where
  pub count_is : count ≡ length (blocks_to ls fs i)
  pub words : out ≡ over (encoded block_record (blocks_to ls fs i)) out₀

pub written_none : (ls : List Rect) (fs out : List ℕ) → Written ls fs out out 0 0
unfolding encoded
written_none ls fs out =
    let e = blocks-to-none ls fs in
    record { count_is = sym (ap length e); words = sym (ap (λ (t : List Block). over (encoded block_record t) out) e) }

module _ (ls : List Rect) (fs out₀ out : List ℕ) (count i : ℕ) (low : (k : ℕ) → first_of fs k ≤ k) (idem : (k : ℕ) → first_of fs (first_of fs k) ≡ first_of fs k)
    (w : Written ls fs out₀ out count i) where
  pub written_count : count ≡ count_if (opens_block fs) i
  written_count = w.count_is ∙ blocks-to-length ls fs i

  pub written-few : count ≤ i
  written-few = let a = written_count in let b = count-length (opens_block fs) i in let c = keep-few (opens_block fs) i in omega arith

  pub number-at-most : block_number fs i ≤ count
  number-at-most = go (ℕ_discrete (first_of fs i) i)
    where
      go : Dec (first_of fs i ≡ i) → block_number fs i ≤ count
      go (yes e) = let a = number-first ls fs low idem i e in let b = written_count in omega arith
      go (no n) = let a = number-below ls fs low idem i n in let b = written_count in omega arith

  -- word j of the block of line i, where it is an older one
  word-there : (n : first_of fs i ≡ i → ⊥) (j : ℕ) → j < 5 → get_or out (block_number fs i * 5 + j) 0 ≡ get_or (block_record (block_to ls fs i (first_of fs i))) j 0
  word-there n j h =
      ap (λ (t : List ℕ). get_or t (block_number fs i * 5 + j) 0) w.words
      ∙ (record-at block_record 5 five-words (blocks_to ls fs i) (drop (length (encoded block_record (blocks_to ls fs i))) out₀) (block_number fs i) j no_block
      (let a = number-below ls fs low idem i n in let b = blocks-to-length ls fs i in omega arith) h
      ∙ ap (λ (t : Block). get_or (block_record t) j 0) (block-there ls fs low idem i n))

  box-there : (n : first_of fs i ≡ i → ⊥) → block_box out (block_number fs i) ≡ (block_to ls fs i (first_of fs i)).bbox
  box-there n =
      let z : get_or out (block_number fs i * 5) 0 ≡ get_or out (block_number fs i * 5 + 0) 0 = ap (λ k. get_or out k 0) (let q : block_number fs i * 5 ≡ block_number fs i * 5 + 0 = omega arith in q) in
      λ t. record { x0 = (z ∙ word-there n 0 (omega arith)) t; y0 = word-there n 1 (omega arith) t; x1 = word-there n 2 (omega arith) t; y1 = word-there n 3 (omega arith) t }

  pub lines-there : block_number fs i < count → get_or out (block_number fs i * 5 + 4) 0 ≤ i
  unfolding block_to
  lines-there h = go (ℕ_discrete (first_of fs i) i)
    where
      go : Dec (first_of fs i ≡ i) → get_or out (block_number fs i * 5 + 4) 0 ≤ i
      go (yes e) = absurd (let a = number-first ls fs low idem i e in let b = written_count in omega arith)
      go (no n) = let a = word-there n 4 (omega arith) in let b = own-few ls fs i (first_of fs i) in omega arith

  pub written-more : (l : Rect) (out' : List ℕ) (r b : ℕ) → l ≡ get_or ls i no_rect → b ≡ block_number fs i → count * 5 + 5 ≤ length out → length out ≡ length out₀
      → Grown l b count out out' r → Written ls fs out₀ out' r (i + 1)
  written-more l out' r b el eb room len g = subst (Written ls fs out₀ out' r) (sym (add-one i)) (go (ℕ_discrete (first_of fs i) i))
    where
      size : length (encoded block_record (blocks_to ls fs i)) ≡ count * 5
      size = length-encoded block_record 5 five-words (blocks_to ls fs i) ∙ ap (λ k. k * 5) (sym w.count_is)

      go : Dec (first_of fs i ≡ i) → Written ls fs out₀ out' r (suc i)
      go (yes e) =
          let at : b ≡ count = eb ∙ (number-first ls fs low idem i e ∙ sym written_count) in
          let (s, q) = g.first at in
          let more : blocks_to ls fs (suc i) ≡ blocks_to ls fs i ++ (block_to ls fs (suc i) i ∷ []) = blocks-first ls fs low idem i e in
          let fields : block_fields l 1 ≡ block_record (block_to ls fs (suc i) i) = ap (λ (x : Rect). block_fields x 1) el ∙ sym (first-fields ls fs low idem i e) in
          record {
            count_is = q ∙ (ap (λ k. k + 1) w.count_is ∙ sym (ap length more ∙ length-append (blocks_to ls fs i) (block_to ls fs (suc i) i ∷ [])));
            words =
                s
                ∙ ((λ t. sets (w.words t) (b * 5) (fields t))
                ∙ (record-more block_record 5 five-words (blocks_to ls fs i) (block_to ls fs (suc i) i) out₀ (b * 5) (ap (λ k. k * 5) at ∙ sym size) (let z = ap (λ k. k * 5) at in omega arith)
                ∙ ap (λ (t : List Block). over (encoded block_record t) out₀) (sym more)));
          }
      go (no n) =
          let under : b < count = (let a = number-below ls fs low idem i n in let c = written_count in omega arith) in
          let (s, q) = g.later under in
          let k : ℕ = first_of fs i in
          let v : Block = block_to ls fs (suc i) k in
          let more : blocks_to ls fs (suc i) ≡ set (blocks_to ls fs i) b v = blocks-later ls fs low idem i n ∙ ap (λ z. set (blocks_to ls fs i) z v) (sym eb) in
          let same : length (set (blocks_to ls fs i) b v) ≡ length (blocks_to ls fs i) = length-set (blocks_to ls fs i) b v in
          let box : block_box out b ≡ (block_to ls fs i k).bbox = ap (block_box out) eb ∙ box-there n in
          let lines : get_or out (b * 5 + 4) 0 ≡ length (block_to ls fs i k).lines = ap (λ z. get_or out (z * 5 + 4) 0) eb ∙ word-there n 4 (omega arith) in
          let fields : block_fields (union (block_box out b) l) (get_or out (b * 5 + 4) 0 + 1) ≡ block_record v =
          (λ t. block_fields (union (box t) (el t)) (lines t + 1)) ∙ sym (later-fields ls fs low idem i n) in
          let cut : length (encoded block_record (blocks_to ls fs i)) ≡ length (encoded block_record (set (blocks_to ls fs i) b v)) =
          length-encoded block_record 5 five-words (blocks_to ls fs i) ∙ (ap (λ z. z * 5) (sym same) ∙ sym (length-encoded block_record 5 five-words (set (blocks_to ls fs i) b v))) in
          record {
            count_is = q ∙ (w.count_is ∙ sym (ap length more ∙ same));
            words =
                s
                ∙ ((λ t. sets (w.words t) (b * 5) (fields t))
                ∙ (record-set block_record 5 five-words (blocks_to ls fs i) b v no_block (drop (length (encoded block_record (blocks_to ls fs i))) out₀) (let z = w.count_is in omega arith)
                ∙ (ap (λ z. encoded block_record (set (blocks_to ls fs i) b v) ++ drop z out₀) cut ∙ ap (λ (t : List Block). over (encoded block_record t) out₀) (sym more))));
          }

pub written_all : (ls : List Rect) (fs out₀ out : List ℕ) (count i : ℕ) → Written ls fs out₀ out count i → i ≡ length ls
    → (count ≡ length (blocks_of ls fs)) × (out ≡ over (encoded block_record (blocks_of ls fs)) out₀)
written_all ls fs out₀ out count i w e =
    let z = blocks-to-all ls fs i e in
    (w.count_is ∙ ap length z, w.words ∙ ap (λ (t : List Block). over (encoded block_record t) out₀) z)

-- The same behind the lines, in one slice: the blocks stand from word `at` on, and what lies before stays

pub record WrittenBehind (ls : List Rect) (fs words₀ words : List ℕ) (at count i : ℕ) : Type 0 where
  pub front : take at words ≡ take at words₀
  pub written : Written ls fs (drop at words₀) (drop at words) count i

pub behind-none : (ls : List Rect) (fs words : List ℕ) (at : ℕ) → WrittenBehind ls fs words words at 0 0
behind-none ls fs words at = record { front = refl; written = written_none ls fs (drop at words) }

-- a line before `at` is as it was
pub line-there : (words₀ words : List ℕ) (at i : ℕ) → take at words ≡ take at words₀ → i * 8 + 8 ≤ at → line_box words i ≡ line_box words₀ i
line-there words₀ words at i e h =
    let same : (j : ℕ) → j < at → get_or words j 0 ≡ get_or words₀ j 0 = λ j l. sym (get_or-take at words j 0 l) ∙ (ap (λ (z : List ℕ). get_or z j 0) e ∙ get_or-take at words₀ j 0 l) in
    λ t. record {
      x0 = same (i * 8) (omega arith) t;
      y0 = same (i * 8 + 1) (omega arith) t;
      x1 = same (i * 8 + 2) (omega arith) t;
      y1 = same (i * 8 + 3) (omega arith) t;
    }

pub behind_more : (ls : List Rect) (fs words₀ words part : List ℕ) (at count i : ℕ) → ((k : ℕ) → first_of fs k ≤ k) → ((k : ℕ) → first_of fs (first_of fs k) ≡ first_of fs k)
    → WrittenBehind ls fs words₀ words at count i → length words ≡ length words₀ → at + (count * 5 + 5) ≤ length words
    → (l : Rect) (r b : ℕ) → l ≡ get_or ls i no_rect → b ≡ block_number fs i → Grown l b count (take (length words - at) (drop at words)) part r
    → WrittenBehind ls fs words₀ (put_mid at (length words - at) words part) at r (i + 1)
behind_more ls fs words₀ words part at count i low idem w len room l r b el eb g =
    let put = tail-put at words part in
    let size : length (take at words) ≡ at = length-take-le at words (omega arith) in
    let d : length (drop at words) ≡ length words - at = length-drop at words in
    let d₀ : length (drop at words₀) ≡ length words₀ - at = length-drop at words₀ in
    record {
      front = ap (take at) put ∙ (take_at (take at words) part at size ∙ w.front);
      written = subst (λ (z : List ℕ). Written ls fs (drop at words₀) z r (i + 1)) (sym (ap (drop at) put ∙ drop_at (take at words) part at size))
          (written-more ls fs (drop at words₀) (drop at words) count i low idem w.written l part r b el eb (omega arith) (omega arith)
          (subst (λ (z : List ℕ). Grown l b count z part r) (tail-part at words) g));
    }

-- as long as it was
pub behind-long : (words part : List ℕ) (at : ℕ) → at ≤ length words → length part ≡ length (take (length words - at) (drop at words))
    → length (put_mid at (length words - at) words part) ≡ length words
behind-long words part at h e =
    let d = length-drop at words in
    let f = ap length (tail-part at words) in
    let g = length-take-le at words h in
    ap length (tail-put at words part) ∙ (length-append (take at words) part ∙ (let z : length (take at words) + length part ≡ length words = omega arith in z))

pub behind-all : (ls : List Rect) (fs words₀ words : List ℕ) (at count i : ℕ) → WrittenBehind ls fs words₀ words at count i → i ≡ length ls
    → (count ≡ length (blocks_of ls fs)) × (words ≡ put_at at (encoded block_record (blocks_of ls fs)) words₀)
behind-all ls fs words₀ words at count i w e =
    let z = written_all ls fs (drop at words₀) (drop at words) count i w.written e in
    (z.0, sym (take-append-drop at words) ∙ (λ t. w.front t ++ z.1 t))
