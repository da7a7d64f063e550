-- Blocks as classes of lines, each named by its first line: they part the lines, and their numbers rise with their first lines.
use mathlib.Core.Path.{◌≡◌, refl, sym, ap, ◌∙◌}
use mathlib.Core.Bool.{true, cond}
use mathlib.Core.List.{List}
use Prim.Native.Nat.{ℕ, ◌≤◌, ◌<◌}
use native.Mathlib.Decide.{ℕ_discrete, dec_lt}
use native.Mathlib.Omega.{arith}
use borrow.Author.Tests.{eq-eqb, ne_eqb, eqb-true}
use lib.ListN.{get_or, length, length-map}
use lib.Dec.{eqb}
use Rattle.memory.specs.rules.Lists.{upto, keep, count_if, occurs}
use Rattle.union_find.specs.rules.Classes.{first_of}
use Rattle.memory.specs.declared.rect.Rect.{Rect}
use Rattle.grouping.specs.rules.Blocks.{Block, opens_block, block_number, block_of, blocks_of}
use Rattle.memory.proofs.ListLaws.{keep_same, get_or-mapped}
use Rattle.memory.proofs.PlaceLaws.{Placed, count-below, count-length, count-place, place-count, once}

eqb_swap : (a b : ℕ) → eqb a b ≡ eqb b a
eqb_swap a b = go (ℕ_discrete a b)
  where
    go : Dec (a ≡ b) → eqb a b ≡ eqb b a
    go (yes e) = eq-eqb a b e ∙ sym (eq-eqb b a (sym e))
    go (no n) = ne_eqb a b n ∙ sym (ne_eqb b a (λ e. n (sym e)))

module _ (ls : List Rect) (fs : List ℕ) (low : (i : ℕ) → first_of fs i ≤ i) (idem : (i : ℕ) → first_of fs (first_of fs i) ≡ first_of fs i) where
  opens : (i : ℕ) → opens_block fs (first_of fs i) ≡ true
  unfolding opens_block
  opens i = eq-eqb (first_of fs (first_of fs i)) (first_of fs i) (idem i)

  pub blocks-count : length (blocks_of ls fs) ≡ count_if (opens_block fs) (length ls)
  unfolding blocks_of
  blocks-count = length-map (keep (opens_block fs) (upto (length ls))) (block_of ls fs) ∙ count-length (opens_block fs) (length ls)

  pub block-in-range : (i : ℕ) → i < length ls → block_number fs i < length (blocks_of ls fs)
  unfolding block_number
  block-in-range i h =
      let a = count-below (opens_block fs) (first_of fs i) (length ls) (let l = low i in omega arith) (opens i) in
      let b = blocks-count in
      omega arith

  block-at : (b : ℕ) (d : Block) → b < length (blocks_of ls fs) → get_or (blocks_of ls fs) b d ≡ block_of ls fs (get_or (keep (opens_block fs) (upto (length ls))) b 0)
  unfolding blocks_of
  block-at b d h =
      get_or-mapped (block_of ls fs) (keep (opens_block fs) (upto (length ls))) b d 0 (let e = length-map (keep (opens_block fs) (upto (length ls))) (block_of ls fs) in omega arith)

  opener : (b : ℕ) → b < length (blocks_of ls fs) → Placed (opens_block fs) (length ls) b (get_or (keep (opens_block fs) (upto (length ls))) b 0)
  opener b h = place-count (opens_block fs) (length ls) b 0 (let e = blocks-count in omega arith)

  same_block : (i b k : ℕ) → i < length ls → Placed (opens_block fs) (length ls) b k → k ≡ get_or (keep (opens_block fs) (upto (length ls))) b 0 → eqb (first_of fs i) k ≡ eqb b (block_number fs i)
  unfolding block_number
  same_block i b k h r z = go (ℕ_discrete (first_of fs i) k)
    where
      go : Dec (first_of fs i ≡ k) → eqb (first_of fs i) k ≡ eqb b (count_if (opens_block fs) (first_of fs i))
      go (yes e) = eq-eqb (first_of fs i) k e ∙ sym (eq-eqb b (count_if (opens_block fs) (first_of fs i)) (sym r.count ∙ ap (count_if (opens_block fs)) (sym e)))
      go (no n) =
          ne_eqb (first_of fs i) k n
          ∙ sym (ne_eqb b (count_if (opens_block fs) (first_of fs i)) (λ e. n
          (sym (count-place (opens_block fs) (length ls) (first_of fs i) 0 (let l = low i in omega arith) (opens i))
          ∙ (ap (λ j. get_or (keep (opens_block fs) (upto (length ls))) j 0) (sym e) ∙ sym z))))

  -- the lines of a block are those that have its number
  pub block-lines : (b : ℕ) (d : Block) → b < length (blocks_of ls fs) → (get_or (blocks_of ls fs) b d).lines ≡ keep (λ i. eqb (block_number fs i) b) (upto (length ls))
  unfolding block_of
  block-lines b d h =
      let first : ℕ = get_or (keep (opens_block fs) (upto (length ls))) b 0 in
      ap (λ (t : Block). t.lines) (block-at b d h)
      ∙ keep_same (λ j. eqb (first_of fs j) first) (λ i. eqb (block_number fs i) b) (length ls) (λ i l. same_block i b first l (opener b h) refl ∙ eqb_swap b (block_number fs i))

  -- line i stands once in the list of its own block, and in no other's
  pub blocks-part : (i b : ℕ) (d : Block) → i < length ls → b < length (blocks_of ls fs) → occurs i (get_or (blocks_of ls fs) b d).lines ≡ cond (eqb b (block_number fs i)) 1 0
  unfolding block_of
  blocks-part i b d h k =
      let first : ℕ = get_or (keep (opens_block fs) (upto (length ls))) b 0 in
      ap (λ (t : Block). occurs i t.lines) (block-at b d k)
      ∙ (once (λ j. eqb (first_of fs j) first) (length ls) i h ∙ ap (λ t. cond t 1 0) (same_block i b first h (opener b k) refl))

  -- every block has a line: its first is number b of those that open a block
  pub block-first : (b : ℕ) (d : Block) → b < length (blocks_of ls fs)
      → (k : ℕ) × (k < length ls) × (first_of fs k ≡ k) × (block_number fs k ≡ b) × (occurs k (get_or (blocks_of ls fs) b d).lines ≡ 1)
  unfolding opens_block block_number
  block-first b d h =
      let k : ℕ = get_or (keep (opens_block fs) (upto (length ls))) b 0 in
      let r : Placed (opens_block fs) (length ls) b k = opener b h in
      let own : first_of fs k ≡ k = eqb-true (first_of fs k) k r.passes in
      let number : block_number fs k ≡ b = ap (count_if (opens_block fs)) own ∙ r.count in
      (k, r.below, own, number, blocks-part k b d r.below h ∙ ap (λ t. cond t 1 0) (eq-eqb b (block_number fs k) (sym number)))

  -- block numbers rise with first lines
  pub numbers-rise : (i j : ℕ) → first_of fs i < first_of fs j → block_number fs i < block_number fs j
  unfolding block_number
  numbers-rise i j h = count-below (opens_block fs) (first_of fs i) (first_of fs j) h (opens i)

  pub number_same : (i j : ℕ) → block_number fs i ≡ block_number fs j → first_of fs i ≡ first_of fs j
  number_same i j e = go (dec_lt (first_of fs i) (first_of fs j)) (dec_lt (first_of fs j) (first_of fs i))
    where
      go : Dec (first_of fs i < first_of fs j) → Dec (first_of fs j < first_of fs i) → first_of fs i ≡ first_of fs j
      go (yes l) d = absurd (let z = numbers-rise i j l in omega arith)
      go (no l) (yes m) = absurd (let z = numbers-rise j i m in omega arith)
      go (no l) (no m) = omega arith
