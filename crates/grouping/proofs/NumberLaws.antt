-- Blocks numbered in one pass over the parents of the lines.
use mathlib.Core.Path.{◌≡◌, refl, sym, ap, ◌∙◌}
use mathlib.Core.Bool.{true, false}
use mathlib.Core.List.{List, ◌++◌}
use Prim.Native.Nat.{ℕ, zero, suc, ◌+◌, ◌*◌, ◌≤◌, ◌<◌}
use native.Mathlib.Nat.{le_refl}
use native.Mathlib.Decide.{ℕ_discrete}
use native.Mathlib.Omega.{arith}
use native.Mathlib.Numerals.{add-one}
use borrow.Author.Tests.{eq-eqb, ne_eqb}
use lib.ListN.{get_or, length, set, drop, length-set, get_or-append}
use lib.Seq.{drop-set-lt, drop-drop, get_or-drop}
use Rattle.memory.specs.rules.Lists.{table, count_if}
use Rattle.memory.proofs.TableLaws.{length-table, get_or-table}
use Rattle.union_find.specs.rules.Classes.{first_of}
use Rattle.union_find.specs.stages.Forests.{Forest}
use Rattle.grouping.specs.rules.Blocks.{opens_block, block_number}
use Rattle.grouping.specs.stages.Numbering.{NumberedOne, with_blocks}
use Rattle.smoothing.specs.rules.LineRecords.{line_words}
use Rattle.memory.proofs.PlaceLaws.{count_yes, count_no}
use Rattle.grouping.proofs.CoverSums.{past}
use Rattle.grouping.proofs.TableWords.{table_more}

-- The words past line i stay

pub rest_at : (i : ℕ) (p p₀ : List ℕ) → drop i p ≡ drop i p₀ → get_or p i 0 ≡ get_or p₀ i 0
rest_at i p p₀ e =
    let z : i + 0 ≡ i = omega arith in
    sym (get_or-drop i p 0 0 ∙ ap (λ k. get_or p k 0) z) ∙ (ap (λ (t : List ℕ). get_or t 0 0) e ∙ (get_or-drop i p₀ 0 0 ∙ ap (λ k. get_or p₀ k 0) z))

rest-set : (i v : ℕ) (p p' p₀ : List ℕ) → drop i p ≡ drop i p₀ → p' ≡ set p i v → (drop (i + 1) p' ≡ drop (i + 1) p₀) × (length p' ≡ length p)
rest-set i v p p' p₀ e s = (
  ap (drop (i + 1)) s
      ∙ (drop-set-lt (i + 1) p i v (omega arith)
      ∙ (sym (drop-drop 1 i p) ∙ (ap (drop 1) e ∙ drop-drop 1 i p₀))),
  ap length s ∙ length-set p i v,
)

pub number-rest : (p p' p₀ : List ℕ) (i count r : ℕ) → NumberedOne p p' i count r → drop i p ≡ drop i p₀ → (drop (i + 1) p' ≡ drop (i + 1) p₀) × (length p' ≡ length p) × (r ≤ count + 1)
number-rest p p' p₀ i count r N e = go (ℕ_discrete (get_or p i 0) i)
  where
    go : Dec (get_or p i 0 ≡ i) → (drop (i + 1) p' ≡ drop (i + 1) p₀) × (length p' ≡ length p) × (r ≤ count + 1)
    go (yes z) = let (s, q) = N.first z in let (a, b) = rest-set i count p p' p₀ e s in (a, b, omega arith)
    go (no z) = let (s, q) = N.later z in let (a, b) = rest-set i (get_or p (get_or p i 0) 0) p p' p₀ e s in (a, b, omega arith)

-- the blocks of the lines before i are numbered
pub record Numbered (fs : List ℕ) (p₀ p : List ℕ) (count i : ℕ) : Type 0 where
  pub count_is : count ≡ count_if (opens_block fs) i
  pub words : p ≡ table (block_number fs) i ++ drop i p₀

pub numbered-none : (fs p : List ℕ) → Numbered fs p p 0 0
unfolding table count_if
numbered-none fs p = record { count_is = refl; words = refl }

module _ (fs p₀ : List ℕ) (n : ℕ) (F : Forest (first_of fs) p₀ n) (low : (k : ℕ) → first_of fs k ≤ k) (room : n ≤ length p₀) where
  opens-yes : (i : ℕ) → first_of fs i ≡ i → opens_block fs i ≡ true
  unfolding opens_block
  opens-yes i e = eq-eqb (first_of fs i) i e

  opens-no : (i : ℕ) → (first_of fs i ≡ i → ⊥) → opens_block fs i ≡ false
  unfolding opens_block
  opens-no i e = ne_eqb (first_of fs i) i e

  number_of : (i k : ℕ) → first_of fs i ≡ k → block_number fs i ≡ count_if (opens_block fs) k
  unfolding block_number
  number_of i k e = ap (count_if (opens_block fs)) e

  pub numbered_more : (p p' : List ℕ) (count r i : ℕ) → i < n → Numbered fs p₀ p count i → NumberedOne p p' i count r → Numbered fs p₀ p' r (i + 1)
  numbered_more p p' count r i h W N = go (ℕ_discrete (get_or p₀ i 0) i)
    where
      here : get_or p i 0 ≡ get_or p₀ i 0
      here = ap (λ (t : List ℕ). get_or t i 0) W.words ∙ past (block_number fs) i p₀ i (le_refl i)

      stored : (v : ℕ) → v ≡ block_number fs i → p' ≡ set p i v → p' ≡ table (block_number fs) (i + 1) ++ drop (i + 1) p₀
      stored v e s = s ∙ ((λ j. set (W.words j) i (e j)) ∙ table_more (block_number fs) p₀ i (omega arith))

      go : Dec (get_or p₀ i 0 ≡ i) → Numbered fs p₀ p' r (i + 1)
      go (yes e) =
          let (s, q) = N.first (here ∙ e) in
          let own : first_of fs i ≡ i = F.root i h e in
          record {
            count_is = q ∙ (ap (λ k. k + 1) W.count_is ∙ (sym (ap (count_if (opens_block fs)) (add-one i) ∙ (count_yes (opens_block fs) i (opens-yes i own) ∙ sym (add-one (count_if (opens_block fs) i))))));
            words = stored count (W.count_is ∙ sym (number_of i i own)) s;
          }
      go (no e) =
          let (s, q) = N.later (λ z. e (sym here ∙ z)) in
          let k : ℕ = get_or p₀ i 0 in
          let lk : k < i = (let d = F.down i h in omega arith) in
          let other : first_of fs i ≡ i → ⊥ = λ z. (let a = F.same i h in let b = low k in omega arith) in
          let value : get_or p (get_or p i 0) 0 ≡ block_number fs i =
          ap (λ j. get_or p j 0) here ∙ (ap (λ (t : List ℕ). get_or t k 0) W.words
          ∙ (get_or-append (table (block_number fs) i) (drop i p₀) 0 k (let t = length-table (block_number fs) i in omega arith)
          ∙ (get_or-table (block_number fs) i k 0 lk ∙ (number_of k (first_of fs k) refl ∙ sym (number_of i (first_of fs k) (sym (F.same i h))))))) in
          record {
            count_is = q ∙ (W.count_is ∙ sym (ap (count_if (opens_block fs)) (add-one i) ∙ count_no (opens_block fs) i (opens-no i other)));
            words = stored (get_or p (get_or p i 0) 0) value s;
          }

-- The numbers in the lines' words

pub blocks-none : (f : ℕ → ℕ) (s : List ℕ) → s ≡ with_blocks f 0 s
unfolding with_blocks
blocks-none f s = refl

pub blocks_more : (f : ℕ → ℕ) (i : ℕ) (s t : List ℕ) → t ≡ with_blocks f i s → set t (i * line_words + 7) (f i) ≡ with_blocks f (i + 1) s
unfolding with_blocks
blocks_more f i s t e = ap (λ (z : List ℕ). set z (i * line_words + 7) (f i)) e ∙ sym (ap (λ k. with_blocks f k s) (add-one i))

pub blocks-same : (f g : ℕ → ℕ) (n : ℕ) (s : List ℕ) → ((k : ℕ) → k < n → f k ≡ g k) → with_blocks f n s ≡ with_blocks g n s
unfolding with_blocks
blocks-same f g zero s h = refl
blocks-same f g (suc n) s h = λ i. set (blocks-same f g n s (λ k l. h k (omega arith)) i) (n * line_words + 7) (h n (le_refl (suc n)) i)
