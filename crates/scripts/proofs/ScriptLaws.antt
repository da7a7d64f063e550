-- What the calls of a script do, over plain values: the parts of `play` cite these.
use mathlib.Core.Path.{◌≡◌, refl, sym, ap, ap₂, ◌∙◌, subst}
use mathlib.Core.Bool.{Bool, true, false, cond, ◌&&◌}
use mathlib.Core.List.{List, [], ◌++◌}
use Prim.Native.Nat.{ℕ, ◌+◌, min}
use native.Mathlib.Omega.{arith}
use borrow.Author.Tests.{eq-eqb, ne_eqb}
use lib.Dec.{eqb, leb}
use lib.IntN.{ℤ}
use lib.Ieee.{Float}
use lib.ListN.{length, take, drop, take-append-drop}
use lib.Seq.{length-take-le}
use Rattle.memory.specs.rules.Words.{word_at, over}
use Rattle.params.specs.declared.LayoutParams.{LayoutParams}
use Rattle.memory.specs.declared.rect.Rect.{Rect}
use Rattle.judging.specs.rules.Leaves.{leaf_of}
use Rattle.store.specs.rules.Readings.{LevelReading, ResultReading, Which}
use Rattle.store.specs.rules.Readings.Output.{none, words, integers, floats}
use Rattle.store.specs.rules.Readings.LevelReading.{point, box, gray, frame_figures}
use Rattle.store.specs.rules.Readings.ResultReading.{figures, summary, list, twenty_lines, count_dots, dots, listing}
use Rattle.store.specs.rules.Outcomes.{Left, left, level_left, segment_left, clear_left, Told, told, level_told, result_told}
use Rattle.account.specs.rules.Calls.{Act, world, call, says}
use Rattle.account.specs.rules.Calls.Act.{level, segment, clear, read_level, read_result}
use Rattle.scripts.specs.rules.Scripts.{Outputs, outputs, Memory, memory, op_at, store_at, ink_at, kinds_at, scratch_at, out_at, width_at, height_at, capacity_at, kind_at, left_at, top_at, turns_at, cut, lent_of, bytes_of, number_at, sheet_from, box_from, leaf_from, list_named, level_reading, words_reading, result_reading, lent_by, act_of, fills_bytes, put_back, stepped}
use Rattle.scripts.specs.stages.Playing.{left_back, Filled, Did}

-- ---- front parts

-- a part that is cut is as long as it says
pub part-long : {A : Type 0} (x n : ℕ) (s : List A) → n ≡ min x (length s) → n ≡ length (take n s)
part-long x n s e = sym (length-take-le n s (omega arith))

-- a part put back as it was
pub part-back : (x : ℕ) (s : List ℕ) → over (take (min x (length s)) s) s ≡ s
part-back x s = ap (λ (n : ℕ). take (min x (length s)) s ++ drop n s) (length-take-le (min x (length s)) s (omega arith)) ∙ take-append-drop (min x (length s)) s

-- a store and a plane, parts of n and m that were left as u says
left_back_lem : (u : Left) (r n m : ℕ) (x y s p : List ℕ) → left r x y ≡ u → length x ≡ n → length y ≡ m → left r (x ++ drop n s) (y ++ drop m p) ≡ left_back u s p
left_back_lem u r n m x y s p e hx hy = ap₂ (λ (a b : ℕ). left r (x ++ drop a s) (y ++ drop b p)) (sym hx) (sym hy) ∙ ap (λ (z : Left). left_back z s p) e

-- ---- levelling and segmenting

module _ (w : List ℕ) (fs : List Float) (bs s i : List ℕ) where
  pub level-called : {n m : ℕ} → n ≡ cut w store_at s → m ≡ cut w ink_at i
      → {mask : List ℕ} → mask ≡ bytes_of w bs → {width height : ℕ} → width ≡ word_at w width_at → height ≡ word_at w height_at
      → {at : ℕ} → at ≡ word_at w turns_at → {skew slope : Float} → skew ≡ number_at fs at → slope ≡ number_at fs (at + 1)
      → {sheet : LayoutParams} → sheet ≡ sheet_from w fs → {P : ℕ} → P ≡ word_at w capacity_at
      → {r : ℕ} {x y : List ℕ} → left r x y ≡ level_left (leaf_of mask width height skew slope sheet P) (take n s) (take m i)
      → length x ≡ length (take n s) → length y ≡ length (take m i)
      → left r (x ++ drop n s) (y ++ drop m i) ≡ left_back (level_left (leaf_from w fs bs) (lent_of w store_at s) (lent_of w ink_at i)) s i
  unfolding leaf_from
  level-called {n} {m} en em ea ew eh et ek el es e_p {r} {x} {y} h hx hy =
      left_back_lem (level_left (leaf_from w fs bs) (lent_of w store_at s) (lent_of w ink_at i)) r n m x y s i
      (h ∙ (λ j. level_left
      (leaf_of (ea j) (ew j) (eh j) ((ek ∙ ap (number_at fs) et) j) ((el ∙ ap (λ (k : ℕ). number_at fs (k + 1)) et) j) (es j) (e_p j))
      (take (en j) s) (take (em j) i)))
      (hx ∙ sym (part-long (word_at w store_at) n s en)) (hy ∙ sym (part-long (word_at w ink_at) m i em))

module _ (w : List ℕ) (fs : List Float) (s i k : List ℕ) (scratch : ℕ) where
  pub segment-called : {n m l x : ℕ} → n ≡ cut w store_at s → m ≡ cut w ink_at i → l ≡ cut w kinds_at k → x ≡ min (word_at w scratch_at) scratch
      → {sheet : LayoutParams} → sheet ≡ sheet_from w fs → {z : ℕ} → x ≡ z
      → {r : ℕ} {a b : List ℕ} → left r a b ≡ segment_left sheet (take n s) (take m i) (take l k) z
      → length a ≡ length (take n s) → length b ≡ length (take l k)
      → left r (a ++ drop n s) (b ++ drop l k) ≡ left_back (segment_left (sheet_from w fs) (lent_of w store_at s) (lent_of w ink_at i) (lent_of w kinds_at k) (min (word_at w scratch_at) scratch)) s k
  segment-called {n} {m} {l} en em el ex es ez {r} {a} {b} h ha hb =
      left_back_lem _ r n l a b s k
      (h ∙ (λ j. segment_left (es j) (take (en j) s) (take (em j) i) (take (el j) k) ((sym ez ∙ ex) j)))
      (ha ∙ sym (part-long (word_at w store_at) n s en)) (hb ∙ sym (part-long (word_at w kinds_at) l k el))

-- ---- readings: an answer put back over the front of its output

module _ (g : Bool) (t : Told) (r v n : ℕ) (ws gs : List ℕ) (is : List ℤ) (ns : List Float) where
  filled-integers : (x : List ℤ) → told r v (integers x) ≡ t → length x ≡ n → Filled g t r v (outputs ws gs is ns) (outputs ws gs (x ++ drop n is) ns)
  filled-integers x e h =
      record {
        number = ap (λ (z : Told). z.number) e;
        value = ap (λ (z : Told). z.value) e;
        outputs = ap (λ (k : ℕ). outputs ws gs (x ++ drop k is) ns) (sym h) ∙ ap (λ (z : Told). put_back z.output g (outputs ws gs is ns)) e;
      }

  filled-numbers : (x : List Float) → told r v (floats x) ≡ t → length x ≡ n → Filled g t r v (outputs ws gs is ns) (outputs ws gs is (x ++ drop n ns))
  filled-numbers x e h =
      record {
        number = ap (λ (z : Told). z.number) e;
        value = ap (λ (z : Told). z.value) e;
        outputs = ap (λ (k : ℕ). outputs ws gs is (x ++ drop k ns)) (sym h) ∙ ap (λ (z : Told). put_back z.output g (outputs ws gs is ns)) e;
      }

  filled_none : told r v none ≡ t → Filled g t r v (outputs ws gs is ns) (outputs ws gs is ns)
  filled_none e =
      record {
        number = ap (λ (z : Told). z.number) e;
        value = ap (λ (z : Told). z.value) e;
        outputs = ap (λ (z : Told). put_back z.output g (outputs ws gs is ns)) e;
      }

module _ (t : Told) (r v n : ℕ) (ws gs : List ℕ) (is : List ℤ) (ns : List Float) where
  filled-gray : (x : List ℕ) → told r v (words x) ≡ t → length x ≡ n → Filled true t r v (outputs ws gs is ns) (outputs ws (x ++ drop n gs) is ns)
  filled-gray x e h =
      record {
        number = ap (λ (z : Told). z.number) e;
        value = ap (λ (z : Told). z.value) e;
        outputs = ap (λ (k : ℕ). outputs ws (x ++ drop k gs) is ns) (sym h) ∙ ap (λ (z : Told). put_back z.output true (outputs ws gs is ns)) e;
      }

  filled-words : (x : List ℕ) → told r v (words x) ≡ t → length x ≡ n → Filled false t r v (outputs ws gs is ns) (outputs (x ++ drop n ws) gs is ns)
  filled-words x e h =
      record {
        number = ap (λ (z : Told). z.number) e;
        value = ap (λ (z : Told). z.value) e;
        outputs = ap (λ (k : ℕ). outputs (x ++ drop k ws) gs is ns) (sym h) ∙ ap (λ (z : Told). put_back z.output false (outputs ws gs is ns)) e;
      }

-- ---- readings of a levelled page

module _ (w bs s ws gs : List ℕ) (is : List ℤ) where
  -- what `read_level` says of its outputs
  abbrev pub LevelRead : ℕ → List ℕ → List ℕ → List ℤ → Type 0
  LevelRead r ws' gs' is' =
      (ns : List Float)
      → Filled (fills_bytes (read_level (level_reading w bs (outputs ws gs is ns)))) (level_told (level_reading w bs (outputs ws gs is ns)) s) r 0 (outputs ws gs is ns) (outputs ws' gs' is' ns)

  is-point : word_at w op_at ≡ 3 → (o : Outputs) → level_reading w bs o ≡ point (word_at w left_at) (word_at w top_at) (lent_of w out_at o.integers)
  unfolding level_reading
  is-point z o = simp (eq-eqb (word_at w op_at) 3 z)

  is-box : (word_at w op_at ≡ 3 → ⊥) → word_at w op_at ≡ 4 → (o : Outputs) → level_reading w bs o ≡ box (box_from w) (lent_of w out_at o.integers)
  unfolding level_reading
  is-box y z o = simp (ne_eqb (word_at w op_at) 3 y, eq-eqb (word_at w op_at) 4 z)

  is-gray : (word_at w op_at ≡ 3 → ⊥) → (word_at w op_at ≡ 4 → ⊥) → word_at w op_at ≡ 5 → (o : Outputs) → level_reading w bs o ≡ gray (bytes_of w bs) (lent_of w out_at o.gray)
  unfolding level_reading
  is-gray y x z o = simp (ne_eqb (word_at w op_at) 3 y, ne_eqb (word_at w op_at) 4 x, eq-eqb (word_at w op_at) 5 z)

  is-frame : (word_at w op_at ≡ 3 → ⊥) → (word_at w op_at ≡ 4 → ⊥) → (word_at w op_at ≡ 5 → ⊥) → (o : Outputs) → level_reading w bs o ≡ frame_figures (lent_of w out_at o.words)
  unfolding level_reading
  is-frame y x z o = simp (ne_eqb (word_at w op_at) 3 y, ne_eqb (word_at w op_at) 4 x, ne_eqb (word_at w op_at) 5 z)

  read_as : (q : LevelReading) (ns : List Float) → level_reading w bs (outputs ws gs is ns) ≡ q → {r : ℕ} {o : Outputs}
      → Filled (fills_bytes (read_level q)) (level_told q s) r 0 (outputs ws gs is ns) o
      → Filled (fills_bytes (read_level (level_reading w bs (outputs ws gs is ns)))) (level_told (level_reading w bs (outputs ws gs is ns)) s) r 0 (outputs ws gs is ns) o
  read_as q ns e {r} {o} h = subst (λ (q : LevelReading). Filled (fills_bytes (read_level q)) (level_told q s) r 0 (outputs ws gs is ns) o) (sym e) h

  module _ {op : ℕ} (eo : op ≡ word_at w op_at) {n : ℕ} {r : ℕ} where
    pub read-point : op ≡ 3 → n ≡ cut w out_at is → {x y : ℕ} → x ≡ word_at w left_at → y ≡ word_at w top_at
        → {out : List ℤ} → told r 0 (integers out) ≡ level_told (point x y (take n is)) s → length out ≡ length (take n is) → LevelRead r ws gs (out ++ drop n is)
    read-point z en ex ey {out} h long ns =
        read_as _ ns (is-point (sym eo ∙ z) (outputs ws gs is ns))
        (filled-integers false _ r 0 n ws gs is ns out (h ∙ (λ j. level_told (point (ex j) (ey j) (take (en j) is)) s)) (long ∙ sym (part-long (word_at w out_at) n is en)))

    pub read-box : (op ≡ 3 → ⊥) → op ≡ 4 → n ≡ cut w out_at is → {b : Rect} → b ≡ box_from w
        → {out : List ℤ} → told r 0 (integers out) ≡ level_told (box b (take n is)) s → length out ≡ length (take n is) → LevelRead r ws gs (out ++ drop n is)
    read-box y z en eb {out} h long ns =
        read_as _ ns (is-box (λ q. y (eo ∙ q)) (sym eo ∙ z) (outputs ws gs is ns))
        (filled-integers false _ r 0 n ws gs is ns out (h ∙ (λ j. level_told (box (eb j) (take (en j) is)) s)) (long ∙ sym (part-long (word_at w out_at) n is en)))

    pub read-gray : (op ≡ 3 → ⊥) → (op ≡ 4 → ⊥) → op ≡ 5 → n ≡ cut w out_at gs → {b : List ℕ} → b ≡ bytes_of w bs
        → {out : List ℕ} → told r 0 (words out) ≡ level_told (gray b (take n gs)) s → length out ≡ length (take n gs) → LevelRead r ws (out ++ drop n gs) is
    read-gray y x z en eb {out} h long ns =
        read_as _ ns (is-gray (λ q. y (eo ∙ q)) (λ q. x (eo ∙ q)) (sym eo ∙ z) (outputs ws gs is ns))
        (filled-gray _ r 0 n ws gs is ns out (h ∙ (λ j. level_told (gray (eb j) (take (en j) gs)) s)) (long ∙ sym (part-long (word_at w out_at) n gs en)))

    pub read-frame : (op ≡ 3 → ⊥) → (op ≡ 4 → ⊥) → (op ≡ 5 → ⊥) → n ≡ cut w out_at ws
        → {out : List ℕ} → told r 0 (words out) ≡ level_told (frame_figures (take n ws)) s → length out ≡ length (take n ws) → LevelRead r (out ++ drop n ws) gs is
    read-frame y x z en {out} h long ns =
        read_as _ ns (is-frame (λ q. y (eo ∙ q)) (λ q. x (eo ∙ q)) (λ q. z (eo ∙ q)) (outputs ws gs is ns))
        (filled-words _ r 0 n ws gs is ns out (h ∙ (λ j. level_told (frame_figures (take (en j) ws)) s)) (long ∙ sym (part-long (word_at w out_at) n ws en)))

-- ---- readings of results

-- the list that a number names
module _ (op : ℕ) where
  pub is-columns : op ≡ 12 → list_named op ≡ Which.columns
  is-columns z = simp (eq-eqb op 12 z)

  pub is-rules : (op ≡ 12 → ⊥) → op ≡ 13 → list_named op ≡ Which.rules
  is-rules a z = simp (ne_eqb op 12 a, eq-eqb op 13 z)

  pub is-graphics : (op ≡ 12 → ⊥) → (op ≡ 13 → ⊥) → op ≡ 14 → list_named op ≡ Which.graphics
  is-graphics a b z = simp (ne_eqb op 12 a, ne_eqb op 13 b, eq-eqb op 14 z)

  pub is-glyphs : (op ≡ 12 → ⊥) → (op ≡ 13 → ⊥) → (op ≡ 14 → ⊥) → op ≡ 15 → list_named op ≡ Which.glyphs
  is-glyphs a b c z = simp (ne_eqb op 12 a, ne_eqb op 13 b, ne_eqb op 14 c, eq-eqb op 15 z)

  pub is-lines : (op ≡ 12 → ⊥) → (op ≡ 13 → ⊥) → (op ≡ 14 → ⊥) → (op ≡ 15 → ⊥) → op ≡ 16 → list_named op ≡ Which.lines
  is-lines a b c d z = simp (ne_eqb op 12 a, ne_eqb op 13 b, ne_eqb op 14 c, ne_eqb op 15 d, eq-eqb op 16 z)

  pub is-blocks : (op ≡ 12 → ⊥) → (op ≡ 13 → ⊥) → (op ≡ 14 → ⊥) → (op ≡ 15 → ⊥) → (op ≡ 16 → ⊥) → list_named op ≡ Which.blocks
  is-blocks a b c d e = simp (ne_eqb op 12 a, ne_eqb op 13 b, ne_eqb op 14 c, ne_eqb op 15 d, ne_eqb op 16 e)

pub list-told : (out s i k : List ℕ) {a b : Which} {t : Told} → a ≡ b → t ≡ result_told (list b out) s i k → t ≡ result_told (list a out) s i k
list-told out s i k e h = h ∙ ap (λ (a : Which). result_told (list a out) s i k) (sym e)

module _ (w out s i k : List ℕ) {op : ℕ} (eo : op ≡ word_at w op_at) {a b n v : ℕ} (ea : a ≡ n) (eb : b ≡ v) {x : List ℕ} where
  words-as : (q : ResultReading) → words_reading w out ≡ q → told n v (words x) ≡ result_told q s i k → told a b (words x) ≡ result_told (words_reading w out) s i k
  words-as q e h = (λ j. told (ea j) (eb j) (words x)) ∙ (h ∙ ap (λ (q : ResultReading). result_told q s i k) (sym e))

  pub words-figures : op ≡ 7 → told n v (words x) ≡ result_told (figures out) s i k → told a b (words x) ≡ result_told (words_reading w out) s i k
  unfolding words_reading
  words-figures z h = words-as (figures out) (simp (eq-eqb (word_at w op_at) 7 (sym eo ∙ z))) h

  pub words-dots : (op ≡ 7 → ⊥) → op ≡ 11 → {kind : ℕ} → kind ≡ word_at w kind_at → {r : Rect} → r ≡ box_from w
      → told n v (words x) ≡ result_told (dots kind r out) s i k → told a b (words x) ≡ result_told (words_reading w out) s i k
  unfolding words_reading
  words-dots y z ek er h =
      words-as (dots (word_at w kind_at) (box_from w) out) (simp (ne_eqb (word_at w op_at) 7 (λ (q : word_at w op_at ≡ 7). y (eo ∙ q)), eq-eqb (word_at w op_at) 11 (sym eo ∙ z)))
      (h ∙ (λ j. result_told (dots (ek j) (er j) out) s i k))

  pub words-list : (op ≡ 7 → ⊥) → (op ≡ 11 → ⊥)
      → told n v (words x) ≡ result_told (list (list_named op) out) s i k → told a b (words x) ≡ result_told (words_reading w out) s i k
  unfolding words_reading
  words-list y z h =
      words-as (list (list_named (word_at w op_at)) out)
      (simp (ne_eqb (word_at w op_at) 7 (λ (q : word_at w op_at ≡ 7). y (eo ∙ q)), ne_eqb (word_at w op_at) 11 (λ (q : word_at w op_at ≡ 11). z (eo ∙ q))))
      (h ∙ ap (λ (l : ℕ). result_told (list (list_named l) out) s i k) eo)

module _ (w s i k ws gs : List ℕ) (ns : List Float) where
  -- what `read_results` says of its outputs
  abbrev pub ResultRead : ℕ → ℕ → List ℕ → List ℕ → List Float → Type 0
  ResultRead a b ws' gs' ns' =
      (is : List ℤ)
      → Filled (fills_bytes (read_result (result_reading w (outputs ws gs is ns)))) (result_told (result_reading w (outputs ws gs is ns)) s i k) a b (outputs ws gs is ns) (outputs ws' gs' is ns')

  is-summary : word_at w op_at ≡ 8 → (o : Outputs) → result_reading w o ≡ summary (lent_of w out_at o.numbers)
  unfolding result_reading
  is-summary z o = simp (eq-eqb (word_at w op_at) 8 z)

  is-twenty : (word_at w op_at ≡ 8 → ⊥) → word_at w op_at ≡ 9 → (o : Outputs) → result_reading w o ≡ twenty_lines
  unfolding result_reading
  is-twenty y z o = simp (ne_eqb (word_at w op_at) 8 y, eq-eqb (word_at w op_at) 9 z)

  is-count : (word_at w op_at ≡ 8 → ⊥) → (word_at w op_at ≡ 9 → ⊥) → word_at w op_at ≡ 10 → (o : Outputs) → result_reading w o ≡ count_dots (word_at w kind_at) (box_from w)
  unfolding result_reading
  is-count y x z o = simp (ne_eqb (word_at w op_at) 8 y, ne_eqb (word_at w op_at) 9 x, eq-eqb (word_at w op_at) 10 z)

  is-sheet : (word_at w op_at ≡ 8 → ⊥) → (word_at w op_at ≡ 9 → ⊥) → (word_at w op_at ≡ 10 → ⊥) → word_at w op_at ≡ 18 → (o : Outputs) → result_reading w o ≡ listing (lent_of w out_at o.gray)
  unfolding result_reading
  is-sheet y x z t o = simp (ne_eqb (word_at w op_at) 8 y, ne_eqb (word_at w op_at) 9 x, ne_eqb (word_at w op_at) 10 z, eq-eqb (word_at w op_at) 18 t)

  is-words : (word_at w op_at ≡ 8 → ⊥) → (word_at w op_at ≡ 9 → ⊥) → (word_at w op_at ≡ 10 → ⊥) → (word_at w op_at ≡ 18 → ⊥) → (o : Outputs)
      → result_reading w o ≡ words_reading w (lent_of w out_at o.words)
  unfolding result_reading
  is-words y x z t o = simp (ne_eqb (word_at w op_at) 8 y, ne_eqb (word_at w op_at) 9 x, ne_eqb (word_at w op_at) 10 z, ne_eqb (word_at w op_at) 18 t)

  -- those that fill words fill no bytes
  words-only : (out : List ℕ) → fills_bytes (read_result (words_reading w out)) ≡ false
  unfolding words_reading
  words-only out = go (eqb (word_at w op_at) 7) (eqb (word_at w op_at) 11)
    where
      go : (b c : Bool) → fills_bytes (read_result (cond b (figures out) (cond c (dots (word_at w kind_at) (box_from w) out) (list (list_named (word_at w op_at)) out)))) ≡ false
      go true c = refl
      go false true = refl
      go false false = refl

  result_as : (q : ResultReading) (is : List ℤ) → result_reading w (outputs ws gs is ns) ≡ q → {a b : ℕ} {o : Outputs}
      → Filled (fills_bytes (read_result q)) (result_told q s i k) a b (outputs ws gs is ns) o
      → Filled (fills_bytes (read_result (result_reading w (outputs ws gs is ns)))) (result_told (result_reading w (outputs ws gs is ns)) s i k) a b (outputs ws gs is ns) o
  result_as q is e {a} {b} {o} h = subst (λ (q : ResultReading). Filled (fills_bytes (read_result q)) (result_told q s i k) a b (outputs ws gs is ns) o) (sym e) h

  module _ {op : ℕ} (eo : op ≡ word_at w op_at) {a b r v : ℕ} (ea : a ≡ r) (eb : b ≡ v) where
    pub read-summary : op ≡ 8 → {n : ℕ} → n ≡ cut w out_at ns → {out : List Float} → told r v (floats out) ≡ result_told (summary (take n ns)) s i k
        → length out ≡ length (take n ns) → ResultRead a b ws gs (out ++ drop n ns)
    read-summary z {n} en {out} h long is =
        result_as _ is (is-summary (sym eo ∙ z) (outputs ws gs is ns))
        (filled-numbers false _ a b n ws gs is ns out ((λ j. told (ea j) (eb j) (floats out)) ∙ (h ∙ (λ j. result_told (summary (take (en j) ns)) s i k))) (long ∙ sym (part-long (word_at w out_at) n ns en)))

    pub read-twenty : (op ≡ 8 → ⊥) → op ≡ 9 → told r v none ≡ result_told twenty_lines s i k → ResultRead a b ws gs ns
    read-twenty y z h is =
        result_as _ is (is-twenty (λ q. y (eo ∙ q)) (sym eo ∙ z) (outputs ws gs is ns))
        (filled_none false _ a b 0 ws gs is ns ((λ j. told (ea j) (eb j) none) ∙ h))

    pub read_count : (op ≡ 8 → ⊥) → (op ≡ 9 → ⊥) → op ≡ 10 → {kind : ℕ} → kind ≡ word_at w kind_at → {x : Rect} → x ≡ box_from w
        → told r v none ≡ result_told (count_dots kind x) s i k → ResultRead a b ws gs ns
    read_count y x z ek er h is =
        result_as _ is (is-count (λ q. y (eo ∙ q)) (λ q. x (eo ∙ q)) (sym eo ∙ z) (outputs ws gs is ns))
        (filled_none false _ a b 0 ws gs is ns ((λ j. told (ea j) (eb j) none) ∙ (h ∙ (λ j. result_told (count_dots (ek j) (er j)) s i k))))

    pub read-sheet : (op ≡ 8 → ⊥) → (op ≡ 9 → ⊥) → (op ≡ 10 → ⊥) → op ≡ 18 → {n : ℕ} → n ≡ cut w out_at gs → {out : List ℕ} → told r v (words out) ≡ result_told (listing (take n gs)) s i k
        → length out ≡ length (take n gs) → ResultRead a b ws (out ++ drop n gs) ns
    read-sheet y x t z {n} en {out} h long is =
        result_as _ is (is-sheet (λ q. y (eo ∙ q)) (λ q. x (eo ∙ q)) (λ q. t (eo ∙ q)) (sym eo ∙ z) (outputs ws gs is ns))
        (filled-gray _ a b n ws gs is ns out ((λ j. told (ea j) (eb j) (words out)) ∙ (h ∙ (λ j. result_told (listing (take (en j) gs)) s i k))) (long ∙ sym (part-long (word_at w out_at) n gs en)))

  pub read-words : {op : ℕ} → op ≡ word_at w op_at → (op ≡ 8 → ⊥) → (op ≡ 9 → ⊥) → (op ≡ 10 → ⊥) → (op ≡ 18 → ⊥) → {n : ℕ} → n ≡ cut w out_at ws → {a b : ℕ} {out : List ℕ}
      → told a b (words out) ≡ result_told (words_reading w (take n ws)) s i k → length out ≡ length (take n ws) → ResultRead a b (out ++ drop n ws) gs ns
  read-words eo y x z t {n} en {a} {b} {out} h long is =
      result_as _ is (is-words (λ q. y (eo ∙ q)) (λ q. x (eo ∙ q)) (λ q. z (eo ∙ q)) (λ q. t (eo ∙ q)) (outputs ws gs is ns))
      (subst (λ (g : Bool). Filled g (result_told (words_reading w (lent_of w out_at ws)) s i k) a b (outputs ws gs is ns) (outputs (out ++ drop n ws) gs is ns)) (sym (words-only (lent_of w out_at ws)))
      (filled-words _ a b n ws gs is ns out (h ∙ (λ j. result_told (words_reading w (take (en j) ws)) s i k)) (long ∙ sym (part-long (word_at w out_at) n ws en))))

-- ---- one call

module _ (fs : List Float) (bs : List ℕ) (x : ℕ) (w s i k : List ℕ) (o : Outputs) {op : ℕ} (eo : op ≡ word_at w op_at) where
  -- a call of this act does so
  abbrev As : Act → ℕ → ℕ → Memory → Type 0
  As act a b m' =
      (a ≡ (says (world s i k) (call (lent_by w (world s i k)) act)).number) × (b ≡ (says (world s i k) (call (lent_by w (world s i k)) act)).value)
      × (m' ≡ stepped (memory (world s i k) o) (call (lent_by w (world s i k)) act))

  did-as : (act : Act) → act_of fs bs x w o ≡ act → {a b : ℕ} {m' : Memory} → As act a b m' → Did fs bs x w (memory (world s i k) o) a b m'
  did-as act e {a} {b} {m'} h =
      let g = subst (λ (act : Act). As act a b m') (sym e) h in
      record { number = g.0; value = g.1; left = g.2 }

  not-here : {n : ℕ} → (op ≡ n → ⊥) → word_at w op_at ≡ n → ⊥
  not-here y q = y (eo ∙ q)

  test-here : (f : ℕ → Bool) {b : Bool} → f op ≡ b → f (word_at w op_at) ≡ b
  test-here f e = ap f (sym eo) ∙ e

  module _ {a b : ℕ} {r : ℕ} (ea : a ≡ r) (eb : b ≡ 0) where
    pub did-level : {s' p : List ℕ} → op ≡ 1 → left r s' p ≡ left_back (level_left (leaf_from w fs bs) (lent_of w store_at s) (lent_of w ink_at i)) s i
        → Did fs bs x w (memory (world s i k) o) a b (memory (world s' p k) o)
    unfolding act_of
    did-level z h =
        did-as (level (leaf_from w fs bs)) (simp (eq-eqb (word_at w op_at) 1 (sym eo ∙ z)))
        (ea ∙ ap (λ (u : Left). u.number) h, eb, λ j. memory (world (h j).store (h j).plane (sym (part-back (word_at w kinds_at) k) j)) o)

    pub did-segment : {s' p : List ℕ} → (op ≡ 1 → ⊥) → op ≡ 2
        → left r s' p ≡ left_back (segment_left (sheet_from w fs) (lent_of w store_at s) (lent_of w ink_at i) (lent_of w kinds_at k) (min (word_at w scratch_at) x)) s k
        → Did fs bs x w (memory (world s i k) o) a b (memory (world s' i p) o)
    unfolding act_of
    did-segment y z h =
        did-as (segment (sheet_from w fs) (min (word_at w scratch_at) x)) (simp (ne_eqb (word_at w op_at) 1 (not-here y), eq-eqb (word_at w op_at) 2 (sym eo ∙ z)))
        (ea ∙ ap (λ (u : Left). u.number) h, eb, λ j. memory (world (h j).store (sym (part-back (word_at w ink_at) i) j) (h j).plane) o)

    pub did-read-level : (op ≡ 1 → ⊥) → (op ≡ 2 → ⊥) → (leb 3 op && leb op 6) ≡ true → {n : ℕ} → n ≡ cut w store_at s → {o' : Outputs}
        → Filled (fills_bytes (read_level (level_reading w bs o))) (level_told (level_reading w bs o) (take n s)) r 0 o o'
        → Did fs bs x w (memory (world s i k) o) a b (memory (world s i k) o')
    unfolding act_of
    did-read-level y z t en F =
        did-as (read_level (level_reading w bs o))
        (simp (ne_eqb (word_at w op_at) 1 (not-here y), ne_eqb (word_at w op_at) 2 (not-here z), test-here (λ (n : ℕ). leb 3 n && leb n 6) t)) (
          ea ∙ (F.number ∙ ap (λ (n : ℕ). (level_told (level_reading w bs o) (take n s)).number) en),
          eb ∙ (F.value ∙ ap (λ (n : ℕ). (level_told (level_reading w bs o) (take n s)).value) en),
          λ j. memory (world (sym (part-back (word_at w store_at) s) j) (sym (part-back (word_at w ink_at) i) j) (sym (part-back (word_at w kinds_at) k) j))
              ((F.outputs ∙ ap (λ (n : ℕ). put_back (level_told (level_reading w bs o) (take n s)).output (fills_bytes (read_level (level_reading w bs o))) o) en) j),
        )

    pub did-clear : {s' : List ℕ} → (op ≡ 1 → ⊥) → (op ≡ 2 → ⊥) → (leb 3 op && leb op 6) ≡ false → (leb 7 op && leb op 18) ≡ false → {n : ℕ} → n ≡ cut w store_at s
        → left r s' [] ≡ clear_left (take n s) → length s' ≡ length (take n s) → Did fs bs x w (memory (world s i k) o) a b (memory (world (s' ++ drop n s) i k) o)
    unfolding act_of
    did-clear {s'} y z t u {n} en h long =
        let g : left r (s' ++ drop n s) ([] ++ drop 0 []) ≡ left_back (clear_left (lent_of w store_at s)) s [] =
        left_back_lem (clear_left (lent_of w store_at s)) r n 0 s' [] s [] (h ∙ (λ j. clear_left (take (en j) s))) (long ∙ sym (part-long (word_at w store_at) n s en)) refl in
        did-as clear
        (simp (ne_eqb (word_at w op_at) 1 (not-here y), ne_eqb (word_at w op_at) 2 (not-here z), test-here (λ (n : ℕ). leb 3 n && leb n 6) t, test-here (λ (n : ℕ). leb 7 n && leb n 18) u))
        (ea ∙ ap (λ (u : Left). u.number) g, eb, λ j. memory (world (g j).store (sym (part-back (word_at w ink_at) i) j) (sym (part-back (word_at w kinds_at) k) j)) o)

  pub did-read-result : (op ≡ 1 → ⊥) → (op ≡ 2 → ⊥) → (leb 3 op && leb op 6) ≡ false → (leb 7 op && leb op 18) ≡ true
      → {n : ℕ} → n ≡ cut w store_at s → {a b : ℕ} {o' : Outputs}
      → Filled (fills_bytes (read_result (result_reading w o))) (result_told (result_reading w o) (take n s) (lent_of w ink_at i) (lent_of w kinds_at k)) a b o o' → Did fs bs x w (memory (world s i k) o) a b (memory (world s i k) o')
  unfolding act_of
  did-read-result y z t u {n} en F =
      let e : result_told (result_reading w o) (take n s) (lent_of w ink_at i) (lent_of w kinds_at k) ≡ result_told (result_reading w o) (lent_of w store_at s) (lent_of w ink_at i) (lent_of w kinds_at k) =
      (λ j. result_told (result_reading w o) (take (en j) s) (lent_of w ink_at i) (lent_of w kinds_at k)) in
      did-as (read_result (result_reading w o))
      (simp (ne_eqb (word_at w op_at) 1 (not-here y), ne_eqb (word_at w op_at) 2 (not-here z), test-here (λ (n : ℕ). leb 3 n && leb n 6) t, test-here (λ (n : ℕ). leb 7 n && leb n 18) u)) (
        F.number ∙ ap (λ (z : Told). z.number) e,
        F.value ∙ ap (λ (z : Told). z.value) e,
        λ j. memory (world (sym (part-back (word_at w store_at) s) j) (sym (part-back (word_at w ink_at) i) j) (sym (part-back (word_at w kinds_at) k) j)) ((F.outputs ∙ ap (λ (z : Told). put_back z.output (fills_bytes (read_result (result_reading w o))) o) e) j),
      )

-- a reading of results told by the parts of the planes that are cut out is told by those that are lent
pub lent-planes : (w s i k : List ℕ) (m l : ℕ) → m ≡ cut w ink_at i → l ≡ cut w kinds_at k → (r : ResultReading) {g : Bool} {a b : ℕ} {o o' : Outputs}
    → Filled g (result_told r s (take m i) (take l k)) a b o o' → Filled g (result_told r s (lent_of w ink_at i) (lent_of w kinds_at k)) a b o o'
lent-planes w s i k m l em el r {g} {a} {b} {o} {o'} F = subst (λ (t : Told). Filled g t a b o o') (λ j. result_told r s (take (em j) i) (take (el j) k)) F
