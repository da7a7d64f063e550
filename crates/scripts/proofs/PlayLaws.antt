-- Calls of a script one after the other: the loop of `play`, and demand 3 of all that it made.
use mathlib.Core.Path.{◌≡◌, refl, sym, ap, ap₂, ◌∙◌, subst}
use mathlib.Core.Bool.{Bool, true, false, cond, ◌&&◌}
use mathlib.Core.List.{List, [], ◌∷◌, ◌++◌}
use Prim.Native.Nat.{ℕ, zero, suc, ◌+◌, ◌-◌, ◌*◌, ◌/◌, ◌≤◌, min}
use native.Mathlib.Numerals.{add-one}
use native.Mathlib.Omega.{arith}
use lib.Dec.{T, eqb, leb}
use lib.Ieee.{Float, fits, binary64}
use lib.ListN.{length, take, drop, set, length-append}
use Rattle.memory.specs.rules.Records.{encoded}
use Rattle.memory.specs.rules.Words.{word_at, over}
use Rattle.memory.proofs.RecordLaws.{length-encoded, record-more}
use Rattle.params.specs.declared.LayoutParams.{LayoutParams}
use Rattle.judging.specs.rules.Leaves.{Leaf}
use Rattle.store.specs.rules.Readings.{LevelReading, ResultReading}
use Rattle.store.specs.rules.Outcomes.{Told}
use Rattle.account.specs.rules.Calls.{Lent, Call, World, lengths, step, says, run, answers, Doubles, Proper, AllProper}
use Rattle.account.specs.rules.Calls.Act.{level, segment, clear, read_level, read_result}
use Rattle.account.specs.rules.Claims.{Claim}
use Rattle.scripts.specs.rules.Scripts.{Script, Outputs, Memory, call_words, op_at, scratch_at, turns_at, sheet_at, words_of, number_at, sheet_from, leaf_from, level_reading, result_reading, act_of, call_at, stepped, after, calls_made, told_to, logged_words, Played}
use Rattle.scripts.specs.stages.Playing.{Did}
use Rattle.account.proofs.Theorem.{theorem}

-- ---- a list with one call more

run_more : (v : World) (cs : List Call) (c : Call) → run v (cs ++ (c ∷ [])) ≡ step (run v cs) c
run_more v [] c = refl
run_more v (d ∷ cs) c = run_more (step v d) cs c

answers-more : (v : World) (cs : List Call) (c : Call) → answers v (cs ++ (c ∷ [])) ≡ answers v cs ++ (says (run v cs) c ∷ [])
answers-more v [] c = refl
answers-more v (d ∷ cs) c = ap (λ (ts : List Told). says v d ∷ ts) (answers-more (step v d) cs c)

proper-more : (l : Lent) (cs : List Call) (c : Call) → AllProper l cs → Proper l c → AllProper l (cs ++ (c ∷ []))
proper-more l [] c P p = (p, tt)
proper-more l (d ∷ cs) c (q, P) p = (q, proper-more l cs c P p)

-- ---- the calls that a script made

module _ (s : Script) (m : Memory) where
  made-run : (n : ℕ) → run m.world (calls_made s m n) ≡ (after s m n).world
  unfolding after calls_made
  made-run zero = refl
  made-run (suc n) = run_more m.world (calls_made s m n) (call_at s (after s m n) n) ∙ ap (λ (v : World). step v (call_at s (after s m n) n)) (made-run n)

  made-answers : (n : ℕ) → answers m.world (calls_made s m n) ≡ told_to s m n
  unfolding after calls_made told_to
  made-answers zero = refl
  made-answers (suc n) =
      answers-more m.world (calls_made s m n) (call_at s (after s m n) n)
      ∙ ap₂ (λ (ts : List Told) (v : World). ts ++ (says v (call_at s (after s m n) n) ∷ [])) (made-answers n) (made-run n)

  told-many : (n : ℕ) → length (told_to s m n) ≡ n
  unfolding told_to
  told-many zero = refl
  told-many (suc n) = length-append (told_to s m n) _ ∙ (let e = told-many n in omega arith)

-- ---- floats that are handed are f64s

chosen : (a b c d : Bool) (l : Leaf) (p : LayoutParams) (x : ℕ) (q : LevelReading) (r : ResultReading) → Doubles (level l) → Doubles (segment p x)
    → Doubles (cond a (level l) (cond b (segment p x) (cond c (read_level q) (cond d (read_result r) clear))))
chosen true b c d l p x q r h g = h
chosen false true c d l p x q r h g = g
chosen false false true d l p x q r h g = tt
chosen false false false true l p x q r h g = tt
chosen false false false false l p x q r h g = tt

doubles : (fs : List Float) → ((k : ℕ) → T (fits binary64 (number_at fs k))) → (bs : List ℕ) (x : ℕ) (w : List ℕ) (o : Outputs) → Doubles (act_of fs bs x w o)
unfolding act_of leaf_from sheet_from
doubles fs known bs x w o =
    chosen (eqb (word_at w op_at) 1) (eqb (word_at w op_at) 2) (leb 3 (word_at w op_at) && leb (word_at w op_at) 6) (leb 7 (word_at w op_at) && leb (word_at w op_at) 18)
    (leaf_from w fs bs) (sheet_from w fs) (min (word_at w scratch_at) x) (level_reading w bs o) (result_reading w o)
    (known (word_at w turns_at), known (word_at w turns_at + 1)) (known (word_at w sheet_at + 1))

-- ---- the loop

-- the words of call i, as the code cuts them out
pub called_at : (cs : List ℕ) (i : ℕ) {fs : List Float} {bs : List ℕ} {x n y : ℕ} {m m' : Memory}
    → Did fs bs x (take (i * call_words + call_words - i * call_words) (drop (i * call_words) cs)) m n y m' → Did fs bs x (words_of cs i) m n y m'
called_at cs i {fs} {bs} {x} {n} {y} {m} {m'} d =
    let e : i * call_words + call_words - i * call_words ≡ call_words = omega arith in subst (λ (k : ℕ). Did fs bs x (take k (drop (i * call_words) cs)) m n y m') e d

-- the same words of scratch
pub same-scratch : {fs : List Float} {bs w : List ℕ} {x z n y : ℕ} {m m' : Memory} → x ≡ z → Did fs bs x w m n y m' → Did fs bs z w m n y m'
same-scratch {fs} {bs} {w} {x} {z} {n} {y} {m} {m'} e d = subst (λ (x : ℕ). Did fs bs x w m n y m') e d

two-words : (t : Told) → length (logged_words t) ≡ 2
two-words t = refl

-- i calls were played: what they left, what they logged, and that each was a proper call
pub record Going (s : Script) (m : Memory) (log : List ℕ) (i : ℕ) (m' : Memory) (log' : List ℕ) : Type 0 where
  pub left : m' ≡ after s m i
  pub logged : log' ≡ over (encoded logged_words (told_to s m i)) log
  pub proper : AllProper (lengths m.world) (calls_made s m i)

module _ (s : Script) (m : Memory) (log : List ℕ) where
  pub going-none : Going s m log 0 m log
  unfolding after told_to calls_made encoded
  going-none = record { left = refl; logged = refl; proper = tt }

  module _ (known : (k : ℕ) → T (fits binary64 (number_at s.floats k))) (i : ℕ) (m' : Memory) (log' : List ℕ) (g : Going s m log i m' log') where
    same-lengths : lengths m'.world ≡ lengths m.world → Proper (lengths m.world) (call_at s m' i)
    same-lengths e =
        subst (λ (l : Lent). Proper l (call_at s m' i)) e
        (record { store = omega arith; ink = omega arith; kinds = omega arith; doubles = doubles s.floats known s.bytes s.scratch (words_of s.calls i) m'.outputs })

    more-proper : lengths m'.world ≡ lengths m.world → AllProper (lengths m.world) (calls_made s m (suc i))
    unfolding calls_made
    more-proper e = proper-more (lengths m.world) (calls_made s m i) (call_at s (after s m i) i) g.proper (subst (λ (z : Memory). Proper (lengths m.world) (call_at s z i)) g.left (same-lengths e))

    module _ (n y : ℕ) (z : Memory) (d : Did s.floats s.bytes s.scratch (words_of s.calls i) m' n y z) where
      more_left : z ≡ after s m (suc i)
      unfolding after
      more_left = d.left ∙ ap (λ (a : Memory). stepped a (call_at s a i)) g.left

      told : Told
      told = says (after s m i).world (call_at s (after s m i) i)

      more-logged : i * 2 + 2 ≤ length log → set (set log' (i * 2) n) (i * 2 + 1) y ≡ over (encoded logged_words (told_to s m (suc i))) log
      unfolding told_to told
      more-logged room =
          (λ j. set (set (g.logged j) (i * 2) ((d.number ∙ ap (λ (a : Memory). (says a.world (call_at s a i)).number) g.left) j)) (add-one (i * 2) j)
          ((d.value ∙ ap (λ (a : Memory). (says a.world (call_at s a i)).value) g.left) j))
          ∙ record-more logged_words 2 two-words (told_to s m i) told log (i * 2)
          (sym (length-encoded logged_words 2 two-words (told_to s m i) ∙ ap (λ (k : ℕ). k * 2) (told-many s m i))) room

      pub going_more : lengths m'.world ≡ lengths m.world → i * 2 + 2 ≤ length log → Going s m log (i + 1) z (set (set log' (i * 2) n) (i * 2 + 1) y)
      going_more e room = rw add-one (record { left = more_left; logged = more-logged room; proper = more-proper e })

  pub going-all : (r : ℕ) (m' : Memory) (log' : List ℕ) (x : ℕ) → r ≡ min (length s.calls / call_words) (length log / 2) → x ≡ s.scratch → Going s m log r m' log'
      → Played s m log r m' log' x
  going-all r m' log' x er ex g =
      record {
        many = er;
        left = g.left;
        logged = g.logged;
        scratch = ex;
        claim = λ e. subst (λ (v : World). Claim (calls_made s m r) (told_to s m r) v) (made-run s m r)
            (subst (λ (ts : List Told). Claim (calls_made s m r) ts (run m.world (calls_made s m r))) (made-answers s m r) (theorem m.world (calls_made s m r) e g.proper));
      }
