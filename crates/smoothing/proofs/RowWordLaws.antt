-- The words of smoothing: what is read of the runs, and what two words more, or another end, make of the smoothed runs.
use mathlib.Core.Path.{◌≡◌, refl, sym, ap, ◌∙◌}
use mathlib.Core.List.{List, [], ◌∷◌, ◌++◌}
use Prim.Native.Nat.{ℕ, suc, ◌+◌, ◌-◌, ◌*◌, ◌≤◌, ◌<◌}
use native.Mathlib.Omega.{arith}
use lib.ListN.{get_or, length, take, drop, set, length-set, length-drop}
use lib.Seq.{get_or-take, get_or-drop, get_or-set_other, length-take-le, take-suc-set, drop-set-add, take-take, take_at}
use lib.Dec.{eqb}
use Rattle.labelling.specs.stages.InkRuns.{turns, run_count}
use Rattle.labelling.proofs.TurnLaws.{snoc-len}
use Rattle.sorting.specs.rules.Kinds.{glyph_kind}
use Rattle.smoothing.specs.stages.RowRuns.{glyph_dot, glyph_runs, SmoothingInput, start_at, end_at, number_at, glyph_of, PageKept}
use Rattle.smoothing.proofs.RunNumberLaws.{number-some, number-high}

-- the last of the words from a on is written anew
pub words-joined : (s B : List ℕ) (a k n e : ℕ) → a + k ≤ length s → take k (drop a s) ≡ B ++ (n ∷ []) → take k (drop a (set s (a + k - 1) e)) ≡ B ++ (e ∷ [])
words-joined s B a k n e room h =
    let l : length (take k (drop a s)) ≡ k = length-take-le k (drop a s) (let q = length-drop a s in omega arith) in
    let q = ap length h in
    let t = snoc-len B n in
    let k' : suc (length B) ≡ k = omega arith in
    let at : a + k - 1 ≡ a + length B = omega arith in
    let inside : length B < length (drop a s) = let z = length-drop a s in omega arith in
    ap (λ i. take k (drop a (set s i e))) at
    ∙ (ap (take k) (drop-set-add a s (length B) e)
    ∙ (ap (λ i. take i (set (drop a s) (length B) e)) (sym k')
    ∙ (take-suc-set (drop a s) (length B) e inside
    ∙ ap (λ (z : List ℕ). z ++ (e ∷ [])) (sym (take-take (length B) k (drop a s) (omega arith)) ∙ (ap (take (length B)) h ∙ take_at B (n ∷ []) (length B) refl)))))

-- two words more
pub words-anew : (s : List ℕ) (a k b e : ℕ) → a + k + 2 ≤ length s → take (suc (suc k)) (drop a (set (set s (a + k) b) (a + k + 1) e)) ≡ (take k (drop a s) ++ (b ∷ [])) ++ (e ∷ [])
words-anew s a k b e room =
    let at : a + k + 1 ≡ a + suc k = omega arith in
    let z = length-drop a s in
    let y = length-set (drop a s) k b in
    ap (λ i. take (suc (suc k)) (drop a (set (set s (a + k) b) i e))) at
    ∙ (ap (take (suc (suc k))) (drop-set-add a (set s (a + k) b) (suc k) e ∙ ap (λ (l : List ℕ). set l (suc k) e) (drop-set-add a s k b))
    ∙ (take-suc-set (set (drop a s) k b) (suc k) e (omega arith)
    ∙ ap (λ (l : List ℕ). l ++ (e ∷ [])) (take-suc-set (drop a s) k b (omega arith))))

module _ (g : SmoothingInput) (s : List ℕ) (K : PageKept g s) where
  pub kept_set : (q v : ℕ) → 3 * g.c ≤ q → q < 3 * g.c + 2 * glyph_runs g.w g.h g.m g.ks → PageKept g (set s q v)
  kept_set q v a b =
      record {
        len = length-set s q v ∙ K.len;
        low = λ i l. get_or-set_other s q i v 0 (λ e. absurd (omega arith)) ∙ K.low i l;
        between = λ i l h. get_or-set_other s q i v 0 (λ e. absurd (omega arith)) ∙ K.between i l h;
        beyond = λ i l. get_or-set_other s q i v 0 (λ e. absurd (let r = g.asks.between in let z = g.asks.before in omega arith)) ∙ K.beyond i l;
      }

  pub kept-first : (k v : ℕ) → k < length g.ks → PageKept g (set s (g.firsts + k) v)
  kept-first k v a =
      record {
        len = length-set s (g.firsts + k) v ∙ K.len;
        low = λ i l. get_or-set_other s (g.firsts + k) i v 0 (λ e. absurd (let r = g.asks.between in let q = g.asks.before in omega arith)) ∙ K.low i l;
        between = λ i l h. get_or-set_other s (g.firsts + k) i v 0 (λ e. absurd (omega arith)) ∙ K.between i l h;
        beyond = λ i l. get_or-set_other s (g.firsts + k) i v 0 (λ e. absurd (omega arith)) ∙ K.beyond i l;
      }

  read-turn : (i : ℕ) → i < 2 * g.c → get_or s i 0 ≡ get_or (turns g.w g.m (g.w * g.h)) i 0
  read-turn i l = K.low i (omega arith) ∙ (sym (get_or-take (2 * g.c) g.words i 0 l) ∙ ap (λ (z : List ℕ). get_or z i 0) g.asks.numbered.held.runs)

  pub read-start : (k : ℕ) → k < g.c → get_or s (2 * k) 0 ≡ start_at g k
  read-start k l = read-turn (2 * k) (omega arith)

  pub read-end : (k : ℕ) → k < g.c → get_or s (2 * k + 1) 0 ≡ end_at g k
  read-end k l = read-turn (2 * k + 1) (omega arith)

  pub read_number : (k : ℕ) → k < g.c → get_or s (2 * g.c + k) 0 ≡ number_at g k
  read_number k l = K.low (2 * g.c + k) (omega arith) ∙ g.asks.numbered.numbers k l

  -- the kind of the component with this number, counted from 1
  pub read-kind : (k : ℕ) → k < length g.ks → get_or s (g.kinds + k) 0 ≡ get_or g.ks k 0
  read-kind k l =
      let r = g.asks.between in
      let z = g.asks.before in
      K.between (g.kinds + k) (omega arith) (omega arith)
      ∙ (sym (get_or-drop g.kinds g.words k 0) ∙ (sym (get_or-take (length g.ks) (drop g.kinds g.words) k 0 l) ∙ ap (λ (z : List ℕ). get_or z k 0) g.asks.kinds_held))

module _ (g : SmoothingInput) (j : ℕ) (l : j < g.c) where
  pub number-range : (0 < number_at g j) × (number_at g j ≤ length g.ks)
  number-range =
      let e = g.asks.numbered.held.count in
      let k : j < run_count g.w g.m (g.w * g.h) = omega arith in
      let z = g.asks.size in
      (number-some g.w g.h g.m g.asks.wide j k, let q = number-high g.w g.h g.m g.asks.wide j k in omega arith)

  -- a run is one of a glyph by the kind of its number
  pub glyph-kind : glyph_of g (start_at g j) ≡ eqb (get_or g.ks (number_at g j - 1) 0) glyph_kind
  unfolding glyph_dot
  glyph-kind = ap (λ k. eqb (get_or (0 ∷ g.ks) k 0) glyph_kind) (let r = number-range.0 in let e : number_at g j ≡ suc (number_at g j - 1) = omega arith in e)
