-- Pitches by blocks and in the order of the lines: the same differences.
use mathlib.Core.Path.{◌≡◌, refl, sym, ap, ◌∙◌, subst}
use mathlib.Core.Bool.{Bool, true, false, cond}
use mathlib.Core.List.{List, [], ◌∷◌, ◌++◌, map, append-nil, append_assoc}
use Prim.Native.Nat.{ℕ, zero, suc, ◌+◌, ◌-◌, ◌/◌, ◌≤◌, ◌<◌}
use native.Mathlib.Nat.{le_refl, not-suc-le-zero}
use native.Mathlib.Decide.{ℕ_discrete, dec_lt}
use native.Mathlib.Omega.{arith}
use native.Mathlib.Numerals.{add-one}
use borrow.Author.Tests.{eq-eqb, ne_eqb}
use lib.ListN.{get_or, length, take, length-take, length-append, get_or-eq_default}
use lib.Seq.{take-suc, take-length, get_or-take}
use lib.Dec.{eqb, leb}
use Rattle.memory.specs.rules.Lists.{table, upto, keep, occurs, sort_by}
use Rattle.sorting.specs.rules.Units.{median}
use Rattle.sorting.specs.stages.Counts.{CountsOf}
use Rattle.grouping.specs.rules.Readings.{differences, pitches}
use Rattle.union_find.specs.rules.Classes.{first_of}
use Rattle.memory.specs.declared.rect.Rect.{Rect}
use Rattle.grouping.specs.rules.Blocks.{Block, no_rect, block_number, blocks_of}
use Rattle.grouping.specs.rules.HeldLines.{held_lines, pitches_below}
use Rattle.grouping.specs.stages.Pitches.{last_centre, pitch_of, walked_pitches, PitchAdded}
use Rattle.memory.proofs.ListLaws.{Each, each_at, each-sort, each_append, keep-snoc-yes, keep-snoc-no, upto-suc, map-append}
use Rattle.grouping.proofs.ColumnLaws.{Rising, rising-keep}
use Rattle.memory.proofs.PlaceLaws.{absent, occurs-append, occurs-same, occurs-other}
use Rattle.grouping.proofs.BlockLaws.{block-lines}

-- one more than the last entry, 0 of none
last_plus : List ℕ → ℕ
last_plus [] = 0
last_plus (a ∷ []) = suc a
last_plus (a ∷ (b ∷ l)) = last_plus (b ∷ l)

last_snoc : (l : List ℕ) (c : ℕ) → last_plus (l ++ (c ∷ [])) ≡ suc c
unfolding last_plus
last_snoc [] c = refl
last_snoc (a ∷ []) c = refl
last_snoc (a ∷ (b ∷ l)) c = last_snoc (b ∷ l) c

differences-snoc : (l : List ℕ) (c : ℕ) → differences (l ++ (c ∷ [])) ≡ differences l ++ pitch_of (last_plus l) c
unfolding differences last_plus
differences-snoc [] c = refl
differences-snoc (a ∷ []) c = sym (ap (λ t. cond t [] ((c + 1 - suc a) ∷ [])) (ne_eqb (suc a) 0 (λ e. omega arith)) ∙ ap (λ k. k ∷ []) (let e : c + 1 - suc a ≡ c - a = omega arith in e))
differences-snoc (a ∷ (b ∷ l)) c = ap (λ (t : List ℕ). (b - a) ∷ t) (differences-snoc (b ∷ l) c)

module _ (centre number : ℕ → ℕ) where
  lines-yes : (b i : ℕ) → number i ≡ b → held_lines number b (suc i) ≡ held_lines number b i ++ (i ∷ [])
  lines-yes b i e = ap (keep (λ k. eqb (number k) b)) (upto-suc i) ∙ keep-snoc-yes (λ k. eqb (number k) b) (upto i) i (eq-eqb (number i) b e)

  lines-no : (b i : ℕ) → (number i ≡ b → ⊥) → held_lines number b (suc i) ≡ held_lines number b i
  lines-no b i e = ap (keep (λ k. eqb (number k) b)) (upto-suc i) ∙ keep-snoc-no (λ k. eqb (number k) b) (upto i) i (ne_eqb (number i) b e)

  last-right : (b i : ℕ) → last_centre centre number b i ≡ last_plus (map centre (held_lines number b i))
  unfolding last_centre upto table keep last_plus
  last-right b zero = refl
  last-right b (suc i) = go (ℕ_discrete (number i) b) (last-right b i)
    where
      go : Dec (number i ≡ b) → last_centre centre number b i ≡ last_plus (map centre (held_lines number b i))
          → cond (eqb (number i) b) (centre i + 1) (last_centre centre number b i) ≡ last_plus (map centre (held_lines number b (suc i)))
      go (yes e) h =
          ap (λ t. cond t (centre i + 1) (last_centre centre number b i)) (eq-eqb (number i) b e)
          ∙ (add-one (centre i)
          ∙ sym (ap (λ (t : List ℕ). last_plus (map centre t)) (lines-yes b i e) ∙ (ap last_plus (map-append centre (held_lines number b i) (i ∷ [])) ∙ last_snoc (map centre (held_lines number b i)) (centre i))))
      go (no n) h =
          ap (λ t. cond t (centre i + 1) (last_centre centre number b i)) (ne_eqb (number i) b n) ∙ (h ∙ sym (ap (λ (t : List ℕ). last_plus (map centre t)) (lines-no b i n)))

  -- what line i gives
  pitch : ℕ → List ℕ
  pitch i = pitch_of (last_centre centre number (number i) i) (centre i)

  own-more : (b i : ℕ) → number i ≡ b → differences (map centre (held_lines number b (suc i))) ≡ differences (map centre (held_lines number b i)) ++ pitch i
  unfolding pitch
  own-more b i e =
      ap (λ (t : List ℕ). differences (map centre t)) (lines-yes b i e)
      ∙ (ap differences (map-append centre (held_lines number b i) (i ∷ []))
      ∙ (differences-snoc (map centre (held_lines number b i)) (centre i)
      ∙ ap (λ k. differences (map centre (held_lines number b i)) ++ pitch_of k (centre i)) (sym (last-right b i) ∙ ap (λ k. last_centre centre number k i) (sym e))))

  own_same : (b i : ℕ) → (number i ≡ b → ⊥) → differences (map centre (held_lines number b (suc i))) ≡ differences (map centre (held_lines number b i))
  own_same b i n = ap (λ (t : List ℕ). differences (map centre t)) (lines-no b i n)

  -- any count that adds up over lists
  module _ (m : List ℕ → ℕ) (none : m [] ≡ 0) (adds : (k l : List ℕ) → m (k ++ l) ≡ m k + m l) where
    below-same : (b i : ℕ) → b ≤ number i → m (pitches_below centre number (suc i) b) ≡ m (pitches_below centre number i b)
    unfolding pitches_below
    below-same zero i h = refl
    below-same (suc b) i h =
        let x = below-same b i (omega arith) in
        let y = ap m (own_same b i (λ e. omega arith)) in
        let a = adds (pitches_below centre number (suc i) b) (differences (map centre (held_lines number b (suc i)))) in
        let c = adds (pitches_below centre number i b) (differences (map centre (held_lines number b i))) in
        omega arith

    below_more : (b i : ℕ) → number i < b → m (pitches_below centre number (suc i) b) ≡ m (pitches_below centre number i b) + m (pitch i)
    unfolding pitches_below
    below_more zero i h = absurd (not-suc-le-zero h)
    below_more (suc b) i h = go (ℕ_discrete (number i) b) (λ l. below_more b i l)
      where
        go : Dec (number i ≡ b) → (number i < b → m (pitches_below centre number (suc i) b) ≡ m (pitches_below centre number i b) + m (pitch i))
            → m (pitches_below centre number (suc i) b ++ differences (map centre (held_lines number b (suc i)))) ≡ m (pitches_below centre number i b ++ differences (map centre (held_lines number b i))) + m (pitch i)
        go (yes e) ih =
            let x = below-same b i (omega arith) in
            let y = ap m (own-more b i e) in
            let z = adds (differences (map centre (held_lines number b i))) (pitch i) in
            let a = adds (pitches_below centre number (suc i) b) (differences (map centre (held_lines number b (suc i)))) in
            let c = adds (pitches_below centre number i b) (differences (map centre (held_lines number b i))) in
            omega arith
        go (no n) ih =
            let x = ih (omega arith) in
            let y = ap m (own_same b i n) in
            let a = adds (pitches_below centre number (suc i) b) (differences (map centre (held_lines number b (suc i)))) in
            let c = adds (pitches_below centre number i b) (differences (map centre (held_lines number b i))) in
            omega arith

    below_none : (b : ℕ) → m (pitches_below centre number 0 b) ≡ 0
    unfolding pitches_below upto table keep differences
    below_none zero = none
    below_none (suc b) = adds (pitches_below centre number 0 b) [] ∙ (let x = below_none b in let y = none in omega arith)

    same-measure : (b n : ℕ) → ((i : ℕ) → i < n → number i < b) → m (walked_pitches centre number n) ≡ m (pitches_below centre number n b)
    unfolding walked_pitches pitch
    same-measure b zero h = none ∙ sym (below_none b)
    same-measure b (suc i) h =
        let x = same-measure b i (λ k l. h k (omega arith)) in
        let y = below_more b i (h i (le_refl (suc i))) in
        let z = adds (walked_pitches centre number i) (pitch i) in
        omega arith

  -- the walk finds each difference as often
  pub walked-occurs : (v b n : ℕ) → ((i : ℕ) → i < n → number i < b) → occurs v (walked_pitches centre number n) ≡ occurs v (pitches_below centre number n b)
  unfolding occurs
  walked-occurs v = same-measure (occurs v) refl (occurs-append v)

  pub walked-length : (b n : ℕ) → ((i : ℕ) → i < n → number i < b) → length (walked_pitches centre number n) ≡ length (pitches_below centre number n b)
  walked-length = same-measure length refl length-append

  pub walked-few : (i : ℕ) → length (walked_pitches centre number i) ≤ i
  unfolding walked_pitches
  walked-few zero = le_refl 0
  walked-few (suc i) = go (eqb (last_centre centre number (number i) i) 0) (walked-few i)
    where
      go : (t : Bool) → length (walked_pitches centre number i) ≤ i → length (walked_pitches centre number i ++ cond t [] ((centre i + 1 - last_centre centre number (number i) i) ∷ [])) ≤ suc i
      go true h = rw (append-nil (walked_pitches centre number i)) (omega arith)
      go false h = rw (length-append (walked_pitches centre number i) ((centre i + 1 - last_centre centre number (number i) i) ∷ [])) (omega arith)

  -- each difference is at most a centre
  pub walked-below : (values n : ℕ) → ((i : ℕ) → i < n → centre i + 1 < values) → Each (λ v. v < values) (walked_pitches centre number n)
  unfolding walked_pitches
  walked-below values zero h = tt
  walked-below values (suc i) h =
      each_append (λ v. v < values) (walked_pitches centre number i) (pitch_of (last_centre centre number (number i) i) (centre i)) (walked-below values i (λ k l. h k (omega arith)))
      (go (eqb (last_centre centre number (number i) i) 0))
    where
      go : (t : Bool) → Each (λ v. v < values) (cond t [] ((centre i + 1 - last_centre centre number (number i) i) ∷ []))
      go true = tt
      go false = (let z = h i (le_refl (suc i)) in omega arith, tt)

  -- the words half way
  pub record Walked (values blocks : ℕ) (s : List ℕ) (found i : ℕ) : Type 0 where
    pub found-is : found ≡ length (walked_pitches centre number i)
    pub each : (v : ℕ) → v < values → get_or s v 0 ≡ occurs v (walked_pitches centre number i)
    pub lasts : (b : ℕ) → b < blocks → get_or s (values + b) 0 ≡ last_centre centre number b i

  pub walked_none : (values blocks : ℕ) (s : List ℕ) → ((k : ℕ) → k < values + blocks → get_or s k 0 ≡ 0) → Walked values blocks s 0 0
  unfolding walked_pitches occurs last_centre
  walked_none values blocks s h = record { found-is = refl; each = λ v l. h v (omega arith); lasts = λ b l. h (values + b) (omega arith) }

  walked-yes : (i : ℕ) → (last_centre centre number (number i) i ≡ 0 → ⊥) → walked_pitches centre number (suc i) ≡ walked_pitches centre number i ++ ((centre i + 1 - last_centre centre number (number i) i) ∷ [])
  unfolding walked_pitches
  walked-yes i n = ap (λ t. walked_pitches centre number i ++ cond t [] ((centre i + 1 - last_centre centre number (number i) i) ∷ [])) (ne_eqb (last_centre centre number (number i) i) 0 n)

  walked-no : (i : ℕ) → last_centre centre number (number i) i ≡ 0 → walked_pitches centre number (suc i) ≡ walked_pitches centre number i
  unfolding walked_pitches
  walked-no i e =
      ap (λ t. walked_pitches centre number i ++ cond t [] ((centre i + 1 - last_centre centre number (number i) i) ∷ [])) (eq-eqb (last_centre centre number (number i) i) 0 e)
      ∙ append-nil (walked_pitches centre number i)

  last-own : (b i : ℕ) → number i ≡ b → last_centre centre number b (suc i) ≡ centre i + 1
  unfolding last_centre
  last-own b i e = ap (λ t. cond t (centre i + 1) (last_centre centre number b i)) (eq-eqb (number i) b e)

  last-other : (b i : ℕ) → (number i ≡ b → ⊥) → last_centre centre number b (suc i) ≡ last_centre centre number b i
  unfolding last_centre
  last-other b i n = ap (λ t. cond t (centre i + 1) (last_centre centre number b i)) (ne_eqb (number i) b n)

  module _ (values blocks : ℕ) (s s' : List ℕ) (found i r : ℕ) (inside : number i < blocks) (w : Walked values blocks s found i) (p : PitchAdded values (number i) (centre i) s s' r) where
    here : get_or s (values + number i) 0 ≡ last_centre centre number (number i) i
    here = w.lasts (number i) inside

    lasts-more : (b : ℕ) → b < blocks → Dec (number i ≡ b) → get_or s' (values + b) 0 ≡ last_centre centre number b (suc i)
    lasts-more b l (yes e) = ap (λ k. get_or s' (values + k) 0) (sym e) ∙ (p.last ∙ sym (last-own b i e))
    lasts-more b l (no n) = p.others (values + b) (omega arith) (λ q. n (omega arith)) ∙ (w.lasts b l ∙ sym (last-other b i n))

    first_more : last_centre centre number (number i) i ≡ 0 → Walked values blocks s' (found + r) (suc i)
    first_more e =
        let (q, same) = p.first (here ∙ e) in
        let z : walked_pitches centre number (suc i) ≡ walked_pitches centre number i = walked-no i e in
        record {
          found-is = (let a = w.found-is in let b = ap length z in omega arith);
          each = λ v l. same v l ∙ (w.each v l ∙ ap (occurs v) (sym z));
          lasts = λ b l. lasts-more b l (ℕ_discrete (number i) b);
        }

    later_more : (last_centre centre number (number i) i ≡ 0 → ⊥) → Walked values blocks s' (found + r) (suc i)
    later_more n =
        let (q, one, same) = p.later (λ e. n (sym here ∙ e)) in
        let d : ℕ = centre i + 1 - get_or s (values + number i) 0 in
        let z : walked_pitches centre number (suc i) ≡ walked_pitches centre number i ++ (d ∷ []) = walked-yes i n ∙ ap (λ k. walked_pitches centre number i ++ ((centre i + 1 - k) ∷ [])) (sym here) in
        record {
          found-is = (let a = w.found-is in let b = ap length z ∙ length-append (walked_pitches centre number i) (d ∷ []) in omega arith);
          each = λ v l. at v l (ℕ_discrete v d) ∙ ap (occurs v) (sym z);
          lasts = λ b l. lasts-more b l (ℕ_discrete (number i) b);
        }
      where
        at : (v : ℕ) → v < values → Dec (v ≡ centre i + 1 - get_or s (values + number i) 0)
            → get_or s' v 0 ≡ occurs v (walked_pitches centre number i ++ ((centre i + 1 - get_or s (values + number i) 0) ∷ []))
        at v l (yes e) =
            let d : ℕ = centre i + 1 - get_or s (values + number i) 0 in
            let (q, one, same) = p.later (λ e. n (sym here ∙ e)) in
            subst (λ k. get_or s' k 0 ≡ occurs k (walked_pitches centre number i ++ (d ∷ []))) (sym e)
            (one ∙ (ap (λ k. k + 1) (subst (λ k. get_or s k 0 ≡ occurs k (walked_pitches centre number i)) e (w.each v l)) ∙ sym (occurs-same d (walked_pitches centre number i))))
        at v l (no ne) =
            let d : ℕ = centre i + 1 - get_or s (values + number i) 0 in
            let (q, one, same) = p.later (λ e. n (sym here ∙ e)) in
            same v l ne ∙ (w.each v l ∙ sym (occurs-other v d (walked_pitches centre number i) (λ e. ne (sym e))))

    pub walked_more : Walked values blocks s' (found + r) (i + 1)
    walked_more = subst (Walked values blocks s' (found + r)) (sym (add-one i)) (go (ℕ_discrete (last_centre centre number (number i) i) 0))
      where
        go : Dec (last_centre centre number (number i) i ≡ 0) → Walked values blocks s' (found + r) (suc i)
        go (yes e) = first_more e
        go (no n) = later_more n

-- The median of values below a bound

pub median-at-most : (m : ℕ) (l : List ℕ) → Each (λ v. v < m) l → median l ≤ m
unfolding median
median-at-most m l h = go (dec_lt (length l / 2) (length (sort_by leb l)))
  where
    go : Dec (length l / 2 < length (sort_by leb l)) → get_or (sort_by leb l) (length l / 2) 0 ≤ m
    go (yes k) = let e = each_at (λ v. v < m) (sort_by leb l) (each-sort (λ v. v < m) leb l h) (length l / 2) 0 k in omega arith
    go (no k) = let e = get_or-eq_default (sort_by leb l) 0 {n = length l / 2} (omega arith) in omega arith

-- The pitches by blocks stay below the bound too

rising-each : (b n : ℕ) (l : List ℕ) → Rising b n l → Each (λ i. i < n) l
rising-each b n [] r = tt
rising-each b n (x ∷ l) (h, k, r) = (k, rising-each (suc x) n l r)

each-centre : (m n : ℕ) (centre : ℕ → ℕ) (l : List ℕ) → ((i : ℕ) → i < n → centre i < m) → Each (λ i. i < n) l → Each (λ v. v < m) (map centre l)
each-centre m n centre [] h e = tt
each-centre m n centre (i ∷ l) h (e, es) = (h i e, each-centre m n centre l h es)

each-difference : (m : ℕ) (l : List ℕ) → Each (λ v. v < m) l → Each (λ v. v < m) (differences l)
unfolding differences
each-difference m [] h = tt
each-difference m (a ∷ []) h = tt
each-difference m (a ∷ (b ∷ l)) (h, (k, r)) = (omega arith, each-difference m (b ∷ l) (k, r))

pub below-bound : (centre number : ℕ → ℕ) (m n b : ℕ) → ((i : ℕ) → i < n → centre i < m) → Each (λ v. v < m) (pitches_below centre number n b)
unfolding pitches_below
below-bound centre number m n zero h = tt
below-bound centre number m n (suc b) h =
    each_append (λ v. v < m) (pitches_below centre number n b) (differences (map centre (held_lines number b n))) (below-bound centre number m n b h)
    (each-difference m (map centre (held_lines number b n)) (each-centre m n centre (held_lines number b n) h (rising-each 0 n (held_lines number b n) (rising-keep (λ i. eqb (number i) b) n))))

-- the counts of the walk are those of the pitches by blocks
pub pitch-counts : (centre number : ℕ → ℕ) (values n blocks found : ℕ) (t : List ℕ) → ((i : ℕ) → i < n → number i < blocks) → ((i : ℕ) → i < n → centre i < values)
    → found ≡ length (walked_pitches centre number n) → ((v : ℕ) → v < values → get_or t v 0 ≡ occurs v (walked_pitches centre number n))
    → values ≤ length t → CountsOf (take values t) found (pitches_below centre number n blocks)
pitch-counts centre number values n blocks found t hb hc ef each long =
    record { size = sym (walked-length centre number blocks n hb) ∙ sym ef; each = λ v. at v (dec_lt v values) }
  where
    at : (v : ℕ) → Dec (v < values) → get_or (take values t) v 0 ≡ occurs v (pitches_below centre number n blocks)
    at v (yes k) = get_or-take values t v 0 k ∙ (each v k ∙ walked-occurs centre number v blocks n hb)
    at v (no k) =
        get_or-eq_default (take values t) 0 {n = v} (let e = length-take values t in omega arith)
        ∙ sym (absent values v (pitches_below centre number n blocks) (below-bound centre number values n blocks hc) (omega arith))

-- The pitches of a page's blocks are those that the numbers of the lines give

pitches-snoc : (ls : List Rect) (bs : List Block) (b : Block) → pitches ls (bs ++ (b ∷ [])) ≡ pitches ls bs ++ differences (map (λ i. (get_or ls i no_rect).y0 + (get_or ls i no_rect).y1) b.lines)
unfolding pitches
pitches-snoc ls [] b = append-nil (differences (map (λ i. (get_or ls i no_rect).y0 + (get_or ls i no_rect).y1) b.lines))
pitches-snoc ls (a ∷ bs) b =
    let own : Block → List ℕ = λ t. differences (map (λ i. (get_or ls i no_rect).y0 + (get_or ls i no_rect).y1) t.lines) in
    ap (λ (t : List ℕ). own a ++ t) (pitches-snoc ls bs b) ∙ sym (append_assoc (own a) (pitches ls bs) (own b))

module _ (ls : List Rect) (fs : List ℕ) (low : (k : ℕ) → first_of fs k ≤ k) (idem : (k : ℕ) → first_of fs (first_of fs k) ≡ first_of fs k) where
  abbrev centre_of : ℕ → ℕ
  centre_of i = (get_or ls i no_rect).y0 + (get_or ls i no_rect).y1

  pitches-to : (m : ℕ) → m ≤ length (blocks_of ls fs) → pitches ls (take m (blocks_of ls fs)) ≡ pitches_below centre_of (block_number fs) (length ls) m
  unfolding pitches pitches_below
  pitches-to zero h = refl
  pitches-to (suc m) h =
      let d : Block = record { bbox = no_rect; lines = [] } in
      let b : Block = get_or (blocks_of ls fs) m d in
      ap (pitches ls) (take-suc (blocks_of ls fs) m d h)
      ∙ (pitches-snoc ls (take m (blocks_of ls fs)) b
      ∙ ((λ t. pitches-to m (omega arith) t ++ differences (map centre_of b.lines))
      ∙ ap (λ (t : List ℕ). pitches_below centre_of (block_number fs) (length ls) m ++ differences (map centre_of t)) (block-lines ls fs low idem m d h)))

  pub pitches-by-number : pitches ls (blocks_of ls fs) ≡ pitches_below centre_of (block_number fs) (length ls) (length (blocks_of ls fs))
  pitches-by-number = ap (pitches ls) (sym (take-length (blocks_of ls fs))) ∙ pitches-to (length (blocks_of ls fs)) (le_refl (length (blocks_of ls fs)))
