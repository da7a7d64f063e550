-- The least gap from a line to its candidates, found by a walk down the lines that may stop early.
use mathlib.Core.Path.{◌≡◌, refl, sym, ap, ◌∙◌, subst}
use mathlib.Core.Bool.{Bool, true, false, cond, ◌&&◌}
use mathlib.Core.List.{List, [], ◌∷◌, ◌++◌, map, append_assoc, append-nil}
use Prim.Native.Nat.{ℕ, zero, suc, ◌+◌, ◌-◌, ◌≤◌, ◌<◌, min}
use native.Mathlib.Nat.{le_refl}
use native.Mathlib.Decide.{dec_le}
use native.Mathlib.Omega.{arith}
use native.Mathlib.Numerals.{add-one}
use borrow.Author.Tests.{le-leb, lt-leb, lt-ltb, le-ltb}
use lib.Ieee.{Float}
use lib.ListN.{get_or, length, drop, length-drop, drop_of_length-le}
use lib.Seq.{drop-cons}
use lib.Dec.{ltb}
use Rattle.memory.specs.rules.Lists.{table, keep}
use Rattle.memory.specs.rules.Words.{over}
use Rattle.memory.proofs.TableLaws.{length-table, get_or-table}
use Rattle.memory.specs.declared.rect.Rect.{Rect}
use Rattle.grouping.specs.rules.Blocks.{line_gap, overlapping, candidates, candidate_gaps, least_of, nearest_gaps, no_rect}
use Rattle.grouping.specs.stages.Joining.{least_with}
use Rattle.memory.specs.stages.Boxes.{Inside}
use Rattle.grouping.specs.stages.LineBoxes.{Lines, ByTop, line_boxes}
use Rattle.grouping.specs.rules.HeldLines.{line_box}
use Rattle.grouping.specs.stages.Counts.{counts, below}
use Rattle.memory.proofs.ListLaws.{Each, keep-yes, keep-no}

-- The least of some numbers

least-min : (a b : ℕ) (l : List ℕ) → least_with (min a b) l ≡ min a (least_with b l)
unfolding least_with
least-min a b [] = refl
least-min a b (g ∷ l) = ap (λ k. least_with k l) (let e : min (min a b) g ≡ min a (min b g) = omega arith in e) ∙ least-min a (min b g) l

least-one : (g : ℕ) (l : List ℕ) → least_of (g ∷ l) ≡ least_with g l ∷ []
unfolding least_of least_with
least-one g [] = refl
least-one g (k ∷ l) = ap (map (min g)) (least-one k l) ∙ ap (λ a. a ∷ []) (sym (least-min g k l))

least-at-most : (d : ℕ) (l : List ℕ) → least_with d l ≤ d
unfolding least_with
least-at-most d [] = le_refl d
least-at-most d (g ∷ l) = let e = least-at-most (min d g) l in omega arith

-- below d all of them: the least of them and d says which is the least, and whether there is one
pub least-below : (d : ℕ) (l : List ℕ) → Each (λ g. g < d) l → least_of l ≡ below d (least_with d l)
unfolding least_of least_with
least-below d [] h = sym (ap (λ t. cond t (d ∷ []) []) (le-ltb d d (le_refl d)))
least-below d (g ∷ l) (h, hs) =
    let e : least_with (min d g) l ≡ least_with g l = ap (λ k. least_with k l) (let z : min d g ≡ g = omega arith in z) in
    let k : least_with g l < d = (let m = least-at-most g l in omega arith) in
    least-one g l ∙ sym (ap (below d) e ∙ ap (λ t. cond t (least_with g l ∷ []) []) (lt-ltb (least_with g l) d k))

-- Lists of boxes

pub keep-none : {A : Type 0} (p : A → Bool) (l : List A) → Each (λ a. p a ≡ false) l → keep p l ≡ []
unfolding keep
keep-none p [] h = refl
keep-none p (a ∷ l) (h, hs) = keep-no p a l h ∙ keep-none p l hs

pub drop-step : {A : Type 0} (f : ℕ → A) (n j : ℕ) (d : A) → j < n → drop j (table f n) ≡ f j ∷ drop (j + 1) (table f n)
drop-step {A} f n j d h =
    drop-cons (table f n) j d (let e = length-table f n in omega arith)
    ∙ ((λ i. get_or-table f n j d h i ∷ drop (suc j) (table f n)) ∙ ap (λ k. f j ∷ drop k (table f n)) (sym (add-one j)))

pub drop-end : {A : Type 0} (f : ℕ → A) (n j : ℕ) → n ≤ j → drop j (table f n) ≡ []
drop-end f n j h = drop_of_length-le (table f n) {i = j} (let e = length-table f n in omega arith)

-- entries from j on, one by one
each_from : {A : Type 0} (P : A → Type 0) (f : ℕ → A) (n : ℕ) (d : A) (k j : ℕ) → n ≡ j + k → ((i : ℕ) → j ≤ i → i < n → P (f i)) → Each P (drop j (table f n))
each_from P f n d zero j e h = subst (Each P) (sym (drop-end f n j (omega arith))) tt
each_from P f n d (suc k) j e h =
    subst (Each P) (sym (drop-step f n j d (omega arith)))
    (h j (le_refl j) (omega arith), each_from P f n d k (j + 1) (omega arith) (λ i a b. h i (omega arith) b))

pub each-drop : {A : Type 0} (P : A → Type 0) (f : ℕ → A) (n : ℕ) (d : A) (j : ℕ) → ((i : ℕ) → j ≤ i → i < n → P (f i)) → Each P (drop j (table f n))
each-drop P f n d j h = go (dec_le j n)
  where
    go : Dec (j ≤ n) → Each P (drop j (table f n))
    go (yes l) = each_from P f n d (n - j) j (omega arith) h
    go (no l) = subst (Each P) (sym (drop-end f n j (omega arith))) tt

-- The walk

module _ (overlap : Float) (cap : ℕ) (a : Rect) where
  pub too_far : (b : Rect) → cap < line_gap a b → candidates overlap cap a b ≡ false
  unfolding candidates
  too_far b h = rw (lt-leb (line_gap a b) cap h)

  pub near : (b : Rect) → line_gap a b ≤ cap → candidates overlap cap a b ≡ overlapping overlap a b
  unfolding candidates
  near b h = rw (le-leb (line_gap a b) cap h)

  -- one line more: nearer where it overlaps
  gap_step : (b : Rect) (ls : List Rect) (d : ℕ) → line_gap a b ≤ cap
      → least_with d (candidate_gaps overlap cap a (b ∷ ls)) ≡ least_with (cond (overlapping overlap a b) (min d (line_gap a b)) d) (candidate_gaps overlap cap a ls)
  unfolding least_with
  gap_step b ls d h = go (overlapping overlap a b) refl
    where
      go : (t : Bool) → overlapping overlap a b ≡ t
          → least_with d (candidate_gaps overlap cap a (b ∷ ls)) ≡ least_with (cond t (min d (line_gap a b)) d) (candidate_gaps overlap cap a ls)
      go true e = ap (λ (l : List Rect). least_with d (map (line_gap a) l)) (keep-yes (candidates overlap cap a) b ls (near b h ∙ e))
      go false e = ap (λ (l : List Rect). least_with d (map (line_gap a) l)) (keep-no (candidates overlap cap a) b ls (near b h ∙ e))

  module _ (lines : List ℕ) (n : ℕ) where
    -- what is left from line j on
    abbrev pub gaps_from : ℕ → List ℕ
    gaps_from j = candidate_gaps overlap cap a (drop j (line_boxes lines n))

    pub walk-on : (j d : ℕ) → j < n → line_gap a (line_box lines j) ≤ cap
        → least_with d (gaps_from j) ≡ least_with (cond (overlapping overlap a (line_box lines j)) (min d (line_gap a (line_box lines j))) d) (gaps_from (j + 1))
    walk-on j d h k =
        ap (λ (l : List Rect). least_with d (candidate_gaps overlap cap a l)) (drop-step (line_box lines) n j no_rect h) ∙ gap_step (line_box lines j) (drop (j + 1) (line_boxes lines n)) d k

    pub walk_end : (j d : ℕ) → n ≤ j → least_with d (gaps_from j) ≡ d
    unfolding least_with keep
    walk_end j d h = ap (λ (l : List Rect). least_with d (candidate_gaps overlap cap a l)) (drop-end (line_box lines) n j h)

    -- the lines go by y0, so that past a gap above the cap there is no candidate
    pub walk-stop : (j d : ℕ) → ByTop n lines → j < n → cap < line_gap a (line_box lines j) → least_with d (gaps_from j) ≡ d
    unfolding least_with
    walk-stop j d top h k =
        ap (λ (l : List Rect). least_with d (map (line_gap a) l))
        (keep-none (candidates overlap cap a) (drop j (line_boxes lines n))
        (each-drop (λ (b : Rect). candidates overlap cap a b ≡ false) (line_box lines) n no_rect j (λ i l m. too_far (line_box lines i) (let t = top j i l m in omega arith))))

-- The nearer of two
pub nearest-kept : (t : Bool) (d g : ℕ) → d ≤ g → d ≡ cond t (min d g) d
nearest-kept true d g h = omega arith
nearest-kept false d g h = refl

pub nearest-found : (t : Bool) (d g : ℕ) → g < d → t ≡ true → g ≡ cond t (min d g) d
nearest-found true d g h e = omega arith
nearest-found false d g h e = absurd (mathlib.Core.Bool.true≢false (sym e))

pub nearest-not : (t : Bool) (d g : ℕ) → t ≡ false → d ≡ cond t (min d g) d
nearest-not true d g e = absurd (mathlib.Core.Bool.true≢false e)
nearest-not false d g e = refl

-- What the two boxes of a pair give
pub pair_fits : (w h : ℕ) (a b : Rect) → w ≤ 4294967295 → Inside w h a → Inside w h b → (a.x0 ≤ a.x1) × (a.x1 + 1 ≤ 4294967295) × (b.x0 ≤ b.x1) × (b.x1 + 1 ≤ 4294967295)
pair_fits w h a b f i j = let p = i.right in let q = j.right in (i.columns, omega arith, j.columns, omega arith)

-- All lines

each-gap : (overlap : Float) (cap : ℕ) (a : Rect) (h : ℕ) (ls : List Rect) → Each (λ (b : Rect). line_gap a b < h) ls → Each (λ g. g < h) (candidate_gaps overlap cap a ls)
unfolding keep
each-gap overlap cap a h [] e = tt
each-gap overlap cap a h (b ∷ ls) (e, es) = go (candidates overlap cap a b) (each-gap overlap cap a h ls es)
  where
    go : (t : Bool) → Each (λ g. g < h) (map (line_gap a) (keep (candidates overlap cap a) ls)) → Each (λ g. g < h) (map (line_gap a) (cond t (b ∷ keep (candidates overlap cap a) ls) (keep (candidates overlap cap a) ls)))
    go true r = (e, r)
    go false r = r

module _ (overlap : Float) (cap h n : ℕ) (lines : List ℕ) where
  -- the least gaps of the lines before i
  unfoldable pub gaps_before : ℕ → List ℕ
  gaps_before zero = []
  gaps_before (suc i) = gaps_before i ++ below h (least_with h (gaps_from overlap cap (line_box lines i) lines n (i + 1)))

  pub before-none : gaps_before 0 ≡ []
  unfolding gaps_before
  before-none = refl

  pub before_more : (i : ℕ) → gaps_before i ++ below h (least_with h (gaps_from overlap cap (line_box lines i) lines n (i + 1))) ≡ gaps_before (i + 1)
  unfolding gaps_before
  before_more i = sym (ap gaps_before (add-one i))

  pub before-few : (i : ℕ) → length (gaps_before i) ≤ i
  unfolding gaps_before
  before-few zero = le_refl 0
  before-few (suc i) = go (ltb (least_with h (gaps_from overlap cap (line_box lines i) lines n (i + 1))) h) (before-few i)
    where
      go : (t : Bool) → length (gaps_before i) ≤ i → length (gaps_before i ++ cond t (least_with h (gaps_from overlap cap (line_box lines i) lines n (i + 1)) ∷ []) []) ≤ suc i
      go true q = rw (lib.ListN.length-append (gaps_before i) (least_with h (gaps_from overlap cap (line_box lines i) lines n (i + 1)) ∷ [])) (omega arith)
      go false q = rw (append-nil (gaps_before i)) (omega arith)

  module _ (w : ℕ) (v : Lines w h n lines) where
    low-gap : (i : ℕ) → Each (λ g. g < h) (gaps_from overlap cap (line_box lines i) lines n (i + 1))
    low-gap i =
        each-gap overlap cap (line_box lines i) h (drop (i + 1) (line_boxes lines n))
        (each-drop (λ (b : Rect). line_gap (line_box lines i) b < h) (line_box lines) n no_rect (i + 1) (λ k l m. let b = v.boxes k m in let c = b.rows in let d = b.bottom in omega arith))

    -- those before i, and those of the lines from i on
    before_split : (k i : ℕ) → n ≡ i + k → gaps_before i ++ nearest_gaps overlap cap (drop i (line_boxes lines n)) ≡ gaps_before n
    unfolding nearest_gaps
    before_split zero i e =
        ap (λ (l : List Rect). gaps_before i ++ nearest_gaps overlap cap l) (drop-end (line_box lines) n i (omega arith))
        ∙ (append-nil (gaps_before i) ∙ ap gaps_before (let z : i ≡ n = omega arith in z))
    before_split (suc k) i e =
        let own : List ℕ = least_of (gaps_from overlap cap (line_box lines i) lines n (i + 1)) in
        let rest : List ℕ = nearest_gaps overlap cap (drop (i + 1) (line_boxes lines n)) in
        ap (λ (l : List Rect). gaps_before i ++ nearest_gaps overlap cap l) (drop-step (line_box lines) n i no_rect (omega arith))
        ∙ (sym (append_assoc (gaps_before i) own rest)
        ∙ (ap (λ (l : List ℕ). (gaps_before i ++ l) ++ rest) (least-below h (gaps_from overlap cap (line_box lines i) lines n (i + 1)) (low-gap i))
        ∙ (ap (λ (l : List ℕ). l ++ rest) (before_more i) ∙ before_split k (i + 1) (omega arith))))

    pub before-all : (i : ℕ) → i ≡ n → gaps_before i ≡ nearest_gaps overlap cap (line_boxes lines n)
    before-all i e = ap gaps_before e ∙ (sym (before_split n 0 (omega arith)) ∙ ap (λ (l : List ℕ). l ++ nearest_gaps overlap cap (line_boxes lines n)) before-none)

-- the counts after one line more
pub gaps-counted : (overlap : Float) (cap h n : ℕ) (lines t₀ t t' : List ℕ) (found more i g : ℕ) → found ≡ length (gaps_before overlap cap h n lines i)
    → t ≡ over (counts (gaps_before overlap cap h n lines i) h) t₀ → g ≡ least_with h (gaps_from overlap cap (line_box lines i) lines n (i + 1))
    → ((l s : List ℕ) → t ≡ over (counts l h) s → (more ≡ length (below h g)) × (t' ≡ over (counts (l ++ below h g) h) s))
    → (found + more ≡ length (gaps_before overlap cap h n lines (i + 1))) × (t' ≡ over (counts (gaps_before overlap cap h n lines (i + 1)) h) t₀)
gaps-counted overlap cap h n lines t₀ t t' found more i g ef et eg step =
    let (a, b) = step (gaps_before overlap cap h n lines i) t₀ et in
    let z : gaps_before overlap cap h n lines i ++ below h g ≡ gaps_before overlap cap h n lines (i + 1) =
    ap (λ k. gaps_before overlap cap h n lines i ++ below h k) eg ∙ before_more overlap cap h n lines i in
    let m : length (gaps_before overlap cap h n lines i ++ below h g) ≡ found + more = lib.ListN.length-append (gaps_before overlap cap h n lines i) (below h g) ∙ (omega arith) in
    (sym m ∙ ap length z, b ∙ ap (λ (l : List ℕ). over (counts l h) t₀) z)
