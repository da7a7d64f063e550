-- The turns of the dots read are the runs of these dots.
use mathlib.Core.Path.{◌≡◌, refl, sym, ap, ◌∙◌, subst}
use mathlib.Core.List.{List, [], ◌∷◌, ◌++◌}
use mathlib.Core.Bool.{Bool, true, false, cond, ◌&&◌, not, true≢false}
use Prim.Native.Nat.{ℕ, zero, suc, ◌+◌, ◌-◌, ◌*◌, ◌/◌, ◌%◌, ◌≤◌, ◌<◌}
use native.Mathlib.Nat.{le_refl, not-suc-le-zero, div-add-mod', mod-lt, mul-add-div_right, div-eq_of_lt}
use native.Mathlib.Decide.{ℕ_discrete, dec_lt}
use native.Mathlib.Omega.{arith}
use borrow.Author.Tests.{eqb-true, eqb-false}
use lib.ListN.{get_or, length, length-append, get_or-append, get_or-eq_default}
use lib.Seq.{get_or_at}
use lib.Dec.{eqb}
use Rattle.memory.specs.rules.Lists.{count_if}
use Rattle.memory.specs.rules.Masks.{is_ink}
use Rattle.labelling.specs.stages.InkRuns.{ink_before, differ, append_if, turns, opens_run, run_count, run_of, start_of, end_of, Runs}
use Rattle.labelling.proofs.TouchLaws.{row_same}

-- Rows

row_on : (w i : ℕ) → 0 < w → (suc i % w ≡ 0 → ⊥) → i / w ≡ suc i / w
row_on w i hw ne =
    let e = div-add-mod' (suc i) w in
    let l = mod-lt (suc i) hw in
    let r : suc i % w - 1 < w = omega arith in
    let q : i ≡ suc i / w * w + (suc i % w - 1) = omega arith in
    let z : (suc i % w - 1) / w ≡ 0 = div-eq_of_lt r in
    let f : (suc i / w * w + (suc i % w - 1)) / w ≡ suc i / w + (suc i % w - 1) / w = mul-add-div_right hw (suc i / w) (suc i % w - 1) in
    ap (λ t. t / w) q ∙ (f ∙ (let y : suc i / w + (suc i % w - 1) / w ≡ suc i / w = omega arith in y))

row-break : (w : ℕ) (m : List ℕ) (i : ℕ) → 0 < w → suc i % w ≡ 0 → i / w ≡ suc i / w → ⊥
row-break w m i hw z e = let h = row_same w m hw i (suc i) e in omega arith

pub ink_before-on : (w : ℕ) (m : List ℕ) (n : ℕ) → 0 < w → ink_before w m n ≡ true → (i : ℕ) × (n ≡ suc i) × (is_ink m i ≡ true) × (i / w ≡ n / w)
unfolding ink_before
ink_before-on w m zero hw e = absurd (true≢false (sym e))
ink_before-on w m (suc i) hw e = go (eqb (suc i % w) 0) refl e
  where
    go : (t : Bool) → eqb (suc i % w) 0 ≡ t → cond t false (is_ink m i) ≡ true → (j : ℕ) × (suc i ≡ suc j) × (is_ink m j ≡ true) × (j / w ≡ suc i / w)
    go true q e = absurd (true≢false (sym e))
    go false q e = (i, refl, e, row_on w i hw (eqb-false (suc i % w) 0 q))

pub ink_before-off : (w : ℕ) (m : List ℕ) (i : ℕ) → 0 < w → ink_before w m (suc i) ≡ false → is_ink m i ≡ true → i / w ≡ suc i / w → ⊥
unfolding ink_before
ink_before-off w m i hw e k r = go (eqb (suc i % w) 0) refl e
  where
    go : (t : Bool) → eqb (suc i % w) 0 ≡ t → cond t false (is_ink m i) ≡ false → ⊥
    go true q e = row-break w m i hw (eqb-true (suc i % w) 0 q) r
    go false q e = true≢false (sym k ∙ e)

-- One dot more

module _ (w : ℕ) (m : List ℕ) where
  pub runs-ext : (n c : ℕ) (S E S' E' H : ℕ → ℕ) → Runs w m n c S E H → ((k : ℕ) → k < c → S' k ≡ S k) → ((k : ℕ) → k < c → E' k ≡ E k) → Runs w m n c S' E' H
  runs-ext n c S E S' E' H R hs he =
      record {
        some = λ k l. let a = hs k l in let b = he k l in let h = R.some k l in omega arith;
        within = λ k l. let b = he k l in let h = R.within k l in omega arith;
        ink = λ k i l l₁ l₂. let a = hs k l in let b = he k l in R.ink k i l (omega arith) (omega arith);
        row = λ k i l l₁ l₂. let a = hs k l in let b = he k l in R.row k i l (omega arith) (omega arith) ∙ ap (λ z. z / w) (sym (hs k l));
        rising = λ j k l lk. let a = hs k lk in let b = he j (omega arith) in let h = R.rising j k l lk in omega arith;
        apart = λ j k l lk e.
            let a = hs k lk in
            let b = he j (omega arith) in
            let h = R.apart j k l lk (ap (λ z. z / w) (sym (hs j (omega arith))) ∙ (e ∙ ap (λ z. z / w) (hs k lk))) in
            omega arith;
        has = R.has;
        from = λ i l e. let a = hs (H i) (R.has i l e) in let h = R.from i l e in omega arith;
        upto = λ i l e. let a = he (H i) (R.has i l e) in let h = R.upto i l e in omega arith;
      }

  -- a dot up to n is one before n, or n
  last : (P : ℕ → Type 0) (n : ℕ) → ((i : ℕ) → i < n → P i) → P n → (i : ℕ) → i < suc n → P i
  last P n f g i l = go (ℕ_discrete i n)
    where
      go : Dec (i ≡ n) → P i
      go (yes e) = subst P (sym e) g
      go (no ne) = f i (omega arith)

  step-blank : (n c : ℕ) (S E H : ℕ → ℕ) → Runs w m n c S E H → is_ink m n ≡ false → Runs w m (suc n) c S E H
  step-blank n c S E H R z =
      record {
        some = R.some;
        within = λ k l. let h = R.within k l in omega arith;
        ink = R.ink;
        row = R.row;
        rising = R.rising;
        apart = R.apart;
        has = last (λ i. is_ink m i ≡ true → H i < c) n R.has (λ e. absurd (true≢false (sym e ∙ z)));
        from = last (λ i. is_ink m i ≡ true → S (H i) ≤ i) n R.from (λ e. absurd (true≢false (sym e ∙ z)));
        upto = last (λ i. is_ink m i ≡ true → i < E (H i)) n R.upto (λ e. absurd (true≢false (sym e ∙ z)));
      }

  step-open : (n c : ℕ) (S E H : ℕ → ℕ) → Runs w m n c S E H → is_ink m n ≡ true → S c ≡ n → E c ≡ suc n → H n ≡ c → ((j : ℕ) → j < c → S j / w ≡ n / w → E j < n) → Runs w m (suc n) (suc c) S E H
  step-open n c S E H R z sc ec hn ap' =
      record {
        some = last (λ k. S k < E k) c R.some (omega arith);
        within = last (λ k. E k ≤ suc n) c (λ k l. let h = R.within k l in omega arith) (omega arith);
        ink = λ k i l. last (λ k. S k ≤ i → i < E k → is_ink m i ≡ true) c (λ k l. R.ink k i l) (λ l₁ l₂. subst (λ z. is_ink m z ≡ true) (let e : n ≡ i = omega arith in e) z) k l;
        row = λ k i l. last (λ k. S k ≤ i → i < E k → i / w ≡ S k / w) c (λ k l. R.row k i l) (λ l₁ l₂. ap (λ z. z / w) (let e : i ≡ S c = omega arith in e)) k l;
        rising = λ j k l lk. last (λ k. j < k → E j ≤ S k) c (λ k l h. R.rising j k h l) (λ h. let b = R.within j h in omega arith) k lk l;
        apart = λ j k l lk e.
            last (λ k. j < k → S j / w ≡ S k / w → E j < S k) c (λ k l h e. R.apart j k h l e)
            (λ h e. let b = ap' j h (e ∙ ap (λ z. z / w) sc) in omega arith)
            k lk l e;
        has = last (λ i. is_ink m i ≡ true → H i < suc c) n (λ i l e. let h = R.has i l e in omega arith) (λ e. omega arith);
        from = last (λ i. is_ink m i ≡ true → S (H i) ≤ i) n R.from (λ e. rw (hn, sc) (le_refl n));
        upto = last (λ i. is_ink m i ≡ true → i < E (H i)) n R.upto (λ e. rw (hn, ec) (le_refl (suc n)));
      }

  step-grow : (n c : ℕ) (S E E' H : ℕ → ℕ) → Runs w m n (suc c) S E H → is_ink m n ≡ true → E c ≡ n → ((k : ℕ) → k < c → E' k ≡ E k) → E' c ≡ suc n → H n ≡ c → n / w ≡ S c / w → Runs w m (suc n) (suc c) S E' H
  step-grow n c S E E' H R z ec same ec' hn rw' =
      record {
        some = last (λ k. S k < E' k) c (λ k l. let h = R.some k (omega arith) in let e = same k l in omega arith) (let h = R.some c (le_refl (suc c)) in omega arith);
        within = last (λ k. E' k ≤ suc n) c (λ k l. let h = R.within k (omega arith) in let e = same k l in omega arith) (omega arith);
        ink = λ k i l.
            last (λ k. S k ≤ i → i < E' k → is_ink m i ≡ true) c (λ k l l₁ l₂. R.ink k i (omega arith) l₁ (let e = same k l in omega arith))
            (λ l₁ l₂. last (λ i. S c ≤ i → is_ink m i ≡ true) n (λ i h l₁. R.ink c i (le_refl (suc c)) l₁ (omega arith)) (λ _. z) i (omega arith) l₁)
            k l;
        row = λ k i l.
            last (λ k. S k ≤ i → i < E' k → i / w ≡ S k / w) c (λ k l l₁ l₂. R.row k i (omega arith) l₁ (let e = same k l in omega arith))
            (λ l₁ l₂. last (λ i. S c ≤ i → i / w ≡ S c / w) n (λ i h l₁. R.row c i (le_refl (suc c)) l₁ (omega arith)) (λ _. rw') i (omega arith) l₁)
            k l;
        rising = λ j k l lk. let e = same j (omega arith) in let h = R.rising j k l lk in omega arith;
        apart = λ j k l lk q. let e = same j (omega arith) in let h = R.apart j k l lk q in omega arith;
        has = last (λ i. is_ink m i ≡ true → H i < suc c) n R.has (λ e. omega arith);
        from = last (λ i. is_ink m i ≡ true → S (H i) ≤ i) n R.from (λ e. rw hn (let h = R.some c (le_refl (suc c)) in omega arith));
        upto =
            last (λ i. is_ink m i ≡ true → i < E' (H i)) n
            (λ i l e. last (λ k. i < E k → i < E' k) c (λ k l h. let q = same k l in omega arith) (λ h. omega arith) (H i) (R.has i l e) (R.upto i l e))
            (λ e. rw (hn, ec') (le_refl (suc n)));
      }

-- The list of turns

abbrev pub bit : Bool → ℕ
bit t = cond t 1 0

pub any-default : (l : List ℕ) (j d d' : ℕ) → j < length l → get_or l j d ≡ get_or l j d'
any-default [] j d d' h = absurd (not-suc-le-zero h)
any-default (x ∷ l) zero d d' h = refl
any-default (x ∷ l) (suc j) d d' h = any-default l j d d' (omega arith)

past_end : (l : List ℕ) (j d : ℕ) → length l ≤ j → get_or l j d ≡ d
past_end l j d h = get_or-eq_default l d {n = j} h

pub snoc-len : (l : List ℕ) (x : ℕ) → length (l ++ (x ∷ [])) ≡ suc (length l)
snoc-len l x = length-append l (x ∷ []) ∙ (let e : length l + 1 ≡ suc (length l) = omega arith in e)

snoc-in : (l : List ℕ) (x j d d' : ℕ) → j < length l → get_or (l ++ (x ∷ [])) j d ≡ get_or l j d'
snoc-in l x j d d' h = get_or-append l (x ∷ []) d j h ∙ any-default l j d d' h

snoc-at : (l : List ℕ) (x j d : ℕ) → length l ≡ j → get_or (l ++ (x ∷ [])) j d ≡ x
snoc-at l x j d e = get_or_at l x [] d j e

-- what is put at the end of a list is no news where it was the default
snoc-default : (l : List ℕ) (x j : ℕ) → get_or (l ++ (x ∷ [])) j x ≡ get_or l j x
snoc-default l x j = go (dec_lt j (length l)) (ℕ_discrete (length l) j)
  where
    go : Dec (j < length l) → Dec (length l ≡ j) → get_or (l ++ (x ∷ [])) j x ≡ get_or l j x
    go (yes h) d = snoc-in l x j x x h
    go (no h) (yes e) = snoc-at l x j x e ∙ sym (past_end l j x (omega arith))
    go (no h) (no ne) = past_end (l ++ (x ∷ [])) j x (let e = snoc-len l x in omega arith) ∙ sym (past_end l j x (omega arith))

module _ (w : ℕ) (m : List ℕ) (hw : 0 < w) (H : ℕ → ℕ) where
  -- the turns after dot n, and before the row's end is looked at
  step-turn : (n c : ℕ) (T : List ℕ) (b v : Bool) → ink_before w m n ≡ b → is_ink m n ≡ v → length T + bit b ≡ 2 * c → H n ≡ c + bit (v && not b) - 1
      → Runs w m n c (start_of T) (end_of T n) H
      → (length (append_if (differ b v) n T) + bit v ≡ 2 * (c + bit (v && not b))) × Runs w m (suc n) (c + bit (v && not b)) (start_of (append_if (differ b v) n T)) (end_of (append_if (differ b v) n T) (suc n)) H
  unfolding differ append_if
  step-turn n c T false false eb ev len hn R =
      let z : c + 0 ≡ c = omega arith in
      (omega arith, rw z (step-blank w m n c (start_of T) (end_of T (suc n)) H (runs-ext w m n c (start_of T) (end_of T n) (start_of T) (end_of T (suc n)) H R (λ k l. refl) (λ k l. any-default T (2 * k + 1) (suc n) n (omega arith))) ev))
  step-turn n c T true false eb ev len hn R =
      let z : c + 0 ≡ c = omega arith in
      let q = snoc-len T n in
      (omega arith, rw z (step-blank w m n c (start_of (T ++ (n ∷ []))) (end_of (T ++ (n ∷ [])) (suc n)) H (runs-ext w m n c (start_of T) (end_of T n) (start_of (T ++ (n ∷ []))) (end_of (T ++ (n ∷ [])) (suc n)) H R (λ k l. snoc-in T n (2 * k) 0 0 (omega arith)) (λ k l. any-default (T ++ (n ∷ [])) (2 * k + 1) (suc n) n (omega arith) ∙ snoc-default T n (2 * k + 1))) ev))
  step-turn n c T false true eb ev len hn R =
      let z : c + 1 ≡ suc c = omega arith in
      let q = snoc-len T n in (
        omega arith,
        rw z
            (step-open w m n c (start_of (T ++ (n ∷ []))) (end_of (T ++ (n ∷ [])) (suc n)) H
            (runs-ext w m n c (start_of T) (end_of T n) (start_of (T ++ (n ∷ []))) (end_of (T ++ (n ∷ [])) (suc n)) H R (λ k l. snoc-in T n (2 * k) 0 0 (omega arith)) (λ k l. snoc-in T n (2 * k + 1) (suc n) n (omega arith)))
            ev
            (snoc-at T n (2 * c) 0 (omega arith))
            (past_end (T ++ (n ∷ [])) (2 * c + 1) (suc n) (omega arith))
            (omega arith)
            (λ j l e. let e₂ = snoc-in T n (2 * j + 1) (suc n) n (omega arith) in let h = clear j l (ap (λ z. z / w) (sym (snoc-in T n (2 * j) 0 0 (omega arith))) ∙ e) n refl in omega arith)),
      )
    where
      -- the runs so far in n's row have ended before the dot before n
      clear : (j : ℕ) → j < c → start_of T j / w ≡ n / w → (k : ℕ) → n ≡ k → end_of T n j < n
      clear j l e zero q = absurd (let h = R.some j l in let h₂ = R.within j l in omega arith)
      clear j l e (suc k) q = go (ℕ_discrete (end_of T n j) n)
        where
          go : Dec (end_of T n j ≡ n) → end_of T n j < n
          go (yes d) =
              let h = R.some j l in
              let i = R.ink j k l (omega arith) (omega arith) in
              let r = R.row j k l (omega arith) (omega arith) in
              absurd (ink_before-off w m k hw (subst (λ z. ink_before w m z ≡ false) q eb) i (r ∙ (e ∙ ap (λ z. z / w) q)))
          go (no d) = let h = R.within j l in omega arith
  step-turn n zero T true true eb ev len hn R = absurd (omega arith)
  step-turn n (suc c) T true true eb ev len hn R =
      let z : suc c + 0 ≡ suc c = omega arith in
      let B = ink_before-on w m n hw eb in
      let ec : end_of T n c ≡ n = past_end T (2 * c + 1) n (omega arith) in
      let p = B.1 in
      let li : B.0 < n = omega arith in
      let h = R.has B.0 li B.2 in
      let u = R.upto B.0 li B.2 in
      let s = R.some c (le_refl (suc c)) in
      let r : B.0 / w ≡ start_of T c / w = R.row c B.0 (le_refl (suc c)) (omega arith) (omega arith) in (
        omega arith,
        rw z
            (step-grow w m n c (start_of T) (end_of T n) (end_of T (suc n)) H R ev ec
            (λ k l. any-default T (2 * k + 1) (suc n) n (omega arith))
            (past_end T (2 * c + 1) (suc n) (omega arith))
            (omega arith)
            (sym B.3 ∙ r)),
      )

  -- and after the row's end is looked at
  step_end : (n c : ℕ) (T : List ℕ) (v e : Bool) → length T + bit v ≡ 2 * c → Runs w m (suc n) c (start_of T) (end_of T (suc n)) H
      → (length (append_if (v && e) (suc n) T) + bit (cond e false v) ≡ 2 * c) × Runs w m (suc n) c (start_of (append_if (v && e) (suc n) T)) (end_of (append_if (v && e) (suc n) T) (suc n)) H
  unfolding append_if
  step_end n c T false true len R = (len, R)
  step_end n c T false false len R = (len, R)
  step_end n c T true false len R = (len, R)
  step_end n c T true true len R =
      let q = snoc-len T (suc n) in
      (omega arith, runs-ext w m (suc n) c (start_of T) (end_of T (suc n)) (start_of (T ++ (suc n ∷ []))) (end_of (T ++ (suc n ∷ [])) (suc n)) H R (λ k l. snoc-in T (suc n) (2 * k) 0 0 (omega arith)) (λ k l. snoc-default T (suc n) (2 * k + 1)))

run_of-next : (w : ℕ) (m : List ℕ) (n : ℕ) → run_of w m n ≡ run_count w m n + bit (is_ink m n && not (ink_before w m n)) - 1
unfolding run_of run_count count_if opens_run
run_of-next w m n = refl

count_next : (w : ℕ) (m : List ℕ) (n : ℕ) → run_count w m (suc n) ≡ run_count w m n + bit (is_ink m n && not (ink_before w m n))
unfolding run_count count_if opens_run
count_next w m n = refl

-- the turns of the first n dots: two a run, but one for a run that goes on; and these runs are the runs of the first n dots
pub scanned : (w : ℕ) (m : List ℕ) → 0 < w → (n : ℕ) → (length (turns w m n) + bit (ink_before w m n) ≡ 2 * run_count w m n) × Runs w m n (run_count w m n) (start_of (turns w m n)) (end_of (turns w m n) n) (run_of w m)
unfolding turns ink_before run_count count_if
scanned w m hw zero = (
  refl,
  record {
    some = λ k l. absurd (not-suc-le-zero l);
    within = λ k l. absurd (not-suc-le-zero l);
    ink = λ k i l. absurd (not-suc-le-zero l);
    row = λ k i l. absurd (not-suc-le-zero l);
    rising = λ j k l l₂. absurd (not-suc-le-zero l₂);
    apart = λ j k l l₂. absurd (not-suc-le-zero l₂);
    has = λ i l. absurd (not-suc-le-zero l);
    from = λ i l. absurd (not-suc-le-zero l);
    upto = λ i l. absurd (not-suc-le-zero l);
  },
)
scanned w m hw (suc n) =
    let ih = scanned w m hw n in
    let s₁ = step-turn w m hw (run_of w m) n (run_count w m n) (turns w m n) (ink_before w m n) (is_ink m n) refl refl ih.0 (run_of-next w m n) ih.1 in
    let s₂ = step_end w m hw (run_of w m) n (run_count w m n + bit (is_ink m n && not (ink_before w m n))) (append_if (differ (ink_before w m n) (is_ink m n)) n (turns w m n)) (is_ink m n) (eqb (suc n % w) 0) s₁.0 s₁.1 in
    rw (count_next w m n) s₂
