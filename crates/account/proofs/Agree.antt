-- The store and its planes agree with the account, call by call.
use mathlib.Core.Path.{◌≡◌, refl, sym, ap, subst, ◌∙◌}
use mathlib.Core.Bool.{Bool, true, false, cond, not, ◌||◌, true≢false}
use mathlib.Core.List.{List, [], ◌∷◌, ◌++◌}
use Prim.Native.Nat.{ℕ, ◌*◌, ◌≤◌}
use native.Mathlib.Omega.{arith}
use borrow.Author.Tests.{eqb-true, eq-eqb, ltb-false}
use lib.Dec.{T, eqb}
use lib.Ieee.{fits, binary64}
use lib.ListN.{length, take, drop, take-append-drop}
use lib.Seq.{get_or-take, take-take, take_at, take-append-le, length-take-le}
use Rattle.memory.specs.rules.Limits.{store_words}
use Rattle.memory.specs.rules.Words.{word_at, over}
use Rattle.memory.proofs.RefusalLaws.{refusal-passed}
use Rattle.params.specs.rules.Valid.{valid}
use Rattle.params.specs.declared.LayoutParams.{LayoutParams}
use Rattle.levelling.specs.rules.Frames.{Frame}
use Rattle.segmenting.specs.rules.Layouts.{Layout, layout, layout_refusal}
use Rattle.judging.specs.rules.Header.{Held, held, frame_held, dots_held, store_held, segmented_state}
use Rattle.judging.specs.rules.Leaves.{Leaf, levelling_of, leaf_held, layout_of}
use Rattle.store.specs.rules.Written.{store_levelled, store_segmented, store_cleared}
use Rattle.judging.specs.rules.Views.{View, view_of, view_of_layout}
use Rattle.judging.specs.rules.Spoiled.{frame_spoiled, ink_spoiled, results_ok, ink_held, results_spoiled}
use Rattle.judging.specs.rules.Refusals.{level_refusal, segment_refusal, result_refusal, level_reading_refusal, clear_refusal}
use Rattle.store.specs.rules.Readings.{LevelReading, lacking_level, bad_level, fill_level, lent_level, ResultReading, lacking_result, bad_result, short_result, value_result, fill_result, lent_result}
use Rattle.store.specs.rules.Readings.Output.{none}
use Rattle.store.specs.rules.Outcomes.{level_left, segment_left, clear_left, layout_held, told_by, level_told, result_told}
use Rattle.judging.proofs.PartLaws.{length_over}
use Rattle.store.proofs.HeaderLaws.{Accepted, frame-of, held-is, held-front, frame-sound}
use Rattle.store.proofs.ListLaws.{Few}
use Rattle.store.proofs.StoreLaws.{leaf_store, StoreHolds, ResultsHold, store-front, results-front, store-back, results-back, first_back, levelled-long, levelled-state, levelled-holds, segmented-holds, segmented-results, segmented-state, segmented-length, view-is}
use Rattle.store.proofs.LayoutLaws.{few-of, kinds-long}
use Rattle.store.proofs.InkLaws.{leaf_dots, ink-long, ink-sound, FrameSmall, frame_small}
use Rattle.store.proofs.GenuineLaws.{genuine, unit-fine}
use Rattle.store.proofs.ChainLaws.{level-same, LevelPassed, level-passed, SegmentPassed, segment-early, segment-same, segment-passed, result-early, result-same, result-passed, reading-early, reading-same, reading-words, told_same, told-alone, settled-yes, settled-no, settled-number}
use Rattle.account.specs.rules.Calls.{Lent, Act, Call, call, World, world, numbered, back, step, says, Doubles, Proper}
use Rattle.account.specs.rules.Calls.Act.{level, segment, clear, read_level, read_result}
use Rattle.account.specs.rules.Accounts.{Account, held_by, pieces_by, short_of, value_of, fill_of, short_by, value_by, fill_by, tell, reply, took, next}
use Rattle.account.specs.rules.Accounts.Account.{nothing, levelled, segmented}
use Rattle.account.proofs.Ruled.{short-ruled, value-ruled, fill-ruled}

-- ---- what store and planes hold of the account

-- a levelled leaf, under this state word
pub record LevelKept (st : ℕ) (a : Leaf) (v : World) : Type 0 where
  pub accepted : Accepted a
  pub state : word_at v.store 0 ≡ st
  pub store : StoreHolds a v.store
  pub ink-room : leaf_dots a ≤ length v.ink
  pub ink : take (leaf_dots a) v.ink ≡ (levelling_of a).ink

-- its segmentation
pub record ResultKept (a : Leaf) (sheet : LayoutParams) (v : World) : Type 0 where
  pub sheet-valid : valid sheet ≡ true
  pub fallback : T (fits binary64 sheet.xheight_fallback_px)
  pub pieces : layout_refusal a.capacity (layout_of a sheet) ≡ 0
  pub results : ResultsHold a (layout_of a sheet) v.store
  pub kinds_room : leaf_dots a ≤ length v.kinds
  pub kinds : take (leaf_dots a) v.kinds ≡ (layout_of a sheet).plane

abbrev pub Kept : Account → World → Type 0
Kept nothing v = word_at v.store 0 ≡ 0
Kept (levelled a) v = LevelKept 1 a v
Kept (segmented a sheet) v = LevelKept 2 a v × ResultKept a sheet v

-- memory of these lengths agrees with the account
pub record Agrees (L : Lent) (m : Account) (v : World) : Type 0 where
  pub store : length v.store ≡ L.store
  pub ink : length v.ink ≡ L.ink
  pub kinds : length v.kinds ≡ L.kinds
  pub kept : Kept m v

pub state-of : (m : Account) (v : World) → Kept m v → word_at v.store 0 ≡ (held_by m).state
state-of nothing v k = k
state-of (levelled a) v k = k.state
state-of (segmented a sheet) v k = k.0.state

-- what is to be shown of a call
pub record Right (L : Lent) (m : Account) (v : World) (c : Call) : Type 0 where
  pub answers : says v c ≡ reply m c
  pub agrees : Agrees L (next m c) (step v c)

-- ---- parts lent and put back

front-back : (n : ℕ) (s : List ℕ) → n ≤ length s → over (take n s) s ≡ s
front-back n s h = ap (λ k. take n s ++ drop k s) (length-take-le n s h) ∙ take-append-drop n s

-- a call on memory that is there
module _ (L : Lent) (m : Account) (v : World) (g : Agrees L m v) (l : Lent) (ps : l.store ≤ L.store) (pi : l.ink ≤ L.ink) (pk : l.kinds ≤ L.kinds) where
  store_in : l.store ≤ length v.store
  store_in = let e = g.store in omega arith

  ink-in : l.ink ≤ length v.ink
  ink-in = let e = g.ink in omega arith

  kinds-in : l.kinds ≤ length v.kinds
  kinds-in = let e = g.kinds in omega arith

  s : List ℕ
  s = take l.store v.store

  i : List ℕ
  i = take l.ink v.ink

  k : List ℕ
  k = take l.kinds v.kinds

  s-long : length s ≡ l.store
  unfolding s
  s-long = length-take-le l.store v.store store_in

  i-long : length i ≡ l.ink
  unfolding i
  i-long = length-take-le l.ink v.ink ink-in

  k-long : length k ≡ l.kinds
  unfolding k
  k-long = length-take-le l.kinds v.kinds kinds-in

  -- nothing is written
  unchanged : back (world s i k) v ≡ v
  unfolding s i k
  unchanged t = world (front-back l.store v.store store_in t) (front-back l.ink v.ink ink-in t) (front-back l.kinds v.kinds kinds-in t)

  -- the state word in the part lent
  state-front : 64 ≤ l.store → word_at s 0 ≡ (held_by m).state
  unfolding s
  state-front h = get_or-take l.store v.store 0 0 (omega arith) ∙ state-of m v g.kept

  held-state : 64 ≤ l.store → (held s).state ≡ (held_by m).state
  unfolding held
  held-state h = state-front h

  -- ---- levelling
  module _ (a : Leaf) (F : T (fits binary64 a.skew) × T (fits binary64 a.slope)) where
    level-number : (level_left a s i).number ≡ tell m l (level a)
    unfolding level_left
    level-number =
        settled-number _ s i (store_levelled a s) (over (levelling_of a).ink i)
        ∙ ((λ t. level_refusal a (s-long t) (i-long t) (word_at s 0)) ∙ level-same a l.store l.ink (word_at s 0) (held_by m).state state-front)

    level-refusal : level_refusal a (length s) (length i) (word_at s 0) ≡ tell m l (level a)
    level-refusal = (λ t. level_refusal a (s-long t) (i-long t) (word_at s 0)) ∙ level-same a l.store l.ink (word_at s 0) (held_by m).state state-front

    level-refused : eqb (tell m l (level a)) 0 ≡ false → step v (call l (level a)) ≡ v
    unfolding level_left s i k
    level-refused q =
        let z = settled-no (level_refusal a (length s) (length i) (word_at s 0)) s i (store_levelled a s) (over (levelling_of a).ink i) (ap (λ n. eqb n 0) level-refusal ∙ q) in
        (λ t. back (world (z.0 t) (z.1 t) k) v) ∙ unchanged

    level-accepted : eqb (tell m l (level a)) 0 ≡ true → Agrees L (levelled a) (step v (call l (level a)))
    unfolding level_left s i k
    level-accepted q =
        let z = settled-yes (level_refusal a (length s) (length i) (word_at s 0)) s i (store_levelled a s) (over (levelling_of a).ink i) (ap (λ n. eqb n 0) level-refusal ∙ q) in
        subst (Agrees L (levelled a)) (λ t. back (world (sym z.0 t) (sym z.1 t) k) v)
        (new (level-passed a l.store l.ink (held_by m).state F (eqb-true _ 0 q)))
      where
        new : LevelPassed a l.store l.ink (held_by m).state → Agrees L (levelled a) (back (world (store_levelled a s) (over (levelling_of a).ink i) k) v)
        new P =
            let A = P.accepted in
            let room : leaf_store a ≤ length s = (let e = s-long in let r = P.room in omega arith) in
            let sl = levelled-long a A s room in
            let slen : length (store_levelled a s) ≤ length v.store = (let e = s-long in let x = store_in in omega arith) in
            let inl : leaf_dots a ≤ length i = (let e = i-long in let r = P.ink-room in omega arith) in
            let io : length (over (levelling_of a).ink i) ≡ length i = length_over (levelling_of a).ink i (let e = ink-long a in omega arith) in
            let ilen : length (over (levelling_of a).ink i) ≤ length v.ink = (let e = i-long in let x = ink-in in omega arith) in
            let so = length_over (store_levelled a s) v.store slen in
            let oo = length_over (over (levelling_of a).ink i) v.ink ilen in
            record {
              store = so ∙ g.store;
              ink = oo ∙ g.ink;
              kinds = ap length (front-back l.kinds v.kinds kinds-in) ∙ g.kinds;
              kept =
                  record {
                    accepted = A;
                    state = first_back (store_levelled a s) v.store (omega arith) ∙ levelled-state a A s room;
                    store = store-back a (store_levelled a s) v.store slen (levelled-holds a A s room);
                    ink-room = let x = ink-in in let e = i-long in omega arith;
                    ink =
                        take-append-le (leaf_dots a) (over (levelling_of a).ink i) (drop (length (over (levelling_of a).ink i)) v.ink) (omega arith)
                        ∙ take_at (levelling_of a).ink (drop (length (levelling_of a).ink) i) (leaf_dots a) (ink-long a);
                  };
            }

    level-right : Right L m v (call l (level a))
    unfolding s i k
    level-right =
        record {
          answers = ap numbered level-number ∙ sym (told-alone (tell m l (level a)) none);
          agrees = go (eqb (tell m l (level a)) 0) refl;
        }
      where
        go : (b : Bool) → eqb (tell m l (level a)) 0 ≡ b → Agrees L (next m (call l (level a))) (step v (call l (level a)))
        go true q = subst (λ (z : Account). Agrees L z (step v (call l (level a)))) (ap (λ b. cond b (levelled a) m) (sym q)) (level-accepted q)
        go false q =
            subst (λ (z : Account). Agrees L z (step v (call l (level a)))) (ap (λ b. cond b (levelled a) m) (sym q)) (subst (Agrees L m) (sym (level-refused q)) g)

  -- ---- clearing
  clear-number : (clear_left s).number ≡ tell m l clear
  unfolding clear_left
  clear-number = settled-number _ s [] (store_cleared s) [] ∙ ap clear_refusal s-long

  clear-refused : eqb (tell m l clear) 0 ≡ false → step v (call l clear) ≡ v
  unfolding clear_left s i k
  clear-refused q =
      let z = settled-no (clear_refusal (length s)) s [] (store_cleared s) [] (ap (λ n. eqb (clear_refusal n) 0) s-long ∙ q) in
      (λ t. back (world (z.0 t) i k) v) ∙ unchanged

  clear-some : eqb (tell m l clear) 0 ≡ true → 1 ≤ l.store
  unfolding clear_refusal
  clear-some q = ltb-false l.store 1 (refusal-passed _ 8 _ (eqb-true _ 0 q)).passed

  clear-accepted : eqb (tell m l clear) 0 ≡ true → Agrees L nothing (step v (call l clear))
  unfolding clear_left s i k
  clear-accepted q =
      let z = settled-yes (clear_refusal (length s)) s [] (store_cleared s) [] (ap (λ n. eqb (clear_refusal n) 0) s-long ∙ q) in
      let one = clear-some q in
      let sl : length (store_cleared s) ≡ length s = length_over (0 ∷ []) s (let e = s-long in omega arith) in
      let so = length_over (store_cleared s) v.store (let e = s-long in let x = store_in in omega arith) in
      subst (Agrees L nothing) (λ t. back (world (sym z.0 t) i k) v)
      (record {
        store = so ∙ g.store;
        ink = ap length (front-back l.ink v.ink ink-in) ∙ g.ink;
        kinds = ap length (front-back l.kinds v.kinds kinds-in) ∙ g.kinds;
        kept = refl;
      })

  clear-right : Right L m v (call l clear)
  unfolding s i k
  clear-right =
      record {
        answers = ap numbered clear-number ∙ sym (told-alone (tell m l clear) none);
        agrees = go (eqb (tell m l clear) 0) refl;
      }
    where
      go : (b : Bool) → eqb (tell m l clear) 0 ≡ b → Agrees L (next m (call l clear)) (step v (call l clear))
      go true q = subst (λ (z : Account). Agrees L z (step v (call l clear))) (ap (λ b. cond b nothing m) (sym q)) (clear-accepted q)
      go false q = subst (λ (z : Account). Agrees L z (step v (call l clear))) (ap (λ b. cond b nothing m) (sym q)) (subst (Agrees L m) (sym (clear-refused q)) g)

  -- ---- readings write nothing
  same : (b : Bool) → cond b m m ≡ m
  same true = refl
  same false = refl

  read-level-agrees : (q : LevelReading) → Agrees L (next m (call l (read_level q))) (step v (call l (read_level q)))
  unfolding s i k
  read-level-agrees q =
      subst (λ (z : Account). Agrees L z (step v (call l (read_level q)))) (sym (same (eqb (tell m l (read_level q)) 0))) (subst (Agrees L m) (sym unchanged) g)

  read-result-agrees : (q : ResultReading) → Agrees L (next m (call l (read_result q))) (step v (call l (read_result q)))
  unfolding s i k
  read-result-agrees q =
      subst (λ (z : Account). Agrees L z (step v (call l (read_result q)))) (sym (same (eqb (tell m l (read_result q)) 0))) (subst (Agrees L m) (sym unchanged) g)

  -- ---- an empty store: what else it holds does not matter
  module _ (none-held : (held_by m).state ≡ 0) where
    read-level-empty : (q : LevelReading) → says v (call l (read_level q)) ≡ reply m (call l (read_level q))
    unfolding s level_told
    read-level-empty q =
        let h = held s in
        let G = held_by m in
        let e = ap (λ n. level_reading_refusal n h (lacking_level q h) (frame_spoiled s) (bad_level q h)) s-long
        ∙ reading-early l.store h G (lacking_level q h) (lacking_level q G) (frame_spoiled s) false (bad_level q h) (bad_level q G) (λ x. held-state x ∙ none-held) none-held in
        ap (λ n. told_by n 0 (fill_level q h) (lent_level q)) e
        ∙ told_same (tell m l (read_level q)) 0 0 (fill_level q h) (fill_level q G) (lent_level q)
        (λ z. absurd (true≢false (sym (eq-eqb _ 0 none-held) ∙ (reading-words l.store G (lacking_level q G) false (bad_level q G) z).1)))

    segment-empty-number : (sheet : LayoutParams) (x : ℕ) → (segment_left sheet s i k x).number ≡ tell m l (segment sheet x)
    unfolding segment_left
    segment-empty-number sheet x =
        settled-number _ s k _ _
        ∙ ((λ t. segment_refusal sheet (s-long t) (i-long t) (k-long t) x (held s) (frame_spoiled s || ink_spoiled (dots_held (held s)) i) (layout_refusal (held s).capacity (layout_held sheet (held s) i)))
        ∙ segment-early sheet l.store l.ink l.kinds x (held s) (held_by m) _ false _ (pieces_by m sheet) (λ h. held-state h ∙ none-held) none-held)

    segment-empty-refused : (sheet : LayoutParams) (x : ℕ) → eqb (tell m l (segment sheet x)) 0 ≡ false
    segment-empty-refused sheet x = go (eqb (tell m l (segment sheet x)) 0) refl
      where
        go : (b : Bool) → eqb (tell m l (segment sheet x)) 0 ≡ b → b ≡ false
        go false q = refl
        go true q = absurd (true≢false (sym (eq-eqb _ 0 none-held) ∙ (segment-passed sheet l.store l.ink l.kinds x (held_by m) false (pieces_by m sheet) (eqb-true _ 0 q)).late))

  -- ---- a segmentation that is refused
  segment-refused : (sheet : LayoutParams) (x : ℕ) → (segment_left sheet s i k x).number ≡ tell m l (segment sheet x) → eqb (tell m l (segment sheet x)) 0 ≡ false → step v (call l (segment sheet x)) ≡ v
  unfolding segment_left s i k
  segment-refused sheet x e q =
      let h = held s in
      let y = layout_held sheet h i in
      let n = segment_refusal sheet (length s) (length i) (length k) x h (frame_spoiled s || ink_spoiled (dots_held h) i) (layout_refusal h.capacity y) in
      let z = settled-no n s k (store_segmented h.page_w (frame_held h).w (frame_held h).h h.capacity y s) (over y.plane k) (ap (λ n. eqb n 0) (sym (settled-number n s k _ _) ∙ e) ∙ q) in
      (λ t. back (world (z.0 t) i (z.1 t)) v) ∙ unchanged

  segment-right : (sheet : LayoutParams) (x : ℕ) → (segment_left sheet s i k x).number ≡ tell m l (segment sheet x)
      → (eqb (tell m l (segment sheet x)) 0 ≡ true → Agrees L (took m (segment sheet x)) (step v (call l (segment sheet x)))) → Right L m v (call l (segment sheet x))
  unfolding s i k
  segment-right sheet x e f =
      record {
        answers = ap numbered e ∙ sym (told-alone (tell m l (segment sheet x)) none);
        agrees = go (eqb (tell m l (segment sheet x)) 0) refl;
      }
    where
      go : (b : Bool) → eqb (tell m l (segment sheet x)) 0 ≡ b → Agrees L (next m (call l (segment sheet x))) (step v (call l (segment sheet x)))
      go true q = subst (λ (z : Account). Agrees L z (step v (call l (segment sheet x)))) (ap (λ b. cond b (took m (segment sheet x)) m) (sym q)) (f q)
      go false q =
          subst (λ (z : Account). Agrees L z (step v (call l (segment sheet x)))) (ap (λ b. cond b (took m (segment sheet x)) m) (sym q)) (subst (Agrees L m) (sym (segment-refused sheet x e q)) g)

  -- ---- a levelled leaf
  module _ (st : ℕ) (a : Leaf) (K : LevelKept st a v) where
    held-leaf : 64 ≤ l.store → held s ≡ leaf_held st a
    unfolding s
    held-leaf h = held-front l.store v.store (omega arith) ∙ held-is a K.accepted st v.store K.state K.store.words

    store-asked : store_held (leaf_held st a) ≡ leaf_store a
    store-asked = ap (λ (f : Frame). store_words a.w f.w f.h a.capacity) (frame-of a st)

    dots-asked : dots_held (leaf_held st a) ≡ leaf_dots a
    dots-asked = ap (λ (f : Frame). f.w * f.h) (frame-of a st)

    store-leaf : store_held (leaf_held st a) ≤ l.store → StoreHolds a s
    unfolding s
    store-leaf h = store-front a l.store v.store (let e = store-asked in omega arith) store_in K.store

    frame-leaf : 64 ≤ l.store → store_held (leaf_held st a) ≤ l.store → frame_spoiled s ≡ false
    frame-leaf h r = frame-sound a st s (held-leaf h) (store-leaf r).shears

    ink-leaf : dots_held (leaf_held st a) ≤ l.ink → take (leaf_dots a) i ≡ (levelling_of a).ink
    unfolding i
    ink-leaf h = take-take (leaf_dots a) l.ink v.ink (let e = dots-asked in omega arith) ∙ K.ink

    ink-clean : 64 ≤ l.store → dots_held (leaf_held st a) ≤ l.ink → ink_spoiled (dots_held (held s)) i ≡ false
    ink-clean h r = ink-sound a K.accepted (dots_held (held s)) i (ap dots_held (held-leaf h) ∙ dots-asked) (ink-leaf r)

    layout-leaf : (sheet : LayoutParams) → 64 ≤ l.store → dots_held (leaf_held st a) ≤ l.ink → layout_held sheet (held s) i ≡ layout_of a sheet
    layout-leaf sheet h r =
        ap (λ (z : Held). layout_held sheet z i) (held-leaf h)
        ∙ (ap (λ (f : Frame). layout sheet f.w f.h (take (f.w * f.h) i)) (frame-of a st)
        ∙ ap (layout sheet (levelling_of a).frame.w (levelling_of a).frame.h) (ink-leaf r))

    module _ (says-leaf : held_by m ≡ leaf_held st a) (late : eqb st 0 ≡ false) where
      -- ---- mapping and `level_gray`
      read-level-right : (q : LevelReading) → says v (call l (read_level q)) ≡ reply m (call l (read_level q))
      unfolding s level_told
      read-level-right q =
          let h = held s in
          let G = leaf_held st a in
          let e : level_reading_refusal (length s) h (lacking_level q h) (frame_spoiled s) (bad_level q h) ≡ level_reading_refusal l.store G (lacking_level q G) false (bad_level q G) =
          ap (λ n. level_reading_refusal n h (lacking_level q h) (frame_spoiled s) (bad_level q h)) s-long
          ∙ reading-same l.store h G (lacking_level q) (bad_level q) (frame_spoiled s) false held-leaf frame-leaf in
          ap (λ n. told_by n 0 (fill_level q h) (lent_level q)) e
          ∙ (told_same (level_reading_refusal l.store G (lacking_level q G) false (bad_level q G)) 0 0 (fill_level q h) (fill_level q G) (lent_level q)
          (λ z. (refl, ap (fill_level q) (held-leaf (reading-words l.store G (lacking_level q G) false (bad_level q G) z).0)))
          ∙ ap (λ (z : Held). told_by (level_reading_refusal l.store z (lacking_level q z) false (bad_level q z)) 0 (fill_level q z) (lent_level q)) (sym says-leaf))

      -- ---- segmenting
      module _ (sheet : LayoutParams) (x : ℕ) (D : T (fits binary64 sheet.xheight_fallback_px))
          (pieces-leaf : pieces_by m sheet ≡ layout_refusal a.capacity (layout_of a sheet)) (took-leaf : took m (segment sheet x) ≡ segmented a sheet) where
        spoiled-leaf : 64 ≤ l.store → store_held (leaf_held st a) ≤ l.store → dots_held (leaf_held st a) ≤ l.ink → (frame_spoiled s || ink_spoiled (dots_held (held s)) i) ≡ false
        spoiled-leaf h r d = rw (frame-leaf h r, ink-clean h d)

        refusal-leaf : segment_refusal sheet (length s) (length i) (length k) x (held s) (frame_spoiled s || ink_spoiled (dots_held (held s)) i) (layout_refusal (held s).capacity (layout_held sheet (held s) i))
            ≡ tell m l (segment sheet x)
        refusal-leaf =
            (λ t. segment_refusal sheet (s-long t) (i-long t) (k-long t) x (held s) (frame_spoiled s || ink_spoiled (dots_held (held s)) i) (layout_refusal (held s).capacity (layout_held sheet (held s) i)))
            ∙ (segment-same sheet l.store l.ink l.kinds x (held s) (leaf_held st a) _ false _ (layout_refusal a.capacity (layout_of a sheet)) held-leaf
            (λ h r d. (spoiled-leaf h r d, (λ t. layout_refusal (held-leaf h t).capacity (layout-leaf sheet h d t))))
            ∙ (λ t. segment_refusal sheet l.store l.ink l.kinds x (sym says-leaf t) false (sym pieces-leaf t)))

        number-leaf : (segment_left sheet s i k x).number ≡ tell m l (segment sheet x)
        unfolding segment_left
        number-leaf = settled-number _ s k _ _ ∙ refusal-leaf

        accepted-leaf : eqb (tell m l (segment sheet x)) 0 ≡ true → Agrees L (took m (segment sheet x)) (step v (call l (segment sheet x)))
        unfolding segment_left s i k
        accepted-leaf q =
            let h = held s in
            let y = layout_held sheet h i in
            let n = segment_refusal sheet (length s) (length i) (length k) x h (frame_spoiled s || ink_spoiled (dots_held h) i) (layout_refusal h.capacity y) in
            let z = settled-yes n s k (store_segmented h.page_w (frame_held h).w (frame_held h).h h.capacity y s) (over y.plane k) (ap (λ n. eqb n 0) refusal-leaf ∙ q) in
            let P = segment-passed sheet l.store l.ink l.kinds x (leaf_held st a) false (layout_refusal a.capacity (layout_of a sheet))
            ((λ t. segment_refusal sheet l.store l.ink l.kinds x (sym says-leaf t) false (sym pieces-leaf t)) ∙ eqb-true _ 0 q) in
            let hl = held-leaf P.words in
            let yl = layout-leaf sheet P.words P.ink-room in
            let stored : store_segmented h.page_w (frame_held h).w (frame_held h).h h.capacity y s ≡ store_segmented a.w (levelling_of a).frame.w (levelling_of a).frame.h a.capacity (layout_of a sheet) s =
            (λ t. store_segmented (hl t).page_w (frame_held (hl t)).w (frame_held (hl t)).h (hl t).capacity (yl t) s)
            ∙ ap (λ (f : Frame). store_segmented a.w f.w f.h a.capacity (layout_of a sheet) s) (frame-of a st) in
            subst (λ (w : Account). Agrees L w (step v (call l (segment sheet x)))) (sym took-leaf)
            (subst (Agrees L (segmented a sheet)) (λ t. back (world (sym (z.0 ∙ stored) t) i (sym (z.1 ∙ (λ j. over (yl j).plane k)) t)) v)
            (new P))
          where
            new : SegmentPassed sheet l.store l.ink l.kinds x (leaf_held st a) false (layout_refusal a.capacity (layout_of a sheet))
                → Agrees L (segmented a sheet) (back (world (store_segmented a.w (levelling_of a).frame.w (levelling_of a).frame.h a.capacity (layout_of a sheet) s) i (over (layout_of a sheet).plane k)) v)
            new P =
                let y = layout_of a sheet in
                let H = store-leaf P.room in
                let F : Few (levelling_of a).frame.w a.capacity y = few-of sheet (levelling_of a).frame.w (levelling_of a).frame.h (levelling_of a).ink a.capacity P.pieces in
                let t = store_segmented a.w (levelling_of a).frame.w (levelling_of a).frame.h a.capacity y s in
                let tl = segmented-length a y F s H in
                let tlen : length t ≤ length v.store = (let e = s-long in let x = store_in in omega arith) in
                let kl : length y.plane ≡ leaf_dots a = kinds-long sheet (levelling_of a).frame.w (levelling_of a).frame.h (levelling_of a).ink in
                let kin : leaf_dots a ≤ length k = (let e = k-long in let r = P.kinds_room in let d = dots-asked in omega arith) in
                let ko : length (over y.plane k) ≡ length k = length_over y.plane k (omega arith) in
                let klen : length (over y.plane k) ≤ length v.kinds = (let e = k-long in let x = kinds-in in omega arith) in
                let so = length_over t v.store tlen in
                let oo = length_over (over y.plane k) v.kinds klen in
                let room : leaf_store a ≤ length t = (let r = H.room in omega arith) in
                record {
                  store = so ∙ g.store;
                  ink = ap length (front-back l.ink v.ink ink-in) ∙ g.ink;
                  kinds = oo ∙ g.kinds;
                  kept = (
                    record {
                      accepted = K.accepted;
                      state = first_back t v.store (omega arith) ∙ segmented-state a y F s H;
                      store = store-back a t v.store tlen (segmented-holds a y F s H);
                      ink-room = subst (λ (z : List ℕ). leaf_dots a ≤ length z) (sym (front-back l.ink v.ink ink-in)) K.ink-room;
                      ink = subst (λ (z : List ℕ). take (leaf_dots a) z ≡ (levelling_of a).ink) (sym (front-back l.ink v.ink ink-in)) K.ink;
                    },
                    record {
                      sheet-valid = P.sheet-valid;
                      fallback = D;
                      pieces = P.pieces;
                      results = results-back a y t v.store F room (segmented-results a y F s H);
                      kinds_room = let x = kinds-in in let e = k-long in omega arith;
                      kinds =
                          take-append-le (leaf_dots a) (over y.plane k) (drop (length (over y.plane k)) v.kinds) (omega arith)
                          ∙ take_at y.plane (drop (length y.plane) k) (leaf_dots a) kl;
                    },
                  );
                }

  -- ---- readings of results where the page is not segmented: what else is held does not matter
  module _ (early : not (eqb (held_by m).state segmented_state) ≡ true) where
    read-result-early : (q : ResultReading) → says v (call l (read_result q)) ≡ reply m (call l (read_result q))
    unfolding s i k result_told
    read-result-early q =
        let h = held s in
        let seen = view_of s k in
        let N = tell m l (read_result q) in
        let e : result_refusal (length s) (length i) (length k) h (lacking_result q) (results_spoiled s i k) (bad_result q seen.frame) (short_result q seen) ≡ N =
        (λ t. result_refusal (s-long t) (i-long t) (k-long t) h (lacking_result q) (results_spoiled s i k) (bad_result q seen.frame) (short_result q seen))
        ∙ result-early l.store l.ink l.kinds (lacking_result q) h (held_by m) _ false _ _ _ (short_by m q) held-state early in
        ap (λ n. told_by n (value_result q seen) (fill_result q seen) (lent_result q)) e
        ∙ told_same N (value_result q seen) (value_by m q) (fill_result q seen) (fill_by m q) (lent_result q)
        (λ z. absurd (true≢false (sym early ∙ (result-passed l.store l.ink l.kinds (lacking_result q) (held_by m) false (bad_result q (frame_held (held_by m))) (short_by m q) z).late)))

  -- ---- readings of the results of a segmented leaf
  module _ (a : Leaf) (sheet : LayoutParams) (K : LevelKept 2 a v) (R : ResultKept a sheet v) where
    y : Layout
    y = layout_of a sheet

    W : View
    W = view_of_layout (levelling_of a).frame (levelling_of a).skew (layout_of a sheet)

    small : FrameSmall a
    small = frame_small a K.accepted

    view-leaf : 64 ≤ l.store → store_held (leaf_held 2 a) ≤ l.store → dots_held (leaf_held 2 a) ≤ l.kinds → view_of s k ≡ W
    unfolding s k W
    view-leaf h r d =
        view-is a (layout_of a sheet) s k (held-leaf 2 a K h)
        (results-front a (layout_of a sheet) l.store v.store (few-of sheet (levelling_of a).frame.w (levelling_of a).frame.h (levelling_of a).ink a.capacity R.pieces) (let e = store-asked 2 a K in omega arith) store_in R.results)
        (take-take (leaf_dots a) l.kinds v.kinds (let e = dots-asked 2 a K in omega arith) ∙ R.kinds)

    results-pass : 64 ≤ l.store → store_held (leaf_held 2 a) ≤ l.store → dots_held (leaf_held 2 a) ≤ l.ink → dots_held (leaf_held 2 a) ≤ l.kinds
        → results_ok (held s).capacity (ink_held (held s) i) (view_of s k) ≡ true
    results-pass h r d n =
        (λ t. results_ok (held-leaf 2 a K h t).capacity (ink_held (held-leaf 2 a K h t) i) (view-leaf h r n t))
        ∙ ((λ t. results_ok a.capacity ((ap (λ z. take z i) (dots-asked 2 a K) ∙ ink-leaf 2 a K d) t) W)
        ∙ (unfold W in genuine (levelling_of a).frame (levelling_of a).skew sheet (levelling_of a).ink a.capacity small.wide small.few-dots small.low R.sheet-valid R.fallback R.pieces))

    spoiled-not : 64 ≤ l.store → store_held (leaf_held 2 a) ≤ l.store → dots_held (leaf_held 2 a) ≤ l.ink → dots_held (leaf_held 2 a) ≤ l.kinds → results_spoiled s i k ≡ false
    spoiled-not h r d n = rw (frame-leaf 2 a K h r, ink-clean 2 a K h d, results-pass h r d n)

    -- the number and the answer, for an account that tells them by the rules
    module _ (q : ResultReading) where
      abbrev N : ℕ
      N = result_refusal l.store l.ink l.kinds (leaf_held 2 a) (lacking_result q) false (bad_result q (frame_held (leaf_held 2 a))) (short_of q (levelling_of a) (layout_of a sheet))

      number-result : result_refusal (length s) (length i) (length k) (held s) (lacking_result q) (results_spoiled s i k) (bad_result q (view_of s k).frame) (short_result q (view_of s k)) ≡ N
      unfolding W view_of_layout
      number-result =
          (λ t. result_refusal (s-long t) (i-long t) (k-long t) (held s) (lacking_result q) (results_spoiled s i k) (bad_result q (view_of s k).frame) (short_result q (view_of s k)))
          ∙ result-same l.store l.ink l.kinds (lacking_result q) (held s) (leaf_held 2 a) _ false _ _ _ (short_of q (levelling_of a) (layout_of a sheet)) (held-leaf 2 a K)
          (λ h r d n. (
            spoiled-not h r d n,
            (λ t. bad_result q (view-leaf h r n t).frame) ∙ ap (bad_result q) (sym (frame-of a 2)),
            (λ t. short_result q (view-leaf h r n t)) ∙ short-ruled (levelling_of a) sheet (levelling_of a).frame.w (levelling_of a).frame.h (levelling_of a).ink q,
          ))

      answer-result : N ≡ 0 → (value_result q (view_of s k) ≡ value_of q (levelling_of a) (layout_of a sheet)) × (fill_result q (view_of s k) ≡ fill_of q (levelling_of a) (layout_of a sheet))
      unfolding W
      answer-result z =
          let P = result-passed l.store l.ink l.kinds (lacking_result q) (leaf_held 2 a) false _ _ z in
          let e = view-leaf P.words P.room P.kinds_room in
          let w = (levelling_of a).frame.w in
          let h = (levelling_of a).frame.h in (
            ap (value_result q) e ∙ value-ruled (levelling_of a) sheet w h (levelling_of a).ink q,
            ap (fill_result q) e ∙ fill-ruled (levelling_of a) sheet w h (levelling_of a).ink q (unit-fine sheet w h (levelling_of a).ink small.wide small.few-dots small.low R.sheet-valid R.fallback),
          )

      read-result-told : says v (call l (read_result q)) ≡ told_by N (value_of q (levelling_of a) (layout_of a sheet)) (fill_of q (levelling_of a) (layout_of a sheet)) (lent_result q)
      unfolding s i k result_told
      read-result-told =
          ap (λ n. told_by n (value_result q (view_of s k)) (fill_result q (view_of s k)) (lent_result q)) number-result
          ∙ told_same N (value_result q (view_of s k)) (value_of q (levelling_of a) (layout_of a sheet)) (fill_result q (view_of s k)) (fill_of q (levelling_of a) (layout_of a sheet)) (lent_result q) answer-result

-- ---- any call

module _ (L : Lent) (v : World) (l : Lent) (ps : l.store ≤ L.store) (pi : l.ink ≤ L.ink) (pk : l.kinds ≤ L.kinds) where
  segment-any : (m : Account) → Agrees L m v → (sheet : LayoutParams) (x : ℕ) → T (fits binary64 sheet.xheight_fallback_px) → Right L m v (call l (segment sheet x))
  segment-any nothing g sheet x D =
      segment-right L nothing v g l ps pi pk sheet x (segment-empty-number L nothing v g l ps pi pk refl sheet x)
      (λ q. absurd (true≢false (sym q ∙ segment-empty-refused L nothing v g l ps pi pk refl sheet x)))
  segment-any (levelled a) g sheet x D =
      segment-right L (levelled a) v g l ps pi pk sheet x (number-leaf L (levelled a) v g l ps pi pk 1 a g.kept refl refl sheet x D refl refl)
      (accepted-leaf L (levelled a) v g l ps pi pk 1 a g.kept refl refl sheet x D refl refl)
  segment-any (segmented a old) g sheet x D =
      segment-right L (segmented a old) v g l ps pi pk sheet x (number-leaf L (segmented a old) v g l ps pi pk 2 a g.kept.0 refl refl sheet x D refl refl)
      (accepted-leaf L (segmented a old) v g l ps pi pk 2 a g.kept.0 refl refl sheet x D refl refl)

  read-level-any : (m : Account) → Agrees L m v → (q : LevelReading) → says v (call l (read_level q)) ≡ reply m (call l (read_level q))
  read-level-any nothing g q = read-level-empty L nothing v g l ps pi pk refl q
  read-level-any (levelled a) g q = read-level-right L (levelled a) v g l ps pi pk 1 a g.kept refl refl q
  read-level-any (segmented a sheet) g q = read-level-right L (segmented a sheet) v g l ps pi pk 2 a g.kept.0 refl refl q

  read-result-any : (m : Account) → Agrees L m v → (q : ResultReading) → says v (call l (read_result q)) ≡ reply m (call l (read_result q))
  read-result-any nothing g q = read-result-early L nothing v g l ps pi pk refl q
  read-result-any (levelled a) g q = read-result-early L (levelled a) v g l ps pi pk refl q
  read-result-any (segmented a sheet) g q = read-result-told L (segmented a sheet) v g l ps pi pk a sheet g.kept.0 g.kept.1 q

pub right : (L : Lent) (m : Account) (v : World) (c : Call) → Proper L c → Agrees L m v → Right L m v c
right L m v c P g = go c.act P.doubles
  where
    go : (act : Act) → Doubles act → Right L m v (call c.lent act)
    go (level a) D = level-right L m v g c.lent P.store P.ink P.kinds a D
    go (segment sheet x) D = segment-any L v c.lent P.store P.ink P.kinds m g sheet x D
    go clear D = clear-right L m v g c.lent P.store P.ink P.kinds
    go (read_level q) D = record { answers = read-level-any L v c.lent P.store P.ink P.kinds m g q; agrees = read-level-agrees L m v g c.lent P.store P.ink P.kinds q }
    go (read_result q) D = record { answers = read-result-any L v c.lent P.store P.ink P.kinds m g q; agrees = read-result-agrees L m v g c.lent P.store P.ink P.kinds q }
