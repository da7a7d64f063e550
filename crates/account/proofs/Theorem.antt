-- Demand 3: after any list of calls on one store that is empty at first, and its planes.
use mathlib.Core.Path.{◌≡◌, refl, sym, ap, ap₂, ◌∙◌, subst}
use mathlib.Core.Bool.{Bool, cond}
use mathlib.Core.List.{List, [], ◌∷◌}
use Prim.Native.Nat.{ℕ, ◌*◌, ◌≤◌}
use native.Mathlib.Nat.{le_refl}
use native.Mathlib.Omega.{arith}
use borrow.Author.Tests.{eq-eqb}
use lib.ListN.{length}
use Rattle.memory.specs.rules.Limits.{store_words, scratch_words}
use Rattle.memory.specs.rules.Words.{word_at}
use Rattle.params.specs.declared.LayoutParams.{LayoutParams}
use Rattle.levelling.specs.rules.Frames.{Frame}
use Rattle.judging.specs.rules.Header.{empty_state, store_held, dots_held}
use Rattle.judging.specs.rules.Leaves.{Leaf, levelling_of, leaf_held}
use Rattle.store.specs.rules.Outcomes.{Told}
use Rattle.store.proofs.HeaderLaws.{frame-of, limits-pass}
use Rattle.store.proofs.StoreLaws.{leaf_store}
use Rattle.store.proofs.ChainLaws.{level-again, segment-none}
use Rattle.account.specs.rules.Calls.{Lent, Call, call, World, lengths, step, run, answers, AllProper}
use Rattle.account.specs.rules.Calls.Act.{level, segment}
use Rattle.account.specs.rules.Accounts.{Account, tell, next, account, replies}
use Rattle.account.specs.rules.Accounts.Account.{nothing, levelled, segmented}
use Rattle.account.specs.rules.Claims.{Never, InkHeld, Enough, afresh_calls, Afresh, ResultsHeld, Claim}
use Rattle.account.proofs.Agree.{LevelKept, ResultKept, Kept, Agrees, right, state-of}
use Rattle.account.proofs.Parts.{never, inked, by_rules, one_sort, ink-word, sum-words}

-- ---- along the list

all-answers : (L : Lent) (m : Account) (v : World) (cs : List Call) → AllProper L cs → Agrees L m v → answers v cs ≡ replies m cs
all-answers L m v [] P g = refl
all-answers L m v (c ∷ cs) (p, P) g =
    ap₂ (λ (x : Told) (xs : List Told). x ∷ xs) (right L m v c p g).answers (all-answers L (next m c) (step v c) cs P (right L m v c p g).agrees)

all-agree : (L : Lent) (m : Account) (v : World) (cs : List Call) → AllProper L cs → Agrees L m v → Agrees L (account m cs) (run v cs)
all-agree L m v [] P g = g
all-agree L m v (c ∷ cs) (p, P) g = all-agree L (next m c) (step v c) cs P (right L m v c p g).agrees

all-never : (L : Lent) (m : Account) (v : World) (cs : List Call) → AllProper L cs → Agrees L m v → Never m cs
all-never L m v [] P g = tt
all-never L m v (c ∷ cs) (p, P) g = (never m v c.lent c.act g.kept, all-never L (next m c) (step v c) cs P (right L m v c p g).agrees)

-- an empty store agrees with an account that holds nothing
at_first : (v : World) → word_at v.store 0 ≡ empty_state → Agrees (lengths v) nothing v
at_first v e = record { store = refl; ink = refl; kinds = refl; kept = e }

-- ---- the same leaf levelled afresh, and segmented with the same sheet

module _ (a : Leaf) (sheet : LayoutParams) (v : World) (K : LevelKept 2 a v) (R : ResultKept a sheet v) (u : World) (x : ℕ) (e : word_at u.store 0 ≡ empty_state) (E : Enough a (lengths u) x) where
  l : Lent
  l = lengths u

  levels : tell nothing (lengths u) (level a) ≡ 0
  levels = level-again a (length u.store) (length u.ink) K.accepted E.store E.ink

  store_is : store_held (leaf_held 1 a) ≡ leaf_store a
  store_is = ap (λ (f : Frame). store_words a.w f.w f.h a.capacity) (frame-of a 1)

  dots_is : dots_held (leaf_held 1 a) ≡ (levelling_of a).frame.w * (levelling_of a).frame.h
  dots_is = ap (λ (f : Frame). f.w * f.h) (frame-of a 1)

  segments : tell (levelled a) (lengths u) (segment sheet x) ≡ 0
  segments =
      segment-none sheet (length u.store) (length u.ink) (length u.kinds) x (leaf_held 1 a) R.sheet-valid (let r = E.store in omega arith) (omega arith) refl (limits-pass a K.accepted 1)
      (subst (λ n. n ≤ length u.store) (sym store_is) E.store) (subst (λ n. n ≤ length u.ink) (sym dots_is) E.ink) (subst (λ n. n ≤ length u.kinds) (sym dots_is) E.kinds)
      (subst (λ n. scratch_words n a.capacity ≤ x) (sym dots_is) E.scratch_room) _ R.pieces

  accepted : account nothing (afresh_calls a sheet (lengths u) x) ≡ segmented a sheet
  accepted =
      ap (λ (b : Bool). next (cond b (levelled a) nothing) (call (lengths u) (segment sheet x))) (eq-eqb _ 0 levels)
      ∙ ap (λ (b : Bool). cond b (segmented a sheet) (levelled a)) (eq-eqb _ 0 segments)

  proper : AllProper (lengths u) (afresh_calls a sheet (lengths u) x)
  proper = (
    record { store = le_refl (length u.store); ink = le_refl (length u.ink); kinds = le_refl (length u.kinds); doubles = (K.accepted.skew-fits, K.accepted.slope-fits) },
    (
      record { store = le_refl (length u.store); ink = le_refl (length u.ink); kinds = le_refl (length u.kinds); doubles = R.fallback },
      tt,
    ),
  )

  pub afresh : Afresh a sheet v u x
  afresh =
      let g : Agrees (lengths u) (segmented a sheet) (run u (afresh_calls a sheet (lengths u) x)) =
      subst (λ (m : Account). Agrees (lengths u) m (run u (afresh_calls a sheet (lengths u) x))) accepted
      (all-agree (lengths u) nothing u (afresh_calls a sheet (lengths u) x) proper (at_first u e)) in
      record {
        accepted = accepted;
        same = by_rules a sheet v K R ∙ sym (by_rules a sheet (run u (afresh_calls a sheet (lengths u) x)) g.kept.0 g.kept.1);
      }

-- ---- at the end of the list

ink-held : (m : Account) (v : World) → Kept m v → InkHeld m v
ink-held nothing v k = tt
ink-held (levelled a) v k = inked 1 a v k
ink-held (segmented a sheet) v k = inked 2 a v k.0

results-held : (m : Account) (v : World) → Kept m v → ResultsHeld m v
results-held nothing v k = tt
results-held (levelled a) v k = tt
results-held (segmented a sheet) v (K, R) =
    record {
      by_rules = by_rules a sheet v K R;
      one_sort = one_sort a sheet v K R;
      ink = ink-word a sheet v K R;
      sum = sum-words a sheet v K R;
      afresh = afresh a sheet v K R;
    }

-- any store and planes whose state word is 0, the rest anything (a store with no word at all too); any list of calls on front parts of them
pub theorem : (v : World) (cs : List Call) → word_at v.store 0 ≡ empty_state → AllProper (lengths v) cs → Claim cs (answers v cs) (run v cs)
theorem v cs e P =
    let g = at_first v e in
    let z = all-agree (lengths v) nothing v cs P g in
    record {
      outcomes = all-answers (lengths v) nothing v cs P g;
      never = all-never (lengths v) nothing v cs P g;
      state = state-of (account nothing cs) (run v cs) z.kept;
      ink = ink-held (account nothing cs) (run v cs) z.kept;
      results = results-held (account nothing cs) (run v cs) z.kept;
    }
