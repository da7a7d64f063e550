-- Which word names which call of the code's.
use mathlib.Core.Path.{◌≡◌, sym, ap, ◌∙◌, subst}
use mathlib.Core.Logic.{◌⊎◌, inl, inr}
use Prim.Native.Nat.{ℕ, zero, suc, ◌≤◌}
use native.Mathlib.Omega.{arith}
use lib.ListN.{get_or-eq_default}
use Rattle.scripts.specs.declared.calls.Call.{Call}
use Rattle.scripts.specs.declared.calls.Call.TheVariants.{Clear, Level, Segment, ToPage, RectToPage, LevelGray, Frame, Figures, Summary, TwentyLines, CountDots, ReadDots, Columns, Rules, Graphics, Glyphs, Lines, Blocks, Sheet}
use Rattle.scripts.specs.stages.Calls.{calls, named}

-- the number of a call
abbrev number : Call → ℕ
number Clear = 0
number Level = 1
number Segment = 2
number ToPage = 3
number RectToPage = 4
number LevelGray = 5
number Frame = 6
number Figures = 7
number Summary = 8
number TwentyLines = 9
number CountDots = 10
number ReadDots = 11
number Columns = 12
number Rules = 13
number Graphics = 14
number Glyphs = 15
number Lines = 16
number Blocks = 17
number Sheet = 18

-- a call but clearing is named by its number alone, and clearing by all words that name no other
record Names (op : ℕ) (call : Call) : Type 0 where
  pub word : 1 ≤ number call → op ≡ number call
  pub clears : number call ≡ 0 → 1 ≤ op → 19 ≤ op

names : (op : ℕ) → Names op (named op)
names zero = record { word = λ l. omega arith; clears = λ e l. omega arith }
names (suc zero) = record { word = λ l. omega arith; clears = λ e l. omega arith }
names (suc (suc zero)) = record { word = λ l. omega arith; clears = λ e l. omega arith }
names (suc (suc (suc zero))) = record { word = λ l. omega arith; clears = λ e l. omega arith }
names (suc (suc (suc (suc zero)))) = record { word = λ l. omega arith; clears = λ e l. omega arith }
names (suc (suc (suc (suc (suc zero))))) = record { word = λ l. omega arith; clears = λ e l. omega arith }
names (suc (suc (suc (suc (suc (suc zero)))))) = record { word = λ l. omega arith; clears = λ e l. omega arith }
names (suc (suc (suc (suc (suc (suc (suc zero))))))) = record { word = λ l. omega arith; clears = λ e l. omega arith }
names (suc (suc (suc (suc (suc (suc (suc (suc zero)))))))) = record { word = λ l. omega arith; clears = λ e l. omega arith }
names (suc (suc (suc (suc (suc (suc (suc (suc (suc zero))))))))) = record { word = λ l. omega arith; clears = λ e l. omega arith }
names (suc (suc (suc (suc (suc (suc (suc (suc (suc (suc zero)))))))))) = record { word = λ l. omega arith; clears = λ e l. omega arith }
names (suc (suc (suc (suc (suc (suc (suc (suc (suc (suc (suc zero))))))))))) = record { word = λ l. omega arith; clears = λ e l. omega arith }
names (suc (suc (suc (suc (suc (suc (suc (suc (suc (suc (suc (suc zero)))))))))))) = record { word = λ l. omega arith; clears = λ e l. omega arith }
names (suc (suc (suc (suc (suc (suc (suc (suc (suc (suc (suc (suc (suc zero))))))))))))) = record { word = λ l. omega arith; clears = λ e l. omega arith }
names (suc (suc (suc (suc (suc (suc (suc (suc (suc (suc (suc (suc (suc (suc zero)))))))))))))) = record { word = λ l. omega arith; clears = λ e l. omega arith }
names (suc (suc (suc (suc (suc (suc (suc (suc (suc (suc (suc (suc (suc (suc (suc zero))))))))))))))) = record { word = λ l. omega arith; clears = λ e l. omega arith }
names (suc (suc (suc (suc (suc (suc (suc (suc (suc (suc (suc (suc (suc (suc (suc (suc zero)))))))))))))))) = record { word = λ l. omega arith; clears = λ e l. omega arith }
names (suc (suc (suc (suc (suc (suc (suc (suc (suc (suc (suc (suc (suc (suc (suc (suc (suc zero))))))))))))))))) = record { word = λ l. omega arith; clears = λ e l. omega arith }
names (suc (suc (suc (suc (suc (suc (suc (suc (suc (suc (suc (suc (suc (suc (suc (suc (suc (suc zero)))))))))))))))))) = record { word = λ l. omega arith; clears = λ e l. omega arith }
names (suc (suc (suc (suc (suc (suc (suc (suc (suc (suc (suc (suc (suc (suc (suc (suc (suc (suc (suc n))))))))))))))))))) = record { word = λ l. omega arith; clears = λ e l. omega arith }

-- what the code found to be call x by word op
module _ {op : ℕ} {x : Call} (e : x ≡ named op) where
  names-found : {y : Call} → x ≡ y → Names op y
  names-found f = subst (λ (z : Call). Names op z) (sym e ∙ f) (names op)

  -- is call y: the word is its number
  pub word-is : {y : Call} → x ≡ y → 1 ≤ number y → op ≡ number y
  word-is f l = (names-found f).word l

  -- is clearing
  pub word-clears : x ≡ Clear → 1 ≤ op → 19 ≤ op
  word-clears f l = (names-found f).clears (omega arith) l

  -- is not what word n names
  pub word-not : (n : ℕ) → (x ≡ named n → ⊥) → op ≡ n → ⊥
  word-not n h q = h (e ∙ ap named q)

  -- is not clearing
  pub word-calls : (x ≡ Clear → ⊥) → op ≤ 18
  word-calls h = let past : 19 ≤ op → ⊥ = (λ l. h (e ∙ get_or-eq_default calls Clear l)) in omega arith

  -- reads a levelled page
  pub word-reads : (x ≡ ToPage) ⊎ ((x ≡ RectToPage) ⊎ ((x ≡ LevelGray) ⊎ (x ≡ Frame))) → (3 ≤ op) × (op ≤ 6)
  word-reads (inl f) = let w : op ≡ 3 = word-is f (omega arith) in (omega arith, omega arith)
  word-reads (inr (inl f)) = let w : op ≡ 4 = word-is f (omega arith) in (omega arith, omega arith)
  word-reads (inr (inr (inl f))) = let w : op ≡ 5 = word-is f (omega arith) in (omega arith, omega arith)
  word-reads (inr (inr (inr f))) = let w : op ≡ 6 = word-is f (omega arith) in (omega arith, omega arith)

  -- reads results
  pub word-tells : (x ≡ Clear → ⊥) → (x ≡ Level → ⊥) → (x ≡ Segment → ⊥) → (x ≡ ToPage → ⊥) → (x ≡ RectToPage → ⊥) → (x ≡ LevelGray → ⊥) → (x ≡ Frame → ⊥) → (7 ≤ op) × (op ≤ 18)
  word-tells clear level segment point box gray frame =
      let a : op ≡ 0 → ⊥ = word-not 0 clear in
      let b : op ≡ 1 → ⊥ = word-not 1 level in
      let c : op ≡ 2 → ⊥ = word-not 2 segment in
      let d : op ≡ 3 → ⊥ = word-not 3 point in
      let f : op ≡ 4 → ⊥ = word-not 4 box in
      let g : op ≡ 5 → ⊥ = word-not 5 gray in
      let h : op ≡ 6 → ⊥ = word-not 6 frame in
      (omega arith, word-calls clear)
