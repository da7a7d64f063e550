-- The sheet of a store that may be read: how long it is, that its words are there, and that it is the sheet of what the store says.
use mathlib.Core.Path.{◌≡◌, sym, ap, ◌∙◌}
use mathlib.Core.Bool.{false}
use mathlib.Core.List.{List}
use Prim.Native.Nat.{ℕ, ◌+◌, ◌-◌, ◌*◌, ◌≤◌, ◌<◌}
use native.Mathlib.Omega.{arith}
use borrow.Author.Tests.{lt-ltb, le-ltb}
use lib.ListN.{length, get_or, take, drop, length-drop}
use lib.Seq.{drop-drop}
use Rattle.memory.specs.rules.Refusals.{refuse_if}
use Rattle.memory.specs.rules.Words.{over}
use Rattle.memory.proofs.PartLaws.{tail-part}
use Rattle.levelling.specs.rules.Frames.{frame}
use Rattle.segmenting.specs.declared.places.ResultPlaces.{ResultPlaces}
use Rattle.segmenting.specs.stages.Places.{result_places}
use Rattle.judging.specs.rules.Header.{held, part, lists_at}
use Rattle.judging.specs.rules.Refusals.{result_refusal}
use Rattle.judging.specs.rules.Spoiled.{results_spoiled}
use Rattle.judging.specs.rules.Views.{view_of, view_with}
use Rattle.judging.proofs.PartLaws.{length_part}
use Rattle.judging.proofs.ResultLaws.{figure-word}
use Rattle.judging.proofs.SpoiledLaws.{ReadableResults}
use Rattle.listing.specs.rules.Pages.{edition}
use Rattle.listing.specs.rules.Sheets.{sheet_text, sheet_held}
use Rattle.listing.specs.stages.Parts.{sheet_length}
use Rattle.listing.specs.stages.Lists.{ListsIn, sheet_in}
use Rattle.listing.proofs.SheetLaws.{length-sheet}
use Rattle.store.specs.rules.Readings.{ResultReading, Which}
use Rattle.store.specs.rules.Readings.Output.{words}
use Rattle.store.specs.rules.Readings.Which.{columns, rules, graphics, glyphs, lines, blocks}
use Rattle.store.specs.rules.Outcomes.{told, result_told}
use Rattle.store.specs.stages.Areas.{place_in, record_words, list_size, list_read, ListsAt, sheet_read}
use Rattle.store.proofs.ToldLaws.{told-late, told-done}
use Rattle.store.proofs.TellLaws.{sides-are, list_read_lem, list-start}

-- ---- by the words

module _ (s : List ℕ) (A : ListsAt s) where
  abbrev figures : List ℕ
  figures = part 10 15 s

  pub sheet-long : length (sheet_read s) ≡ sheet_length (part 10 15 s)
  sheet-long =
      length-sheet edition (get_or s 3 0) (get_or s 4 0) (get_or s 1 0) (get_or s 2 0) figures (list_read lines s) (list_read blocks s) (list_read rules s) (list_read graphics s)
      (list_read glyphs s) (list_read columns s)

  pub sheet-room : (out : ℕ) → length (sheet_read s) ≤ out → sheet_length (part 10 15 s) ≤ out
  sheet-room out h = let n = sheet-long in omega arith

  pub sheet-small : sheet_length (part 10 15 s) < 4294967296
  sheet-small =
      let few = A.few in
      let l : get_or s 16 0 ≤ 196605 = few lines in
      let b : get_or s 17 0 ≤ 196605 = few blocks in
      let r : get_or s 13 0 ≤ 196605 = few rules in
      let g : get_or s 14 0 ≤ 196605 = few graphics in
      let y : get_or s 15 0 ≤ 196605 = few glyphs in
      let c : get_or s 18 0 ≤ 196605 = few columns in
      let w₃ = figure-word s 3 (omega arith) in
      let w₄ = figure-word s 4 (omega arith) in
      let w₅ = figure-word s 5 (omega arith) in
      let w₆ = figure-word s 6 (omega arith) in
      let w₇ = figure-word s 7 (omega arith) in
      let w₈ = figure-word s 8 (omega arith) in
      omega arith

  -- the words from word `at` on, where the lists begin, and the places of the lists in them
  module _ (at w P : ℕ) (q : ResultPlaces) (ea : at ≡ lists_at (get_or s 1 0) (get_or s 4 0)) (ew : w ≡ get_or s 3 0) (e_p : P ≡ get_or s 5 0) (eq : q ≡ result_places w P) where
    -- .. as a slice has them
    abbrev behind : List ℕ
    behind = take (length s - at) (drop at s)

    list-there : (k : Which) → place_in k q + list_size k s * record_words k ≤ length behind
    list-there k =
        let r = A.room k in
        let e = list-start s k at w P q ea ew e_p eq in
        let l = ap length (tail-part at s) ∙ length-drop at s in
        omega arith

    list_same : (k : Which) (n : ℕ) → n ≡ list_size k s → part (place_in k q) (n * record_words k) behind ≡ list_read k s
    unfolding part
    list_same k n e =
        ap (λ (z : List ℕ). take (n * record_words k) (drop (place_in k q) z)) (tail-part at s)
        ∙ (ap (take (n * record_words k)) (drop-drop (place_in k q) at s)
        ∙ (λ i. take (e i * record_words k) (drop (list-start s k at w P q ea ew e_p eq i) s)))

    pub lists-begin : at ≤ length s
    lists-begin = let r = A.room columns in let e = list-start s columns at w P q ea ew e_p eq in omega arith

    -- the figures count them
    counted : (j : ℕ) → j < 15 → get_or figures j 0 ≡ get_or s (10 + j) 0
    counted j h = figure-word s j h

    pub lists-in : ListsIn (part 10 15 s) q (length (take (length s - at) (drop at s)))
    lists-in =
        record {
          all_figures = (let n = length_part 10 15 s (let w = A.words in omega arith) in omega arith);
          all_lines = (let n = list-there lines in let w = counted 6 (omega arith) in omega arith);
          all_blocks = (let n = list-there blocks in let w = counted 7 (omega arith) in omega arith);
          all_rules = (let n = list-there rules in let w = counted 3 (omega arith) in omega arith);
          all_graphics = (let n = list-there graphics in let w = counted 4 (omega arith) in omega arith);
          all_glyphs = (let n = list-there glyphs in let w = counted 5 (omega arith) in omega arith);
          all_columns = (let n = list-there columns in let w = counted 8 (omega arith) in omega arith);
        }

    pub sheet-written : (out out' : List ℕ) → out' ≡ over (sheet_in (record { w = get_or s 3 0; h = get_or s 4 0; page_w = get_or s 1 0; page_h = get_or s 2 0 }) (part 10 15 s) (take (length s - at) (drop at s)) q) out → out' ≡ over (sheet_read s) out
    sheet-written out out' e =
        let l = list_same lines (get_or figures 6 0) (counted 6 (omega arith)) in
        let b = list_same blocks (get_or figures 7 0) (counted 7 (omega arith)) in
        let r = list_same rules (get_or figures 3 0) (counted 3 (omega arith)) in
        let g = list_same graphics (get_or figures 4 0) (counted 4 (omega arith)) in
        let y = list_same glyphs (get_or figures 5 0) (counted 5 (omega arith)) in
        let c = list_same columns (get_or figures 8 0) (counted 8 (omega arith)) in
        e ∙ (λ i. over (sheet_text edition (get_or s 3 0) (get_or s 4 0) (get_or s 1 0) (get_or s 2 0) (part 10 15 s) (l i) (b i) (r i) (g i) (y i) (c i)) out)

-- ---- by what the store says

module _ (s ink kinds : List ℕ) (R : ReadableResults s ink kinds) where
  sheet-read : sheet_read s ≡ sheet_held (view_of s kinds)
  unfolding view_of view_with held frame
  sheet-read =
      let a = sides-are s ink kinds R in
      let list = list_read_lem s ink kinds R in
      λ i. sheet_text edition (a.1 i) (a.2 i) (a.0 i) (a.5 i) (part 10 15 s) (list lines i) (list blocks i) (list rules i) (list graphics i) (list glyphs i) (list columns i)

  module _ (out : List ℕ) (n : ℕ) (en : n ≡ result_refusal (length s) (length ink) (length kinds) (held s) false (results_spoiled s ink kinds) false false) (gn : n ≡ 0) (size : ℕ) (es : size ≡ length (sheet_read s)) where
    long : size ≡ length (sheet_held (view_of s kinds))
    long = es ∙ ap length sheet-read

    pub sheet-short : length out < size → told 9 0 (words out) ≡ result_told (ResultReading.listing out) s ink kinds
    unfolding refuse_if
    sheet-short h =
        told-late (ResultReading.listing out) s ink kinds n en gn 9
        (sym (rw (lt-ltb (length out) (length (sheet_held (view_of s kinds))) (let l = long in omega arith)))) (λ z. omega arith)

    pub sheet-done : size ≤ length out → (out' : List ℕ) → out' ≡ over (sheet_read s) out → told 0 size (words out') ≡ result_told (ResultReading.listing out) s ink kinds
    unfolding refuse_if
    sheet-done h out' e =
        (λ i. told 0 (long i) (words ((e ∙ ap (λ (z : List ℕ). over z out) sheet-read) i)))
        ∙ told-done (ResultReading.listing out) s ink kinds n en gn (rw (le-ltb (length out) (length (sheet_held (view_of s kinds))) (let l = long in omega arith)))
