use mathlib.Core.Path.{◌≡◌, refl, sym, ap, ◌∙◌, subst}
use mathlib.Core.List.{List}
use Prim.Native.Nat.{ℕ, ◌+◌}
use native.Mathlib.Omega.{arith}
use Rattle.segmenting.specs.declared.places.ResultPlaces.{ResultPlaces}
use Rattle.store.specs.declared.lists.ListName as lists
use Rattle.store.specs.declared.lists.ListName.TheVariants as named
use Rattle.store.specs.stages.Areas.{which_of, place_in, record_words, list_size}
use Rattle.store.proofs.TellLaws.{list-start}
use Rattle.store.proofs.lists.list_at.Goals as goal
use Rattle.store.proofs.lists.list_at.Goals.{in-Columns, in-Rules, in-Graphics, in-Glyphs, in-Lines, in-Blocks}

-- the place, the width and the count of the list that is named
abbrev Found : ℕ × ℕ × ℕ → lists.ListName → ResultPlaces → List ℕ → Type 0
Found p n q s = (p.0 ≡ place_in (which_of n) q) × (p.1 ≡ record_words (which_of n)) × (p.2 ≡ list_size (which_of n) s)

found : (p : ℕ × ℕ × ℕ) (n m : lists.ListName) (q : ResultPlaces) (s : List ℕ) → n ≡ m → Found p m q s → Found p n q s
found p n m q s e f = subst (λ z. Found p z q s) (sym e) f

same : (p m : ℕ × ℕ × ℕ) → p ≡ m → (p.0 ≡ m.0) × (p.1 ≡ m.1) × (p.2 ≡ m.2)
same p m e = ((λ i. (e i).0), (λ i. (e i).1), (λ i. (e i).2))

arms : (c : goal.Joined-which) → Found c.match-which.place c.args.which c.result_places-places.result c.args.store.now
arms c =
    let p = c.match-which.place in
    let n = c.args.which in
    let q = c.result_places-places.result in
    let s = c.args.store.now in
    elim c.match-which.branch [
      | in-Columns w ↦ found p n named.Columns q s w.in-Columns.is (same p _ w.place-is)
      | in-Rules w ↦ found p n named.Rules q s w.in-Rules.is (same p _ w.place-is)
      | in-Graphics w ↦ found p n named.Graphics q s w.in-Graphics.is (same p _ w.place-is)
      | in-Glyphs w ↦ found p n named.Glyphs q s w.in-Glyphs.is (same p _ w.place-is)
      | in-Lines w ↦ found p n named.Lines q s w.in-Lines.is (same p _ w.place-is)
      | in-Blocks w ↦ found p n named.Blocks q s w.in-Blocks.is (same p _ w.place-is)
    ]

pub overflow_add-at : goal.overflow_add-at
overflow_add-at c =
    let a = arms c in
    let k = which_of c.args.which in
    let q = list-start c.args.store.now k _ _ _ _ c.lists_at-start.ensures refl refl c.result_places-places.ensures in
    omega (arith, a.0, q, c.requires.room k)

pub returns : goal.returns
returns c =
    let a = arms c in
    let k = which_of c.args.which in
    let q = list-start c.args.store.now k _ _ _ _ c.lists_at-start.ensures refl refl c.result_places-places.ensures in
    (ap (λ z. c.lists_at-start.result + z) a.0 ∙ q, a.1, a.2)
