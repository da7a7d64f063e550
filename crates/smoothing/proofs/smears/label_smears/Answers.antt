use native.Mathlib.Omega.{arith}
use borrow.Author.Rules.{rules}
use Rattle.smoothing.proofs.PageLaws.{smooth-asked, smooth-found, smears-fit-in, sizes-asked, smears-found}
use Rattle.smoothing.proofs.smears.label_smears.Goals as goal

pub smooth_runs-c-requires : goal.smooth_runs-c-requires
smooth_runs-c-requires c = (_, _, _, smooth-asked c.requires.2 c.requires.1)

pub overflow_mul-from : goal.overflow_mul-from
overflow_mul-from c = let S = c.requires.1 in let Q = c.requires.2 in let L = smooth-found Q S c.round_to_u32-gap.ensures (c.smooth_runs-c.ensures _ _ _ (smooth-asked Q S)) in let r = smears-fit-in Q S L in let r₁ = r.1 in let r₂ = r.2 in omega arith

pub overflow_sub-to : goal.overflow_sub-to
overflow_sub-to c = let S = c.requires.1 in let Q = c.requires.2 in let L = smooth-found Q S c.round_to_u32-gap.ensures (c.smooth_runs-c.ensures _ _ _ (smooth-asked Q S)) in (smears-fit-in Q S L).1

pub offset_bounds-words-from : goal.offset_bounds-words-from
offset_bounds-words-from c = let S = c.requires.1 in let Q = c.requires.2 in let L = smooth-found Q S c.round_to_u32-gap.ensures (c.smooth_runs-c.ensures _ _ _ (smooth-asked Q S)) in let r = smears-fit-in Q S L in let r₁ = r.1 in let r₂ = r.2 in omega arith

pub slice_bounds-label_sizes-count : goal.slice_bounds-label_sizes-count
slice_bounds-label_sizes-count c = let S = c.requires.1 in let Q = c.requires.2 in let L = smooth-found Q S c.round_to_u32-gap.ensures (c.smooth_runs-c.ensures _ _ _ (smooth-asked Q S)) in (smears-fit-in Q S L).0

pub slice_bounds-label_sizes-start : goal.slice_bounds-label_sizes-start
slice_bounds-label_sizes-start c = let S = c.requires.1 in let Q = c.requires.2 in let L = smooth-found Q S c.round_to_u32-gap.ensures (c.smooth_runs-c.ensures _ _ _ (smooth-asked Q S)) in let r = (smears-fit-in Q S L).0 in search rules

pub label_sizes-smears-requires : goal.label_sizes-smears-requires
label_sizes-smears-requires c = let S = c.requires.1 in let Q = c.requires.2 in let L = smooth-found Q S c.round_to_u32-gap.ensures (c.smooth_runs-c.ensures _ _ _ (smooth-asked Q S)) in (_, sizes-asked Q S L)

pub returns : goal.returns
returns c = λ m S. let Q = c.requires.2 in let L = smooth-found Q S c.round_to_u32-gap.ensures (c.smooth_runs-c.ensures _ _ _ (smooth-asked Q S)) in smears-found Q S L (c.label_sizes-smears.ensures _ (sizes-asked Q S L))
