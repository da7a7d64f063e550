-- What labelling called by itself answers, and what it leaves in the memory lent to it (01, part 2, Limits, "Turned back").
use Rattle.std.specs.Prelude.{cond, not, List, ℕ, ◌*◌, length, drop, eqb, ltb, Result}
use Rattle.memory.specs.rules.Words.{over}
use Rattle.memory.specs.rules.Records.{encoded}
use Rattle.memory.specs.rules.Refusals.{refuse_if, answer_number, answer_value}
use Rattle.memory.specs.declared.refusals.Refusal.{Refusal}
use Rattle.memory.specs.rules.Limits.{max_capacity, component_words, scratch_words}
use Rattle.memory.specs.rules.Masks.{sides_refusal}
use Rattle.labelling.specs.rules.Labels.{Labelling, labelling}
use Rattle.labelling.specs.rules.RecordWords.{record_words}

-- how many components a call tells, of so many: none where it is refused
unfoldable pub count_told : ℕ → ℕ → ℕ
count_told n k = cond (eqb n 0) k 0

-- 2: mask length; 7: capacity; 9: lent memory too short, labels, records or scratch
unfoldable pub lent_refusal : ℕ → ℕ → ℕ → ℕ → ℕ → ℕ → ℕ → ℕ
lent_refusal dots mask P labels components scratch rest =
    refuse_if (not (eqb mask dots)) 2
    (refuse_if (eqb P 0) 7
    (refuse_if (ltb max_capacity P) 7
    (refuse_if (ltb labels dots) 9
    (refuse_if (ltb components (component_words * P)) 9
    (refuse_if (ltb scratch (scratch_words dots P)) 9 rest)))))

-- 20: more than P components
abbrev pub many_refusal : ℕ → ℕ → ℕ
many_refusal count P = refuse_if (ltb P count) 20 0

-- the number that the call is refused with, the lowest that applies; 0 where none does
abbrev pub refusal : ℕ → ℕ → List ℕ → ℕ → ℕ → ℕ → ℕ → ℕ
refusal w h m P labels components scratch =
    sides_refusal w h (lent_refusal (w * h) (length m) P labels components scratch (many_refusal (length (labelling w h m).components) P))

-- 01's number of an answer, 0 where the call is accepted, and the count that it tells; the labels and the records' words, the length of scratch, and what lies in it past the words it needs
pub record LabelOutcome : Type 0 where
  pub number : ℕ
  pub count : ℕ
  pub labels : List ℕ
  pub components : List ℕ
  pub scratch : ℕ
  pub beyond : List ℕ

-- what a call with the answer r leaves
abbrev pub label_outcome : Result ℕ Refusal → List ℕ → List ℕ → ℕ → List ℕ → LabelOutcome
label_outcome r labels components scratch beyond =
    record { number = answer_number r; count = answer_value r; labels = labels; components = components; scratch = scratch; beyond = beyond }

-- the labels, and past them what was there; all as it was where the call is refused
unfoldable pub labels_left : ℕ → Labelling → List ℕ → List ℕ
labels_left n L labels = cond (eqb n 0) (over L.labels labels) labels

-- the same of the records' words
unfoldable pub components_left : ℕ → Labelling → List ℕ → List ℕ
components_left n L components = cond (eqb n 0) (over (encoded record_words L.components) components) components

-- what `label` leaves: the labelling, unless the call is refused
abbrev pub label_mask : ℕ → ℕ → List ℕ → ℕ → List ℕ → List ℕ → List ℕ → LabelOutcome
label_mask w h m P labels components scratch =
    let n = refusal w h m P (length labels) (length components) (length scratch) in
    let L = labelling w h m in
    record {
      number = n;
      count = count_told n (length L.components);
      labels = labels_left n L labels;
      components = components_left n L components;
      scratch = length scratch;
      beyond = drop (scratch_words (w * h) P) scratch;
    }
