-- The entries of a sheet: how many words and bytes they have, and how they are written.
use mathlib.Core.Path.{◌≡◌, refl, sym, ap, ◌∙◌, subst}
use mathlib.Core.Bool.{Bool, true, ◌&&◌}
use mathlib.Core.List.{List, [], ◌∷◌, ◌++◌}
use Prim.Native.Nat.{ℕ, zero, suc, ◌+◌, ◌-◌, ◌*◌, ◌≤◌, ◌<◌, zero-le}
use native.Mathlib.Nat.{mul-le-mul_right, suc-mul}
use native.Mathlib.Numerals.{add-one}
use native.Mathlib.Omega.{arith}
use borrow.Author.Tests.{leb-true}
use lib.Dec.{lit≤, leb}
use lib.ListN.{length, get_or, take, drop, set, length-append}
use Rattle.memory.specs.rules.Words.{word_at}
use Rattle.memory.proofs.BoolLaws.{and_left, and_right}
use Rattle.judging.specs.rules.Header.{part}
use Rattle.judging.proofs.PartLaws.{length_part}
use Rattle.listing.specs.rules.Digits.{hex, joined, line_feed}
use Rattle.listing.specs.stages.Puts.{Put}
use Rattle.listing.specs.rules.Sheets.{word_format, field_count, field_digits, fields_text, word_from, entry_text, entry_from, entry_at, entries_text}
use Rattle.listing.specs.stages.Parts.{fields_from, entries_at, all_digits, entry_length}
use Rattle.listing.proofs.DigitLaws.{length-hex}
use Rattle.listing.proofs.TextLaws.{put-more, put_byte, put-length, length-joined, joined-more, joined-room}

pub fields-few : (kind : ℕ) → field_count kind ≤ 8
fields-few zero = lit≤ tt
fields-few (suc zero) = lit≤ tt
fields-few (suc (suc zero)) = lit≤ tt
fields-few (suc (suc (suc zero))) = lit≤ tt
fields-few (suc (suc (suc (suc zero)))) = lit≤ tt
fields-few (suc (suc (suc (suc (suc zero))))) = lit≤ tt
fields-few (suc (suc (suc (suc (suc (suc zero)))))) = lit≤ tt
fields-few (suc (suc (suc (suc (suc (suc (suc zero))))))) = lit≤ tt
fields-few (suc (suc (suc (suc (suc (suc (suc (suc n)))))))) = zero-le

-- no word has more than eight digits
eight : List ℕ → Bool
eight [] = true
eight (n ∷ l) = leb n 8 && eight l

eight-at : (l : List ℕ) → eight l ≡ true → (j : ℕ) → get_or l j 0 ≤ 8
unfolding eight
eight-at [] e j = lit≤ tt
eight-at (n ∷ l) e zero = leb-true n 8 (and_left (leb n 8) (eight l) e)
eight-at (n ∷ l) e (suc j) = eight-at l (and_right (leb n 8) (eight l) e) j

pub digits-few : (kind j : ℕ) → field_digits kind j ≤ 8
unfolding eight
digits-few kind j = eight-at (word_format kind) (all kind) j
  where
    all : (kind : ℕ) → eight (word_format kind) ≡ true
    all zero = refl
    all (suc zero) = refl
    all (suc (suc zero)) = refl
    all (suc (suc (suc zero))) = refl
    all (suc (suc (suc (suc zero)))) = refl
    all (suc (suc (suc (suc (suc zero))))) = refl
    all (suc (suc (suc (suc (suc (suc zero)))))) = refl
    all (suc (suc (suc (suc (suc (suc (suc zero))))))) = refl
    all (suc (suc (suc (suc (suc (suc (suc (suc n)))))))) = refl

-- the digits of the first words
pub digits_to : ℕ → ℕ → ℕ
digits_to kind zero = 0
digits_to kind (suc j) = digits_to kind j + field_digits kind j

pub digits-none : (kind : ℕ) → digits_to kind 0 ≡ 0
unfolding digits_to
digits-none kind = refl

pub digits_more : (kind j : ℕ) → digits_to kind (j + 1) ≡ digits_to kind j + field_digits kind j
unfolding digits_to
digits_more kind j = rw (add-one j)

-- and of all of them
pub digits-all : (kind : ℕ) → digits_to kind (field_count kind) ≡ all_digits (word_format kind)
unfolding digits_to
digits-all zero = refl
digits-all (suc zero) = refl
digits-all (suc (suc zero)) = refl
digits-all (suc (suc (suc zero))) = refl
digits-all (suc (suc (suc (suc zero)))) = refl
digits-all (suc (suc (suc (suc (suc zero))))) = refl
digits-all (suc (suc (suc (suc (suc (suc zero)))))) = refl
digits-all (suc (suc (suc (suc (suc (suc (suc zero))))))) = refl
digits-all (suc (suc (suc (suc (suc (suc (suc (suc n)))))))) = refl

-- one more word is written
pub fields-more : (s out out' words : List ℕ) (at kind from j p q digits : ℕ) → j < field_count kind → at + length (fields_from kind words from) ≤ length s → digits ≡ field_digits kind j
    → Put s at (fields_text kind (word_from words from) j) p out → Put out p (hex digits (word_at words (from + j))) q out' → Put s at (fields_text kind (word_from words from) (j + 1)) q out'
fields-more s out out' words at kind from j p q digits l room e x y =
    joined-more (λ j. hex (field_digits kind j) (word_from words from j)) s out out' at (field_count kind) j p q l room x (subst (λ n. Put out p (hex n (word_at words (from + j))) q out') e y)

pub fields-room : (s out words : List ℕ) (at kind from j p digits : ℕ) → j < field_count kind → at + length (fields_from kind words from) ≤ length s → digits ≡ field_digits kind j
    → Put s at (fields_text kind (word_from words from) j) p out → p + digits ≤ length out
fields-room s out words at kind from j p digits l room e x =
    let r = joined-room (λ j. hex (field_digits kind j) (word_from words from j)) s out at (field_count kind) j p l room x in
    let h = length-hex (field_digits kind j) (word_at words (from + j)) in
    omega arith

-- an entry: its kind, then a text, then a line feed
pub line-put : (s one two h t : List ℕ) (at p q : ℕ) → at + length (h ++ t ++ (line_feed ∷ [])) ≤ length s → Put s at h p one → Put one p t q two
    → Put s at (h ++ t ++ (line_feed ∷ [])) (q + 1) (set two q line_feed)
line-put s one two h t at p q room x y =
    let l = length-append h t in
    let m : length (h ++ t ++ (line_feed ∷ [])) ≡ length (h ++ t) + 1 = length-append (h ++ t) (line_feed ∷ []) in
    let z : Put s at (h ++ t) q two = put-more s one two h t at p q (omega arith) x y in
    let k : length two ≡ length s = put-length s two (h ++ t) at q (omega arith) z in
    let e = z.place in
    put-more s two (set two q line_feed) (h ++ t) (line_feed ∷ []) at q (q + 1) (omega arith) z (put_byte two q line_feed (omega arith))

-- where its text and its line feed stand
pub text-room : (s one h t : List ℕ) (at p : ℕ) → at + length (h ++ t ++ (line_feed ∷ [])) ≤ length s → Put s at h p one → p + length t < length one
text-room s one h t at p room x =
    let l = length-append h t in
    let m : length (h ++ t ++ (line_feed ∷ [])) ≡ length (h ++ t) + 1 = length-append (h ++ t) (line_feed ∷ []) in
    let e = x.place in
    let k : length one ≡ length s = put-length s one h at p (omega arith) x in
    omega arith

-- the words of entry i are there
pub words-there : (n i k l count : ℕ) → count ≡ k → n * k ≤ l → i < n → i * count + k ≤ l
words-there n i k l count e h j = rw e (let a : suc i * k ≤ n * k = mul-le-mul_right k j in let b : suc i * k ≡ i * k + k = suc-mul i k in omega arith)

-- the words of n entries from word `at` on: the slice that has them, and how many they are
pub found_part : (s : List ℕ) (at kind n k : ℕ) → k ≡ field_count kind → take (at + n * k - at) (drop at s) ≡ entries_at s at kind n
unfolding part
found_part s at kind n k f = let q : at + n * k - at ≡ n * k = omega arith in ap (λ z. take z (drop at s)) (q ∙ ap (λ z. n * z) f)

pub found-long : (s : List ℕ) (at kind n : ℕ) {a : List ℕ} {m : ℕ} → (a ≡ entries_at s at kind n) × (m ≡ n) → at + n * field_count kind ≤ length s → m * field_count kind ≤ length a
found-long s at kind n {a} {m} e h =
    let l = ap length e.0 ∙ length_part at (n * field_count kind) s h in let g = ap (λ z. z * field_count kind) e.1 in omega arith

-- one more entry is written
pub entries-more : (s out out' words : List ℕ) (at kind n i p q : ℕ) → i < n → at + length (entries_text kind words n) ≤ length s
    → (count : ℕ) → count ≡ field_count kind
    → Put s at (entries_text kind words i) p out → Put out p (entry_from kind words (i * count)) q out' → Put s at (entries_text kind words (i + 1)) q out'
unfolding entries_text
entries-more s out out' words at kind n i p q l room count e x y =
    joined-more (entry_at kind words) s out out' at n i p q l room x (subst (λ c. Put out p (entry_from kind words (i * c)) q out') e y)

pub entries-room : (s out words : List ℕ) (at kind n i p : ℕ) → i < n → at + length (entries_text kind words n) ≤ length s
    → (count : ℕ) → count ≡ field_count kind → Put s at (entries_text kind words i) p out → p + length (entry_from kind words (i * count)) ≤ length out
unfolding entries_text
entries-room s out words at kind n i p l room count e x =
    subst (λ c. p + length (entry_from kind words (i * c)) ≤ length out) (sym e) (joined-room (entry_at kind words) s out at n i p l room x)

-- ---- an entry, as its writer takes it: the kind, the words, the line feed
pub kind-room : (s words : List ℕ) (at kind from : ℕ) → at + length (entry_from kind words from) ≤ length s → at + 2 ≤ length s
unfolding entry_text
kind-room s words at kind from room =
    let h = hex 2 kind in
    let t = fields_from kind words from in
    let k = length-hex 2 kind in
    let l = length-append h t in
    let m : length (h ++ t ++ (line_feed ∷ [])) ≡ length (h ++ t) + 1 = length-append (h ++ t) (line_feed ∷ []) in
    omega arith

pub entry-room : (s one words : List ℕ) (at kind from p : ℕ) → at + length (entry_from kind words from) ≤ length s → Put s at (hex 2 kind) p one
    → p + length (fields_from kind words from) < length one
unfolding entry_text
entry-room s one words at kind from p room x = text-room s one (hex 2 kind) (fields_from kind words from) at p room x

pub entry-put : (s one two words : List ℕ) (at kind from p q : ℕ) → at + length (entry_from kind words from) ≤ length s → Put s at (hex 2 kind) p one
    → Put one p (fields_from kind words from) q two → Put s at (entry_from kind words from) (q + 1) (set two q line_feed)
unfolding entry_text
entry-put s one two words at kind from p q room x y = line-put s one two (hex 2 kind) (fields_from kind words from) at p q room x y

-- ---- how long entries are
pub length-entry : (kind : ℕ) (word : ℕ → ℕ) → length (entry_text kind word) ≡ entry_length kind
unfolding entry_text joined hex
length-entry zero word = refl
length-entry (suc zero) word = refl
length-entry (suc (suc zero)) word = refl
length-entry (suc (suc (suc zero))) word = refl
length-entry (suc (suc (suc (suc zero)))) word = refl
length-entry (suc (suc (suc (suc (suc zero))))) word = refl
length-entry (suc (suc (suc (suc (suc (suc zero)))))) word = refl
length-entry (suc (suc (suc (suc (suc (suc (suc zero))))))) word = refl
length-entry (suc (suc (suc (suc (suc (suc (suc (suc n)))))))) word = refl

pub length-entries : (kind : ℕ) (words : List ℕ) (n : ℕ) → length (entries_text kind words n) ≡ n * entry_length kind
unfolding entries_text
length-entries kind words n = length-joined (entry_at kind words) (entry_length kind) n (λ i. length-entry kind (word_from words (i * field_count kind)))
