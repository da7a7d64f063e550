-- Lists: tables, those that pass a test, counts, sorting. What lent memory holds is a list, and each plane of dots is a table.
use Rattle.std.specs.Prelude.{ℕ, zero, suc, ◌+◌, max, Bool, cond, List, [], ◌∷◌, ◌++◌, eqb}

-- f at 0, 1, .., n - 1
unfoldable pub table : {A : Type 0} → (ℕ → A) → ℕ → List A
table f zero = []
table f (suc n) = table f n ++ (f n ∷ [])

-- 0, 1, .., n - 1
unfoldable pub upto : ℕ → List ℕ
upto n = table (λ i. i) n

-- those that pass the test p, in their order
unfoldable pub keep : {A : Type 0} → (A → Bool) → List A → List A
keep p [] = []
keep p (a ∷ l) = let r = keep p l in cond (p a) (a ∷ r) r

-- how many numbers below n pass the test p
unfoldable pub count_if : (ℕ → Bool) → ℕ → ℕ
count_if p zero = 0
count_if p (suc n) = count_if p n + cond (p n) 1 0

-- how many entries are k
unfoldable pub occurs : ℕ → List ℕ → ℕ
occurs k [] = 0
occurs k (a ∷ l) = cond (eqb a k) 1 0 + occurs k l

-- the sum of the entries
unfoldable pub total : List ℕ → ℕ
total [] = 0
total (a ∷ l) = a + total l

-- the greatest entry, and 0 where there is none
unfoldable pub greatest : List ℕ → ℕ
greatest [] = 0
greatest (a ∷ l) = max a (greatest l)

-- the index, counted from i on, of the first entry that is k; d where there is none
unfoldable pub index_from : ℕ → ℕ → ℕ → List ℕ → ℕ
index_from d i k [] = d
index_from d i k (a ∷ l) = let r = index_from d (suc i) k l in cond (eqb a k) i r

-- a put before the first entry that it may precede
unfoldable pub insert_by : {A : Type 0} → (A → A → Bool) → A → List A → List A
insert_by precedes a [] = a ∷ []
insert_by precedes a (b ∷ l) = let r = b ∷ insert_by precedes a l in cond (precedes a b) (a ∷ b ∷ l) r

-- the list sorted so that each entry may precede the next
unfoldable pub sort_by : {A : Type 0} → (A → A → Bool) → List A → List A
sort_by precedes [] = []
sort_by precedes (a ∷ l) = insert_by precedes a (sort_by precedes l)
