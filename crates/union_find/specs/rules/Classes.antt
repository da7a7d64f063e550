-- Numbers that a relation joins, directly or by others between: components of dots (01, part 2), blocks of lines (01, part 8).
use Rattle.std.specs.Prelude.{ℕ, zero, suc, min, max, Bool, true, false, cond, List, map, get_or, eqb}
use Rattle.memory.specs.rules.Lists.{upto}

-- the first of j's class, as the list l of firsts has it; past its end j itself
abbrev pub first_of : List ℕ → ℕ → ℕ
first_of l j = get_or l j j

-- hi is renamed to lo
unfoldable pub renamed : ℕ → ℕ → ℕ → ℕ
renamed hi lo x = cond (eqb x hi) lo x

-- the classes of a and b become one, named by the smaller of the two names
unfoldable pub join : ℕ → ℕ → List ℕ → List ℕ
join a b l = map (renamed (max (first_of l a) (first_of l b)) (min (first_of l a) (first_of l b))) l

-- only where the test passed
unfoldable pub join_if : Bool → ℕ → ℕ → List ℕ → List ℕ
join_if true a b l = join a b l
join_if false a b l = l

-- a is joined with each of the first b numbers that r joins it with
unfoldable pub join_one : (ℕ → ℕ → Bool) → ℕ → ℕ → List ℕ → List ℕ
join_one r a zero l = l
join_one r a (suc b) l = join_if (r b a) a b (join_one r a b l)

-- each of the first n numbers is joined with those before it
unfoldable pub join_all : (ℕ → ℕ → Bool) → ℕ → List ℕ → List ℕ
join_all r zero l = l
join_all r (suc a) l = join_one r a a (join_all r a l)

-- for each of the first n numbers the first of its class; `r b a` is asked for b below a
unfoldable pub firsts : (ℕ → ℕ → Bool) → ℕ → List ℕ
firsts r n = join_all r n (upto n)
