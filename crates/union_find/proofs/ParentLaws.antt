-- Parents: a store keeps the forest, or joins two classes of it.
use mathlib.Core.Path.{◌≡◌, refl, sym, ap, ◌∙◌}
use mathlib.Core.List.{List}
use Prim.Native.Nat.{ℕ, suc, ◌≤◌, ◌<◌, min, max}
use native.Mathlib.Nat.{le_refl}
use native.Mathlib.Decide.{ℕ_discrete}
use native.Mathlib.Omega.{arith}
use lib.ListN.{get_or, length, set, length-set}
use lib.Seq.{get_or-set_same, get_or-set_other}
use Rattle.union_find.specs.rules.Classes.{renamed}
use Rattle.union_find.specs.stages.Forests.{join_f, Forest, Found, United, Joined}
use Rattle.union_find.proofs.FirstLaws.{renamed-case, join_f-b, min-case, max-case}

-- what stands at j after a store at i
pub at_set : (P : ℕ → ℕ → Type 0) (p : List ℕ) (i v : ℕ) → i < length p → P i v → ((j : ℕ) → (j ≡ i → ⊥) → P j (get_or p j 0)) → (j : ℕ) → P j (get_or (set p i v) j 0)
at_set P p i v l here other j = go (ℕ_discrete j i)
  where
    go : Dec (j ≡ i) → P j (get_or (set p i v) j 0)
    go (yes e) = rw (e, get_or-set_same p i v 0 l) here
    go (no n) = rw (get_or-set_other p i j v 0 n) (other j n)

renamed-miss : (hi lo x : ℕ) → (x ≡ hi → ⊥) → renamed hi lo x ≡ x
renamed-miss hi lo x n = renamed-case (λ z. z ≡ x) hi lo x (λ e. absurd (n e)) (λ _. refl)

renamed-hit : (hi lo x : ℕ) → x ≡ hi → renamed hi lo x ≡ lo
renamed-hit hi lo x e = renamed-case (λ z. z ≡ lo) hi lo x (λ _. refl) (λ n. absurd (n e))

-- j, alone so far, becomes its own parent
pub forest-new : (f : ℕ → ℕ) (p : List ℕ) (j : ℕ) → Forest f p j → f j ≡ j → j < length p → Forest f (set p j j) (suc j)
forest-new f p j F own l =
    record {
      down = at_set (λ k v. k < suc j → v ≤ k) p j j l (λ _. le_refl j) (λ k ne lk. F.down k (omega arith));
      same = at_set (λ k v. k < suc j → f v ≡ f k) p j j l (λ _. refl) (λ k ne lk. F.same k (omega arith));
      root = at_set (λ k v. k < suc j → v ≡ k → f k ≡ k) p j j l (λ _ _. own) (λ k ne lk. F.root k (omega arith));
    }

-- j, whose class a run r before it has, gets r for its parent
pub forest-under : (f : ℕ → ℕ) (p : List ℕ) (j r : ℕ) → Forest f p j → f r ≡ f j → r < j → j < length p → Forest f (set p j r) (suc j)
forest-under f p j r F e lr l =
    record {
      down = at_set (λ k v. k < suc j → v ≤ k) p j r l (λ _. omega arith) (λ k ne lk. F.down k (omega arith));
      same = at_set (λ k v. k < suc j → f v ≡ f k) p j r l (λ _. e) (λ k ne lk. F.same k (omega arith));
      root = at_set (λ k v. k < suc j → v ≡ k → f k ≡ k) p j r l (λ _ q. absurd (omega arith)) (λ k ne lk. F.root k (omega arith));
    }

-- another naming that agrees below n
-- other words with the same parents
pub forest-same : (f : ℕ → ℕ) (p p' : List ℕ) (n : ℕ) → ((j : ℕ) → j < n → get_or p' j 0 ≡ get_or p j 0) → Forest f p n → Forest f p' n
forest-same f p p' n e F =
    record {
      down = λ j l. let h = e j l in let d = F.down j l in omega arith;
      same = λ j l. ap f (e j l) ∙ F.same j l;
      root = λ j l h. F.root j l (sym (e j l) ∙ h);
    }

forest-ext : (f g : ℕ → ℕ) (p : List ℕ) (n : ℕ) → ((i : ℕ) → i < n → g i ≡ f i) → Forest f p n → Forest g p n
forest-ext f g p n e F =
    record {
      down = F.down;
      same = λ j l. e (get_or p j 0) (let h = F.down j l in omega arith) ∙ (F.same j l ∙ sym (e j l));
      root = λ j l q. e j l ∙ F.root j l q;
    }

-- j, alone so far, joins the class of k before it: nothing changes below j
pub forest-fresh : (f : ℕ → ℕ) (p : List ℕ) (k j : ℕ) → ((i : ℕ) → f i ≤ i) → f j ≡ j → k < j → Forest f p j → Forest (join_f f k j) p j
forest-fresh f p k j low own l F =
    forest-ext f (join_f f k j) p j
    (λ i li. renamed-miss (max (f k) (f j)) (min (f k) (f j)) (f i) (λ z. absurd (let a = low k in let b = low i in omega arith))) F

-- the name of two classes joined is its own
join_f-least : (f : ℕ → ℕ) → ((k : ℕ) → f (f k) ≡ f k) → (a b lo : ℕ) → lo ≡ min (f a) (f b) → join_f f a b lo ≡ min (f a) (f b)
join_f-least f idem a b lo el =
    ap (renamed (max (f a) (f b)) (min (f a) (f b))) (ap f el ∙ min-case (λ z. f z ≡ z) (f a) (f b) (idem a) (idem b))
    ∙ renamed-case (λ z. z ≡ min (f a) (f b)) (max (f a) (f b)) (min (f a) (f b)) (min (f a) (f b)) (λ _. refl) (λ _. refl)

-- the larger of two roots gets the smaller for its parent
pub forest-join : (f : ℕ → ℕ) → ((k : ℕ) → f (f k) ≡ f k) → (p : List ℕ) (n a b hi lo : ℕ) → Forest f p n → hi ≡ max (f a) (f b) → lo ≡ min (f a) (f b) → hi < n → n ≤ length p
    → Forest (join_f f a b) (set p hi lo) n
forest-join f idem p n a b hi lo F eh el l len =
    record {
      down = at_set (λ k v. k < n → v ≤ k) p hi lo (omega arith) (λ _. omega arith) (λ k _ lk. F.down k lk);
      same =
          at_set (λ k v. k < n → join_f f a b v ≡ join_f f a b k) p hi lo (omega arith)
          (λ _. at-lo ∙ (sym el ∙ sym at-hi))
          (λ k _ lk. ap (renamed (max (f a) (f b)) (min (f a) (f b))) (F.same k lk));
      root =
          at_set (λ k v. k < n → v ≡ k → join_f f a b k ≡ k) p hi lo (omega arith)
          (λ _ e. at-hi ∙ e)
          (λ k ne lk e. let q = F.root k lk e in renamed-miss (max (f a) (f b)) (min (f a) (f b)) (f k) (λ z. ne (sym q ∙ (z ∙ sym eh))) ∙ q);
    }
  where
    at-hi : join_f f a b hi ≡ lo
    at-hi = renamed-hit (max (f a) (f b)) (min (f a) (f b)) (f hi) (ap f eh ∙ max-case (λ z. f z ≡ z) (f a) (f b) (idem a) (idem b)) ∙ sym el

    at-lo : join_f f a b lo ≡ min (f a) (f b)
    at-lo = join_f-least f idem a b lo el

module _ {p p₁ : List ℕ} {root k other : ℕ} (G : Found p p₁ k other) where
  pub united-lower : other < root → United p (set p₁ root other) root k other
  united-lower l =
      record {
        len = simp length-set G.len;
        joined = λ f n j lk lr len low idem e F.
            let q : other ≡ f k = G.root f n lk len F in
            let g = G.len in
            (forest-join f idem p₁ n k j root other (G.keep f n lk len F) (omega arith) (omega arith) lr (omega arith), (let z : other ≡ min (f k) (f j) = omega arith in z) ∙ sym (join_f-b f k j));
      }

  pub united-upper : root ≤ other → United p (set p₁ other root) root k root
  united-upper l =
      record {
        len = simp length-set G.len;
        joined = λ f n j lk lr len low idem e F.
            let q : other ≡ f k = G.root f n lk len F in
            let g = G.len in
            let h = low k in
            (forest-join f idem p₁ n k j other root (G.keep f n lk len F) (omega arith) (omega arith) (omega arith) (omega arith), (let z : root ≡ min (f k) (f j) = omega arith in z) ∙ sym (join_f-b f k j));
      }

-- one parent, one class
pub joined_same : (p : List ℕ) (member k : ℕ) → get_or p k 0 ≡ member → Joined p p member k member
joined_same p member k e =
    record {
      len = refl;
      joined = λ f n j lk lm len low idem q F.
          let s : f k ≡ f j = sym (F.same k lk) ∙ (ap f e ∙ q) in
          let same : (i : ℕ) → join_f f k j i ≡ f i = λ i. renamed-case (λ z. z ≡ f i) (max (f k) (f j)) (min (f k) (f j)) (f i) (λ h. omega arith) (λ _. refl) in
          (forest-ext f (join_f f k j) p n (λ i _. same i) F, same member ∙ (q ∙ sym (same j)), lm);
    }

-- the root of the one, and the other's class
pub joined-roots : {p p₁ p' : List ℕ} {member root k r : ℕ} → Found p p₁ member root → United p₁ p' root k r → Joined p p' member k r
joined-roots {p} {p₁} {p'} {member} {root} {k} {r} G U =
    record {
      len = U.len ∙ G.len;
      joined = λ f n j lk lm len low idem q F.
          let e : root ≡ f member = G.root f n lm len F in
          let g = G.len in
          let h = G.low in
          let J = U.joined f n j lk (omega arith) (omega arith) low idem (sym (e ∙ q)) (G.keep f n lm len F) in
          let m : r ≡ min (f k) (f j) = J.1 ∙ join_f-b f k j in
          (J.0, join_f-least f idem k j r m ∙ sym (join_f-b f k j), (let a = low k in omega arith));
    }

-- own parent just where it names its class
pub forest-root : (f : ℕ → ℕ) (p : List ℕ) (n : ℕ) → ((k : ℕ) → f k ≤ k) → Forest f p n → (k : ℕ) → k < n → f k ≡ k → get_or p k 0 ≡ k
forest-root f p n low F k l e = let a = F.same k l in let b = low (get_or p k 0) in let c = F.down k l in omega arith
