-- A union-find over any relation, its pairs walked by the smaller number: what it knows half way, and how that goes on.
use mathlib.Core.Path.{◌≡◌, refl, sym, ap, ◌∙◌, subst}
use mathlib.Core.Bool.{Bool, true, false, true≢false}
use mathlib.Core.List.{List}
use Prim.Native.Nat.{ℕ, zero, suc, ◌+◌, ◌≤◌, ◌<◌, min, max}
use native.Mathlib.Nat.{le_refl, not-suc-le-zero}
use native.Mathlib.Decide.{ℕ_discrete, dec_lt}
use native.Mathlib.Omega.{arith}
use native.Mathlib.Numerals.{add-one}
use lib.ListN.{get_or, length}
use Rattle.memory.specs.rules.Lists.{table, upto}
use Rattle.memory.specs.rules.Words.{over}
use Rattle.memory.proofs.TableLaws.{length-table}
use Rattle.union_find.specs.rules.Classes.{renamed, first_of, firsts, join_if, join_one, join_all}
use Rattle.union_find.specs.rules.Chains.{Chain, here, rise}
use Rattle.union_find.specs.stages.Forests.{join_f, Named, Forest, Found, United}
use Rattle.union_find.proofs.FirstLaws.{chain-trans, chain-sym, renamed-case, join_f-a, join_f-b, min-case, max-case}
use Rattle.labelling.proofs.TransferLaws.{named-firsts}
use Rattle.grouping.specs.stages.Joining.{Pairs, Joined}
use Rattle.extents.proofs.OverLaws.{over-at}
use Rattle.grouping.proofs.TableWords.{over-length}

module _ (r : ℕ → ℕ → Bool) (n : ℕ) where
  pairs-none : (j : ℕ) → j ≤ 1 → Pairs r n (λ k. k) 0 j
  pairs-none j l =
      record { low = le_refl; idem = λ k. refl; sound = λ k. here; full = λ a b h. absurd (not-suc-le-zero h); seen = λ b h k. absurd (omega arith) }

  -- those from j on, up to j', are not joined with i by r
  pairs-skip : (f : ℕ → ℕ) (i j j' : ℕ) → Pairs r n f i j → ((b : ℕ) → j ≤ b → b < j' → b < n → r i b ≡ false) → Pairs r n f i j'
  pairs-skip f i j j' P h =
      record { low = P.low; idem = P.idem; sound = P.sound; full = P.full; seen = λ b l k m t. go b l k m t (dec_lt b j) }
    where
      go : (b : ℕ) → i < b → b < j' → b < n → r i b ≡ true → Dec (b < j) → f i ≡ f b
      go b l k m t (yes q) = P.seen b l q m t
      go b l k m t (no q) = absurd (true≢false (sym t ∙ h b (omega arith) k m))

  -- j is: their classes become one
  pairs-join : (f : ℕ → ℕ) (i j : ℕ) → i < j → j < n → r i j ≡ true → Pairs r n f i j → Pairs r n (join_f f j i) i (suc j)
  pairs-join f i j l ln t P =
      record {
        low = λ k. renamed-case (λ z. z ≤ k) (max (f j) (f i)) (min (f j) (f i)) (f k) (λ q. let h = P.low k in omega arith) (λ _. P.low k);
        idem = λ k.
            renamed-case (λ z. renamed (max (f j) (f i)) (min (f j) (f i)) (f z) ≡ z) (max (f j) (f i)) (min (f j) (f i)) (f k)
            (λ q. rw (min-case (λ z. f z ≡ z) (f j) (f i) (P.idem j) (P.idem i)) (renamed-case (λ z. z ≡ min (f j) (f i)) (max (f j) (f i)) (min (f j) (f i)) (min (f j) (f i)) (λ _. refl) (λ _. refl)))
            (λ q. rw (P.idem k) (renamed-case (λ z. z ≡ f k) (max (f j) (f i)) (min (f j) (f i)) (f k) (λ e. absurd (q e)) (λ _. refl)));
        sound = λ k.
            renamed-case (λ z. Chain r n k z) (max (f j) (f i)) (min (f j) (f i)) (f k)
            (λ q. chain-trans (subst (λ z. Chain r n k z) q (P.sound k)) (chain-trans (chain-sym (max-case (λ z. Chain r n i z) (f j) (f i) B A)) (min-case (λ z. Chain r n i z) (f j) (f i) B A)))
            (λ _. P.sound k);
        full = λ a b h k m t₂. ap (renamed (max (f j) (f i)) (min (f j) (f i))) (P.full a b h k m t₂);
        seen = λ b h k m t₂. go b h k m t₂ (ℕ_discrete b j);
      }
    where
      A : Chain r n i (f i)
      A = P.sound i

      B : Chain r n i (f j)
      B = rise l ln t (P.sound j)

      go : (b : ℕ) → i < b → b < suc j → b < n → r i b ≡ true → Dec (b ≡ j) → join_f f j i i ≡ join_f f j i b
      go b h k m t₂ (yes e) = join_f-b f j i ∙ (sym (join_f-a f j i) ∙ ap (join_f f j i) (sym e))
      go b h k m t₂ (no ne) = ap (renamed (max (f j) (f i)) (min (f j) (f i))) (P.seen b h (omega arith) m t₂)

  -- i has met all after it
  pairs_next : (f : ℕ → ℕ) (i j : ℕ) → n ≤ j → Pairs r n f i j → Pairs r n f (suc i) (suc (suc i))
  pairs_next f i j l P =
      record { low = P.low; idem = P.idem; sound = P.sound; full = λ a b h k m t. go a b h k m t (ℕ_discrete a i); seen = λ b h k. absurd (omega arith) }
    where
      go : (a b : ℕ) → a < suc i → a < b → b < n → r a b ≡ true → Dec (a ≡ i) → f a ≡ f b
      go a b h k m t (yes e) = ap f e ∙ P.seen b (omega arith) (omega arith) m (subst (λ z. r z b ≡ true) e t)
      go a b h k m t (no ne) = P.full a b (omega arith) k m t

  -- The parents

  -- each line is its own parent
  pub joined-none : (p s : List ℕ) → n ≤ length s → p ≡ over (table (λ k. k) n) s → Joined r n p 0 1
  joined-none p s h e =
      let at : (j : ℕ) → j < n → get_or p j 0 ≡ j = λ j l. ap (λ (t : List ℕ). get_or t j 0) e ∙ over-at (λ k. k) n s j l in
      record {
        rep = λ k. k;
        pairs = pairs-none 1 (le_refl 1);
        forest = record { down = λ j l. (let q = at j l in omega arith); same = λ j l. at j l; root = λ j l q. refl };
        room = (let q = ap length e in let z = over-length (table (λ k. k) n) s (let y = length-table (λ k. k) n in omega arith) in omega arith);
      }

  -- line i and its root
  pub record Rooted (p : List ℕ) (i j root : ℕ) : Type 0 where
    pub joined : Joined r n p i j
    pub own : joined.rep i ≡ root
    pub below : root < n

  module _ (p p' : List ℕ) (i j root : ℕ) where
    pub rooted-found : i < n → Joined r n p i j → Found p p' i root → Rooted p' i j root
    rooted-found h J F =
        record {
          joined = record { rep = J.rep; pairs = J.pairs; forest = F.keep J.rep n h J.room J.forest; room = (let e = F.len in let q = J.room in omega arith) };
          own = sym (F.root J.rep n h J.room J.forest);
          below = (let e = F.low in omega arith);
        }

    pub rooted-skip : Rooted p i j root → r i j ≡ false → Rooted p i (j + 1) root
    rooted-skip R e =
        record {
          joined =
              record {
                rep = R.joined.rep;
                pairs = pairs-skip R.joined.rep i j (j + 1) R.joined.pairs (λ b l k m. subst (λ z. r i z ≡ false) (let q : j ≡ b = omega arith in q) e);
                forest = R.joined.forest;
                room = R.joined.room;
              };
          own = R.own;
          below = R.below;
        }

    pub rooted-join : (root' : ℕ) → Rooted p i j root → i < j → j < n → r i j ≡ true → United p p' root j root' → Rooted p' i (j + 1) root'
    rooted-join root' R l ln t U =
        let J = R.joined in
        let P = J.pairs in
        let (F, e) = U.joined J.rep n i ln R.below J.room P.low P.idem R.own J.forest in
        record {
          joined =
              record {
                rep = join_f J.rep j i;
                pairs = subst (λ z. Pairs r n (join_f J.rep j i) i z) (sym (add-one j)) (pairs-join J.rep i j l ln t P);
                forest = F;
                room = (let q = U.len in let z = J.room in omega arith);
              };
          own = sym e;
          below = (let q = (pairs-join J.rep i j l ln t P).low i in omega arith);
        }

    -- no line from j on is joined with i, or there is none
    pub rooted-stop : Rooted p i j root → ((b : ℕ) → j ≤ b → b < n → r i b ≡ false) → Joined r n p (i + 1) (i + 1 + 1)
    rooted-stop R h =
        record {
          rep = R.joined.rep;
          pairs =
              subst (λ z. Pairs r n R.joined.rep z (z + 1)) (sym (add-one i)) (subst (λ z. Pairs r n R.joined.rep (suc i) z) (sym (add-one (suc i)))
              (pairs_next R.joined.rep i n (le_refl n) (pairs-skip R.joined.rep i j n R.joined.pairs (λ b l k m. h b l m))));
          forest = R.joined.forest;
          room = R.joined.room;
        }

  -- all pairs have been walked: the roots are the first lines
  pub joined-all : (p : List ℕ) (i j : ℕ) → n ≤ i → Joined r n p i j → Forest (first_of (firsts r n)) p n
  joined-all p i j h J =
      let P = J.pairs in
      let N : Named r n J.rep = record { low = λ k _. P.low k; sound = λ k _. P.sound k; full = λ a b l m t. P.full a b (omega arith) l m t } in
      let e = named-firsts r n J.rep N in
      let F = J.forest in
      record {
        down = F.down;
        same = λ k l. let d = F.down k l in sym (e (get_or p k 0) (omega arith)) ∙ (F.same k l ∙ e k l);
        root = λ k l q. sym (e k l) ∙ F.root k l q;
      }

-- `firsts` asks the relation only of a before b, below n

module _ (r q : ℕ → ℕ → Bool) where
  one_same : (a b : ℕ) (l : List ℕ) → ((k : ℕ) → k < b → r k a ≡ q k a) → join_one r a b l ≡ join_one q a b l
  unfolding join_one
  one_same a zero l h = refl
  one_same a (suc b) l h = λ i. join_if (h b (le_refl (suc b)) i) a b (one_same a b l (λ k m. h k (omega arith)) i)

  all_same : (n : ℕ) (l : List ℕ) → ((a b : ℕ) → a < b → b < n → r a b ≡ q a b) → join_all r n l ≡ join_all q n l
  unfolding join_all
  all_same zero l h = refl
  all_same (suc a) l h = one_same a a (join_all r a l) (λ k m. h k a m (le_refl (suc a))) ∙ ap (join_one q a a) (all_same a l (λ k b x y. h k b x (omega arith)))

  pub firsts_same : (n : ℕ) → ((a b : ℕ) → a < b → b < n → r a b ≡ q a b) → firsts r n ≡ firsts q n
  unfolding firsts
  firsts_same n h = all_same n (upto n) h
