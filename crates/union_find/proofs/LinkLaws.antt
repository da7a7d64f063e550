-- A union-find over any relation: what it knows half way, and how that goes on.
use mathlib.Core.Path.{◌≡◌, refl, sym, ap, ◌∙◌, subst}
use mathlib.Core.Bool.{Bool, true, false, true≢false}
use Prim.Native.Nat.{ℕ, suc, ◌≤◌, ◌<◌, min, max}
use native.Mathlib.Nat.{le_refl, not-suc-le-zero}
use native.Mathlib.Decide.{ℕ_discrete, dec_lt}
use native.Mathlib.Omega.{arith}
use Rattle.union_find.specs.rules.Classes.{renamed}
use Rattle.union_find.specs.rules.Chains.{Chain, here, rise, fall}
use Rattle.union_find.specs.stages.Forests.{join_f, Named, Seen}
use Rattle.union_find.proofs.FirstLaws.{chain-trans, chain-sym, renamed-case, join_f-a, join_f-b, min-case, max-case}

module _ (r : ℕ → ℕ → Bool) (n : ℕ) where
  pub seen_none : Seen r n (λ k. k) 0 0
  seen_none =
      record {
        low = le_refl;
        idem = λ k. refl;
        sound = λ k. here;
        fresh = λ k l. refl;
        own = λ _. refl;
        full = λ a b l l₂. absurd (not-suc-le-zero l₂);
        seen = λ a l. absurd (not-suc-le-zero l);
      }

  -- those from i up to i' are not joined with j by r
  pub seen_skip : (f : ℕ → ℕ) (j i i' : ℕ) → i ≤ i' → Seen r n f j i → ((a : ℕ) → i ≤ a → a < i' → a < j → r a j ≡ false) → Seen r n f j i'
  seen_skip f j i i' le S h =
      record {
        low = S.low;
        idem = S.idem;
        sound = S.sound;
        fresh = S.fresh;
        own = λ e. S.own (omega arith);
        full = S.full;
        seen = λ a l lj t. go a l lj t (dec_lt a i);
      }
    where
      go : (a : ℕ) → a < i' → a < j → r a j ≡ true → Dec (a < i) → f a ≡ f j
      go a l lj t (yes q) = S.seen a q lj t
      go a l lj t (no q) = absurd (true≢false (sym t ∙ h a (omega arith) l lj))

  -- i is: their classes become one
  pub seen-join : (f : ℕ → ℕ) (j i : ℕ) → i < j → j < n → r i j ≡ true → Seen r n f j i → Seen r n (join_f f i j) j (suc i)
  seen-join f j i l ln t S =
      record {
        low = λ k. renamed-case (λ z. z ≤ k) (max (f i) (f j)) (min (f i) (f j)) (f k) (λ q. let h = S.low k in omega arith) (λ _. S.low k);
        idem = λ k.
            renamed-case (λ z. renamed (max (f i) (f j)) (min (f i) (f j)) (f z) ≡ z) (max (f i) (f j)) (min (f i) (f j)) (f k)
            (λ q. rw (min-case (λ z. f z ≡ z) (f i) (f j) (S.idem i) (S.idem j)) (renamed-case (λ z. z ≡ min (f i) (f j)) (max (f i) (f j)) (min (f i) (f j)) (min (f i) (f j)) (λ _. refl) (λ _. refl)))
            (λ q. rw (S.idem k) (renamed-case (λ z. z ≡ f k) (max (f i) (f j)) (min (f i) (f j)) (f k) (λ e. absurd (q e)) (λ _. refl)));
        sound = λ k.
            renamed-case (λ z. Chain r n k z) (max (f i) (f j)) (min (f i) (f j)) (f k)
            (λ q. chain-trans (subst (λ z. Chain r n k z) q (S.sound k)) (chain-trans (chain-sym (max-case (λ z. Chain r n i z) (f i) (f j) A B)) (min-case (λ z. Chain r n i z) (f i) (f j) A B)))
            (λ _. S.sound k);
        fresh = λ k lk.
            let e = S.fresh k lk in
            renamed-case (λ z. z ≡ k) (max (f i) (f j)) (min (f i) (f j)) (f k) (λ q. absurd (let a = S.low i in let b = S.low j in omega arith)) (λ _. e);
        own = λ e. absurd (omega arith);
        full = λ a b l₁ l₂ t₂. ap (renamed (max (f i) (f j)) (min (f i) (f j))) (S.full a b l₁ l₂ t₂);
        seen = λ a l₁ l₂ t₂. go a l₁ l₂ t₂ (ℕ_discrete a i);
      }
    where
      A : Chain r n i (f i)
      A = S.sound i

      B : Chain r n i (f j)
      B = rise l ln t (S.sound j)

      go : (a : ℕ) → a < suc i → a < j → r a j ≡ true → Dec (a ≡ i) → join_f f i j a ≡ join_f f i j j
      go a l₁ l₂ t₂ (yes e) = ap (join_f f i j) e ∙ (join_f-a f i j ∙ sym (join_f-b f i j))
      go a l₁ l₂ t₂ (no ne) = ap (renamed (max (f i) (f j)) (min (f i) (f j))) (S.seen a (omega arith) l₂ t₂)

  -- j has met all before it
  pub seen_next : (f : ℕ → ℕ) (j : ℕ) → Seen r n f j j → Seen r n f (suc j) 0
  seen_next f j S =
      record {
        low = S.low;
        idem = S.idem;
        sound = S.sound;
        fresh = λ k l. S.fresh k (omega arith);
        own = λ _. S.fresh (suc j) (le_refl (suc j));
        full = λ a b l l₂ t. go a b l l₂ t (ℕ_discrete b j);
        seen = λ a l. absurd (not-suc-le-zero l);
      }
    where
      go : (a b : ℕ) → a < b → b < suc j → r a b ≡ true → Dec (b ≡ j) → f a ≡ f b
      go a b l l₂ t (yes e) = S.seen a (omega arith) (omega arith) (subst (λ z. r a z ≡ true) e t) ∙ ap f (sym e)
      go a b l l₂ t (no ne) = S.full a b l (omega arith) t

  -- all have
  pub seen_all : (f : ℕ → ℕ) → Seen r n f n 0 → Named r n f
  seen_all f S = record { low = λ i _. S.low i; sound = λ i _. S.sound i; full = S.full }

-- more numbers, and the relation of the numbers below n as it was
module _ (r r' : ℕ → ℕ → Bool) (n n' : ℕ) (l : n ≤ n') (same : (a b : ℕ) → a < b → b < n → r' a b ≡ r a b) where
  chain-wider : {a b : ℕ} → Chain r n a b → Chain r' n' a b
  chain-wider here = here
  chain-wider (rise {a} {b} h k t d) = rise h (omega arith) (same a b h k ∙ t) (chain-wider d)
  chain-wider (fall {a} {b} h k t d) = fall h (omega arith) (same b a h k ∙ t) (chain-wider d)

  pub seen_wider : (f : ℕ → ℕ) (j : ℕ) → j ≤ n → Seen r n f j 0 → Seen r' n' f j 0
  seen_wider f j lj S =
      record {
        low = S.low;
        idem = S.idem;
        sound = λ k. chain-wider (S.sound k);
        fresh = S.fresh;
        own = S.own;
        full = λ a b h k t. S.full a b h k (sym (same a b h (omega arith)) ∙ t);
        seen = λ a h. absurd (not-suc-le-zero h);
      }
