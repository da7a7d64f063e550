-- What the parts of `play` do, as its code goes from one to the next.
use Rattle.std.specs.Prelude.{◌≡◌, Bool, List, ℕ, Float}
use Rattle.memory.specs.rules.Words.{over}
use Rattle.store.specs.rules.Outcomes.{Left, left, Told}
use Rattle.account.specs.rules.Calls.{says}
use Rattle.scripts.specs.rules.Scripts.{Outputs, Memory, call_of, put_back, stepped}

-- front parts left so, put back
abbrev pub left_back : Left → List ℕ → List ℕ → Left
left_back u s p = left u.number (over u.store s) (over u.plane p)

-- a reading filled the outputs with what it was told
pub record Filled (g : Bool) (t : Told) (n y : ℕ) (o o' : Outputs) : Type 0 where
  pub number : n ≡ t.number
  pub value : y ≡ t.value
  pub outputs : o' ≡ put_back t.output g o

-- the call that these words make was done
pub record Did (fs : List Float) (bs : List ℕ) (x : ℕ) (w : List ℕ) (m : Memory) (n y : ℕ) (m' : Memory) : Type 0 where
  pub number : n ≡ (says m.world (call_of fs bs x w m)).number
  pub value : y ≡ (says m.world (call_of fs bs x w m)).value
  pub left : m' ≡ stepped m (call_of fs bs x w m)
