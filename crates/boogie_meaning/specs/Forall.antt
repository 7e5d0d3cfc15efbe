-- What a quantifier is (Leino, This is Boogie 2, section 4): it speaks of every list of keys of its type.
use Rattle.std.specs.Prelude.{◌≡◌, ◌≢◌, Bool as Truth, true, false}
use Rattle.boogie_meaning.specs.Ends.{End, Is, Over, Wrong}

-- it is a truth value
pub data IsTruth : End Truth → Type 0 where
  is : (p : Truth) → IsTruth (Is p)

-- The end of `forall` over all keys with P. It is Over where its body is Over at some key, else Wrong where it is Wrong at some;
-- else it is false where the body is false at some key, and true where it is true at every key.
pub data IsForall {K : Type 0} (P : K → Type 0) (body : K → End Truth) : End Truth → Type 0 where
  over : (k : K) → P k → body k ≡ Over → IsForall P body Over
  wrong : ((k : K) → P k → body k ≢ Over) → (k : K) → P k → body k ≡ Wrong → IsForall P body Wrong
  fails : ((k : K) → P k → IsTruth (body k)) → (k : K) → P k → body k ≡ Is false → IsForall P body (Is false)
  holds : ((k : K) → P k → body k ≡ Is true) → IsForall P body (Is true)
