-- The bytes of a request (RFC 9112, section 2.1): a head, and a body.
use Rattle.std.specs.Prelude.{ℕ, ◌≡◌, ◌<◌, List, ◌++◌, length}
use Rattle.web_call.specs.declared.method.Method.{Method}
use Rattle.web_call.specs.Head.{IsHeaded}
use Rattle.web_call.specs.HeadAnswer.{Asked}
use Rattle.web_call.specs.InputHead.{IsHead, IsOpenHead}

-- these bytes are this head and then this body
pub record IsRequested (head body bytes : List ℕ) : Type 0 where
  pub is_head : IsHead head
  pub is : bytes ≡ head ++ body

-- bytes that are a front of a request and not all of it
pub data IsCutRequest (bytes : List ℕ) : Type 0 where
  InHead : IsOpenHead bytes → IsCutRequest bytes
  InBody : (head part : List ℕ) (method : Method) (len : ℕ) → bytes ≡ head ++ part → IsHead head → IsHeaded head (Asked method len)
      → length part < len → IsCutRequest bytes
