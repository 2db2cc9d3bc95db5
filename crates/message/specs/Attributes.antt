-- The attributes of a STUN message, and a whole message: RFC 8489, section 14. They start behind the head of twenty bytes.
use Rattle.message.specs.declared.IntegrityAlgorithm.{IntegrityAlgorithm}
use Rattle.message.specs.declared.Message.{Message}
use Rattle.message.specs.declared.MessageHeader.{MessageHeader}
use Rattle.message.specs.declared.IntegrityAlgorithm.TheVariants.{Sha1, Sha256}
use Rattle.std.specs.Prelude.{ℕ, zero, suc, ◌+◌, ◌*◌, ◌/◌, List, [], ◌∷◌, Bool, false, cond, length, drop, leb, eqb, Option, None, Some}
use Rattle.wire.specs.Wire.{be16}
use Rattle.message.specs.Head.{head_of}
use Rattle.message.specs.declared.Step.{Step}
use Rattle.message.specs.declared.Step.TheVariants.{Attribute, Past, End}

-- A length rounded up to a multiple of 4: a value and its padding.
abbrev pub padded : ℕ → ℕ
padded n = (n + 3) / 4 * 4

-- Where the attribute at a place ends, its padding counted: two bytes of type, two of length, then value and padding.
abbrev pub next_of : List ℕ → ℕ → ℕ
next_of s at = at + 4 + padded (be16 s (at + 2))

-- What stands at a place of a message: nothing more, an attribute that lies within the message with its padding, or one that does not.
unfoldable pub step_at : List ℕ → ℕ → Step
step_at s at =
    cond (leb (length s) at) End
    (cond (leb (next_of s at) (length s)) (Attribute (be16 s at) (at + 4) (be16 s (at + 2)) (next_of s at))
    Past)

-- One attribute: its type, the place in the message where its value starts, and the value's length.
pub record Tlv : Type 0 where
  pub kind : ℕ
  pub start : ℕ
  pub len : ℕ

-- All attributes in order; or one passes the end, and the message is bad.
pub data Attributes : Type 0 where
  those : List Tlv → Attributes
  cut : Attributes

abbrev pub with_tlv : Tlv → Attributes → Attributes
with_tlv t (those ts) = those (t ∷ ts)
with_tlv t cut = cut

-- The attributes in the bytes from place `at` of a message to its end. The last number says how many of these bytes are value and
-- padding of the attribute before, and are passed first; whatever the padding holds.
unfoldable pub attributes_from : List ℕ → ℕ → ℕ → Attributes
attributes_from [] at zero = those []
attributes_from [] at (suc n) = cut
attributes_from (b ∷ rest) at (suc n) = attributes_from rest (at + 1) n
attributes_from (a ∷ []) at zero = cut
attributes_from (a ∷ (b ∷ [])) at zero = cut
attributes_from (a ∷ (b ∷ (c ∷ []))) at zero = cut
attributes_from (a ∷ (b ∷ (c ∷ (d ∷ rest)))) at zero =
    with_tlv (record { kind = a * 256 + b; start = at + 4; len = c * 256 + d }) (attributes_from rest (at + 4) (padded (c * 256 + d)))

-- The attributes of a message.
abbrev pub attributes_of : List ℕ → Attributes
attributes_of s = attributes_from (drop 20 s) 20 0

-- Whether a type is that of an integrity attribute (sections 14.5 and 14.6): MESSAGE-INTEGRITY or MESSAGE-INTEGRITY-SHA256.
abbrev pub has_type : Option IntegrityAlgorithm → ℕ → Bool
has_type None k = false
has_type (Some Sha1) k = eqb k 0x0008
has_type (Some Sha256) k = eqb k 0x001C

-- What counts after an attribute of type k, where i counted before it.
unfoldable pub later : Option IntegrityAlgorithm → ℕ → Option IntegrityAlgorithm
later i k = cond (has_type (Some Sha1) k) (Some Sha1) (cond (has_type (Some Sha256) k) (Some Sha256) i)

-- What counts after some attributes, where i counted before them.
abbrev pub integrity_from : Option IntegrityAlgorithm → List Tlv → Option IntegrityAlgorithm
integrity_from i [] = i
integrity_from i (t ∷ ts) = integrity_from (later i t.kind) ts

abbrev pub walk_with : Option IntegrityAlgorithm → Attributes → Option (Option IntegrityAlgorithm)
walk_with i (those ts) = Some (integrity_from i ts)
walk_with i cut = None

-- Document 01: the integrity of a message is "the last of the two types found on the walk over all attributes".
unfoldable pub walk_of : List ℕ → Option (Option IntegrityAlgorithm)
walk_of s = walk_with None (attributes_of s)

abbrev pub with_walk : Option MessageHeader → Option (Option IntegrityAlgorithm) → Option Message
with_walk (Some h) (Some i) = Some (record { class = h.class; method = h.method; transaction_id = h.transaction_id; integrity = i })
with_walk (Some h) None = None
with_walk None w = None

-- A whole message: a good head, and attributes that end with the message. Refusal 5, BAD_MESSAGE, is for every other string of bytes.
unfoldable pub message_of : List ℕ → Option Message
message_of s = with_walk (head_of s) (walk_of s)
