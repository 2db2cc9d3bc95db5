-- The head of a STUN message: RFC 8489, section 5. Definitions on the list of a message's bytes; they compute.
use Rattle.std.specs.Prelude.{ℕ, ◌+◌, ◌*◌, ◌/◌, ◌%◌, ◌^◌, List, Bool, ◌&&◌, cond, length, ltb, leb, eqb, Option, None, Some}
use Rattle.wire.specs.Wire.{be16, be32, be64}
use Rattle.message.specs.declared.TransactionId.{TransactionId}
use Rattle.message.specs.declared.MessageClass.{MessageClass}
use Rattle.message.specs.declared.MessageClass.TheVariants.{Request, Indication, Success, Error}
use Rattle.message.specs.declared.MessageHeader.{MessageHeader}

-- An identifier's twelve bytes as one number, the first byte heaviest. Identifiers are equal, and ordered, as these numbers are.
unfoldable pub key : TransactionId → ℕ
key t = t.hi * 2 ^ 64 + t.lo

-- The identifier in the twelve bytes from place i on.
unfoldable pub id_at : List ℕ → ℕ → TransactionId
id_at s i = record { hi = be32 s i; lo = be64 s (i + 4) }

-- Figure 3: the type's fourteen bits are M11 to M7, C1, M6 to M4, C0, M3 to M0. C1 is bit 8 and C0 bit 4.
-- What each class has in these two bits; with the method Binding that makes the types 0x0001, 0x0011, 0x0101 and 0x0111.
abbrev pub class_bits : MessageClass → ℕ
class_bits Request = 0x0000
class_bits Indication = 0x0010
class_bits Success = 0x0100
class_bits Error = 0x0110

-- The two class bits of a type, in their places.
abbrev pub bits_of : ℕ → ℕ
bits_of t = t / 256 % 2 * 256 + t / 16 % 2 * 16

-- The class whose bits a type has.
unfoldable pub class_of : ℕ → MessageClass
class_of t =
    cond (eqb (bits_of t) (class_bits Request)) Request
    (cond (eqb (bits_of t) (class_bits Indication)) Indication
    (cond (eqb (bits_of t) (class_bits Success)) Success
    Error))

-- The other twelve bits, in order: five above C1, three between C1 and C0, four below C0.
abbrev pub method_of : ℕ → ℕ
method_of t = t / 512 % 32 * 128 + t / 32 % 8 * 16 + t % 16

-- Figure 2: twenty bytes at least; two zero bits on top of the type; the cookie; a length that is a multiple of 4; and just as many
-- bytes behind the head as the length says.
unfoldable pub head_good : List ℕ → Bool
head_good s =
    leb 20 (length s) && (ltb (be16 s 0) 0x4000 && (eqb (be32 s 4) 0x2112A442 && (eqb (be16 s 2 % 4) 0 && eqb (length s) (20 + be16 s 2))))

-- What a good head says: the identifier stands behind the cookie, at byte 8.
unfoldable pub read_head : List ℕ → MessageHeader
read_head s = record { class = class_of (be16 s 0); method = method_of (be16 s 0); transaction_id = id_at s 8; length = be16 s 2 }

unfoldable pub head_of : List ℕ → Option MessageHeader
head_of s = cond (head_good s) (Some (read_head s)) None
