-- Numbers in network byte order (RFC 8489, section 5: all fields are big-endian), and the order of byte strings.
use Rattle.std.specs.Prelude.{ℕ, ◌+◌, ◌*◌, ◌^◌, ◌<◌, List, [], ◌∷◌, Bool, false, cond, length, get_or, take, drop, ltb, eqb}

-- The number in the 2, 4 or 8 bytes from place i on, the first byte heaviest.
abbrev pub be16 : List ℕ → ℕ → ℕ
be16 s i = get_or s i 0 * 256 + get_or s (i + 1) 0

abbrev pub be32 : List ℕ → ℕ → ℕ
be32 s i = be16 s i * 65536 + be16 s (i + 2)

abbrev pub be64 : List ℕ → ℕ → ℕ
be64 s i = be32 s i * 4294967296 + be32 s (i + 4)

-- The n bytes from place i on, or as many as there are.
abbrev pub bytes_at : List ℕ → ℕ → ℕ → List ℕ
bytes_at s i n = take n (drop i s)

-- The number that a string of bytes spells, whatever its length.
unfoldable pub number : List ℕ → ℕ
number [] = 0
number (b ∷ bs) = b * 256 ^ length bs + number bs

-- Every element is a byte.
abbrev pub Bytes : List ℕ → Type 0
Bytes [] = Unit
Bytes (b ∷ bs) = (b < 256) × Bytes bs

-- Whether the first of two strings of one length is the lesser, by their first differing byte.
unfoldable pub first_less : List ℕ → List ℕ → Bool
first_less [] bs = false
first_less (a ∷ as') [] = false
first_less (a ∷ as') (b ∷ bs) = cond (eqb a b) (first_less as' bs) (ltb a b)
