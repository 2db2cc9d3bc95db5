-- Answers as text, and what it is to put a text into a buffer: document 01, "Replay program".
use Rattle.model.specs.Refusals.{number_of}
use Rattle.message.specs.declared.IntegrityAlgorithm.{IntegrityAlgorithm}
use Rattle.message.specs.declared.IntegrityAlgorithm.TheVariants.{Sha1, Sha256}
use Rattle.std.specs.Prelude.{ℕ, zero, suc, ◌+◌, ◌/◌, ◌%◌, min, ◌≡◌, List, [], ◌∷◌, ◌++◌, cond, length, ltb, Option, None, Some}
use Rattle.std.proofs.lemmas.List.Edits.{sets}
use Rattle.message.specs.declared.TransactionId.{TransactionId}
use Rattle.stats.specs.declared.StunAgentStats.{StunAgentStats}
use Rattle.model.specs.declared.Answer.{Answer}
use Rattle.model.specs.declared.Answer.TheVariants as answer
use Rattle.line.specs.declared.Reply.{Reply}
use Rattle.line.specs.declared.Reply.TheVariants as reply

-- A text put into a buffer at a place: each of its bytes that the buffer has a place for, and every other byte as it was. The next place,
-- or one past the end where the text did not fit.
pub record Puts (out : List ℕ) (at : ℕ) (text : List ℕ) (after : List ℕ) (next : ℕ) : Type 0 where
  pub then : after ≡ sets out at text
  pub says : next ≡ min (at + length text) (length out + 1)

-- The ASCII code of a digit below 16: "lowercase hex digits".
abbrev pub glyph : ℕ → ℕ
glyph d = cond (ltb d 10) (48 + d) (87 + d)

-- The last k digits of n in base b.
unfoldable pub digits : ℕ → ℕ → ℕ → List ℕ
digits b zero n = []
digits b (suc k) n = digits b k (n / b) ++ (glyph (n % b) ∷ [])

-- The shortest decimal of n, where it has at most k + 1 digits.
unfoldable pub decimal_in : ℕ → ℕ → List ℕ
decimal_in zero n = glyph n ∷ []
decimal_in (suc k) n = cond (ltb n 10) (glyph n ∷ []) (decimal_in k (n / 10) ++ (glyph (n % 10) ∷ []))

-- 20 digits are enough below 2^64.
unfoldable pub decimal_of : ℕ → List ℕ
decimal_of n = decimal_in 19 n

-- "Identifiers are 24 lowercase hex digits."
unfoldable pub id_text : TransactionId → List ℕ
id_text i = digits 16 8 i.hi ++ digits 16 16 i.lo

-- A space, and a number.
unfoldable pub field_of : ℕ → List ℕ
field_of n = 32 ∷ decimal_of n

-- "`-` for an absent one"
unfoldable pub rtt_text : Option ℕ → List ℕ
rtt_text None = 32 ∷ 45 ∷ []
rtt_text (Some n) = field_of n

-- "15 answers `none`, `sha1` or `sha256`"
unfoldable pub integrity_text : Option IntegrityAlgorithm → List ℕ
integrity_text None = 110 ∷ 111 ∷ 110 ∷ 101 ∷ []
integrity_text (Some Sha1) = 115 ∷ 104 ∷ 97 ∷ 49 ∷ []
integrity_text (Some Sha256) = 115 ∷ 104 ∷ 97 ∷ 50 ∷ 53 ∷ 54 ∷ []

-- "`stats` and the 14 fields in the Rust's order"
unfoldable pub stats_text : StunAgentStats → List ℕ
stats_text s =
    115 ∷ 116 ∷ 97 ∷ 116 ∷ 115 ∷ (field_of s.requests_sent ++ (field_of s.requests_received ++ (field_of s.responses_sent
    ++ (field_of s.responses_received ++ (field_of s.indications_sent ++ (field_of s.indications_received
    ++ (field_of s.transactions_timed_out ++ (field_of s.transactions_cancelled ++ (field_of s.bytes_sent
    ++ (field_of s.bytes_received ++ (field_of s.rtt_sum ++ (rtt_text s.rtt_min ++ (rtt_text s.rtt_max
    ++ field_of s.rtt_count)))))))))))))

-- Average and outstanding count have no record kind; their texts are of this port's own making.
unfoldable pub answer_text : Answer → List ℕ
answer_text (answer.Refused q) = 114 ∷ 101 ∷ 102 ∷ 117 ∷ 115 ∷ 101 ∷ 100 ∷ field_of (number_of q)
answer_text answer.Ok = 111 ∷ 107 ∷ []
answer_text answer.Yes = 121 ∷ 101 ∷ 115 ∷ []
answer_text answer.No = 110 ∷ 111 ∷ []
answer_text answer.None = 110 ∷ 111 ∷ 110 ∷ 101 ∷ []
answer_text (answer.Send id to row len) = (115 ∷ 101 ∷ 110 ∷ 100 ∷ 32 ∷ id_text id) ++ field_of len
answer_text (answer.Wait clock) = 119 ∷ 97 ∷ 105 ∷ 116 ∷ field_of clock
answer_text (answer.TimedOut id) = 116 ∷ 105 ∷ 109 ∷ 101 ∷ 111 ∷ 117 ∷ 116 ∷ 32 ∷ id_text id
answer_text (answer.Cancelled id) = 99 ∷ 97 ∷ 110 ∷ 99 ∷ 101 ∷ 108 ∷ 108 ∷ 101 ∷ 100 ∷ 32 ∷ id_text id
answer_text (answer.Stats s) = stats_text s
answer_text (answer.Average rtt) = 97 ∷ 118 ∷ 101 ∷ 114 ∷ 97 ∷ 103 ∷ 101 ∷ rtt_text rtt
answer_text (answer.Outstanding n) = 111 ∷ 117 ∷ 116 ∷ 115 ∷ 116 ∷ 97 ∷ 110 ∷ 100 ∷ 105 ∷ 110 ∷ 103 ∷ field_of n
answer_text (answer.Request to i) = integrity_text i

unfoldable pub reply_text : Option Answer → List ℕ
reply_text (Some a) = answer_text a
reply_text None = 98 ∷ 97 ∷ 100 ∷ []

-- "One line a record: its number from 1", and what it says.
unfoldable pub line_of : ℕ → Option Answer → List ℕ
line_of n r = decimal_of n ++ (32 ∷ (reply_text r ++ (10 ∷ [])))

-- "`refused NUMBER`", of any number.
unfoldable pub refused_text : ℕ → List ℕ
refused_text q = 114 ∷ 101 ∷ 102 ∷ 117 ∷ 115 ∷ 101 ∷ 100 ∷ field_of q

unfoldable pub refused_line : ℕ → ℕ → List ℕ
refused_line n q = decimal_of n ++ (32 ∷ (refused_text q ++ (10 ∷ [])))

-- What is put for a reply, and its whole line.
abbrev pub said_text : Reply → List ℕ
said_text (reply.Told r) = reply_text r
said_text (reply.Refused q) = refused_text q

abbrev pub line_by : ℕ → Reply → List ℕ
line_by n (reply.Told r) = line_of n r
line_by n (reply.Refused q) = refused_line n q
