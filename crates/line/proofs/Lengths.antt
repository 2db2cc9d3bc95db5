-- How long a line can be.
use Rattle.model.specs.Refusals.{number_of}
use Rattle.std.specs.Prelude.{Option, None, Some}
use Rattle.message.specs.declared.IntegrityAlgorithm.{IntegrityAlgorithm}
use Rattle.message.specs.declared.IntegrityAlgorithm.TheVariants.{Sha1, Sha256}
use Prim.Native.Nat.{ℕ, zero, suc, ◌+◌, ◌/◌, ◌%◌, ◌≤◌}
use mathlib.Core.Path.{◌≡◌, refl, ◌∙◌}
use mathlib.Core.Bool.{Bool, true, false, cond}
use mathlib.Core.List.{List, [], ◌∷◌, ◌++◌}
use native.Mathlib.Omega.{arith}
use lib.Dec.{ltb}
use lib.ListN.{length, length-append}
use Rattle.message.specs.declared.TransactionId.{TransactionId}
use Rattle.stats.specs.declared.StunAgentStats.{StunAgentStats}
use Rattle.model.specs.declared.Answer.{Answer}
use Rattle.model.specs.declared.Answer.TheVariants as answer
use Rattle.line.specs.Lines.{glyph, digits, decimal_in, decimal_of, id_text, field_of, rtt_text, integrity_text, stats_text, answer_text, reply_text, line_of, refused_text, said_text, line_by}
use Rattle.line.specs.declared.Reply.{Reply}
use Rattle.line.specs.declared.Reply.TheVariants.{Told, Refused}
use Rattle.line.proofs.Replies.{whole_line}

digits_length : (b k n : ℕ) → length (digits b k n) ≡ k
unfolding digits
digits_length b zero n = refl
digits_length b (suc k) n = length-append (digits b k (n / b)) (glyph (n % b) ∷ []) ∙ omega (arith, digits_length b k (n / b))

choice : {A : Type 0} (b : Bool) (x y : List A) (n : ℕ) → length x ≤ n → length y ≤ n → length (cond b x y) ≤ n
choice true x y n h k = h
choice false x y n h k = k

decimal_in_lem : (k n : ℕ) → length (decimal_in k n) ≤ k + 1
unfolding decimal_in
decimal_in_lem zero n = omega arith
decimal_in_lem (suc k) n =
    choice (ltb n 10) (glyph n ∷ []) (decimal_in k (n / 10) ++ (glyph (n % 10) ∷ [])) (suc k + 1) (omega arith)
    (rw length-append (omega (arith, decimal_in_lem k (n / 10))))

decimal_length : (n : ℕ) → length (decimal_of n) ≤ 20
unfolding decimal_of
decimal_length n = decimal_in_lem 19 n

field_length : (n : ℕ) → length (field_of n) ≤ 21
unfolding field_of
field_length n = omega (arith, decimal_length n)

id_length : (i : TransactionId) → length (id_text i) ≡ 24
unfolding id_text
id_length i = length-append (digits 16 8 i.hi) (digits 16 16 i.lo) ∙ omega (arith, digits_length 16 8 i.hi, digits_length 16 16 i.lo)

rtt_length : (t : Option ℕ) → length (rtt_text t) ≤ 21
unfolding rtt_text
rtt_length None = omega arith
rtt_length (Some n) = field_length n

integrity_length : (i : Option IntegrityAlgorithm) → length (integrity_text i) ≤ 6
unfolding integrity_text
integrity_length None = omega arith
integrity_length (Some Sha1) = omega arith
integrity_length (Some Sha256) = omega arith

-- A text behind another.
joined : (a b : List ℕ) (m n : ℕ) → length a ≤ m → length b ≤ n → length (a ++ b) ≤ m + n
joined a b m n h k = rw length-append (omega (arith, h, k))

stats_length : (s : StunAgentStats) → length (stats_text s) ≤ 299
unfolding stats_text
stats_length s =
    simp length-append
    (omega (
      arith,
      field_length s.requests_sent,
      field_length s.requests_received,
      field_length s.responses_sent,
      field_length s.responses_received,
      field_length s.indications_sent,
      field_length s.indications_received,
      field_length s.transactions_timed_out,
      field_length s.transactions_cancelled,
      field_length s.bytes_sent,
      field_length s.bytes_received,
      field_length s.rtt_sum,
      rtt_length s.rtt_min,
      rtt_length s.rtt_max,
      field_length s.rtt_count,
    ))

answer_length : (a : Answer) → length (answer_text a) ≤ 299
unfolding answer_text
answer_length (answer.Refused q) = omega (arith, field_length (number_of q))
answer_length answer.Ok = omega arith
answer_length answer.Yes = omega arith
answer_length answer.No = omega arith
answer_length answer.None = omega arith
answer_length (answer.Send id to row len) = rw length-append (omega (arith, id_length id, field_length len))
answer_length (answer.Wait clock) = omega (arith, field_length clock)
answer_length (answer.TimedOut id) = omega (arith, id_length id)
answer_length (answer.Cancelled id) = omega (arith, id_length id)
answer_length (answer.Stats s) = stats_length s
answer_length (answer.Average rtt) = omega (arith, rtt_length rtt)
answer_length (answer.Outstanding n) = omega (arith, field_length n)
answer_length (answer.Request to i) = omega (arith, integrity_length i)

reply_length : (r : Option Answer) → length (reply_text r) ≤ 299
unfolding reply_text
reply_length (Some a) = answer_length a
reply_length None = omega arith

said_length : (r : Reply) → length (said_text r) ≤ 299
unfolding refused_text
said_length (Told r) = reply_length r
said_length (Refused q) = omega (arith, field_length q)

pub line_by_length : (n : ℕ) (r : Reply) → length (line_by n r) ≤ 321
line_by_length n r =
    let k = joined (said_text r) (10 ∷ []) 299 1 (said_length r) (omega arith) in
    rw (← whole_line n r) (joined (decimal_of n) _ 20 301 (decimal_length n) (omega (arith, k)))

pub line_length : (n : ℕ) (r : Option Answer) → length (line_of n r) ≤ 321
line_length n r = line_by_length n (Told r)
