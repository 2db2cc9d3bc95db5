-- What each event of a call does to the statistics (document 01, "The agent" and "Numbers").
use Rattle.std.specs.Prelude.{ℕ, ◌+◌, ◌-◌, ◌^◌, min, max, Option, None, Some}
use Rattle.stats.specs.declared.StunAgentStats.{StunAgentStats}
use Rattle.stats.specs.declared.Event.{Event}
use Rattle.stats.specs.declared.Event.TheVariants.{
  Nothing,
  RequestSent,
  RequestReceived,
  IndicationSent,
  IndicationReceived,
  ResponseSent,
  ResponseReceived,
  RetransmitBytes,
  TimedOut,
  Cancelled,
  Reset,
}

-- "Numbers": a counter at 2^64-1 stays there, the RTT sum likewise.
abbrev pub plus : ℕ → ℕ → ℕ
plus a b = min (a + b) (2 ^ 64 - 1)

-- What becomes of a counter: left alone, so much higher, or 0 again.
pub data Move : Type 0 where
  same fresh : Move
  up : ℕ → Move

-- The counter after its move.
abbrev pub moved : Move → ℕ → ℕ
moved same n = n
moved fresh n = 0
moved (up k) n = plus n k

-- The moves of the ten counters, in the record's order.
pub record Moves : Type 0 where
  pub requests_sent : Move
  pub requests_received : Move
  pub responses_sent : Move
  pub responses_received : Move
  pub indications_sent : Move
  pub indications_received : Move
  pub timed_out : Move
  pub cancelled : Move
  pub bytes_sent : Move
  pub bytes_received : Move

-- One row of the table below.
abbrev row : Move → Move → Move → Move → Move → Move → Move → Move → Move → Move → Moves
row a b c d e f g h i j = record {
  requests_sent = a;
  requests_received = b;
  responses_sent = c;
  responses_received = d;
  indications_sent = e;
  indications_received = f;
  timed_out = g;
  cancelled = h;
  bytes_sent = i;
  bytes_received = j;
}

-- Which counters an event moves. "`send_request` counts a request and its bytes; later sends count bytes only."
abbrev pub moves_of : Event → Moves
moves_of Nothing = row same same same same same same same same same same
moves_of (RequestSent n) = row (up 1) same same same same same same same (up n) same
moves_of (RequestReceived n) = row same (up 1) same same same same same same same (up n)
moves_of (IndicationSent n) = row same same same same (up 1) same same same (up n) same
moves_of (IndicationReceived n) = row same same same same same (up 1) same same same (up n)
moves_of (ResponseSent n) = row same same (up 1) same same same same same (up n) same
moves_of (ResponseReceived n t) = row same same same (up 1) same same same same same (up n)
moves_of (RetransmitBytes n) = row same same same same same same same same (up n) same
moves_of TimedOut = row same same same same same same (up 1) same same same
moves_of Cancelled = row same same same same same same same (up 1) same same
moves_of Reset = row fresh fresh fresh fresh fresh fresh fresh fresh fresh fresh

-- The four numbers on round trips.
pub record Times : Type 0 where
  pub sum : ℕ
  pub least : Option ℕ
  pub most : Option ℕ
  pub count : ℕ

-- Those of a record.
abbrev pub times_of : StunAgentStats → Times
times_of s = record { sum = s.rtt_sum; least = s.rtt_min; most = s.rtt_max; count = s.rtt_count }

-- The least of the times so far, with one more.
abbrev pub lesser : Option ℕ → ℕ → Option ℕ
lesser None t = Some t
lesser (Some m) t = Some (min m t)

-- The greatest.
abbrev pub greater : Option ℕ → ℕ → Option ℕ
greater None t = Some t
greater (Some m) t = Some (max m t)

-- One round trip of t nanoseconds more.
abbrev pub timed : ℕ → Times → Times
timed t x = record { sum = plus x.sum t; least = lesser x.least t; most = greater x.most t; count = plus x.count 1 }

-- The same where the response has none that counts.
abbrev pub timed_by : Option ℕ → Times → Times
timed_by None x = x
timed_by (Some t) x = timed t x

-- Only a response and a reset touch the round trips.
abbrev pub times_after : Event → Times → Times
times_after Nothing x = x
times_after (RequestSent n) x = x
times_after (RequestReceived n) x = x
times_after (IndicationSent n) x = x
times_after (IndicationReceived n) x = x
times_after (ResponseSent n) x = x
times_after (ResponseReceived n t) x = timed_by t x
times_after (RetransmitBytes n) x = x
times_after TimedOut x = x
times_after Cancelled x = x
times_after Reset x = record { sum = 0; least = None; most = None; count = 0 }

-- Other round trips, and all else as it was.
abbrev pub with_times : Times → StunAgentStats → StunAgentStats
with_times x s = record {
  requests_sent = s.requests_sent;
  requests_received = s.requests_received;
  responses_sent = s.responses_sent;
  responses_received = s.responses_received;
  indications_sent = s.indications_sent;
  indications_received = s.indications_received;
  transactions_timed_out = s.transactions_timed_out;
  transactions_cancelled = s.transactions_cancelled;
  bytes_sent = s.bytes_sent;
  bytes_received = s.bytes_received;
  rtt_sum = x.sum;
  rtt_min = x.least;
  rtt_max = x.most;
  rtt_count = x.count;
}

-- The record after an event.
unfoldable pub counted : Event → StunAgentStats → StunAgentStats
counted e s = record {
  requests_sent = moved (moves_of e).requests_sent s.requests_sent;
  requests_received = moved (moves_of e).requests_received s.requests_received;
  responses_sent = moved (moves_of e).responses_sent s.responses_sent;
  responses_received = moved (moves_of e).responses_received s.responses_received;
  indications_sent = moved (moves_of e).indications_sent s.indications_sent;
  indications_received = moved (moves_of e).indications_received s.indications_received;
  transactions_timed_out = moved (moves_of e).timed_out s.transactions_timed_out;
  transactions_cancelled = moved (moves_of e).cancelled s.transactions_cancelled;
  bytes_sent = moved (moves_of e).bytes_sent s.bytes_sent;
  bytes_received = moved (moves_of e).bytes_received s.bytes_received;
  rtt_sum = (times_after e (times_of s)).sum;
  rtt_min = (times_after e (times_of s)).least;
  rtt_max = (times_after e (times_of s)).most;
  rtt_count = (times_after e (times_of s)).count;
}

-- Nothing counted: "the record zeroed" of a fresh agent and of a reset.
abbrev pub zeroed : StunAgentStats
zeroed = record {
  requests_sent = 0;
  requests_received = 0;
  responses_sent = 0;
  responses_received = 0;
  indications_sent = 0;
  indications_received = 0;
  transactions_timed_out = 0;
  transactions_cancelled = 0;
  bytes_sent = 0;
  bytes_received = 0;
  rtt_sum = 0;
  rtt_min = None;
  rtt_max = None;
  rtt_count = 0;
}
