-- Worked values: worlds, messages and runs of calls, and what the model gives for them.
use Rattle.model.specs.declared.Refusal.TheVariants.{State, Settings, Clock, TooLong, BadMessage, WrongClass, InProgress, TableFull, NoRequest, PeersFull, NoStats, Counts}
use Rattle.message.specs.declared.IntegrityAlgorithm.TheVariants.{Sha1}
use Rattle.std.specs.Prelude.{ℕ, ◌+◌, ◌*◌, ◌/◌, ◌%◌, ◌^◌, ◌≡◌, Bool, true, false, List, [], ◌∷◌, ◌++◌, length, take, replicate, None, Some}
use Rattle.address.specs.declared.Address.{Address}
use Rattle.address.specs.declared.Host.TheVariants.{V4}
use Rattle.message.specs.declared.TransactionId.{TransactionId}
use Rattle.waits.specs.Waits.{milliseconds, default_rto}
use Rattle.waits.specs.declared.RequestRto.{RequestRto}
use Rattle.waits.specs.declared.Transport.TheVariants.{Udp, Tcp}
use Rattle.stats.specs.Count.{zeroed}
use Rattle.stats.specs.declared.StunAgentStats.{StunAgentStats}
use Rattle.model.specs.World.{World}
use Rattle.model.specs.Fresh.{fresh}
use Rattle.model.specs.Parts.{transmission_of}
use Rattle.model.specs.Runs.{Turn, with, plain, answers, run}
use Rattle.model.specs.declared.Call.TheVariants as call
use Rattle.model.specs.declared.Answer.{Answer}
use Rattle.model.specs.declared.Answer.TheVariants as answer

-- The address of a peer, and the identifier that ends in n.
abbrev pub peer : ℕ → Address
peer n = record { host = V4 n; port = 3478 }

abbrev pub ending : ℕ → TransactionId
ending n = record { hi = 0; lo = n }

-- A message of a type with that identifier, these bytes behind its head and no padding needed.
unfoldable pub message : ℕ → ℕ → List ℕ → List ℕ
message type n body =
    type / 256 ∷ type % 256 ∷ length body / 256 ∷ length body % 256 ∷ 0x21 ∷ 0x12 ∷ 0xA4 ∷ 0x42 ∷ replicate 11 0 ++ (n ∷ body)

abbrev pub request : ℕ → List ℕ
request n = message 0x0001 n []

abbrev pub indication : ℕ → List ℕ
indication n = message 0x0011 n []

abbrev pub success : ℕ → List ℕ
success n = message 0x0101 n []

-- Settings in milliseconds, without a maximum.
abbrev pub settings : ℕ → ℕ → ℕ → RequestRto
settings initial count last = record { initial = milliseconds initial; max = 2 ^ 61; retransmits = count; last_retransmit = milliseconds last }

-- A fresh agent by UDP with a store of as many rows, and as many places for peers.
abbrev pub start : ℕ → ℕ → Bool → RequestRto → World
start rows places stats rto = fresh Udp stats rto (replicate (rows * 1024) 0) (replicate places (peer 0)) zeroed

-- The same by TCP, with the settings left unset.
abbrev pub stream : World
stream = fresh Tcp false default_rto (replicate 1024 0) [] zeroed

-- A fresh agent with statistics and another record of them.
abbrev pub recorded : StunAgentStats → World
recorded st = record {
  agent = (start 1 0 true default_rto).agent;
  requests = [];
  store = replicate 1024 0;
  peers = [];
  stats = st;
}

-- A record with these numbers of requests sent, responses received, timed out and cancelled, of bytes sent and received, and no round
-- trip.
abbrev pub figures : ℕ → ℕ → ℕ → ℕ → ℕ → ℕ → StunAgentStats
figures sent answered timed cancelled out into = record {
  requests_sent = sent;
  requests_received = 0;
  responses_sent = 0;
  responses_received = answered;
  indications_sent = 0;
  indications_received = 0;
  transactions_timed_out = timed;
  transactions_cancelled = cancelled;
  bytes_sent = out;
  bytes_received = into;
  rtt_sum = 0;
  rtt_min = None;
  rtt_max = None;
  rtt_count = 0;
}

-- Document 01's whole example, without its first line: "settings UDP, 0, 500000000, 2^61, 2, 8000000000".
abbrev pub example_start : World
example_start = start 32 64 false (settings 500 2 8000)

-- "request, clock 0, 20 bytes, identifier ending in 01; poll 0; poll_transmit 500000000; poll 8500000000; poll again"
abbrev pub example_calls : List Turn
example_calls =
    with (call.SendRequest (peer 9) 0) (request 1)
    ∷ plain (call.Poll 0)
    ∷ plain (call.PollTransmit 500000000)
    ∷ plain (call.Poll 8500000000)
    ∷ plain (call.Poll 8500000000)
    ∷ []

abbrev pub example_answers : List Answer
example_answers =
    answer.Send (ending 1) (peer 9) 0 20
    ∷ answer.Wait 500000000
    ∷ answer.Send (ending 1) (peer 9) 0 20
    ∷ answer.TimedOut (ending 1)
    ∷ answer.Wait 3608500000000
    ∷ []

abbrev again : ℕ → Turn
again ms = plain (call.PollTransmit (milliseconds ms))

abbrev goes : Answer
goes = answer.Send (ending 1) (peer 9) 0 20

pub record Values : Type 0 where
  pub example : answers 32 example_start example_calls ≡ example_answers
  -- What is handed out: the part of its row, and none of another row, nor of another length, nor once the request is over.
  pub part : transmission_of 32 (run 32 example_start (take 1 example_calls)) 0 20 ≡ request 1
  pub part_of_another_row : transmission_of 32 (run 32 example_start (take 1 example_calls)) 1 20 ≡ []
  pub part_of_another_length : transmission_of 32 (run 32 example_start (take 1 example_calls)) 0 24 ≡ []
  pub part_afterwards : transmission_of 32 (run 32 example_start example_calls) 0 20 ≡ []
  -- Settings left unset: sends at 0, 500, 1,500, 3,500, 7,500, 15,500 and 31,500 ms, and the end 8,000 ms after the last of them.
  pub unset_udp :
      answers 1 (start 1 0 false default_rto) (
      with (call.SendRequest (peer 9) 0) (request 1)
      ∷ again 499
      ∷ again 500
      ∷ again 1500
      ∷ again 3500
      ∷ again 7500
      ∷ again 15500
      ∷ again 31500
      ∷ again 39499
      ∷ plain (call.Poll (milliseconds 39499))
      ∷ plain (call.Poll (milliseconds 39500))
      ∷ [])
      ≡ (goes ∷ answer.None ∷ goes ∷ goes ∷ goes ∷ goes ∷ goes ∷ goes ∷ answer.None ∷ answer.Wait (milliseconds 39500) ∷ answer.TimedOut (ending 1) ∷ [])
  -- By TCP one send, and the end at 39,500 ms.
  pub unset_tcp :
      answers 1 stream (
      with (call.SendRequest (peer 9) 0) (request 1)
      ∷ again 31500
      ∷ plain (call.Poll (milliseconds 39499))
      ∷ plain (call.Poll (milliseconds 39500))
      ∷ [])
      ≡ (goes ∷ answer.None ∷ answer.Wait (milliseconds 39500) ∷ answer.TimedOut (ending 1) ∷ [])
  -- Each refusal, some where a higher one applies as well. Here with a store too short.
  pub refused_state : answers 2 (start 1 0 false default_rto) (plain call.Stats ∷ plain (call.Poll (2 ^ 60 + 1)) ∷ []) ≡ (answer.Refused State ∷ answer.Refused State ∷ [])
  pub refused :
      answers 1 (start 1 0 false default_rto) (
      plain (call.ConfigureTimeoutWithMax (ending 1) (settings 500 34 8000))
      ∷ plain (call.ConfigureTimeout (ending 1) 0 33 (2 ^ 61))
      ∷ plain (call.Poll (2 ^ 60 + 1))
      ∷ plain (call.PollTransmit 5)
      ∷ with (call.SendRequest (peer 9) 4) []
      ∷ with (call.SendRequest (peer 9) 5) (replicate 1025 0)
      ∷ with (call.SendRequest (peer 9) 5) []
      ∷ with (call.SendRequest (peer 9) 5) (indication 1)
      ∷ with (call.Send (peer 9)) (request 1)
      ∷ with (call.SendRequest (peer 9) 5) (request 1)
      ∷ with (call.SendRequest (peer 9) 5) (request 1)
      ∷ with (call.SendRequest (peer 9) 5) (request 2)
      ∷ plain (call.Cancel (ending 2))
      ∷ with (call.HandleStunMessage (peer 7)) (success 1)
      ∷ with (call.HandleStunMessageWithTime (peer 7) 6) (success 2)
      ∷ plain (call.ValidatedPeer (peer 7))
      ∷ plain call.RttAverage
      ∷ plain call.OutstandingRequests
      ∷ plain (call.RequestTransaction (ending 1))
      ∷ plain (call.Poll 5)
      ∷ [])
      ≡ (answer.Refused Settings
      ∷ answer.Refused NoRequest
      ∷ answer.Refused Clock
      ∷ answer.None
      ∷ answer.Refused Clock
      ∷ answer.Refused TooLong
      ∷ answer.Refused BadMessage
      ∷ answer.Refused WrongClass
      ∷ answer.Refused WrongClass
      ∷ goes
      ∷ answer.Refused InProgress
      ∷ answer.Refused TableFull
      ∷ answer.Refused NoRequest
      ∷ answer.Refused PeersFull
      ∷ answer.No
      ∷ answer.Refused PeersFull
      ∷ answer.Refused NoStats
      ∷ answer.Refused NoStats
      ∷ answer.Request (peer 9) None
      ∷ answer.Refused Clock
      ∷ [])
  pub refused_counts :
      answers 1 (recorded (figures 1 1 1 0 0 0)) (plain call.OutstandingRequests ∷ plain call.Reset ∷ plain call.OutstandingRequests ∷ [])
      ≡ (answer.Refused Counts ∷ answer.Ok ∷ answer.Outstanding 0 ∷ [])
  -- Cancelled retransmissions and cancel; peers; one request timed out, one cancelled, one answered with a round trip of 7.
  pub silenced :
      answers 1 (start 1 0 false (settings 500 2 8000)) (
      with (call.SendRequest (peer 9) 0) (request 1)
      ∷ plain (call.CancelRetransmissions (ending 1))
      ∷ plain (call.Poll 0)
      ∷ again 500
      ∷ plain (call.Poll (milliseconds 500))
      ∷ [])
      ≡ (goes ∷ answer.Ok ∷ answer.Wait (milliseconds 500) ∷ answer.None ∷ answer.Cancelled (ending 1) ∷ [])
  pub cancelled :
      answers 1 (start 1 0 false (settings 500 1 8000)) (
      with (call.SendRequest (peer 9) 0) (request 1)
      ∷ plain (call.Cancel (ending 1))
      ∷ plain (call.Poll (milliseconds 9000))
      ∷ plain (call.Cancel (ending 1))
      ∷ [])
      ≡ (goes ∷ answer.Ok ∷ answer.Cancelled (ending 1) ∷ answer.Refused NoRequest ∷ [])
  pub met :
      answers 1 (start 1 1 false default_rto) (
      plain (call.IsValidatedPeer (peer 7))
      ∷ with (call.HandleStunMessage (peer 7)) (message 0x0001 3 (0 ∷ 8 ∷ 0 ∷ 0 ∷ []))
      ∷ plain (call.IsValidatedPeer (peer 7))
      ∷ with (call.HandleStunMessage (peer 7)) (indication 3)
      ∷ with (call.HandleStunMessage (peer 8)) (indication 3)
      ∷ with (call.SendRequest (peer 9) 0) (message 0x0001 1 (0 ∷ 8 ∷ 0 ∷ 0 ∷ []))
      ∷ with (call.HandleStunMessage (peer 7)) (request 1)
      ∷ plain (call.RequestTransaction (ending 1))
      ∷ [])
      ≡ (answer.No
      ∷ answer.Yes
      ∷ answer.Yes
      ∷ answer.Yes
      ∷ answer.Refused PeersFull
      ∷ answer.Send (ending 1) (peer 9) 0 24
      ∷ answer.Yes
      ∷ answer.Request (peer 9) (Some Sha1)
      ∷ [])
  pub counted :
      answers 3 (start 3 1 true (settings 500 1 8000)) (
      with (call.SendRequest (peer 9) 0) (request 3)
      ∷ with (call.SendRequest (peer 9) 1) (request 2)
      ∷ with (call.SendRequest (peer 9) 2) (request 1)
      ∷ plain (call.Cancel (ending 2))
      ∷ plain call.OutstandingRequests
      ∷ with (call.HandleStunMessageWithTime (peer 7) 9) (success 1)
      ∷ plain (call.Poll (milliseconds 8000))
      ∷ plain (call.Poll (milliseconds 8000))
      ∷ plain call.RttAverage
      ∷ plain call.OutstandingRequests
      ∷ plain call.Stats
      ∷ [])
      ≡ (answer.Send (ending 3) (peer 9) 0 20
      ∷ answer.Send (ending 2) (peer 9) 1 20
      ∷ answer.Send (ending 1) (peer 9) 2 20
      ∷ answer.Ok
      ∷ answer.Outstanding 3
      ∷ answer.Yes
      ∷ answer.Cancelled (ending 2)
      ∷ answer.TimedOut (ending 3)
      ∷ answer.Average (Some 7)
      ∷ answer.Outstanding 0
      ∷ answer.Stats (record {
        requests_sent = 3;
        requests_received = 0;
        responses_sent = 0;
        responses_received = 1;
        indications_sent = 0;
        indications_received = 0;
        transactions_timed_out = 1;
        transactions_cancelled = 1;
        bytes_sent = 60;
        bytes_received = 20;
        rtt_sum = 7;
        rtt_min = Some 7;
        rtt_max = Some 7;
        rtt_count = 1;
      })
      ∷ [])
