-- A run that meets every kind of event, and what the definitions of this crate make of it: the hypotheses can be met, and each count,
-- sum, sample and end has the value that one finds by hand.
use Rattle.model.specs.declared.Refusal.TheVariants.{TableFull}
use Rattle.std.specs.Prelude.{ℕ, ◌+◌, ◌≡◌, true, List, [], ◌∷◌, map, length, take, replicate, Some}
use Rattle.waits.specs.Waits.{milliseconds}
use Rattle.waits.specs.declared.Transport.TheVariants.{Udp}
use Rattle.stats.specs.Count.{zeroed}
use Rattle.stats.specs.declared.StunAgentStats.{StunAgentStats}
use Rattle.model.specs.Parts.{transmission_of}
use Rattle.model.specs.Runs.{Turn, with, plain, answers, run}
use Rattle.model.specs.Worked.{peer, ending, message, request, indication, success, settings}
use Rattle.model.specs.declared.Call.TheVariants as call
use Rattle.model.specs.declared.Answer.TheVariants as answer
use Rattle.runs.specs.Demand.{Start, begins, Submission, submits}
use Rattle.runs.specs.Counts.{Exchange, history, requests_sent, requests_received, responses_sent, responses_received, indications_sent, indications_received, timed_out, cancelled, bytes_sent, bytes_received, total}
use Rattle.runs.specs.Ends.{endings, acceptances}
use Rattle.runs.specs.Samples.{samples}

-- A fresh agent with statistics, three rows and two places for peers; 500 ms, R = 2, 8,000 ms at the end.
abbrev pub agent : Start
agent = record {
  transport = Udp;
  stats = true;
  rto = settings 500 2 8000;
  store = replicate 3072 0;
  peers = replicate 2 (peer 0);
  counters = zeroed;
}

-- The request 2, with four bytes behind its head, to an address of its own.
abbrev pub second : Submission
second = record { to = peer 8; now = 0; bytes = message 0x0001 2 (0 ∷ 8 ∷ 0 ∷ 0 ∷ []) }

-- The request 3.
abbrev pub third : Submission
third = record { to = peer 9; now = 0; bytes = request 3 }

-- An error response.
abbrev pub error : ℕ → List ℕ
error n = message 0x0111 n []

abbrev pub calls : List Turn
calls =
    -- three requests, and one that the table has no row for
    with (call.SendRequest (peer 9) 0) (request 1)
    ∷ submits second
    ∷ submits third
    ∷ with (call.SendRequest (peer 9) 0) (request 4)
    -- other messages out and in
    ∷ with (call.Send (peer 9)) (indication 9)
    ∷ with (call.Send (peer 9)) (success 9)
    ∷ with (call.HandleStunMessage (peer 7)) (request 5)
    ∷ with (call.HandleStunMessage (peer 7)) (indication 5)
    -- a response with a round trip of 7, and the same again, which is no longer accepted
    ∷ with (call.HandleStunMessageWithTime (peer 7) 7) (success 3)
    ∷ with (call.HandleStunMessageWithTime (peer 7) 8) (success 3)
    -- a silent step of request 1 on the way to a send of request 2; request 1 is answered without a sample
    ∷ plain (call.CancelRetransmissions (ending 1))
    ∷ plain (call.PollTransmit (milliseconds 500))
    ∷ plain (call.PollTransmit (milliseconds 500))
    ∷ with (call.HandleStunMessageWithTime (peer 7) (milliseconds 500 + 9)) (success 1)
    -- an error response with a round trip of 11
    ∷ with (call.SendRequest (peer 9) (milliseconds 600)) (request 1)
    ∷ with (call.HandleStunMessageWithTime (peer 7) (milliseconds 600 + 11)) (error 1)
    -- cancelled; timed out; still in the table
    ∷ with (call.SendRequest (peer 9) (milliseconds 700)) (request 4)
    ∷ plain (call.Cancel (ending 4))
    ∷ plain (call.Poll (milliseconds 700))
    ∷ plain (call.Poll (milliseconds 8500))
    ∷ with (call.SendRequest (peer 9) (milliseconds 8500)) (request 6)
    ∷ plain call.OutstandingRequests
    ∷ []

abbrev pub seen : List Exchange
seen = history 3 (begins agent) calls

abbrev pub figures : StunAgentStats
figures = record {
  requests_sent = 6;
  requests_received = 1;
  responses_sent = 1;
  responses_received = 3;
  indications_sent = 1;
  indications_received = 1;
  transactions_timed_out = 1;
  transactions_cancelled = 1;
  bytes_sent = 188;
  bytes_received = 100;
  rtt_sum = 18;
  rtt_min = Some 7;
  rtt_max = Some 11;
  rtt_count = 2;
}

pub record Values : Type 0 where
  pub answers_are :
      answers 3 (begins agent) calls
      ≡ (answer.Send (ending 1) (peer 9) 0 20
      ∷ answer.Send (ending 2) (peer 8) 1 24
      ∷ answer.Send (ending 3) (peer 9) 2 20
      ∷ answer.Refused TableFull
      ∷ answer.Ok
      ∷ answer.Ok
      ∷ answer.Yes
      ∷ answer.Yes
      ∷ answer.Yes
      ∷ answer.No
      ∷ answer.Ok
      ∷ answer.Send (ending 2) (peer 8) 1 24
      ∷ answer.None
      ∷ answer.Yes
      ∷ answer.Send (ending 1) (peer 9) 0 20
      ∷ answer.Yes
      ∷ answer.Send (ending 4) (peer 9) 0 20
      ∷ answer.Ok
      ∷ answer.Cancelled (ending 4)
      ∷ answer.TimedOut (ending 2)
      ∷ answer.Send (ending 6) (peer 9) 0 20
      ∷ answer.Outstanding 1
      ∷ [])
  -- the record, and the same numbers by the calls and answers
  pub record_is : (run 3 (begins agent) calls).stats ≡ figures
  pub counts_are :
      map (λ f. total f seen) (
      requests_sent
      ∷ requests_received
      ∷ responses_sent
      ∷ responses_received
      ∷ indications_sent
      ∷ indications_received
      ∷ timed_out
      ∷ cancelled
      ∷ bytes_sent
      ∷ bytes_received
      ∷ [])
      ≡ (6 ∷ 1 ∷ 1 ∷ 3 ∷ 1 ∷ 1 ∷ 1 ∷ 1 ∷ 188 ∷ 100 ∷ [])
  pub samples_are : samples agent.transport agent.rto seen ≡ (7 ∷ 11 ∷ [])
  pub in_the_table : length (run 3 (begins agent) calls).requests ≡ 1
  -- how often the requests 1, 2, 4 and 6 were accepted and ended
  pub acceptances_are : map (λ x. acceptances x seen) (1 ∷ 2 ∷ 4 ∷ 6 ∷ []) ≡ (2 ∷ 1 ∷ 1 ∷ 1 ∷ [])
  pub endings_are : map (λ x. endings x seen) (1 ∷ 2 ∷ 4 ∷ 6 ∷ []) ≡ (2 ∷ 1 ∷ 1 ∷ 0 ∷ [])
  -- the bytes of request 2 at its second send, and of the new request 6
  pub bytes_again : transmission_of 3 (run 3 (begins agent) (take 12 calls)) 1 24 ≡ second.bytes
  pub bytes_new : transmission_of 3 (run 3 (begins agent) calls) 0 20 ≡ request 6
