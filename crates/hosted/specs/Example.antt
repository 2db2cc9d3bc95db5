-- A session that meets all that is asked of one with a request in it: the request is submitted to an agent whose settings were left unset, a
-- round is played, and a response is handed over.
use Rattle.std.specs.Prelude.{◌≡◌, false, List, [], ◌∷◌, replicate}
use Rattle.waits.specs.Waits.{milliseconds, default_rto}
use Rattle.waits.specs.declared.Transport.TheVariants.{Udp}
use Rattle.stats.specs.Count.{zeroed}
use Rattle.records.specs.Coding.{size}
use Rattle.model.specs.Fresh.{unset, fresh_agent}
use Rattle.model.specs.Worked.{peer, ending, request, success}
use Rattle.model.specs.Runs.{Turn, with}
use Rattle.model.specs.declared.Call.TheVariants as call
use Rattle.model.specs.declared.Answer.{Answer}
use Rattle.model.specs.declared.Answer.TheVariants as answer
use Rattle.agent.specs.Said.{said_in, words_in}
use Rattle.runs.specs.Run.{kind_in}
use Rattle.runs.specs.Round.{transmission, poll, plays}
use Rattle.runs.specs.Demand.{Submission, submits}
use Rattle.hosted.specs.Session.{Owned, world_in, Calls, Submitted, saw}
use Rattle.hosted.specs.Rounds.{Plays}
use Rattle.hosted.specs.Unset.{UnsetWaits}
use Rattle.hosted.specs.Row.{RowKept}

-- What a host owns after a call.
abbrev pub after : Owned → Turn → Owned
after o t = record {
  agent = (said_in o.table (world_in o) (kind_in t) t.bytes).world.agent;
  table = words_in o.table (world_in o) (kind_in t) t.bytes;
  store = (said_in o.table (world_in o) (kind_in t) t.bytes).world.store;
  peers = (said_in o.table (world_in o) (kind_in t) t.bytes).world.peers;
  stats = (said_in o.table (world_in o) (kind_in t) t.bytes).world.stats;
}

abbrev pub answer_to : Owned → Turn → Answer
answer_to o t = (said_in o.table (world_in o) (kind_in t) t.bytes).answer

-- A table and a store of 32 rows, and a place for one peer.
abbrev pub begun : Owned
begun = record {
  agent = fresh_agent Udp false default_rto;
  table = replicate size 0;
  store = replicate 32768 0;
  peers = peer 0 ∷ [];
  stats = zeroed;
}

-- The request with the identifier 1, at clock 0.
abbrev pub asked : Submission
asked = record { to = peer 9; now = 0; bytes = request 1 }

-- Then a round at the same clock, and a response from another address than the one asked.
abbrev pub round : List Turn
round = transmission 0 ∷ poll 0 ∷ []

abbrev pub response : Turn
response = with (call.HandleStunMessage (peer 5)) (success 1)

-- After the submission, and after each call of the round.
abbrev pub sent : Owned
sent = after begun (submits asked)

abbrev pub transmitted : Owned
transmitted = after sent (transmission 0)

abbrev pub polled : Owned
polled = after transmitted (poll 0)

pub record Values : Type 0 where
  pub session : Submitted 1 (unset Udp) zeroed begun [] asked round
  pub plays_rounds : Plays session [] (plays 0 ∷ [])
  pub answer_is : session.answer ≡ answer.Send (ending 1) (peer 9) 0 20
  pub replies_are : session.replies ≡ answer.None ∷ answer.Wait (milliseconds 500) ∷ []
  -- `unset_waits` and `row_kept`, of that session
  pub waits : UnsetWaits 1 0 (saw session) (0 ∷ []) session.last
  pub keeps_its_row : RowKept 1 asked 0 20 session.last
  pub yes : Calls session.last response answer.Yes (after session.last response)
