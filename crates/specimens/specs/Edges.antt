-- Worked values for every clause of every refusal: a world, a call or a message at each limit of document 01, which isn't refused by that
-- clause, and one just past it, which is; and the same for the other numbers of waits, polls and statistics. A definition with another number passes every proof together with code that follows it; it
-- doesn't pass these.
use Rattle.model.specs.declared.Refusal.{Refusal}
use Rattle.stats.specs.declared.Event.{Event}
use Rattle.model.specs.declared.Refusal.TheVariants.{NoRequest}
use Rattle.request.specs.Times.{sent_times}
use Rattle.std.specs.Prelude.{ℕ, zero, suc, ◌+◌, ◌-◌, ◌/◌, ◌%◌, ◌^◌, ◌≡◌, Bool, true, false, List, [], ◌∷◌, ◌++◌, map, length, take, drop, replicate, None, Option, Result, Ok, Err, Some}
use Rattle.message.specs.declared.TransactionId.{TransactionId}
use Rattle.waits.specs.Waits.{default_rto, waits_of, wait_of, final_wait}
use Rattle.waits.specs.declared.RequestRto.{RequestRto}
use Rattle.waits.specs.declared.Transport.TheVariants.{Udp, Tcp}
use Rattle.stats.specs.Count.{zeroed, counted}
use Rattle.stats.specs.declared.StunAgentStats.{StunAgentStats}
use Rattle.stats.specs.declared.Event.TheVariants as event
use Rattle.request.specs.declared.SendTimes.{SendTimes}
use Rattle.request.specs.declared.StunRequestState.{StunRequestState}
use Rattle.model.specs.World.{World}
use Rattle.model.specs.Calls.{kind_of}
use Rattle.model.specs.Refusals.{refusal_of, number_of}
use Rattle.model.specs.Fresh.{build_of}
use Rattle.model.specs.Runs.{with, plain, answers, run}
use Rattle.model.specs.Worked.{peer, ending, message, request, indication, success, start, figures}
use Rattle.model.specs.declared.StunAgent.{StunAgent}
use Rattle.model.specs.declared.Call.{Call}
use Rattle.model.specs.declared.Call.TheVariants as call
use Rattle.model.specs.declared.Answer.{Answer}
use Rattle.model.specs.declared.Answer.TheVariants as answer
use Rattle.specimens.specs.Specimens.{settings}

-- ---- worlds

-- A request with its identifier, row, length, settings, step count and times.
abbrev pub entry : TransactionId → ℕ → ℕ → RequestRto → ℕ → Option SendTimes → StunRequestState
entry id row len rto count times = record {
  transaction_id = id;
  request_integrity = None;
  row = row;
  len = len;
  to = peer 9;
  rto = rto;
  recv_cancelled = false;
  send_cancelled = false;
  timeout_i = count;
  send_times = times;
}

-- One that is within all limits at the mark 9: sent at 5 and again at 7.
abbrev pub placed : TransactionId → ℕ → StunRequestState
placed id row = entry id row 20 default_rto 1 (sent_times 5 7)

abbrev pub usual : ℕ → StunRequestState
usual n = placed (ending n) n

-- An agent by its mark, its counts of requests and of peers, its settings, and whether statistics are on.
abbrev pub agent_of : ℕ → ℕ → ℕ → RequestRto → Bool → StunAgent
agent_of mark requests peers rto stats = record { transport = Udp; stats = stats; rto = rto; mark = mark; requests = requests; peers = peers }

-- An agent with these requests, a store of so many bytes, three places for peers, and a statistics record.
abbrev pub world_of : StunAgent → List StunRequestState → ℕ → StunAgentStats → World
world_of a l bytes st = record {
  agent = a;
  requests = l;
  store = replicate bytes 0;
  peers = peer 5 ∷ peer 6 ∷ peer 7 ∷ [];
  stats = st;
}

-- These requests, at the mark 9, with two validated peers and statistics on.
abbrev pub holding : List StunRequestState → World
holding l = world_of (agent_of 9 (length l) 2 default_rto true) l 32768 zeroed

-- The requests 0 to n - 1, each in its row.
abbrev pub filled_to : ℕ → List StunRequestState → List StunRequestState
filled_to zero l = l
filled_to (suc n) l = filled_to n (usual n ∷ l)

abbrev pub filled : ℕ → World
filled n = holding (filled_to n [])

-- The number that a call is refused by, 0 for none.
abbrev pub numbered : Option Refusal → ℕ
numbered None = 0
numbered (Some q) = number_of q

abbrev pub number : World → Call → List ℕ → ℕ
number w c m = numbered (refusal_of 32 w (kind_of c) m)

-- That of a call which only refusal 1 can refuse.
abbrev pub state : World → ℕ
state w = number w (call.IsValidatedPeer (peer 5)) []

-- That of a state with one request.
abbrev pub one : StunRequestState → ℕ
one r = state (holding (r ∷ []))

-- Settings with a number in the place of the initial wait, the maximum and the final wait.
abbrev pub spots : ℕ → List RequestRto
spots n = settings n 9 1 9 ∷ settings 9 n 1 9 ∷ settings 9 9 1 n ∷ []

-- ---- refusal 1

-- Each list begins with what is within the limit, and ends with what is just past it.
pub record State : Type 0 where
  -- "store too short"
  pub store : map (λ n. state (world_of (agent_of 9 0 2 default_rto true) [] n zeroed)) (32768 ∷ 32767 ∷ []) ≡ (0 ∷ 1 ∷ [])
  -- "peer count above the lent list", of three places
  pub places : map (λ n. state (world_of (agent_of 9 0 n default_rto true) [] 32768 zeroed)) (0 ∷ 3 ∷ 4 ∷ []) ≡ (0 ∷ 0 ∷ 1 ∷ [])
  -- the agent's count of its requests
  pub counted : map (λ n. state (world_of (agent_of 9 n 2 default_rto true) (usual 1 ∷ []) 32768 zeroed)) (1 ∷ 0 ∷ 2 ∷ []) ≡ (0 ∷ 1 ∷ 1 ∷ [])
  -- "mark at most 2^60"
  pub mark : map (λ n. state (world_of (agent_of n 0 2 default_rto true) [] 32768 zeroed)) (2 ^ 60 ∷ (2 ^ 60 + 1) ∷ []) ≡ (0 ∷ 1 ∷ [])
  -- "settings within limits", the agent's: R, then initial, maximum and final wait
  pub count_set : map (λ n. state (world_of (agent_of 9 0 2 (settings 9 9 n 9) true) [] 32768 zeroed)) (0 ∷ 33 ∷ 34 ∷ []) ≡ (0 ∷ 0 ∷ 1 ∷ [])
  pub durations_within : map (λ s. state (world_of (agent_of 9 0 2 s true) [] 32768 zeroed)) (spots (2 ^ 61)) ≡ (0 ∷ 0 ∷ 0 ∷ [])
  pub durations_past : map (λ s. state (world_of (agent_of 9 0 2 s true) [] 32768 zeroed)) (spots (2 ^ 61 + 1)) ≡ (1 ∷ 1 ∷ 1 ∷ [])
  -- "at most 32 requests": the 33rd has no row below 32 that is free
  pub table : map (λ n. state (filled n)) (31 ∷ 32 ∷ 33 ∷ []) ≡ (0 ∷ 0 ∷ 1 ∷ [])
  -- "in ascending order of identifier", the first byte heaviest
  pub ascending : state (holding (usual 1 ∷ usual 2 ∷ [])) ≡ 0
  pub falling : state (holding (usual 2 ∷ usual 1 ∷ [])) ≡ 1
  pub twice : state (holding (usual 1 ∷ placed (ending 1) 2 ∷ [])) ≡ 1
  pub heaviest_first : state (holding (placed (record { hi = 0; lo = 255 }) 0 ∷ placed (record { hi = 1; lo = 0 }) 1 ∷ [])) ≡ 0
  pub heaviest_last : state (holding (placed (record { hi = 1; lo = 0 }) 0 ∷ placed (record { hi = 0; lo = 255 }) 1 ∷ [])) ≡ 1
  -- "different rows"
  pub rows_apart : map (λ n. state (holding (usual 1 ∷ placed (ending 2) n ∷ []))) (2 ∷ 1 ∷ []) ≡ (0 ∷ 1 ∷ [])
  -- "below 32"
  pub row : map (λ n. one (placed (ending 1) n)) (0 ∷ 31 ∷ 32 ∷ []) ≡ (0 ∷ 0 ∷ 1 ∷ [])
  -- "lengths 20 to 1,024"
  pub len : map (λ n. one (entry (ending 1) 0 n default_rto 1 (sent_times 5 7))) (20 ∷ 1024 ∷ 19 ∷ 1025 ∷ []) ≡ (0 ∷ 0 ∷ 1 ∷ 1 ∷ [])
  -- "settings within limits", a request's
  pub own_count_set : map (λ n. one (entry (ending 1) 0 20 (settings 9 9 n 9) 1 (sent_times 5 7))) (0 ∷ 33 ∷ 34 ∷ []) ≡ (0 ∷ 0 ∷ 1 ∷ [])
  pub own_durations_within : map (λ s. one (entry (ending 1) 0 20 s 1 (sent_times 5 7))) (spots (2 ^ 61)) ≡ (0 ∷ 0 ∷ 0 ∷ [])
  pub own_durations_past : map (λ s. one (entry (ending 1) 0 20 s 1 (sent_times 5 7))) (spots (2 ^ 61 + 1)) ≡ (1 ∷ 1 ∷ 1 ∷ [])
  -- "step count at most 32"
  pub steps : map (λ n. one (entry (ending 1) 0 20 default_rto n (sent_times 5 7))) (0 ∷ 32 ∷ 33 ∷ []) ≡ (0 ∷ 0 ∷ 1 ∷ [])
  -- "first and last send both present or both absent, not above the mark", which is 9, "first not above last"
  pub unsent : one (entry (ending 1) 0 20 default_rto 0 None) ≡ 0
  pub last_send : map (λ n. one (entry (ending 1) 0 20 default_rto 1 (sent_times 5 n))) (5 ∷ 9 ∷ 10 ∷ []) ≡ (0 ∷ 0 ∷ 1 ∷ [])
  pub first_send : map (λ n. one (entry (ending 1) 0 20 default_rto 1 (sent_times n 7))) (7 ∷ 8 ∷ []) ≡ (0 ∷ 1 ∷ [])

-- ---- the other refusals

-- The request 1 outstanding; and the same with no place free for a peer.
abbrev pub stocked : World
stocked = holding (usual 1 ∷ [])

abbrev pub crowded : World
crowded = world_of (agent_of 9 1 3 default_rto true) (usual 1 ∷ []) 32768 zeroed

-- These numbers of requests sent, answered, timed out and cancelled in the statistics record, with statistics on or off.
abbrev pub tallied : ℕ → ℕ → ℕ → ℕ → Bool → World
tallied sent answered timed cancelled on = world_of (agent_of 9 0 2 default_rto on) [] 32768 (figures sent answered timed cancelled 60 20)

-- The number in what `build` answers, 0 for a fresh agent.
abbrev pub built_number : Result (StunAgent × Event) Refusal → ℕ
built_number (Err q) = number_of q
built_number (Ok (a, e)) = 0

abbrev pub building : RequestRto → ℕ
building s = built_number (build_of (record { transport = Udp; rto = s; stats = false }))

-- A body of n bytes, all of it one attribute that nobody knows.
abbrev pub filler : ℕ → List ℕ
filler n = 0x80 ∷ 0x22 ∷ (n - 4) / 256 ∷ (n - 4) % 256 ∷ replicate (n - 4) 0

-- The same bytes with another one at a place.
abbrev pub altered : List ℕ → ℕ → ℕ → List ℕ
altered m i b = take i m ++ (b ∷ drop (i + 1) m)

-- The four types of document 01.
abbrev pub types : List ℕ
types = 0x0001 ∷ 0x0011 ∷ 0x0101 ∷ 0x0111 ∷ []

-- The five calls that name a request.
abbrev pub naming : ℕ → List Call
naming n =
    call.CancelRetransmissions (ending n)
    ∷ call.Cancel (ending n)
    ∷ call.ConfigureTimeout (ending n) 9 1 9
    ∷ call.ConfigureTimeoutWithMax (ending n) (settings 9 9 1 9)
    ∷ call.RequestTransaction (ending n)
    ∷ []

-- The four that ask for statistics.
abbrev pub asking : List Call
asking = call.Stats ∷ call.RttAverage ∷ call.OutstandingRequests ∷ call.Reset ∷ []

pub record Numbers : Type 0 where
  -- 2: "R above 33 or a duration above 2^61", by configure, its short form, and `build`
  pub configured : map (λ n. number stocked (call.ConfigureTimeoutWithMax (ending 1) (settings 9 9 n 9)) []) (33 ∷ 34 ∷ []) ≡ (0 ∷ 2 ∷ [])
  pub configured_within : map (λ s. number stocked (call.ConfigureTimeoutWithMax (ending 1) s) []) (spots (2 ^ 61)) ≡ (0 ∷ 0 ∷ 0 ∷ [])
  pub configured_past : map (λ s. number stocked (call.ConfigureTimeoutWithMax (ending 1) s) []) (spots (2 ^ 61 + 1)) ≡ (2 ∷ 2 ∷ 2 ∷ [])
  pub short : map (λ n. number stocked (call.ConfigureTimeout (ending 1) 9 n 9) []) (33 ∷ 34 ∷ []) ≡ (0 ∷ 2 ∷ [])
  pub short_initial : map (λ n. number stocked (call.ConfigureTimeout (ending 1) n 1 9) []) (2 ^ 61 ∷ (2 ^ 61 + 1) ∷ []) ≡ (0 ∷ 2 ∷ [])
  pub short_last : map (λ n. number stocked (call.ConfigureTimeout (ending 1) 9 1 n) []) (2 ^ 61 ∷ (2 ^ 61 + 1) ∷ []) ≡ (0 ∷ 2 ∷ [])
  pub built_with : map (λ n. building (settings 9 9 n 9)) (33 ∷ 34 ∷ []) ≡ (0 ∷ 2 ∷ [])
  pub built_within : map building (spots (2 ^ 61)) ≡ (0 ∷ 0 ∷ 0 ∷ [])
  pub built_past : map building (spots (2 ^ 61 + 1)) ≡ (2 ∷ 2 ∷ 2 ∷ [])
  -- 3: "above 2^60, or below the highest clock that an unrefused call carried", which is 9
  pub polled_at : map (λ n. number stocked (call.Poll n) []) (9 ∷ 2 ^ 60 ∷ 8 ∷ (2 ^ 60 + 1) ∷ []) ≡ (0 ∷ 0 ∷ 3 ∷ 3 ∷ [])
  pub transmitted_at : map (λ n. number stocked (call.PollTransmit n) []) (9 ∷ 2 ^ 60 ∷ 8 ∷ (2 ^ 60 + 1) ∷ []) ≡ (0 ∷ 0 ∷ 3 ∷ 3 ∷ [])
  pub submitted_at : map (λ n. number stocked (call.SendRequest (peer 9) n) (request 2)) (9 ∷ 2 ^ 60 ∷ 8 ∷ (2 ^ 60 + 1) ∷ []) ≡ (0 ∷ 0 ∷ 3 ∷ 3 ∷ [])
  pub received_at :
      map (λ n. number stocked (call.HandleStunMessageWithTime (peer 5) n) (indication 2)) (9 ∷ 2 ^ 60 ∷ 8 ∷ (2 ^ 60 + 1) ∷ [])
      ≡ (0 ∷ 0 ∷ 3 ∷ 3 ∷ [])
  -- 4: "`send_request` with more than 1,024 bytes", whatever they are, and no other call
  pub submitted_length : map (λ n. number stocked (call.SendRequest (peer 9) 9) (message 0x0001 2 (filler n))) (1004 ∷ 1008 ∷ []) ≡ (0 ∷ 4 ∷ [])
  pub submitted_rubbish : map (λ n. number stocked (call.SendRequest (peer 9) 9) (replicate n 0)) (1024 ∷ 1025 ∷ []) ≡ (5 ∷ 4 ∷ [])
  pub sent_length : number stocked (call.Send (peer 9)) (message 0x0011 2 (filler 1008)) ≡ 0
  pub received_length : number stocked (call.HandleStunMessage (peer 5)) (message 0x0011 2 (filler 1008)) ≡ 0
  -- 5: "twenty bytes", "the two top bits of the type are zero", "the length is a multiple of 4, and the message has 20 + length bytes
  -- exactly", "cookie 0x2112A442"; an attribute "that passes the end makes the message bad", and so does its padding
  pub good :
      map (number stocked (call.HandleStunMessage (peer 5)))
      (indication 2 ∷ message 0x3EEF 2 [] ∷ message 0x0011 2 (filler 8) ∷ message 0x0011 2 (0 ∷ 6 ∷ 0 ∷ 3 ∷ 1 ∷ 2 ∷ 3 ∷ 9 ∷ []) ∷ [])
      ≡ (0 ∷ 0 ∷ 0 ∷ 0 ∷ [])
  pub bad_head :
      map (number stocked (call.HandleStunMessage (peer 5)))
      ([]
      ∷ take 19 (indication 2)
      ∷ message 0x4011 2 []
      ∷ message 0x8011 2 []
      ∷ message 0x0011 2 (0 ∷ 0 ∷ [])
      ∷ (indication 2 ++ (0 ∷ []))
      ∷ take 27 (message 0x0011 2 (filler 8))
      ∷ altered (indication 2) 4 0x20
      ∷ altered (indication 2) 5 0x13
      ∷ altered (indication 2) 6 0xA5
      ∷ altered (indication 2) 7 0x43
      ∷ [])
      ≡ replicate 11 5
  pub bad_attribute :
      map (λ n. number stocked (call.HandleStunMessage (peer 5)) (message 0x0011 2 (0 ∷ 6 ∷ 0 ∷ n ∷ 1 ∷ 2 ∷ 3 ∷ 4 ∷ []))) (1 ∷ 4 ∷ 5 ∷ 8 ∷ [])
      ≡ (0 ∷ 0 ∷ 5 ∷ 5 ∷ [])
  pub bad_for_all :
      map (λ c. number stocked c (take 19 (indication 2))) (call.SendRequest (peer 9) 9 ∷ call.Send (peer 9) ∷ call.HandleStunMessageWithTime (peer 5) 9 ∷ [])
      ≡ (5 ∷ 5 ∷ 5 ∷ [])
  -- 6: "`send_request` with another class; `send` with a request"
  pub submitted_class : map (λ t. number stocked (call.SendRequest (peer 9) 9) (message t 2 [])) types ≡ (0 ∷ 6 ∷ 6 ∷ 6 ∷ [])
  pub sent_class : map (λ t. number stocked (call.Send (peer 9)) (message t 2 [])) types ≡ (6 ∷ 0 ∷ 0 ∷ 0 ∷ [])
  pub received_class : map (λ t. number stocked (call.HandleStunMessage (peer 5)) (message t 2 [])) types ≡ (0 ∷ 0 ∷ 0 ∷ 0 ∷ [])
  -- 7: "`send_request` of an identifier outstanding"
  pub in_progress_lem : map (λ n. number stocked (call.SendRequest (peer 9) 9) (request n)) (0 ∷ 1 ∷ 2 ∷ []) ≡ (0 ∷ 7 ∷ 0 ∷ [])
  pub sent_in_progress : number stocked (call.Send (peer 9)) (indication 1) ≡ 0
  -- 8: "`send_request` while 32 requests are outstanding"
  pub table_full_lem : map (λ n. number (filled n) (call.SendRequest (peer 9) 9) (request 99)) (31 ∷ 32 ∷ []) ≡ (0 ∷ 8 ∷ [])
  pub others_full : number (filled 32) (call.Send (peer 9)) (indication 99) ≡ 0
  -- 9: "cancel, configure or query of an identifier not outstanding"
  pub outstanding : map (λ c. number stocked c []) (naming 1) ≡ replicate 5 0
  pub not_outstanding : map (λ c. number stocked c []) (naming 2) ≡ replicate 5 9
  -- 10: "a new address to be validated, and no free place in the list"; a response that isn't accepted validates nobody
  pub new_peer_lem : map (λ w. number w (call.ValidatedPeer (peer 8)) []) (stocked ∷ crowded ∷ []) ≡ (0 ∷ 10 ∷ [])
  pub known_peer : map (λ w. number w (call.ValidatedPeer (peer 6)) []) (stocked ∷ crowded ∷ []) ≡ (0 ∷ 0 ∷ [])
  pub new_sender : map (λ w. number w (call.HandleStunMessage (peer 8)) (indication 2)) (stocked ∷ crowded ∷ []) ≡ (0 ∷ 10 ∷ [])
  pub known_sender : map (λ w. number w (call.HandleStunMessage (peer 6)) (indication 2)) (stocked ∷ crowded ∷ []) ≡ (0 ∷ 0 ∷ [])
  pub new_responder : map (λ n. number crowded (call.HandleStunMessage (peer 8)) (success n)) (1 ∷ 2 ∷ []) ≡ (10 ∷ 0 ∷ [])
  pub asked_peer : number crowded (call.IsValidatedPeer (peer 8)) [] ≡ 0
  -- 11: "statistics asked for or reset while off"
  pub stats_on : map (λ c. number (tallied 3 1 1 1 true) c []) asking ≡ replicate 4 0
  pub stats_off : map (λ c. number (tallied 3 1 1 1 false) c []) asking ≡ replicate 4 11
  -- 12: "the query for the outstanding count finds it below zero"
  pub below_zero :
      map (λ w. number w call.OutstandingRequests [])
      (tallied 3 1 1 1 true ∷ tallied 2 1 1 1 true ∷ tallied 0 1 0 0 true ∷ tallied 0 0 1 0 true ∷ tallied 0 0 0 1 true ∷ [])
      ≡ (0 ∷ 12 ∷ 12 ∷ 12 ∷ 12 ∷ [])
  pub others_below_zero : map (λ c. number (tallied 2 1 1 1 true) c []) asking ≡ (0 ∷ 0 ∷ 12 ∷ 0 ∷ [])

-- ---- what only a run shows

pub record Held : Type 0 where
  -- A reset while statistics are off leaves the record; while they are on it zeroes it.
  pub reset_off : run 32 (tallied 3 1 1 1 false) (plain call.Reset ∷ []) ≡ tallied 3 1 1 1 false
  pub reset_on : (run 32 (tallied 3 1 1 1 true) (plain call.Reset ∷ [])).stats ≡ zeroed
  -- A cancelled request is outstanding until `poll` reports it.
  pub cancelled : answers 32 stocked (plain (call.Cancel (ending 1)) ∷ (map plain (naming 1) ++ (plain (call.Poll 9) ∷ map plain (naming 1))))
      ≡ (answer.Ok
      ∷ answer.Ok
      ∷ answer.Ok
      ∷ answer.Ok
      ∷ answer.Ok
      ∷ answer.Request (peer 9) None
      ∷ answer.Cancelled (ending 1)
      ∷ replicate 5 (answer.Refused NoRequest))
  -- The short form of configure takes 2^61 as maximum, the other the one that it is given.
  pub short_form_lem :
      map (λ r. r.rto) (run 32 stocked (plain (call.ConfigureTimeout (ending 1) 3 4 5) ∷ [])).requests ≡ (settings 3 (2 ^ 61) 4 5 ∷ [])
  pub long_form :
      map (λ r. r.rto) (run 32 stocked (plain (call.ConfigureTimeoutWithMax (ending 1) (settings 3 6 4 5)) ∷ [])).requests ≡ (settings 3 6 4 5 ∷ [])

-- ---- other numbers

-- A request submitted at 0 with this initial wait, and what a poll at 0 then answers.
abbrev pub waiting : ℕ → List Answer
waiting n = drop 1 (answers 1 (start 1 0 false (settings n (2 ^ 61) 2 9)) (with (call.SendRequest (peer 9) 0) (request 1) ∷ plain (call.Poll 0) ∷ []))

pub record Others : Type 0 where
  -- "never past now + 3,600 s"
  pub hour :
      map waiting (3599999999999 ∷ 3600000000000 ∷ 3600000000001 ∷ [])
      ≡ ((answer.Wait 3599999999999 ∷ []) ∷ (answer.Wait 3600000000000 ∷ []) ∷ (answer.Wait 3600000000000 ∷ []) ∷ [])
  -- "min(initial × 2^i, max)": wait 1 of an initial 3, by a maximum of 5, 6 and 7
  pub capped : map (λ n. wait_of (settings 3 n 3 9) 1) (5 ∷ 6 ∷ 7 ∷ []) ≡ (5 ∷ 6 ∷ 6 ∷ [])
  -- "max(R,1) - 1 waits"; by TCP none
  pub waits_of_lem : map (λ n. waits_of Udp (settings 9 9 n 9)) (0 ∷ 1 ∷ 2 ∷ 33 ∷ []) ≡ (0 ∷ 0 ∷ 1 ∷ 32 ∷ [])
  pub waits_of_tcp : waits_of Tcp (settings 9 9 33 9) ≡ 0
  -- by TCP "2^61 if that is more": a final wait with one wait of 1 before it
  pub tcp_sum : map (λ n. final_wait Tcp (settings 1 9 2 n)) ((2 ^ 61 - 2) ∷ (2 ^ 61 - 1) ∷ 2 ^ 61 ∷ []) ≡ ((2 ^ 61 - 1) ∷ 2 ^ 61 ∷ 2 ^ 61 ∷ [])
  -- "A counter at 2^64-1 stays there": requests sent by one, and bytes by 20
  pub counter_stops :
      map (λ n. (counted (event.RequestSent 20) (figures n 0 0 0 0 0)).requests_sent) ((2 ^ 64 - 2) ∷ (2 ^ 64 - 1) ∷ []) ≡ ((2 ^ 64 - 1) ∷ (2 ^ 64 - 1) ∷ [])
  pub bytes_stop :
      map (λ n. (counted (event.RequestSent 20) (figures 0 0 0 0 n 0)).bytes_sent) ((2 ^ 64 - 22) ∷ (2 ^ 64 - 21) ∷ (2 ^ 64 - 20) ∷ [])
      ≡ ((2 ^ 64 - 2) ∷ (2 ^ 64 - 1) ∷ (2 ^ 64 - 1) ∷ [])

pub record Edges : Type 0 where
  pub state_is : State
  pub numbers_are : Numbers
  pub held_is : Held
  pub others_are : Others
