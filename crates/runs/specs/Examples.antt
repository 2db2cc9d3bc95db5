-- Worked values: runs that meet the hypotheses of demand 3, and what they send and report.
use Rattle.std.specs.Prelude.{ℕ, ◌≡◌, false, List, [], ◌∷◌, map, replicate}
use Rattle.waits.specs.Waits.{milliseconds, default_rto}
use Rattle.waits.specs.declared.RequestRto.{RequestRto}
use Rattle.waits.specs.declared.Transport.{Transport}
use Rattle.waits.specs.declared.Transport.TheVariants.{Udp, Tcp}
use Rattle.stats.specs.Count.{zeroed}
use Rattle.model.specs.Worked.{peer, ending, request, settings}
use Rattle.model.specs.Runs.{plain, answers}
use Rattle.model.specs.declared.Call.TheVariants as call
use Rattle.model.specs.declared.Answer.TheVariants as answer
use Rattle.runs.specs.Run.{sends, timeouts}
use Rattle.runs.specs.Round.{Step, calls, plays}
use Rattle.runs.specs.Play.{played}
use Rattle.runs.specs.Demand.{Start, begins, Submission, submits}

-- A fresh agent with a store of one row, no place for a peer and no statistics.
abbrev pub small : Transport → RequestRto → Start
small t rto = record { transport = t; stats = false; rto = rto; store = replicate 1024 0; peers = []; counters = zeroed }

-- The request with the identifier 1, at clock 0.
abbrev pub first : Submission
first = record { to = peer 9; now = 0; bytes = request 1 }

-- Rounds at these clocks, in milliseconds.
abbrev pub rounds_at : List ℕ → List Step
rounds_at l = map (λ n. plays (milliseconds n)) l

abbrev pub clocks : List ℕ → List ℕ
clocks l = map milliseconds l

-- What a run that submits the request and then plays these steps sends, and when it reports the timeout.
abbrev pub sends_in : Start → List Step → List ℕ
sends_in s post = sends 1 1 (begins s) (played 1 (begins s) (calls (submits first) ∷ post))

abbrev pub timeouts_in : Start → List Step → List ℕ
timeouts_in s post = timeouts 1 1 (begins s) (played 1 (begins s) (calls (submits first) ∷ post))

-- 500 ms, R = 3, 8,000 ms at the end.
abbrev pub three : Start
three = small Udp (settings 500 3 8000)

-- Rounds at 700, 2,000 and 12,000 ms; and the same with more rounds between.
abbrev pub seldom : List Step
seldom = rounds_at (700 ∷ 2000 ∷ 12000 ∷ [])

abbrev pub often : List Step
often = rounds_at (500 ∷ 700 ∷ 1500 ∷ 2000 ∷ 9500 ∷ 12000 ∷ [])

-- Waits of zero, R = 3.
abbrev pub zeros : Start
zeros = small Udp (record { initial = 0; max = 9; retransmits = 3; last_retransmit = 8 })

pub record Values : Type 0 where
  -- The settings left unset: seven sends, and the end 8,000 ms after the last.
  pub seven_sends :
      sends_in (small Udp default_rto) (rounds_at (0 ∷ 500 ∷ 1500 ∷ 3500 ∷ 7500 ∷ 15500 ∷ 31500 ∷ 39500 ∷ []))
      ≡ clocks (0 ∷ 500 ∷ 1500 ∷ 3500 ∷ 7500 ∷ 15500 ∷ 31500 ∷ [])
  pub seven_end :
      timeouts_in (small Udp default_rto) (rounds_at (0 ∷ 500 ∷ 1500 ∷ 3500 ∷ 7500 ∷ 15500 ∷ 31500 ∷ 39500 ∷ [])) ≡ clocks (39500 ∷ [])
  -- More rounds: each send but the first is earlier, and so is the timeout.
  pub seldom_sends : sends_in three seldom ≡ clocks (0 ∷ 700 ∷ 2000 ∷ [])
  pub often_sends : sends_in three often ≡ clocks (0 ∷ 500 ∷ 1500 ∷ [])
  pub seldom_end : timeouts_in three seldom ≡ clocks (12000 ∷ [])
  pub often_end : timeouts_in three often ≡ clocks (9500 ∷ [])
  -- By TCP one send.
  pub stream_sends : sends_in (small Tcp default_rto) (rounds_at (500 ∷ 1500 ∷ 40000 ∷ [])) ≡ clocks (0 ∷ [])
  pub stream_end : timeouts_in (small Tcp default_rto) (rounds_at (500 ∷ 1500 ∷ 40000 ∷ [])) ≡ clocks (40000 ∷ [])
  -- The exceptions of the last sentence: with waits of zero, a silenced request has a step still due after the round, whose wait is its own
  -- clock. One of the two alone isn't enough for that, as the theorem says.
  pub wait_is_now :
      answers 1 (begins zeros) (played 1 (begins zeros) (calls (submits first) ∷ calls (plain (call.CancelRetransmissions (ending 1))) ∷ plays 5 ∷ []))
      ≡ (answer.Send (ending 1) (peer 9) 0 20 ∷ answer.Ok ∷ answer.None ∷ answer.Wait 5 ∷ [])
  -- With waits of zero and no silenced request all sends go out in one round.
  pub all_at_once : sends_in zeros (plays 5 ∷ []) ≡ (0 ∷ 5 ∷ 5 ∷ [])
