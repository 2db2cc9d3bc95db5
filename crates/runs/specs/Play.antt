-- A round as a function, with a bound on its calls that is proved enough; and the run of steps from a world as a function.
use Rattle.std.specs.Prelude.{ℕ, zero, suc, ◌+◌, ◌-◌, cond, List, [], ◌∷◌, ◌++◌, length, Option, None, Some}
use Rattle.waits.specs.Waits.{waits_of}
use Rattle.waits.specs.declared.Transport.{Transport}
use Rattle.request.specs.declared.SendTimes.{SendTimes}
use Rattle.request.specs.declared.StunRequestState.{StunRequestState}
use Rattle.model.specs.World.{World}
use Rattle.model.specs.Runs.{Turn, run}
use Rattle.runs.specs.Run.{said, hands_out}
use Rattle.runs.specs.Round.{transmission, poll, is_report, Step, calls, plays}

-- At most as many calls as the number says, until one hands nothing out, or reports nothing.
unfoldable pub transmissions_in : ℕ → ℕ → ℕ → World → List Turn
transmissions_in rows zero now w = []
transmissions_in rows (suc k) now w =
    transmission now ∷ cond (hands_out (said rows w (transmission now)).answer) (transmissions_in rows k now (said rows w (transmission now)).world) []

unfoldable pub polls_in : ℕ → ℕ → ℕ → World → List Turn
polls_in rows zero now w = []
polls_in rows (suc k) now w = poll now ∷ cond (is_report (said rows w (poll now)).answer) (polls_in rows k now (said rows w (poll now)).world) []

-- The sends and silent steps that a request has left, and those of all requests.
abbrev pub unsent : Option SendTimes → ℕ
unsent None = 1
unsent (Some s) = 0

abbrev pub left : Transport → StunRequestState → ℕ
left tr r = unsent r.send_times + (waits_of tr r.rto - r.timeout_i)

abbrev pub left_in : Transport → List StunRequestState → ℕ
left_in tr [] = 0
left_in tr (r ∷ rs) = left tr r + left_in tr rs

-- The calls of a round: no more transmissions than steps are left and one, no more polls than requests and one.
unfoldable pub transmissions : ℕ → ℕ → World → List Turn
transmissions rows now w = transmissions_in rows (suc (left_in w.agent.transport w.requests)) now w

unfoldable pub polls : ℕ → ℕ → World → List Turn
polls rows now w = polls_in rows (suc (length w.requests)) now w

unfoldable pub round_of : ℕ → ℕ → World → List Turn
round_of rows now w = transmissions rows now w ++ polls rows now (run rows w (transmissions rows now w))

-- The calls of a step, and of a list of them.
abbrev pub turns_of : ℕ → World → Step → List Turn
turns_of rows w (calls t) = t ∷ []
turns_of rows w (plays now) = round_of rows now w

unfoldable pub played : ℕ → World → List Step → List Turn
played rows w [] = []
played rows w (s ∷ ss) = turns_of rows w s ++ played rows (run rows w (turns_of rows w s)) ss
