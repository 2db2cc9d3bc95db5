-- Demand 3 whole: one record, whose fields are its phrases.
--     "A round, at one clock, takes transmissions until none is left, then polls until told to wait."      Round, of specs/Round.antt
--     "two runs from one fresh agent"                                            begins s, and Life, of specs/Demand.antt, of each
--     "clocks never falling nor above 2^60"                                      Life's steady
--     "lent memory the same and changed by it alone"                             one Start; a run's worlds are those of the model's `says`
--     "transmissions and polls only in rounds"                                   Runs, of specs/Round.antt
--     "the second run being the first with more rounds between calls"            MoreRounds, of specs/Round.antt
--     "a request accepted at the same place in both"                             Life's accepted, with the steps before and after it
--     "after that in neither run answered, cancelled in either way, reconfigured or submitted again"      Life's alone
--     "in each run it goes out at most max(R,1) times by UDP, once by TCP; gap k is at least ..."         EachRun
use Rattle.std.specs.Prelude.{ℕ, List, [], ◌∷◌, ◌++◌}
use Rattle.model.specs.World.{World}
use Rattle.model.specs.Runs.{Turn, run}
use Rattle.runs.specs.Round.{Round, Step, plays, Runs}
use Rattle.runs.specs.Times.{NoLater}
use Rattle.runs.specs.Demand.{Steady, Start, begins, Submission, sends_of, timeout_of, EachRun}
use Rattle.runs.specs.Last.{LastSentence}

-- Of two runs, the second with `before'` and `later'`.
pub record Demand3 (rows x : ℕ) (s : Start) (q : Submission) (before later before' later' : List Turn) : Type 0 where
  -- "in each run"
  pub first_run : EachRun rows x s q before later
  pub second_run : EachRun rows x s q before' later'
  -- "each send the first run makes, and its timeout, comes no later in the second"
  pub each_send_no_later : NoLater (sends_of rows x s q before' later') (sends_of rows x s q before later)
  pub timeout_no_later : NoLater (timeout_of rows x s q before' later') (timeout_of rows x s q before later)
  -- "The wait that ends a round": of any run from that agent, and so of each of the two up to any of its rounds.
  pub the_wait_that_ends_a_round : (ss : List Step) (made rs : List Turn) (now clock : ℕ) (u : World) → Runs rows (begins s) ss made
      → Steady 0 (ss ++ (plays now ∷ [])) → Round rows now (run rows (begins s) made) rs u clock → LastSentence rows s made now clock u
