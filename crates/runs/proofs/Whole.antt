-- Demand 3 whole: the closed forms of two runs compared, and the last sentence.
--     demand3     the theorem
use Rattle.std.specs.Prelude.{Option, None, Some}
use Prim.Native.Nat.{ℕ}
use mathlib.Core.List.{List}
use native.Mathlib.Omega.{arith}
use Rattle.waits.specs.Waits.{waits_of}
use Rattle.model.specs.Runs.{Turn}
use Rattle.runs.specs.Round.{Step, MoreRounds}
use Rattle.runs.specs.Times.{end_time, Sooner, NoLater, Rising, list_of}
use Rattle.runs.specs.Demand.{rounds, Start, Submission, Life}
use Rattle.runs.specs.Whole.{Demand3}
use Rattle.runs.proofs.Times.{sends_no_later, end_sooner}
use Rattle.runs.proofs.Demand.{more_clocks, steady_rising, post_steady, closed_form, each_run}
use Rattle.runs.proofs.Last.{last_sentence}

sooner_list : (o' o : Option ℕ) → Sooner o' o → NoLater (list_of o') (list_of o)
sooner_list o' None h = tt
sooner_list None (Some t) h = h
sooner_list (Some u) (Some t) h = (h, tt)

-- The second run is the first with more rounds; that it is so before the submission too isn't needed.
pub demand3 : (rows x : ℕ) (s : Start) (q : Submission) (pre post pre' post' : List Step) (before later before' later' : List Turn)
    → MoreRounds pre pre' → MoreRounds post post' → Life rows x s q pre post before later → Life rows x s q pre' post' before' later'
    → Demand3 rows x s q before later before' later'
demand3 rows x s q pre post pre' post' before later before' later' _ more life life' =
    let up : Rising q.now (rounds post') = steady_rising post' q.now (post_steady rows x s q pre' post' before' later' life') in
    let a = closed_form rows x s q pre post before later life in
    let b = closed_form rows x s q pre' post' before' later' life' in
    let n = waits_of s.transport s.rto in
    record {
      first_run = each_run rows x s q pre post before later life;
      second_run = each_run rows x s q pre' post' before' later' life';
      each_send_no_later =
          rw (a.sends_are, b.sends_are)
          (omega arith, sends_no_later s.transport s.rto (more_clocks more) q.now up n 0 q.now q.now (omega arith));
      timeout_no_later =
          rw (a.timeout_is, b.timeout_is)
          (sooner_list (end_time s.transport s.rto n 0 q.now (rounds post')) (end_time s.transport s.rto n 0 q.now (rounds post))
          (end_sooner s.transport s.rto (more_clocks more) q.now up n 0 q.now q.now (omega arith)));
      the_wait_that_ends_a_round = λ ss made rs now clock u runs steady a. last_sentence rows s ss made rs now clock u runs steady a;
    }
