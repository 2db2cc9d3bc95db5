-- The run that meets every kind of event, by computation; and the theorems of it, whose hypotheses it meets.
--     values                       the worked values
--     accounted, balance           the 14 numbers, and the conservation law
--     fate_of, delivery            its request 2, from its acceptance on
--     third_sample                 its request 3, answered at clock 7
use Rattle.std.specs.Prelude.{Some}
use mathlib.Core.Path.{◌≡◌, refl}
use mathlib.Core.List.{List, ◌∷◌, ◌++◌}
use native.Mathlib.Omega.{arith}
use lib.ListN.{take, drop}
use Rattle.store.specs.Rows as store
use Rattle.model.specs.Parts as parts
use Rattle.model.specs.World.{World}
use Rattle.model.specs.Runs.{Turn, with, run}
use Rattle.model.specs.Worked.{peer, success}
use Rattle.model.specs.declared.Call.TheVariants as call
use Rattle.runs.specs.Run.{said}
use Rattle.runs.specs.Demand.{begins, submits}
use Rattle.runs.specs.Counts as counts
use Rattle.runs.specs.Counts.{exchange, history, NoReset}
use Rattle.runs.specs.Conserved.{Conserved}
use Rattle.runs.specs.Ends.{Fate}
use Rattle.runs.specs.Samples.{left_by, sample_of, Accounts}
use Rattle.runs.specs.Bytes.{DeliversThrough}
use Rattle.runs.specs.Eventful.{agent, second, third, calls, seen, Values}
use Rattle.runs.proofs.Conserved.{conserved}
use Rattle.runs.proofs.Ends.{fate}
use Rattle.runs.proofs.Bytes.{delivered}
use Rattle.runs.proofs.Samples.{accounts_are, sample_is}
use Rattle.runs.proofs.Examples.{opened}

pub values : Values
unfolding opened counts.history parts.transmission_of store.part_of
values = record {
  answers_are = refl;
  record_is = refl;
  counts_are = refl;
  samples_are = refl;
  in_the_table = refl;
  acceptances_are = refl;
  endings_are = refl;
  bytes_again = refl;
  bytes_new = refl;
}

no_reset : NoReset calls
no_reset =
    (refl, (refl, (refl, (refl, (refl, (refl, (refl, (refl, (refl, (refl, (refl, (refl, (refl, (refl, (refl, (refl, (refl, (refl, (refl, (refl, (refl, (refl, tt))))))))))))))))))))))

pub accounted : Accounts agent.transport agent.rto seen (run 3 (begins agent) calls).stats
accounted = accounts_are 3 agent calls refl no_reset

pub balance : Conserved (run 3 (begins agent) calls)
balance = conserved 3 agent calls refl no_reset (rw values.record_is (omega arith))

-- The world before its acceptance, and after it.
abbrev before : World
before = run 3 (begins agent) (take 1 calls)

abbrev accepted : World
accepted = (said 3 before (submits second)).world

pub fate_of : Fate 2 (history 3 accepted (drop 2 calls)) (run 3 accepted (drop 2 calls))
unfolding opened
fate_of = fate 3 2 agent (take 1 calls) (submits second) (drop 2 calls) refl

pub delivery : DeliversThrough 3 2 second.to second.bytes before (submits second ∷ drop 2 calls)
unfolding opened
delivery = delivered 3 2 before second refl (drop 2 calls)

-- The calls between the acceptance of request 3 and its response neither end it nor step it.
abbrev between : List Turn
between = take 5 (drop 3 calls)

abbrev answered : World
answered = run 3 (said 3 (run 3 (begins agent) (take 2 calls)) (submits third)).world between

pub third_sample : sample_of (left_by agent.transport agent.rto (history 3 (begins agent) (take 2 calls ++ (submits third ∷ between))))
    (exchange 3 answered (with (call.HandleStunMessageWithTime (peer 7) 7) (success 3))) ≡ Some 7
unfolding opened counts.history
third_sample =
    sample_is 3 3 agent (take 2 calls) third between refl
    (refl, refl, (refl, refl, (refl, refl, (refl, refl, (refl, refl, tt))))) (peer 7) 7 (success 3) refl refl
