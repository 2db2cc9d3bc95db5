-- The worked values, by computation; and a pair of runs that meets each hypothesis of demand 3.
--     values     the worked values
--     lived      a run that the function plays meets the hypotheses, where its calls leave the request alone
--     pair       two such runs
use Rattle.std.specs.Prelude.{Option, None, Some}
use Prim.Native.Nat.{ℕ}
use mathlib.Core.Path.{◌≡◌, refl, sym, ap}
use mathlib.Core.List.{List, [], ◌∷◌}
use native.Mathlib.Omega.{arith}
use Rattle.message.specs.Head as head
use Rattle.message.specs.Attributes as attributes
use Rattle.waits.specs.Waits as waits
use Rattle.stats.specs.Count as count
use Rattle.stats.specs.Query as figures
use Rattle.store.specs.Rows as store
use Rattle.request.specs.Times as times
use Rattle.request.specs.Request as one
use Rattle.request.specs.Limits as limits
use Rattle.requests.specs.Formed as formed
use Rattle.model.specs.World as world
use Rattle.model.specs.Accepts as accepts
use Rattle.model.specs.Refusals as refusals
use Rattle.model.specs.Effects as effects
use Rattle.model.specs.Says as says
use Rattle.model.specs.Worked as worked
use Rattle.runs.specs.Run as run
use Rattle.runs.specs.Play as play
use Rattle.model.specs.Runs.{Turn}
use Rattle.message.specs.declared.Message.{Message}
use Rattle.runs.specs.Run.{kind_in, said}
use Rattle.runs.specs.Round.{Step, calls, ends, no_more, shared, extra}
use Rattle.runs.specs.Demand.{Steady, LeftAlone, Start, begins, Fit, Submission, submits, Life}
use Rattle.runs.specs.Whole.{Demand3}
use Rattle.runs.specs.Examples.{first, three, seldom, often, Values}
use Rattle.runs.proofs.Steady.{ok_said}
use Rattle.runs.proofs.Demand.{fit_ok}
use Rattle.runs.proofs.Whole.{demand3}
use Rattle.runs.proofs.Play.{NoScan, runs_played}

-- To unfold this is to unfold all that its line names: one word for the whole model.
unfoldable pub opened : Unit {0}
unfolding run.sends run.timeouts play.transmissions_in play.polls_in play.transmissions play.polls play.round_of play.played worked.message says.says_of world.state_formed accepts.accepts accepts.new_peer refusals.refusal_of effects.new_request effects.change_of effects.answer_of effects.event_of effects.peers_after effects.peer_count effects.after waits.within_limits waits.sum_of waits.final_wait waits.default_rto formed.formed limits.within_limits one.submitted one.stepped one.silenced one.cancelled one.configured one.transmit_of one.poll_of times.passed_all times.due_of times.end_of times.is_due times.is_over times.moment_of times.rtt_of head.key head.id_at head.class_of head.head_good head.read_head head.head_of attributes.attributes_from attributes.later attributes.walk_of attributes.message_of count.counted figures.average_of figures.outstanding_of store.in_store store.stored store.copied
opened = tt

pub values : Values
unfolding opened
values = record {
  seven_sends = refl;
  seven_end = refl;
  seldom_sends = refl;
  often_sends = refl;
  seldom_end = refl;
  often_end = refl;
  stream_sends = refl;
  stream_end = refl;
  wait_is_now = refl;
  all_at_once = refl;
}

-- The calls of a run that submits first, after the submission.
abbrev later_of : ℕ → Start → Submission → List Step → List Turn
later_of rows s q post = play.played rows (said rows (begins s) (submits q)).world post

lived : (rows x : ℕ) (s : Start) (q : Submission) (post : List Step) → Fit rows s → Steady 0 (calls (submits q) ∷ post) → NoScan post
    → refusals.refusal_of rows (begins s) (kind_in (submits q)) q.bytes ≡ None
    → ((y : Message) → attributes.message_of q.bytes ≡ Some y → head.key y.transaction_id ≡ x)
    → LeftAlone rows x (said rows (begins s) (submits q)).world (later_of rows s q post)
    → Life rows x s q [] post [] (later_of rows s q post)
lived rows x s q post fit h n a y l = record {
  steady = h;
  runs_before = ends;
  accepted = a;
  named = y;
  runs_later =
      runs_played post q.now (said rows (begins s) (submits q)).world
      (ok_said rows s.transport s.rto 0 q.now (begins s) (kind_in (submits q)) q.bytes (fit_ok rows s fit) h.0 (omega arith)) h.2 n;
  alone = l;
}

-- The identifier of a message that was read.
abbrev id_in : Option Message → ℕ
id_in (Some y) = head.key y.transaction_id
id_in None = 0

fit : Fit 1 three
fit = record { limits = record { count = omega arith; initial = omega arith; most = omega arith; last = omega arith }; room = omega arith }

named : (y : Message) → attributes.message_of first.bytes ≡ Some y → head.key y.transaction_id ≡ 1
unfolding opened
named y e = sym (ap id_in e)

seldom_lived : Life 1 1 three first [] seldom [] (later_of 1 three first seldom)
unfolding opened
seldom_lived =
    lived 1 1 three first seldom fit
    (omega arith, omega arith, (omega arith, omega arith, (omega arith, omega arith, (omega arith, omega arith, tt)))) tt refl named
    (refl, (refl, (refl, (refl, (refl, (refl, (refl, (refl, (refl, tt)))))))))

often_lived : Life 1 1 three first [] often [] (later_of 1 three first often)
unfolding opened
often_lived =
    lived 1 1 three first often fit
    (omega arith, omega arith, (omega arith, omega arith, (omega arith, omega arith, (omega arith, omega arith, (omega arith, omega arith, (omega arith, omega arith, (omega arith, omega arith, tt))))))) tt refl named
    (refl, (refl, (refl, (refl, (refl, (refl, (refl, (refl, (refl, (refl, (refl, (refl, (refl, (refl, (refl, tt)))))))))))))))

pub pair : Demand3 1 1 three first [] (later_of 1 three first seldom) [] (later_of 1 three first often)
pair = demand3 1 1 three first [] seldom [] often [] (later_of 1 three first seldom) [] (later_of 1 three first often) no_more
    (extra (shared (extra (shared (extra (shared no_more)))))) seldom_lived often_lived
