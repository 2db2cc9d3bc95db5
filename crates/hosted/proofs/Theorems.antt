-- What the theorems about runs say of a session: of what the host saw, and of the memory that it owns at the end.
--     session_accounts, session_conserved    the numbers of its statistics record are counts over its calls, and balance
--     session_here, called, taken, after_it, session_world    the calls up to a submission, it, and those after it are the model's
--     session_delivers    what is handed out for a request is its message, from its acceptance to its end
--     session_fate        a request that is accepted ends once, or is in the table
--     session_sends, session_timeouts    a request's sends and its timeout, as the host saw them, are the run's
use Prim.Native.Nat.{ℕ}
use mathlib.Core.Path.{◌≡◌, sym, ap, subst, ◌∙◌}
use mathlib.Core.Bool.{true}
use mathlib.Core.List.{List, ◌∷◌}
use native.Mathlib.Omega.{arith}
use Rattle.stats.specs.declared.StunAgentStats.{StunAgentStats}
use Rattle.model.specs.World.{World}
use Rattle.model.specs.Says.{Said}
use Rattle.model.specs.Runs.{Turn, run}
use Rattle.model.specs.declared.StunAgentBuilder.{StunAgentBuilder}
use Rattle.model.specs.declared.Answer.{Answer}
use Rattle.runs.specs.Run.{said}
use Rattle.runs.specs.Demand.{begins, Submission, submits, sends_of, timeout_of}
use Rattle.runs.specs.Counts.{Exchange, exchange, history, NoReset}
use Rattle.runs.specs.Conserved.{BelowStop, Conserved}
use Rattle.runs.specs.Samples.{Accounts}
use Rattle.runs.specs.Ends.{submits_it, Fate}
use Rattle.runs.specs.Bytes.{DeliversThrough}
use Rattle.runs.proofs.Samples.{accounts_are}
use Rattle.runs.proofs.Conserved.{conserved}
use Rattle.runs.proofs.Ends.{fate}
use Rattle.runs.proofs.Bytes.{delivered}
use Rattle.hosted.specs.Session.{Owned, world_in, then_call, Session, start_of, AsModel, sight, sights, sent_in, timed_out_at, Submitted, saw}
use Rattle.hosted.proofs.Session.{call_as_model, serves_as_model, served_as_model, seen_is, sent_is, timed_out_is}

-- ---- the statistics record

module _ (b : StunAgentBuilder) (was : StunAgentStats) (o : Owned) (ts : List Turn) (l : List Answer) (o' : Owned) (s : Session b was o ts l o')
    (on : b.stats ≡ true) (kept : NoReset ts) where
  model : AsModel (begins (start_of b was o)) ts l o'
  model = served_as_model b was o ts l o' s

  pub session_accounts : Accounts b.transport b.rto (sights ts l) o'.stats
  session_accounts =
      rw (seen_is model, ap (λ (w : World). w.stats) model.world_is) (accounts_are 32 (start_of b was o) ts on kept)

  pub session_conserved : BelowStop o'.stats → Conserved (world_in o')
  session_conserved below =
      subst Conserved (sym model.world_is)
      (conserved 32 (start_of b was o) ts on kept (subst (λ (w : World). BelowStop w.stats) model.world_is below))

-- ---- a request

module _ (x : ℕ) (b : StunAgentBuilder) (was : StunAgentStats) (o : Owned) (before : List Turn) (q : Submission) (later : List Turn)
    (s : Submitted x b was o before q later) where
  pub session_here : AsModel (begins (start_of b was o)) before s.earlier s.here
  session_here = served_as_model b was o before s.earlier s.here s.session

  -- the submission, and the calls after it
  rest : AsModel (world_in s.here) (submits q ∷ later) (s.answer ∷ s.replies) s.last
  rest = serves_as_model (then_call s.call s.serves) session_here.whole

  pub called : record { answer = s.answer; world = world_in s.next } ≡ said 32 (world_in s.here) (submits q)
  called = call_as_model s.here (submits q) s.answer s.next s.call session_here.whole

  pub taken : submits_it x (exchange 32 (world_in s.here) (submits q)) ≡ true
  taken = ap (λ (y : Said). submits_it x (sight (submits q) y.answer)) (sym called) ∙ s.accepted

  pub after_it : AsModel (world_in s.next) later s.replies s.last
  after_it = serves_as_model s.serves (omega (arith, s.call.same_length, session_here.whole))

  pub session_delivers : DeliversThrough 32 x q.to q.bytes (world_in s.here) (submits q ∷ later)
  session_delivers = delivered 32 x (world_in s.here) q taken later

  pub session_fate : Fate x (sights later s.replies) (world_in s.last)
  session_fate =
      let v = world_in s.next in
      let is : (said 32 (run 32 (begins (start_of b was o)) before) (submits q)).world ≡ v =
      ap (λ (w : World). (said 32 w (submits q)).world) (sym session_here.world_is) ∙ ap (λ (y : Said). y.world) (sym called) in
      let f : Fate x (history 32 v later) (run 32 v later) =
      subst (λ (w : World). Fate x (history 32 w later) (run 32 w later)) is
      (fate 32 x (start_of b was o) before (submits q) later
      (subst (λ (w : World). submits_it x (exchange 32 w (submits q)) ≡ true) session_here.world_is taken)) in
      subst (λ (w : World). Fate x (sights later s.replies) w) (sym after_it.world_is)
      (subst (λ (l : List Exchange). Fate x l (run 32 v later)) (sym (seen_is after_it)) f)

  -- What the host owns at the end.
  pub session_world : AsModel (run 32 (begins (start_of b was o)) before) (submits q ∷ later) (s.answer ∷ s.replies) s.last
  session_world = subst (λ (w : World). AsModel w (submits q ∷ later) (s.answer ∷ s.replies) s.last) session_here.world_is rest

  pub session_sends : sent_in x (saw s) ≡ sends_of 32 x (start_of b was o) q before later
  session_sends = ap (sent_in x) (seen_is session_world) ∙ sent_is 32 x (submits q ∷ later) (run 32 (begins (start_of b was o)) before)

  pub session_timeouts : timed_out_at x (saw s) ≡ timeout_of 32 x (start_of b was o) q before later
  session_timeouts =
      ap (timed_out_at x) (seen_is session_world) ∙ timed_out_is 32 x (submits q ∷ later) (run 32 (begins (start_of b was o)) before)
