-- Demand 3 of one run: its sends and its timeout in closed form, few and spaced.
--     fit_formed, fresh_ok, fit_ok, fresh_never_bad     from fresh no call of a run with steady clocks is refused by 1 or 3
--     unformed_run                  a world that isn't well formed refuses every call
--     began_formed                  where a call isn't refused by 1, the agent began well formed
--     Entered, entered              the request right after its submission
--     closed_form                   the sends and the timeout of one run
--     each_run                      what demand 3 says of it
--     more_clocks, steady_rising    more rounds are more clocks, and they rise
use Rattle.requests.proofs.Lists.{none_some}
use Rattle.model.specs.declared.Refusal.TheVariants.{State}
use Rattle.std.specs.Prelude.{Option, None, Some}
use Prim.Native.Nat.{ℕ, suc, ◌-◌, ◌≤◌}
use mathlib.Core.Path.{◌≡◌, refl, ap, ◌∙◌, sym}
use mathlib.Core.Bool.{Bool, true, false}
use mathlib.Core.List.{List, [], ◌∷◌, ◌++◌}
use lib.ListN.{length}
use borrow.Author.Tests.{eq-eqb}
use native.Mathlib.Omega.{arith}
use Rattle.message.specs.Head.{key}
use Rattle.waits.specs.Waits.{waits_of}
use Rattle.waits.specs.declared.RequestRto.{RequestRto}
use Rattle.waits.specs.declared.Transport.{Transport}
use Rattle.waits.specs.declared.Transport.TheVariants.{Udp, Tcp}
use Rattle.request.specs.declared.StunRequestState.{StunRequestState}
use Rattle.request.proofs.Kept.{submission}
use Rattle.requests.specs.Search.{lookup, request_of}
use Rattle.model.specs.World.{World, StateFormed, state_formed}
use Rattle.model.specs.Calls.{clock_of}
use Rattle.model.specs.Refusals.{refusal_of}
use Rattle.model.specs.Says.{Said}
use Rattle.model.specs.Runs.{Turn, run}
use Rattle.model.proofs.Refused.{bad_state_first, refused_same}
use Rattle.model.proofs.State.{state_exactly, fresh_formed}
use Rattle.model.proofs.Store.{RequestAccepted, request_accepted}
use Rattle.runs.specs.Run.{kind_in, said, sends, timeouts}
use Rattle.runs.specs.Round.{Step, calls, plays, Runs, MoreRounds, no_more, shared, extra}
use Rattle.runs.specs.Times.{send_times, end_time, Rising, More, same, both, added, list_of}
use Rattle.runs.specs.Demand.{SteadyAt, step_clock, Steady, rounds_of, rounds, Start, begins, Fit, Submission, submits, Life, sends_of, most, NeverBad, ClosedForm, EachRun}
use Rattle.runs.proofs.Times.{rising_down, gaps_hold, sends_few}
use Rattle.runs.proofs.Steady.{Ok, ok_said, Reaches, reaches, never_append, never_call, never_bad}
use Rattle.runs.proofs.One.{Loud}
use Rattle.runs.proofs.Present.{Closed, present_run}

-- ---- more rounds are more clocks, and they rise

more_behind : (xs : List ℕ) {ts us : List ℕ} → More ts us → More (xs ++ ts) (xs ++ us)
more_behind [] d = d
more_behind (x ∷ xs) d = both (more_behind xs d)

pub more_clocks : {ss zs : List Step} → MoreRounds ss zs → More (rounds ss) (rounds zs)
more_clocks no_more = same
more_clocks (shared {s} d) = more_behind (rounds_of s) (more_clocks d)
more_clocks (extra d) = added (more_clocks d)

pub steady_rising : (ss : List Step) (m : ℕ) → Steady m ss → Rising m (rounds ss)
steady_rising [] m h = tt
steady_rising (plays now ∷ ss) m h = (h.0, steady_rising ss now h.2)
steady_rising (calls t ∷ ss) m h = go (clock_of (kind_in t)) h (steady_rising ss)
  where
    go : (c : Option ℕ) → SteadyAt c m (λ u. Steady u ss) → ((u : ℕ) → Steady u ss → Rising u (rounds ss)) → Rising m (rounds ss)
    go None h ih = ih m h
    go (Some t) h ih = rising_down m t (rounds ss) h.0 (ih t h.2)

-- the first steps of a run with steady clocks
steady_front : (ss rest : List Step) (m : ℕ) → Steady m (ss ++ rest) → Steady m ss
steady_front [] rest m h = tt
steady_front (s ∷ ss) rest m h = go (step_clock s) h (steady_front ss rest)
  where
    go : (c : Option ℕ) → SteadyAt c m (λ u. Steady u (ss ++ rest)) → ((u : ℕ) → Steady u (ss ++ rest) → Steady u ss) → SteadyAt c m (λ u. Steady u ss)
    go None h ih = ih m h
    go (Some t) h ih = (h.0, h.1, ih t h.2)

-- ---- a fresh agent

-- a world that isn't well formed refuses every call
pub unformed_run : (rows : ℕ) (w : World) (ts : List Turn) → state_formed rows w ≡ false → run rows w ts ≡ w
unformed_run rows w [] e = refl
unformed_run rows w (t ∷ ts) e =
    let same : (said rows w t).world ≡ w =
    ap (λ (z : Said). z.world) (refused_same rows w (kind_in t) t.bytes State (bad_state_first rows w (kind_in t) t.bytes e)) in
    rw same (unformed_run rows w ts e)

module _ (rows : ℕ) (s : Start) where
  pub fit_formed : Fit rows s → StateFormed rows (begins s)
  fit_formed fit = fresh_formed rows s.transport s.stats s.rto s.store s.peers s.counters fit.limits fit.room

  pub fresh_ok : StateFormed rows (begins s) → Ok rows s.transport s.rto 0 (begins s)
  fresh_ok formed = record { formed = formed; transport = refl; rto = refl; mark = omega arith }

  pub fit_ok : Fit rows s → Ok rows s.transport s.rto 0 (begins s)
  fit_ok fit = fresh_ok (fit_formed fit)

  pub fresh_never_bad : Fit rows s → {ss : List Step} {ts : List Turn} → Runs rows (begins s) ss ts → Steady 0 ss → NeverBad rows (begins s) ts
  fresh_never_bad fit d h = never_bad d 0 (fit_ok fit) h

  -- where a call isn't refused by 1, the agent began well formed
  pub began_formed : (before : List Turn) (t : Turn) → (refusal_of rows (run rows (begins s) before) (kind_in t) t.bytes ≡ Some State → ⊥)
      → StateFormed rows (begins s)
  began_formed before t n = go (state_formed rows (begins s)) refl
    where
      go : (b : Bool) → state_formed rows (begins s) ≡ b → StateFormed rows (begins s)
      go true e = (state_exactly rows (begins s)).0 e
      go false e =
          absurd (n (rw (unformed_run rows (begins s) before e) (bad_state_first rows (begins s) (kind_in t) t.bytes e)))

waits_most : (tr : Transport) (set : RequestRto) → suc (waits_of tr set) ≤ most tr set
waits_most Udp set = omega arith
waits_most Tcp set = omega arith

-- ---- one run: its sends and its timeout in closed form

-- The request right after its submission.
pub record Entered (rows x : ℕ) (s : Start) (q : Submission) (before : List Turn) : Type 0 where
  pub request : StunRequestState
  pub formed : StateFormed rows (run rows (begins s) before)
  pub ok : Ok rows s.transport s.rto q.now (said rows (run rows (begins s) before) (submits q)).world
  pub found : request_of (lookup x (said rows (run rows (begins s) before) (submits q)).world.requests) ≡ Some request
  pub loud : Loud q.now request

module _ (rows x : ℕ) (s : Start) (q : Submission) (pre post : List Step) (before later : List Turn)
    (life : Life rows x s q pre post before later) where
  began : StateFormed rows (begins s)
  began = began_formed rows s before (submits q) (λ e. none_some (sym life.accepted ∙ e))

  start : World
  start = run rows (begins s) before

  then_is : World
  unfolding start
  then_is = (said rows start (submits q)).world

  reached : Reaches rows s.transport s.rto (calls (submits q) ∷ post) start
  unfolding start
  reached = reaches life.runs_before (calls (submits q) ∷ post) 0 (fresh_ok rows s began) life.steady

  pub post_steady : Steady q.now post
  post_steady = reached.steady.2

  then_ok : Ok rows s.transport s.rto q.now then_is
  unfolding then_is
  then_ok = ok_said rows s.transport s.rto reached.floor q.now start (kind_in (submits q)) q.bytes reached.ok reached.steady.0 (omega arith)

  joined : RequestAccepted rows start q.to q.now q.bytes (said rows start (submits q))
  unfolding start
  joined = request_accepted rows start q.to q.now q.bytes reached.ok.formed life.accepted

  named : key joined.message.transaction_id ≡ x
  named = life.named joined.message joined.reads

  record New (r : StunRequestState) : Type 0 where
    loud : Loud q.now r
    count_is : r.timeout_i ≡ 0
    rto_is : r.rto ≡ s.rto

  new : New joined.request
  new =
      let b = submission q.now joined.message.transaction_id joined.message.integrity joined.row (length q.bytes) q.to start.agent.rto in
      rw joined.request_is (record {
        loud = record { first = q.now; times = b.times_are; silent = b.not_silenced; dropped = b.not_cancelled };
        count_is = b.count_is;
        rto_is = b.rto_is ∙ reached.ok.rto;
      })

  found : request_of (lookup x then_is.requests) ≡ Some joined.request
  unfolding then_is
  found = ap request_of (rw named at joined.stands)

  pub entered : Entered rows x s q before
  unfolding then_is start
  entered = record { request = joined.request; formed = reached.ok.formed; ok = then_ok; found = found; loud = new.loud }

  closed : Closed rows x then_is later (send_times s.rto (waits_of s.transport s.rto) 0 q.now (rounds post))
      (list_of (end_time s.transport s.rto (waits_of s.transport s.rto) 0 q.now (rounds post)))
  unfolding then_is start
  closed =
      let z : waits_of s.transport s.rto - 0 ≡ waits_of s.transport s.rto = omega arith in
      rw (new.rto_is, new.count_is, z) at (present_run rows x s.transport s.rto life.runs_later q.now then_ok post_steady life.alone q.now joined.request found new.loud)

  pub closed_form : ClosedForm rows x s q post before later
  unfolding sends timeouts then_is start
  closed_form = record {
    sends_are = rw (joined.answers, eq-eqb (key joined.message.transaction_id) x named, closed.sent);
    timeout_is = closed.over;
  }

  once : s.transport ≡ Tcp → sends_of rows x s q before later ≡ q.now ∷ []
  unfolding send_times
  once e = closed_form.sends_are ∙ rw e

  pub each_run : EachRun rows x s q before later
  unfolding then_is start
  each_run = record {
    goes_out_at_most = rw closed_form.sends_are (omega (arith, sends_few s.rto (rounds post) (waits_of s.transport s.rto) 0 q.now, waits_most s.transport s.rto));
    once_by_tcp = once;
    gap_at_least = rw closed_form.sends_are (gaps_hold s.rto (rounds post) (waits_of s.transport s.rto) 0 q.now);
    never_bad =
        never_append rows (begins s) before (submits q ∷ later) (never_bad life.runs_before 0 (fresh_ok rows s began) (steady_front pre (calls (submits q) ∷ post) 0 life.steady))
        (never_call rows s.transport s.rto reached.floor start (submits q) reached.ok later (reached.steady.0, reached.steady.1, tt)
        (never_bad life.runs_later q.now then_ok post_steady));
  }
