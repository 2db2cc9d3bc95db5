-- An agent built with its settings left unset ends the last wait 8,000 ms after the last send: RFC 8489's default, where the Rust has
-- 8 ms.
--     build_refused, build_fresh    what `build` answers
--     built_empty          a fresh agent has no request
--     built_unset          settings left unset are the default's, and are never refused
--     accepted_settings    an accepted request has its agent's settings
--     unset_accepted       so one that it accepts after any calls has the default's, until it is configured
--     last_wait_ends       such a request, all steps passed, has timed out exactly from 8,000 ms after its last send on
--     only_wait_ends       by TCP from 39,500 ms after its only send on
use Rattle.model.specs.declared.Refusal.{Refusal}
use Rattle.std.specs.Prelude.{Ok, Err, Result}
use Rattle.model.specs.declared.Refusal.TheVariants.{Settings}
use Rattle.request.specs.Times.{sent_times}
use Prim.Native.Nat.{ℕ, ◌+◌, ◌≤◌}
use mathlib.Core.Path.{◌≡◌, refl, sym, ap, ◌∙◌}
use mathlib.Core.Bool.{Bool, true, false}
use mathlib.Core.Logic.{◌↔◌}
use mathlib.Core.List.{List}
use lib.ListN.{length}
use Rattle.address.specs.declared.Address.{Address}
use Rattle.waits.specs.Waits.{milliseconds, default_rto, within_limits, final_wait}
use Rattle.waits.specs.declared.Transport.{Transport}
use Rattle.waits.specs.declared.Transport.TheVariants.{Udp, Tcp}
use Rattle.waits.specs.declared.RequestRto.{RequestRto}
use Rattle.waits.proofs.Limits.{within_limits_lem, default_limits}
use Rattle.waits.proofs.Doubling.{default_final, default_span_stream}
use Rattle.stats.specs.declared.StunAgentStats.{StunAgentStats}
use Rattle.stats.specs.declared.Event.{Event}
use Rattle.request.specs.Times.{passed_all}
use Rattle.request.specs.Request.{poll_of}
use Rattle.request.specs.declared.StunRequestState.{StunRequestState}
use Rattle.request.specs.declared.StunRequestPollRet.TheVariants.{TimedOut}
use Rattle.request.proofs.Answers.{timed_out_exactly}
use Rattle.request.proofs.Kept.{submission}
use Rattle.model.specs.World.{World}
use Rattle.model.specs.Says.{Said}
use Rattle.model.specs.Fresh.{fresh_agent, fresh_event, unset, build_of, fresh}
use Rattle.model.specs.Runs.{Turn, run}
use Rattle.model.specs.declared.StunAgent.{StunAgent}
use Rattle.model.specs.declared.StunAgentBuilder.{StunAgentBuilder}
use Rattle.model.proofs.Kept.{run_agent}
use Rattle.model.proofs.Store.{RequestAccepted}

-- Two answers of `build` that are fresh agents are the same one.
pub ok_same : {A : Type 0} {x y : A} → ◌≡◌ {A = Result A Refusal} (Ok x) (Ok y) → x ≡ y
ok_same e = cc

module _ (b : StunAgentBuilder) where
  pub build_refused : within_limits b.rto ≡ false → build_of b ≡ Err Settings
  unfolding build_of
  build_refused e = rw e

  pub build_fresh : within_limits b.rto ≡ true → build_of b ≡ Ok (fresh_agent b.transport b.stats b.rto, fresh_event b.stats)
  unfolding build_of
  build_fresh e = rw e

  -- A fresh agent has no request.
  pub built_empty : {a : StunAgent} {e : Event} → build_of b ≡ Ok (a, e) → a.requests ≡ 0
  built_empty {a} {e} h = go (within_limits b.rto) refl
    where
      go : (ok : Bool) → within_limits b.rto ≡ ok → a.requests ≡ 0
      go true k = sym (ap (λ (x : StunAgent × Event). x.0.requests) (ok_same (sym (build_fresh k) ∙ h)))
      go false k = let q : ◌≡◌ {A = Result (StunAgent × Event) Refusal} (Err Settings) (Ok (a, e)) = sym (build_refused k) ∙ h in cc

  -- Whatever else was set.
  pub built_unset : b.rto ≡ (unset b.transport).rto → build_of b ≡ Ok (fresh_agent b.transport b.stats default_rto, fresh_event b.stats)
  built_unset e =
      build_fresh (ap within_limits e ∙ (within_limits_lem default_rto).1 default_limits)
      ∙ ap (λ (rto : RequestRto). Ok (fresh_agent b.transport b.stats rto, fresh_event b.stats)) e

pub accepted_settings : (rows : ℕ) (w : World) (to : Address) (now : ℕ) (m : List ℕ) (s : Said) (a : RequestAccepted rows w to now m s)
    → a.request.rto ≡ w.agent.rto
accepted_settings rows w to now m s a =
    ap (λ (r : StunRequestState). r.rto) a.request_is
    ∙ (submission now a.message.transaction_id a.message.integrity a.row (length m) to w.agent.rto).rto_is

-- Of an agent built with its settings left unset, after any calls.
pub unset_accepted : (rows : ℕ) (t : Transport) (stats : Bool) (store : List ℕ) (peers : List Address) (st : StunAgentStats) (ts : List Turn) (to : Address) (now : ℕ) (m : List ℕ) (s : Said)
    → (a : RequestAccepted rows (run rows (fresh t stats (unset t).rto store peers st) ts) to now m s) → a.request.rto ≡ default_rto
unset_accepted rows t stats store peers st ts to now m s a =
    let start = fresh t stats (unset t).rto store peers st in
    accepted_settings rows (run rows start ts) to now m s a ∙ (run_agent rows ts start).rto

-- A request with the default settings that wasn't cancelled and has no step left.
module _ (now : ℕ) (r : StunRequestState) (first last : ℕ) (sent : r.send_times ≡ sent_times first last) (kept : r.recv_cancelled ≡ false) (default : r.rto ≡ default_rto) where
  final : (t : Transport) (wait : ℕ) → final_wait t default_rto ≡ wait → passed_all t r ≡ true → (poll_of t now r ≡ TimedOut) ↔ (last + wait ≤ now)
  final t wait e passed =
      let z : final_wait t r.rto ≡ wait = ap (final_wait t) default ∙ e in
      rw z at (timed_out_exactly t now r first last sent passed kept)

  pub last_wait_ends : passed_all Udp r ≡ true → (poll_of Udp now r ≡ TimedOut) ↔ (last + milliseconds 8000 ≤ now)
  last_wait_ends passed = final Udp (milliseconds 8000) default_final passed

  pub only_wait_ends : passed_all Tcp r ≡ true → (poll_of Tcp now r ≡ TimedOut) ↔ (last + milliseconds 39500 ≤ now)
  only_wait_ends passed = final Tcp (milliseconds 39500) default_span_stream passed
