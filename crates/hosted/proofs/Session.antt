-- Every session is a run of the model, so that the theorems about runs are theorems about the calls of a host.
--     opened                              a started agent is the model's fresh one
--     call_as_model, serves_as_model      a call, and calls one after the other, are the model's, from what the host owns
--     served_as_model                     a session is a run of the model, from the fresh agent
--     seen_is, sent_is, timed_out_is      what the host saw is the run's history, with its sends and its timeout
use Rattle.model.specs.declared.Refusal.{Refusal}
use Rattle.std.specs.Prelude.{Ok, Err, Result}
use Rattle.model.specs.declared.Refusal.TheVariants.{Settings}
use Prim.Native.Nat.{ℕ, ◌≤◌}
use mathlib.Core.Path.{◌≡◌, refl, ap, ◌∙◌}
use mathlib.Core.Bool.{Bool, true, false}
use mathlib.Core.List.{List, [], ◌∷◌}
use lib.ListN.{length}
use native.Mathlib.Omega.{arith}
use Rattle.waits.specs.Waits.{within_limits}
use Rattle.stats.specs.Count.{counted}
use Rattle.stats.specs.declared.StunAgentStats.{StunAgentStats}
use Rattle.stats.specs.declared.Event.{Event}
use Rattle.records.specs.Coding.{size}
use Rattle.model.specs.World.{World}
use Rattle.model.specs.Fresh.{fresh_agent, fresh_event, build_of}
use Rattle.model.specs.Says.{Said}
use Rattle.model.specs.Runs.{Turn, answers, run}
use Rattle.model.specs.declared.StunAgent.{StunAgent}
use Rattle.model.specs.declared.StunAgentBuilder.{StunAgentBuilder}
use Rattle.model.specs.declared.Answer.{Answer}
use Rattle.model.proofs.Default.{ok_same, build_refused, build_fresh}
use Rattle.agent.specs.Ready.{world_of}
use Rattle.entry.proofs.Theorems.{as_model}
use Rattle.runs.specs.Run.{said, sends, timeouts}
use Rattle.runs.specs.Demand.{begins}
use Rattle.runs.specs.Counts.{Exchange, exchange, history}
use Rattle.hosted.specs.Session.{Owned, world_in, Opens, Calls, Serves, rests, then_call, Session, start_of, AsModel, sights, sent_in, timed_out_at}

-- ---- the start

record Begun (b : StunAgentBuilder) (a : StunAgent) (e : Event) : Type 0 where
  agent_is : a ≡ fresh_agent b.transport b.stats b.rto
  event_is : e ≡ fresh_event b.stats

begun : (b : StunAgentBuilder) (a : StunAgent) (e : Event) → Ok (a, e) ≡ build_of b → Begun b a e
begun b a e h = go (within_limits b.rto) refl
  where
    go : (ok : Bool) → within_limits b.rto ≡ ok → Begun b a e
    go true k =
        let z : (a, e) ≡ (fresh_agent b.transport b.stats b.rto, fresh_event b.stats) = ok_same (h ∙ build_fresh b k) in
        record { agent_is = ap (λ (x : StunAgent × Event). x.0) z; event_is = ap (λ (x : StunAgent × Event). x.1) z }
    go false k = let z : ◌≡◌ {A = Result (StunAgent × Event) Refusal} (Ok (a, e)) (Err Settings) = h ∙ build_refused b k in record { agent_is = cc; event_is = cc }

pub opened : (b : StunAgentBuilder) (was : StunAgentStats) (o : Owned) → Opens b was o → world_in o ≡ begins (start_of b was o)
opened b was o h =
    let z = begun b o.agent h.event h.started.says in
    let st : o.stats ≡ counted (fresh_event b.stats) was = h.started.records ∙ ap (λ (e : Event). counted e was) z.event_is in
    ap (λ (a : StunAgent). world_of a o.table o.store o.peers o.stats) z.agent_is
    ∙ ap (λ (s : StunAgentStats). world_of (fresh_agent b.transport b.stats b.rto) o.table o.store o.peers s) st

-- ---- the calls

pub call_as_model : (o : Owned) (t : Turn) (a : Answer) (o' : Owned) → Calls o t a o' → size ≤ length o.table
    → record { answer = a; world = world_in o' } ≡ said 32 (world_in o) t
call_as_model o t a o' c h =
    as_model o.agent t.made t.bytes o.table o.store o.peers o.stats o'.table o'.store o'.peers o'.stats
    (record { agent = o'.agent; answer = a }) c.performed h

pub serves_as_model : {o o' : Owned} {ts : List Turn} {l : List Answer} → Serves o ts l o' → size ≤ length o.table → AsModel (world_in o) ts l o'
serves_as_model rests h = record { answers_are = refl; world_is = refl; whole = h }
serves_as_model (then_call {o} {o'} {o''} {t} {ts} {a} {l} c d) h =
    let z = call_as_model o t a o' c h in
    let s = serves_as_model d (omega (arith, c.same_length)) in
    let w : world_in o' ≡ (said 32 (world_in o) t).world = ap (λ (y : Said). y.world) z in
    record {
      answers_are =
          ap (λ (y : Said). y.answer ∷ l) z
          ∙ ap (λ (k : List Answer). (said 32 (world_in o) t).answer ∷ k) (s.answers_are ∙ ap (λ (v : World). answers 32 v ts) w);
      world_is = s.world_is ∙ ap (λ (v : World). run 32 v ts) w;
      whole = s.whole;
    }

-- ---- what the host saw

sights_are : (rows : ℕ) (ts : List Turn) (w : World) → sights ts (answers rows w ts) ≡ history rows w ts
unfolding history
sights_are rows [] w = refl
sights_are rows (t ∷ ts) w = ap (λ (l : List Exchange). exchange rows w t ∷ l) (sights_are rows ts (said rows w t).world)

pub sent_is : (rows x : ℕ) (ts : List Turn) (w : World) → sent_in x (history rows w ts) ≡ sends rows x w ts
unfolding history sends
sent_is rows x [] w = refl
sent_is rows x (t ∷ ts) w = rw (sent_is rows x ts (said rows w t).world)

pub timed_out_is : (rows x : ℕ) (ts : List Turn) (w : World) → timed_out_at x (history rows w ts) ≡ timeouts rows x w ts
unfolding history timeouts
timed_out_is rows x [] w = refl
timed_out_is rows x (t ∷ ts) w = rw (timed_out_is rows x ts (said rows w t).world)

pub seen_is : {w : World} {ts : List Turn} {l : List Answer} {o : Owned} → AsModel w ts l o → sights ts l ≡ history 32 w ts
seen_is {w} {ts} m = ap (sights ts) m.answers_are ∙ sights_are 32 ts w

-- ---- a session

pub served_as_model : (b : StunAgentBuilder) (was : StunAgentStats) (o : Owned) (ts : List Turn) (l : List Answer) (o' : Owned)
    → Session b was o ts l o' → AsModel (begins (start_of b was o)) ts l o'
served_as_model b was o ts l o' s = rw (opened b was o s.opens) at (serves_as_model s.serves s.opens.whole)
