-- A law for each way through a turn, and what a turn is in the terms of the model.
use Rattle.std.specs.Prelude.{Ok, Option, None, Some, Result, Err}
use Rattle.model.specs.declared.Refusal.{Refusal}
use Rattle.model.specs.declared.Answer.{Answer}
use mathlib.Core.Path.{◌≡◌, refl, sym, ap, ◌∙◌}
use mathlib.Core.Bool.{Bool, true, false, cond}
use mathlib.Core.List.{List}
use Prim.Native.Nat.{ℕ, ◌-◌, ◌≤◌}
use native.Mathlib.Omega.{arith}
use lib.ListN.{length, take, drop, replicate, length-replicate}
use Rattle.address.specs.declared.Address.{Address}
use Rattle.waits.specs.Waits.{default_rto}
use Rattle.waits.specs.declared.RequestRto.{RequestRto}
use Rattle.waits.specs.declared.Transport.TheVariants.{Udp}
use Rattle.stats.specs.Count.{counted, zeroed}
use Rattle.stats.specs.declared.StunAgentStats.{StunAgentStats}
use Rattle.stats.specs.declared.Event.{Event}
use Rattle.request.specs.declared.StunRequestState.{StunRequestState}
use Rattle.records.specs.Coding.{size}
use Rattle.records.specs.Live.{live}
use Rattle.model.specs.Calls.{kind_of}
use Rattle.model.specs.Fresh.{build_of}
use Rattle.model.specs.Says.{Said}
use Rattle.model.specs.declared.StunAgent.{StunAgent}
use Rattle.model.specs.declared.StunAgentBuilder.{StunAgentBuilder}
use Rattle.model.specs.declared.Call.{Call}
use Rattle.model.specs.declared.Answer.TheVariants as answer
use Rattle.model.proofs.Default.{built_empty}
use Rattle.agent.specs.Ready.{world_with, world_of}
use Rattle.agent.specs.Said.{said_in, words_in}
use Rattle.agent.proofs.Said.{said_whole}
use Rattle.record.specs.Records.{record_of}
use Rattle.record.specs.declared.Record.{Record}
use Rattle.record.specs.declared.Record.TheVariants.{Settings, Whole}
use Rattle.replay.specs.Runs.{Stand, Played, no_peer, first_world, first_stand, stop, made, stepped, turn_with, turn_by, turn_of}
use Rattle.replay.specs.Lent.{stand_of, played_of, words_by, Plays, first_standing, Begins}
use Rattle.replay.specs.declared.Standing.{Standing}
use Rattle.replay.specs.declared.Turn.{Turn}
use Rattle.entry.specs.Entry.{Performed, answered_in}
use Rattle.entry.specs.declared.Stepped.{Stepped}

-- On a table with all its rows a turn is what the model says.
turn_whole : (t : List ℕ) (st : Stand) (s : List ℕ) → size ≤ length t → (r : Option Record)
    → turn_with (λ w c m. said_in t w (kind_of c) m) st s r ≡ turn_by st s r
turn_whole t st s h None = refl
turn_whole t st s h (Some (Settings b end)) = refl
turn_whole t st s h (Some (Whole call start end)) =
    ap (λ (y : Said). cond st.on (stepped y end) (stop st)) (said_whole t st.world (kind_of call) (take (end - start) (drop start s)) h)

pub as_model : {x : Standing} {s t store : List ℕ} {r : Turn} {t' store' : List ℕ} → Plays x s t store r t' store' → size ≤ length t
    → played_of r t' store' ≡ turn_of (stand_of x t store) s
unfolding turn_of
as_model {x} {s} {t} {store} p h = p.says ∙ turn_whole t (stand_of x t store) s h (record_of s)

-- At most one outcome meets the promise of a turn.
same_turn : {on on' : Bool} {a a' : StunAgent} {peers peers' : List Address} {st st' : StunAgentStats} {reply reply' : Option Answer} {n n' : ℕ} {more more' : Bool}
    → on ≡ on' → a ≡ a' → peers ≡ peers' → st ≡ st' → reply ≡ reply' → n ≡ n' → more ≡ more'
    → ◌≡◌ {A = Turn} (record { standing = record { on = on; held = record { agent = a; peers = peers; stats = st } }; reply = reply; next = n; more = more }) (record { standing = record { on = on'; held = record { agent = a'; peers = peers'; stats = st' } }; reply = reply'; next = n'; more = more' })
same_turn e₁ e₂ e₃ e₄ e₅ e₆ e₇ = cc

pub one_turn : {x : Standing} {s t store : List ℕ} {r q : Turn} {t' t'' store' store'' : List ℕ} → Plays x s t store r t' store' → Plays x s t store q t'' store''
    → (r ≡ q) × (t' ≡ t'') × (store' ≡ store'')
one_turn {x} {s} {t} {store} {r} {q} {t'} {t''} {store'} {store''} a b =
    let e : played_of r t' store' ≡ played_of q t'' store'' = a.says ∙ sym b.says in (
      same_turn (ap (λ (y : Played). y.stand.on) e) (ap (λ (y : Played). y.stand.world.agent) e) (ap (λ (y : Played). y.stand.world.peers) e)
          (ap (λ (y : Played). y.stand.world.stats) e) (ap (λ (y : Played). y.reply) e) (ap (λ (y : Played). y.next) e) (ap (λ (y : Played). y.more) e),
      a.words ∙ sym b.words,
      ap (λ (y : Played). y.stand.world.store) e,
    )

-- Before the first settings.
pub begins : {rto : RequestRto} {st : StunAgentStats} → rto ≡ default_rto → st ≡ zeroed
    → record {
      on = false;
      held = record {
        agent = record { transport = Udp; stats = false; rto = rto; mark = 0; requests = 0; peers = 0 };
        peers = replicate 64 no_peer;
        stats = st;
      };
    } ≡ first_standing
unfolding first_world
begins e f = rw (e, f)

pub cleared : Begins (replicate 576 0) (replicate 32768 0)
unfolding first_world
cleared = record { rows = rw length-replicate (omega arith); empty = refl }

pub begun : {x : Standing} {t store : List ℕ} → x ≡ first_standing → Begins t store → stand_of x t store ≡ first_stand
unfolding first_world
begun {x} {t} {store} e b = ap (λ (y : Standing). stand_of y t store) e ∙ ap (λ (l : List ℕ). stand_of first_standing t l) b.empty

module _ (x : Standing) (s t store : List ℕ) {rec : Option Record} (e : rec ≡ record_of s) where
  abbrev stand : Stand
  stand = stand_of x t store

  by_record : {rec' : Option Record} {r : Turn} {t' store' : List ℕ} → rec ≡ rec' → played_of r t' store' ≡ turn_with (λ w c m. said_in t w (kind_of c) m) stand s rec'
      → t' ≡ words_by t stand s rec' → Plays x s t store r t' store'
  by_record h p q = record {
    says = p ∙ ap (turn_with (λ w c m. said_in t w (kind_of c) m) stand s) (sym h ∙ e);
    words = q ∙ ap (words_by t stand s) (sym h ∙ e);
  }

  pub broken : rec ≡ None → Plays x s t store (record { standing = x; reply = None; next = 0; more = false }) t store
  broken h = by_record h refl refl

  module _ {call : Call} {start end : ℕ} (h : rec ≡ Some (Whole call start end)) where
    abbrev message : List ℕ
    message = take (end - start) (drop start s)

    pub off : x.on ≡ false → Plays x s t store (record { standing = x; reply = None; next = 0; more = false }) t store
    off n =
        by_record h
        (sym (ap (λ (b : Bool). cond b (stepped (said_in t stand.world (kind_of call) message) end) (stop stand)) n))
        (sym (ap (λ (b : Bool). cond b (words_in t stand.world (kind_of call) message) t) n))

    pub played : x.on ≡ true → {r : Stepped} {t' store' : List ℕ}
        → Performed x.held.agent call message t store x.held.peers x.held.stats t' store' r.held.peers r.held.stats (answered_in r)
        → Plays x s t store (record { standing = record { on = true; held = r.held }; reply = Some r.answer; next = end; more = true }) t' store'
    played n p =
        by_record h
        (ap (λ (y : Said). stepped y end) p.says
        ∙ sym (ap (λ (b : Bool). cond b (stepped (said_in t stand.world (kind_of call) message) end) (stop stand)) n))
        (p.words ∙ sym (ap (λ (b : Bool). cond b (words_in t stand.world (kind_of call) message) t) n))

  module _ {b : StunAgentBuilder} {end : ℕ} (h : rec ≡ Some (Settings b end)) {y : Result (StunAgent × Event) Refusal} (f : y ≡ build_of b) where
    by_built : {y' : Result (StunAgent × Event) Refusal} {r : Turn} → y ≡ y' → played_of r t store ≡ made stand y' end → Plays x s t store r t store
    by_built g q = by_record h (q ∙ ap (λ (z : Result (StunAgent × Event) Refusal). made stand z end) (sym g ∙ f)) refl

    pub kept : {q : Refusal} → y ≡ Err q
        → Plays x s t store (record { standing = x; reply = Some (answer.Refused q); next = end; more = x.on }) t store
    kept g = by_built g refl

    pub renews : {a : StunAgent} {ev : Event} {st : StunAgentStats} → y ≡ Ok (a, ev) → st ≡ counted ev x.held.stats
        → Plays x s t store (record { standing = record { on = true; held = record { agent = a; peers = x.held.peers; stats = st } }; reply = Some answer.Ok; next = end; more = true }) t store
    renews {a} {ev} {st} g q =
        by_built g
        (ap (λ (v : StunAgentStats). record {
          stand = record { on = true; world = world_of a t store x.held.peers v };
          reply = Some answer.Ok;
          next = end;
          more = true;
        }) q
        ∙ ap (λ (l : List StunRequestState). record {
          stand = record { on = true; world = world_with a l store x.held.peers (counted ev x.held.stats) };
          reply = Some answer.Ok;
          next = end;
          more = true;
        }) (ap (λ (n : ℕ). live n t) (built_empty b (sym f ∙ g))))
