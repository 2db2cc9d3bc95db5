-- The ten counters over a run are counts and sums over its calls and answers.
--     counters_are     from a fresh agent with statistics on, without a reset
--     counters_since   from any world with the record zeroed
--     history_answers  the answers of a run's history are the run's
--     tallied          one call that isn't refused: its event adds to each counter what the call and its answer say
use Rattle.model.specs.declared.Refusal.{Refusal}
use Rattle.model.specs.declared.Refusal.TheVariants.{BadMessage, WrongClass}
use Rattle.std.specs.Prelude.{None, Some, Option}
use Rattle.request.specs.declared.StunRequestState.{StunRequestState}
use Prim.Native.Nat.{ℕ, ◌+◌}
use mathlib.Core.Path.{◌≡◌, refl, sym, ap, ◌∙◌}
use mathlib.Core.Bool.{Bool, true, false, cond, ◌||◌}
use mathlib.Core.List.{List, [], ◌∷◌, map}
use native.Mathlib.Omega.{arith}
use native.Mathlib.Nat.{add-zero, zero-add, add_assoc}
use lib.ListN.{length}
use Rattle.address.specs.declared.Address.{Address}
use Rattle.message.specs.Head.{key}
use Rattle.message.specs.Attributes.{message_of}
use Rattle.message.specs.declared.MessageClass.{MessageClass}
use Rattle.message.specs.declared.MessageClass.TheVariants.{Request, Indication, Success, Error}
use Rattle.message.specs.declared.Message.{Message}
use Rattle.stats.specs.Count.{Move, same, fresh, up, moved, Moves, moves_of, counted, zeroed}
use Rattle.stats.specs.declared.StunAgentStats.{StunAgentStats}
use Rattle.stats.specs.declared.Event.{Event}
use Rattle.stats.specs.declared.Event.TheVariants as event
use Rattle.stats.proofs.Fields.{counters_moved, nothing, reset}
use Rattle.requests.specs.Search.{lookup}
use Rattle.requests.specs.Scan.{walk, poll_all}
use Rattle.requests.specs.declared.Polled.{Polled}
use Rattle.requests.specs.declared.Polled.TheVariants.{TimedOut, Cancelled, WaitUntil}
use Rattle.requests.proofs.Lists.{apart, neither}
use Rattle.model.specs.World.{World}
use Rattle.model.specs.Calls.{submits, sends, receives, transmits, reports, numbers, mean, unsettled, anew, Kind, carries, scans, names, meets, counts, on_some}
use Rattle.model.specs.Accepts.{accepts}
use Rattle.model.specs.Refusals.{is_request, refusal_of}
use Rattle.model.specs.Effects.{transmit_answer, poll_answer, yes_or_no, sent_as, received_as, rtt_at, transmit_event, poll_event, event_by}
use Rattle.model.specs.Says.{Said, says_of}
use Rattle.model.specs.Fresh.{fresh_event}
use Rattle.model.specs.Runs.{Turn, answers, run}
use Rattle.model.specs.declared.Answer.{Answer}
use Rattle.model.specs.declared.Answer.TheVariants as answer
use Rattle.model.proofs.Refused.{passed_exactly, refused_same}
use Rattle.model.proofs.Classes.{passed_formed, done, event_on, answer_sends, answer_receives, answer_transmits, answer_reports}
use Rattle.model.proofs.Statistics.{counts_event}
use Rattle.model.proofs.Kept.{says_agent}
use Rattle.model.proofs.Store.{request_accepted}
use Rattle.runs.specs.Run.{kind_in, said}
use Rattle.runs.specs.Demand.{Start, begins}
use Rattle.runs.specs.Counts.{Exchange, seen, exchange, history, requests_sent, requests_received, responses_sent, responses_received, indications_sent, indications_received, timed_out, cancelled, bytes_sent, bytes_received, total, stopped, Counters, resets, NoReset}

-- The answers of a run's history are the run's.
pub history_answers : (rows : ℕ) (ts : List Turn) (w : World) → map (λ e. e.answer) (history rows w ts) ≡ answers rows w ts
unfolding history
history_answers rows [] w = refl
history_answers rows (t ∷ ts) w = ap (λ (l : List Answer). (said rows w t).answer ∷ l) (history_answers rows ts (said rows w t).world)

-- What a move adds, and the ten counters side by side.
abbrev pub amount : Move → ℕ
amount same = 0
amount fresh = 0
amount (up n) = n

pub record Amounts : Type 0 where
  pub requests_sent : ℕ
  pub requests_received : ℕ
  pub responses_sent : ℕ
  pub responses_received : ℕ
  pub indications_sent : ℕ
  pub indications_received : ℕ
  pub timed_out : ℕ
  pub cancelled : ℕ
  pub bytes_sent : ℕ
  pub bytes_received : ℕ

abbrev pub amounts_of : Event → Amounts
amounts_of v = record {
  requests_sent = amount (moves_of v).requests_sent;
  requests_received = amount (moves_of v).requests_received;
  responses_sent = amount (moves_of v).responses_sent;
  responses_received = amount (moves_of v).responses_received;
  indications_sent = amount (moves_of v).indications_sent;
  indications_received = amount (moves_of v).indications_received;
  timed_out = amount (moves_of v).timed_out;
  cancelled = amount (moves_of v).cancelled;
  bytes_sent = amount (moves_of v).bytes_sent;
  bytes_received = amount (moves_of v).bytes_received;
}

abbrev pub amounts_in : Exchange → Amounts
amounts_in e = record {
  requests_sent = requests_sent e;
  requests_received = requests_received e;
  responses_sent = responses_sent e;
  responses_received = responses_received e;
  indications_sent = indications_sent e;
  indications_received = indications_received e;
  timed_out = timed_out e;
  cancelled = cancelled e;
  bytes_sent = bytes_sent e;
  bytes_received = bytes_received e;
}

-- ---- one call that isn't refused, by its class

module _ (to : Address) (m : List ℕ) (x : Message) (reads : message_of m ≡ Some x) where
  sent_tallied : is_request x.class ≡ false → amounts_of (sent_as (length m) x.class) ≡ amounts_in (seen (carries (sends to)) m answer.Ok)
  sent_tallied other = go x.class refl other
    where
      go : (c : MessageClass) → x.class ≡ c → is_request c ≡ false
          → amounts_of (sent_as (length m) x.class) ≡ amounts_in (seen (carries (sends to)) m answer.Ok)
      go Request e n = apart n
      go Indication e n = rw (reads, e, add-zero)
      go Success e n = rw (reads, e, add-zero)
      go Error e n = rw (reads, e, add-zero)

module _ (from : Address) (clock : Option ℕ) (m : List ℕ) where
  received_tallied : (rtt : Option ℕ) (x : Message) → message_of m ≡ Some x
      → amounts_of (received_as (length m) rtt x.class) ≡ amounts_in (seen (carries (receives from clock)) m answer.Yes)
  received_tallied rtt x reads = go x.class refl
    where
      go : (c : MessageClass) → x.class ≡ c
          → amounts_of (received_as (length m) rtt x.class) ≡ amounts_in (seen (carries (receives from clock)) m answer.Yes)
      go Request e = rw (reads, e)
      go Indication e = rw (reads, e)
      go Success e = rw (reads, e)
      go Error e = rw (reads, e)

  -- a message that is answered with yes where it is accepted
  heard_tallied : (rtt : Message → Option ℕ) (takes : Message → Bool) (p : Option Message) → message_of m ≡ p
      → amounts_of (on_some p event.Nothing (λ x. cond (takes x) (received_as (length m) (rtt x) x.class) event.Nothing))
      ≡ amounts_in (seen (carries (receives from clock)) m (on_some p answer.No (λ x. yes_or_no (takes x))))
  heard_tallied rtt takes None e = refl
  heard_tallied rtt takes (Some x) e = go (takes x)
    where
      go : (b : Bool)
          → amounts_of (cond b (received_as (length m) (rtt x) x.class) event.Nothing) ≡ amounts_in (seen (carries (receives from clock)) m (yes_or_no b))
      go true = received_tallied (rtt x) x e
      go false = refl

transmit_tallied : (now : ℕ) (m : List ℕ) (o : Option StunRequestState) → amounts_of (transmit_event o) ≡ amounts_in (seen (scans transmits now) m (transmit_answer o))
transmit_tallied now m (Some r) = rw (zero-add r.len)
transmit_tallied now m None = refl

poll_tallied : (now : ℕ) (m : List ℕ) (o : Polled) → amounts_of (poll_event o) ≡ amounts_in (seen (scans reports now) m (poll_answer o))
poll_tallied now m (TimedOut i id) = refl
poll_tallied now m (Cancelled i id) = refl
poll_tallied now m (WaitUntil clock) = refl

module _ (rows : ℕ) (w : World) (m : List ℕ) where
  tallied : (k : Kind) → resets k ≡ false → refusal_of rows w k m ≡ None
      → amounts_of (event_by w k m) ≡ amounts_in (seen k m (says_of rows w k m).answer)
  tallied (carries (submits to now)) kept e =
      let a = request_accepted rows w to now m (passed_formed rows w (carries (submits to now)) m e) e in
      rw (a.answers, a.reads, a.class_is, add-zero)
  tallied (carries (sends to)) kept e =
      let passes = (passed_exactly rows w (carries (sends to)) m).0 e in
      rw ((done rows w (carries (sends to)) m e).answer, answer_sends rows w m to) (go (message_of m) refl (passes BadMessage) (passes WrongClass))
    where
      go : (p : Option Message) → message_of m ≡ p → on_some p true (λ x. false) ≡ false → on_some p false (λ x. is_request x.class) ≡ false
          → amounts_of (on_some p event.Nothing (λ x. sent_as (length m) x.class)) ≡ amounts_in (seen (carries (sends to)) m answer.Ok)
      go None e b c = apart b
      go (Some x) e b c = sent_tallied to m x e c
  tallied (carries (receives from clock)) kept e =
      rw ((done rows w (carries (receives from clock)) m e).answer, answer_receives rows w m from clock)
      (heard_tallied from clock m (λ x. rtt_at clock (lookup (key x.transaction_id) w.requests)) (accepts w.requests from) (message_of m) refl)
  tallied (scans transmits now) kept e =
      rw ((done rows w (scans transmits now) m e).answer, answer_transmits rows w m now)
      (transmit_tallied now m (walk w.agent.transport now w.requests).out)
  tallied (scans reports now) kept e =
      rw ((done rows w (scans reports now) m e).answer, answer_reports rows w m now)
      (poll_tallied now m (poll_all w.agent.transport now w.requests))
  tallied (names id wish) kept e = refl
  tallied (meets a x) kept e = refl
  tallied (counts numbers) kept e = refl
  tallied (counts mean) kept e = refl
  tallied (counts unsettled) kept e = refl
  tallied (counts anew) kept e = apart kept

-- ---- one call, refused or not

pub refused_tallied : (q : Refusal) (m : List ℕ) (k : Kind) → amounts_of event.Nothing ≡ amounts_in (seen k m (answer.Refused q))
refused_tallied q m (carries (submits to now)) = refl
refused_tallied q m (carries (sends to)) = refl
refused_tallied q m (carries (receives from clock)) = refl
refused_tallied q m (scans transmits now) = refl
refused_tallied q m (scans reports now) = refl
refused_tallied q m (names id wish) = refl
refused_tallied q m (meets a x) = refl
refused_tallied q m (counts f) = refl

abbrev is_reset : Event → Bool
is_reset event.Nothing = false
is_reset (event.RequestSent n) = false
is_reset (event.RequestReceived n) = false
is_reset (event.IndicationSent n) = false
is_reset (event.IndicationReceived n) = false
is_reset (event.ResponseSent n) = false
is_reset (event.ResponseReceived n t) = false
is_reset (event.RetransmitBytes n) = false
is_reset event.TimedOut = false
is_reset event.Cancelled = false
is_reset event.Reset = true

class_kept : (n : ℕ) (rtt : Option ℕ) (c : MessageClass) → (is_reset (sent_as n c) ≡ false) × (is_reset (received_as n rtt c) ≡ false)
class_kept n rtt Request = (refl, refl)
class_kept n rtt Indication = (refl, refl)
class_kept n rtt Success = (refl, refl)
class_kept n rtt Error = (refl, refl)

sent_kept : (n : ℕ) (p : Option Message) → is_reset (on_some p event.Nothing (λ x. sent_as n x.class)) ≡ false
sent_kept n None = refl
sent_kept n (Some x) = (class_kept n None x.class).0

heard_kept : (n : ℕ) (rtt : Message → Option ℕ) (takes : Message → Bool) (p : Option Message)
    → is_reset (on_some p event.Nothing (λ x. cond (takes x) (received_as n (rtt x) x.class) event.Nothing)) ≡ false
heard_kept n rtt takes None = refl
heard_kept n rtt takes (Some x) = go (takes x)
  where
    go : (b : Bool) → is_reset (cond b (received_as n (rtt x) x.class) event.Nothing) ≡ false
    go true = (class_kept n (rtt x) x.class).1
    go false = refl

transmit_kept : (o : Option StunRequestState) → is_reset (transmit_event o) ≡ false
transmit_kept (Some r) = refl
transmit_kept None = refl

poll_kept : (o : Polled) → is_reset (poll_event o) ≡ false
poll_kept (TimedOut i id) = refl
poll_kept (Cancelled i id) = refl
poll_kept (WaitUntil clock) = refl

no_reset : (w : World) (m : List ℕ) (k : Kind) → resets k ≡ false → is_reset (event_by w k m) ≡ false
no_reset w m (carries (submits to now)) e = refl
no_reset w m (carries (sends to)) e = sent_kept (length m) (message_of m)
no_reset w m (carries (receives from clock)) e =
    heard_kept (length m) (λ x. rtt_at clock (lookup (key x.transaction_id) w.requests)) (λ x. accepts w.requests from x) (message_of m)
no_reset w m (scans transmits now) e = transmit_kept (walk w.agent.transport now w.requests).out
no_reset w m (scans reports now) e = poll_kept (poll_all w.agent.transport now w.requests)
no_reset w m (names id wish) e = refl
no_reset w m (meets a x) e = refl
no_reset w m (counts numbers) e = refl
no_reset w m (counts mean) e = refl
no_reset w m (counts unsettled) e = refl
no_reset w m (counts anew) e = apart e

-- The event that a call counted.
pub record Counted (rows : ℕ) (w : World) (k : Kind) (m : List ℕ) : Type 0 where
  pub event : Event
  pub kept : is_reset event ≡ false
  pub stats : (says_of rows w k m).world.stats ≡ counted event w.stats
  pub adds : amounts_of event ≡ amounts_in (seen k m (says_of rows w k m).answer)

pub counts_call : (rows : ℕ) (w : World) (k : Kind) (m : List ℕ) → w.agent.stats ≡ true → resets k ≡ false → Counted rows w k m
counts_call rows w k m on kept = go (refusal_of rows w k m) refl
  where
    go : (o : Option Refusal) → refusal_of rows w k m ≡ o → Counted rows w k m
    go None e = record {
      event = event_by w k m;
      kept = no_reset w m k kept;
      stats = counts_event rows w k m e ∙ ap (λ (v : Event). counted v w.stats) (event_on rows w k m on);
      adds = tallied rows w m k kept e;
    }
    go (Some q) e = record {
      event = event.Nothing;
      kept = refl;
      stats = ap (λ (s : Said). s.world.stats) (refused_same rows w k m q e) ∙ nothing w.stats;
      adds = rw (refused_same rows w k m q e) (refused_tallied q m k);
    }

-- ---- a counter over a run

abbrev is_fresh : Move → Bool
is_fresh same = false
is_fresh fresh = true
is_fresh (up n) = false

rises : (m : Move) (n : ℕ) → is_fresh m ≡ false → moved m (stopped n) ≡ stopped (n + amount m)
rises same n e = omega arith
rises fresh n e = apart e
rises (up k) n e = omega arith

module _ (get : StunAgentStats → ℕ) (moves : Moves → Move) (part : Amounts → ℕ)
    (moves-it : (v : Event) (s : StunAgentStats) → get (counted v s) ≡ moved (moves (moves_of v)) (get s))
    (never-fresh : (v : Event) → is_reset v ≡ false → is_fresh (moves (moves_of v)) ≡ false)
    (is_part : (v : Event) → part (amounts_of v) ≡ amount (moves (moves_of v)))
    (rows : ℕ) where
  grows_by : (n : ℕ) (v : Event) (s : StunAgentStats) (e : Exchange) → is_reset v ≡ false → amounts_of v ≡ amounts_in e → get s ≡ stopped n
      → get (counted v s) ≡ stopped (n + part (amounts_in e))
  grows_by n v s e kept adds h =
      moves-it v s ∙ ap (moved (moves (moves_of v))) h ∙ rises (moves (moves_of v)) n (never-fresh v kept)
      ∙ ap (λ (k : ℕ). stopped (n + k)) (sym (is_part v) ∙ ap part adds)

  grows : (ts : List Turn) (w : World) (n : ℕ) → w.agent.stats ≡ true → NoReset ts → get w.stats ≡ stopped n
      → get (run rows w ts).stats ≡ stopped (n + total (λ e. part (amounts_in e)) (history rows w ts))
  unfolding history
  grows [] w n on kept h = rw add-zero h
  grows (t ∷ ts) w n on kept h =
      let c = counts_call rows w (kind_in t) t.bytes on kept.0 in
      let more = part (amounts_in (exchange rows w t)) in
      let one = ap get c.stats ∙ grows_by n c.event w.stats (exchange rows w t) c.kept c.adds h in
      grows ts (said rows w t).world (n + more) ((says_agent rows w (kind_in t) t.bytes).stats ∙ on) kept.1 one
      ∙ ap stopped (add_assoc n more (total (λ e. part (amounts_in e)) (history rows (said rows w t).world ts)))

  from_zero : (ts : List Turn) (w : World) → w.agent.stats ≡ true → NoReset ts → get w.stats ≡ 0
      → get (run rows w ts).stats ≡ stopped (total (λ e. part (amounts_in e)) (history rows w ts))
  from_zero ts w on kept h = grows ts w 0 on kept h ∙ ap stopped (zero-add (total (λ e. part (amounts_in e)) (history rows w ts)))

-- ---- the ten of them

abbrev any_fresh : Moves → Bool
any_fresh m =
    is_fresh m.requests_sent
    || (is_fresh m.requests_received
    || (is_fresh m.responses_sent
    || (is_fresh m.responses_received
    || (is_fresh m.indications_sent
    || (is_fresh m.indications_received
    || (is_fresh m.timed_out || (is_fresh m.cancelled || (is_fresh m.bytes_sent || is_fresh m.bytes_received))))))))

none_fresh : (v : Event) → is_reset v ≡ false → any_fresh (moves_of v) ≡ false
none_fresh event.Nothing e = refl
none_fresh (event.RequestSent n) e = refl
none_fresh (event.RequestReceived n) e = refl
none_fresh (event.IndicationSent n) e = refl
none_fresh (event.IndicationReceived n) e = refl
none_fresh (event.ResponseSent n) e = refl
none_fresh (event.ResponseReceived n t) e = refl
none_fresh (event.RetransmitBytes n) e = refl
none_fresh event.TimedOut e = refl
none_fresh event.Cancelled e = refl
none_fresh event.Reset e = apart e

record Steady (m : Moves) : Type 0 where
  requests_sent : is_fresh m.requests_sent ≡ false
  requests_received : is_fresh m.requests_received ≡ false
  responses_sent : is_fresh m.responses_sent ≡ false
  responses_received : is_fresh m.responses_received ≡ false
  indications_sent : is_fresh m.indications_sent ≡ false
  indications_received : is_fresh m.indications_received ≡ false
  timed_out : is_fresh m.timed_out ≡ false
  cancelled : is_fresh m.cancelled ≡ false
  bytes_sent : is_fresh m.bytes_sent ≡ false
  bytes_received : is_fresh m.bytes_received ≡ false

steady : (v : Event) → is_reset v ≡ false → Steady (moves_of v)
steady v e =
    let a = neither _ _ (none_fresh v e) in
    let b = neither _ _ a.1 in
    let c = neither _ _ b.1 in
    let d = neither _ _ c.1 in
    let f = neither _ _ d.1 in
    let g = neither _ _ f.1 in
    let h = neither _ _ g.1 in
    let i = neither _ _ h.1 in
    let j = neither _ _ i.1 in
    record {
      requests_sent = a.0;
      requests_received = b.0;
      responses_sent = c.0;
      responses_received = d.0;
      indications_sent = f.0;
      indications_received = g.0;
      timed_out = h.0;
      cancelled = i.0;
      bytes_sent = j.0;
      bytes_received = j.1;
    }

-- The record of a fresh agent with statistics on.
pub begins_zeroed : (s : Start) → s.stats ≡ true → (begins s).stats ≡ zeroed
begins_zeroed s on = ap (λ (b : Bool). counted (fresh_event b) s.counters) on ∙ sym (reset s.counters)

-- From any world with the record zeroed, so after a reset too.
module _ (rows : ℕ) (w : World) (ts : List Turn) (on : w.agent.stats ≡ true) (zero_is : w.stats ≡ zeroed) (kept : NoReset ts) where
  sum_is : (get : StunAgentStats → ℕ) (moves : Moves → Move) (part : Amounts → ℕ) → get zeroed ≡ 0
      → ((v : Event) (s : StunAgentStats) → get (counted v s) ≡ moved (moves (moves_of v)) (get s))
      → ((v : Event) → is_reset v ≡ false → is_fresh (moves (moves_of v)) ≡ false)
      → ((v : Event) → part (amounts_of v) ≡ amount (moves (moves_of v)))
      → get (run rows w ts).stats ≡ stopped (total (λ e. part (amounts_in e)) (history rows w ts))
  sum_is get moves part z a b c = from_zero get moves part a b c rows ts w on kept (ap get zero_is ∙ z)

  pub counters_since : Counters (history rows w ts) (run rows w ts).stats
  counters_since = record {
    requests_sent_lem =
        sum_is (λ s. s.requests_sent) (λ m. m.requests_sent) (λ a. a.requests_sent) refl
        (λ v s. (counters_moved v s).requests_sent) (λ v e. (steady v e).requests_sent) (λ v. refl);
    requests_received_lem =
        sum_is (λ s. s.requests_received) (λ m. m.requests_received) (λ a. a.requests_received) refl
        (λ v s. (counters_moved v s).requests_received) (λ v e. (steady v e).requests_received) (λ v. refl);
    responses_sent_lem =
        sum_is (λ s. s.responses_sent) (λ m. m.responses_sent) (λ a. a.responses_sent) refl
        (λ v s. (counters_moved v s).responses_sent) (λ v e. (steady v e).responses_sent) (λ v. refl);
    responses_received_lem =
        sum_is (λ s. s.responses_received) (λ m. m.responses_received) (λ a. a.responses_received) refl
        (λ v s. (counters_moved v s).responses_received) (λ v e. (steady v e).responses_received) (λ v. refl);
    indications_sent_lem =
        sum_is (λ s. s.indications_sent) (λ m. m.indications_sent) (λ a. a.indications_sent) refl
        (λ v s. (counters_moved v s).indications_sent) (λ v e. (steady v e).indications_sent) (λ v. refl);
    indications_received_lem =
        sum_is (λ s. s.indications_received) (λ m. m.indications_received) (λ a. a.indications_received) refl
        (λ v s. (counters_moved v s).indications_received) (λ v e. (steady v e).indications_received) (λ v. refl);
    transactions_timed_out =
        sum_is (λ s. s.transactions_timed_out) (λ m. m.timed_out) (λ a. a.timed_out) refl
        (λ v s. (counters_moved v s).timed_out) (λ v e. (steady v e).timed_out) (λ v. refl);
    transactions_cancelled =
        sum_is (λ s. s.transactions_cancelled) (λ m. m.cancelled) (λ a. a.cancelled) refl
        (λ v s. (counters_moved v s).cancelled) (λ v e. (steady v e).cancelled) (λ v. refl);
    bytes_sent_lem =
        sum_is (λ s. s.bytes_sent) (λ m. m.bytes_sent) (λ a. a.bytes_sent) refl
        (λ v s. (counters_moved v s).bytes_sent) (λ v e. (steady v e).bytes_sent) (λ v. refl);
    bytes_received_lem =
        sum_is (λ s. s.bytes_received) (λ m. m.bytes_received) (λ a. a.bytes_received) refl
        (λ v s. (counters_moved v s).bytes_received) (λ v e. (steady v e).bytes_received) (λ v. refl);
  }

pub counters_are : (rows : ℕ) (s : Start) (ts : List Turn) → s.stats ≡ true → NoReset ts
    → Counters (history rows (begins s) ts) (run rows (begins s) ts).stats
counters_are rows s ts on kept = counters_since rows (begins s) ts on (begins_zeroed s on) kept
