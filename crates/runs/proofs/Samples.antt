-- The round trips of a run.
--     round_trips_are    the four numbers of them, from a fresh agent with statistics on, without a reset
--     accounts_are       all 14 numbers of the record
--     samples_last       each sample is read from the requests as the calls before it left them
--     sample_is          what it is: the clock minus the clock of the submission, where the request made no step since
use Rattle.model.specs.declared.Refusal.{Refusal}
use Rattle.request.specs.Times.{sent_times}
use Rattle.std.specs.Prelude.{None, Some, Option, is_none}
use Prim.Native.Nat.{ℕ, ◌+◌, ◌-◌}
use mathlib.Core.Path.{◌≡◌, refl, sym, ap, ◌∙◌, subst}
use mathlib.Core.Bool.{Bool, true, false, cond, not, ◌&&◌, and-eq-true_iff}
use mathlib.Core.List.{List, [], ◌∷◌, ◌++◌, append_assoc, append-nil}
use native.Mathlib.Omega.{arith}
use native.Mathlib.Nat.{add-zero, add_assoc}
use lib.Dec.{eqb}
use lib.ListN.{length, length-append}
use borrow.Author.Tests.{eqb-true}
use Rattle.address.specs.declared.Address.{Address}
use Rattle.message.specs.Head.{key}
use Rattle.message.specs.Attributes.{message_of}
use Rattle.message.specs.declared.MessageClass.{MessageClass}
use Rattle.message.specs.declared.MessageClass.TheVariants.{Request, Indication, Success, Error}
use Rattle.message.specs.declared.Message.{Message}
use Rattle.waits.specs.declared.RequestRto.{RequestRto}
use Rattle.waits.specs.declared.Transport.{Transport}
use Rattle.stats.specs.Count.{lesser, greater, Times, times_of, timed_by, times_after, counted, zeroed}
use Rattle.stats.specs.declared.StunAgentStats.{StunAgentStats}
use Rattle.stats.specs.declared.Event.{Event}
use Rattle.stats.specs.declared.Event.TheVariants as event
use Rattle.stats.proofs.Fields.{times_after_lem}
use Rattle.request.specs.Times.{is_due, rtt_of}
use Rattle.request.specs.Request.{stepped, silenced, cancelled, configured}
use Rattle.request.proofs.Steps.{step_again}
use Rattle.request.proofs.Answers.{after_exactly}
use Rattle.request.proofs.Kept.{submission, times_silenced, times_cancelled, times_configured}
use Rattle.request.proofs.Moments.{rtt_sent}
use Rattle.request.specs.Kept.{SameTimes}
use Rattle.request.specs.declared.StunRequestState.{StunRequestState}
use Rattle.requests.specs.Search.{lookup, request_of}
use Rattle.requests.specs.Scan.{walk, poll_all}
use Rattle.requests.specs.declared.Polled.{Polled}
use Rattle.requests.specs.declared.Polled.TheVariants.{TimedOut, Cancelled, WaitUntil}
use Rattle.requests.proofs.Lists.{apart, some_same, none_some}
use Rattle.model.specs.World.{World}
use Rattle.model.specs.Calls.{submits, sends, receives, transmits, reports, Wish, silence, cancel, configure, query, numbers, mean, unsettled, anew, Kind, carries, scans, names, meets, counts, on_some}
use Rattle.model.specs.Accepts.{is_response, accepts}
use Rattle.model.specs.Refusals.{refusal_of}
use Rattle.model.specs.Effects.{yes_or_no, sent_as, received_as, rtt_at, transmit_event, poll_event, event_by}
use Rattle.model.specs.Says.{refused_by, says_of}
use Rattle.model.specs.Runs.{Turn, with, run}
use Rattle.model.specs.declared.Answer.{Answer}
use Rattle.model.specs.declared.Call.TheVariants as call
use Rattle.model.specs.declared.Answer.TheVariants as answer
use Rattle.model.proofs.Refused.{refused_same}
use Rattle.model.proofs.Classes.{done, event_on, answer_receives}
use Rattle.model.proofs.Store.{request_accepted}
use Rattle.model.proofs.Statistics.{counts_event}
use Rattle.model.proofs.Kept.{says_agent, run_agent}
use Rattle.runs.specs.Run.{kind_in, said}
use Rattle.runs.specs.Demand.{Start, begins, Submission, submits as submits-of}
use Rattle.runs.specs.Answers.{is_yes}
use Rattle.runs.specs.Counts.{Exchange, seen, exchange, history, one, resets, NoReset}
use Rattle.runs.specs.Ends.{by_response, submits_by, submits_it, responds_to, end_by, Unended}
use Rattle.runs.specs.Followed.{reaches, wished_of, followed_by, followed, followed_through}
use Rattle.runs.specs.Samples.{Left, left_by, measured, sample_of, listed, samples_from, samples, sum_of, least_of, greatest_of, RoundTrips, Accounts, steps_by, steps_through}
use Rattle.runs.proofs.Steady.{run_append}
use Rattle.runs.proofs.Counts.{begins_zeroed, counters_are}
use Rattle.runs.proofs.Followed.{stands_at, traced, followed_at, follows, follows_fresh}
use Rattle.runs.proofs.Ends.{submits_other}
use Rattle.runs.proofs.Bytes.{passes, formed, is_x}

-- ---- one sample more, at the end of a list

sum_last : (l : List ℕ) (t : ℕ) → sum_of (l ++ (t ∷ [])) ≡ sum_of l + t
sum_last [] t = omega arith
sum_last (a ∷ l) t = omega (arith, sum_last l t)

lesser_either : (m : Option ℕ) (a t : ℕ) → lesser (lesser m t) a ≡ lesser (lesser m a) t
lesser_either None a t = ap Some (omega arith)
lesser_either (Some m) a t = ap Some (omega arith)

least_last : (l : List ℕ) (t : ℕ) → least_of (l ++ (t ∷ [])) ≡ lesser (least_of l) t
least_last [] t = refl
least_last (a ∷ l) t = ap (λ (m : Option ℕ). lesser m a) (least_last l t) ∙ lesser_either (least_of l) a t

greater_either : (m : Option ℕ) (a t : ℕ) → greater (greater m t) a ≡ greater (greater m a) t
greater_either None a t = ap Some (omega arith)
greater_either (Some m) a t = ap Some (omega arith)

greatest_last : (l : List ℕ) (t : ℕ) → greatest_of (l ++ (t ∷ [])) ≡ greater (greatest_of l) t
greatest_last [] t = refl
greatest_last (a ∷ l) t = ap (λ (m : Option ℕ). greater m a) (greatest_last l t) ∙ greater_either (greatest_of l) a t

-- the numbers after a sample, or after none
trips_after : (l : List ℕ) (s s' : StunAgentStats) (rtt : Option ℕ) → RoundTrips l s → times_of s' ≡ timed_by rtt (times_of s) → RoundTrips (l ++ listed rtt) s'
trips_after l s s' None h e = rw (append-nil l) (record {
  rtt_sum = ap (λ (t : Times). t.sum) e ∙ h.rtt_sum;
  rtt_min = ap (λ (t : Times). t.least) e ∙ h.rtt_min;
  rtt_max = ap (λ (t : Times). t.most) e ∙ h.rtt_max;
  rtt_count = ap (λ (t : Times). t.count) e ∙ h.rtt_count;
})
trips_after l s s' (Some t) h e = record {
  rtt_sum = ap (λ (u : Times). u.sum) e ∙ omega (arith, h.rtt_sum, sum_last l t);
  rtt_min = ap (λ (u : Times). u.least) e ∙ ap (λ (m : Option ℕ). lesser m t) h.rtt_min ∙ sym (least_last l t);
  rtt_max = ap (λ (u : Times). u.most) e ∙ ap (λ (m : Option ℕ). greater m t) h.rtt_max ∙ sym (greatest_last l t);
  rtt_count = ap (λ (u : Times). u.count) e ∙ omega (arith, h.rtt_count, length-append l (t ∷ []));
}

-- ---- one call that isn't refused

class_times : (n : ℕ) (c : MessageClass) (t : Times) → times_after (sent_as n c) t ≡ t
class_times n Request t = refl
class_times n Indication t = refl
class_times n Success t = refl
class_times n Error t = refl

received_times : (n : ℕ) (rtt : Option ℕ) (c : MessageClass) (t : Times) → times_after (received_as n rtt c) t ≡ timed_by (cond (is_response c) rtt None) t
received_times n rtt Request t = refl
received_times n rtt Indication t = refl
received_times n rtt Success t = refl
received_times n rtt Error t = refl

sent_message_times : (n : ℕ) (p : Option Message) (t : Times) → times_after (on_some p event.Nothing (λ x. sent_as n x.class)) t ≡ t
sent_message_times n (Some x) t = class_times n x.class t
sent_message_times n None t = refl

heard_times : (n : ℕ) (rtt : Message → Option ℕ) (takes : Message → Bool) (p : Option Message) (t : Times)
    → times_after (on_some p event.Nothing (λ x. cond (takes x) (received_as n (rtt x) x.class) event.Nothing)) t
    ≡ timed_by
    (cond (is_yes (on_some p answer.No (λ x. yes_or_no (takes x)))) (on_some p None (λ x. cond (is_response x.class) (rtt x) None)) None) t
heard_times n rtt takes None t = refl
heard_times n rtt takes (Some x) t = go (takes x)
  where
    go : (b : Bool) → times_after (cond b (received_as n (rtt x) x.class) event.Nothing) t
        ≡ timed_by (cond (is_yes (yes_or_no b)) (cond (is_response x.class) (rtt x) None) None) t
    go true = received_times n (rtt x) x.class t
    go false = refl

transmit_times : (o : Option StunRequestState) (t : Times) → times_after (transmit_event o) t ≡ t
transmit_times (Some r) t = refl
transmit_times None t = refl

poll_times : (o : Polled) (t : Times) → times_after (poll_event o) t ≡ t
poll_times (TimedOut i id) t = refl
poll_times (Cancelled i id) t = refl
poll_times (WaitUntil clock) t = refl

measured_is : (clock : Option ℕ) (f : Option (ℕ × StunRequestState)) → rtt_at clock f ≡ measured clock (request_of f)
measured_is None f = refl
measured_is (Some now) (Some (i, r)) = refl
measured_is (Some now) None = refl

read_same : (p : Option Message) (f g : Message → Option ℕ) → ((x : Message) → f x ≡ g x)
    → on_some p None (λ x. cond (is_response x.class) (f x) None) ≡ on_some p None (λ x. cond (is_response x.class) (g x) None)
read_same (Some x) f g e = ap (λ (t : Option ℕ). cond (is_response x.class) t None) (e x)
read_same None f g e = refl

module _ (rows : ℕ) (w : World) (m : List ℕ) (left : Left) (agrees : (x : ℕ) → request_of (lookup x w.requests) ≡ left x) where
  passed_times : (k : Kind) → resets k ≡ false → refusal_of rows w k m ≡ None → (t : Times)
      → times_after (event_by w k m) t ≡ timed_by (sample_of left (seen k m (says_of rows w k m).answer)) t
  passed_times (carries (submits to now)) kept e t = refl
  passed_times (carries (sends to)) kept e t = sent_message_times (length m) (message_of m) t
  passed_times (carries (receives from clock)) kept e t =
      rw ((done rows w (carries (receives from clock)) m e).answer, answer_receives rows w m from clock)
      (heard_times (length m) (λ y. rtt_at clock (lookup (key y.transaction_id) w.requests)) (accepts w.requests from) (message_of m) t
      ∙ ap (λ (z : Option ℕ). timed_by (cond (is_yes (on_some (message_of m) answer.No (λ y. yes_or_no (accepts w.requests from y)))) z None) t)
      (read_same (message_of m) (λ y. rtt_at clock (lookup (key y.transaction_id) w.requests))
      (λ y. measured clock (left (key y.transaction_id)))
      (λ y. measured_is clock (lookup (key y.transaction_id) w.requests) ∙ ap (measured clock) (agrees (key y.transaction_id)))))
  passed_times (scans transmits now) kept e t = transmit_times (walk w.agent.transport now w.requests).out t
  passed_times (scans reports now) kept e t = poll_times (poll_all w.agent.transport now w.requests) t
  passed_times (names id wish) kept e t = refl
  passed_times (meets a y) kept e t = refl
  passed_times (counts numbers) kept e t = refl
  passed_times (counts mean) kept e t = refl
  passed_times (counts unsettled) kept e t = refl
  passed_times (counts anew) kept e t = apart kept

  refused_sample : (q : Refusal) (k : Kind) → sample_of left (seen k m (answer.Refused q)) ≡ None
  refused_sample n (carries (submits to now)) = refl
  refused_sample n (carries (sends to)) = refl
  refused_sample n (carries (receives from clock)) = refl
  refused_sample n (scans s now) = refl
  refused_sample n (names id wish) = refl
  refused_sample n (meets a y) = refl
  refused_sample n (counts f) = refl

  times_call : (k : Kind) → w.agent.stats ≡ true → resets k ≡ false
      → times_of (says_of rows w k m).world.stats ≡ timed_by (sample_of left (seen k m (says_of rows w k m).answer)) (times_of w.stats)
  times_call k on kept = go (refusal_of rows w k m) refl
    where
      go : (o : Option Refusal) → refusal_of rows w k m ≡ o
          → times_of (says_of rows w k m).world.stats ≡ timed_by (sample_of left (seen k m (says_of rows w k m).answer)) (times_of w.stats)
      go None e =
          ap times_of (counts_event rows w k m e ∙ ap (λ (v : Event). counted v w.stats) (event_on rows w k m on))
          ∙ times_after_lem (event_by w k m) w.stats ∙ passed_times k kept e (times_of w.stats)
      go (Some q) e = rw (refused_same rows w k m q e, refused_sample q k)

-- ---- a run

module _ (rows : ℕ) (tr : Transport) (rto : RequestRto) where
  trips_from : (ts : List Turn) (w : World) (left : Left) (l : List ℕ) → ((x : ℕ) → request_of (lookup x w.requests) ≡ left x)
      → w.agent.transport ≡ tr → w.agent.rto ≡ rto → w.agent.stats ≡ true → NoReset ts → RoundTrips l w.stats
      → RoundTrips (l ++ samples_from tr rto left (history rows w ts)) (run rows w ts).stats
  unfolding history
  trips_from [] w left l agrees t s on kept h = rw (append-nil l) h
  trips_from (c ∷ ts) w left l agrees t s on kept h =
      let a = says_agent rows w (kind_in c) c.bytes in
      let e = exchange rows w c in
      let v = (said rows w c).world in
      let one = trips_after l w.stats v.stats (sample_of left e) h (times_call rows w c.bytes left agrees (kind_in c) on kept.0) in
      let next : (x : ℕ) → request_of (lookup x v.requests) ≡ followed tr rto x e (left x) =
      λ x. followed_at rows x tr rto w t s c ∙ ap (followed tr rto x e) (agrees x) in
      rw (← append_assoc l (listed (sample_of left e)) (samples_from tr rto (λ x. followed tr rto x e (left x)) (history rows v ts)))
      (trips_from ts v (λ x. followed tr rto x e (left x)) (l ++ listed (sample_of left e)) next
      (a.transport ∙ t) (a.rto ∙ s) (a.stats ∙ on) kept.1 one)

pub round_trips_are : (rows : ℕ) (s : Start) (ts : List Turn) → s.stats ≡ true → NoReset ts
    → RoundTrips (samples s.transport s.rto (history rows (begins s) ts)) (run rows (begins s) ts).stats
round_trips_are rows s ts on kept =
    let zero_is : (begins s).stats ≡ zeroed = begins_zeroed s on in
    trips_from rows s.transport s.rto ts (begins s) (λ x. None) [] (λ x. refl) refl refl on kept
    (rw zero_is (record { rtt_sum = refl; rtt_min = refl; rtt_max = refl; rtt_count = refl }))

pub accounts_are : (rows : ℕ) (s : Start) (ts : List Turn) → s.stats ≡ true → NoReset ts
    → Accounts s.transport s.rto (history rows (begins s) ts) (run rows (begins s) ts).stats
accounts_are rows s ts on kept = record { counters = counters_are rows s ts on kept; round_trips = round_trips_are rows s ts on kept }

-- ---- what a sample is

-- A request that was submitted at clock c and made n steps since.
record Timed (c n : ℕ) (r : StunRequestState) : Type 0 where
  last : ℕ
  times : r.send_times ≡ sent_times c last
  count : r.timeout_i ≡ n
  unstepped : n ≡ 0 → last ≡ c

timed_same : (c n : ℕ) (r : StunRequestState) → Timed c n r → Timed c (n + 0) r
timed_same c n r t = rw add-zero t

timed_stepped : (c n now : ℕ) (r : StunRequestState) → Timed c n r → Timed c (n + 1) (stepped now r)
timed_stepped c n now r t =
    rw (← step_again now r c t.last t.times) (record {
      last = now;
      times = refl;
      count = ap (λ (k : ℕ). k + 1) t.count;
      unstepped = λ z. absurd (omega arith);
    })

timed_kept : (c n : ℕ) (r q : StunRequestState) → SameTimes r q → Timed c n r → Timed c n q
timed_kept c n r q s t = record { last = t.last; times = s.times ∙ t.times; count = s.count ∙ t.count; unstepped = t.unstepped }

timed_wished : (c n : ℕ) (r : StunRequestState) → Timed c n r → (wish : Wish) → Timed c n (wished_of wish r)
timed_wished c n r t silence = timed_kept c n r (silenced r) (times_silenced r) t
timed_wished c n r t cancel = timed_kept c n r (cancelled r) (times_cancelled r) t
timed_wished c n r t (configure rto) = timed_kept c n r (configured rto r) (times_configured r rto) t
timed_wished c n r t query = t

timed_rtt : (c n : ℕ) (r : StunRequestState) → Timed c n r → (now : ℕ) → rtt_of now r ≡ cond (eqb n 0) (Some (now - c)) None
timed_rtt c n r t now = rtt_sent now c t.last r t.times ∙ rw t.count (go (eqb n 0) refl)
  where
    go : (b : Bool) → eqb n 0 ≡ b → cond b (Some (now - t.last)) None ≡ cond b (Some (now - c)) None
    go true b = rw (t.unstepped (eqb-true n 0 b))
    go false b = refl

module _ (tr : Transport) (rto : RequestRto) (x : ℕ) where
  -- what a call makes of it that neither accepts nor ends it
  record Goes_on (c n : ℕ) (o : Option StunRequestState) : Type 0 where
    request : StunRequestState
    is : o ≡ Some request
    timed : Timed c n request

  module _ (m : List ℕ) (a : Answer) (c n : ℕ) (r : StunRequestState) (t : Timed c n r) where
    same : Goes_on c (n + 0) (Some r)
    same = record { request = r; is = refl; timed = timed_same c n r t }

    receives_on : (b : Bool) → cond b (Some by_response) None ≡ None → Goes_on c (n + 0) (cond b None (Some r))
    receives_on true e = none_some (sym e)
    receives_on false e = same

    transmits_on : (now : ℕ) (b d : Bool) → Goes_on c (n + one (b && d)) (cond b (Some (cond d (stepped now r) r)) (Some r))
    transmits_on now true true = record { request = stepped now r; is = refl; timed = timed_stepped c n now r t }
    transmits_on now true false = same
    transmits_on now false d = same

    wish_on : (wish : Wish) (b : Bool) → Goes_on c (n + 0) (cond b (Some (wished_of wish r)) (Some r))
    wish_on wish true = record { request = wished_of wish r; is = refl; timed = timed_same c n (wished_of wish r) (timed_wished c n r t wish) }
    wish_on wish false = same

    goes_on : (k : Kind) → submits_by x k a ≡ false → end_by x k m a ≡ None → Goes_on c (n + steps_by tr x k a r) (followed_by tr rto x k m a (Some r))
    goes_on (carries (submits to now)) s e = rw (submits_other tr rto x m a (Some r) to now (message_of m) s) same
    goes_on (carries (sends to)) s e = same
    goes_on (carries (receives from clock)) s e = receives_on (is_yes a && responds_to x m) e
    goes_on (scans transmits now) s e = rw (after_exactly tr now r) (transmits_on now (reaches x a) (not r.recv_cancelled && is_due tr now r))
    goes_on (scans reports now) s e = rw e same
    goes_on (names id wish) s e = wish_on wish (is_none (refused_by a) && eqb (key id) x)
    goes_on (meets addr y) s e = same
    goes_on (counts f) s e = same

  timed_through : (l : List Exchange) (c n : ℕ) (r q : StunRequestState) → Timed c n r → Unended x l → followed_through tr rto x (Some r) l ≡ Some q
      → Timed c (n + steps_through tr rto x (Some r) l) q
  timed_through [] c n r q t u e = rw (some_same (sym e), add-zero) t
  timed_through (d ∷ l) c n r q t u e =
      let g = goes_on d.bytes d.answer c n r t d.about u.1 u.0 in
      let k = steps_by tr x d.about d.answer r in
      let f : followed_through tr rto x (Some g.request) l ≡ Some q =
      sym (ap (λ (o : Option StunRequestState). followed_through tr rto x o l) g.is) ∙ e in
      let z : steps_through tr rto x (Some g.request) l ≡ steps_through tr rto x (followed tr rto x d (Some r)) l =
      ap (λ (o : Option StunRequestState). steps_through tr rto x o l) (sym g.is) in
      subst (λ (i : ℕ). Timed c i q)
      (add_assoc n k (steps_through tr rto x (Some g.request) l) ∙ ap (λ (i : ℕ). n + (k + i)) z)
      (timed_through l c (n + k) g.request q g.timed u.2 f)

-- The last call's sample is read from the requests as the calls before it left them.
last_from : (tr : Transport) (rto : RequestRto) (l : List Exchange) (e : Exchange) (left : Left)
    → samples_from tr rto left (l ++ (e ∷ [])) ≡ samples_from tr rto left l ++ listed (sample_of (λ x. followed_through tr rto x (left x) l) e)
last_from tr rto [] e left = append-nil (listed (sample_of left e))
last_from tr rto (d ∷ l) e left =
    ap (λ (z : List ℕ). listed (sample_of left d) ++ z) (last_from tr rto l e (λ x. followed tr rto x d (left x)))
    ∙ sym (append_assoc (listed (sample_of left d)) (samples_from tr rto (λ x. followed tr rto x d (left x)) l)
    (listed (sample_of (λ x. followed_through tr rto x (left x) (d ∷ l)) e)))

pub samples_last : (tr : Transport) (rto : RequestRto) (l : List Exchange) (e : Exchange)
    → samples tr rto (l ++ (e ∷ [])) ≡ samples tr rto l ++ listed (sample_of (left_by tr rto l) e)
samples_last tr rto l e = last_from tr rto l e (λ x. None)

-- A request accepted at a call of a run, and the calls after it up to now, which neither end it nor accept it again.
module _ (rows x : ℕ) (s : Start) (before : List Turn) (q : Submission) (later : List Turn) where
  abbrev here : World
  here = run rows (begins s) before

  abbrev then : World
  then = (said rows here (submits-of q)).world

  abbrev now_at : World
  now_at = run rows then later

  -- its steps, and the requests as all the calls so far left them
  abbrev steps : ℕ
  steps = steps_through s.transport s.rto x None (history rows here (submits-of q ∷ later))

  abbrev left : Left
  left = left_by s.transport s.rto (history rows (begins s) (before ++ (submits-of q ∷ later)))

  module _ (taken : submits_it x (exchange rows here (submits-of q)) ≡ true) (u : Unended x (history rows then later)) where
    left_timed : (p : StunRequestState) → request_of (lookup x now_at.requests) ≡ Some p → Timed q.now steps p
    unfolding history
    left_timed p g =
        let a = request_accepted rows here q.to q.now q.bytes (formed rows x here q taken) (passes rows x here q taken) in
        let y = a.message in
        let b = submission q.now y.transaction_id y.integrity a.row (length q.bytes) q.to here.agent.rto in
        let z : key y.transaction_id ≡ x = is_x rows x here q taken a in
        let t : Timed q.now 0 a.request =
        rw a.request_is (record { last = q.now; times = b.times_are; count = b.count_is; unstepped = λ n. refl }) in
        let tr = s.transport in
        let rto = s.rto in
        let l = history rows then later in
        let built = run_agent rows before (begins s) in
        let agent = says_agent rows here (kind_in (submits-of q)) q.bytes in
        let stood = ap request_of (stands_at rows x here q.to q.now q.bytes (said rows here (submits-of q)) a z) in
        let away : request_of (lookup x here.requests) ≡ None = ap (λ (n : ℕ). request_of (lookup n here.requests)) (sym z) ∙ ap request_of a.new in
        let first : Some a.request ≡ followed tr rto x (exchange rows here (submits-of q)) None =
        sym stood ∙ followed_at rows x tr rto here built.transport built.rto (submits-of q) ∙ ap (followed tr rto x (exchange rows here (submits-of q))) away in
        let through : followed_through tr rto x (Some a.request) l ≡ Some p =
        ap (λ (o : Option StunRequestState). followed_through tr rto x o l) (sym stood)
        ∙ sym (follows rows x tr rto later then (agent.transport ∙ built.transport) (agent.rto ∙ built.rto)) ∙ g in
        subst (λ (o : Option StunRequestState). Timed q.now (0 + steps_through tr rto x o l) p) first
        (timed_through tr rto x l q.now 0 a.request p t u through)

    left_is : (y : ℕ) → left y ≡ request_of (lookup y now_at.requests)
    left_is y =
        sym (follows_fresh rows y s (before ++ (submits-of q ∷ later)))
        ∙ ap (λ (w : World). request_of (lookup y w.requests)) (run_append rows (begins s) before (submits-of q ∷ later))

    -- "RTT is now minus last send, counted only with a clock and step count 0": the sample of a response that is accepted at the clock `now`
    -- is now minus the clock of the submission, and there is one exactly if the request made no step since.
    module _ (from : Address) (now : ℕ) (m : List ℕ) where
      abbrev response : Turn
      response = with (call.HandleStunMessageWithTime from now) m

      pub sample_is : responds_to x m ≡ true → is_yes (said rows now_at response).answer ≡ true
          → sample_of left (exchange rows now_at response) ≡ cond (eqb steps 0) (Some (now - q.now)) None
      sample_is answers yes-is = go (lookup x now_at.requests) refl
        where
          read : (p : StunRequestState) → left x ≡ Some p → (y : Option Message)
              → on_some y false (λ z. is_response z.class && eqb (key z.transaction_id) x) ≡ true
              → on_some y None (λ z. cond (is_response z.class) (measured (Some now) (left (key z.transaction_id))) None) ≡ rtt_of now p
          read p f (Some z) h =
              let a = (and-eq-true_iff (is_response z.class) (eqb (key z.transaction_id) x)).0 h in
              let i : left (key z.transaction_id) ≡ Some p = ap left (eqb-true (key z.transaction_id) x a.1) ∙ f in
              ap (λ (o : Option StunRequestState). cond (is_response z.class) (measured (Some now) o) None) i ∙ rw a.0
          read p f None h = apart (sym h)

          go : (f : Option (ℕ × StunRequestState)) → lookup x now_at.requests ≡ f
              → sample_of left (exchange rows now_at response) ≡ cond (eqb steps 0) (Some (now - q.now)) None
          go (Some (i, p)) f =
              rw yes-is (read p (left_is x ∙ ap request_of f) (message_of m) answers ∙ timed_rtt q.now steps p (left_timed p (ap request_of f)) now)
          go None f =
              let z : end_by x (carries (receives from (Some now))) m (said rows now_at response).answer ≡ Some by_response = rw (yes-is, answers) in
              none_some (sym ((traced rows x now_at m (carries (receives from (Some now)))).unended (ap request_of f)) ∙ z)
