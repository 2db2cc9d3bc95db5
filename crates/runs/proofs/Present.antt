-- From one request to a run: in a run that leaves the request x alone, its sends and its timeout are those that its own record and the
-- clocks of the rounds give, whatever the other calls do.
--     Went, transmits_went       the transmissions of a round
--     Outcome, polls_outcome     its polls, and that its wait is at most x's next moment
--     Closed, present_run        a run
use Rattle.std.specs.Prelude.{None, Some, Option, is_none}
use Prim.Native.Nat.{ℕ, ◌^◌, ◌≤◌, zero, suc}
use mathlib.Core.Path.{◌≡◌, refl, sym, ap, ◌∙◌, subst}
use mathlib.Core.Bool.{true, false, and-false}
use mathlib.Core.List.{List, [], ◌∷◌, ◌++◌, append_assoc, append-nil}
use borrow.Author.Tests.{eq-eqb, ne_eqb}
use native.Mathlib.Omega.{arith}
use Rattle.message.specs.Head.{key}
use Rattle.waits.specs.declared.RequestRto.{RequestRto}
use Rattle.waits.specs.declared.Transport.{Transport}
use Rattle.request.specs.Times.{is_due}
use Rattle.request.specs.Request.{stepped, poll_of}
use Rattle.request.specs.declared.StunRequestState.{StunRequestState}
use Rattle.request.specs.declared.StunRequestPollRet.TheVariants as poll-ret
use Rattle.request.proofs.Kept.{same_stepped}
use Rattle.requests.specs.Search.{key_of, lookup, request_of}
use Rattle.requests.specs.Scan.{poll_all}
use Rattle.requests.specs.declared.Polled.{Polled}
use Rattle.requests.proofs.Lists.{apart, some_same, none_some}
use Rattle.requests.proofs.Search.{found_at, lookup_taken}
use Rattle.requests.proofs.Transmits.{MetLoud, goes, other, none_goes, transmit_found, loud_met}
use Rattle.requests.proofs.Polls.{Told, timed_out_lem, cancelled, other_timed_out, other_cancelled, waits, poll_found, poll_timed_out, poll_cancelled}
use Rattle.model.specs.World.{World}
use Rattle.model.specs.Calls.{transmits, reports}
use Rattle.model.specs.Refusals.{refusal_of}
use Rattle.model.specs.Effects.{changed, reported, transmit_answer, poll_answer}
use Rattle.model.specs.Runs.{Turn, run}
use Rattle.model.specs.declared.Answer.{Answer}
use Rattle.model.specs.declared.Answer.TheVariants as answer
use Rattle.model.proofs.Classes.{scan_passes}
use Rattle.runs.specs.Run.{kind_in, said, hands_out, hands_out_it, times_out_it, sends, timeouts}
use Rattle.runs.specs.Round.{transmission, poll, is_report, Transmits, none_left, one_more, Polls, told_to_wait, one_report, Round, round, Step, Runs, ends, then_call, then_round}
use Rattle.runs.specs.Times.{next, send_times, end_time, list_of}
use Rattle.runs.specs.Demand.{Steady, rounds, LeftAlone}
use Rattle.runs.proofs.Steady.{Ok, ok_said, next_ok, transmits_world, polls_world, round_world, ok_transmits, ok_round}
use Rattle.runs.proofs.Spared.{others_spare, scan_said, ended_other, absent_run}
use Rattle.runs.proofs.One.{Loud, stepped_facts, sends_from, end_from, loud_goes, sends_step, end_step, sends_stay, sends_over, end_over, end_stay, timed_over, waits_over, not_cancelled}

-- ---- runs in two parts

pub sends_append : (rows x : ℕ) (w : World) (rs bs : List Turn) → sends rows x w (rs ++ bs) ≡ sends rows x w rs ++ sends rows x (run rows w rs) bs
unfolding sends
sends_append rows x w [] bs = refl
sends_append rows x w (t ∷ rs) bs = rw (sends_append rows x (said rows w t).world rs bs, append_assoc)

pub timeouts_append : (rows x : ℕ) (w : World) (rs bs : List Turn) → timeouts rows x w (rs ++ bs) ≡ timeouts rows x w rs ++ timeouts rows x (run rows w rs) bs
unfolding timeouts
timeouts_append rows x w [] bs = refl
timeouts_append rows x w (t ∷ rs) bs = rw (timeouts_append rows x (said rows w t).world rs bs, append_assoc)

alone_rest : (rows x : ℕ) (w : World) (rs bs : List Turn) → LeftAlone rows x w (rs ++ bs) → LeftAlone rows x (run rows w rs) bs
alone_rest rows x w [] bs h = h
alone_rest rows x w (t ∷ rs) bs h = alone_rest rows x (said rows w t).world rs bs h.1

pub found_of : {r : StunRequestState} (f : Option (ℕ × StunRequestState)) → request_of f ≡ Some r → (i : ℕ) × (f ≡ Some (i, r))
found_of (Some (i, q)) e = (i, ap (λ (r : StunRequestState). Some (i, r)) (some_same e))
found_of None e = none_some e

-- ---- one transmission: its answer, and x's record afterwards

data Reached (x : ℕ) (tr : Transport) (now : ℕ) (r : StunRequestState) : Answer → Option StunRequestState → Type 0 where
  hit : {a : Answer} → is_due tr now r ≡ true → hands_out a ≡ true → hands_out_it x a ≡ true → Reached x tr now r a (Some (stepped now r))
  passed : {a : Answer} → hands_out a ≡ true → hands_out_it x a ≡ false → Reached x tr now r a (Some r)
  nobody : is_due tr now r ≡ false → Reached x tr now r answer.None (Some r)

reached_by : (x : ℕ) (tr : Transport) (now last : ℕ) (r : StunRequestState) → Loud last r → key_of r ≡ x
    → (o : Option StunRequestState) (q : StunRequestState) → MetLoud tr now r o q → Reached x tr now r (transmit_answer o) (Some q)
reached_by x tr now last r l k o q (goes e) =
    hit (sym (loud_goes tr now last r l) ∙ e) refl (eq-eqb _ x (ap key (same_stepped r now).id ∙ k))
reached_by x tr now last r l k o q (other {p} n) = passed refl (ne_eqb (key_of p) x (λ z. n (z ∙ sym k)))
reached_by x tr now last r l k o q (none_goes e) = nobody (sym (loud_goes tr now last r l) ∙ e)

module _ (rows x : ℕ) (tr : Transport) (set : RequestRto) (now : ℕ) (low : now ≤ 2 ^ 60) where
  one_transmit : (m : ℕ) (w : World) → Ok rows tr set m w → m ≤ now → (last : ℕ) (r : StunRequestState) → request_of (lookup x w.requests) ≡ Some r → Loud last r
      → Reached x tr now r (said rows w (transmission now)).answer (request_of (lookup x (said rows w (transmission now)).world.requests))
  one_transmit m w o l last r f q =
      let s = scan_said rows w transmits now [] (scan_passes rows w transmits now [] o.formed (omega (arith, o.mark)) low) in
      let u = w.agent.transport in
      let a = found_of (lookup x w.requests) f in
      let t = transmit_found u now w.requests x a.0 r o.formed.requests.order a.1 in
      let k : key_of r ≡ x = (found_at x a.0 r w.requests a.1).key_is in
      let z = reached_by x u now last r q k _ _ (loud_met u now r q.silent t.2) in
      subst (λ (v : Transport). Reached x v now r (said rows w (transmission now)).answer (request_of (lookup x (said rows w (transmission now)).world.requests))) o.transport
      (rw (s.answers, s.requests, t.1) z)

  -- the transmissions of a round
  pub record Went (w : World) (last : ℕ) (r : StunRequestState) (ts : List Turn) (v : World) : Type 0 where
    pub clock : ℕ
    pub request : StunRequestState
    pub loud : Loud clock request
    pub found : request_of (lookup x v.requests) ≡ Some request
    pub quiet : is_due tr now request ≡ false
    pub sent : (cs : List ℕ) → sends_from tr r last (now ∷ cs) ≡ sends rows x w ts ++ sends_from tr request clock cs
    pub end : (cs : List ℕ) → end_from tr r last (now ∷ cs) ≡ end_from tr request clock (now ∷ cs)
    pub untimed : timeouts rows x w ts ≡ []

  pub transmits_went : {w v : World} {ts : List Turn} → Transmits rows now w ts v → (m : ℕ) → Ok rows tr set m w → m ≤ now
      → (last : ℕ) (r : StunRequestState) → request_of (lookup x w.requests) ≡ Some r → Loud last r → Went w last r ts v
  unfolding sends timeouts
  transmits_went (none_left {w} e) m o l last r f q = go _ _ (one_transmit m w o l last r f q) e refl
    where
      go : (a : Answer) (g : Option StunRequestState) → Reached x tr now r a g → a ≡ answer.None → request_of (lookup x (said rows w (transmission now)).world.requests) ≡ g
          → Went w last r (transmission now ∷ []) (said rows w (transmission now)).world
      go a g (hit d h i) e k = apart (sym h ∙ ap hands_out e)
      go a g (passed h i) e k = apart (sym h ∙ ap hands_out e)
      go a g (nobody d) z k = record {
        clock = last;
        request = r;
        loud = q;
        found = k;
        quiet = d;
        sent = λ cs. rw e (sends_stay tr now last r q cs d);
        end = λ cs. refl;
        untimed = refl;
      }
  transmits_went (one_more {w} {v} {ts} e d) m o l last r f q =
      go _ _ (one_transmit m w o l last r f q) refl refl
      (λ last' r' f' q'. transmits_went d now (ok_said rows tr set m now w (kind_in (transmission now)) [] o l (omega arith)) (omega arith) last' r' f' q')
    where
      go : (a : Answer) (g : Option StunRequestState) → Reached x tr now r a g → (said rows w (transmission now)).answer ≡ a
          → request_of (lookup x (said rows w (transmission now)).world.requests) ≡ g
          → ((last' : ℕ) (r' : StunRequestState) → request_of (lookup x (said rows w (transmission now)).world.requests) ≡ Some r' → Loud last' r'
          → Went (said rows w (transmission now)).world last' r' ts v)
          → Went w last r (transmission now ∷ ts) v
      go a g (hit due h i) z k ih =
          let y = ih now (stepped now r) k (stepped_facts now last r q).loud in
          record {
            clock = y.clock;
            request = y.request;
            loud = y.loud;
            found = y.found;
            quiet = y.quiet;
            sent = λ cs. rw (z, i) (sends_step tr now last r q cs due ∙ ap (λ (u : List ℕ). now ∷ u) (y.sent cs));
            end = λ cs. end_step tr now last r q cs due ∙ y.end cs;
            untimed = y.untimed;
          }
      go a g (passed h i) z k ih =
          let y = ih last r k q in
          record {
            clock = y.clock;
            request = y.request;
            loud = y.loud;
            found = y.found;
            quiet = y.quiet;
            sent = λ cs. rw (z, i) (y.sent cs);
            end = y.end;
            untimed = y.untimed;
          }
      go a g (nobody n) z k ih = apart (sym e ∙ ap hands_out z)

-- ---- one poll: its answer, and x's record afterwards

data Heard (x : ℕ) (tr : Transport) (now : ℕ) (r : StunRequestState) : Answer → Option StunRequestState → Type 0 where
  it_ended : {a : Answer} → poll_of tr now r ≡ poll-ret.TimedOut → is_report a ≡ true → times_out_it x a ≡ true → Heard x tr now r a None
  another_ended : {a : Answer} → is_report a ≡ true → times_out_it x a ≡ false → Heard x tr now r a (Some r)
  none_ended : {m clock : ℕ} → poll_of tr now r ≡ poll-ret.WaitUntil clock → m ≤ clock → Heard x tr now r (answer.Wait m) (Some r)

module _ (rows x : ℕ) (tr : Transport) (set : RequestRto) (now : ℕ) (low : now ≤ 2 ^ 60) (last : ℕ) (r : StunRequestState) (q : Loud last r) where
  one_poll : (m : ℕ) (w : World) → Ok rows tr set m w → m ≤ now → request_of (lookup x w.requests) ≡ Some r
      → Heard x tr now r (said rows w (poll now)).answer (request_of (lookup x (said rows w (poll now)).world.requests))
  one_poll m w o l f =
      let s = scan_said rows w reports now [] (scan_passes rows w reports now [] o.formed (omega (arith, o.mark)) low) in
      let u = w.agent.transport in
      subst (λ (v : Transport). Heard x v now r (said rows w (poll now)).answer (request_of (lookup x (said rows w (poll now)).world.requests))) o.transport
      (rw (s.answers, s.requests) (go u (poll_all u now w.requests) refl (poll_found u now w.requests x a.0 r o.formed.requests.order a.1)))
    where
      a : (i : ℕ) × (lookup x w.requests ≡ Some (i, r))
      a = found_of (lookup x w.requests) f

      is : key_of r ≡ x
      is = (found_at x a.0 r w.requests a.1).key_is

      go : (u : Transport) (p : Polled) → poll_all u now w.requests ≡ p → Told u now a.0 r p
          → Heard x u now r (poll_answer p) (request_of (lookup x (changed u (reported p) w.requests)))
      go u p e (timed_out_lem t) = rw (lookup_taken x a.0 r w.requests a.1 o.formed.requests.order) (it_ended t refl (eq-eqb (key_of r) x is))
      go u p e (cancelled t) = absurd (not_cancelled u now last r q t)
      go u p e (other_timed_out {j} {id} n k) =
          let d : key id ≡ x → ⊥ = λ z. k (z ∙ sym is) in
          rw (ended_other x u now w.requests j id poll-ret.TimedOut d (poll_timed_out u now w.requests j id e), f) (another_ended refl (ne_eqb (key id) x d))
      go u p e (other_cancelled {j} {id} n k) =
          let d : key id ≡ x → ⊥ = λ z. k (z ∙ sym is) in
          rw (ended_other x u now w.requests j id poll-ret.Cancelled d (poll_cancelled u now w.requests j id e), f) (another_ended refl refl)
      go u p e (waits t c) = rw f (none_ended t c)

  -- the polls of a round
  pub data Outcome (w : World) (ts : List Turn) (v : World) (m : ℕ) : Type 0 where
    stayed : {clock : ℕ} → poll_of tr now r ≡ poll-ret.WaitUntil clock → m ≤ clock → timeouts rows x w ts ≡ [] → request_of (lookup x v.requests) ≡ Some r
        → Outcome w ts v m
    timed : poll_of tr now r ≡ poll-ret.TimedOut → timeouts rows x w ts ≡ now ∷ [] → request_of (lookup x v.requests) ≡ None → Outcome w ts v m

  polls_alone : {w v : World} {ts : List Turn} {m : ℕ} → Polls rows now w ts v m → LeftAlone rows x w ts
  polls_alone (told_to_wait {w} e) = (and-false (is_none (refusal_of rows w (kind_in (poll now)) [])), tt)
  polls_alone (one_report {w} e d) = (and-false (is_none (refusal_of rows w (kind_in (poll now)) [])), polls_alone d)

  pub polls_unsent : {w v : World} {ts : List Turn} {m : ℕ} → Polls rows now w ts v m → sends rows x w ts ≡ []
  unfolding sends
  polls_unsent (told_to_wait e) = refl
  polls_unsent (one_report e d) = polls_unsent d

  pub polls_outcome : {w v : World} {ts : List Turn} {m : ℕ} → Polls rows now w ts v m → Ok rows tr set now w → request_of (lookup x w.requests) ≡ Some r
      → Outcome w ts v m
  unfolding timeouts
  polls_outcome (told_to_wait {w} {clock = m} e) o f = go _ _ (one_poll now w o (omega arith) f) refl refl
    where
      go : (a : Answer) (g : Option StunRequestState) → Heard x tr now r a g → (said rows w (poll now)).answer ≡ a
          → request_of (lookup x (said rows w (poll now)).world.requests) ≡ g → Outcome w (poll now ∷ []) (said rows w (poll now)).world m
      go a g (it_ended t h i) z k = apart (sym h ∙ ap is_report (sym z ∙ e))
      go a g (another_ended h i) z k = apart (sym h ∙ ap is_report (sym z ∙ e))
      go a g (none_ended {m = n} t c) z k =
          let same : answer.Wait n ≡ answer.Wait m = sym z ∙ e in
          let is : n ≡ m = cc in
          stayed t (omega arith) (rw e) k
  polls_outcome (one_report {w} {v} {ts} {clock = m} e d) o f =
      let o' = ok_said rows tr set now now w (kind_in (poll now)) [] o (omega arith) (omega arith) in
      go o' _ _ (one_poll now w o (omega arith) f) refl refl (λ f'. polls_outcome d o' f')
    where
      go : Ok rows tr set now (said rows w (poll now)).world → (a : Answer) (g : Option StunRequestState) → Heard x tr now r a g → (said rows w (poll now)).answer ≡ a
          → request_of (lookup x (said rows w (poll now)).world.requests) ≡ g
          → (request_of (lookup x (said rows w (poll now)).world.requests) ≡ Some r → Outcome (said rows w (poll now)).world ts v m)
          → Outcome w (poll now ∷ ts) v m
      go o' a g (it_ended t h i) z k ih =
          let y = absent_run rows x (said rows w (poll now)).world ts o'.formed (polls_alone d) k in
          timed t (rw (z, i, y.untimed)) (rw (polls_world d) at y.gone)
      go o' a g (another_ended h i) z k ih = further (ih k)
        where
          further : Outcome (said rows w (poll now)).world ts v m → Outcome w (poll now ∷ ts) v m
          further (stayed t c n s) = stayed t c (rw (z, i) n) s
          further (timed t n s) = timed t (rw (z, i) n) s
      go o' a g (none_ended t c) z k ih = apart (sym e ∙ ap is_report z)

-- ---- a run

pub record Closed (rows x : ℕ) (w : World) (ts : List Turn) (ss os : List ℕ) : Type 0 where
  pub sent : sends rows x w ts ≡ ss
  pub over : timeouts rows x w ts ≡ os

sends_nil : (s : RequestRto) (k c l : ℕ) → send_times s k c l [] ≡ []
unfolding send_times next
sends_nil s zero c l = refl
sends_nil s (suc k) c l = refl

end_nil : (tr : Transport) (s : RequestRto) (k c l : ℕ) → end_time tr s k c l [] ≡ None
unfolding end_time next
end_nil tr s zero c l = refl
end_nil tr s (suc k) c l = refl

module _ (rows x : ℕ) (tr : Transport) (set : RequestRto) where
  -- a round in front of the rest of a run, in which x was sent and reported as us and vs say
  round_closed : {now clock : ℕ} {w u : World} {rs : List Turn} → Round rows now w rs u clock → (ts : List Turn) (us vs ss os : List ℕ)
      → sends rows x w rs ≡ us → timeouts rows x w rs ≡ vs → Closed rows x u ts ss os → Closed rows x w (rs ++ ts) (us ++ ss) (vs ++ os)
  round_closed {w = w} {rs = rs} a ts us vs ss os e f z = record {
    sent = sends_append rows x w rs ts ∙ rw (round_world a, e, z.sent);
    over = timeouts_append rows x w rs ts ∙ rw (round_world a, f, z.over);
  }

  pub present_run : {w : World} {ss : List Step} {ts : List Turn} → Runs rows w ss ts → (m : ℕ) → Ok rows tr set m w → Steady m ss → LeftAlone rows x w ts
      → (last : ℕ) (r : StunRequestState) → request_of (lookup x w.requests) ≡ Some r → Loud last r
      → Closed rows x w ts (sends_from tr r last (rounds ss)) (list_of (end_from tr r last (rounds ss)))
  unfolding sends timeouts
  present_run ends m o h n last r f q = record { sent = sym (sends_nil r.rto _ _ last); over = rw (end_nil tr r.rto _ _ last) }
  present_run (then_call {w} {t} {ss} c d) m o h n last r f q =
      let z = next_ok rows tr set m t w (λ u. Steady u ss) o h in
      let s = others_spare rows x w o.formed t c n.0 in
      let y = present_run d z.floor z.ok z.steady n.1 last r (s.kept ∙ f) q in
      record { sent = rw s.unsent y.sent; over = rw s.untimed y.over }
  present_run (then_round {w} {u} {now} {clock} {ts = ts} {ss = ss} (round {v} {ts = as'} {ps} a b) d) m o h n last r f q =
      go (polls_outcome rows x tr set now h.1 g.clock g.request g.loud b (ok_transmits a m h.0 o) g.found)
      (λ last' r' f' q'. present_run d now o' h.2 alone last' r' f' q')
    where
      g : Went rows x tr set now h.1 w last r as' v
      g = transmits_went rows x tr set now h.1 a m o h.0 last r f q

      o' : Ok rows tr set now u
      o' = ok_round (round a b) m h.0 o

      alone : LeftAlone rows x u ts
      alone = rw (round_world (round a b)) at (alone_rest rows x w (as' ++ ps) ts n)

      sent_in_lem : sends rows x w (as' ++ ps) ≡ sends rows x w as'
      sent_in_lem =
          sends_append rows x w as' ps
          ∙ rw (transmits_world a, polls_unsent rows x tr set now h.1 g.clock g.request g.loud b, append-nil)

      timed_in : timeouts rows x w (as' ++ ps) ≡ timeouts rows x v ps
      timed_in = timeouts_append rows x w as' ps ∙ rw (transmits_world a, g.untimed)

      go : Outcome rows x tr set now h.1 g.clock g.request g.loud v ps u clock
          → ((last' : ℕ) (r' : StunRequestState) → request_of (lookup x u.requests) ≡ Some r' → Loud last' r'
          → Closed rows x u ts (sends_from tr r' last' (rounds ss)) (list_of (end_from tr r' last' (rounds ss))))
          → Closed rows x w ((as' ++ ps) ++ ts) (sends_from tr r last (now ∷ rounds ss)) (list_of (end_from tr r last (now ∷ rounds ss)))
      go (stayed {clock = c} t l e k) ih =
          let over = waits_over tr now g.clock g.request g.loud c t in
          let y = ih g.clock g.request k g.loud in
          rw (g.sent (rounds ss), g.end (rounds ss), end_stay tr now g.clock g.request g.loud (rounds ss) g.quiet over)
          (round_closed (round a b) ts (sends rows x w as') [] _ _ sent_in_lem (timed_in ∙ e) y)
      go (timed t e k) ih =
          let over = timed_over tr now g.clock g.request g.loud t in
          let y = absent_run rows x u ts o'.formed alone k in
          rw (g.sent (rounds ss), g.end (rounds ss), sends_over tr now g.clock g.request g.loud (rounds ss) over, end_over tr now g.clock g.request g.loud (rounds ss) over)
          (round_closed (round a b) ts (sends rows x w as') (now ∷ []) [] [] sent_in_lem (timed_in ∙ e) (record { sent = y.unsent; over = y.untimed }))
