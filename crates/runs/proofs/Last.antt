-- Demand 3's last sentence: the wait that ends a round lies after its clock, and a round before it finds nothing to do.
--     Scans, the_scans               the two calls of a round, as the scans of the list
--     transmits_rested, polls_earliest     the requests after a round, and its wait
--     round_later                    the wait lies after the clock
--     round_idle                     a round before the wait sends and reports nothing
--     positive_run                   where no zero is set, no request has one
--     last_sentence
use Rattle.model.specs.declared.Refusal.{Refusal}
use Rattle.model.specs.declared.Refusal.TheVariants.{State}
use Rattle.std.specs.Prelude.{Option, None, Some, slice_get}
use Rattle.message.specs.declared.Message.{Message}
use Prim.Native.Nat.{ℕ, suc, ◌+◌, ◌^◌, ◌≤◌, ◌<◌, max}
use mathlib.Core.Path.{◌≡◌, refl, sym, ap, ◌∙◌, subst}
use mathlib.Core.Bool.{Bool, true, false, cond, not, ◌||◌, and-false}
use mathlib.Core.List.{List, [], ◌∷◌, ◌++◌, map}
use mathlib.Core.Logic.{◌⊎◌, inl, inr}
use native.Mathlib.Omega.{arith}
use Rattle.address.specs.declared.Address.{Address}
use Rattle.message.specs.Head.{key}
use Rattle.message.specs.Attributes.{message_of}
use Rattle.message.specs.declared.TransactionId.{TransactionId}
use Rattle.waits.specs.declared.RequestRto.{RequestRto}
use Rattle.waits.specs.declared.Transport.{Transport}
use Rattle.request.specs.Times.{is_due, moment_of}
use Rattle.request.specs.Request.{silenced, cancelled, configured, poll_of}
use Rattle.request.specs.Answers.{ends, wait_clock}
use Rattle.request.specs.declared.StunRequestState.{StunRequestState}
use Rattle.request.specs.declared.StunRequestPollRet.TheVariants as poll-ret
use Rattle.request.proofs.Answers.{goes_exactly, after_exactly, ends_exactly, wait_clock_lem}
use Rattle.request.proofs.Kept.{settings_transmit, rto_silenced, rto_cancelled, rto_configured}
use Rattle.request.proofs.Moments.{ahead, Between, still_ahead}
use Rattle.requests.specs.Search.{lookup}
use Rattle.requests.specs.Scan.{hour, Walk, walk, poll_all}
use Rattle.requests.specs.declared.Polled.{Polled}
use Rattle.requests.specs.declared.Polled.TheVariants.{TimedOut, Cancelled, WaitUntil}
use Rattle.requests.proofs.Lists.{apart}
use Rattle.requests.proofs.Search.{found_at}
use Rattle.requests.proofs.Transmits.{NoneGoes, passed_by, walk_quiet, quiet_exactly}
use Rattle.requests.proofs.Polls.{NoneEnds, Earliest, poll_waits, waits_exactly}
use Rattle.model.specs.World.{World, StateFormed}
use Rattle.model.specs.Calls.{submits as submits-at, sends as sends_other, receives, transmits, reports, Wish, silence, cancel, configure, query, Kind, carries, scans, names, meets, counts, settings_of, wish_settings, on_some}
use Rattle.model.specs.Accepts.{is_response, accepts}
use Rattle.model.specs.Refusals.{refusal_of}
use Rattle.model.specs.Effects.{on_found, keeps, changed, taken, answered, reported, wished, transmit_answer, poll_answer}
use Rattle.model.specs.Says.{Said, says_of}
use Rattle.model.specs.Runs.{Turn, run}
use Rattle.model.specs.declared.Answer.TheVariants as answer
use Rattle.model.proofs.Refused.{refused_same}
use Rattle.model.proofs.Classes.{scan_passes, done, change_sends, change_receives, change_transmits, change_reports, change_names, change_meets, change_counts}
use Rattle.model.proofs.Kept.{says_formed, says_agent}
use Rattle.model.proofs.Store.{request_accepted}
use Rattle.model.proofs.Default.{accepted_settings}
use Rattle.runs.specs.Run.{kind_in, said, hands_out}
use Rattle.runs.specs.Round.{transmission, poll, is_report, Transmits, none_left, one_more, Polls, told_to_wait, one_report, Round, round, Step, plays, Runs}
use Rattle.runs.specs.Demand.{Steady, Start, begins}
use Rattle.runs.specs.Last.{All, Positive, PositiveIf, NoZeroSet, NoSilentDue, Idle, LastSentence}
use Rattle.runs.proofs.Steady.{Ok, ok_said, ok_transmits, ok_round, Reaches, reaches}
use Rattle.runs.proofs.Spared.{scan_said}
use Rattle.runs.proofs.Rests.{all_at, all_removed, all_set, all_added, all_walk, Rested, rested, Staying, staying}
use Rattle.runs.proofs.Demand.{fresh_ok, began_formed}

-- ---- the two calls of a round

module _ (rows : ℕ) (tr : Transport) (set : RequestRto) (now : ℕ) (low : now ≤ 2 ^ 60) (m : ℕ) (l : m ≤ now) (w : World) (o : Ok rows tr set m w) where
  pub record Scans : Type 0 where
    pub sent : (said rows w (transmission now)).answer ≡ transmit_answer (walk tr now w.requests).out
    pub walked : (said rows w (transmission now)).world.requests ≡ (walk tr now w.requests).after
    pub told : (said rows w (poll now)).answer ≡ poll_answer (poll_all tr now w.requests)
    pub polled : (said rows w (poll now)).world.requests ≡ changed tr (reported (poll_all tr now w.requests)) w.requests
    pub transmitted : Ok rows tr set now (said rows w (transmission now)).world
    pub heard : Ok rows tr set now (said rows w (poll now)).world

  pub the_scans : Scans
  the_scans =
      let s = scan_said rows w transmits now [] (scan_passes rows w transmits now [] o.formed (omega (arith, o.mark)) low) in
      let p = scan_said rows w reports now [] (scan_passes rows w reports now [] o.formed (omega (arith, o.mark)) low) in
      let e = o.transport in
      record {
        sent = subst (λ (t : Transport). (said rows w (transmission now)).answer ≡ transmit_answer (walk t now w.requests).out) e s.answers;
        walked = subst (λ (t : Transport). (said rows w (transmission now)).world.requests ≡ (walk t now w.requests).after) e s.requests;
        told = subst (λ (t : Transport). (said rows w (poll now)).answer ≡ poll_answer (poll_all t now w.requests)) e p.answers;
        polled =
            subst (λ (t : Transport). (said rows w (poll now)).world.requests ≡ changed t (reported (poll_all t now w.requests)) w.requests) e
            p.requests;
        transmitted = ok_said rows tr set m now w (kind_in (transmission now)) [] o l (omega arith);
        heard = ok_said rows tr set m now w (kind_in (poll now)) [] o l (omega arith);
      }

quiet_answer : (t : Option StunRequestState) → transmit_answer t ≡ answer.None → t ≡ None
quiet_answer (Some p) e = apart (ap hands_out e)
quiet_answer None e = refl

wait_answer : (p : Polled) (m : ℕ) → poll_answer p ≡ answer.Wait m → p ≡ WaitUntil m
wait_answer (TimedOut i id) m e = apart (ap is_report e)
wait_answer (Cancelled i id) m e = apart (ap is_report e)
wait_answer (WaitUntil n) m e = let z : n ≡ m = cc in ap WaitUntil z

-- ---- the requests after a round, and its wait

passed_rested : (tr : Transport) (now : ℕ) (l : List StunRequestState) → NoneGoes tr now l → All (Rested tr now) (map (passed_by tr now) l)
passed_rested tr now [] h = tt
passed_rested tr now (r ∷ rs) h = (rested tr now r h.0, passed_rested tr now rs h.1)

all_reported : (P : StunRequestState → Type 0) (tr : Transport) (l : List StunRequestState) (p : Polled) → All P l → All P (changed tr (reported p) l)
all_reported P tr l (TimedOut i id) h = all_removed P l i h
all_reported P tr l (Cancelled i id) h = all_removed P l i h
all_reported P tr l (WaitUntil clock) h = h

module _ (rows : ℕ) (tr : Transport) (set : RequestRto) (now : ℕ) (low : now ≤ 2 ^ 60) where
  transmits_rested : {w v : World} {ts : List Turn} → Transmits rows now w ts v → (m : ℕ) → m ≤ now → Ok rows tr set m w → All (Rested tr now) v.requests
  transmits_rested (none_left {w} e) m l o =
      let s = the_scans rows tr set now low m l w o in
      let n = (quiet_exactly tr now w.requests).0 (quiet_answer (walk tr now w.requests).out (sym s.sent ∙ e)) in
      rw (s.walked ∙ ap (λ (z : Walk StunRequestState). z.after) (walk_quiet tr now w.requests n)) (passed_rested tr now w.requests n)
  transmits_rested (one_more {w} e d) m l o = transmits_rested d now (omega arith) (the_scans rows tr set now low m l w o).transmitted

  transmits_all : (P : StunRequestState → Type 0) → ((r : StunRequestState) → P r → P (passed_by tr now r)) → {w v : World} {ts : List Turn} → Transmits rows now w ts v
      → (m : ℕ) → m ≤ now → Ok rows tr set m w → All P w.requests → All P v.requests
  transmits_all P k (none_left {w} e) m l o h = rw (the_scans rows tr set now low m l w o).walked (all_walk P tr now k w.requests h)
  transmits_all P k (one_more {w} e d) m l o h =
      let s = the_scans rows tr set now low m l w o in
      transmits_all P k d now (omega arith) s.transmitted (rw s.walked (all_walk P tr now k w.requests h))

  polls_all : (P : StunRequestState → Type 0) {w v : World} {ts : List Turn} {clock : ℕ} → Polls rows now w ts v clock → Ok rows tr set now w → All P w.requests
      → All P v.requests
  polls_all P (told_to_wait {w} e) o h =
      rw (the_scans rows tr set now low now (omega arith) w o).polled (all_reported P tr w.requests (poll_all tr now w.requests) h)
  polls_all P (one_report {w} e d) o h =
      let s = the_scans rows tr set now low now (omega arith) w o in
      polls_all P d s.heard (rw s.polled (all_reported P tr w.requests (poll_all tr now w.requests) h))

  polls_earliest : {w v : World} {ts : List Turn} {clock : ℕ} → Polls rows now w ts v clock → Ok rows tr set now w → Earliest tr now (now + hour) v.requests clock
  polls_earliest (told_to_wait {w} {clock = clock} e) o =
      let s = the_scans rows tr set now low now (omega arith) w o in
      let p : poll_all tr now w.requests ≡ WaitUntil clock = wait_answer (poll_all tr now w.requests) clock (sym s.told ∙ e) in
      let same : (said rows w (poll now)).world.requests ≡ w.requests = s.polled ∙ ap (λ (z : Polled). changed tr (reported z) w.requests) p in
      rw same (poll_waits tr now w.requests clock p)
  polls_earliest (one_report {w} e d) o = polls_earliest d (the_scans rows tr set now low now (omega arith) w o).heard

-- ---- the wait lies after the clock

module _ (tr : Transport) (now clock : ℕ) (l : List StunRequestState) (early : Earliest tr now (now + hour) l clock) where
  -- each request waits for its moment
  wait_is : (i : ℕ) (r : StunRequestState) → slice_get l i ≡ Some r → (c : ℕ) → poll_of tr now r ≡ poll-ret.WaitUntil c → c ≡ max now (moment_of tr now r)
  wait_is i r e c p =
      let z : wait_clock now (poll_of tr now r) ≡ max now (moment_of tr now r) = wait_clock_lem tr now r now (ap ends p) in
      rw p at z

  round_later : All (Rested tr now) l → NoSilentDue tr now l → now < clock
  round_later rest silent = go early.one_of
    where
      due : (r : StunRequestState) → Rested tr now r → (r.send_cancelled ≡ true → is_due tr now r ≡ false) → r.recv_cancelled ≡ false → is_due tr now r ≡ false
      due r a b k = which r.send_cancelled refl
        where
          which : (p : Bool) → r.send_cancelled ≡ p → is_due tr now r ≡ false
          which true e = b e
          which false e = a.loud k e

      go : (clock ≡ now + hour) ⊎ ((i : ℕ) × (r : StunRequestState) × (slice_get l i ≡ Some r) × (poll_of tr now r ≡ poll-ret.WaitUntil clock)) → now < clock
      go (inl e) = omega arith
      go (inr y) =
          let r = y.1 in
          let s = staying tr now r (ap ends y.3) in
          let d = due r (all_at (Rested tr now) l y.0 r rest y.2) (all_at (λ r. r.send_cancelled ≡ true → is_due tr now r ≡ false) l y.0 r silent y.2) s.kept in
          omega (arith, ahead tr now r d s.waiting, wait_is y.0 r y.2 clock y.3)

  -- where no request has a wait of zero, none of them is a silenced one with a step still due
  none_silent : All (Rested tr now) l → All (λ r. Positive r.rto) l → NoneEnds tr now l → NoSilentDue tr now l
  none_silent = go l
    where
      go : (l : List StunRequestState) → All (Rested tr now) l → All (λ r. Positive r.rto) l → NoneEnds tr now l → NoSilentDue tr now l
      go [] a p n = tt
      go (r ∷ rs) a p n = (λ _. a.0.positive (staying tr now r n.0).kept p.0, go rs a.1 p.1 n.1)

  -- ---- until then nothing is due and nothing is over

  record Asleep (soon : ℕ) (r : StunRequestState) : Type 0 where
    between : Between tr soon r
    stays : Staying tr now r

  all_asleep : (soon : ℕ) → now ≤ soon → soon < clock → All (Asleep soon) l
  all_asleep soon a b = collect l (λ i r e.
      let y = early.least i r e in
      record {
        between = still_ahead tr now soon r a (omega (arith, y.2, wait_is i r e y.0 y.1));
        stays = staying tr now r (ap ends y.1);
      })
    where
      collect : (k : List StunRequestState) → ((i : ℕ) (r : StunRequestState) → slice_get k i ≡ Some r → Asleep soon r) → All (Asleep soon) k
      collect [] f = tt
      collect (r ∷ rs) f = (f 0 r refl, collect rs (λ i q e. f (suc i) q e))

  none_goes : (soon : ℕ) (k : List StunRequestState) → All (Asleep soon) k → NoneGoes tr soon k
  none_goes soon [] h = tt
  none_goes soon (r ∷ rs) h = (goes_exactly tr soon r ∙ rw h.0.between.not_due (and-false (not r.recv_cancelled)), none_goes soon rs h.1)

  none_changes : (soon : ℕ) (k : List StunRequestState) → All (Asleep soon) k → map (passed_by tr soon) k ≡ k
  none_changes soon [] h = refl
  none_changes soon (r ∷ rs) h =
      let e : passed_by tr soon r ≡ r = after_exactly tr soon r ∙ rw (h.0.between.not_due, and-false (not r.recv_cancelled)) in
      rw (e, none_changes soon rs h.1)

  none_ends : (soon : ℕ) (k : List StunRequestState) → All (Asleep soon) k → NoneEnds tr soon k
  none_ends soon [] h = tt
  none_ends soon (r ∷ rs) h =
      (ends_exactly tr soon r ∙ rest r.recv_cancelled _ _ h.0.stays.kept h.0.between.not_over h.0.stays.steps, none_ends soon rs h.1)
    where
      rest : (a b c : Bool) → a ≡ false → b ≡ false → c ≡ false → (a || (b || c)) ≡ false
      rest a b c e f g = rw (e, f, g)

module _ (rows : ℕ) (tr : Transport) (set : RequestRto) (now clock : ℕ) (u : World) (o : Ok rows tr set now u) (early : Earliest tr now (now + hour) u.requests clock) where
  -- the two calls of a round before the wait
  record Sleeps (soon : ℕ) : Type 0 where
    sent : (said rows u (transmission soon)).answer ≡ answer.None
    same : (said rows u (transmission soon)).world.requests ≡ u.requests
    told : (again : ℕ) × ((said rows (said rows u (transmission soon)).world (poll soon)).answer ≡ answer.Wait again)
    still : (said rows (said rows u (transmission soon)).world (poll soon)).world.requests ≡ u.requests

  sleeps : (soon : ℕ) → now ≤ soon → soon < clock → soon ≤ 2 ^ 60 → Sleeps soon
  sleeps soon a b low =
      let h = all_asleep tr now clock u.requests early soon a b in
      let s = the_scans rows tr set soon low now a u o in
      let q = walk_quiet tr soon u.requests (none_goes tr now clock u.requests early soon u.requests h) in
      let same : (said rows u (transmission soon)).world.requests ≡ u.requests =
      s.walked ∙ ap (λ (z : Walk StunRequestState). z.after) q ∙ none_changes tr now clock u.requests early soon u.requests h in
      let p = the_scans rows tr set soon low soon (omega arith) (said rows u (transmission soon)).world s.transmitted in
      let n = (waits_exactly tr soon u.requests).1 (none_ends tr now clock u.requests early soon u.requests h) in
      let t : poll_all tr soon (said rows u (transmission soon)).world.requests ≡ WaitUntil n.0 = rw same n.1 in
      record {
        sent = s.sent ∙ ap (λ (z : Walk StunRequestState). transmit_answer z.out) q;
        same = same;
        told = (n.0, p.told ∙ ap poll_answer t);
        still = p.polled ∙ ap (λ (z : Polled). changed tr (reported z) (said rows u (transmission soon)).world.requests) t ∙ same;
      }

  idle_polls : {soon again : ℕ} {v : World} {ps : List Turn} → Sleeps soon → Polls rows soon (said rows u (transmission soon)).world ps v again
      → Idle rows soon u (transmission soon ∷ ps) v
  idle_polls s (told_to_wait e) = record { calls_are = refl; sends_nothing = s.sent; reports_nothing = s.told; left = s.still }
  idle_polls s (one_report e d) = apart (sym e ∙ ap is_report s.told.1)

  idle_transmits : {soon again : ℕ} {v z : World} {ts ps : List Turn} → Sleeps soon → Transmits rows soon u ts v → Polls rows soon v ps z again → Idle rows soon u (ts ++ ps) z
  idle_transmits s (none_left e) b = idle_polls s b
  idle_transmits s (one_more e d) b = apart (sym e ∙ ap hands_out s.sent)

  round_idle : (soon again : ℕ) (rs : List Turn) (v : World) → now ≤ soon → soon < clock → soon ≤ 2 ^ 60 → Round rows soon u rs v again → Idle rows soon u rs v
  round_idle soon again rs v a b low (round x y) = idle_transmits (sleeps soon a b low) x y

-- ---- where no zero is set

abbrev PositiveIn : StunRequestState → Type 0
PositiveIn r = Positive r.rto

module _ (tr : Transport) (l : List StunRequestState) (h : All PositiveIn l) where
  received_positive : (from : Address) (p : Option Message) → All PositiveIn (changed tr (on_some p keeps (answered l from)) l)
  received_positive from None = h
  received_positive from (Some y) = go (accepts l from y) (is_response y.class) (lookup (key y.transaction_id) l)
    where
      go : (a r : Bool) (f : Option (ℕ × StunRequestState)) → All PositiveIn (changed tr (cond a (cond r (taken f) keeps) keeps) l)
      go false r f = h
      go true false f = h
      go true true (Some (i, q)) = all_removed PositiveIn l i h
      go true true None = h

  wish_positive : (id : TransactionId) (wish : Wish) → PositiveIf (wish_settings wish) → (f : Option (ℕ × StunRequestState)) → lookup (key id) l ≡ f
      → All PositiveIn (changed tr (on_found f keeps (wished wish)) l)
  wish_positive id wish p None e = h
  wish_positive id wish p (Some (i, r)) e = go wish p
    where
      old : PositiveIn r
      old = all_at PositiveIn l i r h (found_at (key id) i r l e).placed

      go : (wish : Wish) → PositiveIf (wish_settings wish) → All PositiveIn (changed tr (wished wish i r) l)
      go silence p = all_set PositiveIn l i (silenced r) (rw (rto_silenced r) old) h
      go cancel p = all_set PositiveIn l i (cancelled r) (rw (rto_cancelled r) old) h
      go (configure rto) p = all_set PositiveIn l i (configured rto r) (rw (rto_configured r rto) p) h
      go query p = h

walked_positive : (tr : Transport) (now : ℕ) (r : StunRequestState) → PositiveIn r → PositiveIn (passed_by tr now r)
walked_positive tr now r p = rw (settings_transmit r now tr).rto p

module _ (rows : ℕ) (w : World) (formed : StateFormed rows w) (built : Positive w.agent.rto) (h : All PositiveIn w.requests) where
  passed_positive : (k : Kind) (b : List ℕ) → refusal_of rows w k b ≡ None → PositiveIf (settings_of k) → All PositiveIn (says_of rows w k b).world.requests
  passed_positive (carries (submits-at to now)) b e p =
      let a = request_accepted rows w to now b formed e in
      rw a.requests (all_added PositiveIn w.requests a.request (rw (accepted_settings rows w to now b _ a) built) h)
  passed_positive (carries (sends_other to)) b e p = rw ((done rows w (carries (sends_other to)) b e).requests, change_sends rows w b to) h
  passed_positive (carries (receives from clock)) b e p =
      rw ((done rows w (carries (receives from clock)) b e).requests, change_receives rows w b from clock) (received_positive w.agent.transport w.requests h from (message_of b))
  passed_positive (scans transmits now) b e p =
      rw ((done rows w (scans transmits now) b e).requests, change_transmits rows w b now)
      (all_walk PositiveIn w.agent.transport now (walked_positive w.agent.transport now) w.requests h)
  passed_positive (scans reports now) b e p =
      rw ((done rows w (scans reports now) b e).requests, change_reports rows w b now)
      (all_reported PositiveIn w.agent.transport w.requests (poll_all w.agent.transport now w.requests) h)
  passed_positive (names id wish) b e p =
      rw ((done rows w (names id wish) b e).requests, change_names rows w b id wish)
      (wish_positive w.agent.transport w.requests h id wish p (lookup (key id) w.requests) refl)
  passed_positive (meets a x) b e p = rw ((done rows w (meets a x) b e).requests, change_meets rows w b a x) h
  passed_positive (counts f) b e p = rw ((done rows w (counts f) b e).requests, change_counts rows w b f) h

  said_positive : (t : Turn) → (refusal_of rows w (kind_in t) t.bytes ≡ None → PositiveIf (settings_of (kind_in t))) → All PositiveIn (said rows w t).world.requests
  said_positive t p = go (refusal_of rows w (kind_in t) t.bytes) refl
    where
      go : (o : Option Refusal) → refusal_of rows w (kind_in t) t.bytes ≡ o → All PositiveIn (said rows w t).world.requests
      go None e = passed_positive (kind_in t) t.bytes e (p e)
      go (Some q) e = rw (refused_same rows w (kind_in t) t.bytes q e) h

pub positive_run : (rows : ℕ) (w : World) (ts : List Turn) → StateFormed rows w → Positive w.agent.rto → NoZeroSet rows w ts → All PositiveIn w.requests
    → All PositiveIn (run rows w ts).requests
positive_run rows w [] f p z h = h
positive_run rows w (t ∷ ts) f p z h =
    let a = says_agent rows w (kind_in t) t.bytes in
    positive_run rows (said rows w t).world ts (says_formed rows w (kind_in t) t.bytes f) (rw a.rto p) z.1
    (said_positive rows w f p h t z.0)

-- ---- the sentence

-- the first transmission of a round isn't refused by 1
transmits_state : {rows now : ℕ} {w v : World} {ts : List Turn} → Transmits rows now w ts v → refusal_of rows w (kind_in (transmission now)) [] ≡ Some State → ⊥
transmits_state {rows} {now} (none_left {w} e) f =
    let r : (says_of rows w (kind_in (transmission now)) []).answer ≡ answer.Refused State = ap (λ (z : Said). z.answer) (refused_same rows w (kind_in (transmission now)) [] State f) in
    let z : ◌≡◌ {A = ℕ} 0 1 = cc in omega arith
transmits_state {rows} {now} (one_more {w} e d) f =
    apart (sym e ∙ ap (λ (z : Said). hands_out z.answer) (refused_same rows w (kind_in (transmission now)) [] State f))

pub last_sentence : (rows : ℕ) (s : Start) (ss : List Step) (before rs : List Turn) (now clock : ℕ) (u : World) → Runs rows (begins s) ss before
    → Steady 0 (ss ++ (plays now ∷ [])) → Round rows now (run rows (begins s) before) rs u clock → LastSentence rows s before now clock u
last_sentence rows s ss before rs now clock u runs steady (round {v} a b) = record {
  after_unless_zero = λ p z.
      let h = positive_run rows (begins s) before began p z tt in
      let k = polls_all rows tr set now low PositiveIn b mid (transmits_all rows tr set now low PositiveIn (walked_positive tr now) a at.floor at.steady.0 at.ok h) in
      round_later tr now clock u.requests early rest (none_silent tr now clock u.requests early rest k early.all_wait);
  after_unless_silenced = round_later tr now clock u.requests early rest;
  at_most = λ x i r e.
      let p = (found_at x i r u.requests e).placed in
      let y = early.least i r p in
      omega (arith, y.2, wait_is tr now clock u.requests early i r p y.0 y.1);
  nothing_before = round_idle rows tr set now clock u (ok_round (round a b) at.floor at.steady.0 at.ok) early;
}
  where
    tr : Transport
    tr = s.transport

    set : RequestRto
    set = s.rto

    began : StateFormed rows (begins s)
    began = began_formed rows s before (transmission now) (transmits_state a)

    at : Reaches rows s.transport s.rto (plays now ∷ []) (run rows (begins s) before)
    at = reaches runs (plays now ∷ []) 0 (fresh_ok rows s began) steady

    low : now ≤ 2 ^ 60
    low = at.steady.1

    mid : Ok rows s.transport s.rto now v
    mid = ok_transmits a at.floor at.steady.0 at.ok

    rest : All (Rested s.transport now) u.requests
    rest = polls_all rows s.transport s.rto now low (Rested s.transport now) b mid (transmits_rested rows s.transport s.rto now low a at.floor at.steady.0 at.ok)

    early : Earliest s.transport now (now + hour) u.requests clock
    early = polls_earliest rows s.transport s.rto now low b mid
