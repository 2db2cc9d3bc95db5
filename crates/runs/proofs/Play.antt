-- The function that plays a round, and its bound.
--     round_unique         there is at most one round at a clock
--     round_played         what the function plays is the round: its bound is enough
--     runs_played          and so each list of steps with steady clocks has a run
use Rattle.std.specs.Prelude.{Option, None, Some}
use Prim.Native.Nat.{ℕ, zero, suc, ◌+◌, ◌^◌, ◌≤◌, ◌<◌, zero-le}
use mathlib.Core.Path.{◌≡◌, refl, sym, ap, ◌∙◌, subst}
use mathlib.Core.Bool.{Bool, true, false, cond, not, ◌&&◌}
use mathlib.Core.List.{List, [], ◌∷◌, ◌++◌}
use lib.ListN.{length}
use native.Mathlib.Omega.{arith}
use Rattle.rows.proofs.Lists.{length_remove_at}
use Rattle.waits.specs.declared.RequestRto.{RequestRto}
use Rattle.waits.specs.declared.Transport.{Transport}
use Rattle.request.specs.Times.{is_due}
use Rattle.request.specs.Request.{stepped, transmit_of}
use Rattle.request.specs.Answers.{goes_out, record_after}
use Rattle.request.specs.declared.StunRequestState.{StunRequestState}
use Rattle.request.specs.declared.StunRequestTransmit.{StunRequestTransmit}
use Rattle.request.specs.declared.StunRequestTransmit.TheVariants.{Rests, Passes, Goes}
use Rattle.request.proofs.Answers.{goes_exactly, after_exactly}
use Rattle.request.proofs.Moments.{Steps, first_send, one_left, due_step, goes_stepped}
use Rattle.requests.specs.Scan.{hour, meet, walk, poll_all}
use Rattle.requests.specs.declared.Polled.{Polled}
use Rattle.requests.specs.declared.Polled.TheVariants.{TimedOut, Cancelled, WaitUntil}
use Rattle.requests.proofs.Lists.{apart}
use Rattle.requests.proofs.Polls.{Says, poll_says}
use Rattle.model.specs.World.{World}
use Rattle.model.specs.Effects.{changed, reported, transmit_answer, poll_answer}
use Rattle.model.specs.Runs.{Turn, run}
use Rattle.model.specs.declared.Answer.TheVariants as answer
use Rattle.runs.specs.Run.{kind_in, said, hands_out}
use Rattle.runs.specs.Round.{transmission, poll, is_report, Transmits, none_left, one_more, Polls, told_to_wait, one_report, Round, round, Step, calls, plays, is_scan, Runs, ends, then_call, then_round}
use Rattle.runs.specs.Play.{transmissions_in, polls_in, left, left_in, transmissions, polls, round_of, played}
use Rattle.runs.specs.Demand.{Steady}
use Rattle.runs.proofs.Steady.{Ok, next_ok, ok_transmits, ok_round, transmits_world, round_world}
use Rattle.runs.proofs.Last.{the_scans}

-- ---- there is at most one round

transmits_unique : {rows now : ℕ} {w v u : World} {ts rs : List Turn} → Transmits rows now w ts v → Transmits rows now w rs u → ts ≡ rs
transmits_unique (none_left e) (none_left f) = refl
transmits_unique (none_left e) (one_more f d) = apart (sym f ∙ ap hands_out e)
transmits_unique (one_more e d) (none_left f) = apart (sym e ∙ ap hands_out f)
transmits_unique {now = now} (one_more e d) (one_more f g) = ap (λ (l : List Turn). transmission now ∷ l) (transmits_unique d g)

polls_unique : {rows now a b : ℕ} {w v u : World} {ts rs : List Turn} → Polls rows now w ts v a → Polls rows now w rs u b → ts ≡ rs
polls_unique (told_to_wait e) (told_to_wait f) = refl
polls_unique (told_to_wait e) (one_report f d) = apart (sym f ∙ ap is_report e)
polls_unique (one_report e d) (told_to_wait f) = apart (sym e ∙ ap is_report f)
polls_unique {now = now} (one_report e d) (one_report f g) = ap (λ (l : List Turn). poll now ∷ l) (polls_unique d g)

pub round_unique : {rows now a b : ℕ} {w v u : World} {ts rs : List Turn} → Round rows now w ts v a → Round rows now w rs u b → ts ≡ rs
round_unique {rows} {now} {b = b} {w} {u = u} (round {v} {ts = as'} {ps} c d) (round {v = v'} {ts = bs} {ps = qs} e f) =
    let same = transmits_unique c e in
    let world : v' ≡ v = sym (transmits_world e) ∙ ap (run rows w) (sym same) ∙ transmits_world c in
    let f' : Polls rows now v qs u b = subst (λ (z : World). Polls rows now z qs u b) world f in
    ap (λ (l : List Turn). l ++ ps) same ∙ ap (λ (l : List Turn). bs ++ l) (polls_unique d f')

-- ---- each transmission takes a step

module _ (tr : Transport) (now : ℕ) where
  step_less : (r : StunRequestState) → is_due tr now r ≡ true → left tr (stepped now r) < left tr r
  step_less r e = go (due_step tr now r e)
    where
      go : {q : StunRequestState} → Steps tr now r q → left tr q < left tr r
      go (first_send f) = rw f (omega arith)
      go (one_left f h) = rw f (omega arith)

  after_less : (r : StunRequestState) → left tr (record_after r (transmit_of tr now r)) ≤ left tr r
  after_less r = rw (after_exactly tr now r) (go (not r.recv_cancelled) (is_due tr now r) refl)
    where
      go : (a d : Bool) → is_due tr now r ≡ d → left tr (cond (a && d) (stepped now r) r) ≤ left tr r
      go false d e = omega arith
      go true true e = omega (arith, step_less r e)
      go true false e = omega arith

  goes_due : (r : StunRequestState) → goes_out (transmit_of tr now r) ≡ true → is_due tr now r ≡ true
  goes_due r e = go (not r.recv_cancelled) (is_due tr now r) (sym (goes_exactly tr now r) ∙ e)
    where
      go : (a d : Bool) → (a && (d && not r.send_cancelled)) ≡ true → d ≡ true
      go false d e = apart (sym e)
      go true true e = refl
      go true false e = apart (sym e)

  goes_less : (r q : StunRequestState) → transmit_of tr now r ≡ Goes q → left tr q < left tr r
  goes_less r q e = rw (goes_stepped tr now r q e) at (step_less r (goes_due r (ap goes_out e)))

  walk_most : (l : List StunRequestState) → left_in tr (walk tr now l).after ≤ left_in tr l
  walk_most [] = zero-le
  walk_most (r ∷ rs) = go (transmit_of tr now r) (after_less r) (walk_most rs)
    where
      go : (a : StunRequestTransmit) → left tr (record_after r a) ≤ left tr r → left_in tr (walk tr now rs).after ≤ left_in tr rs
          → left_in tr (meet (λ q. q) a r rs (walk tr now rs)).after ≤ left tr r + left_in tr rs
      go (Goes q) h ih = omega arith
      go (Passes q) h ih = omega arith
      go Rests h ih = omega arith

  walk_less : (l : List StunRequestState) → hands_out (transmit_answer (walk tr now l).out) ≡ true → left_in tr (walk tr now l).after < left_in tr l
  walk_less [] e = apart (sym e)
  walk_less (r ∷ rs) e = go (transmit_of tr now r) refl (after_less r) (walk_less rs) e
    where
      go : (a : StunRequestTransmit) → transmit_of tr now r ≡ a → left tr (record_after r a) ≤ left tr r
          → (hands_out (transmit_answer (walk tr now rs).out) ≡ true → left_in tr (walk tr now rs).after < left_in tr rs)
          → hands_out (transmit_answer (meet (λ q. q) a r rs (walk tr now rs)).out) ≡ true
          → left_in tr (meet (λ q. q) a r rs (walk tr now rs)).after < left tr r + left_in tr rs
      go (Goes q) z h ih e = omega (arith, goes_less r q z)
      go (Passes q) z h ih e = omega (arith, ih e)
      go Rests z h ih e = omega (arith, ih e)

  -- each report takes a request out
  poll_less : (l : List StunRequestState) (p : Polled) → Says tr now (now + hour) l p → is_report (poll_answer p) ≡ true
      → length (changed tr (reported p) l) < length l
  poll_less l (TimedOut i id) s e = omega (arith, length_remove_at l i s.below, s.below)
  poll_less l (Cancelled i id) s e = omega (arith, length_remove_at l i s.below, s.below)
  poll_less l (WaitUntil clock) s e = apart (sym e)

none_answer : (t : Option StunRequestState) → hands_out (transmit_answer t) ≡ false → transmit_answer t ≡ answer.None
none_answer (Some p) e = apart e
none_answer None e = refl

told_answer : (p : Polled) → is_report (poll_answer p) ≡ false → (clock : ℕ) × (poll_answer p ≡ answer.Wait clock)
told_answer (TimedOut i id) e = apart e
told_answer (Cancelled i id) e = apart e
told_answer (WaitUntil clock) e = (clock, refl)

-- ---- the bound is enough

module _ (rows : ℕ) (tr : Transport) (set : RequestRto) (now : ℕ) (low : now ≤ 2 ^ 60) where
  module _ (m : ℕ) (w : World) (l : m ≤ now) (o : Ok rows tr set m w) where
    sent_less : hands_out (said rows w (transmission now)).answer ≡ true → left_in tr (said rows w (transmission now)).world.requests < left_in tr w.requests
    sent_less e =
        let s = the_scans rows tr set now low m l w o in
        rw s.walked (walk_less tr now w.requests (ap hands_out (sym s.sent) ∙ e))

    transmit_then : (ts : List Turn)
        → (hands_out (said rows w (transmission now)).answer ≡ true → (v : World) × Transmits rows now (said rows w (transmission now)).world ts v)
        → (v : World) × Transmits rows now w (transmission now ∷ cond (hands_out (said rows w (transmission now)).answer) ts []) v
    transmit_then ts rest = go (hands_out (said rows w (transmission now)).answer) refl
      where
        go : (b : Bool) → hands_out (said rows w (transmission now)).answer ≡ b → (v : World) × Transmits rows now w (transmission now ∷ cond b ts []) v
        go true e = let z = rest e in (z.0, one_more e z.1)
        go false e =
            let s = the_scans rows tr set now low m l w o in
            ((said rows w (transmission now)).world, none_left (s.sent ∙ none_answer (walk tr now w.requests).out (ap hands_out (sym s.sent) ∙ e)))

  transmits_enough : (k m : ℕ) (w : World) → m ≤ now → Ok rows tr set m w → left_in tr w.requests ≤ k
      → (v : World) × Transmits rows now w (transmissions_in rows (suc k) now w) v
  unfolding transmissions_in
  transmits_enough zero m w l o h = transmit_then m w l o [] (λ e. absurd (omega (arith, sent_less m w l o e)))
  transmits_enough (suc k) m w l o h =
      transmit_then m w l o (transmissions_in rows (suc k) now (said rows w (transmission now)).world)
      (λ e. transmits_enough k now (said rows w (transmission now)).world (omega arith) (the_scans rows tr set now low m l w o).transmitted (omega (arith, sent_less m w l o e)))

  -- what the polls come to
  abbrev Ends : World → List Turn → Type 0
  Ends w ts = (v : World) × (clock : ℕ) × Polls rows now w ts v clock

  module _ (w : World) (o : Ok rows tr set now w) where
    told_less : is_report (said rows w (poll now)).answer ≡ true → length (said rows w (poll now)).world.requests < length w.requests
    told_less e =
        let s = the_scans rows tr set now low now (omega arith) w o in
        rw s.polled (poll_less tr now w.requests (poll_all tr now w.requests) (poll_says tr now w.requests) (ap is_report (sym s.told) ∙ e))

    poll_then : (ts : List Turn) → (is_report (said rows w (poll now)).answer ≡ true → Ends (said rows w (poll now)).world ts)
        → Ends w (poll now ∷ cond (is_report (said rows w (poll now)).answer) ts [])
    poll_then ts rest = go (is_report (said rows w (poll now)).answer) refl
      where
        go : (b : Bool) → is_report (said rows w (poll now)).answer ≡ b → Ends w (poll now ∷ cond b ts [])
        go true e = let z = rest e in (z.0, z.1, one_report e z.2)
        go false e =
            let s = the_scans rows tr set now low now (omega arith) w o in
            let z = told_answer (poll_all tr now w.requests) (ap is_report (sym s.told) ∙ e) in
            ((said rows w (poll now)).world, z.0, told_to_wait (s.told ∙ z.1))

  polls_enough : (k : ℕ) (w : World) → Ok rows tr set now w → length w.requests ≤ k → Ends w (polls_in rows (suc k) now w)
  unfolding polls_in
  polls_enough zero w o h = poll_then w o [] (λ e. absurd (omega (arith, told_less w o e)))
  polls_enough (suc k) w o h =
      poll_then w o (polls_in rows (suc k) now (said rows w (poll now)).world)
      (λ e. polls_enough k (said rows w (poll now)).world (the_scans rows tr set now low now (omega arith) w o).heard (omega (arith, told_less w o e)))

  pub round_played : (m : ℕ) (w : World) → m ≤ now → Ok rows tr set m w → (u : World) × (clock : ℕ) × Round rows now w (round_of rows now w) u clock
  unfolding round_of transmissions polls
  round_played m w l o =
      let a : (v : World) × Transmits rows now w (transmissions rows now w) v =
      subst (λ (t : Transport). (v : World) × Transmits rows now w (transmissions_in rows (suc (left_in t w.requests)) now w) v) (sym o.transport)
      (transmits_enough (left_in tr w.requests) m w l o (omega arith)) in
      let is : run rows w (transmissions rows now w) ≡ a.0 = transmits_world a.1 in
      let b = polls_enough (length a.0.requests) a.0 (ok_transmits a.1 m l o) (omega arith) in
      (b.0, b.1, subst (λ (z : World). Round rows now w (transmissions rows now w ++ polls rows now z) b.0 b.1) (sym is) (round a.1 b.2))

-- ---- and so is the run of a list of steps

abbrev pub NoScan : List Step → Type 0
NoScan [] = Unit {0}
NoScan (calls t ∷ ss) = (is_scan (kind_in t) ≡ false) × NoScan ss
NoScan (plays now ∷ ss) = NoScan ss

pub runs_played : {rows : ℕ} {tr : Transport} {set : RequestRto} (ss : List Step) (m : ℕ) (w : World) → Ok rows tr set m w → Steady m ss → NoScan ss
    → Runs rows w ss (played rows w ss)
unfolding played
runs_played [] m w o h n = ends
runs_played {rows} {tr} {set} (calls t ∷ ss) m w o h n =
    let z = next_ok rows tr set m t w (λ u. Steady u ss) o h in
    then_call n.0 (runs_played ss z.floor (said rows w t).world z.ok z.steady n.1)
runs_played {rows} {tr} {set} (plays now ∷ ss) m w o h n =
    let a = round_played rows tr set now h.1 m w h.0 o in
    let is : run rows w (round_of rows now w) ≡ a.0 = round_world a.2 in
    then_round a.2 (subst (λ (z : World). Runs rows a.0 ss (played rows z ss)) (sym is) (runs_played ss now a.0 (ok_round a.2 m h.0 o) h.2 n))
