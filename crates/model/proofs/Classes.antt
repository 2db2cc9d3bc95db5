-- The model by the class of a call: which tests each class can fail, in their order, and the effect of one that isn't refused, field by
-- field. Who cites these need not open the model.
--     past_submits, .., past_counts    the number that a call in a well-formed state is refused by
--     passed_formed                    where a call isn't refused, the world is well formed
--     never_state                      no call in a well-formed world is refused by 1
--     scan_passes                      the two polls in a well-formed world are refused by their clock alone
--     Done, leaves, done               what a call that isn't refused answers and leaves
--     agent_after_lem                      the agent that it leaves, by its change of the requests and the new peer
--     event_is, event_on               its event; while statistics are on
--     new_is                           the new peer
--     new_request_lem                      the request that a submission adds
--     change_.., answer_..             its change of the requests and its answer, by its class
use Rattle.model.specs.declared.Refusal.TheVariants.{State, BadMessage, Clock, Counts, InProgress, NoRequest, NoStats, PeersFull, Settings, TableFull, TooLong, WrongClass}
use Rattle.std.specs.Prelude.{None, Some, Option}
use Prim.Native.Nat.{ℕ, ◌+◌, ◌^◌, ◌≤◌}
use mathlib.Core.Path.{◌≡◌, refl, ◌∙◌}
use mathlib.Core.Bool.{true, cond}
use mathlib.Core.List.{List}
use native.Mathlib.Omega.{arith}
use Rattle.std.proofs.lemmas.Grind.{common_steps}
use lib.ListN.{length}
use borrow.Author.Tests.{le-ltb, not-false}
use Rattle.address.specs.declared.Address.{Address}
use Rattle.message.specs.Head.{key}
use Rattle.message.specs.Attributes.{message_of}
use Rattle.message.specs.declared.TransactionId.{TransactionId}
use Rattle.message.specs.declared.Message.{Message}
use Rattle.stats.specs.Count.{counted}
use Rattle.stats.specs.declared.Event.TheVariants as event
use Rattle.request.specs.Request.{submitted}
use Rattle.requests.specs.Search.{lookup, free_row}
use Rattle.requests.specs.Scan.{walk, poll_all}
use Rattle.model.specs.World.{World, StateFormed, state_formed, known}
use Rattle.model.specs.Calls.{submits, sends, receives, Scan, transmits, reports, Wish, Meeting, Figure, Kind, carries, scans, names, meets, counts, on_some}
use Rattle.model.specs.Accepts.{validated, new_peer}
use Rattle.model.specs.Refusals.{bad_settings, bad_clock, too_long, bad_message, wrong_class, in_progress, table_full, no_request, peers_full, no_stats, bad_counts, refusal_of, refusal_past}
use Rattle.model.specs.Effects.{on_found, Change, keeps, adds, steps, changed, new_request, answered, reported, wished, change_of, handed_out, passage_answer, transmit_answer, poll_answer, wish_answer, meeting_answer, figure_answer, answer_of, event_by, event_of, stored_by, peers_after, peer_count, mark_after, count_after, after, agent_after}
use Rattle.model.specs.Says.{Said, says_of}
use Rattle.model.specs.declared.StunAgent.{StunAgent}
use Rattle.model.specs.declared.Answer.TheVariants as answer
use Rattle.model.proofs.Refused.{refused_exactly, passed_exactly, past_state_lem, passed_does}
use Rattle.model.proofs.State.{state_exactly}

-- ---- refusals behind the test of the state

module _ (rows : ℕ) (w : World) (m : List ℕ) where
  pub past_submits : (to : Address) (now : ℕ) → refusal_past rows w (carries (submits to now)) m
      ≡ cond (bad_clock w (carries (submits to now))) (Some Clock)
      (cond (too_long (carries (submits to now)) m) (Some TooLong)
      (cond (bad_message (carries (submits to now)) m) (Some BadMessage)
      (cond (wrong_class (carries (submits to now)) m) (Some WrongClass)
      (cond (in_progress w (carries (submits to now)) m) (Some InProgress)
      (cond (table_full rows w (carries (submits to now))) (Some TableFull) None)))))
  unfolding refusal_past new_peer
  past_submits to now = refl

  pub past_sends : (to : Address) → refusal_past rows w (carries (sends to)) m
      ≡ cond (bad_message (carries (sends to)) m) (Some BadMessage) (cond (wrong_class (carries (sends to)) m) (Some WrongClass) None)
  unfolding refusal_past new_peer
  past_sends to = refl

  pub past_receives : (from : Address) (clock : Option ℕ) → refusal_past rows w (carries (receives from clock)) m
      ≡ cond (bad_clock w (carries (receives from clock))) (Some Clock)
      (cond (bad_message (carries (receives from clock)) m) (Some BadMessage) (cond (peers_full w (carries (receives from clock)) m) (Some PeersFull) None))
  unfolding refusal_past
  past_receives from clock = grind (arith, common_steps)

  pub past_scans : (s : Scan) (now : ℕ) → refusal_past rows w (scans s now) m ≡ cond (bad_clock w (scans s now)) (Some Clock) None
  unfolding refusal_past new_peer
  past_scans s now = refl

  pub past_names : (id : TransactionId) (wish : Wish) → refusal_past rows w (names id wish) m
      ≡ cond (bad_settings (names id wish)) (Some Settings) (cond (no_request w (names id wish)) (Some NoRequest) None)
  unfolding refusal_past new_peer
  past_names id wish = refl

  pub past_meets : (a : Address) (x : Meeting) → refusal_past rows w (meets a x) m ≡ cond (peers_full w (meets a x) m) (Some PeersFull) None
  unfolding refusal_past
  past_meets a x = refl

  pub past_counts : (f : Figure) → refusal_past rows w (counts f) m
      ≡ cond (no_stats w (counts f)) (Some NoStats) (cond (bad_counts w (counts f)) (Some Counts) None)
  unfolding refusal_past new_peer
  past_counts f = refl

pub passed_formed : (rows : ℕ) (w : World) (k : Kind) (m : List ℕ) → refusal_of rows w k m ≡ None → StateFormed rows w
passed_formed rows w k m e = (state_exactly rows w).0 (not-false (state_formed rows w) ((passed_exactly rows w k m).0 e State))

pub never_state : (rows : ℕ) (w : World) (k : Kind) (m : List ℕ) → StateFormed rows w → refusal_of rows w k m ≡ Some State → ⊥
never_state rows w k m formed e =
    let no = ((refused_exactly rows w k m State).0 e).0 in
    let yes = (state_exactly rows w).1 formed in
    grind (arith, common_steps)

-- A clock from the mark to 2^60.
pub scan_passes : (rows : ℕ) (w : World) (s : Scan) (now : ℕ) (m : List ℕ) → StateFormed rows w → w.agent.mark ≤ now → now ≤ 2 ^ 60
    → refusal_of rows w (scans s now) m ≡ None
scan_passes rows w s now m formed low high =
    past_state_lem rows w (scans s now) m ((state_exactly rows w).1 formed)
    ∙ (past_scans rows w m s now ∙ rw (le-ltb (2 ^ 60) now high, le-ltb now w.agent.mark low))

-- ---- effects

-- The agent afterwards: `agent_after`, by the new peer instead of the call that brings it.
abbrev pub agent_with : World → Kind → Change → Option Address → StunAgent
agent_with w k c p = record {
  transport = w.agent.transport;
  stats = w.agent.stats;
  rto = w.agent.rto;
  mark = mark_after w k;
  requests = count_after c w.agent.requests;
  peers = on_some p w.agent.peers (λ a. w.agent.peers + 1);
}

-- What a call that isn't refused answers and leaves.
pub record Done (rows : ℕ) (w : World) (k : Kind) (m : List ℕ) (s : Said) : Type 0 where
  pub answer : s.answer ≡ answer_of rows w k m
  pub agent : s.world.agent ≡ agent_after w k m (change_of rows w k m)
  pub requests : s.world.requests ≡ changed w.agent.transport (change_of rows w k m) w.requests
  pub store : s.world.store ≡ stored_by rows w.store m (change_of rows w k m)
  pub peers : s.world.peers ≡ peers_after w k m
  pub stats : s.world.stats ≡ counted (event_of w k m) w.stats

module _ (rows : ℕ) (w : World) (k : Kind) (m : List ℕ) where
  pub leaves : Done rows w k m (record { answer = answer_of rows w k m; world = after rows w k m })
  unfolding after
  leaves = grind arith

  pub done : refusal_of rows w k m ≡ None → Done rows w k m (says_of rows w k m)
  done e = rw (passed_does rows w k m e) leaves

  pub agent_after_lem : (c : Change) (p : Option Address) → change_of rows w k m ≡ c → new_peer w k m ≡ p → (after rows w k m).agent ≡ agent_with w k c p
  unfolding after peer_count
  agent_after_lem c p e f = rw (e, f)

  pub event_is : event_of w k m ≡ cond w.agent.stats (event_by w k m) event.Nothing
  unfolding event_of
  event_is = refl

  pub event_on : w.agent.stats ≡ true → event_of w k m ≡ event_by w k m
  event_on e = event_is ∙ rw e

  pub new_is : new_peer w k m ≡ on_some (validated w k m) None (λ a. cond (known w a) None (Some a))
  unfolding new_peer
  new_is = refl

module _ (rows : ℕ) (w : World) (m : List ℕ) where
  pub new_request_lem : (to : Address) (now row : ℕ) (x : Message) → message_of m ≡ Some x → free_row rows w.requests ≡ Some row
      → new_request rows w to now m ≡ Some (submitted now x.transaction_id x.integrity row (length m) to w.agent.rto)
  unfolding new_request
  new_request_lem to now row x e f = rw (e, f)

  pub change_submits : (to : Address) (now : ℕ) → change_of rows w (carries (submits to now)) m ≡ on_some (new_request rows w to now m) keeps adds
  unfolding change_of
  change_submits to now = refl

  pub change_sends : (to : Address) → change_of rows w (carries (sends to)) m ≡ keeps
  unfolding change_of
  change_sends to = refl

  pub change_receives : (from : Address) (clock : Option ℕ) → change_of rows w (carries (receives from clock)) m ≡ on_some (message_of m) keeps (answered w.requests from)
  unfolding change_of
  change_receives from clock = refl

  pub change_transmits : (now : ℕ) → change_of rows w (scans transmits now) m ≡ steps now
  unfolding change_of
  change_transmits now = refl

  pub change_reports : (now : ℕ) → change_of rows w (scans reports now) m ≡ reported (poll_all w.agent.transport now w.requests)
  unfolding change_of
  change_reports now = refl

  pub change_names : (id : TransactionId) (wish : Wish) → change_of rows w (names id wish) m ≡ on_found (lookup (key id) w.requests) keeps (wished wish)
  unfolding change_of
  change_names id wish = refl

  pub change_meets : (a : Address) (x : Meeting) → change_of rows w (meets a x) m ≡ keeps
  unfolding change_of
  change_meets a x = refl

  pub change_counts : (f : Figure) → change_of rows w (counts f) m ≡ keeps
  unfolding change_of
  change_counts f = refl

  pub answer_submits : (to : Address) (now : ℕ) → answer_of rows w (carries (submits to now)) m ≡ on_some (new_request rows w to now m) answer.None handed_out
  unfolding answer_of
  answer_submits to now = refl

  pub answer_sends : (to : Address) → answer_of rows w (carries (sends to)) m ≡ answer.Ok
  unfolding answer_of
  answer_sends to = refl

  pub answer_receives : (from : Address) (clock : Option ℕ) → answer_of rows w (carries (receives from clock)) m ≡ passage_answer rows w m (receives from clock)
  unfolding answer_of
  answer_receives from clock = refl

  pub answer_transmits : (now : ℕ) → answer_of rows w (scans transmits now) m ≡ transmit_answer (walk w.agent.transport now w.requests).out
  unfolding answer_of
  answer_transmits now = refl

  pub answer_reports : (now : ℕ) → answer_of rows w (scans reports now) m ≡ poll_answer (poll_all w.agent.transport now w.requests)
  unfolding answer_of
  answer_reports now = refl

  pub answer_names : (id : TransactionId) (wish : Wish) → answer_of rows w (names id wish) m ≡ on_found (lookup (key id) w.requests) answer.None (λ place r. wish_answer wish r)
  unfolding answer_of
  answer_names id wish = refl

  pub answer_meets : (a : Address) (x : Meeting) → answer_of rows w (meets a x) m ≡ meeting_answer w a x
  unfolding answer_of
  answer_meets a x = refl

  pub answer_counts : (f : Figure) → answer_of rows w (counts f) m ≡ figure_answer w f
  unfolding answer_of
  answer_counts f = refl
