-- No useless build meets the promise: for each a world and a call, by computation, at which it differs.
use Prim.Native.Nat.{ℕ}
use mathlib.Core.Path.{◌≡◌, refl, sym, ap, ◌∙◌}
use mathlib.Core.List.{List, []}
use native.Mathlib.Omega.{arith}
use lib.ListN.{length, take}
use Rattle.message.specs.Head as head
use Rattle.message.specs.Attributes as attributes
use Rattle.waits.specs.Waits as waits
use Rattle.stats.specs.Count as count
use Rattle.stats.specs.Query as figures
use Rattle.store.specs.Rows as store
use Rattle.request.specs.Times as times
use Rattle.request.specs.Request as one
use Rattle.request.specs.Limits as limits
use Rattle.requests.specs.Formed as formed
use Rattle.model.specs.World as world
use Rattle.model.specs.Accepts as accepts
use Rattle.model.specs.Refusals as refusals
use Rattle.model.specs.Effects as effects
use Rattle.model.specs.Says as says
use Rattle.model.specs.Runs.{run}
use Rattle.model.specs.Worked as worked
use Rattle.model.specs.World.{World}
use Rattle.model.specs.Says.{Said}
use Rattle.model.specs.Worked.{peer, ending, request, figures, example_start, example_calls}
use Rattle.model.specs.Useless.{Build, Meets, counting, Useless, refuses_everything, always_says_wait, never_sends, does_nothing, only_moves_the_count, invents_counters}
use Rattle.model.specs.declared.Call.{Call}
use Rattle.model.specs.declared.Call.TheVariants as call
use Rattle.model.specs.declared.Answer.TheVariants as answer

-- What the model says at these calls of document 01's example: its first, the one that sends again, and the one at the end.
record Says : Type 0 where
  first : (says.says 32 example_start (call.SendRequest (peer 9) 0) (request 1)).answer ≡ answer.Send (ending 1) (peer 9) 0 20
  stands : length (says.says 32 example_start (call.SendRequest (peer 9) 0) (request 1)).world.requests ≡ 1
  again : (says.says 32 (run 32 example_start (take 2 example_calls)) (call.PollTransmit 500000000) []).answer ≡ answer.Send (ending 1) (peer 9) 0 20
  ended : (says.says 32 (run 32 example_start (take 3 example_calls)) (call.Poll 8500000000) []).answer ≡ answer.TimedOut (ending 1)
  counts : (says.says 32 counting (call.SendRequest (peer 9) 0) (request 1)).world.stats ≡ figures 1 0 0 0 20 0

it_says : Says
unfolding worked.message says.says_of world.state_formed accepts.accepts accepts.new_peer refusals.refusal_of effects.new_request effects.change_of effects.answer_of effects.event_of effects.peers_after effects.peer_count effects.after waits.within_limits waits.sum_of waits.final_wait waits.default_rto formed.formed limits.within_limits one.submitted one.stepped one.silenced one.cancelled one.configured one.transmit_of one.poll_of times.passed_all times.due_of times.end_of times.is_due times.is_over times.moment_of times.rtt_of head.key head.id_at head.class_of head.head_good head.read_head head.head_of attributes.attributes_from attributes.later attributes.walk_of attributes.message_of count.counted figures.average_of figures.outstanding_of store.in_store store.stored store.copied
it_says = record { first = refl; stands = refl; again = refl; ended = refl; counts = refl }

module _ (b : Build) (meets : Meets 32 b) where
  answers : (w : World) (c : Call) (m : List ℕ) → (b w c m).answer ≡ (says.says 32 w c m).answer
  answers w c m = ap (λ (s : Said). s.answer) (meets w c m)

  pub not_useless : Useless b → ⊥
  not_useless (refuses_everything f) =
      let x = f example_start (call.SendRequest (peer 9) 0) (request 1) in
      let e : answer.Refused x.0 ≡ answer.Send (ending 1) (peer 9) 0 20 = sym x.1 ∙ answers _ _ _ ∙ it_says.first in
      let z : ◌≡◌ {A = ℕ} 0 1 = cc in
      omega arith
  not_useless (always_says_wait f) =
      let x = f (run 32 example_start (take 3 example_calls)) 8500000000 [] in
      let e : answer.Wait x.0 ≡ answer.TimedOut (ending 1) = sym x.1 ∙ answers _ _ _ ∙ it_says.ended in
      let z : ◌≡◌ {A = ℕ} 0 1 = cc in
      omega arith
  not_useless (never_sends f) =
      f example_start (call.SendRequest (peer 9) 0) (request 1) (ending 1) (peer 9) 0 20 (answers _ _ _ ∙ it_says.first)
  not_useless (does_nothing f) =
      let e : ◌≡◌ {A = ℕ} 0 1 = ap (λ (w : World). length w.requests) (sym (f example_start (call.SendRequest (peer 9) 0) (request 1)))
      ∙ ap (λ (s : Said). length s.world.requests) (meets example_start (call.SendRequest (peer 9) 0) (request 1)) ∙ it_says.stands in
      omega arith
  not_useless (only_moves_the_count f) =
      f (run 32 example_start (take 2 example_calls)) 500000000 [] (ending 1) (peer 9) 0 20 (answers _ _ _ ∙ it_says.again)
  not_useless (invents_counters f) =
      f (ap (λ (s : Said). s.world.stats) (meets counting (call.SendRequest (peer 9) 0) (request 1)) ∙ it_says.counts)
