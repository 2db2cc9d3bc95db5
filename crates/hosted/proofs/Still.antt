-- A request that is left alone is in the table until its timeout is reported, and until then a response to it is accepted.
--     still_there          a request that stands loud is in the table after a run that doesn't report its timeout
--     in_table             so does one from its submission on
--     stays_formed         and the world stays well formed
--     response_accepted    a response to a request in the table
use Rattle.model.specs.declared.Refusal.TheVariants.{Clock, PeersFull}
use Rattle.std.specs.Prelude.{Some, Option, None}
use Prim.Native.Nat.{ℕ}
use mathlib.Core.Path.{◌≡◌, refl, sym, ap, ◌∙◌, subst}
use mathlib.Core.Bool.{true, false}
use mathlib.Core.List.{List, [], ◌∷◌, ◌++◌, append_assoc}
use native.Mathlib.Omega.{arith}
use Rattle.address.specs.declared.Address.{Address}
use Rattle.message.specs.Head.{key}
use Rattle.message.specs.Attributes.{message_of}
use Rattle.message.specs.declared.Message.{Message}
use Rattle.waits.specs.declared.RequestRto.{RequestRto}
use Rattle.waits.specs.declared.Transport.{Transport}
use Rattle.request.specs.declared.StunRequestState.{StunRequestState}
use Rattle.requests.specs.Search.{lookup, request_of}
use Rattle.model.specs.World.{World, StateFormed}
use Rattle.model.specs.Calls.{receives, Kind, carries}
use Rattle.model.specs.Accepts.{is_response}
use Rattle.model.specs.Refusals.{bad_clock, peers_full, holds, refusal_of}
use Rattle.model.specs.Says.{says_of}
use Rattle.model.specs.Runs.{Turn, run}
use Rattle.model.specs.declared.Answer.TheVariants as answer
use Rattle.model.proofs.Refused.{past_state_lem}
use Rattle.model.proofs.State.{state_exactly}
use Rattle.model.proofs.Classes.{past_receives}
use Rattle.model.proofs.Received.{answer_accepted, accepted_yes}
use Rattle.model.proofs.Kept.{run_formed}
use Rattle.runs.specs.Run.{kind_in, said, timeouts}
use Rattle.runs.specs.Round.{Transmits, none_left, one_more, Polls, told_to_wait, one_report, round, Step, Runs, ends, then_call, then_round}
use Rattle.runs.specs.Demand.{Steady, LeftAlone, Start, begins, Submission, submits, Life}
use Rattle.runs.proofs.Steady.{Ok, next_ok, transmits_world, round_world, ok_transmits, ok_round, run_append}
use Rattle.runs.proofs.Spared.{others_spare}
use Rattle.runs.proofs.One.{Loud}
use Rattle.runs.proofs.Present.{Went, transmits_went, Outcome, stayed, timed, polls_outcome, timeouts_append, found_of}
use Rattle.runs.proofs.Demand.{entered, post_steady}
use Rattle.hosted.specs.Unset.{Response}

-- ---- a run

module _ (rows x : ℕ) (bs : List Turn) where
  transmits_alone : {now : ℕ} {w v : World} {ts : List Turn} → Transmits rows now w ts v → LeftAlone rows x w (ts ++ bs) → LeftAlone rows x v bs
  transmits_alone (none_left e) h = h.1
  transmits_alone (one_more e d) h = transmits_alone d h.1

  polls_alone : {now clock : ℕ} {w v : World} {ts : List Turn} → Polls rows now w ts v clock → LeftAlone rows x w (ts ++ bs) → LeftAlone rows x v bs
  polls_alone (told_to_wait e) h = h.1
  polls_alone (one_report e d) h = polls_alone d h.1

nil_front : (xs ys : List ℕ) → xs ++ ys ≡ [] → xs ≡ []
nil_front [] ys e = refl
nil_front (x ∷ xs) ys e = absurd (let z : ◌≡◌ {A = ℕ} 0 1 = cc in omega arith)

module _ (rows x : ℕ) (tr : Transport) (set : RequestRto) where
  pub still_there : {w : World} {ss : List Step} {ts : List Turn} → Runs rows w ss ts → (m : ℕ) → Ok rows tr set m w → Steady m ss
      → LeftAlone rows x w ts
      → (last : ℕ) (r : StunRequestState) → request_of (lookup x w.requests) ≡ Some r → Loud last r → timeouts rows x w ts ≡ []
      → (q : StunRequestState) × (request_of (lookup x (run rows w ts).requests) ≡ Some q)
  unfolding timeouts
  still_there ends m o h n last r f q e = (r, f)
  still_there (then_call {w} {t} {ss} {ts} c d) m o h n last r f q e =
      let z = next_ok rows tr set m t w (λ u. Steady u ss) o h in
      let s = others_spare rows x w o.formed t c n.0 in
      still_there d z.floor z.ok z.steady n.1 last r (s.kept ∙ f) q
      (ap (λ (l : List ℕ). l ++ timeouts rows x (said rows w t).world ts) (sym s.untimed) ∙ e)
  still_there (then_round {w} {u} {now} {clock} {ts = ts} {ss = ss} (round {v} {ts = as'} {ps} a b) d) m o h n last r f q e =
      go (polls_outcome rows x tr set now h.1 g.clock g.request g.loud b (ok_transmits a m h.0 o) g.found)
      (λ k e'. still_there d now (ok_round (round a b) m h.0 o) h.2 alone g.clock g.request k g.loud e')
    where
      g : Went rows x tr set now h.1 w last r as' v
      g = transmits_went rows x tr set now h.1 a m o h.0 last r f q

      alone : LeftAlone rows x u ts
      alone =
          polls_alone rows x ts b
          (transmits_alone rows x (ps ++ ts) a (subst (LeftAlone rows x w) (append_assoc as' ps ts) n))

      timed_in : timeouts rows x w (as' ++ ps) ≡ timeouts rows x v ps
      timed_in = timeouts_append rows x w as' ps ∙ rw (transmits_world a, g.untimed)

      in_two : timeouts rows x v ps ++ timeouts rows x u ts ≡ []
      in_two =
          ap (λ (l : List ℕ). l ++ timeouts rows x u ts) (sym timed_in)
          ∙ ap (λ (y : World). timeouts rows x w (as' ++ ps) ++ timeouts rows x y ts) (sym (round_world (round a b)))
          ∙ sym (timeouts_append rows x w (as' ++ ps) ts) ∙ e

      world_is : run rows w ((as' ++ ps) ++ ts) ≡ run rows u ts
      world_is = run_append rows w (as' ++ ps) ts ∙ ap (λ (y : World). run rows y ts) (round_world (round a b))

      go : Outcome rows x tr set now h.1 g.clock g.request g.loud v ps u clock
          → (request_of (lookup x u.requests) ≡ Some g.request → timeouts rows x u ts ≡ []
          → (y : StunRequestState) × (request_of (lookup x (run rows u ts).requests) ≡ Some y))
          → (y : StunRequestState) × (request_of (lookup x (run rows w ((as' ++ ps) ++ ts)).requests) ≡ Some y)
      go (stayed t l z k) ih =
          rw world_is (ih k (ap (λ (y : List ℕ). y ++ timeouts rows x u ts) (sym z) ∙ in_two))
      go (timed t z k) ih = absurd (let y : now ∷ [] ≡ [] = sym z ∙ nil_front _ _ in_two in let c : ◌≡◌ {A = ℕ} 0 1 = cc in omega arith)

-- ---- from its submission on

module _ (rows x : ℕ) (s : Start) (q : Submission) (pre post : List Step) (before later : List Turn)
    (life : Life rows x s q pre post before later) where
  -- It is in the table while its timeout isn't reported.
  pub in_table : timeouts rows x (run rows (begins s) before) (submits q ∷ later) ≡ []
      → (y : StunRequestState) × (request_of (lookup x (run rows (run rows (begins s) before) (submits q ∷ later)).requests) ≡ Some y)
  unfolding timeouts
  in_table e =
      let new = entered rows x s q pre post before later life in
      still_there rows x s.transport s.rto life.runs_later q.now new.ok (post_steady rows x s q pre post before later life)
      life.alone q.now new.request new.found new.loud e

  pub stays_formed : StateFormed rows (run rows (run rows (begins s) before) (submits q ∷ later))
  stays_formed = run_formed rows (submits q ∷ later) (run rows (begins s) before) (entered rows x s q pre post before later life).formed

-- ---- a response

module _ (rows x : ℕ) (w : World) (formed : StateFormed rows w) (r : StunRequestState) (found : request_of (lookup x w.requests) ≡ Some r) where
  taken : (k : Kind) (m : List ℕ) (from : Address) (clock : Option ℕ) (y : Message) → k ≡ carries (receives from clock) → message_of m ≡ Some y
      → is_response y.class ≡ true → key y.transaction_id ≡ x → holds rows w k m Clock ≡ false → holds rows w k m PeersFull ≡ false
      → (says_of rows w k m).answer ≡ answer.Yes
  taken k m from clock y z reads e named clocked placed =
      let c : bad_clock w (carries (receives from clock)) ≡ false = rw z at clocked in
      let p : peers_full w (carries (receives from clock)) m ≡ false = rw z at placed in
      let passed : refusal_of rows w (carries (receives from clock)) m ≡ None =
      past_state_lem rows w (carries (receives from clock)) m ((state_exactly rows w).1 formed) ∙ past_receives rows w m from clock ∙ rw (c, reads, p) in
      let f = found_of (lookup x w.requests) found in
      let there : lookup (key y.transaction_id) w.requests ≡ Some (f.0, r) = ap (λ (n : ℕ). lookup n w.requests) named ∙ f.1 in
      ap (λ (j : Kind). (says_of rows w j m).answer) z
      ∙ accepted_yes rows w from clock m y reads (answer_accepted w.requests from y e (Some (f.0, r)) there) passed

  pub response_accepted : (t : Turn) → Response x t → holds rows w (kind_in t) t.bytes Clock ≡ false
      → holds rows w (kind_in t) t.bytes PeersFull ≡ false → (said rows w t).answer ≡ answer.Yes
  response_accepted t y clocked placed =
      taken (kind_in t) t.bytes y.from y.clock y.message y.is_received y.reads y.responds y.named clocked placed
