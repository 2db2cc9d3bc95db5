-- What a received message does, of a call that isn't refused: document 01, "The agent". Only the first two open `accepts`.
--     plain_accepted, answer_accepted       what is accepted, by the class and what is found
--     plain_change, found_change, none_change    and what that changes
--     response_found                        an accepted response has its request
--     not_accepted                          only the clock mark moves
--     accepted_yes                          an accepted message is answered with yes
--     response_taken, others_stay           an accepted response takes its request out, and no other
--     other_received                        a received request or indication touches no request
--     validated_known, sender_validated     every accepted message validates its sender
--     known_kept                            a peer stays one, whatever the call
use Rattle.model.specs.declared.Refusal.{Refusal}
use Rattle.std.specs.Prelude.{None, Some, Option, is_some}
use Prim.Native.Nat.{ℕ}
use mathlib.Core.Path.{◌≡◌, refl, sym, ap, ◌∙◌}
use mathlib.Core.Bool.{Bool, true, false}
use mathlib.Core.List.{List, [], ◌∷◌, ◌++◌}
use native.Mathlib.Numerals.{add-one}
use native.Mathlib.Omega.{arith}
use Rattle.std.proofs.lemmas.Grind.{common_steps}
use lib.ListN.{take}
use lib.Seq.{take-suc-set}
use Rattle.address.specs.declared.Address.{Address}
use Rattle.address.proofs.Same.{same_refl}
use Rattle.message.specs.Head.{key}
use Rattle.message.specs.Attributes.{message_of}
use Rattle.message.specs.declared.Message.{Message}
use Rattle.stats.specs.declared.Event.TheVariants as event
use Rattle.stats.proofs.Fields.{nothing}
use Rattle.request.specs.declared.StunRequestState.{StunRequestState}
use Rattle.requests.specs.Search.{lookup, request_of}
use Rattle.requests.proofs.Lists.{apart}
use Rattle.requests.proofs.Search.{lookup_taken, lookup_taken_other}
use Rattle.peers.specs.Peers.{listed}
use Rattle.model.specs.World.{World, StateFormed, known}
use Rattle.model.specs.Calls.{receives, Kind, carries}
use Rattle.model.specs.Accepts.{is_response, accepts, validated, new_peer}
use Rattle.model.specs.Refusals.{refusal_of}
use Rattle.model.specs.Effects.{Change, keeps, removes, answered, changed, change_of, answer_of, event_of, mark_after, peers_after, peer_count, after}
use Rattle.model.specs.Says.{Said, says_of}
use Rattle.model.specs.declared.Answer.TheVariants as answer
use Rattle.model.proofs.Refused.{passed_exactly, refused_same, passed_does}
use Rattle.model.proofs.Changes.{peer_fits}
use Rattle.model.proofs.Peers.{peer_joined, peers_same}

-- What is accepted and what that changes, by the class and what is found.
module _ (l : List StunRequestState) (from : Address) (x : Message) where
  pub plain_accepted : is_response x.class ≡ false → accepts l from x ≡ true
  unfolding accepts
  plain_accepted e = rw e

  pub answer_accepted : is_response x.class ≡ true → (f : Option (ℕ × StunRequestState)) → lookup (key x.transaction_id) l ≡ f → accepts l from x ≡ is_some f
  unfolding accepts
  answer_accepted e f g = rw (e, g)

  pub plain_change : is_response x.class ≡ false → answered l from x ≡ keeps
  plain_change e = rw (plain_accepted e, e)

  pub found_change : is_response x.class ≡ true → (i : ℕ) (q : StunRequestState) → lookup (key x.transaction_id) l ≡ Some (i, q) → answered l from x ≡ removes i
  found_change e i q g = rw (answer_accepted e (Some (i, q)) g, e, g)

  pub none_change : is_response x.class ≡ true → lookup (key x.transaction_id) l ≡ None → answered l from x ≡ keeps
  none_change e g = rw (answer_accepted e None g)

  -- An accepted response has its request.
  pub response_found : accepts l from x ≡ true → is_response x.class ≡ true
      → (i : ℕ) × (r : StunRequestState) × (lookup (key x.transaction_id) l ≡ Some (i, r))
  response_found taken response = go (lookup (key x.transaction_id) l) refl
    where
      go : (f : Option (ℕ × StunRequestState)) → lookup (key x.transaction_id) l ≡ f → (i : ℕ) × (r : StunRequestState) × (f ≡ Some (i, r))
      go (Some (i, r)) e = (i, r, refl)
      go None e = apart (sym taken ∙ answer_accepted response None e)

-- The same world at another clock mark.
abbrev pub marked : ℕ → World → World
marked mark w = record {
  agent = record {
    transport = w.agent.transport;
    stats = w.agent.stats;
    rto = w.agent.rto;
    mark = mark;
    requests = w.agent.requests;
    peers = w.agent.peers;
  };
  requests = w.requests;
  store = w.store;
  peers = w.peers;
  stats = w.stats;
}

module _ (rows : ℕ) (w : World) (from : Address) (clock : Option ℕ) (m : List ℕ) (x : Message) (reads : message_of m ≡ Some x) where
  -- ---- not accepted

  module _ (no : accepts w.requests from x ≡ false) where
    no_change : change_of rows w (carries (receives from clock)) m ≡ keeps
    unfolding change_of
    no_change = rw (reads, no)

    no_peer_lem : new_peer w (carries (receives from clock)) m ≡ None
    unfolding new_peer
    no_peer_lem = rw (reads, no)

    no_event : event_of w (carries (receives from clock)) m ≡ event.Nothing
    unfolding event_of
    no_event = grind (arith, common_steps, reads, no)

    says_no : answer_of rows w (carries (receives from clock)) m ≡ answer.No
    unfolding answer_of
    says_no = rw (reads, no)

    same_but_mark : after rows w (carries (receives from clock)) m ≡ marked (mark_after w (carries (receives from clock))) w
    unfolding after
    same_but_mark =
        let peers = peers_same w (carries (receives from clock)) m no_peer_lem in
        let stats = nothing w.stats in
        rw (no_change, no_event) cc

    -- "If not outstanding: not accepted, only the clock mark moves."
    pub not_accepted : refusal_of rows w (carries (receives from clock)) m ≡ None → says_of rows w (carries (receives from clock)) m ≡ record { answer = answer.No; world = marked (mark_after w (carries (receives from clock))) w }
    not_accepted e = rw (passed_does rows w (carries (receives from clock)) m e, says_no, same_but_mark)

  -- ---- accepted

  module _ (yes : accepts w.requests from x ≡ true) (passed : refusal_of rows w (carries (receives from clock)) m ≡ None) where
    says_yes : answer_of rows w (carries (receives from clock)) m ≡ answer.Yes
    unfolding answer_of
    says_yes = rw (reads, yes)

    pub accepted_yes : (says_of rows w (carries (receives from clock)) m).answer ≡ answer.Yes
    accepted_yes = ap (λ (s : Said). s.answer) (passed_does rows w (carries (receives from clock)) m passed) ∙ says_yes

    after_change : (c : Change) → change_of rows w (carries (receives from clock)) m ≡ c → (says_of rows w (carries (receives from clock)) m).world.requests ≡ changed w.agent.transport c w.requests
    unfolding after
    after_change c e =
        ap (λ (s : Said). s.world.requests) (passed_does rows w (carries (receives from clock)) m passed) ∙ ap (λ (d : Change). changed w.agent.transport d w.requests) e

    -- "A received response takes its request out if the identifier is outstanding, whatever address it came from."
    module _ (i : ℕ) (r : StunRequestState) (response : is_response x.class ≡ true) (found : lookup (key x.transaction_id) w.requests ≡ Some (i, r)) where
      takes : change_of rows w (carries (receives from clock)) m ≡ removes i
      unfolding change_of
      takes = rw (reads, yes, response, found)

      pub response_taken : StateFormed rows w → lookup (key x.transaction_id) (says_of rows w (carries (receives from clock)) m).world.requests ≡ None
      response_taken formed =
          ap (lookup (key x.transaction_id)) (after_change (removes i) takes)
          ∙ lookup_taken (key x.transaction_id) i r w.requests found formed.requests.order

      pub others_stay : (other : ℕ) → (other ≡ key x.transaction_id → ⊥)
          → request_of (lookup other (says_of rows w (carries (receives from clock)) m).world.requests) ≡ request_of (lookup other w.requests)
      others_stay other n =
          ap (λ (l : List StunRequestState). request_of (lookup other l)) (after_change (removes i) takes)
          ∙ lookup_taken_other (key x.transaction_id) i r w.requests found other n

    quiet : is_response x.class ≡ false → change_of rows w (carries (receives from clock)) m ≡ keeps
    unfolding change_of
    quiet other = rw (reads, yes, other)

    pub other_received : is_response x.class ≡ false → (says_of rows w (carries (receives from clock)) m).world.requests ≡ w.requests
    other_received other = after_change keeps (quiet other)

-- ---- peers

listed_last : (a : Address) (l : List Address) → listed a (l ++ (a ∷ [])) ≡ true
listed_last a [] = rw (same_refl a)
listed_last a (p ∷ ps) = let h = listed_last a ps in grind (arith, common_steps)

listed_more : (a b : Address) (l : List Address) → listed a l ≡ true → listed a (l ++ (b ∷ [])) ≡ true
listed_more a b [] h = absurd cc
listed_more a b (p ∷ ps) h = let more = listed_more a b ps in grind (arith, common_steps, more)

module _ (rows : ℕ) (w : World) (k : Kind) (m : List ℕ) where
  -- the peers after a call: those before it, and the new one
  with_new : (b : Address) → refusal_of rows w k m ≡ None → new_peer w k m ≡ Some b
      → take (peer_count w k m) (peers_after w k m) ≡ take w.agent.peers w.peers ++ (b ∷ [])
  with_new b passed e =
      let j = peer_joined w k m b e in
      rw (j.0, j.1, add-one) (take-suc-set w.peers w.agent.peers b (peer_fits rows w k m ((passed_exactly rows w k m).0 passed) b e))

  without_new : new_peer w k m ≡ None → take (peer_count w k m) (peers_after w k m) ≡ take w.agent.peers w.peers
  without_new e = let s = peers_same w k m e in rw (s.0, s.1)

  known_after : refusal_of rows w k m ≡ None → (a : Address) → known (says_of rows w k m).world a ≡ listed a (take (peer_count w k m) (peers_after w k m))
  unfolding after
  known_after passed a = ap (λ (s : Said). known s.world a) (passed_does rows w k m passed)

  pub known_kept : (a : Address) → known w a ≡ true → known (says_of rows w k m).world a ≡ true
  known_kept a h = go (refusal_of rows w k m) refl
    where
      by_peer : refusal_of rows w k m ≡ None → (o : Option Address) → new_peer w k m ≡ o → listed a (take (peer_count w k m) (peers_after w k m)) ≡ true
      by_peer passed None e = rw (without_new e) h
      by_peer passed (Some b) e = rw (with_new b passed e) (listed_more a b (take w.agent.peers w.peers) h)

      go : (o : Option Refusal) → refusal_of rows w k m ≡ o → known (says_of rows w k m).world a ≡ true
      go None e = known_after e a ∙ by_peer e (new_peer w k m) refl
      go (Some q) e = ap (λ (s : Said). known s.world a) (refused_same rows w k m q e) ∙ h

  new_peer_lem : (a : Address) → validated w k m ≡ Some a → known w a ≡ false → new_peer w k m ≡ Some a
  unfolding new_peer
  new_peer_lem a v e = rw (v, e)

  -- whoever is to be validated is a peer afterwards
  pub validated_known : (a : Address) → refusal_of rows w k m ≡ None → validated w k m ≡ Some a → known (says_of rows w k m).world a ≡ true
  validated_known a passed v = go (known w a) refl
    where
      go : (b : Bool) → known w a ≡ b → known (says_of rows w k m).world a ≡ true
      go true e = known_kept a e
      go false e = known_after passed a ∙ rw (with_new a passed (new_peer_lem a v e)) (listed_last a (take w.agent.peers w.peers))

-- "Every accepted message validates its sender."
pub sender_validated : (rows : ℕ) (w : World) (from : Address) (clock : Option ℕ) (m : List ℕ) (x : Message) → message_of m ≡ Some x
    → accepts w.requests from x ≡ true → refusal_of rows w (carries (receives from clock)) m ≡ None
    → known (says_of rows w (carries (receives from clock)) m).world from ≡ true
sender_validated rows w from clock m x reads taken passed =
    validated_known rows w (carries (receives from clock)) m from passed (rw (reads, taken))
