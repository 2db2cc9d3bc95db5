-- A law for each way through a received message.
use Rattle.model.specs.declared.Refusal.TheVariants.{Clock, BadMessage, PeersFull}
use Rattle.model.specs.declared.Refusal.{Refusal}
use Rattle.std.specs.Prelude.{None, Some, Option, Ok, Err}
use Prim.Native.Nat.{ℕ, ◌+◌, ◌-◌, ◌^◌}
use mathlib.Core.Path.{◌≡◌, refl, sym, ap, ◌∙◌}
use mathlib.Core.Bool.{Bool, true, false, cond}
use mathlib.Core.List.{List}
use lib.Dec.{leb, ltb}
use lib.ListN.{length}
use borrow.Author.Tests.{ltb-false}
use Rattle.address.specs.declared.Address.{Address}
use Rattle.message.specs.Head.{key}
use Rattle.message.specs.Attributes.{message_of}
use Rattle.message.specs.declared.MessageClass.{MessageClass}
use Rattle.message.specs.declared.MessageClass.TheVariants.{Request, Indication, Success, Error}
use Rattle.message.specs.declared.Message.{Message}
use Rattle.stats.specs.declared.StunAgentStats.{StunAgentStats}
use Rattle.stats.specs.declared.Event.{Event}
use Rattle.stats.specs.declared.Event.TheVariants as event
use Rattle.request.specs.declared.StunRequestState.{StunRequestState}
use Rattle.request.proofs.Limits.{limits_later}
use Rattle.requests.specs.Search.{lookup}
use Rattle.requests.proofs.Lists.{neither, apart}
use Rattle.requests.proofs.Search.{found_at, placed_within}
use Rattle.records.specs.Live.{live}
use Rattle.model.specs.World.{World, known}
use Rattle.model.specs.Calls.{Kind, carries, receives, on_some}
use Rattle.model.specs.Accepts.{new_peer, is_response, accepts}
use Rattle.model.specs.Refusals.{refusal_past}
use Rattle.model.specs.Effects.{Change, keeps, removes, answered, received_as, rtt_at, yes_or_no, count_after, change_of, answer_of, event_by}
use Rattle.model.specs.declared.StunAgent.{StunAgent}
use Rattle.model.specs.declared.Answer.TheVariants as answer
use Rattle.model.proofs.Classes.{past_receives, new_is, change_receives, answer_receives}
use Rattle.model.proofs.Received.{plain_accepted, answer_accepted, plain_change, found_change, none_change}
use Rattle.agent.specs.Ready.{world_of, Lent}
use Rattle.agent.specs.Called.{called_of, refused_with, noted, moved, TableAfter, Acts, is_past, mark_by, on_receipt, rtt_by, Timely, admitted}
use Rattle.agent.specs.declared.Called.{Called}
use Rattle.agent.specs.declared.Contact.{Contact}
use Rattle.agent.proofs.Model.{refuses, performs}
use Rattle.agent.proofs.Peers.{by_new, is_crowded, full_is, joins_is}
use Rattle.agent.proofs.Table.{kept_same, err_by, ok_by, searchable, found_place}

-- ---- what is counted, by the class and what was found

plain_event : (n : ℕ) (r s : Option ℕ) (c : MessageClass) → is_response c ≡ false → received_as n r c ≡ received_as n s c
plain_event n r s Request e = refl
plain_event n r s Indication e = refl
plain_event n r s Success e = apart e
plain_event n r s Error e = apart e

module _ (l : List StunRequestState) (from : Address) (x : Message) where
  abbrev counts : ℕ → Option ℕ → Event
  counts n clk = cond (accepts l from x) (received_as n (rtt_at clk (lookup (key x.transaction_id) l)) x.class) event.Nothing

  plain_counts : (n : ℕ) (clk : Option ℕ) (r : Option ℕ) → is_response x.class ≡ false → received_as n r x.class ≡ counts n clk
  plain_counts n clk r e =
      plain_event n r (rtt_at clk (lookup (key x.transaction_id) l)) x.class e
      ∙ ap (λ (b : Bool). cond b (received_as n (rtt_at clk (lookup (key x.transaction_id) l)) x.class) event.Nothing) (sym (plain_accepted l from x e))

  found_counts : (n : ℕ) (c : Option ℕ) → is_response x.class ≡ true → (i : ℕ) (q : StunRequestState) → lookup (key x.transaction_id) l ≡ Some (i, q)
      → received_as n (rtt_by c q) x.class ≡ counts n c
  found_counts n c e i q g =
      ap (λ (f : Option (ℕ × StunRequestState)). received_as n (rtt_at c f) x.class) (sym g)
      ∙ ap (λ (b : Bool). cond b (received_as n (rtt_at c (lookup (key x.transaction_id) l)) x.class) event.Nothing) (sym (answer_accepted l from x e (Some (i, q)) g))

  none_counts : (n : ℕ) (clk : Option ℕ) → is_response x.class ≡ true → lookup (key x.transaction_id) l ≡ None → counts n clk ≡ event.Nothing
  none_counts n clk e g = rw (answer_accepted l from x e None g)

-- ---- the clock

-- A clock that isn't refused, or none, and the agent there; and one that is.
pub record OnTime (a : StunAgent) (c : Option ℕ) (b : StunAgent) : Type 0 where
  pub early : is_past a c ≡ false
  pub agent_is : b ≡ moved a (mark_by a c) a.requests a.peers

pub record Past (a : StunAgent) (c : Option ℕ) (q : Refusal) : Type 0 where
  pub late : is_past a c ≡ true
  pub is : q ≡ Clock

module _ (a : StunAgent) (c : Option ℕ) where
  past_is : (q : Refusal) → on_receipt a c ≡ Err q → Past a c q
  unfolding on_receipt
  past_is q e = let z = err_by (is_past a c) Clock q (moved a (mark_by a c) a.requests a.peers) e in record { late = z.0; is = z.1 }

  on_time_is : (b : StunAgent) → on_receipt a c ≡ Ok b → OnTime a c b
  unfolding on_receipt
  on_time_is b e = let z = ok_by (is_past a c) Clock (moved a (mark_by a c) a.requests a.peers) b e in record { early = z.0; agent_is = z.1 }

-- ---- the ways

module _ (a : StunAgent) (t : List ℕ) (from : Address) (y : Contact) (c : Option ℕ) (m store : List ℕ) (peers : List Address) (st : StunAgentStats) (fits : length peers ≡ y.places) (k : known (world_of a t store peers st) from ≡ y.known) where
  abbrev w : World
  w = world_of a t store peers st

  abbrev reqs : List StunRequestState
  reqs = live a.requests t

  abbrev reception : Kind
  reception = carries (receives from c)

  abbrev Done : List ℕ → Called → Type 0
  Done t' r = Acts w reception m t t' r

  pub receives_late : (q : Refusal) → on_receipt a c ≡ Err q → Done t (refused_with a q)
  receives_late q e = let z = past_is a c q e in rw z.is (refuses a t store peers st reception m Clock (past_receives 32 w m from c ∙ rw z.late))

  module _ (next : StunAgent) (on_time : on_receipt a c ≡ Ok next) where
    early : is_past a c ≡ false
    early = (on_time_is a c next on_time).early

    pub receives_bad : message_of m ≡ None → Done t (refused_with a BadMessage)
    receives_bad g = refuses a t store peers st reception m BadMessage (past_receives 32 w m from c ∙ rw (early, g))

    module _ (x : Message) (g : message_of m ≡ Some x) where
      nobody : accepts reqs from x ≡ false → new_peer w reception m ≡ None
      nobody h = new_is 32 w reception m ∙ rw (g, h)

      sender_new : accepts reqs from x ≡ true → new_peer w reception m ≡ cond y.known None (Some from)
      sender_new h = new_is 32 w reception m ∙ rw (g, h, k)

      -- refusal 10, or none
      number_is : accepts reqs from x ≡ true → (b : Bool) → is_crowded y a ≡ b → refusal_past 32 w reception m ≡ cond b (Some PeersFull) None
      number_is h b i = past_receives 32 w m from c ∙ rw (early, g, sender_new h, fits, by_new y.known from false (leb y.places a.peers), i)

      change_is : (d : Change) → answered reqs from x ≡ d → change_of 32 w reception m ≡ d
      change_is d i = change_receives 32 w m from c ∙ (ap (λ (p : Option Message). on_some p keeps (answered reqs from)) g ∙ i)

      answer_is : (b : Bool) → accepts reqs from x ≡ b → answer_of 32 w reception m ≡ yes_or_no b
      answer_is b h = answer_receives 32 w m from c ∙ rw (g, h)

      event_is : event_by w reception m ≡ counts reqs from x (length m) c
      event_is = ap (λ (p : Option Message). on_some p event.Nothing (λ z. counts reqs from z (length m) c)) g

      -- The agent at the clock has the agent's peers.
      full : accepts reqs from x ≡ true → (q : Refusal) → admitted y next ≡ Err q → Done t (refused_with a q)
      full h q i =
          let z = full_is y next q i in
          let crowd : is_crowded y a ≡ true = rw (on_time_is a c next on_time).agent_is at z.crowd in
          rw z.is (refuses a t store peers st reception m PeersFull (number_is h true crowd))

      accepted : (t' : List ℕ) (d : Change) (e : Event) → accepts reqs from x ≡ true → answered reqs from x ≡ d → e ≡ counts reqs from x (length m) c
          → TableAfter a.transport d a.requests t t' → (b : StunAgent) (p : Option ℕ) → admitted y next ≡ Ok (b, p)
          → Done t' (called_of (moved b b.mark (count_after d b.requests) b.peers) answer.Yes (noted b e) p)
      accepted t' d e h j l z b p i =
          let at = (on_time_is a c next on_time).agent_is in
          let q = joins_is y next b p i in
          let room : is_crowded y a ≡ false = rw at at q.room in
          rw (q.agent_is, q.place_is, at, ← by_new y.known from a.peers (a.peers + 1), ← by_new y.known from None (Some a.peers))
          (performs a t store peers st reception m t' d answer.Yes e (cond y.known None (Some from))
          (number_is h false room) (change_is d j) (answer_is true h) (event_is ∙ sym l) (sender_new h) z)

      pub receives_none : is_response x.class ≡ true → lookup (key x.transaction_id) reqs ≡ None → Done t (called_of next answer.No (noted next event.Nothing) None)
      receives_none h i =
          let no = answer_accepted reqs from x h None i in
          rw (on_time_is a c next on_time).agent_is
          (performs a t store peers st reception m t keeps answer.No event.Nothing None
          (past_receives 32 w m from c ∙ rw (early, g, nobody no)) (change_is keeps (none_change reqs from x h i)) (answer_is false no)
          (event_is ∙ none_counts reqs from x (length m) c h i) (nobody no) (kept_same a.transport a.requests t))

      pub plain_full : is_response x.class ≡ false → (q : Refusal) → admitted y next ≡ Err q → Done t (refused_with a q)
      plain_full h = full (plain_accepted reqs from x h)

      pub found_full : (i : ℕ) (r : StunRequestState) → is_response x.class ≡ true → lookup (key x.transaction_id) reqs ≡ Some (i, r)
          → (q : Refusal) → admitted y next ≡ Err q → Done t (refused_with a q)
      found_full i r h j = full (answer_accepted reqs from x h (Some (i, r)) j)

      module _ (b : StunAgent) (p : Option ℕ) (joined : admitted y next ≡ Ok (b, p)) where
        pub plain_yes : is_response x.class ≡ false → Done t (called_of b answer.Yes (noted b (received_as (length m) None x.class)) p)
        plain_yes h =
            accepted t keeps (received_as (length m) None x.class) (plain_accepted reqs from x h) (plain_change reqs from x h)
            (plain_counts reqs from x (length m) c None h) (kept_same a.transport a.requests t) b p joined

        pub found_yes : (t' : List ℕ) (i : ℕ) (q : StunRequestState) → is_response x.class ≡ true → lookup (key x.transaction_id) reqs ≡ Some (i, q)
            → TableAfter a.transport (removes i) a.requests t t'
            → Done t' (called_of (moved b b.mark (b.requests - 1) b.peers) answer.Yes (noted b (received_as (length m) (rtt_by c q) x.class)) p)
        found_yes t' i q h j z =
            accepted t' (removes i) (received_as (length m) (rtt_by c q) x.class) (answer_accepted reqs from x h (Some (i, q)) j) (found_change reqs from x h i q j)
            (found_counts reqs from x (length m) c h i q j) z b p joined

-- The agent at the clock, with the sender among its peers, has as many requests.
pub joined_count : (a : StunAgent) (c : Option ℕ) (next : StunAgent) → on_receipt a c ≡ Ok next → (y : Contact) (b : StunAgent) (p : Option ℕ) → admitted y next ≡ Ok (b, p)
    → b.requests ≡ a.requests
joined_count a c next e y b p f = ap (λ (x : StunAgent). x.requests) ((joins_is y next b p f).agent_is) ∙ ap (λ (x : StunAgent). x.requests) ((on_time_is a c next e).agent_is)

-- The request was last sent no later than the clock, which isn't below the mark.
pub timely : (a : StunAgent) (t : List ℕ) → Lent a t → (c : Option ℕ) (next : StunAgent) → on_receipt a c ≡ Ok next → (k i : ℕ) (q : StunRequestState) → lookup k (live a.requests t) ≡ Some (i, q) → Timely c q
timely a t s c next e k i q f = go c (on_time_is a c next e).early
  where
    go : (d : Option ℕ) → is_past a d ≡ false → Timely d q
    go (Some now) h =
        limits_later 32 a.mark now q (ltb-false now a.mark (neither (ltb (2 ^ 60) now) (ltb now a.mark) h).1)
        (placed_within 32 a.mark (live a.requests t) i q s.requests.within (found_at k i q (live a.requests t) f).placed)
    go None h = tt

-- What `handle_stun_message_internal` stands on.
pub ruleset received = (searchable, found_place, timely, joined_count)
