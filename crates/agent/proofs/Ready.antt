-- The test of the state is the model's, of a table that has all its rows; and what is handed out is the model's part.
--     state_ready     the test, in any world of this agent and what is lent
--     ready_says      what the calls over the table ask
use Prim.Native.Nat.{ℕ, ◌*◌, ◌^◌, ◌≤◌}
use mathlib.Core.Path.{◌≡◌, refl, sym, ◌∙◌}
use mathlib.Core.Bool.{Bool, true, false, cond, ◌&&◌, and-eq-true_iff}
use mathlib.Core.List.{List, []}
use lib.Dec.{leb}
use lib.ListN.{length}
use borrow.Author.Tests.{leb-true, eq-eqb}
use Rattle.address.specs.declared.Address.{Address}
use Rattle.waits.specs.Waits.{within_limits}
use Rattle.waits.proofs.Limits.{within_limits_lem}
use Rattle.stats.specs.declared.StunAgentStats.{StunAgentStats}
use Rattle.store.specs.Rows.{part_of}
use Rattle.requests.proofs.Formed.{formed_exactly}
use Rattle.records.specs.Coding.{size}
use Rattle.records.specs.Live.{live}
use Rattle.records.proofs.Live.{length_live}
use Rattle.model.specs.World.{state_formed}
use Rattle.requests.specs.Use.{in_use}
use Rattle.model.specs.Parts.{transmission_of}
use Rattle.model.specs.declared.StunAgent.{StunAgent}
use Rattle.model.proofs.Store.{part_refused, part_unused, part_used}
use Rattle.agent.specs.Ready.{world_of, ready, Lent, HandsOut}

module _ (a : StunAgent) (places : ℕ) (t store : List ℕ) where
  pub ready_says : ready a places t store ≡ true → Lent a t
  unfolding ready
  ready_says e =
      let b = (and-eq-true_iff (leb size (length t)) _).0 e in
      let c = (and-eq-true_iff (leb (32 * 1024) (length store)) _).0 b.1 in
      let d = (and-eq-true_iff (leb a.peers places) _).0 c.1 in
      let f = (and-eq-true_iff (leb a.mark (2 ^ 60)) _).0 d.1 in
      let g = (and-eq-true_iff (within_limits a.rto) _).0 f.1 in
      record {
        fits = leb-true _ _ b.0;
        mark = leb-true _ _ f.0;
        settings = (within_limits_lem _).0 g.0;
        requests = (formed_exactly _ _ _).0 g.1;
      }

  pub state_ready : (peers : List Address) (st : StunAgentStats) → length peers ≡ places
      → ready a places t store ≡ (leb size (length t) && state_formed 32 (world_of a t store peers st))
  unfolding ready state_formed
  state_ready peers st e = rw (e, eq-eqb a.requests (length (live a.requests t)) (sym (length_live a.requests t)))

pub few : (a : StunAgent) (t : List ℕ) → Lent a t → a.requests ≤ 32
few a t s = rw (length_live a.requests t) at s.requests.count

-- ---- the part

none_by : (b s : Bool) (p : List ℕ) → (b && s) ≡ false → (s ≡ false → p ≡ []) → [] ≡ cond b p []
none_by true s p e f = sym (f e)
none_by false s p e f = refl

none_of : (b : Bool) (p : List ℕ) → p ≡ [] → [] ≡ cond b p []
none_of true p e = sym e
none_of false p e = refl

module _ (a : StunAgent) (places : ℕ) (t store : List ℕ) (row len : ℕ) where
  pub hands_unready : ready a places t store ≡ false → HandsOut a places t store row len []
  hands_unready e = record {
    says = λ peers st h.
        let w = world_of a t store peers st in
        none_by (leb size (length t)) (state_formed 32 w) (transmission_of 32 w row len) (sym (state_ready a places t store peers st h) ∙ e)
        (part_refused 32 w row len);
  }

  pub hands_unused : in_use row len (live a.requests t) ≡ false → HandsOut a places t store row len []
  hands_unused e = record {
    says = λ peers st h.
        let w = world_of a t store peers st in
        none_of (leb size (length t)) (transmission_of 32 w row len) (part_unused 32 w row len e);
  }

  pub hands_part : ready a places t store ≡ true → in_use row len (live a.requests t) ≡ true → (p : List ℕ) → p ≡ part_of 32 store row len
      → HandsOut a places t store row len p
  hands_part e f p g = record {
    says = λ peers st h.
        let w = world_of a t store peers st in
        let is = (and-eq-true_iff (leb size (length t)) (state_formed 32 w)).0 (sym (state_ready a places t store peers st h) ∙ e) in
        g ∙ (sym (part_used 32 w row len is.1 f) ∙ rw is.0);
  }

-- What `transmission` stands on.
pub ruleset handed = (ready_says, few, hands_unready, hands_unused, hands_part)
