-- A law for each way through a call with an identifier.
use Rattle.model.specs.declared.Refusal.TheVariants.{Settings, NoRequest}
use Rattle.std.specs.Prelude.{Option, None, Some}
use Prim.Native.Nat.{ℕ}
use mathlib.Core.Path.{◌≡◌, refl, sym, ap, ◌∙◌}
use mathlib.Core.Bool.{true, false, not}
use mathlib.Core.List.{List}
use lib.ListN.{set}
use Rattle.rows.specs.Rows.{rows}
use Rattle.address.specs.declared.Address.{Address}
use Rattle.message.specs.Head.{key}
use Rattle.message.specs.declared.TransactionId.{TransactionId}
use Rattle.stats.specs.declared.StunAgentStats.{StunAgentStats}
use Rattle.stats.specs.declared.Event.TheVariants as event
use Rattle.request.specs.declared.StunRequestState.{StunRequestState}
use Rattle.requests.specs.Search.{lookup}
use Rattle.records.specs.Coding.{width, encode}
use Rattle.records.specs.Live.{live, Became}
use Rattle.model.specs.World.{World}
use Rattle.model.specs.Calls as model
use Rattle.model.specs.Calls.{Wish, names, wish_settings, on_some}
use Rattle.waits.specs.Waits.{within_limits}
use Rattle.model.specs.Effects.{keeps, sets, on_found, wished, wish_answer}
use Rattle.model.specs.declared.StunAgent.{StunAgent}
use Rattle.model.specs.declared.Answer.TheVariants as answer
use Rattle.model.proofs.Classes.{past_names, new_is, change_names, answer_names}
use Rattle.agent.specs.Ready.{world_of}
use Rattle.agent.specs.Called.{called_of, refused_with, noted, called, Acts, Alters}
use Rattle.agent.proofs.Model.{refused_as, done_as, refuses, performs}

-- ---- query

module _ (a : StunAgent) (t : List ℕ) (id : TransactionId) (store m : List ℕ) (peers : List Address) (st : StunAgentStats) where
  abbrev w : World
  w = world_of a t store peers st

  pub looks_found : (i : ℕ) (r : StunRequestState) → lookup (key id) (live a.requests t) ≡ Some (i, r)
      → called_of a (answer.Request r.to r.request_integrity) (noted a event.Nothing) None ≡ called 32 w (names id model.query) m
  looks_found i r e =
      sym (done_as w (names id model.query) m keeps (wish_answer model.query r) event.Nothing None (past_names 32 w m id model.query ∙ rw e)
      (change_names 32 w m id model.query ∙ rw e) (answer_names 32 w m id model.query ∙ rw e) refl (new_is 32 w (names id model.query) m))

  pub looks_none : lookup (key id) (live a.requests t) ≡ None → refused_with a NoRequest ≡ called 32 w (names id model.query) m
  looks_none e = sym (refused_as w (names id model.query) m NoRequest (past_names 32 w m id model.query ∙ rw e))

-- ---- a change

module _ (a : StunAgent) (t : List ℕ) (id : TransactionId) (wish : Wish) (store m : List ℕ) (peers : List Address) (st : StunAgentStats) where
  abbrev here : World
  here = world_of a t store peers st

  pub changes_unfit : on_some (wish_settings wish) false (λ rto. not (within_limits rto)) ≡ true → Acts here (names id wish) m t t (refused_with a Settings)
  changes_unfit e = refuses a t store peers st (names id wish) m Settings (past_names 32 here m id wish ∙ rw e)

  module _ (may : StunRequestState → StunRequestState → Type 0) (asks : Alters wish may) where
    pub changes_none : lookup (key id) (live a.requests t) ≡ None → Acts here (names id wish) m t t (refused_with a NoRequest)
    changes_none e = refuses a t store peers st (names id wish) m NoRequest (past_names 32 here m id wish ∙ rw (asks.fits, e))

    pub changes_found : (t' : List ℕ) (i : ℕ) (q p : StunRequestState) → lookup (key id) (live a.requests t) ≡ Some (i, q)
        → may q p → Became t t' a.requests (set (rows width a.requests t) i (encode p)) (set (live a.requests t) i p)
        → Acts here (names id wish) m t t' (called_of a answer.Ok (noted a event.Nothing) None)
    changes_found t' i q p e h x =
        performs a t store peers st (names id wish) m t' (sets i p) answer.Ok event.Nothing None
        (past_names 32 here m id wish ∙ rw (asks.fits, e))
        (change_names 32 here m id wish ∙ (ap (λ (y : Option (ℕ × StunRequestState)). on_found y keeps (wished wish)) e ∙ asks.alters i q p h))
        (answer_names 32 here m id wish ∙ (ap (λ (y : Option (ℕ × StunRequestState)). on_found y answer.None (λ place z. wish_answer wish z)) e ∙ asks.answers q))
        refl (new_is 32 here (names id wish) m) x
