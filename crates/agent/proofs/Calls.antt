-- A law for each way through a call that leaves the table alone: the statistics and the peers.
use Rattle.model.specs.declared.Refusal.{Refusal}
use Rattle.model.specs.declared.Refusal.TheVariants.{PeersFull, NoStats, Counts}
use Rattle.std.specs.Prelude.{Option, None, Some, is_none, Ok, Err}
use Prim.Native.Nat.{ℕ, ◌+◌}
use mathlib.Core.Path.{◌≡◌, refl, sym, ap, ◌∙◌}
use mathlib.Core.Bool.{Bool, true, false, cond, ◌&&◌}
use mathlib.Core.List.{List}
use lib.Dec.{leb}
use lib.ListN.{length}
use Rattle.address.specs.declared.Address.{Address}
use Rattle.stats.specs.Query.{average_of, outstanding_of, outstanding_count}
use Rattle.stats.specs.declared.StunAgentStats.{StunAgentStats}
use Rattle.stats.specs.declared.Event.TheVariants as event
use Rattle.request.specs.declared.StunRequestState.{StunRequestState}
use Rattle.model.specs.World.{World, known}
use Rattle.model.specs.Calls.{ask, validate, Figure, mean, unsettled, meets, counts}
use Rattle.model.specs.Accepts.{new_peer}
use Rattle.model.specs.Refusals.{is_unsettled}
use Rattle.model.specs.Effects.{keeps, figure_answer, figure_event, yes_or_no}
use Rattle.model.specs.declared.StunAgent.{StunAgent}
use Rattle.model.specs.declared.Answer.TheVariants as answer
use Rattle.model.proofs.Classes.{past_meets, past_counts, new_is, change_meets, change_counts, answer_meets, answer_counts}
use Rattle.agent.specs.Ready.{world_with}
use Rattle.agent.specs.Called.{called_of, refused_with, noted, called, admitted}
use Rattle.agent.specs.declared.Contact.{Contact}
use Rattle.agent.proofs.Model.{refused_as, done_as}
use Rattle.agent.proofs.Peers.{by_new, full_is, joins_is}

-- ---- the statistics

module _ (a : StunAgent) (f : Figure) (l : List StunRequestState) (store m : List ℕ) (peers : List Address) (st : StunAgentStats) where
  abbrev w : World
  w = world_with a l store peers st

  pub counts_on : a.stats ≡ true → (is_unsettled f && is_none (outstanding_of st)) ≡ false
      → called_of a (figure_answer w f) (noted a (figure_event f)) None ≡ called 32 w (counts f) m
  counts_on e g =
      sym (done_as w (counts f) m keeps (figure_answer w f) (figure_event f) None (past_counts 32 w m f ∙ rw (e, g)) (change_counts 32 w m f)
      (answer_counts 32 w m f) refl (new_is 32 w (counts f) m))

  pub counts_off : a.stats ≡ false → refused_with a NoStats ≡ called 32 w (counts f) m
  counts_off e = sym (refused_as w (counts f) m NoStats (past_counts 32 w m f ∙ rw e))

  pub counts_below : a.stats ≡ true → (is_unsettled f && is_none (outstanding_of st)) ≡ true → refused_with a Counts ≡ called 32 w (counts f) m
  counts_below e g = sym (refused_as w (counts f) m Counts (past_counts 32 w m f ∙ rw (e, g)))

-- The average, and the outstanding count by what was found.
module _ (a : StunAgent) (l : List StunRequestState) (store m : List ℕ) (peers : List Address) (st : StunAgentStats) where
  pub counts_mean : a.stats ≡ true → (x : Option ℕ) → x ≡ average_of st
      → called_of a (answer.Average x) (noted a event.Nothing) None ≡ called 32 (world_with a l store peers st) (counts mean) m
  counts_mean e x f = ap (λ (y : Option ℕ). called_of a (answer.Average y) (noted a event.Nothing) None) f ∙ counts_on a mean l store m peers st e refl

  pub counts_settled : a.stats ≡ true → (n : ℕ) → outstanding_of st ≡ Some n
      → called_of a (answer.Outstanding n) (noted a event.Nothing) None ≡ called 32 (world_with a l store peers st) (counts unsettled) m
  counts_settled e n f =
      ap (λ (o : Option ℕ). called_of a (answer.Outstanding (outstanding_count o)) (noted a event.Nothing) None) (sym f)
      ∙ counts_on a unsettled l store m peers st e (ap is_none f)

  pub counts_unsettled : a.stats ≡ true → outstanding_of st ≡ None
      → refused_with a Counts ≡ called 32 (world_with a l store peers st) (counts unsettled) m
  counts_unsettled e f = counts_below a unsettled l store m peers st e (ap is_none f)

-- ---- the peers

module _ (a : StunAgent) (addr : Address) (x : Contact) (l : List StunRequestState) (store m : List ℕ) (peers : List Address) (st : StunAgentStats) (fits : length peers ≡ x.places) (k : known (world_with a l store peers st) addr ≡ x.known) where
  abbrev here : World
  here = world_with a l store peers st

  meets_asked : called_of a (yes_or_no x.known) (noted a event.Nothing) None ≡ called 32 here (meets addr ask) m
  meets_asked =
      sym (done_as here (meets addr ask) m keeps (yes_or_no x.known) event.Nothing None (past_meets 32 here m addr ask ∙ rw (new_is 32 here (meets addr ask) m))
      (change_meets 32 here m addr ask) (answer_meets 32 here m addr ask ∙ ap yes_or_no k) refl (new_is 32 here (meets addr ask) m))

  pub meets_yes : x.known ≡ true → called_of a answer.Yes (noted a event.Nothing) None ≡ called 32 here (meets addr ask) m
  meets_yes e = ap (λ (b : Bool). called_of a (yes_or_no b) (noted a event.Nothing) None) (sym e) ∙ meets_asked

  pub meets_no : x.known ≡ false → called_of a answer.No (noted a event.Nothing) None ≡ called 32 here (meets addr ask) m
  meets_no e = ap (λ (b : Bool). called_of a (yes_or_no b) (noted a event.Nothing) None) (sym e) ∙ meets_asked

  joins : new_peer here (meets addr validate) m ≡ cond x.known None (Some addr)
  joins = new_is 32 here (meets addr validate) m ∙ rw k

  pub meets_full : (q : Refusal) → admitted x a ≡ Err q → refused_with a q ≡ called 32 here (meets addr validate) m
  meets_full q e =
      let f = full_is x a q e in
      rw f.is (sym (refused_as here (meets addr validate) m PeersFull
      (past_meets 32 here m addr validate ∙ rw (joins, fits, by_new x.known addr false (leb x.places a.peers), f.crowd))))

  pub meets_new : (b : StunAgent) (p : Option ℕ) → admitted x a ≡ Ok (b, p) → called_of b answer.Ok (noted b event.Nothing) p ≡ called 32 here (meets addr validate) m
  meets_new b p e =
      let j = joins_is x a b p e in
      rw (j.agent_is, j.place_is, ← by_new x.known addr a.peers (a.peers + 1), ← by_new x.known addr None (Some a.peers))
      (sym (done_as here (meets addr validate) m keeps answer.Ok event.Nothing (cond x.known None (Some addr))
      (past_meets 32 here m addr validate ∙ rw (joins, fits, by_new x.known addr false (leb x.places a.peers), j.room)) (change_meets 32 here m addr validate)
      (answer_meets 32 here m addr validate) refl joins))
