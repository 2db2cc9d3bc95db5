-- A law for each way through `poll_transmit` and `poll`.
use Rattle.model.specs.declared.Refusal.TheVariants.{Clock}
use Rattle.model.specs.declared.Refusal.{Refusal}
use Rattle.std.specs.Prelude.{Option, None, Ok, Err}
use Prim.Native.Nat.{ℕ}
use mathlib.Core.Path.{◌≡◌, sym, ap, ◌∙◌}
use mathlib.Core.List.{List}
use Rattle.address.specs.declared.Address.{Address}
use Rattle.stats.specs.declared.StunAgentStats.{StunAgentStats}
use Rattle.request.specs.declared.StunRequestState.{StunRequestState}
use Rattle.requests.specs.Scan.{poll_all}
use Rattle.requests.specs.declared.Polled.{Polled}
use Rattle.records.specs.Live.{live}
use Rattle.table.specs.Table.{Transmits}
use Rattle.model.specs.World.{World}
use Rattle.model.specs.Calls.{Scan, scans, transmits, reports}
use Rattle.model.specs.Effects.{steps, reported, count_after, transmit_answer, transmit_event, poll_answer, poll_event}
use Rattle.model.specs.declared.StunAgent.{StunAgent}
use Rattle.model.proofs.Classes.{past_scans, new_is, change_transmits, change_reports, answer_transmits, answer_reports}
use Rattle.agent.specs.Ready.{world_of}
use Rattle.agent.specs.Called.{called_of, refused_with, noted, moved, TableAfter, Acts, at_clock}
use Rattle.agent.proofs.Model.{refuses, performs}
use Rattle.agent.proofs.Table.{late_is, in_time_is}

module _ (a : StunAgent) (t : List ℕ) (now : ℕ) (store m : List ℕ) (peers : List Address) (st : StunAgentStats) where
  abbrev w : World
  w = world_of a t store peers st

  pub scans_late : (s : Scan) (q : Refusal) → at_clock a now ≡ Err q → Acts w (scans s now) m t t (refused_with a q)
  scans_late s q e = let z = late_is a now q e in rw z.is (refuses a t store peers st (scans s now) m Clock (past_scans 32 w m s now ∙ rw z.late))

  module _ (next : StunAgent) (e : at_clock a now ≡ Ok next) where
    pub transmits_done : (t' : List ℕ) (o : Option StunRequestState) → Transmits a.transport a.requests now t o t'
        → Acts w (scans transmits now) m t t' (called_of next (transmit_answer o) (noted next (transmit_event o)) None)
    transmits_done t' o x =
        let z = in_time_is a now next e in
        rw z.agent_is (performs a t store peers st (scans transmits now) m t' (steps now) (transmit_answer o) (transmit_event o) None
        (past_scans 32 w m transmits now ∙ rw z.early) (change_transmits 32 w m now) (answer_transmits 32 w m now ∙ ap transmit_answer (sym x.says))
        (ap transmit_event (sym x.says)) (new_is 32 w (scans transmits now) m) x.then)

    pub reports_done : (t' : List ℕ) (o : Polled) → poll_all a.transport now (live a.requests t) ≡ o → TableAfter a.transport (reported o) a.requests t t'
        → Acts w (scans reports now) m t t' (called_of (moved next next.mark (count_after (reported o) next.requests) next.peers) (poll_answer o) (noted next (poll_event o)) None)
    reports_done t' o g x =
        let z = in_time_is a now next e in
        rw z.agent_is (performs a t store peers st (scans reports now) m t' (reported o) (poll_answer o) (poll_event o) None
        (past_scans 32 w m reports now ∙ rw z.early) (change_reports 32 w m now ∙ ap reported g) (answer_reports 32 w m now ∙ ap poll_answer g)
        (ap poll_event g) (new_is 32 w (scans reports now) m) x)
