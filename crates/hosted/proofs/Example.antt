-- The session that meets all that is asked of one with a request in it, by computation.
use mathlib.Core.Path.{◌≡◌, refl, ap}
use mathlib.Core.List.{List, [], ◌∷◌}
use native.Mathlib.Omega.{arith}
use lib.ListN.{length}
use Rattle.message.specs.Head as head
use Rattle.message.specs.Attributes as attributes
use Rattle.waits.specs.Waits as waits
use Rattle.waits.specs.Waits.{milliseconds}
use Rattle.waits.specs.declared.Transport.TheVariants.{Udp}
use Rattle.stats.specs.Count as count
use Rattle.stats.specs.Count.{zeroed}
use Rattle.stats.specs.declared.Event.TheVariants as event
use Rattle.store.specs.Rows as store
use Rattle.request.specs.Times as times
use Rattle.request.specs.Request as request
use Rattle.request.specs.Limits as limits
use Rattle.request.specs.declared.StunRequestState.{StunRequestState}
use Rattle.requests.specs.Formed as formed
use Rattle.rows.specs.Rows as rows
use Rattle.records.specs.Coding as coding
use Rattle.records.specs.Coding.{size}
use Rattle.records.specs.Live.{live}
use Rattle.model.specs.World as world
use Rattle.model.specs.Accepts as accepts
use Rattle.model.specs.Refusals as refusals
use Rattle.model.specs.Effects as effects
use Rattle.model.specs.Worked as worked
use Rattle.agent.specs.Said as said
use Rattle.agent.specs.Said.{said_in, words_in}
use Rattle.model.specs.Fresh as fresh
use Rattle.model.specs.Fresh.{unset}
use Rattle.model.specs.Worked.{peer, ending}
use Rattle.model.specs.Runs.{Turn}
use Rattle.model.specs.declared.Answer.TheVariants as answer
use Rattle.runs.specs.Run.{kind_in}
use Rattle.runs.specs.Round.{transmission, poll, plays}
use Rattle.runs.specs.Demand.{submits}
use Rattle.agent.specs.Ready.{world_with}
use Rattle.hosted.specs.Session.{Owned, world_in, Opens, Calls, rests, then_call, Submitted}
use Rattle.hosted.specs.Rounds.{none_left, told_to_wait, ends, then_round, Plays}
use Rattle.hosted.specs.Example.{after, answer_to, begun, asked, round, response, sent, transmitted, polled, Values}
use Rattle.hosted.proofs.Unset.{unset_waits}
use Rattle.hosted.proofs.Row.{row_kept}

-- To unfold this is to unfold all that its line names.
unfoldable opened : Unit {0}
unfolding fresh.build_of said.refusal_in said.said_in said.words_in rows.with_rows coding.decode_by coding.decode coding.encode worked.message world.state_formed accepts.accepts accepts.new_peer refusals.refusal_of effects.new_request effects.change_of effects.answer_of effects.event_of effects.peers_after effects.peer_count effects.after waits.within_limits waits.final_wait waits.default_rto formed.formed limits.within_limits request.submitted request.stepped request.transmit_of request.poll_of times.passed_all times.due_of times.end_of times.is_due times.is_over times.moment_of head.key head.id_at head.class_of head.head_good head.read_head head.head_of attributes.attributes_from attributes.later attributes.walk_of attributes.message_of count.counted store.in_store store.stored store.copied
opened = tt

called : (o : Owned) (t : Turn)
    → live (after o t).agent.requests (after o t).table ≡ (said_in o.table (world_in o) (kind_in t) t.bytes).world.requests
    → length (after o t).table ≡ length o.table → Calls o t (answer_to o t) (after o t)
called o t e n =
    let s = said_in o.table (world_in o) (kind_in t) t.bytes in
    record {
      performed = record {
        says = ap (λ (l : List StunRequestState). record {
          answer = s.answer;
          world = world_with s.world.agent l s.world.store s.world.peers s.world.stats;
        }) e;
        words = refl;
      };
      same_length = n;
    }

opens : Opens (unset Udp) zeroed begun
unfolding opened
opens =
    let n : length begun.table ≡ size = refl in
    record { event = event.Nothing; started = record { says = refl; records = refl }; whole = omega (arith, n) }

submitted : Submitted 1 (unset Udp) zeroed begun [] asked round
unfolding opened
submitted = record {
  earlier = [];
  here = begun;
  session = record { opens = opens; serves = rests };
  answer = answer.Send (ending 1) (peer 9) 0 20;
  next = sent;
  call = called begun (submits asked) refl refl;
  accepted = refl;
  replies = answer.None ∷ answer.Wait (milliseconds 500) ∷ [];
  last = polled;
  serves = then_call (called sent (transmission 0) refl refl) (then_call (called transmitted (poll 0) refl refl) rests);
}

played : Plays submitted [] (plays 0 ∷ [])
unfolding submitted
played = record {
  steady = (omega arith, omega arith, (omega arith, omega arith, tt));
  played_before = ends;
  played_later = then_round none_left told_to_wait ends;
  alone = (refl, (refl, tt));
}

pub values : Values
unfolding opened submitted
values = record {
  session = submitted;
  plays_rounds = played;
  answer_is = refl;
  replies_are = refl;
  waits = unset_waits 1 (unset Udp) zeroed begun [] asked round submitted [] (plays 0 ∷ []) played refl refl;
  keeps_its_row = row_kept 1 (unset Udp) zeroed begun [] asked round submitted (ending 1) (peer 9) 0 20 refl (refl, refl, (refl, refl, tt));
  yes = called polled response refl refl;
}
