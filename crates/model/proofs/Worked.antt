-- The worked values, by computation.
use mathlib.Core.Path.{refl}
use Rattle.message.specs.Head as head
use Rattle.message.specs.Attributes as attributes
use Rattle.waits.specs.Waits as waits
use Rattle.stats.specs.Count as count
use Rattle.stats.specs.Query as figures
use Rattle.store.specs.Rows as store
use Rattle.request.specs.Times as times
use Rattle.request.specs.Request as one
use Rattle.request.specs.Limits as limits
use Rattle.requests.specs.Formed as formed
use Rattle.model.specs.World as world
use Rattle.model.specs.Accepts as accepts
use Rattle.model.specs.Refusals as refusals
use Rattle.model.specs.Effects as effects
use Rattle.model.specs.Says as says
use Rattle.model.specs.Parts as parts
use Rattle.model.specs.Worked as worked
use Rattle.model.specs.Worked.{Values}

pub values : Values
unfolding parts.transmission_of store.part_of worked.message says.says_of world.state_formed accepts.accepts accepts.new_peer refusals.refusal_of effects.new_request effects.change_of effects.answer_of effects.event_of effects.peers_after effects.peer_count effects.after waits.within_limits waits.sum_of waits.final_wait waits.default_rto formed.formed limits.within_limits one.submitted one.stepped one.silenced one.cancelled one.configured one.transmit_of one.poll_of times.passed_all times.due_of times.end_of times.is_due times.is_over times.moment_of times.rtt_of head.key head.id_at head.class_of head.head_good head.read_head head.head_of attributes.attributes_from attributes.later attributes.walk_of attributes.message_of count.counted figures.average_of figures.outstanding_of store.in_store store.stored store.copied
values = record {
  example = refl;
  part = refl;
  part_of_another_row = refl;
  part_of_another_length = refl;
  part_afterwards = refl;
  unset_udp = refl;
  unset_tcp = refl;
  refused_state = refl;
  refused = refl;
  refused_counts = refl;
  silenced = refl;
  cancelled = refl;
  met = refl;
  counted = refl;
}
