-- The worked values at the limits, by computation.
use mathlib.Core.Path.{refl}
use Rattle.message.specs.Head as head
use Rattle.message.specs.Attributes as attributes
use Rattle.waits.specs.Waits as waits
use Rattle.stats.specs.Count as count
use Rattle.stats.specs.Query as figures
use Rattle.store.specs.Rows as store
use Rattle.request.specs.Times as times
use Rattle.request.specs.Request as one
use Rattle.request.specs.Limits as limits
use Rattle.requests.specs.Formed as formed
use Rattle.model.specs.World as world
use Rattle.model.specs.Accepts as accepts
use Rattle.model.specs.Refusals as refusals
use Rattle.model.specs.Effects as effects
use Rattle.model.specs.Says as says
use Rattle.model.specs.Parts as parts
use Rattle.model.specs.Fresh as fresh
use Rattle.model.specs.Worked as worked
use Rattle.specimens.specs.Edges.{Edges}

pub edges : Edges
unfolding parts.transmission_of store.part_of worked.message says.says_of world.state_formed accepts.accepts accepts.new_peer refusals.refusal_of effects.new_request effects.change_of effects.answer_of effects.event_of effects.peers_after effects.peer_count effects.after waits.within_limits waits.sum_of waits.final_wait waits.default_rto formed.formed limits.within_limits one.submitted one.stepped one.silenced one.cancelled one.configured one.transmit_of one.poll_of times.passed_all times.due_of times.end_of times.is_due times.is_over times.moment_of times.rtt_of head.key head.id_at head.class_of head.head_good head.read_head head.head_of attributes.attributes_from attributes.later attributes.walk_of attributes.message_of count.counted figures.average_of figures.outstanding_of store.in_store store.stored store.copied fresh.build_of
edges = record {
  state_is = record {
    store = refl;
    places = refl;
    counted = refl;
    mark = refl;
    count_set = refl;
    durations_within = refl;
    durations_past = refl;
    table = refl;
    ascending = refl;
    falling = refl;
    twice = refl;
    heaviest_first = refl;
    heaviest_last = refl;
    rows_apart = refl;
    row = refl;
    len = refl;
    own_count_set = refl;
    own_durations_within = refl;
    own_durations_past = refl;
    steps = refl;
    unsent = refl;
    last_send = refl;
    first_send = refl;
  };
  numbers_are = record {
    configured = refl;
    configured_within = refl;
    configured_past = refl;
    short = refl;
    short_initial = refl;
    short_last = refl;
    built_with = refl;
    built_within = refl;
    built_past = refl;
    polled_at = refl;
    transmitted_at = refl;
    submitted_at = refl;
    received_at = refl;
    submitted_length = refl;
    submitted_rubbish = refl;
    sent_length = refl;
    received_length = refl;
    good = refl;
    bad_head = refl;
    bad_attribute = refl;
    bad_for_all = refl;
    submitted_class = refl;
    sent_class = refl;
    received_class = refl;
    in_progress_lem = refl;
    sent_in_progress = refl;
    table_full_lem = refl;
    others_full = refl;
    outstanding = refl;
    not_outstanding = refl;
    new_peer_lem = refl;
    known_peer = refl;
    new_sender = refl;
    known_sender = refl;
    new_responder = refl;
    asked_peer = refl;
    stats_on = refl;
    stats_off = refl;
    below_zero = refl;
    others_below_zero = refl;
  };
  held_is = record {
    reset_off = refl;
    reset_on = refl;
    cancelled = refl;
    short_form_lem = refl;
    long_form = refl;
  };
  others_are = record {
    hour = refl;
    capped = refl;
    waits_of_lem = refl;
    waits_of_tcp = refl;
    tcp_sum = refl;
    counter_stops = refl;
    bytes_stop = refl;
  };
}
