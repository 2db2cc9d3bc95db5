-- The whole example of document 01 gives the document's lines, by computation.
use mathlib.Core.Path.{◌≡◌, refl}
use Rattle.message.specs.Head as head
use Rattle.message.specs.Attributes as attributes
use Rattle.waits.specs.Waits as waits
use Rattle.stats.specs.Count as count
use Rattle.store.specs.Rows as store
use Rattle.request.specs.Times as times
use Rattle.request.specs.Request as one
use Rattle.request.specs.Limits as limits
use Rattle.requests.specs.Formed as formed
use Rattle.model.specs.World as world
use Rattle.model.specs.Accepts as accepts
use Rattle.model.specs.Refusals as refusals
use Rattle.model.specs.Effects as effects
use Rattle.model.specs.Fresh as fresh
use Rattle.model.specs.Says as says
use Rattle.record.specs.Records as records
use Rattle.line.specs.Lines as lines
use Rattle.replay.specs.Runs as runs
use Rattle.replay.specs.Runs.{lines_of}
use Rattle.replay.specs.Example as example
use Rattle.replay.specs.Example.{trace, text}

pub holds : lines_of trace ≡ text
unfolding example.trace runs.lines_of runs.steps_of runs.steps_in runs.first_world runs.numbered runs.turn_of records.record_of records.framed records.body_of records.settings_of records.timed_of records.untimed_of records.clock_of records.named_of records.configure_of records.peer_of records.plain_of records.address_at records.free_zero records.rto_at lines.line_of lines.reply_text lines.answer_text lines.stats_text lines.rtt_text lines.field_of lines.id_text lines.decimal_of lines.decimal_in lines.digits fresh.build_of says.says_of world.state_formed accepts.accepts accepts.new_peer refusals.refusal_of effects.new_request effects.change_of effects.answer_of effects.event_of effects.peers_after effects.peer_count effects.after waits.within_limits waits.sum_of waits.final_wait waits.default_rto formed.formed limits.within_limits one.submitted one.stepped one.transmit_of one.poll_of times.passed_all times.due_of times.end_of times.is_due times.is_over times.moment_of head.key head.id_at head.class_of head.head_good head.read_head head.head_of attributes.attributes_from attributes.later attributes.walk_of attributes.message_of count.counted store.in_store store.stored store.copied
holds = refl
