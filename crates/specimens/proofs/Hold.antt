-- Every specimen holds, by computing the definitions.
use mathlib.Core.Path.{refl}
use mathlib.Core.List.{◌++◌}
use Rattle.message.specs.Head.{id_at, class_of, head_good, read_head, head_of}
use Rattle.message.specs.Attributes.{attributes_from, later, walk_of, message_of}
use Rattle.waits.specs.Waits.{default_rto, within_limits, sum_of, final_wait}
use Rattle.request.specs.Times.{passed_all, due_of, end_of, is_due, is_over, moment_of}
use Rattle.request.specs.Request.{submitted, stepped, transmit_of, poll_of}
use Rattle.specimens.specs.Specimens.{AllHold, first_waits, bytes_of, attribute, specimens, attributes}

pub hold : AllHold (specimens ++ attributes)
unfolding specimens attributes first_waits bytes_of attribute default_rto within_limits sum_of final_wait message_of head_of head_good read_head id_at class_of walk_of attributes_from later submitted stepped transmit_of poll_of is_due is_over moment_of passed_all due_of end_of
hold =
    (refl, (refl, (refl, (refl, (refl, (refl, (refl, (refl, (refl, (refl, (refl, (refl, (refl, (refl, (refl, (refl, (refl, (refl, (refl, (refl, (refl, (refl, (refl, (refl, (refl, tt)))))))))))))))))))))))))
