-- What an answer says to the host: that a message was accepted, which request it hands out, and which it reports.
use Rattle.std.specs.Prelude.{ℕ, Bool, true, false, Option, None, Some}
use Rattle.message.specs.declared.TransactionId.{TransactionId}
use Rattle.model.specs.declared.Answer.{Answer}
use Rattle.model.specs.declared.Answer.TheVariants as answer

abbrev pub is_yes : Answer → Bool
is_yes (answer.Refused q) = false
is_yes answer.Ok = false
is_yes answer.Yes = true
is_yes answer.No = false
is_yes answer.None = false
is_yes (answer.Send id to row len) = false
is_yes (answer.Wait clock) = false
is_yes (answer.TimedOut id) = false
is_yes (answer.Cancelled id) = false
is_yes (answer.Stats s) = false
is_yes (answer.Average a) = false
is_yes (answer.Outstanding n) = false
is_yes (answer.Request to integrity) = false

-- A choice by the transmission that an answer hands out: identifier, row and length.
abbrev pub on_transmission : {B : Type 0} → Answer → B → (TransactionId → ℕ → ℕ → B) → B
on_transmission (answer.Refused q) b f = b
on_transmission answer.Ok b f = b
on_transmission answer.Yes b f = b
on_transmission answer.No b f = b
on_transmission answer.None b f = b
on_transmission (answer.Send id to row len) b f = f id row len
on_transmission (answer.Wait clock) b f = b
on_transmission (answer.TimedOut id) b f = b
on_transmission (answer.Cancelled id) b f = b
on_transmission (answer.Stats s) b f = b
on_transmission (answer.Average a) b f = b
on_transmission (answer.Outstanding n) b f = b
on_transmission (answer.Request to integrity) b f = b

-- The request that is reported timed out.
abbrev pub timed_out_in : Answer → Option TransactionId
timed_out_in (answer.Refused q) = None
timed_out_in answer.Ok = None
timed_out_in answer.Yes = None
timed_out_in answer.No = None
timed_out_in answer.None = None
timed_out_in (answer.Send id to row len) = None
timed_out_in (answer.Wait clock) = None
timed_out_in (answer.TimedOut id) = Some id
timed_out_in (answer.Cancelled id) = None
timed_out_in (answer.Stats s) = None
timed_out_in (answer.Average a) = None
timed_out_in (answer.Outstanding n) = None
timed_out_in (answer.Request to integrity) = None

-- The request that is reported cancelled.
abbrev pub cancelled_in : Answer → Option TransactionId
cancelled_in (answer.Refused q) = None
cancelled_in answer.Ok = None
cancelled_in answer.Yes = None
cancelled_in answer.No = None
cancelled_in answer.None = None
cancelled_in (answer.Send id to row len) = None
cancelled_in (answer.Wait clock) = None
cancelled_in (answer.TimedOut id) = None
cancelled_in (answer.Cancelled id) = Some id
cancelled_in (answer.Stats s) = None
cancelled_in (answer.Average a) = None
cancelled_in (answer.Outstanding n) = None
cancelled_in (answer.Request to integrity) = None
