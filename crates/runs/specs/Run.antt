-- A run: calls with the bytes of their messages, one after the other, from a world. When it sends a request or reports that the request
-- timed out; what it leaves is the model's `run`. Answers and worlds are those of the model's `says`.
use Rattle.std.specs.Prelude.{ℕ, Bool, true, false, cond, ◌&&◌, List, [], ◌∷◌, ◌++◌, eqb, is_none}
use Rattle.address.specs.declared.Address.{Address}
use Rattle.message.specs.Head.{key}
use Rattle.message.specs.Attributes.{message_of}
use Rattle.message.specs.declared.Message.{Message}
use Rattle.request.specs.declared.StunRequestState.{StunRequestState}
use Rattle.model.specs.World.{World}
use Rattle.model.specs.Calls.{Passage, submits, sends as sends_other, receives, Scan, transmits, reports, Wish, silence, cancel, configure, query, Kind, carries, scans, names, meets, counts, kind_of, on_some}
use Rattle.model.specs.Accepts.{is_response, accepts}
use Rattle.model.specs.Refusals.{refusal_of}
use Rattle.model.specs.Says.{Said, says_of}
use Rattle.model.specs.Runs.{Turn}
use Rattle.model.specs.declared.Answer.{Answer}
use Rattle.runs.specs.Answers.{on_transmission, timed_out_in}

-- What a call of a run is about, and what the host has after it.
abbrev pub kind_in : Turn → Kind
kind_in t = kind_of t.made

abbrev pub said : ℕ → World → Turn → Said
said rows w t = says_of rows w (kind_in t) t.bytes

-- An answer hands a request out, and hands out the one with the identifier x; reports that this one timed out. An identifier is one
-- number, by which the model tells requests apart.
abbrev pub hands_out : Answer → Bool
hands_out a = on_transmission a false (λ id row len. true)

abbrev pub hands_out_it : ℕ → Answer → Bool
hands_out_it x a = on_transmission a false (λ id row len. eqb (key id) x)

abbrev pub times_out_it : ℕ → Answer → Bool
times_out_it x a = on_some (timed_out_in a) false (λ id. eqb (key id) x)

-- The clock of a call, where the test holds.
abbrev pub noted : Bool → ℕ → List ℕ
noted b now = cond b (now ∷ []) []

-- "Sends" are the answers of `send_request` and `poll_transmit` that hand the request out; its timeout is the answer of `poll` that
-- says so. Both as clocks.
abbrev pub passage_sends : ℕ → Passage → Answer → List ℕ
passage_sends x (submits to now) a = noted (hands_out_it x a) now
passage_sends x (sends_other to) a = []
passage_sends x (receives from clock) a = []

abbrev pub scan_sends : ℕ → Scan → ℕ → Answer → List ℕ
scan_sends x transmits now a = noted (hands_out_it x a) now
scan_sends x reports now a = []

abbrev pub sends_by : ℕ → Kind → Answer → List ℕ
sends_by x (carries p) a = passage_sends x p a
sends_by x (scans s now) a = scan_sends x s now a
sends_by x (names id wish) a = []
sends_by x (meets addr m) a = []
sends_by x (counts f) a = []

abbrev pub scan_timeouts : ℕ → Scan → ℕ → Answer → List ℕ
scan_timeouts x transmits now a = []
scan_timeouts x reports now a = noted (times_out_it x a) now

abbrev pub timeouts_by : ℕ → Kind → Answer → List ℕ
timeouts_by x (carries p) a = []
timeouts_by x (scans s now) a = scan_timeouts x s now a
timeouts_by x (names id wish) a = []
timeouts_by x (meets addr m) a = []
timeouts_by x (counts f) a = []

unfoldable pub sends : ℕ → ℕ → World → List Turn → List ℕ
sends rows x w [] = []
sends rows x w (t ∷ ts) = sends_by x (kind_in t) (said rows w t).answer ++ sends rows x (said rows w t).world ts

unfoldable pub timeouts : ℕ → ℕ → World → List Turn → List ℕ
timeouts rows x w [] = []
timeouts rows x w (t ∷ ts) = timeouts_by x (kind_in t) (said rows w t).answer ++ timeouts rows x (said rows w t).world ts

-- "Answered": a response with that identifier, which the model accepts.
abbrev pub answers_to : ℕ → List StunRequestState → Address → Message → Bool
answers_to x l from y = accepts l from y && (is_response y.class && eqb (key y.transaction_id) x)

-- "Cancelled in either way, reconfigured".
abbrev pub alters : Wish → Bool
alters silence = true
alters cancel = true
alters (configure rto) = true
alters query = false

-- "Answered, cancelled in either way, reconfigured or submitted again": what a call that isn't refused does to the request x.
abbrev pub passage_handles : ℕ → World → Passage → List ℕ → Bool
passage_handles x w (submits to now) m = on_some (message_of m) false (λ y. eqb (key y.transaction_id) x)
passage_handles x w (sends_other to) m = false
passage_handles x w (receives from clock) m = on_some (message_of m) false (answers_to x w.requests from)

abbrev pub handles : ℕ → World → Kind → List ℕ → Bool
handles x w (carries p) m = passage_handles x w p m
handles x w (scans s now) m = false
handles x w (names id wish) m = alters wish && eqb (key id) x
handles x w (meets addr y) m = false
handles x w (counts f) m = false

abbrev pub handled_by : ℕ → ℕ → World → Turn → Bool
handled_by rows x w t = is_none (refusal_of rows w (kind_in t) t.bytes) && handles x w (kind_in t) t.bytes
