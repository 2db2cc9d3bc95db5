-- What a call does that isn't refused: document 01, "Waits and one request" and "The agent". Answer, requests, event, store and peers
-- apart; `after` puts them together.
use Rattle.std.specs.Prelude.{ℕ, ◌+◌, ◌-◌, Bool, cond, List, length, set, Option, None, Some}
use Rattle.rows.specs.Lists.{remove_at}
use Rattle.address.specs.declared.Address.{Address}
use Rattle.message.specs.Head.{key}
use Rattle.message.specs.Attributes.{message_of}
use Rattle.message.specs.declared.MessageClass.{MessageClass}
use Rattle.message.specs.declared.MessageClass.TheVariants.{Request, Indication, Success, Error}
use Rattle.message.specs.declared.Message.{Message}
use Rattle.waits.specs.declared.Transport.{Transport}
use Rattle.stats.specs.Count.{counted}
use Rattle.stats.specs.Query.{average_of, outstanding_of, outstanding_count}
use Rattle.stats.specs.declared.Event.{Event}
use Rattle.stats.specs.declared.Event.TheVariants as event
use Rattle.store.specs.Rows.{copied}
use Rattle.request.specs.Times.{rtt_of}
use Rattle.request.specs.Request.{submitted, silenced, cancelled, configured}
use Rattle.request.specs.declared.StunRequestState.{StunRequestState}
use Rattle.requests.specs.Search.{lookup, added, free_row}
use Rattle.requests.specs.Scan.{walk, poll_all}
use Rattle.requests.specs.declared.Polled.{Polled}
use Rattle.requests.specs.declared.Polled.TheVariants.{TimedOut, Cancelled, WaitUntil}
use Rattle.model.specs.World.{World, known}
use Rattle.model.specs.Calls.{Passage, submits, sends, receives, Scan, transmits, reports, Wish, silence, cancel, configure, query, Meeting, ask, validate, Figure, numbers, mean, unsettled, anew, Kind, carries, scans, names, meets, counts, clock_of, on_some}
use Rattle.model.specs.Accepts.{is_response, accepts, new_peer}
use Rattle.model.specs.declared.StunAgent.{StunAgent}
use Rattle.model.specs.declared.Answer.{Answer}
use Rattle.model.specs.declared.Answer.TheVariants as answer

-- A choice by the request that was found, with its place.
abbrev pub on_found : {B : Type 0} → Option (ℕ × StunRequestState) → B → (ℕ → StunRequestState → B) → B
on_found (Some (place, r)) b f = f place r
on_found None b f = b

-- ---- the outstanding requests

-- What a call does to the list of requests: nothing, a new one, one taken out, another record of one, or the scan of `poll_transmit`.
pub data Change : Type 0 where
  keeps : Change
  adds : StunRequestState → Change
  removes : ℕ → Change
  sets : ℕ → StunRequestState → Change
  steps : ℕ → Change

abbrev pub changed : Transport → Change → List StunRequestState → List StunRequestState
changed t keeps l = l
changed t (adds r) l = added r l
changed t (removes i) l = remove_at l i
changed t (sets i r) l = set l i r
changed t (steps now) l = (walk t now l).after

abbrev pub count_after : Change → ℕ → ℕ
count_after keeps n = n
count_after (adds r) n = n + 1
count_after (removes i) n = n - 1
count_after (sets i r) n = n
count_after (steps now) n = n

-- The request that `send_request` adds: it "takes the lowest free" row, and has the agent's settings.
unfoldable pub new_request : ℕ → World → Address → ℕ → List ℕ → Option StunRequestState
new_request rows w to now m =
    on_some (message_of m) None (λ x.
    on_some (free_row rows w.requests) None (λ row.
    Some (submitted now x.transaction_id x.integrity row (length m) to w.agent.rto)))

abbrev pub taken : Option (ℕ × StunRequestState) → Change
taken f = on_found f keeps (λ place r. removes place)

-- "A received response takes its request out if the identifier is outstanding"; "if not outstanding: not accepted". A received request
-- or indication touches no request.
abbrev pub answered : List StunRequestState → Address → Message → Change
answered l from x =
    cond (accepts l from x) (cond (is_response x.class) (taken (lookup (key x.transaction_id) l)) keeps) keeps

abbrev pub passage_change : ℕ → World → List ℕ → Passage → Change
passage_change rows w m (submits to now) = on_some (new_request rows w to now m) keeps adds
passage_change rows w m (sends to) = keeps
passage_change rows w m (receives from clock) = on_some (message_of m) keeps (answered w.requests from)

-- `poll` "answers with the first request in identifier order that timed out or was cancelled, and removes it".
abbrev pub reported : Polled → Change
reported (TimedOut place id) = removes place
reported (Cancelled place id) = removes place
reported (WaitUntil clock) = keeps

abbrev pub scan_change : World → Scan → ℕ → Change
scan_change w transmits now = steps now
scan_change w reports now = reported (poll_all w.agent.transport now w.requests)

abbrev pub wished : Wish → ℕ → StunRequestState → Change
wished silence place r = sets place (silenced r)
wished cancel place r = sets place (cancelled r)
wished (configure rto) place r = sets place (configured rto r)
wished query place r = keeps

unfoldable pub change_of : ℕ → World → Kind → List ℕ → Change
change_of rows w (carries p) m = passage_change rows w m p
change_of rows w (scans s now) m = scan_change w s now
change_of rows w (names id wish) m = on_found (lookup (key id) w.requests) keeps (wished wish)
change_of rows w (meets a x) m = keeps
change_of rows w (counts f) m = keeps

-- ---- the answer

-- "A transmission becomes an answer with identifier, address, row and length."
abbrev pub handed_out : StunRequestState → Answer
handed_out r = answer.Send r.transaction_id r.to r.row r.len

abbrev pub yes_or_no : Bool → Answer
yes_or_no b = cond b answer.Yes answer.No

-- "`send_request` stores the bytes and hands out the first transmission itself."
abbrev pub passage_answer : ℕ → World → List ℕ → Passage → Answer
passage_answer rows w m (submits to now) = on_some (new_request rows w to now m) answer.None handed_out
passage_answer rows w m (sends to) = answer.Ok
passage_answer rows w m (receives from clock) =
    on_some (message_of m) answer.No (λ x. yes_or_no (accepts w.requests from x))

abbrev pub transmit_answer : Option StunRequestState → Answer
transmit_answer (Some r) = handed_out r
transmit_answer None = answer.None

abbrev pub poll_answer : Polled → Answer
poll_answer (TimedOut place id) = answer.TimedOut id
poll_answer (Cancelled place id) = answer.Cancelled id
poll_answer (WaitUntil clock) = answer.Wait clock

abbrev pub scan_answer : World → Scan → ℕ → Answer
scan_answer w transmits now = transmit_answer (walk w.agent.transport now w.requests).out
scan_answer w reports now = poll_answer (poll_all w.agent.transport now w.requests)

-- "query (address and integrity)"
abbrev pub wish_answer : Wish → StunRequestState → Answer
wish_answer silence r = answer.Ok
wish_answer cancel r = answer.Ok
wish_answer (configure rto) r = answer.Ok
wish_answer query r = answer.Request r.to r.request_integrity

abbrev pub meeting_answer : World → Address → Meeting → Answer
meeting_answer w a ask = yes_or_no (known w a)
meeting_answer w a validate = answer.Ok

abbrev pub figure_answer : World → Figure → Answer
figure_answer w numbers = answer.Stats w.stats
figure_answer w mean = answer.Average (average_of w.stats)
figure_answer w unsettled = answer.Outstanding (outstanding_count (outstanding_of w.stats))
figure_answer w anew = answer.Ok

unfoldable pub answer_of : ℕ → World → Kind → List ℕ → Answer
answer_of rows w (carries p) m = passage_answer rows w m p
answer_of rows w (scans s now) m = scan_answer w s now
answer_of rows w (names id wish) m = on_found (lookup (key id) w.requests) answer.None (λ place r. wish_answer wish r)
answer_of rows w (meets a x) m = meeting_answer w a x
answer_of rows w (counts f) m = figure_answer w f

-- ---- the statistics

-- `send` counts an indication or a response, and its bytes.
abbrev pub sent_as : ℕ → MessageClass → Event
sent_as n Request = event.Nothing
sent_as n Indication = event.IndicationSent n
sent_as n Success = event.ResponseSent n
sent_as n Error = event.ResponseSent n

-- "RTT is now minus last send, counted only with a clock and step count 0."
abbrev pub rtt_at : Option ℕ → Option (ℕ × StunRequestState) → Option ℕ
rtt_at clock f = on_some clock None (λ now. on_found f None (λ place r. rtt_of now r))

abbrev pub received_as : ℕ → Option ℕ → MessageClass → Event
received_as n rtt Request = event.RequestReceived n
received_as n rtt Indication = event.IndicationReceived n
received_as n rtt Success = event.ResponseReceived n rtt
received_as n rtt Error = event.ResponseReceived n rtt

abbrev pub passage_event : World → List ℕ → Passage → Event
passage_event w m (submits to now) = event.RequestSent (length m)
passage_event w m (sends to) = on_some (message_of m) event.Nothing (λ x. sent_as (length m) x.class)
passage_event w m (receives from clock) =
    on_some (message_of m) event.Nothing (λ x.
    cond (accepts w.requests from x)
    (received_as (length m) (rtt_at clock (lookup (key x.transaction_id) w.requests)) x.class)
    event.Nothing)

-- "Later sends count bytes only."
abbrev pub transmit_event : Option StunRequestState → Event
transmit_event (Some r) = event.RetransmitBytes r.len
transmit_event None = event.Nothing

-- "Cancelled counts when poll reports it."
abbrev pub poll_event : Polled → Event
poll_event (TimedOut place id) = event.TimedOut
poll_event (Cancelled place id) = event.Cancelled
poll_event (WaitUntil clock) = event.Nothing

abbrev pub scan_event : World → Scan → ℕ → Event
scan_event w transmits now = transmit_event (walk w.agent.transport now w.requests).out
scan_event w reports now = poll_event (poll_all w.agent.transport now w.requests)

abbrev pub figure_event : Figure → Event
figure_event numbers = event.Nothing
figure_event mean = event.Nothing
figure_event unsettled = event.Nothing
figure_event anew = event.Reset

abbrev pub event_by : World → Kind → List ℕ → Event
event_by w (carries p) m = passage_event w m p
event_by w (scans s now) m = scan_event w s now
event_by w (names id wish) m = event.Nothing
event_by w (meets a x) m = event.Nothing
event_by w (counts f) m = figure_event f

-- "Statistics are optional": none while off.
unfoldable pub event_of : World → Kind → List ℕ → Event
event_of w k m = cond w.agent.stats (event_by w k m) event.Nothing

-- ---- store and peers

-- "Its bytes go to the row's start; nothing else in the store changes, nor in any other call."
abbrev pub stored_by : ℕ → List ℕ → List ℕ → Change → List ℕ
stored_by rows store m keeps = store
stored_by rows store m (adds r) = copied rows store r.row m
stored_by rows store m (removes i) = store
stored_by rows store m (sets i r) = store
stored_by rows store m (steps now) = store

-- "A new peer goes behind the last one": its place in the list, whose length stands for no new peer.
unfoldable pub peer_place : World → Kind → List ℕ → ℕ
peer_place w k m = on_some (new_peer w k m) (length w.peers) (λ a. w.agent.peers)

unfoldable pub peers_after : World → Kind → List ℕ → List Address
peers_after w k m = on_some (new_peer w k m) w.peers (λ a. set w.peers w.agent.peers a)

unfoldable pub peer_count : World → Kind → List ℕ → ℕ
peer_count w k m = on_some (new_peer w k m) w.agent.peers (λ a. w.agent.peers + 1)

-- ---- the world afterwards

-- "The highest clock that an unrefused call carried."
abbrev pub mark_after : World → Kind → ℕ
mark_after w k = on_some (clock_of k) w.agent.mark (λ now. now)

abbrev pub agent_after : World → Kind → List ℕ → Change → StunAgent
agent_after w k m c = record {
  transport = w.agent.transport;
  stats = w.agent.stats;
  rto = w.agent.rto;
  mark = mark_after w k;
  requests = count_after c w.agent.requests;
  peers = peer_count w k m;
}

abbrev pub after_by : ℕ → World → Kind → List ℕ → Change → World
after_by rows w k m c = record {
  agent = agent_after w k m c;
  requests = changed w.agent.transport c w.requests;
  store = stored_by rows w.store m c;
  peers = peers_after w k m;
  stats = counted (event_of w k m) w.stats;
}

unfoldable pub after : ℕ → World → Kind → List ℕ → World
after rows w k m = after_by rows w k m (change_of rows w k m)
