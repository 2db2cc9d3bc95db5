-- The calls in five classes, by what they are about: a message, the passing of time, one request, a peer, the statistics. The tests and
-- effects of the model are functions of the class.
use Rattle.std.specs.Prelude.{ℕ, ◌^◌, Option, None, Some}
use Rattle.address.specs.declared.Address.{Address}
use Rattle.message.specs.declared.TransactionId.{TransactionId}
use Rattle.waits.specs.declared.RequestRto.{RequestRto}
use Rattle.model.specs.declared.Call.{Call}
use Rattle.model.specs.declared.Call.TheVariants as call

-- A message is submitted as a request at a clock, sent as something else, or was received from a peer, with a clock or without.
pub data Passage : Type 0 where
  submits : Address → ℕ → Passage
  sends : Address → Passage
  receives : Address → Option ℕ → Passage

-- `poll_transmit` and `poll`.
pub data Scan : Type 0 where
  transmits : Scan
  reports : Scan

-- What is asked for a request: "cancel retransmissions", "cancel", "configure", or "query (address and integrity)".
pub data Wish : Type 0 where
  silence : Wish
  cancel : Wish
  configure : RequestRto → Wish
  query : Wish

-- `is_validated_peer` and `validated_peer`.
pub data Meeting : Type 0 where
  ask : Meeting
  validate : Meeting

-- What the statistics are asked for: the record, the average, the outstanding count; or to start anew.
pub data Figure : Type 0 where
  numbers : Figure
  mean : Figure
  unsettled : Figure
  anew : Figure

pub data Kind : Type 0 where
  carries : Passage → Kind
  scans : Scan → ℕ → Kind
  names : TransactionId → Wish → Kind
  meets : Address → Meeting → Kind
  counts : Figure → Kind

-- Configure's "short form takes 2^61 as maximum".
abbrev pub short_form : ℕ → ℕ → ℕ → RequestRto
short_form initial retransmits last = record { initial = initial; max = 2 ^ 61; retransmits = retransmits; last_retransmit = last }

abbrev pub kind_of : Call → Kind
kind_of (call.SendRequest to now) = carries (submits to now)
kind_of (call.Send to) = carries (sends to)
kind_of (call.HandleStunMessageWithTime from now) = carries (receives from (Some now))
kind_of (call.HandleStunMessage from) = carries (receives from None)
kind_of (call.PollTransmit now) = scans transmits now
kind_of (call.Poll now) = scans reports now
kind_of (call.CancelRetransmissions id) = names id silence
kind_of (call.Cancel id) = names id cancel
kind_of (call.ConfigureTimeout id initial retransmits last) = names id (configure (short_form initial retransmits last))
kind_of (call.ConfigureTimeoutWithMax id rto) = names id (configure rto)
kind_of (call.RequestTransaction id) = names id query
kind_of (call.IsValidatedPeer addr) = meets addr ask
kind_of (call.ValidatedPeer addr) = meets addr validate
kind_of call.Stats = counts numbers
kind_of call.RttAverage = counts mean
kind_of call.OutstandingRequests = counts unsettled
kind_of call.Reset = counts anew

-- The clock that a call carries.
abbrev pub passage_clock : Passage → Option ℕ
passage_clock (submits to now) = Some now
passage_clock (sends to) = None
passage_clock (receives from clock) = clock

abbrev pub clock_of : Kind → Option ℕ
clock_of (carries p) = passage_clock p
clock_of (scans s now) = Some now
clock_of (names id wish) = None
clock_of (meets addr m) = None
clock_of (counts f) = None

-- The settings that it carries.
abbrev pub wish_settings : Wish → Option RequestRto
wish_settings silence = None
wish_settings cancel = None
wish_settings (configure rto) = Some rto
wish_settings query = None

abbrev pub settings_of : Kind → Option RequestRto
settings_of (carries p) = None
settings_of (scans s now) = None
settings_of (names id wish) = wish_settings wish
settings_of (meets addr m) = None
settings_of (counts f) = None

-- The identifier that it names.
abbrev pub id_of : Kind → Option TransactionId
id_of (carries p) = None
id_of (scans s now) = None
id_of (names id wish) = Some id
id_of (meets addr m) = None
id_of (counts f) = None

-- The address that it carries.
abbrev pub passage_address : Passage → Address
passage_address (submits to now) = to
passage_address (sends to) = to
passage_address (receives from clock) = from

abbrev pub address_of : Kind → Option Address
address_of (carries p) = Some (passage_address p)
address_of (scans s now) = None
address_of (names id wish) = None
address_of (meets addr m) = Some addr
address_of (counts f) = None

-- How its message passes.
abbrev pub passage_of : Kind → Option Passage
passage_of (carries p) = Some p
passage_of (scans s now) = None
passage_of (names id wish) = None
passage_of (meets addr m) = None
passage_of (counts f) = None

-- What it asks of the statistics.
abbrev pub figure_of : Kind → Option Figure
figure_of (carries p) = None
figure_of (scans s now) = None
figure_of (names id wish) = None
figure_of (meets addr m) = None
figure_of (counts f) = Some f

-- A choice by what may be absent.
abbrev pub on_some : {A B : Type 0} → Option A → B → (A → B) → B
on_some None b f = b
on_some (Some a) b f = f a
