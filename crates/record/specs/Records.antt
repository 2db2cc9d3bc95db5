-- Records of a trace, as functions of the bytes that are left of it: document 01, "Replay program".
use Rattle.std.specs.Prelude.{ℕ, ◌+◌, List, Bool, true, cond, ◌&&◌, ◌||◌, length, get_or, take, drop, ltb, leb, eqb, Option, None, Some}
use Rattle.wire.specs.Wire.{be16, be32, be64}
use Rattle.address.specs.declared.Host.TheVariants.{V4, V6}
use Rattle.address.specs.declared.Address.{Address}
use Rattle.message.specs.Head.{id_at}
use Rattle.waits.specs.declared.RequestRto.{RequestRto}
use Rattle.waits.specs.declared.Transport.{Transport}
use Rattle.waits.specs.declared.Transport.TheVariants.{Udp, Tcp}
use Rattle.model.specs.declared.StunAgentBuilder.{StunAgentBuilder}
use Rattle.model.specs.declared.Call.{Call}
use Rattle.model.specs.declared.Call.TheVariants.{SendRequest, Send, HandleStunMessageWithTime, HandleStunMessage, PollTransmit, Poll, CancelRetransmissions, Cancel, ConfigureTimeoutWithMax, IsValidatedPeer, ValidatedPeer, Stats, Reset, RequestTransaction}
use Rattle.record.specs.declared.Body.{Body}
use Rattle.record.specs.declared.Body.TheVariants.{Settings, Asks}
use Rattle.record.specs.declared.Record.{Record}
use Rattle.record.specs.declared.Record.TheVariants.{Settings as Fresh, Whole}

-- "initial 8, max 8, R 4, final 8"
unfoldable pub rto_at : List ℕ → ℕ → RequestRto
rto_at s i = record { initial = be64 s i; max = be64 s (i + 8); retransmits = be32 s (i + 16); last_retransmit = be64 s (i + 20) }

-- "IPv4 in the first four, the rest zero"; flow and scope "both zero for IPv4"
unfoldable pub free_zero : List ℕ → ℕ → Bool
free_zero s i = eqb (be64 s (i + 7)) 0 && (eqb (be32 s (i + 15)) 0 && eqb (be64 s (i + 19)) 0)

-- "Address: 4 or 6, port 2 bytes, address 16, flow 4, scope 4"
unfoldable pub address_at : List ℕ → ℕ → Option Address
address_at s i =
    cond (eqb (get_or s i 0) 4) (cond (free_zero s i) (Some (record { host = V4 (be32 s (i + 3)); port = be16 s (i + 1) })) None)
    (cond (eqb (get_or s i 0) 6)
    (Some (record { host = V6 (be64 s (i + 3)) (be64 s (i + 11)) (be32 s (i + 19)) (be32 s (i + 23)); port = be16 s (i + 1) }))
    None)

-- A body with an address: the call that it makes, and the place behind its fixed part, which counts from the start of the record.
abbrev pub with_address : Option Address → (Address → Call) → ℕ → Option Body
with_address (Some a) f n = Some (Asks (f a) n)
with_address None f n = None

-- "transport 0 UDP or 1 TCP"
abbrev pub transport_of : ℕ → Transport
transport_of n = cond (eqb n 1) Tcp Udp

abbrev pub builder_of : List ℕ → StunAgentBuilder
builder_of s = record { transport = transport_of (get_or s 0 0); rto = rto_at s 2; stats = eqb (get_or s 1 0) 1 }

-- "1 settings (transport 0 UDP or 1 TCP, statistics 0 or 1, initial 8, max 8, R 4, final 8)"
unfoldable pub settings_of : List ℕ → Option Body
settings_of s = cond (eqb (length s) 30 && (leb (get_or s 0 0) 1 && leb (get_or s 1 0) 1)) (Some (Settings (builder_of s))) None

-- "2 request (clock 8, address, message)", "4 received (clock, address, message)"
unfoldable pub timed_of : ℕ → List ℕ → Option Body
timed_of k s =
    cond (leb 35 (length s))
    (with_address (address_at s 8) (λ a. cond (eqb k 2) (SendRequest a (be64 s 0)) (HandleStunMessageWithTime a (be64 s 0))) 40)
    None

-- "3 send (address, message)", "5 received (address, message)"
unfoldable pub untimed_of : ℕ → List ℕ → Option Body
untimed_of k s = cond (leb 27 (length s)) (with_address (address_at s 0) (λ a. cond (eqb k 3) (Send a) (HandleStunMessage a)) 32) None

-- "6 poll_transmit (clock); 7 poll (clock)"
unfoldable pub clock_of : ℕ → List ℕ → Option Body
clock_of k s = cond (eqb (length s) 8) (Some (Asks (cond (eqb k 6) (PollTransmit (be64 s 0)) (Poll (be64 s 0))) 13)) None

-- "8 cancel retransmissions and 9 cancel (identifier)", "15 query (identifier)"
unfoldable pub named_of : ℕ → List ℕ → Option Body
named_of k s =
    cond (eqb (length s) 12)
    (Some (Asks (cond (eqb k 8) (CancelRetransmissions (id_at s 0)) (cond (eqb k 9) (Cancel (id_at s 0)) (RequestTransaction (id_at s 0)))) 17))
    None

-- "10 configure (identifier, initial, max, R, final)"
unfoldable pub configure_of : List ℕ → Option Body
configure_of s = cond (eqb (length s) 40) (Some (Asks (ConfigureTimeoutWithMax (id_at s 0) (rto_at s 12)) 45)) None

-- "11 is peer valid and 12 validate peer (address)"
unfoldable pub peer_of : ℕ → List ℕ → Option Body
peer_of k s = cond (eqb (length s) 27) (with_address (address_at s 0) (λ a. cond (eqb k 11) (IsValidatedPeer a) (ValidatedPeer a)) 32) None

-- "13 statistics; 14 reset"
unfoldable pub plain_of : ℕ → List ℕ → Option Body
plain_of k s = cond (eqb (length s) 0) (Some (Asks (cond (eqb k 13) Stats Reset) 5)) None

unfoldable pub body_of : ℕ → List ℕ → Option Body
body_of k s =
    cond (eqb k 1) (settings_of s)
    (cond (eqb k 2 || eqb k 4) (timed_of k s)
    (cond (eqb k 3 || eqb k 5) (untimed_of k s)
    (cond (eqb k 6 || eqb k 7) (clock_of k s)
    (cond (eqb k 8 || (eqb k 9 || eqb k 15)) (named_of k s)
    (cond (eqb k 10) (configure_of s)
    (cond (eqb k 11 || eqb k 12) (peer_of k s)
    (cond (eqb k 13 || eqb k 14) (plain_of k s) None)))))))

-- "the two-byte mark A5 5A, a kind byte, a two-byte body length (at most 4,096) and the body"
unfoldable pub framed : List ℕ → Bool
framed s = leb 5 (length s) && (eqb (be16 s 0) 0xa55a && (leb (be16 s 3) 4096 && leb (5 + be16 s 3) (length s)))

abbrev pub from_body : ℕ → Option Body → Option Record
from_body n (Some (Settings b)) = Some (Fresh b (5 + n))
from_body n (Some (Asks call start)) = Some (Whole call start (5 + n))
from_body n None = None

unfoldable pub record_of : List ℕ → Option Record
record_of s = cond (framed s) (from_body (be16 s 3) (body_of (get_or s 2 0) (take (be16 s 3) (drop 5 s)))) None

-- More bytes are needed for the head, or for the body that the head announces.
unfoldable pub short_of : List ℕ → Bool
short_of s = cond (ltb (length s) 5) true (ltb (length s) (5 + be16 s 3))
