-- A request as the words of a row, and back. Any words are some request's.
use Rattle.request.specs.Times.{sent_times}
use Rattle.message.specs.declared.IntegrityAlgorithm.{IntegrityAlgorithm}
use Rattle.message.specs.declared.IntegrityAlgorithm.TheVariants.{Sha1, Sha256}
use Rattle.std.specs.Prelude.{ℕ, ◌+◌, ◌*◌, ◌/◌, ◌%◌, ◌<◌, ◌≡◌, Bool, cond, List, [], ◌∷◌, eqb, get_or, Option, None, Some, is_some}
use Rattle.rows.specs.Rows.{put_at}
use Rattle.address.specs.declared.Address.{Address}
use Rattle.address.specs.declared.Host.{Host}
use Rattle.address.specs.declared.Host.TheVariants.{V4, V6}
use Rattle.message.specs.declared.TransactionId.{TransactionId}
use Rattle.waits.specs.declared.RequestRto.{RequestRto}
use Rattle.request.specs.declared.SendTimes.{SendTimes}
use Rattle.request.specs.declared.StunRequestState.{StunRequestState}

-- The words of one request, and of the table: 32 rows.
abbrev pub width : ℕ
width = 18

abbrev pub size : ℕ
size = 32 * width

-- ---- words to a request: f says the word at each place of its row
-- t's words from place b on
abbrev pub words_from : List ℕ → ℕ → ℕ → ℕ
words_from t b k = get_or t (b + k) 0

abbrev pub integrity_by : ℕ → Option IntegrityAlgorithm
integrity_by code = cond (eqb code 0) None (cond (eqb code 1) (Some Sha1) (Some Sha256))

abbrev pub host_by : ℕ → ℕ → ℕ → ℕ → ℕ → Host
host_by kind hi lo flow scope = cond (eqb kind 4) (V4 (lo % 4294967296)) (V6 hi lo (flow % 4294967296) (scope % 4294967296))

abbrev pub times_by : ℕ → ℕ → ℕ → Option SendTimes
times_by sent first last = cond (eqb sent 1) (sent_times first last) None

abbrev pub id_by : (ℕ → ℕ) → TransactionId
id_by f = record { hi = f 0 % 4294967296; lo = f 1 }

abbrev pub address_by : (ℕ → ℕ) → Address
address_by f = record { host = host_by (f 5) (f 6) (f 7) (f 8) (f 9); port = f 10 % 65536 }

abbrev pub rto_by : (ℕ → ℕ) → RequestRto
rto_by f = record { initial = f 11; max = f 12; retransmits = f 13 % 4294967296; last_retransmit = f 14 }

unfoldable pub decode_by : (ℕ → ℕ) → StunRequestState
decode_by f = record {
  transaction_id = id_by f;
  request_integrity = integrity_by (f 2 / 8);
  row = f 3;
  len = f 4;
  to = address_by f;
  rto = rto_by f;
  recv_cancelled = eqb (f 2 % 2) 1;
  send_cancelled = eqb (f 2 / 2 % 2) 1;
  timeout_i = f 15 % 4294967296;
  send_times = times_by (f 2 / 4 % 2) (f 16) (f 17);
}

unfoldable pub decode : List ℕ → StunRequestState
decode x = decode_by (λ k. get_or x k 0)

-- ---- a request to words
abbrev pub integrity_code : Option IntegrityAlgorithm → ℕ
integrity_code None = 0
integrity_code (Some Sha1) = 1
integrity_code (Some Sha256) = 2

abbrev pub kind_of : Host → ℕ
kind_of (V4 a) = 4
kind_of (V6 hi lo flow scope) = 6

abbrev pub hi_of : Host → ℕ
hi_of (V4 a) = 0
hi_of (V6 hi lo flow scope) = hi

abbrev pub lo_of : Host → ℕ
lo_of (V4 a) = a
lo_of (V6 hi lo flow scope) = lo

abbrev pub flow_of : Host → ℕ
flow_of (V4 a) = 0
flow_of (V6 hi lo flow scope) = flow

abbrev pub scope_of : Host → ℕ
scope_of (V4 a) = 0
scope_of (V6 hi lo flow scope) = scope

-- The narrow numbers of a host fit their types.
abbrev pub LoFits : Host → Type 0
LoFits (V4 a) = a < 4294967296
LoFits (V6 hi lo flow scope) = Unit

abbrev pub FlowFits : Host → Type 0
FlowFits (V4 a) = Unit
FlowFits (V6 hi lo flow scope) = flow < 4294967296

abbrev pub ScopeFits : Host → Type 0
ScopeFits (V4 a) = Unit
ScopeFits (V6 hi lo flow scope) = scope < 4294967296

abbrev pub first_of : Option SendTimes → ℕ
first_of None = 0
first_of (Some s) = s.first

abbrev pub last_of : Option SendTimes → ℕ
last_of None = 0
last_of (Some s) = s.last

abbrev pub bit_of : Bool → ℕ
bit_of b = cond b 1 0

abbrev pub flags_of : Bool → Bool → Bool → ℕ → ℕ
flags_of recv send sent code = bit_of recv + bit_of send * 2 + bit_of sent * 4 + code * 8

unfoldable pub encode : StunRequestState → List ℕ
encode r =
    r.transaction_id.hi
    ∷ r.transaction_id.lo
    ∷ flags_of r.recv_cancelled r.send_cancelled (is_some r.send_times) (integrity_code r.request_integrity)
    ∷ r.row
    ∷ r.len
    ∷ kind_of r.to.host
    ∷ hi_of r.to.host
    ∷ lo_of r.to.host
    ∷ flow_of r.to.host
    ∷ scope_of r.to.host
    ∷ r.to.port
    ∷ r.rto.initial
    ∷ r.rto.max
    ∷ r.rto.retransmits
    ∷ r.rto.last_retransmit
    ∷ r.timeout_i
    ∷ first_of r.send_times
    ∷ last_of r.send_times
    ∷ []

-- The narrow numbers of a request fit their types.
pub record Narrow (r : StunRequestState) : Type 0 where
  pub id : r.transaction_id.hi < 4294967296
  pub lo : LoFits r.to.host
  pub flow : FlowFits r.to.host
  pub scope : ScopeFits r.to.host
  pub port : r.to.port < 65536
  pub sends : r.rto.retransmits < 4294967296
  pub count : r.timeout_i < 4294967296

-- What `put` has to show: every word afterwards, and that the row reads as the request.
pub record Put (t t' : List ℕ) (i : ℕ) (r : StunRequestState) : Type 0 where
  pub words : t' ≡ put_at t (i * width) (encode r)
  pub back : decode (encode r) ≡ r
