-- A request's words: reading gives back what was written, and a row is written as one.
use Rattle.std.specs.Prelude.{Option, None, Some, is_some}
use Rattle.message.specs.declared.IntegrityAlgorithm.{IntegrityAlgorithm}
use Rattle.message.specs.declared.IntegrityAlgorithm.TheVariants.{Sha1, Sha256}
use Prim.Native.Nat.{ℕ, ◌+◌, ◌*◌, ◌^◌, ◌/◌, ◌%◌, ◌≤◌, ◌<◌}
use mathlib.Core.Path.{◌≡◌, refl, ap, ap₂, ◌∙◌}
use mathlib.Core.Bool.{Bool, true, false}
use mathlib.Core.List.{List}
use native.Mathlib.Nat.{mod-eq_of_lt}
use native.Mathlib.Omega.{arith}
use lib.Dec.{eqb}
use lib.ListN.{length, get_or}
use Rattle.rows.specs.Rows.{row, put_at}
use Rattle.rows.proofs.Rows.{row_word, mid_put}
use borrow.Rule.Slice.PartMut.{put_mid}
use Rattle.address.specs.declared.Host.{Host}
use Rattle.address.specs.declared.Host.TheVariants.{V4, V6}
use Rattle.records.specs.Coding.{width, integrity_code, integrity_by, kind_of, hi_of, lo_of, flow_of, scope_of, LoFits, FlowFits, ScopeFits, host_by, first_of, last_of, times_by, bit_of, flags_of, Narrow, decode_by, decode, encode}
use Rattle.request.specs.declared.SendTimes.{SendTimes}
use Rattle.request.specs.declared.StunRequestState.{StunRequestState}

-- ---- reading what was written
host_back : (h : Host) → LoFits h → FlowFits h → ScopeFits h → host_by (kind_of h) (hi_of h) (lo_of h) (flow_of h) (scope_of h) ≡ h
host_back (V4 a) p q r = ap V4 (mod-eq_of_lt p)
host_back (V6 hi lo flow scope) p q r = ap₂ (V6 hi lo) (mod-eq_of_lt q) (mod-eq_of_lt r)

integrity_back : (i : Option IntegrityAlgorithm) → integrity_by (integrity_code i) ≡ i
integrity_back None = refl
integrity_back (Some Sha1) = refl
integrity_back (Some Sha256) = refl

times_back : (ts : Option SendTimes) → times_by (bit_of (is_some ts)) (first_of ts) (last_of ts) ≡ ts
times_back None = refl
times_back (Some s) = refl

bit_most : (b : Bool) → bit_of b ≤ 1
bit_most true = omega arith
bit_most false = omega arith

bit_back : (b : Bool) → eqb (bit_of b) 1 ≡ b
bit_back true = refl
bit_back false = refl

-- the parts of the word of flags
module _ (recv send sent : Bool) (code : ℕ) where
  abbrev word : ℕ
  word = flags_of recv send sent code

  recv_part : word % 2 ≡ bit_of recv
  recv_part = omega (arith, bit_most recv, bit_most send, bit_most sent)

  send_part : word / 2 % 2 ≡ bit_of send
  send_part = omega (arith, bit_most recv, bit_most send, bit_most sent)

  sent_part : word / 4 % 2 ≡ bit_of sent
  sent_part = omega (arith, bit_most recv, bit_most send, bit_most sent)

  code_part : word / 8 ≡ code
  code_part = omega (arith, bit_most recv, bit_most send, bit_most sent)

pub decode_encode : (r : StunRequestState) → Narrow r → decode (encode r) ≡ r
unfolding decode decode_by encode
decode_encode r n =
    let recv = r.recv_cancelled in
    let send = r.send_cancelled in
    let sent = is_some r.send_times in
    let code = integrity_code r.request_integrity in
    rw (
      recv_part recv send sent code,
      send_part recv send sent code,
      sent_part recv send sent code,
      code_part recv send sent code,
      bit_back recv,
      bit_back send,
      times_back r.send_times,
      integrity_back r.request_integrity,
      host_back r.to.host n.lo n.flow n.scope,
      mod-eq_of_lt n.id,
      mod-eq_of_lt n.port,
      mod-eq_of_lt n.sends,
      mod-eq_of_lt n.count,
    )

pub length_encode : (r : StunRequestState) → length (encode r) ≡ width
unfolding encode
length_encode r = refl

-- The low part of an identifier that was read fits 64 bits where the words do.
pub low_fits : (t : List ℕ) → ((j : ℕ) → get_or t j 0 < 2 ^ 64) → (i : ℕ) → (decode (row width t i)).transaction_id.lo < 2 ^ 64
unfolding decode decode_by
low_fits t fits i = rw (row_word width t i 1 0 (omega arith)) (fits (i * width + 1))

-- ---- a row of k words written
pub row_written : (t : List ℕ) (b k : ℕ) (ws words : List ℕ) (r : StunRequestState) → k ≡ width → ws ≡ words → words ≡ encode r
    → put_mid b k t ws ≡ put_at t b (encode r)
row_written t b k ws words r e f g = mid_put t b k ws (rw (e, f, g, length_encode r)) ∙ rw (f, g)
