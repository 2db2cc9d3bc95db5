-- What a request keeps over each change, and the fields of a request as submitted, which is a new one after its first `poll_transmit`.
use Rattle.std.specs.Prelude.{ℕ, ◌≡◌, false, Option}
use Rattle.std.proofs.Common.{arith, refl}
use Rattle.message.specs.declared.IntegrityAlgorithm.{IntegrityAlgorithm}
use Rattle.address.specs.declared.Address.{Address}
use Rattle.message.specs.declared.TransactionId.{TransactionId}
use Rattle.waits.specs.declared.RequestRto.{RequestRto}
use Rattle.waits.specs.declared.Transport.{Transport}
use Rattle.request.specs.Times.{sent_times, is_due}
use Rattle.request.specs.Request.{new_request, submitted, stepped, silenced, cancelled, configured, transmit_of}
use Rattle.request.specs.Answers.{record_after}
use Rattle.request.specs.Kept.{SameRequest, SameSettings, SameTimes}
use Rattle.request.specs.declared.StunRequestState.{StunRequestState}
use Rattle.request.specs.declared.StunRequestTransmit.TheVariants.{Goes}

pub record Submission (now : ℕ) (id : TransactionId) (integrity : Option IntegrityAlgorithm) (row len : ℕ) (to : Address) (rto : RequestRto) (r : StunRequestState) : Type 0 where
  pub id_is : r.transaction_id ≡ id
  pub integrity_is : r.request_integrity ≡ integrity
  pub row_is : r.row ≡ row
  pub len_is : r.len ≡ len
  pub to_is : r.to ≡ to
  pub rto_is : r.rto ≡ rto
  pub not_cancelled : r.recv_cancelled ≡ false
  pub not_silenced : r.send_cancelled ≡ false
  pub count_is : r.timeout_i ≡ 0
  pub times_are : r.send_times ≡ sent_times now now

pub submission : (now : ℕ) (id : TransactionId) (integrity : Option IntegrityAlgorithm) (row len : ℕ) (to : Address) (rto : RequestRto)
    → Submission now id integrity row len to rto (submitted now id integrity row len to rto)
unfolding submitted
submission now id integrity row len to rto = grind arith

pub submitted_goes : (t : Transport) (now : ℕ) (id : TransactionId) (integrity : Option IntegrityAlgorithm) (row len : ℕ) (to : Address) (rto : RequestRto)
    → transmit_of t now (new_request id integrity row len to rto) ≡ Goes (submitted now id integrity row len to rto)
unfolding transmit_of is_due stepped new_request submitted
submitted_goes t now id integrity row len to rto = refl

module _ (r : StunRequestState) where
  pub same_itself : SameRequest r r
  same_itself = grind arith

  pub same_silenced : SameRequest r (silenced r)
  unfolding silenced
  same_silenced = grind arith

  pub same_cancelled : SameRequest r (cancelled r)
  unfolding cancelled
  same_cancelled = grind arith

  pub same_configured : (rto : RequestRto) → SameRequest r (configured rto r)
  unfolding configured
  same_configured rto = grind arith

  pub times_silenced : SameTimes r (silenced r)
  unfolding silenced
  times_silenced = grind arith

  pub times_cancelled : SameTimes r (cancelled r)
  unfolding cancelled
  times_cancelled = grind arith

  pub times_configured : (rto : RequestRto) → SameTimes r (configured rto r)
  unfolding configured
  times_configured rto = grind arith

  pub rto_silenced : (silenced r).rto ≡ r.rto
  unfolding silenced
  rto_silenced = refl

  pub rto_cancelled : (cancelled r).rto ≡ r.rto
  unfolding cancelled
  rto_cancelled = refl

  pub rto_configured : (rto : RequestRto) → (configured rto r).rto ≡ rto
  unfolding configured
  rto_configured rto = refl

  module _ (now : ℕ) where
    pub same_stepped : SameRequest r (stepped now r)
    unfolding stepped
    same_stepped = grind arith

    pub settings_stepped : SameSettings r (stepped now r)
    unfolding stepped
    settings_stepped = grind arith

    pub same_transmit : (t : Transport) → SameRequest r (record_after r (transmit_of t now r))
    unfolding transmit_of stepped
    same_transmit t = grind arith

    pub settings_transmit : (t : Transport) → SameSettings r (record_after r (transmit_of t now r))
    unfolding transmit_of stepped
    settings_transmit t = grind arith
