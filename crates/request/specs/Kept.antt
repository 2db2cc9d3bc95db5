-- What each call keeps of a request: which one it is, where its bytes lie, and where they go; settings and marks; count and times.
use Rattle.std.specs.Prelude.{◌≡◌}
use Rattle.request.specs.declared.StunRequestState.{StunRequestState}

-- The same request.
pub record SameRequest (r q : StunRequestState) : Type 0 where
  pub id : q.transaction_id ≡ r.transaction_id
  pub integrity : q.request_integrity ≡ r.request_integrity
  pub row : q.row ≡ r.row
  pub len : q.len ≡ r.len
  pub to : q.to ≡ r.to

-- What `poll_transmit` keeps besides: the settings and both marks.
pub record SameSettings (r q : StunRequestState) : Type 0 where
  pub rto : q.rto ≡ r.rto
  pub recv : q.recv_cancelled ≡ r.recv_cancelled
  pub send : q.send_cancelled ≡ r.send_cancelled

-- What the three changes by name keep: "keeps count and times".
pub record SameTimes (r q : StunRequestState) : Type 0 where
  pub count : q.timeout_i ≡ r.timeout_i
  pub times : q.send_times ≡ r.send_times
