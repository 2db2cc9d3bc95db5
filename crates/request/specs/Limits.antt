-- The limits of one record: document 01, "Well formed", as far as it speaks of one request. The number of rows is a parameter, of which
-- contracts say 32; the mark is the highest clock that an unrefused call carried.
use Rattle.std.specs.Prelude.{ℕ, ◌≤◌, ◌<◌, Bool, true, ◌&&◌, leb, ltb, Option, None, Some}
use Rattle.waits.specs.Waits as waits
use Rattle.waits.specs.declared.RequestRto.{RequestRto}
use Rattle.request.specs.declared.SendTimes.{SendTimes}
use Rattle.request.specs.declared.StunRequestState.{StunRequestState}

-- What a new request has to have: a message of 20 to 1,024 bytes, a row, and settings within limits.
pub record NewLimits (rows row len : ℕ) (rto : RequestRto) : Type 0 where
  pub least : 20 ≤ len
  pub most : len ≤ 1024
  pub is_row : row < rows
  pub settings : waits.Limits rto

-- "First and last send both present or both absent, not above the mark, first not above last."
abbrev pub TimesLimits : ℕ → Option SendTimes → Type 0
TimesLimits mark None = Unit {0}
TimesLimits mark (Some s) = (s.last ≤ mark) × (s.first ≤ s.last)

-- The limits of a record, a field for each clause.
pub record RequestLimits (rows mark : ℕ) (r : StunRequestState) : Type 0 where
  pub least : 20 ≤ r.len
  pub most : r.len ≤ 1024
  pub row : r.row < rows
  pub count : r.timeout_i ≤ 32
  pub settings : waits.Limits r.rto
  pub times : TimesLimits mark r.send_times

-- The limits of the times as a test.
abbrev pub times_within : ℕ → Option SendTimes → Bool
times_within mark None = true
times_within mark (Some s) = leb s.last mark && leb s.first s.last

-- The limits of a record as a test. Refusal 1, STATE, is given where it fails.
unfoldable pub within_limits : ℕ → ℕ → StunRequestState → Bool
within_limits rows mark r =
    leb 20 r.len
    && (leb r.len 1024
    && (ltb r.row rows && (leb r.timeout_i 32 && (waits.within_limits r.rto && times_within mark r.send_times))))
