-- The two scans up the identifiers: document 01, "The agent".
use Rattle.std.specs.Prelude.{ℕ, ◌+◌, min, List, [], ◌∷◌, ◌++◌, Option, None, Some}
use Rattle.waits.specs.Waits.{milliseconds}
use Rattle.waits.specs.declared.Transport.{Transport}
use Rattle.request.specs.Request.{transmit_of, poll_of}
use Rattle.request.specs.declared.StunRequestState.{StunRequestState}
use Rattle.request.specs.declared.StunRequestTransmit.{StunRequestTransmit}
use Rattle.request.specs.declared.StunRequestTransmit.TheVariants.{Rests, Passes, Goes}
use Rattle.request.specs.declared.StunRequestPollRet.{StunRequestPollRet}
use Rattle.request.specs.declared.StunRequestPollRet.TheVariants.{WaitUntil, Cancelled, TimedOut}
use Rattle.requests.specs.declared.Polled.{Polled}
use Rattle.requests.specs.declared.Polled.TheVariants.{TimedOut as TimesOut, Cancelled as Cancels, WaitUntil as Waits}

-- What a scan finds, and the places after it.
pub record Walk (A : Type 0) : Type 0 where
  pub out : Option StunRequestState
  pub after : List A

-- "`poll_transmit` goes up the identifiers, passes silent steps on its way, and stops at the first request that goes out; later ones
-- aren't touched." The scan is over places that hold a request each: `get` reads one, `new` is a place anew. So one definition serves
-- a list of requests and the rows of a table.
module _ {A : Type 0} where
  -- the scan w, with places in front of it that were passed already
  abbrev pub behind : List A → Walk A → Walk A
  behind l w = record { out = w.out; after = l ++ w.after }

  -- one place: what its request does, and w is the scan over those behind it
  abbrev pub meet : (StunRequestState → A) → StunRequestTransmit → A → List A → Walk A → Walk A
  meet new (Goes p) x xs w = record { out = Some p; after = new p ∷ xs }
  meet new (Passes p) x xs w = behind (new p ∷ []) w
  meet new Rests x xs w = behind (x ∷ []) w

  abbrev pub walk_by : (A → StunRequestState) → (StunRequestState → A) → Transport → ℕ → List A → Walk A
  walk_by get new t now [] = record { out = None; after = [] }
  walk_by get new t now (x ∷ xs) = meet new (transmit_of t now (get x)) x xs (walk_by get new t now xs)

abbrev pub walk : Transport → ℕ → List StunRequestState → Walk StunRequestState
walk t now l = walk_by (λ r. r) (λ r. r) t now l

-- An hour: "never past now + 3,600 s".
abbrev pub hour : ℕ
hour = milliseconds 3600000

-- "`poll` answers with the first request in identifier order that timed out or was cancelled; else wait until the earliest due moment or
-- end." The scan from place i on, where the earliest moment before it is `least`.
abbrev pub reached : ℕ → ℕ → StunRequestState → StunRequestPollRet → (ℕ → Polled) → Polled
reached i least r (WaitUntil clock) next = next (min least clock)
reached i least r Cancelled next = Cancels i r.transaction_id
reached i least r TimedOut next = TimesOut i r.transaction_id

abbrev pub poll_from : Transport → ℕ → ℕ → ℕ → List StunRequestState → Polled
poll_from t now i least [] = Waits least
poll_from t now i least (r ∷ rs) = reached i least r (poll_of t now r) (λ least'. poll_from t now (i + 1) least' rs)

abbrev pub poll_all : Transport → ℕ → List StunRequestState → Polled
poll_all t now l = poll_from t now 0 (now + hour) l
